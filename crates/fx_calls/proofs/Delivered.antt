-- What a process gave in calls is there or under way, and in front of its join of the next epoch.
use Rattle.std.proofs.Common.{◌≡◌, ◌≢◌, ◌⊎◌, ℕ, ◌==◌, zero, suc, Bool, true, false, ◌&&◌, ◌||◌, List, [], ◌∷◌, ◌++◌, Option, Some, inl, inr, arith, refl, ap, sym, subst, ◌∙◌, append_assoc}
use Rattle.std.specs.Prelude.{if◌then◌else◌, map, ◌+◌}
use Rattle.std.specs.List.{flat_map, enumerate_from}
use Rattle.fx_ballot.specs.Names.{has}
use Rattle.std.proofs.lemmas.Bool.Decides.{nat_tests}
use Rattle.std.proofs.lemmas.Bool.{cases_eq}
use Rattle.fx_ballot.specs.World.{put}
use Rattle.fx_comm.specs.Seats.{Seat, has_place}
use Rattle.fx_script.specs.declared.job.Job.{Job}
use Rattle.fx_link.specs.declared.slot.Slot.{Slot}
use Rattle.fx_walk.specs.declared.wanted.Wanted.{Wanted}
use Rattle.fx_machine.specs.Nodes.{Node, Act, receives, is_told, members, to_places}
use Rattle.fx_machine.specs.Setup.{Setup}
use Rattle.fx_machine.specs.Texts as text
use Rattle.fx_machine.specs.Texts.{Text}
use Rattle.fx_fleet.specs.World.{World, up, sent_to, does, receives_front, learns}
use Rattle.fx_legal.specs.Ledger.{Ledger, comm_in}
use Rattle.fx_calm.proofs.Lists.{Each, chosen, equal}
use Rattle.fx_losses.proofs.Moves.{node_same, node_other, up_before}
use Rattle.fx_losses.proofs.Texts.{append_none, put_same, put_other}
use Rattle.fx_calls.specs.Bodies.{IsOfParts}
use Rattle.fx_calls.proofs.Plans.{Grows, EntryAt, has_begun, same_comm}

-- ---- parts among texts

abbrev pub is_part : (e k : ℕ) → Text → Bool
is_part e k (text.Part d j values) = (d == e) && (j == k)
is_part e k other = false

abbrev pub has_part : (e k : ℕ) → List Text → Bool
has_part e k [] = false
has_part e k (t ∷ ts) = is_part e k t || has_part e k ts

or_later : (a b c : Bool) → (b ≡ true → c ≡ true) → (a || b) ≡ true → (a || c) ≡ true
or_later true b c f e = refl
or_later false b c f e = f e

pub part_stays : (e k : ℕ) (xs ys : List Text) → has_part e k xs ≡ true → has_part e k (xs ++ ys) ≡ true
part_stays e k [] ys is = absurd (let bad : false ≡ true = is in cc)
part_stays e k (x ∷ xs) ys is = or_later (is_part e k x) (has_part e k xs) (has_part e k (xs ++ ys)) (λ i. part_stays e k xs ys i) is

pub part_comes : (e k : ℕ) (xs ys : List Text) → has_part e k ys ≡ true → has_part e k (xs ++ ys) ≡ true
part_comes e k [] ys is = is
part_comes e k (x ∷ xs) ys is = of (is_part e k x) (part_comes e k xs ys is)
  where
    of : (a : Bool) → has_part e k (xs ++ ys) ≡ true → (a || has_part e k (xs ++ ys)) ≡ true
    of true is = refl
    of false is = is

-- ---- in order

-- in front of a join of epoch d + 1 stand the parts of all calls of epoch d that its process entered
abbrev pub Owes : Ledger → (from to : ℕ) → List Text → Text → Type 0
Owes l a b before (text.Join (suc d) kind) = (k : ℕ) (v : Wanted) → l.entered d k a ≡ Some v → IsOfParts v → has_place (comm_in l d) b ≡ true → has_part d k before ≡ true
Owes l a b before other = Unit {0}

abbrev pub Ordered : Ledger → (from to : ℕ) → (before ts : List Text) → Type 0
Ordered l a b before [] = Unit {0}
Ordered l a b before (t ∷ ts) = Owes l a b before t × Ordered l a b (before ++ t ∷ []) ts

pub ordered_more : (l : Ledger) (a b : ℕ) (before xs ys : List Text) → Ordered l a b before xs → Ordered l a b (before ++ xs) ys → Ordered l a b before (xs ++ ys)
ordered_more l a b before [] ys one two = subst (λ (o : List Text). Ordered l a b o ys) (append_none before) two
ordered_more l a b before (x ∷ xs) ys one two = (one.0, ordered_more l a b (before ++ x ∷ []) xs ys one.1 (subst (λ (o : List Text). Ordered l a b o ys) (sym (append_assoc before (x ∷ []) xs)) two))

pub ordered_front : (l : Ledger) (a b : ℕ) (before xs ys : List Text) → Ordered l a b before (xs ++ ys) → Ordered l a b before xs
ordered_front l a b before [] ys all = tt
ordered_front l a b before (x ∷ xs) ys all = (all.0, ordered_front l a b (before ++ x ∷ []) xs ys all.1)

-- where what the process entered in the epochs of these joins is the same
abbrev pub AsBefore : Ledger → Ledger → ℕ → Text → Type 0
AsBefore l m a (text.Join (suc d) kind) = (k : ℕ) (v : Wanted) → m.entered d k a ≡ Some v → l.entered d k a ≡ Some v
AsBefore l m a other = Unit {0}

module _ (job : Job) (l m : Ledger) (g : Grows l m) (entries : (e k q : ℕ) (v : Wanted) → l.entered e k q ≡ Some v → EntryAt job l e k v) where
  -- an epoch of which something was entered has its communicator
  pub comm_stays : (e k q : ℕ) (v : Wanted) → l.entered e k q ≡ Some v → comm_in m e ≡ comm_in l e
  comm_stays e k q v is = of k (entries e k q v is)
    where
      of : (k : ℕ) → EntryAt job l e k v → comm_in m e ≡ comm_in l e
      of zero x = absurd x
      of (suc k) x = same_comm l m g e (has_begun job l e k x.before x.at)

  owes_grows : (a b : ℕ) (before : List Text) (t : Text) → AsBefore l m a t → Owes l a b before t → Owes m a b before t
  owes_grows a b before (text.Join zero kind) same h = tt
  owes_grows a b before (text.Join (suc d) kind) same h =
      λ k v is parts place. let old = same k v is in h k v old parts (sym (ap (λ (seats : List Seat). has_place seats b) (comm_stays d k a v old)) ∙ place)
  owes_grows a b before (text.Jest e r slots) same h = tt
  owes_grows a b before (text.Part e k values) same h = tt
  owes_grows a b before (text.Vote e k x) same h = tt
  owes_grows a b before (text.Est e k r slots) same h = tt
  owes_grows a b before (text.Share e k packed) same h = tt
  owes_grows a b before (text.Tell e k known) same h = tt
  owes_grows a b before (text.Help e k packed) same h = tt
  owes_grows a b before (text.Give e k packed) same h = tt

  pub ordered_grows : (a b : ℕ) (before ts : List Text) → Each (AsBefore l m a) ts → Ordered l a b before ts → Ordered m a b before ts
  ordered_grows a b before [] same h = tt
  ordered_grows a b before (t ∷ ts) same h = (owes_grows a b before t same.0 h.0, ordered_grows a b (before ++ t ∷ []) ts same.1 h.1)

-- all that a process did since, it did in other epochs or said before
pub same_all : (l m : Ledger) (a : ℕ) → ((e k : ℕ) → m.entered e k a ≡ l.entered e k a) → (ts : List Text) → Each (AsBefore l m a) ts
same_all l m a same [] = tt
same_all l m a same (t ∷ ts) = (of t, same_all l m a same ts)
  where
    of : (t : Text) → AsBefore l m a t
    of (text.Join zero kind) = tt
    of (text.Join (suc d) kind) = λ k v is. sym (same d k) ∙ is
    of (text.Jest e r slots) = tt
    of (text.Part e k values) = tt
    of (text.Vote e k x) = tt
    of (text.Est e k r slots) = tt
    of (text.Share e k packed) = tt
    of (text.Tell e k known) = tt
    of (text.Help e k packed) = tt
    of (text.Give e k packed) = tt

-- ---- what was given

-- what b has of a, and what is under way to it from there
abbrev pub stream : World → (from to : ℕ) → List Text
stream w a b = (w.node b).texts a ++ w.link a b

pub record Delivered (s : Setup) (w : World) (l : Ledger) : Type 0 where
  pub there : (a b e k : ℕ) (v : Wanted) → w.killed a ≡ false → up s w b ≡ true → a ≢ b → l.entered e k a ≡ Some v → IsOfParts v → has_place (comm_in l e) b ≡ true → has_part e k (stream w a b) ≡ true
  pub ordered : (a b : ℕ) → up s w b ≡ true → a ≢ b → Ordered l a b [] (stream w a b)

-- what a step of p owes
pub record Gives (s : Setup) (p : ℕ) (act : Act) (w : World) (l m : Ledger) : Type 0 where
  -- of others it reads nothing away
  pub other : (c : ℕ) → c ≢ p → act.node.texts c ≡ (w.node p).texts c
  -- what it enters anew it gives
  pub fresh : (b e k : ℕ) (v : Wanted) → b ≢ p → m.entered e k p ≡ Some v → IsOfParts v → has_place (comm_in m e) b ≡ true → (l.entered e k p ≡ Some v) ⊎ (has_part e k (sent_to b act.sends) ≡ true)
  -- it hasn't joined behind an epoch in which it enters anew
  pub early : (b : ℕ) → up s w b ≡ true → b ≢ p → Each (AsBefore l m p) (stream w p b)
  -- and joins behind all that it gave
  pub late : (b : ℕ) → up s w b ≡ true → b ≢ p → Ordered m p b (stream w p b) (sent_to b act.sends)

module _ (job : Job) (s : Setup) (p : ℕ) (act : Act) (w : World) (l m : Ledger) (here : up s w p ≡ true) (alive : w.killed p ≡ false) (g : Grows l m) (far : (e k q : ℕ) → q ≢ p → m.entered e k q ≡ l.entered e k q)
    (entries : (e k q : ℕ) (v : Wanted) → l.entered e k q ≡ Some v → EntryAt job l e k v) (gives : Gives s p act w l m) (h : Delivered s w l) where
  abbrev v_now : World
  v_now = does s p act w

  pub before_up : (b : ℕ) → up s (does s p act w) b ≡ true → up s w b ≡ true
  before_up b u = up_before s p act w b here u

  not_own : (a : ℕ) → a ≢ p → (a == p) ≡ false
  not_own a ne = grind (arith, nat_tests)

  own_test : (a : ℕ) → (a == a) ≡ true
  own_test a = grind (arith, nat_tests)

  -- what comes from another is as it was
  pub stream_other : (a b : ℕ) → a ≢ p → stream (does s p act w) a b ≡ stream w a b
  stream_other a b ne = λ i. texts i ++ (if not_own a ne i && up s w b then w.link a b ++ sent_to b act.sends else w.link a b)
    where
      texts : ((does s p act w).node b).texts a ≡ (w.node b).texts a
      texts = elim (cases_eq b p) [
        | inl same ↦ subst (λ o. ((does s p act w).node o).texts a ≡ (w.node o).texts a) (sym same) (ap (λ (n : Node). n.texts a) (node_same s p act w) ∙ gives.other a ne)
        | inr apart ↦ ap (λ (n : Node). n.texts a) (node_other s p act w b apart)
      ]

  pub stream_own : (b : ℕ) → up s w b ≡ true → b ≢ p → stream (does s p act w) p b ≡ stream w p b ++ sent_to b act.sends
  stream_own b u ne =
      (λ i. (node_other s p act w b ne i).texts p ++ (if own_test p i && u i then w.link p b ++ sent_to b act.sends else w.link p b))
      ∙ sym (append_assoc ((w.node b).texts p) (w.link p b) (sent_to b act.sends))

  pub delivered_step : Delivered s (does s p act w) m
  delivered_step = record {
    there = λ a b e k v living u ne is parts place. elim (cases_eq a p) [
      | inl same ↦ subst (λ o. has_part e k (stream (does s p act w) o b) ≡ true) (sym same)
          (own_there b e k v (before_up b u) (λ i. ne (same ∙ sym i)) (subst (λ o. m.entered e k o ≡ Some v) same is) parts place)
      | inr apart ↦
          let old = sym (far e k a apart) ∙ is in
          ap (has_part e k) (stream_other a b apart) ∙ h.there a b e k v living (before_up b u) ne old parts (sym (ap (λ (seats : List Seat). has_place seats b) (comm_stays job l m g entries e k a v old)) ∙ place)
    ];
    ordered = λ a b u ne. elim (cases_eq a p) [
      | inl same ↦ subst (λ o. Ordered m o b [] (stream (does s p act w) o b)) (sym same) (own_ordered b (before_up b u) (λ i. ne (same ∙ sym i)))
      | inr apart ↦ subst (Ordered m a b []) (sym (stream_other a b apart)) (ordered_grows job l m g entries a b [] (stream w a b) (same_all l m a (λ e k. far e k a apart) (stream w a b)) (h.ordered a b (before_up b u) ne))
    ];
  }
    where
      own_there : (b e k : ℕ) (v : Wanted) → up s w b ≡ true → b ≢ p → m.entered e k p ≡ Some v → IsOfParts v → has_place (comm_in m e) b ≡ true → has_part e k (stream (does s p act w) p b) ≡ true
      own_there b e k v u ne is parts place = elim (gives.fresh b e k v ne is parts place) [
        | inl old ↦ ap (has_part e k) (stream_own b u ne)
            ∙ part_stays e k (stream w p b) (sent_to b act.sends) (h.there p b e k v alive u (λ i. ne (sym i)) old parts (sym (ap (λ (seats : List Seat). has_place seats b) (comm_stays job l m g entries e k p v old)) ∙ place))
        | inr new ↦ ap (has_part e k) (stream_own b u ne) ∙ part_comes e k (stream w p b) (sent_to b act.sends) new
      ]

      own_ordered : (b : ℕ) → up s w b ≡ true → b ≢ p → Ordered m p b [] (stream (does s p act w) p b)
      own_ordered b u ne = subst (Ordered m p b []) (sym (stream_own b u ne))
          (ordered_more m p b [] (stream w p b) (sent_to b act.sends) (ordered_grows job l m g entries p b [] (stream w p b) (gives.early b u ne) (h.ordered p b u (λ i. ne (sym i)))) (gives.late b u ne))

-- ---- steps that give nothing in a call, and don't join

-- a text that is no join
abbrev pub is_no_join : Text → Bool
is_no_join (text.Join e kind) = false
is_no_join other = true

pub no_join_ordered : (l : Ledger) (a b : ℕ) (before ts : List Text) → Each (λ t. is_no_join t ≡ true) ts → Ordered l a b before ts
no_join_ordered l a b before [] all = tt
no_join_ordered l a b before (t ∷ ts) all = (of t all.0, no_join_ordered l a b (before ++ t ∷ []) ts all.1)
  where
    of : (t : Text) → is_no_join t ≡ true → Owes l a b before t
    of (text.Join e kind) is = absurd (let bad : false ≡ true = is in cc)
    of (text.Jest e r slots) is = tt
    of (text.Part e k values) is = tt
    of (text.Vote e k x) is = tt
    of (text.Est e k r slots) is = tt
    of (text.Share e k packed) is = tt
    of (text.Tell e k known) is = tt
    of (text.Help e k packed) is = tt
    of (text.Give e k packed) is = tt

pub gives_none : (s : Setup) (p : ℕ) (act : Act) (w : World) (l m : Ledger) → m.entered ≡ l.entered → ((c : ℕ) → c ≢ p → act.node.texts c ≡ (w.node p).texts c) → ((b : ℕ) → Each (λ t. is_no_join t ≡ true) (sent_to b act.sends)) → Gives s p act w l m
gives_none s p act w l m same other sends = record {
  other = other;
  fresh = λ b e k v ne is parts place. inl (sym (ap (λ (f : ℕ → ℕ → ℕ → Option Wanted). f e k p) same) ∙ is);
  early = λ b u ne. same_all l m p (λ e k. ap (λ (f : ℕ → ℕ → ℕ → Option Wanted). f e k p) same) (stream w p b);
  late = λ b u ne. no_join_ordered m p b (stream w p b) (sent_to b act.sends) (sends b);
}

-- ---- deliveries, notices and losses

both_same : (x y : ℕ) → ((x == x) && (y == y)) ≡ true
both_same x y = grind (arith, nat_tests)

apart_of : (x y u v : ℕ) → x ≢ u → ((x == u) && (y == v)) ≡ false
apart_of x y u v ne = grind (arith, nat_tests)

apart_to : (x y u v : ℕ) → y ≢ v → ((x == u) && (y == v)) ≡ false
apart_to x y u v ne = grind (arith, nat_tests)

-- a text that is received stands where it stood
module _ (a b : ℕ) (t : Text) (rest : List Text) (w : World) (me : (w.node b).me ≡ b) (front : w.link a b ≡ t ∷ rest) where
  from_other : (x y m : ℕ) → m ≡ y → x ≢ y → (x == m) ≡ false
  from_other x y m e ne = grind (arith, nat_tests)

  texts_of : (c : ℕ) → c ≢ a → (receives a t (w.node b)).texts c ≡ (w.node b).texts c
  texts_of c ne = chosen (λ (f : ℕ → List Text). f c ≡ (w.node b).texts c) (a == (w.node b).me) (w.node b).texts (put (w.node b).texts a ((w.node b).texts a ++ t ∷ [])) (λ e. refl) (λ e. put_other (w.node b).texts a c ((w.node b).texts a ++ t ∷ []) ne)

  pub stream_receives : (c q : ℕ) → c ≢ q → stream (receives_front a b (t ∷ rest) w) c q ≡ stream w c q
  stream_receives c q ne = elim (cases_eq q b) [
    | inl to ↦ elim (cases_eq c a) [
      | inl of ↦
          subst (λ o. stream (receives_front a b (t ∷ rest) w) c o ≡ stream w c o) (sym to) (subst (λ o. stream (receives_front a b (t ∷ rest) w) o b ≡ stream w o b) (sym of) (here (λ i. ne (of ∙ i ∙ sym to))))
      | inr far ↦
          subst (λ o. stream (receives_front a b (t ∷ rest) w) c o ≡ stream w c o) (sym to)
          (λ i. (ap (λ (n : Node). n.texts c) (put_same w.node b (receives a t (w.node b))) ∙ texts_of c far) i ++ (if apart_of c b a b far i then rest else w.link c b))
    ]
    | inr far ↦ λ i. (put_other w.node b q (receives a t (w.node b)) far i).texts c ++ (if apart_to c q a b far i then rest else w.link c q)
  ]
    where
      here : a ≢ b → stream (receives_front a b (t ∷ rest) w) a b ≡ stream w a b
      here apart =
          (λ i. (ap (λ (n : Node). n.texts a) (put_same w.node b (receives a t (w.node b))) ∙ ap (λ (x : Bool). (if x then (w.node b).texts else put (w.node b).texts a ((w.node b).texts a ++ t ∷ [])) a) (from_other a b (w.node b).me me apart)
          ∙ put_same (w.node b).texts a ((w.node b).texts a ++ t ∷ [])) i ++ (if both_same a b i then rest else w.link a b))
          ∙ append_assoc ((w.node b).texts a) (t ∷ []) rest ∙ ap (λ (o : List Text). (w.node b).texts a ++ o) (sym front)

pub delivered_receives : (s : Setup) (l : Ledger) (a b : ℕ) (t : Text) (rest : List Text) (w : World) → up s w b ≡ true → (w.node b).me ≡ b → w.link a b ≡ t ∷ rest → ((q : ℕ) → up s (receives_front a b (t ∷ rest) w) q ≡ true → up s w q ≡ true)
    → Delivered s w l → Delivered s (receives_front a b (t ∷ rest) w) l
delivered_receives s l a b t rest w on me front back h = record {
  there = λ c q e k v living u ne is parts place. subst (λ (o : List Text). has_part e k o ≡ true) (sym (stream_receives a b t rest w me front c q ne)) (h.there c q e k v living (back q u) ne is parts place);
  ordered = λ c q u ne. subst (Ordered l c q []) (sym (stream_receives a b t rest w me front c q ne)) (h.ordered c q (back q u) ne);
}

-- behind a notice of a loss all stands where it stood but what was under way from there
module _ (a b : ℕ) (w : World) where
  told_texts : (q c : ℕ) → ((learns a b w).node q).texts c ≡ (w.node q).texts c
  told_texts q c = elim (cases_eq q b) [
    | inl to ↦ subst (λ o. ((learns a b w).node o).texts c ≡ (w.node o).texts c) (sym to) (ap (λ (n : Node). n.texts c) (put_same w.node b (is_told a (w.node b))))
    | inr far ↦ ap (λ (n : Node). n.texts c) (put_other w.node b q (is_told a (w.node b)) far)
  ]

  pub stream_learns : (c q : ℕ) → c ≢ a → stream (learns a b w) c q ≡ stream w c q
  stream_learns c q far = λ i. told_texts q c i ++ (if apart_of c q a b far i then [] else w.link c q)

pub delivered_learns : (s : Setup) (l : Ledger) (a b : ℕ) (w : World) → w.killed a ≡ true → ((q : ℕ) → up s (learns a b w) q ≡ true → up s w q ≡ true) → Delivered s w l → Delivered s (learns a b w) l
delivered_learns s l a b w dead back h = record {
  there = λ c q e k v living u ne is parts place. subst (λ (o : List Text). has_part e k o ≡ true) (sym (stream_learns a b w c q (λ i. let bad : true ≡ false = sym dead ∙ ap w.killed (sym i) ∙ living in cc))) (h.there c q e k v living (back q u) ne is parts place);
  ordered = λ c q u ne. elim (cases_eq c a) [
    | inl of ↦ elim (cases_eq q b) [
      | inl to ↦ subst (λ o. Ordered l c o [] (stream (learns a b w) c o)) (sym to) (subst (λ o. Ordered l o b [] (stream (learns a b w) o b)) (sym of) (emptied (subst (λ o. up s w o ≡ true) to (back q u)) (λ i. ne (of ∙ i ∙ sym to))))
      | inr far ↦ subst (Ordered l c q []) (sym (λ i. (put_other w.node b q (is_told a (w.node b)) far i).texts c ++ (if apart_to c q a b far i then [] else w.link c q))) (h.ordered c q (back q u) ne)
    ]
    | inr far ↦ subst (Ordered l c q []) (sym (stream_learns a b w c q far)) (h.ordered c q (back q u) ne)
  ];
}
  where
    emptied : up s w b ≡ true → a ≢ b → Ordered l a b [] (stream (learns a b w) a b)
    emptied u ne = subst (Ordered l a b []) (sym ((λ i. told_texts a b w b a i ++ (if both_same a b i then [] else w.link a b)) ∙ append_none ((w.node b).texts a))) (ordered_front l a b [] ((w.node b).texts a) (w.link a b) (h.ordered a b u ne))

-- ---- what is sent

sent_append : (b : ℕ) (xs ys : List (ℕ × Text)) → sent_to b (xs ++ ys) ≡ sent_to b xs ++ sent_to b ys
sent_append b [] ys = refl
sent_append b (x ∷ xs) ys = of (x.0 == b) (sent_append b xs ys)
  where
    of : (t : Bool) → sent_to b (xs ++ ys) ≡ sent_to b xs ++ sent_to b ys → (if t then x.1 ∷ sent_to b (xs ++ ys) else sent_to b (xs ++ ys)) ≡ (if t then x.1 ∷ sent_to b xs else sent_to b xs) ++ sent_to b ys
    of true e = ap (λ (o : List Text). x.1 ∷ o) e
    of false e = e

sent_all_to : (q b : ℕ) (ts : List Text) → (q == b) ≡ true → sent_to b (map (λ t. (q, t)) ts) ≡ ts
sent_all_to q b [] e = refl
sent_all_to q b (t ∷ ts) e = ap (λ (x : Bool). if x then t ∷ sent_to b (map (λ t. (q, t)) ts) else sent_to b (map (λ t. (q, t)) ts)) e ∙ ap (λ (o : List Text). t ∷ o) (sent_all_to q b ts e)

-- each place but one's own gets the part that is meant for it
pub places_give : (e k : ℕ) (n : Node) (meant : ℕ → List Text) (b : ℕ) → ((x : ℕ) → has_part e k (meant x) ≡ true) → has (members n) b ≡ true → (b == n.me) ≡ false → has_part e k (sent_to b (to_places n meant)) ≡ true
places_give e k n meant b gives place other = of 0 (members n) place
  where
    not_me : (q : ℕ) → (q == b) ≡ true → (q == n.me) ≡ false
    not_me q e = ap (λ (o : ℕ). o == n.me) (equal q b e) ∙ other

    of : (i : ℕ) (qs : List ℕ) → has qs b ≡ true → has_part e k (sent_to b (flat_map (λ (place : ℕ × ℕ). if place.1 == n.me then [] else map (λ t. (place.1, t)) (meant place.0)) (enumerate_from i qs))) ≡ true
    of i [] place = absurd (let bad : false ≡ true = place in cc)
    of i (q ∷ qs) place = either (q == b) refl (λ later. of (i + 1) qs later) place
      where
        either : (t : Bool) → (q == b) ≡ t → (has qs b ≡ true → has_part e k (sent_to b (flat_map (λ (place : ℕ × ℕ). if place.1 == n.me then [] else map (λ t. (place.1, t)) (meant place.0)) (enumerate_from (i + 1) qs))) ≡ true) → (t || has qs b) ≡ true
            → has_part e k (sent_to b ((if q == n.me then [] else map (λ t. (q, t)) (meant i)) ++ flat_map (λ (place : ℕ × ℕ). if place.1 == n.me then [] else map (λ t. (place.1, t)) (meant place.0)) (enumerate_from (i + 1) qs))) ≡ true
        either true same rest there =
            ap (has_part e k) (sent_append b (if q == n.me then [] else map (λ t. (q, t)) (meant i)) (flat_map (λ (place : ℕ × ℕ). if place.1 == n.me then [] else map (λ t. (place.1, t)) (meant place.0)) (enumerate_from (i + 1) qs)))
            ∙ part_stays e k (sent_to b (if q == n.me then [] else map (λ t. (q, t)) (meant i))) (sent_to b (flat_map (λ (place : ℕ × ℕ). if place.1 == n.me then [] else map (λ t. (place.1, t)) (meant place.0)) (enumerate_from (i + 1) qs)))
            (ap (λ (x : Bool). has_part e k (sent_to b (if x then [] else map (λ t. (q, t)) (meant i)))) (not_me q same) ∙ ap (has_part e k) (sent_all_to q b (meant i) same) ∙ gives i)
        either false far rest there =
            ap (has_part e k) (sent_append b (if q == n.me then [] else map (λ t. (q, t)) (meant i)) (flat_map (λ (place : ℕ × ℕ). if place.1 == n.me then [] else map (λ t. (place.1, t)) (meant place.0)) (enumerate_from (i + 1) qs)))
            ∙ part_comes e k (sent_to b (if q == n.me then [] else map (λ t. (q, t)) (meant i))) (sent_to b (flat_map (λ (place : ℕ × ℕ). if place.1 == n.me then [] else map (λ t. (place.1, t)) (meant place.0)) (enumerate_from (i + 1) qs))) (rest there)

-- a join to some of them, where all that it owes stands before
pub joins_ordered : (l : Ledger) (a b d : ℕ) (kind : Slot) (before : List Text) (qs : List ℕ) → Owes l a b before (text.Join (suc d) kind) → Ordered l a b before (sent_to b (map (λ q. (q, text.Join (suc d) kind)) qs))
joins_ordered l a b d kind before [] owes = tt
joins_ordered l a b d kind before (q ∷ qs) owes = chosen (Ordered l a b before) (q == b) (text.Join (suc d) kind ∷ sent_to b (map (λ q. (q, text.Join (suc d) kind)) qs)) (sent_to b (map (λ q. (q, text.Join (suc d) kind)) qs))
    (λ e. (owes, joins_ordered l a b d kind (before ++ text.Join (suc d) kind ∷ []) qs (λ k v is parts place. part_stays d k before (text.Join (suc d) kind ∷ []) (owes k v is parts place)))) (λ e. joins_ordered l a b d kind before qs owes)
