-- Deliveries keep what the world shows.
use Rattle.std.proofs.Common.{◌≡◌, ℕ, ◌<◌, ◌≢◌, ◌==◌, suc, Bool, true, false, ◌&&◌, List, [], ◌∷◌, ◌++◌, length, Option, Some, None, ◌⊎◌, inl, inr, arith, refl, subst, sym, ◌∙◌, ap}
use Rattle.std.specs.Prelude.{if◌then◌else◌, not, nat_lt}
use Rattle.std.proofs.lemmas.Bool.Decides.{nat_tests}
use Rattle.std.proofs.lemmas.Bool.{cases_eq}
use Rattle.fx_ballot.specs.declared.heard.Heard.{Heard}
use Rattle.fx_ballot.specs.Laws.{vote_of}
use Rattle.fx_ballot.specs.Names.{seat_at, has}
use Rattle.fx_ballot.specs.Turn.{Phase, Decided, Message}
use Rattle.fx_ballot.specs.World.{Member, put, put_link, among, start, hears, tells, kills}
use Rattle.fx_ballot.specs.World as ballot
use Rattle.fx_ballot.proofs.Face.{Blank, sound_hear, caught_hear}
use Rattle.fx_ballot.proofs.Runs.{Kept}
use Rattle.fx_comm.specs.Seats.{has_place}
use Rattle.fx_link.specs.declared.slot.Slot.{Slot}
use Rattle.fx_machine.specs.Nodes.{Node, Stage, has_ended, receives}
use Rattle.fx_machine.specs.Setup.{Setup}
use Rattle.fx_machine.specs.Texts.{Text}
use Rattle.fx_fleet.specs.World.{World, up, receives_front}
use Rattle.fx_losses.specs.Eras.{Era, first_era, era_of, is_last, era}
use Rattle.fx_losses.proofs.Shows.{phase_of, is_begin, is_later, is_placed, Fits, At, Owes, Sane, EndedAs, role_after, Shows, up_parts}
use Rattle.fx_losses.proofs.Texts.{put_same, put_other, text_in, with_front, of_epoch, heard_of, knowing, shown, of_append, heard_append}

-- ---- a node that hears or is told stands where it stood

pub record Stands (n m : Node) : Type 0 where
  pub me : m.me ≡ n.me
  pub epoch : m.epoch ≡ n.epoch
  pub era : era_of m ≡ era_of n
  pub role : m.role ≡ n.role
  pub stage : m.stage ≡ n.stage

fits_stands : (d : ℕ) (n m : Node) (ph : Phase) → Stands n m → Fits d n ph → Fits d m ph
fits_stands d n m ph t f = record {
  early = λ l. f.early (subst (λ k. k < d) t.epoch l);
  now = λ e o. f.now (sym (ended_same n m t) ∙ e) (sym t.epoch ∙ o) ∙ sym (ap phase_of t.stage);
  later = λ l. f.later (subst (λ k. d < k) t.epoch l);
  ended = λ e o. f.ended (sym (ended_same n m t) ∙ e) (sym t.epoch ∙ o);
}
  where
    ended_same : (n m : Node) → Stands n m → has_ended m ≡ has_ended n
    ended_same n m t = ap (λ (x : Stage). has_ended (record n { stage = x })) t.stage

pub still_ended : (n m : Node) → Stands n m → has_ended m ≡ has_ended n
still_ended n m t = ap (λ (x : Stage). has_ended (record n { stage = x })) t.stage

sane_stands : (s : Setup) (p : ℕ) (n m : Node) → Stands n m → Sane s p n → Sane s p m
sane_stands s p n m t h = record {
  me = t.me ∙ h.me;
  fresh = λ e. t.epoch ∙ h.fresh (sym (ap is_begin t.stage) ∙ e);
  later = λ e. subst (λ k. 0 < k) (sym t.epoch) (h.later (sym (ap is_later t.stage) ∙ e));
  placed = λ e. ap (λ (x : Era). has_place x.comm p) t.era ∙ h.placed (sym (ap is_placed t.stage) ∙ e);
  inside = λ ph e. h.inside ph (sym t.stage ∙ e);
  mine = λ l. ap (λ (x : Era). has x.who p) t.era ∙ h.mine l;
}

-- the world where the node of b alone changed, and stands where it stood
pub record Alike (b : ℕ) (w v : World) : Type 0 where
  pub mine : Stands (w.node b) (v.node b)
  pub other : (q : ℕ) → q ≢ b → v.node q ≡ w.node q
  pub killed : (q : ℕ) → v.killed q ≡ w.killed q

-- what holds of the node of each process before holds of it after
pub alike_nodes : (b : ℕ) (w v : World) → Alike b w v → (P : ℕ → Node → Type 0) → ((n m : Node) → Stands n m → P b n → P b m) → (q : ℕ) → P q (w.node q) → P q (v.node q)
alike_nodes b w v a P keeps q is = elim (cases_eq q b) [
  | inl same ↦ subst (λ o. P o (v.node o)) (sym same) (keeps (w.node b) (v.node b) a.mine (subst (λ o. P o (w.node o)) same is))
  | inr ne ↦ subst (P q) (sym (a.other q ne)) is
]

pub alike_up : (s : Setup) (b : ℕ) (w v : World) (q : ℕ) → Alike b w v → up s v q ≡ up s w q
alike_up s b w v q a =
    ap (λ k. nat_lt q s.procs && (not k && not (has_ended (v.node q)))) (a.killed q)
    ∙ alike_nodes b w v a (λ o n. (nat_lt o s.procs && (not (w.killed o) && not (has_ended n))) ≡ (nat_lt o s.procs && (not (w.killed o) && not (has_ended (w.node o)))))
    (λ n m t e. ap (λ x. nat_lt b s.procs && (not (w.killed b) && not x)) (still_ended n m t) ∙ e) q refl

pub pair_or : (a b c q : ℕ) → ((c ≡ a) × (q ≡ b)) ⊎ ((c ≡ a) × (q ≡ b) → ⊥)
pair_or a b c q = elim (cases_eq c a) [
  | inl e ↦ elim (cases_eq q b) [ inl o ↦ inl (e, o) | inr o ↦ inr (λ z. o z.1) ]
  | inr e ↦ inr (λ z. e z.0)
]

pair_same : (a b c q : ℕ) → ((c == a) && (q == b)) ≡ true → (c ≡ a) × (q ≡ b)
pair_same a b c q e = (grind (arith, nat_tests), grind (arith, nat_tests))

pub not_pair : {X : Type 0} (a b c q : ℕ) (x y : X) → ((c ≡ a) × (q ≡ b) → ⊥) → (if (c == a) && (q == b) then x else y) ≡ y
not_pair {X} a b c q x y ne = both ((c == a) && (q == b)) refl
  where
    both : (t : Bool) → ((c == a) && (q == b)) ≡ t → (if t then x else y) ≡ y
    both true e = absurd (ne (pair_same a b c q e))
    both false e = refl

pub is_pair : {X : Type 0} (a b : ℕ) (x y : X) → (if (a == a) && (b == b) then x else y) ≡ x
is_pair a b x y = grind (arith, nat_tests)

-- ---- one ballot, where b hears of a or is told of it

pub record Changed (a b : ℕ) (z y : ballot.World) : Type 0 where
  pub phase : (q : ℕ) → (y.member q).phase ≡ (z.member q).phase
  pub living : (q : ℕ) → (y.member q).living ≡ (z.member q).living
  pub gone : (q : ℕ) → (y.member q).gone ≡ (z.member q).gone
  pub heard : (q c : ℕ) → ((c ≡ a) × (q ≡ b) → ⊥) → (y.member q).heard c ≡ (z.member q).heard c
  pub link : (c q : ℕ) → ((c ≡ a) × (q ≡ b) → ⊥) → y.link c q ≡ z.link c q

pub at_changed : (s : Setup) (d a b : ℕ) (w v : World) (z y : ballot.World) → Alike b w v → Changed a b z y → ((c : ℕ) → c ≢ a → shown (suc d) (v.node b) c ≡ shown (suc d) (w.node b) c)
    → ((c q : ℕ) → ((c ≡ a) × (q ≡ b) → ⊥) → v.link c q ≡ w.link c q) → (up s w b ≡ true → (y.member b).heard a ≡ shown (suc d) (v.node b) a)
    → (a ≢ b → up s w b ≡ true → y.link a b ≡ of_epoch (suc d) (v.link a b)) → At s d w z → At s d v y
at_changed s d a b w v z y al ch far links this_heard this_link h = record {
  fits = λ q k. subst (λ p. Fits d (v.node q) p) (sym (ch.phase q)) (alike_nodes b w v al (λ o n. Fits d n (z.member o).phase) (λ n m t f. fits_stands d n m (z.member b).phase t f) q (h.fits q (sym (al.killed q) ∙ k)));
  heard = λ q c u. elim (pair_or a b c q) [
    | inl p ↦ subst (λ o. (y.member o).heard c ≡ shown (suc d) (v.node o) c) (sym p.1) (subst (λ o. (y.member b).heard o ≡ shown (suc d) (v.node b) o) (sym p.0) (this_heard (subst (λ o. up s w o ≡ true) p.1 (back q u))))
    | inr ne ↦ ch.heard q c ne ∙ h.heard q c (back q u) ∙ sym (elim (cases_eq q b) [
      | inl same ↦ subst (λ o. shown (suc d) (v.node o) c ≡ shown (suc d) (w.node o) c) (sym same) (far c (λ e. ne (e, same)))
      | inr o ↦ ap (λ (n : Node). shown (suc d) n c) (al.other q o)
    ])
  ];
  link = λ c q apart u. elim (pair_or a b c q) [
    | inl p ↦ subst (λ o. y.link c o ≡ of_epoch (suc d) (v.link c o)) (sym p.1) (subst (λ o. y.link o b ≡ of_epoch (suc d) (v.link o b)) (sym p.0)
        (this_link (λ e. apart (p.0 ∙ e ∙ sym p.1)) (subst (λ o. up s w o ≡ true) p.1 (back q u))))
    | inr ne ↦ ch.link c q ne ∙ h.link c q apart (back q u) ∙ ap (of_epoch (suc d)) (sym (links c q ne))
  ];
  living = λ q. ch.living q ∙ h.living q ∙ ap not (sym (al.killed q));
  gone = λ q. ch.gone q ∙ h.gone q;
}
  where
    back : (q : ℕ) → up s v q ≡ true → up s w q ≡ true
    back q u = sym (alike_up s b w v q al) ∙ u

changed_none : (a b : ℕ) (z : ballot.World) → Changed a b z z
changed_none a b z = record { phase = λ q. refl; living = λ q. refl; gone = λ q. refl; heard = λ q c ne. refl; link = λ c q ne. refl }

-- what is kept of one ballot, under any names
pub owes_same : (d : ℕ) (x : Option Era) (f : Option (List Slot)) (z y : ballot.World) → ((q : ℕ) → (y.member q).phase ≡ (z.member q).phase) → ((q : ℕ) → vote_of y q ≡ vote_of z q)
    → ((n : ℕ) (name : ℕ → ℕ) → Kept n name z → Kept n name y) → (Blank z → Blank y) → Owes d x f z → Owes d x f y
owes_same d x f z y ph vo b bl h = record {
  kept = λ a e. b (length a.who) (seat_at a.who) (h.kept a e);
  blank = λ e. bl (h.blank e);
  fated = λ p g e. h.fated p g (sym (ph p) ∙ e);
  votes = λ p v e. h.votes p v (sym (vo p) ∙ e);
  by = λ g e. let o : (p : ℕ) × ((z.member p).phase ≡ Decided g) = h.by g e in (o.0, ph o.0 ∙ o.1);
}

-- the world where b alone changed, and stands where it stood, shows what it showed
pub alike_shows : (s : Setup) (b : ℕ) (w v : World) (z y : ℕ → ballot.World) (fate : ℕ → Option (List Slot)) → Alike b w v → ((d : ℕ) → At s d v (y d))
    → ((d : ℕ) → Owes d (era (first_era s) fate d) (fate d) (y d)) → ((q c : ℕ) → (v.node q).lost c ≡ true → w.killed c ≡ true) → Shows s w z fate → Shows s v y fate
alike_shows s b w v z y fate al at owes told h = record {
  at = at;
  owes = owes;
  here = λ q k. nodes (λ o n. era (first_era s) fate n.epoch ≡ Some (era_of n)) (λ n m t e. ap (era (first_era s) fate) t.epoch ∙ e ∙ ap (λ (x : Era). Some x) (sym t.era)) q (h.here q (lives q k));
  role = λ q d x k e i. nodes (λ o n. n.epoch ≡ suc d → n.role ≡ role_after d (has_place x.comm o)) (λ n m t r a. t.role ∙ r (sym t.epoch ∙ a)) q (λ a. h.role q d x (lives q k) a i) e;
  sane = λ q k. nodes (λ o n. Sane s o n) (λ n m t f. sane_stands s b n m t f) q (h.sane q (lives q k));
  over = λ q k. nodes (λ o n. has_ended n ≡ true → EndedAs fate n) (λ n m t f e. ended n m t (f (sym (still_ended n m t) ∙ e))) q (h.over q (lives q k));
  told = λ q c e. al.killed c ∙ told q c e;
}
  where
    nodes : (P : ℕ → Node → Type 0) → ((n m : Node) → Stands n m → P b n → P b m) → (q : ℕ) → P q (w.node q) → P q (v.node q)
    nodes P f q is = alike_nodes b w v al P f q is

    lives : (q : ℕ) → v.killed q ≡ false → w.killed q ≡ false
    lives q k = sym (al.killed q) ∙ k

    ended : (n m : Node) → Stands n m → EndedAs fate n → EndedAs fate m
    ended n m t x = record { slots = x.slots; is = ap fate t.epoch ∙ x.is; ends = ap (λ o. is_last o (era_of m) x.slots) t.epoch ∙ ap (λ (o : Era). is_last n.epoch o x.slots) t.era ∙ x.ends }

-- ---- a delivery

-- the ballot where b has heard what the text said in it
abbrev pub got : ℕ → ℕ → Option Message → List Message → ballot.World → ballot.World
got a b None rest z = z
got a b (Some x) rest z = hears a b (x ∷ rest) z

changed_hears : (a b : ℕ) (x : Message) (rest : List Message) (z : ballot.World) → Changed a b z (hears a b (x ∷ rest) z)
changed_hears a b x rest z = record {
  phase = λ q. grind (arith, nat_tests);
  living = λ q. grind (arith, nat_tests);
  gone = λ q. grind (arith, nat_tests);
  heard = λ q c ne. other q c ne;
  link = λ c q ne. not_pair a b c q rest (z.link c q) ne;
}
  where
    mine : (c : ℕ) → c ≢ a → ((hears a b (x ∷ rest) z).member b).heard c ≡ (z.member b).heard c
    mine c ne = grind (arith, nat_tests)

    elsewhere : (q c : ℕ) → q ≢ b → ((hears a b (x ∷ rest) z).member q).heard c ≡ (z.member q).heard c
    elsewhere q c ne = grind (arith, nat_tests)

    other : (q c : ℕ) → ((c ≡ a) × (q ≡ b) → ⊥) → ((hears a b (x ∷ rest) z).member q).heard c ≡ (z.member q).heard c
    other q c ne = elim (cases_eq q b) [
      | inl s ↦ subst (λ o. ((hears a b (x ∷ rest) z).member o).heard c ≡ (z.member o).heard c) (sym s) (mine c (λ e. ne (e, s)))
      | inr o ↦ elsewhere q c o
    ]

got_changed : (a b : ℕ) (o : Option Message) (rest : List Message) (z : ballot.World) → Changed a b z (got a b o rest z)
got_changed a b None rest z = changed_none a b z
got_changed a b (Some x) rest z = changed_hears a b x rest z

got_heard : (a b : ℕ) (o : Option Message) (rest : List Message) (z : ballot.World) → ((got a b o rest z).member b).heard a ≡ heard_of (with_front o []) ((z.member b).heard a)
got_heard a b None rest z = refl
got_heard a b (Some x) rest z = grind (arith, nat_tests)

got_link : (a b : ℕ) (o : Option Message) (rest : List Message) (z : ballot.World) → z.link a b ≡ with_front o rest → (got a b o rest z).link a b ≡ rest
got_link a b None rest z e = e
got_link a b (Some x) rest z e = is_pair a b rest (z.link a b)

not_blank : (a b : ℕ) (x : Message) (rest : List Message) (z : ballot.World) → z.link a b ≡ x ∷ rest → Blank z → ⊥
not_blank a b x rest z e h = let bad : [] ≡ x ∷ rest = sym (h.link a b) ∙ e in cc

changed_owns : (a b : ℕ) (z y : ballot.World) → a ≢ b → Changed a b z y → (q : ℕ) → (y.member q).heard q ≡ (z.member q).heard q
changed_owns a b z y ne ch q = ch.heard q q (λ p. ne (sym p.0 ∙ p.1))

pub got_own : (a b : ℕ) (o : Option Message) (rest : List Message) (z : ballot.World) → a ≢ b → (q : ℕ) → ((got a b o rest z).member q).heard q ≡ (z.member q).heard q
got_own a b o rest z ne q = changed_owns a b z (got a b o rest z) ne (got_changed a b o rest z) q

got_owes : (d a b : ℕ) (x : Option Era) (f : Option (List Slot)) (o : Option Message) (rest : List Message) (z : ballot.World) → a ≢ b → z.link a b ≡ with_front o rest → Owes d x f z → Owes d x f (got a b o rest z)
got_owes d a b x f None rest z ne line h = h
got_owes d a b x f (Some m) rest z ne line h =
    owes_same d x f z (hears a b (m ∷ rest) z) (changed_hears a b m rest z).phase (λ q. ap (λ (y : Heard). y.vote) (changed_owns a b z (hears a b (m ∷ rest) z) ne (changed_hears a b m rest z) q))
    (λ n name k. record {
      sound = sound_hear n name a b m rest z line k.sound;
      caught = caught_hear (among n name) n name a b m rest z line k.sound.messages k.caught;
    })
    (λ bl. absurd (not_blank a b m rest z line bl)) h

module _ (s : Setup) (a b : ℕ) (t : Text) (rest : List Text) (w : World) (z : ℕ → ballot.World) (fate : ℕ → Option (List Slot)) (u : up s w b ≡ true) (front : w.link a b ≡ t ∷ rest) (h : Shows s w z fate) where
  abbrev v : World
  v = receives_front a b (t ∷ rest) w

  own_name : (w.node b).me ≡ b
  own_name = (h.sane b (up_parts s w b u).1).me

  node_now : v.node b ≡ receives a t (w.node b)
  node_now = put_same w.node b (receives a t (w.node b))

  pub alike_delivers : Alike b w (receives_front a b (t ∷ rest) w)
  alike_delivers = record {
    mine = subst (λ n. Stands (w.node b) n) (sym node_now) (record { me = refl; epoch = refl; era = refl; role = refl; stage = refl });
    other = λ q o. put_other w.node b q (receives a t (w.node b)) o;
    killed = λ q. refl;
  }

  lost_same : (q c : ℕ) → (v.node q).lost c ≡ (w.node q).lost c
  lost_same q c = elim (cases_eq q b) [
    | inl same ↦ subst (λ o. (v.node o).lost c ≡ (w.node o).lost c) (sym same) (ap (λ (n : Node). n.lost c) node_now)
    | inr o ↦ ap (λ (n : Node). n.lost c) (put_other w.node b q (receives a t (w.node b)) o)
  ]

  told_now : (q c : ℕ) → (v.node q).lost c ≡ true → w.killed c ≡ true
  told_now q c e = h.told q c (sym (lost_same q c) ∙ e)

  links_now : (c q : ℕ) → ((c ≡ a) × (q ≡ b) → ⊥) → v.link c q ≡ w.link c q
  links_now c q ne = not_pair a b c q rest (w.link c q) ne

  -- from another
  module _ (ne : a ≢ b) where
    differ : (x y m : ℕ) → m ≡ y → x ≢ y → (x == m) ≡ false
    differ x y m e f = grind (arith, nat_tests)

    texts_now : (v.node b).texts ≡ put (w.node b).texts a ((w.node b).texts a ++ t ∷ [])
    texts_now = ap (λ (n : Node). n.texts) node_now
        ∙ ap (λ (o : Bool). if o then (w.node b).texts else put (w.node b).texts a ((w.node b).texts a ++ t ∷ [])) (differ a b (w.node b).me own_name ne)

    shown_now : (e : ℕ) → shown e (v.node b) a ≡ heard_of (with_front (text_in e t) []) (shown e (w.node b) a)
    shown_now e =
        ap (λ (l : List Text). heard_of (of_epoch e l) (knowing ((v.node b).lost a))) (ap (λ (f : ℕ → List Text). f a) texts_now ∙ put_same (w.node b).texts a ((w.node b).texts a ++ t ∷ []))
        ∙ ap (λ (l : List Message). heard_of l (knowing ((v.node b).lost a))) (of_append e ((w.node b).texts a) (t ∷ []))
        ∙ heard_append (of_epoch e ((w.node b).texts a)) (of_epoch e (t ∷ [])) (knowing ((v.node b).lost a))
        ∙ ap (λ (o : Bool). heard_of (with_front (text_in e t) []) (heard_of (of_epoch e ((w.node b).texts a)) (knowing o))) (lost_same b a)

    shown_far : (e c : ℕ) → c ≢ a → shown e (v.node b) c ≡ shown e (w.node b) c
    shown_far e c o =
        ap (λ (l : List Text). heard_of (of_epoch e l) (knowing ((v.node b).lost c))) (ap (λ (f : ℕ → List Text). f c) texts_now ∙ put_other (w.node b).texts a c ((w.node b).texts a ++ t ∷ []) o)
        ∙ ap (λ (o : Bool). heard_of (of_epoch e ((w.node b).texts c)) (knowing o)) (lost_same b c)

    line : (d : ℕ) → (z d).link a b ≡ with_front (text_in (suc d) t) (of_epoch (suc d) rest)
    line d = (h.at d).link a b ne u ∙ ap (of_epoch (suc d)) front

    abbrev pub behind_delivery : ℕ → ballot.World
    behind_delivery d = got a b (text_in (suc d) t) (of_epoch (suc d) rest) (z d)

    pub deliver_shows : Shows s (receives_front a b (t ∷ rest) w) behind_delivery fate
    deliver_shows =
        alike_shows s b w v z behind_delivery fate alike_delivers
        (λ d. at_changed s d a b w v (z d) (behind_delivery d) alike_delivers (got_changed a b (text_in (suc d) t) (of_epoch (suc d) rest) (z d)) (λ c o. shown_far (suc d) c o) links_now
        (λ x. got_heard a b (text_in (suc d) t) (of_epoch (suc d) rest) (z d) ∙ ap (λ (y : Heard). heard_of (with_front (text_in (suc d) t) []) y) ((h.at d).heard b a u) ∙ sym (shown_now (suc d)))
        (λ x y. got_link a b (text_in (suc d) t) (of_epoch (suc d) rest) (z d) (line d) ∙ ap (of_epoch (suc d)) (sym (is_pair a b rest (w.link a b)))) (h.at d))
        (λ d. got_owes d a b (era (first_era s) fate d) (fate d) (text_in (suc d) t) (of_epoch (suc d) rest) (z d) ne (line d) (h.owes d))
        told_now h

  -- from oneself nothing is taken
  module _ (same : a ≡ b) where
    alike_texts : (v.node b).texts ≡ (w.node b).texts
    alike_texts = ap (λ (n : Node). n.texts) node_now
        ∙ ap (λ (o : Bool). if o then (w.node b).texts else put (w.node b).texts a ((w.node b).texts a ++ t ∷ [])) (equal a b (w.node b).me own_name same)
      where
        equal : (x y m : ℕ) → m ≡ y → x ≡ y → (x == m) ≡ true
        equal x y m e f = grind (arith, nat_tests)

    shown_still : (e c : ℕ) → shown e (v.node b) c ≡ shown e (w.node b) c
    shown_still e c =
        ap (λ (l : List Text). heard_of (of_epoch e l) (knowing ((v.node b).lost c))) (ap (λ (f : ℕ → List Text). f c) alike_texts)
        ∙ ap (λ (o : Bool). heard_of (of_epoch e ((w.node b).texts c)) (knowing o)) (lost_same b c)

    pub self_shows : Shows s (receives_front a b (t ∷ rest) w) z fate
    self_shows =
        alike_shows s b w v z z fate alike_delivers
        (λ d. at_changed s d a b w v (z d) (z d) alike_delivers (changed_none a b (z d)) (λ c o. shown_still (suc d) c) links_now
        (λ x. (h.at d).heard b a u ∙ sym (shown_still (suc d) a)) (λ x y. absurd (x same)) (h.at d))
        (λ d. h.owes d) told_now h
