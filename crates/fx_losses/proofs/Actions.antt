-- What joins are in the ballot at the end of an epoch.
use Rattle.std.proofs.Common.{◌≡◌, ℕ, ◌<◌, ◌≢◌, ◌==◌, suc, Bool, true, false, ◌||◌, List, [], ◌∷◌, ◌++◌, map, length, Option, Some, None, inl, inr, arith, refl, subst, sym, ◌∙◌, ap}
use Rattle.std.specs.Prelude.{if◌then◌else◌, not}
use Rattle.std.specs.List.{filter}
use Rattle.std.proofs.lemmas.Bool.{cases_eq}
use Rattle.fx_ballot.specs.declared.heard.Heard.{Heard}
use Rattle.fx_ballot.specs.Laws.{vote_of}
use Rattle.fx_ballot.specs.Names.{seat_at, seat_of, has, Distinct}
use Rattle.fx_ballot.specs.Turn.{Phase, Outside, Voting, Decided, Message, Vote, earliest, hear}
use Rattle.fx_ballot.specs.World.{Member, put, stays, is_outside, among, Apart, own_after, sent_by, told_all, enters}
use Rattle.fx_ballot.specs.World as ballot
use Rattle.fx_ballot.proofs.Face.{Blank, sound_enter, sound_blank, caught_blank, caught_enter}
use Rattle.fx_ballot.proofs.Names.{seat_found, names_members}
use Rattle.fx_ballot.proofs.Runs.{Kept}
use Rattle.fx_item.specs.declared.item.Item.{Item}
use Rattle.fx_link.specs.declared.slot.Slot.{Slot}
use Rattle.fx_machine.specs.Ballots.{joined}
use Rattle.fx_machine.specs.Nodes.{Node, Act, Joining, has_ended, to_others, writing, saying}
use Rattle.fx_machine.specs.Reading.{is_join}
use Rattle.fx_machine.specs.Setup.{Setup}
use Rattle.fx_machine.specs.Texts as text
use Rattle.fx_machine.specs.Texts.{Text}
use Rattle.fx_fleet.specs.World.{World, up, sent_to}
use Rattle.fx_losses.specs.Eras.{Era, first_era, era_of, era}
use Rattle.fx_losses.proofs.Eras.{era_distinct}
use Rattle.fx_losses.proofs.Moves.{Steps, Deems, quiet_move, some_era}
use Rattle.fx_losses.proofs.Shows.{phase_of, is_begin, is_later, is_placed, is_decided, Fits, Owes, Sane, Shows, up_parts, now_at}
use Rattle.fx_losses.proofs.Texts.{append_none, put_same, put_other, of_epoch, heard_of, shown, this_vote, other_vote, Acted, shown_rest, shown_own}
use Rattle.fx_losses.proofs.Tests.{some_slot}
use Rattle.fx_calm.proofs.Lists.{equal}

-- a process of the list, as the ballot world tests it
abbrev pub member : List ℕ → ℕ → Bool
member who p = among (length who) (seat_at who) p

-- ---- what a node shows to ballots

pub fits_here : (d : ℕ) (n : Node) (ph : Phase) → n.epoch ≡ d → has_ended n ≡ false → ph ≡ phase_of n.stage → Fits d n ph
fits_here d n ph e b p = record {
  early = λ l. absurd (omega (arith, e, l));
  now = λ t o. p;
  later = λ l. absurd (omega (arith, e, l));
  ended = λ t o. absurd (let bad : true ≡ false = sym t ∙ b in cc);
}

pub fits_other : (d : ℕ) (n m : Node) (ph : Phase) → m.epoch ≡ n.epoch → d ≢ n.epoch → Fits d n ph → Fits d m ph
fits_other d n m ph e ne f = record {
  early = λ l. f.early (subst (λ k. k < d) e l);
  now = λ t o. absurd (ne (sym o ∙ e));
  later = λ l. f.later (subst (λ k. d < k) e l);
  ended = λ t o. absurd (ne (sym o ∙ e));
}

pub fits_next : (d : ℕ) (n m : Node) (ph : Phase) → m.epoch ≡ suc n.epoch → phase_of m.stage ≡ Outside → has_ended m ≡ false → d ≢ n.epoch → Fits d n ph → Fits d m ph
fits_next d n m ph e b live ne f = record {
  early = λ l. f.early (let k : suc n.epoch < d = subst (λ z. z < d) e l in omega (arith, k));
  now = λ t o. f.early (let k : suc n.epoch ≡ d = sym e ∙ o in omega (arith, k)) ∙ sym b;
  later = λ l. f.later (let k : d < suc n.epoch = subst (λ z. d < z) e l in omega (arith, k, ne));
  ended = λ t o. absurd (let bad : true ≡ false = sym t ∙ live in cc);
}

-- ---- what a step says

-- a step that only writes, or does nothing but stand elsewhere
pub acted_writes : (p : ℕ) (n m : Node) (items : List Item) → m.texts ≡ n.texts → m.lost ≡ n.lost → Acted p n (writing items m) [] (λ b. false)
acted_writes p n m items k t = record {
  own = ap (λ (f : ℕ → List Text). f p) k ∙ sym (append_none (n.texts p));
  other = λ c ne. ap (λ (f : ℕ → List Text). f c) k;
  lost = λ c. ap (λ (f : ℕ → Bool). f c) t;
  sends = λ e b ne. refl;
}

sent_once : (me b : ℕ) (t : Text) (all : List ℕ) → Distinct all → b ≢ me → sent_to b (to_others me all t) ≡ (if has all b then t ∷ [] else [])
sent_once me b t [] d ne = refl
sent_once me b t (q ∷ qs) d ne = of (sent_once me b t qs d.1 ne) (q == me) refl (q == b) refl
  where
    of : (rest : sent_to b (to_others me qs t) ≡ (if has qs b then t ∷ [] else [])) → (x : Bool) → (q == me) ≡ x → (y : Bool) → (q == b) ≡ y
        → sent_to b (map (λ o. (o, t)) (if not x then q ∷ filter (λ o. not (o == me)) qs else filter (λ o. not (o == me)) qs)) ≡ (if y || has qs b then t ∷ [] else [])
    of rest true e true f = absurd (ne (sym (equal q b f) ∙ equal q me e))
    of rest true e false f = rest
    of rest false e true f =
        ap (λ (y : Bool). if y then t ∷ sent_to b (to_others me qs t) else sent_to b (to_others me qs t)) f
        ∙ ap (λ (l : List Text). t ∷ l) (rest ∙ ap (λ (y : Bool). if y then t ∷ [] else []) (ap (has qs) (sym (equal q b f)) ∙ d.0))
    of rest false e false f = ap (λ (y : Bool). if y then t ∷ sent_to b (to_others me qs t) else sent_to b (to_others me qs t)) f ∙ rest

pub acted_says : (p : ℕ) (n m : Node) (t : Text) (all : List ℕ) (items : List Item) → m.me ≡ p → Distinct all → m.texts ≡ n.texts → m.lost ≡ n.lost
    → Acted p n (saying all t items m) (t ∷ []) (member all)
acted_says p n m t all items me d k u = record {
  own = ap (λ (o : ℕ). put m.texts o (m.texts o ++ t ∷ []) p) me ∙ put_same m.texts p (m.texts p ++ t ∷ []) ∙ ap (λ (f : ℕ → List Text). f p ++ t ∷ []) k;
  other = λ c ne. ap (λ (o : ℕ). put m.texts o (m.texts o ++ t ∷ []) c) me ∙ put_other m.texts p c (m.texts p ++ t ∷ []) ne ∙ ap (λ (f : ℕ → List Text). f c) k;
  lost = λ c. ap (λ (f : ℕ → Bool). f c) u;
  sends = λ e b ne. ap (of_epoch e) (ap (λ (o : ℕ). sent_to b (to_others o all t)) me ∙ sent_once p b t all d ne ∙ ap (λ (y : Bool). if y then t ∷ [] else []) (sym (names_members all b))) ∙ lift e (member all b);
}
  where
    lift : (e : ℕ) (y : Bool) → of_epoch e (if y then t ∷ [] else []) ≡ (if y then of_epoch e (t ∷ []) else [])
    lift e true = refl
    lift e false = refl

-- ---- what is owed to epochs

pub kept_blank : (n : ℕ) (name : ℕ → ℕ) (z : ballot.World) → Blank z → Kept n name z
kept_blank n name z h = record { sound = sound_blank n name z h; caught = caught_blank (among n name) z h }

-- an epoch may be born, and nothing else changes
pub owes_later : (d : ℕ) (x y : Option Era) (f : Option (List Slot)) (z : ballot.World) → ((a : Era) → x ≡ Some a → y ≡ Some a) → Owes d x f z → Owes d y f z
owes_later d None y f z g h = record {
  kept = λ a e. kept_blank (length a.who) (seat_at a.who) z (h.blank refl);
  blank = λ e. h.blank refl;
  fated = h.fated;
  votes = h.votes;
  by = h.by;
}
owes_later d (Some x) y f z g h = record {
  kept = λ a e. h.kept a (sym (g x refl) ∙ e);
  blank = λ e. absurd (let bad : Some x ≡ None = sym (g x refl) ∙ e in cc);
  fated = h.fated;
  votes = h.votes;
  by = h.by;
}

-- one that hadn't decided took a step
pub owes_step : (d : ℕ) (x : Era) (o : Option Era) (f : Option (List Slot)) (p : ℕ) (z y : ballot.World) → o ≡ Some x → ((q : ℕ) → q ≢ p → y.member q ≡ z.member q)
    → is_decided (z.member p).phase ≡ false → ((g : List Slot) → (y.member p).phase ≡ Decided g → f ≡ Some g) → ((v : Slot) → vote_of y p ≡ Some v → is_join (suc d) v ≡ true)
    → Kept (length x.who) (seat_at x.who) y → Owes d o f z → Owes d o f y
owes_step d x o f p z y at other un mine vote kept h = record {
  kept = λ a e. subst (λ (b : Era). Kept (length b.who) (seat_at b.who) y) (some_era x a (sym at ∙ e)) kept;
  blank = λ e. absurd (let bad : Some x ≡ None = sym at ∙ e in cc);
  fated = λ q g e. elim (cases_eq q p) [
    | inl same ↦ mine g (subst (λ k. (y.member k).phase ≡ Decided g) same e)
    | inr ne ↦ h.fated q g (sym (ap (λ (m : Member). m.phase) (other q ne)) ∙ e)
  ];
  votes = λ q v e. elim (cases_eq q p) [
    | inl same ↦ vote v (subst (λ k. vote_of y k ≡ Some v) same e)
    | inr ne ↦ h.votes q v (sym (ap (λ (m : Member). (m.heard q).vote) (other q ne)) ∙ e)
  ];
  by = λ g e.
      let b : (q : ℕ) × ((z.member q).phase ≡ Decided g) = h.by g e in
      let ne : b.0 ≢ p = λ same. let bad : true ≡ false = sym (ap is_decided b.1) ∙ ap (λ k. is_decided (z.member k).phase) same ∙ un in cc in
      (b.0, ap (λ (m : Member). m.phase) (other b.0 ne) ∙ b.1);
}

-- a step that stays in its epoch
pub deems_same : (s : Setup) (p : ℕ) (act : Act) (w : World) (z : ℕ → ballot.World) (fate : ℕ → Option (List Slot)) (y : ballot.World) → w.killed p ≡ false
    → Owes (w.node p).epoch (era (first_era s) fate (w.node p).epoch) (fate (w.node p).epoch) y → act.node.epoch ≡ (w.node p).epoch → era_of act.node ≡ era_of (w.node p)
    → act.node.role ≡ (w.node p).role → has_ended act.node ≡ false → Shows s w z fate → Deems s p act w z fate fate y
deems_same s p act w z fate y k o e x named goes h = record {
  over = λ i. absurd (let bad : false ≡ true = sym goes ∙ i in cc);
  grows = λ d y i. i;
  owes_here = o;
  owes = λ d ne. h.owes d;
  here = ap (era (first_era s) fate) e ∙ h.here p k ∙ ap (λ (y : Era). Some y) (sym x);
  role = λ d y i a. named ∙ h.role p d y k (sym e ∙ i) a;
}

-- an action outside the ballots of epochs, that says nothing in one
pub plain_steps : (s : Setup) (p : ℕ) (act : Act) (said : List Text) (to : ℕ → Bool) (w : World) (z : ℕ → ballot.World) (fate : ℕ → Option (List Slot)) → up s w p ≡ true → Shows s w z fate
    → Acted p (w.node p) act said to → ((e : ℕ) → of_epoch e said ≡ []) → act.node.epoch ≡ (w.node p).epoch → has_ended act.node ≡ false
    → phase_of (w.node p).stage ≡ phase_of act.node.stage → Sane s p act.node → Steps s p act said to w z (z (w.node p).epoch)
plain_steps s p act said to w z fate here h a none e alive ph sane =
    let k = up_parts s w p here in
    record {
      acted = a;
      here = quiet_move s p act w said to here a (w.node p).epoch (z (w.node p).epoch) (none (suc (w.node p).epoch))
          (fits_here (w.node p).epoch act.node ((z (w.node p).epoch).member p).phase e alive (now_at s (w.node p).epoch w (z (w.node p).epoch) (h.at (w.node p).epoch) p here refl ∙ ph))
          (h.at (w.node p).epoch);
      quiet = λ d ne. none (suc d);
      fits = λ d ne. fits_other d (w.node p) act.node ((z d).member p).phase e ne ((h.at d).fits p k.1);
      sane = sane;
    }

-- ---- a join

first_vote : (h : Heard) (v : Slot) → h.vote ≡ None → record h { vote = Some v } ≡ hear (Vote v) h
first_vote h v e = λ i. record h { vote = earliest (sym e i) v }

abbrev pub entering : ℕ → Slot → Member → Member
entering p vote m = record m { phase = Voting; heard = put m.heard p (record (m.heard p) { vote = Some vote }) }

-- the ballot once p has joined
abbrev pub behind_join : World → (ℕ → ballot.World) → ℕ → Slot → ballot.World
behind_join w z p vote = enters (member (w.node p).present) p vote (z (w.node p).epoch)

pub joining_sane : (s : Setup) (p : ℕ) (n m : Node) (phase : Phase) → m.stage ≡ Joining phase → m.me ≡ n.me → m.present ≡ n.present → is_outside phase ≡ false → is_decided phase ≡ false → Sane s p n → Sane s p m
joining_sane s p n m phase at me who a b h = record {
  me = me ∙ h.me;
  fresh = λ e. absurd (let bad : false ≡ true = sym (ap is_begin at) ∙ e in cc);
  later = λ e. absurd (let bad : false ≡ true = sym (ap is_later at) ∙ e in cc);
  placed = λ e. absurd (let bad : false ≡ true = sym (ap is_placed at) ∙ e in cc);
  inside = λ q e. let same : phase ≡ q = stage_phase phase q (sym at ∙ e) in (sym (ap is_outside same) ∙ a, sym (ap is_decided same) ∙ b);
  mine = λ l. ap (λ (l : List ℕ). has l p) who ∙ h.mine l;
}
  where
    stage_phase : (x y : Phase) → Joining x ≡ Joining y → x ≡ y
    stage_phase x y e = ap phase_of e

module _ (s : Setup) (w : World) (z : ℕ → ballot.World) (fate : ℕ → Option (List Slot)) (p : ℕ) (here : up s w p ≡ true) (h : Shows s w z fate) where
  abbrev n : Node
  n = w.node p

  abbrev d : ℕ
  d = n.epoch

  abbrev small : ballot.World
  small = z d

  k : (p < s.procs) × (w.killed p ≡ false) × (has_ended n ≡ false)
  k = up_parts s w p here

  pub distinct : Distinct (w.node p).present
  distinct = era_distinct s fate d (era_of n) (h.here p k.1)

  pub kept_here : Kept (length (w.node p).present) (seat_at (w.node p).present) (z (w.node p).epoch)
  kept_here = (h.owes d).kept (era_of n) (h.here p k.1)

  pub seat_here : (seat_of (w.node p).present p < length (w.node p).present) × (seat_at (w.node p).present (seat_of (w.node p).present p) ≡ p)
  seat_here = seat_found n.present p ((h.sane p k.1).mine k.0)

  module _ (vote : Slot) (out : phase_of (w.node p).stage ≡ Outside) where
    abbrev act : Act
    act = joined vote n

    abbrev after : ballot.World
    after = behind_join w z p vote

    pub join_acted : Acted p (w.node p) (joined vote (w.node p)) (text.Join (suc (w.node p).epoch) vote ∷ []) (member (w.node p).present)
    join_acted = acted_says p n _ (text.Join (suc d) vote) n.present _ (h.sane p k.1).me distinct refl refl

    pub outside_here : ((z (w.node p).epoch).member p).phase ≡ Outside
    outside_here = now_at s d w small (h.at d) p here refl ∙ out

    pub no_vote_here : vote_of (z (w.node p).epoch) p ≡ None
    no_vote_here = kept_here.sound.messages.knows.outside p outside_here

    hears : (c : ℕ) → put (small.member p).heard p (record ((small.member p).heard p) { vote = Some vote }) c ≡ shown (suc d) act.node c
    hears c = elim (cases_eq c p) [
      | inl same ↦ subst (λ o. put (small.member p).heard p (record ((small.member p).heard p) { vote = Some vote }) o ≡ shown (suc d) act.node o) (sym same)
          (put_same (small.member p).heard p (record ((small.member p).heard p) { vote = Some vote })
          ∙ first_vote ((small.member p).heard p) vote no_vote_here
          ∙ ap (λ (x : Heard). hear (Vote vote) x) ((h.at d).heard p p here)
          ∙ sym (shown_own p n act (text.Join (suc d) vote ∷ []) (member n.present) join_acted (suc d)
          ∙ ap (λ (l : List Message). heard_of l (shown (suc d) n p)) (this_vote d vote)))
      | inr ne ↦
          put_other (small.member p).heard p c (record ((small.member p).heard p) { vote = Some vote }) ne
          ∙ (h.at d).heard p c here
          ∙ sym (shown_rest p n act (text.Join (suc d) vote ∷ []) (member n.present) join_acted (suc d) c ne)
    ]

    pub join_steps : Steps s p (joined vote (w.node p)) (text.Join (suc (w.node p).epoch) vote ∷ []) (member (w.node p).present) w z (behind_join w z p vote)
    join_steps = record {
      acted = join_acted;
      here = record {
        other = λ q ne. put_other small.member p q (entering p vote (small.member p)) ne;
        heard = λ c. ap (λ (x : Member). x.heard c) (put_same small.member p (entering p vote (small.member p))) ∙ hears c;
        living = ap (λ (x : Member). x.living) (put_same small.member p (entering p vote (small.member p)));
        gone = ap (λ (x : Member). x.gone) (put_same small.member p (entering p vote (small.member p)));
        link = λ a b. ap (λ (l : List Message). told_all (member n.present) small.link p l a b) (sym (this_vote d vote));
        fits = fits_here d act.node (after.member p).phase refl refl (ap (λ (x : Member). x.phase) (put_same small.member p (entering p vote (small.member p))));
      };
      quiet = λ e ne. other_vote d e vote ne;
      fits = λ e ne. fits_other e n act.node ((z e).member p).phase refl ne ((h.at e).fits p k.1);
      sane = joining_sane s p n act.node Voting refl refl refl refl refl (h.sane p k.1);
    }

    pub join_vote : vote_of (behind_join w z p vote) p ≡ Some vote
    join_vote =
        ap (λ (m : Member). (m.heard p).vote) (put_same small.member p (entering p vote (small.member p)))
        ∙ ap (λ (y : Heard). y.vote) (put_same (small.member p).heard p (record ((small.member p).heard p) { vote = Some vote }))

    pub join_votes : (q : ℕ) → q ≢ p → vote_of (behind_join w z p vote) q ≡ vote_of (z (w.node p).epoch) q
    join_votes q ne = ap (λ (m : Member). (m.heard q).vote) (put_other small.member p q (entering p vote (small.member p)) ne)

    -- and what it owes
    pub join_owes : is_join (suc (w.node p).epoch) vote ≡ true → Owes (w.node p).epoch (era (first_era s) fate (w.node p).epoch) (fate (w.node p).epoch) (behind_join w z p vote)
    join_owes is =
        owes_step d (era_of n) (era (first_era s) fate d) (fate d) p small after (h.here p k.1) (λ q ne. put_other small.member p q (entering p vote (small.member p)) ne) (ap is_decided outside_here)
        (λ g e. absurd (let bad : Voting ≡ Decided g = sym (ap (λ (m : Member). m.phase) (put_same small.member p (entering p vote (small.member p)))) ∙ e in cc))
        (λ v e. subst (λ y. is_join (suc d) y ≡ true) (some_slot vote v (sym join_vote ∙ e)) is)
        (record {
          sound = sound_enter (length n.present) (seat_at n.present) (member n.present) p vote small outside_here ((h.at d).gone p) kept_here.sound;
          caught = caught_enter (member n.present) (length n.present) (seat_at n.present) (member n.present) p vote small (λ q e. e) no_vote_here ((h.at d).gone p) kept_here.sound.messages kept_here.caught;
        }) (h.owes d)

    pub join_deems : is_join (suc (w.node p).epoch) vote ≡ true → Deems s p (joined vote (w.node p)) w z fate fate (behind_join w z p vote)
    join_deems is = deems_same s p act w z fate after k.1 (join_owes is) refl refl refl refl h
