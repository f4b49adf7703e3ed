-- What joins, entries and turns are in the ballots of calls.
use Rattle.std.proofs.Common.{◌≡◌, ◌≢◌, ℕ, ◌==◌, suc, Bool, true, false, ◌&&◌, List, ◌∷◌, length, Option, Some, None, inl, inr, arith, refl, ap, sym, subst, ◌∙◌}
use Rattle.std.specs.Prelude.{if◌then◌else◌, is_some}
use Rattle.std.proofs.lemmas.Bool.Decides.{nat_tests}
use Rattle.std.proofs.lemmas.Bool.{cases_eq}
use Rattle.fx_ballot.specs.Laws.{vote_of, estimate_of}
use Rattle.fx_ballot.specs.Names.{seat_at}
use Rattle.fx_ballot.specs.Turn.{Outside, Decided}
use Rattle.fx_ballot.specs.World.{Member, is_outside, may_leave, put, leaves, enters, entered}
use Rattle.fx_ballot.specs.World as ballot
use Rattle.fx_ballot.proofs.Face.{Sound, Blank, sound_leave}
use Rattle.fx_item.specs.declared.item.Item.{Item}
use Rattle.fx_link.specs.declared.slot.Slot.{Slot}
use Rattle.fx_walk.specs.declared.wanted.Wanted.{Wanted}
use Rattle.fx_machine.specs.Nodes.{Act, procs_of}
use Rattle.fx_fleet.specs.World.{World, sent_to}
use Rattle.fx_legal.specs.Ledger.{Ledger, comm_in}
use Rattle.fx_calm.proofs.Lists.{Each, chosen, equal}
use Rattle.fx_losses.proofs.Tests.{first_of, second_of}
use Rattle.fx_losses.proofs.Texts.{put_same, put_other}
use Rattle.fx_calls.proofs.Hearings as hearings
use Rattle.fx_calls.proofs.Hearings.{Polls, TrueText, PollsGrow}
use Rattle.fx_calls.proofs.Plans.{Grows}
use Rattle.fx_calls.proofs.Sayings.{SaysIn, says_none}
use Rattle.fx_calls.proofs.Polled.{NodePolls, FirstReturn, IsFlag, Polled, Heeds, flag_grows, told_grows, not_before}

-- ---- one call

-- the ballot of one call is another
abbrev pub at_call : ℕ → ℕ → ballot.World → Polls → Polls
at_call e k y polls a b = if (a == e) && (b == k) then y else polls a b

pub call_here : (e k : ℕ) (y : ballot.World) (polls : Polls) → at_call e k y polls e k ≡ y
call_here e k y polls = grind (arith, nat_tests)

pub call_far : (e k a b : ℕ) (y : ballot.World) (polls : Polls) → ((a == e) && (b == k)) ≡ false → at_call e k y polls a b ≡ polls a b
call_far e k a b y polls far = ap (λ (o : Bool). if o then y else polls a b) far

-- what holds of all ballots before, and of this one after
pub each_call : (P : ℕ → ℕ → ballot.World → Type 0) (e k : ℕ) (y : ballot.World) (polls : Polls) → P e k y → ((a b : ℕ) → P a b (polls a b)) → (a b : ℕ) → P a b (at_call e k y polls a b)
each_call P e k y polls here others a b = chosen (P a b) ((a == e) && (b == k)) y (polls a b)
    (λ same. subst (λ o. P o b y) (sym (equal a e (first_of (a == e) (b == k) same))) (subst (λ o. P e o y) (sym (equal b k (second_of (a == e) (b == k) same))) here)) (λ far. others a b)

-- what process p does in the ballot of one call, behind which it is y
pub record OneCall (p : ℕ) (l m : Ledger) (polls : Polls) (d k : ℕ) (y : ballot.World) : Type 0 where
  pub begun : is_some (l.chapters d) ≡ true
  pub others : (q : ℕ) → q ≢ p → y.member q ≡ (polls d k).member q
  pub sound : Sound (length (procs_of (comm_in l d))) (seat_at (procs_of (comm_in l d))) y
  pub living : (y.member p).living ≡ ((polls d k).member p).living
  pub gone : (y.member p).gone ≡ ((polls d k).member p).gone
  pub asked : Wanted
  pub entered : m.entered d k p ≡ Some asked
  pub flag : (x : Slot) → vote_of y p ≡ Some x → IsFlag m d k p x
  pub vote : (x : Slot) → vote_of (polls d k) p ≡ Some x → vote_of y p ≡ Some x
  pub estimate : (x : List Slot) → estimate_of (polls d k) p ≡ Some x → estimate_of y p ≡ Some x
  pub undecided : (slots : List Slot) → ((polls d k).member p).phase ≡ Decided slots → ⊥

module _ (w : World) (p : ℕ) (act : Act) (l m : Ledger) (polls : Polls) (is : Polled w l polls) (g : Grows l m) (joined : m.joined ≡ l.joined) (d k : ℕ) (y : ballot.World) (one : OneCall p l m polls d k y) where
  abbrev pub now : Polls
  now = at_call d k y polls

  -- a member of this ballot
  of_here : (P : ℕ → Member → Type 0) → P p (y.member p) → ((q : ℕ) → q ≢ p → P q ((polls d k).member q)) → (q : ℕ) → P q (y.member q)
  of_here P mine far q = elim (cases_eq q p) [
    | inl same ↦ subst (λ o. P o (y.member o)) (sym same) mine
    | inr ne ↦ subst (P q) (sym (one.others q ne)) (far q ne)
  ]

  pub one_phases : (e j q : ℕ) (slots : List Slot) → ((polls e j).member q).phase ≡ Decided slots → ((at_call d k y polls e j).member q).phase ≡ Decided slots
  one_phases e j q slots at =
      chosen (λ (x : ballot.World). (x.member q).phase ≡ Decided slots) ((e == d) && (j == k)) y (polls e j)
      (λ same. elim (cases_eq q p) [
        | inl own ↦ absurd (one.undecided slots
            (sym (ap (λ (o : ℕ). ((polls e j).member o).phase) own ∙ ap (λ (o : ℕ). ((polls o j).member p).phase) (equal e d (first_of (e == d) (j == k) same)) ∙ ap (λ (o : ℕ). ((polls d o).member p).phase) (equal j k (second_of (e == d) (j == k) same))) ∙ at))
        | inr ne ↦ ap (λ (x : Member). x.phase) (one.others q ne)
            ∙ sym (ap (λ (o : ℕ). ((polls o j).member q).phase) (equal e d (first_of (e == d) (j == k) same)) ∙ ap (λ (o : ℕ). ((polls d o).member q).phase) (equal j k (second_of (e == d) (j == k) same))) ∙ at
      ]) (λ far. at)

  pub one_grows : PollsGrow polls (at_call d k y polls)
  one_grows = record {
    vote = λ e j q x at. each_call (λ a b z. vote_of (polls a b) q ≡ Some x → vote_of z q ≡ Some x) d k y polls
        (of_here (λ o u. vote_of (polls d k) o ≡ Some x → (u.heard o).vote ≡ Some x) (one.vote x) (λ o ne v. v) q) (λ a b v. v) e j at;
    estimate = λ e j q x at. each_call (λ a b z. estimate_of (polls a b) q ≡ Some x → estimate_of z q ≡ Some x) d k y polls
        (of_here (λ o u. estimate_of (polls d k) o ≡ Some x → (u.heard o).estimate ≡ Some x) (one.estimate x) (λ o ne v. v) q) (λ a b v. v) e j at;
  }

  pub heeds_one : ((e j : ℕ) (it : Item) (rest : List Item) → m.returns e j ≡ it ∷ rest → FirstReturn m (at_call d k y polls) e j it) → NodePolls (at_call d k y polls) p act.node
      → ((c : ℕ) → Each (TrueText (at_call d k y polls) c) (act.node.texts c)) → ((b : ℕ) → Each (TrueText (at_call d k y polls) p) (sent_to b act.sends)) → SaysIn p act l d k (polls d k) y → Heeds p act l m polls
  heeds_one told mine texts sends says = record {
    now = now;
    grows = one_grows;
    others = λ e j q ne. each_call (λ a b z. z.member q ≡ (polls a b).member q) d k y polls (one.others q ne) (λ a b. refl) e j;
    sound = λ e j begun. each_call (λ a b z. is_some (l.chapters a) ≡ true → Sound (length (procs_of (comm_in l a))) (seat_at (procs_of (comm_in l a))) z) d k y polls (λ b. one.sound) (λ a b. is.sound a b) e j begun;
    blank = λ e j none. each_call (λ a b z. l.chapters a ≡ None → Blank z) d k y polls (λ n. absurd (let bad : true ≡ false = sym one.begun ∙ ap is_some n in cc)) (λ a b. is.blank a b) e j none;
    living = λ e j q. each_call (λ a b z. (z.member q).living ≡ ((polls a b).member q).living) d k y polls (of_here (λ o u. u.living ≡ ((polls d k).member o).living) one.living (λ o ne. refl) q) (λ a b. refl) e j;
    gone = λ e j q.
        each_call (λ a b z. (z.member q).gone ≡ ((polls a b).member q).gone) d k y polls (of_here (λ o u. u.gone ≡ ((polls d k).member o).gone) one.gone (λ o ne. refl) q) (λ a b. refl) e j
        ∙ is.gone e j q ∙ ap (λ (f : ℕ → ℕ → Option Slot). is_some (f (suc e) q)) (sym joined);
    outside = λ e j q none. each_call (λ a b z. m.entered a b q ≡ None → (z.member q).phase ≡ Outside) d k y polls
        (of_here (λ o u. m.entered d k o ≡ None → u.phase ≡ Outside) (λ n. absurd (let bad : None ≡ Some one.asked = sym n ∙ one.entered in cc)) (λ o ne n. is.outside d k o (not_before l m g d k o n)) q)
        (λ a b n. is.outside a b q (not_before l m g a b q n)) e j none;
    votes = λ e j q x at. each_call (λ a b z. vote_of z q ≡ Some x → IsFlag m a b q x) d k y polls
        (of_here (λ o u. (u.heard o).vote ≡ Some x → IsFlag m d k o x) (one.flag x) (λ o ne v. flag_grows l m g d k o x (is.votes d k o x v)) q) (λ a b v. flag_grows l m g a b q x (is.votes a b q x v)) e j at;
    told = told;
    mine = mine;
    texts = texts;
    sends = sends;
    says = λ e j. each_call (λ a b z. SaysIn p act l a b (polls a b) z) d k y polls says (λ a b. says_none p act l a b (polls a b) (polls a b) refl refl) e j;
  }

  -- where nothing is returned
  pub one_told : m.returns ≡ l.returns → (e j : ℕ) (it : Item) (rest : List Item) → m.returns e j ≡ it ∷ rest → FirstReturn m (at_call d k y polls) e j it
  one_told same e j it rest at = told_grows l m polls now g one_phases e j it (is.told e j it rest (sym (ap (λ (f : ℕ → ℕ → List Item). f e j) same) ∙ at))

-- ---- a join

-- each ballot of a call of epoch d, once process p has left it
abbrev pub left_by : ℕ → ℕ → Polls → Polls
left_by p d polls e k = if e == d then leaves (λ b. false) p (polls e k) else polls e k

module _ (w : World) (p : ℕ) (act : Act) (l m : Ledger) (polls : Polls) (is : Polled w l polls) (g : Grows l m) (d : ℕ) (begun : is_some (l.chapters d) ≡ true)
    (free : (k : ℕ) → may_leave ((polls d k).member p).phase ≡ true) (joined : is_some (m.joined (suc d) p) ≡ true) (far : (e q : ℕ) → (e ≡ suc d → q ≡ p → ⊥) → m.joined e q ≡ l.joined e q) where
  abbrev later : Polls
  later = left_by p d polls

  each_left : (P : ℕ → ℕ → ballot.World → Type 0) → ((k : ℕ) → P d k (leaves (λ b. false) p (polls d k))) → ((e k : ℕ) → P e k (polls e k)) → (e k : ℕ) → P e k (later e k)
  each_left P here others e k = chosen (P e k) (e == d) (leaves (λ b. false) p (polls e k)) (polls e k)
      (λ same. subst (λ o. P o k (leaves (λ b. false) p (polls o k))) (sym (equal e d same)) (here k)) (λ apart. others e k)

  left_field : {X : Type 0} (f : Member → X) (z : ballot.World) → f (record (z.member p) { gone = true }) ≡ f (z.member p) → (q : ℕ) → f ((leaves (λ b. false) p z).member q) ≡ f (z.member q)
  left_field f z same q = elim (cases_eq q p) [
    | inl at ↦ subst (λ o. f ((leaves (λ b. false) p z).member o) ≡ f (z.member o)) (sym at) (ap f (put_same z.member p (record (z.member p) { gone = true })) ∙ same)
    | inr ne ↦ ap f (put_other z.member p q (record (z.member p) { gone = true }) ne)
  ]

  all_field : {X : Type 0} (f : ℕ → Member → X) → ((q : ℕ) (x : Member) → f q (record x { gone = true }) ≡ f q x) → (e k q : ℕ) → f q ((later e k).member q) ≡ f q ((polls e k).member q)
  all_field f same e k q = each_left (λ a b z. f q (z.member q) ≡ f q ((polls a b).member q)) (λ j. left_field (f q) (polls d j) (same q ((polls d j).member p)) q) (λ a b. refl) e k

  pub heeds_leave : m.returns ≡ l.returns → act.node.epoch ≡ d → NodePolls (left_by p d polls) p act.node → ((c : ℕ) → Each (TrueText polls c) (act.node.texts c)) → ((b : ℕ) → Each (TrueText polls p) (sent_to b act.sends))
      → Heeds p act l m polls
  heeds_leave returns epoch mine texts sends = record {
    now = later;
    grows = grows;
    others = λ e k q ne. each_left (λ a b z. z.member q ≡ (polls a b).member q) (λ j. put_other (polls d j).member p q (record ((polls d j).member p) { gone = true }) ne) (λ a b. refl) e k;
    sound = λ e k b. each_left (λ a j z. is_some (l.chapters a) ≡ true → Sound (length (procs_of (comm_in l a))) (seat_at (procs_of (comm_in l a))) z)
        (λ j i. sound_leave (length (procs_of (comm_in l d))) (seat_at (procs_of (comm_in l d))) (λ o. false) p (polls d j) (free j) (is.sound d j i)) (λ a j. is.sound a j) e k b;
    blank = λ e k none. each_left (λ a j z. l.chapters a ≡ None → Blank z) (λ j n. absurd (let bad : true ≡ false = sym begun ∙ ap is_some n in cc)) (λ a j. is.blank a j) e k none;
    living = λ e k q. all_field (λ o x. x.living) (λ o x. refl) e k q;
    gone = λ e k q. elim (cases_eq e d) [
      | inl same ↦ elim (cases_eq q p) [
        | inl own ↦ subst (λ a. ((later a k).member q).gone ≡ is_some (m.joined (suc a) q)) (sym same) (subst (λ o. ((later d k).member o).gone ≡ is_some (m.joined (suc d) o)) (sym own) (own_gone k))
        | inr ne ↦ other_gone e k q (λ a b. ne b)
      ]
      | inr ne ↦ other_gone e k q (λ a b. ne (let pred : suc e ≡ suc d = a in omega (arith, pred)))
    ];
    outside = λ e k q none. all_field (λ o x. x.phase) (λ o x. refl) e k q ∙ is.outside e k q (not_before l m g e k q none);
    votes = λ e k q x at. flag_grows l m g e k q x (is.votes e k q x (sym (all_field (λ o y. (y.heard o).vote) (λ o y. refl) e k q) ∙ at));
    told = λ e k it rest at. told_grows l m polls later g (λ a b q slots x. all_field (λ o y. y.phase) (λ o y. refl) a b q ∙ x) e k it (is.told e k it rest (sym (ap (λ (f : ℕ → ℕ → List Item). f e k) returns) ∙ at));
    mine = mine;
    texts = λ c. hearings.texts_grow polls later grows c (act.node.texts c) (texts c);
    sends = λ b. hearings.texts_grow polls later grows p (sent_to b act.sends) (sends b);
    says = λ e k. says_none p act l e k (polls e k) (later e k) (all_field (λ o y. (y.heard o).vote) (λ o y. refl) e k p) (all_field (λ o y. (y.heard o).estimate) (λ o y. refl) e k p);
  }
    where
      grows : PollsGrow polls later
      grows = record {
        vote = λ e k q x at. all_field (λ o y. (y.heard o).vote) (λ o y. refl) e k q ∙ at;
        estimate = λ e k q x at. all_field (λ o y. (y.heard o).estimate) (λ o y. refl) e k q ∙ at;
      }

      itself : (d : ℕ) → (d == d) ≡ true
      itself d = grind (arith, nat_tests)

      own_gone : (k : ℕ) → ((later d k).member p).gone ≡ is_some (m.joined (suc d) p)
      own_gone k =
          ap (λ (b : Bool). ((if b then leaves (λ o. false) p (polls d k) else polls d k).member p).gone) (itself d)
          ∙ ap (λ (x : Member). x.gone) (put_same (polls d k).member p (record ((polls d k).member p) { gone = true })) ∙ sym joined

      other_gone : (e k q : ℕ) → (suc e ≡ suc d → q ≡ p → ⊥) → ((later e k).member q).gone ≡ is_some (m.joined (suc e) q)
      other_gone e k q ne = elim (cases_eq q p) [
        | inl own ↦ chosen (λ (z : ballot.World). (z.member q).gone ≡ is_some (m.joined (suc e) q)) (e == d) (leaves (λ o. false) p (polls e k)) (polls e k) (λ b. absurd (ne (ap suc (equal e d b)) own)) (λ b. is.gone e k q ∙ ap is_some (sym (far (suc e) q ne)))
        | inr apart ↦ ap (λ (x : Member). x.gone) (each_left (λ a b z. z.member q ≡ (polls a b).member q) (λ j. put_other (polls d j).member p q (record ((polls d j).member p) { gone = true }) apart) (λ a b. refl) e k) ∙ is.gone e k q ∙ ap is_some (sym (far (suc e) q ne))
      ]

  -- a node that has joined
  pub left_free : (k : ℕ) → may_leave ((left_by p d polls d k).member p).phase ≡ true
  left_free k = ap may_leave (all_field (λ o x. x.phase) (λ o x. refl) d k p) ∙ free k
