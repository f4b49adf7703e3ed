-- Where a process may be quiet that hasn't ended: in the ballot of an epoch, as a spare, where it gathers the parts of a call, or in the ballot of an agreement.
use Rattle.std.proofs.Common.{◌≡◌, ◌⊎◌, ◌<◌, ℕ, zero, suc, Bool, true, false, ◌&&◌, List, Option, Some, None, inl, inr, arith, refl, sym, ap, subst, ◌∙◌}
use Rattle.std.specs.Prelude.{ℤ, if◌then◌else◌, is_some, is_none}
use Rattle.std.specs.Option.{option_or, option_map}
use Rattle.std.proofs.lemmas.Bool.{cases_eq}
use Rattle.fx_ballot.specs.declared.poll.Poll.{Poll}
use Rattle.fx_ballot.specs.declared.poll.Poll.TheVariants as poll
use Rattle.fx_ballot.specs.Turn.{Phase, Turn}
use Rattle.fx_comm.specs.Seats.{has_place}
use Rattle.fx_link.specs.declared.slot.Slot.{Slot}
use Rattle.fx_link.specs.declared.slot.Slot.TheVariants as slot
use Rattle.fx_script.specs.declared.job.Job.{Job}
use Rattle.fx_store.specs.Redundancy.{each_below}
use Rattle.fx_walk.specs.declared.wanted.Wanted.{Wanted}
use Rattle.fx_walk.specs.declared.wanted.Wanted.TheVariants as wanted
use Rattle.fx_walk.specs.State.{State}
use Rattle.fx_walk.specs.Walk.{TextPlace, Walk, Reply, Ends, Passes, Prints, Asks}
use Rattle.fx_machine.specs.Ballots.{may_join, joined, joins, turned, decides_epoch}
use Rattle.fx_machine.specs.Calls.{common_bits, unless_error, decides_call, balloting, in_asked_call, in_call}
use Rattle.fx_machine.specs.Gathering.{part_of, gathered, are_gathered, gathering_error, in_gathering, numbers_of, passes, returns_elements, returns_number, source_of, total}
use Rattle.fx_machine.specs.Nodes.{Node, Act, Stage, Core, Begins, Joining, Arrived, Walking, Calling, Failed, Over, Gathering, Sharing, Telling, Giving, Balloting, has_ended, members, my_place, size, proc_at}
use Rattle.fx_machine.specs.Numbers.{first_below}
use Rattle.fx_machine.specs.Reading.{Ballot, next_ballot, turn_in, has_left}
use Rattle.fx_machine.specs.Setup.{Setup}
use Rattle.fx_machine.specs.Steps.{next, next_at, in_walk, may_help_out, inits}
use Rattle.fx_machine.specs.Waits.{Error, ByLoss, ByLeaving, call_ballot, first_error, all_agree, returns_error}
use Rattle.fx_fleet.specs.Runs.{job_setup}
use Rattle.fx_legal.specs.Ledger.{Ledger}
use Rattle.fx_legal.specs.Stands.{Stand}
use Rattle.fx_losses.proofs.Tests.{both_true}
use Rattle.fx_calls.specs.Bodies.{IsOfNoGroup, IsOfParts, OnlyAsks}
use Rattle.fx_calls.proofs.Causes.{AsksAt}
use Rattle.fx_calls.proofs.Standing.{InCall, OfStage, AtStage}
use Rattle.fx_calls.proofs.Stepped.{CoreFits, Inside, AtPlan}

-- where it stands that no action is enabled
pub data Stuck (n : Node) : Type 0 where
  Polls : (phase : Phase) → n.stage ≡ Joining phase → (turn_in (next_ballot n) n phase).poll ≡ poll.NotYet → Stuck n
  Idles : n.stage ≡ Arrived → has_place n.comm n.me ≡ false → may_help_out n ≡ false → Stuck n
  Gathers : (place : TextPlace) (v : Wanted) (state : State) (rest : Reply → Walk) → n.stage ≡ Calling Gathering → n.walk ≡ Asks place v state rest → IsOfParts v
      → are_gathered n v ≡ false → gathering_error n v ≡ None → Stuck n
  Agrees : (place : TextPlace) (flag : ℤ) (state : State) (rest : Reply → Walk) (phase : Phase) → n.stage ≡ Calling (Balloting phase) → n.walk ≡ Asks place (wanted.Agree flag) state rest
      → (turn_in (call_ballot n (wanted.Agree flag)) n phase).poll ≡ poll.NotYet → Stuck n

-- ---- stage by stage

some_not : (act : Act) → Some act ≡ None → ⊥
some_not act e = cc

joins_not : (kind : Slot) (n : Node) → may_join n ≡ true → joins kind n ≡ None → ⊥
joins_not kind n may e = some_not (joined kind n) (sym (ap (λ (b : Bool). if b then Some (joined kind n) else None) may) ∙ e)

-- a turn that does something is an action, and so is a decision by which something is done
waits_or_decides : (n : Node) (b : Ballot) (at : Phase → Stage) (decides : List Slot → Option Act) (t : Turn) → turned b n at decides t ≡ None → (t.poll ≡ poll.NotYet) ⊎ ((slots : List Slot) × (t.poll ≡ poll.Decided slots) × (decides slots ≡ None))
waits_or_decides n b at decides t e = of t.poll e
  where
    of : (x : Poll) → turned b n at decides (record { phase = t.phase; poll = x }) ≡ None → (x ≡ poll.NotYet) ⊎ ((slots : List Slot) × (x ≡ poll.Decided slots) × (decides slots ≡ None))
    of poll.NotYet i = inl refl
    of poll.Moved i = absurd (let bad : Some _ ≡ None = i in cc)
    of (poll.SendEstimate slots) i = absurd (let bad : Some _ ≡ None = i in cc)
    of (poll.Decided slots) i = inr (slots, refl, i)

waits_yet : (n : Node) (b : Ballot) (at : Phase → Stage) (decides : List Slot → Act) (t : Turn) → turned b n at (λ slots. Some (decides slots)) t ≡ None → t.poll ≡ poll.NotYet
waits_yet n b at decides t e = elim (waits_or_decides n b at (λ slots. Some (decides slots)) t e) [ inl yet ↦ yet | inr decided ↦ absurd (some_not (decides decided.0) decided.2) ]

-- parts that are awaited, with nothing that ends the wait
abbrev Awaits : Node → Wanted → Type 0
Awaits n v = (are_gathered n v ≡ false) × (gathering_error n v ≡ None)

awaits : (n : Node) (v : Wanted) (rest : Reply → Walk) (act : Act) → gathered n v rest ≡ Some act → in_gathering n v rest ≡ None → Awaits n v
awaits n v rest act all e = of (are_gathered n v) refl (gathering_error n v) refl e
  where
    of : (b : Bool) → are_gathered n v ≡ b → (o : Option Error) → gathering_error n v ≡ o → (if b then gathered n v rest else option_map (returns_error n) o) ≡ None → Awaits n v
    of true is o error i = absurd (some_not act (sym all ∙ i))
    of false is None error i = (is, error)
    of false is (Some x) error i = absurd (some_not (returns_error n x) i)

-- where all agree that have no error, an agreement that is decided returns
agreement_returns : (s : Setup) (n : Node) (flag : ℤ) (rest : Reply → Walk) (slots : List Slot) → (first_error (members n) slots ≡ None → all_agree slots ≡ true) → decides_call s n (wanted.Agree flag) rest slots ≡ None → ⊥
agreement_returns s n flag rest slots agree e = of (first_error (members n) slots) refl e
  where
    of : (o : Option Error) → first_error (members n) slots ≡ o → unless_error s n (wanted.Agree flag) rest slots o ≡ None → ⊥
    of (Some x) at i = some_not (returns_error n x) i
    of None at i =
        some_not (returns_number n rest (common_bits slots)) (sym (ap (λ (b : Bool). if b then Some (returns_number n rest (common_bits slots)) else None) (agree at)) ∙ i)

-- a decision of its ballot without an error tells that all agree
abbrev pub AgreesOnce : Node → Type 0
AgreesOnce n = (flag : ℤ) (phase : Phase) (slots : List Slot) → n.stage ≡ Calling (Balloting phase) → (turn_in (call_ballot n (wanted.Agree flag)) n phase).poll ≡ poll.Decided slots → first_error (members n) slots ≡ None → all_agree slots ≡ true

-- a call has no action only where it gathers, or in its ballot
in_asked : (s : Setup) (n : Node) (place : TextPlace) (v : Wanted) (state : State) (rest : Reply → Walk) (core : Core) → n.stage ≡ Calling core → n.walk ≡ Asks place v state rest → IsOfNoGroup v → CoreFits v core → AgreesOnce n
    → in_call s n v rest core ≡ None → Stuck n
in_asked s n place wanted.Barrier state rest Gathering at walk is fits agree e =
    let r = awaits n wanted.Barrier rest (passes n rest) refl e in
    Gathers place wanted.Barrier state rest at walk tt r.0 r.1
in_asked s n place wanted.Barrier state rest Sharing at walk is fits agree e = absurd fits
in_asked s n place wanted.Barrier state rest Telling at walk is fits agree e = absurd fits
in_asked s n place wanted.Barrier state rest Giving at walk is fits agree e = absurd fits
in_asked s n place wanted.Barrier state rest (Balloting phase) at walk is fits agree e = absurd fits
in_asked s n place (wanted.Reduce op own) state rest Gathering at walk is fits agree e =
    let r = awaits n (wanted.Reduce op own) rest (returns_number n rest (total op n (wanted.Reduce op own))) refl e in
    Gathers place (wanted.Reduce op own) state rest at walk tt r.0 r.1
in_asked s n place (wanted.Reduce op own) state rest Sharing at walk is fits agree e = absurd fits
in_asked s n place (wanted.Reduce op own) state rest Telling at walk is fits agree e = absurd fits
in_asked s n place (wanted.Reduce op own) state rest Giving at walk is fits agree e = absurd fits
in_asked s n place (wanted.Reduce op own) state rest (Balloting phase) at walk is fits agree e = absurd fits
in_asked s n place (wanted.Shift by elements) state rest Gathering at walk is fits agree e =
    let r = awaits n (wanted.Shift by elements) rest (returns_elements n rest (numbers_of n (wanted.Shift by elements) (source_of (size n) by (my_place n)))) refl e in
    Gathers place (wanted.Shift by elements) state rest at walk tt r.0 r.1
in_asked s n place (wanted.Shift by elements) state rest Sharing at walk is fits agree e = absurd fits
in_asked s n place (wanted.Shift by elements) state rest Telling at walk is fits agree e = absurd fits
in_asked s n place (wanted.Shift by elements) state rest Giving at walk is fits agree e = absurd fits
in_asked s n place (wanted.Shift by elements) state rest (Balloting phase) at walk is fits agree e = absurd fits
in_asked s n place (wanted.Agree flag) state rest Gathering at walk is fits agree e = absurd fits
in_asked s n place (wanted.Agree flag) state rest Sharing at walk is fits agree e = absurd fits
in_asked s n place (wanted.Agree flag) state rest Telling at walk is fits agree e = absurd fits
in_asked s n place (wanted.Agree flag) state rest Giving at walk is fits agree e = absurd fits
in_asked s n place (wanted.Agree flag) state rest (Balloting phase) at walk is fits agree e =
    elim (waits_or_decides n (call_ballot n (wanted.Agree flag)) balloting (decides_call s n (wanted.Agree flag) rest) (turn_in (call_ballot n (wanted.Agree flag)) n phase) e) [
      | inl yet ↦ Agrees place flag state rest phase at walk yet
      | inr decided ↦ absurd (agreement_returns s n flag rest decided.0 (agree flag phase decided.0 at decided.1) decided.2)
    ]
in_asked s n place other state rest core at walk is fits agree e = absurd is

module _ (job : Job) (l : Ledger) (q : ℕ) (n : Node) (x : Stand) (agree : AgreesOnce n) (may : may_join n ≡ true) (goes : has_ended n ≡ false) where
  abbrev s : Setup
  s = job_setup job

  walk_not : (walk : Walk) → in_walk s n walk ≡ None → ⊥
  walk_not (Ends state) e = joins_not slot.Final n may e
  walk_not (Passes rest) e = let bad : Some _ ≡ None = e in cc
  walk_not (Prints printed rest) e = let bad : Some _ ≡ None = e in cc
  walk_not (Asks place v state rest) e = let bad : Some _ ≡ None = e in cc

  arrived : (a b : Bool) → has_place n.comm n.me ≡ a → may_help_out n ≡ b → n.stage ≡ Arrived → (if a then Some (inits s n) else (if b then joins slot.Spare n else None)) ≡ None → Stuck n
  arrived true b place help at e = absurd (some_not (inits s n) e)
  arrived false true place help at e = absurd (joins_not slot.Spare n may e)
  arrived false false place help at e = Idles at place help

  called : (core : Core) → n.stage ≡ Calling core → InCall x n → Inside job l q n core → OnlyAsks IsOfNoGroup n.walk → in_asked_call s n core n.walk ≡ None → Stuck n
  called core at i b asks e =
      in_asked s n i.place i.asked i.state i.rest core at i.walk (subst (OnlyAsks IsOfNoGroup) i.walk asks).0 (b.fits i.place i.asked i.state i.rest i.walk) agree (ap (in_asked_call s n core) (sym i.walk) ∙ e)

  of_stage : (a : Stage) → n.stage ≡ a → OfStage job x n a → AtPlan job l q n a → AsksAt a n.walk → next_at s n a ≡ None → Stuck n
  of_stage Begins at is plan asks e = absurd (joins_not slot.Start n may e)
  of_stage (Joining phase) at is plan asks e = Polls phase at (waits_yet n (next_ballot n) Joining (decides_epoch s n) (turn_in (next_ballot n) n phase) e)
  of_stage Arrived at is plan asks e = arrived (has_place n.comm n.me) (may_help_out n) refl refl at e
  of_stage Walking at is plan asks e = absurd (walk_not n.walk e)
  of_stage (Calling core) at is plan asks e = called core at is plan asks e
  of_stage Failed at is plan asks e = absurd (joins_not slot.Error n may e)
  of_stage Over at is plan asks e = absurd (let bad : true ≡ false = sym (ap (λ (a : Stage). has_ended (record n { stage = a })) at) ∙ goes in cc)

  pub stuck : AtStage job x n → AtPlan job l q n n.stage → AsksAt n.stage n.walk → next (job_setup job) n ≡ None → Stuck n
  stuck is plan asks e = of_stage n.stage refl is plan asks e

-- ---- parts that are missed

-- a number below n that passes the test is found
first_not : (n : ℕ) (test : ℕ → Bool) (k : ℕ) → k < n → test k ≡ true → first_below n test ≡ None → ⊥
first_not zero test k less is e = absurd (omega (arith, less))
first_not (suc n) test k less is e = of (λ before. first_not n test k before is) (first_below n test) refl e
  where
    last : (b : Bool) → test n ≡ b → (if b then Some n else None) ≡ None → test n ≡ false
    last true at i = absurd (let bad : Some n ≡ None = i in cc)
    last false at i = at

    of : (k < n → first_below n test ≡ None → ⊥) → (o : Option ℕ) → first_below n test ≡ o → option_or o (if test n then Some n else None) ≡ None → ⊥
    of earlier (Some j) at i = let bad : Some j ≡ None = i in cc
    of earlier None at i = elim (cases_eq k n) [
      | inl same ↦ let bad : true ≡ false = sym is ∙ ap test same ∙ last (test n) refl i in cc
      | inr ne ↦ earlier (omega (arith, less, ne)) at
    ]

-- where nothing ends the wait, nobody whose part isn't there is lost, and none has left
pub none_absent : (n : Node) (v : Wanted) (x : ℕ) → gathering_error n v ≡ None → x < size n → is_none (part_of n v x) ≡ true → (n.lost (proc_at n x) ≡ true → ⊥) × (has_left n (proc_at n x) ≡ true → ⊥)
none_absent n v x e less none = of (first_below (size n) (missed n.lost)) refl (first_below (size n) (missed (has_left n))) refl e
  where
    missed : (ℕ → Bool) → ℕ → Bool
    missed test y = is_none (part_of n v y) && test (proc_at n y)

    of : (a : Option ℕ) → first_below (size n) (missed n.lost) ≡ a → (b : Option ℕ) → first_below (size n) (missed (has_left n)) ≡ b
        → option_or (option_map ByLoss (option_map (proc_at n) a)) (option_map ByLeaving (option_map (proc_at n) b)) ≡ None → (n.lost (proc_at n x) ≡ true → ⊥) × (has_left n (proc_at n x) ≡ true → ⊥)
    of (Some y) is b left i = absurd (let bad : Some (ByLoss (proc_at n y)) ≡ None = i in cc)
    of None is (Some y) left i = absurd (let bad : Some (ByLeaving (proc_at n y)) ≡ None = i in cc)
    of None is None left i = (
      λ lost. first_not (size n) (missed n.lost) x less (both_true (is_none (part_of n v x)) (n.lost (proc_at n x)) none lost) is,
      λ gone. first_not (size n) (missed (has_left n)) x less (both_true (is_none (part_of n v x)) (has_left n (proc_at n x)) none gone) left,
    )

-- a number below m that doesn't pass the test
one_fails : (m : ℕ) (test : ℕ → Bool) → each_below m test ≡ false → (x : ℕ) × (x < m) × (test x ≡ false)
one_fails zero test e = absurd (let bad : true ≡ false = e in cc)
one_fails (suc m) test e = of (one_fails m test) (each_below m test) refl (test m) refl e
  where
    of : (each_below m test ≡ false → (x : ℕ) × (x < m) × (test x ≡ false)) → (a : Bool) → each_below m test ≡ a → (b : Bool) → test m ≡ b → (a && b) ≡ false → (x : ℕ) × (x < suc m) × (test x ≡ false)
    of earlier false all b last i = let r = earlier all in let less = r.1 in (r.0, omega (arith, less), r.2)
    of earlier true all false last i = (m, omega arith, last)
    of earlier true all true last i = absurd (let bad : true ≡ false = i in cc)

-- a place whose part isn't there
pub awaited : (n : Node) (v : Wanted) → are_gathered n v ≡ false → (x : ℕ) × (x < size n) × (is_none (part_of n v x) ≡ true)
awaited n v e = let r = one_fails (size n) (λ x. is_some (part_of n v x)) e in (r.0, r.1, none_of (part_of n v r.0) r.2)
  where
    none_of : {X : Type 0} (o : Option X) → is_some o ≡ false → is_none o ≡ true
    none_of None i = refl
    none_of (Some y) i = absurd (let bad : true ≡ false = i in cc)
