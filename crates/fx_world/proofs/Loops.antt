-- Calls in loops.
use Rattle.std.proofs.Common.{arith, ◌≡◌, ◌<◌, ◌≤◌, ◌+◌, ◌-◌, ◌==◌, ℕ, zero, suc, Bool, true, false, List, [], ◌∷◌, map, None, Some, Option, Ok, Err, refl, sym, ap, subst, ◌∙◌, inl, inr, Bor, length, get_or, drop, drop-cons, add-one}
use Rattle.std.specs.Prelude.{if◌then◌else◌, is_some, not}
use Rattle.std.specs.Option.{option_copied}
use Rattle.fx_check.specs.Rules.{procs_of}
use Rattle.fx_deeds.specs.Always.{IsKept}
use Rattle.fx_deeds.proofs.Whole.{all_attend, drain_keeps, rest_left, still_up}
use Rattle.fx_fleet.specs.Rounds.{all_over, drains, fair_round, in_rising_order, is_quiet, receives_all, rests, until}
use Rattle.fx_fleet.specs.Runs.{job_setup, rest_bound_of}
use Rattle.fx_fleet.specs.World.{World, does_if, notices, receives_front, steps, up}
use Rattle.fx_io.specs.States.{SinkState}
use Rattle.fx_link.specs.LinkTable.{first_of, link_of}
use Rattle.fx_link.specs.declared.message.Message.{Message}
use Rattle.fx_machine.specs.Messages.{wire_text}
use Rattle.fx_machine.specs.Nodes.{Act}
use Rattle.fx_machine.specs.Setup.{Setup}
use Rattle.fx_machine.specs.Steps.{next}
use Rattle.fx_machine.specs.Texts.{Text}
use Rattle.fx_sched.specs.declared.moment.Moment.{Moment}
use Rattle.fx_script.specs.declared.job.Job.{Job}
use Rattle.fx_world.specs.declared.end.RunEnd.{RunEnd}
use Rattle.fx_world.specs.declared.shown.Shown.{Shown}
use Rattle.fx_world.specs.Goes.{Goes, at_all, at_moment, delivering, draining, draining_other, in_round, in_tail, in_turn, learning, meant, receiving, resting}
use Rattle.fx_world.specs.Standings.{Standings, IsWorldOf}
use Rattle.fx_world.proofs.Going.{goes_on, same_way, stays, stops}
use Rattle.fx_world.proofs.Grows.{Grows, adding, grows_not, later_turns_add, moments_add, notice_adds, rest_adds, tail_adds}
use Rattle.fx_world.proofs.Lists.{split}

-- ---- turns in rising order

module _ (a b : Standings) (shown : Shown) (i j : SinkState) (turn : Job → ℕ → World → World) where
  pub no_turns : Goes (Unit {0}) a a shown i i (λ job w. in_rising_order (turn job) 0 w) (Ok tt)
  no_turns = stays (Unit {0}) tt a a shown i (λ job w. in_rising_order (turn job) 0 w) refl (λ job w asks is. refl)

  -- all turns of the processes were taken
  pub all_turns : (k : ℕ) → Goes (Unit {0}) a b shown i j (λ job w. in_rising_order (turn job) k w) (Ok tt) → k ≡ a.procs
      → Goes (Unit {0}) a b shown i j (λ job w. in_rising_order (turn job) (procs_of job) w) (Ok tt)
  all_turns k goes all =
      same_way (Unit {0}) (Ok tt) a b shown i j (λ job w. in_rising_order (turn job) k w) (λ job w. in_rising_order (turn job) (procs_of job) w) goes
      (λ job w asks is. ap (λ n. in_rising_order (turn job) n w) (all ∙ is.procs))

-- a turn was cut short
pub cut_turn : (a b c : Standings) (shown : Shown) (i j k : SinkState) (turn : Job → ℕ → World → World) (n : ℕ) (e : RunEnd) → Goes (Unit {0}) a b shown i j (λ job w. in_rising_order (turn job) n w) (Ok tt)
    → Goes (Unit {0}) b c shown j k (λ job w. turn job n w) (Err e) → n < a.procs → ((job : Job) (m : ℕ) (w : World) → Grows w (turn job m w))
    → Goes (Unit {0}) a c shown i k (λ job w. in_rising_order (turn job) (procs_of job) w) (Err e)
cut_turn a b c shown i j k turn n e p q below adds =
    stops (Unit {0}) (Unit {0}) e a c shown i k (λ job w. turn job n (in_rising_order (turn job) n w)) (λ job w. in_rising_order (turn job) (procs_of job) w)
    (goes_on (Unit {0}) (Unit {0}) tt a b c shown i j k (λ job w. in_rising_order (turn job) n w) (λ job w. turn job n w) (Err e) p q)
    (λ job w asks is. later_turns_add (turn job) (adds job) (suc n) (procs_of job) w (omega (arith, below, is.procs)))

-- the same for a number of turns that isn't that of the processes
pub cut_turn_of : (a b c : Standings) (shown : Shown) (i j k : SinkState) (turn : Job → ℕ → World → World) (n count : ℕ) (e : RunEnd) → Goes (Unit {0}) a b shown i j (λ job w. in_rising_order (turn job) n w) (Ok tt)
    → Goes (Unit {0}) b c shown j k (λ job w. turn job n w) (Err e) → n < count → ((job : Job) (m : ℕ) (w : World) → Grows w (turn job m w))
    → Goes (Unit {0}) a c shown i k (λ job w. in_rising_order (turn job) count w) (Err e)
cut_turn_of a b c shown i j k turn n count e p q below adds =
    stops (Unit {0}) (Unit {0}) e a c shown i k (λ job w. turn job n (in_rising_order (turn job) n w)) (λ job w. in_rising_order (turn job) count w)
    (goes_on (Unit {0}) (Unit {0}) tt a b c shown i j k (λ job w. in_rising_order (turn job) n w) (λ job w. turn job n w) (Err e) p q)
    (λ job w asks is. later_turns_add (turn job) (adds job) (suc n) count w (omega (arith, below)))

-- ---- a rest

pub until_done : {X : Type 0} (done : X → Bool) (step : X → X) (n : ℕ) (x : X) → done x ≡ true → until done step n x ≡ x
until_done done step zero x e = refl
until_done {X} done step (suc n) x e = ap (λ (b : Bool). elim b as (λ c. X) [ true ↦ x | false ↦ until done step n (step x) ]) e

pub until_more : {X : Type 0} (done : X → Bool) (step : X → X) (n : ℕ) (x : X) → done x ≡ false → until done step (suc n) x ≡ until done step n (step x)
until_more {X} done step n x e = ap (λ (b : Bool). elim b as (λ c. X) [ true ↦ x | false ↦ until done step n (step x) ]) e

pub rest_quiet : (s : Setup) (n p : ℕ) (w : World) → is_quiet s p w ≡ true → rests s n p w ≡ w
rest_quiet s n p w quiet = until_done (is_quiet s p) (steps s p) n w quiet

pub rest_on : (s : Setup) (fuel k p : ℕ) (w : World) → k < fuel → is_quiet s p w ≡ false → rests s (fuel - (k + 1)) p (steps s p w) ≡ rests s (fuel - k) p w
rest_on s fuel k p w below busy =
    let e : fuel - k ≡ suc (fuel - (k + 1)) = omega (arith, below) in
    sym (ap (λ n. rests s n p w) e ∙ until_more (is_quiet s p) (steps s p) (fuel - (k + 1)) w busy)

pub rest_over : (s : Setup) (fuel k p : ℕ) (w : World) → fuel ≤ k → rests s (fuel - k) p w ≡ w
rest_over s fuel k p w le =
    let e : fuel - k ≡ 0 = omega (arith, le) in
    ap (λ n. rests s n p w) e

pub quiet_stays : (s : Setup) (p : ℕ) (w : World) → is_quiet s p w ≡ true → steps s p w ≡ w
quiet_stays s p w quiet = by (up s w p) (next s (w.node p)) quiet
  where
    by : (b : Bool) (o : Option Act) → Rattle.std.specs.Prelude.◌||◌ (not b) (Rattle.std.specs.Prelude.is_none o) ≡ true → (if b then does_if s p o w else w) ≡ w
    by true None e = refl
    by true (Some act) e = absurd cc
    by false o e = refl

pub step_of_rest : (s : Setup) (fuel k p : ℕ) (w : World) → k < fuel → Grows (steps s p w) (rests s (fuel - k) p w)
step_of_rest s fuel k p w below = elim (split (is_quiet s p w)) [
  | inl quiet ↦ rw (quiet_stays s p w quiet, rest_quiet s (fuel - k) p w quiet) (grows_not w)
  | inr busy ↦ subst (λ x. Grows (steps s p w) x) (rest_on s fuel k p w below busy) (rest_adds s (fuel - (k + 1)) p (steps s p w))
]

-- ---- all that is under way

pub drain_on : (job : Job) (p q : ℕ) (w : World) → draining p q job (delivering p q job w) ≡ draining p q job w
drain_on job p q w = elim (split (up (job_setup job) w q)) [
  | inr off ↦ ap (draining p q job) (nobody off)
  | inl on ↦ by on (w.link p q) refl
]
  where
    nobody : up (job_setup job) w q ≡ false → delivering p q job w ≡ w
    nobody off = rw off refl

    all : (x : World) (ts : List Text) → up (job_setup job) x q ≡ true → x.link p q ≡ ts → draining p q job x ≡ receives_all p q ts x
    all x ts on e = rw on (ap (λ l. receives_all p q l x) e)

    by : up (job_setup job) w q ≡ true → (ts : List Text) → w.link p q ≡ ts → draining p q job (delivering p q job w) ≡ draining p q job w
    by on [] e =
        let same : delivering p q job w ≡ w = rw on (ap (λ l. receives_front p q l w) e) in
        ap (draining p q job) same
    by on (t ∷ rest) e =
        let first : delivering p q job w ≡ receives_front p q (t ∷ rest) w = rw on (ap (λ l. receives_front p q l w) e) in
        ap (draining p q job) first
        ∙ all (receives_front p q (t ∷ rest) w) rest (still_up (job_setup job) p q t rest w on) (rest_left p q t rest w)
        ∙ sym (all w (t ∷ rest) on e)

pub nothing_left : (job : Job) (c : Standings) (w : World) (p q : ℕ) → IsWorldOf job c w → p < c.procs → q < c.procs → None ≡ first_of (link_of c.links p q) → draining p q job w ≡ w
nothing_left job c w p q is p_in q_in none = by (up (job_setup job) w q) (w.link p q) (sym (is.comes p q p_in q_in) ∙ ap (map wire_text) (empty (link_of c.links p q) none))
  where
    empty : (ms : List Message) → None ≡ first_of ms → ms ≡ []
    empty [] e = refl
    empty (m ∷ ms) e = absurd cc

    all : (ts : List Text) → ts ≡ [] → receives_all p q ts w ≡ w
    all [] e = refl
    all (t ∷ ts) e = absurd cc

    by : (b : Bool) (ts : List Text) → (if b then ts else []) ≡ [] → (if b then receives_all p q ts w else w) ≡ w
    by true ts e = all ts e
    by false ts e = refl

pub drain_adds : (job : Job) (p q : ℕ) (w : World) → Grows w (draining p q job w)
drain_adds job p q w = elim (split (up (job_setup job) w q)) [
  | inl on ↦ rw on ((all_attend (job_setup job) (Grows w) (adding (job_setup job) w) p q (w.link p q) w refl (on, grows_not w)).1)
  | inr off ↦ rw off (grows_not w)
]

pub delivery_of_drain : (job : Job) (p q : ℕ) (w : World) → Grows (delivering p q job w) (draining p q job w)
delivery_of_drain job p q w = subst (λ x. Grows (delivering p q job w) x) (drain_on job p q w) (drain_adds job p q (delivering p q job w))

pub other_drain : (job : Job) (q p : ℕ) (w : World) → (p == q) ≡ false → draining p q job w ≡ draining_other q p job w
other_drain job q p w apart = rw apart refl

pub own_drain : (job : Job) (q p : ℕ) (w : World) → (p == q) ≡ true → draining_other q p job w ≡ w
own_drain job q p w same = rw same refl

pub other_drain_adds : (job : Job) (q p : ℕ) (w : World) → Grows w (draining_other q p job w)
other_drain_adds job q p w = elim (split (p == q)) [
  | inl same ↦ rw same (grows_not w)
  | inr apart ↦ rw apart (drain_adds job p q w)
]

-- ---- a turn in a fair round

always_so : (s : Setup) → IsKept s (λ w. Unit {0})
always_so s = record { acts = λ p w act on e is. tt; hears = λ p q t rest w on e is. tt; kills = λ p w on is. tt; tells = λ p q w killed on untold is. tt }

-- a process that is up receives all that is under way from the others, and stays up
all_received : (job : Job) (q n : ℕ) (w : World) → up (job_setup job) w q ≡ true
    → (in_rising_order (λ p. draining_other q p job) n w ≡ in_rising_order (drains q) n w) × (up (job_setup job) (in_rising_order (drains q) n w) q ≡ true)
all_received job q zero w on = (refl, on)
all_received job q (suc n) w on =
    let so = all_received job q n w on in
    let x = in_rising_order (drains q) n w in
    let same : draining_other q n job x ≡ drains q n x = rw so.1 refl in
    (ap (draining_other q n job) so.0 ∙ same, (drain_keeps (job_setup job) (λ y. Unit {0}) (always_so (job_setup job)) q n x (so.1, tt)).0)

pub turn_is : (job : Job) (q : ℕ) (w : World) → up (job_setup job) w q ≡ true → resting q job (learning q job (receiving q job w)) ≡ in_turn q job w
turn_is job q w on =
    let received = (all_received job q (procs_of job) w on).0 in
    ap (λ x. resting q job (learning q job x)) received ∙ rw on refl

pub no_turn : (job : Job) (q : ℕ) (w : World) → up (job_setup job) w q ≡ false → in_turn q job w ≡ w
no_turn job q w off = rw off refl

pub learning_adds : (job : Job) (q : ℕ) (w : World) → Grows w (learning q job w)
learning_adds job q w = later_turns_add (λ p. notices (job_setup job) p q) (λ p x. notice_adds (job_setup job) p q x) 0 (procs_of job) w (omega arith)

-- a reference that isn't there is no copy
pub none_copied : {A : Type 0} (r : Option (Bor A)) → false ≡ is_some r → None ≡ option_copied r
none_copied None e = refl
none_copied (Some x) e = absurd cc

-- ---- a tail

pub tail_on : (job : Job) (bound k : ℕ) (w : World) → k < bound → all_over (job_setup job) w ≡ false → in_tail (bound - (k + 1)) job (in_round job w) ≡ in_tail (bound - k) job w
tail_on job bound k w below busy =
    let e : bound - k ≡ suc (bound - (k + 1)) = omega (arith, below) in
    sym (ap (λ n. in_tail n job w) e ∙ until_more (all_over (job_setup job)) (fair_round (job_setup job) (rest_bound_of job)) (bound - (k + 1)) w busy)

pub tail_over : (job : Job) (n : ℕ) (w : World) → all_over (job_setup job) w ≡ true → in_tail n job w ≡ w
tail_over job n w over = until_done (all_over (job_setup job)) (fair_round (job_setup job) (rest_bound_of job)) n w over

pub no_tail : (job : Job) (bound k : ℕ) (w : World) → bound ≤ k → in_tail (bound - k) job w ≡ w
no_tail job bound k w le =
    let e : bound - k ≡ 0 = omega (arith, le) in
    ap (λ n. in_tail n job w) e

pub round_of_tail : (job : Job) (bound k : ℕ) (w : World) → k < bound → all_over (job_setup job) w ≡ false → Grows (in_round job w) (in_tail (bound - k) job w)
round_of_tail job bound k w below busy =
    subst (λ x. Grows (in_round job w) x) (tail_on job bound k w below busy) (tail_adds (job_setup job) (rest_bound_of job) (bound - (k + 1)) (in_round job w))

-- ---- moments

pub moment_of_all : (job : Job) (moments : List Moment) (k : ℕ) (m : Moment) (w : World) → k < length moments → m ≡ get_or moments k m → Grows (at_moment m job w) (at_all (drop k moments) job w)
moment_of_all job moments k m w below is =
    let e : drop k moments ≡ m ∷ drop (k + 1) moments = drop-cons moments k m below ∙ rw (← is, add-one) refl in
    subst (λ ms. Grows (at_moment m job w) (at_all ms job w)) (sym e) (moments_add (job_setup job) (rest_bound_of job) (map meant (drop (k + 1) moments)) (at_moment m job w))
