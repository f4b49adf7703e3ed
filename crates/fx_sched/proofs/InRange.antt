-- The numbers of the events of an accepted job.
use Rattle.std.proofs.Common.{◌≡◌, ◌≤◌, ◌<◌, ℕ, zero, suc, ◌+◌, Bool, true, ◌&&◌, List, [], ◌∷◌, map, length, get_or, refl, sym, subst, arith}
use Rattle.std.specs.Prelude.{ℤ, pos, negsuc, All}
use Rattle.std.proofs.lemmas.Bool.{and_parts}
use Rattle.std.proofs.lemmas.Bool.Decides.{nat_tests}
use Rattle.std.proofs.lemmas.List.Elements.{All-nil, All-cons}
use Rattle.fx_script.specs.declared.job.Event.{Event}
use Rattle.fx_script.specs.declared.job.EventKind.{EventKind}
use Rattle.fx_script.specs.declared.job.EventKind.TheVariants as event
use Rattle.fx_check.specs.Acceptance.{event_lines}
use Rattle.fx_check.specs.Parts.{KeepRules}
use Rattle.fx_check.specs.Rules.{is_process, is_event_in_range}
use Rattle.fx_sched.specs.declared.moment.Moment.{Moment}
use Rattle.fx_sched.specs.declared.moment.Moment.TheVariants as moment
use Rattle.fx_sched.specs.Moments.{IsAmong, event_of, kind_of}

wider : (procs : ℕ) (n : ℤ) → procs ≤ 16 → is_process procs n ≡ true → is_process 16 n ≡ true
wider procs (pos n) few is = grind (arith, few, is)
wider procs (negsuc n) few is = absurd cc

both : (a b c d : Bool) → (a ≡ true → c ≡ true) → (b ≡ true → d ≡ true) → (a && b) ≡ true → (c && d) ≡ true
both a b c d f g is = let parts = and_parts a b is in rw (f parts.0, g parts.1) refl

-- an event whose processes are among so many has them among 16
event_wider : (procs : ℕ) (kind : EventKind) → procs ≤ 16 → is_event_in_range procs kind ≡ true → is_event_in_range 16 kind ≡ true
event_wider procs (event.Step p) few is = wider procs p few is
event_wider procs (event.Rest p) few is = wider procs p few is
event_wider procs (event.Deliver from to) few is = both (is_process procs from) (is_process procs to) (is_process 16 from) (is_process 16 to) (wider procs from few) (wider procs to few) is
event_wider procs (event.Kill p) few is = wider procs p few is
event_wider procs (event.Notice lost to) few is = both (is_process procs lost) (is_process procs to) (is_process 16 lost) (is_process 16 to) (wider procs lost few) (wider procs to few) is
event_wider procs (event.Run rounds) few is = is

-- each event of a list whose lines keep the rules
pub in_range : (procs before : ℕ) (events : List Event) (k : ℕ) (d : Event) → procs ≤ 16 → KeepRules (event_lines procs before events) → k < length events → is_event_in_range 16 (get_or events k d).kind ≡ true
in_range procs before [] k d few keep below = absurd (omega (arith, below))
in_range procs before (first ∷ events) zero d few keep below = event_wider procs first.kind few keep.0.in_range
in_range procs before (first ∷ events) (suc k) d few keep below = in_range procs (before + 1) events k d few keep.1 (omega (arith, below))

same_first : {X : Type 0} (x y : X) (xs ys : List X) → (x ∷ xs) ≡ (y ∷ ys) → x ≡ y
same_first x y xs ys e = cc

same_rest : {X : Type 0} (x y : X) (xs ys : List X) → (x ∷ xs) ≡ (y ∷ ys) → xs ≡ ys
same_rest x y xs ys e = cc

is_below : (procs n : ℕ) → is_process procs (pos n) ≡ true → n < procs
is_below procs n is = grind (arith, nat_tests, is)

-- a moment whose event has its numbers in range
among : (procs : ℕ) (m : Moment) → is_event_in_range procs (event_of m) ≡ true → IsAmong procs m
among procs (moment.Step p) is = is_below procs p.0 is
among procs (moment.Rest p) is = is_below procs p.0 is
among procs (moment.Deliver p q) is = let parts = and_parts (is_process procs (pos p.0)) (is_process procs (pos q.0)) is in (is_below procs p.0 parts.0, is_below procs q.0 parts.1)
among procs (moment.Kill p) is = is_below procs p.0 is
among procs (moment.Notice p q) is = let parts = and_parts (is_process procs (pos p.0)) (is_process procs (pos q.0)) is in (is_below procs p.0 parts.0, is_below procs q.0 parts.1)
among procs (moment.Run rounds) is = tt

-- the processes of moments that stand for such events are among so many
pub all_among : (procs before : ℕ) (moments : List Moment) (events : List Event) → map event_of moments ≡ map kind_of events → KeepRules (event_lines procs before events)
    → All (IsAmong procs) moments
all_among procs before [] events same keep = All-nil (IsAmong procs)
all_among procs before (m ∷ ms) [] same keep = absurd cc
all_among procs before (m ∷ ms) (e ∷ es) same keep =
    All-cons (IsAmong procs) m ms
    (among procs m (subst (λ (k : EventKind). is_event_in_range procs k ≡ true) (sym (same_first (event_of m) e.kind (map event_of ms) (map kind_of es) same)) keep.0.in_range))
    (all_among procs (before + 1) ms es (same_rest (event_of m) e.kind (map event_of ms) (map kind_of es) same) keep.1)
