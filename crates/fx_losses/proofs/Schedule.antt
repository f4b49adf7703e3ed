-- The kills of the schedule, in their order.
use Rattle.std.proofs.Common.{◌≡◌, ℕ, Bool, true, false, List, [], ◌∷◌, ◌++◌, map, refl, sym, ap, subst, ◌∙◌}
use Rattle.std.specs.Prelude.{if◌then◌else◌}
use Rattle.fx_check.specs.Rules.{count_of}
use Rattle.fx_script.specs.declared.job.Event.{Event}
use Rattle.fx_script.specs.declared.job.EventKind.{EventKind}
use Rattle.fx_script.specs.declared.job.EventKind.TheVariants as event
use Rattle.fx_fleet.specs.Rounds.{Moment, Step, Rest, Deliver, Kill, Notice, Run}
use Rattle.fx_fleet.specs.Runs.{moment_of}
use Rattle.fx_legal.specs.Effects.{due_kills}
use Rattle.fx_legal.specs.Ledger.{kills_in}
use Rattle.fx_legal.specs.Rules.{IsFirst}
use Rattle.fx_legal.specs.Stands.{Stand, is_gone}

-- the processes that moments kill, in order
abbrev pub killed_by : Moment → List ℕ
killed_by (Step p) = []
killed_by (Rest p) = []
killed_by (Deliver p q) = []
killed_by (Kill p) = p ∷ []
killed_by (Notice p q) = []
killed_by (Run count) = []

abbrev pub kills_of : List Moment → List ℕ
kills_of [] = []
kills_of (m ∷ ms) = killed_by m ++ kills_of ms

-- those of a job are those of its events
pub kills_are : (events : List Event) → kills_in events ≡ kills_of (map (λ e. moment_of e.kind) events)
kills_are [] = refl
kills_are (e ∷ events) = of e.kind (kills_are events)
  where
    of : (k : EventKind) → kills_in events ≡ kills_of (map (λ (e : Event). moment_of e.kind) events) → kills_in (record e { kind = k } ∷ events) ≡ killed_by (moment_of k) ++ kills_of (map (λ (e : Event). moment_of e.kind) events)
    of (event.Kill process) rest = ap (λ (l : List ℕ). count_of process ∷ l) rest
    of (event.Step process) rest = rest
    of (event.Rest process) rest = rest
    of (event.Deliver from to) rest = rest
    of (event.Notice lost to) rest = rest
    of (event.Run rounds) rest = rest

-- once more are gone, those of the kills that were due are due that are
pub due_again : (f g : ℕ → Stand) → ((q : ℕ) → is_gone (f q) ≡ true → is_gone (g q) ≡ true) → (xs : List ℕ) → due_kills g (due_kills f xs) ≡ due_kills g xs
due_again f g grows [] = refl
due_again f g grows (x ∷ xs) = of (due_again f g grows xs) (is_gone (f x)) refl
  where
    of : due_kills g (due_kills f xs) ≡ due_kills g xs → (b : Bool) → is_gone (f x) ≡ b → due_kills g (if b then due_kills f xs else x ∷ xs) ≡ due_kills g (x ∷ xs)
    of rest true gone = rest ∙ sym (ap (λ (b : Bool). if b then due_kills g xs else x ∷ xs) (grows x gone))
    of rest false stays = refl

pub due_kept : (f g : ℕ → Stand) → ((q : ℕ) → is_gone (f q) ≡ true → is_gone (g q) ≡ true) → (xs ys : List ℕ) → due_kills f xs ≡ due_kills f ys → due_kills g xs ≡ due_kills g ys
due_kept f g grows xs ys e = sym (due_again f g grows xs) ∙ ap (due_kills g) e ∙ due_again f g grows ys

-- a kill of who isn't gone is the first that is due
pub due_first : (f : ℕ → Stand) (p : ℕ) (xs ps : List ℕ) → is_gone (f p) ≡ false → due_kills f xs ≡ due_kills f (p ∷ ps) → due_kills f xs ≡ p ∷ ps
due_first f p xs ps stays e = e ∙ ap (λ (b : Bool). if b then due_kills f ps else p ∷ ps) stays

pub first_due : (p : ℕ) (xs ps : List ℕ) → xs ≡ p ∷ ps → IsFirst p xs
first_due p xs ps e = subst (IsFirst p) (sym e) refl

-- and a kill of who is gone is passed over
pub due_past : (f : ℕ → Stand) (p : ℕ) (xs ps : List ℕ) → is_gone (f p) ≡ true → due_kills f xs ≡ due_kills f (p ∷ ps) → due_kills f xs ≡ due_kills f ps
due_past f p xs ps gone e = e ∙ ap (λ (b : Bool). if b then due_kills f ps else p ∷ ps) gone
