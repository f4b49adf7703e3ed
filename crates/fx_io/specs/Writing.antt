-- What writing does to a sink.
use Rattle.std.specs.Prelude.{◌≡◌, ℕ, ◌<◌, ◌≤◌, List, Option, Result, Ok, Err, length, take}
use Rattle.fx_io.specs.declared.sink.WriteStep.{WriteStep}
use Rattle.fx_io.specs.declared.sink.WriteStep.TheVariants.{Took, Failed, NoMemory}
use Rattle.fx_io.specs.declared.whole.PutEnd.{PutEnd}
use Rattle.fx_io.specs.declared.whole.PutEnd.TheVariants as put_end
use Rattle.fx_io.specs.Faults.{Rose}
use Rattle.fx_io.specs.States.{SinkState}
use Rattle.fx_io.specs.Told.{Gains, GainsFront}

-- the bytes of one call: a front of the piece was added, or nothing changed
abbrev pub Adds : Option (List ℕ) → Option (List ℕ) → List ℕ → WriteStep → Type 0
Adds old new piece (Took n) = (0 < n) × (n ≤ length piece) × Gains old new (take n piece)
Adds old new piece Failed = new ≡ old
Adds old new piece NoMemory = new ≡ old

-- one call: the count of faults never falls, and a failure raises it
pub record Writes (old new : SinkState) (piece : List ℕ) (step : WriteStep) : Type 0 where
  pub content : Adds old.written new.written piece step
  pub count_never_falls : old.faults ≤ new.faults
  pub failed_only_if_count_rose : step ≡ Failed → Rose old.faults new.faults

-- the bytes of a writing of a whole piece, by its answer: all of it was added, or a front of it
abbrev pub AddsWhole : Option (List ℕ) → Option (List ℕ) → List ℕ → Result (Unit {0}) PutEnd → Type 0
AddsWhole old new piece (Ok done) = Gains old new piece
AddsWhole old new piece (Err end) = GainsFront old new piece

-- a writing of a whole piece, or of a front of it up to a fault or to want of memory
pub record Puts (old new : SinkState) (piece : List ℕ) (answer : Result (Unit {0}) PutEnd) : Type 0 where
  pub content : AddsWhole old.written new.written piece answer
  pub count_never_falls : old.faults ≤ new.faults
  pub failed_only_if_count_rose : answer ≡ Err put_end.Failed → Rose old.faults new.faults
