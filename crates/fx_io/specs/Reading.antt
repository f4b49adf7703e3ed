-- What reading does to a source.
use Rattle.std.specs.Prelude.{◌≡◌, ℕ, ◌+◌, ◌<◌, ◌≤◌, List, Option, Result, Ok, Err, length, take}
use Rattle.fx_io.specs.declared.source.ReadStep.{ReadStep}
use Rattle.fx_io.specs.declared.source.ReadStep.TheVariants.{Got, End, Failed}
use Rattle.fx_io.specs.declared.whole.WholeEnd.{WholeEnd}
use Rattle.fx_io.specs.declared.whole.WholeEnd.TheVariants as whole_end
use Rattle.fx_io.specs.Faults.{Rose}
use Rattle.fx_io.specs.States.{SourceState}
use Rattle.fx_io.specs.Told.{Loses, IsAtEnd}

-- the bytes of one call: those at the front of the buffer are gone from the source, or it is at its end, or nothing
-- changed
abbrev pub Gives : Option (List ℕ) → Option (List ℕ) → List ℕ → ReadStep → Type 0
Gives old new buffer (Got n) = (0 < n) × (n ≤ length buffer) × Loses old new (take n buffer)
Gives old new buffer End = (new ≡ old) × IsAtEnd old
Gives old new buffer Failed = new ≡ old

-- one call: the count of faults never falls, and a failure raises it
pub record Reads (old new : SourceState) (buffer : List ℕ) (step : ReadStep) : Type 0 where
  pub content : Gives old.left new.left buffer step
  pub count_never_falls : old.faults ≤ new.faults
  pub failed_only_if_count_rose : step ≡ Failed → Rose old.faults new.faults

-- so many bytes came, and are gone from the source
abbrev pub Came : Option (List ℕ) → Option (List ℕ) → (ℕ → Type 0) → Type 0
Came old new P = (bytes : List ℕ) × P (length bytes) × Loses old new bytes

-- the bytes of a reading to the end, by its answer: all that came; or more than the limit, by less than a piece; or
-- before more than the limit came a fault, or want of memory
abbrev pub GivesWhole : Option (List ℕ) → Option (List ℕ) → ℕ → Result (List ℕ) WholeEnd → Type 0
GivesWhole old new limit (Ok bytes) = (length bytes ≤ limit) × Loses old new bytes × IsAtEnd new
GivesWhole old new limit (Err whole_end.TooLong) = Came old new (λ n. (limit < n) × (n ≤ limit + 4096))
GivesWhole old new limit (Err whole_end.Failed) = Came old new (λ n. n ≤ limit)
GivesWhole old new limit (Err whole_end.NoMemory) = Came old new (λ n. n ≤ limit)

-- a reading to the end
pub record ReadsWhole (old new : SourceState) (limit : ℕ) (answer : Result (List ℕ) WholeEnd) : Type 0 where
  pub content : GivesWhole old.left new.left limit answer
  pub count_never_falls : old.faults ≤ new.faults
  pub failed_only_if_count_rose : answer ≡ Err whole_end.Failed → Rose old.faults new.faults
