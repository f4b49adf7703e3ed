-- A source and a sink in memory that fail at given calls.
use Rattle.std.specs.Prelude.{◌≡◌, ℕ, ℤ, pos, negsuc, Bool, true, false, ◌==◌, List, ◌++◌, length, drop, min, Some, if◌then◌else◌}
use Rattle.std.specs.List.{list_any}
use Rattle.fx_io.specs.declared.source.ReadStep.{ReadStep}
use Rattle.fx_io.specs.declared.source.ReadStep.TheVariants as read
use Rattle.fx_io.specs.declared.sink.WriteStep.{WriteStep}
use Rattle.fx_io.specs.declared.sink.WriteStep.TheVariants as write
use Rattle.fx_io.specs.Faults.{counted}
use Rattle.fx_io.specs.States.{SourceState, SinkState}

-- the bytes that are left, the most bytes that a call gives, the numbers of the calls that fail, and how many calls
-- and faults there were
pub record HeldSource : Type 0 where
  pub left : List ℕ
  pub chunk : ℕ
  pub failing : List ℤ
  pub calls : ℕ
  pub faults : ℕ

-- the bytes that were written, the numbers of the calls that fail, and how many calls and faults there were
pub record HeldSink : Type 0 where
  pub written : List ℕ
  pub failing : List ℤ
  pub calls : ℕ
  pub faults : ℕ

-- each tells of its bytes
abbrev pub source_state : HeldSource → SourceState
source_state s = record { left = Some s.left; faults = s.faults }

abbrev pub sink_state : HeldSink → SinkState
sink_state k = record { written = Some k.written; faults = k.faults }

-- the number of a call, as a list of numbers has it
abbrev pub is_number : ℕ → ℤ → Bool
is_number call (pos n) = n == call
is_number call (negsuc n) = false

-- the call after so many calls is to fail
abbrev pub is_failing : List ℤ → ℕ → Bool
is_failing failing calls = list_any (is_number (counted calls)) failing

-- what a source answers where it doesn't fail: as many bytes as the least of what a call gives, what there is room
-- for and what is left
abbrev pub pieces_of : HeldSource → ℕ → ReadStep
pieces_of s room = if length s.left == 0 then read.End else read.Got (min s.chunk (min (length s.left) room))

-- what a source answers to a buffer with so much room
abbrev pub answer_of_source : HeldSource → ℕ → ReadStep
answer_of_source s room = if is_failing s.failing s.calls then read.Failed else pieces_of s room

-- a source after an answer
abbrev pub source_after : HeldSource → ReadStep → HeldSource
source_after s (read.Got n) = record s { left = drop n s.left; calls = counted s.calls }
source_after s read.End = record s { calls = counted s.calls }
source_after s read.Failed = record s { calls = counted s.calls; faults = counted s.faults }

-- what a sink may answer to a piece so long: it takes it whole unless memory runs out, and fails where it is to
abbrev pub AnswersPiece : HeldSink → ℕ → WriteStep → Type 0
AnswersPiece k len (write.Took n) = (is_failing k.failing k.calls ≡ false) × (n ≡ len)
AnswersPiece k len write.Failed = is_failing k.failing k.calls ≡ true
AnswersPiece k len write.NoMemory = is_failing k.failing k.calls ≡ false

-- a sink after an answer to a piece
abbrev pub sink_after : HeldSink → List ℕ → WriteStep → HeldSink
sink_after k piece (write.Took n) = record k { written = k.written ++ piece; calls = counted k.calls }
sink_after k piece write.Failed = record k { calls = counted k.calls; faults = counted k.faults }
sink_after k piece write.NoMemory = record k { calls = counted k.calls }
