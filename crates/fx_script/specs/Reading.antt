-- Reading a text line by line, up to the first fault.
use Rattle.std.specs.Prelude.{ℕ, ◌+◌, Bool, true, false, if◌then◌else◌, List, [], ◌∷◌, length, Option, Some, None, Result, Ok, Err}
use Rattle.fx_base.specs.declared.spot.Spot.{Spot}
use Rattle.fx_text.specs.declared.check.LineFault.{LineFault}
use Rattle.fx_text.specs.declared.check.LineFault.TheVariants as line_fault
use Rattle.fx_text.specs.Checks.{checked}
use Rattle.fx_text.specs.Lines.{Line, lines_of}
use Rattle.fx_text.specs.Words.{Word}
use Rattle.fx_script.specs.declared.draft.Block.{Block}
use Rattle.fx_script.specs.declared.draft.Draft.{Draft}
use Rattle.fx_script.specs.declared.draft.DuePart.{DuePart}
use Rattle.fx_script.specs.declared.draft.DuePart.TheVariants as due_part
use Rattle.fx_script.specs.declared.head.Head.{Head}
use Rattle.fx_script.specs.declared.job.Job.{Job}
use Rattle.fx_script.specs.declared.keyword.Keyword.{Keyword}
use Rattle.fx_script.specs.declared.refusal.JobFault.{JobFault}
use Rattle.fx_script.specs.declared.refusal.JobFault.TheVariants.{NotAscii, LineTooLong, BadLine, MissingPart, TrailingText}
use Rattle.fx_script.specs.declared.refusal.Wrong.{Wrong}
use Rattle.fx_script.specs.Left.{Left}
use Rattle.fx_script.specs.Outcome.{◌>>=◌}
use Rattle.fx_script.specs.Fields.{misfit}
use Rattle.fx_script.specs.Keywords.{keyword_of}
use Rattle.fx_script.specs.Heads.{head_at}
use Rattle.fx_script.specs.Moves.{empty_draft, moved}
use Rattle.fx_script.specs.SaidLines.{Met, met_in, spot_of}
use Rattle.fx_script.specs.Order.{may_stand}

-- a fault and its place
pub record Refusal : Type 0 where
  pub fault : JobFault
  pub spot : Spot

-- what is wrong with a line that isn't sound: a byte that isn't printable comes first, then a line that is too long, then a missing line end
abbrev pub soundness : Result (Unit {0}) LineFault → Bool → ℕ → Result (Unit {0}) Wrong
soundness (Err (line_fault.NotAscii column)) ended past = Err (record { fault = NotAscii; column = column })
soundness (Err line_fault.TooLong) ended past = Err (record { fault = LineTooLong; column = 1025 })
soundness (Ok fine) false past = Err (record { fault = BadLine; column = past })
soundness (Ok fine) true past = Ok tt

abbrev pub sound : Line → Result (Unit {0}) Wrong
sound line = soundness (checked line.bytes) line.ended (length line.bytes + 1)

-- what a line says whose keyword may stand here; no other first word can
abbrev pub head_placed : DuePart → List Block → Option Keyword → Spot → Word → Left → Result Head Wrong
head_placed s blocks None spot first left = Err (misfit first)
head_placed s blocks (Some keyword) spot first left = if may_stand s blocks keyword then head_at keyword spot left else Err (misfit first)

-- what a line says at this part; nothing may follow `stop`
abbrev pub head_in : DuePart → List Block → Spot → Word → Left → Result Head Wrong
head_in due_part.Stopped blocks spot first left = Err (record { fault = TrailingText; column = first.column })
head_in s blocks spot first left = head_placed s blocks (keyword_of first.bytes) spot first left

-- the keyword of a line, if it may stand at this part
abbrev pub keyword_allowed : DuePart → List Block → Option Keyword → Word → Result Keyword Wrong
keyword_allowed s blocks None first = Err (misfit first)
keyword_allowed s blocks (Some keyword) first = if may_stand s blocks keyword then Ok keyword else Err (misfit first)

abbrev pub keyword_placed : DuePart → List Block → Word → Result Keyword Wrong
keyword_placed due_part.Stopped blocks first = Err (record { fault = TrailingText; column = first.column })
keyword_placed s blocks first = keyword_allowed s blocks (keyword_of first.bytes) first

-- the draft behind what a line with this keyword says
abbrev pub said_by : Draft → Keyword → Spot → Left → Result Draft Wrong
said_by d keyword spot left = head_at keyword spot left >>= λ head. Ok (moved d spot head)

-- the draft behind a line in which this is met
abbrev pub taken : Draft → Option Met → Result Draft Wrong
taken d None = Ok d
taken d (Some m) = head_in d.due_part d.blocks (spot_of m) m.first m.left >>= λ head. Ok (moved d (spot_of m) head)

-- the draft behind a line
abbrev pub line_taken : Draft → ℕ → Line → Result Draft Wrong
line_taken d number line = sound line >>= λ fine. taken d (met_in number line.bytes)

-- what is wrong in a line, with the line's number
abbrev pub at_line : ℕ → Result Draft Wrong → Result Draft Refusal
at_line number (Ok d) = Ok d
at_line number (Err w) = Err (record { fault = w.fault; spot = record { line = number; column = w.column } })

-- a draft whose `stop` was read is whole; else a part is missing in the line after the last
abbrev pub finished : Draft → ℕ → DuePart → Result Draft Refusal
finished d number due_part.Stopped = Ok d
finished d number s = Err (record { fault = MissingPart; spot = record { line = number; column = 1 } })

-- the first reading, and then the second of its draft, unless it is refused
abbrev pub and_then : Result Draft Refusal → (Draft → Result Draft Refusal) → Result Draft Refusal
and_then (Ok d) f = f d
and_then (Err r) f = Err r

-- the lines from this one on, one after another
abbrev pub run : Draft → ℕ → List Line → Result Draft Refusal
run d number [] = finished d number d.due_part
run d number (line ∷ lines) = and_then (at_line number (line_taken d number line)) (λ next. run next (number + 1) lines)

-- a whole text
abbrev pub reading : List ℕ → Result Draft Refusal
reading text = run empty_draft 1 (lines_of text)

-- the job in a text, or the first refusal
abbrev pub job_in_draft : Result Draft Refusal → Result Job Refusal
job_in_draft (Ok d) = Ok d.job
job_in_draft (Err r) = Err r

abbrev pub job_in : List ℕ → Result Job Refusal
job_in text = job_in_draft (reading text)
