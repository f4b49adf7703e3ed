-- What is due to what comes in: the status and what is written.
use Rattle.std.specs.Prelude.{◌≡◌, ℕ, ◌<◌, ◌≤◌, Bool, true, nat_lt, if◌then◌else◌, List, [], ◌∷◌, length, codes, Option, Some, None, is_some, Result, Ok, Err, refl}
use Rattle.std.specs.Str.{bytes_eq}
use Rattle.fx_base.specs.declared.spot.Spot.{Spot}
use Rattle.fx_io.specs.Reading.{Came}
use Rattle.fx_io.specs.Told.{Loses, IsAtEnd}
use Rattle.fx_script.specs.declared.job.Job.{Job}
use Rattle.fx_script.specs.Canonical.{canonical}
use Rattle.fx_script.specs.Reading.{Refusal, job_in}
use Rattle.fx_check.specs.Acceptance.{Refused, refusal_of}
use Rattle.fx_check.specs.Work.{bound_of}
use Rattle.fx_fleet.specs.Rounds.{is_unfinished}
use Rattle.fx_fleet.specs.Runs.{job_setup, rest_bound_of, moments_of, wire_of}
use Rattle.fx_world.specs.declared.shown.Shown.{Shown}
use Rattle.fx_world.specs.declared.shown.Shown.TheVariants as shown
use Rattle.fx_world.specs.Texts.{shown_text}
use Rattle.fx_cli.specs.declared.mode.Mode.{Mode}
use Rattle.fx_cli.specs.declared.mode.Mode.TheVariants as mode
use Rattle.fx_cli.specs.declared.status.Refusal.TheVariants.{TooBig, Text, Static, NotBuilt}
use Rattle.fx_cli.specs.declared.status.Status.{Status}
use Rattle.fx_cli.specs.declared.status.Status.TheVariants.{Done, BadWords, BadJob, Unfinished}
use Rattle.fx_cli.specs.Answers.{words_line, refusal_line}
use Rattle.fx_cli.specs.Built.{first_unbuilt}

-- the most bytes that a job may have
abbrev pub longest_job : ℕ
longest_job = 1048576

-- the mode of this name
abbrev pub mode_named : List ℕ → Option Mode
mode_named word =
    if bytes_eq word (codes "run") then Some mode.Run
    else (if bytes_eq word (codes "wire") then Some mode.Wire else (if bytes_eq word (codes "check") then Some mode.Check else None))

-- the mode that words ask for: one word alone, its name
abbrev pub mode_of : List (List ℕ) → Option Mode
mode_of [] = None
mode_of (w ∷ []) = mode_named w
mode_of (w ∷ v ∷ words) = None

-- what comes in: words that ask for no mode, a source that is too long, or a mode and a whole text
pub data Input : Type 0 where
  WrongWords : Input
  TooLong : Input
  Whole : Mode → List ℕ → Input

-- by the words, and by what the source holds at the call and after it. Words that ask for no mode leave the source
-- untouched; one that is too long gave more than the limit; and a whole text is all that it held
abbrev pub IsInput : List (List ℕ) → Option (List ℕ) → Option (List ℕ) → Input → Type 0
IsInput words left left' WrongWords = (mode_of words ≡ None) × (left' ≡ left)
IsInput words left left' TooLong = (is_some (mode_of words) ≡ true) × Came left left' (λ n. longest_job < n)
IsInput words left left' (Whole asked text) = (mode_of words ≡ Some asked) × (length text ≤ longest_job) × Loses left left' text × IsAtEnd left'

-- what comes in, by the mode and by all that the source holds
abbrev pub input_in : Option Mode → List ℕ → Input
input_in None bytes = WrongWords
input_in (Some asked) bytes = if nat_lt longest_job (length bytes) then TooLong else Whole asked bytes

abbrev pub input_of : List (List ℕ) → List ℕ → Input
input_of words bytes = input_in (mode_of words) bytes

-- a status, and all that is written
pub record Due : Type 0 where
  pub status : Status
  pub output : List ℕ

-- the refusal of a job: its one line
abbrev pub due_refusal : Rattle.fx_cli.specs.declared.status.Refusal.Refusal → Spot → Due
due_refusal refusal spot = record { status = BadJob refusal spot; output = refusal_line refusal spot }

-- the rounds of the tail are over, and a living process of the job hasn't ended
abbrev pub is_left_unfinished : Job → Bool
is_left_unfinished job = is_unfinished (job_setup job) (rest_bound_of job) (bound_of job) (moments_of job)

-- how a run ends where nothing cuts it short
abbrev pub end_of : Job → Status
end_of job = if is_left_unfinished job then Unfinished else Done

-- the run of the world of an accepted job: the lines of those items that are shown, or the refusal of its first line that can't be run yet
abbrev pub due_to_world : Shown → Job → Option Spot → Due
due_to_world shown job None = record { status = end_of job; output = shown_text shown (wire_of job) }
due_to_world shown job (Some spot) = due_refusal NotBuilt spot

-- an accepted job: its journal, all that happens in it, or its canonical text
abbrev pub due_to_accepted : Mode → Job → Due
due_to_accepted mode.Run job = due_to_world shown.Journal job (first_unbuilt job)
due_to_accepted mode.Wire job = due_to_world shown.Wire job (first_unbuilt job)
due_to_accepted mode.Check job = record { status = Done; output = canonical job }

-- a job that was read: where it breaks a rule, the refusal for the first reason
abbrev pub due_to_job : Mode → Job → Option Refused → Due
due_to_job asked job None = due_to_accepted asked job
due_to_job asked job (Some refused) = due_refusal (Static refused.fault) refused.spot

-- the job in a text, or its first fault
abbrev pub due_to_reading : Mode → Result Job Refusal → Due
due_to_reading asked (Ok job) = due_to_job asked job (refusal_of job)
due_to_reading asked (Err r) = due_refusal (Text r.fault) r.spot

-- what is due
abbrev pub due_to : Input → Due
due_to WrongWords = record { status = BadWords; output = words_line }
due_to TooLong = due_refusal TooBig (record { line = 1; column = 1 })
due_to (Whole asked text) = due_to_reading asked (job_in text)

-- no words ask for no mode
no_words : due_to (input_of [] []) ≡ record { status = BadWords; output = words_line }
no_words = refl

-- two words ask for none, even if each is a mode's name
two_words : mode_of (codes "run" ∷ codes "check" ∷ []) ≡ None
two_words = refl

-- the other modes
wired : mode_of (codes "wire" ∷ []) ≡ Some mode.Wire
wired = refl

checked : mode_of (codes "check" ∷ []) ≡ Some mode.Check
checked = refl
