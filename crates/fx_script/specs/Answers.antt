-- What the code's answers say of a reading.
use Rattle.std.specs.Prelude.{◌≡◌, Result, Ok, Err}
use Rattle.fx_script.specs.declared.draft.Draft.{Draft}
use Rattle.fx_script.specs.declared.refusal.ReadJob.{ReadJob}
use Rattle.fx_script.specs.declared.refusal.ReadJob.TheVariants as read_job
use Rattle.fx_script.specs.declared.refusal.Stop.{Stop}
use Rattle.fx_script.specs.declared.refusal.Wrong.{Wrong}
use Rattle.fx_script.specs.Outcome.{Stops}
use Rattle.fx_script.specs.Reading.{Refusal}

-- the draft is now the one that the reading of a line gives
abbrev pub Advances : Result (Unit {0}) Stop → Draft → Result Draft Wrong → Type 0
Advances (Ok done) new reading = reading ≡ Ok new
Advances (Err e) new reading = Stops e reading

-- the answer is this refusal, or memory ran out
abbrev pub Refuses : {Y : Type 0} → ReadJob → Result Y Refusal → Type 0
Refuses read_job.NoMemory reading = Unit {0}
Refuses (read_job.Refused fault spot) reading = reading ≡ Err (record { fault = fault; spot = spot })

-- the same of a line with its number
abbrev pub Proceeds : Result (Unit {0}) ReadJob → Draft → Result Draft Refusal → Type 0
Proceeds (Ok done) new reading = reading ≡ Ok new
Proceeds (Err e) new reading = Refuses e reading

-- and of a whole text
abbrev pub Answers : {X : Type 0} → Result X ReadJob → Result X Refusal → Type 0
Answers (Ok x) reading = reading ≡ Ok x
Answers (Err e) reading = Refuses e reading
