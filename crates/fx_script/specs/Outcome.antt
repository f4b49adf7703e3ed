-- One reading after another, with the first thing that is wrong; and what the code's answers say of it.
use Rattle.std.specs.Prelude.{◌≡◌, Result, Ok, Err}
use Rattle.fx_script.specs.declared.refusal.Wrong.{Wrong}
use Rattle.fx_script.specs.declared.refusal.Stop.{Stop}
use Rattle.fx_script.specs.declared.refusal.Stop.TheVariants as stop

-- the first reading, and then the second of what it gave, unless something is wrong
infixl 10 ◌>>=◌
abbrev pub ◌>>=◌ : {A B : Type 0} → Result A Wrong → (A → Result B Wrong) → Result B Wrong
(Ok x) >>= f = f x
(Err e) >>= f = Err e

-- what the code stops at is what is wrong, unless memory ran out
abbrev pub Stops : {Y : Type 0} → Stop → Result Y Wrong → Type 0
Stops stop.NoMemory reading = Unit {0}
Stops (stop.Wrong w) reading = reading ≡ Err w

-- what the code gave is what the reading gives, unless memory ran out
abbrev pub Gives : {X : Type 0} → Result X Stop → Result X Wrong → Type 0
Gives (Ok x) reading = reading ≡ Ok x
Gives (Err e) reading = Stops e reading

-- the same of a reading that leaves words
abbrev pub GivesLeaving : {X L : Type 0} → Result X Stop → L → Result (X × L) Wrong → Type 0
GivesLeaving (Ok x) left reading = reading ≡ Ok (x, left)
GivesLeaving (Err e) left reading = Stops e reading
