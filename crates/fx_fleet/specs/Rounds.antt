-- Rests, fair rounds, the events of a schedule, and the tail behind it.
use Rattle.std.specs.Prelude.{ℕ, zero, suc, Bool, true, false, not, ◌||◌, if◌then◌else◌, ◌==◌, List, [], ◌∷◌, is_none}
use Rattle.std.specs.List.{filter}
use Rattle.fx_item.specs.declared.item.Item.{Item}
use Rattle.fx_item.specs.declared.item.Item.TheVariants as item
use Rattle.fx_store.specs.Redundancy.{each_below}
use Rattle.fx_machine.specs.Setup.{Setup}
use Rattle.fx_machine.specs.Steps.{next}
use Rattle.fx_machine.specs.Texts.{Text}
use Rattle.fx_fleet.specs.World.{World, first_world, up, steps, receives_front, delivers, kills, notices}

-- a step again and again until the test holds, at most so many times
abbrev pub until : {X : Type 0} → (X → Bool) → (X → X) → ℕ → X → X
until done step zero x = x
until {X} done step (suc more) x = elim (done x) as (λ b. X) [ true ↦ x | false ↦ until done step more (step x) ]

-- the turns of 0 to n - 1, in rising order
abbrev pub in_rising_order : {X : Type 0} → (ℕ → X → X) → ℕ → X → X
in_rising_order turn zero x = x
in_rising_order turn (suc n) x = turn n (in_rising_order turn n x)

-- ---- a rest

-- the process isn't up, or no action of it is enabled
abbrev pub is_quiet : Setup → ℕ → World → Bool
is_quiet s p w = not (up s w p) || is_none (next s (w.node p))

-- it takes steps until it is quiet, at most so many
abbrev pub rests : Setup → (fuel : ℕ) → ℕ → World → World
rests s fuel p w = until (is_quiet s p) (steps s p) fuel w

-- ---- a fair round

-- process q receives all texts of a link
abbrev pub receives_all : ℕ → ℕ → List Text → World → World
receives_all p q [] w = w
receives_all p q (t ∷ rest) w = receives_all p q rest (receives_front p q (t ∷ rest) w)

-- q receives all that is on the link from another
abbrev pub drains : ℕ → ℕ → World → World
drains q p w = if p == q then w else receives_all p q (w.link p q) w

-- it receives all that is on the links to it, and is told of each loss
abbrev pub attends : Setup → ℕ → World → World
attends s q w = in_rising_order (λ p. notices s p q) s.procs (in_rising_order (drains q) s.procs w)

-- the turn of a process: if it is up it attends, and then rests
abbrev pub fair_turn : Setup → (fuel : ℕ) → ℕ → World → World
fair_turn s fuel q w = if up s w q then rests s fuel q (attends s q w) else w

-- each process has its turn, in rising order
abbrev pub fair_round : Setup → (fuel : ℕ) → World → World
fair_round s fuel w = in_rising_order (fair_turn s fuel) s.procs w

-- so many fair rounds
abbrev pub fair_rounds : Setup → (fuel count : ℕ) → World → World
fair_rounds s fuel count w = in_rising_order (λ i. fair_round s fuel) count w

-- ---- the schedule and the tail

-- what happens at a moment, to which processes
pub data Moment : Type 0 where
  Step : (p : ℕ) → Moment
  Rest : (p : ℕ) → Moment
  Deliver : (p q : ℕ) → Moment
  Kill : (p : ℕ) → Moment
  Notice : (p q : ℕ) → Moment
  Run : (count : ℕ) → Moment

-- its effect; where its condition doesn't hold, nothing happens
abbrev pub happens : Setup → (fuel : ℕ) → Moment → World → World
happens s fuel (Step p) w = steps s p w
happens s fuel (Rest p) w = rests s fuel p w
happens s fuel (Deliver p q) w = delivers s p q w
happens s fuel (Kill p) w = kills s p w
happens s fuel (Notice p q) w = notices s p q w
happens s fuel (Run count) w = fair_rounds s fuel count w

-- what a moment writes
abbrev pub written : Setup → (fuel : ℕ) → Moment → World → List Item
written s fuel m w = (happens s fuel m (record w { items = [] })).items

-- one moment after another
abbrev pub all_happen : Setup → (fuel : ℕ) → List Moment → World → World
all_happen s fuel [] w = w
all_happen s fuel (m ∷ ms) w = all_happen s fuel ms (happens s fuel m w)

-- each living process has ended
abbrev pub all_over : Setup → World → Bool
all_over s w = each_below s.procs (λ p. not (up s w p))

-- fair rounds until each living process has ended, at most so many
abbrev pub tail : Setup → (fuel bound : ℕ) → World → World
tail s fuel bound w = until (all_over s) (fair_round s fuel) bound w

-- the world behind a schedule and its tail
abbrev pub whole : Setup → (fuel bound : ℕ) → List Moment → World
whole s fuel bound moments = tail s fuel bound (all_happen s fuel moments (first_world s))

-- the tail wasn't enough
abbrev pub is_unfinished : Setup → (fuel bound : ℕ) → List Moment → Bool
is_unfinished s fuel bound moments = not (all_over s (whole s fuel bound moments))

-- all that is written by then
abbrev pub wire : Setup → (fuel bound : ℕ) → List Moment → List Item
wire s fuel bound moments = (whole s fuel bound moments).items

-- an item of the journal; the others are written in mode `wire` alone
abbrev pub is_of_journal : Item → Bool
is_of_journal (item.Send p q message) = false
is_of_journal (item.Deliver p q message) = false
is_of_journal (item.Told p q) = false
is_of_journal other = true

-- the journal: all of it that is written in each mode
abbrev pub journal : Setup → (fuel bound : ℕ) → List Moment → List Item
journal s fuel bound moments = filter is_of_journal (wire s fuel bound moments)
