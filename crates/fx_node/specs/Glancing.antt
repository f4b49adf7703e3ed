-- What is seen of the parts of a call at a glance.
use Rattle.std.specs.Prelude.{◌≡◌, ◌&&◌, ◌<◌, ℕ, Bool, true, false, None, is_none, is_some}
use Rattle.fx_machine.specs.Gathering.{are_gathered, gathering_error, part_of}
use Rattle.fx_machine.specs.Nodes.{Node, proc_at}
use Rattle.fx_machine.specs.Reading.{has_left}
use Rattle.fx_node.specs.declared.glance.Glance.{Glance}
use Rattle.fx_node.specs.declared.glance.Glance.TheVariants as glance
use Rattle.fx_walk.specs.declared.wanted.Wanted.{Wanted}

-- the part of a place is there
abbrev pub is_there : Node → Wanted → ℕ → Bool
is_there n w x = is_some (part_of n w x)

-- it is missing, and its process passes the test
abbrev pub is_missed : Node → Wanted → (ℕ → Bool) → ℕ → Bool
is_missed n w test x = is_none (part_of n w x) && test (proc_at n x)

-- none of the places below k is missing whose process is lost or has left
pub record NoneIsMissed (n : Node) (w : Wanted) (k : ℕ) : Type 0 where
  pub lost : (x : ℕ) → x < k → is_missed n w n.lost x ≡ false
  pub left : (x : ℕ) → x < k → is_missed n w (has_left n) x ≡ false

-- the part of this place below k is still to come
pub record IsToCome (n : Node) (w : Wanted) (k : ℕ) : Type 0 where
  pub place : ℕ
  pub below : place < k
  pub absent : is_there n w place ≡ false

-- what is seen of one place holds of it
abbrev pub IsSeenAt : Glance → Node → Wanted → ℕ → Type 0
IsSeenAt glance.Whole n w x = is_there n w x ≡ true
IsSeenAt glance.Waiting n w x = (is_there n w x ≡ false) × (is_missed n w n.lost x ≡ false) × (is_missed n w (has_left n) x ≡ false)
IsSeenAt glance.Unclear n w x = Unit {0}

-- what is seen of the places below k holds of them
abbrev pub IsSeenBelow : Glance → Node → Wanted → ℕ → Type 0
IsSeenBelow glance.Whole n w k = (x : ℕ) → x < k → is_there n w x ≡ true
IsSeenBelow glance.Waiting n w k = IsToCome n w k × NoneIsMissed n w k
IsSeenBelow glance.Unclear n w k = Unit {0}

-- what is seen of all places holds of the call: all parts are there, or one is still to come and nothing stands against it
abbrev pub IsSeen : Glance → Node → Wanted → Type 0
IsSeen glance.Whole n w = are_gathered n w ≡ true
IsSeen glance.Waiting n w = (are_gathered n w ≡ false) × (gathering_error n w ≡ None)
IsSeen glance.Unclear n w = Unit {0}

-- what is seen of both
abbrev pub both : Glance → Glance → Glance
both glance.Whole other = other
both glance.Waiting glance.Unclear = glance.Unclear
both glance.Waiting glance.Whole = glance.Waiting
both glance.Waiting glance.Waiting = glance.Waiting
both glance.Unclear other = glance.Unclear
