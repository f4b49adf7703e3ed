-- How a call stands, by what is known of its members.
use Rattle.std.specs.Prelude.{◌≡◌, ℕ, ◌<◌, ◌≤◌, Bool, true, ◌&&◌, if◌then◌else◌, List, length, Option, Some, None, IsSome, is_some, is_none}
use Rattle.fx_machine.specs.Numbers.{first_below}
use Rattle.fx_store.specs.Redundancy.{each_below}
use Rattle.fx_coll.specs.Keeping.{known_at}
use Rattle.fx_coll.specs.declared.known.Known.{Known}
use Rattle.fx_coll.specs.declared.poll.CollPoll.{CollPoll}
use Rattle.fx_coll.specs.declared.poll.CollPoll.TheVariants as poll

-- ---- when each answer comes

-- the part of each member is there
abbrev pub IsWhole : List Known → Type 0
IsWhole known = (x : ℕ) → x < length known → IsSome (known_at known x).part

-- the member at place x is lost, and its part is absent
abbrev pub LostWithout : List Known → ℕ → Type 0
LostWithout known x = (x < length known) × ((known_at known x).part ≡ None) × ((known_at known x).lost ≡ true)

-- the member at place x left, and its part is absent
abbrev pub LeftWithout : List Known → ℕ → Type 0
LeftWithout known x = (x < length known) × ((known_at known x).part ≡ None) × ((known_at known x).left ≡ true)

-- x is the least of those
abbrev pub IsLeast : (ℕ → Type 0) → ℕ → Type 0
IsLeast Is x = Is x × ((y : ℕ) → Is y → x ≤ y)

-- there is none of those
abbrev pub Nobody : (ℕ → Type 0) → Type 0
Nobody Is = (x : ℕ) → ¬ Is x

-- the answer is the one that is due
abbrev pub IsDue : List Known → CollPoll → Type 0
IsDue known poll.Done = IsWhole known
IsDue known (poll.Failed x) = IsLeast (LostWithout known) x
IsDue known (poll.Revoked x) = Nobody (LostWithout known) × IsLeast (LeftWithout known) x
IsDue known poll.NotYet = (¬ IsWhole known) × Nobody (LostWithout known) × Nobody (LeftWithout known)

-- ---- the answer, computed

abbrev pub is_lost_without : Known → Bool
is_lost_without one = is_none one.part && one.lost

abbrev pub has_left_without : Known → Bool
has_left_without one = is_none one.part && one.left

-- each part is there
abbrev pub is_whole : List Known → Bool
is_whole known = each_below (length known) (λ x. is_some (known_at known x).part)

-- the least place of a lost member whose part is absent
abbrev pub least_lost : List Known → Option ℕ
least_lost known = first_below (length known) (λ x. is_lost_without (known_at known x))

-- the least place of a member that left and whose part is absent
abbrev pub least_left : List Known → Option ℕ
least_left known = first_below (length known) (λ x. has_left_without (known_at known x))

-- the answer where a part is absent, by the least lost one and the least one that left
abbrev pub broken_by : Option ℕ → Option ℕ → CollPoll
broken_by (Some x) left = poll.Failed x
broken_by None (Some x) = poll.Revoked x
broken_by None None = poll.NotYet

abbrev pub answer_of : List Known → CollPoll
answer_of known = if is_whole known then poll.Done else broken_by (least_lost known) (least_left known)
