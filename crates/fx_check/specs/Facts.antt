-- What a job declares: its arrays, counters and callbacks, and the groups and members of its body.
use Rattle.std.specs.Prelude.{◌≡◌, ℕ, ℤ, pos, negsuc, if◌then◌else◌, nat_le, Bool, true, false, ◌&&◌, ◌||◌, List, [], ◌∷◌, ◌++◌, map, codes, Option, Some, None, is_some, refl}
use Rattle.std.specs.List.{find, list_any}
use Rattle.std.specs.Ordering.{int_eq}
use Rattle.std.specs.Str.{bytes_eq}
use Rattle.fx_base.specs.declared.spot.Spot.{Spot}
use Rattle.fx_script.specs.declared.job.Callback.{Callback}
use Rattle.fx_script.specs.declared.job.Decl.{Decl}
use Rattle.fx_script.specs.declared.job.Decl.TheVariants as decl
use Rattle.fx_script.specs.declared.job.Job.{Job}
use Rattle.fx_script.specs.declared.job.Stmt.{Stmt}
use Rattle.fx_script.specs.declared.job.Stmt.TheOpen.{Stmt-F}
use Rattle.fx_script.specs.declared.job.Stmt.TheFolds.{fold-Stmt}
use Rattle.fx_script.specs.Spelling.{chained}
use Rattle.fx_check.specs.declared.tables.Attached.{Attached}
use Rattle.fx_check.specs.declared.tables.Created.{Created}

-- ---- declarations

-- the name of a declaration
abbrev pub name_of : Decl → List ℕ
name_of (decl.Array spot name len) = name
name_of (decl.Counter spot name) = name

-- the spot of a declaration
abbrev pub decl_spot : Decl → Spot
decl_spot (decl.Array spot name len) = spot
decl_spot (decl.Counter spot name) = spot

-- a declaration of this name
abbrev pub is_of : List ℕ → Decl → Bool
is_of name d = bytes_eq (name_of d) name

abbrev pub is_array_decl : Decl → Bool
is_array_decl (decl.Array spot name len) = true
is_array_decl (decl.Counter spot name) = false

abbrev pub is_counter_decl : Decl → Bool
is_counter_decl (decl.Array spot name len) = false
is_counter_decl (decl.Counter spot name) = true

-- a callback of this name
abbrev pub is_call_of : List ℕ → Callback → Bool
is_call_of name c = bytes_eq c.name name

-- the length of the first array of this name
abbrev pub array_in : List Decl → List ℕ → Option ℤ
array_in [] name = None
array_in (decl.Array spot own len ∷ names) name = if bytes_eq own name then Some len else array_in names name
array_in (decl.Counter spot own ∷ names) name = array_in names name

abbrev pub is_array : List Decl → List ℕ → Bool
is_array names name = is_some (array_in names name)

-- a counter of this name
abbrev pub is_counter_of : List ℕ → Decl → Bool
is_counter_of name d = is_counter_decl d && is_of name d

abbrev pub is_counter : List Decl → List ℕ → Bool
is_counter names name = list_any (is_counter_of name) names

-- ---- the statements of the body that create groups and attach members

-- what stands in the other list of a branch
abbrev pub in_other : {X : Type 0} → Option (List (List X)) → List X
in_other None = []
in_other (Some body) = chained body

-- the groups of a statement, those of the statements in it included, in the order of their lines
abbrev pub created_level : Stmt-F (List Created) → List Created
created_level (Stmt-F.Group spot group start depth) = record { group = group; start = start; depth = depth } ∷ []
created_level (Stmt-F.RoleOnly spot role body) = chained body
created_level (Stmt-F.Branch spot test left right body other) = chained body ++ in_other other
created_level (Stmt-F.Loop spot counter first last body) = chained body
created_level simple = []

abbrev pub created_by : Stmt → List Created
created_by = fold-Stmt (List Created) created_level

abbrev pub created_in : List Stmt → List Created
created_in ss = chained (map created_by ss)

-- the same of members
abbrev pub attached_level : Stmt-F (List Attached) → List Attached
attached_level (Stmt-F.Member spot group member array) = record { group = group; member = member; array = array } ∷ []
attached_level (Stmt-F.RoleOnly spot role body) = chained body
attached_level (Stmt-F.Branch spot test left right body other) = chained body ++ in_other other
attached_level (Stmt-F.Loop spot counter first last body) = chained body
attached_level simple = []

abbrev pub attached_by : Stmt → List Attached
attached_by = fold-Stmt (List Attached) attached_level

abbrev pub attached_in : List Stmt → List Attached
attached_in ss = chained (map attached_by ss)

-- ---- the first of a group, and of a member

abbrev pub creates : ℤ → Created → Bool
creates group c = int_eq c.group group

-- the first creation of this group
abbrev pub first_created : List Created → ℤ → Option Created
first_created all group = find (creates group) all

abbrev pub attaches : ℤ → ℤ → Attached → Bool
attaches group member a = int_eq a.group group && int_eq a.member member

abbrev pub array_of : Option Attached → Option (List ℕ)
array_of None = None
array_of (Some a) = Some a.array

-- the array that is attached first to this member of this group
abbrev pub first_attached : List Attached → ℤ → ℤ → Option (List ℕ)
first_attached all group member = array_of (find (attaches group member) all)

-- the first, or where there is none the second
abbrev pub or_first : {X : Type 0} → Option X → Option X → Option X
or_first None second = second
or_first (Some x) second = Some x

-- groups and members are numbered from 0 to 7
abbrev pub is_one_of_eight : ℤ → Bool
is_one_of_eight (pos n) = nat_le n 7
is_one_of_eight (negsuc n) = false

-- a list of creations was grown by these, so far as the first of each of the eight groups goes
abbrev pub GrewCreated : List Created → List Created → List Created → Type 0
GrewCreated old new more = (group : ℤ) → is_one_of_eight group ≡ true → first_created new group ≡ or_first (first_created old group) (first_created more group)

-- the same of attachments
abbrev pub GrewAttached : List Attached → List Attached → List Attached → Type 0
GrewAttached old new more = (group member : ℤ) → is_one_of_eight group ≡ true → is_one_of_eight member ≡ true
    → first_attached new group member ≡ or_first (first_attached old group member) (first_attached more group member)

-- tables of a body: they hold the first of each group and of each member of the body
pub record AreTables (creations : List Created) (attachments : List Attached) (body : List Stmt) : Type 0 where
  pub created : (group : ℤ) → is_one_of_eight group ≡ true → first_created creations group ≡ first_created (created_in body) group
  pub attached : (group member : ℤ) → is_one_of_eight group ≡ true → is_one_of_eight member ≡ true → first_attached attachments group member ≡ first_attached (attached_in body) group member

-- ---- together

-- what the statements of a job may speak of
pub record Facts : Type 0 where
  pub names : List Decl
  pub callbacks : List Callback
  pub created : List Created
  pub attached : List Attached

abbrev pub facts_of : Job → Facts
facts_of job = record { names = job.names; callbacks = job.callbacks; created = created_in job.body; attached = attached_in job.body }

-- an array or a counter of this name is declared
abbrev pub is_value : Facts → List ℕ → Bool
is_value f name = is_array f.names name || is_counter f.names name

-- a callback of this name is there
abbrev pub is_callback : Facts → List ℕ → Bool
is_callback f name = list_any (is_call_of name) f.callbacks

-- a statement of the body creates this group
abbrev pub has_group : Facts → ℤ → Bool
has_group f group = is_some (first_created f.created group)

-- a statement of the body attaches this member of this group
abbrev pub has_member : Facts → ℤ → ℤ → Bool
has_member f group member = is_some (first_attached f.attached group member)

-- the second of two arrays of one name isn't looked at
first_of_two : array_in (decl.Array (record { line = 5; column = 1 }) (codes "a") (pos 3) ∷ decl.Array (record { line = 6; column = 1 }) (codes "a") (pos 4) ∷ []) (codes "a") ≡ Some (pos 3)
first_of_two = refl
