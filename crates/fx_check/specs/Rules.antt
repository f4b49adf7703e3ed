-- The rules that each line of an accepted job keeps.
use Rattle.std.specs.Prelude.{◌≡◌, ℕ, ◌+◌, ℤ, pos, negsuc, Bool, true, false, not, ◌&&◌, ◌||◌, nat_le, nat_lt, List, map, Option, Some, None, refl, codes, []}
use Rattle.std.specs.List.{list_all}
use Rattle.std.specs.Ordering.{int_eq}
use Rattle.std.specs.Str.{bytes_eq}
use Rattle.fx_base.specs.declared.names.Role.TheVariants.{Initial}
use Rattle.fx_base.specs.declared.spot.Spot.{Spot}
use Rattle.fx_script.specs.declared.expr.Expr.{Expr}
use Rattle.fx_script.specs.declared.expr.Expr.TheVariants as expr
use Rattle.fx_script.specs.declared.expr.Expr.TheOpen.{Expr-F}
use Rattle.fx_script.specs.declared.expr.Expr.TheFolds.{fold-Expr}
use Rattle.fx_script.specs.declared.job.Decl.{Decl}
use Rattle.fx_script.specs.declared.job.EventKind.{EventKind}
use Rattle.fx_script.specs.declared.job.EventKind.TheVariants as event
use Rattle.fx_script.specs.declared.job.Job.{Job}
use Rattle.fx_script.specs.declared.job.Picked.{Picked}
use Rattle.fx_script.specs.declared.job.Picked.TheVariants as picked
use Rattle.fx_script.specs.declared.job.Stmt.TheOpen.{Stmt-F}
use Rattle.fx_subset.specs.declared.fault.SubsetFault.{SubsetFault}
use Rattle.fx_subset.specs.Fault.{fault_of_blocks, fault_of_pairs, fault_of_whole}
use Rattle.fx_check.specs.declared.surroundings.Surroundings.{Surroundings}
use Rattle.fx_check.specs.declared.tables.Created.{Created}
use Rattle.fx_check.specs.Facts.{Facts, is_one_of_eight, array_in, is_array, is_counter, is_value, is_callback, has_group, has_member, first_created, first_attached}

-- ---- numbers

-- a number from low to high
abbrev pub is_between : ℕ → ℕ → ℤ → Bool
is_between low high (pos n) = nat_le low n && nat_le n high
is_between low high (negsuc n) = false

-- a number that isn't negative, or 0
abbrev pub count_of : ℤ → ℕ
count_of (pos n) = n
count_of (negsuc n) = 0

-- an index of an array of this length
abbrev pub is_index_of : ℤ → ℤ → Bool
is_index_of len (pos n) = nat_lt n (count_of len)
is_index_of len (negsuc n) = false

-- the index fits the array, where the array is declared
abbrev pub is_index_if : Option ℤ → ℤ → Bool
is_index_if None index = true
is_index_if (Some len) index = is_index_of len index

-- two arrays are of one length, where both are declared
abbrev pub are_of_one_length : Option ℤ → Option ℤ → Bool
are_of_one_length None b = true
are_of_one_length (Some a) None = true
are_of_one_length (Some a) (Some b) = int_eq a b

-- a number of a subset fits 32 bits
abbrev pub fits_32 : ℤ → Bool
fits_32 n = is_between 0 4294967295 n

abbrev pub pair_fits_32 : ℤ × ℤ → Bool
pair_fits_32 p = fits_32 p.0 && fits_32 p.1

abbrev pub picked_fits_32 : Picked → Bool
picked_fits_32 picked.Full = true
picked_fits_32 picked.Empty = true
picked_fits_32 (picked.Strided blocks start end stride) = fits_32 blocks && fits_32 start && fits_32 end && fits_32 stride
picked_fits_32 (picked.Ranges pairs) = list_all pair_fits_32 pairs

-- ---- expressions

-- each name is an array or a counter, and each group is created in the body
abbrev pub expr_known_level : Facts → Expr-F Bool → Bool
expr_known_level f (Expr-F.Name name) = is_value f name
expr_known_level f (Expr-F.Latest group) = has_group f group
expr_known_level f (Expr-F.Add left right) = left && right
expr_known_level f (Expr-F.Sub left right) = left && right
expr_known_level f (Expr-F.Mul left right) = left && right
expr_known_level f leaf = true

abbrev pub expr_known : Facts → Expr → Bool
expr_known f = fold-Expr Bool (expr_known_level f)

-- each group is one of eight
abbrev pub expr_groups_fit_level : Expr-F Bool → Bool
expr_groups_fit_level (Expr-F.Latest group) = is_one_of_eight group
expr_groups_fit_level (Expr-F.Add left right) = left && right
expr_groups_fit_level (Expr-F.Sub left right) = left && right
expr_groups_fit_level (Expr-F.Mul left right) = left && right
expr_groups_fit_level leaf = true

abbrev pub expr_groups_fit : Expr → Bool
expr_groups_fit = fold-Expr Bool expr_groups_fit_level

-- each array is as long as this one
abbrev pub expr_lengths_fit_level : Facts → Option ℤ → Expr-F Bool → Bool
expr_lengths_fit_level f len (Expr-F.Name name) = are_of_one_length len (array_in f.names name)
expr_lengths_fit_level f len (Expr-F.Add left right) = left && right
expr_lengths_fit_level f len (Expr-F.Sub left right) = left && right
expr_lengths_fit_level f len (Expr-F.Mul left right) = left && right
expr_lengths_fit_level f len leaf = true

abbrev pub expr_lengths_fit : Facts → Option ℤ → Expr → Bool
expr_lengths_fit f len = fold-Expr Bool (expr_lengths_fit_level f len)

-- an expression with the same value on all ranks: no rank, no index and no array stands in it
abbrev pub expr_uniform_level : Facts → Expr-F Bool → Bool
expr_uniform_level f (Expr-F.Name name) = not (is_array f.names name)
expr_uniform_level f Expr-F.Index = false
expr_uniform_level f Expr-F.Rank = false
expr_uniform_level f (Expr-F.Add left right) = left && right
expr_uniform_level f (Expr-F.Sub left right) = left && right
expr_uniform_level f (Expr-F.Mul left right) = left && right
expr_uniform_level f leaf = true

abbrev pub expr_uniform : Facts → Expr → Bool
expr_uniform f = fold-Expr Bool (expr_uniform_level f)

-- ---- where a statement stands

-- the body
abbrev pub body_place : Surroundings
body_place = record { in_callback = false; before = 0; in_when = false; blocks = 0; loops = 0 }

-- a callback, behind so many of its statements
abbrev pub callback_place : ℕ → Surroundings
callback_place before = record { in_callback = true; before = before; in_when = false; blocks = 0; loops = 0 }

-- inside a block that stands there
abbrev pub inside_when : Surroundings → Surroundings
inside_when p = record p { in_when = true; blocks = p.blocks + 1 }

abbrev pub inside_if : Surroundings → Surroundings
inside_if p = record p { blocks = p.blocks + 1 }

abbrev pub inside_for : Surroundings → Surroundings
inside_for p = record p { blocks = p.blocks + 1; loops = p.loops + 1 }

-- ---- the rules of statements

-- it names only what is declared, each as the kind that is needed; groups and members are those of the body
abbrev pub is_known : {X : Type 0} → Facts → Stmt-F X → Bool
is_known f (Stmt-F.Let spot array value) = is_array f.names array && expr_known f value
is_known f (Stmt-F.Set spot counter value) = is_counter f.names counter && expr_known f value
is_known f (Stmt-F.Print spot name) = is_value f name
is_known f (Stmt-F.Register spot name) = is_callback f name
is_known f (Stmt-F.Branch spot test left right body other) = expr_known f left && expr_known f right
is_known f (Stmt-F.Loop spot counter first last body) = is_counter f.names counter && expr_known f first
is_known f (Stmt-F.Reduce spot op counter array) = is_counter f.names counter && is_array f.names array
is_known f (Stmt-F.Agree spot counter array index) = is_counter f.names counter && is_array f.names array
is_known f (Stmt-F.Shift spot source target by) = is_array f.names source && is_array f.names target
is_known f (Stmt-F.Group spot group start depth) = has_group f group
is_known f (Stmt-F.Member spot group member array) = has_group f group && is_array f.names array
is_known f (Stmt-F.Store spot group member subset) = has_group f group && has_member f group member
is_known f (Stmt-F.Commit spot group) = has_group f group
is_known f (Stmt-F.CommitBarrier spot group) = has_group f group
is_known f (Stmt-F.Restore spot group member stamp) = has_group f group && has_member f group member && expr_known f stamp
is_known f (Stmt-F.Drop spot group stamp) = has_group f group && expr_known f stamp
is_known f other = true

-- its numbers are within their limits, and the arrays that it puts together are of one length
abbrev pub is_in_range : {X : Type 0} → Facts → Stmt-F X → Bool
is_in_range f (Stmt-F.Let spot array value) = expr_groups_fit value && expr_lengths_fit f (array_in f.names array) value
is_in_range f (Stmt-F.Set spot counter value) = expr_groups_fit value
is_in_range f (Stmt-F.Branch spot test left right body other) = expr_groups_fit left && expr_groups_fit right
is_in_range f (Stmt-F.Loop spot counter first last body) = expr_groups_fit first && is_between 0 9999 last
is_in_range f (Stmt-F.Agree spot counter array index) = is_index_if (array_in f.names array) index
is_in_range f (Stmt-F.Shift spot source target by) = is_between 1 15 by && are_of_one_length (array_in f.names source) (array_in f.names target)
is_in_range f (Stmt-F.Group spot group start depth) = is_one_of_eight group && is_between 0 1000000000 start && is_between 0 15 depth
is_in_range f (Stmt-F.Member spot group member array) = is_one_of_eight group && is_one_of_eight member
is_in_range f (Stmt-F.Store spot group member subset) = is_one_of_eight group && is_one_of_eight member && picked_fits_32 subset
is_in_range f (Stmt-F.Commit spot group) = is_one_of_eight group
is_in_range f (Stmt-F.CommitBarrier spot group) = is_one_of_eight group
is_in_range f (Stmt-F.Restore spot group member stamp) = is_one_of_eight group && is_one_of_eight member && expr_groups_fit stamp
is_in_range f (Stmt-F.Drop spot group stamp) = is_one_of_eight group && expr_groups_fit stamp
is_in_range f other = true

-- there is room for it: a block stands in at most seven others, a loop in at most three, and a callback has at most 16
-- statements
abbrev pub has_room : {X : Type 0} → Surroundings → Stmt-F X → Bool
has_room p (Stmt-F.RoleOnly spot role body) = nat_lt p.before 16 && nat_lt p.blocks 8
has_room p (Stmt-F.Branch spot test left right body other) = nat_lt p.before 16 && nat_lt p.blocks 8
has_room p (Stmt-F.Loop spot counter first last body) = nat_lt p.before 16 && nat_lt p.blocks 8 && nat_lt p.loops 4
has_room p simple = nat_lt p.before 16

-- control and stamps are the same on all ranks: their expressions are uniform, and no counter is set inside `when`
abbrev pub is_uniform : {X : Type 0} → Facts → Surroundings → Stmt-F X → Bool
is_uniform f p (Stmt-F.Set spot counter value) = not p.in_when && expr_uniform f value
is_uniform f p (Stmt-F.Loop spot counter first last body) = not p.in_when && expr_uniform f first
is_uniform f p (Stmt-F.Branch spot test left right body other) = expr_uniform f left && expr_uniform f right
is_uniform f p (Stmt-F.Restore spot group member stamp) = expr_uniform f stamp
is_uniform f p (Stmt-F.Drop spot group stamp) = expr_uniform f stamp
is_uniform f p other = true

-- a statement that all ranks must come to, or that changes what a group keeps
abbrev pub is_collective : {X : Type 0} → Stmt-F X → Bool
is_collective (Stmt-F.Barrier spot) = true
is_collective (Stmt-F.Reduce spot op counter array) = true
is_collective (Stmt-F.Agree spot counter array index) = true
is_collective (Stmt-F.Shift spot source target by) = true
is_collective (Stmt-F.Group spot group start depth) = true
is_collective (Stmt-F.Commit spot group) = true
is_collective (Stmt-F.CommitBarrier spot group) = true
is_collective (Stmt-F.Drop spot group stamp) = true
is_collective other = false

-- a statement that a callback may have
abbrev pub may_stand_in_callback : {X : Type 0} → Stmt-F X → Bool
may_stand_in_callback (Stmt-F.Let spot array value) = true
may_stand_in_callback (Stmt-F.Print spot name) = true
may_stand_in_callback other = false

-- it may stand where it stands: none that is for all inside `when`, and in a callback only those that it may have
abbrev pub is_placed : {X : Type 0} → Surroundings → Stmt-F X → Bool
is_placed p s = not (p.in_when && is_collective s) && not (p.in_callback && not (may_stand_in_callback s))

-- a group is created with this start stamp and this depth, where it is created at all
abbrev pub is_same_creation : Option Created → ℤ → ℤ → Bool
is_same_creation None start depth = true
is_same_creation (Some first) start depth = int_eq first.start start && int_eq first.depth depth

-- it creates its group as the first that creates it does
abbrev pub agrees_on_group : {X : Type 0} → Facts → Stmt-F X → Bool
agrees_on_group f (Stmt-F.Group spot group start depth) = is_same_creation (first_created f.created group) start depth
agrees_on_group f other = true

-- this array is attached to a member, where one is attached at all
abbrev pub is_same_attachment : Option (List ℕ) → List ℕ → Bool
is_same_attachment None array = true
is_same_attachment (Some first) array = bytes_eq first array

-- it attaches to its member the array that the first that attaches it does
abbrev pub agrees_on_member : {X : Type 0} → Facts → Stmt-F X → Bool
agrees_on_member f (Stmt-F.Member spot group member array) = is_same_attachment (first_attached f.attached group member) array
agrees_on_member f other = true

-- a pair of numbers that aren't negative
abbrev pub pair_of : ℤ × ℤ → ℕ × ℕ
pair_of p = (count_of p.0, count_of p.1)

-- what is wrong with a subset of an array of this length
abbrev pub subset_fault : ℕ → Picked → Option SubsetFault
subset_fault len picked.Full = fault_of_whole len
subset_fault len picked.Empty = None
subset_fault len (picked.Strided blocks start end stride) = fault_of_blocks len (count_of blocks) (count_of start) (count_of end) (count_of stride)
subset_fault len (picked.Ranges pairs) = fault_of_pairs len (map pair_of pairs)

abbrev pub is_faultless : Option SubsetFault → Bool
is_faultless None = true
is_faultless (Some fault) = false

-- a subset lies in an array, where the array is declared and all numbers fit
abbrev pub lies_in : Option ℤ → Picked → Bool
lies_in None subset = true
lies_in (Some len) subset = not (fits_32 len && picked_fits_32 subset) || is_faultless (subset_fault (count_of len) subset)

-- the length of the array that is attached
abbrev pub length_of_attached : List Decl → Option (List ℕ) → Option ℤ
length_of_attached names None = None
length_of_attached names (Some array) = array_in names array

-- what it stores lies in the array of its member
abbrev pub stores_inside : {X : Type 0} → Facts → Stmt-F X → Bool
stores_inside f (Stmt-F.Store spot group member subset) = lies_in (length_of_attached f.names (first_attached f.attached group member)) subset
stores_inside f other = true

-- ---- the rules of the other lines

-- ranks and spares together
abbrev pub procs_of : Job → ℕ
procs_of job = count_of job.ranks + count_of job.spares

-- a process of the job
abbrev pub is_process : ℕ → ℤ → Bool
is_process procs (pos n) = nat_lt n procs
is_process procs (negsuc n) = false

-- an event's processes are there, and its rounds are 1 to 1,000
abbrev pub is_event_in_range : ℕ → EventKind → Bool
is_event_in_range procs (event.Step p) = is_process procs p
is_event_in_range procs (event.Rest p) = is_process procs p
is_event_in_range procs (event.Deliver from to) = is_process procs from && is_process procs to
is_event_in_range procs (event.Kill p) = is_process procs p
is_event_in_range procs (event.Notice lost to) = is_process procs lost && is_process procs to
is_event_in_range procs (event.Run rounds) = is_between 1 1000 rounds

-- three processes are numbered 0 to 2
no_fourth : is_event_in_range 3 (event.Deliver (pos 2) (pos 3)) ≡ false
no_fourth = refl

-- a line of its own for the rows below
abbrev row_spot : Spot
row_spot = record { line = 9; column = 1 }

-- no counter is set inside `when`
no_set_inside_when : (f : Facts) → is_uniform {X = ℕ} f (inside_when body_place) (Stmt-F.Set row_spot (codes "c") (expr.Number (pos 1))) ≡ false
no_set_inside_when f = refl

-- no rank waits for the others in a callback
no_barrier_in_callback : is_placed {X = ℕ} (callback_place 0) (Stmt-F.Barrier row_spot) ≡ false
no_barrier_in_callback = refl

-- the ninth block of those in one another
no_ninth_block : has_room {X = ℕ} (record body_place { blocks = 8 }) (Stmt-F.RoleOnly row_spot Initial []) ≡ false
no_ninth_block = refl

-- a shift of 16 places
no_far_shift : (f : Facts) → is_in_range {X = ℕ} f (Stmt-F.Shift row_spot (codes "a") (codes "a") (pos 16)) ≡ false
no_far_shift f = refl
