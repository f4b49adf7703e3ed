-- In an accepted job each array that is attached to a member is declared, and has a length of 32 bits.
use Rattle.std.proofs.Common.{◌≡◌, ◌≤◌, ◌<◌, ◌^◌, ℕ, zero, suc, Bool, true, false, cond, List, [], ◌∷◌, ◌++◌, map, length, get_or, replicate, Option, Some, None, refl, sym, subst, arith, lit<}
use Rattle.std.specs.Prelude.{ℤ, pos, negsuc, if◌then◌else◌, is_some}
use Rattle.std.specs.List.{AllByRecursion, find}
use Rattle.std.specs.Str.{bytes_eq}
use Rattle.std.proofs.lemmas.Bool.{and_parts}
use Rattle.std.proofs.lemmas.List.{length-replicate}
use Rattle.fx_script.specs.declared.job.Decl.{Decl}
use Rattle.fx_script.specs.declared.job.Decl.TheVariants as decl
use Rattle.fx_script.specs.declared.job.Job.{Job}
use Rattle.fx_script.specs.declared.job.Stmt.{Stmt}
use Rattle.fx_script.specs.declared.job.Stmt.TheOpen.{Stmt-F}
use Rattle.fx_script.specs.declared.job.Stmt.TheViews.{roll-Stmt}
use Rattle.fx_script.specs.declared.job.Stmt.TheFolds.{fold-roll-Stmt, map-Stmt, ind-Stmt}
use Rattle.fx_script.specs.Spelling.{chained}
use Rattle.fx_check.specs.declared.surroundings.Surroundings.{Surroundings}
use Rattle.fx_check.specs.declared.tables.Attached.{Attached}
use Rattle.fx_check.specs.Acceptance.{Line, decl_lines, lines_at, stmt_lines_level, stmt_lines, stmts_lines}
use Rattle.fx_check.specs.Facts.{Facts, facts_of, is_array, array_in, has_group, attaches, array_of, first_attached, attached_level, attached_by, attached_in}
use Rattle.fx_check.specs.Parts.{KeepsByParts, KeepRules}
use Rattle.fx_check.specs.Rules.{body_place, inside_when, inside_if, inside_for, is_between, fits_32, length_of_attached, count_of}
use Rattle.fx_walk.specs.State.{zero_arrays}
use Rattle.fx_flow.specs.Code.{DeclaresMembers}
use Rattle.fx_flow.proofs.Following.{lines_front, lines_behind}

-- ---- lengths

-- from 1 to 256
narrow : (n : ℤ) → is_between 1 256 n ≡ true → fits_32 n ≡ true
narrow (pos n) h = grind arith
narrow (negsuc n) h = absurd cc

lens_by : (names : List Decl) (name : List ℕ) (own len : ℤ) (b : Bool) → is_between 1 256 own ≡ true → (array_in names name ≡ Some len → is_between 1 256 len ≡ true)
    → (if b then Some own else array_in names name) ≡ Some len → is_between 1 256 len ≡ true
lens_by names name own len true h rest is = let same : own ≡ len = cc in subst (λ (n : ℤ). is_between 1 256 n ≡ true) same h
lens_by names name own len false h rest is = rest is

-- each array that is declared has 1 to 256 elements
lens : (before names : List Decl) → KeepRules (decl_lines before names) → (name : List ℕ) (len : ℤ) → array_in names name ≡ Some len → is_between 1 256 len ≡ true
lens before [] keep name len is = absurd cc
lens before (decl.Array spot own of ∷ names) keep name len is =
    lens_by names name of len (bytes_eq own name) keep.0.in_range (lens (before ++ decl.Array spot own of ∷ []) names keep.1 name len) is
lens before (decl.Counter spot own ∷ names) keep name len is = lens (before ++ decl.Counter spot own ∷ []) names keep.1 name len is

-- no array of zeros has more than 32 bits count
below_all_32 : (n : ℤ) → is_between 1 256 n ≡ true → length (replicate (count_of n) (pos 0)) < 2 ^ 32
below_all_32 (pos n) h = let narrow_n : n ≤ 256 = grind arith in rw length-replicate (omega (arith, narrow_n))
below_all_32 (negsuc n) h = absurd cc

pub short : (before names : List Decl) → KeepRules (decl_lines before names) → (slot : ℕ) → length (get_or (zero_arrays names) slot []) < 2 ^ 32
short before [] keep slot = lit< tt
short before (decl.Array spot own len ∷ names) keep zero = below_all_32 len keep.0.in_range
short before (decl.Array spot own len ∷ names) keep (suc slot) = short (before ++ decl.Array spot own len ∷ []) names keep.1 slot
short before (decl.Counter spot own ∷ names) keep slot = short (before ++ decl.Counter spot own ∷ []) names keep.1 slot

-- ---- members

-- the arrays of these attachments are declared
abbrev AreArrays : Facts → List Attached → Type 0
AreArrays f all = AllByRecursion (λ (a : Attached). is_array f.names a.array ≡ true) all

arrays_on : (f : Facts) (a b : List Attached) → AreArrays f a → AreArrays f b → AreArrays f (a ++ b)
arrays_on f [] b one other = other
arrays_on f (x ∷ a) b one other = (one.0, arrays_on f a b one.1 other)

abbrev IsKnown : Facts → Stmt → Type 0
IsKnown f s = (p : Surroundings) → KeepRules (stmt_lines f s p) → AreArrays f (attached_by s)

known_rolled : (f : Facts) (x : Stmt-F Stmt)
    → ((p : Surroundings) → KeepRules (stmt_lines_level f (map-Stmt Stmt (Surroundings → List Line) (stmt_lines f) x) p) → AreArrays f (attached_level (map-Stmt Stmt (List Attached) attached_by x)))
    → IsKnown f (roll-Stmt x)
known_rolled f x level p keep =
    subst (AreArrays f) (sym (fold-roll-Stmt (List Attached) attached_level x))
    (level p (subst (λ (l : Surroundings → List Line). KeepRules (l p)) (fold-roll-Stmt (Surroundings → List Line) (stmt_lines_level f) x) keep))

known_list : (f : Facts) (ts : List ((s : Stmt) × IsKnown f s)) (p : Surroundings) → KeepRules (lines_at (map (stmt_lines f) (map (λ t. t.0) ts)) p)
    → AreArrays f (chained (map attached_by (map (λ t. t.0) ts)))
known_list f [] p keep = tt
known_list f (t ∷ ts) p keep =
    let later = lines_at (map (stmt_lines f) (map (λ (t : (s : Stmt) × IsKnown f s). t.0) ts)) p in
    arrays_on f (attached_by t.0) (chained (map attached_by (map (λ (t : (s : Stmt) × IsKnown f s). t.0) ts)))
    (t.1 p (lines_front (stmt_lines f t.0 p) later keep)) (known_list f ts p (lines_behind (stmt_lines f t.0 p) later keep))

known_level : (f : Facts) (y : Stmt-F ((s : Stmt) × IsKnown f s)) → IsKnown f (roll-Stmt (map-Stmt ((s : Stmt) × IsKnown f s) Stmt (λ t. t.0) y))
known_level f (Stmt-F.Member spot group member array) =
    known_rolled f (Stmt-F.Member spot group member array) (λ p keep. ((and_parts (has_group f group) (is_array f.names array) keep.0.known).1, tt))
known_level f (Stmt-F.RoleOnly spot role ts) = known_rolled f (Stmt-F.RoleOnly spot role (map (λ t. t.0) ts)) (λ p keep. known_list f ts (inside_when p) keep.1)
known_level f (Stmt-F.Branch spot test left right ts None) = known_rolled f (Stmt-F.Branch spot test left right (map (λ t. t.0) ts) None)
    (λ p keep. arrays_on f _ [] (known_list f ts (inside_if p) (lines_front _ [] keep.1)) tt)
known_level f (Stmt-F.Branch spot test left right ts (Some us)) = known_rolled f (Stmt-F.Branch spot test left right (map (λ t. t.0) ts) (Some (map (λ t. t.0) us)))
    (λ p keep. arrays_on f _ _ (known_list f ts (inside_if p) (lines_front _ _ keep.1)) (known_list f us (inside_if p) (lines_behind _ _ keep.1)))
known_level f (Stmt-F.Loop spot counter first last ts) = known_rolled f (Stmt-F.Loop spot counter first last (map (λ t. t.0) ts)) (λ p keep. known_list f ts (inside_for p) keep.1)
known_level f (Stmt-F.Let spot array value) = known_rolled f (Stmt-F.Let spot array value) (λ p keep. tt)
known_level f (Stmt-F.Set spot counter value) = known_rolled f (Stmt-F.Set spot counter value) (λ p keep. tt)
known_level f (Stmt-F.Print spot name) = known_rolled f (Stmt-F.Print spot name) (λ p keep. tt)
known_level f (Stmt-F.Register spot name) = known_rolled f (Stmt-F.Register spot name) (λ p keep. tt)
known_level f (Stmt-F.Barrier spot) = known_rolled f (Stmt-F.Barrier spot) (λ p keep. tt)
known_level f (Stmt-F.Reduce spot o counter array) = known_rolled f (Stmt-F.Reduce spot o counter array) (λ p keep. tt)
known_level f (Stmt-F.Agree spot counter array index) = known_rolled f (Stmt-F.Agree spot counter array index) (λ p keep. tt)
known_level f (Stmt-F.Shift spot source target by) = known_rolled f (Stmt-F.Shift spot source target by) (λ p keep. tt)
known_level f (Stmt-F.Group spot group start depth) = known_rolled f (Stmt-F.Group spot group start depth) (λ p keep. tt)
known_level f (Stmt-F.Store spot group member subset) = known_rolled f (Stmt-F.Store spot group member subset) (λ p keep. tt)
known_level f (Stmt-F.Commit spot group) = known_rolled f (Stmt-F.Commit spot group) (λ p keep. tt)
known_level f (Stmt-F.CommitBarrier spot group) = known_rolled f (Stmt-F.CommitBarrier spot group) (λ p keep. tt)
known_level f (Stmt-F.Restore spot group member stamp) = known_rolled f (Stmt-F.Restore spot group member stamp) (λ p keep. tt)
known_level f (Stmt-F.Drop spot group stamp) = known_rolled f (Stmt-F.Drop spot group stamp) (λ p keep. tt)

known : (f : Facts) (s : Stmt) → IsKnown f s
known f = ind-Stmt (IsKnown f) (λ x y is. subst (λ x. IsKnown f (roll-Stmt x)) is (known_level f y))

-- all arrays that statements attach are declared
all_known : (f : Facts) (ss : List Stmt) (p : Surroundings) → KeepRules (stmts_lines f ss p) → AreArrays f (attached_in ss)
all_known f [] p keep = tt
all_known f (s ∷ ss) p keep =
    arrays_on f (attached_by s) (attached_in ss) (known f s p (lines_front (stmt_lines f s p) (stmts_lines f ss p) keep)) (all_known f ss p (lines_behind (stmt_lines f s p) (stmts_lines f ss p) keep))

-- the length of a declared array
length_by : (o : Option ℤ) → is_some o ≡ true → (len : ℤ) × (o ≡ Some len)
length_by None h = absurd cc
length_by (Some len) h = (len, refl)

found_by : (f : Facts) (own : List ℕ) (b : Bool) (rest : Option Attached) → is_array f.names own ≡ true
    → (is_some (array_of rest) ≡ true → (len : ℤ) × (length_of_attached f.names (array_of rest) ≡ Some len))
    → (a : Attached) → a.array ≡ own → is_some (array_of (cond b (Some a) rest)) ≡ true → (len : ℤ) × (length_of_attached f.names (array_of (cond b (Some a) rest)) ≡ Some len)
found_by f own true rest h later a is some = length_by (array_in f.names a.array) (rw is h)
found_by f own false rest h later a is some = later some

-- a member that is found has a declared array
found : (f : Facts) (all : List Attached) → AreArrays f all → (group member : ℤ) → is_some (first_attached all group member) ≡ true
    → (len : ℤ) × (length_of_attached f.names (first_attached all group member) ≡ Some len)
found f [] arrays group member some = absurd cc
found f (a ∷ all) arrays group member some =
    found_by f a.array (attaches group member a) (find (attaches group member) all) arrays.0 (found f all arrays.1 group member) a refl some

length_within : (names : List Decl) (array : Option (List ℕ)) (len : ℤ) → KeepRules (decl_lines [] names) → length_of_attached names array ≡ Some len → fits_32 len ≡ true
length_within names None len keep is = absurd cc
length_within names (Some name) len keep is = narrow len (lens [] names keep name len is)

pub declares : (job : Job) → KeepsByParts job → DeclaresMembers (facts_of job)
declares job parts group member some =
    let is = found (facts_of job) (attached_in job.body) (all_known (facts_of job) job.body body_place parts.body) group member some in
    (is.0, is.1, length_within job.names (first_attached (attached_in job.body) group member) is.0 parts.names is.1)
