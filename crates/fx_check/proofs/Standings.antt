-- What a body comes to, statement by statement.
use Rattle.std.proofs.Common.{◌≡◌, List, [], ◌∷◌, ◌++◌, map, Some, None, refl, sym, ap, subst, ◌∙◌, append_assoc}
use Rattle.fx_script.specs.declared.job.Stmt.{Stmt}
use Rattle.fx_script.specs.declared.job.Stmt.TheOpen.{Stmt-F}
use Rattle.fx_script.specs.declared.job.Stmt.TheViews.{roll-Stmt}
use Rattle.fx_script.specs.declared.job.Stmt.TheFolds.{fold-roll-Stmt, map-Stmt, ind-Stmt}
use Rattle.fx_script.specs.Spelling.{chained}
use Rattle.fx_check.specs.declared.surroundings.Surroundings.{Surroundings}
use Rattle.fx_check.specs.declared.tables.Attached.{Attached}
use Rattle.fx_check.specs.declared.tables.Created.{Created}
use Rattle.fx_check.specs.Acceptance.{Line, stmt_line, lines_at, inner_lines, stmt_lines_level, stmt_lines, stmts_lines}
use Rattle.fx_check.specs.Facts.{Facts, created_level, created_by, created_in, attached_level, attached_by, attached_in}
use Rattle.fx_check.specs.Rules.{inside_when, inside_if, inside_for}
use Rattle.fx_check.specs.Statements.{Standing, unit_of, standing_at, standing_level, standing, standing_in, line_at, creation_in, attachment_in}

-- ---- whatever a statement gives at a place

-- what standings give
abbrev all_of : {L : Type 0} → (Standing → List L) → List Standing → List L
all_of g ss = chained (map g ss)

all_append : {L : Type 0} (g : Standing → List L) (a b : List Standing) → all_of g (a ++ b) ≡ all_of g a ++ all_of g b
all_append g [] b = refl
all_append {L = L} g (s ∷ a) b = ap (λ (l : List L). g s ++ l) (all_append g a b) ∙ sym (append_assoc (g s) (all_of g a) (all_of g b))

-- a statement gives what the statements in it and itself give
abbrev IsTold : {L : Type 0} → (Standing → List L) → (Stmt → Surroundings → List L) → Stmt → Type 0
IsTold g h s = (p : Surroundings) → h s p ≡ all_of g (standing s p)

-- the statements themselves
abbrev firsts : {L : Type 0} (g : Standing → List L) (h : Stmt → Surroundings → List L) → List ((s : Stmt) × IsTold g h s) → List Stmt
firsts g h ts = map (λ t. t.0) ts

told_list : {L : Type 0} (g : Standing → List L) (h : Stmt → Surroundings → List L) (ts : List ((s : Stmt) × IsTold g h s)) (p : Surroundings)
    → lines_at (map h (firsts g h ts)) p ≡ all_of g (lines_at (map standing (firsts g h ts)) p)
told_list g h [] p = refl
told_list {L = L} g h (t ∷ ts) p =
    ap (λ (l : List L). l ++ lines_at (map h (firsts g h ts)) p) (t.1 p)
    ∙ ap (λ (l : List L). all_of g (standing t.0 p) ++ l) (told_list g h ts p)
    ∙ sym (all_append g (standing t.0 p) (lines_at (map standing (firsts g h ts)) p))

told_inner : {L : Type 0} (g : Standing → List L) (h : Stmt → Surroundings → List L) (y : Stmt-F ((s : Stmt) × IsTold g h s)) (p : Surroundings)
    → inner_lines (map-Stmt Stmt (Surroundings → List L) h (map-Stmt ((s : Stmt) × IsTold g h s) Stmt (λ t. t.0) y)) p
    ≡ all_of g (inner_lines (map-Stmt Stmt (Surroundings → List Standing) standing (map-Stmt ((s : Stmt) × IsTold g h s) Stmt (λ t. t.0) y)) p)
told_inner g h (Stmt-F.RoleOnly spot role ts) p = told_list g h ts (inside_when p)
told_inner {L = L} g h (Stmt-F.Branch spot test left right ts None) p =
    ap (λ (l : List L). l ++ []) (told_list g h ts (inside_if p))
    ∙ sym (all_append g (lines_at (map standing (firsts g h ts)) (inside_if p)) [])
told_inner {L = L} g h (Stmt-F.Branch spot test left right ts (Some us)) p =
    ap (λ (l : List L). l ++ lines_at (map h (firsts g h us)) (inside_if p)) (told_list g h ts (inside_if p))
    ∙ ap (λ (l : List L). all_of g (lines_at (map standing (firsts g h ts)) (inside_if p)) ++ l) (told_list g h us (inside_if p))
    ∙ sym (all_append g (lines_at (map standing (firsts g h ts)) (inside_if p)) (lines_at (map standing (firsts g h us)) (inside_if p)))
told_inner g h (Stmt-F.Loop spot counter first last ts) p = told_list g h ts (inside_for p)
told_inner g h other p = refl

-- by one level
abbrev IsLevel : {L : Type 0} → (Standing → List L) → (Stmt → Surroundings → List L) → Type 0
IsLevel {L = L} g h = (x : Stmt-F Stmt) (p : Surroundings) → h (roll-Stmt x) p ≡ g (standing_at p x) ++ inner_lines (map-Stmt Stmt (Surroundings → List L) h x) p

map_units : {X Y : Type 0} (k : X → Y) (xs : List X) → map (unit_of {X = Y}) (map k xs) ≡ map (unit_of {X = X}) xs
map_units k [] = refl
map_units k (x ∷ xs) = ap (λ (l : List (Unit {0})). tt ∷ l) (map_units k xs)

same_bare : {X Y : Type 0} (k : X → Y) (p : Surroundings) (x : Stmt-F X) → standing_at p (map-Stmt X Y k x) ≡ standing_at p x
same_bare k p (Stmt-F.RoleOnly spot role ts) = ap (λ (l : List (Unit {0})). record { place = p; bare = Stmt-F.RoleOnly spot role l }) (map_units k ts)
same_bare k p (Stmt-F.Branch spot test left right ts None) = ap (λ (l : List (Unit {0})). record { place = p; bare = Stmt-F.Branch spot test left right l None }) (map_units k ts)
same_bare {X = X} {Y = Y} k p (Stmt-F.Branch spot test left right ts (Some us)) =
    ap (λ (l : List (Unit {0})). record { place = p; bare = Stmt-F.Branch spot test left right l (Some (map (unit_of {X = Y}) (map k us))) }) (map_units k ts)
    ∙ ap (λ (l : List (Unit {0})). record { place = p; bare = Stmt-F.Branch spot test left right (map (unit_of {X = X}) ts) (Some l) }) (map_units k us)
same_bare k p (Stmt-F.Loop spot counter first last ts) = ap (λ (l : List (Unit {0})). record { place = p; bare = Stmt-F.Loop spot counter first last l }) (map_units k ts)
same_bare k p other = refl

standing_rolls : (x : Stmt-F Stmt) (p : Surroundings) → standing (roll-Stmt x) p ≡ standing_at p x ∷ inner_lines (map-Stmt Stmt (Surroundings → List Standing) standing x) p
standing_rolls x p =
    ap (λ (l : Surroundings → List Standing). l p) (fold-roll-Stmt (Surroundings → List Standing) standing_level x)
    ∙ ap (λ (s : Standing). s ∷ inner_lines (map-Stmt Stmt (Surroundings → List Standing) standing x) p) (same_bare standing p x)

told_level : {L : Type 0} (g : Standing → List L) (h : Stmt → Surroundings → List L) → IsLevel g h → (y : Stmt-F ((s : Stmt) × IsTold g h s))
    → IsTold g h (roll-Stmt (map-Stmt ((s : Stmt) × IsTold g h s) Stmt (λ t. t.0) y))
told_level {L = L} g h level y p =
    let x : Stmt-F Stmt = map-Stmt ((s : Stmt) × IsTold g h s) Stmt (λ t. t.0) y in
    level x p ∙ ap (λ (l : List L). g (standing_at p x) ++ l) (told_inner g h y p) ∙ sym (ap (all_of g) (standing_rolls x p))

told : {L : Type 0} (g : Standing → List L) (h : Stmt → Surroundings → List L) → IsLevel g h → (s : Stmt) → IsTold g h s
told g h level = ind-Stmt (IsTold g h) (λ x y is. subst (λ x. IsTold g h (roll-Stmt x)) is (told_level g h level y))

told_in : {L : Type 0} (g : Standing → List L) (h : Stmt → Surroundings → List L) → IsLevel g h → (ss : List Stmt) (p : Surroundings)
    → chained (map (λ (s : Stmt). h s p) ss) ≡ all_of g (standing_in ss p)
told_in g h level [] p = refl
told_in {L = L} g h level (s ∷ ss) p =
    ap (λ (l : List L). l ++ chained (map (λ (s : Stmt). h s p) ss)) (told g h level s p)
    ∙ ap (λ (l : List L). all_of g (standing s p) ++ l) (told_in g h level ss p)
    ∙ sym (all_append g (standing s p) (standing_in ss p))

-- ---- lines

line_bare : (f : Facts) (p : Surroundings) (x : Stmt-F Stmt) → stmt_line f p (map-Stmt Stmt (Surroundings → List Line) (stmt_lines f) x) ≡ line_at f (standing_at p x)
line_bare f p (Stmt-F.Barrier spot) = refl
line_bare f p other = refl

abbrev line_alone : Facts → Standing → List Line
line_alone f s = line_at f s ∷ []

lines_level : (f : Facts) → IsLevel (line_alone f) (stmt_lines f)
lines_level f x p =
    ap (λ (l : Surroundings → List Line). l p) (fold-roll-Stmt (Surroundings → List Line) (stmt_lines_level f) x)
    ∙ ap (λ (l : Line). l ∷ inner_lines (map-Stmt Stmt (Surroundings → List Line) (stmt_lines f) x) p) (line_bare f p x)

alone : (f : Facts) (ss : List Standing) → all_of (line_alone f) ss ≡ map (line_at f) ss
alone f [] = refl
alone f (s ∷ ss) = ap (λ (l : List Line). line_at f s ∷ l) (alone f ss)

pub lines_are : (f : Facts) (ss : List Stmt) (p : Surroundings) → stmts_lines f ss p ≡ map (line_at f) (standing_in ss p)
lines_are f ss p = told_in (line_alone f) (stmt_lines f) (lines_level f) ss p ∙ alone f (standing_in ss p)

-- ---- groups and members, whatever stands around them

placeless : {L : Type 0} (k : Stmt → List L) (ss : List Stmt) (p : Surroundings) → chained (map k ss) ≡ lines_at (map (λ (s : Stmt) (q : Surroundings). k s) ss) p
placeless k [] p = refl
placeless {L = L} k (s ∷ ss) p = ap (λ (l : List L). k s ++ l) (placeless k ss p)

created_bare : (x : Stmt-F Stmt) (p : Surroundings) → created_level (map-Stmt Stmt (List Created) created_by x)
    ≡ creation_in (standing_at p x).bare ++ inner_lines (map-Stmt Stmt (Surroundings → List Created) (λ s q. created_by s) x) p
created_bare (Stmt-F.RoleOnly spot role ts) p = placeless created_by ts (inside_when p)
created_bare (Stmt-F.Branch spot test left right ts None) p = ap (λ (l : List Created). l ++ []) (placeless created_by ts (inside_if p))
created_bare (Stmt-F.Branch spot test left right ts (Some us)) p =
    ap (λ (l : List Created). l ++ chained (map created_by us)) (placeless created_by ts (inside_if p))
    ∙ ap (λ (l : List Created). lines_at (map (λ (s : Stmt) (q : Surroundings). created_by s) ts) (inside_if p) ++ l) (placeless created_by us (inside_if p))
created_bare (Stmt-F.Loop spot counter first last ts) p = placeless created_by ts (inside_for p)
created_bare other p = refl

pub created_are : (ss : List Stmt) (p : Surroundings) → created_in ss ≡ chained (map (λ (s : Standing). creation_in s.bare) (standing_in ss p))
created_are ss p =
    told_in (λ (s : Standing). creation_in s.bare) (λ (s : Stmt) (q : Surroundings). created_by s)
    (λ (x : Stmt-F Stmt) (q : Surroundings). fold-roll-Stmt (List Created) created_level x ∙ created_bare x q) ss p

attached_bare : (x : Stmt-F Stmt) (p : Surroundings) → attached_level (map-Stmt Stmt (List Attached) attached_by x)
    ≡ attachment_in (standing_at p x).bare ++ inner_lines (map-Stmt Stmt (Surroundings → List Attached) (λ s q. attached_by s) x) p
attached_bare (Stmt-F.RoleOnly spot role ts) p = placeless attached_by ts (inside_when p)
attached_bare (Stmt-F.Branch spot test left right ts None) p = ap (λ (l : List Attached). l ++ []) (placeless attached_by ts (inside_if p))
attached_bare (Stmt-F.Branch spot test left right ts (Some us)) p =
    ap (λ (l : List Attached). l ++ chained (map attached_by us)) (placeless attached_by ts (inside_if p))
    ∙ ap (λ (l : List Attached). lines_at (map (λ (s : Stmt) (q : Surroundings). attached_by s) ts) (inside_if p) ++ l) (placeless attached_by us (inside_if p))
attached_bare (Stmt-F.Loop spot counter first last ts) p = placeless attached_by ts (inside_for p)
attached_bare other p = refl

pub attached_are : (ss : List Stmt) (p : Surroundings) → attached_in ss ≡ chained (map (λ (s : Standing). attachment_in s.bare) (standing_in ss p))
attached_are ss p =
    told_in (λ (s : Standing). attachment_in s.bare) (λ (s : Stmt) (q : Surroundings). attached_by s)
    (λ (x : Stmt-F Stmt) (q : Surroundings). fold-roll-Stmt (List Attached) attached_level x ∙ attached_bare x q) ss p
