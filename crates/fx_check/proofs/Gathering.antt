-- Tables that hold the first creation of each group, and the first attachment of each member.
use Rattle.std.proofs.Common.{◌≡◌, ℕ, ◌+◌, ◌<◌, length, drop, add-one, Bool, true, false, if◌then◌else◌, ◌&&◌, subst, List, [], ◌∷◌, ◌++◌, Option, Some, None, refl, sym, ap, ◌∙◌, inl, inr, ◌⊎◌}
use Rattle.std.specs.Prelude.{ℤ, is_some}
use Rattle.std.specs.List.{find}
use Rattle.std.specs.Option.{option_map}
use Rattle.std.specs.Ordering.{int_eq}
use Rattle.std.proofs.Math.ListN.{get_or}
use Rattle.std.proofs.Math.Seq.{drop-cons}
use Rattle.std.proofs.lemmas.Bool.{cases_Bool, and_parts}
use Rattle.std.proofs.lemmas.Bool.Decides.{Decides-int_eq}
use Rattle.fx_base.specs.declared.spot.Spot.{Spot}
use Rattle.fx_script.specs.declared.expr.Expr.{Expr}
use Rattle.fx_script.specs.declared.job.Stmt.{Stmt}
use Rattle.fx_script.specs.declared.job.Stmt.TheVariants as stmt
use Rattle.fx_script.specs.declared.job.Stmt.TheOpen.{Stmt-F}
use Rattle.fx_script.specs.declared.job.Stmt.TheViews.{roll-Stmt}
use Rattle.fx_script.specs.declared.job.Stmt.TheFolds.{fold-roll-Stmt}
use Rattle.fx_script.specs.declared.job.Test.{Test}
use Rattle.fx_check.specs.declared.tables.Attached.{Attached}
use Rattle.fx_check.specs.declared.tables.Created.{Created}
use Rattle.fx_check.specs.Facts.{created_by, created_in, attached_by, attached_in, created_level, attached_level, creates, attaches, array_of, first_created, first_attached, or_first, is_one_of_eight, GrewCreated, GrewAttached}

-- ---- the first of two

pub or_assoc : {X : Type 0} (a b c : Option X) → or_first (or_first a b) c ≡ or_first a (or_first b c)
or_assoc None b c = refl
or_assoc (Some x) b c = refl

pub or_none : {X : Type 0} (a : Option X) → or_first a None ≡ a
or_none None = refl
or_none (Some x) = refl

pub find_append : {X : Type 0} (p : X → Bool) (a b : List X) → find p (a ++ b) ≡ or_first (find p a) (find p b)
find_append p [] b = refl
find_append p (x ∷ a) b = elim (cases_Bool (p x)) [
  | inl t ↦ rw t refl
  | inr f ↦ rw f (find_append p a b)
]

array_or : (a b : Option Attached) → array_of (or_first a b) ≡ or_first (array_of a) (array_of b)
array_or None b = refl
array_or (Some x) b = refl

pub attached_append : (a b : List Attached) (group member : ℤ) → first_attached (a ++ b) group member ≡ or_first (first_attached a group member) (first_attached b group member)
attached_append a b group member = ap array_of (find_append (attaches group member) a b) ∙ array_or (find (attaches group member) a) (find (attaches group member) b)

pub created_append : (a b : List Created) (group : ℤ) → first_created (a ++ b) group ≡ or_first (first_created a group) (first_created b group)
created_append a b group = find_append (creates group) a b

-- the first in what is left of a list of statements
pub created_from : (ss : List Stmt) (i : ℕ) (s : Stmt) (group : ℤ) → i < length ss → s ≡ get_or ss i s
    → first_created (created_in (drop i ss)) group ≡ or_first (first_created (created_by s) group) (first_created (created_in (drop (i + 1) ss)) group)
created_from ss i s group within is =
    let from : drop i ss ≡ s ∷ drop (i + 1) ss = drop-cons ss i s within ∙ rw (← is, add-one) refl in
    ap (λ (l : List Stmt). first_created (created_in l) group) from ∙ created_append (created_by s) (created_in (drop (i + 1) ss)) group

pub attached_from : (ss : List Stmt) (i : ℕ) (s : Stmt) (group member : ℤ) → i < length ss → s ≡ get_or ss i s
    → first_attached (attached_in (drop i ss)) group member ≡ or_first (first_attached (attached_by s) group member) (first_attached (attached_in (drop (i + 1) ss)) group member)
attached_from ss i s group member within is =
    let from : drop i ss ≡ s ∷ drop (i + 1) ss = drop-cons ss i s within ∙ rw (← is, add-one) refl in
    ap (λ (l : List Stmt). first_attached (attached_in l) group member) from ∙ attached_append (attached_by s) (attached_in (drop (i + 1) ss)) group member

-- a branch with two lists has what both have
branch_rolls : (spot : Spot) (t : Test) (left right : Expr) (chosen other : List Stmt) → roll-Stmt (Stmt-F.Branch spot t left right chosen (Some other)) ≡ stmt.Branch spot t left right chosen (Some other)
branch_rolls spot t left right chosen other = stmt.rolls-Branch spot t left right chosen (Some other)

pub branch_creates : (s : Stmt) (spot : Spot) (t : Test) (left right : Expr) (chosen other : List Stmt) (o : Option (List Stmt)) → s ≡ stmt.Branch spot t left right chosen o → o ≡ Some other
    → created_by s ≡ created_in chosen ++ created_in other
branch_creates s spot t left right chosen other o is some =
    ap created_by (is ∙ ap (λ (x : Option (List Stmt)). stmt.Branch spot t left right chosen x) some ∙ sym (branch_rolls spot t left right chosen other))
    ∙ fold-roll-Stmt (List Created) created_level (Stmt-F.Branch spot t left right chosen (Some other))

pub branch_attaches : (s : Stmt) (spot : Spot) (t : Test) (left right : Expr) (chosen other : List Stmt) (o : Option (List Stmt)) → s ≡ stmt.Branch spot t left right chosen o → o ≡ Some other
    → attached_by s ≡ attached_in chosen ++ attached_in other
branch_attaches s spot t left right chosen other o is some =
    ap attached_by (is ∙ ap (λ (x : Option (List Stmt)). stmt.Branch spot t left right chosen x) some ∙ sym (branch_rolls spot t left right chosen other))
    ∙ fold-roll-Stmt (List Attached) attached_level (Stmt-F.Branch spot t left right chosen (Some other))

-- ---- groups

-- two lists, one after the other, have the same firsts as two others
abbrev pub SameCreated : List Created → List Created → List Created → List Created → Type 0
SameCreated a x b y = (group : ℤ) → is_one_of_eight group ≡ true → or_first (first_created a group) (first_created x group) ≡ or_first (first_created b group) (first_created y group)

pub created_step : (a b c x y : List Created) → GrewCreated a b x → GrewCreated b c y → GrewCreated a c (x ++ y)
created_step a b c x y f g = λ group e.
    g group e ∙ ap (λ (o : Option Created). or_first o (first_created y group)) (f group e) ∙ or_assoc (first_created a group) (first_created x group) (first_created y group)
    ∙ sym (ap (λ (o : Option Created). or_first (first_created a group) o) (find_append (creates group) x y))

pub created_none : (a : List Created) → GrewCreated a a []
created_none a = λ group e. sym (or_none (first_created a group))

pub created_taken : (old new : List Created) (s : Stmt) (rest : List Stmt) (b y : List Created) → SameCreated old (created_in (s ∷ rest)) b y → GrewCreated old new (created_by s)
    → SameCreated new (created_in rest) b y
created_taken old new s rest b y same grew = λ group e.
    ap (λ (o : Option Created). or_first o (first_created (created_in rest) group)) (grew group e)
    ∙ or_assoc (first_created old group) (first_created (created_by s) group) (first_created (created_in rest) group)
    ∙ sym (ap (λ (o : Option Created). or_first (first_created old group) o) (find_append (creates group) (created_by s) (created_in rest)))
    ∙ same group e

pub created_done : (new b y : List Created) → SameCreated new [] b y → GrewCreated b new y
created_done new b y same = λ group e. sym (or_none (first_created new group)) ∙ same group e

-- ---- looking for the first

pub or_absent : {X : Type 0} (a b : Option X) → is_some a ≡ false → or_first a b ≡ b
or_absent None b e = refl
or_absent (Some x) b e = absurd cc

-- what stays the first
pub or_there : {X : Type 0} (a b : Option X) → is_some a ≡ true → a ≡ or_first a b
or_there None b e = absurd cc
or_there (Some x) b e = refl

pub created_here : (ss : List Stmt) (i : ℕ) (s : Stmt) (group : ℤ) (found : Option Created) → i < length ss → s ≡ get_or ss i s → found ≡ first_created (created_by s) group → is_some found ≡ true
    → first_created (created_in (drop i ss)) group ≡ first_created (created_in ss) group → found ≡ first_created (created_in ss) group
created_here ss i s group found within is by_s there same =
    or_there found (first_created (created_in (drop (i + 1) ss)) group) there
    ∙ ap (λ (o : Option Created). or_first o (first_created (created_in (drop (i + 1) ss)) group)) by_s
    ∙ sym (created_from ss i s group within is) ∙ same

pub created_on : (ss : List Stmt) (i : ℕ) (s : Stmt) (group : ℤ) (found : Option Created) → i < length ss → s ≡ get_or ss i s → found ≡ first_created (created_by s) group → is_some found ≡ false
    → first_created (created_in (drop i ss)) group ≡ first_created (created_in ss) group → first_created (created_in (drop (i + 1) ss)) group ≡ first_created (created_in ss) group
created_on ss i s group found within is by_s absent same =
    sym (or_absent found (first_created (created_in (drop (i + 1) ss)) group) absent)
    ∙ ap (λ (o : Option Created). or_first o (first_created (created_in (drop (i + 1) ss)) group)) by_s
    ∙ sym (created_from ss i s group within is) ∙ same

pub attached_here : (ss : List Stmt) (i : ℕ) (s : Stmt) (group member : ℤ) (found : Option (List ℕ)) → i < length ss → s ≡ get_or ss i s → found ≡ first_attached (attached_by s) group member → is_some found ≡ true
    → first_attached (attached_in (drop i ss)) group member ≡ first_attached (attached_in ss) group member → found ≡ first_attached (attached_in ss) group member
attached_here ss i s group member found within is by_s there same =
    or_there found (first_attached (attached_in (drop (i + 1) ss)) group member) there
    ∙ ap (λ (o : Option (List ℕ)). or_first o (first_attached (attached_in (drop (i + 1) ss)) group member)) by_s
    ∙ sym (attached_from ss i s group member within is) ∙ same

pub attached_on : (ss : List Stmt) (i : ℕ) (s : Stmt) (group member : ℤ) (found : Option (List ℕ)) → i < length ss → s ≡ get_or ss i s → found ≡ first_attached (attached_by s) group member → is_some found ≡ false
    → first_attached (attached_in (drop i ss)) group member ≡ first_attached (attached_in ss) group member
    → first_attached (attached_in (drop (i + 1) ss)) group member ≡ first_attached (attached_in ss) group member
attached_on ss i s group member found within is by_s absent same =
    sym (or_absent found (first_attached (attached_in (drop (i + 1) ss)) group member) absent)
    ∙ ap (λ (o : Option (List ℕ)). or_first o (first_attached (attached_in (drop (i + 1) ss)) group member)) by_s
    ∙ sym (attached_from ss i s group member within is) ∙ same

pub map_some : {A B : Type 0} (f : A → B) (o : Option A) → is_some (option_map f o) ≡ is_some o
map_some f None = refl
map_some f (Some x) = refl

pub branch_created_here : (s : Stmt) (spot : Spot) (t : Test) (left right : Expr) (chosen other : List Stmt) (o : Option (List Stmt)) (group : ℤ) (found : Option Created) → s ≡ stmt.Branch spot t left right chosen o → o ≡ Some other
    → found ≡ first_created (created_in chosen) group → is_some found ≡ true → found ≡ first_created (created_by s) group
branch_created_here s spot t left right chosen other o group found is some in_chosen there =
    or_there found (first_created (created_in other) group) there
    ∙ ap (λ (x : Option Created). or_first x (first_created (created_in other) group)) in_chosen
    ∙ sym (created_append (created_in chosen) (created_in other) group)
    ∙ ap (λ (l : List Created). first_created l group) (sym (branch_creates s spot t left right chosen other o is some))

pub branch_created_on : (s : Stmt) (spot : Spot) (t : Test) (left right : Expr) (chosen other : List Stmt) (o : Option (List Stmt)) (group : ℤ) (found : Option Created) → s ≡ stmt.Branch spot t left right chosen o → o ≡ Some other
    → found ≡ first_created (created_in chosen) group → is_some found ≡ false → first_created (created_in other) group ≡ first_created (created_by s) group
branch_created_on s spot t left right chosen other o group found is some in_chosen absent =
    sym (or_absent found (first_created (created_in other) group) absent)
    ∙ ap (λ (x : Option Created). or_first x (first_created (created_in other) group)) in_chosen
    ∙ sym (created_append (created_in chosen) (created_in other) group)
    ∙ ap (λ (l : List Created). first_created l group) (sym (branch_creates s spot t left right chosen other o is some))

pub branch_attached_here : (s : Stmt) (spot : Spot) (t : Test) (left right : Expr) (chosen other : List Stmt) (o : Option (List Stmt)) (group member : ℤ) (found : Option (List ℕ)) → s ≡ stmt.Branch spot t left right chosen o → o ≡ Some other
    → found ≡ first_attached (attached_in chosen) group member → is_some found ≡ true → found ≡ first_attached (attached_by s) group member
branch_attached_here s spot t left right chosen other o group member found is some in_chosen there =
    or_there found (first_attached (attached_in other) group member) there
    ∙ ap (λ (x : Option (List ℕ)). or_first x (first_attached (attached_in other) group member)) in_chosen
    ∙ sym (attached_append (attached_in chosen) (attached_in other) group member)
    ∙ ap (λ (l : List Attached). first_attached l group member) (sym (branch_attaches s spot t left right chosen other o is some))

pub branch_attached_on : (s : Stmt) (spot : Spot) (t : Test) (left right : Expr) (chosen other : List Stmt) (o : Option (List Stmt)) (group member : ℤ) (found : Option (List ℕ)) → s ≡ stmt.Branch spot t left right chosen o → o ≡ Some other
    → found ≡ first_attached (attached_in chosen) group member → is_some found ≡ false → first_attached (attached_in other) group member ≡ first_attached (attached_by s) group member
branch_attached_on s spot t left right chosen other o group member found is some in_chosen absent =
    sym (or_absent found (first_attached (attached_in other) group member) absent)
    ∙ ap (λ (x : Option (List ℕ)). or_first x (first_attached (attached_in other) group member)) in_chosen
    ∙ sym (attached_append (attached_in chosen) (attached_in other) group member)
    ∙ ap (λ (l : List Attached). first_attached l group member) (sym (branch_attaches s spot t left right chosen other o is some))

-- ---- one more

-- a number that is none of the eight isn't one that is
not_same : (group other : ℤ) → is_one_of_eight group ≡ true → is_one_of_eight other ≡ false → int_eq other group ≡ false
not_same group other e f = elim (cases_Bool (int_eq other group)) [
  | inl t ↦
      let same : other ≡ group = (Decides-int_eq other group).0 t in
      let both : true ≡ false = sym e ∙ sym (ap is_one_of_eight same) ∙ f in
      absurd cc
  | inr n ↦ n
]

-- what isn't one of the eight isn't looked for
pub created_skipped : (a : List Created) (c : Created) → is_one_of_eight c.group ≡ false → GrewCreated a a (c ∷ [])
created_skipped a c none = λ group e. rw (not_same group c.group e none) (sym (or_none (first_created a group)))

found_by : (a : List Created) (c : Created) (group : ℤ) (b : Bool) → int_eq c.group group ≡ b → is_some (first_created a c.group) ≡ true
    → first_created a group ≡ or_first (first_created a group) (if b then Some c else None)
found_by a c group true same there =
    or_there (first_created a group) (Some c) (subst (λ (g : ℤ). is_some (first_created a g) ≡ true) ((Decides-int_eq c.group group).0 same) there)
found_by a c group false same there = sym (or_none (first_created a group))

pub created_found : (a : List Created) (c : Created) → is_some (first_created a c.group) ≡ true → GrewCreated a a (c ∷ [])
created_found a c there = λ group e. found_by a c group (int_eq c.group group) refl there

pub created_pushed : (a : List Created) (c : Created) → GrewCreated a (a ++ c ∷ []) (c ∷ [])
created_pushed a c = λ group e. find_append (creates group) a (c ∷ [])

-- ---- members

abbrev pub SameAttached : List Attached → List Attached → List Attached → List Attached → Type 0
SameAttached a x b y = (group member : ℤ) → is_one_of_eight group ≡ true → is_one_of_eight member ≡ true
    → or_first (first_attached a group member) (first_attached x group member) ≡ or_first (first_attached b group member) (first_attached y group member)

pub attached_step : (a b c x y : List Attached) → GrewAttached a b x → GrewAttached b c y → GrewAttached a c (x ++ y)
attached_step a b c x y f g = λ group member e i.
    g group member e i ∙ ap (λ (o : Option (List ℕ)). or_first o (first_attached y group member)) (f group member e i)
    ∙ or_assoc (first_attached a group member) (first_attached x group member) (first_attached y group member)
    ∙ sym (ap (λ (o : Option (List ℕ)). or_first (first_attached a group member) o) (attached_append x y group member))

pub attached_none : (a : List Attached) → GrewAttached a a []
attached_none a = λ group member e i. sym (or_none (first_attached a group member))

pub attached_taken : (old new : List Attached) (s : Stmt) (rest : List Stmt) (b y : List Attached) → SameAttached old (attached_in (s ∷ rest)) b y → GrewAttached old new (attached_by s)
    → SameAttached new (attached_in rest) b y
attached_taken old new s rest b y same grew = λ group member e i.
    ap (λ (o : Option (List ℕ)). or_first o (first_attached (attached_in rest) group member)) (grew group member e i)
    ∙ or_assoc (first_attached old group member) (first_attached (attached_by s) group member) (first_attached (attached_in rest) group member)
    ∙ sym (ap (λ (o : Option (List ℕ)). or_first (first_attached old group member) o) (attached_append (attached_by s) (attached_in rest) group member))
    ∙ same group member e i

pub attached_done : (new b y : List Attached) → SameAttached new [] b y → GrewAttached b new y
attached_done new b y same = λ group member e i. sym (or_none (first_attached new group member)) ∙ same group member e i

-- the first of one attachment
one_is : (a : Attached) (group member : ℤ) → first_attached (a ∷ []) group member ≡ (if attaches group member a then Some a.array else None)
one_is a group member = elim (cases_Bool (attaches group member a)) [
  | inl t ↦ rw t refl
  | inr f ↦ rw f refl
]

one_skipped : (a : Attached) (group member : ℤ) → attaches group member a ≡ false → first_attached (a ∷ []) group member ≡ None
one_skipped a group member f = one_is a group member ∙ rw f refl

neither : (a : Attached) (group member : ℤ) (g m : Bool) → int_eq a.group group ≡ g → int_eq a.member member ≡ m → (g && m) ≡ false → first_attached (a ∷ []) group member ≡ None
neither a group member g m e f none = one_skipped a group member (rw (e, f) none)

and_false : (g m : Bool) → (g && m) ≡ false → (g ≡ false) ⊎ (m ≡ false)
and_false true m e = inr e
and_false false m e = inl refl

and_none : (g : Bool) → (g && false) ≡ false
and_none true = refl
and_none false = refl

pub attached_skipped : (bs : List Attached) (a : Attached) → (is_one_of_eight a.group && is_one_of_eight a.member) ≡ false → GrewAttached bs bs (a ∷ [])
attached_skipped bs a none = λ group member e i. elim (and_false (is_one_of_eight a.group) (is_one_of_eight a.member) none) [
  | inl g ↦ rw (neither a group member false (int_eq a.member member) (not_same group a.group e g) refl refl) (sym (or_none (first_attached bs group member)))
  | inr m ↦ rw (neither a group member (int_eq a.group group) false refl (not_same member a.member i m) (and_none (int_eq a.group group))) (sym (or_none (first_attached bs group member)))
]

attached_by_same : (bs : List Attached) (a : Attached) (group member : ℤ) (b : Bool) → attaches group member a ≡ b → is_some (first_attached bs a.group a.member) ≡ true
    → first_attached bs group member ≡ or_first (first_attached bs group member) (if b then Some a.array else None)
attached_by_same bs a group member true same there =
    let p = and_parts (int_eq a.group group) (int_eq a.member member) same in
    let g = (Decides-int_eq a.group group).0 p.0 in
    let m = (Decides-int_eq a.member member).0 p.1 in
    or_there (first_attached bs group member) (Some a.array) (subst (λ (x : ℤ). is_some (first_attached bs x member) ≡ true) g (subst (λ (x : ℤ). is_some (first_attached bs a.group x) ≡ true) m there))
attached_by_same bs a group member false same there = sym (or_none (first_attached bs group member))

pub attached_found : (bs : List Attached) (a : Attached) → is_some (first_attached bs a.group a.member) ≡ true → GrewAttached bs bs (a ∷ [])
attached_found bs a there = λ group member e i.
    attached_by_same bs a group member (attaches group member a) refl there ∙ ap (λ (o : Option (List ℕ)). or_first (first_attached bs group member) o) (sym (one_is a group member))

pub attached_pushed : (bs : List Attached) (a : Attached) → GrewAttached bs (bs ++ a ∷ []) (a ∷ [])
attached_pushed bs a = λ group member e i. attached_append bs (a ∷ []) group member

pub created_next : (ss : List Stmt) (i : ℕ) (s : Stmt) (old new b y : List Created) → i < length ss → s ≡ get_or ss i s → SameCreated old (created_in (drop i ss)) b y → GrewCreated old new (created_by s) → SameCreated new (created_in (drop (i + 1) ss)) b y
created_next ss i s old new b y within is same grew =
    let from : drop i ss ≡ s ∷ drop (i + 1) ss = drop-cons ss i s within ∙ rw (← is, add-one) refl in
    created_taken old new s (drop (i + 1) ss) b y (subst (λ (rest : List Stmt). SameCreated old (created_in rest) b y) from same) grew

pub attached_next : (ss : List Stmt) (i : ℕ) (s : Stmt) (old new b y : List Attached) → i < length ss → s ≡ get_or ss i s → SameAttached old (attached_in (drop i ss)) b y → GrewAttached old new (attached_by s) → SameAttached new (attached_in (drop (i + 1) ss)) b y
attached_next ss i s old new b y within is same grew =
    let from : drop i ss ≡ s ∷ drop (i + 1) ss = drop-cons ss i s within ∙ rw (← is, add-one) refl in
    attached_taken old new s (drop (i + 1) ss) b y (subst (λ (rest : List Stmt). SameAttached old (attached_in rest) b y) from same) grew
