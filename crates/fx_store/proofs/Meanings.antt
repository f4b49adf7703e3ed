-- The parts of a text and the snapshot that they mean: each gives the other.
use Rattle.std.proofs.Common.{◌≡◌, ◌≢◌, refl, sym, ap, ◌∙◌, subst, ℕ, ℤ, suc, ◌+◌, ◌<◌, ◌≤◌, Bool, true, false, cond, ◌&&◌, ◌==◌, T, List, [], ◌∷◌, ◌++◌, map, length, arith}
use Rattle.std.specs.Prelude.{nat_lt}
use Rattle.std.specs.List.{flat_map, enumerate_from, list_all}
use Rattle.std.specs.Ordering.{nat_cmp, is_lt}
use Rattle.std.specs.declared.cmp.Ordering.{Ordering}
use Rattle.std.specs.declared.cmp.Ordering.TheVariants.{Less, Equal, Greater}
use Rattle.std.specs.FinMap.{FinMap, is_sorted, entries, entries_sorted, from_sorted, entries-from_sorted, same_entries_map}
use Rattle.std.specs.FinMap.Entries.{below_all}
use Rattle.std.proofs.lemmas.Bool.{ltb-true, lt-ltb, eqb-true, eqb-false, eq-eqb, ne_eqb, and_parts, and_from}
use Rattle.fx_base.specs.Keys.{by_number}
use Rattle.fx_base.specs.declared.names.MemberId.{MemberId}
use Rattle.fx_base.specs.declared.snapshot.Snapshot.{Snapshot}
use Rattle.fx_base.specs.declared.sparse.Sparse.{Sparse}
use Rattle.fx_base.proofs.Entries.{holds}
use Rattle.fx_store.specs.Packed.{Run, Section, run_end, is_element, indexed, meaning_of, snapshot_of, put_first, runs_of, section_of, sections_of, has_spelling}
use Rattle.fx_store.proofs.Orders.{RunsFrom, GoodSection, SectionsFrom}

-- ---- keys in order

pub told : (b : Bool) → T b → b ≡ true
told true h = refl
told false h = absurd h

nat_less : (k m : ℕ) → k < m → is_lt (nat_cmp k m) ≡ true
nat_less k m lt = ap (λ b. is_lt (cond b Less (cond (k == m) Equal Greater))) (lt-ltb k m lt)

less_nat : (k m : ℕ) → is_lt (nat_cmp k m) ≡ true → k < m
less_nat k m e = go (nat_lt k m) (k == m) refl e
  where
    go : (b c : Bool) → nat_lt k m ≡ b → is_lt (cond b Less (cond c Equal Greater)) ≡ true → k < m
    go true c is e = ltb-true k m is
    go false true is e = absurd cc
    go false false is e = absurd cc

-- keys rise, the first of which is `least` or more
abbrev pub KeysFrom : {X : Type 0} → ℕ → List (ℕ × X) → Type 0
KeysFrom least [] = Unit {0}
KeysFrom least (e ∷ es) = (least ≤ e.0) × KeysFrom (e.0 + 1) es

keys_weaker : {X : Type 0} (a b : ℕ) (es : List (ℕ × X)) → b ≤ a → KeysFrom a es → KeysFrom b es
keys_weaker a b [] le from = tt
keys_weaker a b (e ∷ es) le from = (omega (arith, from.0), from.1)

below_keys : {X : Type 0} (k : ℕ) (es : List (ℕ × X)) → KeysFrom (k + 1) es → below_all nat_cmp k es ≡ true
below_keys k [] from = refl
below_keys k (e ∷ es) from =
    and_from (is_lt (nat_cmp k e.0)) (below_all nat_cmp k es) (nat_less k e.0 (omega (arith, from.0))) (below_keys k es (keys_weaker (e.0 + 1) (k + 1) es (omega (arith, from.0)) from.1))

pub sorted_keys : {X : Type 0} (least : ℕ) (es : List (ℕ × X)) → KeysFrom least es → is_sorted nat_cmp es ≡ true
sorted_keys least [] from = refl
sorted_keys least (e ∷ es) from = and_from (below_all nat_cmp e.0 es) (is_sorted nat_cmp es) (below_keys e.0 es from.1) (sorted_keys (e.0 + 1) es from.1)

keys_behind : {X : Type 0} (k : ℕ) (es : List (ℕ × X)) → below_all nat_cmp k es ≡ true → is_sorted nat_cmp es ≡ true → KeysFrom (k + 1) es
keys_behind k [] below sorted = tt
keys_behind k (e ∷ es) below sorted =
    let a = and_parts (is_lt (nat_cmp k e.0)) (below_all nat_cmp k es) below in
    let b = and_parts (below_all nat_cmp e.0 es) (is_sorted nat_cmp es) sorted in
    let lt : k < e.0 = less_nat k e.0 a.0 in
    (omega (arith, lt), keys_behind e.0 es b.0 b.1)

pub keys_from : {X : Type 0} (es : List (ℕ × X)) → is_sorted nat_cmp es ≡ true → KeysFrom 0 es
keys_from [] sorted = tt
keys_from (e ∷ es) sorted =
    let b = and_parts (below_all nat_cmp e.0 es) (is_sorted nat_cmp es) sorted in
    (omega arith, keys_behind e.0 es b.0 b.1)

-- members rise, the first of which has the number `least` or more
abbrev pub MembersFrom : {X : Type 0} → ℕ → List (MemberId × X) → Type 0
MembersFrom least [] = Unit {0}
MembersFrom least (e ∷ es) = (least ≤ e.0.0) × MembersFrom (e.0.0 + 1) es

members_weaker : {X : Type 0} (a b : ℕ) (es : List (MemberId × X)) → b ≤ a → MembersFrom a es → MembersFrom b es
members_weaker a b [] le from = tt
members_weaker a b (e ∷ es) le from = (omega (arith, from.0), from.1)

below_members : {X : Type 0} (k : MemberId) (es : List (MemberId × X)) → MembersFrom (k.0 + 1) es → below_all by_number k es ≡ true
below_members k [] from = refl
below_members k (e ∷ es) from =
    and_from (is_lt (nat_cmp k.0 e.0.0)) (below_all by_number k es) (nat_less k.0 e.0.0 (omega (arith, from.0))) (below_members k es (members_weaker (e.0.0 + 1) (k.0 + 1) es (omega (arith, from.0)) from.1))

pub sorted_members : {X : Type 0} (least : ℕ) (es : List (MemberId × X)) → MembersFrom least es → is_sorted by_number es ≡ true
sorted_members least [] from = refl
sorted_members least (e ∷ es) from = and_from (below_all by_number e.0 es) (is_sorted by_number es) (below_members e.0 es from.1) (sorted_members (e.0.0 + 1) es from.1)

members_behind : {X : Type 0} (k : MemberId) (es : List (MemberId × X)) → below_all by_number k es ≡ true → is_sorted by_number es ≡ true → MembersFrom (k.0 + 1) es
members_behind k [] below sorted = tt
members_behind k (e ∷ es) below sorted =
    let a = and_parts (is_lt (nat_cmp k.0 e.0.0)) (below_all by_number k es) below in
    let b = and_parts (below_all by_number e.0 es) (is_sorted by_number es) sorted in
    let lt : k.0 < e.0.0 = less_nat k.0 e.0.0 a.0 in
    (omega (arith, lt), members_behind e.0 es b.0 b.1)

pub members_from : {X : Type 0} (es : List (MemberId × X)) → is_sorted by_number es ≡ true → MembersFrom 0 es
members_from [] sorted = tt
members_from (e ∷ es) sorted =
    let b = and_parts (below_all by_number e.0 es) (is_sorted by_number es) sorted in
    (omega arith, members_behind e.0 es b.0 b.1)

-- ---- runs and elements

pub runs_weaker : (a b : ℕ) (runs : List Run) → b ≤ a → RunsFrom a runs → RunsFrom b runs
runs_weaker a b [] le from = tt
runs_weaker a b (run ∷ runs) le from = (omega (arith, from.0), from.1, from.2)

keys_of_run : (least start : ℕ) (xs : List ℤ) (tail : List (ℕ × ℤ)) → least ≤ start → KeysFrom (start + length xs) tail → KeysFrom least (enumerate_from start xs ++ tail)
keys_of_run least start [] tail le from = keys_weaker (start + 0) least tail (omega arith) from
keys_of_run least start (x ∷ xs) tail le from = (le, keys_of_run (start + 1) (start + 1) xs tail (omega arith) (keys_weaker (start + suc (length xs)) (start + 1 + length xs) tail (omega arith) from))

pub keys_of_runs : (least : ℕ) (runs : List Run) → RunsFrom least runs → KeysFrom least (flat_map indexed runs)
keys_of_runs least [] from = tt
keys_of_runs least (run ∷ runs) from =
    keys_of_run least run.start run.elements (flat_map indexed runs) from.0 (keys_weaker (run_end run + 1) (run_end run) (flat_map indexed runs) (omega arith) (keys_of_runs (run_end run + 1) runs from.2))

-- the elements of runs in order are kept as they are
pub entries_of_runs : (runs : List Run) → RunsFrom 0 runs → entries (from_sorted {R = nat_cmp} (flat_map indexed runs)) ≡ flat_map indexed runs
entries_of_runs runs from = entries-from_sorted nat_cmp (flat_map indexed runs) (holds _ (sorted_keys 0 (flat_map indexed runs) (keys_of_runs 0 runs from)))

-- no run begins at k
abbrev StartsElsewhere : ℕ → List Run → Type 0
StartsElsewhere k [] = Unit {0}
StartsElsewhere k (run ∷ runs) = run.start ≢ k

starts_elsewhere : (k : ℕ) (runs : List Run) → RunsFrom (k + 1) runs → StartsElsewhere k runs
starts_elsewhere k [] from = tt
starts_elsewhere k (run ∷ runs) from = λ same. omega (arith, from.0, same)

put_alone : (start : ℕ) (x : ℤ) (runs : List Run) → StartsElsewhere (start + 1) runs → put_first (start, x) runs ≡ record { start = start; elements = x ∷ [] } ∷ runs
put_alone start x [] other = refl
put_alone start x (run ∷ runs) other =
    ap (λ b. cond b (record { start = start; elements = x ∷ run.elements } ∷ runs) (record { start = start; elements = x ∷ [] } ∷ run ∷ runs)) (ne_eqb run.start (start + 1) other)

runs_of_run : (start : ℕ) (x : ℤ) (xs : List ℤ) (tail : List (ℕ × ℤ)) (runs : List Run) → runs_of tail ≡ runs → StartsElsewhere (start + suc (length xs)) runs
    → runs_of (enumerate_from start (x ∷ xs) ++ tail) ≡ record { start = start; elements = x ∷ xs } ∷ runs
runs_of_run start x [] tail runs is other = ap (put_first (start, x)) is ∙ put_alone start x runs (subst (λ k. StartsElsewhere k runs) (omega arith) other)
runs_of_run start x (y ∷ ys) tail runs is other =
    ap (put_first (start, x)) (runs_of_run (start + 1) y ys tail runs is (subst (λ k. StartsElsewhere k runs) (omega arith) other))
    ∙ ap (λ b. cond b (record { start = start; elements = x ∷ y ∷ ys } ∷ runs) (record { start = start; elements = x ∷ [] } ∷ record { start = start + 1; elements = y ∷ ys } ∷ runs)) (eq-eqb (start + 1) (start + 1) refl)

runs_of_some : (start : ℕ) (xs : List ℤ) (tail : List (ℕ × ℤ)) (runs : List Run) → 0 < length xs → runs_of tail ≡ runs → StartsElsewhere (start + length xs) runs
    → runs_of (enumerate_from start xs ++ tail) ≡ record { start = start; elements = xs } ∷ runs
runs_of_some start [] tail runs some is other = absurd (omega (arith, some))
runs_of_some start (x ∷ xs) tail runs some is other = runs_of_run start x xs tail runs is other

-- the longest runs of the elements of runs in order are these runs
pub runs_of_indexed : (least : ℕ) (runs : List Run) → RunsFrom least runs → runs_of (flat_map indexed runs) ≡ runs
runs_of_indexed least [] from = refl
runs_of_indexed least (run ∷ runs) from =
    runs_of_some run.start run.elements (flat_map indexed runs) runs from.1.some (runs_of_indexed (run_end run + 1) runs from.2) (starts_elsewhere (run_end run) runs from.2)

-- and the elements of the longest runs are those that there were
indexed_put_first : (e : ℕ × ℤ) (runs : List Run) → flat_map indexed (put_first e runs) ≡ e ∷ flat_map indexed runs
indexed_put_first e [] = refl
indexed_put_first e (run ∷ runs) = go (run.start == e.0 + 1) refl
  where
    go : (b : Bool) → (run.start == e.0 + 1) ≡ b
        → flat_map indexed (cond b (record { start = e.0; elements = e.1 ∷ run.elements } ∷ runs) (record { start = e.0; elements = e.1 ∷ [] } ∷ run ∷ runs)) ≡ e ∷ flat_map indexed (run ∷ runs)
    go true is = ap (λ k. e ∷ (enumerate_from k run.elements ++ flat_map indexed runs)) (sym (eqb-true run.start (e.0 + 1) is))
    go false is = refl

pub indexed_runs_of : (es : List (ℕ × ℤ)) → flat_map indexed (runs_of es) ≡ es
indexed_runs_of [] = refl
indexed_runs_of (e ∷ es) = indexed_put_first e (runs_of es) ∙ ap (λ rest. e ∷ rest) (indexed_runs_of es)

-- an element at an index
abbrev pub is_entry : ℕ × ℤ → Bool
is_entry e = nat_lt e.0 256 && is_element e.1

put_good : (least : ℕ) (e : ℕ × ℤ) (runs : List Run) → least ≤ e.0 → is_entry e ≡ true → RunsFrom (e.0 + 1) runs → RunsFrom least (put_first e runs)
put_good least e [] le fits from =
    let p = and_parts (nat_lt e.0 256) (is_element e.1) fits in
    let lt : e.0 < 256 = ltb-true e.0 256 p.0 in
    (le, record { some = omega arith; within = omega (arith, lt); elements = and_from (is_element e.1) true p.1 refl }, tt)
put_good least e (run ∷ runs) le fits from = go (run.start == e.0 + 1) refl
  where
    go : (b : Bool) → (run.start == e.0 + 1) ≡ b → RunsFrom least (cond b (record { start = e.0; elements = e.1 ∷ run.elements } ∷ runs) (record { start = e.0; elements = e.1 ∷ [] } ∷ run ∷ runs))
    go true is =
        let p = and_parts (nat_lt e.0 256) (is_element e.1) fits in
        let same : run.start ≡ e.0 + 1 = eqb-true run.start (e.0 + 1) is in
        let within : run.start + length run.elements ≤ 256 = from.1.within in (
          le,
          record { some = omega arith; within = omega (arith, within, same); elements = and_from (is_element e.1) (list_all is_element run.elements) p.1 from.1.elements },
          runs_weaker (run_end run + 1) (e.0 + suc (length run.elements) + 1) runs (omega (arith, same)) from.2,
        )
    go false is =
        let p = and_parts (nat_lt e.0 256) (is_element e.1) fits in
        let lt : e.0 < 256 = ltb-true e.0 256 p.0 in
        let other : run.start ≢ e.0 + 1 = eqb-false run.start (e.0 + 1) is in (
          le,
          record { some = omega arith; within = omega (arith, lt); elements = and_from (is_element e.1) true p.1 refl },
          (omega (arith, other, from.0), from.1, from.2),
        )

pub runs_good : (least : ℕ) (es : List (ℕ × ℤ)) → KeysFrom least es → list_all is_entry es ≡ true → RunsFrom least (runs_of es)
runs_good least [] from all = tt
runs_good least (e ∷ es) from all =
    let p = and_parts (is_entry e) (list_all is_entry es) all in
    put_good least e (runs_of es) from.0 p.0 (runs_good (e.0 + 1) es from.1 p.1)

entries_of_good_run : (start : ℕ) (xs : List ℤ) (tail : List (ℕ × ℤ)) → start + length xs ≤ 256 → list_all is_element xs ≡ true → list_all is_entry tail ≡ true → list_all is_entry (enumerate_from start xs ++ tail) ≡ true
entries_of_good_run start [] tail within all rest = rest
entries_of_good_run start (x ∷ xs) tail within all rest =
    let p = and_parts (is_element x) (list_all is_element xs) all in
    and_from (is_entry (start, x)) (list_all is_entry (enumerate_from (start + 1) xs ++ tail))
    (and_from (nat_lt start 256) (is_element x) (lt-ltb start 256 (omega (arith, within))) p.0)
    (entries_of_good_run (start + 1) xs tail (omega (arith, within)) p.1 rest)

pub entries_good : (least : ℕ) (runs : List Run) → RunsFrom least runs → list_all is_entry (flat_map indexed runs) ≡ true
entries_good least [] from = refl
entries_good least (run ∷ runs) from = entries_of_good_run run.start run.elements (flat_map indexed runs) from.1.within from.1.elements (entries_good (run_end run + 1) runs from.2)

-- ---- members and snapshots

pub from_sorted_again : {K X : Type 0} {R : K → K → Ordering} (m : FinMap R X) → from_sorted (entries m) ≡ m
from_sorted_again {R = R} m = same_entries_map (from_sorted (entries m)) m (entries-from_sorted R (entries m) (entries_sorted m))

pub members_of_sections : (least : ℕ) (sections : List Section) → SectionsFrom least sections → MembersFrom least (map meaning_of sections)
members_of_sections least [] from = tt
members_of_sections least (section ∷ sections) from = (from.0, members_of_sections (section.member + 1) sections from.2)

pub entries_of_sections : (sections : List Section) → SectionsFrom 0 sections → entries (snapshot_of sections) ≡ map meaning_of sections
entries_of_sections sections from = entries-from_sorted by_number (map meaning_of sections) (holds _ (sorted_members 0 (map meaning_of sections) (members_of_sections 0 sections from)))

section_meant : (section : Section) → GoodSection section → section_of (meaning_of section) ≡ section
section_meant section good =
    ap (λ runs. record { member = section.member; runs = runs }) (ap runs_of (entries_of_runs section.runs good.runs) ∙ runs_of_indexed 0 section.runs good.runs)

sections_meant : (least : ℕ) (sections : List Section) → SectionsFrom least sections → map section_of (map meaning_of sections) ≡ sections
sections_meant least [] from = refl
sections_meant least (section ∷ sections) from = (λ i. section_meant section from.1 i ∷ sections_meant (section.member + 1) sections from.2 i)

-- the parts of the snapshot that parts in order mean are these parts
pub sections_again : (sections : List Section) → SectionsFrom 0 sections → sections_of (snapshot_of sections) ≡ sections
sections_again sections from = ap (map section_of) (entries_of_sections sections from) ∙ sections_meant 0 sections from

meant_again : (es : List (MemberId × Sparse)) → map meaning_of (map section_of es) ≡ es
meant_again [] = refl
meant_again (e ∷ es) = (λ i. (e.0, (ap from_sorted (indexed_runs_of (entries e.1)) ∙ from_sorted_again e.1) i) ∷ meant_again es i)

-- the snapshot that the parts of a snapshot mean is this snapshot
pub snapshot_again : (snapshot : Snapshot) → snapshot_of (sections_of snapshot) ≡ snapshot
snapshot_again snapshot = ap from_sorted (meant_again (entries snapshot)) ∙ from_sorted_again snapshot

-- a member whose entries can be written
abbrev pub is_member : MemberId × Sparse → Bool
is_member e = nat_lt e.0.0 8 && list_all is_entry (entries e.1)

sections_good : (least : ℕ) (es : List (MemberId × Sparse)) → MembersFrom least es → list_all is_member es ≡ true → SectionsFrom least (map section_of es)
sections_good least [] from all = tt
sections_good least (e ∷ es) from all =
    let p = and_parts (is_member e) (list_all is_member es) all in
    let q = and_parts (nat_lt e.0.0 8) (list_all is_entry (entries e.1)) p.0 in (
      from.0,
      record { below = ltb-true e.0.0 8 q.0; runs = runs_good 0 (entries e.1) (keys_from (entries e.1) (told (is_sorted nat_cmp (entries e.1)) (entries_sorted e.1))) q.1 },
      sections_good (e.0.0 + 1) es from.1 p.1,
    )

-- the parts of a snapshot that can be written are in order
pub sections_in_order : (snapshot : Snapshot) → has_spelling snapshot ≡ true → SectionsFrom 0 (sections_of snapshot)
sections_in_order snapshot all = sections_good 0 (entries snapshot) (members_from (entries snapshot) (told (is_sorted by_number (entries snapshot)) (entries_sorted snapshot))) all

members_good : (least : ℕ) (sections : List Section) → SectionsFrom least sections → list_all is_member (map meaning_of sections) ≡ true
members_good least [] from = refl
members_good least (section ∷ sections) from =
    and_from (is_member (meaning_of section)) (list_all is_member (map meaning_of sections))
    (and_from (nat_lt section.member 8) (list_all is_entry (entries (meaning_of section).1)) (lt-ltb section.member 8 from.1.below)
    (ap (list_all is_entry) (entries_of_runs section.runs from.1.runs) ∙ entries_good 0 section.runs from.1.runs))
    (members_good (section.member + 1) sections from.2)

-- what parts in order mean can be written
pub meaning_has_spelling : (sections : List Section) → SectionsFrom 0 sections → has_spelling (snapshot_of sections) ≡ true
meaning_has_spelling sections from = ap (list_all is_member) (entries_of_sections sections from) ∙ members_good 0 sections from
