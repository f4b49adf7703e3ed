-- The first run of elements is the first of their longest runs.
use Rattle.std.proofs.Common.{◌≡◌, ◌≢◌, refl, sym, ap, ◌∙◌, subst, ℕ, ℤ, pos, negsuc, zero, suc, ◌+◌, ◌^◌, ◌<◌, ◌≤◌, Bool, true, false, cond, ◌==◌, List, [], ◌∷◌, ◌++◌, map, length, drop, Some, None, slice_get, append_assoc, add-one, arith}
use Rattle.std.specs.Prelude.{nat_lt, FitsSigned}
use Rattle.std.specs.Int.{w16, w64, to_be_bytes}
use Rattle.std.specs.List.{flat_map, list_all}
use Rattle.std.specs.FinMap.{entries, entries_sorted, get-entries}
use Rattle.std.specs.Ordering.{nat_cmp}
use Rattle.std.specs.Cmp.{nat_cmp_total, tied_itself}
use Rattle.std.proofs.lemmas.Bool.{eqb-true, eq-eqb, ne_eqb, lt-ltb, ltb-true, and_parts, and_from}
use Rattle.std.proofs.lemmas.Option.{slice_get_within, slice_get_past, get_or_from_slice_get}
use Rattle.std.proofs.Math.Seq.{drop-cons}
use Rattle.std.proofs.lemmas.List.{append-nil}
use Rattle.fx_base.specs.Bounds.{HasIndicesBelow256, IsBounded}
use Rattle.fx_base.specs.Keys.{by_number, by_number_total}
use Rattle.fx_base.specs.declared.names.MemberId.{MemberId}
use Rattle.fx_base.specs.declared.snapshot.Snapshot.{Snapshot}
use Rattle.fx_base.specs.declared.sparse.Sparse.{Sparse}
use Rattle.fx_base.proofs.Entries.{place_at, found_at_place}
use Rattle.fx_store.specs.Packed.{Run, Section, section_of, put_first, runs_of, element_bytes, run_bytes, section_bytes, is_element, has_spelling}
use Rattle.fx_store.proofs.Meanings.{KeysFrom, keys_from, MembersFrom, members_from, is_entry, is_member, told}
use Rattle.fx_pack.specs.Runs.{OfFirst, EndsAt, GoesOn, going_on, behind, first_run, have_64_bits}

pub runs_of_first : (entry : ℕ × ℤ) (es : List (ℕ × ℤ)) → runs_of (entry ∷ es) ≡ first_run entry es ∷ runs_of (behind (entry.0 + 1) es)
runs_of_first entry [] = refl
runs_of_first entry (f ∷ es) = ap (put_first entry) (runs_of_first f es) ∙ go (runs_of_first f es) (f.0 == entry.0 + 1) refl
  where
    go : runs_of (f ∷ es) ≡ first_run f es ∷ runs_of (behind (f.0 + 1) es) → (b : Bool) → (f.0 == entry.0 + 1) ≡ b → put_first entry (first_run f es ∷ runs_of (behind (f.0 + 1) es)) ≡ first_run entry (f ∷ es) ∷ runs_of (behind (entry.0 + 1) (f ∷ es))
    go before true is =
        let same : f.0 ≡ entry.0 + 1 = eqb-true f.0 (entry.0 + 1) is in
        rw is (λ i. record { start = entry.0; elements = entry.1 ∷ f.1 ∷ going_on (same i + 1) es } ∷ runs_of (behind (same i + 1) es))
    go before false is = rw is (ap (λ rs. record { start = entry.0; elements = entry.1 ∷ [] } ∷ rs) (sym before))

-- a run that was written is the first of those that are left
pub record OneRun (old new : List ℕ) (left next : List (ℕ × ℤ)) : Type 0 where
  pub written : new ++ flat_map run_bytes (runs_of next) ≡ old ++ flat_map run_bytes (runs_of left)
  pub counted : suc (length (runs_of next)) ≡ length (runs_of left)

pub one_run : (old new : List ℕ) (left next : List (ℕ × ℤ)) → OfFirst left (λ entry entries. new ≡ old ++ run_bytes (first_run entry entries)) → OfFirst left (λ entry entries. next ≡ behind (entry.0 + 1) entries) → OneRun old new left next
one_run old new [] next a b = absurd a
one_run old new (e ∷ es) next a b =
    let runs : first_run e es ∷ runs_of next ≡ runs_of (e ∷ es) = ap (λ rest. first_run e es ∷ runs_of rest) b ∙ sym (runs_of_first e es) in
    record {
      written = ap (λ x. x ++ flat_map run_bytes (runs_of next)) a ∙ append_assoc old (run_bytes (first_run e es)) (flat_map run_bytes (runs_of next)) ∙ ap (λ rs. old ++ flat_map run_bytes rs) runs;
      counted = ap length runs;
    }

-- ---- an entry by its place

pub drop_at_entry : {X : Type 0} (es : List X) (at : ℕ) (e : X) → slice_get es at ≡ Some e → drop at es ≡ e ∷ drop (at + 1) es
drop_at_entry es at e is =
    rw add-one (drop-cons es at e (slice_get_within es at e is) ∙ ap (λ x. x ∷ drop (suc at) es) (get_or_from_slice_get es at e e is))

pub drop_past : {X : Type 0} (es : List X) (at : ℕ) → slice_get es at ≡ None → drop at es ≡ []
drop_past [] zero is = refl
drop_past [] (suc at) is = refl
drop_past (e ∷ es) zero is = absurd cc
drop_past (e ∷ es) (suc at) is = drop_past es at is

pub index_below : (m : Sparse) (at : ℕ) (e : ℕ × ℤ) → HasIndicesBelow256 m → slice_get (entries m) at ≡ Some e → e.0 < 256
index_below m at e below is =
    below e.0 e.1 (get-entries m e.0 ∙ found_at_place nat_cmp e.0 (entries m) at e (place_at nat_cmp nat_cmp_total e.0 (entries m) at e (entries_sorted m) is (tied_itself nat_cmp_total e.0)) is)

pub element_fits : (x : ℤ) → FitsSigned w64 x → is_element x ≡ true
element_fits (pos n) f = lt-ltb n (2 ^ 63) f.sfits
element_fits (negsuc n) f = lt-ltb n (2 ^ 63) f.sfits

ends : (index : ℕ) (e : ℕ × ℤ) (es : List (ℕ × ℤ)) → e.0 ≢ index → EndsAt index (e ∷ es)
ends index e es apart =
    let test : (e.0 == index) ≡ false = ne_eqb e.0 index apart in
    record { elements = ap (λ b. cond b (e.1 ∷ going_on (index + 1) es) []) test; left = ap (λ b. cond b (behind (index + 1) es) (e ∷ es)) test }

goes : (index : ℕ) (e : ℕ × ℤ) (es : List (ℕ × ℤ)) → e.0 ≡ index → is_element e.1 ≡ true → GoesOn index e.1 (e ∷ es) es
goes index e es same fits =
    let test : (e.0 == index) ≡ true = eq-eqb e.0 index same in
    record {
      elements = ap (λ b. cond b (e.1 ∷ going_on (index + 1) es) []) test;
      left = ap (λ b. cond b (behind (index + 1) es) (e ∷ es)) test;
      bits = λ rest. and_from (is_element e.1) (have_64_bits es) fits rest;
    }

pub ends_elsewhere : (es : List (ℕ × ℤ)) (at index : ℕ) (e : ℕ × ℤ) → slice_get es at ≡ Some e → e.0 ≢ index → EndsAt index (drop at es)
ends_elsewhere es at index e is apart = subst (EndsAt index) (sym (drop_at_entry es at e is)) (ends index e (drop (at + 1) es) apart)

pub ends_past : (es : List (ℕ × ℤ)) (at index : ℕ) → slice_get es at ≡ None → EndsAt index (drop at es)
ends_past es at index is = subst (EndsAt index) (sym (drop_past es at is)) (record { elements = refl; left = refl })

pub goes_on_at : (es : List (ℕ × ℤ)) (at index : ℕ) (e : ℕ × ℤ) → slice_get es at ≡ Some e → e.0 ≡ index → FitsSigned w64 e.1 → GoesOn index e.1 (drop at es) (drop (at + 1) es)
goes_on_at es at index e is same fits = subst (λ all. GoesOn index e.1 all (drop (at + 1) es)) (sym (drop_at_entry es at e is)) (goes index e (drop (at + 1) es) same (element_fits e.1 fits))

-- ---- how many entries there are

pub all_by_place : {X : Type 0} (p : X → Bool) (es : List X) → ((i : ℕ) (e : X) → slice_get es i ≡ Some e → p e ≡ true) → list_all p es ≡ true
all_by_place p [] each = refl
all_by_place p (e ∷ es) each = and_from (p e) (list_all p es) (each 0 e refl) (all_by_place p es (λ i. each (suc i)))

few_keys : (limit least : ℕ) (es : List (ℕ × ℤ)) → least ≤ limit → KeysFrom least es → list_all (λ e. nat_lt e.0 limit) es ≡ true → length es + least ≤ limit
few_keys limit least [] le from all = omega arith
few_keys limit least (e ∷ es) le from all =
    let p = and_parts (nat_lt e.0 limit) (list_all (λ x. nat_lt x.0 limit) es) all in
    let lt : e.0 < limit = ltb-true e.0 limit p.0 in
    let more : length es + (e.0 + 1) ≤ limit = few_keys limit (e.0 + 1) es (omega (arith, lt)) from.1 p.1 in
    omega (arith, more, from.0)

pub few_entries : (m : Sparse) → HasIndicesBelow256 m → length (entries m) ≤ 256
few_entries m below =
    let all : list_all (λ e. nat_lt e.0 256) (entries m) ≡ true = all_by_place (λ e. nat_lt e.0 256) (entries m) (λ i e is. lt-ltb e.0 256 (index_below m i e below is)) in
    let few : length (entries m) + 0 ≤ 256 = few_keys 256 0 (entries m) (omega arith) (keys_from (entries m) (told _ (entries_sorted m))) all in
    omega (arith, few)

pub drop_all : {X : Type 0} (es : List X) (at : ℕ) → length es ≤ at → drop at es ≡ []
drop_all es at le = drop_past es at (slice_get_past es at le)

-- ---- what is written so far

-- one more element
pub one_element : (new run bytes : List ℕ) (x : ℤ) (xs ys : List ℤ) (whole : List ℕ) → new ≡ run ++ bytes → bytes ≡ element_bytes x → ys ≡ x ∷ xs
    → run ++ flat_map element_bytes ys ≡ whole → new ++ flat_map element_bytes xs ≡ whole
one_element new run bytes x xs ys whole a b e inv =
    (λ i. a i ++ flat_map element_bytes xs)
    ∙ (λ i. (run ++ b i) ++ flat_map element_bytes xs)
    ∙ append_assoc run (element_bytes x) (flat_map element_bytes xs)
    ∙ ap (λ zs. run ++ flat_map element_bytes zs) (sym e)
    ∙ inv

-- a run behind its first index and its length
pub whole_run : (out two three four start count run : List ℕ) (index n : ℕ) (x : ℤ) (xs : List ℤ) → two ≡ out ++ start → start ≡ to_be_bytes w16 index → three ≡ two ++ count → count ≡ to_be_bytes w16 n
    → four ≡ three ++ run → run ≡ element_bytes x ++ flat_map element_bytes xs → n ≡ suc (length xs) → four ≡ out ++ run_bytes (record { start = index; elements = x ∷ xs })
whole_run out two three four start count run index n x xs a sa b sb c r same =
    let behind : List ℕ = to_be_bytes w16 (suc (length xs)) ++ (element_bytes x ++ flat_map element_bytes xs) in
    c ∙ (λ i. b i ++ r i) ∙ (λ i. (a i ++ (sb ∙ ap (to_be_bytes w16) same) i) ++ (element_bytes x ++ flat_map element_bytes xs))
    ∙ (λ i. ((out ++ sa i) ++ to_be_bytes w16 (suc (length xs))) ++ (element_bytes x ++ flat_map element_bytes xs))
    ∙ append_assoc (out ++ to_be_bytes w16 index) (to_be_bytes w16 (suc (length xs))) (element_bytes x ++ flat_map element_bytes xs)
    ∙ append_assoc out (to_be_bytes w16 index) behind

-- a member behind its number and the number of its runs
pub whole_section : (out two three four count runs : List ℕ) (member n : ℕ) (es : List Run) → two ≡ out ++ member ∷ [] → three ≡ two ++ count → count ≡ to_be_bytes w16 n → four ≡ three ++ runs
    → runs ≡ flat_map run_bytes es → n ≡ length es → four ≡ out ++ section_bytes (record { member = member; runs = es })
whole_section out two three four count runs member n es a b sb c r same =
    let behind : List ℕ = to_be_bytes w16 (length es) ++ flat_map run_bytes es in
    c ∙ (λ i. b i ++ r i) ∙ (λ i. (a i ++ (sb ∙ ap (to_be_bytes w16) same) i) ++ flat_map run_bytes es)
    ∙ append_assoc (out ++ member ∷ []) (to_be_bytes w16 (length es)) (flat_map run_bytes es)
    ∙ append_assoc out (member ∷ []) behind

-- one more member
pub one_member : (new out : List ℕ) (x : Section) (xs ys : List Section) (whole : List ℕ) → new ≡ out ++ section_bytes x → ys ≡ x ∷ xs
    → out ++ flat_map section_bytes ys ≡ whole → new ++ flat_map section_bytes xs ≡ whole
one_member new out x xs ys whole a e inv =
    (λ i. a i ++ flat_map section_bytes xs) ∙ append_assoc out (section_bytes x) (flat_map section_bytes xs) ∙ ap (λ zs. out ++ flat_map section_bytes zs) (sym e) ∙ inv

-- ---- members of a snapshot

pub member_bounds : (s : Snapshot) (at : ℕ) (e : MemberId × Sparse) → IsBounded s → slice_get (entries s) at ≡ Some e → (e.0.0 < 8) × HasIndicesBelow256 e.1
member_bounds s at e bounded is =
    bounded e.0 e.1 (get-entries s e.0 ∙ found_at_place by_number e.0 (entries s) at e (place_at by_number by_number_total e.0 (entries s) at e (entries_sorted s) is (tied_itself by_number_total e.0)) is)

few_members_from : (least : ℕ) (es : List (MemberId × Sparse)) → least ≤ 8 → MembersFrom least es → list_all (λ e. nat_lt e.0.0 8) es ≡ true → length es + least ≤ 8
few_members_from least [] le from all = omega arith
few_members_from least (e ∷ es) le from all =
    let p = and_parts (nat_lt e.0.0 8) (list_all (λ x. nat_lt x.0.0 8) es) all in
    let lt : e.0.0 < 8 = ltb-true e.0.0 8 p.0 in
    let more : length es + (e.0.0 + 1) ≤ 8 = few_members_from (e.0.0 + 1) es (omega (arith, lt)) from.1 p.1 in
    omega (arith, more, from.0)

pub few_members : (s : Snapshot) → IsBounded s → length (entries s) ≤ 8
few_members s bounded =
    let all : list_all (λ e. nat_lt e.0.0 8) (entries s) ≡ true = all_by_place (λ e. nat_lt e.0.0 8) (entries s) (λ i e is. lt-ltb e.0.0 8 (member_bounds s i e bounded is).0) in
    let few : length (entries s) + 0 ≤ 8 = few_members_from 0 (entries s) (omega arith) (members_from (entries s) (told _ (entries_sorted s))) all in
    omega (arith, few)

-- the elements of each member have 64 bits
abbrev pub members_have_64_bits : List (MemberId × Sparse) → Bool
members_have_64_bits es = list_all (λ e. have_64_bits (entries e.1)) es

at_place : {X : Type 0} (p : X → Bool) (es : List X) (i : ℕ) (e : X) → list_all p es ≡ true → slice_get es i ≡ Some e → p e ≡ true
at_place p [] i e all is = absurd cc
at_place p (x ∷ es) zero e all is = let same : x ≡ e = cc in ap p (sym same) ∙ (and_parts (p x) (list_all p es) all).0
at_place p (x ∷ es) (suc i) e all is = at_place p es i e (and_parts (p x) (list_all p es) all).1 is

entries_fit : (m : Sparse) → HasIndicesBelow256 m → have_64_bits (entries m) ≡ true → list_all is_entry (entries m) ≡ true
entries_fit m below bits =
    all_by_place is_entry (entries m)
    (λ i e is. and_from (nat_lt e.0 256) (is_element e.1) (lt-ltb e.0 256 (index_below m i e below is)) (at_place (λ x. is_element x.1) (entries m) i e bits is))

pub fits_to_be_spelled : (s : Snapshot) → IsBounded s → members_have_64_bits (entries s) ≡ true → has_spelling s ≡ true
fits_to_be_spelled s bounded bits =
    all_by_place is_member (entries s)
    (λ i e is.
    let bounds = member_bounds s i e bounded is in
    and_from (nat_lt e.0.0 8) (list_all is_entry (entries e.1)) (lt-ltb e.0.0 8 bounds.0) (entries_fit e.1 bounds.1 (at_place (λ x. have_64_bits (entries x.1)) (entries s) i e bits is)))

pub none_past : {X : Type 0} (es : List X) (at : ℕ) → slice_get es at ≡ None → length es ≤ at
none_past [] at is = omega arith
none_past (e ∷ es) zero is = absurd cc
none_past (e ∷ es) (suc at) is = let more = none_past es at is in omega (arith, more)

-- the member at a place, and those behind it
pub record OneMember (new out : List ℕ) (es : List (MemberId × Sparse)) (k : ℕ) (whole : List ℕ) : Type 0 where
  pub written : new ++ flat_map section_bytes (map section_of (drop (k + 1) es)) ≡ whole
  pub bits : members_have_64_bits (drop (k + 1) es) ≡ true → members_have_64_bits (drop k es) ≡ true

pub one_member_at : (new out : List ℕ) (es : List (MemberId × Sparse)) (k : ℕ) (e : MemberId × Sparse) (whole : List ℕ) → slice_get es k ≡ Some e → new ≡ out ++ section_bytes (section_of e)
    → have_64_bits (entries e.1) ≡ true → out ++ flat_map section_bytes (map section_of (drop k es)) ≡ whole → OneMember new out es k whole
one_member_at new out es k e whole is a bits inv = record {
  written = one_member new out (section_of e) (map section_of (drop (k + 1) es)) (map section_of (drop k es)) whole a (ap (map section_of) (drop_at_entry es k e is)) inv;
  bits = λ rest. ap members_have_64_bits (drop_at_entry es k e is) ∙ and_from (have_64_bits (entries e.1)) (members_have_64_bits (drop (k + 1) es)) bits rest;
}

-- all members are written
pub all_members : (out : List ℕ) (es : List (MemberId × Sparse)) (k : ℕ) (whole : List ℕ) → length es ≤ k → out ++ flat_map section_bytes (map section_of (drop k es)) ≡ whole → out ≡ whole
all_members out es k whole le inv = sym (append-nil out) ∙ ap (λ rest. out ++ flat_map section_bytes (map section_of rest)) (sym (drop_all es k le)) ∙ inv
