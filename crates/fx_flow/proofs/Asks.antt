-- What outward instructions ask and take is what their statements do.
use Rattle.std.proofs.Common.{◌≡◌, ◌≤◌, ℕ, ◌+◌, true, ◌&&◌, List, [], ◌∷◌, map, get_or, Option, Some, None, refl, sym, arith, Result, Ok, Err, IfOk}
use Rattle.std.specs.Prelude.{ℤ, pos, negsuc, nat_le}
use Rattle.std.proofs.lemmas.Bool.{and_parts}
use Rattle.std.specs.List.{list_all}
use Rattle.fx_base.specs.declared.memory.NoMemory.{NoMemory}
use Rattle.fx_base.specs.declared.names.GroupId.{GroupId}
use Rattle.fx_base.specs.declared.names.MemberId.{MemberId}
use Rattle.fx_base.specs.declared.names.Op.{Op}
use Rattle.fx_base.specs.declared.spot.Spot.{Spot}
use Rattle.fx_script.specs.declared.expr.Expr.{Expr}
use Rattle.fx_script.specs.declared.job.Picked.{Picked}
use Rattle.fx_script.specs.declared.job.Picked.TheVariants as picked
use Rattle.fx_script.specs.declared.job.Stmt.TheOpen.{Stmt-F}
use Rattle.fx_subset.specs.Fault.{fault_of_blocks, fault_of_pairs}
use Rattle.fx_subset.specs.Indices.{blocks_of, union_of}
use Rattle.fx_subset.proofs.Cover.{contains-union_of}
use Rattle.fx_subset.specs.declared.fault.SubsetFault.{SubsetFault}
use Rattle.fx_check.specs.Facts.{Facts, is_one_of_eight, has_group, has_member, first_attached}
use Rattle.fx_check.specs.Rules.{count_of, is_between, fits_32, picked_fits_32, pair_fits_32, pair_of, lies_in, is_faultless, subset_fault, length_of_attached, are_of_one_length, expr_groups_fit}
use Rattle.fx_check.specs.Facts.{array_in}
use Rattle.fx_walk.specs.State.{counter_slot, array_slot}
use Rattle.fx_walk.specs.Values.{sight}
use Rattle.fx_walk.specs.Walk.{group_id, member_id, stamp_at, member_array, picked_from}
use Rattle.fx_value.specs.Terms.{term_of}
use Rattle.fx_value.proofs.TermLemmas.{term_value-term_of}
use Rattle.fx_flow.specs.declared.instr.Outward.TheVariants as outward
use Rattle.fx_flow.specs.declared.instr.Selection.{Selection}
use Rattle.fx_flow.specs.declared.instr.Selection.TheVariants as selection
use Rattle.fx_flow.specs.Code.{AsksAs}
use Rattle.fx_flow.specs.Emits.{Selects}
use Rattle.fx_flow.specs.Outward.{selected_from}

-- ---- numbers

pub eight_small : (n : ℤ) → is_one_of_eight n ≡ true → count_of n ≤ 255
eight_small (pos n) h = grind arith
eight_small (negsuc n) h = absurd cc

pub fifteen_small : (least : ℕ) (n : ℤ) → is_between least 15 n ≡ true → count_of n ≤ 255
fifteen_small least (pos n) h = let most = (and_parts (nat_le least n) (nat_le n 15) h).1 in grind (arith, most)
fifteen_small least (negsuc n) h = absurd cc

-- ---- statements

pub reduce_asks : (f : Facts) (spot : Spot) (o : Op) (counter array : List ℕ) → AsksAs f (Stmt-F.Reduce spot o counter array) spot (outward.Reduce o (counter_slot f.names counter) (array_slot f.names array))
reduce_asks f spot o counter array declares p keeps inside k view state = refl

pub agree_asks : (f : Facts) (spot : Spot) (counter array : List ℕ) (index : ℤ)
    → AsksAs f (Stmt-F.Agree spot counter array index) spot (outward.Agree (counter_slot f.names counter) (array_slot f.names array) (count_of index))
agree_asks f spot counter array index declares p keeps inside k view state = refl

pub barrier_asks : (f : Facts) (spot : Spot) → AsksAs f (Stmt-F.Barrier spot) spot outward.Barrier
barrier_asks f spot declares p keeps inside k view state = refl

module _ (f : Facts) (spot : Spot) where
  pub shift_asks : (source target : List ℕ) (by : ℤ) (small : ℕ) → (count_of by ≤ 255 → small ≡ count_of by)
      → AsksAs f (Stmt-F.Shift spot source target by) spot (outward.Shift small (array_slot f.names source) (array_slot f.names target))
  shift_asks source target by small is declares p keeps inside k view state =
      let both = and_parts (is_between 1 15 by) (are_of_one_length (array_in f.names source) (array_in f.names target)) keeps.in_range in
      rw (is (fifteen_small 1 by both.0)) refl

  pub group_asks : (group start depth : ℤ) (g : GroupId) (small : ℕ) → (is_one_of_eight group ≡ true → g ≡ group_id group) → (count_of depth ≤ 255 → small ≡ count_of depth)
      → AsksAs f (Stmt-F.Group spot group start depth) spot (outward.Group g (stamp_at start) small)
  group_asks group start depth g small same is declares p keeps inside k view state =
      let both = and_parts (is_one_of_eight group && is_between 0 1000000000 start) (is_between 0 15 depth) keeps.in_range in
      let front = and_parts (is_one_of_eight group) (is_between 0 1000000000 start) both.0 in
      rw (same front.0, is (fifteen_small 0 depth both.1)) refl

  pub member_asks : (group member : ℤ) (array : List ℕ) (g : GroupId) (m : MemberId) → (is_one_of_eight group ≡ true → g ≡ group_id group) → (is_one_of_eight member ≡ true → m ≡ member_id member)
      → AsksAs f (Stmt-F.Member spot group member array) spot (outward.Attach g m)
  member_asks group member array g m same is declares p keeps inside k view state =
      let both = and_parts (is_one_of_eight group) (is_one_of_eight member) keeps.in_range in
      rw (same both.0, is both.1) refl

  pub commit_asks : (group : ℤ) (g : GroupId) → (is_one_of_eight group ≡ true → g ≡ group_id group) → AsksAs f (Stmt-F.Commit spot group) spot (outward.Commit g)
  commit_asks group g same declares p keeps inside k view state = rw (same keeps.in_range) refl

  pub close_asks : (group : ℤ) (g : GroupId) → (is_one_of_eight group ≡ true → g ≡ group_id group) → AsksAs f (Stmt-F.CommitBarrier spot group) spot (outward.Close g)
  close_asks group g same declares p keeps inside k view state = rw (same keeps.in_range) refl

  pub restore_asks : (group member : ℤ) (stamp : Expr) (g : GroupId) (m : MemberId) → (is_one_of_eight group ≡ true → g ≡ group_id group) → (is_one_of_eight member ≡ true → m ≡ member_id member)
      → AsksAs f (Stmt-F.Restore spot group member stamp) spot (outward.Restore g m (array_slot f.names (member_array f group member)) (term_of f.names stamp))
  restore_asks group member stamp g m same is declares p keeps inside k view state =
      let both = and_parts (is_one_of_eight group && is_one_of_eight member) (expr_groups_fit stamp) keeps.in_range in
      let front = and_parts (is_one_of_eight group) (is_one_of_eight member) both.0 in
      rw (same front.0, is front.1, term_value-term_of f stamp (sight view state)) refl

  pub drop_asks : (group : ℤ) (stamp : Expr) (g : GroupId) → (is_one_of_eight group ≡ true → g ≡ group_id group) → AsksAs f (Stmt-F.Drop spot group stamp) spot (outward.Delete g (term_of f.names stamp))
  drop_asks group stamp g same declares p keeps inside k view state =
      let both = and_parts (is_one_of_eight group) (expr_groups_fit stamp) keeps.in_range in
      rw (same both.0, term_value-term_of f stamp (sight view state)) refl

-- ---- what is stored

from_same : (subset : Picked) (which : Selection) → Selects subset which → (i : ℕ) (elements : List ℤ) → selected_from which i elements ≡ picked_from subset i elements
from_same subset which same i [] = refl
from_same subset which same i (x ∷ xs) = rw (same i, from_same subset which same (i + 1) xs) refl

faultless_inside : (len : ℤ) (subset : Picked) → fits_32 len ≡ true → picked_fits_32 subset ≡ true → lies_in (Some len) subset ≡ true → is_faultless (subset_fault (count_of len) subset) ≡ true
faultless_inside len subset narrow fits h = rw (narrow, fits) at h

pub store_asks : (f : Facts) (spot : Spot) (group member : ℤ) (subset : Picked) (g : GroupId) (m : MemberId) (which : Selection) → (is_one_of_eight group ≡ true → g ≡ group_id group)
    → (is_one_of_eight member ≡ true → m ≡ member_id member)
    → ((len : ℤ) → length_of_attached f.names (first_attached f.attached group member) ≡ Some len → fits_32 len ≡ true → picked_fits_32 subset ≡ true
    → is_faultless (subset_fault (count_of len) subset) ≡ true → Selects subset which)
    → AsksAs f (Stmt-F.Store spot group member subset) spot (outward.Store g m (array_slot f.names (member_array f group member)) which)
store_asks f spot group member subset g m which same is selects declares p keeps inside k view state =
    let both = and_parts (is_one_of_eight group && is_one_of_eight member) (picked_fits_32 subset) keeps.in_range in
    let front = and_parts (is_one_of_eight group) (is_one_of_eight member) both.0 in
    let there = declares group member (and_parts (has_group f group) (has_member f group member) keeps.known).1 in
    let within : lies_in (Some there.0) subset ≡ true = rw there.1 at keeps.inside in
    let are = selects there.0 there.1 there.2 both.1 (faultless_inside there.0 subset there.2 both.1 within) in
    rw (same front.0, is front.1, from_same subset which are 0 (get_or state.arrays (array_slot f.names (member_array f group member)) [])) refl

-- ---- what is selected

no_fault : (o : Option SubsetFault) → is_faultless o ≡ true → o ≡ None
no_fault None h = refl
no_fault (Some fault) h = absurd cc

pub full_selects : Selects picked.Full selection.All
full_selects i = refl

pub empty_selects : Selects picked.Empty selection.Nothing
empty_selects i = refl

pub blocks_select : (len : ℕ) (blocks start end stride : ℤ) (which : Selection)
    → (fault_of_blocks len (count_of blocks) (count_of start) (count_of end) (count_of stride) ≡ None → which ≡ selection.Within (union_of (blocks_of (count_of blocks) (count_of start) (count_of end) (count_of stride))))
    → is_faultless (subset_fault len (picked.Strided blocks start end stride)) ≡ true → Selects (picked.Strided blocks start end stride) which
blocks_select len blocks start end stride which is h i =
    rw (is (no_fault _ h)) (sym (contains-union_of (blocks_of (count_of blocks) (count_of start) (count_of end) (count_of stride)) i))

pub ranges_select : (len : ℕ) (pairs : List (ℤ × ℤ)) (which : Selection) → (fault_of_pairs len (map pair_of pairs) ≡ None → which ≡ selection.Within (union_of (map pair_of pairs)))
    → is_faultless (subset_fault len (picked.Ranges pairs)) ≡ true → Selects (picked.Ranges pairs) which
ranges_select len pairs which is h i = rw (is (no_fault _ h)) (sym (contains-union_of (map pair_of pairs) i))

-- ---- what is made of it

pub blocks_made : (r : Result Selection NoMemory) (len : ℕ) (blocks start end stride : ℤ) (b s e t : ℕ)
    → (fits_32 blocks ≡ true → b ≡ count_of blocks) → (fits_32 start ≡ true → s ≡ count_of start) → (fits_32 end ≡ true → e ≡ count_of end) → (fits_32 stride ≡ true → t ≡ count_of stride)
    → IfOk r (λ which. fault_of_blocks len b s e t ≡ None → which ≡ selection.Within (union_of (blocks_of b s e t)))
    → IfOk r (λ which. picked_fits_32 (picked.Strided blocks start end stride) ≡ true → is_faultless (subset_fault len (picked.Strided blocks start end stride)) ≡ true → Selects (picked.Strided blocks start end stride) which)
blocks_made (Ok which) len blocks start end stride b s e t is_b is_s is_e is_t made = λ fits faultless.
    let all = and_parts (fits_32 blocks && fits_32 start && fits_32 end) (fits_32 stride) fits in
    let three = and_parts (fits_32 blocks && fits_32 start) (fits_32 end) all.0 in
    let two = and_parts (fits_32 blocks) (fits_32 start) three.0 in
    blocks_select len blocks start end stride which (rw (is_b two.0, is_s two.1, is_e three.1, is_t all.1) at made) faultless
blocks_made (Err error) len blocks start end stride b s e t is_b is_s is_e is_t made = tt

pub ranges_made : (r : Result Selection NoMemory) (len : ℕ) (pairs : List (ℤ × ℤ)) (made : List (ℕ × ℕ)) → (list_all pair_fits_32 pairs ≡ true → made ≡ map pair_of pairs)
    → IfOk r (λ which. fault_of_pairs len made ≡ None → which ≡ selection.Within (union_of made))
    → IfOk r (λ which. picked_fits_32 (picked.Ranges pairs) ≡ true → is_faultless (subset_fault len (picked.Ranges pairs)) ≡ true → Selects (picked.Ranges pairs) which)
ranges_made (Ok which) len pairs made are is = λ fits faultless. ranges_select len pairs which (rw (are fits) at is) faultless
ranges_made (Err error) len pairs made are is = tt
