-- Worked rows of a store, whose maps and sets answer by their laws.
use Rattle.std.proofs.Common.{◌≡◌, refl, ap, ◌∙◌, ℕ, ℤ, pos, negsuc, ◌&&◌, zero, suc, ◌++◌, true, false, [], ◌∷◌, Some, None, Ok, Err, arith}
use Rattle.std.specs.Prelude.{nat_lt}
use Rattle.std.specs.Ordering.{nat_cmp}
use Rattle.std.specs.Cmp.{nat_cmp_total}
use Rattle.std.specs.FinMap.{entries, from_sorted, entries-from_sorted, get, get-insert, get-empty, insert, empty}
use Rattle.std.specs.FinSet as set
use Rattle.fx_base.specs.Keys.{by_number, by_number_total}
use Rattle.fx_base.specs.declared.names.MemberId.{MemberId}
use Rattle.fx_base.specs.declared.names.Stamp.{Stamp}
use Rattle.fx_base.specs.declared.sparse.Sparse.{Sparse}
use Rattle.fx_base.specs.declared.snapshot.Snapshot.{Snapshot}
use Rattle.fx_store.specs.declared.answers.FindEnd.TheVariants.{NotAttached, NoStamp, NotStored}
use Rattle.fx_store.proofs.Overlays.{get-put_over}
use Rattle.fx_store.specs.Store.{Store, new_store, attaching, is_attached, storing, committing, closing, discarding, promoting, deleting, found, latest, put_over, pending_of, is_full, has_stamp, stamps_of, counted, RiseBelow}
use Rattle.std.proofs.lemmas.Int.{ints}
use Rattle.fx_store.specs.Packed.{has_spelling, is_element, spelling_of, snapshot_in, text_in, elements_in, run_in, runs_in, section_in, sections_in}
use Rattle.fx_store.specs.Rows.{one_element_bytes}

abbrev member_0 : MemberId
member_0 = record { 0 = 0 }

abbrev at : ℤ → Stamp
at z = record { 0 = z }

-- element 4 at index 0
abbrev four : Sparse
four = insert empty 0 (pos 4)

-- at depth 0 from stamp 0: member 0 is attached and stored, then committed, closed, committed and closed again
abbrev attached : Store
attached = attaching member_0 (new_store (at (pos 0)) 0)

abbrev stored : Store
stored = storing member_0 four attached

abbrev committed : Store
committed = committing stored

abbrev closed : Store
closed = closing committed

abbrev closed_again : Store
closed_again = closing (committing closed)

not_attached : is_attached member_0 (new_store (at (pos 0)) 0) ≡ false
not_attached = set.contains-empty nat_cmp 0

is_there : is_attached member_0 attached ≡ true
is_there = set.contains-insert nat_cmp_total set.empty 0 0

first_stamp : stored.next ≡ at (pos 0)
first_stamp = refl

-- a tentative snapshot isn't found
tentative_is_not_found : found member_0 (at (pos 0)) committed ≡ Err NoStamp
tentative_is_not_found = rw is_there refl

-- a closed one is
closed_is_found : found member_0 (at (pos 0)) closed ≡ Ok (put_over four (pending_of member_0 attached))
closed_is_found = rw (is_there, get-insert by_number_total) refl

-- with the element
closed_element : get (put_over four (pending_of member_0 attached)) 0 ≡ Some (pos 4)
closed_element = get-put_over four (pending_of member_0 attached) 0 ∙ rw (get-insert nat_cmp_total) refl

second_stamp : closed.next ≡ at (pos 1)
second_stamp = refl

-- depth 0 keeps one snapshot
first_is_gone : found member_0 (at (pos 0)) closed_again ≡ Err NoStamp
first_is_gone = rw is_there refl

second_is_latest : latest closed_again ≡ Some (at (pos 1))
second_is_latest = refl

-- and the second has nothing of the member
nothing_in_the_second : found member_0 (at (pos 1)) closed_again ≡ Err NotStored
nothing_in_the_second = rw (is_there, get-empty by_number member_0) refl

-- at depth 1 both stay
depth_1_keeps_two : stamps_of (closing (committing (closing (committing (new_store (at (pos 3)) 1))))).kept ≡ at (pos 3) ∷ at (pos 4) ∷ []
depth_1_keeps_two = refl

-- a third pushes the first out
depth_1_keeps_no_more :
    stamps_of (closing (committing (committing (committing (new_store (at (pos 3)) 1))))).kept ≡ at (pos 4) ∷ at (pos 5) ∷ []
depth_1_keeps_no_more = refl

-- stamps of tentative snapshots are used again
discarded_stamps : (discarding (committing (committing (new_store (at (pos 3)) 1)))).next ≡ at (pos 3)
discarded_stamps = refl

-- a deleted stamp is gone, and the next stays
deleted_stamp : stamps_of (deleting (at (pos 4)) (closing (committing (committing (new_store (at (pos 3)) 1))))).kept ≡ at (pos 3) ∷ []
deleted_stamp = refl

-- at shared indices the later store wins, and others stay
later_wins : get (put_over (insert empty 1 (pos 7)) (insert (insert empty 1 (pos 5)) 2 (pos 6))) 1 ≡ Some (pos 7)
later_wins = get-put_over _ _ 1 ∙ rw (get-insert nat_cmp_total empty 1 (pos 7) 1) refl

others_stay : get (put_over (insert empty 1 (pos 7)) (insert (insert empty 1 (pos 5)) 2 (pos 6))) 2 ≡ Some (pos 6)
others_stay = get-put_over _ _ 2 ∙ rw (get-insert nat_cmp_total empty 1 (pos 7) 2, get-empty {X = ℤ} nat_cmp 2, get-insert nat_cmp_total (insert empty 1 (pos 5)) 2 (pos 6) 2) refl

-- ---- second stores

abbrev member_1 : MemberId
member_1 = record { 0 = 1 }

-- 1 -> 5, 2 -> 6
abbrev five_six : Sparse
five_six = insert (insert empty 1 (pos 5)) 2 (pos 6)

-- 1 -> 7
abbrev seven : Sparse
seven = insert empty 1 (pos 7)

abbrev twice : Store
twice = storing member_0 seven (storing member_0 five_six attached)

pending_after : (piece : Sparse) (s : Store) → pending_of member_0 (storing member_0 piece s) ≡ put_over piece (pending_of member_0 s)
pending_after piece s = rw (get-insert by_number_total) refl

-- the second store of a member is put over the first
second_wins : get (pending_of member_0 twice) 1 ≡ Some (pos 7)
second_wins =
    ap (λ p. get p 1) (pending_after seven (storing member_0 five_six attached))
    ∙ (get-put_over _ _ 1 ∙ rw (get-insert nat_cmp_total empty 1 (pos 7) 1) refl)

first_stays : get (pending_of member_0 twice) 2 ≡ Some (pos 6)
first_stays =
    ap (λ p. get p 2) (pending_after seven (storing member_0 five_six attached))
    ∙ (get-put_over _ _ 2
    ∙ rw (get-insert nat_cmp_total empty 1 (pos 7) 2, get-empty {X = ℤ} nat_cmp 2)
    (ap (λ p. get p 2) (pending_after five_six attached)
    ∙ (get-put_over _ _ 2 ∙ rw (get-insert nat_cmp_total (insert empty 1 (pos 5)) 2 (pos 6) 2) refl)))

-- the entry of another member stays
other_entry : get (storing member_1 seven stored).pending member_0 ≡ get stored.pending member_0
other_entry = rw (get-insert by_number_total stored.pending member_1 (put_over seven (pending_of member_1 stored)) member_0) refl

-- a piece without an index makes an entry
entry_of_nothing : found member_0 (at (pos 0)) (closing (committing (storing member_0 empty attached))) ≡ Ok (put_over empty (pending_of member_0 attached))
entry_of_nothing = rw (is_there, get-insert by_number_total) refl

-- ---- members

-- the other stays attached
both_attached : is_attached member_0 (attaching member_1 attached) ≡ true
both_attached = set.contains-insert nat_cmp_total attached.attached 1 0 ∙ is_there

-- the member is asked before the stamp
member_first : found member_0 (at (pos 5)) (new_store (at (pos 0)) 0) ≡ Err NotAttached
member_first = rw not_attached refl

-- ---- what closing, discarding and promoting leave

pending_stays : (closing stored).pending ≡ stored.pending
pending_stays = refl

nothing_tentative : closed.tentative ≡ []
nothing_tentative = refl

discarded : discarding (storing member_0 four (committing closed)) ≡ record { pending = empty; tentative = []; kept = closed.kept; attached = set.empty; next = at (pos 1); depth = 0 }
discarded = refl

promoted :
    promoting ((at (pos 7), empty) ∷ []) (at (pos 9)) attached
    ≡ record { pending = empty; tentative = []; kept = (at (pos 7), empty) ∷ []; attached = attached.attached; next = at (pos 9); depth = 0 }
promoted = refl

latest_of_two : latest (closing (committing (committing (new_store (at (pos 3)) 1)))) ≡ Some (at (pos 4))
latest_of_two = refl

latest_of_none : latest attached ≡ None
latest_of_none = refl

-- ---- depth 15 from stamp 3: sixteen commits, then a commit barrier's, and then they are closed

abbrev commits : ℕ → Store
commits zero = new_store (at (pos 3)) 15
commits (suc n) = committing (commits n)

not_full_at_15 : is_full (commits 15) ≡ false
not_full_at_15 = refl

full_at_16 : is_full (commits 16) ≡ true
full_at_16 = refl

full_at_17 : is_full (commits 17) ≡ true
full_at_17 = refl

abbrev sixteen_kept : Store
sixteen_kept = closing (commits 17)

kept_from_4 : stamps_of sixteen_kept.kept ≡ counted (at (pos 4)) 16
kept_from_4 = refl

next_is_20 : sixteen_kept.next ≡ at (pos 20)
next_is_20 = refl

three_is_gone : has_stamp (at (pos 3)) sixteen_kept ≡ false
three_is_gone = refl

four_is_there : has_stamp (at (pos 4)) sixteen_kept ≡ true
four_is_there = refl

-- a tentative stamp isn't among the closed ones
three_is_tentative : has_stamp (at (pos 3)) (commits 1) ≡ false
three_is_tentative = refl

-- the first is deleted, or one within, and the next stamp stays
first_deleted : stamps_of (deleting (at (pos 4)) sixteen_kept).kept ≡ counted (at (pos 5)) 15
first_deleted = refl

one_within_deleted : stamps_of (deleting (at (pos 18)) sixteen_kept).kept ≡ counted (at (pos 4)) 14 ++ at (pos 19) ∷ []
one_within_deleted = refl

next_stays : (deleting (at (pos 19)) sixteen_kept).next ≡ at (pos 20)
next_stays = refl

-- ---- stamps rise

three_four : RiseBelow (at (pos 3) ∷ at (pos 4) ∷ []) (at (pos 5))
three_four = omega (arith, ints)

not_twice : RiseBelow (at (pos 3) ∷ at (pos 3) ∷ []) (at (pos 4)) → ⊥
not_twice rise = omega (arith, ints, rise.0)

not_at_the_bound : RiseBelow (at (pos 3) ∷ at (pos 4) ∷ []) (at (pos 4)) → ⊥
not_at_the_bound rise = omega (arith, ints, rise.1)

-- ---- packed snapshots

-- member 0 has element 9 at index 1
abbrev nine : Sparse
nine = from_sorted ((1, pos 9) ∷ [])

abbrev one : Snapshot
one = from_sorted ((member_0, nine) ∷ [])

entries_of_one : entries one ≡ (member_0, nine) ∷ []
entries_of_one = entries-from_sorted by_number ((member_0, nine) ∷ []) tt

entries_of_nine : entries nine ≡ (1, pos 9) ∷ []
entries_of_nine = entries-from_sorted nat_cmp ((1, pos 9) ∷ []) tt

one_has_a_spelling : has_spelling one ≡ true
one_has_a_spelling = rw (entries_of_one, entries_of_nine) refl

one_is_spelled : spelling_of one ≡ one_element_bytes
one_is_spelled = rw (entries_of_one, entries_of_nine) refl

-- it takes 19 bytes, whatever is behind them
one_is_read : snapshot_in (one_element_bytes ++ 7 ∷ 7 ∷ []) ≡ Some (one, 19)
unfolding text_in sections_in section_in runs_in run_in elements_in
one_is_read = refl

-- a snapshot has a spelling as far as member 7, index 255 and 64 bits
abbrev of_one : ℕ → ℕ → ℤ → Snapshot
of_one member index element = from_sorted ((record { 0 = member }, from_sorted ((index, element) ∷ [])) ∷ [])

has_of_one : (member index : ℕ) (element : ℤ) → has_spelling (of_one member index element) ≡ (nat_lt member 8 && (nat_lt index 256 && is_element element && true) && true)
has_of_one member index element =
    rw (entries-from_sorted by_number ((record { 0 = member }, from_sorted ((index, element) ∷ [])) ∷ []) tt, entries-from_sorted nat_cmp ((index, element) ∷ []) tt) refl

last_of_all : has_spelling (of_one 7 255 (negsuc 9223372036854775807)) ≡ true
last_of_all = has_of_one 7 255 (negsuc 9223372036854775807)

member_8_has_none : has_spelling (of_one 8 255 (pos 9)) ≡ false
member_8_has_none = has_of_one 8 255 (pos 9)

index_256_has_none : has_spelling (of_one 7 256 (pos 9)) ≡ false
index_256_has_none = has_of_one 7 256 (pos 9)

a_65th_bit_has_none : has_spelling (of_one 7 255 (pos 9223372036854775808)) ≡ false
a_65th_bit_has_none = has_of_one 7 255 (pos 9223372036854775808)
