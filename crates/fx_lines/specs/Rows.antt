-- Worked rows: the line of an item of each kind, of each message and of each slot, and the item of that line.
use Rattle.std.specs.Prelude.{◌≡◌, pos, negsuc, true, false, List, [], ◌∷◌, T, codes, Some, None, Ok, refl}
use Rattle.std.proofs.Common.{ap}
use Rattle.std.specs.FinMap.{from_sorted, entries-from_sorted, is_sorted}
use Rattle.std.specs.Fmt.{digits}
use Rattle.std.specs.List.{join_with_byte, list_all}
use Rattle.std.specs.Ordering.{nat_cmp}
use Rattle.std.specs.declared.cmp.Ordering.{Ordering}
use Rattle.fx_base.specs.Keys.{by_time}
use Rattle.fx_base.specs.declared.names.How.TheVariants as how
use Rattle.fx_base.specs.declared.names.Op.TheVariants as op
use Rattle.fx_base.specs.declared.names.Role.TheVariants as role
use Rattle.fx_item.specs.declared.answer.Answer.TheVariants as answer
use Rattle.fx_item.specs.declared.answer.Refusable.TheVariants as refusable
use Rattle.fx_item.specs.declared.item.Item.TheVariants as item
use Rattle.fx_link.specs.declared.message.Message.TheVariants as message
use Rattle.fx_link.specs.declared.slot.Slot.TheVariants as slot
use Rattle.fx_lines.specs.Forms.{WordForm, list_of}
use Rattle.fx_lines.specs.Items.{line_of, item_in, is_writable, is_in_type}
use Rattle.fx_lines.specs.Lists.{map_of, an_element, a_share}

-- the words of a map are those of the list that it was made of
listed_words : {K X : Type 0} (order : K → K → Ordering) (each : WordForm (K × X)) (es : List (K × X)) → T (is_sorted order es)
    → (map_of order each).words (from_sorted es) ≡ (list_of each).words es
listed_words order each es sorted = ap (list_of each).words (entries-from_sorted order es sorted)

pub killed : line_of (item.Kill (record { 0 = 3 })) ≡ codes "kill 3"
unfolding digits
killed = refl

pub killed_read : item_in (codes "kill 3") ≡ Ok (item.Kill (record { 0 = 3 }))
killed_read = refl

pub joins : line_of (item.Join (record { 0 = 0 }) (record { 0 = 1 }) slot.Start) ≡ codes "join 0 1 start"
unfolding digits
joins = refl

pub joins_read : item_in (codes "join 0 1 start") ≡ Ok (item.Join (record { 0 = 0 }) (record { 0 = 1 }) slot.Start)
joins_read = refl

pub repaired : line_of (item.Repaired (record { 0 = 0 }) (record { 0 = 2 }) 3 true ((record { 0 = 0 }, record { 0 = 0 }) ∷ (record { 0 = 1 }, record { 0 = 3 }) ∷ (record { 0 = 2 }, record { 0 = 2 }) ∷ [])) ≡ codes "repaired 0 2 3 spares-depleted : 0=0 1=3 2=2"
unfolding digits
repaired = refl

pub repaired_read : item_in (codes "repaired 0 2 3 spares-depleted : 0=0 1=3 2=2") ≡ Ok (item.Repaired (record { 0 = 0 }) (record { 0 = 2 }) 3 true ((record { 0 = 0 }, record { 0 = 0 }) ∷ (record { 0 = 1 }, record { 0 = 3 }) ∷ (record { 0 = 2 }, record { 0 = 2 }) ∷ []))
repaired_read = refl

pub repaired_without_seats : line_of (item.Repaired (record { 0 = 255 }) (record { 0 = 4294967295 }) 0 false []) ≡ codes "repaired 255 4294967295 0 full :"
unfolding digits
repaired_without_seats = refl

pub repaired_without_seats_read : item_in (codes "repaired 255 4294967295 0 full :") ≡ Ok (item.Repaired (record { 0 = 255 }) (record { 0 = 4294967295 }) 0 false [])
repaired_without_seats_read = refl

pub calls_back : line_of (item.Callback (record { 0 = 1 }) (record { 0 = 2 }) (codes "back1")) ≡ codes "callback 1 2 back1"
unfolding digits
calls_back = refl

pub calls_back_read : item_in (codes "callback 1 2 back1") ≡ Ok (item.Callback (record { 0 = 1 }) (record { 0 = 2 }) (codes "back1"))
calls_back_read = refl

pub initial : line_of (item.Init (record { 0 = 0 }) (record { 0 = 1 }) role.Initial (record { 0 = 0 }) 0 4 false) ≡ codes "init 0 1 initial 0 0 4 full"
unfolding digits
initial = refl

pub initial_read : item_in (codes "init 0 1 initial 0 0 4 full") ≡ Ok (item.Init (record { 0 = 0 }) (record { 0 = 1 }) role.Initial (record { 0 = 0 }) 0 4 false)
initial_read = refl

pub recovered : line_of (item.Init (record { 0 = 4 }) (record { 0 = 2 }) role.Recovered (record { 0 = 1 }) 1 3 true) ≡ codes "init 4 2 recovered 1 1 3 spares-depleted"
unfolding digits
recovered = refl

pub recovered_read : item_in (codes "init 4 2 recovered 1 1 3 spares-depleted") ≡ Ok (item.Init (record { 0 = 4 }) (record { 0 = 2 }) role.Recovered (record { 0 = 1 }) 1 3 true)
recovered_read = refl

pub prints : line_of (item.Print (record { 0 = 2 }) (record { 0 = 1 }) (codes "a") (pos 0 ∷ negsuc 4 ∷ pos 9223372036854775807 ∷ negsuc 9223372036854775807 ∷ [])) ≡ codes "print 2 1 a : 0 -5 9223372036854775807 -9223372036854775808"
unfolding digits
prints = refl

pub prints_read : item_in (codes "print 2 1 a : 0 -5 9223372036854775807 -9223372036854775808") ≡ Ok (item.Print (record { 0 = 2 }) (record { 0 = 1 }) (codes "a") (pos 0 ∷ negsuc 4 ∷ pos 9223372036854775807 ∷ negsuc 9223372036854775807 ∷ []))
prints_read = refl

pub prints_nothing : line_of (item.Print (record { 0 = 2 }) (record { 0 = 1 }) (codes "a") []) ≡ codes "print 2 1 a :"
unfolding digits
prints_nothing = refl

pub prints_nothing_read : item_in (codes "print 2 1 a :") ≡ Ok (item.Print (record { 0 = 2 }) (record { 0 = 1 }) (codes "a") [])
prints_nothing_read = refl

pub attaches : line_of (item.Attach (record { 0 = 1 }) (record { 0 = 2 }) (record { 0 = 0 }) (record { 0 = 7 })) ≡ codes "attach 1 2 0 7"
unfolding digits
attaches = refl

pub attaches_read : item_in (codes "attach 1 2 0 7") ≡ Ok (item.Attach (record { 0 = 1 }) (record { 0 = 2 }) (record { 0 = 0 }) (record { 0 = 7 }))
attaches_read = refl

pub stores : line_of (item.Store (record { 0 = 1 }) (record { 0 = 2 }) (record { 0 = 0 }) (record { 0 = 7 }) (from_sorted ((0, negsuc 0) ∷ (9, pos 5) ∷ (4294967295, negsuc 9223372036854775807) ∷ []))) ≡ codes "store 1 2 0 7 : 0=-1 9=5 4294967295=-9223372036854775808"
unfolding digits
stores = ap (λ words. join_with_byte 32 (codes "store" ∷ codes "1" ∷ codes "2" ∷ codes "0" ∷ codes "7" ∷ words)) (listed_words nat_cmp an_element ((0, negsuc 0) ∷ (9, pos 5) ∷ (4294967295, negsuc 9223372036854775807) ∷ []) tt)

pub stores_read : item_in (codes "store 1 2 0 7 : 0=-1 9=5 4294967295=-9223372036854775808") ≡ Ok (item.Store (record { 0 = 1 }) (record { 0 = 2 }) (record { 0 = 0 }) (record { 0 = 7 }) (from_sorted ((0, negsuc 0) ∷ (9, pos 5) ∷ (4294967295, negsuc 9223372036854775807) ∷ [])))
stores_read = refl

pub commits : line_of (item.Commit (record { 0 = 1 }) (record { 0 = 2 }) (record { 0 = 0 }) (record { 0 = pos 100 })) ≡ codes "commit 1 2 0 100"
unfolding digits
commits = refl

pub commits_read : item_in (codes "commit 1 2 0 100") ≡ Ok (item.Commit (record { 0 = 1 }) (record { 0 = 2 }) (record { 0 = 0 }) (record { 0 = pos 100 }))
commits_read = refl

pub restores : line_of (item.Restore (record { 0 = 1 }) (record { 0 = 2 }) (record { 0 = 0 }) (record { 0 = 7 }) (record { 0 = negsuc 2 }) (from_sorted ((4, pos 0) ∷ []))) ≡ codes "restore 1 2 0 7 -3 : 4=0"
unfolding digits
restores = ap (λ words. join_with_byte 32 (codes "restore" ∷ codes "1" ∷ codes "2" ∷ codes "0" ∷ codes "7" ∷ codes "-3" ∷ words)) (listed_words nat_cmp an_element ((4, pos 0) ∷ []) tt)

pub restores_read : item_in (codes "restore 1 2 0 7 -3 : 4=0") ≡ Ok (item.Restore (record { 0 = 1 }) (record { 0 = 2 }) (record { 0 = 0 }) (record { 0 = 7 }) (record { 0 = negsuc 2 }) (from_sorted ((4, pos 0) ∷ [])))
restores_read = refl

pub restores_nothing : line_of (item.Restore (record { 0 = 1 }) (record { 0 = 2 }) (record { 0 = 0 }) (record { 0 = 7 }) (record { 0 = negsuc 2 }) (from_sorted [])) ≡ codes "restore 1 2 0 7 -3 :"
unfolding digits
restores_nothing = ap (λ words. join_with_byte 32 (codes "restore" ∷ codes "1" ∷ codes "2" ∷ codes "0" ∷ codes "7" ∷ codes "-3" ∷ words)) (listed_words nat_cmp an_element [] tt)

pub restores_nothing_read : item_in (codes "restore 1 2 0 7 -3 :") ≡ Ok (item.Restore (record { 0 = 1 }) (record { 0 = 2 }) (record { 0 = 0 }) (record { 0 = 7 }) (record { 0 = negsuc 2 }) (from_sorted []))
restores_nothing_read = refl

pub refuses_a_group : line_of (item.Refused (record { 0 = 1 }) (record { 0 = 2 }) refusable.Group (record { 0 = 0 }) (record { 0 = 0 }) (record { 0 = pos 0 }) answer.AlreadyCreated) ≡ codes "refused 1 2 group 0 0 0 AlreadyCreated"
unfolding digits
refuses_a_group = refl

pub refuses_a_group_read : item_in (codes "refused 1 2 group 0 0 0 AlreadyCreated") ≡ Ok (item.Refused (record { 0 = 1 }) (record { 0 = 2 }) refusable.Group (record { 0 = 0 }) (record { 0 = 0 }) (record { 0 = pos 0 }) answer.AlreadyCreated)
refuses_a_group_read = refl

pub refuses_a_member : line_of (item.Refused (record { 0 = 1 }) (record { 0 = 2 }) refusable.Member (record { 0 = 0 }) (record { 0 = 3 }) (record { 0 = pos 0 }) answer.NotCreated) ≡ codes "refused 1 2 member 0 3 0 NotCreated"
unfolding digits
refuses_a_member = refl

pub refuses_a_member_read : item_in (codes "refused 1 2 member 0 3 0 NotCreated") ≡ Ok (item.Refused (record { 0 = 1 }) (record { 0 = 2 }) refusable.Member (record { 0 = 0 }) (record { 0 = 3 }) (record { 0 = pos 0 }) answer.NotCreated)
refuses_a_member_read = refl

pub refuses_a_store : line_of (item.Refused (record { 0 = 1 }) (record { 0 = 2 }) refusable.Store (record { 0 = 0 }) (record { 0 = 3 }) (record { 0 = pos 0 }) answer.NotAttached) ≡ codes "refused 1 2 store 0 3 0 NotAttached"
unfolding digits
refuses_a_store = refl

pub refuses_a_store_read : item_in (codes "refused 1 2 store 0 3 0 NotAttached") ≡ Ok (item.Refused (record { 0 = 1 }) (record { 0 = 2 }) refusable.Store (record { 0 = 0 }) (record { 0 = 3 }) (record { 0 = pos 0 }) answer.NotAttached)
refuses_a_store_read = refl

pub refuses_a_commit : line_of (item.Refused (record { 0 = 1 }) (record { 0 = 2 }) refusable.Commit (record { 0 = 0 }) (record { 0 = 0 }) (record { 0 = pos 0 }) answer.Full) ≡ codes "refused 1 2 commit 0 0 0 Full"
unfolding digits
refuses_a_commit = refl

pub refuses_a_commit_read : item_in (codes "refused 1 2 commit 0 0 0 Full") ≡ Ok (item.Refused (record { 0 = 1 }) (record { 0 = 2 }) refusable.Commit (record { 0 = 0 }) (record { 0 = 0 }) (record { 0 = pos 0 }) answer.Full)
refuses_a_commit_read = refl

pub refuses_a_commit_barrier : line_of (item.Refused (record { 0 = 1 }) (record { 0 = 2 }) refusable.CommitBarrier (record { 0 = 0 }) (record { 0 = 0 }) (record { 0 = pos 0 }) answer.NotCreated) ≡ codes "refused 1 2 commitbarrier 0 0 0 NotCreated"
unfolding digits
refuses_a_commit_barrier = refl

pub refuses_a_commit_barrier_read : item_in (codes "refused 1 2 commitbarrier 0 0 0 NotCreated") ≡ Ok (item.Refused (record { 0 = 1 }) (record { 0 = 2 }) refusable.CommitBarrier (record { 0 = 0 }) (record { 0 = 0 }) (record { 0 = pos 0 }) answer.NotCreated)
refuses_a_commit_barrier_read = refl

pub refuses_a_restore : line_of (item.Refused (record { 0 = 1 }) (record { 0 = 2 }) refusable.Restore (record { 0 = 0 }) (record { 0 = 3 }) (record { 0 = pos 105 }) answer.NotStored) ≡ codes "refused 1 2 restore 0 3 105 NotStored"
unfolding digits
refuses_a_restore = refl

pub refuses_a_restore_read : item_in (codes "refused 1 2 restore 0 3 105 NotStored") ≡ Ok (item.Refused (record { 0 = 1 }) (record { 0 = 2 }) refusable.Restore (record { 0 = 0 }) (record { 0 = 3 }) (record { 0 = pos 105 }) answer.NotStored)
refuses_a_restore_read = refl

pub refuses_a_drop : line_of (item.Refused (record { 0 = 1 }) (record { 0 = 2 }) refusable.Drop (record { 0 = 0 }) (record { 0 = 0 }) (record { 0 = pos 105 }) answer.NoStamp) ≡ codes "refused 1 2 drop 0 0 105 NoStamp"
unfolding digits
refuses_a_drop = refl

pub refuses_a_drop_read : item_in (codes "refused 1 2 drop 0 0 105 NoStamp") ≡ Ok (item.Refused (record { 0 = 1 }) (record { 0 = 2 }) refusable.Drop (record { 0 = 0 }) (record { 0 = 0 }) (record { 0 = pos 105 }) answer.NoStamp)
refuses_a_drop_read = refl

pub enters_a_barrier : line_of (item.Barrier (record { 0 = 1 }) (record { 0 = 2 }) (record { 0 = 4294967295 })) ≡ codes "barrier 1 2 4294967295"
unfolding digits
enters_a_barrier = refl

pub enters_a_barrier_read : item_in (codes "barrier 1 2 4294967295") ≡ Ok (item.Barrier (record { 0 = 1 }) (record { 0 = 2 }) (record { 0 = 4294967295 }))
enters_a_barrier_read = refl

pub enters_a_reduction : line_of (item.Reduce (record { 0 = 1 }) (record { 0 = 2 }) (record { 0 = 3 }) op.Min (negsuc 9223372036854775807)) ≡ codes "reduce 1 2 3 min -9223372036854775808"
unfolding digits
enters_a_reduction = refl

pub enters_a_reduction_read : item_in (codes "reduce 1 2 3 min -9223372036854775808") ≡ Ok (item.Reduce (record { 0 = 1 }) (record { 0 = 2 }) (record { 0 = 3 }) op.Min (negsuc 9223372036854775807))
enters_a_reduction_read = refl

pub enters_an_agreement : line_of (item.Agree (record { 0 = 1 }) (record { 0 = 2 }) (record { 0 = 3 }) (pos 6)) ≡ codes "agree 1 2 3 6"
unfolding digits
enters_an_agreement = refl

pub enters_an_agreement_read : item_in (codes "agree 1 2 3 6") ≡ Ok (item.Agree (record { 0 = 1 }) (record { 0 = 2 }) (record { 0 = 3 }) (pos 6))
enters_an_agreement_read = refl

pub enters_a_shift : line_of (item.Shift (record { 0 = 1 }) (record { 0 = 2 }) (record { 0 = 3 }) 255 (pos 7 ∷ negsuc 6 ∷ [])) ≡ codes "shift 1 2 3 255 : 7 -7"
unfolding digits
enters_a_shift = refl

pub enters_a_shift_read : item_in (codes "shift 1 2 3 255 : 7 -7") ≡ Ok (item.Shift (record { 0 = 1 }) (record { 0 = 2 }) (record { 0 = 3 }) 255 (pos 7 ∷ negsuc 6 ∷ []))
enters_a_shift_read = refl

pub enters_a_creation : line_of (item.Group (record { 0 = 1 }) (record { 0 = 2 }) (record { 0 = 3 }) (record { 0 = 4 })) ≡ codes "group 1 2 3 4"
unfolding digits
enters_a_creation = refl

pub enters_a_creation_read : item_in (codes "group 1 2 3 4") ≡ Ok (item.Group (record { 0 = 1 }) (record { 0 = 2 }) (record { 0 = 3 }) (record { 0 = 4 }))
enters_a_creation_read = refl

pub enters_a_commit_barrier : line_of (item.Close (record { 0 = 1 }) (record { 0 = 2 }) (record { 0 = 3 }) (record { 0 = 4 })) ≡ codes "close 1 2 3 4"
unfolding digits
enters_a_commit_barrier = refl

pub enters_a_commit_barrier_read : item_in (codes "close 1 2 3 4") ≡ Ok (item.Close (record { 0 = 1 }) (record { 0 = 2 }) (record { 0 = 3 }) (record { 0 = 4 }))
enters_a_commit_barrier_read = refl

pub enters_a_deletion : line_of (item.Drop (record { 0 = 1 }) (record { 0 = 2 }) (record { 0 = 3 }) (record { 0 = 4 }) (record { 0 = pos 10 })) ≡ codes "drop 1 2 3 4 10"
unfolding digits
enters_a_deletion = refl

pub enters_a_deletion_read : item_in (codes "drop 1 2 3 4 10") ≡ Ok (item.Drop (record { 0 = 1 }) (record { 0 = 2 }) (record { 0 = 3 }) (record { 0 = 4 }) (record { 0 = pos 10 }))
enters_a_deletion_read = refl

pub passes : line_of (item.Passed (record { 0 = 1 }) (record { 0 = 2 }) (record { 0 = 3 })) ≡ codes "passed 1 2 3"
unfolding digits
passes = refl

pub passes_read : item_in (codes "passed 1 2 3") ≡ Ok (item.Passed (record { 0 = 1 }) (record { 0 = 2 }) (record { 0 = 3 }))
passes_read = refl

pub gets_a_value : line_of (item.Value (record { 0 = 1 }) (record { 0 = 2 }) (record { 0 = 3 }) (pos 9223372036854775807)) ≡ codes "value 1 2 3 9223372036854775807"
unfolding digits
gets_a_value = refl

pub gets_a_value_read : item_in (codes "value 1 2 3 9223372036854775807") ≡ Ok (item.Value (record { 0 = 1 }) (record { 0 = 2 }) (record { 0 = 3 }) (pos 9223372036854775807))
gets_a_value_read = refl

pub gets_elements : line_of (item.Shifted (record { 0 = 1 }) (record { 0 = 2 }) (record { 0 = 3 }) (pos 1 ∷ pos 2 ∷ [])) ≡ codes "shifted 1 2 3 : 1 2"
unfolding digits
gets_elements = refl

pub gets_elements_read : item_in (codes "shifted 1 2 3 : 1 2") ≡ Ok (item.Shifted (record { 0 = 1 }) (record { 0 = 2 }) (record { 0 = 3 }) (pos 1 ∷ pos 2 ∷ []))
gets_elements_read = refl

pub has_created : line_of (item.Created (record { 0 = 1 }) (record { 0 = 2 }) (record { 0 = 3 }) (record { 0 = 0 }) how.Kept (record { 0 = pos 100 } ∷ record { 0 = pos 101 } ∷ [])) ≡ codes "created 1 2 3 0 kept : 100 101"
unfolding digits
has_created = refl

pub has_created_read : item_in (codes "created 1 2 3 0 kept : 100 101") ≡ Ok (item.Created (record { 0 = 1 }) (record { 0 = 2 }) (record { 0 = 3 }) (record { 0 = 0 }) how.Kept (record { 0 = pos 100 } ∷ record { 0 = pos 101 } ∷ []))
has_created_read = refl

pub has_created_anew : line_of (item.Created (record { 0 = 1 }) (record { 0 = 2 }) (record { 0 = 3 }) (record { 0 = 0 }) how.Lost []) ≡ codes "created 1 2 3 0 lost :"
unfolding digits
has_created_anew = refl

pub has_created_anew_read : item_in (codes "created 1 2 3 0 lost :") ≡ Ok (item.Created (record { 0 = 1 }) (record { 0 = 2 }) (record { 0 = 3 }) (record { 0 = 0 }) how.Lost [])
has_created_anew_read = refl

pub has_closed : line_of (item.Closed (record { 0 = 1 }) (record { 0 = 2 }) (record { 0 = 3 }) (record { 0 = 0 }) (record { 0 = pos 101 })) ≡ codes "closed 1 2 3 0 101"
unfolding digits
has_closed = refl

pub has_closed_read : item_in (codes "closed 1 2 3 0 101") ≡ Ok (item.Closed (record { 0 = 1 }) (record { 0 = 2 }) (record { 0 = 3 }) (record { 0 = 0 }) (record { 0 = pos 101 }))
has_closed_read = refl

pub fails : line_of (item.Failed (record { 0 = 1 }) (record { 0 = 2 }) (record { 0 = 3 }) (record { 0 = 0 })) ≡ codes "failed 1 2 3 0"
unfolding digits
fails = refl

pub fails_read : item_in (codes "failed 1 2 3 0") ≡ Ok (item.Failed (record { 0 = 1 }) (record { 0 = 2 }) (record { 0 = 3 }) (record { 0 = 0 }))
fails_read = refl

pub is_revoked : line_of (item.Revoked (record { 0 = 1 }) (record { 0 = 2 }) (record { 0 = 3 }) (record { 0 = 0 })) ≡ codes "revoked 1 2 3 0"
unfolding digits
is_revoked = refl

pub is_revoked_read : item_in (codes "revoked 1 2 3 0") ≡ Ok (item.Revoked (record { 0 = 1 }) (record { 0 = 2 }) (record { 0 = 3 }) (record { 0 = 0 }))
is_revoked_read = refl

pub ends : line_of (item.Ended (record { 0 = 10 })) ≡ codes "ended 10"
unfolding digits
ends = refl

pub ends_read : item_in (codes "ended 10") ≡ Ok (item.Ended (record { 0 = 10 }))
ends_read = refl

pub learns_a_loss : line_of (item.Told (record { 0 = 3 }) (record { 0 = 0 })) ≡ codes "told 3 0"
unfolding digits
learns_a_loss = refl

pub learns_a_loss_read : item_in (codes "told 3 0") ≡ Ok (item.Told (record { 0 = 3 }) (record { 0 = 0 }))
learns_a_loss_read = refl

pub sends_a_join : line_of (item.Send (record { 0 = 0 }) (record { 0 = 1 }) (message.Join (record { 0 = 2 }) slot.Error)) ≡ codes "send 0 1 join 2 error"
unfolding digits
sends_a_join = refl

pub sends_a_join_read : item_in (codes "send 0 1 join 2 error") ≡ Ok (item.Send (record { 0 = 0 }) (record { 0 = 1 }) (message.Join (record { 0 = 2 }) slot.Error))
sends_a_join_read = refl

pub sends_an_estimate_of_a_join : line_of (item.Send (record { 0 = 0 }) (record { 0 = 1 }) (message.Jest (record { 0 = 2 }) 1 (slot.Spare ∷ slot.Final ∷ slot.Lost ∷ slot.Left ∷ []))) ≡ codes "send 0 1 jest 2 1 spare,final,lost,left"
unfolding digits
sends_an_estimate_of_a_join = refl

pub sends_an_estimate_of_a_join_read : item_in (codes "send 0 1 jest 2 1 spare,final,lost,left") ≡ Ok (item.Send (record { 0 = 0 }) (record { 0 = 1 }) (message.Jest (record { 0 = 2 }) 1 (slot.Spare ∷ slot.Final ∷ slot.Lost ∷ slot.Left ∷ [])))
sends_an_estimate_of_a_join_read = refl

pub sends_nothing_for_a_barrier : line_of (item.Send (record { 0 = 0 }) (record { 0 = 1 }) (message.Part (record { 0 = 2 }) (record { 0 = 3 }) [])) ≡ codes "send 0 1 part 2 3 :"
unfolding digits
sends_nothing_for_a_barrier = refl

pub sends_nothing_for_a_barrier_read : item_in (codes "send 0 1 part 2 3 :") ≡ Ok (item.Send (record { 0 = 0 }) (record { 0 = 1 }) (message.Part (record { 0 = 2 }) (record { 0 = 3 }) []))
sends_nothing_for_a_barrier_read = refl

pub sends_elements : line_of (item.Deliver (record { 0 = 0 }) (record { 0 = 1 }) (message.Part (record { 0 = 2 }) (record { 0 = 3 }) (pos 4 ∷ negsuc 4 ∷ []))) ≡ codes "deliver 0 1 part 2 3 : 4 -5"
unfolding digits
sends_elements = refl

pub sends_elements_read : item_in (codes "deliver 0 1 part 2 3 : 4 -5") ≡ Ok (item.Deliver (record { 0 = 0 }) (record { 0 = 1 }) (message.Part (record { 0 = 2 }) (record { 0 = 3 }) (pos 4 ∷ negsuc 4 ∷ [])))
sends_elements_read = refl

pub sends_a_vote : line_of (item.Send (record { 0 = 0 }) (record { 0 = 1 }) (message.Vote (record { 0 = 2 }) (record { 0 = 3 }) slot.Yes)) ≡ codes "send 0 1 vote 2 3 yes"
unfolding digits
sends_a_vote = refl

pub sends_a_vote_read : item_in (codes "send 0 1 vote 2 3 yes") ≡ Ok (item.Send (record { 0 = 0 }) (record { 0 = 1 }) (message.Vote (record { 0 = 2 }) (record { 0 = 3 }) slot.Yes))
sends_a_vote_read = refl

pub sends_a_flag : line_of (item.Deliver (record { 0 = 0 }) (record { 0 = 1 }) (message.Vote (record { 0 = 2 }) (record { 0 = 3 }) (slot.Flag (negsuc 0)))) ≡ codes "deliver 0 1 vote 2 3 yes=-1"
unfolding digits
sends_a_flag = refl

pub sends_a_flag_read : item_in (codes "deliver 0 1 vote 2 3 yes=-1") ≡ Ok (item.Deliver (record { 0 = 0 }) (record { 0 = 1 }) (message.Vote (record { 0 = 2 }) (record { 0 = 3 }) (slot.Flag (negsuc 0))))
sends_a_flag_read = refl

pub sends_an_estimate : line_of (item.Send (record { 0 = 0 }) (record { 0 = 1 }) (message.Est (record { 0 = 2 }) (record { 0 = 3 }) 255 (slot.Yes ∷ (slot.Flag (pos 0)) ∷ slot.Fresh ∷ slot.Kept ∷ slot.Gone ∷ (slot.NoLost (record { 0 = 1 })) ∷ (slot.NoLeft (record { 0 = 2 })) ∷ []))) ≡ codes "send 0 1 est 2 3 255 yes,yes=0,fresh,kept,gone,nolost=1,noleft=2"
unfolding digits
sends_an_estimate = refl

pub sends_an_estimate_read : item_in (codes "send 0 1 est 2 3 255 yes,yes=0,fresh,kept,gone,nolost=1,noleft=2") ≡ Ok (item.Send (record { 0 = 0 }) (record { 0 = 1 }) (message.Est (record { 0 = 2 }) (record { 0 = 3 }) 255 (slot.Yes ∷ (slot.Flag (pos 0)) ∷ slot.Fresh ∷ slot.Kept ∷ slot.Gone ∷ (slot.NoLost (record { 0 = 1 })) ∷ (slot.NoLeft (record { 0 = 2 })) ∷ [])))
sends_an_estimate_read = refl

pub sends_snapshots : line_of (item.Send (record { 0 = 0 }) (record { 0 = 1 }) (message.Share (record { 0 = 2 }) (record { 0 = 3 }) (from_sorted ((record { 0 = negsuc 0 }, []) ∷ (record { 0 = pos 100 }, (0 ∷ 171 ∷ 255 ∷ [])) ∷ [])))) ≡ codes "send 0 1 share 2 3 : -1= 100=00abff"
unfolding digits
sends_snapshots = ap (λ words. join_with_byte 32 (codes "send" ∷ codes "0" ∷ codes "1" ∷ codes "share" ∷ codes "2" ∷ codes "3" ∷ words)) (listed_words by_time a_share ((record { 0 = negsuc 0 }, []) ∷ (record { 0 = pos 100 }, (0 ∷ 171 ∷ 255 ∷ [])) ∷ []) tt)

pub sends_snapshots_read : item_in (codes "send 0 1 share 2 3 : -1= 100=00abff") ≡ Ok (item.Send (record { 0 = 0 }) (record { 0 = 1 }) (message.Share (record { 0 = 2 }) (record { 0 = 3 }) (from_sorted ((record { 0 = negsuc 0 }, []) ∷ (record { 0 = pos 100 }, (0 ∷ 171 ∷ 255 ∷ [])) ∷ []))))
sends_snapshots_read = refl

pub tells_nothing : line_of (item.Send (record { 0 = 0 }) (record { 0 = 1 }) (message.Tell (record { 0 = 2 }) (record { 0 = 3 }) None)) ≡ codes "send 0 1 tell 2 3 unknown"
unfolding digits
tells_nothing = refl

pub tells_nothing_read : item_in (codes "send 0 1 tell 2 3 unknown") ≡ Ok (item.Send (record { 0 = 0 }) (record { 0 = 1 }) (message.Tell (record { 0 = 2 }) (record { 0 = 3 }) None))
tells_nothing_read = refl

pub tells_what_it_holds : line_of (item.Deliver (record { 0 = 0 }) (record { 0 = 1 }) (message.Tell (record { 0 = 2 }) (record { 0 = 3 }) (Some (record { created = record { 0 = 1 }; next = record { 0 = pos 102 }; comm = ((record { 0 = 0 }, record { 0 = 0 }) ∷ (record { 0 = 1 }, record { 0 = 4 }) ∷ []); stamps = (record { 0 = pos 100 } ∷ record { 0 = pos 101 } ∷ []) })))) ≡ codes "deliver 0 1 tell 2 3 known 1 102 0=0,1=4 : 100 101"
unfolding digits
tells_what_it_holds = refl

pub tells_what_it_holds_read : item_in (codes "deliver 0 1 tell 2 3 known 1 102 0=0,1=4 : 100 101") ≡ Ok (item.Deliver (record { 0 = 0 }) (record { 0 = 1 }) (message.Tell (record { 0 = 2 }) (record { 0 = 3 }) (Some (record { created = record { 0 = 1 }; next = record { 0 = pos 102 }; comm = ((record { 0 = 0 }, record { 0 = 0 }) ∷ (record { 0 = 1 }, record { 0 = 4 }) ∷ []); stamps = (record { 0 = pos 100 } ∷ record { 0 = pos 101 } ∷ []) }))))
tells_what_it_holds_read = refl

pub tells_no_stamps : line_of (item.Deliver (record { 0 = 0 }) (record { 0 = 1 }) (message.Tell (record { 0 = 2 }) (record { 0 = 3 }) (Some (record { created = record { 0 = 1 }; next = record { 0 = pos 100 }; comm = ((record { 0 = 0 }, record { 0 = 0 }) ∷ []); stamps = [] })))) ≡ codes "deliver 0 1 tell 2 3 known 1 100 0=0 :"
unfolding digits
tells_no_stamps = refl

pub tells_no_stamps_read : item_in (codes "deliver 0 1 tell 2 3 known 1 100 0=0 :") ≡ Ok (item.Deliver (record { 0 = 0 }) (record { 0 = 1 }) (message.Tell (record { 0 = 2 }) (record { 0 = 3 }) (Some (record { created = record { 0 = 1 }; next = record { 0 = pos 100 }; comm = ((record { 0 = 0 }, record { 0 = 0 }) ∷ []); stamps = [] }))))
tells_no_stamps_read = refl

pub sends_help : line_of (item.Send (record { 0 = 0 }) (record { 0 = 1 }) (message.Help (record { 0 = 2 }) (record { 0 = 3 }) (from_sorted ((record { 0 = pos 7 }, []) ∷ [])))) ≡ codes "send 0 1 help 2 3 : 7="
unfolding digits
sends_help = ap (λ words. join_with_byte 32 (codes "send" ∷ codes "0" ∷ codes "1" ∷ codes "help" ∷ codes "2" ∷ codes "3" ∷ words)) (listed_words by_time a_share ((record { 0 = pos 7 }, []) ∷ []) tt)

pub sends_help_read : item_in (codes "send 0 1 help 2 3 : 7=") ≡ Ok (item.Send (record { 0 = 0 }) (record { 0 = 1 }) (message.Help (record { 0 = 2 }) (record { 0 = 3 }) (from_sorted ((record { 0 = pos 7 }, []) ∷ []))))
sends_help_read = refl

pub gives : line_of (item.Deliver (record { 0 = 0 }) (record { 0 = 1 }) (message.Give (record { 0 = 2 }) (record { 0 = 3 }) (from_sorted []))) ≡ codes "deliver 0 1 give 2 3 :"
unfolding digits
gives = ap (λ words. join_with_byte 32 (codes "deliver" ∷ codes "0" ∷ codes "1" ∷ codes "give" ∷ codes "2" ∷ codes "3" ∷ words)) (listed_words by_time a_share [] tt)

pub gives_read : item_in (codes "deliver 0 1 give 2 3 :") ≡ Ok (item.Deliver (record { 0 = 0 }) (record { 0 = 1 }) (message.Give (record { 0 = 2 }) (record { 0 = 3 }) (from_sorted [])))
gives_read = refl

pub seats_in_any_order : line_of (item.Repaired (record { 0 = 0 }) (record { 0 = 2 }) 9 false ((record { 0 = 1 }, record { 0 = 3 }) ∷ (record { 0 = 0 }, record { 0 = 0 }) ∷ (record { 0 = 1 }, record { 0 = 3 }) ∷ [])) ≡ codes "repaired 0 2 9 full : 1=3 0=0 1=3"
unfolding digits
seats_in_any_order = refl

pub seats_in_any_order_read : item_in (codes "repaired 0 2 9 full : 1=3 0=0 1=3") ≡ Ok (item.Repaired (record { 0 = 0 }) (record { 0 = 2 }) 9 false ((record { 0 = 1 }, record { 0 = 3 }) ∷ (record { 0 = 0 }, record { 0 = 0 }) ∷ (record { 0 = 1 }, record { 0 = 3 }) ∷ []))
seats_in_any_order_read = refl

pub stamps_in_any_order : line_of (item.Created (record { 0 = 1 }) (record { 0 = 2 }) (record { 0 = 3 }) (record { 0 = 0 }) how.Fresh (record { 0 = pos 101 } ∷ record { 0 = pos 100 } ∷ record { 0 = pos 101 } ∷ [])) ≡ codes "created 1 2 3 0 fresh : 101 100 101"
unfolding digits
stamps_in_any_order = refl

pub stamps_in_any_order_read : item_in (codes "created 1 2 3 0 fresh : 101 100 101") ≡ Ok (item.Created (record { 0 = 1 }) (record { 0 = 2 }) (record { 0 = 3 }) (record { 0 = 0 }) how.Fresh (record { 0 = pos 101 } ∷ record { 0 = pos 100 } ∷ record { 0 = pos 101 } ∷ []))
stamps_in_any_order_read = refl

pub a_told_communicator_in_any_order : line_of (item.Send (record { 0 = 0 }) (record { 0 = 1 }) (message.Tell (record { 0 = 2 }) (record { 0 = 3 }) (Some (record { created = record { 0 = 1 }; next = record { 0 = pos 100 }; comm = ((record { 0 = 1 }, record { 0 = 4 }) ∷ (record { 0 = 0 }, record { 0 = 0 }) ∷ (record { 0 = 1 }, record { 0 = 4 }) ∷ []); stamps = (record { 0 = pos 101 } ∷ record { 0 = pos 100 } ∷ []) })))) ≡ codes "send 0 1 tell 2 3 known 1 100 1=4,0=0,1=4 : 101 100"
unfolding digits
a_told_communicator_in_any_order = refl

pub a_told_communicator_in_any_order_read : item_in (codes "send 0 1 tell 2 3 known 1 100 1=4,0=0,1=4 : 101 100") ≡ Ok (item.Send (record { 0 = 0 }) (record { 0 = 1 }) (message.Tell (record { 0 = 2 }) (record { 0 = 3 }) (Some (record { created = record { 0 = 1 }; next = record { 0 = pos 100 }; comm = ((record { 0 = 1 }, record { 0 = 4 }) ∷ (record { 0 = 0 }, record { 0 = 0 }) ∷ (record { 0 = 1 }, record { 0 = 4 }) ∷ []); stamps = (record { 0 = pos 101 } ∷ record { 0 = pos 100 } ∷ []) }))))
a_told_communicator_in_any_order_read = refl

pub enters_a_sum : line_of (item.Reduce (record { 0 = 1 }) (record { 0 = 2 }) (record { 0 = 3 }) op.Sum (pos 0)) ≡ codes "reduce 1 2 3 sum 0"
unfolding digits
enters_a_sum = refl

pub enters_a_sum_read : item_in (codes "reduce 1 2 3 sum 0") ≡ Ok (item.Reduce (record { 0 = 1 }) (record { 0 = 2 }) (record { 0 = 3 }) op.Sum (pos 0))
enters_a_sum_read = refl

pub enters_a_maximum : line_of (item.Reduce (record { 0 = 1 }) (record { 0 = 2 }) (record { 0 = 3 }) op.Max (pos 10)) ≡ codes "reduce 1 2 3 max 10"
unfolding digits
enters_a_maximum = refl

pub enters_a_maximum_read : item_in (codes "reduce 1 2 3 max 10") ≡ Ok (item.Reduce (record { 0 = 1 }) (record { 0 = 2 }) (record { 0 = 3 }) op.Max (pos 10))
enters_a_maximum_read = refl

pub survives : line_of (item.Init (record { 0 = 0 }) (record { 0 = 2 }) role.Survivor (record { 0 = 0 }) 0 4 false) ≡ codes "init 0 2 survivor 0 0 4 full"
unfolding digits
survives = refl

pub survives_read : item_in (codes "init 0 2 survivor 0 0 4 full") ≡ Ok (item.Init (record { 0 = 0 }) (record { 0 = 2 }) role.Survivor (record { 0 = 0 }) 0 4 false)
survives_read = refl

pub joins_as_a_spare : line_of (item.Join (record { 0 = 0 }) (record { 0 = 2 }) slot.Spare) ≡ codes "join 0 2 spare"
unfolding digits
joins_as_a_spare = refl

pub joins_as_a_spare_read : item_in (codes "join 0 2 spare") ≡ Ok (item.Join (record { 0 = 0 }) (record { 0 = 2 }) slot.Spare)
joins_as_a_spare_read = refl

pub joins_at_the_end : line_of (item.Join (record { 0 = 0 }) (record { 0 = 2 }) slot.Final) ≡ codes "join 0 2 final"
unfolding digits
joins_at_the_end = refl

pub joins_at_the_end_read : item_in (codes "join 0 2 final") ≡ Ok (item.Join (record { 0 = 0 }) (record { 0 = 2 }) slot.Final)
joins_at_the_end_read = refl

pub joins_with_an_error_in_the_first_epoch : line_of (item.Join (record { 0 = 0 }) (record { 0 = 1 }) slot.Error) ≡ codes "join 0 1 error"
unfolding digits
joins_with_an_error_in_the_first_epoch = refl

pub joins_with_an_error_in_the_first_epoch_read : item_in (codes "join 0 1 error") ≡ Ok (item.Join (record { 0 = 0 }) (record { 0 = 1 }) slot.Error)
joins_with_an_error_in_the_first_epoch_read = refl

pub sends_a_join_of_a_spare : line_of (item.Send (record { 0 = 0 }) (record { 0 = 1 }) (message.Join (record { 0 = 2 }) slot.Spare)) ≡ codes "send 0 1 join 2 spare"
unfolding digits
sends_a_join_of_a_spare = refl

pub sends_a_join_of_a_spare_read : item_in (codes "send 0 1 join 2 spare") ≡ Ok (item.Send (record { 0 = 0 }) (record { 0 = 1 }) (message.Join (record { 0 = 2 }) slot.Spare))
sends_a_join_of_a_spare_read = refl

pub sends_a_join_at_the_end : line_of (item.Send (record { 0 = 0 }) (record { 0 = 1 }) (message.Join (record { 0 = 2 }) slot.Final)) ≡ codes "send 0 1 join 2 final"
unfolding digits
sends_a_join_at_the_end = refl

pub sends_a_join_at_the_end_read : item_in (codes "send 0 1 join 2 final") ≡ Ok (item.Send (record { 0 = 0 }) (record { 0 = 1 }) (message.Join (record { 0 = 2 }) slot.Final))
sends_a_join_at_the_end_read = refl

pub sends_a_join_at_the_start : line_of (item.Send (record { 0 = 0 }) (record { 0 = 1 }) (message.Join (record { 0 = 2 }) slot.Start)) ≡ codes "send 0 1 join 2 start"
unfolding digits
sends_a_join_at_the_start = refl

pub sends_a_join_at_the_start_read : item_in (codes "send 0 1 join 2 start") ≡ Ok (item.Send (record { 0 = 0 }) (record { 0 = 1 }) (message.Join (record { 0 = 2 }) slot.Start))
sends_a_join_at_the_start_read = refl

pub sends_a_start_and_an_error : line_of (item.Send (record { 0 = 0 }) (record { 0 = 1 }) (message.Jest (record { 0 = 2 }) 1 (slot.Start ∷ slot.Error ∷ []))) ≡ codes "send 0 1 jest 2 1 start,error"
unfolding digits
sends_a_start_and_an_error = refl

pub sends_a_start_and_an_error_read : item_in (codes "send 0 1 jest 2 1 start,error") ≡ Ok (item.Send (record { 0 = 0 }) (record { 0 = 1 }) (message.Jest (record { 0 = 2 }) 1 (slot.Start ∷ slot.Error ∷ [])))
sends_a_start_and_an_error_read = refl

pub attaches_the_greatest : line_of (item.Attach (record { 0 = 255 }) (record { 0 = 4294967295 }) (record { 0 = 255 }) (record { 0 = 255 })) ≡ codes "attach 255 4294967295 255 255"
unfolding digits
attaches_the_greatest = refl

pub attaches_the_greatest_read : item_in (codes "attach 255 4294967295 255 255") ≡ Ok (item.Attach (record { 0 = 255 }) (record { 0 = 4294967295 }) (record { 0 = 255 }) (record { 0 = 255 }))
attaches_the_greatest_read = refl

pub initial_with_the_greatest : line_of (item.Init (record { 0 = 255 }) (record { 0 = 1 }) role.Initial (record { 0 = 255 }) 255 255 false) ≡ codes "init 255 1 initial 255 255 255 full"
unfolding digits
initial_with_the_greatest = refl

pub initial_with_the_greatest_read : item_in (codes "init 255 1 initial 255 255 255 full") ≡ Ok (item.Init (record { 0 = 255 }) (record { 0 = 1 }) role.Initial (record { 0 = 255 }) 255 255 false)
initial_with_the_greatest_read = refl

pub repaired_with_the_greatest : line_of (item.Repaired (record { 0 = 0 }) (record { 0 = 1 }) 1 false ((record { 0 = 255 }, record { 0 = 255 }) ∷ [])) ≡ codes "repaired 0 1 1 full : 255=255"
unfolding digits
repaired_with_the_greatest = refl

pub repaired_with_the_greatest_read : item_in (codes "repaired 0 1 1 full : 255=255") ≡ Ok (item.Repaired (record { 0 = 0 }) (record { 0 = 1 }) 1 false ((record { 0 = 255 }, record { 0 = 255 }) ∷ []))
repaired_with_the_greatest_read = refl

pub commits_the_greatest_stamp : line_of (item.Commit (record { 0 = 0 }) (record { 0 = 1 }) (record { 0 = 0 }) (record { 0 = pos 9223372036854775807 })) ≡ codes "commit 0 1 0 9223372036854775807"
unfolding digits
commits_the_greatest_stamp = refl

pub commits_the_greatest_stamp_read : item_in (codes "commit 0 1 0 9223372036854775807") ≡ Ok (item.Commit (record { 0 = 0 }) (record { 0 = 1 }) (record { 0 = 0 }) (record { 0 = pos 9223372036854775807 }))
commits_the_greatest_stamp_read = refl

pub commits_the_least_stamp : line_of (item.Commit (record { 0 = 0 }) (record { 0 = 1 }) (record { 0 = 0 }) (record { 0 = negsuc 9223372036854775807 })) ≡ codes "commit 0 1 0 -9223372036854775808"
unfolding digits
commits_the_least_stamp = refl

pub commits_the_least_stamp_read : item_in (codes "commit 0 1 0 -9223372036854775808") ≡ Ok (item.Commit (record { 0 = 0 }) (record { 0 = 1 }) (record { 0 = 0 }) (record { 0 = negsuc 9223372036854775807 }))
commits_the_least_stamp_read = refl

pub enters_call_zero_of_epoch_zero : line_of (item.Barrier (record { 0 = 0 }) (record { 0 = 0 }) (record { 0 = 0 })) ≡ codes "barrier 0 0 0"
unfolding digits
enters_call_zero_of_epoch_zero = refl

pub enters_call_zero_of_epoch_zero_read : item_in (codes "barrier 0 0 0") ≡ Ok (item.Barrier (record { 0 = 0 }) (record { 0 = 0 }) (record { 0 = 0 }))
enters_call_zero_of_epoch_zero_read = refl

pub sends_the_greatest_numbers_in_slots : line_of (item.Send (record { 0 = 255 }) (record { 0 = 255 }) (message.Est (record { 0 = 4294967295 }) (record { 0 = 4294967295 }) 255 ((slot.Flag (pos 9223372036854775807)) ∷ (slot.Flag (negsuc 9223372036854775807)) ∷ (slot.NoLost (record { 0 = 255 })) ∷ (slot.NoLeft (record { 0 = 255 })) ∷ []))) ≡ codes "send 255 255 est 4294967295 4294967295 255 yes=9223372036854775807,yes=-9223372036854775808,nolost=255,noleft=255"
unfolding digits
sends_the_greatest_numbers_in_slots = refl

pub sends_the_greatest_numbers_in_slots_read : item_in (codes "send 255 255 est 4294967295 4294967295 255 yes=9223372036854775807,yes=-9223372036854775808,nolost=255,noleft=255") ≡ Ok (item.Send (record { 0 = 255 }) (record { 0 = 255 }) (message.Est (record { 0 = 4294967295 }) (record { 0 = 4294967295 }) 255 ((slot.Flag (pos 9223372036854775807)) ∷ (slot.Flag (negsuc 9223372036854775807)) ∷ (slot.NoLost (record { 0 = 255 })) ∷ (slot.NoLeft (record { 0 = 255 })) ∷ [])))
sends_the_greatest_numbers_in_slots_read = refl

pub tells_the_greatest_numbers : line_of (item.Send (record { 0 = 0 }) (record { 0 = 1 }) (message.Tell (record { 0 = 4294967295 }) (record { 0 = 4294967295 }) (Some (record { created = record { 0 = 4294967295 }; next = record { 0 = pos 9223372036854775807 }; comm = ((record { 0 = 255 }, record { 0 = 255 }) ∷ []); stamps = (record { 0 = negsuc 9223372036854775807 } ∷ record { 0 = pos 9223372036854775807 } ∷ []) })))) ≡ codes "send 0 1 tell 4294967295 4294967295 known 4294967295 9223372036854775807 255=255 : -9223372036854775808 9223372036854775807"
unfolding digits
tells_the_greatest_numbers = refl

pub tells_the_greatest_numbers_read : item_in (codes "send 0 1 tell 4294967295 4294967295 known 4294967295 9223372036854775807 255=255 : -9223372036854775808 9223372036854775807") ≡ Ok (item.Send (record { 0 = 0 }) (record { 0 = 1 }) (message.Tell (record { 0 = 4294967295 }) (record { 0 = 4294967295 }) (Some (record { created = record { 0 = 4294967295 }; next = record { 0 = pos 9223372036854775807 }; comm = ((record { 0 = 255 }, record { 0 = 255 }) ∷ []); stamps = (record { 0 = negsuc 9223372036854775807 } ∷ record { 0 = pos 9223372036854775807 } ∷ []) }))))
tells_the_greatest_numbers_read = refl

pub sends_the_greatest_part : line_of (item.Send (record { 0 = 0 }) (record { 0 = 1 }) (message.Part (record { 0 = 4294967295 }) (record { 0 = 4294967295 }) (negsuc 9223372036854775807 ∷ pos 9223372036854775807 ∷ []))) ≡ codes "send 0 1 part 4294967295 4294967295 : -9223372036854775808 9223372036854775807"
unfolding digits
sends_the_greatest_part = refl

pub sends_the_greatest_part_read : item_in (codes "send 0 1 part 4294967295 4294967295 : -9223372036854775808 9223372036854775807") ≡ Ok (item.Send (record { 0 = 0 }) (record { 0 = 1 }) (message.Part (record { 0 = 4294967295 }) (record { 0 = 4294967295 }) (negsuc 9223372036854775807 ∷ pos 9223372036854775807 ∷ [])))
sends_the_greatest_part_read = refl

pub refuses_with_what_no_run_names : line_of (item.Refused (record { 0 = 1 }) (record { 0 = 2 }) refusable.Group (record { 0 = 0 }) (record { 0 = 3 }) (record { 0 = pos 5 }) answer.NotStored) ≡ codes "refused 1 2 group 0 3 5 NotStored"
unfolding digits
refuses_with_what_no_run_names = refl

pub refuses_with_what_no_run_names_read : item_in (codes "refused 1 2 group 0 3 5 NotStored") ≡ Ok (item.Refused (record { 0 = 1 }) (record { 0 = 2 }) refusable.Group (record { 0 = 0 }) (record { 0 = 3 }) (record { 0 = pos 5 }) answer.NotStored)
refuses_with_what_no_run_names_read = refl

pub has_a_rank_above_its_size : line_of (item.Init (record { 0 = 0 }) (record { 0 = 1 }) role.Initial (record { 0 = 3 }) 9 2 false) ≡ codes "init 0 1 initial 3 9 2 full"
unfolding digits
has_a_rank_above_its_size = refl

pub has_a_rank_above_its_size_read : item_in (codes "init 0 1 initial 3 9 2 full") ≡ Ok (item.Init (record { 0 = 0 }) (record { 0 = 1 }) role.Initial (record { 0 = 3 }) 9 2 false)
has_a_rank_above_its_size_read = refl

pub tells_itself_of_a_later_epoch : line_of (item.Send (record { 0 = 1 }) (record { 0 = 1 }) (message.Tell (record { 0 = 2 }) (record { 0 = 3 }) (Some (record { created = record { 0 = 9 }; next = record { 0 = pos 1 }; comm = ((record { 0 = 3 }, record { 0 = 3 }) ∷ (record { 0 = 3 }, record { 0 = 3 }) ∷ []); stamps = (record { 0 = pos 5 } ∷ []) })))) ≡ codes "send 1 1 tell 2 3 known 9 1 3=3,3=3 : 5"
unfolding digits
tells_itself_of_a_later_epoch = refl

pub tells_itself_of_a_later_epoch_read : item_in (codes "send 1 1 tell 2 3 known 9 1 3=3,3=3 : 5") ≡ Ok (item.Send (record { 0 = 1 }) (record { 0 = 1 }) (message.Tell (record { 0 = 2 }) (record { 0 = 3 }) (Some (record { created = record { 0 = 9 }; next = record { 0 = pos 1 }; comm = ((record { 0 = 3 }, record { 0 = 3 }) ∷ (record { 0 = 3 }, record { 0 = 3 }) ∷ []); stamps = (record { 0 = pos 5 } ∷ []) }))))
tells_itself_of_a_later_epoch_read = refl

pub fails_by_itself : line_of (item.Failed (record { 0 = 1 }) (record { 0 = 2 }) (record { 0 = 3 }) (record { 0 = 1 })) ≡ codes "failed 1 2 3 1"
unfolding digits
fails_by_itself = refl

pub fails_by_itself_read : item_in (codes "failed 1 2 3 1") ≡ Ok (item.Failed (record { 0 = 1 }) (record { 0 = 2 }) (record { 0 = 3 }) (record { 0 = 1 }))
fails_by_itself_read = refl

pub sends_stamps_below_zero : line_of (item.Send (record { 0 = 0 }) (record { 0 = 1 }) (message.Share (record { 0 = 2 }) (record { 0 = 3 }) (from_sorted ((record { 0 = negsuc 1 }, []) ∷ (record { 0 = negsuc 0 }, []) ∷ [])))) ≡ codes "send 0 1 share 2 3 : -2= -1="
unfolding digits
sends_stamps_below_zero = ap (λ words. join_with_byte 32 (codes "send" ∷ codes "0" ∷ codes "1" ∷ codes "share" ∷ codes "2" ∷ codes "3" ∷ words)) (listed_words by_time a_share ((record { 0 = negsuc 1 }, []) ∷ (record { 0 = negsuc 0 }, []) ∷ []) tt)

pub sends_stamps_below_zero_read : item_in (codes "send 0 1 share 2 3 : -2= -1=") ≡ Ok (item.Send (record { 0 = 0 }) (record { 0 = 1 }) (message.Share (record { 0 = 2 }) (record { 0 = 3 }) (from_sorted ((record { 0 = negsuc 1 }, []) ∷ (record { 0 = negsuc 0 }, []) ∷ []))))
sends_stamps_below_zero_read = refl

pub sends_a_nine : line_of (item.Send (record { 0 = 0 }) (record { 0 = 1 }) (message.Share (record { 0 = 2 }) (record { 0 = 3 }) (from_sorted ((record { 0 = pos 1 }, (25 ∷ [])) ∷ [])))) ≡ codes "send 0 1 share 2 3 : 1=19"
unfolding digits
sends_a_nine = ap (λ words. join_with_byte 32 (codes "send" ∷ codes "0" ∷ codes "1" ∷ codes "share" ∷ codes "2" ∷ codes "3" ∷ words)) (listed_words by_time a_share ((record { 0 = pos 1 }, (25 ∷ [])) ∷ []) tt)

pub sends_a_nine_read : item_in (codes "send 0 1 share 2 3 : 1=19") ≡ Ok (item.Send (record { 0 = 0 }) (record { 0 = 1 }) (message.Share (record { 0 = 2 }) (record { 0 = 3 }) (from_sorted ((record { 0 = pos 1 }, (25 ∷ [])) ∷ []))))
sends_a_nine_read = refl

pub sends_no_snapshot : line_of (item.Send (record { 0 = 0 }) (record { 0 = 1 }) (message.Share (record { 0 = 2 }) (record { 0 = 3 }) (from_sorted []))) ≡ codes "send 0 1 share 2 3 :"
unfolding digits
sends_no_snapshot = ap (λ words. join_with_byte 32 (codes "send" ∷ codes "0" ∷ codes "1" ∷ codes "share" ∷ codes "2" ∷ codes "3" ∷ words)) (listed_words by_time a_share [] tt)

pub sends_no_snapshot_read : item_in (codes "send 0 1 share 2 3 :") ≡ Ok (item.Send (record { 0 = 0 }) (record { 0 = 1 }) (message.Share (record { 0 = 2 }) (record { 0 = 3 }) (from_sorted [])))
sends_no_snapshot_read = refl

pub gets_no_elements : line_of (item.Shifted (record { 0 = 1 }) (record { 0 = 2 }) (record { 0 = 3 }) []) ≡ codes "shifted 1 2 3 :"
unfolding digits
gets_no_elements = refl

pub gets_no_elements_read : item_in (codes "shifted 1 2 3 :") ≡ Ok (item.Shifted (record { 0 = 1 }) (record { 0 = 2 }) (record { 0 = 3 }) [])
gets_no_elements_read = refl

pub shifts_nothing : line_of (item.Shift (record { 0 = 1 }) (record { 0 = 2 }) (record { 0 = 3 }) 0 []) ≡ codes "shift 1 2 3 0 :"
unfolding digits
shifts_nothing = refl

pub shifts_nothing_read : item_in (codes "shift 1 2 3 0 :") ≡ Ok (item.Shift (record { 0 = 1 }) (record { 0 = 2 }) (record { 0 = 3 }) 0 [])
shifts_nothing_read = refl

pub stores_nothing : line_of (item.Store (record { 0 = 1 }) (record { 0 = 2 }) (record { 0 = 0 }) (record { 0 = 0 }) (from_sorted [])) ≡ codes "store 1 2 0 0 :"
unfolding digits
stores_nothing = ap (λ words. join_with_byte 32 (codes "store" ∷ codes "1" ∷ codes "2" ∷ codes "0" ∷ codes "0" ∷ words)) (listed_words nat_cmp an_element [] tt)

pub stores_nothing_read : item_in (codes "store 1 2 0 0 :") ≡ Ok (item.Store (record { 0 = 1 }) (record { 0 = 2 }) (record { 0 = 0 }) (record { 0 = 0 }) (from_sorted []))
stores_nothing_read = refl

pub has_closed_epoch_one : line_of (item.Closed (record { 0 = 0 }) (record { 0 = 1 }) (record { 0 = 2 }) (record { 0 = 0 }) (record { 0 = pos 5 })) ≡ codes "closed 0 1 2 0 5"
unfolding digits
has_closed_epoch_one = refl

pub has_closed_epoch_one_read : item_in (codes "closed 0 1 2 0 5") ≡ Ok (item.Closed (record { 0 = 0 }) (record { 0 = 1 }) (record { 0 = 2 }) (record { 0 = 0 }) (record { 0 = pos 5 }))
has_closed_epoch_one_read = refl

-- ---- what no line can have, and what no type holds

-- a process joins with one of four slots
pub joins_with_a_loss : is_writable (item.Join (record { 0 = 0 }) (record { 0 = 1 }) slot.Lost) ≡ false
joins_with_a_loss = refl

pub sends_a_join_with_a_loss : is_writable (item.Send (record { 0 = 0 }) (record { 0 = 1 }) (message.Join (record { 0 = 2 }) slot.Lost)) ≡ false
sends_a_join_with_a_loss = refl

-- a name is a name
pub calls_back_a_capital : is_writable (item.Callback (record { 0 = 0 }) (record { 0 = 1 }) (codes "A")) ≡ false
calls_back_a_capital = refl

pub prints_a_taken_name : is_writable (item.Print (record { 0 = 0 }) (record { 0 = 1 }) (codes "size") []) ≡ false
prints_a_taken_name = refl

-- an estimate has a slot, and a told communicator has a seat
pub sends_no_slots : is_writable (item.Send (record { 0 = 0 }) (record { 0 = 1 }) (message.Jest (record { 0 = 2 }) 1 [])) ≡ false
sends_no_slots = refl

pub sends_no_slots_of_a_call : is_writable (item.Send (record { 0 = 0 }) (record { 0 = 1 }) (message.Est (record { 0 = 2 }) (record { 0 = 1 }) 1 [])) ≡ false
sends_no_slots_of_a_call = refl

pub tells_no_seats :
    is_writable (item.Deliver (record { 0 = 0 }) (record { 0 = 1 }) (message.Tell (record { 0 = 2 }) (record { 0 = 1 }) (Some (record { created = record { 0 = 1 }; next = record { 0 = pos 1 }; comm = []; stamps = [] })))) ≡ false
tells_no_seats = refl

-- the other lists may be empty
pub prints_an_empty_array : is_writable (item.Print (record { 0 = 0 }) (record { 0 = 1 }) (codes "a") []) ≡ true
prints_an_empty_array = refl

-- a process, a group, a member, an identity and a count have 8 bits, an epoch, a call and an index 32, a stamp and a number 64,
-- and a byte of a snapshot 8
pub epoch_past_32_bits : is_in_type (item.Passed (record { 0 = 0 }) (record { 0 = 4294967296 }) (record { 0 = 0 })) ≡ false
epoch_past_32_bits = refl

pub call_past_32_bits : is_in_type (item.Passed (record { 0 = 0 }) (record { 0 = 0 }) (record { 0 = 4294967296 })) ≡ false
call_past_32_bits = refl

pub group_256 : is_in_type (item.Attach (record { 0 = 0 }) (record { 0 = 0 }) (record { 0 = 256 }) (record { 0 = 0 })) ≡ false
group_256 = refl

pub member_256 : is_in_type (item.Attach (record { 0 = 0 }) (record { 0 = 0 }) (record { 0 = 0 }) (record { 0 = 256 })) ≡ false
member_256 = refl

pub stamp_past_64_bits : is_in_type (item.Commit (record { 0 = 0 }) (record { 0 = 0 }) (record { 0 = 0 }) (record { 0 = pos 9223372036854775808 })) ≡ false
stamp_past_64_bits = refl

pub number_past_64_bits : is_in_type (item.Print (record { 0 = 0 }) (record { 0 = 0 }) (codes "a") (negsuc 9223372036854775808 ∷ [])) ≡ false
number_past_64_bits = refl

pub identity_256 : is_in_type (item.Repaired (record { 0 = 0 }) (record { 0 = 0 }) 1 false ((record { 0 = 256 }, record { 0 = 0 }) ∷ [])) ≡ false
identity_256 = refl

pub size_256 : is_in_type (item.Repaired (record { 0 = 0 }) (record { 0 = 0 }) 256 false []) ≡ false
size_256 = refl

pub index_past_32_bits : is_in_type (item.Store (record { 0 = 0 }) (record { 0 = 0 }) (record { 0 = 0 }) (record { 0 = 0 }) (from_sorted ((4294967296, pos 0) ∷ []))) ≡ false
index_past_32_bits = ap (list_all an_element.in_type) (entries-from_sorted nat_cmp ((4294967296, pos 0) ∷ []) tt)

pub byte_256 : is_in_type (item.Send (record { 0 = 0 }) (record { 0 = 0 }) (message.Share (record { 0 = 0 }) (record { 0 = 0 }) (from_sorted ((record { 0 = pos 1 }, 256 ∷ []) ∷ [])))) ≡ false
byte_256 = ap (list_all a_share.in_type) (entries-from_sorted by_time ((record { 0 = pos 1 }, 256 ∷ []) ∷ []) tt)

pub process_256 : is_in_type (item.Kill (record { 0 = 256 })) ≡ false
process_256 = refl

pub process_255 : is_in_type (item.Kill (record { 0 = 255 })) ≡ true
process_255 = refl
