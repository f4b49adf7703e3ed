-- Worked rows: lines that no item has, and the first thing that is wrong in them from the left.
use Rattle.std.specs.Prelude.{◌≡◌, codes, Err, refl}
use Rattle.fx_lines.specs.declared.fault.ItemFault.TheVariants.{NoSuchKind, BadField, TrailingText}
use Rattle.fx_lines.specs.Items.{item_in}

pub no_word : item_in (codes "") ≡ Err NoSuchKind
no_word = refl

pub a_space_first : item_in (codes " kill 3") ≡ Err NoSuchKind
a_space_first = refl

pub an_unknown_kind : item_in (codes "kills 3") ≡ Err NoSuchKind
an_unknown_kind = refl

pub a_capital_kind : item_in (codes "Kill 3") ≡ Err NoSuchKind
a_capital_kind = refl

pub a_kind_of_message : item_in (codes "vote 0 1 2 yes") ≡ Err NoSuchKind
a_kind_of_message = refl

pub a_missing_field : item_in (codes "kill") ≡ Err (BadField 1)
a_missing_field = refl

pub an_empty_field : item_in (codes "kill ") ≡ Err (BadField 1)
an_empty_field = refl

pub two_spaces : item_in (codes "kill  3") ≡ Err (BadField 1)
two_spaces = refl

pub a_wrong_field : item_in (codes "kill x") ≡ Err (BadField 1)
a_wrong_field = refl

pub a_further_word : item_in (codes "kill 3 4") ≡ Err TrailingText
a_further_word = refl

pub a_space_last : item_in (codes "kill 3 ") ≡ Err TrailingText
a_space_last = refl

pub a_wrong_field_before_a_further_word : item_in (codes "told 0 x 1") ≡ Err (BadField 2)
a_wrong_field_before_a_further_word = refl

pub a_process_past_its_type : item_in (codes "kill 256") ≡ Err (BadField 1)
a_process_past_its_type = refl

pub a_leading_zero : item_in (codes "kill 03") ≡ Err (BadField 1)
a_leading_zero = refl

pub a_process_below_zero : item_in (codes "kill -1") ≡ Err (BadField 1)
a_process_below_zero = refl

pub a_plus : item_in (codes "kill +3") ≡ Err (BadField 1)
a_plus = refl

pub an_epoch_past_its_type : item_in (codes "barrier 0 4294967296 1") ≡ Err (BadField 2)
an_epoch_past_its_type = refl

pub a_call_past_its_type : item_in (codes "passed 0 1 4294967296") ≡ Err (BadField 3)
a_call_past_its_type = refl

pub a_number_past_its_type : item_in (codes "value 0 1 1 9223372036854775808") ≡ Err (BadField 4)
a_number_past_its_type = refl

pub a_number_below_its_type : item_in (codes "agree 0 1 1 -9223372036854775809") ≡ Err (BadField 4)
a_number_below_its_type = refl

pub minus_zero : item_in (codes "agree 0 1 1 -0") ≡ Err (BadField 4)
minus_zero = refl

pub a_stamp_past_its_type : item_in (codes "commit 0 1 0 9223372036854775808") ≡ Err (BadField 4)
a_stamp_past_its_type = refl

pub the_first_of_two_wrong_fields : item_in (codes "init 0 x initial y 0 1 full") ≡ Err (BadField 2)
the_first_of_two_wrong_fields = refl

pub an_unknown_role : item_in (codes "init 0 1 first 0 0 1 full") ≡ Err (BadField 3)
an_unknown_role = refl

pub an_identity_past_its_type : item_in (codes "init 0 1 initial 256 0 1 full") ≡ Err (BadField 4)
an_identity_past_its_type = refl

pub a_rank_past_its_type : item_in (codes "init 0 1 initial 0 256 1 full") ≡ Err (BadField 5)
a_rank_past_its_type = refl

pub a_size_past_its_type : item_in (codes "init 0 1 initial 0 0 256 full") ≡ Err (BadField 6)
a_size_past_its_type = refl

pub an_unknown_warning : item_in (codes "init 0 1 initial 0 0 1 depleted") ≡ Err (BadField 7)
an_unknown_warning = refl

pub a_missing_warning : item_in (codes "init 0 1 initial 0 0 1") ≡ Err (BadField 7)
a_missing_warning = refl

pub no_kind_of_join : item_in (codes "join 0 1 yes") ≡ Err (BadField 3)
no_kind_of_join = refl

pub a_taken_name : item_in (codes "callback 0 1 rank") ≡ Err (BadField 3)
a_taken_name = refl

pub a_name_of_seventeen : item_in (codes "print 0 1 abcdefghijklmnopq : 1") ≡ Err (BadField 3)
a_name_of_seventeen = refl

pub an_unknown_statement : item_in (codes "refused 0 1 barrier 0 0 0 Full") ≡ Err (BadField 3)
an_unknown_statement = refl

pub an_unknown_answer : item_in (codes "refused 0 1 commit 0 0 0 full") ≡ Err (BadField 7)
an_unknown_answer = refl

pub an_unknown_operation : item_in (codes "reduce 0 1 1 mean 4") ≡ Err (BadField 4)
an_unknown_operation = refl

pub a_group_past_its_type : item_in (codes "attach 0 1 256 0") ≡ Err (BadField 3)
a_group_past_its_type = refl

pub a_member_past_its_type : item_in (codes "attach 0 1 0 256") ≡ Err (BadField 4)
a_member_past_its_type = refl

pub a_distance_past_its_type : item_in (codes "shift 0 1 1 256 : 1") ≡ Err (BadField 4)
a_distance_past_its_type = refl

pub an_unknown_finding : item_in (codes "created 0 1 1 0 gone : 1") ≡ Err (BadField 5)
an_unknown_finding = refl

pub a_missing_list : item_in (codes "print 0 1 a") ≡ Err (BadField 4)
a_missing_list = refl

pub a_list_without_its_mark : item_in (codes "print 0 1 a 1") ≡ Err (BadField 4)
a_list_without_its_mark = refl

pub a_wrong_entry : item_in (codes "print 0 1 a : 1 x 3") ≡ Err (BadField 4)
a_wrong_entry = refl

pub a_space_behind_a_list : item_in (codes "print 0 1 a : 1 ") ≡ Err (BadField 4)
a_space_behind_a_list = refl

pub a_mark_with_a_number : item_in (codes "print 0 1 a :1") ≡ Err (BadField 4)
a_mark_with_a_number = refl

pub a_wrong_seat : item_in (codes "repaired 0 1 1 full : 0=0=0") ≡ Err (BadField 5)
a_wrong_seat = refl

pub a_lone_identity : item_in (codes "repaired 0 1 1 full : 0") ≡ Err (BadField 5)
a_lone_identity = refl

pub a_seat_past_its_type : item_in (codes "repaired 0 1 1 full : 0=256") ≡ Err (BadField 5)
a_seat_past_its_type = refl

pub indices_that_fall : item_in (codes "store 0 1 0 0 : 2=5 1=5") ≡ Err (BadField 5)
indices_that_fall = refl

pub an_index_twice : item_in (codes "store 0 1 0 0 : 1=5 1=5") ≡ Err (BadField 5)
an_index_twice = refl

pub an_index_past_its_type : item_in (codes "store 0 1 0 0 : 4294967296=5") ≡ Err (BadField 5)
an_index_past_its_type = refl

pub an_index_below_zero : item_in (codes "restore 0 1 0 0 1 : -1=5") ≡ Err (BadField 6)
an_index_below_zero = refl

pub a_wrong_stamp : item_in (codes "created 0 1 1 0 kept : 1 2x") ≡ Err (BadField 6)
a_wrong_stamp = refl

pub a_missing_message : item_in (codes "send 0 1") ≡ Err (BadField 3)
a_missing_message = refl

pub no_such_message : item_in (codes "send 0 1 hello 2 3") ≡ Err (BadField 3)
no_such_message = refl

pub a_wrong_word_in_a_message : item_in (codes "send 0 1 vote x 3 yes") ≡ Err (BadField 3)
a_wrong_word_in_a_message = refl

pub a_further_word_of_a_message : item_in (codes "send 0 1 vote 2 3 yes no") ≡ Err (BadField 3)
a_further_word_of_a_message = refl

pub a_missing_word_of_a_message : item_in (codes "deliver 0 1 vote 2 3") ≡ Err (BadField 3)
a_missing_word_of_a_message = refl

pub a_wrong_receiver_before_a_wrong_message : item_in (codes "send 0 x hello") ≡ Err (BadField 2)
a_wrong_receiver_before_a_wrong_message = refl

pub a_wrong_slot : item_in (codes "send 0 1 vote 2 3 no") ≡ Err (BadField 3)
a_wrong_slot = refl

pub a_slot_without_its_process : item_in (codes "send 0 1 vote 2 3 nolost") ≡ Err (BadField 3)
a_slot_without_its_process = refl

pub a_slot_with_a_number : item_in (codes "send 0 1 vote 2 3 kept=1") ≡ Err (BadField 3)
a_slot_with_a_number = refl

pub a_flag_past_its_type : item_in (codes "send 0 1 vote 2 3 yes=9223372036854775808") ≡ Err (BadField 3)
a_flag_past_its_type = refl

pub a_process_of_a_slot_past_its_type : item_in (codes "send 0 1 vote 2 3 noleft=256") ≡ Err (BadField 3)
a_process_of_a_slot_past_its_type = refl

pub two_numbers_in_a_slot : item_in (codes "send 0 1 vote 2 3 yes=1=1") ≡ Err (BadField 3)
two_numbers_in_a_slot = refl

pub no_slots : item_in (codes "send 0 1 jest 2 1 ") ≡ Err (BadField 3)
no_slots = refl

pub an_empty_slot : item_in (codes "send 0 1 jest 2 1 lost,") ≡ Err (BadField 3)
an_empty_slot = refl

pub a_round_past_its_type : item_in (codes "send 0 1 est 2 3 256 lost") ≡ Err (BadField 3)
a_round_past_its_type = refl

pub no_kind_of_a_sent_join : item_in (codes "send 0 1 join 2 lost") ≡ Err (BadField 3)
no_kind_of_a_sent_join = refl

pub stamps_that_fall : item_in (codes "send 0 1 share 2 3 : 2=00 1=00") ≡ Err (BadField 3)
stamps_that_fall = refl

pub a_stamp_twice : item_in (codes "send 0 1 share 2 3 : 1=00 1=00") ≡ Err (BadField 3)
a_stamp_twice = refl

pub a_capital_digit : item_in (codes "send 0 1 share 2 3 : 1=AB") ≡ Err (BadField 3)
a_capital_digit = refl

pub an_odd_digit : item_in (codes "send 0 1 share 2 3 : 1=abc") ≡ Err (BadField 3)
an_odd_digit = refl

pub no_equals_sign : item_in (codes "send 0 1 share 2 3 : 1") ≡ Err (BadField 3)
no_equals_sign = refl

pub no_seats_told : item_in (codes "send 0 1 tell 2 3 known 1 100  : 100") ≡ Err (BadField 3)
no_seats_told = refl

pub a_wrong_holding : item_in (codes "send 0 1 tell 2 3 nothing") ≡ Err (BadField 3)
a_wrong_holding = refl

pub more_behind_unknown : item_in (codes "send 0 1 tell 2 3 unknown :") ≡ Err (BadField 3)
more_behind_unknown = refl

pub a_missing_last_word : item_in (codes "close 0 1 2") ≡ Err (BadField 4)
a_missing_last_word = refl

pub a_longer_kind : item_in (codes "closes 0") ≡ Err NoSuchKind
a_longer_kind = refl

pub a_further_number : item_in (codes "ended 0 0") ≡ Err TrailingText
a_further_number = refl

pub a_leading_zero_of_one : item_in (codes "kill 01") ≡ Err (BadField 1)
a_leading_zero_of_one = refl

pub a_wrong_field_before_missing_ones : item_in (codes "init 0 x") ≡ Err (BadField 2)
a_wrong_field_before_missing_ones = refl

pub a_wrong_field_before_a_missing_list : item_in (codes "print 0 x a") ≡ Err (BadField 2)
a_wrong_field_before_a_missing_list = refl

pub a_wrong_field_before_a_wrong_list : item_in (codes "print 0 x a : y") ≡ Err (BadField 2)
a_wrong_field_before_a_wrong_list = refl

pub a_missing_process : item_in (codes "told 0") ≡ Err (BadField 2)
a_missing_process = refl

pub an_empty_name : item_in (codes "callback 0 1 ") ≡ Err (BadField 3)
an_empty_name = refl

pub another_taken_name : item_in (codes "callback 0 1 latest") ≡ Err (BadField 3)
another_taken_name = refl

pub a_letter_past_the_digits : item_in (codes "send 0 1 share 2 3 : 1=0g") ≡ Err (BadField 3)
a_letter_past_the_digits = refl

pub two_spaces_behind_a_mark : item_in (codes "print 0 1 a :  1") ≡ Err (BadField 4)
two_spaces_behind_a_mark = refl

pub two_marks : item_in (codes "print 0 1 a : : 1") ≡ Err (BadField 4)
two_marks = refl

pub an_empty_slot_first : item_in (codes "send 0 1 jest 2 1 ,lost") ≡ Err (BadField 3)
an_empty_slot_first = refl

pub a_holding_without_its_list : item_in (codes "send 0 1 tell 2 3 known 1 100 0=0") ≡ Err (BadField 3)
a_holding_without_its_list = refl

pub an_entry_without_its_index : item_in (codes "store 0 1 0 0 : =5") ≡ Err (BadField 5)
an_entry_without_its_index = refl

pub an_entry_without_its_stamp : item_in (codes "send 0 1 share 2 3 : =00") ≡ Err (BadField 3)
an_entry_without_its_stamp = refl

pub a_creation_past_its_type : item_in (codes "send 0 1 tell 2 3 known 4294967296 100 0=0 :") ≡ Err (BadField 3)
a_creation_past_its_type = refl

pub a_wrong_told_stamp : item_in (codes "send 0 1 tell 2 3 known 1 100 0=0 : x") ≡ Err (BadField 3)
a_wrong_told_stamp = refl
