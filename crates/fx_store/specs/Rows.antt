-- Worked rows: what the definitions give, by computation.
use Rattle.std.specs.Prelude.{◌≡◌, refl, ℕ, pos, negsuc, ◌+◌, ◌++◌, map, true, false, ◌||◌, ◌==◌, List, [], ◌∷◌, take, replicate, Some, None}
use Rattle.fx_base.specs.Sets.{those_below}
use Rattle.fx_store.specs.Mirror.{mirror, buddy}
use Rattle.fx_store.specs.Packed.{Section, text_bytes, is_text, is_element, runs_of, text_in, elements_in, run_in, runs_in, section_in, sections_in}
use Rattle.fx_store.specs.Redundancy.{bytes_at, helps, of_wards, share_of}
use Rattle.fx_store.specs.Store.{counted, newest}

-- ---- packed snapshots

-- member 0 has element 9 at index 1
abbrev pub one_element : List Section
one_element = record { member = 0; runs = record { start = 1; elements = pos 9 ∷ [] } ∷ [] } ∷ []

-- 46 58 01 01, 00 0001, 0001 0001, 0000000000000009
abbrev pub one_element_bytes : List ℕ
one_element_bytes = 70 ∷ 88 ∷ 1 ∷ 1 ∷ 0 ∷ 0 ∷ 1 ∷ 0 ∷ 1 ∷ 0 ∷ 1 ∷ 0 ∷ 0 ∷ 0 ∷ 0 ∷ 0 ∷ 0 ∷ 0 ∷ 9 ∷ []

one_is_in_order : is_text one_element ≡ true
one_is_in_order = refl

one_is_spelled : text_bytes one_element ≡ one_element_bytes
one_is_spelled = refl

one_is_read : text_in (one_element_bytes ++ 7 ∷ 7 ∷ []) ≡ Some (one_element, 7 ∷ 7 ∷ [])
unfolding text_in sections_in section_in runs_in run_in elements_in
one_is_read = refl

-- with a byte less nothing is read
cut_short : text_in (take 18 one_element_bytes) ≡ None
unfolding text_in sections_in section_in runs_in run_in elements_in
cut_short = refl

-- nor with other letters
other_letters : text_in (88 ∷ 70 ∷ 1 ∷ 0 ∷ []) ≡ None
unfolding text_in sections_in section_in runs_in run_in elements_in
other_letters = refl

-- nor with another version
other_version : text_in (70 ∷ 88 ∷ 2 ∷ 1 ∷ 0 ∷ 0 ∷ 1 ∷ 0 ∷ 1 ∷ 0 ∷ 1 ∷ 0 ∷ 0 ∷ 0 ∷ 0 ∷ 0 ∷ 0 ∷ 0 ∷ 9 ∷ []) ≡ None
unfolding text_in sections_in section_in runs_in run_in elements_in
other_version = refl

-- a snapshot of no member has four bytes
no_member_is_spelled : text_bytes [] ≡ 70 ∷ 88 ∷ 1 ∷ 0 ∷ []
no_member_is_spelled = refl

no_member_is_read : text_in (70 ∷ 88 ∷ 1 ∷ 0 ∷ 5 ∷ []) ≡ Some ([], 5 ∷ [])
unfolding text_in sections_in section_in runs_in run_in elements_in
no_member_is_read = refl

-- member 7 is the last
member_7_is_read : text_in (70 ∷ 88 ∷ 1 ∷ 1 ∷ 7 ∷ 0 ∷ 0 ∷ []) ≡ Some (record { member = 7; runs = [] } ∷ [], [])
unfolding text_in sections_in section_in runs_in run_in elements_in
member_7_is_read = refl

member_8_is_not_read : text_in (70 ∷ 88 ∷ 1 ∷ 1 ∷ 8 ∷ 0 ∷ 0 ∷ []) ≡ None
unfolding text_in sections_in section_in runs_in run_in elements_in
member_8_is_not_read = refl

member_8_is_no_text : is_text (record { member = 8; runs = [] } ∷ []) ≡ false
member_8_is_no_text = refl

-- no member stands twice
twice_is_not_read : text_in (70 ∷ 88 ∷ 1 ∷ 2 ∷ 1 ∷ 0 ∷ 0 ∷ 1 ∷ 0 ∷ 0 ∷ []) ≡ None
unfolding text_in sections_in section_in runs_in run_in elements_in
twice_is_not_read = refl

twice_is_no_text : is_text (record { member = 1; runs = [] } ∷ record { member = 1; runs = [] } ∷ []) ≡ false
twice_is_no_text = refl

-- the greatest and the lowest element
abbrev bounds : List Section
bounds = record { member = 0; runs = record { start = 0; elements = pos 9223372036854775807 ∷ negsuc 9223372036854775807 ∷ [] } ∷ [] } ∷ []

bounds_are_in_order : is_text bounds ≡ true
bounds_are_in_order = refl

bounds_are_spelled :
    text_bytes bounds
    ≡ (70 ∷ 88 ∷ 1 ∷ 1 ∷ 0 ∷ 0 ∷ 1 ∷ 0 ∷ 0 ∷ 0 ∷ 2 ∷ 127 ∷ []) ++ (replicate 7 255 ++ (128 ∷ replicate 7 0))
bounds_are_spelled = refl

bounds_are_read : text_in (text_bytes bounds) ≡ Some (bounds, [])
unfolding text_in sections_in section_in runs_in run_in elements_in
bounds_are_read = refl

past_the_greatest : is_element (pos 9223372036854775808) ≡ false
past_the_greatest = refl

past_the_lowest : is_element (negsuc 9223372036854775808) ≡ false
past_the_lowest = refl

-- 256 elements from index 0 on: the length is 0100
all_indices : take 11 (text_bytes (record { member = 0; runs = record { start = 0; elements = replicate 256 (pos 5) } ∷ [] } ∷ [])) ≡ 70 ∷ 88 ∷ 1 ∷ 1 ∷ 0 ∷ 0 ∷ 1 ∷ 0 ∷ 0 ∷ 1 ∷ 0 ∷ []
all_indices = refl

-- members 3 and 5: the first has -1 and -2 at 254 and 255, and the second was stored with no index
abbrev pub two_members : List Section
two_members =
    record { member = 3; runs = record { start = 254; elements = negsuc 0 ∷ negsuc 1 ∷ [] } ∷ [] }
    ∷ record { member = 5; runs = [] }
    ∷ []

two_are_in_order : is_text two_members ≡ true
two_are_in_order = refl

-- 46 58 01 02, 03 0001, 00fe 0002, ffffffffffffffff fffffffffffffffe, 05 0000
two_are_spelled :
    text_bytes two_members
    ≡ (70 ∷ 88 ∷ 1 ∷ 2 ∷ 3 ∷ 0 ∷ 1 ∷ 0 ∷ 254 ∷ 0 ∷ 2 ∷ []) ++ (replicate 8 255 ++ (replicate 7 255 ++ (254 ∷ 5 ∷ 0 ∷ 0 ∷ [])))
two_are_spelled = refl

two_are_read : text_in (text_bytes two_members) ≡ Some (two_members, [])
unfolding text_in sections_in section_in runs_in run_in elements_in
two_are_read = refl

-- two runs side by side are no runs of a text, and aren't read
abbrev pub side_by_side : List Section
side_by_side = record { member = 0; runs = record { start = 1; elements = pos 9 ∷ [] } ∷ record { start = 2; elements = pos 9 ∷ [] } ∷ [] } ∷ []

side_by_side_is_no_text : is_text side_by_side ≡ false
side_by_side_is_no_text = refl

side_by_side_is_not_read : text_in (text_bytes side_by_side) ≡ None
unfolding text_in sections_in section_in runs_in run_in elements_in
side_by_side_is_not_read = refl

-- nor are runs that fall, or reach into each other
abbrev runs_at : (first second : ℕ) → List Section
runs_at first second =
    record { member = 0; runs = record { start = first; elements = pos 9 ∷ pos 9 ∷ [] } ∷ record { start = second; elements = pos 9 ∷ [] } ∷ [] } ∷ []

runs_fall : text_in (text_bytes (runs_at 4 1)) ≡ None
unfolding text_in sections_in section_in runs_in run_in elements_in
runs_fall = refl

runs_overlap : text_in (text_bytes (runs_at 4 5)) ≡ None
unfolding text_in sections_in section_in runs_in run_in elements_in
runs_overlap = refl

runs_rise : text_in (text_bytes (runs_at 4 7)) ≡ Some (runs_at 4 7, [])
unfolding text_in sections_in section_in runs_in run_in elements_in
runs_rise = refl

-- nor are members that don't rise
abbrev pub falling : List Section
falling = record { member = 1; runs = [] } ∷ record { member = 0; runs = [] } ∷ []

falling_is_no_text : is_text falling ≡ false
falling_is_no_text = refl

falling_is_not_read : text_in (text_bytes falling) ≡ None
unfolding text_in sections_in section_in runs_in run_in elements_in
falling_is_not_read = refl

-- nor is a run without elements, nor one that reaches index 256
no_element : text_in (70 ∷ 88 ∷ 1 ∷ 1 ∷ 0 ∷ 0 ∷ 1 ∷ 0 ∷ 1 ∷ 0 ∷ 0 ∷ []) ≡ None
unfolding text_in sections_in section_in runs_in run_in elements_in
no_element = refl

abbrev to_256 : List Section
to_256 = record { member = 0; runs = record { start = 255; elements = pos 1 ∷ pos 2 ∷ [] } ∷ [] } ∷ []

index_256_is_no_text : is_text to_256 ≡ false
index_256_is_no_text = refl

index_256_is_not_read : text_in (text_bytes to_256) ≡ None
unfolding text_in sections_in section_in runs_in run_in elements_in
index_256_is_not_read = refl

-- eight members are claimed, and a run of 65,535 elements
claimed_only : text_in (70 ∷ 88 ∷ 1 ∷ 8 ∷ 0 ∷ 255 ∷ 255 ∷ 0 ∷ 0 ∷ 255 ∷ 255 ∷ []) ≡ None
unfolding text_in sections_in section_in runs_in run_in elements_in
claimed_only = refl

-- the runs of elements at 1, 2 and 4
longest_runs :
    runs_of ((1, pos 10) ∷ (2, pos 20) ∷ (4, pos 40) ∷ [])
    ≡ record { start = 1; elements = pos 10 ∷ pos 20 ∷ [] } ∷ record { start = 4; elements = pos 40 ∷ [] } ∷ []
longest_runs = refl

-- ---- stamps

-- three stamps from 5 on
three_stamps : counted (record { 0 = pos 5 }) 3 ≡ record { 0 = pos 5 } ∷ record { 0 = pos 6 } ∷ record { 0 = pos 7 } ∷ []
three_stamps = refl

newest_two : newest {X = ℕ} 2 (1 ∷ 2 ∷ 3 ∷ 4 ∷ []) ≡ 3 ∷ 4 ∷ []
newest_two = refl

-- ---- the mirror

-- among four places at separation 2, place 0 is kept by place 2, and keeps place 2
keepers_of_0 : those_below ((mirror 2).keepers 4 0) 4 ≡ 2 ∷ []
unfolding those_below
keepers_of_0 = refl

wards_of_0 : those_below ((mirror 2).wards 4 0) 4 ≡ 2 ∷ []
unfolding those_below
wards_of_0 = refl

covers_0_1 : (mirror 2).covers 4 (λ j. j == 0 || j == 1) ≡ true
covers_0_1 = refl

covers_not_0_2 : (mirror 2).covers 4 (λ j. j == 0 || j == 2) ≡ false
covers_not_0_2 = refl

-- at separation 1 keepers and wards differ: place 0 is kept by place 1, and keeps place 3
keepers_at_1 : those_below ((mirror 1).keepers 4 0) 4 ≡ 1 ∷ []
unfolding those_below
keepers_at_1 = refl

wards_at_1 : those_below ((mirror 1).wards 4 0) 4 ≡ 3 ∷ []
unfolding those_below
wards_at_1 = refl

-- at separation 3 among four places the buddy of 0 is 3
buddy_at_3 : buddy 3 4 0 ≡ 3
buddy_at_3 = refl

-- a separation past the number of places begins anew: 4 is as 1 among four places
buddies_at_4 : buddy 4 4 0 ∷ buddy 4 4 3 ∷ [] ≡ 1 ∷ 0 ∷ []
buddies_at_4 = refl

-- one place has no keeper, and isn't covered
alone : those_below ((mirror 3).keepers 1 0) 1 ≡ []
unfolding those_below
alone = refl

alone_is_lost : (mirror 3).covers 1 (λ j. j == 0) ≡ false
alone_is_lost = refl

-- place 2 keeps the bytes of place 0, gives them for it, and gives nothing for place 1
share_of_2 : (mirror 2).fold 4 2 (bytes_at ((0, 7 ∷ 8 ∷ []) ∷ (1, 9 ∷ []) ∷ [])) ≡ 7 ∷ 8 ∷ []
unfolding those_below
share_of_2 = refl

help_of_2 : (mirror 2).help 4 2 0 [] (7 ∷ 8 ∷ []) ≡ 7 ∷ 8 ∷ []
help_of_2 = refl

no_help_of_2 : (mirror 2).help 4 2 1 [] (7 ∷ 8 ∷ []) ≡ []
no_help_of_2 = refl

made_again : (mirror 2).rebuild 4 0 (bytes_at ((1, 1 ∷ []) ∷ (2, 7 ∷ 8 ∷ []) ∷ [])) ≡ Some (7 ∷ 8 ∷ [])
made_again = refl

not_made_again : (mirror 2).rebuild 4 0 (bytes_at ((1, 1 ∷ []) ∷ [])) ≡ None
not_made_again = refl

-- the helps for place 0, when places 0 and 1 are lost: its keeper gives its bytes, and place 3, which keeps place 1, gives nothing
abbrev each_own : ℕ → List ℕ
each_own j = (j + 1) ∷ []

helps_for_0 : map (helps (mirror 2) 4 0 each_own (λ j. j == 0 || j == 1)) (0 ∷ 1 ∷ 2 ∷ 3 ∷ []) ≡ [] ∷ [] ∷ (1 ∷ []) ∷ [] ∷ []
unfolding those_below
helps_for_0 = refl

-- of the bytes that come, those of the ward come through
wards_come_through : map (of_wards (mirror 2) 4 2 each_own) (0 ∷ 1 ∷ 2 ∷ 3 ∷ []) ≡ (1 ∷ []) ∷ [] ∷ [] ∷ [] ∷ []
wards_come_through = refl

shares : map (λ place. share_of (mirror 1) 4 place each_own) (0 ∷ 1 ∷ 2 ∷ 3 ∷ []) ≡ (4 ∷ []) ∷ (1 ∷ []) ∷ (2 ∷ []) ∷ (3 ∷ []) ∷ []
unfolding those_below
shares = refl
