-- When no subset is made, by the numbers alone.
use Rattle.std.specs.Prelude.{◌≡◌, refl, ℕ, ◌+◌, ◌-◌, ◌*◌, Bool, cond, ◌&&◌, ◌==◌, nat_le, nat_lt, List, [], ◌∷◌, length, Option, None, Some, Result, Ok, Err}
use Rattle.std.specs.List.{list_any}
use Rattle.fx_subset.specs.declared.fault.SubsetFault.{SubsetFault}
use Rattle.fx_subset.specs.declared.fault.SubsetFault.TheVariants.{NoBlocks, EndBeforeStart, ZeroStride, Outside}
use Rattle.fx_subset.specs.declared.fault.MakeSubset.{MakeSubset}
use Rattle.fx_subset.specs.declared.fault.MakeSubset.TheVariants.{Refused, NoMemory}

-- the first fault of the list whose test holds
abbrev pub first_that_holds : List (Bool × SubsetFault) → Option SubsetFault
first_that_holds [] = None
first_that_holds (row ∷ rows) = cond row.0 (Some row.1) (first_that_holds rows)

-- the fault of the numbers of a strided subset: the last block reaches furthest, to last + (blocks - 1) * stride
abbrev pub fault_of_blocks : (len blocks start last stride : ℕ) → Option SubsetFault
fault_of_blocks len blocks start last stride =
    first_that_holds
    ((blocks == 0, NoBlocks)
    ∷ (nat_lt last start, EndBeforeStart)
    ∷ (nat_lt 1 blocks && stride == 0, ZeroStride)
    ∷ (nat_le len (last + (blocks - 1) * stride), Outside)
    ∷ [])

-- the fault of pairs of a first and a last index
abbrev pub fault_of_pairs : ℕ → List (ℕ × ℕ) → Option SubsetFault
fault_of_pairs len pairs =
    first_that_holds
    ((length pairs == 0, NoBlocks)
    ∷ (list_any (λ pair. nat_lt pair.1 pair.0) pairs, EndBeforeStart)
    ∷ (list_any (λ pair. nat_le len pair.1) pairs, Outside)
    ∷ [])

-- the fault of the whole of an array
abbrev pub fault_of_whole : ℕ → Option SubsetFault
fault_of_whole len = first_that_holds ((len == 0, NoBlocks) ∷ [])

-- a call answers a fault exactly where it is the one that is there
abbrev pub Refuses : {X : Type 0} → Result X MakeSubset → Option SubsetFault → Type 0
Refuses (Ok made) fault = fault ≡ None
Refuses (Err NoMemory) fault = fault ≡ None
Refuses (Err (Refused answered)) fault = fault ≡ Some answered

past_the_end : fault_of_blocks 255 3 250 251 2 ≡ Some Outside
past_the_end = refl

inside : fault_of_blocks 256 3 250 251 2 ≡ None
inside = refl

no_blocks_first : fault_of_blocks 0 0 3 2 0 ≡ Some NoBlocks
no_blocks_first = refl

end_before_start : fault_of_blocks 256 4 3 2 2 ≡ Some EndBeforeStart
end_before_start = refl

zero_stride : fault_of_blocks 256 2 0 3 0 ≡ Some ZeroStride
zero_stride = refl

stride_of_one_block : fault_of_blocks 256 1 4 4 0 ≡ None
stride_of_one_block = refl

-- a pair that ends before it starts is answered before one that is outside
first_of_two : fault_of_pairs 4 ((7, 8) ∷ (2, 1) ∷ []) ≡ Some EndBeforeStart
first_of_two = refl
