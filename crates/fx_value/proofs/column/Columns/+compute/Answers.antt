use Rattle.std.proofs.Common.{◌∙◌, ap, sym, length, rules}
use Rattle.std.specs.Int.{w64}
use mir.Facts.{to_z-of_z}
use mir.Val.{SFits}
use Rattle.fx_walk.specs.Values.{sight}
use Rattle.fx_value.specs.declared.formula.Term.{Term}
use Rattle.fx_value.specs.Terms.{term_values}
use Rattle.fx_value.proofs.ColumnLemmas.{add_done, as_long, counter_column, element_column, index_column, latest_column, mul_done, number_column, rank_column, size_column, sub_done}
use Rattle.fx_value.proofs.column.Columns.+compute.Goals as goal

pub returns-in-Number : goal.returns-in-Number
returns-in-Number t c =
    let fits : SFits w64 c.in-Number.number = search rules in
    rw (c.in-Number.is, ← number_column c.in-Number.number (sight c.args.view.now c.args.values.now) 0 c.args.olds.now) (rw (to_z-of_z {w = w64} {z = c.in-Number.number} fits) at c.repeated.ensures)

pub returns-in-Counter : goal.returns-in-Counter
returns-in-Counter t c =
    let fits : SFits w64 c.counter.result = search rules in
    rw (c.in-Counter.is, ← counter_column c.in-Counter.slot (sight c.args.view.now c.args.values.now) 0 c.args.olds.now, ← c.counter.ensures) (rw (to_z-of_z {w = w64} {z = c.counter.result} fits) at c.repeated-in-Counter.ensures)

pub returns-in-Element : goal.returns-in-Element
returns-in-Element t c = rw (c.in-Element.is, ← element_column c.in-Element.slot (sight c.args.view.now c.args.values.now) c.args.olds.now, ← c.array.ensures) c.padded.ensures

pub returns-in-Index : goal.returns-in-Index
returns-in-Index t c = rw (c.in-Index.is, ← index_column (sight c.args.view.now c.args.values.now) 0 c.args.olds.now) c.indices.ensures

pub returns-in-Rank : goal.returns-in-Rank
returns-in-Rank t c =
    let fits : SFits w64 c.from.result = search rules in
    rw (c.in-Rank.is, ← rank_column (sight c.args.view.now c.args.values.now) 0 c.args.olds.now, ← c.from.ensures) (rw (to_z-of_z {w = w64} {z = c.from.result} fits) at c.repeated-in-Rank.ensures)

pub returns-in-Size : goal.returns-in-Size
returns-in-Size t c =
    let fits : SFits w64 c.from-in-Size.result = search rules in
    rw (c.in-Size.is, ← size_column (sight c.args.view.now c.args.values.now) 0 c.args.olds.now, ← c.from-in-Size.ensures) (rw (to_z-of_z {w = w64} {z = c.from-in-Size.result} fits) at c.repeated-in-Size.ensures)

pub returns-in-Latest : goal.returns-in-Latest
returns-in-Latest t c =
    let fits : SFits w64 c.newest.result = search rules in
    rw (c.in-Latest.is, ← latest_column c.in-Latest.group (sight c.args.view.now c.args.values.now) 0 c.args.olds.now, ← c.newest.ensures) (rw (to_z-of_z {w = w64} {z = c.newest.result} fits) at c.repeated-in-Latest.ensures)

pub add_all-requires : goal.add_all-requires
add_all-requires t c = ap length c.as_mut_slice.ensures.value
    ∙ as_long c.get.result.now c.get-in-Add.result.now (sight c.args.view.now c.args.values.now) c.args.olds.now c.in_ok-sum-in-Add.sum.items c.in_ok-right-in-Add.right.items c.in_ok-sum-in-Add.ensures c.in_ok-right-in-Add.ensures
    ∙ sym (ap length c.as_slice.ensures.value)

pub returns-in_ok-right-in-Add : goal.returns-in_ok-right-in-Add
returns-in_ok-right-in-Add t c =
    add_done c.in-Add.left c.in-Add.right c.args.term.now (sight c.args.view.now c.args.values.now) c.args.olds.now c.in_ok-sum-in-Add.sum.len c.in_ok-sum-in-Add.sum.items c.as_mut_slice.result.now c.as_slice.result.now c.add_all.new.left
    c.in-Add.is (c.as_mut_slice.ensures.value ∙ c.in_ok-sum-in-Add.ensures ∙ ap (λ (part : Term). term_values part (sight c.args.view.now c.args.values.now) 0 c.args.olds.now) c.get.ensures)
    (c.as_slice.ensures.value ∙ c.in_ok-right-in-Add.ensures ∙ ap (λ (part : Term). term_values part (sight c.args.view.now c.args.values.now) 0 c.args.olds.now) c.get-in-Add.ensures)
    c.add_all.ensures (c.in_ok-sum-in-Add.sum.ok.0 ∙ sym (ap length c.as_mut_slice.ensures.value))

pub subtract_all-requires : goal.subtract_all-requires
subtract_all-requires t c = ap length c.as_mut_slice-in-Sub.ensures.value
    ∙ as_long c.get-in-Sub.result.now c.get-in-Sub-2.result.now (sight c.args.view.now c.args.values.now) c.args.olds.now c.in_ok-difference-in-Sub.difference.items c.in_ok-right-in-Sub.right.items c.in_ok-difference-in-Sub.ensures c.in_ok-right-in-Sub.ensures
    ∙ sym (ap length c.as_slice-in-Sub.ensures.value)

pub returns-in_ok-right-in-Sub : goal.returns-in_ok-right-in-Sub
returns-in_ok-right-in-Sub t c =
    sub_done c.in-Sub.left c.in-Sub.right c.args.term.now (sight c.args.view.now c.args.values.now) c.args.olds.now c.in_ok-difference-in-Sub.difference.len c.in_ok-difference-in-Sub.difference.items c.as_mut_slice-in-Sub.result.now c.as_slice-in-Sub.result.now c.subtract_all.new.left
    c.in-Sub.is (c.as_mut_slice-in-Sub.ensures.value ∙ c.in_ok-difference-in-Sub.ensures ∙ ap (λ (part : Term). term_values part (sight c.args.view.now c.args.values.now) 0 c.args.olds.now) c.get-in-Sub.ensures)
    (c.as_slice-in-Sub.ensures.value ∙ c.in_ok-right-in-Sub.ensures ∙ ap (λ (part : Term). term_values part (sight c.args.view.now c.args.values.now) 0 c.args.olds.now) c.get-in-Sub-2.ensures)
    c.subtract_all.ensures (c.in_ok-difference-in-Sub.difference.ok.0 ∙ sym (ap length c.as_mut_slice-in-Sub.ensures.value))

pub multiply_all-requires : goal.multiply_all-requires
multiply_all-requires t c = ap length c.as_mut_slice-in-Mul.ensures.value
    ∙ as_long c.get-in-Mul.result.now c.get-in-Mul-2.result.now (sight c.args.view.now c.args.values.now) c.args.olds.now c.in_ok-product-in-Mul.product.items c.in_ok-right-in-Mul.right.items c.in_ok-product-in-Mul.ensures c.in_ok-right-in-Mul.ensures
    ∙ sym (ap length c.as_slice-in-Mul.ensures.value)

pub returns-in_ok-right-in-Mul : goal.returns-in_ok-right-in-Mul
returns-in_ok-right-in-Mul t c =
    mul_done c.in-Mul.left c.in-Mul.right c.args.term.now (sight c.args.view.now c.args.values.now) c.args.olds.now c.in_ok-product-in-Mul.product.len c.in_ok-product-in-Mul.product.items c.as_mut_slice-in-Mul.result.now c.as_slice-in-Mul.result.now c.multiply_all.new.left
    c.in-Mul.is (c.as_mut_slice-in-Mul.ensures.value ∙ c.in_ok-product-in-Mul.ensures ∙ ap (λ (part : Term). term_values part (sight c.args.view.now c.args.values.now) 0 c.args.olds.now) c.get-in-Mul.ensures)
    (c.as_slice-in-Mul.ensures.value ∙ c.in_ok-right-in-Mul.ensures ∙ ap (λ (part : Term). term_values part (sight c.args.view.now c.args.values.now) 0 c.args.olds.now) c.get-in-Mul-2.ensures)
    c.multiply_all.ensures (c.in_ok-product-in-Mul.product.ok.0 ∙ sym (ap length c.as_mut_slice-in-Mul.ensures.value))
