use Rattle.std.proofs.Common.{◌≡◌, ◌++◌, ℕ, List, OnOk, subst, ap, ◌∙◌, w64, to_z, of_z}
use Rattle.std.proofs.lemmas.Int.{to_z-of_z}
use Rattle.fx_text.specs.Written.{spaced}
use Rattle.fx_script.proofs.PrintLemmas.{ends_line, three_numbers, same_three}
use Rattle.fx_script.proofs.print_line.put_three_numbered.Goals as goal

pub returns : goal.returns
returns c =
    let one = c.args.one in
    let two = c.args.two in
    let three = c.args.three in
    let same = same_three (to_z w64 (of_z w64 one)) (to_z w64 (of_z w64 two)) (to_z w64 (of_z w64 three)) one two three (to_z-of_z w64 one c.ranges.one) (to_z-of_z w64 two c.ranges.two) (to_z-of_z w64 three c.ranges.three) in
    let e : c.put_three_numbers.new.out ≡ c.append.new.self ++ spaced (three_numbers one two three) =
    c.in_ok-put_three_numbers.ensures ∙ ap (λ (ws : List (List ℕ)). c.append.new.self ++ spaced ws) same in
    subst (λ (text : List ℕ). OnOk c.push.result (c.push.new.self ≡ text))
    (ends_line c.args.out.now c.args.first.now c.append.new.self c.put_three_numbers.new.out (three_numbers one two three) c.in_ok-append.ensures.ok e)
    c.push.ensures.ok
