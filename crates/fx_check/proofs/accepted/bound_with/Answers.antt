use Rattle.std.proofs.Common.{◌+◌, ◌*◌, ◌≤◌, arith}
use Rattle.std.proofs.lemmas.Nat.{mul-le}
use Rattle.fx_check.proofs.accepted.bound_with.Goals as goal

pub returns-clause-at_most : goal.returns-clause-at_most
returns-clause-at_most c =
    let p = c.args.procs in
    let w = c.args.work in
    let links : p * (2 * p + 2) ≤ 16 * 34 = mul-le p (2 * p + 2) 16 34 (omega arith) (omega arith) in
    let worked : p * (2 * p + 2) * (w + 2) ≤ 544 * 20002 = mul-le (p * (2 * p + 2)) (w + 2) 544 20002 (omega arith) (omega arith) in
    let all : p * (2 * p + 2) * (w + 2) * (p + 8) ≤ 10881088 * 24 = mul-le (p * (2 * p + 2) * (w + 2)) (p + 8) 10881088 24 (omega arith) (omega arith) in
    omega arith
