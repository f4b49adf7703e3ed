use Rattle.std.proofs.Common.{rules, ◌≡◌, ℕ, List, subst}
use Rattle.fx_script.specs.Canonical.{SpellsAlone, canonical}
use Rattle.fx_script.proofs.CanonAlone.{canonical_alone}
use Rattle.fx_script.proofs.print.print_job.Goals as goal

-- what was written is the canonical text
pub returns-clause-alone : goal.returns-clause-alone
returns-clause-alone c =
    let written : canonical c.args.job.now ≡ c.put_job.new.out = search rules in
    subst (λ (text : List ℕ). SpellsAlone text c.args.job.now) written (canonical_alone c.args.job.now c.requires)
