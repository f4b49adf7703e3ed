-- The canonical text of a job spells it and, spots aside, no other job.
use Rattle.std.proofs.Common.{◌≡◌, ℕ, List, refl, ap, subst, ◌∙◌}
use Rattle.fx_script.specs.declared.job.Job.{Job}
use Rattle.fx_script.specs.Spelling.{Spells}
use Rattle.fx_script.specs.Canonical.{canonical, without_spots, HasText, SpellsAlone}
use Rattle.fx_script.proofs.CanonLines.{canonical_spells}
use Rattle.fx_script.proofs.Respotted.{canonical_without_spots, Respotted, job_respotted}
use Rattle.fx_script.proofs.Spelled.{one_job}

-- a canonical text that spells a job again spells no other
pub spells_alone : (text : List ℕ) (told job again : Job) → Spells (canonical told) again → without_spots again ≡ without_spots job → canonical told ≡ canonical job → SpellsAlone (canonical job) job
spells_alone text told job again spells same is =
    let spelled : Spells (canonical job) again = subst (λ (written : List ℕ). Spells written again) is spells in
    record {
      told = again;
      spelled = spelled;
      alone = λ other others. ap without_spots (one_job (canonical job) other again others spelled) ∙ same;
    }

-- the canonical text of a job that, spots aside, some text spells
pub canonical_alone : (job : Job) → HasText job → SpellsAlone (canonical job) job
canonical_alone job has =
    let respotted : Respotted has.told = job_respotted has.told in
    let spells = canonical_spells has.text has.told respotted.again has.spelled respotted.entries (respotted.writable has.spelled.writable) in
    spells_alone has.text has.told job respotted.again spells (respotted.same ∙ has.same) (canonical_without_spots has.told job has.same)

-- a job that a text spells has a text
pub spelled_has_text : (text : List ℕ) (job : Job) → Spells text job → HasText job
spelled_has_text text job spells = record { text = text; told = job; spelled = spells; same = refl }
