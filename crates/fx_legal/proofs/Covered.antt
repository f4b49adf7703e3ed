-- A group that is covered as a creation first returns is kept.
use Rattle.std.proofs.Common.{◌≡◌, Bool, true, false, List, ◌∷◌, ◌++◌, None, refl, sym, ◌∙◌, subst}
use Rattle.fx_base.specs.declared.names.CallNo.{CallNo}
use Rattle.fx_base.specs.declared.names.Epoch.{Epoch}
use Rattle.fx_base.specs.declared.names.GroupId.{GroupId}
use Rattle.fx_base.specs.declared.names.How.{How}
use Rattle.fx_base.specs.declared.names.How.TheVariants as how
use Rattle.fx_base.specs.declared.names.Proc.{Proc}
use Rattle.fx_base.specs.declared.names.Stamp.{Stamp}
use Rattle.fx_item.specs.declared.item.Item.{Item}
use Rattle.fx_item.specs.declared.item.Item.TheVariants as item
use Rattle.fx_script.specs.declared.job.Job.{Job}
use Rattle.fx_legal.specs.Creations.{IsFound, IsFoundFirst, is_covered}
use Rattle.fx_legal.specs.Groups.{Group}
use Rattle.fx_legal.specs.Ledger.{first_ledger, first_success}
use Rattle.fx_legal.specs.Legal.{IsLegal, ledger_of}
use Rattle.fx_legal.proofs.Fronts.{item_may_come}

not_both : true ≡ false → ⊥
not_both e = absurd cc

found_covered : (covered : Bool) (g : Group) (found : How) (stamps : List Stamp) → IsFound covered g found stamps → covered ≡ true → found ≡ how.Kept
found_covered covered g how.Fresh stamps is so = absurd (not_both (sym so ∙ is.0))
found_covered covered g how.Kept stamps is so = refl
found_covered covered g how.Lost stamps is so = absurd (not_both (sym so ∙ is.1))

pub covered_is_kept : (job : Job) (front more : List Item) (p : Proc) (e : Epoch) (k : CallNo) (g : GroupId) (found : How) (stamps : List Stamp)
    → IsLegal job (front ++ item.Created p e k g found stamps ∷ more) → first_success (ledger_of job front) e.0 k.0 ≡ None
    → is_covered job (ledger_of job front) g ≡ true → found ≡ how.Kept
covered_is_kept job front more p e k g found stamps goes first covered =
    let may = item_may_come job (first_ledger job) front more (item.Created p e k g found stamps) goes in
    found_covered (is_covered job (ledger_of job front) g) ((ledger_of job front).groups g.0) found stamps
    (subst (IsFoundFirst job (ledger_of job front) g found stamps) first may.1.1) covered
