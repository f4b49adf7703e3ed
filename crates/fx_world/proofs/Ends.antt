-- Whether each living process has ended.
use Rattle.std.proofs.lemmas.Bool.Decides.{nat_tests}
use Rattle.std.proofs.Common.{arith, ◌≡◌, ◌<◌, ℕ, zero, suc, Bool, true, false, refl, sym, ap, ◌∙◌, inl, inr, length, subst, Option, slice_index_or}
use Rattle.std.specs.Prelude.{not, ◌&&◌}
use Rattle.std.proofs.lemmas.Bool.{cases_eq}
use Rattle.fx_fleet.specs.Rounds.{all_over}
use Rattle.fx_fleet.specs.World.{World, up}
use Rattle.fx_machine.specs.Setup.{Setup}
use Rattle.fx_store.specs.Redundancy.{each_below}
use Rattle.fx_check.specs.Rules.{procs_of}
use Rattle.fx_fleet.specs.Runs.{job_setup}
use Rattle.fx_machine.specs.Nodes.{Node, has_ended}
use Rattle.fx_node.specs.Standing.{Standing}
use Rattle.fx_script.specs.declared.job.Job.{Job}
use Rattle.fx_world.specs.Standings.{Standings, IsPost, IsSound, IsWorldOf}
use Rattle.fx_world.proofs.Related.{up_in}
use Rattle.fx_world.proofs.Singles.{post_is}

all_pass : (test : ℕ → Bool) (n : ℕ) → ((q : ℕ) → q < n → test q ≡ true) → each_below n test ≡ true
all_pass test zero pass = refl
all_pass test (suc n) pass = rw (pass n (omega arith), all_pass test n (λ q below. pass q (omega (arith, below)))) refl

one_fails : (test : ℕ → Bool) (n q : ℕ) → q < n → test q ≡ false → each_below n test ≡ false
one_fails test zero q below fails = absurd (omega (arith, below))
one_fails test (suc n) q below fails = elim (cases_eq q n) [
  | inl same ↦ grind (arith, nat_tests, fails, same)
  | inr other ↦ grind (arith, nat_tests, one_fails test n q (omega (arith, below, other)) fails)
]

pub none_up : (s : Setup) (w : World) → ((q : ℕ) → q < s.procs → up s w q ≡ false) → true ≡ all_over s w
none_up s w none = sym (all_pass (λ q. not (up s w q)) s.procs (λ q below. ap not (none q below)))

pub one_up : (s : Setup) (w : World) (q : ℕ) → q < s.procs → up s w q ≡ true → false ≡ all_over s w
one_up s w q below is = sym (one_fails (λ q. not (up s w q)) s.procs q below (ap not is))

-- ---- by the places

-- whether the process at a place is up
pub up_at : (job : Job) (c : Standings) (w : World) (k : ℕ) (o : Option Standing) (b : Bool) → IsSound c → IsWorldOf job c w → k < length c.posts → o ≡ slice_index_or c.posts k o
    → ((j : Job) (killed : Bool) (n : Node) → IsPost j o killed n → b ≡ (not killed && not (has_ended n))) → up (job_setup job) w k ≡ b
up_at job c w k o b sound is within at tells =
    let k_in : k < c.procs = omega (arith, within, sound.places) in
    let here = subst (λ p. IsPost job p (w.killed k) (w.node k)) (sym (post_is c sound k k refl k_in o at)) (is.posts k k_in) in
    up_in job c w k is k_in ∙ sym (tells job (w.killed k) (w.node k) here)

pub so_many : (job : Job) (c : Standings) (w : World) → IsSound c → IsWorldOf job c w → length c.posts ≡ procs_of job
so_many job c w sound is = sound.places ∙ is.procs
