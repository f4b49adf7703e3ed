-- The first world.
use Rattle.std.proofs.lemmas.Bool.Decides.{nat_tests}
use Rattle.std.proofs.lemmas.List.{get_or_append_left, get_or_push, length-replicate}
use Rattle.std.proofs.Common.{arith, ◌≡◌, ◌<◌, ◌≤◌, ◌+◌, ℕ, Bool, true, false, List, [], ◌∷◌, ◌++◌, All, length, map, Option, None, refl, sym, ap, ◌∙◌, slice_index_or, inl, inr}
use Rattle.std.specs.Prelude.{not, if◌then◌else◌}
use Rattle.std.proofs.lemmas.Bool.{cases_eq}
use Rattle.fx_check.specs.Rules.{procs_of}
use Rattle.fx_fleet.specs.Runs.{job_setup, rest_bound_of}
use Rattle.fx_fleet.specs.World.{first_world, up}
use Rattle.fx_link.specs.LinkTable.{LinkTable, no_links}
use Rattle.fx_link.proofs.LinkFacts.{no_links_none, no_links_table, none_closed}
use Rattle.fx_machine.specs.Messages.{wire_text}
use Rattle.fx_machine.specs.Nodes.{first_node}
use Rattle.fx_machine.specs.Texts.{Text}
use Rattle.fx_node.specs.Standing.{Standing}
use Rattle.fx_script.specs.declared.job.Job.{Job}
use Rattle.fx_world.specs.declared.counts.Counts.{Counts}
use Rattle.fx_world.specs.Standings.{IsOneOf, IsPost, IsSound, IsWorldOf}

-- one more process stands at the end
pub stands_too : (job : Job) (posts : List (Option Standing)) (n : ℕ) (post : Option Standing) → length posts ≡ n → IsPost job post false (first_node (job_setup job) n)
    → ((q : ℕ) → q < n → IsPost job (slice_index_or posts q None) false (first_node (job_setup job) q))
    → (q : ℕ) → q < n + 1 → IsPost job (slice_index_or (posts ++ post ∷ []) q None) false (first_node (job_setup job) q)
stands_too job posts n post count one so q below = elim (cases_eq q n) [
  | inl same ↦ rw (same, get_or_push posts post None n count) one
  | inr other ↦ rw (get_or_append_left posts (post ∷ []) None q (omega (arith, below, other, count))) (so q (omega (arith, below, other)))
]

pub first_sound : (procs fuel : ℕ) (posts : List (Option Standing)) (table : LinkTable) (counts : Counts) (failed : Bool) → 1 ≤ procs → procs ≤ 16 → length posts ≡ procs → All (IsOneOf procs) posts → table ≡ no_links procs
    → IsSound (record { procs = procs; fuel = fuel; posts = posts; links = table; counts = counts; failed = failed })
first_sound procs fuel posts table counts failed some few count each none = record {
  some = some;
  few = omega (arith, few);
  places = count;
  each = each;
  table = rw none (no_links_table procs);
  linked = rw none (length-replicate procs false);
}

pub first_is : (job : Job) (procs fuel : ℕ) (posts : List (Option Standing)) (table : LinkTable) (counts : Counts) (failed : Bool) → procs ≡ procs_of job → fuel ≡ rest_bound_of job → table ≡ no_links procs
    → ((q : ℕ) → q < procs → IsPost job (slice_index_or posts q None) false (first_node (job_setup job) q))
    → IsWorldOf job (record { procs = procs; fuel = fuel; posts = posts; links = table; counts = counts; failed = failed }) (first_world (job_setup job))
first_is job procs fuel posts table counts failed same enough none stand = record {
  procs = same;
  fuel = enough;
  posts = stand;
  comes = λ a b a_in b_in. rw none (ap (map wire_text) (no_links_none procs a b a_in b_in) ∙ sym (nothing (up (job_setup job) (first_world (job_setup job)) b) [] refl));
  closed = λ b b_in. rw none (none_closed procs b ∙ ap not (sym (all_up b b_in)));
}
  where
    nothing : (b : Bool) (texts : List Text) → texts ≡ [] → (if b then texts else []) ≡ []
    nothing true texts e = e
    nothing false texts e = refl

    all_up : (b : ℕ) → b < procs → up (job_setup job) (first_world (job_setup job)) b ≡ true
    all_up b b_in = grind (arith, nat_tests, same, b_in)
