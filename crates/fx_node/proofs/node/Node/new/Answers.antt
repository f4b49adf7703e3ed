use Rattle.std.proofs.Common.{ap, refl, subst, sym, ◌<◌, ◌∙◌, ℕ, All, true}
use Rattle.fx_base.specs.Sets.{those_below}
use Rattle.fx_check.specs.Rules.{procs_of}
use Rattle.fx_comm.specs.Seats.{first_seats}
use Rattle.fx_fleet.specs.Runs.{job_setup}
use Rattle.fx_node.proofs.First.{seats_among, among, at_most_32, is_below}
use Rattle.fx_node.proofs.node.Node.new.Goals as goal

pub invariant_of-result : goal.invariant_of-result
invariant_of-result c =
    let many = c.in_ok-new.ensures.of_all in
    record {
      few = at_most_32 _ _ many c.procs-procs.ensures.at_most;
      one_of_them = among _ _ _ _ many c.procs-procs.ensures.same c.requires.below;
      same = (c.in_ok-new.ensures.knows (job_setup c.args.job.now)).same;
      seats = seats_among _ _ _ _ _ _ many c.procs-procs.ensures.same c.in_ok-first.ensures c.ranks-2.ensures.same;
      members = subst (λ (bound : ℕ). All (λ q. q < bound) c.in_ok-all_below.field-0) (sym many) c.in_ok-all_below.ensures.below;
      count = at_most_32 _ _ c.in_ok-all_below.ensures.count c.procs-procs.ensures.at_most;
      apart = c.in_ok-all_below.ensures.apart;
    }

pub returns-clause-begins : goal.returns-clause-begins
returns-clause-begins c = record {
  me = refl;
  ranks = c.ranks.ensures.same;
  epoch = refl;
  comm = ap first_seats (sym c.ranks-2.ensures.same) ∙ sym c.in_ok-first.ensures;
  present = ap (λ (procs : ℕ). those_below (λ q. true) procs) (sym c.procs-procs.ensures.same) ∙ sym c.in_ok-all_below.ensures.all;
  member = is_below (procs_of c.args.job.now) c.args.me.0 c.requires.below;
  role = refl;
  calls = refl;
  bare = λ g. refl;
  is_flow = c.in_ok-another.ensures.of_job;
  knows = c.in_ok-new.ensures.knows (job_setup c.args.job.now);
  stands = (refl, sym c.in_ok-another.ensures.blank, refl, refl);
}
