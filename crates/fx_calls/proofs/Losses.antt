-- Along a whole run all is caused; and so each epoch has its loss.
use Rattle.std.proofs.lemmas.Bool.{cases_eq}
use Rattle.std.proofs.Common.{◌≡◌, ℕ, Bool, true, false, List, [], ◌∷◌, inl, inr, refl, sym, ap, subst, ◌∙◌, Some, None}
use Rattle.std.specs.Prelude.{is_some}
use Rattle.fx_ballot.specs.World.{put}
use Rattle.fx_item.specs.declared.item.Item.{Item}
use Rattle.fx_script.specs.declared.job.Job.{Job}
use Rattle.fx_machine.specs.Messages.{message_of}
use Rattle.fx_machine.specs.Nodes.{Node, receives, is_told, Stage, Failed}
use Rattle.fx_machine.specs.Numbers.{proc}
use Rattle.fx_machine.specs.Texts.{Text}
use Rattle.fx_fleet.specs.Runs.{job_setup, moments_of, rest_bound_of, journal_of}
use Rattle.fx_fleet.specs.World.{World, up, receives_front, learns, loses, first_world}
use Rattle.fx_calm.proofs.Standing.{noted}
use Rattle.fx_legal.specs.Effects.{written}
use Rattle.fx_legal.specs.Ledger.{first_ledger, Ledger}
use Rattle.fx_legal.specs.Legal.{ledger_of}
use Rattle.fx_losses.proofs.Texts.{put_same, put_other}
use Rattle.fx_calls.proofs.Legally.{Legally}
use Rattle.fx_calls.proofs.Saying.{Said}
use Rattle.fx_calls.proofs.Plans.{Grows, HavePlans}
use Rattle.fx_losses.proofs.Losses.{loses_others, slain_not}
use Rattle.fx_losses.proofs.Schedule.{kills_of}
use Rattle.fx_check.specs.Work.{bound_of}
use Rattle.fx_check.specs.Parts.{KeepsByParts}
use Rattle.fx_walk.specs.declared.wanted.Wanted.TheVariants as wanted
use Rattle.fx_calls.specs.Bodies.{AsksNoGroups}
use Rattle.fx_losses.proofs.Legality.{KillsProcesses}
use Rattle.fx_losses.proofs.Moments.{IsKeptAlong, always_along}
use Rattle.fx_calls.proofs.Hearing.{hears_legally, hears_polls, hears_said, tells_legally, tells_polls, tells_said, same_journal}
use Rattle.fx_calls.proofs.Losing.{loses_legally, loses_votes, loses_said, told, ledger_now, grows}
use Rattle.fx_calls.proofs.Legality.{passes_legally, passes_polls, begins, begins_said}
use Rattle.fx_calls.proofs.Causes.{Causes, Caused, HaveVoted, AsksAt, loss_grows, caused_grows}
use Rattle.fx_calls.proofs.Causing.{caused_by}
use Rattle.fx_losses.specs.Losses.{HasLoss, RepairLosses, EachEpochHasItsLoss}
use Rattle.fx_losses.proofs.Voted.{losses_more}
use Rattle.fx_deeds.proofs.Every.{is_deed}
use Rattle.fx_item.specs.declared.item.Item.TheVariants as item

-- a node that is as before but for what it heard
record Alike (m n : Node) : Type 0 where
  pub stage : m.stage ≡ n.stage
  pub epoch : m.epoch ≡ n.epoch
  pub walk : m.walk ≡ n.walk

causes_same : (job : Job) (l : Ledger) (w v : World) → ((q : ℕ) → v.killed q ≡ w.killed q) → ((q : ℕ) → Alike (v.node q) (w.node q)) → Causes job w l → Causes job v l
causes_same job l w v killed same c = record {
  begun = c.begun;
  kinds = c.kinds;
  failures = λ q alive at. subst (HasLoss l) (sym (same q).epoch) (c.failures q (sym (killed q) ∙ alive) (sym (same q).stage ∙ at));
  asks = λ q alive. subst (λ (a : Stage). AsksAt a (v.node q).walk) (sym (same q).stage) (subst (AsksAt (w.node q).stage) (sym (same q).walk) (c.asks q (sym (killed q) ∙ alive)));
}

alike_at : (node : ℕ → Node) (b : ℕ) (m : Node) → Alike m (node b) → (q : ℕ) → Alike (put node b m q) (node q)
alike_at node b m is q = elim (cases_eq q b) [
  | inl same ↦ subst (λ o. Alike (put node b m o) (node o)) (sym same) (subst (λ (x : Node). Alike x (node b)) (sym (put_same node b m)) is)
  | inr ne ↦ subst (λ (x : Node). Alike x (node q)) (sym (put_other node b q m ne)) (record { stage = refl; epoch = refl; walk = refl })
]

quiet : (job : Job) (ps : List ℕ) (w v : World) → noted v.items ≡ noted w.items → ((q : ℕ) → v.killed q ≡ w.killed q) → ((q : ℕ) → Alike (v.node q) (w.node q)) → (is : Legally job ps v) (c : Caused job ps w) → is.polls ≡ c.legally.polls → Said (job_setup job) v (ledger_of job (noted v.items)) is.polls → Caused job ps v
quiet job ps w v silent killed same is c polls said = record {
  legally = is;
  voted = subst (HaveVoted (ledger_of job (noted v.items))) (sym polls) (subst (λ (items : List Item). HaveVoted (ledger_of job items) c.legally.polls) (sym silent) c.voted);
  causes = subst (λ (items : List Item). Causes job v (ledger_of job items)) (sym silent) (causes_same job (ledger_of job (noted w.items)) w v killed same c.causes);
  losses = subst (RepairLosses job (first_ledger job)) (sym silent) c.losses;
  said = said;
}

hears_caused : (job : Job) (ps : List ℕ) (a b : ℕ) (t : Text) (rest : List Text) (w : World) → up (job_setup job) w b ≡ true → w.link a b ≡ t ∷ rest → Caused job ps w → Caused job ps (receives_front a b (t ∷ rest) w)
hears_caused job ps a b t rest w on front c =
    quiet job ps w (receives_front a b (t ∷ rest) w) (same_journal w.items (item.Deliver (proc a) (proc b) (message_of t)) refl) (λ q. refl)
    (alike_at w.node b (receives a t (w.node b)) (record { stage = refl; epoch = refl; walk = refl })) (hears_legally job ps a b t rest w on front c.legally) c (hears_polls job ps a b t rest w on front c.legally) (hears_said job ps a b t rest w on front c.legally c.said)

tells_caused : (job : Job) (ps : List ℕ) (a b : ℕ) (w : World) → w.killed a ≡ true → Caused job ps w → Caused job ps (learns a b w)
tells_caused job ps a b w dead c =
    quiet job ps w (learns a b w) (same_journal w.items (item.Told (proc a) (proc b)) refl) (λ q. refl)
    (alike_at w.node b (is_told a (w.node b)) (record { stage = refl; epoch = refl; walk = refl })) (tells_legally job ps a b w dead c.legally) c (tells_polls job ps a b w dead c.legally) (tells_said job ps a b w dead c.legally c.said)

loses_caused : (job : Job) (ps : List ℕ) (p : ℕ) (w : World) → up (job_setup job) w p ≡ true → Caused job (p ∷ ps) w → Caused job ps (loses (job_setup job) p w)
loses_caused job ps p w on c = record {
  legally = loses_legally job ps p w on c.legally;
  voted = subst (λ (x : Ledger). HaveVoted x (loses_legally job ps p w on c.legally).polls) (sym (ledger_now job ps p w on c.legally)) (λ e k q flag at. ap is_some (loses_votes job ps p w on c.legally e k q) ∙ c.voted e k q flag at);
  causes = subst (Causes job (loses (job_setup job) p w)) (sym (ledger_now job ps p w on c.legally)) (record {
    begun = λ d q v at. c.causes.begun d q v at;
    kinds = λ d q v pos at place. caused_grows job l m g d v (c.causes.kinds d q v pos at place);
    failures = λ q alive. let n = slain_not p q w.killed alive in
        subst (λ (x : Node). x.stage ≡ Failed → HasLoss m x.epoch) (sym (loses_others (job_setup job) p w c.legally.worlds c.legally.fate c.legally.shows q n.0))
        (λ at. loss_grows l m g (w.node q).epoch (c.causes.failures q n.1 at));
    asks = λ q alive. let n = slain_not p q w.killed alive in
        subst (λ (x : Node). AsksAt x.stage x.walk) (sym (loses_others (job_setup job) p w c.legally.worlds c.legally.fate c.legally.shows q n.0)) (c.causes.asks q n.1);
  });
  said = loses_said job ps p w on c.legally c.said;
  losses = subst (RepairLosses job (first_ledger job)) (sym (told job ps p w on c.legally)) (losses_more job (first_ledger job) (noted w.items) (item.Kill (proc p) ∷ []) c.losses (tt, tt));
}
  where
    l : Ledger
    l = ledger_of job (noted w.items)

    m : Ledger
    m = written job (ledger_of job (noted w.items)) (item.Kill (proc p))

    g : Grows (ledger_of job (noted w.items)) (written job (ledger_of job (noted w.items)) (item.Kill (proc p)))
    g = grows job ps p w on c.legally

pub begins_so : (job : Job) → Caused job (kills_of (moments_of job)) (first_world (job_setup job))
begins_so job = record {
  legally = begins job;
  voted = λ e k q flag at. absurd (let bad : None ≡ Some (wanted.Agree flag) = at in cc);
  causes = record {
    begun = λ d q v at. absurd (let bad : None ≡ Some v = at in cc);
    kinds = λ d q v pos at place. absurd (let bad : None ≡ Some v = at in cc);
    failures = λ q alive at. absurd (let bad : true ≡ false = ap no_failure at in cc);
    asks = λ q alive. tt;
  };
  losses = tt;
  said = begins_said job;
}
  where
    no_failure : Stage → Bool
    no_failure Failed = false
    no_failure other = true

pub kept_so : (job : Job) → KeepsByParts job → HavePlans job → AsksNoGroups job → IsKeptAlong (job_setup job) (Caused job)
kept_so job parts planned asks = record {
  acts = λ ps p w act on e is. caused_by job parts planned asks ps p w on is act e (is_deed (job_setup job) (w.node p) act e);
  hears = λ ps p q t rest w on e is. hears_caused job ps p q t rest w on e is;
  tells = λ ps p q w dead is. tells_caused job ps p q w dead is;
  loses = λ ps p w on is. loses_caused job ps p w on is;
  passes = λ ps p w few off is. record { legally = passes_legally job ps p w few off is.legally; causes = is.causes; voted = subst (HaveVoted (ledger_of job (noted w.items))) (sym (passes_polls job ps p w few off is.legally)) is.voted; losses = is.losses; said = subst (Said (job_setup job) w (ledger_of job (noted w.items))) (sym (passes_polls job ps p w few off is.legally)) is.said };
}

pub has_losses : (job : Job) → KeepsByParts job → HavePlans job → AsksNoGroups job → KillsProcesses job → EachEpochHasItsLoss job (journal_of job)
has_losses job parts planned asks few =
    (always_along (job_setup job) (Caused job) (kept_so job parts planned asks) (moments_of job) few (begins_so job) (rest_bound_of job) (bound_of job)).losses
