-- The kills of the schedule keep that the journal is legal.
use Rattle.std.proofs.lemmas.List.Elements.{filter-append}
use Rattle.std.proofs.lemmas.Bool.{cases_eq}
use Rattle.std.proofs.Common.{◌==◌, ◌≡◌, ◌≢◌, ◌<◌, ℕ, true, false, List, [], ◌∷◌, ◌++◌, inl, inr, refl, sym, ap, subst, ◌∙◌}
use Rattle.fx_ballot.specs.declared.heard.Heard.{Heard}
use Rattle.fx_ballot.specs.Laws.{vote_of}
use Rattle.fx_ballot.specs.World.{kills, put}
use Rattle.fx_item.specs.declared.item.Item.TheVariants as item
use Rattle.fx_script.specs.declared.job.Job.{Job}
use Rattle.fx_machine.specs.Nodes.{has_ended}
use Rattle.fx_machine.specs.Numbers.{proc}
use Rattle.fx_machine.specs.Setup.{Setup}
use Rattle.fx_fleet.specs.Rounds.{is_of_journal}
use Rattle.fx_fleet.specs.Runs.{job_setup}
use Rattle.fx_fleet.specs.World.{World, up, loses}
use Rattle.fx_calm.proofs.Lists.{written_more, goes_on_more}
use Rattle.fx_calm.proofs.Standing.{noted}
use Rattle.fx_calm.proofs.Steps.{key_same, key_other}
use Rattle.fx_legal.specs.Effects.{due_kills, behind_first, written}
use Rattle.fx_legal.specs.Ledger.{Ledger, first_ledger}
use Rattle.fx_legal.specs.Legal.{GoesOn, ledger_of}
use Rattle.fx_legal.specs.Stands as stand
use Rattle.fx_legal.specs.Stands.{Stand, is_killed, is_gone}
use Rattle.fx_losses.specs.Eras.{first_era, era}
use Rattle.fx_calls.proofs.Parts.{Spoken, spoken_grows}
use Rattle.fx_calls.proofs.Plans.{Grows}
use Rattle.fx_calls.proofs.Speaking.{spoken_loses}
use Rattle.std.specs.Prelude.{if◌then◌else◌}
use Rattle.fx_calm.proofs.Lists.{other_number}
use Rattle.fx_machine.specs.Texts.{Text}
use Rattle.fx_calls.proofs.Delivered.{Delivered, has_part, Ordered, ordered_grows, same_all, stream}
use Rattle.fx_calls.proofs.Polled.{Polled}
use Rattle.fx_calls.proofs.Polling.{killed_in, polled_loses}
use Rattle.fx_calls.proofs.Stepped.{InStep, Stepped, step_grows}
use Rattle.fx_calls.proofs.Plans as plans
use Rattle.fx_losses.proofs.Losses.{up_survivor, loses_others, loss_shows, kills_heard, slain_not}
use Rattle.fx_calls.proofs.Linked.{Linked}
use Rattle.fx_losses.proofs.Schedule.{due_first, first_due}
use Rattle.fx_losses.proofs.Shows.{up_parts}
use Rattle.fx_losses.proofs.Standing.{like_on}
use Rattle.fx_calls.proofs.Standing.{AtStage, gone_where_over}
use Rattle.fx_losses.proofs.Texts.{put_same, put_other}
use Rattle.fx_losses.proofs.Truths.{truthful_same, truthful_loses}
use Rattle.fx_calls.proofs.Legally.{Legally}
use Rattle.fx_calls.proofs.Saying.{Said, said_same}

-- ---- a loss

module _ (job : Job) (ps : List ℕ) (p : ℕ) (w : World) (on : up (job_setup job) w p ≡ true) (is : Legally job (p ∷ ps) w) where
  abbrev s : Setup
  s = job_setup job

  abbrev v : World
  v = loses s p w

  abbrev l : Ledger
  l = ledger_of job (noted w.items)

  abbrev m : Ledger
  m = written job l (item.Kill (proc p))

  k : (p < s.procs) × (w.killed p ≡ false) × (has_ended (w.node p) ≡ false)
  k = up_parts s w p on

  pub told : noted v.items ≡ noted w.items ++ item.Kill (proc p) ∷ []
  told = filter-append is_of_journal w.items (item.Kill (proc p) ∷ [])

  pub ledger_now : ledger_of job (noted v.items) ≡ m
  ledger_now = ap (ledger_of job) told ∙ written_more job (first_ledger job) (noted w.items) (item.Kill (proc p) ∷ [])

  stays : is_gone (l.stands p) ≡ false
  stays = gone_where_over job (l.stands p) (w.node p) (is.linked.stands p k.1) ∙ k.2

  first : due_kills l.stands l.kills ≡ p ∷ ps
  first = due_first l.stands p l.kills ps stays is.due

  dead_now : m.stands p ≡ stand.Killed
  dead_now = key_same p stand.Killed l.stands

  others : (q : ℕ) → q ≢ p → m.stands q ≡ l.stands q
  others q ne = key_other p stand.Killed l.stands q ne

  still_dead : (q : ℕ) → is_killed (l.stands q) ≡ true → is_killed (m.stands q) ≡ true
  still_dead q e = elim (cases_eq q p) [
    | inl same ↦ ap (λ (o : ℕ). is_killed (m.stands o)) same ∙ ap is_killed dead_now
    | inr ne ↦ ap is_killed (others q ne) ∙ e
  ]

  linked_now : Linked job v (λ d. kills p (is.worlds d)) is.fate m
  linked_now = record {
    killed = λ q. elim (cases_eq q p) [
      | inl same ↦ subst (λ o. is_killed (m.stands o) ≡ put w.killed p true o) (sym same) (ap is_killed dead_now ∙ sym (put_same w.killed p true))
      | inr ne ↦ ap is_killed (others q ne) ∙ is.linked.killed q ∙ sym (put_other w.killed p q true ne)
    ];
    joined = λ d q. is.linked.joined d q ∙ ap (λ (x : Heard). x.vote) (sym (kills_heard p q q (is.worlds d)));
    eras = λ d. like_on l m d (era (first_era s) is.fate d) (l.chapters d) still_dead (λ q e none. none) (is.linked.eras d);
    stands = λ q e.
        let n = slain_not p q w.killed e in
        subst (λ (x : Stand). AtStage job x (v.node q)) (sym (others q n.0)) (subst (AtStage job (l.stands q)) (sym (loses_others s p w is.worlds is.fate is.shows q n.0)) (is.linked.stands q n.1));
  }

  pub grows : Grows l m
  grows = record { chapters = λ e c x. x; entered = λ e j q x y. y; joined = λ e q x y. y; killed = still_dead }

  stepped_now : Stepped job v m
  stepped_now = record {
    entries = λ e j q x y. plans.entry_grows job l m grows e j x (is.stepped.entries e j q x y);
    nodes = λ q e.
        let n = slain_not p q w.killed e in
        subst (InStep job m q) (sym (loses_others s p w is.worlds is.fate is.shows q n.0)) (step_grows job l m grows q (λ a b. refl) (w.node q) (is.stepped.nodes q n.1));
  }

  stream_loses : (a b : ℕ) → b ≢ p → stream (loses (job_setup job) p w) a b ≡ stream w a b
  stream_loses a b ne = λ i. (loses_others s p w is.worlds is.fate is.shows b ne i).texts a ++ (if far_link i then [] else w.link a b)
    where
      far_link : (b == p) ≡ false
      far_link = other_number b p ne

  delivered_now : Delivered s v m
  delivered_now = record {
    there = λ a b e j x living u ne at is_parts place.
        let n = slain_not p a w.killed living in
        let y = up_survivor s p w is.worlds is.fate is.shows b u in
        subst (λ (o : List Text). has_part e j o ≡ true) (sym (stream_loses a b y.0)) (is.delivered.there a b e j x n.1 y.1 ne at is_parts place);
    ordered = λ a b u ne. let y = up_survivor s p w is.worlds is.fate is.shows b u in subst (Ordered m a b []) (sym (stream_loses a b y.0))
        (ordered_grows job l m grows is.stepped.entries a b [] (stream w a b) (same_all l m a (λ e j. refl) (stream w a b)) (is.delivered.ordered a b y.1 ne));
  }

  pub loses_legally : Legally job ps (loses (job_setup job) p w)
  loses_legally = record {
    worlds = λ d. kills p (is.worlds d);
    fate = is.fate;
    shows = loss_shows s p w is.worlds is.fate is.shows;
    truthful = truthful_same s is.worlds (λ d. kills p (is.worlds d)) is.fate v (λ d q. kills_heard p q q (is.worlds d)) (truthful_loses s is.worlds is.fate p w is.truthful);
    goes = subst (GoesOn job (first_ledger job)) (sym told) (goes_on_more job (first_ledger job) (noted w.items) (item.Kill (proc p) ∷ []) is.goes ((k.0, first_due p (due_kills l.stands l.kills) ps first), tt));
    linked = subst (Linked job v (λ d. kills p (is.worlds d)) is.fate) (sym ledger_now) linked_now;
    stepped = subst (Stepped job v) (sym ledger_now) stepped_now;
    polls = killed_in p is.polls;
    delivered = subst (Delivered s v) (sym ledger_now) delivered_now;
    polled = subst (λ (x : Ledger). Polled v x (killed_in p is.polls)) (sym ledger_now) (polled_loses s l m is.polls p w is.polled grows refl refl refl refl);
    spoken = subst (λ (x : Ledger). Spoken x v) (sym ledger_now) (spoken_grows l m v grows (spoken_loses s l p w is.spoken));
    due = subst (λ (x : Ledger). due_kills x.stands x.kills ≡ due_kills x.stands ps) (sym ledger_now) (ap (λ (xs : List ℕ). due_kills m.stands (behind_first xs)) first);
  }

  pub loses_votes : (e j q : ℕ) → vote_of (loses_legally.polls e j) q ≡ vote_of (is.polls e j) q
  unfolding loses_legally
  loses_votes e j q = ap (λ (x : Heard). x.vote) (kills_heard p q q (is.polls e j))

  -- what was said was said before the loss
  pub loses_said : Said (job_setup job) w (ledger_of job (noted w.items)) is.polls → Said (job_setup job) (loses (job_setup job) p w) (ledger_of job (noted (loses (job_setup job) p w).items)) loses_legally.polls
  unfolding loses_legally
  loses_said said = subst (λ (x : Ledger). Said s v x (killed_in p is.polls)) (sym ledger_now)
      (said_same s w v m is.polls (killed_in p is.polls) (λ q e. (slain_not p q w.killed e).1) (λ q u. (up_survivor s p w is.worlds is.fate is.shows q u).1)
      (λ a b alive u ne. stream_loses a b (up_survivor s p w is.worlds is.fate is.shows b u).0) (λ e j q. kills_heard p q q (is.polls e j)) (record { votes = said.votes; estimates = said.estimates }))
