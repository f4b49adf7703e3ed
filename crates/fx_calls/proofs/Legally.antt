-- Worlds of bodies that ask nothing of data groups, whose journal is legal; a step keeps that.
use Rattle.std.proofs.lemmas.List.Elements.{filter-append}
use Rattle.std.proofs.Common.{◌≡◌, ◌<◌, ℕ, Bool, true, false, ◌&&◌, List, [], ◌∷◌, ◌++◌, map, Option, Some, None, refl, sym, ap, subst, ◌∙◌}
use Rattle.std.specs.Prelude.{nat_lt, not, is_some}
use Rattle.fx_ballot.specs.Laws.{vote_of}
use Rattle.fx_ballot.specs.Turn.{Phase}
use Rattle.fx_ballot.specs.World.{start, tells, kills, put, is_outside}
use Rattle.fx_ballot.specs.World as ballot
use Rattle.fx_item.specs.declared.item.Item.{Item}
use Rattle.fx_link.specs.declared.slot.Slot.{Slot}
use Rattle.fx_script.specs.declared.job.Job.{Job}
use Rattle.fx_machine.specs.Nodes.{Act, Calling, Balloting, has_ended}
use Rattle.fx_machine.specs.Setup.{Setup}
use Rattle.fx_machine.specs.Steps.{next}
use Rattle.fx_machine.specs.Texts.{Text}
use Rattle.fx_deeds.proofs.Every.{is_deed}
use Rattle.fx_fleet.specs.Rounds.{is_of_journal}
use Rattle.fx_check.specs.Parts.{KeepsByParts}
use Rattle.fx_fleet.specs.Runs.{job_setup}
use Rattle.fx_calls.specs.Bodies.{AsksNoGroups}
use Rattle.fx_calls.proofs.Delivered.{Delivered, delivered_step}
use Rattle.fx_calls.proofs.Hearings.{Polls, PollsGrow}
use Rattle.fx_calls.proofs.Polled.{Polled, polled_step}
use Rattle.fx_calls.proofs.Saying.{Said, said_step}
use Rattle.fx_calls.proofs.Parts.{Spoken}
use Rattle.fx_calls.proofs.Plans.{HavePlans}
use Rattle.fx_calls.proofs.Speaking.{spoken_step}
use Rattle.fx_calls.proofs.Stepped.{Stepped, stepped_step}
use Rattle.fx_fleet.specs.World.{World, up, send_item, does}
use Rattle.fx_calm.proofs.Lists.{written_more, goes_on_more}
use Rattle.fx_calm.proofs.Standing.{noted}
use Rattle.fx_legal.specs.Effects.{due_kills}
use Rattle.fx_legal.specs.Ledger.{Ledger, first_ledger, procs_of}
use Rattle.fx_legal.specs.Legal.{GoesOn, written_all, ledger_of}
use Rattle.fx_legal.specs.Stands.{is_gone}
use Rattle.fx_losses.specs.Eras.{first_era}
use Rattle.fx_calls.proofs.Deeds.{deed_does}
use Rattle.fx_calls.proofs.Owed.{Does}
use Rattle.fx_losses.proofs.Eras.{era_grows}
use Rattle.fx_calls.proofs.Linked.{Linked, linked_step, own_chapter}
use Rattle.fx_losses.proofs.Moves.{shows_step}
use Rattle.fx_losses.proofs.Schedule.{due_kept}
use Rattle.fx_losses.proofs.Shows.{Shows, Truthful, up_parts}
use Rattle.fx_losses.proofs.Standing.{killed_is}
use Rattle.fx_calls.proofs.Standing.{gone_where_over}
use Rattle.fx_losses.proofs.Texts.{append_none}
use Rattle.fx_losses.proofs.Truths.{truthful_step}
use Rattle.fx_losses.proofs.Tests.{less_is}

-- a world whose journal is legal, where these kills are still to come
pub record Legally (job : Job) (ps : List ℕ) (w : World) : Type 0 where
  pub worlds : ℕ → ballot.World
  pub fate : ℕ → Option (List Slot)
  pub shows : Shows (job_setup job) w worlds fate
  pub truthful : Truthful (job_setup job) w worlds fate
  pub goes : GoesOn job (first_ledger job) (noted w.items)
  pub linked : Linked job w worlds fate (ledger_of job (noted w.items))
  pub stepped : Stepped job w (ledger_of job (noted w.items))
  pub spoken : Spoken (ledger_of job (noted w.items)) w
  pub polls : Polls
  pub polled : Polled w (ledger_of job (noted w.items)) polls
  pub delivered : Delivered (job_setup job) w (ledger_of job (noted w.items))
  pub due : due_kills (ledger_of job (noted w.items)).stands (ledger_of job (noted w.items)).kills ≡ due_kills (ledger_of job (noted w.items)).stands ps

-- sends stand in no journal
none_sent : (p : ℕ) (sends : List (ℕ × Text)) → noted (map (send_item p) sends) ≡ []
none_sent p [] = refl
none_sent p (x ∷ sends) = none_sent p sends

pub noted_more : (p : ℕ) (before items : List Item) (sends : List (ℕ × Text)) → noted (before ++ (items ++ map (send_item p) sends)) ≡ noted before ++ noted items
noted_more p before items sends =
    filter-append is_of_journal before (items ++ map (send_item p) sends)
    ∙ ap (λ (l : List Item). noted before ++ l)
    (filter-append is_of_journal items (map (send_item p) sends) ∙ ap (λ (l : List Item). noted items ++ l) (none_sent p sends) ∙ append_none (noted items))

-- a process of the job is gone by the ledger just where it isn't up
pub gone_where_not_up : (job : Job) (l : Ledger) (w : World) (z : ℕ → ballot.World) (fate : ℕ → Option (List Slot)) → Linked job w z fate l → (p : ℕ) → p < procs_of job → is_gone (l.stands p) ≡ not (up (job_setup job) w p)
gone_where_not_up job l w z fate t p few = of (w.killed p) refl
  where
    dead : (a c : Bool) → true ≡ not (a && (not true && c))
    dead true c = refl
    dead false c = refl

    alive : (a c : Bool) → a ≡ true → c ≡ not (a && (not false && not c))
    alive true true e = refl
    alive true false e = refl
    alive false c e = absurd (let bad : false ≡ true = e in cc)

    of : (b : Bool) → w.killed p ≡ b → is_gone (l.stands p) ≡ not (up (job_setup job) w p)
    of true e =
        ap is_gone (killed_is (l.stands p) (t.killed p ∙ e)) ∙ dead (nat_lt p (procs_of job)) (not (has_ended (w.node p)))
        ∙ ap (λ (b : Bool). not (nat_lt p (procs_of job) && (not b && not (has_ended (w.node p))))) (sym e)
    of false e =
        gone_where_over job (l.stands p) (w.node p) (t.stands p e) ∙ alive (nat_lt p (procs_of job)) (has_ended (w.node p)) (less_is p (procs_of job) few)
        ∙ ap (λ (b : Bool). not (nat_lt p (procs_of job) && (not b && not (has_ended (w.node p))))) (sym e)

-- ---- a step

module _ (job : Job) (parts : KeepsByParts job) (planned : HavePlans job) (asks : AsksNoGroups job) (ps : List ℕ) (p : ℕ) (w : World) (act : Act) (on : up (job_setup job) w p ≡ true) (e : next (job_setup job) (w.node p) ≡ Some act) (is : Legally job ps w) where
  abbrev s : Setup
  s = job_setup job

  abbrev l : Ledger
  l = ledger_of job (noted w.items)

  abbrev m : Ledger
  m = written_all job l (noted act.items)

  o : Does job p act w is.worlds is.fate l is.polls
  o = deed_does job w is.worlds is.fate l is.polls p
      (record { rules = parts; planned = planned; asks = asks; here = on; shows = is.shows; truthful = is.truthful; linked = is.linked; stepped = is.stepped; spoken = is.spoken; polled = is.polled; delivered = is.delivered }) act (is_deed s (w.node p) act e)

  more : noted (does s p act w).items ≡ noted w.items ++ noted act.items
  more = noted_more p w.items act.items act.sends

  ledger_now : ledger_of job (noted (does s p act w).items) ≡ m
  ledger_now = ap (ledger_of job) more ∙ written_more job (first_ledger job) (noted w.items) (noted act.items)

  stays : is_gone (l.stands p) ≡ false
  stays = let k = up_parts s w p on in gone_where_over job (l.stands p) (w.node p) (is.linked.stands p k.1) ∙ k.2

  grows : (q : ℕ) → is_gone (l.stands q) ≡ true → is_gone (m.stands q) ≡ true
  grows q gone = ap is_gone (o.links.stands q (λ same. let bad : true ≡ false = sym (subst (λ x. is_gone (l.stands x) ≡ true) same gone) ∙ stays in cc)) ∙ gone

  pub acts_legally : Legally job ps (does (job_setup job) p act w)
  acts_legally = record {
    worlds = _;
    fate = o.plays.fate_now;
    shows = shows_step s p act o.plays.said o.plays.to w is.worlds is.fate o.plays.fate_now o.plays.after on o.plays.steps o.plays.deems is.shows;
    truthful = truthful_step s p act o.plays.said o.plays.to w is.worlds is.fate o.plays.fate_now o.plays.after on o.plays.steps is.shows (λ d x i. era_grows (first_era s) is.fate o.plays.fate_now o.plays.deems.grows d x i) o.plays.saying o.plays.sending is.truthful;
    goes = subst (GoesOn job (first_ledger job)) (sym more) (goes_on_more job (first_ledger job) (noted w.items) (noted act.items) is.goes o.goes);
    linked = subst (Linked job (does s p act w) _ o.plays.fate_now) (sym ledger_now) (linked_step job p act w is.worlds is.fate o.plays.fate_now o.plays.after l m (up_parts s w p on).1 o.links is.linked);
    stepped = subst (Stepped job (does s p act w)) (sym ledger_now) (stepped_step job s p act w l m o.adds is.stepped);
    spoken = subst (λ (x : Ledger). Spoken x (does s p act w)) (sym ledger_now) (spoken_step s p act w l m o.adds.grows o.texts o.sends is.spoken);
    polls = o.heeds.now;
    delivered = subst (Delivered s (does s p act w)) (sym ledger_now)
        (delivered_step job s p act w l m on (up_parts s w p on).1 o.adds.grows o.adds.far is.stepped.entries o.gives is.delivered);
    polled = subst (λ (x : Ledger). Polled (does s p act w) x o.heeds.now) (sym ledger_now) (polled_step s p act w l m is.polls o.adds.grows o.heeds is.polled);
    due = subst (λ (x : Ledger). due_kills x.stands x.kills ≡ due_kills x.stands ps) (sym ledger_now)
        (ap (due_kills m.stands) o.kills ∙ due_kept l.stands m.stands grows l.kills ps is.due);
  }

  pub acts_polls : PollsGrow is.polls acts_legally.polls
  unfolding acts_legally
  acts_polls = o.heeds.grows

  -- what was said behind the step stands for each other place
  pub acts_said : Said (job_setup job) w (ledger_of job (noted w.items)) is.polls → Said (job_setup job) (does (job_setup job) p act w) (ledger_of job (noted (does (job_setup job) p act w).items)) acts_legally.polls
  unfolding acts_legally
  acts_said said = subst (λ (x : Ledger). Said s (does s p act w) x o.heeds.now) (sym ledger_now)
      (said_step job s p act w l m on (up_parts s w p on).1 o.adds.grows o.adds.far is.stepped.entries o.gives is.delivered is.polls o.heeds said)

  -- who is in a ballot of a call behind the step has voted there
  pub acts_votes : act.node.epoch ≡ (w.node p).epoch → (phase : Phase) → act.node.stage ≡ Calling (Balloting phase) → is_some (vote_of (acts_legally.polls (w.node p).epoch act.node.calls) p) ≡ true
  unfolding acts_legally
  acts_votes same phase at = of (vote_of (o.heeds.now (w.node p).epoch act.node.calls) p) refl
    where
      inside : is_outside ((o.heeds.now (w.node p).epoch act.node.calls).member p).phase ≡ false
      inside = ap (λ (x : ℕ). is_outside ((o.heeds.now x act.node.calls).member p).phase) (sym same) ∙ ap is_outside (o.heeds.mine.balloting phase at).stands ∙ (o.heeds.mine.balloting phase at).inside

      begun : is_some (l.chapters (w.node p).epoch) ≡ true
      begun = ap is_some (own_chapter job w is.worlds is.fate l p is.shows is.linked (up_parts s w p on).1).at

      of : (v : Option Slot) → vote_of (o.heeds.now (w.node p).epoch act.node.calls) p ≡ v → is_some (vote_of (o.heeds.now (w.node p).epoch act.node.calls) p) ≡ true
      of (Some v) has = ap is_some has
      of None has = absurd (let bad : true ≡ false = sym (ap is_outside ((o.heeds.sound (w.node p).epoch act.node.calls begun).messages.knows.entered p has)) ∙ inside in cc)
