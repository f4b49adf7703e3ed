-- In the run of a job whose body asks nothing but barriers, reductions and agreements nobody falls back, whoever acts comes further, and nobody comes further than the last epoch.
use Rattle.std.proofs.Common.{◌≡◌, ◌≤◌, inl, inr, ℕ, suc, ◌+◌, ◌*◌, Bool, true, false, List, ◌∷◌, length, Some, arith, refl, sym, ap, subst, ◌∙◌}
use Rattle.std.specs.Prelude.{is_some}
use Rattle.std.proofs.lemmas.Bool.{cases_eq}
use Rattle.fx_ballot.specs.World.{put}
use Rattle.fx_check.specs.Acceptance.{IsAccepted}
use Rattle.fx_check.proofs.PartLemmas.{by_parts}
use Rattle.fx_check.specs.Parts.{KeepsByParts}
use Rattle.fx_check.specs.Work.{work_of}
use Rattle.fx_item.specs.declared.item.Item.{Item}
use Rattle.fx_item.specs.declared.item.Item.TheVariants as item
use Rattle.fx_script.specs.declared.job.Job.{Job}
use Rattle.fx_machine.specs.Messages.{message_of}
use Rattle.fx_machine.specs.Nodes.{Node, Act, members, receives, is_told, first_node}
use Rattle.fx_machine.specs.Numbers.{proc}
use Rattle.fx_machine.specs.Setup.{Setup}
use Rattle.fx_machine.specs.Steps.{next}
use Rattle.fx_deeds.proofs.Every.{is_deed}
use Rattle.fx_fleet.specs.Runs.{job_setup}
use Rattle.fx_fleet.specs.World.{World, up, does, receives_front, learns, loses}
use Rattle.fx_calm.proofs.Standing.{noted}
use Rattle.fx_comm.specs.Seats.{Seat}
use Rattle.fx_legal.specs.Effects.{written}
use Rattle.fx_legal.specs.Legal.{ledger_of}
use Rattle.fx_losses.specs.Eras.{era_of}
use Rattle.fx_losses.proofs.Moments.{IsKeptAlong}
use Rattle.fx_losses.proofs.Shows.{up_parts}
use Rattle.fx_losses.proofs.Sizes.{legal_sized}
use Rattle.fx_losses.proofs.Texts.{put_same, put_other}
use Rattle.fx_calls.specs.Bodies.{AsksNoGroups}
use Rattle.fx_calls.proofs.Causes.{Caused}
use Rattle.fx_calls.proofs.Counts.{epochs_few, members_few}
use Rattle.fx_calls.proofs.Hearing.{same_journal}
use Rattle.fx_calls.proofs.Heights.{all_epochs, HasCome, come_few, come_less, deed_rises}
use Rattle.fx_calls.proofs.Lapses.{HaveLapses, lapses_grow, step_lapses}
use Rattle.fx_calls.proofs.Losing.{ledger_now, grows}
use Rattle.fx_calls.proofs.Legally.{Legally}
use Rattle.fx_calls.proofs.Linked.{own_chapter}
use Rattle.fx_calls.proofs.Losses.{kept_so}
use Rattle.fx_calls.proofs.Plans.{HavePlans}
use Rattle.fx_calls.proofs.Places.{same_length}

-- an accepted job whose body asks nothing of data groups, in step
pub record Asking (job : Job) : Type 0 where
  pub accepted : IsAccepted job
  pub rules : KeepsByParts job
  pub planned : HavePlans job
  pub asks : AsksNoGroups job

pub asking : (job : Job) → IsAccepted job → HavePlans job → AsksNoGroups job → Asking job
asking job is planned asks = record { accepted = is; rules = by_parts job is; planned = planned; asks = asks }

-- one more for one of them
abbrev pub one_more : ℕ → (ℕ → ℕ) → ℕ → ℕ
one_more q f = put f q (suc (f q))

no_less : (q : ℕ) (f : ℕ → ℕ) (o : ℕ) → f o ≤ one_more q f o
no_less q f o = elim (cases_eq o q) [
  | inl same ↦ subst (λ (i : ℕ). f i ≤ one_more q f i) (sym same) (subst (λ (i : ℕ). f q ≤ i) (sym (put_same f q (suc (f q)))) (omega arith))
  | inr ne ↦ subst (λ (i : ℕ). f o ≤ i) (sym (put_other f q o (suc (f q)) ne)) (omega arith)
]

-- as far as anybody comes
abbrev pub top : Job → ℕ
top job = all_epochs (work_of job.body) (job_setup job).procs (suc (2 * (job_setup job).procs + 1))

-- no more than all processes have a place
places_few : (job : Job) → IsAccepted job → (ps : List ℕ) (w : World) → Legally job ps w → (p : ℕ) → w.killed p ≡ false → length (members (w.node p)) ≤ (job_setup job).procs
places_few job accepted ps w is p living =
    let y = own_chapter job w is.worlds is.fate (ledger_of job (noted w.items)) p is.shows is.linked living in
    let size = ((legal_sized job accepted (noted w.items) is.goes).each (w.node p).epoch y.chapter y.at).size in
    let same : length y.chapter.comm ≡ length (w.node p).comm = ap (λ (c : List Seat). length c) (sym y.like.comm) in
    let long = same_length (w.node p).comm in
    omega (arith, size, same, long)

module _ (job : Job) where
  abbrev s : Setup
  s = job_setup job

  abbrev work : ℕ
  work = work_of job.body

  abbrev procs : ℕ
  procs = (job_setup job).procs

  pub record Good (ps : List ℕ) (w : World) : Type 0 where
    pub caused : Caused job ps w
    pub lapses : HaveLapses (ledger_of job (noted w.items))

  abbrev NodeComes : ℕ → Node → Type 0
  NodeComes far n = HasCome (work_of job.body) (job_setup job).procs n.epoch n.stage n.walk far

  -- a process has come at least so far; who was killed is at the end
  pub record ComesTo (w : World) (q far : ℕ) : Type 0 where
    pub dead : w.killed q ≡ true → far ≤ top job
    pub alive : w.killed q ≡ false → HasCome (work_of job.body) (job_setup job).procs (w.node q).epoch (w.node q).stage (w.node q).walk far

  -- each has come at least as far as these numbers say
  abbrev pub Far : (ℕ → ℕ) → List ℕ → World → Type 0
  Far f ps w = Good ps w × ((q : ℕ) → ComesTo w q (f q))

  less_far : (w : World) (q j k : ℕ) → j ≤ k → ComesTo w q k → ComesTo w q j
  less_far w q j k less c = record {
    dead = λ e. let few = c.dead e in omega (arith, few, less);
    alive = λ e. come_less work procs (w.node q).epoch (w.node q).stage (w.node q).walk j k less (c.alive e);
  }

  pub epoch_few : (ps : List ℕ) (w : World) → Good ps w → (q : ℕ) → w.killed q ≡ false → (w.node q).epoch ≤ 2 * (job_setup job).procs + 1
  epoch_few ps w is q lives =
      let x = is.caused.legally in
      epochs_few job w x.worlds x.fate (ledger_of job (noted w.items)) x.shows x.linked is.lapses (w.node q).epoch (era_of (w.node q)) (x.shows.here q lives)

  pub comes_few : (ps : List ℕ) (w : World) → Good ps w → (q far : ℕ) → ComesTo w q far → far ≤ top job
  comes_few ps w is q far c = of (w.killed q) refl
    where
      of : (b : Bool) → w.killed q ≡ b → far ≤ top job
      of true e = c.dead e
      of false e = come_few work procs (w.node q).epoch (w.node q).stage (w.node q).walk far (2 * procs + 1) (c.alive e) (epoch_few ps w is q e)

  -- ---- a step

  module _ (asking : Asking job) (ps : List ℕ) (p : ℕ) (w : World) (act : Act) (on : up (job_setup job) w p ≡ true) (e : next (job_setup job) (w.node p) ≡ Some act) (is : Good ps w) where
    living : w.killed p ≡ false
    living = (up_parts s w p on).1

    rises : (far : ℕ) → NodeComes far (w.node p) → NodeComes (suc far) act.node
    rises far has =
        deed_rises job (w.node p) (is.caused.causes.asks p living)
        (members_few s is.caused.legally.fate (w.node p).epoch (era_of (w.node p)) (is.caused.legally.shows.here p living)) (places_few job asking.accepted ps w is.caused.legally p living) far has act (is_deed s (w.node p) act e)

    acts_good : Good ps (does (job_setup job) p act w)
    acts_good =
        let later : Caused job ps (does s p act w) = (kept_so job asking.rules asking.planned asking.asks).acts ps p w act on e is.caused in
        record { caused = later; lapses = step_lapses job asking.rules asking.planned asking.asks ps p w act on e is.caused later is.lapses }

    acts_come : (f : ℕ → ℕ) → ((q : ℕ) → ComesTo w q (f q)) → (q : ℕ) → ComesTo (does (job_setup job) p act w) q (one_more p f q)
    acts_come f come q = elim (cases_eq q p) [
      | inl same ↦ subst (λ (o : ℕ). ComesTo (does s p act w) o (one_more p f o)) (sym same) (subst (ComesTo (does s p act w) p) (sym (put_same f p (suc (f p)))) (record {
        dead = λ k. absurd (let bad : true ≡ false = sym k ∙ living in cc);
        alive = λ k. subst (NodeComes (suc (f p))) (sym (put_same w.node p act.node)) (rises (f p) ((come p).alive living));
      }))
      | inr ne ↦ subst (ComesTo (does s p act w) q) (sym (put_other f p q (suc (f p)) ne)) (record {
        dead = λ k. (come q).dead k;
        alive = λ k. subst (NodeComes (f q)) (sym (put_other w.node p q act.node ne)) ((come q).alive k);
      })
    ]

    -- whoever acts comes further
    pub acts_further : (f : ℕ → ℕ) → ((q : ℕ) → ComesTo w q (f q)) → Far (one_more p f) ps (does (job_setup job) p act w)
    acts_further f come = (acts_good, acts_come f come)

    acts_far : (f : ℕ → ℕ) → ((q : ℕ) → ComesTo w q (f q)) → Far f ps (does (job_setup job) p act w)
    acts_far f come = (acts_good, λ q. less_far (does s p act w) q (f q) (one_more p f q) (no_less p f q) (acts_come f come q))

  -- ---- other events

  -- a node that only hears, or is told
  hears_come : (w v : World) (q : ℕ) (m : Node) → ((far : ℕ) → NodeComes far (w.node q) → NodeComes far m) → ((o : ℕ) → v.killed o ≡ w.killed o) → ((o : ℕ) → v.node o ≡ put w.node q m o)
      → (o far : ℕ) → ComesTo w o far → ComesTo v o far
  hears_come w v q m same killed node o far c = record {
    dead = λ e. c.dead (sym (killed o) ∙ e);
    alive = λ e. subst (NodeComes far) (sym (node o)) (elim (cases_eq o q) [
      | inl here ↦ subst (λ (i : ℕ). NodeComes far (put w.node q m i)) (sym here)
          (subst (NodeComes far) (sym (put_same w.node q m)) (same far (subst (λ (i : ℕ). NodeComes far (w.node i)) here (c.alive (sym (killed o) ∙ e)))))
      | inr ne ↦ subst (NodeComes far) (sym (put_other w.node q o m ne)) (c.alive (sym (killed o) ∙ e))
    ]);
  }

  loses_come : (ps : List ℕ) (p : ℕ) (w : World) → Good ps w → (q far : ℕ) → ComesTo w q far → ComesTo (loses s p w) q far
  loses_come ps p w is q far c = record {
    dead = λ e. comes_few ps w is q far c;
    alive = λ e. elim (cases_eq q p) [
      | inl same ↦ absurd (let bad : true ≡ false = sym (put_same w.killed p true) ∙ subst (λ (o : ℕ). put w.killed p true o ≡ false) same e in cc)
      | inr ne ↦ subst (NodeComes far) (sym (put_other w.node p q (first_node s p) ne)) (c.alive (sym (put_other w.killed p q true ne) ∙ e))
    ];
  }

  same_lapses : (w v : World) → noted v.items ≡ noted w.items → HaveLapses (ledger_of job (noted w.items)) → HaveLapses (ledger_of job (noted v.items))
  same_lapses w v silent have = subst (λ (items : List Item). HaveLapses (ledger_of job items)) (sym silent) have

  loses_lapses : (ps : List ℕ) (p : ℕ) (w : World) → up s w p ≡ true → Good (p ∷ ps) w → HaveLapses (ledger_of job (noted (loses s p w).items))
  loses_lapses ps p w on is =
      subst HaveLapses (sym (ledger_now job ps p w on is.caused.legally))
      (lapses_grow (ledger_of job (noted w.items)) (written job (ledger_of job (noted w.items)) (item.Kill (proc p))) (grows job ps p w on is.caused.legally) is.caused.causes.begun (λ x q k. refl)
      (λ d pos some none. absurd (let bad : true ≡ false = sym some ∙ ap is_some none in cc)) is.lapses)

  -- ---- what is kept

  -- nobody falls back
  pub far_kept : Asking job → (f : ℕ → ℕ) → IsKeptAlong (job_setup job) (Far f)
  far_kept asking f =
      let k = kept_so job asking.rules asking.planned asking.asks in
      record {
        acts = λ ps p w act on e is. acts_far asking ps p w act on e is.0 f is.1;
        hears = λ ps p q t rest w on e is. (
          record { caused = k.hears ps p q t rest w on e is.0.caused; lapses = same_lapses w (receives_front p q (t ∷ rest) w) (same_journal w.items (item.Deliver (proc p) (proc q) (message_of t)) refl) is.0.lapses },
          λ o. hears_come w (receives_front p q (t ∷ rest) w) q (receives p t (w.node q)) (λ far c. c) (λ i. refl) (λ i. refl) o (f o) (is.1 o),
        );
        tells = λ ps p q w dead is. (
          record { caused = k.tells ps p q w dead is.0.caused; lapses = same_lapses w (learns p q w) (same_journal w.items (item.Told (proc p) (proc q)) refl) is.0.lapses },
          λ o. hears_come w (learns p q w) q (is_told p (w.node q)) (λ far c. c) (λ i. refl) (λ i. refl) o (f o) (is.1 o),
        );
        loses = λ ps p w on is. (record { caused = k.loses ps p w on is.0.caused; lapses = loses_lapses ps p w on is.0 }, λ q. loses_come (p ∷ ps) p w is.0 q (f q) (is.1 q));
        passes = λ ps p w few off is. (record { caused = k.passes ps p w few off is.0.caused; lapses = is.0.lapses }, is.1);
      }
