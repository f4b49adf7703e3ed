-- In the run of a job whose body asks nothing nobody falls back, whoever acts comes further, and nobody comes further than the last epoch.
use Rattle.std.proofs.Common.{◌≡◌, ◌<◌, ◌≤◌, inl, inr, ℕ, suc, ◌+◌, Bool, true, false, List, ◌∷◌, Some, arith, refl, sym, ap, subst, ◌∙◌}
use Rattle.std.specs.Prelude.{if◌then◌else◌}
use Rattle.std.proofs.lemmas.Bool.{cases_eq}
use Rattle.fx_ballot.specs.World.{put}
use Rattle.fx_check.specs.Work.{work_of}
use Rattle.fx_script.specs.declared.job.Job.{Job}
use Rattle.fx_machine.specs.Nodes.{Node, Act, Stage, receives, is_told, first_node}
use Rattle.fx_machine.specs.Setup.{Setup}
use Rattle.fx_machine.specs.Steps.{next}
use Rattle.fx_deeds.proofs.Every.{is_deed}
use Rattle.fx_fleet.specs.Runs.{AsksNothing, job_setup}
use Rattle.fx_fleet.specs.World.{World, up, does, loses}
use Rattle.fx_losses.specs.Eras.{era_of}
use Rattle.fx_losses.proofs.Counts.{epochs_few, members_few}
use Rattle.fx_losses.proofs.Heights.{all_epochs, height, height_few, Within, deed_rises}
use Rattle.fx_losses.proofs.Legality.{kept}
use Rattle.fx_losses.proofs.Legally.{Legally}
use Rattle.fx_losses.proofs.Moments.{IsKeptAlong}
use Rattle.fx_losses.proofs.Shows.{up_parts}
use Rattle.fx_losses.proofs.Texts.{put_same, put_other}

module _ (job : Job) where
  abbrev s : Setup
  s = job_setup job

  abbrev work : ℕ
  work = work_of job.body

  abbrev procs : ℕ
  procs = (job_setup job).procs

  -- as far as anybody comes
  abbrev pub top : ℕ
  top = all_epochs (work_of job.body) (job_setup job).procs (suc (suc (job_setup job).procs))

  -- how far a process has come; who was killed is at the end
  abbrev pub level : World → ℕ → ℕ
  level w p = if w.killed p then top else height (work_of job.body) (job_setup job).procs (w.node p)

  pub record Good (ps : List ℕ) (w : World) : Type 0 where
    pub legally : Legally job ps w
    pub within : (p : ℕ) → w.killed p ≡ false → Within (work_of job.body) (job_setup job).procs (w.node p)

  pub level_few : (ps : List ℕ) (w : World) → Good ps w → (p : ℕ) → level w p ≤ top
  level_few ps w is p = of (w.killed p) refl
    where
      of : (b : Bool) → w.killed p ≡ b → (if b then top else height work procs (w.node p)) ≤ top
      of true e = omega arith
      of false e =
          let few : (w.node p).epoch ≤ procs + 1 = epochs_few s w is.legally.worlds is.legally.fate is.legally.shows is.legally.kinds (w.node p).epoch (era_of (w.node p)) (is.legally.shows.here p e) in
          height_few work procs (w.node p) (suc procs) (omega (arith, few))

  -- ---- a step

  module _ (ps : List ℕ) (p : ℕ) (w : World) (act : Act) (on : up (job_setup job) w p ≡ true) (e : next (job_setup job) (w.node p) ≡ Some act) (is : Good ps w) where
    living : w.killed p ≡ false
    living = (up_parts s w p on).1

    rises : (height work procs (w.node p) < height work procs act.node) × Within work procs act.node
    rises = deed_rises job (w.node p) _ (is.legally.linked.stands p living)
        (members_few s w is.legally.worlds is.legally.fate is.legally.shows is.legally.kinds (w.node p).epoch (era_of (w.node p)) (is.legally.shows.here p living))
        (is.within p living) act (is_deed s (w.node p) act e)

    pub act_rises : level w p < level (does (job_setup job) p act w) p
    act_rises =
        subst (λ (b : Bool). (if b then top else height work procs (w.node p)) < (if b then top else height work procs (put w.node p act.node p))) (sym living)
        (subst (λ (o : Node). height work procs (w.node p) < height work procs o) (sym (put_same w.node p act.node)) rises.0)

    acts_within : (q : ℕ) → w.killed q ≡ false → Within work procs (put w.node p act.node q)
    acts_within q lives = elim (cases_eq q p) [
      | inl same ↦ subst (λ (o : ℕ). Within work procs (put w.node p act.node o)) (sym same) (subst (Within work procs) (sym (put_same w.node p act.node)) rises.1)
      | inr ne ↦ subst (Within work procs) (sym (put_other w.node p q act.node ne)) (is.within q lives)
    ]

    acts_ahead : (q : ℕ) → level w q ≤ level (does s p act w) q
    acts_ahead q = elim (cases_eq q p) [
      | inl same ↦ subst (λ (o : ℕ). level w o ≤ level (does s p act w) o) (sym same) (let less = act_rises in omega (arith, less))
      | inr ne ↦ subst (λ (o : Node). level w q ≤ (if w.killed q then top else height work procs o)) (sym (put_other w.node p q act.node ne)) (omega arith)
    ]

  -- ---- other events

  -- a node that only hears, or is told
  module _ (w : World) (q : ℕ) (m : Node) (stage : m.stage ≡ (w.node q).stage) (walk : m.walk ≡ (w.node q).walk) (epoch : m.epoch ≡ (w.node q).epoch) where
    same_within : Within work procs (w.node q) → Within work procs m
    same_within is = subst (λ (o : Stage). Within work procs (record m { stage = o })) (sym stage) (subst (λ o. Within work procs (record (w.node q) { walk = o })) (sym walk) is)

    same_height : height work procs m ≡ height work procs (w.node q)
    same_height =
        ap (λ (o : Stage). height work procs (record m { stage = o })) stage ∙ ap (λ o. height work procs (record (w.node q) { epoch = m.epoch; walk = o })) walk
        ∙ ap (λ (o : ℕ). height work procs (record (w.node q) { epoch = o })) epoch

    puts_within : ((o : ℕ) → w.killed o ≡ false → Within work procs (w.node o)) → (o : ℕ) → w.killed o ≡ false → Within work procs (put w.node q m o)
    puts_within is o lives = elim (cases_eq o q) [
      | inl same ↦ subst (λ (i : ℕ). Within work procs (put w.node q m i)) (sym same) (subst (Within work procs) (sym (put_same w.node q m)) (same_within (is q (ap w.killed (sym same) ∙ lives))))
      | inr ne ↦ subst (Within work procs) (sym (put_other w.node q o m ne)) (is o lives)
    ]

    puts_level : (o : ℕ) → (if w.killed o then top else height work procs (put w.node q m o)) ≡ level w o
    puts_level o = elim (cases_eq o q) [
      | inl same ↦ subst (λ (i : ℕ). (if w.killed i then top else height work procs (put w.node q m i)) ≡ level w i) (sym same)
          (ap (λ (i : Node). if w.killed q then top else height work procs i) (put_same w.node q m) ∙ ap (λ (i : ℕ). if w.killed q then top else i) same_height)
      | inr ne ↦ ap (λ (i : Node). if w.killed o then top else height work procs i) (put_other w.node q o m ne)
    ]

  loses_within : (ps : List ℕ) (p : ℕ) (w : World) → Good ps w → (q : ℕ) → put w.killed p true q ≡ false → Within work procs (put w.node p (first_node s p) q)
  loses_within ps p w is q lives = elim (cases_eq q p) [
    | inl same ↦ absurd (let bad : true ≡ false = sym (put_same w.killed p true) ∙ subst (λ (o : ℕ). put w.killed p true o ≡ false) same lives in cc)
    | inr ne ↦ subst (Within work procs) (sym (put_other w.node p q (first_node s p) ne)) (is.within q (sym (put_other w.killed p q true ne) ∙ lives))
  ]

  loses_level : (ps : List ℕ) (p : ℕ) (w : World) → Good ps w → (q : ℕ) → level w q ≤ level (loses s p w) q
  loses_level ps p w is q = elim (cases_eq q p) [
    | inl same ↦ subst (λ (o : ℕ). level w o ≤ level (loses s p w) o) (sym same)
        (subst (λ (b : Bool). level w p ≤ (if b then top else height work procs (put w.node p (first_node s p) p))) (sym (put_same w.killed p true)) (level_few ps w is p))
    | inr ne ↦ subst (λ (b : Bool). level w q ≤ (if b then top else height work procs (put w.node p (first_node s p) q))) (sym (put_other w.killed p q true ne))
        (subst (λ (o : Node). level w q ≤ (if w.killed q then top else height work procs o)) (sym (put_other w.node p q (first_node s p) ne)) (omega arith))
  ]

  -- ---- what is kept

  -- nobody is behind where it was
  abbrev pub Ahead : World → List ℕ → World → Type 0
  Ahead v ps w = Good ps w × ((q : ℕ) → level v q ≤ level w q)

  then_level : (a b c : ℕ) → a ≤ b → b ≤ c → a ≤ c
  then_level a b c x y = omega (arith, x, y)

  then_same : (a b c : ℕ) → a ≤ b → c ≡ b → a ≤ c
  then_same a b c x y = omega (arith, x, y)

  pub ahead_kept : AsksNothing job → (v : World) → IsKeptAlong (job_setup job) (Ahead v)
  ahead_kept asks v =
      let k = kept job asks in
      record {
        acts = λ ps p w act on e is. (record { legally = k.acts ps p w act on e is.0.legally; within = acts_within ps p w act on e is.0 }, λ q. then_level _ _ _ (is.1 q) (acts_ahead ps p w act on e is.0 q));
        hears = λ ps p q t rest w on e is. (
          record { legally = k.hears ps p q t rest w on e is.0.legally; within = puts_within w q (receives p t (w.node q)) refl refl refl is.0.within },
          λ o. then_same _ _ _ (is.1 o) (puts_level w q (receives p t (w.node q)) refl refl refl o),
        );
        tells = λ ps p q w dead is. (
          record { legally = k.tells ps p q w dead is.0.legally; within = puts_within w q (is_told p (w.node q)) refl refl refl is.0.within },
          λ o. then_same _ _ _ (is.1 o) (puts_level w q (is_told p (w.node q)) refl refl refl o),
        );
        loses = λ ps p w on is.
            (record { legally = k.loses ps p w on is.0.legally; within = loses_within (p ∷ ps) p w is.0 }, λ q. then_level _ _ _ (is.1 q) (loses_level (p ∷ ps) p w is.0 q));
        passes = λ ps p w few off is. (record { legally = k.passes ps p w few off is.0.legally; within = is.0.within }, is.1);
      }
