-- Each step is caused: a call of parts and an agreement fail behind a loss, and who joins as an error does so behind one.
use Rattle.std.proofs.Common.{◌≡◌, ◌≢◌, ◌⊎◌, ◌<◌, ◌==◌, ℕ, suc, Bool, true, false, ◌&&◌, ◌||◌, List, [], length, Option, Some, None, inl, inr, arith, refl, ap, sym, subst, ◌∙◌}
use Rattle.std.specs.Prelude.{ℤ, if◌then◌else◌, is_some, is_none}
use Rattle.std.proofs.lemmas.Bool.{cases_eq}
use Rattle.fx_ballot.specs.declared.poll.Poll.TheVariants as poll
use Rattle.fx_ballot.specs.Laws.{vote_of}
use Rattle.fx_ballot.specs.Names.{has}
use Rattle.fx_ballot.specs.Turn.{Phase, Voting}
use Rattle.fx_check.specs.Facts.{facts_of}
use Rattle.fx_check.specs.Parts.{KeepsByParts}
use Rattle.fx_comm.specs.Seats.{Seat, has_place}
use Rattle.fx_link.specs.declared.slot.Slot.{Slot}
use Rattle.fx_link.specs.declared.slot.Slot.TheVariants as slot
use Rattle.fx_script.specs.declared.job.Job.{Job}
use Rattle.fx_walk.specs.declared.wanted.Wanted.{Wanted}
use Rattle.fx_walk.specs.declared.wanted.Wanted.TheVariants as wanted
use Rattle.fx_walk.specs.Callbacks.{view_at_init, body_start, no_latest}
use Rattle.fx_walk.specs.Plan.{common_of, Keeps, Barrier, Reduce, Agree, Shift, Group, Attach, Store, Commit, Close, Restore, Delete}
use Rattle.fx_walk.specs.Walk.{Walk, Passes, Prints, Reply}
use Rattle.fx_machine.specs.Gathering.{own_part, gathering_error, due_from}
use Rattle.fx_machine.specs.Nodes.{Node, Act, Stage, Core, Walking, Failed, Gathering, Balloting, Sharing, Telling, Giving, members, size, my_place, proc_at, state_of}
use Rattle.fx_machine.specs.Reading as reading
use Rattle.fx_machine.specs.Reading.{OfEpoch, only, first_read, part_in, vote_in, has_left, next_ballot, is_join}
use Rattle.fx_machine.specs.Setup.{Setup}
use Rattle.fx_machine.specs.Ballots.{joined}
use Rattle.fx_machine.specs.Reading.{turn_in}
use Rattle.fx_machine.specs.Steps.{next, inits}
use Rattle.fx_machine.specs.Waits.{Wait, Error, ByLoss, ByLeaving, call_ballot, first_error}
use Rattle.fx_deeds.specs.Deeds.{AsksFor, IsIn, OfEpoch, OfCall, Reason, First, HelpsOut, HasFailed, IsDone, Deed, Joins, Moves, Speaks, EndsAll, Repairs, Inits, PassesOn, PrintsOut, IsRefused, Attaches, Stores, Commits, Restores, EntersBarrier, EntersReduction, EntersShift, EntersAgreement, EntersDeletion, EntersClosing, EntersCreation, PassesBarrier, Reduces, Shifts, GathersNoMore, VotesNo, VotesYes, VotesFresh, HelpsAndGives, VotesFinding, ReturnsError, ReturnsBits, Closes, Creates, Deletes, WaitsIn, ForShares, ForTells, ForHelps, ForGives}
use Rattle.fx_fleet.specs.Runs.{job_setup}
use Rattle.fx_fleet.specs.World.{World, up, does}
use Rattle.fx_calm.proofs.Lists.{equal}
use Rattle.fx_calm.proofs.Standing.{noted}
use Rattle.fx_legal.specs.Ledger.{Ledger, comm_in, comm_of}
use Rattle.fx_legal.specs.Legal.{written_all, ledger_of}
use Rattle.fx_losses.specs.Losses.{HasLoss, RepairLosses}
use Rattle.fx_losses.specs.Eras.{era_of}
use Rattle.fx_losses.proofs.Actions.{no_vote_here}
use Rattle.fx_losses.proofs.Plays.{polled}
use Rattle.fx_losses.proofs.Readings.{left_joined}
use Rattle.fx_losses.proofs.Shows.{phase_of, is_begin, is_later, is_placed, up_parts}
use Rattle.fx_losses.proofs.Tests.{first_of, second_of}
use Rattle.fx_losses.proofs.Voted.{loss_owed, no_losses, inits_no_repairs}
use Rattle.fx_calls.specs.Bodies.{IsOfNoGroup, OnlyAsks, AsksNoGroups}
use Rattle.fx_calls.proofs.Calling.{gathers_parts}
use Rattle.fx_calls.proofs.Agrees as agrees
use Rattle.fx_calls.proofs.Gathers as gathers
use Rattle.fx_calls.proofs.Calling.{has_cause, none_refused}
use Rattle.fx_calls.proofs.Closings.{lossy}
use Rattle.fx_calls.proofs.Delivered.{ordered_front, has_part}
use Rattle.fx_calls.proofs.Legally.{Legally, acts_votes}
use Rattle.fx_calls.proofs.Linked.{own_chapter}
use Rattle.fx_calls.proofs.Missing.{part_readable, part_before, all_came, part_is_due, parts_alike, no_part}
use Rattle.fx_calls.proofs.Hearings.{Polls}
use Rattle.fx_calls.proofs.Owed.{Facts, joined_same, entered_same, inits_open}
use Rattle.fx_calls.proofs.Places.{era_apart, procs_distinct}
use Rattle.fx_calls.proofs.Plans.{MeetsIt, HavePlans, some_of, entered_alike}
use Rattle.fx_calls.proofs.Stepped.{Keeping, Inside, AtPlan, CoreFits, meets_next}
use Rattle.fx_calls.proofs.Causes.{Finished, IsCaused, AsksAt, Causes, Caused, asked_at, finished_at, later, build, none_join, none_enter}

abbrev is_failed : Stage → Bool
is_failed Failed = true
is_failed other = false

-- what the plan has as an agreement is one
pub agrees_so : (v : Wanted) → common_of v ≡ Agree → (flag : ℤ) × (v ≡ wanted.Agree flag)
agrees_so (wanted.Agree flag) e = (flag, refl)
agrees_so wanted.Barrier e = absurd (let bad : Barrier ≡ Agree = e in cc)
agrees_so (wanted.Reduce op own) e = absurd (let bad : Reduce op ≡ Agree = e in cc)
agrees_so (wanted.Shift by elements) e = absurd (let bad : Shift by ≡ Agree = e in cc)
agrees_so (wanted.Group g start depth) e = absurd (let bad : Group g start depth ≡ Agree = e in cc)
agrees_so (wanted.Attach g m) e = absurd (let bad : Attach g m ≡ Agree = e in cc)
agrees_so (wanted.Store g m piece) e = absurd (let bad : Store g m ≡ Agree = e in cc)
agrees_so (wanted.Commit g) e = absurd (let bad : Commit g ≡ Agree = e in cc)
agrees_so (wanted.Close g) e = absurd (let bad : Close g ≡ Agree = e in cc)
agrees_so (wanted.Restore g m stamp) e = absurd (let bad : Restore g m stamp ≡ Agree = e in cc)
agrees_so (wanted.Delete g stamp) e = absurd (let bad : Delete g stamp ≡ Agree = e in cc)

-- ---- why a step is caused

module _ (job : Job) (rules : KeepsByParts job) (planned : HavePlans job) (asks : AsksNoGroups job) (ps : List ℕ) (p : ℕ) (w : World)
    (on : up (job_setup job) w p ≡ true) (caused : Caused job ps w) where
  abbrev s : Setup
  s = job_setup job

  abbrev n : Node
  n = w.node p

  abbrev d : ℕ
  d = n.epoch

  abbrev is : Legally job ps w
  is = caused.legally

  abbrev l : Ledger
  l = ledger_of job (noted w.items)

  abbrev causes : Causes job w l
  causes = caused.causes

  facts : Facts job w is.worlds is.fate l is.polls p
  facts = record { rules = rules; planned = planned; asks = asks; here = on; shows = is.shows; truthful = is.truthful; linked = is.linked; stepped = is.stepped; spoken = is.spoken; polled = is.polled; delivered = is.delivered }

  alive : w.killed p ≡ false
  alive = (up_parts (job_setup job) w p on).1

  -- ---- calls that fail

  comm_here : comm_in l d ≡ n.comm
  comm_here = let y = own_chapter job w is.worlds is.fate l p is.shows is.linked alive in ap comm_of y.at ∙ sym y.like.comm

  placed_in : (q : ℕ) → has_place n.comm q ≡ true → has_place (comm_in l d) q ≡ true
  placed_in q place = ap (λ (c : List Seat). has_place c q) comm_here ∙ place

  still_in : (core : Core) (v : Wanted) (rest : Reply → Walk) → IsIn n core v rest → OnlyAsks IsOfNoGroup n.walk
  still_in core v rest i = subst (λ (a : Stage). AsksAt a n.walk) i.stage (causes.asks p alive)

  asks_in : (core : Core) (v : Wanted) (rest : Reply → Walk) → IsIn n core v rest → IsOfNoGroup v × ((reply : Reply) → OnlyAsks IsOfNoGroup (rest reply))
  asks_in core v rest i = subst (OnlyAsks IsOfNoGroup) i.walk (still_in core v rest i)

  in_no_group : (core : Core) (v : Wanted) (rest : Reply → Walk) → IsIn n core v rest → IsOfNoGroup v
  in_no_group core v rest i = (asks_in core v rest i).0

  inside : (core : Core) (v : Wanted) (rest : Reply → Walk) → IsIn n core v rest → Inside job l p n core
  inside core v rest i = subst (AtPlan job l p n) i.stage (is.stepped.nodes p alive).at

  clash : {X : Type 0} (b : Bool) (mine : X) (o : Option X) → is_none (if b then Some mine else o) ≡ true → is_some o ≡ true → ⊥
  clash true mine o none some = let bad : false ≡ true = none in cc
  clash false mine None none some = let bad : false ≡ true = some in cc
  clash false mine (Some x) none some = let bad : false ≡ true = none in cc

  -- who finished came to this call, and its part is here
  came : (v : Wanted) (rest : Reply → Walk) (x : ℕ) → IsIn n Gathering v rest → gathering_error n v ≡ Some (ByLeaving x) → has_left n x ≡ true → has_place (comm_in l d) x ≡ true → x ≢ p → Finished job l d → ⊥
  came v rest x i e left place ne f =
      let b = inside Gathering v rest i in
      let parts = gathers_parts v (b.fits i.place v i.state rest i.walk) in
      let meets : MeetsIt b.keeping.plan (common_of v) = meets_next i.place v i.state rest b.keeping.plan (in_no_group Gathering v rest i) (subst (λ (o : Walk). Keeps o b.keeping.plan no_latest) i.walk b.keeping.keeps) in
      let asked = some_of (l.entered d (suc b.before) x) (asked_at (l.entered d (suc b.before)) (comm_in l d) x (all_came job l d f.calls b.before f.counters b.keeping.plan (common_of v) f.at b.keeping.at meets) place) in
      let own : l.entered d (suc b.before) p ≡ Some v = subst (λ (o : ℕ). l.entered d o p ≡ Some v) b.calls (b.entered i.place v i.state rest i.walk) in
      let there : has_part d (suc b.before) (n.texts x) ≡ true =
      part_before l x p d (suc b.before) asked.0 (λ o. (x == n.me) || is_join (suc d) o) [] (n.texts x) asked.1 (parts_alike v asked.0 parts (alike b.before own asked.0 asked.1))
      (placed_in p ((is.shows.sane p alive).placed (ap is_placed i.stage))) (ordered_front l x p [] (n.texts x) (w.link x p) (is.delivered.ordered x p on ne))
      (second_of (has n.present x) (is_some (reading.vote_of (next_ballot n) n x)) left) in
      let none = no_part n v x e in
      clash (none.place == my_place n) (own_part v) (first_read (λ t. only (λ values. length values == due_from v (size n) (my_place n) none.place) (part_in n.epoch n.calls t)) (n.texts (proc_at n none.place))) none.none
      (subst (λ (y : ℕ). is_some (first_read (λ t. only (λ values. length values == due_from v (size n) (my_place n) none.place) (part_in n.epoch n.calls t)) (n.texts y)) ≡ true) (sym none.at)
      (subst (λ (j : ℕ). is_some (first_read (λ t. only (λ values. length values == due_from v (size n) (my_place n) none.place) (part_in n.epoch j t)) (n.texts x)) ≡ true) (sym b.calls)
      (part_readable l d (suc b.before) x p (λ values. length values == due_from v (size n) (my_place n) none.place) (n.texts x) (is.spoken.texts p x)
      (part_is_due job l d (suc b.before) n p x none.place v parts comm_here (procs_distinct n.comm (era_apart s is.fate d (era_of n) (is.shows.here p alive))) (is.shows.sane p alive).me
      ((is.shows.sane p alive).placed (ap is_placed i.stage)) none.below none.at (is.stepped.entries d (suc b.before)) own) there)))
    where
      alike : (j : ℕ) → l.entered d (suc j) p ≡ Some v → (u : Wanted) → l.entered d (suc j) x ≡ Some u → common_of u ≡ common_of v
      alike j own u at = entered_alike job l d (suc j) u v (is.stepped.entries d (suc j) x u at) (is.stepped.entries d (suc j) p v own)

  -- a call of parts that fails does so behind a loss
  gathering_loss : (v : Wanted) (rest : Reply → Walk) (error : Error) → IsIn n Gathering v rest → gathering_error n v ≡ Some error → HasLoss l d
  gathering_loss v rest (ByLoss x) i e = let c = has_cause n v (ByLoss x) e in (x, placed_in x c.0, is.linked.killed x ∙ is.shows.told p x c.1)
  gathering_loss v rest (ByLeaving x) i e =
      let c = has_cause n v (ByLeaving x) e in
      let kind = some_of (vote_of (is.worlds d) x) (left_joined s w is.worlds is.fate p on is.shows is.truthful x c.1).1 in
      elim (causes.kinds d x kind.0 ((is.shows.sane p alive).later (ap is_later i.stage)) (is.linked.joined d x ∙ kind.1) (placed_in x c.0)) [
        | inl f ↦ absurd (came v rest x i e c.1 (placed_in x c.0) (λ same. let bad : None ≡ Some kind.0 = sym (no_vote_here s w is.worlds is.fate p on is.shows slot.Yes (ap phase_of i.stage)) ∙ ap (vote_of (is.worlds d)) (sym same) ∙ kind.1 in cc) f.1)
        | inr loss ↦ loss
      ]

  -- who finished has voted in this agreement
  has_voted : (flag : ℤ) (rest : Reply → Walk) (old : Phase) (x : ℕ) → IsIn n (Balloting old) (wanted.Agree flag) rest → has_place (comm_in l d) x ≡ true → Finished job l d → vote_of (is.polls d n.calls) x ≡ None → ⊥
  has_voted flag rest old x i place f none =
      let b = inside (Balloting old) (wanted.Agree flag) rest i in
      let meets : MeetsIt b.keeping.plan Agree = meets_next i.place (wanted.Agree flag) i.state rest b.keeping.plan tt (subst (λ (o : Walk). Keeps o b.keeping.plan no_latest) i.walk b.keeping.keeps) in
      let asked = some_of (l.entered d (suc b.before) x) (asked_at (l.entered d (suc b.before)) (comm_in l d) x (all_came job l d f.calls b.before f.counters b.keeping.plan Agree f.at b.keeping.at meets) place) in
      let own : l.entered d (suc b.before) p ≡ Some (wanted.Agree flag) = subst (λ (o : ℕ). l.entered d o p ≡ Some (wanted.Agree flag)) b.calls (b.entered i.place (wanted.Agree flag) i.state rest i.walk) in
      let flags = agrees_so asked.0 (entered_alike job l d (suc b.before) asked.0 (wanted.Agree flag) (is.stepped.entries d (suc b.before) x asked.0 asked.1) (is.stepped.entries d (suc b.before) p (wanted.Agree flag) own)) in
      let bad : true ≡ false = sym (caused.voted d (suc b.before) x flags.0 (asked.1 ∙ ap Some flags.1)) ∙ ap (λ (o : ℕ). is_some (vote_of (is.polls d o) x)) (sym b.calls) ∙ ap is_some none in
      cc

  -- so an agreement that fails does so behind a loss
  flag_loss : (flag : ℤ) (rest : Reply → Walk) (old : Phase) (slots : List Slot) (error : Error) → IsIn n (Balloting old) (wanted.Agree flag) rest → (turn_in (call_ballot n (wanted.Agree flag)) n old).poll ≡ poll.Decided slots
      → first_error (members n) slots ≡ Some error → HasLoss l d
  flag_loss flag rest old slots (ByLoss x) i e first =
      let c = (agrees.cause job w is.worlds is.fate l is.polls p facts) old flag rest i slots e (ByLoss x) first (ByLoss x) refl in
      (x, placed_in x c.0, is.linked.killed x ∙ c.1)
  flag_loss flag rest old slots (ByLeaving x) i e first =
      let c = (agrees.cause job w is.worlds is.fate l is.polls p facts) old flag rest i slots e (ByLeaving x) first (ByLeaving x) refl in
      let kind = some_of (vote_of (is.worlds d) x) c.1 in
      elim (causes.kinds d x kind.0 ((is.shows.sane p alive).later (ap is_later i.stage)) (is.linked.joined d x ∙ kind.1) (placed_in x c.0)) [
        | inl f ↦ absurd (has_voted flag rest old x i (placed_in x c.0) f.1 ((agrees.left_unvoted job w is.worlds is.fate l is.polls p facts) old flag rest i slots e (ByLeaving x) first x refl))
        | inr loss ↦ loss
      ]

  ballot_loss : (v : Wanted) (rest : Reply → Walk) (old : Phase) (slots : List Slot) (error : Error) → IsIn n (Balloting old) v rest → CoreFits v (Balloting old) → (turn_in (call_ballot n v) n old).poll ≡ poll.Decided slots
      → first_error (members n) slots ≡ Some error → HasLoss l d
  ballot_loss (wanted.Agree flag) rest old slots error i fits e first = flag_loss flag rest old slots error i e first
  ballot_loss wanted.Barrier rest old slots error i fits e first = absurd fits
  ballot_loss (wanted.Reduce op own) rest old slots error i fits e first = absurd fits
  ballot_loss (wanted.Shift by elements) rest old slots error i fits e first = absurd fits
  ballot_loss (wanted.Group g start depth) rest old slots error i fits e first = absurd fits
  ballot_loss (wanted.Attach g m) rest old slots error i fits e first = absurd fits
  ballot_loss (wanted.Store g m piece) rest old slots error i fits e first = absurd fits
  ballot_loss (wanted.Commit g) rest old slots error i fits e first = absurd fits
  ballot_loss (wanted.Close g) rest old slots error i fits e first = absurd fits
  ballot_loss (wanted.Restore g m stamp) rest old slots error i fits e first = absurd fits
  ballot_loss (wanted.Delete g stamp) rest old slots error i fits e first = absurd fits

  -- ---- who joins

  own : n.me ≡ p
  own = (is.shows.sane p alive).me

  joined_so : (kind : Slot) → (0 < d → has_place (comm_in l d) p ≡ true → IsCaused job l d kind) → (x q : ℕ) (v : Slot) → (written_all job l (noted (joined kind n).items)).joined (suc x) q ≡ Some v
      → (l.joined (suc x) q ≡ Some v) ⊎ ((is_some (l.chapters x) ≡ true) × (0 < x → has_place (comm_in l x) q ≡ true → IsCaused job l x v))
  joined_so kind why x q v at = of ((suc x == suc d) && (q == n.me)) refl at
    where
      some_slot : (a b : Slot) → Some a ≡ Some b → a ≡ b
      some_slot a b e = cc

      of : (b : Bool) → ((suc x == suc d) && (q == n.me)) ≡ b → (if b then Some kind else l.joined (suc x) q) ≡ Some v → (l.joined (suc x) q ≡ Some v) ⊎ ((is_some (l.chapters x) ≡ true) × (0 < x → has_place (comm_in l x) q ≡ true → IsCaused job l x v))
      of true here at =
          let epoch : suc x ≡ suc d = equal (suc x) (suc d) (first_of (suc x == suc d) (q == n.me) here) in
          let same : x ≡ d = omega (arith, epoch) in
          let me : q ≡ p = equal q n.me (second_of (suc x == suc d) (q == n.me) here) ∙ own in
          inr (
            subst (λ (y : ℕ). is_some (l.chapters y) ≡ true) (sym same) (ap is_some (own_chapter job w is.worlds is.fate l p is.shows is.linked alive).at),
            subst (λ (u : Slot). 0 < x → has_place (comm_in l x) q ≡ true → IsCaused job l x u) (some_slot kind v at)
                (subst (λ (y : ℕ). 0 < y → has_place (comm_in l y) q ≡ true → IsCaused job l y kind) (sym same) (subst (λ (o : ℕ). 0 < d → has_place (comm_in l d) o ≡ true → IsCaused job l d kind) (sym me) why)),
          )
      of false far at = inl at

  reason_cause : (kind : Slot) → Reason n kind → 0 < d → has_place (comm_in l d) p ≡ true → IsCaused job l d kind
  reason_cause kind (First at) pos place = absurd (let none : d ≡ 0 = (is.shows.sane p alive).fresh (ap is_begin at) in omega (arith, pos, none))
  reason_cause kind (HelpsOut at no_place may) pos place =
      let y = own_chapter job w is.worlds is.fate l p is.shows is.linked alive in
      absurd (let bad : false ≡ true = sym no_place ∙ ap (has_place n.comm) own ∙ ap (λ (c : List Seat). has_place c p) (y.like.comm ∙ sym (ap comm_of y.at)) ∙ place in cc)
  reason_cause kind (HasFailed at) pos place = inr (causes.failures p alive at)
  reason_cause kind (IsDone state at walk) pos place =
      let b : Keeping job l n n.calls = subst (AtPlan job l p n) at (is.stepped.nodes p alive).at in
      inl (refl, finished_at job l d n.calls state b.plan b.at (subst (λ (o : Walk). Keeps o b.plan no_latest) walk b.keeps))

  -- ---- all deeds

  calmly : (act : Act) → next (job_setup job) (w.node p) ≡ Some act → (written_all job l (noted act.items)).joined ≡ l.joined → (written_all job l (noted act.items)).entered ≡ l.entered → (act.node.stage ≡ Failed → HasLoss l act.node.epoch)
      → AsksAt act.node.stage act.node.walk → RepairLosses job l (noted act.items) → Caused job ps (does (job_setup job) p act w)
  calmly act e joins enters failed asked losses =
      (build job rules planned asks ps p w act on e caused) ((none_join job rules planned asks ps p w act on e caused) joins) ((none_enter job rules planned asks ps p w act on e caused) enters) failed asked losses

  entering : (act : Act) (e : next (job_setup job) (w.node p) ≡ Some act) → (written_all job l (noted act.items)).joined ≡ l.joined
      → ((x j q : ℕ) (flag : ℤ) → (written_all job l (noted act.items)).entered x j q ≡ Some (wanted.Agree flag)
      → (l.entered x j q ≡ Some (wanted.Agree flag)) ⊎ (is_some (vote_of ((later job rules planned asks ps p w act on e caused).polls x j) q) ≡ true))
      → (act.node.stage ≡ Failed → HasLoss l act.node.epoch) → AsksAt act.node.stage act.node.walk → RepairLosses job l (noted act.items) → Caused job ps (does (job_setup job) p act w)
  entering act e joins votes failed asked losses =
      (build job rules planned asks ps p w act on e caused) ((none_join job rules planned asks ps p w act on e caused) joins) votes failed asked losses

  -- who enters a call has voted there, where it is an agreement
  enters_so : (polls : Polls) (v : Wanted) (rest : Reply → Walk) (a : AsksFor n v rest) (core : Core) (fits : CoreFits v core) → ((flag : ℤ) → wanted.Agree flag ≡ v → is_some (vote_of (polls d (suc n.calls)) p) ≡ true) → (x j q : ℕ) (flag : ℤ)
      → ((gathers.behind_entry job w is.worlds is.fate l is.polls p facts) v rest a core fits).entered x j q ≡ Some (wanted.Agree flag) → (l.entered x j q ≡ Some (wanted.Agree flag)) ⊎ (is_some (vote_of (polls x j) q) ≡ true)
  enters_so polls v rest a core fits votes x j q flag at = elim (cases_eq q p) [
    | inl same ↦ elim ((gathers.entry_or job w is.worlds is.fate l is.polls p facts) v rest a core fits x j (wanted.Agree flag)
        (subst (λ (o : ℕ). ((gathers.behind_entry job w is.worlds is.fate l is.polls p facts) v rest a core fits).entered x j o ≡ Some (wanted.Agree flag)) same at)) [
          | inl new ↦ inr (ap (λ (o : ℕ). is_some (vote_of (polls x j) o)) same ∙ ap (λ (o : ℕ). is_some (vote_of (polls o j) p)) new.0 ∙ ap (λ (o : ℕ). is_some (vote_of (polls d o) p)) new.1 ∙ votes flag new.2)
          | inr old ↦ inl (ap (l.entered x j) same ∙ old)
        ]
    | inr ne ↦ inl (sym (((gathers.entry_adds job w is.worlds is.fate l is.polls p facts) v rest a core fits).far x j q ne) ∙ at)
  ]

  no_failure : (m : Node) → is_failed m.stage ≡ false → m.stage ≡ Failed → HasLoss l m.epoch
  no_failure m calm at = absurd (let bad : false ≡ true = sym calm ∙ ap is_failed at in cc)

  no_wait : (core : Core) (v : Wanted) (wait : Wait) → WaitsIn s n core v wait → IsOfNoGroup v → ⊥
  no_wait core v wait (ForShares g) is = is
  no_wait core v wait (ForTells g start depth) is = is
  no_wait core v wait (ForHelps g start depth j all known none) is = is
  no_wait core v wait (ForGives g start depth j known) is = is

  still_asks : (v : Wanted) (rest : Reply → Walk) → AsksFor n v rest → OnlyAsks IsOfNoGroup n.walk
  still_asks v rest a = subst (λ (x : Stage). AsksAt x n.walk) a.stage (causes.asks p alive)

  asks_no_group : (v : Wanted) (rest : Reply → Walk) → AsksFor n v rest → IsOfNoGroup v
  asks_no_group v rest a = (subst (OnlyAsks IsOfNoGroup) a.walk (still_asks v rest a)).0

  walks_on : (walk : Walk) → n.stage ≡ Walking → n.walk ≡ walk → OnlyAsks IsOfNoGroup walk
  walks_on walk at same = subst (OnlyAsks IsOfNoGroup) same (subst (λ (x : Stage). AsksAt x n.walk) at (causes.asks p alive))

  fits_ballot : (phase : Phase) (v : Wanted) (rest : Reply → Walk) → IsIn n (Balloting phase) v rest → CoreFits v (Balloting phase)
  fits_ballot phase v rest i = (inside (Balloting phase) v rest i).fits i.place v i.state rest i.walk

  pub caused_by : (act : Act) → next (job_setup job) (w.node p) ≡ Some act → Deed (job_setup job) (w.node p) act → Caused job ps (does (job_setup job) p act w)
  caused_by act e (Joins kind why may) =
      (build job rules planned asks ps p w act on e caused) (joined_so kind (reason_cause kind why)) ((none_enter job rules planned asks ps p w act on e caused) refl) (no_failure (joined kind n).node refl) tt (tt, tt)
  caused_by act e (Moves b at phase (OfEpoch old stage) t) = calmly act e refl refl (no_failure act.node refl) tt tt
  caused_by act e (Moves b at phase (OfCall v rest old i) t) = calmly act e refl refl (no_failure act.node refl) (still_in (Balloting old) v rest i) tt
  caused_by act e (Speaks b at phase slots (OfEpoch old stage) t) = calmly act e refl refl (no_failure act.node refl) tt tt
  caused_by act e (Speaks b at phase slots (OfCall v rest old i) t) = calmly act e refl refl (no_failure act.node refl) (still_in (Balloting old) v rest i) tt
  caused_by act e (EndsAll phase slots at t last) = calmly act e refl refl (no_failure act.node refl) tt (tt, tt)
  caused_by act e (Repairs phase slots at t goes_on) =
      calmly act e refl refl (no_failure act.node refl) tt (
        loss_owed l d (λ pos. lossy job w is.worlds is.fate l p on is.shows is.linked phase at (turn_in (next_ballot n) n phase).phase slots (polled s w is.worlds is.fate p on is.shows is.truthful phase (poll.Decided slots) t) goes_on
            (λ q v joined place. elim (causes.kinds d q v pos joined place) [ inl f ↦ inl f.0 | inr loss ↦ inr loss ]) pos),
        tt,
      )
  caused_by act e (Inits at place) =
      calmly act e (joined_same job l (inits s n).items (inits_open s n)) (entered_same job l (inits s n).items (inits_open s n)) (no_failure act.node refl)
      (asks (view_at_init n.role (my_place n) (size n)) (body_start (facts_of job) n.role (my_place n) (size n) (state_of n))) (no_losses job l (inits s n).items (inits_no_repairs s n))
  caused_by act e (PassesOn rest at t) = calmly act e refl refl (no_failure act.node (ap is_failed at)) (subst (λ (x : Stage). AsksAt x rest) (sym at) (walks_on (Passes rest) at t)) tt
  caused_by act e (PrintsOut printed rest at t) = calmly act e refl refl (no_failure act.node (ap is_failed at)) (subst (λ (x : Stage). AsksAt x rest) (sym at) (walks_on (Prints printed rest) at t).1) (tt, tt)
  caused_by act e (IsRefused v rest r a t) = absurd (none_refused s n v r (asks_no_group v rest a) t)
  caused_by act e (Attaches g m rest a may) = absurd (asks_no_group (wanted.Attach g m) rest a)
  caused_by act e (Stores g m piece rest a may) = absurd (asks_no_group (wanted.Store g m piece) rest a)
  caused_by act e (Commits g rest a may) = absurd (asks_no_group (wanted.Commit g) rest a)
  caused_by act e (Restores g m stamp rest a may) = absurd (asks_no_group (wanted.Restore g m stamp) rest a)
  caused_by act e (EntersBarrier rest a) =
      entering act e refl (enters_so (later job rules planned asks ps p w act on e caused).polls wanted.Barrier rest a Gathering tt (λ flag same. absurd (let bad : Agree ≡ Barrier = ap common_of same in cc)))
      (no_failure act.node refl) (still_asks wanted.Barrier rest a) (tt, tt)
  caused_by act e (EntersReduction op value rest a) =
      entering act e refl (enters_so (later job rules planned asks ps p w act on e caused).polls (wanted.Reduce op value) rest a Gathering tt (λ flag same. absurd (let bad : Agree ≡ Reduce op = ap common_of same in cc)))
      (no_failure act.node refl) (still_asks (wanted.Reduce op value) rest a) (tt, tt)
  caused_by act e (EntersShift by elements rest a) =
      entering act e refl (enters_so (later job rules planned asks ps p w act on e caused).polls (wanted.Shift by elements) rest a Gathering tt (λ flag same. absurd (let bad : Agree ≡ Shift by = ap common_of same in cc)))
      (no_failure act.node refl) (still_asks (wanted.Shift by elements) rest a) (tt, tt)
  caused_by act e (EntersAgreement flag rest a) =
      entering act e refl
      (enters_so (later job rules planned asks ps p w act on e caused).polls (wanted.Agree flag) rest a (Balloting Voting) tt (λ o same. acts_votes job rules planned asks ps p w act on e is refl Voting refl))
      (no_failure act.node refl) (still_asks (wanted.Agree flag) rest a) (tt, tt)
  caused_by act e (EntersDeletion g stamp rest a may) = absurd (asks_no_group (wanted.Delete g stamp) rest a)
  caused_by act e (EntersClosing g rest a may) = absurd (asks_no_group (wanted.Close g) rest a)
  caused_by act e (EntersCreation g start depth rest a may) = absurd (asks_no_group (wanted.Group g start depth) rest a)
  caused_by act e (PassesBarrier rest i all) = calmly act e refl refl (no_failure act.node refl) ((asks_in Gathering wanted.Barrier rest i).1 _) (tt, tt)
  caused_by act e (Reduces op value rest i all) = calmly act e refl refl (no_failure act.node refl) ((asks_in Gathering (wanted.Reduce op value) rest i).1 _) (tt, tt)
  caused_by act e (Shifts by elements rest i all) = calmly act e refl refl (no_failure act.node refl) ((asks_in Gathering (wanted.Shift by elements) rest i).1 _) (tt, tt)
  caused_by act e (GathersNoMore v rest (ByLoss x) kind i some t) = calmly act e refl refl (λ at. gathering_loss v rest (ByLoss x) i t) tt (tt, tt)
  caused_by act e (GathersNoMore v rest (ByLeaving x) kind i some t) = calmly act e refl refl (λ at. gathering_loss v rest (ByLeaving x) i t) tt (tt, tt)
  caused_by act e (VotesNo core v rest wait vote i at un) = absurd (no_wait core v wait at (in_no_group core v rest i))
  caused_by act e (VotesYes g rest i all) = absurd (in_no_group Sharing (wanted.Close g) rest i)
  caused_by act e (VotesFresh g start depth rest i all none) = absurd (in_no_group Telling (wanted.Group g start depth) rest i)
  caused_by act e (HelpsAndGives g start depth rest j i all known may) = absurd (in_no_group Telling (wanted.Group g start depth) rest i)
  caused_by act e (VotesFinding g start depth rest j i known all) = absurd (in_no_group Giving (wanted.Group g start depth) rest i)
  caused_by act e (ReturnsError v rest phase slots (ByLoss x) i decided t) = calmly act e refl refl (λ at. ballot_loss v rest phase slots (ByLoss x) i (fits_ballot phase v rest i) decided t) tt (tt, tt)
  caused_by act e (ReturnsError v rest phase slots (ByLeaving x) i decided t) = calmly act e refl refl (λ at. ballot_loss v rest phase slots (ByLeaving x) i (fits_ballot phase v rest i) decided t) tt (tt, tt)
  caused_by act e (ReturnsBits flag rest slots i) = calmly act e refl refl (no_failure act.node refl) ((asks_in (Balloting i.phase) (wanted.Agree flag) rest i.within).1 _) (tt, tt)
  caused_by act e (Closes g rest slots i) = absurd (in_no_group (Balloting i.phase) (wanted.Close g) rest i.within)
  caused_by act e (Creates g start depth rest slots i) = absurd (in_no_group (Balloting i.phase) (wanted.Group g start depth) rest i.within)
  caused_by act e (Deletes g stamp rest slots i) = absurd (in_no_group (Balloting i.phase) (wanted.Delete g stamp) rest i.within)
