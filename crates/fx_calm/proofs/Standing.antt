-- What holds of a node, of a ledger and of a world in a calm run.
use Rattle.std.proofs.Common.{◌≡◌, ◌≢◌, ◌<◌, ℕ, zero, suc, Bool, true, false, List, [], Some, None, is_some, refl, sym, ap, ◌∙◌}
use Rattle.std.specs.List.{filter}
use Rattle.fx_base.specs.declared.names.Role.TheVariants as role
use Rattle.fx_ballot.specs.Turn.{Phase, Outside, Voting, Round, Decided}
use Rattle.fx_check.specs.Facts.{facts_of}
use Rattle.fx_comm.specs.Seats.{has_place}
use Rattle.fx_item.specs.declared.item.Item.{Item}
use Rattle.fx_link.specs.declared.slot.Slot.{Slot}
use Rattle.fx_script.specs.declared.job.Job.{Job}
use Rattle.fx_walk.specs.Lengths.{OnlyPrints}
use Rattle.fx_walk.specs.State.{State, blank}
use Rattle.fx_walk.specs.Walk.{Walk}
use Rattle.fx_machine.specs.Nodes.{Node, Act, Stage, Begins, Joining, Arrived, Walking, Calling, Failed, Over, is_over}
use Rattle.fx_machine.specs.Texts.{Text, Join, Jest, Part, Vote, Est, Share, Tell, Help, Give}
use Rattle.fx_fleet.specs.World.{World, sent_to}
use Rattle.fx_fleet.specs.Rounds.{is_of_journal}
use Rattle.fx_legal.specs.Ledger.{Chapter, Ledger, procs_of, first_chapter, first_ledger}
use Rattle.fx_legal.specs.Legal.{GoesOn, ledger_of, written_all}
use Rattle.fx_legal.specs.Stands as stand
use Rattle.fx_legal.specs.Stands.{Stay, Stand, shown, is_killed, is_gone}
use Rattle.fx_calm.specs.Calm.{seats_in, all_procs, vote_in, votes_in}
use Rattle.fx_calm.proofs.Lists.{Each, each_weaker}

-- ---- texts and phases

-- the process has joined the epoch, by the ledger
abbrev pub HasJoined : Job → Ledger → (epoch process : ℕ) → Type 0
HasJoined job l e q = l.joined e q ≡ Some (vote_in job e q)

-- a join is one that its process has written, and an estimate has the votes of all
abbrev pub IsTrue : Job → Ledger → ℕ → Text → Type 0
IsTrue job l q (Join e kind) = (kind ≡ vote_in job e q) × HasJoined job l e q
IsTrue job l q (Jest e r slots) = slots ≡ votes_in job e
IsTrue job l q (Part e k values) = Unit {0}
IsTrue job l q (Vote e k x) = Unit {0}
IsTrue job l q (Est e k r slots) = Unit {0}
IsTrue job l q (Share e k packed) = Unit {0}
IsTrue job l q (Tell e k known) = Unit {0}
IsTrue job l q (Help e k packed) = Unit {0}
IsTrue job l q (Give e k packed) = Unit {0}

abbrev pub AreTrue : Job → Ledger → ℕ → List Text → Type 0
AreTrue job l q texts = Each (IsTrue job l q) texts

-- all have joined the epoch, and the slots are their votes
pub record Agreed (job : Job) (l : Ledger) (e : ℕ) (slots : List Slot) : Type 0 where
  pub votes : slots ≡ votes_in job e
  pub joined : (q : ℕ) → q < procs_of job → HasJoined job l e q

-- a phase that holds an estimate holds the votes of all
abbrev pub InPhase : Job → Ledger → ℕ → Phase → Type 0
InPhase job l e Outside = Unit {0}
InPhase job l e Voting = Unit {0}
InPhase job l e (Round r held) = Agreed job l e held
InPhase job l e (Decided held) = Agreed job l e held

-- ---- nodes

abbrev pub HasBegun : Ledger → Type 0
HasBegun l = is_some (l.chapters 1) ≡ true

-- no epoch past the first is come to
abbrev pub IsEarly : Ledger → ℕ → Type 0
IsEarly l zero = Unit {0}
IsEarly l (suc zero) = HasBegun l
IsEarly l (suc (suc e)) = ⊥

pub record Waits (job : Job) (l : Ledger) (p e : ℕ) (phase : Phase) : Type 0 where
  pub early : IsEarly l e
  pub state : State
  pub stand : l.stands p ≡ stand.Joined (suc e) state
  pub holds : InPhase job l (suc e) phase

pub record Settled (job : Job) (l : Ledger) (p e : ℕ) : Type 0 where
  pub first : e ≡ 1
  pub begun : HasBegun l
  pub seated : has_place (seats_in job) p ≡ true → l.stands p ≡ stand.Opening 1 [] (blank (facts_of job))
  pub spare : has_place (seats_in job) p ≡ false → l.stands p ≡ stand.Spare 1

pub record InBody (job : Job) (l : Ledger) (p e : ℕ) (walk : Walk) : Type 0 where
  pub first : e ≡ 1
  pub begun : HasBegun l
  pub seated : has_place (seats_in job) p ≡ true
  pub stay : Stay
  pub within : stay.epoch ≡ 1
  pub stand : l.stands p ≡ stand.Walking stay (shown walk)
  pub only : OnlyPrints walk

pub record IsDone (l : Ledger) (p e : ℕ) : Type 0 where
  pub first : e ≡ 1
  pub begun : HasBegun l
  pub stand : l.stands p ≡ stand.Ended

-- where a process stands by the ledger, from its epoch, its walk and its stage
abbrev pub AtStage : Job → Ledger → (p e : ℕ) → Walk → Stage → Type 0
AtStage job l p e walk Begins = (e ≡ 0) × (l.stands p ≡ stand.New)
AtStage job l p e walk (Joining phase) = Waits job l p e phase
AtStage job l p e walk Arrived = Settled job l p e
AtStage job l p e walk Walking = InBody job l p e walk
AtStage job l p e walk (Calling core) = ⊥
AtStage job l p e walk Failed = ⊥
AtStage job l p e walk Over = IsDone l p e

pub record IsCalm (job : Job) (l : Ledger) (n : Node) : Type 0 where
  pub lost : (q : ℕ) → n.lost q ≡ false
  pub comm : n.comm ≡ seats_in job
  pub present : n.present ≡ all_procs job
  pub named : n.role ≡ role.Initial
  pub at : AtStage job l n.me n.epoch n.walk n.stage
  pub texts : (q : ℕ) → AreTrue job l q (n.texts q)

-- ---- the ledger alone

pub record Book (job : Job) (l : Ledger) : Type 0 where
  pub kills : l.kills ≡ []
  pub first : l.chapters 0 ≡ Some (first_chapter job)
  pub comm : (c : Chapter) → l.chapters 1 ≡ Some c → c.comm ≡ seats_in job
  pub there : (c : Chapter) → l.chapters 1 ≡ Some c → (q : ℕ) → c.present q ≡ true → q < procs_of job
  pub all : (c : Chapter) → l.chapters 1 ≡ Some c → (q : ℕ) → q < procs_of job → c.present q ≡ true
  pub later : l.chapters 2 ≡ None

-- ---- the world

pub record Tied (job : Job) (l : Ledger) (w : World) : Type 0 where
  pub killed : (p : ℕ) → w.killed p ≡ false
  pub me : (p : ℕ) → (w.node p).me ≡ p
  pub each : (p : ℕ) → IsCalm job l (w.node p)
  pub links : (a b : ℕ) → AreTrue job l a (w.link a b)
  pub book : Book job l

-- the items that a journal has
abbrev pub noted : List Item → List Item
noted items = filter is_of_journal items

pub record Legally (job : Job) (w : World) : Type 0 where
  pub goes : GoesOn job (first_ledger job) (noted w.items)
  pub tied : Tied job (ledger_of job (noted w.items)) w

-- ---- what a later ledger leaves as it is

-- only process p has written
pub record Later (job : Job) (p : ℕ) (l m : Ledger) : Type 0 where
  pub stands : (q : ℕ) → q ≢ p → m.stands q ≡ l.stands q
  pub joined : (e q : ℕ) → HasJoined job l e q → HasJoined job m e q
  pub begun : HasBegun l → HasBegun m

-- what a step owes
pub record Owes (job : Job) (l : Ledger) (n : Node) (act : Act) : Type 0 where
  pub goes : GoesOn job l (noted act.items)
  pub later : Later job n.me l (written_all job l (noted act.items))
  pub me : act.node.me ≡ n.me
  pub node : IsCalm job (written_all job l (noted act.items)) act.node
  pub sends : (b : ℕ) → AreTrue job (written_all job l (noted act.items)) n.me (sent_to b act.sends)
  pub book : Book job (written_all job l (noted act.items))

module _ (job : Job) (p : ℕ) (l m : Ledger) (is : Later job p l m) where
  text_later : (q : ℕ) (t : Text) → IsTrue job l q t → IsTrue job m q t
  text_later q (Join e kind) h = (h.0, is.joined e q h.1)
  text_later q (Jest e r slots) h = h
  text_later q (Part e k values) h = tt
  text_later q (Vote e k x) h = tt
  text_later q (Est e k r slots) h = tt
  text_later q (Share e k packed) h = tt
  text_later q (Tell e k known) h = tt
  text_later q (Help e k packed) h = tt
  text_later q (Give e k packed) h = tt

  pub texts_later : (q : ℕ) (texts : List Text) → AreTrue job l q texts → AreTrue job m q texts
  texts_later q texts h = each_weaker (IsTrue job l q) (IsTrue job m q) (text_later q) texts h

  agreed_later : (e : ℕ) (slots : List Slot) → Agreed job l e slots → Agreed job m e slots
  agreed_later e slots h = record { votes = h.votes; joined = λ q few. is.joined e q (h.joined q few) }

  pub phase_later : (e : ℕ) (phase : Phase) → InPhase job l e phase → InPhase job m e phase
  phase_later e Outside h = tt
  phase_later e Voting h = tt
  phase_later e (Round r held) h = agreed_later e held h
  phase_later e (Decided held) h = agreed_later e held h

  pub early_later : (e : ℕ) → IsEarly l e → IsEarly m e
  early_later zero h = tt
  early_later (suc zero) h = is.begun h
  early_later (suc (suc e)) h = h

  -- of another process
  stage_later : (q : ℕ) → q ≢ p → (e : ℕ) (walk : Walk) (x : Stage) → AtStage job l q e walk x → AtStage job m q e walk x
  stage_later q ne e walk Begins h = (h.0, is.stands q ne ∙ h.1)
  stage_later q ne e walk (Joining phase) h = record { early = early_later e h.early; state = h.state; stand = is.stands q ne ∙ h.stand; holds = phase_later (suc e) phase h.holds }
  stage_later q ne e walk Arrived h = record { first = h.first; begun = is.begun h.begun; seated = λ at. is.stands q ne ∙ h.seated at; spare = λ at. is.stands q ne ∙ h.spare at }
  stage_later q ne e walk Walking h = record { first = h.first; begun = is.begun h.begun; seated = h.seated; stay = h.stay; within = h.within; stand = is.stands q ne ∙ h.stand; only = h.only }
  stage_later q ne e walk (Calling core) h = h
  stage_later q ne e walk Failed h = h
  stage_later q ne e walk Over h = record { first = h.first; begun = is.begun h.begun; stand = is.stands q ne ∙ h.stand }

  pub node_later : (n : Node) → n.me ≢ p → IsCalm job l n → IsCalm job m n
  node_later n ne h = record {
    lost = h.lost;
    comm = h.comm;
    present = h.present;
    named = h.named;
    at = stage_later n.me ne n.epoch n.walk n.stage h.at;
    texts = λ q. texts_later q (n.texts q) (h.texts q);
  }

-- ---- what the stages say together

pub not_ended : (job : Job) (l : Ledger) (p e : ℕ) (walk : Walk) (x : Stage) → AtStage job l p e walk x → l.stands p ≡ stand.Ended → HasBegun l
not_ended job l p e walk Begins h ended = absurd (let bad : stand.New ≡ stand.Ended = sym h.1 ∙ ended in cc)
not_ended job l p e walk (Joining phase) h ended = absurd (let bad : stand.Joined (suc e) h.state ≡ stand.Ended = sym h.stand ∙ ended in cc)
not_ended job l p e walk Arrived h ended = h.begun
not_ended job l p e walk Walking h ended = h.begun
not_ended job l p e walk (Calling core) h ended = absurd h
not_ended job l p e walk Failed h ended = absurd h
not_ended job l p e walk Over h ended = h.begun

settled_lives : (job : Job) (l : Ledger) (p e : ℕ) → Settled job l p e → (b : Bool) → has_place (seats_in job) p ≡ b → is_killed (l.stands p) ≡ false
settled_lives job l p e h true is = ap is_killed (h.seated is)
settled_lives job l p e h false is = ap is_killed (h.spare is)

pub lives : (job : Job) (l : Ledger) (p e : ℕ) (walk : Walk) (x : Stage) → AtStage job l p e walk x → is_killed (l.stands p) ≡ false
lives job l p e walk Begins h = ap is_killed h.1
lives job l p e walk (Joining phase) h = ap is_killed h.stand
lives job l p e walk Arrived h = settled_lives job l p e h (has_place (seats_in job) p) refl
lives job l p e walk Walking h = ap is_killed h.stand
lives job l p e walk (Calling core) h = absurd h
lives job l p e walk Failed h = absurd h
lives job l p e walk Over h = ap is_killed h.stand

settled_stays : (job : Job) (l : Ledger) (p e : ℕ) → Settled job l p e → (b : Bool) → has_place (seats_in job) p ≡ b → is_gone (l.stands p) ≡ false
settled_stays job l p e h true is = ap is_gone (h.seated is)
settled_stays job l p e h false is = ap is_gone (h.spare is)

-- it is gone by the ledger just where its stage is the end
pub gone_where_over : (job : Job) (l : Ledger) (p e : ℕ) (walk : Walk) (x : Stage) → AtStage job l p e walk x → is_gone (l.stands p) ≡ is_over x
gone_where_over job l p e walk Begins h = ap is_gone h.1
gone_where_over job l p e walk (Joining phase) h = ap is_gone h.stand
gone_where_over job l p e walk Arrived h = settled_stays job l p e h (has_place (seats_in job) p) refl
gone_where_over job l p e walk Walking h = ap is_gone h.stand
gone_where_over job l p e walk (Calling core) h = absurd h
gone_where_over job l p e walk Failed h = absurd h
gone_where_over job l p e walk Over h = ap is_gone h.stand
