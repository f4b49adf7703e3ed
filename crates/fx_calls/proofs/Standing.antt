-- Where a process stands in the ledger, from where its node stands, also in calls and behind those that failed.
use Rattle.std.proofs.Common.{◌≡◌, ℕ, Bool, true, false, List, refl, ap}
use Rattle.fx_comm.specs.Seats.{has_place}
use Rattle.fx_script.specs.declared.job.Job.{Job}
use Rattle.fx_walk.specs.declared.wanted.Wanted.{Wanted}
use Rattle.fx_walk.specs.State.{State}
use Rattle.fx_walk.specs.Walk.{TextPlace, Walk, Reply, Asks}
use Rattle.fx_machine.specs.Texts.{Text}
use Rattle.fx_machine.specs.Nodes.{Node, Stage, Begins, Joining, Arrived, Walking, Calling, Failed, Over, is_over, has_ended, state_of}
use Rattle.fx_legal.specs.Stands as stand
use Rattle.fx_legal.specs.Stands.{Stay, Stand, is_killed, is_gone}
use Rattle.fx_losses.proofs.Standing.{HasBegun, Waits, Settled}

-- the return from `Init`, with the number of calls since then, and no group that was created
pub record StaysAs (stay : Stay) (n : Node) : Type 0 where
  pub within : stay.epoch ≡ n.epoch
  pub calls : stay.calls ≡ n.calls
  pub none_created : (g : ℕ) → stay.has_created g ≡ false

pub record InBody (x : Stand) (n : Node) : Type 0 where
  pub stay : Stay
  pub stays : StaysAs stay n
  pub stand : x ≡ stand.Walking stay (stand.shown n.walk)

-- in the call that its walk asks for
pub record InCall (x : Stand) (n : Node) : Type 0 where
  pub stay : Stay
  pub stays : StaysAs stay n
  pub place : TextPlace
  pub asked : Wanted
  pub state : State
  pub rest : Reply → Walk
  pub walk : n.walk ≡ Asks place asked state rest
  pub stand : x ≡ stand.Calling stay asked state rest

-- the stand of a process that lives, by the stage of its node
abbrev pub OfStage : Job → Stand → Node → Stage → Type 0
OfStage job x n Begins = HasBegun job x n
OfStage job x n (Joining phase) = Waits job x n
OfStage job x n Arrived = Settled job x n
OfStage job x n Walking = InBody x n
OfStage job x n (Calling core) = InCall x n
OfStage job x n Failed = x ≡ stand.Failed n.epoch (state_of n)
OfStage job x n Over = x ≡ stand.Ended

abbrev pub AtStage : Job → Stand → Node → Type 0
AtStage job x n = OfStage job x n n.stage

settled_stays : (job : Job) (x : Stand) (n : Node) → Settled job x n → (b : Bool) → has_place n.comm n.me ≡ b → is_gone x ≡ false
settled_stays job x n h true is = ap is_gone (h.seated is)
settled_stays job x n h false is = ap is_gone (h.spare is).0

settled_lives : (job : Job) (x : Stand) (n : Node) → Settled job x n → (b : Bool) → has_place n.comm n.me ≡ b → is_killed x ≡ false
settled_lives job x n h true is = ap is_killed (h.seated is)
settled_lives job x n h false is = ap is_killed (h.spare is).0

lives_of : (job : Job) (x : Stand) (n : Node) (a : Stage) → OfStage job x n a → is_killed x ≡ false
lives_of job x n Begins h = ap is_killed h.stand
lives_of job x n (Joining phase) h = ap is_killed h.stand
lives_of job x n Arrived h = settled_lives job x n h (has_place n.comm n.me) refl
lives_of job x n Walking h = ap is_killed h.stand
lives_of job x n (Calling core) h = ap is_killed h.stand
lives_of job x n Failed h = ap is_killed h
lives_of job x n Over h = ap is_killed h

pub lives : (job : Job) (x : Stand) (n : Node) → AtStage job x n → is_killed x ≡ false
lives job x n h = lives_of job x n n.stage h

gone_of : (job : Job) (x : Stand) (n : Node) (a : Stage) → OfStage job x n a → is_gone x ≡ is_over a
gone_of job x n Begins h = ap is_gone h.stand
gone_of job x n (Joining phase) h = ap is_gone h.stand
gone_of job x n Arrived h = settled_stays job x n h (has_place n.comm n.me) refl
gone_of job x n Walking h = ap is_gone h.stand
gone_of job x n (Calling core) h = ap is_gone h.stand
gone_of job x n Failed h = ap is_gone h
gone_of job x n Over h = ap is_gone h

-- it is gone by the ledger just where its node has ended
pub gone_where_over : (job : Job) (x : Stand) (n : Node) → AtStage job x n → is_gone x ≡ has_ended n
gone_where_over job x n h = gone_of job x n n.stage h

-- a node that hears or is told stands where it stood, by the ledger too
pub still_stands : (job : Job) (x : Stand) (n : Node) (texts : ℕ → List Text) (lost : ℕ → Bool) → AtStage job x n → AtStage job x (record n { texts = texts; lost = lost })
still_stands job x n texts lost is = of n.stage is
  where
    of : (a : Stage) → OfStage job x n a → OfStage job x (record n { texts = texts; lost = lost }) a
    of Begins h = record { stand = h.stand; empty = h.empty }
    of (Joining phase) h = record { stand = h.stand; empty = h.empty }
    of Arrived h = record { seated = h.seated; spare = h.spare }
    of Walking h = record { stay = h.stay; stays = record { within = h.stays.within; calls = h.stays.calls; none_created = h.stays.none_created }; stand = h.stand }
    of (Calling core) h = record {
      stay = h.stay;
      stays = record { within = h.stays.within; calls = h.stays.calls; none_created = h.stays.none_created };
      place = h.place;
      asked = h.asked;
      state = h.state;
      rest = h.rest;
      walk = h.walk;
      stand = h.stand;
    }
    of Failed h = h
    of Over h = h
