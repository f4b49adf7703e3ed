-- Where a process stands in the ledger, from where its node stands; and the epochs of the ledger.
use Rattle.std.proofs.Common.{◌≡◌, ℕ, suc, Bool, true, false, ◌&&◌, Option, Some, None, refl, subst, ap}
use Rattle.std.specs.Prelude.{nat_lt}
use Rattle.fx_ballot.specs.Names.{has}
use Rattle.fx_check.specs.Facts.{facts_of}
use Rattle.fx_comm.specs.Seats.{has_place}
use Rattle.fx_script.specs.declared.job.Job.{Job}
use Rattle.fx_walk.specs.Callbacks.{callbacks_at_init, body_start}
use Rattle.fx_walk.specs.Lengths.{OnlyPrints}
use Rattle.fx_walk.specs.State.{blank}
use Rattle.fx_machine.specs.Nodes.{Node, Stage, Begins, Joining, Arrived, Walking, Calling, Failed, Over, is_over, has_ended, size, my_place, state_of}
use Rattle.fx_legal.specs.Ledger.{Chapter, Ledger}
use Rattle.fx_legal.specs.Stands as stand
use Rattle.fx_legal.specs.Stands.{Stay, Stand, notes_of, is_killed, is_gone}
use Rattle.fx_losses.specs.Eras.{Era}

-- ---- epochs

-- An epoch as the ballots give it, and as the journal shows it. By the journal fewer may be present: who was killed and hasn't joined the next.
pub record LikeEra (l : Ledger) (d : ℕ) (x : Era) (y : Chapter) : Type 0 where
  pub comm : x.comm ≡ y.comm
  pub part : (p : ℕ) → y.present p ≡ true → has x.who p ≡ true
  pub rest : (p : ℕ) → has x.who p ≡ true → y.present p ≡ false → (is_killed (l.stands p) ≡ true) × (l.joined (suc d) p ≡ None)

abbrev pub Like : Ledger → ℕ → Option Era → Option Chapter → Type 0
Like l d None None = Unit {0}
Like l d (Some x) None = ⊥
Like l d None (Some y) = ⊥
Like l d (Some x) (Some y) = LikeEra l d x y

-- what it says where there is an epoch
pub record Liked (l : Ledger) (d : ℕ) (x : Era) (o : Option Chapter) : Type 0 where
  pub chapter : Chapter
  pub at : o ≡ Some chapter
  pub like : LikeEra l d x chapter

pub liked : (l : Ledger) (d : ℕ) (x : Era) (a : Option Era) (o : Option Chapter) → Like l d a o → a ≡ Some x → Liked l d x o
liked l d x None None h e = absurd (let bad : None ≡ Some x = e in cc)
liked l d x None (Some y) h e = absurd h
liked l d x (Some z) None h e = absurd h
liked l d x (Some z) (Some y) h e = record { chapter = y; at = refl; like = subst (λ (k : Era). LikeEra l d k y) (same z x e) h }
  where
    same : (z x : Era) → Some z ≡ Some x → z ≡ x
    same z x e = cc

pub unliked : (l : Ledger) (d : ℕ) (a : Option Era) (o : Option Chapter) → Like l d a o → a ≡ None → o ≡ None
unliked l d None None h e = refl
unliked l d None (Some y) h e = absurd h
unliked l d (Some z) o h e = absurd (let bad : Some z ≡ None = e in cc)

pub unborn_too : (l : Ledger) (d : ℕ) (a : Option Era) (o : Option Chapter) → Like l d a o → o ≡ None → a ≡ None
unborn_too l d None o h e = refl
unborn_too l d (Some x) None h e = absurd h
unborn_too l d (Some x) (Some y) h e = absurd (let bad : Some y ≡ None = e in cc)

-- the ledger grew, and of the dead nothing is new
pub like_on : (l m : Ledger) (d : ℕ) (a : Option Era) (o : Option Chapter) → ((p : ℕ) → is_killed (l.stands p) ≡ true → is_killed (m.stands p) ≡ true)
    → ((p : ℕ) → is_killed (l.stands p) ≡ true → l.joined (suc d) p ≡ None → m.joined (suc d) p ≡ None) → Like l d a o → Like m d a o
like_on l m d None None f g h = tt
like_on l m d None (Some y) f g h = absurd h
like_on l m d (Some x) None f g h = absurd h
like_on l m d (Some x) (Some y) f g h = record {
  comm = h.comm;
  part = h.part;
  rest = λ p a b. let r = h.rest p a b in (f p r.0, g p r.0 r.1);
}

-- ---- stages

-- what the callbacks of a process that arrived are to write, and where its body will begin
abbrev pub opening : Job → Node → Stand
opening job n = stand.Opening n.epoch (notes_of (callbacks_at_init (facts_of job) n.role (my_place n) (size n) (state_of n))) (body_start (facts_of job) n.role (my_place n) (size n) (state_of n))

pub record HasBegun (job : Job) (x : Stand) (n : Node) : Type 0 where
  pub stand : x ≡ stand.New
  pub empty : state_of n ≡ blank (facts_of job)

-- it joined with the state that its walk was left in; who never had a place has the blank one
pub record Waits (job : Job) (x : Stand) (n : Node) : Type 0 where
  pub stand : x ≡ stand.Joined (suc n.epoch) (state_of n)
  pub empty : (nat_lt 0 n.epoch && has_place n.comm n.me) ≡ false → state_of n ≡ blank (facts_of job)

pub record Settled (job : Job) (x : Stand) (n : Node) : Type 0 where
  pub seated : has_place n.comm n.me ≡ true → x ≡ opening job n
  pub spare : has_place n.comm n.me ≡ false → (x ≡ stand.Spare n.epoch) × (state_of n ≡ blank (facts_of job))

pub record InBody (x : Stand) (n : Node) : Type 0 where
  pub stay : Stay
  pub within : stay.epoch ≡ n.epoch
  pub stand : x ≡ stand.Walking stay (stand.shown n.walk)
  pub only : OnlyPrints n.walk

-- the stand of a process that lives, by the stage of its node
abbrev pub OfStage : Job → Stand → Node → Stage → Type 0
OfStage job x n Begins = HasBegun job x n
OfStage job x n (Joining phase) = Waits job x n
OfStage job x n Arrived = Settled job x n
OfStage job x n Walking = InBody x n
OfStage job x n (Calling core) = ⊥
OfStage job x n Failed = ⊥
OfStage job x n Over = x ≡ stand.Ended

abbrev pub AtStage : Job → Stand → Node → Type 0
AtStage job x n = OfStage job x n n.stage

settled_stays : (job : Job) (x : Stand) (n : Node) → Settled job x n → (b : Bool) → has_place n.comm n.me ≡ b → is_gone x ≡ false
settled_stays job x n h true is = ap is_gone (h.seated is)
settled_stays job x n h false is = ap is_gone (h.spare is).0

settled_lives : (job : Job) (x : Stand) (n : Node) → Settled job x n → (b : Bool) → has_place n.comm n.me ≡ b → is_killed x ≡ false
settled_lives job x n h true is = ap is_killed (h.seated is)
settled_lives job x n h false is = ap is_killed (h.spare is).0

lives_of : (job : Job) (x : Stand) (n : Node) (a : Stage) → OfStage job x n a → is_killed x ≡ false
lives_of job x n Begins h = ap is_killed h.stand
lives_of job x n (Joining phase) h = ap is_killed h.stand
lives_of job x n Arrived h = settled_lives job x n h (has_place n.comm n.me) refl
lives_of job x n Walking h = ap is_killed h.stand
lives_of job x n (Calling core) h = absurd h
lives_of job x n Failed h = absurd h
lives_of job x n Over h = ap is_killed h

pub lives : (job : Job) (x : Stand) (n : Node) → AtStage job x n → is_killed x ≡ false
lives job x n h = lives_of job x n n.stage h

gone_of : (job : Job) (x : Stand) (n : Node) (a : Stage) → OfStage job x n a → is_gone x ≡ is_over a
gone_of job x n Begins h = ap is_gone h.stand
gone_of job x n (Joining phase) h = ap is_gone h.stand
gone_of job x n Arrived h = settled_stays job x n h (has_place n.comm n.me) refl
gone_of job x n Walking h = ap is_gone h.stand
gone_of job x n (Calling core) h = absurd h
gone_of job x n Failed h = absurd h
gone_of job x n Over h = ap is_gone h

-- it is gone by the ledger just where its node has ended
pub gone_where_over : (job : Job) (x : Stand) (n : Node) → AtStage job x n → is_gone x ≡ has_ended n
gone_where_over job x n h = gone_of job x n n.stage h

pub killed_is : (x : Stand) → is_killed x ≡ true → x ≡ stand.Killed
killed_is stand.New e = absurd (let bad : false ≡ true = e in cc)
killed_is (stand.Joined epoch state) e = absurd (let bad : false ≡ true = e in cc)
killed_is (stand.Spare epoch) e = absurd (let bad : false ≡ true = e in cc)
killed_is (stand.Opening epoch notes state) e = absurd (let bad : false ≡ true = e in cc)
killed_is (stand.Walking stay walk) e = absurd (let bad : false ≡ true = e in cc)
killed_is (stand.Calling stay wanted state rest) e = absurd (let bad : false ≡ true = e in cc)
killed_is (stand.Failed epoch state) e = absurd (let bad : false ≡ true = e in cc)
killed_is stand.Killed e = refl
killed_is stand.Ended e = absurd (let bad : false ≡ true = e in cc)
