-- How the world shows the ballot at the begin of each epoch, also of those that haven't begun.
use Rattle.std.proofs.Common.{◌≡◌, ℕ, ◌<◌, ◌≢◌, zero, suc, Bool, true, false, ◌&&◌, List, length, Option, Some, None, refl}
use Rattle.std.specs.Prelude.{not, nat_lt, if◌then◌else◌}
use Rattle.fx_base.specs.declared.names.Role.{Role}
use Rattle.fx_base.specs.declared.names.Role.TheVariants as role
use Rattle.fx_ballot.specs.Names.{seat_at, seat_of, has}
use Rattle.fx_ballot.specs.Turn.{Phase, Outside, Decided}
use Rattle.fx_ballot.specs.World.{is_outside}
use Rattle.fx_ballot.specs.World as ballot
use Rattle.fx_ballot.specs.Laws.{vote_of, estimate_of}
use Rattle.fx_ballot.proofs.Face.{Blank}
use Rattle.fx_ballot.proofs.Runs.{Kept}
use Rattle.fx_comm.specs.Seats.{has_place}
use Rattle.fx_link.specs.declared.slot.Slot.{Slot}
use Rattle.fx_machine.specs.Nodes.{Node, Stage, Begins, Joining, Arrived, Walking, Calling, Failed, has_ended}
use Rattle.fx_machine.specs.Reading.{is_join}
use Rattle.fx_machine.specs.Setup.{Setup}
use Rattle.fx_machine.specs.Texts as text
use Rattle.fx_machine.specs.Texts.{Text}
use Rattle.fx_fleet.specs.World.{World, up}
use Rattle.fx_calm.proofs.Lists.{Each}
use Rattle.fx_losses.specs.Eras.{Era, first_era, era_of, is_last, era}
use Rattle.fx_losses.proofs.Texts.{of_epoch, shown}
use Rattle.fx_losses.proofs.Tests.{is_less}

-- ---- stages

-- where a node of epoch d stands in the ballot that begins epoch d + 1
abbrev pub phase_of : Stage → Phase
phase_of (Joining phase) = phase
phase_of other = Outside

abbrev pub is_begin : Stage → Bool
is_begin Begins = true
is_begin other = false

-- epoch 0 is behind it
abbrev pub is_later : Stage → Bool
is_later Arrived = true
is_later Walking = true
is_later (Calling core) = true
is_later Failed = true
is_later other = false

-- it has a place
abbrev pub is_placed : Stage → Bool
is_placed Walking = true
is_placed (Calling core) = true
is_placed Failed = true
is_placed other = false

abbrev pub is_decided : Phase → Bool
is_decided (Decided slots) = true
is_decided other = false

-- ---- one ballot

-- the phase of one process in the ballot that begins epoch d + 1 is what its node shows
pub record Fits (d : ℕ) (n : Node) (phase : Phase) : Type 0 where
  pub early : n.epoch < d → phase ≡ Outside
  pub now : has_ended n ≡ false → n.epoch ≡ d → phase ≡ phase_of n.stage
  pub later : d < n.epoch → is_decided phase ≡ true
  pub ended : has_ended n ≡ true → n.epoch ≡ d → is_decided phase ≡ true

-- the world shows this ballot
pub record At (s : Setup) (d : ℕ) (w : World) (z : ballot.World) : Type 0 where
  pub fits : (q : ℕ) → w.killed q ≡ false → Fits d (w.node q) (z.member q).phase
  pub heard : (q c : ℕ) → up s w q ≡ true → (z.member q).heard c ≡ shown (suc d) (w.node q) c
  pub link : (a b : ℕ) → a ≢ b → up s w b ≡ true → z.link a b ≡ of_epoch (suc d) (w.link a b)
  pub living : (p : ℕ) → (z.member p).living ≡ not (w.killed p)
  pub gone : (p : ℕ) → (z.member p).gone ≡ false

-- What the ballot at the end of epoch d owes, where x is that epoch and f what was decided: the laws of ballots among the members; nothing
-- happens in it before the epoch begins; what anybody decided is f; each vote is a join of epoch d + 1; and somebody decided f.
pub record Owes (d : ℕ) (x : Option Era) (f : Option (List Slot)) (z : ballot.World) : Type 0 where
  pub kept : (y : Era) → x ≡ Some y → Kept (length y.who) (seat_at y.who) z
  pub blank : x ≡ None → Blank z
  pub fated : (p : ℕ) (g : List Slot) → (z.member p).phase ≡ Decided g → f ≡ Some g
  pub votes : (p : ℕ) (v : Slot) → vote_of z p ≡ Some v → is_join (suc d) v ≡ true
  pub by : (g : List Slot) → f ≡ Some g → (p : ℕ) × ((z.member p).phase ≡ Decided g)

-- ---- nodes

-- what a node has of itself
pub record Sane (s : Setup) (p : ℕ) (n : Node) : Type 0 where
  pub me : n.me ≡ p
  pub fresh : is_begin n.stage ≡ true → n.epoch ≡ 0
  pub later : is_later n.stage ≡ true → 0 < n.epoch
  pub placed : is_placed n.stage ≡ true → has_place n.comm p ≡ true
  pub inside : (phase : Phase) → n.stage ≡ Joining phase → (is_outside phase ≡ false) × (is_decided phase ≡ false)
  pub mine : p < s.procs → has n.present p ≡ true

-- what its ballot decided was the end of the job
pub record EndedAs (fate : ℕ → Option (List Slot)) (n : Node) : Type 0 where
  pub slots : List Slot
  pub is : fate n.epoch ≡ Some slots
  pub ends : is_last n.epoch (era_of n) slots ≡ true

-- the role in epoch d + 1 of a process that had a place in epoch d, or hadn't
abbrev pub role_after : ℕ → Bool → Role
role_after zero had = role.Initial
role_after (suc d) had = if had then role.Survivor else role.Recovered

-- ---- all ballots

-- The world shows the ballots z, of which those that are decided gave fate. Who was killed shows nothing, but its part in each ballot stays.
pub record Shows (s : Setup) (w : World) (z : ℕ → ballot.World) (fate : ℕ → Option (List Slot)) : Type 0 where
  pub at : (d : ℕ) → At s d w (z d)
  pub owes : (d : ℕ) → Owes d (era (first_era s) fate d) (fate d) (z d)
  pub here : (q : ℕ) → w.killed q ≡ false → era (first_era s) fate (w.node q).epoch ≡ Some (era_of (w.node q))
  pub role : (q d : ℕ) (x : Era) → w.killed q ≡ false → (w.node q).epoch ≡ suc d → era (first_era s) fate d ≡ Some x → (w.node q).role ≡ role_after d (has_place x.comm q)
  pub sane : (p : ℕ) → w.killed p ≡ false → Sane s p (w.node p)
  pub over : (p : ℕ) → w.killed p ≡ false → has_ended (w.node p) ≡ true → EndedAs fate (w.node p)
  pub told : (q c : ℕ) → (w.node q).lost c ≡ true → w.killed c ≡ true

-- ---- texts are true

-- a vote that process c cast in the ballot that begins epoch e
abbrev pub IsVote : (ℕ → ballot.World) → ℕ → Slot → ℕ → Type 0
IsVote z c kind zero = ⊥
IsVote z c kind (suc d) = vote_of (z d) c ≡ Some kind

-- an estimate that process c said there, in the round of its own seat
pub record Spoke (s : Setup) (z : ℕ → ballot.World) (fate : ℕ → Option (List Slot)) (c r : ℕ) (slots : List Slot) (d : ℕ) : Type 0 where
  pub era_then : Era
  pub at : era (first_era s) fate d ≡ Some era_then
  pub seated : has era_then.who c ≡ true
  pub round : r ≡ seat_of era_then.who c
  pub said : estimate_of (z d) c ≡ Some slots

abbrev pub IsEstimate : Setup → (ℕ → ballot.World) → (ℕ → Option (List Slot)) → ℕ → ℕ → List Slot → ℕ → Type 0
IsEstimate s z fate c r slots zero = ⊥
IsEstimate s z fate c r slots (suc d) = Spoke s z fate c r slots d

-- a text of process c
abbrev pub IsTrue : Setup → (ℕ → ballot.World) → (ℕ → Option (List Slot)) → ℕ → Text → Type 0
IsTrue s z fate c (text.Join e kind) = IsVote z c kind e
IsTrue s z fate c (text.Jest e r slots) = IsEstimate s z fate c r slots e
IsTrue s z fate c (text.Part e k values) = Unit {0}
IsTrue s z fate c (text.Vote e k x) = Unit {0}
IsTrue s z fate c (text.Est e k r slots) = Unit {0}
IsTrue s z fate c (text.Share e k packed) = Unit {0}
IsTrue s z fate c (text.Tell e k known) = Unit {0}
IsTrue s z fate c (text.Help e k packed) = Unit {0}
IsTrue s z fate c (text.Give e k packed) = Unit {0}

-- all that is kept of a process, and all that is under way from it, it said
pub record Truthful (s : Setup) (w : World) (z : ℕ → ballot.World) (fate : ℕ → Option (List Slot)) : Type 0 where
  pub texts : (q c : ℕ) → Each (IsTrue s z fate c) ((w.node q).texts c)
  pub links : (a b : ℕ) → Each (IsTrue s z fate a) (w.link a b)

-- ---- facts

pub up_parts : (s : Setup) (w : World) (q : ℕ) → up s w q ≡ true → (q < s.procs) × (w.killed q ≡ false) × (has_ended (w.node q) ≡ false)
up_parts s w q h = parts (nat_lt q s.procs) (w.killed q) (has_ended (w.node q)) refl h
  where
    parts : (l k e : Bool) → nat_lt q s.procs ≡ l → (l && (not k && not e)) ≡ true → (q < s.procs) × (k ≡ false) × (e ≡ false)
    parts true false false t h = (is_less q s.procs t, refl, refl)
    parts true true e t h = absurd (let bad : false ≡ true = h in cc)
    parts true false true t h = absurd (let bad : false ≡ true = h in cc)
    parts false k e t h = absurd (let bad : false ≡ true = h in cc)

pub now_at : (s : Setup) (d : ℕ) (w : World) (z : ballot.World) → At s d w z → (q : ℕ) → up s w q ≡ true → (w.node q).epoch ≡ d → (z.member q).phase ≡ phase_of (w.node q).stage
now_at s d w z h q u e =
    let k = up_parts s w q u in
    (h.fits q k.1).now k.2 e
