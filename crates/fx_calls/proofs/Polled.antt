-- The world shows the ballots of all calls, by what their members said and where they stand.
use Rattle.std.proofs.Common.{◌≡◌, ◌≢◌, ℕ, ◌==◌, suc, Bool, true, false, ◌&&◌, List, [], ◌∷◌, ◌++◌, length, Option, Some, None, refl, ap, sym, subst, ◌∙◌}
use Rattle.std.specs.Prelude.{ℤ, if◌then◌else◌, not, is_some}
use Rattle.fx_base.specs.declared.names.Proc.{Proc}
use Rattle.fx_ballot.specs.Laws.{vote_of, estimate_of}
use Rattle.fx_ballot.specs.Names.{seat_at, seat_of}
use Rattle.fx_ballot.specs.Turn.{Phase, Outside, Decided}
use Rattle.fx_ballot.specs.World.{Member, is_outside, may_leave}
use Rattle.fx_ballot.proofs.Face.{Sound, Blank, sound_blank}
use Rattle.fx_item.specs.declared.item.Item.{Item}
use Rattle.fx_item.specs.declared.item.Item.TheVariants as item
use Rattle.fx_link.specs.declared.slot.Slot.{Slot}
use Rattle.fx_link.specs.declared.slot.Slot.TheVariants as slot
use Rattle.fx_walk.specs.declared.wanted.Wanted.{Wanted}
use Rattle.fx_walk.specs.declared.wanted.Wanted.TheVariants as wanted
use Rattle.fx_machine.specs.Calls.{common_bits}
use Rattle.fx_machine.specs.Nodes.{Node, Act, Stage, Calling, Balloting, procs_of, members}
use Rattle.fx_machine.specs.Reading.{OfCall, first_read, vote_in, estimate_in}
use Rattle.fx_machine.specs.Setup.{Setup}
use Rattle.fx_machine.specs.Waits.{ByLoss, ByLeaving, first_error}
use Rattle.fx_fleet.specs.World.{World, up, sent_to, does}
use Rattle.fx_legal.specs.Calls.{SaysTheSame}
use Rattle.fx_legal.specs.Groups.{at_pair}
use Rattle.fx_legal.specs.Ledger.{Chapter, Ledger, comm_in}
use Rattle.fx_calm.proofs.Lists.{Each, each_append, chosen, equal}
use Rattle.fx_losses.proofs.Moves.{each_node}
use Rattle.fx_losses.proofs.Shows.{is_decided}
use Rattle.fx_losses.proofs.Tests.{first_of, second_of}
use Rattle.fx_calls.proofs.Hearings.{Polls, TrueText, PollsGrow, polls_same, texts_grow}
use Rattle.fx_calls.proofs.Plans.{Grows, same_comm, still_begun}
use Rattle.fx_calls.proofs.Sayings.{SaysIn, says_none}

-- ---- one node

abbrev pub is_balloting : Stage → Bool
is_balloting (Calling (Balloting phase)) = true
is_balloting other = false

-- it is in the ballot of this call
abbrev pub in_poll : Node → ℕ → Bool
in_poll n k = is_balloting n.stage && (k == n.calls)

-- where it stands there, and that it reads of itself what it said
pub record InPoll (polls : Polls) (p : ℕ) (n : Node) (phase : Phase) : Type 0 where
  pub stands : ((polls n.epoch n.calls).member p).phase ≡ phase
  pub inside : is_outside phase ≡ false
  pub undecided : is_decided phase ≡ false
  pub vote : first_read (vote_in (OfCall n.epoch n.calls)) (n.texts p) ≡ vote_of (polls n.epoch n.calls) p
  pub estimate : first_read (estimate_in (OfCall n.epoch n.calls) (seat_of (members n) p)) (n.texts p) ≡ estimate_of (polls n.epoch n.calls) p

pub record NodePolls (polls : Polls) (p : ℕ) (n : Node) : Type 0 where
  pub balloting : (phase : Phase) → n.stage ≡ Calling (Balloting phase) → InPoll polls p n phase
  pub free : (k : ℕ) → in_poll n k ≡ false → may_leave ((polls n.epoch k).member p).phase ≡ true

-- ---- returns

-- what a return says of the slots that were decided among these processes
abbrev pub SaysOf : List ℕ → List Slot → Item → Type 0
SaysOf procs slots (item.Value p e k n) = (first_error procs slots ≡ None) × (n ≡ common_bits slots)
SaysOf procs slots (item.Failed p e k x) = first_error procs slots ≡ Some (ByLoss x.0)
SaysOf procs slots (item.Revoked p e k x) = first_error procs slots ≡ Some (ByLeaving x.0)
SaysOf procs slots other = ⊥

pub record Told (l : Ledger) (polls : Polls) (e k : ℕ) (it : Item) : Type 0 where
  pub by : ℕ
  pub slots : List Slot
  pub decided : ((polls e k).member by).phase ≡ Decided slots
  pub begun : is_some (l.chapters e) ≡ true
  pub says : SaysOf (procs_of (comm_in l e)) slots it

abbrev pub IsTold : Ledger → Polls → (e k : ℕ) → Item → Wanted → Type 0
IsTold l polls e k it (wanted.Agree flag) = Told l polls e k it
IsTold l polls e k it other = Unit {0}

-- the first return from a call, by what its process entered
pub record FirstReturn (l : Ledger) (polls : Polls) (e k : ℕ) (it : Item) : Type 0 where
  pub by : ℕ
  pub asked : Wanted
  pub entered : l.entered e k by ≡ Some asked
  pub told : IsTold l polls e k it asked

-- a vote is the flag that its process entered the call with
pub record IsFlag (l : Ledger) (e k q : ℕ) (x : Slot) : Type 0 where
  pub flag : ℤ
  pub is : x ≡ slot.Flag flag
  pub entered : l.entered e k q ≡ Some (wanted.Agree flag)

-- ---- all

pub record Polled (w : World) (l : Ledger) (polls : Polls) : Type 0 where
  pub sound : (e k : ℕ) → is_some (l.chapters e) ≡ true → Sound (length (procs_of (comm_in l e))) (seat_at (procs_of (comm_in l e))) (polls e k)
  pub blank : (e k : ℕ) → l.chapters e ≡ None → Blank (polls e k)
  pub living : (e k q : ℕ) → ((polls e k).member q).living ≡ not (w.killed q)
  pub gone : (e k q : ℕ) → ((polls e k).member q).gone ≡ is_some (l.joined (suc e) q)
  pub outside : (e k q : ℕ) → l.entered e k q ≡ None → ((polls e k).member q).phase ≡ Outside
  pub votes : (e k q : ℕ) (x : Slot) → vote_of (polls e k) q ≡ Some x → IsFlag l e k q x
  pub told : (e k : ℕ) (it : Item) (rest : List Item) → l.returns e k ≡ it ∷ rest → FirstReturn l polls e k it
  pub nodes : (q : ℕ) → w.killed q ≡ false → NodePolls polls q (w.node q)
  pub texts : (b a : ℕ) → Each (TrueText polls a) ((w.node b).texts a)
  pub links : (a b : ℕ) → Each (TrueText polls a) (w.link a b)

-- what a step of process p owes to the ballots of calls
pub record Heeds (p : ℕ) (act : Act) (l m : Ledger) (polls : Polls) : Type 0 where
  pub now : Polls
  pub grows : PollsGrow polls now
  pub others : (e k q : ℕ) → q ≢ p → (now e k).member q ≡ (polls e k).member q
  pub sound : (e k : ℕ) → is_some (l.chapters e) ≡ true → Sound (length (procs_of (comm_in l e))) (seat_at (procs_of (comm_in l e))) (now e k)
  pub blank : (e k : ℕ) → l.chapters e ≡ None → Blank (now e k)
  pub living : (e k q : ℕ) → ((now e k).member q).living ≡ ((polls e k).member q).living
  pub gone : (e k q : ℕ) → ((now e k).member q).gone ≡ is_some (m.joined (suc e) q)
  pub outside : (e k q : ℕ) → m.entered e k q ≡ None → ((now e k).member q).phase ≡ Outside
  pub votes : (e k q : ℕ) (x : Slot) → vote_of (now e k) q ≡ Some x → IsFlag m e k q x
  pub told : (e k : ℕ) (it : Item) (rest : List Item) → m.returns e k ≡ it ∷ rest → FirstReturn m now e k it
  pub mine : NodePolls now p act.node
  pub texts : (c : ℕ) → Each (TrueText now c) (act.node.texts c)
  pub sends : (b : ℕ) → Each (TrueText now p) (sent_to b act.sends)
  pub says : (e k : ℕ) → SaysIn p act l e k (polls e k) (now e k)

-- a node of which nothing changed in the ballots
pub node_same : (polls now : Polls) (q : ℕ) (n : Node) → ((e k : ℕ) → (now e k).member q ≡ (polls e k).member q) → NodePolls polls q n → NodePolls now q n
node_same polls now q n same h = record {
  balloting = λ phase at.
      let b = h.balloting phase at in
      record {
        stands = ap (λ (x : Member). x.phase) (same n.epoch n.calls) ∙ b.stands;
        inside = b.inside;
        undecided = b.undecided;
        vote = b.vote ∙ sym (ap (λ (x : Member). (x.heard q).vote) (same n.epoch n.calls));
        estimate = b.estimate ∙ sym (ap (λ (x : Member). (x.heard q).estimate) (same n.epoch n.calls));
      };
  free = λ k out. ap (λ (x : Member). may_leave x.phase) (same n.epoch k) ∙ h.free k out;
}

pub polled_step : (s : Setup) (p : ℕ) (act : Act) (w : World) (l m : Ledger) (polls : Polls) → Grows l m → (h : Heeds p act l m polls) → Polled w l polls → Polled (does s p act w) m h.now
polled_step s p act w l m polls g h is = record {
  sound = λ e k begun. sound_now e k (l.chapters e) refl;
  blank = λ e k none. h.blank e k (none_before e none (l.chapters e) refl);
  living = λ e k q. h.living e k q ∙ is.living e k q;
  gone = h.gone;
  outside = h.outside;
  votes = h.votes;
  told = h.told;
  nodes = λ q. each_node s p act w (λ o n. w.killed o ≡ false → NodePolls h.now o n) (λ alive. h.mine) (λ o ne alive. node_same polls h.now o (w.node o) (λ e k. h.others e k o ne) (is.nodes o alive)) q;
  texts = λ b a. each_node s p act w (λ o n. Each (TrueText h.now a) (n.texts a)) (h.texts a) (λ o ne. texts_grow polls h.now h.grows a ((w.node o).texts a) (is.texts o a)) b;
  links = λ a b. chosen (Each (TrueText h.now a)) ((a == p) && up s w b) (w.link a b ++ sent_to b act.sends) (w.link a b)
      (λ e. each_append (TrueText h.now a) (w.link a b) (sent_to b act.sends) (texts_grow polls h.now h.grows a (w.link a b) (is.links a b))
      (subst (λ (o : ℕ). Each (TrueText h.now o) (sent_to b act.sends)) (sym (equal a p (first_of (a == p) (up s w b) e))) (h.sends b)))
      (λ e. texts_grow polls h.now h.grows a (w.link a b) (is.links a b));
}
  where
    none_before : (e : ℕ) → m.chapters e ≡ None → (o : Option Chapter) → l.chapters e ≡ o → l.chapters e ≡ None
    none_before e none None is = is
    none_before e none (Some c) is = absurd (let bad : None ≡ Some c = sym none ∙ g.chapters e c is in cc)

    sound_now : (e k : ℕ) (o : Option Chapter) → l.chapters e ≡ o → Sound (length (procs_of (comm_in m e))) (seat_at (procs_of (comm_in m e))) (h.now e k)
    sound_now e k None is = sound_blank (length (procs_of (comm_in m e))) (seat_at (procs_of (comm_in m e))) (h.now e k) (h.blank e k is)
    sound_now e k (Some c) is = subst (λ (o : List _). Sound (length (procs_of o)) (seat_at (procs_of o)) (h.now e k)) (sym (same_comm l m g e (ap is_some is))) (h.sound e k (ap is_some is))

-- ---- steps that are nothing in ballots of calls

pub told_grows : (l m : Ledger) (polls now : Polls) → Grows l m → ((e k q : ℕ) (slots : List Slot) → ((polls e k).member q).phase ≡ Decided slots → ((now e k).member q).phase ≡ Decided slots)
    → (e k : ℕ) (it : Item) → FirstReturn l polls e k it → FirstReturn m now e k it
told_grows l m polls now g phases e k it h = record { by = h.by; asked = h.asked; entered = g.entered e k h.by h.asked h.entered; told = of h.asked h.told }
  where
    of : (v : Wanted) → IsTold l polls e k it v → IsTold m now e k it v
    of (wanted.Agree flag) t = record {
      by = t.by;
      slots = t.slots;
      decided = phases e k t.by t.slots t.decided;
      begun = still_begun l m g e t.begun;
      says = subst (λ (o : List _). SaysOf (procs_of o) t.slots it) (sym (same_comm l m g e t.begun)) t.says;
    }
    of wanted.Barrier t = tt
    of (wanted.Reduce op own) t = tt
    of (wanted.Shift by elements) t = tt
    of (wanted.Group x first depth) t = tt
    of (wanted.Attach x y) t = tt
    of (wanted.Store x y piece) t = tt
    of (wanted.Commit x) t = tt
    of (wanted.Close x) t = tt
    of (wanted.Restore x y stamp) t = tt
    of (wanted.Delete x stamp) t = tt

-- what wasn't entered after wasn't before
pub not_before : (l m : Ledger) → Grows l m → (e k q : ℕ) → m.entered e k q ≡ None → l.entered e k q ≡ None
not_before l m g e k q none = of (l.entered e k q) refl
  where
    of : (o : Option Wanted) → l.entered e k q ≡ o → l.entered e k q ≡ None
    of None is = is
    of (Some v) is = absurd (let bad : None ≡ Some v = sym none ∙ g.entered e k q v is in cc)

pub flag_grows : (l m : Ledger) → Grows l m → (e k q : ℕ) (x : Slot) → IsFlag l e k q x → IsFlag m e k q x
flag_grows l m g e k q x h = record { flag = h.flag; is = h.is; entered = g.entered e k q (wanted.Agree h.flag) h.entered }

pub heeds_none : (w : World) (p : ℕ) (act : Act) (l m : Ledger) (polls : Polls) → Polled w l polls → Grows l m → m.joined ≡ l.joined
    → ((e k : ℕ) (it : Item) (rest : List Item) → m.returns e k ≡ it ∷ rest → FirstReturn m polls e k it)
    → NodePolls polls p act.node → ((c : ℕ) → Each (TrueText polls c) (act.node.texts c)) → ((b : ℕ) → Each (TrueText polls p) (sent_to b act.sends)) → Heeds p act l m polls
heeds_none w p act l m polls is g joined told mine texts sends = record {
  now = polls;
  grows = polls_same polls;
  others = λ e k q ne. refl;
  sound = is.sound;
  blank = is.blank;
  living = λ e k q. refl;
  gone = λ e k q. is.gone e k q ∙ ap (λ (f : ℕ → ℕ → Option Slot). is_some (f (suc e) q)) (sym joined);
  outside = λ e k q none. is.outside e k q (not_before l m g e k q none);
  votes = λ e k q x at. flag_grows l m g e k q x (is.votes e k q x at);
  told = told;
  mine = mine;
  texts = texts;
  sends = sends;
  says = λ e k. says_none p act l e k (polls e k) (polls e k) refl refl;
}

-- where nothing is returned
pub told_same : (w : World) (l m : Ledger) (polls : Polls) → Polled w l polls → Grows l m → m.returns ≡ l.returns → (e k : ℕ) (it : Item) (rest : List Item) → m.returns e k ≡ it ∷ rest → FirstReturn m polls e k it
told_same w l m polls is g same e k it rest at = told_grows l m polls polls g (λ e k q slots d. d) e k it (is.told e k it rest (sym (ap (λ (f : ℕ → ℕ → List Item). f e k) same) ∙ at))

-- a node of the same epoch, in no ballot of a call before and after
pub node_quiet : (polls : Polls) (p : ℕ) (n m : Node) → m.epoch ≡ n.epoch → is_balloting n.stage ≡ false → is_balloting m.stage ≡ false → NodePolls polls p n → NodePolls polls p m
node_quiet polls p n m epoch before after h = record {
  balloting = λ phase at. absurd (let bad : true ≡ false = sym (ap is_balloting at) ∙ after in cc);
  free = λ k out. ap (λ (o : ℕ). may_leave ((polls o k).member p).phase) epoch ∙ h.free k (ap (λ (b : Bool). b && (k == n.calls)) before);
}

-- two returns that say what was decided say the same
same_lost : (n m : Proc) → Some (ByLoss n.0) ≡ Some (ByLoss m.0) → n ≡ m
same_lost n m e = let same : n.0 ≡ m.0 = cc in λ i. record { 0 = same i }

same_left : (n m : Proc) → Some (ByLeaving n.0) ≡ Some (ByLeaving m.0) → n ≡ m
same_left n m e = let same : n.0 ≡ m.0 = cc in λ i. record { 0 = same i }

pub says_the_same : (procs : List ℕ) (slots : List Slot) (a b : Item) → SaysOf procs slots a → SaysOf procs slots b → SaysTheSame a b
says_the_same procs slots (item.Value p e k n) b x y = of b y
  where
    of : (b : Item) → SaysOf procs slots b → SaysTheSame (item.Value p e k n) b
    of (item.Value q f c m) y = x.1 ∙ sym y.1
    of (item.Failed q f c m) y = absurd (let bad : None ≡ Some (ByLoss m.0) = sym x.0 ∙ y in cc)
    of (item.Revoked q f c m) y = absurd (let bad : None ≡ Some (ByLeaving m.0) = sym x.0 ∙ y in cc)
    of other y = absurd y
says_the_same procs slots (item.Failed p e k n) b x y = of b y
  where
    of : (b : Item) → SaysOf procs slots b → SaysTheSame (item.Failed p e k n) b
    of (item.Value q f c m) y = absurd (let bad : None ≡ Some (ByLoss n.0) = sym y.0 ∙ x in cc)
    of (item.Failed q f c m) y = same_lost n m (sym x ∙ y)
    of (item.Revoked q f c m) y = absurd (let bad : Some (ByLoss n.0) ≡ Some (ByLeaving m.0) = sym x ∙ y in cc)
    of other y = absurd y
says_the_same procs slots (item.Revoked p e k n) b x y = of b y
  where
    of : (b : Item) → SaysOf procs slots b → SaysTheSame (item.Revoked p e k n) b
    of (item.Value q f c m) y = absurd (let bad : None ≡ Some (ByLeaving n.0) = sym y.0 ∙ x in cc)
    of (item.Failed q f c m) y = absurd (let bad : Some (ByLeaving n.0) ≡ Some (ByLoss m.0) = sym x ∙ y in cc)
    of (item.Revoked q f c m) y = same_left n m (sym x ∙ y)
    of other y = absurd y
says_the_same procs slots other b x y = absurd x

-- where one more return was told
pub told_more : (w : World) (l m : Ledger) (polls now : Polls) → Polled w l polls → Grows l m → ((e k q : ℕ) (slots : List Slot) → ((polls e k).member q).phase ≡ Decided slots → ((now e k).member q).phase ≡ Decided slots)
    → (d k : ℕ) (it : Item) → m.returns ≡ at_pair d k (l.returns d k ++ it ∷ []) l.returns → FirstReturn m now d k it
    → (e j : ℕ) (first : Item) (rest : List Item) → m.returns e j ≡ first ∷ rest → FirstReturn m now e j first
told_more w l m polls now is g phases d k it returns fresh e j first rest at = of ((e == d) && (j == k)) refl
  where
    now_at : m.returns e j ≡ (if (e == d) && (j == k) then l.returns d k ++ it ∷ [] else l.returns e j)
    now_at = ap (λ (f : ℕ → ℕ → List Item). f e j) returns

    same_first : (a b : Item) (xs ys : List Item) → a ∷ xs ≡ b ∷ ys → a ≡ b
    same_first a b xs ys e = ap (λ (l : List Item). first_or b l) e
      where
        first_or : Item → List Item → Item
        first_or b [] = b
        first_or b (x ∷ xs) = x

    here : (old : List Item) → l.returns d k ≡ old → old ++ it ∷ [] ≡ first ∷ rest → FirstReturn m now d k first
    here [] was e = subst (FirstReturn m now d k) (same_first it first [] rest e) fresh
    here (x ∷ xs) was e = subst (FirstReturn m now d k) (same_first x first (xs ++ it ∷ []) rest e) (told_grows l m polls now g phases d k x (is.told d k x xs was))

    of : (b : Bool) → ((e == d) && (j == k)) ≡ b → FirstReturn m now e j first
    of true b =
        subst (λ (o : ℕ). FirstReturn m now o j first) (sym (equal e d (first_of (e == d) (j == k) b))) (subst (λ (o : ℕ). FirstReturn m now d o first) (sym (equal j k (second_of (e == d) (j == k) b)))
        (here (l.returns d k) refl (sym (ap (λ (o : Bool). if o then l.returns d k ++ it ∷ [] else l.returns e j) b) ∙ sym now_at ∙ at)))
    of false b = told_grows l m polls now g phases e j first (is.told e j first rest (sym (ap (λ (o : Bool). if o then l.returns d k ++ it ∷ [] else l.returns e j) b) ∙ sym now_at ∙ at))
