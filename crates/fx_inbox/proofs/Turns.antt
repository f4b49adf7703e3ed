-- What a turn does, by what is known of the member whose turn or slot it is.
use Rattle.std.proofs.Common.{◌≡◌, ◌≢◌, ◌<◌, ◌≤◌, ℕ, suc, ◌+◌, Bool, true, false, ◌&&◌, ◌||◌, List, [], ◌∷◌, ◌++◌, length, Option, Some, None, refl, sym, ap, ◌∙◌, subst, arith, add-one}
use Rattle.std.proofs.lemmas.Bool.Decides.{nat_tests}
use Rattle.fx_ballot.specs.declared.heard.Heard.{Heard}
use Rattle.fx_ballot.specs.declared.poll.Poll.{Poll}
use Rattle.fx_ballot.specs.declared.poll.Poll.TheVariants as poll
use Rattle.fx_ballot.specs.Names.{seat_at, seat_of}
use Rattle.fx_ballot.specs.Turn.{Turn, Voting, Round, turn, form, speak, follow, decide, slot_of, slots_of, with_slot}
use Rattle.fx_ballot.proofs.Readings.{slots_none}
use Rattle.fx_link.specs.declared.slot.Slot.{Slot}
use Rattle.fx_machine.specs.Nodes.{Node}
use Rattle.fx_machine.specs.Reading.{Ballot, seen, vote_of, estimate_of, has_left, is_of_call, turn_in}
use Rattle.fx_inbox.specs.declared.phase.Phase.{Phase}
use Rattle.fx_inbox.specs.declared.phase.Phase.TheVariants as phase
use Rattle.fx_inbox.specs.Turns.{IsTurn}

-- what a node knows of each seat of a ballot
abbrev pub seats : Ballot → Node → ℕ → Heard
seats b n k = seen b n (seat_at b.members k)

-- a process has left a ballot
abbrev pub is_gone : Ballot → Node → ℕ → Bool
is_gone b n q = is_of_call b.about && has_left n q

-- ---- one turn

is_turn : (t s : Turn) (said : Poll) (after : Phase) → t ≡ s → IsTurn s said after → IsTurn t said after
is_turn t s said after e h = subst (λ (u : Turn). IsTurn u said after) (sym e) h

turn_decides : (n i r : ℕ) (seen : ℕ → Heard) (held : List Slot) → n ≤ r → turn n i seen (Round r held) ≡ decide held
turn_decides n i r seen held low = grind (arith, nat_tests)

turn_speaks : (n i r : ℕ) (seen : ℕ → Heard) (held : List Slot) → r < n → r ≡ i → turn n i seen (Round r held) ≡ speak r held
turn_speaks n i r seen held low own = grind (arith, nat_tests)

turn_follows : (n i r : ℕ) (seen : ℕ → Heard) (held : List Slot) → r < n → r ≢ i → turn n i seen (Round r held) ≡ follow r held (seen r).estimate ((seen r).lost || (seen r).left)
turn_follows n i r seen held low other = grind (arith, nat_tests)

-- ---- votes

pub slots_more : (b : Ballot) (n : Node) (k who : ℕ) (slots : List Slot) (x : Slot) → slots_of (seats b n) k ≡ Some slots → seat_at b.members k ≡ who
    → slot_of (vote_of b n who) (n.lost who) (is_gone b n who) ≡ Some x → slots_of (seats b n) (k + 1) ≡ Some (slots ++ x ∷ [])
slots_more b n k who slots x before is known =
    rw add-one
    ((λ i. with_slot (before i) (slot_of (vote_of b n (is i)) (n.lost (is i)) (is_gone b n (is i))))
    ∙ ap (λ (o : Option Slot). with_slot (Some slots) o) known)

pub form_waits : (b : Ballot) (n : Node) (k who : ℕ) → k < length b.members → seat_at b.members k ≡ who → slot_of (vote_of b n who) (n.lost who) (is_gone b n who) ≡ None
    → IsTurn (turn_in b n Voting) poll.NotYet phase.Voting
form_waits b n k who low is unknown =
    is_turn (turn_in b n Voting) (form None) poll.NotYet phase.Voting
    (ap form (slots_none (seats b n) (length b.members) k low ((λ i. slot_of (vote_of b n (is i)) (n.lost (is i)) (is_gone b n (is i))) ∙ unknown)))
    (record { says = refl; leaves = refl })

pub form_moves : (b : Ballot) (n : Node) (slots : List Slot) → slots_of (seats b n) (length b.members) ≡ Some slots → IsTurn (turn_in b n Voting) poll.Moved (phase.Round 0 slots)
form_moves b n slots known =
    is_turn (turn_in b n Voting) (form (Some slots)) poll.Moved (phase.Round 0 slots) (ap form known) (record { says = refl; leaves = refl })

-- ---- rounds

pub round_decides : (b : Ballot) (n : Node) (r : ℕ) (held said : List Slot) (after : Phase) → length b.members ≤ r → said ≡ held → IsTurn (turn_in b n (Round r held)) (poll.Decided said) after
round_decides b n r held said after low same =
    is_turn (turn_in b n (Round r held)) (decide held) (poll.Decided said) after (turn_decides (length b.members) (seat_of b.members n.me) r (seats b n) held low)
    (record { says = ap poll.Decided same; leaves = tt })

pub round_speaks : (b : Ballot) (n : Node) (r : ℕ) (held : List Slot) (said : Poll) (after : Phase) → r < length b.members → r ≡ seat_of b.members n.me → IsTurn (speak r held) said after
    → IsTurn (turn_in b n (Round r held)) said after
round_speaks b n r held said after low own h =
    is_turn (turn_in b n (Round r held)) (speak r held) said after (turn_speaks (length b.members) (seat_of b.members n.me) r (seats b n) held low own) h

-- in another's round it follows what it knows of that member
pub round_follows : (b : Ballot) (n : Node) (r who : ℕ) (held : List Slot) (heard : Option (List Slot)) (away : Bool) (said : Poll) (after : Phase) → r < length b.members
    → r ≢ seat_of b.members n.me → seat_at b.members r ≡ who → estimate_of b n who ≡ heard → n.lost who || is_gone b n who ≡ away → IsTurn (follow r held heard away) said after
    → IsTurn (turn_in b n (Round r held)) said after
round_follows b n r who held heard away said after low other is estimate told h =
    is_turn (turn_in b n (Round r held)) (follow r held heard away) said after
    (turn_follows (length b.members) (seat_of b.members n.me) r (seats b n) held low other
    ∙ (λ i. follow r held (estimate_of b n (is i)) (n.lost (is i) || is_gone b n (is i)))
    ∙ (λ i. follow r held (estimate i) (told i)))
    h

pub adopts : (r r' : ℕ) (held slots : List Slot) (lost : Bool) → r' ≡ r + 1 → IsTurn (follow r held (Some slots) lost) poll.Moved (phase.Round r' slots)
adopts r r' held slots lost next = record { says = refl; leaves = ap (λ (k : ℕ). Round k slots) (next ∙ one_more r) }
  where
    one_more : (k : ℕ) → k + 1 ≡ suc k
    one_more k = omega arith

pub passes : (r r' : ℕ) (held : List Slot) → r' ≡ r + 1 → IsTurn (follow r held None true) poll.Moved (phase.Round r' held)
passes r r' held next = record { says = refl; leaves = ap (λ (k : ℕ). Round k held) (next ∙ one_more r) }
  where
    one_more : (k : ℕ) → k + 1 ≡ suc k
    one_more k = omega arith

pub follow_waits : (r : ℕ) (held : List Slot) → IsTurn (follow r held None false) poll.NotYet (phase.Round r held)
follow_waits r held = record { says = refl; leaves = refl }
