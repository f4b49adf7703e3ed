-- Texts and messages are one to one for what is sent so far: votes and estimates of ballots of epochs, parts of barriers, reductions and shifts, and votes and
-- estimates of agreements.
use Rattle.std.proofs.Common.{◌≡◌, ℕ, suc, Bool, true, false, List, [], ◌∷◌, ◌++◌, map, Option, Some, None, refl, sym, ap, subst, ◌∙◌}
use Rattle.std.specs.Prelude.{if◌then◌else◌, ◌==◌, not, option_map, ℤ}
use Rattle.std.proofs.lemmas.Bool.{true≢false}
use Rattle.std.specs.FinMap as finite
use Rattle.std.specs.List.{enumerate_from, filter, flat_map}
use Rattle.fx_ballot.specs.declared.poll.Poll.{Poll}
use Rattle.fx_ballot.specs.declared.poll.Poll.TheVariants as poll
use Rattle.fx_ballot.specs.Names.{seat_of}
use Rattle.fx_ballot.specs.Turn.{Phase, Turn}
use Rattle.fx_base.specs.declared.names.Stamp.{Stamp}
use Rattle.fx_base.specs.declared.shares.StampShares.{StampShares}
use Rattle.fx_comm.specs.Seats.{has_place}
use Rattle.fx_link.specs.declared.message.Known.{Known as KnownMessage}
use Rattle.fx_link.specs.declared.message.Message.{Message}
use Rattle.fx_link.specs.declared.message.Message.TheVariants as message
use Rattle.fx_link.specs.declared.slot.Slot.{Slot}
use Rattle.fx_link.specs.declared.slot.Slot.TheVariants as slot
use Rattle.fx_machine.specs.Asking.{asked, part}
use Rattle.fx_machine.specs.Calls.{affirmed, balloting, decides_call, in_asked_call, in_call, unless_error}
use Rattle.fx_machine.specs.Gathering.{are_gathered, gathering_error, numbers_of, passes, returns_elements, returns_number, source_of, target_of, total}
use Rattle.fx_machine.specs.Waits.{Error, ByLeaving, ByLoss, all_agree, call_ballot, first_error, returns_error}
use Rattle.fx_machine.specs.Ballots.{arrived, decides_epoch, ends, is_end, joined, joins, may_join, repairs, turned, voters}
use Rattle.fx_machine.specs.Messages.{known_message, known_text, message_of, packed_of, shares_of, wire_text}
use Rattle.fx_machine.specs.Nodes as node
use Rattle.fx_machine.specs.Nodes.{Node, Act, members, my_place, size, to_others}
use Rattle.fx_machine.specs.Reading.{Ballot, estimate_text, is_join, next_ballot, turn_in}
use Rattle.fx_machine.specs.Setup.{Setup}
use Rattle.fx_machine.specs.Steps.{next, next_at, in_arrival, in_walk, inits, may_help_out}
use Rattle.fx_machine.specs.Texts.{Text, Join, Vote}
use Rattle.fx_node.specs.declared.stage.Stage.{Stage}
use Rattle.fx_node.specs.declared.stage.Stage.TheVariants as stage
use Rattle.fx_node.specs.Standing.{Standing, IsNodeOf, StandsAs}
use Rattle.fx_inbox.specs.Turns.{phase_of}
use Rattle.fx_script.specs.declared.job.Job.{Job}
use Rattle.fx_store.proofs.Meanings.{from_sorted_again}
use Rattle.fx_node.specs.Asking.{AsksSuch, OnlyCarried, is_agreement, is_carried}
use Rattle.fx_walk.specs.Walk.{Walk, Ends, Passes, Prints, Asks, Reply, stamp_at}
use Rattle.fx_walk.specs.declared.wanted.Wanted.{Wanted}
use Rattle.fx_walk.specs.declared.wanted.Wanted.TheVariants as wanted

-- the text of the message of a text is this text
abbrev pub Fits : ℕ × Text → Type 0
Fits x = wire_text (message_of x.1) ≡ x.1

abbrev pub AllFit : List (ℕ × Text) → Type 0
AllFit [] = Unit {0}
AllFit (x ∷ xs) = Fits x × AllFit xs

abbrev pub ActFits : Option Act → Type 0
ActFits None = Unit {0}
ActFits (Some act) = AllFit act.sends

-- one text to many
to_all : (t : Text) → wire_text (message_of t) ≡ t → (qs : List ℕ) → AllFit (map (λ q. (q, t)) qs)
to_all t fit [] = tt
to_all t fit (q ∷ qs) = (fit, to_all t fit qs)

others : (me : ℕ) (all : List ℕ) (t : Text) → wire_text (message_of t) ≡ t → AllFit (to_others me all t)
others me all t fit = to_all t fit (filter (λ q. not (q == me)) all)

joins_fit : (kind : Slot) (n : Node) → ActFits (joins kind n)
joins_fit kind n = elim (may_join n) as (λ b. ActFits (if b then Some (joined kind n) else None)) [ true ↦ others n.me n.present (Join (suc n.epoch) kind) refl | false ↦ tt ]

decision_fits : (s : Setup) (n : Node) (slots : List Slot) → ActFits (Some (decides_epoch s n slots))
decision_fits s n slots = by (is_end n slots)
  where
    by : (b : Bool) → AllFit (if b then ends n else repairs s (arrived (voters (is_join (suc n.epoch)) n.present slots) n)).sends
    by true = tt
    by false = tt

-- what a turn says is an estimate in its ballot
turned_fits : (b : Ballot) (n : Node) (at : Phase → node.Stage) (decides : List Slot → Option Act) (t : Turn)
    → ((r : ℕ) (slots : List Slot) → wire_text (message_of (estimate_text b.about r slots)) ≡ estimate_text b.about r slots) → ((slots : List Slot) → ActFits (decides slots)) → ActFits (turned b n at decides t)
turned_fits b n at decides t fit decided = by t.poll
  where
    by : (p : Poll) → ActFits (turned b n at decides (record t { poll = p }))
    by poll.NotYet = tt
    by poll.Moved = tt
    by (poll.SendEstimate slots) = others n.me b.members (estimate_text b.about (seat_of b.members n.me) slots) (fit (seat_of b.members n.me) slots)
    by (poll.Decided slots) = decided slots

turn_fits : (s : Setup) (n : Node) (t : Turn) → ActFits (turned (next_ballot n) n node.Joining (λ slots. Some (decides_epoch s n slots)) t)
turn_fits s n t = turned_fits (next_ballot n) n node.Joining (λ slots. Some (decides_epoch s n slots)) t (λ r slots. refl) (decision_fits s n)

arrival_fits : (s : Setup) (n : Node) → ActFits (in_arrival s n)
arrival_fits s n =
    elim (has_place n.comm n.me) as (λ b. ActFits (if b then Some (inits s n) else (if may_help_out n then joins slot.Spare n else None)))
    [ true ↦ tt | false ↦ helps (may_help_out n) ]
  where
    helps : (b : Bool) → ActFits (if b then joins slot.Spare n else None)
    helps true = joins_fit slot.Spare n
    helps false = tt

-- to each other place the text that is meant for it
to_each : (me : ℕ) (meant : ℕ → Text) → ((x : ℕ) → wire_text (message_of (meant x)) ≡ meant x) → (places : List (ℕ × ℕ))
    → AllFit (flat_map (λ (place : ℕ × ℕ). if place.1 == me then [] else map (λ (t : Text). (place.1, t)) (meant place.0 ∷ [])) places)
to_each me meant fit [] = tt
to_each me meant fit (p ∷ places) = one (p.1 == me) (to_each me meant fit places)
  where
    one : (b : Bool) → AllFit (flat_map (λ (place : ℕ × ℕ). if place.1 == me then [] else map (λ (t : Text). (place.1, t)) (meant place.0 ∷ [])) places)
        → AllFit ((if b then [] else (p.1, meant p.0) ∷ []) ++ flat_map (λ (place : ℕ × ℕ). if place.1 == me then [] else map (λ (t : Text). (place.1, t)) (meant place.0 ∷ [])) places)
    one true others = others
    one false others = (fit p.0, others)

asked_fits : (s : Setup) (n : Node) (w : Wanted) (rest : Reply → Walk) → is_carried w ≡ true → ActFits (Some (asked s n rest w))
asked_fits s n wanted.Barrier rest is = to_each n.me (λ x. part n []) (λ x. refl) (enumerate_from 0 (members n))
asked_fits s n (wanted.Reduce op own) rest is = to_each n.me (λ x. part n (own ∷ [])) (λ x. refl) (enumerate_from 0 (members n))
asked_fits s n (wanted.Agree flag) rest is = others n.me (members n) (Vote n.epoch (suc n.calls) (slot.Flag flag)) refl
asked_fits s n (wanted.Shift by elements) rest is =
    to_each n.me (λ x. part n (if x == target_of (size n) by (my_place n) then elements else [])) (λ x. refl) (enumerate_from 0 (members n))
asked_fits s n (wanted.Group g start depth) rest is = absurd cc
asked_fits s n (wanted.Attach g m) rest is = absurd cc
asked_fits s n (wanted.Store g m piece) rest is = absurd cc
asked_fits s n (wanted.Commit g) rest is = absurd cc
asked_fits s n (wanted.Close g) rest is = absurd cc
asked_fits s n (wanted.Restore g m stamp) rest is = absurd cc
asked_fits s n (wanted.Delete g stamp) rest is = absurd cc

walk_fits : (s : Setup) (n : Node) (walk : Walk) → OnlyCarried walk → ActFits (in_walk s n walk)
walk_fits s n (Ends state) only = joins_fit slot.Final n
walk_fits s n (Passes rest) only = tt
walk_fits s n (Prints printed rest) only = tt
walk_fits s n (Asks place w state rest) only = asked_fits s n w rest only.0

call_fits : (s : Setup) (n : Node) (w : Wanted) (rest : Reply → Walk) → is_carried w ≡ true → ActFits (in_call s n w rest node.Gathering)
call_fits s n wanted.Barrier rest is = by (are_gathered n wanted.Barrier) (gathering_error n wanted.Barrier)
  where
    by : (b : Bool) (e : Option Error) → ActFits (if b then Some (passes n rest) else option_map (returns_error n) e)
    by true e = tt
    by false None = tt
    by false (Some (ByLoss p)) = tt
    by false (Some (ByLeaving p)) = tt
call_fits s n (wanted.Reduce op own) rest is = by (are_gathered n (wanted.Reduce op own)) (gathering_error n (wanted.Reduce op own))
  where
    by : (b : Bool) (e : Option Error) → ActFits (if b then Some (returns_number n rest (total op n (wanted.Reduce op own))) else option_map (returns_error n) e)
    by true e = tt
    by false None = tt
    by false (Some (ByLoss p)) = tt
    by false (Some (ByLeaving p)) = tt
call_fits s n (wanted.Shift by elements) rest is = by_parts (are_gathered n (wanted.Shift by elements)) (gathering_error n (wanted.Shift by elements))
  where
    by_parts : (b : Bool) (e : Option Error)
        → ActFits (if b then Some (returns_elements n rest (numbers_of n (wanted.Shift by elements) (source_of (size n) by (my_place n)))) else option_map (returns_error n) e)
    by_parts true e = tt
    by_parts false None = tt
    by_parts false (Some (ByLoss p)) = tt
    by_parts false (Some (ByLeaving p)) = tt
call_fits s n (wanted.Agree flag) rest is = tt
call_fits s n (wanted.Group g start depth) rest is = absurd cc
call_fits s n (wanted.Attach g m) rest is = absurd cc
call_fits s n (wanted.Store g m piece) rest is = absurd cc
call_fits s n (wanted.Commit g) rest is = absurd cc
call_fits s n (wanted.Close g) rest is = absurd cc
call_fits s n (wanted.Restore g m stamp) rest is = absurd cc
call_fits s n (wanted.Delete g stamp) rest is = absurd cc

-- a call that gathers parts sends nothing more
gather_fits : (s : Setup) (n : Node) (walk : Walk) → OnlyCarried walk → ActFits (in_asked_call s n node.Gathering walk)
gather_fits s n (Ends state) only = tt
gather_fits s n (Passes rest) only = tt
gather_fits s n (Prints printed rest) only = tt
gather_fits s n (Asks place w state rest) only = call_fits s n w rest only.0

-- in the ballot of an agreement estimates are sent, and nothing at its end
agreement_fits : (s : Setup) (n : Node) (flag : ℤ) (rest : Reply → Walk) (slots : List Slot) → ActFits (decides_call s n (wanted.Agree flag) rest slots)
agreement_fits s n flag rest slots = by_error (first_error (members n) slots)
  where
    agreed : (b : Bool) → ActFits (if b then affirmed s n (wanted.Agree flag) rest slots else None)
    agreed true = tt
    agreed false = tt

    by_error : (e : Option Error) → ActFits (unless_error s n (wanted.Agree flag) rest slots e)
    by_error None = agreed (all_agree slots)
    by_error (Some (ByLoss p)) = tt
    by_error (Some (ByLeaving p)) = tt

ballot_fits : (s : Setup) (n : Node) (phase : Phase) (walk : Walk) → AsksSuch is_agreement walk → ActFits (in_asked_call s n (node.Balloting phase) walk)
ballot_fits s n phase (Ends state) asks = tt
ballot_fits s n phase (Passes rest) asks = tt
ballot_fits s n phase (Prints printed rest) asks = tt
ballot_fits s n phase (Asks place (wanted.Agree flag) state rest) asks =
    turned_fits (call_ballot n (wanted.Agree flag)) n balloting (decides_call s n (wanted.Agree flag) rest) (turn_in (call_ballot n (wanted.Agree flag)) n phase) (λ r slots. refl)
    (agreement_fits s n flag rest)
ballot_fits s n phase (Asks place other state rest) asks = absurd (true≢false (sym asks))

at : (s : Setup) (n : Node) {stage : node.Stage} → n.stage ≡ stage → ActFits (next_at s n stage) → ActFits (next s n)
at s n e fits = subst (λ stage. ActFits (next_at s n stage)) (sym e) fits

stage_fits : (s : Setup) (job : Job) (c : Standing) (n : Node) (at : Stage) → StandsAs job at c n → ActFits (next s n)
stage_fits s job c n stage.Begins is = at s n is.0 (joins_fit slot.Start n)
stage_fits s job c n (stage.Joining phase) is = at s n is.0 (turn_fits s n (turn_in (next_ballot n) n (phase_of phase)))
stage_fits s job c n stage.Arrived is = at s n is.0 (arrival_fits s n)
stage_fits s job c n stage.Walking is = at s n is.0 (walk_fits s n n.walk is.1.carried)
stage_fits s job c n stage.Gathering is = at s n is.0 (gather_fits s n n.walk is.1.along.carried)
stage_fits s job c n (stage.Balloting phase) is = at s n is.0 (ballot_fits s n (phase_of phase) n.walk is.1.asks)
stage_fits s job c n stage.Failed is = at s n is.0 (joins_fit slot.Error n)
stage_fits s job c n stage.Over is = at s n is tt

-- what a node of a job sends
pub sends_fit : (s : Setup) (job : Job) (c : Standing) (n : Node) → IsNodeOf job c n → ActFits (next s n)
sends_fit s job c n is = stage_fits s job c n c.stage is.stands

-- ---- a message is that of its text

same_entries : (es : List (Stamp × List ℕ)) → map (λ (e : ℤ × List ℕ). (stamp_at e.0, e.1)) (map (λ (e : Stamp × List ℕ). (e.0.0, e.1)) es) ≡ es
same_entries [] = refl
same_entries (e ∷ es) = ap (λ rest. e ∷ rest) (same_entries es)

same_shares : (shares : StampShares) → shares_of (packed_of shares) ≡ shares
same_shares shares = ap finite.from_sorted (same_entries (finite.entries shares)) ∙ from_sorted_again shares

same_stamps : (ts : List Stamp) → map stamp_at (map (λ (t : Stamp). t.0) ts) ≡ ts
same_stamps [] = refl
same_stamps (t ∷ ts) = ap (λ rest. t ∷ rest) (same_stamps ts)

same_known : (known : Option KnownMessage) → option_map known_message (option_map known_text known) ≡ known
same_known None = refl
same_known (Some k) = ap (λ ts. Some (record k { stamps = ts })) (same_stamps k.stamps)

pub same_message : (m : Message) → message_of (wire_text m) ≡ m
same_message (message.Join e kind) = refl
same_message (message.Jest e r slots) = refl
same_message (message.Part e k values) = refl
same_message (message.Vote e k slot) = refl
same_message (message.Est e k r slots) = refl
same_message (message.Share e k shares) = ap (message.Share e k) (same_shares shares)
same_message (message.Tell e k known) = ap (message.Tell e k) (same_known known)
same_message (message.Help e k shares) = ap (message.Help e k) (same_shares shares)
same_message (message.Give e k shares) = ap (message.Give e k) (same_shares shares)
