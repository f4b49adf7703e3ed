-- A call that gathers parts: it is entered, and returns or fails.
use Rattle.std.proofs.lemmas.List.{append-nil}
use Rattle.std.proofs.Math.ListN.{drop_of_length-le}
use Rattle.std.proofs.Common.{append_assoc, subst, arith, ◌≡◌, ◌++◌, ◌∷◌, ◌==◌, ◌<◌, ◌≤◌, ◌+◌, [], ℕ, ℤ, zero, suc, Bool, true, false, negsuc, List, Option, Some, None, map, length, drop, slice_index_or, refl, ap, sym, ◌∙◌, All}
use Rattle.std.specs.Prelude.{if◌then◌else◌, not, nat_lt, nat_le, slice_get, option_map, is_some}
use Rattle.std.specs.List.{flat_map, enumerate_from}
use Rattle.std.proofs.lemmas.Bool.{true≢false, eq-eqb, eqb-true, ne_eqb, or_right, and_from, le-leb}
use Rattle.std.proofs.lemmas.List.Elements.{All-append, All-cons, All-head, All-nil, All-tail}
use Rattle.fx_base.specs.declared.names.CallNo.{CallNo}
use Rattle.fx_base.specs.declared.names.Epoch.{Epoch}
use Rattle.fx_base.specs.declared.names.Op.{Op}
use Rattle.fx_base.specs.declared.names.Proc.{Proc}
use Rattle.fx_ballot.specs.Names.{seat_at}
use Rattle.fx_coll.specs.Answer.{answer_of}
use Rattle.fx_coll.specs.Machine.{StandsFor, acts_by}
use Rattle.fx_coll.specs.declared.known.Known.{Known}
use Rattle.fx_coll.specs.declared.poll.CollPoll.{CollPoll}
use Rattle.fx_coll.proofs.Machine.{answers}
use Rattle.fx_comm.specs.Seats.{Seat, has_place, place_in}
use Rattle.fx_comm.proofs.Places.{has_place_in}
use Rattle.fx_comm.proofs.Steps.{seats_at}
use Rattle.fx_fleet.specs.Runs.{job_setup}
use Rattle.fx_flow.specs.Flowing.{AsksFor, DoesRest, Flowing, IsFlowOf, IsGivenFitting, WasAnswered, state_of}
use Rattle.fx_value.specs.Shape.{Fits, StaysShaped}
use Rattle.fx_inbox.specs.Keeping as kept
use Rattle.fx_inbox.specs.Keeping.{IsInboxOf, Kept, Knows}
use Rattle.fx_item.specs.declared.item.Item.{Item}
use Rattle.fx_item.specs.declared.item.Item.TheVariants as item
use Rattle.fx_link.specs.declared.message.Message.{Message}
use Rattle.fx_link.specs.declared.message.Message.TheVariants as message
use Rattle.fx_machine.specs.Asking.{entered, enters, enters_shift, part}
use Rattle.fx_machine.specs.Calls.{in_asked_call, in_call}
use Rattle.fx_machine.specs.Gathering.{are_gathered, gathered, gathering_error, in_gathering, passes, returns_elements, returns_number, target_of}
use Rattle.fx_machine.specs.Groups.{Group, newest_stamp}
use Rattle.fx_machine.specs.Messages.{message_of}
use Rattle.fx_machine.specs.Nodes as node
use Rattle.fx_machine.specs.Nodes.{Act, Node, latest, members, proc_at, procs_of, to_places}
use Rattle.fx_machine.specs.Numbers.{call_no, epoch_no, of_each_below, proc}
use Rattle.fx_machine.specs.Steps.{next}
use Rattle.fx_machine.specs.Texts.{Text}
use Rattle.fx_machine.specs.Waits.{ByLeaving, ByLoss, returns_error}
use Rattle.fx_node.specs.Glancing.{IsSeen}
use Rattle.fx_node.specs.declared.glance.Glance.TheVariants as glance
use Rattle.fx_node.specs.Asking.{AsksSuch, OnlyCarried, gathers_parts, is_agreement, is_carried, share_of, to_seats}
use Rattle.fx_node.specs.declared.node.Moved.{Moved}
use Rattle.fx_node.specs.declared.node.Moved.TheVariants as moved
use Rattle.fx_node.specs.declared.stage.Stage.{Stage}
use Rattle.fx_node.specs.declared.stage.Stage.TheVariants as stage
use Rattle.fx_node.specs.Standing.{ComesTo, InCall, IsInCall, IsNodeOf, Standing, StandsAs, WalksAlong}
use Rattle.fx_node.specs.Stepping.{Steps, Takes, posted}
use Rattle.fx_node.proofs.Acts.{by_stage}
use Rattle.fx_node.proofs.Begun.{my_place_is}
use Rattle.fx_script.specs.declared.job.Job.{Job}
use Rattle.fx_walk.specs.Along.{at_of, stop_of}
use Rattle.fx_walk.specs.Callbacks.{no_latest, state_at, view_at_init}
use Rattle.fx_walk.specs.Lengths.{IsWithin}
use Rattle.fx_walk.specs.State.{State}
use Rattle.fx_walk.specs.Walk.{Asks, Elements, Ends, Given, Nothing, Number, Passes, Prints, Reply, TextPlace, Walk, view_after}
use Rattle.fx_walk.specs.declared.action.At.{At}
use Rattle.fx_walk.specs.declared.action.At.TheVariants as at
use Rattle.fx_walk.specs.declared.action.View.{View}
use Rattle.fx_walk.specs.declared.wanted.Wanted.{Wanted}
use Rattle.fx_walk.specs.declared.wanted.Wanted.TheVariants as wanted

-- ---- what is sent

pub seat_sent : (me : ℕ) (meant : ℕ → Message) (seats : List Seat) (k : ℕ) (d : Seat) (m : Message) (sent before : List (Proc × Message)) → k < length seats → ((slice_index_or seats k d).1.0 ≡ me → ⊥) → m ≡ meant k
    → sent ++ to_seats me meant k (drop k seats) ≡ before → (sent ++ ((slice_index_or seats k d).1, m) ∷ []) ++ to_seats me meant (k + 1) (drop (k + 1) seats) ≡ before
seat_sent me meant seats k d m sent before within other is so =
    let x : Seat = slice_index_or seats k d in
    let no : (x.1.0 == me) ≡ false = ne_eqb x.1.0 me other in
    append_assoc sent ((x.1, m) ∷ []) (to_seats me meant (k + 1) (drop (k + 1) seats))
    ∙ ap (λ (m : Message). sent ++ ((x.1, m) ∷ [] ++ to_seats me meant (k + 1) (drop (k + 1) seats))) is
    ∙ ap (λ (b : Bool). sent ++ ((if b then [] else (x.1, meant k) ∷ []) ++ to_seats me meant (k + 1) (drop (k + 1) seats))) (sym no)
    ∙ ap (λ (l : List Seat). sent ++ to_seats me meant k l) (sym (seats_at seats k d within))
    ∙ so

pub seat_passed : (me : ℕ) (meant : ℕ → Message) (seats : List Seat) (k : ℕ) (d : Seat) (sent before : List (Proc × Message)) → k < length seats → (slice_index_or seats k d).1.0 ≡ me
    → sent ++ to_seats me meant k (drop k seats) ≡ before → sent ++ to_seats me meant (k + 1) (drop (k + 1) seats) ≡ before
seat_passed me meant seats k d sent before within same so =
    let x : Seat = slice_index_or seats k d in
    let yes : (x.1.0 == me) ≡ true = eq-eqb x.1.0 me same in
    ap (λ (b : Bool). sent ++ ((if b then [] else (x.1, meant k) ∷ []) ++ to_seats me meant (k + 1) (drop (k + 1) seats))) (sym yes)
    ∙ ap (λ (l : List Seat). sent ++ to_seats me meant k l) (sym (seats_at seats k d within))
    ∙ so

-- two that are compared
pub differ : (r : Bool) (a b : ℕ) → r ≡ not (a == b) → r ≡ true → a ≡ b → ⊥
differ r a b is ne same = absurd (true≢false (sym ne ∙ is ∙ ap not (eq-eqb a b same)))

pub agree : (r : Bool) (a b : ℕ) → r ≡ not (a == b) → r ≡ false → a ≡ b
agree r a b is eq = eqb-true a b (back (a == b) (sym is ∙ eq))
  where
    back : (t : Bool) → not t ≡ false → t ≡ true
    back true e = refl
    back false e = absurd cc

pub all_sent : (me : ℕ) (meant : ℕ → Message) (seats : List Seat) (k : ℕ) (sent before : List (Proc × Message)) → length seats ≤ k → sent ++ to_seats me meant k (drop k seats) ≡ before → sent ≡ before
all_sent me meant seats k sent before past so =
    sym (append-nil sent) ∙ ap (λ (l : List Seat). sent ++ to_seats me meant k l) (sym (drop_of_length-le seats past)) ∙ so

-- each that is sent to is one of the processes
pub sent_below : (bound me : ℕ) (meant : ℕ → Message) (seats : List Seat) (before : List (Proc × Message)) → All (λ (s : Seat). s.1.0 < bound) seats → All (λ (x : Proc × Message). x.0.0 < bound) before
    → All (λ (x : Proc × Message). x.0.0 < bound) (before ++ to_seats me meant 0 seats)
sent_below bound me meant seats before below were = All-append (λ (x : Proc × Message). x.0.0 < bound) before (to_seats me meant 0 seats) were (all seats 0 below)
  where
    one : (b : Bool) (s : Seat) (m : Message) → s.1.0 < bound → All (λ (x : Proc × Message). x.0.0 < bound) (if b then [] else (s.1, m) ∷ [])
    one true s m low = All-nil (λ (x : Proc × Message). x.0.0 < bound)
    one false s m low = All-cons (λ (x : Proc × Message). x.0.0 < bound) (s.1, m) [] low (All-nil (λ (x : Proc × Message). x.0.0 < bound))

    all : (seats : List Seat) (k : ℕ) → All (λ (s : Seat). s.1.0 < bound) seats → All (λ (x : Proc × Message). x.0.0 < bound) (to_seats me meant k seats)
    all [] k below = All-nil (λ (x : Proc × Message). x.0.0 < bound)
    all (s ∷ seats) k below =
        All-append (λ (x : Proc × Message). x.0.0 < bound) (if s.1.0 == me then [] else (s.1, meant k) ∷ []) (to_seats me meant (k + 1) seats)
        (one (s.1.0 == me) s (meant k) (All-head (λ (s : Seat). s.1.0 < bound) s seats below)) (all seats (k + 1) (All-tail (λ (s : Seat). s.1.0 < bound) s seats below))

map_append : {X Y : Type 0} (f : X → Y) (xs ys : List X) → map f (xs ++ ys) ≡ map f xs ++ map f ys
map_append f [] ys = refl
map_append f (x ∷ xs) ys = ap (λ l. f x ∷ l) (map_append f xs ys)

pub posted_places : (me : ℕ) (meant : ℕ → Text) (seats : List Seat) (k : ℕ)
    → map posted (flat_map (λ (place : ℕ × ℕ). if place.1 == me then [] else map (λ (t : Text). (place.1, t)) (meant place.0 ∷ [])) (enumerate_from k (procs_of seats))) ≡ to_seats me (λ x. message_of (meant x)) k seats
posted_places me meant [] k = refl
posted_places me meant (s ∷ seats) k =
    map_append posted (if s.1.0 == me then [] else (s.1.0, meant k) ∷ []) (flat_map (λ (place : ℕ × ℕ). if place.1 == me then [] else map (λ (t : Text). (place.1, t)) (meant place.0 ∷ [])) (enumerate_from (k + 1) (procs_of seats)))
    ∙ (λ i. one (s.1.0 == me) i ++ posted_places me meant seats (k + 1) i)
  where
    one : (b : Bool) → map posted (if b then [] else (s.1.0, meant k) ∷ []) ≡ (if b then [] else (s.1, message_of (meant k)) ∷ [])
    one true = refl
    one false = refl

-- ---- where it stands

gathers_at : (job : Job) (c : Standing) (n : Node) → c.stage ≡ stage.Gathering → IsNodeOf job c n → StandsAs job stage.Gathering c n
gathers_at job c n is h = subst (λ s. StandsAs job s c n) is h.stands

-- in a call it is in one that passes a test
pub in_call_at : (job : Job) (c : Standing) (n : Node) → IsInCall c.stage → IsNodeOf job c n → (test : Wanted → Bool) × InCall job test c n
in_call_at job c n is h = by c.stage is h.stands
  where
    by : (s : Stage) → IsInCall s → StandsAs job s c n → (test : Wanted → Bool) × InCall job test c n
    by stage.Gathering is there = (gathers_parts, there.1)
    by (stage.Balloting phase) is there = (is_agreement, there.1)
    by other is there = absurd is

pub gathering_is : (s : Stage) → s ≡ stage.Gathering → IsInCall s
gathering_is s e = subst IsInCall (sym e) tt

pub asks_outward : (test : Wanted → Bool) (walk : Walk) → AsksSuch test walk → at_of walk ≡ at.Outward
asks_outward test (Ends state) asks = absurd asks
asks_outward test (Passes rest) asks = absurd asks
asks_outward test (Prints printed rest) asks = absurd asks
asks_outward test (Asks place wanted state rest) asks = refl

pub walks_at : (job : Job) (c : Standing) (n : Node) → c.stage ≡ stage.Walking → IsNodeOf job c n → StandsAs job stage.Walking c n
walks_at job c n is h = subst (λ s. StandsAs job s c n) is h.stands

still_so : (view : View) (walk : Walk) (flow : Flowing) → DoesRest view walk flow → at_of walk ≡ at.Outward → state_at (stop_of walk []) ≡ state_of flow
still_so view (Ends state) flow does is = absurd (cc)
still_so view (Passes rest) flow does is = absurd (cc)
still_so view (Prints printed rest) flow does is = absurd (cc)
still_so view (Asks place wanted state rest) flow does is = sym does.1

-- ---- errors

seat_found : (seats : List Seat) (k : ℕ) (p : Proc) → option_map (λ (s : Seat). s.1) (slice_get seats k) ≡ Some p → seat_at (procs_of seats) k ≡ p.0
seat_found [] k p e = absurd cc
seat_found (s ∷ seats) zero p e = let same : Some s.1 ≡ Some p = e in let one : s.1 ≡ p = cc in ap (λ (q : Proc). q.0) one
seat_found (s ∷ seats) (suc k) p e = seat_found seats k p e

pub proc_there : (n : Node) (comm : List Seat) (k : ℕ) (p : Proc) → n.comm ≡ comm → option_map (λ (s : Seat). s.1) (slice_get comm k) ≡ Some p → proc_at n k ≡ p.0
proc_there n comm k p same e = ap (λ (l : List Seat). seat_at (procs_of l) k) same ∙ seat_found comm k p e

node_fails : (job : Job) (c : Standing) (n : Node) → IsInCall c.stage → IsNodeOf job c n → IsNodeOf job (record c { stage = stage.Failed }) (record n { stage = node.Failed })
node_fails job c n is h =
    let call = in_call_at job c n is h in
    let here : InCall job call.0 c n = call.1 in
    record {
      me = h.me;
      ranks = h.ranks;
      epoch = h.epoch;
      comm = h.comm;
      present = h.present;
      member = h.member;
      role = h.role;
      calls = h.calls;
      bare = h.bare;
      is_flow = h.is_flow;
      knows = h.knows;
      stands = (refl, still_so c.view n.walk c.flow here.along.does (asks_outward call.0 n.walk here.asks), here.told, here.begun);
    }

pub fails_so : (job : Job) (c : Standing) (n : Node) (p : Proc) (sent : List (Proc × Message)) (told told' : List Item) → IsNodeOf job c n → IsInCall c.stage
    → told' ≡ told ++ item.Failed (proc c.me) (epoch_no c.epoch) (call_no c.calls) p ∷ []
    → Takes job (returns_error n (ByLoss p.0)) moved.Acted (record c { stage = stage.Failed }) sent sent told told'
fails_so job c n p sent told told' h is wrote = record {
  says = refl;
  node = node_fails job c n is h;
  sends = sym (append-nil sent);
  items = rw (h.me, h.epoch, h.calls) wrote;
}

pub revokes_so : (job : Job) (c : Standing) (n : Node) (p : Proc) (sent : List (Proc × Message)) (told told' : List Item) → IsNodeOf job c n → IsInCall c.stage
    → told' ≡ told ++ item.Revoked (proc c.me) (epoch_no c.epoch) (call_no c.calls) p ∷ []
    → Takes job (returns_error n (ByLeaving p.0)) moved.Acted (record c { stage = stage.Failed }) sent sent told told'
revokes_so job c n p sent told told' h is wrote = record {
  says = refl;
  node = node_fails job c n is h;
  sends = sym (append-nil sent);
  items = rw (h.me, h.epoch, h.calls) wrote;
}

-- ---- the return

none_newest : (g : Group) → g.created ≡ false → newest_stamp g ≡ negsuc 0
none_newest g none = rw none refl

-- no group has a newest stamp
pub none_latest : (n : Node) → ((g : ℕ) → (n.groups g).created ≡ false) → latest n ≡ no_latest
none_latest n bare = λ i. of_each_below 8 (λ g. none_newest (n.groups g) (bare g) i)

-- a walk that goes on behind an answer
walks_on : (job : Job) (c : Standing) (n : Node) (place : TextPlace) (w : Wanted) (state : State) (rest : Reply → Walk) (given : Given) (flow : Flowing) → ((g : ℕ) → (n.groups g).created ≡ false)
    → n.walk ≡ Asks place w state rest → Fits w given → WalksAlong job 20001 c n → WasAnswered c.view n.walk (record { given = given; latest = latest n }) flow
    → WalksAlong job 20000 (record c { flow = flow; stage = stage.Walking }) (node.goes_on rest given n)
walks_on job c n place w state rest given flow bare at fits h answered =
    let reply : Reply = record { given = given; latest = latest n } in
    let carried : OnlyCarried (Asks place w state rest) = subst OnlyCarried at h.carried in
    let shaped : StaysShaped job.names (Asks place w state rest) = subst (StaysShaped job.names) at h.shaped in
    let does : DoesRest (view_after c.view reply) (rest reply) flow = subst (λ (x : Walk). WasAnswered c.view x reply flow) at answered in
    let same : view_after c.view reply ≡ c.view =
    ap (λ (v : View). record v { latest = latest n }) h.sees
    ∙ ap (λ (l : List ℤ). record (view_at_init n.role (node.my_place n) (node.size n)) { latest = l }) (none_latest n bare)
    ∙ sym h.sees in
    let fewer = shorter h.left (subst (λ (x : Walk). IsWithin x h.left) at h.within) h.few in
    record {
      sees = h.sees;
      does = subst (λ (v : View). DoesRest v (rest reply) flow) same does;
      carried = carried.1 reply;
      shaped = shaped.1 reply fits;
      placed = h.placed;
      left = fewer.0;
      within = fewer.1 reply;
      few = fewer.2;
    }
  where
    shorter : (left : ℕ) → IsWithin (Asks place w state rest) left → n.calls + left ≤ 20001 → (k : ℕ) × ((reply : Reply) → IsWithin (rest reply) k) × (n.calls + k ≤ 20000)
    shorter zero within few = absurd within
    shorter (suc k) within few = (k, within, omega (arith, few))

nothing_fits : (w : Wanted) → Fits w Nothing
nothing_fits (wanted.Shift by own) = tt
nothing_fits other = tt

number_fits : (w : Wanted) (value : ℤ) → Fits w (Number value)
number_fits (wanted.Shift by own) value = tt
number_fits other value = tt

pub goes_walking : (job : Job) (c : Standing) (n : Node) (place : TextPlace) (w : Wanted) (state : State) (rest : Reply → Walk) (given : Given) (flow : Flowing) → IsNodeOf job c n → IsInCall c.stage
    → n.walk ≡ Asks place w state rest → Fits w given → (IsFlowOf job c.flow → IsFlowOf job flow)
    → ((view : View) (walk : Walk) (latest : List ℤ) → DoesRest view walk c.flow → WasAnswered view walk (record { given = given; latest = latest }) flow)
    → IsNodeOf job (record c { flow = flow; stage = stage.Walking }) (node.goes_on rest given n)
goes_walking job c n place w state rest given flow h is at fits of_job answers =
    let here = (in_call_at job c n is h).1 in
    record {
      me = h.me;
      ranks = h.ranks;
      epoch = h.epoch;
      comm = h.comm;
      present = h.present;
      member = h.member;
      role = h.role;
      calls = h.calls;
      bare = h.bare;
      is_flow = of_job h.is_flow;
      knows = h.knows;
      stands = (refl, walks_on job c n place w state rest given flow h.bare at fits here.along (answers c.view n.walk (latest n) here.along.does), here.told, here.begun);
    }

pub passes_so : (job : Job) (c : Standing) (n : Node) (place : TextPlace) (w : Wanted) (state : State) (rest : Reply → Walk) (flow : Flowing) (sent : List (Proc × Message)) (told told' : List Item)
    → IsNodeOf job c n → IsInCall c.stage → n.walk ≡ Asks place w state rest → (IsFlowOf job c.flow → IsFlowOf job flow)
    → ((view : View) (walk : Walk) (latest : List ℤ) → DoesRest view walk c.flow → WasAnswered view walk (record { given = Nothing; latest = latest }) flow)
    → told' ≡ told ++ item.Passed (proc c.me) (epoch_no c.epoch) (call_no c.calls) ∷ []
    → Takes job (passes n rest) moved.Acted (record c { flow = flow; stage = stage.Walking }) sent sent told told'
passes_so job c n place w state rest flow sent told told' h is at of_job answers wrote = record {
  says = refl;
  node = goes_walking job c n place w state rest Nothing flow h is at (nothing_fits w) of_job answers;
  sends = sym (append-nil sent);
  items = rw (h.me, h.epoch, h.calls) wrote;
}

pub gives_number_so : (job : Job) (c : Standing) (n : Node) (place : TextPlace) (w : Wanted) (state : State) (rest : Reply → Walk) (value : ℤ) (flow : Flowing) (sent : List (Proc × Message)) (told told' : List Item)
    → IsNodeOf job c n → IsInCall c.stage → n.walk ≡ Asks place w state rest → (IsFlowOf job c.flow → IsFlowOf job flow)
    → ((view : View) (walk : Walk) (latest : List ℤ) → DoesRest view walk c.flow → WasAnswered view walk (record { given = Number value; latest = latest }) flow)
    → told' ≡ told ++ item.Value (proc c.me) (epoch_no c.epoch) (call_no c.calls) value ∷ []
    → Takes job (returns_number n rest value) moved.Acted (record c { flow = flow; stage = stage.Walking }) sent sent told told'
gives_number_so job c n place w state rest value flow sent told told' h is at of_job answers wrote = record {
  says = refl;
  node = goes_walking job c n place w state rest (Number value) flow h is at (number_fits w value) of_job answers;
  sends = sym (append-nil sent);
  items = rw (h.me, h.epoch, h.calls) wrote;
}

-- elements that fit are given
pub gives_elements_so : (job : Job) (c : Standing) (n : Node) (place : TextPlace) (w : Wanted) (state : State) (rest : Reply → Walk) (elements : List ℤ) (flow : Flowing) (sent : List (Proc × Message)) (told told' : List Item)
    → IsNodeOf job c n → IsInCall c.stage → n.walk ≡ Asks place w state rest → Fits w (Elements elements)
    → ((view : View) (walk : Walk) → IsFlowOf job c.flow → DoesRest view walk c.flow → IsGivenFitting job.names walk (Elements elements) → IsFlowOf job flow)
    → ((view : View) (walk : Walk) (latest : List ℤ) → DoesRest view walk c.flow → WasAnswered view walk (record { given = Elements elements; latest = latest }) flow)
    → told' ≡ told ++ item.Shifted (proc c.me) (epoch_no c.epoch) (call_no c.calls) elements ∷ []
    → Takes job (returns_elements n rest elements) moved.Acted (record c { flow = flow; stage = stage.Walking }) sent sent told told'
gives_elements_so job c n place w state rest elements flow sent told told' h is at fits of_job answers wrote =
    let here = (in_call_at job c n is h).1 in
    let fitting : IsGivenFitting job.names n.walk (Elements elements) =
    subst (λ (x : Walk). IsGivenFitting job.names x (Elements elements)) (sym at) (subst (StaysShaped job.names) at here.along.shaped, fits) in
    record {
      says = refl;
      node = goes_walking job c n place w state rest (Elements elements) flow h is at fits (λ of. of_job c.view n.walk of here.along.does fitting) answers;
      sends = sym (append-nil sent);
      items = rw (h.me, h.epoch, h.calls) wrote;
    }

-- ---- the entry

-- all calls that can come have a number
pub has_number : (job : Job) (c : Standing) (n : Node) (place : TextPlace) (w : Wanted) (state : State) (rest : Reply → Walk) → IsNodeOf job c n → c.stage ≡ stage.Walking
    → n.walk ≡ Asks place w state rest → c.calls < 20000
has_number job c n place w state rest h is at =
    let here = walks_at job c n is h in
    go here.1.left (subst (λ (x : Walk). IsWithin x here.1.left) at here.1.within) here.1.few
  where
    go : (left : ℕ) → IsWithin (Asks place w state rest) left → n.calls + left ≤ 20000 → c.calls < 20000
    go zero within few = absurd within
    go (suc k) within few = omega (arith, few, h.calls)

next_call : (epoch calls : ℕ) → kept.goes_on epoch calls epoch (suc calls) ≡ true
next_call epoch calls =
    or_right (nat_lt epoch epoch) _ (and_from (epoch == epoch) (nat_le calls (suc calls)) (eq-eqb epoch epoch refl) (le-leb calls (suc calls) (omega arith)))

-- in the call it walks along as before, and the call that it is in is counted already
pub walks_in : (job : Job) (c : Standing) (n : Node) (s : Stage) (at : node.Stage) (texts : ℕ → List Text) (calls : ℕ) (box : Kept) → WalksAlong job 20000 c n
    → WalksAlong job 20001 (record c { calls = calls; stage = s; inbox = box }) (record n { calls = suc n.calls; stage = at; texts = texts })
walks_in job c n s at texts calls box h = record {
  sees = h.sees;
  does = h.does;
  carried = h.carried;
  shaped = h.shaped;
  placed = h.placed;
  left = h.left;
  within = h.within;
  few = let few : n.calls + h.left ≤ 20000 = h.few in omega (arith, few);
}

goes_gathering : (job : Job) (c : Standing) (n : Node) (place : TextPlace) (w : Wanted) (state : State) (rest : Reply → Walk) (next : ℕ) (box : Kept) → IsNodeOf job c n → c.stage ≡ stage.Walking
    → n.walk ≡ Asks place w state rest → gathers_parts w ≡ true → next ≡ suc c.calls → ComesTo c next box → IsNodeOf job (record c { calls = next; stage = stage.Gathering; inbox = box }) (entered node.Gathering n)
goes_gathering job c n place w state rest next box h is at parts is_next comes =
    let here = walks_at job c n is h in
    let number : suc n.calls ≡ next = ap suc h.calls ∙ sym is_next in
    let on : kept.goes_on n.epoch n.calls c.epoch next ≡ true =
    subst (λ (k : ℕ). kept.goes_on n.epoch n.calls c.epoch k ≡ true) number (subst (λ (d : ℕ). kept.goes_on n.epoch n.calls d (suc n.calls) ≡ true) h.epoch (next_call n.epoch n.calls)) in
    record {
      me = h.me;
      ranks = h.ranks;
      epoch = h.epoch;
      comm = h.comm;
      present = h.present;
      member = h.member;
      role = h.role;
      calls = number;
      bare = h.bare;
      is_flow = h.is_flow;
      knows =
          subst (λ (d : ℕ). Knows n.me d (suc n.calls) n.lost n.texts box) (sym h.epoch)
          (subst (λ (k : ℕ). Knows n.me c.epoch k n.lost n.texts box) (sym number) (comes n.me n.epoch n.calls n.lost n.texts on h.knows));
      stands = (refl, record { along = walks_in job c n stage.Gathering (node.Calling node.Gathering) n.texts next box here.1; told = here.2; begun = here.3; asks = subst (AsksSuch gathers_parts) (sym at) parts });
    }

pub enters_so : (job : Job) (c : Standing) (n : Node) (place : TextPlace) (w : Wanted) (state : State) (rest : Reply → Walk) (next : ℕ) (box : Kept) (meant : ℕ → List ℤ) (entering : Proc → Epoch → CallNo → Item)
    (sent sent' : List (Proc × Message)) (told told' : List Item) → IsNodeOf job c n → c.stage ≡ stage.Walking → n.walk ≡ Asks place w state rest → gathers_parts w ≡ true → next ≡ suc c.calls → ComesTo c next box
    → sent' ≡ sent ++ to_seats c.me (λ x. message.Part (epoch_no c.epoch) (call_no next) (meant x)) 0 c.comm
    → told' ≡ told ++ entering (proc c.me) (epoch_no c.epoch) (call_no next) ∷ []
    → Takes job (enters n node.Gathering (entering (proc n.me) (epoch_no n.epoch) (call_no (suc n.calls))) (λ x. part n (meant x) ∷ [])) moved.Acted
    (record c { calls = next; stage = stage.Gathering; inbox = box }) sent sent' told told'
enters_so job c n place w state rest next box meant entering sent sent' told told' h is at parts is_next comes went wrote =
    let number : suc n.calls ≡ next = ap suc h.calls ∙ sym is_next in
    record {
      says = refl;
      node = goes_gathering job c n place w state rest next box h is at parts is_next comes;
      sends =
          went
          ∙ ap (λ (l : List (Proc × Message)). sent ++ l)
          (sym (posted_places n.me (λ x. part n (meant x)) n.comm 0 ∙ (λ i. to_seats (h.me i) (λ x. message.Part (epoch_no (h.epoch i)) (call_no (number i)) (meant x)) 0 (h.comm i))));
      items = wrote ∙ sym (λ i. told ++ entering (proc (h.me i)) (epoch_no (h.epoch i)) (call_no (number i)) ∷ []);
    }

pub enters_there : (job : Job) (c after : Standing) (n : Node) (place : TextPlace) (w : Wanted) (state : State) (rest : Reply → Walk) (next : ℕ) (meant : ℕ → List ℤ) (entering : Proc → Epoch → CallNo → Item)
    (sent sent' : List (Proc × Message)) (told told' : List Item) → IsNodeOf job c n → c.stage ≡ stage.Walking → n.walk ≡ Asks place w state rest → gathers_parts w ≡ true → next ≡ suc c.calls
    → after ≡ record c { calls = next; stage = stage.Gathering; inbox = after.inbox } → ComesTo c next after.inbox
    → sent' ≡ sent ++ to_seats c.me (λ x. message.Part (epoch_no c.epoch) (call_no next) (meant x)) 0 c.comm
    → told' ≡ told ++ entering (proc c.me) (epoch_no c.epoch) (call_no next) ∷ []
    → Takes job (enters n node.Gathering (entering (proc n.me) (epoch_no n.epoch) (call_no (suc n.calls))) (λ x. part n (meant x) ∷ [])) moved.Acted after sent sent' told told'
enters_there job c after n place w state rest next meant entering sent sent' told told' h is at parts is_next same comes went wrote =
    subst (λ (s : Standing). Takes job (enters n node.Gathering (entering (proc n.me) (epoch_no n.epoch) (call_no (suc n.calls))) (λ x. part n (meant x) ∷ [])) moved.Acted s sent sent' told told') (sym same)
    (enters_so job c n place w state rest next after.inbox meant entering sent sent' told told' h is at parts is_next comes went wrote)

-- the place to which the elements of a shift go is counted from one's own
pub enters_shift_there : (job : Job) (c after : Standing) (n : Node) (place : TextPlace) (by : ℕ) (own : List ℤ) (state : State) (rest : Reply → Walk) (next mine target : ℕ)
    (sent sent' : List (Proc × Message)) (told told' : List Item) → IsNodeOf job c n → c.stage ≡ stage.Walking → n.walk ≡ Asks place (wanted.Shift by own) state rest → next ≡ suc c.calls
    → place_in c.comm c.me ≡ Some mine → target ≡ target_of (length c.comm) by mine
    → after ≡ record c { calls = next; stage = stage.Gathering; inbox = after.inbox } → ComesTo c next after.inbox
    → sent' ≡ sent ++ to_seats c.me (λ x. message.Part (epoch_no c.epoch) (call_no next) (share_of (Some target) own x)) 0 c.comm
    → told' ≡ told ++ item.Shift (proc c.me) (epoch_no c.epoch) (call_no next) by own ∷ []
    → Takes job (enters_shift n by own) moved.Acted after sent sent' told told'
enters_shift_there job c after n place by own state rest next mine target sent sent' told told' h is at is_next there to same comes went wrote =
    let goes : target_of (node.size n) by (node.my_place n) ≡ target =
    (λ i. target_of (length (h.comm i)) by (my_place_is n c.comm c.me mine h.comm h.me there i)) ∙ sym to in
    subst (λ (d : ℕ). Takes job (enters n node.Gathering (item.Shift (proc n.me) (epoch_no n.epoch) (call_no (suc n.calls)) by own) (λ x. part n (share_of (Some d) own x) ∷ [])) moved.Acted after sent sent' told told') (sym goes)
    (enters_there job c after n place (wanted.Shift by own) state rest next (share_of (Some target) own) (λ p e k. item.Shift p e k by own) sent sent' told told' h is at refl is_next same comes went wrote)

pub walks_with_place : (job : Job) (c : Standing) (n : Node) → IsNodeOf job c n → c.stage ≡ stage.Walking → place_in c.comm c.me ≡ None → ⊥
walks_with_place job c n h is none =
    let here : has_place n.comm n.me ≡ true = (walks_at job c n is h).1.placed in
    let no : has_place n.comm n.me ≡ false = rw (h.comm, h.me) (has_place_in c.comm c.me ∙ ap is_some none) in
    absurd (true≢false (sym here ∙ no))

-- ---- what is asked

of_asked : (walk : Walk) (told : Wanted) (P : Walk → Type 0) → AsksFor walk told
    → ((place : TextPlace) (state : State) (rest : Reply → Walk) → walk ≡ Asks place told state rest → P (Asks place told state rest)) → P walk
of_asked (Ends state) told P asks goes = absurd asks
of_asked (Passes rest) told P asks goes = absurd asks
of_asked (Prints printed rest) told P asks goes = absurd asks
of_asked (Asks place wanted state rest) told P asks goes =
    subst P (ap (λ (w : Wanted). Asks place w state rest) asks) (goes place state rest (ap (λ (w : Wanted). Asks place w state rest) (sym asks)))

-- the walk asks for what the flow wants
pub asks_so : (job : Job) (c : Standing) (n : Node) (told : Wanted) (P : Walk → Type 0) → IsNodeOf job c n → c.stage ≡ stage.Walking
    → ((walk : Walk) → DoesRest c.view walk c.flow → AsksFor walk told)
    → ((place : TextPlace) (state : State) (rest : Reply → Walk) → n.walk ≡ Asks place told state rest → P (Asks place told state rest)) → P n.walk
asks_so job c n told P h is asked goes =
    let here = walks_at job c n is h in
    of_asked n.walk told P (asked n.walk here.1.does) goes

pub is_carried_out : (job : Job) (c : Standing) (n : Node) (place : TextPlace) (w : Wanted) (state : State) (rest : Reply → Walk) → IsNodeOf job c n → c.stage ≡ stage.Walking
    → n.walk ≡ Asks place w state rest → is_carried w ≡ true
is_carried_out job c n place w state rest h is at =
    let carried : OnlyCarried (Asks place w state rest) = subst OnlyCarried at (walks_at job c n is h).1.carried in
    carried.0

-- what is carried out is a barrier, a reduction, a shift or an agreement
pub is_one_of : (w : Wanted) → is_carried w ≡ true → (w ≡ wanted.Barrier → ⊥) → ((op : Op) (own : ℤ) → w ≡ wanted.Reduce op own → ⊥) → ((flag : ℤ) → w ≡ wanted.Agree flag → ⊥)
    → ((by : ℕ) (own : List ℤ) → w ≡ wanted.Shift by own → ⊥) → ⊥
is_one_of wanted.Barrier is first second third fourth = first refl
is_one_of (wanted.Reduce op own) is first second third fourth = second op own refl
is_one_of (wanted.Agree flag) is first second third fourth = third flag refl
is_one_of (wanted.Shift by own) is first second third fourth = fourth by own refl
is_one_of (wanted.Group g start depth) is first second third fourth = absurd cc
is_one_of (wanted.Attach g m) is first second third fourth = absurd cc
is_one_of (wanted.Store g m piece) is first second third fourth = absurd cc
is_one_of (wanted.Commit g) is first second third fourth = absurd cc
is_one_of (wanted.Close g) is first second third fourth = absurd cc
is_one_of (wanted.Restore g m stamp) is first second third fourth = absurd cc
is_one_of (wanted.Delete g stamp) is first second third fourth = absurd cc

-- it gathers parts
front_so : (job : Job) (n : Node) (w : Wanted) (rest : Reply → Walk) → gathers_parts w ≡ true → in_gathering n w rest ≡ in_call (job_setup job) n w rest node.Gathering
front_so job n wanted.Barrier rest is = refl
front_so job n (wanted.Reduce op own) rest is = refl
front_so job n (wanted.Agree flag) rest is = absurd cc
front_so job n (wanted.Shift by own) rest is = refl
front_so job n (wanted.Group g start depth) rest is = absurd cc
front_so job n (wanted.Attach g m) rest is = absurd cc
front_so job n (wanted.Store g m piece) rest is = absurd cc
front_so job n (wanted.Commit g) rest is = absurd cc
front_so job n (wanted.Close g) rest is = absurd cc
front_so job n (wanted.Restore g m stamp) rest is = absurd cc
front_so job n (wanted.Delete g stamp) rest is = absurd cc

-- ---- waiting for parts

pub asks_there : (job : Job) (c : Standing) (n : Node) → IsNodeOf job c n → c.stage ≡ stage.Gathering → at_of n.walk ≡ at.Outward
asks_there job c n h is = asks_outward gathers_parts n.walk (gathers_at job c n is h).1.asks

pub at_its_statement : (job : Job) (c : Standing) (n : Node) (found : At) → IsNodeOf job c n → c.stage ≡ stage.Gathering → ((view : View) (walk : Walk) → DoesRest view walk c.flow → found ≡ at_of walk)
    → found ≡ at.Outward
at_its_statement job c n found h is told =
    let here = gathers_at job c n is h in
    told c.view n.walk here.1.along.does ∙ asks_outward gathers_parts n.walk here.1.asks

pub has_its_place : (job : Job) (c : Standing) (n : Node) → IsNodeOf job c n → c.stage ≡ stage.Gathering → place_in c.comm c.me ≡ None → ⊥
has_its_place job c n h is none =
    let here : has_place n.comm n.me ≡ true = (gathers_at job c n is h).1.along.placed in
    let no : has_place n.comm n.me ≡ false = rw (h.comm, h.me) (has_place_in c.comm c.me ∙ ap is_some none) in
    absurd (true≢false (sym here ∙ no))

-- the step of a node that gathers, by the answer of the poll
pub gathers_so : (job : Job) (c after : Standing) (n : Node) (w : Wanted) (known : List Known) (answer : CollPoll) (said : Moved) (sent sent' : List (Proc × Message)) (told told' : List Item)
    → IsNodeOf job c n → c.stage ≡ stage.Gathering → ((walk : Walk) → DoesRest c.view walk c.flow → AsksFor walk w) → (gathers_parts w ≡ true → StandsFor known n w) → answer ≡ answer_of known
    → ((place : TextPlace) (state : State) (rest : Reply → Walk) → n.walk ≡ Asks place w state rest → StandsFor known n w → Steps job n (acts_by n w rest answer) said after sent sent' told told')
    → Steps job n (next (job_setup job) n) said after sent sent' told told'
gathers_so job c after n w known answer said sent sent' told told' h is asked stands same goes =
    let here = gathers_at job c n is h in
    by_stage job after n (node.Calling node.Gathering) said sent sent' told told' here.0
    (of_asked n.walk w (λ (walk : Walk). Steps job n (in_asked_call (job_setup job) n node.Gathering walk) said after sent sent' told told') (asked n.walk here.1.along.does)
    (λ place state rest at.
    let only : gathers_parts w ≡ true = subst (AsksSuch gathers_parts) at here.1.asks in
    let there : StandsFor known n w = stands only in
    let acts : in_call (job_setup job) n w rest node.Gathering ≡ acts_by n w rest answer = sym (front_so job n w rest only) ∙ answers known n w rest there ∙ ap (acts_by n w rest) (sym same) in
    subst (λ (a : Option Act). Steps job n a said after sent sent' told told') (sym acts) (goes place state rest at there)))

-- the step of a node that gathers, by the action that is enabled
gathers_by : (job : Job) (c after : Standing) (n : Node) (w : Wanted) (said : Moved) (sent sent' : List (Proc × Message)) (told told' : List Item)
    → IsNodeOf job c n → c.stage ≡ stage.Gathering → ((walk : Walk) → DoesRest c.view walk c.flow → AsksFor walk w)
    → ((place : TextPlace) (state : State) (rest : Reply → Walk) → n.walk ≡ Asks place w state rest → gathers_parts w ≡ true → Steps job n (in_gathering n w rest) said after sent sent' told told')
    → Steps job n (next (job_setup job) n) said after sent sent' told told'
gathers_by job c after n w said sent sent' told told' h is asked goes =
    let here = gathers_at job c n is h in
    by_stage job after n (node.Calling node.Gathering) said sent sent' told told' here.0
    (of_asked n.walk w (λ (walk : Walk). Steps job n (in_asked_call (job_setup job) n node.Gathering walk) said after sent sent' told told') (asked n.walk here.1.along.does)
    (λ place state rest at.
    let only : gathers_parts w ≡ true = subst (AsksSuch gathers_parts) at here.1.asks in
    subst (λ (a : Option Act). Steps job n a said after sent sent' told told') (front_so job n w rest only) (goes place state rest at only)))

-- with all parts there it does what is done then
pub whole_goes : (job : Job) (c after : Standing) (n : Node) (w : Wanted) (said : Moved) (sent sent' : List (Proc × Message)) (told told' : List Item)
    → IsNodeOf job c n → c.stage ≡ stage.Gathering → ((walk : Walk) → DoesRest c.view walk c.flow → AsksFor walk w) → (gathers_parts w ≡ true → are_gathered n w ≡ true)
    → ((place : TextPlace) (state : State) (rest : Reply → Walk) → n.walk ≡ Asks place w state rest → Steps job n (gathered n w rest) said after sent sent' told told')
    → Steps job n (next (job_setup job) n) said after sent sent' told told'
whole_goes job c after n w said sent sent' told told' h is asked whole goes =
    gathers_by job c after n w said sent sent' told told' h is asked (λ place state rest at only.
    let acts : in_gathering n w rest ≡ gathered n w rest =
    ap (λ (b : Bool). if b then gathered n w rest else option_map (returns_error n) (gathering_error n w)) (whole only) in
    subst (λ (a : Option Act). Steps job n a said after sent sent' told told') (sym acts) (goes place state rest at))

-- it waits on
pub waits_so : (job : Job) (c : Standing) (n : Node) (sent : List (Proc × Message)) (told : List Item) → IsNodeOf job c n → c.stage ≡ stage.Gathering → Steps job n None moved.Quiet c sent sent told told
waits_so job c n sent told h is =
    record { says = sym (ap (λ (s : node.Stage). if node.is_over s then moved.Ended else moved.Quiet) (gathers_at job c n is h).0); node = h; sends = refl; items = refl }

-- a part is still to come
pub waits_at : (job : Job) (c : Standing) (n : Node) (w : Wanted) (sent : List (Proc × Message)) (told : List Item) → IsNodeOf job c n → c.stage ≡ stage.Gathering
    → ((walk : Walk) → DoesRest c.view walk c.flow → AsksFor walk w) → (gathers_parts w ≡ true → IsSeen glance.Waiting n w)
    → Steps job n (next (job_setup job) n) moved.Quiet c sent sent told told
waits_at job c n w sent told h is asked seen =
    gathers_by job c c n w moved.Quiet sent sent told told h is asked (λ place state rest at only.
    let here = seen only in
    let acts : in_gathering n w rest ≡ None =
    ap (λ (b : Bool). if b then gathered n w rest else option_map (returns_error n) (gathering_error n w)) here.0 ∙ ap (option_map (returns_error n)) here.1 in
    subst (λ (a : Option Act). Steps job n a moved.Quiet c sent sent told told) (sym acts) (waits_so job c n sent told h is))
