-- A part that stands among texts is read, where it has the length that is due; and who has finished has entered all calls.
use Rattle.std.proofs.Common.{◌≡◌, ◌≢◌, ℕ, ◌<◌, ◌≤◌, ◌==◌, zero, suc, Bool, true, false, ◌&&◌, ◌||◌, List, [], ◌∷◌, ◌++◌, length, Option, Some, None, inl, inr, arith, refl, ap, sym, subst, ◌∙◌, append_assoc}
use Rattle.std.specs.Prelude.{ℤ, if◌then◌else◌, is_some, is_none}
use Rattle.std.specs.Option.{option_or, option_map}
use Rattle.std.proofs.lemmas.Bool.Decides.{nat_tests}
use Rattle.std.proofs.lemmas.Bool.{cases_eq, cases_lt}
use Rattle.fx_ballot.specs.Names.{Distinct, seat_of}
use Rattle.fx_ballot.proofs.Names.{names_seats, seat_found}
use Rattle.fx_comm.specs.Seats.{Seat, has_place}
use Rattle.fx_link.specs.declared.slot.Slot.{Slot}
use Rattle.fx_script.specs.declared.job.Job.{Job}
use Rattle.fx_walk.specs.declared.wanted.Wanted.{Wanted}
use Rattle.fx_walk.specs.declared.wanted.Wanted.TheVariants as wanted
use Rattle.fx_walk.specs.Plan.{Common, Barrier, Reduce, Shift, common_of, Plan, Stops}
use Rattle.fx_base.specs.declared.names.Op.{Op}
use Rattle.fx_machine.specs.Gathering.{part_of, missing, gathering_error, due_from, source_of, target_of}
use Rattle.fx_machine.specs.Nodes.{Node, members, my_place, size, proc_at}
use Rattle.fx_machine.specs.Numbers.{first_below}
use Rattle.fx_machine.specs.Reading.{OfEpoch, given_that, only, first_read, part_in, vote_in, has_left}
use Rattle.fx_machine.specs.Texts as text
use Rattle.fx_machine.specs.Texts.{Text}
use Rattle.fx_machine.specs.Waits.{ByLoss, ByLeaving}
use Rattle.fx_legal.specs.Calls.{AllAsked}
use Rattle.fx_legal.specs.Ledger.{Ledger, comm_in}
use Rattle.fx_calm.proofs.Lists.{Each, equal}
use Rattle.fx_losses.proofs.Tests.{first_of, second_of}
use Rattle.fx_calls.specs.Bodies.{IsOfParts}
use Rattle.fx_calls.proofs.Calling.{first_is}
use Rattle.fx_calls.proofs.Delivered.{is_part, has_part, Owes, Ordered, part_stays}
use Rattle.fx_calls.proofs.Parts.{meant, place_of, IsPart, TruePart, source_back, target_back}
use Rattle.fx_calls.proofs.Places as places
use Rattle.fx_calls.proofs.Places.{same_length}
use Rattle.fx_calls.proofs.Plans.{PlanAt, IsBehind, MeetsIt, AsLong, EntryAt, entered_alike, entered_as_long, plan_same}

-- ---- readings

some_first : {X : Type 0} (a b : Option X) → is_some a ≡ true → is_some (option_or a b) ≡ true
some_first None b is = absurd (let bad : false ≡ true = is in cc)
some_first (Some x) b is = refl

some_later : {X : Type 0} (a b : Option X) → is_some b ≡ true → is_some (option_or a b) ≡ true
some_later None b is = is
some_later (Some x) b is = refl

pub part_readable : (l : Ledger) (e k a b : ℕ) (test : List ℤ → Bool) (ts : List Text) → Each (TruePart l a b) ts → ((values : List ℤ) → IsPart l e k a b values → test values ≡ true) → has_part e k ts ≡ true
    → is_some (first_read (λ t. only test (part_in e k t)) ts) ≡ true
part_readable l e k a b test [] all due is = absurd (let bad : false ≡ true = is in cc)
part_readable l e k a b test (t ∷ ts) all due is = of (is_part e k t) refl (λ i. part_readable l e k a b test ts all.1 due i) is
  where
    read : (t : Text) → TruePart l a b t → is_part e k t ≡ true → is_some (only test (part_in e k t)) ≡ true
    read (text.Join d kind) x i = absurd (let bad : false ≡ true = i in cc)
    read (text.Jest d r slots) x i = absurd (let bad : false ≡ true = i in cc)
    read (text.Part d j values) x i =
        let epoch : d ≡ e = equal d e (first_of (d == e) (j == k) i) in
        let call : j ≡ k = equal j k (second_of (d == e) (j == k) i) in
        ap (λ (o : Bool). is_some (only test (given_that o values))) i
        ∙ ap (λ (o : Bool). is_some (given_that o values)) (due values (subst (λ (o : ℕ). IsPart l o k a b values) epoch (subst (λ (o : ℕ). IsPart l d o a b values) call x)))
    read (text.Vote d j v) x i = absurd (let bad : false ≡ true = i in cc)
    read (text.Est d j r slots) x i = absurd (let bad : false ≡ true = i in cc)
    read (text.Share d j packed) x i = absurd (let bad : false ≡ true = i in cc)
    read (text.Tell d j known) x i = absurd (let bad : false ≡ true = i in cc)
    read (text.Help d j packed) x i = absurd (let bad : false ≡ true = i in cc)
    read (text.Give d j packed) x i = absurd (let bad : false ≡ true = i in cc)

    of : (o : Bool) → is_part e k t ≡ o → (has_part e k ts ≡ true → is_some (first_read (λ t. only test (part_in e k t)) ts) ≡ true) → (o || has_part e k ts) ≡ true → is_some (first_read (λ t. only test (part_in e k t)) (t ∷ ts)) ≡ true
    of true here later i = some_first (only test (part_in e k t)) (first_read (λ t. only test (part_in e k t)) ts) (read t all.0 here)
    of false far later i = some_later (only test (part_in e k t)) (first_read (λ t. only test (part_in e k t)) ts) (later i)

-- where a join of epoch d + 1 is read, the parts that it owes stand among the texts
pub part_before : (l : Ledger) (a b d k : ℕ) (v : Wanted) (test : Slot → Bool) (before ts : List Text) → l.entered d k a ≡ Some v → IsOfParts v → has_place (comm_in l d) b ≡ true → Ordered l a b before ts
    → is_some (first_read (λ t. only test (vote_in (OfEpoch (suc d)) t)) ts) ≡ true → has_part d k (before ++ ts) ≡ true
part_before l a b d k v test before [] entered parts place all is = absurd (let bad : false ≡ true = is in cc)
part_before l a b d k v test before (t ∷ ts) entered parts place all is =
    of (only test (vote_in (OfEpoch (suc d)) t)) refl (λ i. subst (λ (o : List Text). has_part d k o ≡ true) (append_assoc before (t ∷ []) ts) (part_before l a b d k v test (before ++ t ∷ []) ts entered parts place all.1 i)) is
  where
    here : (t : Text) → Owes l a b before t → is_some (only test (vote_in (OfEpoch (suc d)) t)) ≡ true → has_part d k before ≡ true
    here (text.Join zero kind) x i = absurd (let bad : false ≡ true = sym (ap (λ (o : Bool). is_some (only test (given_that o kind))) (none_zero d)) ∙ i in cc)
      where
        none_zero : (d : ℕ) → (zero == suc d) ≡ false
        none_zero d = grind (arith, nat_tests)
    here (text.Join (suc e) kind) x i = at (suc e == suc d) refl i
      where
        at : (o : Bool) → (suc e == suc d) ≡ o → is_some (only test (given_that o kind)) ≡ true → has_part d k before ≡ true
        at true same j = let eq : suc e ≡ suc d = equal (suc e) (suc d) same in subst (λ (o : ℕ). (j : ℕ) (v : Wanted) → l.entered o j a ≡ Some v → IsOfParts v → has_place (comm_in l o) b ≡ true → has_part o j before ≡ true) (omega (arith, eq)) x k v entered parts place
        at false far j = absurd (let bad : false ≡ true = j in cc)
    here (text.Jest e r slots) x i = absurd (let bad : false ≡ true = i in cc)
    here (text.Part e j values) x i = absurd (let bad : false ≡ true = i in cc)
    here (text.Vote e j o) x i = absurd (let bad : false ≡ true = i in cc)
    here (text.Est e j r slots) x i = absurd (let bad : false ≡ true = i in cc)
    here (text.Share e j packed) x i = absurd (let bad : false ≡ true = i in cc)
    here (text.Tell e j known) x i = absurd (let bad : false ≡ true = i in cc)
    here (text.Help e j packed) x i = absurd (let bad : false ≡ true = i in cc)
    here (text.Give e j packed) x i = absurd (let bad : false ≡ true = i in cc)

    of : (o : Option Slot) → only test (vote_in (OfEpoch (suc d)) t) ≡ o → (is_some (first_read (λ t. only test (vote_in (OfEpoch (suc d)) t)) ts) ≡ true → has_part d k (before ++ t ∷ ts) ≡ true)
        → is_some (option_or o (first_read (λ t. only test (vote_in (OfEpoch (suc d)) t)) ts)) ≡ true → has_part d k (before ++ t ∷ ts) ≡ true
    of None none later i = later i
    of (Some x) at later i = part_stays d k before (t ∷ ts) (here t all.0 (ap is_some at))

-- ---- plans

-- a plan that meets something isn't behind one that stopped
stops_none : (a : Plan) (counters numbers : List ℤ) (u : Plan) → a ≡ Stops counters → IsBehind a numbers u → ⊥
stops_none a counters numbers u same is = subst (λ (o : Plan). IsBehind o numbers u) same is

-- what is in front of a plan
pub plan_before : (job : Job) (l : Ledger) (e k j : ℕ) (u : Plan) → j ≤ k → PlanAt job l e k u → (x : Plan) × PlanAt job l e j x
plan_before job l e zero j u less at = let first : 0 ≡ j = omega (arith, less) in (u, subst (λ (o : ℕ). PlanAt job l e o u) first at)
plan_before job l e (suc k) j u less at = elim (cases_eq j (suc k)) [
  | inl same ↦ (u, subst (λ (o : ℕ). PlanAt job l e o u) (sym same) at)
  | inr ne ↦ plan_before job l e k j at.0 (omega (arith, less, ne)) at.1
]

-- where the plan stops behind k calls, and meets something behind j, j is less; and so all have entered the call behind j
pub all_came : (job : Job) (l : Ledger) (e k j : ℕ) (counters : List ℤ) (u : Plan) (c : Common) → PlanAt job l e k (Stops counters) → PlanAt job l e j u → MeetsIt u c → AllAsked (l.entered e (suc j)) (comm_in l e)
all_came job l e k j counters u c stops meets at = elim (cases_lt j k) [
  | inl less ↦ (plan_before job l e k (suc j) (Stops counters) (omega (arith, less)) stops).1.2
  | inr more ↦ elim (cases_eq j k) [
    | inl same ↦ absurd (subst (λ (o : Plan). MeetsIt o c) (plan_same job l e k u (Stops counters) (subst (λ (o : ℕ). PlanAt job l e o u) same meets) stops) at)
    | inr ne ↦
        let next = plan_before job l e j (suc k) u (omega (arith, more, ne)) meets in
        absurd (stops_none next.1.0 counters _ next.0 (plan_same job l e k next.1.0 (Stops counters) next.1.1 stops) next.1.3)
  ]
]

-- ---- what is due

-- one is the place to which the other gives its elements where the other is the one whose elements it takes
turned : (n by i j : ℕ) → i < n → j < n → (i == target_of n by j) ≡ (j == source_of n by i)
turned n by i j less below = elim (cases_eq j (source_of n by i)) [
  | inl same ↦
      let back = source_back n by i less in
      let there : i ≡ target_of n by j = sym back ∙ sym (ap (target_of n by) same) in
      alike i (target_of n by j) j (source_of n by i) there same
  | inr ne ↦
      let back = target_back n by j below in
      unlike i (target_of n by j) j (source_of n by i) (λ same. ne (sym back ∙ sym (ap (source_of n by) same))) ne
]
  where
    alike : (a b c d : ℕ) → a ≡ b → c ≡ d → (a == b) ≡ (c == d)
    alike a b c d same too = grind (arith, nat_tests, same, too)

    unlike : (a b c d : ℕ) → a ≢ b → c ≢ d → (a == b) ≡ (c == d)
    unlike a b c d ne too = grind (arith, nat_tests, ne, too)

abbrev is_of_parts : Common → Bool
is_of_parts Barrier = true
is_of_parts (Reduce op) = true
is_of_parts (Shift by) = true
is_of_parts other = false

-- what was asked as a call of parts is one
pub parts_alike : (v u : Wanted) → IsOfParts v → common_of u ≡ common_of v → IsOfParts u
parts_alike v u is e = back u (ap is_of_parts e ∙ forth v is)
  where
    forth : (v : Wanted) → IsOfParts v → is_of_parts (common_of v) ≡ true
    forth wanted.Barrier is = refl
    forth (wanted.Reduce op own) is = refl
    forth (wanted.Shift by elements) is = refl
    forth other is = absurd is

    back : (u : Wanted) → is_of_parts (common_of u) ≡ true → IsOfParts u
    back wanted.Barrier is = tt
    back (wanted.Reduce op own) is = tt
    back (wanted.Shift by elements) is = tt
    back other is = absurd (let bad : false ≡ true = is in cc)

barrier_due : (v : Wanted) → IsOfParts v → Barrier ≡ common_of v → (n i j : ℕ) → (0 == due_from v n i j) ≡ true
barrier_due wanted.Barrier is e n i j = refl
barrier_due (wanted.Reduce op own) is e n i j = absurd (let bad : Barrier ≡ Reduce op = e in cc)
barrier_due (wanted.Shift by own) is e n i j = absurd (let bad : Barrier ≡ Shift by = e in cc)
barrier_due other is e n i j = absurd is

reduce_due : (op : Op) (v : Wanted) → IsOfParts v → Reduce op ≡ common_of v → (n i j : ℕ) → (1 == due_from v n i j) ≡ true
reduce_due op wanted.Barrier is e n i j = absurd (let bad : Reduce op ≡ Barrier = e in cc)
reduce_due op (wanted.Reduce other own) is e n i j = refl
reduce_due op (wanted.Shift by own) is e n i j = absurd (let bad : Reduce op ≡ Shift by = e in cc)
reduce_due op other is e n i j = absurd is

shift_due : (by : ℕ) (theirs : List ℤ) (v : Wanted) → IsOfParts v → Shift by ≡ common_of v → AsLong v (wanted.Shift by theirs) → (n i j : ℕ) → i < n → j < n
    → (length (if i == target_of n by j then theirs else []) == due_from v n i j) ≡ true
shift_due by theirs wanted.Barrier is e long n i j less below = absurd (let bad : Shift by ≡ Barrier = e in cc)
shift_due by theirs (wanted.Reduce op own) is e long n i j less below = absurd (let bad : Shift by ≡ Reduce op = e in cc)
shift_due by theirs (wanted.Shift other own) is e long n i j less below =
    ap (λ (o : Bool). length (if o then theirs else []) == due_from (wanted.Shift other own) n i j) (turned n by i j less below)
    ∙ ap (λ (k : ℕ). length (if j == source_of n k i then theirs else []) == due_from (wanted.Shift other own) n i j) (same_by by other e)
    ∙ of (j == source_of n other i)
  where
    same_by : (x y : ℕ) → Shift x ≡ Shift y → x ≡ y
    same_by x y e = cc

    as_many : (x y : ℕ) → x ≡ y → (x == y) ≡ true
    as_many x y same = grind (arith, nat_tests, same)

    of : (o : Bool) → (length (if o then theirs else []) == (if o then length own else 0)) ≡ true
    of true = as_many (length theirs) (length own) long
    of false = refl
shift_due by theirs other is e long n i j less below = absurd is

-- a part of a call has the length that is due
pub parts_due : (v u : Wanted) → IsOfParts v → common_of u ≡ common_of v → AsLong v u → (comm : List Seat) (a b n i j : ℕ) → length comm ≡ n → place_of comm b ≡ i → place_of comm a ≡ j → i < n → j < n
    → (length (meant comm a b u) == due_from v n i j) ≡ true
parts_due v wanted.Barrier is e long comm a b n i j size here there less below = barrier_due v is e n i j
parts_due v (wanted.Reduce op own) is e long comm a b n i j size here there less below = reduce_due op v is e n i j
parts_due v (wanted.Shift by theirs) is e long comm a b n i j size here there less below = rw (size, here, there) (shift_due by theirs v is e long n i j less below)
parts_due v other is e long comm a b n i j size here there less below = absurd (parts_alike v other is e)

-- what a process entered a call with is, as far as this node is concerned, of the length that it waits for
pub part_is_due : (job : Job) (l : Ledger) (e k : ℕ) (n : Node) (p x j : ℕ) (v : Wanted) → IsOfParts v → comm_in l e ≡ n.comm → Distinct (members n) → n.me ≡ p → has_place n.comm p ≡ true → j < size n → proc_at n j ≡ x
    → ((q : ℕ) (u : Wanted) → l.entered e k q ≡ Some u → EntryAt job l e k u) → l.entered e k p ≡ Some v → (values : List ℤ) → IsPart l e k x p values → (length values == due_from v (size n) (my_place n) j) ≡ true
part_is_due job l e k n p x j v parts comm distinct own placed less at entries mine values given =
    ap (λ (o : List ℤ). length o == due_from v (size n) (my_place n) j) given.are
    ∙ parts_due v given.asked parts (entered_alike job l e k given.asked v theirs ours) (entered_as_long job l e k v given.asked ours theirs) (comm_in l e) x p (size n) (my_place n) j
    (ap (λ (seats : List Seat). length seats) comm) (ap (λ (seats : List Seat). place_of seats p) comm ∙ ap (seat_of (members n)) (sym own)) there below less
  where
    ours : EntryAt job l e k v
    ours = entries p v mine

    theirs : EntryAt job l e k given.asked
    theirs = entries x given.asked given.at

    long : length (members n) ≡ size n
    long = same_length n.comm

    there : place_of (comm_in l e) x ≡ j
    there = ap (λ (seats : List Seat). place_of seats x) comm ∙ ap (seat_of (members n)) (sym at) ∙ ((names_seats (members n) distinct).process j (omega (arith, less, long))).1

    below : my_place n < size n
    below = let seat = (seat_found (members n) p (places.has_seat n.comm p ∙ placed)).0 in let mine = ap (seat_of (members n)) own in omega (arith, seat, long, mine)

-- a process that left is named where its place has no part
pub record NoPart (n : Node) (v : Wanted) (q : ℕ) : Type 0 where
  pub place : ℕ
  pub below : place < size n
  pub at : proc_at n place ≡ q
  pub none : is_none (part_of n v place) ≡ true

pub no_part : (n : Node) (v : Wanted) (q : ℕ) → gathering_error n v ≡ Some (ByLeaving q) → NoPart n v q
no_part n v q e = of (missing n v n.lost) refl (first_below (size n) (λ x. is_none (part_of n v x) && has_left n (proc_at n x))) refl e
  where
    same_proc : (a b : ℕ) → Some (ByLeaving a) ≡ Some (ByLeaving b) → a ≡ b
    same_proc a b e = cc

    of : (a : Option ℕ) → missing n v n.lost ≡ a → (b : Option ℕ) → first_below (size n) (λ x. is_none (part_of n v x) && has_left n (proc_at n x)) ≡ b
        → option_or (option_map ByLoss a) (option_map ByLeaving (option_map (proc_at n) b)) ≡ Some (ByLeaving q) → NoPart n v q
    of (Some x) is b left e = absurd (let bad : Some (ByLoss x) ≡ Some (ByLeaving q) = e in cc)
    of None is None left e = absurd (let bad : None ≡ Some (ByLeaving q) = e in cc)
    of None is (Some x) left e =
        let r = first_is (size n) (λ y. is_none (part_of n v y) && has_left n (proc_at n y)) x left in
        record { place = x; below = r.0; at = same_proc (proc_at n x) q e; none = first_of (is_none (part_of n v x)) (has_left n (proc_at n x)) r.1 }
