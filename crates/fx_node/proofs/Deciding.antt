-- The decision of the ballot of the next epoch: the epoch begins with those who voted, or the process ends.
use Rattle.std.proofs.Common.{◌≡◌, All, ℕ, ◌<◌, ◌≤◌, suc, Bool, true, false, ◌||◌, ◌==◌, List, [], ◌∷◌, ◌++◌, length, Some, inl, inr, refl, sym, ap, subst, ◌∙◌, arith}
use Rattle.std.specs.Prelude.{◌&&◌, if◌then◌else◌, nat_le, nat_lt, slice_get}
use Rattle.std.specs.Ordering.{nat_cmp}
use Rattle.std.specs.Cmp.{nat_cmp_total, unsigned_tied}
use Rattle.std.specs.FinSet as set
use Rattle.std.proofs.lemmas.List.{append-nil}
use Rattle.std.proofs.lemmas.Bool.{lt-ltb, eq-eqb, eqb-true, or_left, or_right, cases_lt, cases_Bool, le-ltb}
use Rattle.fx_ballot.specs.Names.{has, seat_of}
use Rattle.fx_base.specs.declared.names.Proc.{Proc}
use Rattle.fx_base.specs.declared.names.Role.{Role}
use Rattle.fx_check.specs.Rules.{count_of}
use Rattle.fx_comm.specs.Seats.{AllPresent, Seat, repaired}
use Rattle.fx_comm.proofs.Repairs.{repaired_present}
use Rattle.std.proofs.lemmas.List.Elements.{All-cons, All-head, All-nil, All-tail}
use Rattle.fx_fleet.specs.Runs.{job_setup}
use Rattle.fx_item.specs.declared.item.Item.{Item}
use Rattle.fx_item.specs.declared.item.Item.TheVariants as item
use Rattle.fx_link.specs.declared.message.Message.{Message}
use Rattle.fx_link.specs.declared.slot.Slot.{Slot}
use Rattle.fx_machine.specs.Ballots.{all_final, arrived, decides_epoch, ends, is_end, repairs, role_behind, voters}
use Rattle.fx_machine.specs.Nodes.{Node, Act}
use Rattle.fx_machine.specs.Numbers.{proc, epoch_no}
use Rattle.fx_machine.specs.Reading.{is_join}
use Rattle.fx_machine.specs.Texts.{Text}
use Rattle.fx_node.specs.declared.node.Moved.{Moved}
use Rattle.fx_node.specs.declared.node.Moved.TheVariants as moved
use Rattle.fx_node.specs.declared.stage.Stage.TheVariants as stage
use Rattle.fx_inbox.specs.Keeping as kept
use Rattle.fx_inbox.specs.Keeping.{Kept, Knows}
use Rattle.fx_node.specs.Standing.{Standing, IsDeciding, IsNodeOf}
use Rattle.fx_node.specs.Stepping.{Takes}
use Rattle.fx_script.specs.declared.job.Job.{Job}

-- an epoch behind another isn't epoch 0
is_later : (epoch : ℕ) → 0 < suc epoch
is_later epoch = omega arith

-- ---- who voted is among the voters

has_first : (b : Bool) (q me : ℕ) (v : List ℕ) → b ≡ true → (q == me) ≡ true → has (if b then q ∷ v else v) me ≡ true
has_first true q me v is e = or_left (q == me) (has v me) e
has_first false q me v is e = absurd cc

has_later : (b : Bool) (q me : ℕ) (v : List ℕ) → has v me ≡ true → has (if b then q ∷ v else v) me ≡ true
has_later true q me v e = or_right (q == me) (has v me) e
has_later false q me v e = e

at_first : (b : Bool) (x vote : Slot) (xs : List Slot) (k : ℕ) → b ≡ true → slice_get (x ∷ xs) (if b then 0 else suc k) ≡ Some vote → vote ≡ x
at_first true x vote xs k is e = let same : Some x ≡ Some vote = e in cc
at_first false x vote xs k is e = absurd cc

at_later : (b : Bool) (x vote : Slot) (xs : List Slot) (k : ℕ) → b ≡ false → slice_get (x ∷ xs) (if b then 0 else suc k) ≡ Some vote → slice_get xs k ≡ Some vote
at_later true x vote xs k is e = absurd cc
at_later false x vote xs k is e = e

there_later : (b r : Bool) → b ≡ false → (b || r) ≡ true → r ≡ true
there_later true r is e = absurd cc
there_later false r is e = e

has_voter : (test : Slot → Bool) (qs : List ℕ) (xs : List Slot) (me : ℕ) (vote : Slot) → has qs me ≡ true → slice_get xs (seat_of qs me) ≡ Some vote → test vote ≡ true
    → has (voters test qs xs) me ≡ true
has_voter test [] xs me vote there found is = absurd cc
has_voter test (q ∷ qs) [] me vote there found is = absurd cc
has_voter test (q ∷ qs) (x ∷ xs) me vote there found is = elim (cases_Bool (q == me)) [
  | inl e ↦ has_first (test x) q me (voters test qs xs) (ap test (sym (at_first (q == me) x vote xs (seat_of qs me) e found)) ∙ is) e
  | inr e ↦ has_later (test x) q me (voters test qs xs) (has_voter test qs xs me vote (there_later (q == me) (has qs me) e there) (at_later (q == me) x vote xs (seat_of qs me) e found) is)
]

-- ---- their set

either_way : (present : List ℕ) (me q : ℕ) (b : Bool) → (q == me) ≡ b → has present me ≡ true → (b || has present q) ≡ has present q
either_way present me q true e there = sym (ap (has present) (eqb-true q me e) ∙ there)
either_way present me q false e there = refl

-- with itself put in the set stays that of the list
pub members_same : (s : set.FinSet nat_cmp) (present : List ℕ) (me : ℕ) → ((q : ℕ) → set.contains s q ≡ has present q) → has present me ≡ true → set.contains (set.insert s me) ≡ has present
members_same s present me same there = λ i. λ q. each q i
  where
    each : (q : ℕ) → set.contains (set.insert s me) q ≡ has present q
    each q = rw (set.contains-insert nat_cmp_total s me q, unsigned_tied q me, same q) (either_way present me q (q == me) refl there)

itself : (a : ℕ) → (a == a) ≡ true
itself a = eq-eqb a a refl

-- a set that something was put in isn't empty
pub some_member : (s : set.FinSet nat_cmp) (me : ℕ) → 0 < set.len (set.insert s me)
some_member s me = elim (cases_lt 0 (set.len (set.insert s me))) [
  | inl some ↦ some
  | inr none ↦
      let zero : set.len (set.insert s me) ≡ 0 = omega (arith, none) in
      let there : set.contains (set.insert s me) me ≡ true = rw (set.contains-insert nat_cmp_total s me me, unsigned_tied me me, itself me) refl in
      let gone : set.contains (set.insert s me) me ≡ false = ap (λ (t : set.FinSet nat_cmp). set.contains t me) (set.empty_of_len (set.insert s me) zero) ∙ set.contains-empty nat_cmp me in
      absurd cc
]

-- ---- all with a place are processes

contains_so : (s : set.FinSet nat_cmp) (present : List ℕ) (me bound q : ℕ) → ((p : ℕ) → set.contains s p ≡ has present p) → All (λ p. p < bound) present → me < bound
    → set.contains (set.insert s me) q ≡ true → q < bound
contains_so s present me bound q same all own is = go (q == me) refl (sym (set.contains-insert nat_cmp_total s me q ∙ ap (λ (b : Bool). b || set.contains s q) (unsigned_tied q me)) ∙ is)
  where
    among : (qs : List ℕ) → All (λ p. p < bound) qs → has qs q ≡ true → q < bound
    among [] all is = absurd cc
    among (x ∷ qs) all is = elim (cases_Bool (x == q)) [
      | inl e ↦ subst (λ (p : ℕ). p < bound) (eqb-true x q e) (All-head (λ p. p < bound) x qs all)
      | inr e ↦ among qs (All-tail (λ p. p < bound) x qs all) (there_later (x == q) (has qs q) e is)
    ]

    go : (b : Bool) → (q == me) ≡ b → (b || set.contains s q) ≡ true → q < bound
    go true e is = subst (λ (p : ℕ). p < bound) (sym (eqb-true q me e)) own
    go false e is = among present all (sym (same q) ∙ is)

seats_so : (bound : ℕ) (test : ℕ → Bool) (seats : List Seat) → ((q : ℕ) → test q ≡ true → q < bound) → AllPresent test seats → All (λ (s : Seat). s.1.0 < bound) seats
seats_so bound test [] low all = All-nil (λ (s : Seat). s.1.0 < bound)
seats_so bound test (s ∷ seats) low all = All-cons (λ (s : Seat). s.1.0 < bound) s seats (low s.1.0 all.0) (seats_so bound test seats low all.1)

pub repaired_so : (bound me : ℕ) (old comm : List Seat) (s : set.FinSet nat_cmp) (present : List ℕ) → comm ≡ repaired old (set.contains (set.insert s me)) → ((p : ℕ) → set.contains s p ≡ has present p)
    → All (λ p. p < bound) present → me < bound → All (λ (s : Seat). s.1.0 < bound) comm
repaired_so bound me old comm s present is same all own =
    subst (λ (l : List Seat). All (λ (s : Seat). s.1.0 < bound) l) (sym is)
    (seats_so bound (set.contains (set.insert s me)) (repaired old (set.contains (set.insert s me))) (λ q. contains_so s present me bound q same all own) (repaired_present (set.contains (set.insert s me)) old))

-- ---- the next epoch

-- all that the code found out
pub record Found (job : Job) (c : Standing) (n : Node) (slots : List Slot) (next : ℕ) (comm : List Seat) (present : List ℕ) (role : Role) (inbox : Kept) (members : set.FinSet nat_cmp) : Type 0 where
  pub is_next : next ≡ suc c.epoch
  pub present_is : present ≡ voters (is_join (suc c.epoch)) c.present slots
  pub members_are : (q : ℕ) → set.contains members q ≡ has present q
  pub comm_is : comm ≡ repaired c.comm (set.contains (set.insert members c.me))
  pub role_is : role ≡ role_behind n
  pub knows : (me before calls : ℕ) (lost : ℕ → Bool) (texts : ℕ → List Text) → kept.goes_on before calls next 0 ≡ true → Knows me before calls lost texts c.inbox → Knows me next 0 lost texts inbox

abbrev pub those : Node → List Slot → List ℕ
those n slots = voters (is_join (suc n.epoch)) n.present slots

same_comm : (n : Node) (c : Standing) (slots : List Slot) (comm : List Seat) (present : List ℕ) (members : set.FinSet nat_cmp) → n.comm ≡ c.comm → n.me ≡ c.me
    → present ≡ those n slots → has (those n slots) n.me ≡ true → ((q : ℕ) → set.contains members q ≡ has present q) → comm ≡ repaired c.comm (set.contains (set.insert members c.me))
    → repaired n.comm (has (those n slots)) ≡ comm
same_comm n c slots comm present members is_comm is_me are there same e =
    let here : has present c.me ≡ true = ap (λ (l : List ℕ). has l c.me) are ∙ ap (has (those n slots)) (sym is_me) ∙ there in
    ap (λ (l : List Seat). repaired l (has (those n slots))) is_comm
    ∙ ap (λ (l : List ℕ). repaired c.comm (has l)) (sym are)
    ∙ ap (repaired c.comm) (sym (members_same members present c.me same here))
    ∙ sym e

later : (epoch calls next : ℕ) → epoch < next → kept.goes_on epoch calls next 0 ≡ true
later epoch calls next low = or_left (nat_lt epoch next) ((epoch == next) && nat_le calls 0) (lt-ltb epoch next low)

pub begins_epoch : (job : Job) (c : Standing) (n : Node) (vote : Slot) (slots : List Slot) (next : ℕ) (comm : List Seat) (present : List ℕ) (role : Role) (inbox : Kept) (members : set.FinSet nat_cmp)
    → IsNodeOf job c n → IsDeciding n vote slots c → Found job c n slots next comm present role inbox members
    → IsNodeOf job (record c { epoch = next; comm = comm; present = present; role = role; calls = 0; stage = stage.Arrived; inbox = inbox }) (arrived (those n slots) n)
begins_epoch job c n vote slots next comm present role inbox members is dec f =
    let of_next : suc n.epoch ≡ next = ap suc is.epoch ∙ sym f.is_next in
    let are : present ≡ those n slots = f.present_is ∙ ap (λ (e : ℕ). voters (is_join (suc e)) c.present slots) (sym is.epoch) ∙ ap (λ (l : List ℕ). voters (is_join (suc n.epoch)) l slots) (sym is.present) in
    let there : has (those n slots) n.me ≡ true = has_voter (is_join (suc n.epoch)) n.present slots n.me vote is.member dec.own dec.valid in
    let low : n.epoch < next = omega (arith, of_next) in
    let before : kept.goes_on n.epoch n.calls next 0 ≡ true = later n.epoch n.calls next low in
    record {
      me = is.me;
      ranks = is.ranks;
      epoch = of_next;
      comm = same_comm n c slots comm present members is.comm is.me are there f.members_are f.comm_is;
      present = sym are;
      member = there;
      role = sym f.role_is;
      calls = refl;
      bare = λ g. refl;
      is_flow = is.is_flow;
      knows = subst (λ (e : ℕ). Knows n.me e 0 n.lost n.texts inbox) (sym of_next) (f.knows n.me n.epoch n.calls n.lost n.texts before is.knows);
      stands = (refl, dec.still, dec.told, is_later n.epoch, refl);
    }

pub begin_takes : (job : Job) (c : Standing) (n : Node) (vote : Slot) (slots : List Slot) (next : ℕ) (comm : List Seat) (present : List ℕ) (role : Role) (inbox : Kept) (members : set.FinSet nat_cmp)
    (size : ℕ) (warn : Bool) (list : List Seat) (sent : List (Proc × Message)) (told told' : List Item)
    → Found job c n slots next comm present role inbox members → size ≡ length comm → warn ≡ nat_lt (length comm) c.ranks → list ≡ comm
    → told' ≡ told ++ item.Repaired (proc c.me) (epoch_no next) size warn list ∷ []
    → IsNodeOf job c n → IsDeciding n vote slots c
    → Takes job (repairs (job_setup job) (arrived (those n slots) n)) moved.Acted (record c { epoch = next; comm = comm; present = present; role = role; calls = 0; stage = stage.Arrived; inbox = inbox }) sent sent told told'
begin_takes job c n vote slots next comm present role inbox members size warn list sent told told' f is_size is_warn is_list items is dec =
    let done = begins_epoch job c n vote slots next comm present role inbox members is dec f in
    let same : (arrived (those n slots) n).comm ≡ comm = done.comm in
    let of_next : suc n.epoch ≡ next = done.epoch in
    record {
      says = refl;
      node = done;
      sends = sym (append-nil sent);
      items = items ∙ ap (λ (x : Item). told ++ x ∷ []) (line size warn list is_size is_warn is_list same of_next);
    }
  where
    line : (size : ℕ) (warn : Bool) (list : List Seat) → size ≡ length comm → warn ≡ nat_lt (length comm) c.ranks → list ≡ comm → repaired n.comm (has (those n slots)) ≡ comm → suc n.epoch ≡ next
        → item.Repaired (proc c.me) (epoch_no next) size warn list
        ≡ item.Repaired (proc n.me) (epoch_no (suc n.epoch)) (length (repaired n.comm (has (those n slots)))) (nat_lt (length (repaired n.comm (has (those n slots)))) (count_of job.ranks)) (repaired n.comm (has (those n slots)))
    line size warn list is_size is_warn is_list same of_next =
        let ranks : c.ranks ≡ count_of job.ranks = is.ranks in
        rw (same, of_next, is_size, is_warn, is_list, ranks, is.me) refl

-- ---- the end

pub not_end_at_first : (n : Node) (slots : List Slot) → n.epoch ≤ 0 → is_end n slots ≡ false
not_end_at_first n slots first = let e : nat_lt 0 n.epoch ≡ false = le-ltb 0 n.epoch first in rw e refl

pub not_end_before : (n : Node) (slots : List Slot) → all_final n slots ≡ false → is_end n slots ≡ false
not_end_before n slots none = elim (cases_Bool (nat_lt 0 n.epoch)) [ inl e ↦ rw (e, none) refl | inr e ↦ rw e refl ]

of_other : {X : Type 0} (P : X → Type 0) (b : Bool) (x y : X) → b ≡ false → P y → P (if b then x else y)
of_other P true x y is p = absurd cc
of_other P false x y is p = p

-- where it isn't the end the epoch begins
pub goes_on : (job : Job) (n : Node) (slots : List Slot) (said : Moved) (after : Standing) (sent sent' : List (Proc × Message)) (told told' : List Item) → is_end n slots ≡ false
    → Takes job (repairs (job_setup job) (arrived (those n slots) n)) said after sent sent' told told' → Takes job (decides_epoch (job_setup job) n slots) said after sent sent' told told'
goes_on job n slots said after sent sent' told told' is takes =
    of_other (λ (act : Act). Takes job act said after sent sent' told told') (is_end n slots) (ends n) (repairs (job_setup job) (arrived (those n slots) n)) is takes
