-- What a process knows that has gathered the parts of all places in its call.
use Rattle.std.proofs.Common.{◌≡◌, ℕ, ◌<◌, ◌==◌, Bool, true, false, List, [], ◌∷◌, map, length, get_or, Option, Some, arith, refl, ap, sym, subst, ◌∙◌}
use Rattle.std.specs.Prelude.{ℤ, pos, if◌then◌else◌, is_some, unwrap_or}
use Rattle.fx_ballot.specs.Names.{seat_at, seat_of, has, Distinct}
use Rattle.fx_ballot.proofs.Names.{seat_found, names_seats}
use Rattle.fx_base.specs.declared.names.Op.{Op}
use Rattle.fx_comm.specs.Seats.{Seat}
use Rattle.fx_store.proofs.Mirrors.{each_at}
use Rattle.std.proofs.lemmas.Bool.Decides.{nat_tests}
use Rattle.fx_walk.specs.declared.wanted.Wanted.{Wanted}
use Rattle.fx_walk.specs.declared.wanted.Wanted.TheVariants as wanted
use Rattle.fx_walk.specs.Plan.{common_of, Reduce, Shift}
use Rattle.fx_walk.specs.Values.{reduced}
use Rattle.fx_machine.specs.Gathering.{source_of, target_of, own_part, due_from, part_of, numbers_of, total, are_gathered}
use Rattle.fx_machine.specs.Nodes.{Node, members, size, proc_at, my_place}
use Rattle.fx_machine.specs.Reading.{only, first_read, part_in}
use Rattle.fx_legal.specs.Calls.{AllAsked, own_number, own_elements}
use Rattle.fx_legal.specs.Ledger.{Ledger, comm_in}
use Rattle.fx_calm.proofs.Lists.{Each, equal}
use Rattle.fx_calls.proofs.Places.{same_length}
use Rattle.fx_calls.proofs.Parts.{place_of, IsPart, TruePart, part_found, part_passes, source_back, source_below, numbers_are, elements_at, all_asked, reduce_is, shift_is}
use Rattle.fx_calls.proofs.Plans as plans
use Rattle.fx_calls.proofs.Plans.{some_of}

is_itself : (a : ℕ) → (a == a) ≡ true
is_itself a = grind (arith, nat_tests)

module _ (l : Ledger) (n : Node) (p : ℕ) (own : n.me ≡ p) (comm : comm_in l n.epoch ≡ n.comm) (apart : Distinct (members n)) (there : has (members n) p ≡ true) (asked : Wanted)
    (entered : l.entered n.epoch n.calls p ≡ Some asked) (alike : (q : ℕ) (v : Wanted) → l.entered n.epoch n.calls q ≡ Some v → common_of v ≡ common_of asked)
    (texts : (q : ℕ) → Each (TruePart l q p) (n.texts q)) where
  abbrev into : ℕ → Option Wanted
  into = l.entered n.epoch n.calls

  -- it stands at its own place
  my_seat : proc_at n (my_place n) ≡ p
  my_seat = ap (λ (o : ℕ). seat_at (members n) (seat_of (members n) o)) own ∙ (seat_found (members n) p there).1

  my_place_is : my_place n ≡ seat_of (members n) p
  my_place_is = ap (seat_of (members n)) own

  my_place_below : my_place n < size n
  my_place_below =
      let below = (seat_found (members n) p there).0 in
      let long = same_length n.comm in
      let mine = my_place_is in
      omega (arith, below, long, mine)

  seat_back : (x : ℕ) → x < size n → seat_of (members n) (proc_at n x) ≡ x
  seat_back x less = ((names_seats (members n) apart).process x (let long = same_length n.comm in omega (arith, less, long))).1

  -- a part is one's own, or of who entered the call
  abbrev IsRead : ℕ → List ℤ → Bool → Type 0
  IsRead x values true = (x ≡ my_place n) × (values ≡ own_part asked)
  IsRead x values false = IsPart l n.epoch n.calls (proc_at n x) p values

  abbrev heard : ℕ → Option (List ℤ)
  heard x = first_read (λ t. only (λ values. length values == due_from asked (size n) (my_place n) x) (part_in n.epoch n.calls t)) (n.texts (proc_at n x))

  read : (x : ℕ) (values : List ℤ) → part_of n asked x ≡ Some values → (b : Bool) → (x == my_place n) ≡ b → IsRead x values b
  read x values is true same =
      (equal x (my_place n) same, sym (some_list (own_part asked) values (sym (ap (λ (b : Bool). if b then Some (own_part asked) else heard x) same) ∙ is)))
    where
      some_list : (a b : List ℤ) → Some a ≡ Some b → a ≡ b
      some_list a b e = cc
  read x values is false far =
      part_found l n.epoch n.calls (proc_at n x) p (λ values. length values == due_from asked (size n) (my_place n) x) (n.texts (proc_at n x)) values (texts (proc_at n x))
      (sym (ap (λ (b : Bool). if b then Some (own_part asked) else heard x) far) ∙ is)

  -- ---- at one place

  entered_own : (x : ℕ) → x ≡ my_place n → into (proc_at n x) ≡ Some asked
  entered_own x e = ap (λ (o : ℕ). into (proc_at n o)) e ∙ ap into my_seat ∙ entered

  entered_at : (x : ℕ) (values : List ℤ) → part_of n asked x ≡ Some values → is_some (into (proc_at n x)) ≡ true
  entered_at x values is = of (x == my_place n) refl
    where
      of : (b : Bool) → (x == my_place n) ≡ b → is_some (into (proc_at n x)) ≡ true
      of true e = ap is_some (entered_own x (equal x (my_place n) e))
      of false e = let r : IsRead x values false = read x values is false e in ap is_some r.at

  comm_as : comm_in l n.epoch ≡ n.comm
  comm_as = comm

  number_at : (op : Op) → common_of asked ≡ Reduce op → own_part asked ≡ own_number (Some asked) ∷ [] → (x : ℕ) (values : List ℤ) → part_of n asked x ≡ Some values
      → get_or values 0 (pos 0) ≡ own_number (into (proc_at n x))
  number_at op of_all mine x values is = of (x == my_place n) refl
    where
      of : (b : Bool) → (x == my_place n) ≡ b → get_or values 0 (pos 0) ≡ own_number (into (proc_at n x))
      of true e =
          let r : IsRead x values true = read x values is true e in
          ap (λ (vs : List ℤ). get_or vs 0 (pos 0)) (r.1 ∙ mine) ∙ sym (ap own_number (entered_own x r.0))
      of false e =
          let r : IsRead x values false = read x values is false e in
          ap (λ (vs : List ℤ). get_or vs 0 (pos 0)) r.are ∙ reduce_is op r.asked (alike (proc_at n x) r.asked r.at ∙ of_all) (comm_in l n.epoch) (proc_at n x) p ∙ sym (ap own_number r.at)

  -- ---- all places

  module _ (all : are_gathered n asked ≡ true) where
    part_there : (x : ℕ) → x < size n → (values : List ℤ) × (part_of n asked x ≡ Some values)
    part_there x less = some_of (part_of n asked x) (each_at (size n) (λ x. is_some (part_of n asked x)) x all less)

    -- all places have entered the call
    pub all_entered : AllAsked (l.entered n.epoch n.calls) (comm_in l n.epoch)
    all_entered =
        subst (AllAsked into) (sym comm)
        (all_asked into n.comm (λ x less. let v = part_there x less in entered_at x v.0 v.1))

    pub total_is : (op : Op) → common_of asked ≡ Reduce op → own_part asked ≡ own_number (Some asked) ∷ [] → total op n asked ≡ reduced op (plans.numbers_of (l.entered n.epoch n.calls) (comm_in l n.epoch))
    total_is op of_all mine =
        ap (reduced op)
        (numbers_are into n.comm (λ x. get_or (numbers_of n asked x) 0 (pos 0))
        (λ x less. let v = part_there x less in ap (λ (o : Option (List ℤ)). get_or (unwrap_or o []) 0 (pos 0)) v.1 ∙ number_at op of_all mine x v.0 v.1)
        ∙ ap (plans.numbers_of into) (sym comm))

    abbrev source : ℕ → ℕ
    source by = source_of (size n) by (my_place n)

    pub shifted_is : (by : ℕ) → common_of asked ≡ Shift by → own_part asked ≡ own_elements (Some asked)
        → numbers_of n asked (source_of (size n) by (my_place n)) ≡ get_or (map (λ s. own_elements (l.entered n.epoch n.calls s.1.0)) (comm_in l n.epoch)) (source_of (size n) by (my_place n)) []
    shifted_is by of_all mine =
        ap (λ (o : Option (List ℤ)). unwrap_or o []) v.1 ∙ of (source by == my_place n) refl
        ∙ sym (ap (λ (seats : List Seat). get_or (map (λ s. own_elements (into s.1.0)) seats) (source by) []) comm ∙ elements_at into n.comm (source by) less)
      where
        less : source by < size n
        less = source_below (size n) by (my_place n) my_place_below

        v : (values : List ℤ) × (part_of n asked (source by) ≡ Some values)
        v = part_there (source by) less

        -- it is the place to which that one gives its elements
        reached : place_of (comm_in l n.epoch) p ≡ target_of (length (comm_in l n.epoch)) by (place_of (comm_in l n.epoch) (proc_at n (source by)))
        reached =
            ap (λ (seats : List Seat). place_of seats p) comm ∙ sym my_place_is
            ∙ sym (source_back (size n) by (my_place n) my_place_below)
            ∙ sym (ap (λ (o : ℕ). target_of (size n) by o) (seat_back (source by) less))
            ∙ sym (ap (λ (seats : List Seat). target_of (length seats) by (place_of seats (proc_at n (source by)))) comm)

        of : (b : Bool) → (source by == my_place n) ≡ b → v.0 ≡ own_elements (into (proc_at n (source by)))
        of true e =
            let r : IsRead (source by) v.0 true = read (source by) v.0 v.1 true e in
            r.1 ∙ mine ∙ sym (ap own_elements (entered_own (source by) r.0))
        of false e =
            let r : IsRead (source by) v.0 false = read (source by) v.0 v.1 false e in
            r.are ∙ shift_is by r.asked (alike (proc_at n (source by)) r.asked r.at ∙ of_all) (comm_in l n.epoch) (proc_at n (source by)) p reached ∙ sym (ap own_elements r.at)

    -- a shift is given as many elements as it gives away
    pub given_as_many : (by : ℕ) (elements : List ℤ) → asked ≡ wanted.Shift by elements → length (numbers_of n asked (source_of (size n) by (my_place n))) ≡ length elements
    given_as_many by elements shifts = ap (λ (o : Option (List ℤ)). length (unwrap_or o [])) v.1 ∙ of (source by == my_place n) refl
      where
        v : (values : List ℤ) × (part_of n asked (source by) ≡ Some values)
        v = part_there (source by) (source_below (size n) by (my_place n) my_place_below)

        due : due_from (wanted.Shift by elements) (size n) (my_place n) (source by) ≡ length elements
        due = ap (λ (b : Bool). if b then length elements else 0) (is_itself (source by))

        of : (b : Bool) → (source by == my_place n) ≡ b → length v.0 ≡ length elements
        of true e = ap (λ (values : List ℤ). length values) (read (source by) v.0 v.1 true e).1 ∙ ap (λ (o : Wanted). length (own_part o)) shifts
        of false e =
            equal (length v.0) (due_from asked (size n) (my_place n) (source by))
            (part_passes (λ values. length values == due_from asked (size n) (my_place n) (source by)) n.epoch n.calls (n.texts (proc_at n (source by))) v.0
            (sym (ap (λ (b : Bool). if b then Some (own_part asked) else heard (source by)) e) ∙ v.1))
            ∙ ap (λ (o : Wanted). due_from o (size n) (my_place n) (source by)) shifts ∙ due
