-- What is learnt of a place in a call is what the node reads of it.
use Rattle.std.proofs.Common.{Bor, subst, arith, ◌≡◌, ◌==◌, ◌<◌, ◌≤◌, ◌+◌, [], ◌∷◌, ℕ, ℤ, Bool, true, false, inl, inr, List, Option, Some, None, length, replicate, refl, ap, sym, ◌∙◌}
use Rattle.std.specs.Prelude.{IsSome, get_or, pos, if◌then◌else◌, option_map}
use Rattle.std.specs.Option.{option_copied, option_or}
use Rattle.std.proofs.lemmas.Bool.{cases_eq, eq-eqb, eqb-true, ne_eqb}
use Rattle.std.proofs.lemmas.List.{get_or-replicate, get_or-set_other, get_or-set_same, length-replicate, length-set}
use Rattle.fx_ballot.specs.Turn.{earliest}
use Rattle.fx_coll.specs.Keeping.{HoldsNumbers, IsNumber, begun, has_left, is_lost, known_at, unknown, with_known}
use Rattle.fx_coll.specs.Answer.{IsWhole}
use Rattle.fx_coll.specs.Machine.{StandsFor, values_in}
use Rattle.fx_coll.specs.declared.known.Known.{Known}
use Rattle.fx_coll.specs.declared.part.Part.{Part}
use Rattle.fx_coll.specs.declared.part.Part.TheVariants as part
use Rattle.fx_inbox.specs.Keeping.{part_from}
use Rattle.fx_machine.specs.Gathering.{due_from, own_part, source_of}
use Rattle.fx_machine.specs.Nodes.{Node, my_place, proc_at, size}
use Rattle.fx_machine.specs.Reading as reading
use Rattle.fx_machine.specs.Reading.{first_read, given_that, only}
use Rattle.fx_machine.specs.Texts.{Text}
use Rattle.fx_node.specs.Asking.{HasKind, HaveKind, IsFresh, IsTold, gathers_parts, part_in, taken}
use Rattle.fx_base.specs.declared.names.Op.{Op}
use Rattle.fx_walk.specs.declared.wanted.Wanted.{Wanted}
use Rattle.fx_walk.specs.declared.wanted.Wanted.TheVariants as wanted

-- ---- one place changes

-- what is known of one place may change, and of no other
pub record Changes (x : ℕ) (f : Known → Known) (old new : List Known) : Type 0 where
  pub this : known_at new x ≡ f (known_at old x)
  pub others : (y : ℕ) → (y ≡ x → ⊥) → known_at new y ≡ known_at old y
  pub many : length new ≡ length old

changes : (x : ℕ) (f : Known → Known) (old : List Known) → x < length old → Changes x f old (with_known x (f (known_at old x)) old)
changes x f old low = record {
  this = get_or-set_same old x (f (known_at old x)) unknown low;
  others = λ y other. get_or-set_other old x y (f (known_at old x)) unknown other;
  many = length-set old x (f (known_at old x));
}

abbrev pub with_part : Option Part → Known → Known
with_part None k = k
with_part (Some p) k = record k { part = earliest k.part p }

abbrev pub with_loss : Bool → Known → Known
with_loss true k = record k { lost = true }
with_loss false k = k

abbrev pub with_leaving : Bool → Known → Known
with_leaving true k = record k { left = true }
with_leaving false k = k

takes_part : (x : ℕ) (o : Option Part) (old new : List Known) → x < length old → new ≡ taken x o old → Changes x (with_part o) old new
takes_part x None old new low is = subst (λ (l : List Known). Changes x (with_part None) old l) (sym is) (record { this = refl; others = λ y other. refl; many = refl })
takes_part x (Some p) old new low is = subst (λ (l : List Known). Changes x (with_part (Some p)) old l) (sym is) (changes x (with_part (Some p)) old low)

takes_loss : (x : ℕ) (b : Bool) (old new : List Known) → x < length old → new ≡ (if b then is_lost x old else old) → Changes x (with_loss b) old new
takes_loss x true old new low is = subst (λ (l : List Known). Changes x (with_loss true) old l) (sym is) (changes x (with_loss true) old low)
takes_loss x false old new low is = subst (λ (l : List Known). Changes x (with_loss false) old l) (sym is) (record { this = refl; others = λ y other. refl; many = refl })

takes_leaving : (x : ℕ) (b : Bool) (old new : List Known) → x < length old → new ≡ (if b then has_left x old else old) → Changes x (with_leaving b) old new
takes_leaving x true old new low is = subst (λ (l : List Known). Changes x (with_leaving true) old l) (sym is) (changes x (with_leaving true) old low)
takes_leaving x false old new low is = subst (λ (l : List Known). Changes x (with_leaving false) old l) (sym is) (record { this = refl; others = λ y other. refl; many = refl })

-- three changes of one place
pub record Learnt (x : ℕ) (part : Option Part) (lost left : Bool) (old new : List Known) : Type 0 where
  pub this : known_at new x ≡ with_leaving left (with_loss lost (with_part part (known_at old x)))
  pub others : (y : ℕ) → (y ≡ x → ⊥) → known_at new y ≡ known_at old y
  pub many : length new ≡ length old

pub learnt : (x : ℕ) (part : Option Part) (lost left : Bool) (old one two new : List Known) → x < length old → one ≡ taken x part old → two ≡ (if lost then is_lost x one else one)
    → new ≡ (if left then has_left x two else two) → Learnt x part lost left old new
learnt x part lost left old one two new low first second third =
    let a : Changes x (with_part part) old one = takes_part x part old one low first in
    let low' : x < length one = (let m : length one ≡ length old = a.many in omega (arith, low, m)) in
    let b : Changes x (with_loss lost) one two = takes_loss x lost one two low' second in
    let low'' : x < length two = (let m : length two ≡ length one = b.many in omega (arith, low', m)) in
    let d : Changes x (with_leaving left) two new = takes_leaving x left two new low'' third in
    record {
      this = d.this ∙ ap (with_leaving left) (b.this ∙ ap (with_loss lost) a.this);
      others = λ y other. d.others y other ∙ b.others y other ∙ a.others y other;
      many = d.many ∙ b.many ∙ a.many;
    }

-- ---- the part of another

some_same : {X : Type 0} (x y : X) → Some x ≡ Some y → x ≡ y
some_same x y e = cc

first_passes : (test : List ℤ → Bool) (read : Text → Option (List ℤ)) (ts : List Text) (v : List ℤ) → first_read (λ t. only test (read t)) ts ≡ Some v → test v ≡ true
first_passes test read [] v e = absurd cc
first_passes test read (t ∷ ts) v e = go (read t) e (λ f. first_passes test read ts v f)
  where
    chosen : (b : Bool) (found : List ℤ) → test found ≡ b → option_or (given_that b found) (first_read (λ t. only test (read t)) ts) ≡ Some v
        → (first_read (λ t. only test (read t)) ts ≡ Some v → test v ≡ true) → test v ≡ true
    chosen true found is e later = ap test (sym (some_same found v e)) ∙ is
    chosen false found is e later = later e

    go : (o : Option (List ℤ)) → option_or (only test o) (first_read (λ t. only test (read t)) ts) ≡ Some v
        → (first_read (λ t. only test (read t)) ts ≡ Some v → test v ≡ true) → test v ≡ true
    go None e later = later e
    go (Some found) e later = chosen (test found) found refl e later

-- a part that is read has the length that is due
pub read_length : (n : Node) (due who : ℕ) (v : List ℤ) → part_from n due who ≡ Some v → length v ≡ due
read_length n due who v e = eqb-true (length v) due (first_passes (λ values. length values == due) (reading.part_in n.epoch n.calls) (n.texts who) v e)

-- what is read as it is taken
pub heard_so : (n : Node) (due who : ℕ) (result : Option (Bor (List ℤ))) (o : Option Part) → option_copied result ≡ part_from n due who
    → ((v : Bor (List ℤ)) → result ≡ Some v → length v.now ≡ due → option_map values_in o ≡ Some v.now) → (result ≡ None → o ≡ None) → option_map values_in o ≡ part_from n due who
heard_so n due who None o read some none = ap (option_map values_in) (none refl) ∙ read
heard_so n due who (Some v) o read some none = some v refl (read_length n due who v.now (sym read)) ∙ read

-- a part of one number is that number
pub one_number : (v : List ℤ) → length v ≡ 1 → get_or v 0 (pos 0) ∷ [] ≡ v
one_number [] long = absurd (omega (arith, long))
one_number (y ∷ []) long = refl
one_number (y ∷ z ∷ v) long = absurd (omega (arith, long))

-- ---- all that is read of the place

-- the part that was there stays
abbrev pub first_part : Option Part → Option Part → Option Part
first_part None before = before
first_part (Some p) before = earliest before p

part_learnt : (o : Option Part) (lost left : Bool) (k : Known) → (with_leaving left (with_loss lost (with_part o k))).part ≡ first_part o k.part
part_learnt None true true k = refl
part_learnt None true false k = refl
part_learnt None false true k = refl
part_learnt None false false k = refl
part_learnt (Some p) true true k = refl
part_learnt (Some p) true false k = refl
part_learnt (Some p) false true k = refl
part_learnt (Some p) false false k = refl

lost_learnt : (o : Option Part) (lost left : Bool) (k : Known) → k.lost ≡ false → (with_leaving left (with_loss lost (with_part o k))).lost ≡ lost
lost_learnt None true true k e = refl
lost_learnt None true false k e = refl
lost_learnt None false true k e = e
lost_learnt None false false k e = e
lost_learnt (Some p) true true k e = refl
lost_learnt (Some p) true false k e = refl
lost_learnt (Some p) false true k e = e
lost_learnt (Some p) false false k e = e

left_learnt : (o : Option Part) (lost left : Bool) (k : Known) → k.left ≡ false → (with_leaving left (with_loss lost (with_part o k))).left ≡ left
left_learnt None true true k e = refl
left_learnt None true false k e = e
left_learnt None false true k e = refl
left_learnt None false false k e = e
left_learnt (Some p) true true k e = refl
left_learnt (Some p) true false k e = e
left_learnt (Some p) false true k e = refl
left_learnt (Some p) false false k e = e

own_or_heard : (o : Option Part) (own : Bool) (mine : Part) (values : List ℤ) (heard : Option (List ℤ)) → option_map values_in o ≡ heard → values_in mine ≡ values
    → option_map values_in (first_part o (if own then Some mine else None)) ≡ (if own then Some values else heard)
own_or_heard None true mine values heard e same = ap Some same
own_or_heard (Some p) true mine values heard e same = ap Some same
own_or_heard None false mine values heard e same = e
own_or_heard (Some p) false mine values heard e same = e

mine_so : (w : Wanted) → gathers_parts w ≡ true → values_in (part_in w) ≡ own_part w
mine_so wanted.Barrier is = refl
mine_so (wanted.Reduce op own) is = refl
mine_so (wanted.Agree flag) is = absurd cc
mine_so (wanted.Shift by own) is = refl
mine_so (wanted.Group g start depth) is = absurd cc
mine_so (wanted.Attach g m) is = absurd cc
mine_so (wanted.Store g m piece) is = absurd cc
mine_so (wanted.Commit g) is = absurd cc
mine_so (wanted.Close g) is = absurd cc
mine_so (wanted.Restore g m stamp) is = absurd cc
mine_so (wanted.Delete g stamp) is = absurd cc

pub told_so : (n : Node) (w : Wanted) (x who : ℕ) (o : Option Part) (lost left : Bool) (old new : List Known) → gathers_parts w ≡ true → Learnt x o lost left old new → proc_at n x ≡ who
    → IsFresh n w (known_at old x) x → option_map values_in o ≡ part_from n (due_from w (size n) (my_place n) x) who → lost ≡ n.lost who → left ≡ reading.has_left n who → IsTold n w (known_at new x) x
told_so n w x who o lost left old new is l at fresh heard told away = record {
  part =
      ap (λ (k : Known). option_map values_in k.part) l.this
      ∙ ap (option_map values_in) (part_learnt o lost left (known_at old x))
      ∙ ap (λ (before : Option Part). option_map values_in (first_part o before)) fresh.part
      ∙ own_or_heard o (x == my_place n) (part_in w) (own_part w) (part_from n (due_from w (size n) (my_place n) x) (proc_at n x)) (heard ∙ ap (part_from n (due_from w (size n) (my_place n) x)) (sym at)) (mine_so w is);
  lost = ap (λ (k : Known). k.lost) l.this ∙ lost_learnt o lost left (known_at old x) fresh.lost ∙ told ∙ ap n.lost (sym at);
  left = ap (λ (k : Known). k.left) l.this ∙ left_learnt o lost left (known_at old x) fresh.left ∙ away ∙ ap (reading.has_left n) (sym at);
}

-- ---- kinds

kind_first : (w : Wanted) (o before : Option Part) → HasKind w o → HasKind w before → HasKind w (first_part o before)
kind_first w None before new old = old
kind_first w (Some p) None new old = new
kind_first w (Some p) (Some q) new old = old

pub kinds_so : (w : Wanted) (x : ℕ) (o : Option Part) (lost left : Bool) (old new : List Known) → x < length old → Learnt x o lost left old new → HasKind w o → HaveKind w old → HaveKind w new
kinds_so w x o lost left old new low l kind kinds y below = elim (cases_eq y x) [
  | inl same ↦
      let here : (known_at new x).part ≡ first_part o (known_at old x).part = ap (λ (k : Known). k.part) l.this ∙ part_learnt o lost left (known_at old x) in
      subst (λ (z : ℕ). HasKind w (known_at new z).part) (sym same) (subst (HasKind w) (sym here) (kind_first w o (known_at old x).part kind (kinds x low)))
  | inr other ↦
      let many : length new ≡ length old = l.many in
      subst (λ (k : Known). HasKind w k.part) (sym (l.others y other)) (kinds y (omega (arith, below, many)))
]

own_kind : (w : Wanted) → HasKind w (Some (part_in w))
own_kind wanted.Barrier = tt
own_kind (wanted.Reduce op own) = tt
own_kind (wanted.Agree flag) = tt
own_kind (wanted.Shift by elements) = tt
own_kind (wanted.Group g start depth) = tt
own_kind (wanted.Attach g m) = tt
own_kind (wanted.Store g m piece) = tt
own_kind (wanted.Commit g) = tt
own_kind (wanted.Close g) = tt
own_kind (wanted.Restore g m stamp) = tt
own_kind (wanted.Delete g stamp) = tt

no_kind : (w : Wanted) → HasKind w None
no_kind wanted.Barrier = tt
no_kind (wanted.Reduce op own) = tt
no_kind (wanted.Agree flag) = tt
no_kind (wanted.Shift by elements) = tt
no_kind (wanted.Group g start depth) = tt
no_kind (wanted.Attach g m) = tt
no_kind (wanted.Store g m piece) = tt
no_kind (wanted.Commit g) = tt
no_kind (wanted.Close g) = tt
no_kind (wanted.Restore g m stamp) = tt
no_kind (wanted.Delete g stamp) = tt

pub begins_kinds : (w : Wanted) (count place : ℕ) (known : List Known) → known ≡ begun count place (part_in w) → place < count → HaveKind w known
begins_kinds w count place known is low = subst (λ (l : List Known). HaveKind w l) (sym is) (λ x below. elim (cases_eq x place) [
  | inl same ↦
      let here : known_at (begun count place (part_in w)) x ≡ record unknown { part = Some (part_in w) } =
      ap (known_at (begun count place (part_in w))) same
      ∙ get_or-set_same (replicate count unknown) place (record unknown { part = Some (part_in w) }) unknown (rw (length-replicate count unknown) low) in
      subst (λ (k : Known). HasKind w k.part) (sym here) (own_kind w)
  | inr other ↦
      let many : length (begun count place (part_in w)) ≡ count = length-set (replicate count unknown) place (record unknown { part = Some (part_in w) }) ∙ length-replicate count unknown in
      let here : known_at (begun count place (part_in w)) x ≡ unknown =
      get_or-set_other (replicate count unknown) place x (record unknown { part = Some (part_in w) }) unknown other
      ∙ get_or-replicate count x unknown unknown (omega (arith, below, many)) in
      subst (λ (k : Known). HasKind w k.part) (sym here) (no_kind w)
])

number_so : (op : Op) (own : ℤ) (o : Option Part) → IsSome o → HasKind (wanted.Reduce op own) o → IsNumber o
number_so op own None some kind = absurd (cc)
number_so op own (Some part.Empty) some kind = absurd kind
number_so op own (Some (part.Number n)) some kind = tt
number_so op own (Some (part.Elems elements)) some kind = absurd kind

-- all gave numbers
pub numbers_so : (op : Op) (own : ℤ) (known : List Known) → IsWhole known → HaveKind (wanted.Reduce op own) known → HoldsNumbers known
numbers_so op own known whole kinds x below = number_so op own (known_at known x).part (whole x below) (kinds x below)

-- ---- all places, one after another

-- those below are told, and of the others nothing is known but one's own part
pub record Knowing (n : Node) (w : Wanted) (k : ℕ) (known : List Known) : Type 0 where
  pub many : length known ≡ size n
  pub told : (x : ℕ) → x < k → IsTold n w (known_at known x) x
  pub fresh : (x : ℕ) → k ≤ x → x < size n → IsFresh n w (known_at known x) x

only_own : (n : Node) (w : Wanted) (x : ℕ) (k : Known) → k ≡ record unknown { part = Some (part_in w) } → (x == my_place n) ≡ true → IsFresh n w k x
only_own n w x k is mine = record {
  part = ap (λ (k : Known). k.part) is ∙ ap (λ (b : Bool). if b then Some (part_in w) else None) (sym mine);
  lost = ap (λ (k : Known). k.lost) is;
  left = ap (λ (k : Known). k.left) is;
}

nothing_yet : (n : Node) (w : Wanted) (x : ℕ) (k : Known) → k ≡ unknown → (x == my_place n) ≡ false → IsFresh n w k x
nothing_yet n w x k is other = record {
  part = ap (λ (k : Known). k.part) is ∙ ap (λ (b : Bool). if b then Some (part_in w) else None) (sym other);
  lost = ap (λ (k : Known). k.lost) is;
  left = ap (λ (k : Known). k.left) is;
}

pub begins_knowing : (n : Node) (w : Wanted) (count place : ℕ) (known : List Known) → known ≡ begun count place (part_in w) → count ≡ size n → my_place n ≡ place → place < count → Knowing n w 0 known
begins_knowing n w count place known is sized at low = subst (λ (l : List Known). Knowing n w 0 l) (sym is) (record {
  many = length-set (replicate count unknown) place (record unknown { part = Some (part_in w) }) ∙ length-replicate count unknown ∙ sized;
  told = λ x none. absurd (omega (arith, none));
  fresh = λ x from within. elim (cases_eq x place) [
    | inl same ↦
        let here : known_at (begun count place (part_in w)) x ≡ record unknown { part = Some (part_in w) } =
        ap (known_at (begun count place (part_in w))) same
        ∙ get_or-set_same (replicate count unknown) place (record unknown { part = Some (part_in w) }) unknown (rw (length-replicate count unknown) low) in
        let mine : (x == my_place n) ≡ true = eq-eqb x (my_place n) (same ∙ sym at) in
        only_own n w x (known_at (begun count place (part_in w)) x) here mine
    | inr other ↦
        let below : x < count = omega (arith, sized, within) in
        let here : known_at (begun count place (part_in w)) x ≡ unknown =
        get_or-set_other (replicate count unknown) place x (record unknown { part = Some (part_in w) }) unknown other
        ∙ get_or-replicate count x unknown unknown below in
        let not_mine : (x == my_place n) ≡ false = ne_eqb x (my_place n) (λ e. other (e ∙ at)) in
        nothing_yet n w x (known_at (begun count place (part_in w)) x) here not_mine
  ];
})

pub goes_knowing : (n : Node) (w : Wanted) (k : ℕ) (old new : List Known) → k < size n → Knowing n w k old → ((x : ℕ) → (x ≡ k → ⊥) → known_at new x ≡ known_at old x) → length new ≡ length old
    → (IsFresh n w (known_at old k) k → IsTold n w (known_at new k) k) → Knowing n w (k + 1) new
goes_knowing n w k old new low h others many this = record {
  many = many ∙ h.many;
  told = λ x below. elim (cases_eq x k) [
    | inl same ↦ subst (λ (y : ℕ). IsTold n w (known_at new y) y) (sym same) (this (h.fresh k (omega arith) low))
    | inr other ↦ subst (λ (one : Known). IsTold n w one x) (sym (others x other)) (h.told x (omega (arith, below, other)))
  ];
  fresh = λ x from within. subst (λ (one : Known). IsFresh n w one x) (sym (others x (λ same. omega (arith, same, from)))) (h.fresh x (omega (arith, from)) within);
}

pub knows_all : (n : Node) (w : Wanted) (k : ℕ) (known : List Known) → size n ≤ k → Knowing n w k known → StandsFor known n w
knows_all n w k known past h = record {
  members = h.many;
  parts = λ x below. (h.told x (omega (arith, past, below))).part;
  lost = λ x below. (h.told x (omega (arith, past, below))).lost;
  left = λ x below. (h.told x (omega (arith, past, below))).left;
}

-- ---- a shift

-- of the place whose elements are due as many come as are given away
pub source_fits : (n : Node) (by x : ℕ) (own : List ℤ) (known : List Known) (given : Part) → StandsFor known n (wanted.Shift by own) → x ≡ source_of (size n) by (my_place n) → x < size n
    → (known_at known x).part ≡ Some given → length (values_in given) ≡ length own
source_fits n by x own known given stands is below there =
    by_place (x == my_place n) (sym (stands.parts x below) ∙ ap (option_map values_in) there) where
      due : due_from (wanted.Shift by own) (size n) (my_place n) x ≡ length own
      due = ap (λ (b : Bool). if b then length own else 0) (eq-eqb x (source_of (size n) by (my_place n)) is)

      by_place : (b : Bool) → (if b then Some own else part_from n (due_from (wanted.Shift by own) (size n) (my_place n) x) (proc_at n x)) ≡ Some (values_in given) → length (values_in given) ≡ length own
      by_place true e = ap length (sym (some_same own (values_in given) e))
      by_place false e = read_length n (due_from (wanted.Shift by own) (size n) (my_place n) x) (proc_at n x) (values_in given) e ∙ due
