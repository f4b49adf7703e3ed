-- What is seen of the parts of a call at a glance holds of it.
use Rattle.std.proofs.Common.{Bor, arith, ◌≡◌, ◌<◌, ◌+◌, ℕ, ℤ, List, Bool, true, false, inl, inr, Option, Some, None, refl, ap, sym, subst, ◌∙◌}
use Rattle.std.specs.Prelude.{if◌then◌else◌, ◌||◌, ◌&&◌, is_none, is_some, option_map}
use Rattle.std.specs.Option.{option_copied, option_or}
use Rattle.std.proofs.lemmas.Bool.{cases_eq, eq-eqb, ne_eqb}
use Rattle.fx_coll.proofs.Firsts.{first_none}
use Rattle.fx_machine.specs.Gathering.{due_from, gathering_error, own_part, part_of}
use Rattle.fx_machine.specs.Nodes.{Node, my_place, proc_at, size}
use Rattle.fx_machine.specs.Numbers.{first_below}
use Rattle.fx_machine.specs.Reading.{has_left}
use Rattle.fx_machine.specs.Waits.{ByLeaving, ByLoss}
use Rattle.fx_inbox.specs.Joins.{IsCalm}
use Rattle.fx_inbox.specs.Keeping.{part_from}
use Rattle.fx_node.specs.Glancing.{IsSeen, IsSeenAt, IsSeenBelow, IsToCome, NoneIsMissed, both, is_missed, is_there}
use Rattle.fx_node.specs.declared.glance.Glance.{Glance}
use Rattle.fx_node.specs.declared.glance.Glance.TheVariants as glance
use Rattle.fx_store.proofs.Mirrors.{each_fails, each_from}
use Rattle.fx_walk.specs.declared.wanted.Wanted.{Wanted}

-- a part that is there isn't missed
there_so : (n : Node) (w : Wanted) (x : ℕ) (test : ℕ → Bool) → is_there n w x ≡ true → is_missed n w test x ≡ false
there_so n w x test there = of (part_of n w x) there
  where
    of : (o : Option (List ℤ)) → is_some o ≡ true → (is_none o && test (proc_at n x)) ≡ false
    of None there = absurd cc
    of (Some v) there = refl

-- ---- one place more

more_missed : (n : Node) (w : Wanted) (k : ℕ) → NoneIsMissed n w k → is_missed n w n.lost k ≡ false → is_missed n w (has_left n) k ≡ false → NoneIsMissed n w (k + 1)
more_missed n w k none lost left = record {
  lost = λ x below. elim (cases_eq x k) [
    | inl same ↦ subst (λ (y : ℕ). is_missed n w n.lost y ≡ false) (sym same) lost
    | inr other ↦ none.lost x (omega (arith, below, other))
  ];
  left = λ x below. elim (cases_eq x k) [
    | inl same ↦ subst (λ (y : ℕ). is_missed n w (has_left n) y ≡ false) (sym same) left
    | inr other ↦ none.left x (omega (arith, below, other))
  ];
}

more_there : (n : Node) (w : Wanted) (k : ℕ) → ((x : ℕ) → x < k → is_there n w x ≡ true) → is_there n w k ≡ true → (x : ℕ) → x < k + 1 → is_there n w x ≡ true
more_there n w k all this x below = elim (cases_eq x k) [
  | inl same ↦ subst (λ (y : ℕ). is_there n w y ≡ true) (sym same) this
  | inr other ↦ all x (omega (arith, below, other))
]

all_there : (n : Node) (w : Wanted) (k : ℕ) → ((x : ℕ) → x < k → is_there n w x ≡ true) → NoneIsMissed n w k
all_there n w k all = record { lost = λ x below. there_so n w x n.lost (all x below); left = λ x below. there_so n w x (has_left n) (all x below) }

later : (n : Node) (w : Wanted) (k : ℕ) → IsToCome n w k → IsToCome n w (k + 1)
later n w k some = record { place = some.place; below = (let low = some.below in omega (arith, low)); absent = some.absent }

pub sees_more : (before at : Glance) (n : Node) (w : Wanted) (k : ℕ) → IsSeenBelow before n w k → IsSeenAt at n w k → IsSeenBelow (both before at) n w (k + 1)
sees_more glance.Whole glance.Whole n w k so this = more_there n w k so this
sees_more glance.Whole glance.Waiting n w k so this =
    (record { place = k; below = omega arith; absent = this.0 }, more_missed n w k (all_there n w k so) this.1 this.2)
sees_more glance.Whole glance.Unclear n w k so this = tt
sees_more glance.Waiting glance.Whole n w k so this = (later n w k so.0, more_missed n w k so.1 (there_so n w k n.lost this) (there_so n w k (has_left n) this))
sees_more glance.Waiting glance.Waiting n w k so this = (later n w k so.0, more_missed n w k so.1 this.1 this.2)
sees_more glance.Waiting glance.Unclear n w k so this = tt
sees_more glance.Unclear at n w k so this = tt

-- ---- all places

no_error : (n : Node) (w : Wanted) → NoneIsMissed n w (size n) → gathering_error n w ≡ None
no_error n w none =
    ap (λ (o : Option ℕ). option_or (option_map ByLoss (option_map (proc_at n) o)) (option_map ByLeaving (option_map (proc_at n) (first_below (size n) (is_missed n w (has_left n))))))
    (first_none (is_missed n w n.lost) (size n) none.lost)
    ∙ ap (λ (o : Option ℕ). option_map ByLeaving (option_map (proc_at n) o)) (first_none (is_missed n w (has_left n)) (size n) none.left)

pub sees_all : (seen : Glance) (n : Node) (w : Wanted) → IsSeenBelow seen n w (size n) → IsSeen seen n w
sees_all glance.Whole n w so = each_from (size n) (is_there n w) so
sees_all glance.Waiting n w so = (each_fails (size n) (is_there n w) so.0.place so.0.below so.0.absent, no_error n w so.1)
sees_all glance.Unclear n w so = tt

-- ---- one place

-- one's own part is there
pub own_is_there : (n : Node) (w : Wanted) (x : ℕ) → x ≡ my_place n → is_there n w x ≡ true
own_is_there n w x is = ap (λ (b : Bool). is_some (if b then Some (own_part w) else part_from n (due_from w (size n) (my_place n) x) (proc_at n x))) (eq-eqb x (my_place n) is)

-- another's is there exactly where it was heard
pub another_is_there : (n : Node) (w : Wanted) (x due who : ℕ) (b : Bool) → (x ≡ my_place n → ⊥) → due ≡ due_from w (size n) (my_place n) x → who ≡ proc_at n x → is_some (part_from n due who) ≡ b → is_there n w x ≡ b
another_is_there n w x due who b other counted at heard =
    ap (λ (c : Bool). is_some (if c then Some (own_part w) else part_from n (due_from w (size n) (my_place n) x) (proc_at n x))) (ne_eqb x (my_place n) other)
    ∙ ap (λ (q : ℕ). is_some (part_from n (due_from w (size n) (my_place n) x) q)) (sym at)
    ∙ ap (λ (d : ℕ). is_some (part_from n d who)) (sym counted)
    ∙ heard

either_false : (a b : Bool) → (a || b) ≡ false → (a ≡ false) × (b ≡ false)
either_false true b e = absurd cc
either_false false b e = (refl, e)

and_false : (a b : Bool) → b ≡ false → (a && b) ≡ false
and_false true b e = e
and_false false b e = refl

-- what is seen where it is missing
pub without : (n : Node) (w : Wanted) (x who : ℕ) → who ≡ proc_at n x → is_there n w x ≡ false
    → IsSeenAt (if n.lost who || has_left n who then glance.Unclear else glance.Waiting) n w x
without n w x who at absent = of (n.lost who || has_left n who) refl
  where
    of : (b : Bool) → (n.lost who || has_left n who) ≡ b → IsSeenAt (if b then glance.Unclear else glance.Waiting) n w x
    of true e = tt
    of false e =
        let neither = either_false (n.lost who) (has_left n who) e in (
          absent,
          and_false (is_none (part_of n w x)) (n.lost (proc_at n x)) (subst (λ (q : ℕ). n.lost q ≡ false) at neither.0),
          and_false (is_none (part_of n w x)) (has_left n (proc_at n x)) (subst (λ (q : ℕ). has_left n q ≡ false) at neither.1),
        )

-- ---- where nobody is lost or has left

-- a part that is missing is to come
pub waits_in_calm : (n : Node) (w : Wanted) (x : ℕ) → x < size n → is_there n w x ≡ false → IsCalm n → IsSeen glance.Waiting n w
waits_in_calm n w x below absent calm = (
  each_fails (size n) (is_there n w) x below absent,
  no_error n w (record {
    lost = λ y inside. and_false (is_none (part_of n w y)) (n.lost (proc_at n y)) (calm (proc_at n y)).0;
    left = λ y inside. and_false (is_none (part_of n w y)) (has_left n (proc_at n y)) (calm (proc_at n y)).1;
  }),
)

-- what was read is there as it was
pub some_copied : (o : Option (Bor (List ℤ))) → is_some o ≡ is_some (option_copied o)
some_copied None = refl
some_copied (Some v) = refl
