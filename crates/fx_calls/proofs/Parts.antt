-- What a process gives another in a call that gathers parts, and what is read of it.
use Rattle.std.proofs.Common.{◌≡◌, ℕ, ◌+◌, ◌-◌, ◌*◌, ◌/◌, ◌%◌, ◌<◌, ◌==◌, zero, suc, Bool, true, false, ◌&&◌, List, [], ◌∷◌, ◌++◌, map, length, get_or, Option, Some, None, arith, refl, ap, sym, subst, ◌∙◌}
use Rattle.std.specs.Prelude.{ℤ, pos, if◌then◌else◌, is_some}
use Rattle.std.specs.Option.{option_or}
use Rattle.std.proofs.lemmas.Bool.Decides.{nat_tests}
use Rattle.std.proofs.Math.Nat.{mod-add-mod, mod-add-div, add-mul-mod_self_left, mod-eq_of_lt, mod-lt}
use Rattle.fx_ballot.specs.Names.{seat_at, seat_of}
use Rattle.fx_base.specs.declared.names.Op.{Op}
use Rattle.fx_comm.specs.Seats.{Seat}
use Rattle.fx_walk.specs.declared.wanted.Wanted.{Wanted}
use Rattle.fx_walk.specs.declared.wanted.Wanted.TheVariants as wanted
use Rattle.fx_walk.specs.Plan.{Reduce, Agree, Shift, common_of}
use Rattle.fx_machine.specs.Gathering.{target_of, source_of}
use Rattle.fx_machine.specs.Nodes.{procs_of}
use Rattle.fx_machine.specs.Numbers.{of_each_below}
use Rattle.fx_machine.specs.Reading.{given_that, only, first_read, part_in}
use Rattle.fx_machine.specs.Texts as text
use Rattle.fx_machine.specs.Texts.{Text}
use Rattle.fx_fleet.specs.World.{World}
use Rattle.fx_legal.specs.Calls.{AllAsked, own_number, own_elements}
use Rattle.fx_legal.specs.Ledger.{Ledger, comm_in}
use Rattle.fx_calm.proofs.Lists.{Each, each_weaker, equal}
use Rattle.fx_losses.proofs.Tests.{first_of, second_of}
use Rattle.fx_calls.proofs.Plans.{Grows, same_comm, still_begun}

-- ---- what is meant

abbrev pub place_of : List Seat → ℕ → ℕ
place_of comm q = seat_of (procs_of comm) q

-- the numbers that one process gives another by what it entered the call with
abbrev pub meant : List Seat → (from to : ℕ) → Wanted → List ℤ
meant comm a b (wanted.Reduce op n) = n ∷ []
meant comm a b (wanted.Shift by elements) = if place_of comm b == target_of (length comm) by (place_of comm a) then elements else []
meant comm a b other = []

-- the part of a call: its process entered the call
pub record IsPart (l : Ledger) (e k a b : ℕ) (values : List ℤ) : Type 0 where
  pub asked : Wanted
  pub at : l.entered e k a ≡ Some asked
  pub begun : is_some (l.chapters e) ≡ true
  pub are : values ≡ meant (comm_in l e) a b asked

-- a text from one process to another
abbrev pub TruePart : Ledger → (from to : ℕ) → Text → Type 0
TruePart l a b (text.Join e kind) = Unit {0}
TruePart l a b (text.Jest e r slots) = Unit {0}
TruePart l a b (text.Part e k values) = IsPart l e k a b values
TruePart l a b (text.Vote e k x) = Unit {0}
TruePart l a b (text.Est e k r slots) = Unit {0}
TruePart l a b (text.Share e k packed) = Unit {0}
TruePart l a b (text.Tell e k known) = Unit {0}
TruePart l a b (text.Help e k packed) = Unit {0}
TruePart l a b (text.Give e k packed) = Unit {0}

-- all parts that are kept or under way
pub record Spoken (l : Ledger) (w : World) : Type 0 where
  pub texts : (b a : ℕ) → Each (TruePart l a b) ((w.node b).texts a)
  pub links : (a b : ℕ) → Each (TruePart l a b) (w.link a b)

pub part_grows : (l m : Ledger) → Grows l m → (a b : ℕ) (t : Text) → TruePart l a b t → TruePart m a b t
part_grows l m g a b (text.Join e kind) x = tt
part_grows l m g a b (text.Jest e r slots) x = tt
part_grows l m g a b (text.Part e k values) x = record {
  asked = x.asked;
  at = g.entered e k a x.asked x.at;
  begun = still_begun l m g e x.begun;
  are = x.are ∙ ap (λ (comm : List Seat). meant comm a b x.asked) (sym (same_comm l m g e x.begun));
}
part_grows l m g a b (text.Vote e k v) x = tt
part_grows l m g a b (text.Est e k r slots) x = tt
part_grows l m g a b (text.Share e k packed) x = tt
part_grows l m g a b (text.Tell e k known) x = tt
part_grows l m g a b (text.Help e k packed) x = tt
part_grows l m g a b (text.Give e k packed) x = tt

pub parts_grow : (l m : Ledger) → Grows l m → (a b : ℕ) (ts : List Text) → Each (TruePart l a b) ts → Each (TruePart m a b) ts
parts_grow l m g a b ts all = each_weaker (TruePart l a b) (TruePart m a b) (part_grows l m g a b) ts all

pub spoken_grows : (l m : Ledger) (w : World) → Grows l m → Spoken l w → Spoken m w
spoken_grows l m w g h = record { texts = λ b a. parts_grow l m g a b ((w.node b).texts a) (h.texts b a); links = λ a b. parts_grow l m g a b (w.link a b) (h.links a b) }

-- ---- what is read

-- the value of a test that was passed
pub given_is : {X : Type 0} (b : Bool) (x y : X) → given_that b x ≡ Some y → (b ≡ true) × (x ≡ y)
given_is true x y e = (refl, cc)
given_is false x y e = absurd (let bad : None ≡ Some y = e in cc)

pub only_is : {X : Type 0} (test : X → Bool) (o : Option X) (y : X) → only test o ≡ Some y → o ≡ Some y
only_is test None y e = absurd (let bad : None ≡ Some y = e in cc)
only_is test (Some x) y e = ap Some (given_is (test x) x y e).1

only_passes : (test : List ℤ → Bool) (x : Option (List ℤ)) (y : List ℤ) → only test x ≡ Some y → test y ≡ true
only_passes test None y e = absurd (let bad : None ≡ Some y = e in cc)
only_passes test (Some x) y e = let r = given_is (test x) x y e in ap test (sym r.1) ∙ r.0

-- a part that is read passes the test
pub part_passes : (test : List ℤ → Bool) (e k : ℕ) (ts : List Text) (values : List ℤ) → first_read (λ t. only test (part_in e k t)) ts ≡ Some values → test values ≡ true
part_passes test e k [] values is = absurd (let bad : None ≡ Some values = is in cc)
part_passes test e k (t ∷ ts) values is = either (part_passes test e k ts values) (only test (part_in e k t)) refl is
  where
    either : (first_read (λ t. only test (part_in e k t)) ts ≡ Some values → test values ≡ true) → (o : Option (List ℤ)) → only test (part_in e k t) ≡ o
        → option_or o (first_read (λ t. only test (part_in e k t)) ts) ≡ Some values → test values ≡ true
    either later None same is = later is
    either later (Some vs) same is = only_passes test (part_in e k t) values (same ∙ is)

pub part_found : (l : Ledger) (e k a b : ℕ) (test : List ℤ → Bool) (ts : List Text) (values : List ℤ) → Each (TruePart l a b) ts → first_read (λ t. only test (part_in e k t)) ts ≡ Some values
    → IsPart l e k a b values
part_found l e k a b test [] values all is = absurd (let bad : None ≡ Some values = is in cc)
part_found l e k a b test (t ∷ ts) values all is = either (part_found l e k a b test ts values all.1) (only test (part_in e k t)) refl is
  where
    here : (t : Text) → TruePart l a b t → part_in e k t ≡ Some values → IsPart l e k a b values
    here (text.Join d kind) x e = absurd (let bad : None ≡ Some values = e in cc)
    here (text.Jest d r slots) x e = absurd (let bad : None ≡ Some values = e in cc)
    here (text.Part d j vs) x is =
        let r = given_is ((d == e) && (j == k)) vs values is in
        let epoch : d ≡ e = equal d e (first_of (d == e) (j == k) r.0) in
        let call : j ≡ k = equal j k (second_of (d == e) (j == k) r.0) in
        subst (IsPart l e k a b) r.1 (subst (λ (o : ℕ). IsPart l o k a b vs) epoch (subst (λ (o : ℕ). IsPart l d o a b vs) call x))
    here (text.Vote d j v) x e = absurd (let bad : None ≡ Some values = e in cc)
    here (text.Est d j r slots) x e = absurd (let bad : None ≡ Some values = e in cc)
    here (text.Share d j packed) x e = absurd (let bad : None ≡ Some values = e in cc)
    here (text.Tell d j known) x e = absurd (let bad : None ≡ Some values = e in cc)
    here (text.Help d j packed) x e = absurd (let bad : None ≡ Some values = e in cc)
    here (text.Give d j packed) x e = absurd (let bad : None ≡ Some values = e in cc)

    either : (first_read (λ t. only test (part_in e k t)) ts ≡ Some values → IsPart l e k a b values) → (o : Option (List ℤ)) → only test (part_in e k t) ≡ o
        → option_or o (first_read (λ t. only test (part_in e k t)) ts) ≡ Some values → IsPart l e k a b values
    either later None same is = later is
    either later (Some vs) same is = here t all.0 (only_is test (part_in e k t) values (same ∙ is))

-- ---- the place before

pub source_back : (n by y : ℕ) → y < n → target_of n by (source_of n by y) ≡ y
source_back n by y less =
    mod-add-mod (y + (n - by % n)) n by
    ∙ ap (λ (k : ℕ). k % n) sum
    ∙ add-mul-mod_self_left y n (1 + by / n)
    ∙ mod-eq_of_lt less
  where
    below : by % n < n
    below = mod-lt by (omega (arith, less))

    parts : by % n + n * (by / n) ≡ by
    parts = mod-add-div by n

    split : n * (1 + by / n) ≡ n + n * (by / n)
    split = grind arith

    sum : (y + (n - by % n)) + by ≡ y + n * (1 + by / n)
    sum = omega (arith, below, parts, split)

pub target_back : (n by x : ℕ) → x < n → source_of n by (target_of n by x) ≡ x
target_back n by x less =
    mod-add-mod (x + by) n (n - by % n)
    ∙ ap (λ (k : ℕ). k % n) sum
    ∙ add-mul-mod_self_left x n (1 + by / n)
    ∙ mod-eq_of_lt less
  where
    below : by % n < n
    below = mod-lt by (omega (arith, less))

    parts : by % n + n * (by / n) ≡ by
    parts = mod-add-div by n

    split : n * (1 + by / n) ≡ n + n * (by / n)
    split = grind arith

    sum : (x + by) + (n - by % n) ≡ x + n * (1 + by / n)
    sum = omega (arith, below, parts, split)

pub source_below : (n by y : ℕ) → y < n → source_of n by y < n
source_below n by y less = mod-lt (y + (n - by % n)) (omega (arith, less))

-- ---- lists by place

-- what all numbers below one have, from the front
each_front : (n : ℕ) (f : ℕ → ℤ) → of_each_below (suc n) f ≡ f 0 ∷ of_each_below n (λ x. f (suc x))
each_front zero f = refl
each_front (suc n) f = ap (λ (xs : List ℤ). xs ++ f (suc n) ∷ []) (each_front n f)

pub numbers_are : (entered : ℕ → Option Wanted) (seats : List Seat) (f : ℕ → ℤ) → ((x : ℕ) → x < length seats → f x ≡ own_number (entered (seat_at (procs_of seats) x)))
    → of_each_below (length seats) f ≡ map (λ s. own_number (entered s.1.0)) seats
numbers_are entered [] f same = refl
numbers_are entered (s ∷ seats) f same =
    each_front (length seats) f
    ∙ ap (λ (n : ℤ). n ∷ of_each_below (length seats) (λ x. f (suc x))) (same 0 (omega arith))
    ∙ ap (λ (ns : List ℤ). own_number (entered s.1.0) ∷ ns) (numbers_are entered seats (λ x. f (suc x)) (λ x less. same (suc x) (omega (arith, less))))

pub elements_at : (entered : ℕ → Option Wanted) (seats : List Seat) (x : ℕ) → x < length seats → get_or (map (λ s. own_elements (entered s.1.0)) seats) x [] ≡ own_elements (entered (seat_at (procs_of seats) x))
elements_at entered [] x less = absurd (omega (arith, less))
elements_at entered (s ∷ seats) zero less = refl
elements_at entered (s ∷ seats) (suc x) less = elements_at entered seats x (let m : suc x < suc (length seats) = less in omega (arith, m))

pub all_asked : (entered : ℕ → Option Wanted) (seats : List Seat) → ((x : ℕ) → x < length seats → is_some (entered (seat_at (procs_of seats) x)) ≡ true) → AllAsked entered seats
all_asked entered [] all = tt
all_asked entered (s ∷ seats) all = (all 0 (omega arith), all_asked entered seats (λ x less. all (suc x) (omega (arith, less))))

-- ---- the numbers of a call

-- numbers and elements of what was asked alike
pub reduce_is : (op : Op) (v : Wanted) → common_of v ≡ Reduce op → (comm : List Seat) (a b : ℕ) → get_or (meant comm a b v) 0 (pos 0) ≡ own_number (Some v)
reduce_is op wanted.Barrier e comm a b = refl
reduce_is op (wanted.Reduce o n) e comm a b = refl
reduce_is op (wanted.Agree n) e comm a b = absurd (let bad : Agree ≡ Reduce op = e in cc)
reduce_is op (wanted.Shift by elements) e comm a b = absurd (let bad : Shift by ≡ Reduce op = e in cc)
reduce_is op (wanted.Group g start depth) e comm a b = refl
reduce_is op (wanted.Attach g m) e comm a b = refl
reduce_is op (wanted.Store g m piece) e comm a b = refl
reduce_is op (wanted.Commit g) e comm a b = refl
reduce_is op (wanted.Close g) e comm a b = refl
reduce_is op (wanted.Restore g m stamp) e comm a b = refl
reduce_is op (wanted.Delete g stamp) e comm a b = refl

by_same : (a b : ℕ) → Shift a ≡ Shift b → a ≡ b
by_same a b e = cc

pub shift_is : (by : ℕ) (v : Wanted) → common_of v ≡ Shift by → (comm : List Seat) (a b : ℕ) → place_of comm b ≡ target_of (length comm) by (place_of comm a) → meant comm a b v ≡ own_elements (Some v)
shift_is by wanted.Barrier e comm a b at = refl
shift_is by (wanted.Reduce o n) e comm a b at = absurd (let bad : Reduce o ≡ Shift by = e in cc)
shift_is by (wanted.Agree n) e comm a b at = refl
shift_is by (wanted.Shift d elements) e comm a b at =
    ap (λ (t : Bool). if t then elements else []) (reaches (place_of comm b) (target_of (length comm) d (place_of comm a)) (at ∙ ap (λ (o : ℕ). target_of (length comm) o (place_of comm a)) (sym (by_same d by e))))
  where
    reaches : (x y : ℕ) → x ≡ y → (x == y) ≡ true
    reaches x y e = grind (arith, nat_tests)
shift_is by (wanted.Group g start depth) e comm a b at = refl
shift_is by (wanted.Attach g m) e comm a b at = refl
shift_is by (wanted.Store g m piece) e comm a b at = refl
shift_is by (wanted.Commit g) e comm a b at = refl
shift_is by (wanted.Close g) e comm a b at = refl
shift_is by (wanted.Restore g m stamp) e comm a b at = refl
shift_is by (wanted.Delete g stamp) e comm a b at = refl
