-- In a legal journal the size of an epoch is the lesser of the ranks and the number that is present.
use Rattle.std.proofs.Common.{min, ◌≡◌, ◌<◌, ◌≤◌, ℕ, ◌+◌, ◌-◌, ◌==◌, zero, suc, Bool, true, false, not, cond, ◌||◌, ◌&&◌, List, [], ◌∷◌, ◌++◌, length, Option, Some, None, ◌⊎◌, inl, inr, arith, refl, subst, sym, ◌∙◌, ap}
use Rattle.std.specs.Prelude.{ℤ, pos, negsuc, nat_lt, nat_le, is_some}
use Rattle.std.proofs.lemmas.Bool.Decides.{nat_tests}
use Rattle.std.proofs.lemmas.Bool.{cases_eq, cases_lt}
use Rattle.fx_base.specs.Sets.{those_below}
use Rattle.fx_comm.specs.Seats.{Seat, seats_from, first_seats, has_place, repaired, IsComm}
use Rattle.fx_comm.proofs.Firsts.{first_comm}
use Rattle.fx_comm.proofs.Lists.{those_none, those_same}
use Rattle.fx_comm.proofs.Repairs.{repaired_comm, repaired_length}
use Rattle.fx_check.specs.Acceptance.{IsAccepted}
use Rattle.fx_check.specs.Rules.{count_of, is_between}
use Rattle.fx_check.proofs.Accepting.{all_named}
use Rattle.fx_item.specs.declared.item.Item.{Item}
use Rattle.fx_item.specs.declared.item.Item.TheVariants as item
use Rattle.fx_script.specs.declared.job.Job.{Job}
use Rattle.fx_calm.proofs.Steps.{key_same, key_other}
use Rattle.fx_legal.specs.Effects.{written, belongs, begun_by}
use Rattle.fx_legal.specs.Ledger.{Chapter, Ledger, comm_of, is_in, is_present, first_ledger, first_chapter, ranks_of, procs_of}
use Rattle.fx_legal.specs.Legal.{GoesOn, IsLegal, written_all, ledger_of}
use Rattle.fx_legal.specs.Rules as rules
use Rattle.fx_legal.specs.Rules.{MayWrite, IsTheOne}
use Rattle.fx_legal.specs.Stands.{is_killed}
use Rattle.fx_losses.specs.Losses.{EpochsAreSized}
use Rattle.fx_losses.proofs.Tests.{first_of, is_less}

-- ---- counts

long : (xs : List ℕ) (x : ℕ) → length (xs ++ x ∷ []) ≡ suc (length xs)
long [] x = refl
long (y ∷ ys) x = ap suc (long ys x)

short : (xs : List ℕ) → length (xs ++ []) ≡ length xs
short [] = refl
short (y ∷ ys) = ap suc (short ys)

fewer_too : (n : ℕ) (xs ys : List ℕ) (a b : Bool) → length xs ≤ length ys → (a ≡ true → b ≡ true) → length (xs ++ cond a (n ∷ []) []) ≤ length (ys ++ cond b (n ∷ []) [])
fewer_too n xs ys true true l i = let a = long xs n in let b = long ys n in omega (arith, a, b, l)
fewer_too n xs ys true false l i = absurd (let bad : false ≡ true = i refl in cc)
fewer_too n xs ys false true l i = let a = short xs in let b = long ys n in omega (arith, a, b, l)
fewer_too n xs ys false false l i = let a = short xs in let b = short ys in omega (arith, a, b, l)

pub those_fewer : (f g : ℕ → Bool) (n : ℕ) → ((m : ℕ) → f m ≡ true → g m ≡ true) → length (those_below f n) ≤ length (those_below g n)
unfolding those_below
those_fewer f g zero h = omega arith
those_fewer f g (suc n) h = fewer_too n (those_below f n) (those_below g n) (f n) (g n) (those_fewer f g n h) (h n)

-- so many numbers are below p
all_below : (p n : ℕ) → p ≤ n → length (those_below (λ m. nat_lt m p) n) ≡ p
unfolding those_below
all_below p zero l = omega (arith, l)
all_below p (suc n) l = elim (cases_eq p (suc n)) [
  | inl same ↦
      last (those_below (λ m. nat_lt m p) n) (nat_lt n p) (here n p same)
      ∙ ap suc (ap (λ (xs : List ℕ). length xs) (those_same (λ m. nat_lt m p) (λ m. nat_lt m n) n (λ m small. both m n p small same)) ∙ all_below n n (omega arith)) ∙ sym same
  | inr ne ↦ rest (those_below (λ m. nat_lt m p) n) (nat_lt n p) (past n p (omega (arith, l, ne))) ∙ all_below p n (omega (arith, l, ne))
]
  where
    both : (m n p : ℕ) → m < n → p ≡ suc n → nat_lt m p ≡ nat_lt m n
    both m n p small s = grind (arith, nat_tests)

    here : (n p : ℕ) → p ≡ suc n → nat_lt n p ≡ true
    here n p s = grind (arith, nat_tests)

    past : (n p : ℕ) → p ≤ n → nat_lt n p ≡ false
    past n p s = grind (arith, nat_tests)

    last : (xs : List ℕ) (b : Bool) → b ≡ true → length (xs ++ cond b (n ∷ []) []) ≡ suc (length xs)
    last xs true e = long xs n
    last xs false e = absurd (let bad : false ≡ true = e in cc)

    rest : (xs : List ℕ) (b : Bool) → b ≡ false → length (xs ++ cond b (n ∷ []) []) ≡ length xs
    rest xs false e = short xs
    rest xs true e = absurd (let bad : true ≡ false = e in cc)

-- ---- chapters

pub record SizedChapter (job : Job) (c : Chapter) : Type 0 where
  pub size : length c.comm ≡ min (ranks_of job) (length (those_below c.present 32))
  pub below : (q : ℕ) → c.present q ≡ true → q < procs_of job
  pub proper : (c.comm ≡ []) ⊎ IsComm c.comm

pub record Sized (job : Job) (l : Ledger) : Type 0 where
  pub each : (e : ℕ) (c : Chapter) → l.chapters e ≡ Some c → SizedChapter job c

no_seats : (seats : List Seat) → length seats ≡ 0 → seats ≡ []
no_seats [] e = refl
no_seats (s ∷ seats) e = absurd (let bad : suc (length seats) ≡ 0 = e in omega (arith, bad))

length_proper : (present : ℕ → Bool) (old : List Seat) → (old ≡ []) ⊎ IsComm old → length (repaired old present) ≡ min (length old) (length (those_below present 32))
length_proper present old (inl none) = subst (λ (o : List Seat). length (repaired o present) ≡ min (length o) (length (those_below present 32))) (sym none) (omega arith)
length_proper present old (inr comm) = repaired_length present old comm.apart comm.below

repaired_proper : (present : ℕ → Bool) (old : List Seat) → (old ≡ []) ⊎ IsComm old → (repaired old present ≡ []) ⊎ IsComm (repaired old present)
repaired_proper present old (inl none) = inl (ap (λ (o : List Seat). repaired o present) none)
repaired_proper present old (inr comm) = elim (cases_lt 0 (length (those_below present 32))) [
  | inl some ↦ inr (repaired_comm present old comm some)
  | inr none ↦ let size = repaired_length present old comm.apart comm.below in inl (no_seats (repaired old present) (omega (arith, size, none)))
]

some_chapter : (x y : Chapter) → Some x ≡ Some y → x ≡ y
some_chapter x y e = cc

-- an epoch that begins
new_chapter : (job : Job) (l : Ledger) (e : ℕ) (comm : List Seat) → rules.Begins job l e comm → Sized job l → SizedChapter job (record { comm = comm; present = belongs l e comm })
new_chapter job l e comm begins is = of (l.chapters (e - 1)) refl
  where
    was_present : (c : Chapter) → l.chapters (e - 1) ≡ Some c → (q : ℕ) → belongs l e comm q ≡ true → c.present q ≡ true
    was_present c at q there = sym (ap (λ (o : Option Chapter). is_in o q) at) ∙ either (has_place comm q) refl there
      where
        either : (b : Bool) → has_place comm q ≡ b → (b || (is_present l (e - 1) q && (is_some (l.joined e q) && not (is_killed (l.stands q))))) ≡ true → is_present l (e - 1) q ≡ true
        either true place i = (begins.seated q place).0
        either false none i = first_of (is_present l (e - 1) q) _ i

    comm_is : (o : Option Chapter) → l.chapters (e - 1) ≡ o → comm ≡ repaired (comm_of o) (belongs l e comm)
    comm_is o at = begins.mended ∙ ap (λ (x : Option Chapter). repaired (comm_of x) (belongs l e comm)) at

    nobody : l.chapters (e - 1) ≡ None → comm ≡ [] → (q : ℕ) → belongs l e comm q ≡ false
    nobody at none q = ap (λ (seats : List Seat). has_place seats q || (is_present l (e - 1) q && (is_some (l.joined e q) && not (is_killed (l.stands q))))) none
        ∙ ap (λ (o : Option Chapter). is_in o q && (is_some (l.joined e q) && not (is_killed (l.stands q)))) at

    of : (o : Option Chapter) → l.chapters (e - 1) ≡ o → SizedChapter job (record { comm = comm; present = belongs l e comm })
    of (Some c) at =
        let before : SizedChapter job c = is.each (e - 1) c at in
        let now : length (repaired c.comm (belongs l e comm)) ≡ min (length c.comm) (length (those_below (belongs l e comm) 32)) = length_proper (belongs l e comm) c.comm before.proper in
        let less : length (those_below (belongs l e comm) 32) ≤ length (those_below c.present 32) = those_fewer (belongs l e comm) c.present 32 (was_present c at) in
        record {
          size = ap (λ (seats : List Seat). length seats) (comm_is (Some c) at) ∙ now ∙ least (length c.comm) (ranks_of job) (length (those_below c.present 32)) (length (those_below (belongs l e comm) 32)) before.size less;
          below = λ q there. before.below q (was_present c at q there);
          proper = subst (λ (seats : List Seat). (seats ≡ []) ⊎ IsComm seats) (sym (comm_is (Some c) at)) (repaired_proper (belongs l e comm) c.comm before.proper);
        }
      where
        least : (a r p q : ℕ) → a ≡ min r p → q ≤ p → min a q ≡ min r q
        least a r p q e l = omega (arith, e, l)
    of None at =
        let none : comm ≡ [] = comm_is None at in
        let few : length (those_below (belongs l e comm) 32) ≡ 0 = ap (λ (xs : List ℕ). length xs) (those_none (belongs l e comm) 32 (λ q small. nobody at none q)) in
        record { size = ap (λ (seats : List Seat). length seats) none ∙ zero_min (ranks_of job) (length (those_below (belongs l e comm) 32)) few; below = λ q there. absurd (let bad : false ≡ true = sym (nobody at none q) ∙ there in cc); proper = inl none }
      where
        zero_min : (r p : ℕ) → p ≡ 0 → 0 ≡ min r p
        zero_min r p e = omega (arith, e)

begun_sized : (job : Job) (l : Ledger) (e : ℕ) (comm : List Seat) (o : Option Chapter) → l.chapters e ≡ o → IsTheOne job l e comm o → Sized job l → (c : Chapter) → begun_by l e comm o ≡ Some c → SizedChapter job c
begun_sized job l e comm None at one is c now = subst (SizedChapter job) (some_chapter _ c now) (new_chapter job l e comm one is)
begun_sized job l e comm (Some d) at one is c now = is.each e c (at ∙ now)

-- where no epoch begins
same_chapters : (job : Job) (l m : Ledger) → m.chapters ≡ l.chapters → Sized job l → Sized job m
same_chapters job l m same is = record { each = λ e c at. is.each e c (sym (ap (λ (f : ℕ → Option Chapter). f e) same) ∙ at) }

item_sized : (job : Job) (l : Ledger) (it : Item) → MayWrite job l it → Sized job l → Sized job (written job l it)
item_sized job l (item.Repaired p e size warn comm) may is = record {
  each = λ d c at. elim (cases_eq d e.0) [
    | inl same ↦ begun_sized job l e.0 comm (l.chapters e.0) refl may.1.one is c (sym (key_same e.0 (begun_by l e.0 comm (l.chapters e.0)) l.chapters) ∙ subst (λ o. (written job l (item.Repaired p e size warn comm)).chapters o ≡ Some c) same at)
    | inr ne ↦ is.each d c (sym (key_other e.0 (begun_by l e.0 comm (l.chapters e.0)) l.chapters d ne) ∙ at)
  ];
}
item_sized job l (item.Kill p) may is = same_chapters job l _ refl is
item_sized job l (item.Join p e kind) may is = same_chapters job l _ refl is
item_sized job l (item.Callback p e name) may is = same_chapters job l _ refl is
item_sized job l (item.Init p e role id rank size warn) may is = same_chapters job l _ refl is
item_sized job l (item.Print p e name list) may is = same_chapters job l _ refl is
item_sized job l (item.Attach p e g m) may is = same_chapters job l _ refl is
item_sized job l (item.Store p e g m list) may is = same_chapters job l _ refl is
item_sized job l (item.Commit p e g t) may is = same_chapters job l _ refl is
item_sized job l (item.Restore p e g m t list) may is = same_chapters job l _ refl is
item_sized job l (item.Refused p e statement g m t why) may is = same_chapters job l _ refl is
item_sized job l (item.Barrier p e k) may is = same_chapters job l _ refl is
item_sized job l (item.Reduce p e k op n) may is = same_chapters job l _ refl is
item_sized job l (item.Agree p e k n) may is = same_chapters job l _ refl is
item_sized job l (item.Shift p e k d list) may is = same_chapters job l _ refl is
item_sized job l (item.Group p e k g) may is = same_chapters job l _ refl is
item_sized job l (item.Close p e k g) may is = same_chapters job l _ refl is
item_sized job l (item.Drop p e k g t) may is = same_chapters job l _ refl is
item_sized job l (item.Passed p e k) may is = same_chapters job l _ refl is
item_sized job l (item.Value p e k n) may is = same_chapters job l _ refl is
item_sized job l (item.Shifted p e k list) may is = same_chapters job l _ refl is
item_sized job l (item.Created p e k g how list) may is = same_chapters job l _ refl is
item_sized job l (item.Closed p e k g t) may is = same_chapters job l _ refl is
item_sized job l (item.Failed p e k x) may is = same_chapters job l _ refl is
item_sized job l (item.Revoked p e k x) may is = same_chapters job l _ refl is
item_sized job l (item.Ended p) may is = same_chapters job l _ refl is
item_sized job l (item.Send p q message) may is = is
item_sized job l (item.Deliver p q message) may is = is
item_sized job l (item.Told p q) may is = is

pub items_sized : (job : Job) (l : Ledger) (items : List Item) → GoesOn job l items → Sized job l → Sized job (written_all job l items)
items_sized job l [] goes is = is
items_sized job l (it ∷ items) goes is = items_sized job (written job l it) items goes.1 (item_sized job l it goes.0 is)

-- ---- the first epoch

from_length : (next n : ℕ) → length (seats_from next n) ≡ n
unfolding seats_from
from_length next zero = refl
from_length next (suc n) = ap suc (from_length (next + 1) n)

length_first : (ranks : ℕ) → length (first_seats ranks) ≡ ranks
length_first ranks = from_length 0 ranks

pub first_sized : (job : Job) → 1 ≤ ranks_of job → ranks_of job ≤ procs_of job → procs_of job ≤ 32 → Sized job (first_ledger job)
first_sized job some within few = record {
  each = λ e c at. subst (SizedChapter job) (of c (e == 0) at) (record {
    size =
        let a : length (first_seats (ranks_of job)) ≡ ranks_of job = length_first (ranks_of job) in
        let b : length (those_below (λ q. nat_lt q (procs_of job)) 32) ≡ procs_of job = all_below (procs_of job) 32 few in
        omega (arith, a, b, within);
    below = λ q there. is_less q (procs_of job) there;
    proper = inr (first_comm (ranks_of job) some (omega (arith, within, few)));
  });
}
  where
    of : (c : Chapter) (b : Bool) → cond b (Some (first_chapter job)) None ≡ Some c → first_chapter job ≡ c
    of c true at = some_chapter (first_chapter job) c at
    of c false at = absurd (let bad : None ≡ Some c = at in cc)

-- ---- accepted jobs

between : (low high : ℕ) (n : ℤ) → is_between low high n ≡ true → low ≤ count_of n
between low high (pos n) e = first_part low n (nat_le n high) e
  where
    first_part : (low n : ℕ) (b : Bool) → (nat_le low n && b) ≡ true → low ≤ n
    first_part low n b e = grind (arith, nat_tests)
between low high (negsuc n) e = absurd (let bad : false ≡ true = e in cc)

at_most : (b : Bool) (n : ℕ) → (b && not (nat_lt 16 n)) ≡ true → n ≤ 32
at_most b n e = grind (arith, nat_tests)

-- the numbers of an accepted job
pub accepted_numbers : (job : Job) → IsAccepted job → (1 ≤ ranks_of job) × (procs_of job ≤ 32)
accepted_numbers job is =
    let keep = all_named job is in
    (between 1 16 job.ranks keep.0.in_range, at_most (is_between 0 16 job.spares) (procs_of job) keep.1.0.in_range)

pub legal_sized : (job : Job) → IsAccepted job → (items : List Item) → IsLegal job items → Sized job (ledger_of job items)
legal_sized job is items legal =
    let numbers = accepted_numbers job is in
    items_sized job (first_ledger job) items legal (first_sized job numbers.0 (omega arith) numbers.1)

pub are_sized : (job : Job) → IsAccepted job → (items : List Item) → IsLegal job items → EpochsAreSized job (ledger_of job items)
are_sized job is items legal =
    let sized = legal_sized job is items legal in
    record { size = λ e c at. (sized.each e c at).size; below = λ e c at. (sized.each e c at).below }
