-- What is on the links once a process has sent what it sends.
use Rattle.std.proofs.lemmas.Bool.Decides.{nat_tests}
use Rattle.std.proofs.lemmas.List.{append-nil}
use Rattle.std.proofs.lemmas.List.Elements.{All-head, All-tail}
use Rattle.std.proofs.Common.{arith, ◌≡◌, ◌<◌, ℕ, Bool, true, false, ◌==◌, List, [], ◌∷◌, ◌++◌, All, map, refl, sym, ap, subst, ◌∙◌, append_assoc, inl, inr}
use Rattle.std.specs.Prelude.{if◌then◌else◌, not, ◌&&◌}
use Rattle.fx_base.specs.declared.names.Proc.{Proc}
use Rattle.fx_fleet.specs.World.{sent_to}
use Rattle.fx_link.specs.declared.message.Message.{Message}
use Rattle.fx_link.specs.LinkTable.{LinkTable, IsTable, procs_of, link_of, is_closed, sent}
use Rattle.fx_link.proofs.LinkFacts.{link_here, link_elsewhere, sent_closed, sent_processes, sent_table}
use Rattle.fx_machine.specs.Messages.{wire_text}
use Rattle.fx_machine.specs.Texts.{Text}
use Rattle.fx_node.specs.Stepping.{posted}
use Rattle.fx_world.specs.declared.counts.Counts.{Counts}
use Rattle.fx_world.specs.Counting.{counted, counted_one}
use Rattle.fx_world.specs.Sends.{sent_all, sent_item}
use Rattle.fx_world.proofs.Fits.{AllFit}
use Rattle.fx_world.proofs.Lists.{split}

-- what of it goes to one process
abbrev pub messages_to : ℕ → List (Proc × Message) → List Message
messages_to b [] = []
messages_to b (x ∷ xs) = if x.0.0 == b then x.1 ∷ messages_to b xs else messages_to b xs

-- what is added to a link
abbrev pub added : Bool → Bool → List Message → List Message
added from closed messages = if from && not closed then messages else []

one_added : (links : LinkTable) → IsTable links → (p q : ℕ) (m : Message) → p < procs_of links → q < procs_of links → (a b : ℕ)
    → link_of (sent links p q m) a b ≡ link_of links a b ++ added (a == p) (is_closed links b) (if q == b then m ∷ [] else [])
one_added links table p q m p_in q_in a b = elim (split (is_closed links q)) [
  | inl closed ↦ elim (split (q == b)) [
    | inl same ↦
        let e : q ≡ b = grind (arith, nat_tests, same) in
        let none : added (a == p) (is_closed links b) (m ∷ []) ≡ [] = rw (← e, closed) (off (a == p)) in
        rw closed (rw same (rw none (sym (append-nil (link_of links a b)))))
    | inr other ↦ rw closed (rw other (rw (nothing (a == p) (is_closed links b)) (sym (append-nil (link_of links a b)))))
  ]
  | inr is_open ↦ elim (split (q == b)) [
    | inl same ↦ elim (split (a == p)) [
      | inl from ↦
          let e : q ≡ b = grind (arith, nat_tests, same) in
          let f : a ≡ p = grind (arith, nat_tests, from) in
          rw (f, ← e) (rw is_open (rw (self q, self p) (link_here links table p q p_in q_in (link_of links p q ++ m ∷ []))))
      | inr other ↦
          let apart : (x : a ≡ p) → b ≡ q → ⊥ = λ x y. grind (arith, nat_tests, other, x) in
          rw is_open (rw other (link_elsewhere links table p q p_in q_in (link_of links p q ++ m ∷ []) a b apart ∙ sym (append-nil (link_of links a b))))
    ]
    | inr other ↦
        let apart : (x : a ≡ p) → b ≡ q → ⊥ = λ x y. grind (arith, nat_tests, other, y) in
        rw is_open (rw other (rw (nothing (a == p) (is_closed links b))
        (link_elsewhere links table p q p_in q_in (link_of links p q ++ m ∷ []) a b apart ∙ sym (append-nil (link_of links a b)))))
  ]
]
  where
    off : (from : Bool) → added from true (m ∷ []) ≡ []
    off true = refl
    off false = refl

    nothing : (from closed : Bool) → added from closed [] ≡ []
    nothing true true = refl
    nothing true false = refl
    nothing false closed = refl

    self : (n : ℕ) → (n == n) ≡ true
    self n = grind (arith, nat_tests)

-- one more is added in front of the others
joined : (from closed to : Bool) (m : Message) (rest : List Message)
    → added from closed (if to then m ∷ [] else []) ++ added from closed rest ≡ added from closed (if to then m ∷ rest else rest)
joined true true true m rest = refl
joined true true false m rest = refl
joined true false true m rest = refl
joined true false false m rest = refl
joined false closed to m rest = refl

pub all_added : (p : ℕ) (sends : List (Proc × Message)) (links : LinkTable) → IsTable links → p < procs_of links → All (λ x. x.0.0 < procs_of links) sends → (a b : ℕ)
    → link_of (sent_all p sends links) a b ≡ link_of links a b ++ added (a == p) (is_closed links b) (messages_to b sends)
all_added p [] links table p_in all a b = rw (none (a == p) (is_closed links b)) (sym (append-nil (link_of links a b)))
  where
    none : (from closed : Bool) → added from closed [] ≡ []
    none true true = refl
    none true false = refl
    none false closed = refl
all_added p (x ∷ xs) links table p_in all a b =
    let q = x.0.0 in
    let m = x.1 in
    let here = All-head (λ (y : Proc × Message). y.0.0 < procs_of links) x xs all in
    let later = sent links p q m in
    let same : procs_of later ≡ procs_of links = sent_processes links p q m in
    let rest : All (λ y. y.0.0 < procs_of later) xs = subst (λ n. All (λ (y : Proc × Message). y.0.0 < n) xs) (sym same) (All-tail (λ (y : Proc × Message). y.0.0 < procs_of links) x xs all) in
    let ih = all_added p xs later (sent_table links table p q p_in here m) (rw same p_in) rest a b in
    ih ∙ rw (sent_closed links p q m b, one_added links table p q m p_in here a b)
    (append_assoc (link_of links a b) (added (a == p) (is_closed links b) (if q == b then m ∷ [] else [])) (added (a == p) (is_closed links b) (messages_to b xs))
    ∙ ap (λ l. link_of links a b ++ l) (joined (a == p) (is_closed links b) (q == b) m (messages_to b xs)))

pub all_sent_table : (p : ℕ) (sends : List (Proc × Message)) (links : LinkTable) → IsTable links → p < procs_of links → All (λ x. x.0.0 < procs_of links) sends → IsTable (sent_all p sends links)
all_sent_table p [] links table p_in all = table
all_sent_table p (x ∷ xs) links table p_in all =
    let same : procs_of (sent links p x.0.0 x.1) ≡ procs_of links = sent_processes links p x.0.0 x.1 in
    all_sent_table p xs (sent links p x.0.0 x.1) (sent_table links table p x.0.0 p_in (All-head (λ (y : Proc × Message). y.0.0 < procs_of links) x xs all) x.1) (rw same p_in)
    (subst (λ n. All (λ (y : Proc × Message). y.0.0 < n) xs) (sym same) (All-tail (λ (y : Proc × Message). y.0.0 < procs_of links) x xs all))

pub all_sent_processes : (p : ℕ) (sends : List (Proc × Message)) (links : LinkTable) → procs_of (sent_all p sends links) ≡ procs_of links
all_sent_processes p [] links = refl
all_sent_processes p (x ∷ xs) links = all_sent_processes p xs (sent links p x.0.0 x.1) ∙ sent_processes links p x.0.0 x.1

pub all_sent_closed : (p : ℕ) (sends : List (Proc × Message)) (links : LinkTable) (who : ℕ) → is_closed (sent_all p sends links) who ≡ is_closed links who
all_sent_closed p [] links who = refl
all_sent_closed p (x ∷ xs) links who = all_sent_closed p xs (sent links p x.0.0 x.1) who ∙ sent_closed links p x.0.0 x.1 who

-- as texts it is what is sent to the process
pub texts_to : (b : ℕ) (sends : List (ℕ × Text)) → AllFit sends → map wire_text (messages_to b (map posted sends)) ≡ sent_to b sends
texts_to b [] fit = refl
texts_to b (x ∷ xs) fit = elim (split (x.0 == b)) [
  | inl here ↦ rw here (rw fit.0 (ap (λ l. x.1 ∷ l) (texts_to b xs fit.1)))
  | inr other ↦ rw other (texts_to b xs fit.1)
]

-- ---- one message after another

pub sent_more : (p : ℕ) (xs : List (Proc × Message)) (x : Proc × Message) (links : LinkTable) → sent_all p (xs ++ x ∷ []) links ≡ sent (sent_all p xs links) p x.0.0 x.1
sent_more p [] x links = refl
sent_more p (y ∷ xs) x links = sent_more p xs x (sent links p y.0.0 y.1)

pub told_more : (p : Proc) (xs : List (Proc × Message)) (x : Proc × Message) (c : Counts) → counted c (map (sent_item p) (xs ++ x ∷ [])) ≡ counted (counted c (map (sent_item p) xs)) (sent_item p x ∷ [])
told_more p [] x c = refl
told_more p (y ∷ xs) x c = told_more p xs x (counted_one c (sent_item p y))
