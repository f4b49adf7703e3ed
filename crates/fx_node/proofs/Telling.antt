-- A message to all others, one after another.
use Rattle.std.proofs.Common.{◌≡◌, ℕ, ◌+◌, ◌<◌, Bool, true, false, not, cond, ◌==◌, List, [], ◌∷◌, ◌++◌, map, length, take, slice_index_or, Result, Ok, Err, refl, sym, ap, ◌∙◌, append_assoc, All}
use Rattle.std.specs.List.{filter}
use Rattle.std.specs.Prelude.{IfOk, OnOk}
use Rattle.std.proofs.lemmas.List.{append-nil}
use Rattle.std.proofs.lemmas.List.Elements.{All-append, All-filter, All-map, filter_more}
use Rattle.std.proofs.lemmas.Bool.{eq-eqb, ne_eqb}
use Rattle.fx_base.specs.declared.names.Proc.{Proc}
use Rattle.fx_link.specs.declared.message.Message.{Message}
use Rattle.fx_machine.specs.Numbers.{proc}
use Rattle.fx_node.specs.Stepping.{broadcast}

pub on_ok : {T E : Type 0} (r : Result T E) (P : Type 0) → P → OnOk r P
on_ok (Ok x) P p = p
on_ok (Err e) P p = tt

pub if_ok : {T E : Type 0} (r : Result T E) (P Q : T → Type 0) → ((x : T) → P x → Q x) → IfOk r P → IfOk r Q
if_ok (Ok x) P Q weaker p = weaker x p
if_ok (Err e) P Q weaker p = tt

map_append : {X Y : Type 0} (f : X → Y) (xs ys : List X) → map f (xs ++ ys) ≡ map f xs ++ map f ys
map_append f [] ys = refl
map_append f (x ∷ xs) ys = ap (λ l. f x ∷ l) (map_append f xs ys)

-- to the first k of the processes
one_more : (me : ℕ) (all : List ℕ) (message : Message) (k : ℕ) (b : Bool) → k < length all → (not (slice_index_or all k 0 == me)) ≡ b
    → broadcast me (take (k + 1) all) message ≡ broadcast me (take k all) message ++ map (λ q. (proc q, message)) (cond b (slice_index_or all k 0 ∷ []) [])
one_more me all message k b within is =
    ap (map (λ q. (proc q, message))) (filter_more (λ q. not (q == me)) all k 0 within ∙ ap (λ t. filter (λ q. not (q == me)) (take k all) ++ cond t (slice_index_or all k 0 ∷ []) []) is)
    ∙ map_append (λ q. (proc q, message)) (filter (λ q. not (q == me)) (take k all)) (cond b (slice_index_or all k 0 ∷ []) [])

pub told_one : (me : ℕ) (all : List ℕ) (message : Message) (k : ℕ) (before sent : List (Proc × Message)) → k < length all → (slice_index_or all k 0 ≡ me → ⊥)
    → sent ≡ before ++ broadcast me (take k all) message → sent ++ (proc (slice_index_or all k 0), message) ∷ [] ≡ before ++ broadcast me (take (k + 1) all) message
told_one me all message k before sent within other so =
    let is : not (slice_index_or all k 0 == me) ≡ true = ap not (ne_eqb _ _ other) in
    ap (λ l. l ++ (proc (slice_index_or all k 0), message) ∷ []) so
    ∙ append_assoc before (broadcast me (take k all) message) ((proc (slice_index_or all k 0), message) ∷ [])
    ∙ ap (λ l. before ++ l) (sym (one_more me all message k true within is))

pub passed_itself : (me : ℕ) (all : List ℕ) (message : Message) (k : ℕ) (before sent : List (Proc × Message)) → k < length all → slice_index_or all k 0 ≡ me
    → sent ≡ before ++ broadcast me (take k all) message → sent ≡ before ++ broadcast me (take (k + 1) all) message
passed_itself me all message k before sent within same so =
    let is : not (slice_index_or all k 0 == me) ≡ false = ap not (eq-eqb _ _ same) in
    so ∙ ap (λ l. before ++ l) (sym (one_more me all message k false within is ∙ append-nil (broadcast me (take k all) message)))

-- each that is sent to is one of the processes
pub told_below : (bound me : ℕ) (all : List ℕ) (message : Message) (before : List (Proc × Message)) → All (λ q. q < bound) all → All (λ (x : Proc × Message). x.0.0 < bound) before
    → All (λ (x : Proc × Message). x.0.0 < bound) (before ++ broadcast me all message)
told_below bound me all message before below were =
    All-append (λ (x : Proc × Message). x.0.0 < bound) before (broadcast me all message) were
    (All-map (λ (x : Proc × Message). x.0.0 < bound) (λ q. (proc q, message)) (filter (λ q. not (q == me)) all) (All-filter (λ q. not (q == me)) (λ q. q < bound) all below))

-- two facts of an answer that is Ok give a third
pub both_ok : {T E : Type 0} (r : Result T E) (P Q R : T → Type 0) → ((x : T) → P x → Q x → R x) → IfOk r P → IfOk r Q → IfOk r R
both_ok (Ok x) P Q R joined p q = joined x p q
both_ok (Err e) P Q R joined p q = tt

-- the same, where the first isn't of the value
pub joined_ok : {T E : Type 0} (r : Result T E) (P : Type 0) (Q R : T → Type 0) → ((x : T) → P → Q x → R x) → OnOk r P → IfOk r Q → IfOk r R
joined_ok (Ok x) P Q R joined p q = joined x p q
joined_ok (Err e) P Q R joined p q = tt
