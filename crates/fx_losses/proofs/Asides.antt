-- Deeds outside the ballots of epochs: the node stays in its epoch, has its place, and says nothing in such a ballot.
use Rattle.std.proofs.Common.{◌≡◌, ◌≢◌, ℕ, Bool, true, false, ◌==◌, List, [], ◌∷◌, ◌++◌, map, refl, ap, ◌∙◌, arith}
use Rattle.std.specs.Prelude.{if◌then◌else◌, not}
use Rattle.std.specs.List.{flat_map, filter, enumerate_from}
use Rattle.std.proofs.lemmas.Bool.Decides.{nat_tests}
use Rattle.fx_item.specs.declared.item.Item.{Item}
use Rattle.fx_machine.specs.Nodes.{Node, Act, members, to_places, writing, saying}
use Rattle.fx_machine.specs.Texts as text
use Rattle.fx_machine.specs.Texts.{Text, Known}
use Rattle.fx_machine.specs.Waits.{Error, ByLoss, ByLeaving, returns_error}
use Rattle.fx_calm.proofs.Lists.{Each, each_append}
use Rattle.fx_losses.specs.Eras.{era_of}
use Rattle.fx_losses.proofs.Shows.{is_placed}

-- a text of no ballot at the begin of an epoch
abbrev pub IsOfCall : Text → Type 0
IsOfCall (text.Join e kind) = ⊥
IsOfCall (text.Jest e r slots) = ⊥
IsOfCall (text.Part e k values) = Unit {0}
IsOfCall (text.Vote e k x) = Unit {0}
IsOfCall (text.Est e k r slots) = Unit {0}
IsOfCall (text.Share e k packed) = Unit {0}
IsOfCall (text.Tell e k known) = Unit {0}
IsOfCall (text.Help e k packed) = Unit {0}
IsOfCall (text.Give e k packed) = Unit {0}

pub record Aside (n : Node) (act : Act) : Type 0 where
  pub me : act.node.me ≡ n.me
  pub epoch : act.node.epoch ≡ n.epoch
  pub era : era_of act.node ≡ era_of n
  pub role : act.node.role ≡ n.role
  pub lost : act.node.lost ≡ n.lost
  pub other : (q : ℕ) → q ≢ n.me → act.node.texts q ≡ n.texts q
  pub said : List Text
  pub own : act.node.texts n.me ≡ n.texts n.me ++ said
  pub saying : Each IsOfCall said
  pub sends : Each (λ (x : ℕ × Text). IsOfCall x.1) act.sends
  pub placed : is_placed act.node.stage ≡ true

-- ---- what is sent

each_flat : {X Y : Type 0} (Is : Y → Type 0) (f : X → List Y) → ((x : X) → Each Is (f x)) → (xs : List X) → Each Is (flat_map f xs)
each_flat Is f all [] = tt
each_flat Is f all (x ∷ xs) = each_append Is (f x) (flat_map f xs) (all x) (each_flat Is f all xs)

each_to : (q : ℕ) (ts : List Text) → Each IsOfCall ts → Each (λ (x : ℕ × Text). IsOfCall x.1) (map (λ t. (q, t)) ts)
each_to q [] all = tt
each_to q (t ∷ ts) all = (all.0, each_to q ts all.1)

pub places_sent : (n : Node) (meant : ℕ → List Text) → ((x : ℕ) → Each IsOfCall (meant x)) → Each (λ (x : ℕ × Text). IsOfCall x.1) (to_places n meant)
places_sent n meant all =
    each_flat (λ (x : ℕ × Text). IsOfCall x.1) (λ (place : ℕ × ℕ). if place.1 == n.me then [] else map (λ t. (place.1, t)) (meant place.0))
    (λ place. either (place.1 == n.me) place.1 (meant place.0) (all place.0)) (enumerate_from 0 (members n))
  where
    either : (b : Bool) (q : ℕ) (ts : List Text) → Each IsOfCall ts → Each (λ (x : ℕ × Text). IsOfCall x.1) (if b then [] else map (λ t. (q, t)) ts)
    either true q ts all = tt
    either false q ts all = each_to q ts all

others_sent : (t : Text) → IsOfCall t → (qs : List ℕ) → Each (λ (x : ℕ × Text). IsOfCall x.1) (map (λ q. (q, t)) qs)
others_sent t is [] = tt
others_sent t is (q ∷ qs) = (is, others_sent t is qs)

pub if_there : (b : Bool) (t : Text) → IsOfCall t → Each IsOfCall (if b then t ∷ [] else [])
if_there true t is = (is, tt)
if_there false t is = tt

-- ---- steps

append_none : {X : Type 0} (xs : List X) → xs ≡ xs ++ []
append_none [] = refl
append_none (x ∷ xs) = ap (λ ys. x ∷ ys) (append_none xs)

-- a node that is elsewhere, and what is sent
pub sends_aside : (n m : Node) (xs : List (ℕ × Text)) (items : List Item) → m.me ≡ n.me → m.epoch ≡ n.epoch → era_of m ≡ era_of n → m.role ≡ n.role → m.lost ≡ n.lost → m.texts ≡ n.texts
    → Each (λ (x : ℕ × Text). IsOfCall x.1) xs → is_placed m.stage ≡ true → Aside n (record { node = m; sends = xs; items = items })
sends_aside n m xs items me epoch era role lost texts sends placed = record {
  me = me;
  epoch = epoch;
  era = era;
  role = role;
  lost = lost;
  other = λ q ne. ap (λ (f : ℕ → List Text). f q) texts;
  said = [];
  own = ap (λ (f : ℕ → List Text). f n.me) texts ∙ append_none (n.texts n.me);
  saying = tt;
  sends = sends;
  placed = placed;
}

-- a node that is elsewhere
pub writes_aside : (n m : Node) (items : List Item) → m.me ≡ n.me → m.epoch ≡ n.epoch → era_of m ≡ era_of n → m.role ≡ n.role → m.lost ≡ n.lost → m.texts ≡ n.texts → is_placed m.stage ≡ true → Aside n (writing items m)
writes_aside n m items me epoch era role lost texts placed = sends_aside n m [] items me epoch era role lost texts tt placed

-- a text that is said to some of the members
pub says_aside : (n m : Node) (all : List ℕ) (t : Text) (items : List Item) → m.me ≡ n.me → m.epoch ≡ n.epoch → era_of m ≡ era_of n → m.role ≡ n.role → m.lost ≡ n.lost → m.texts ≡ n.texts → IsOfCall t → is_placed m.stage ≡ true
    → Aside n (saying all t items m)
says_aside n m all t items me epoch era role lost texts is placed = record {
  me = me;
  epoch = epoch;
  era = era;
  role = role;
  lost = lost;
  other = λ q ne. grind (arith, nat_tests, ne, me, ap (λ (f : ℕ → List Text). f q) texts);
  said = t ∷ [];
  own = grind (arith, nat_tests, me, ap (λ (f : ℕ → List Text). f n.me) texts);
  saying = (is, tt);
  sends = others_sent t is (filter (λ q. not (q == m.me)) all);
  placed = placed;
}

pub error_aside : (n : Node) (error : Error) → Aside n (returns_error n error)
error_aside n (ByLoss x) = writes_aside n _ _ refl refl refl refl refl refl refl
error_aside n (ByLeaving x) = writes_aside n _ _ refl refl refl refl refl refl refl
