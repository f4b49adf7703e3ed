-- Where no vote in the ballot of an epoch is kept none is read.
use Rattle.std.proofs.Common.{◌≡◌, inl, inr, ℕ, suc, Bool, true, false, ◌&&◌, ◌||◌, ◌==◌, ◌<◌, List, [], ◌∷◌, ◌++◌, map, length, replicate, set, Option, None, Some, refl, sym, ap, ◌∙◌, subst, arith}
use Rattle.std.specs.Prelude.{IfNone, is_none, is_some, slice_index_or}
use Rattle.std.specs.FinSet as sets
use Rattle.std.specs.List.{filter, list_any}
use Rattle.std.specs.Ordering.{nat_cmp}
use Rattle.std.proofs.lemmas.Bool.Decides.{nat_tests}
use Rattle.std.proofs.lemmas.Bool.{cases_eq, or_parts}
use Rattle.std.proofs.lemmas.List.{get_or-set_same, get_or-set_other}
use Rattle.std.proofs.Math.ListN as lists
use Rattle.fx_link.specs.declared.message.Message.{Message}
use Rattle.fx_link.specs.declared.message.Message.TheVariants as message
use Rattle.fx_link.specs.declared.slot.Slot.{Slot}
use Rattle.fx_ballot.specs.Names.{has}
use Rattle.fx_machine.specs.Messages.{wire_text}
use Rattle.fx_machine.specs.Nodes.{Node}
use Rattle.fx_machine.specs.Reading.{OfEpoch, first_read, has_left, next_ballot, only, vote_in, vote_of}
use Rattle.fx_inbox.specs.Joins.{HasNoJoin, tells_join}
use Rattle.fx_inbox.specs.Keeping.{Kept, IsInboxOf}
use Rattle.fx_inbox.proofs.Keeping.{always, of_later, votes_alike}

-- ---- one row

any_added : (ms : List Message) (m : Message) → list_any tells_join ms ≡ false → tells_join m ≡ false → list_any tells_join (ms ++ m ∷ []) ≡ false
any_added [] m none other = rw other refl
any_added (x ∷ ms) m none other =
    let parts = or_parts (tells_join x) (list_any tells_join ms) none in
    rw parts.0 (any_added ms m parts.1 other)

any_left : (p : Message → Bool) (ms : List Message) → list_any tells_join ms ≡ false → list_any tells_join (filter p ms) ≡ false
any_left p [] none = refl
any_left p (m ∷ ms) none =
    let parts = or_parts (tells_join m) (list_any tells_join ms) none in
    grind (arith, nat_tests, parts.0, any_left p ms parts.1)

-- what is no vote of an epoch isn't read as one
unread : (d : ℕ) (test : Slot → Bool) (m : Message) → tells_join m ≡ false → only test (vote_in (OfEpoch d) (wire_text m)) ≡ None
unread d test (message.Join e x) = λ h. absurd cc
unread d test (message.Jest e r slots) = λ h. refl
unread d test (message.Part e k values) = λ h. refl
unread d test (message.Vote e k x) = λ h. refl
unread d test (message.Est e k r slots) = λ h. refl
unread d test (message.Share e k packed) = λ h. refl
unread d test (message.Tell e k known) = λ h. refl
unread d test (message.Help e k packed) = λ h. refl
unread d test (message.Give e k packed) = λ h. refl

none_read : (d : ℕ) (test : Slot → Bool) (ms : List Message) → list_any tells_join ms ≡ false → first_read (λ t. only test (vote_in (OfEpoch d) t)) (map wire_text ms) ≡ None
none_read d test [] none = refl
none_read d test (m ∷ ms) none =
    let parts = or_parts (tells_join m) (list_any tells_join ms) none in
    rw (unread d test m parts.0) (none_read d test ms parts.1)

-- ---- all rows

pub added : (rows : List (List Message)) (i : ℕ) (m : Message) → i < length rows → HasNoJoin rows → tells_join m ≡ false → HasNoJoin (set rows i (slice_index_or rows i [] ++ m ∷ []))
added rows i m within none other q = elim (cases_eq q i) [
  | inl same ↦
      subst (λ (k : ℕ). list_any tells_join (slice_index_or (set rows i (slice_index_or rows i [] ++ m ∷ [])) k []) ≡ false) (sym same)
      (ap (λ (ms : List Message). list_any tells_join ms) (get_or-set_same rows i (slice_index_or rows i [] ++ m ∷ []) [] within) ∙ any_added (slice_index_or rows i []) m (none i) other)
  | inr apart ↦ ap (λ (ms : List Message). list_any tells_join ms) (get_or-set_other rows i q (slice_index_or rows i [] ++ m ∷ []) [] apart) ∙ none q
]

pub left : (e k : ℕ) (rows : List (List Message)) → HasNoJoin rows → HasNoJoin (map (of_later e k) rows)
left e k rows none q =
    ap (λ (ms : List Message). list_any tells_join ms) (lists.get_or-map (of_later e k) rows q [])
    ∙ any_left _ (slice_index_or rows q []) (none q)

-- no row at all has one
pub no_rows : (n : ℕ) → HasNoJoin (replicate n [])
no_rows n q = ap (λ (ms : List Message). list_any tells_join ms) (always n q [])

-- ---- nobody is lost or has left

pub from_none : {X P : Type 0} → (o : Option X) → is_none o ≡ true → IfNone o P → P
from_none None none p = p
from_none (Some x) none p = absurd cc

none_votes : (n : Node) (box : Kept) (q : ℕ) → IsInboxOf n box → HasNoJoin box.messages → vote_of (next_ballot n) n q ≡ None
none_votes n box q know none =
    sym (votes_alike n box (next_ballot n) q know refl)
    ∙ none_read (suc n.epoch) (λ x. (q == box.me) || (next_ballot n).is_vote x) (slice_index_or box.messages q []) (none q)

no_and : (a b : Bool) → b ≡ false → (a && b) ≡ false
no_and true b e = e
no_and false b e = refl

pub none_left : (n : Node) (box : Kept) (q : ℕ) → IsInboxOf n box → HasNoJoin box.messages → has_left n q ≡ false
none_left n box q know none = no_and (has n.present q) (is_some (vote_of (next_ballot n) n q)) (ap (λ (o : Option Slot). is_some o) (none_votes n box q know none))

pub none_lost : (n : Node) (box : Kept) (q : ℕ) → IsInboxOf n box → box.lost ≡ sets.empty → n.lost q ≡ false
none_lost n box q know none =
    sym (know.told q) ∙ ap (λ (s : sets.FinSet nat_cmp). sets.contains s q) none ∙ sets.contains-empty nat_cmp q
