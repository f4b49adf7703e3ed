-- A member that has heard all and was told of all has a turn, unless the member of its round is still to speak.
use Rattle.std.proofs.Common.{◌≡◌, ℕ, ◌<◌, ◌≢◌, ◌==◌, zero, suc, Bool, true, false, cond, ◌||◌, List, [], Option, Some, None, ◌⊎◌, inl, inr, arith, refl, subst, sym, ◌∙◌, ap}
use Rattle.std.specs.Prelude.{nat_lt, IsSome}
use Rattle.std.proofs.lemmas.Bool.Decides.{nat_tests}
use Rattle.std.proofs.lemmas.Bool.{cond_both, cases_eq, cases_Bool}
use Rattle.fx_link.specs.declared.slot.Slot.{Slot}
use Rattle.fx_ballot.specs.declared.heard.Heard.{Heard}
use Rattle.fx_ballot.specs.declared.poll.Poll.TheVariants as poll
use Rattle.fx_ballot.specs.Turn.{Phase, Outside, Voting, Round, Decided, Message, Turn, turn, form, speak, follow, decide, slots_of, slot_of, with_slot}
use Rattle.fx_ballot.specs.World.{Member, World, stays, is_outside, Apart}
use Rattle.fx_ballot.specs.Laws.{vote_of, estimate_of, past, AllEntered, Attentive, ClearLinksEnable}
use Rattle.fx_ballot.proofs.Messages.{Knows}
use Rattle.fx_ballot.proofs.Trails.{Trail, hear_all}
use Rattle.fx_ballot.proofs.Strangers.{among_seat}
use Rattle.fx_ballot.proofs.Runs.{Kept}

-- what process b knows of process c is all that c said
record AllHeard (w : World) (b c : ℕ) : Type 0 where
  pub vote : ((w.member b).heard c).vote ≡ vote_of w c
  pub estimate : ((w.member b).heard c).estimate ≡ estimate_of w c
  pub left : ((w.member b).heard c).left ≡ (w.member c).gone

clear_trail : (w : World) (b c : ℕ) → w.link c b ≡ [] → Trail w b c → AllHeard w b c
clear_trail w b c clear t =
    let empty : hear_all (w.link c b) ((w.member b).heard c) ≡ (w.member b).heard c = ap (λ (ys : List Message). hear_all ys ((w.member b).heard c)) clear in
    record {
      vote = sym (ap (λ (x : Heard). x.vote) empty) ∙ t.vote;
      estimate = sym (ap (λ (x : Heard). x.estimate) empty) ∙ t.estimate;
      left = sym (ap (λ (x : Heard). x.left) empty) ∙ t.left;
    }

-- of each other member all is heard, or it is known as lost
abbrev Heeded : World → ℕ → ℕ → Type 0
Heeded w b c = (((w.member b).heard c).lost ≡ true) ⊎ (((w.member c).living ≡ true) × AllHeard w b c)

heeded : (n : ℕ) (name : ℕ → ℕ) (m : ℕ) (w : World) → m < n → Kept n name w → Attentive n name w (name m) → (c : ℕ) → c < n → name c ≢ name m
    → Heeded w (name m) (name c)
heeded n name m w low k a c l ne =
    elim (cases_Bool ((w.member (name m)).heard (name c)).lost) [
      | inl e ↦ inl e
      | inr e ↦
          let t : Trail w (name m) (name c) = k.caught.trail (name m) (name c) (among_seat n name m low) (λ z. ne (sym z)) e in
          elim (cases_Bool (w.member (name c)).living) [
            | inl alive ↦ inr (alive, clear_trail w (name m) (name c) (a.clear c l ne) t)
            | inr dead ↦ inl (a.told c l ne dead)
          ]
    ]

-- a member is known to be away
abbrev Away : Heard → Type 0
Away h = (h.lost ≡ true) ⊎ (h.left ≡ true)

some_slot : (vote : Option Slot) (lost left : Bool) → IsSome vote ⊎ ((lost ≡ true) ⊎ (left ≡ true)) → IsSome (slot_of vote lost left)
some_slot (Some s) lost left h = refl
some_slot None true left h = refl
some_slot None false true h = refl
some_slot None false false (inl h) = h
some_slot None false false (inr (inl h)) = absurd (cc)
some_slot None false false (inr (inr h)) = absurd (cc)

some_slots : (seen : ℕ → Heard) (n : ℕ) → ((k : ℕ) → k < n → IsSome (seen k).vote ⊎ Away (seen k)) → IsSome (slots_of seen n)
some_slots seen zero h = refl
some_slots seen (suc n) h =
    both (slots_of seen n) (slot_of (seen n).vote (seen n).lost (seen n).left) (some_slots seen n (λ k l. h k (omega (arith, l))))
    (some_slot (seen n).vote (seen n).lost (seen n).left (h n (omega arith)))
  where
    both : (a : Option (List Slot)) (b : Option Slot) → IsSome a → IsSome b → IsSome (with_slot a b)
    both None b x y = x
    both (Some a) None x y = y
    both (Some a) (Some b) x y = refl

has_voted : (w : World) (c : ℕ) → Knows w → is_outside (w.member c).phase ≡ false → IsSome (vote_of w c)
has_voted w c k e = not_none (vote_of w c) (λ none. let bad : true ≡ false = sym (ap is_outside (k.entered c none)) ∙ e in cc)
  where
    not_none : (o : Option Slot) → (o ≡ None → ⊥) → IsSome o
    not_none None h = absurd (h refl)
    not_none (Some x) h = refl

both_flags : (m : Member) → m.living ≡ true → m.gone ≡ false → stays m ≡ true
both_flags m a b = grind (arith, nat_tests)

-- each kind of wait ends
vote_comes : (n : ℕ) (name : ℕ → ℕ) (m : ℕ) (w : World) → m < n → Kept n name w → AllEntered n name w → Attentive n name w (name m)
    → stays (w.member (name m)) ≡ true → (c : ℕ) → c < n
    → IsSome ((w.member (name m)).heard (name c)).vote ⊎ Away ((w.member (name m)).heard (name c))
vote_comes n name m w low k entered a here c l =
    elim (cases_eq (name c) (name m)) [
      | inl same ↦
          inl
          (subst (λ (q : ℕ). IsSome ((w.member (name m)).heard q).vote) (sym same) (has_voted w (name m) k.sound.messages.knows (entered m low here)))
      | inr ne ↦ other (heeded n name m w low k a c l ne)
    ]
  where
    other : Heeded w (name m) (name c) → IsSome ((w.member (name m)).heard (name c)).vote ⊎ Away ((w.member (name m)).heard (name c))
    other (inl lost) = inr (inl lost)
    other (inr h) =
        elim (cases_Bool (w.member (name c)).gone) [
          | inl gone ↦ inr (inr (h.1.left ∙ gone))
          | inr there ↦
              inl
              (subst (λ (o : Option Slot). IsSome o) (sym h.1.vote)
              (has_voted w (name c) k.sound.messages.knows (entered c l (both_flags (w.member (name c)) h.0 there))))
        ]

estimate_comes : (n : ℕ) (name : ℕ → ℕ) (m : ℕ) (w : World) → m < n → Kept n name w → Attentive n name w (name m)
    → (c : ℕ) → c < n → name c ≢ name m → (stays (w.member (name c)) ≡ true → past c (w.member (name c)).phase ≡ true)
    → IsSome ((w.member (name m)).heard (name c)).estimate ⊎ Away ((w.member (name m)).heard (name c))
estimate_comes n name m w low k a c l ne further = other (heeded n name m w low k a c l ne)
  where
    other : Heeded w (name m) (name c) → IsSome ((w.member (name m)).heard (name c)).estimate ⊎ Away ((w.member (name m)).heard (name c))
    other (inl lost) = inr (inl lost)
    other (inr h) =
        elim (cases_Bool (w.member (name c)).gone) [
          | inl gone ↦ inr (inr (h.1.left ∙ gone))
          | inr there ↦
              inl
              (subst (λ (o : Option (List Slot)). IsSome o) (sym h.1.estimate)
              (k.sound.spoken.said c l (further (both_flags (w.member (name c)) h.0 there))))
        ]

form_goes : (o : Option (List Slot)) → IsSome o → (form o).poll ≢ poll.NotYet
form_goes None e = absurd (let bad : false ≡ true = e in cc)
form_goes (Some s) e = λ q. absurd (cc)

follow_goes : (r : ℕ) (held : List Slot) (o : Option (List Slot)) (lost left : Bool) → IsSome o ⊎ ((lost ≡ true) ⊎ (left ≡ true))
    → (follow r held o (lost || left)).poll ≢ poll.NotYet
follow_goes r held (Some s) lost left h = λ q. absurd (cc)
follow_goes r held None true left h = λ q. absurd (cc)
follow_goes r held None false true h = λ q. absurd (cc)
follow_goes r held None false false (inl h) = absurd (let bad : false ≡ true = h in cc)
follow_goes r held None false false (inr (inl h)) = absurd (cc)
follow_goes r held None false false (inr (inr h)) = absurd (cc)

is_below : (r n : ℕ) → nat_lt r n ≡ true → r < n
is_below r n e = grind (arith, nat_tests)

is_other : (r i : ℕ) → (r == i) ≡ false → r ≢ i
is_other r i e = grind (arith, nat_tests)

pub clear_links_enable : (n : ℕ) (name : ℕ → ℕ) (w : World) → Apart n name → Kept n name w → ClearLinksEnable n name w
clear_links_enable n name w apart k m low entered a u = go (w.member (name m)).phase refl
  where
    go : (phase : Phase) → (w.member (name m)).phase ≡ phase → (turn n m (λ c. (w.member (name m)).heard (name c)) phase).poll ≢ poll.NotYet
    go Outside e = absurd (let bad : true ≡ false = sym (ap is_outside e) ∙ entered m low u.here in cc)
    go Voting e =
        form_goes (slots_of (λ c. (w.member (name m)).heard (name c)) n)
        (some_slots (λ c. (w.member (name m)).heard (name c)) n (λ c l. vote_comes n name m w low k entered a u.here c l))
    go (Round o held) e =
        cond_both {A = Turn} (nat_lt o n)
        (cond (o == m) (speak o held) (follow o held ((w.member (name m)).heard (name o)).estimate (((w.member (name m)).heard (name o)).lost || ((w.member (name m)).heard (name o)).left)))
        (decide held) (λ (t : Turn). t.poll ≢ poll.NotYet)
        (λ below.
        cond_both {A = Turn} (o == m) (speak o held)
        (follow o held ((w.member (name m)).heard (name o)).estimate (((w.member (name m)).heard (name o)).lost || ((w.member (name m)).heard (name o)).left))
        (λ (t : Turn). t.poll ≢ poll.NotYet) (λ own q. absurd (cc))
        (λ other.
        follow_goes o held ((w.member (name m)).heard (name o)).estimate ((w.member (name m)).heard (name o)).lost ((w.member (name m)).heard (name o)).left
        (estimate_comes n name m w low k a o (is_below o n below) (λ z. is_other o m other (apart o m (is_below o n below) low z))
        (u.round o held e (is_below o n below) (is_other o m other)))))
        (λ beyond q. absurd (cc))
    go (Decided held) e = λ q. absurd (cc)
