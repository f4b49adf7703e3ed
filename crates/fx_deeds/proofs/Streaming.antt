-- What a process has of another and what is under way to it is all that the other ever said to it.
use Rattle.std.proofs.lemmas.Bool.Decides.{nat_tests}
use Rattle.std.proofs.Common.{arith, ◌≡◌, ℕ, Bool, true, false, ◌==◌, List, [], ◌∷◌, ◌++◌, map, refl, sym, ap, ◌∙◌, ◌⊎◌, inl, inr}
use Rattle.std.specs.Prelude.{if◌then◌else◌}
use Rattle.fx_item.specs.declared.item.Item.{Item}
use Rattle.fx_item.specs.declared.item.Item.TheVariants as item
use Rattle.fx_link.specs.declared.message.Message.{Message}
use Rattle.fx_machine.specs.Messages.{message_of}
use Rattle.fx_machine.specs.Nodes.{Act}
use Rattle.fx_machine.specs.Numbers.{proc}
use Rattle.fx_machine.specs.Setup.{Setup}
use Rattle.fx_machine.specs.Texts.{Text}
use Rattle.fx_fleet.specs.World.{World, up, does, sent_to, send_item, receives_front}
use Rattle.fx_fleet.specs.Rounds.{Moment, whole}
use Rattle.fx_deeds.specs.Always.{IsKept, KnowThemselves}
use Rattle.fx_deeds.specs.Streams.{Keeps, said_of, said_to, Streams}
use Rattle.fx_deeds.proofs.Every.{is_deed}
use Rattle.fx_deeds.proofs.Facts.{me_kept}
use Rattle.fx_deeds.proofs.Kept.{keeps}
use Rattle.fx_deeds.proofs.Silent.{said_append, silent}
use Rattle.fx_deeds.proofs.Whole.{always}

map_append : (xs ys : List Text) → map message_of (xs ++ ys) ≡ map message_of xs ++ map message_of ys
map_append [] ys = refl
map_append (x ∷ xs) ys = ap (λ l. message_of x ∷ l) (map_append xs ys)

append_assoc : {X : Type 0} (xs ys zs : List X) → (xs ++ ys) ++ zs ≡ xs ++ (ys ++ zs)
append_assoc [] ys zs = refl
append_assoc (x ∷ xs) ys zs = ap (λ l. x ∷ l) (append_assoc xs ys zs)

append_none : {X : Type 0} (xs : List X) → xs ++ [] ≡ xs
append_none [] = refl
append_none (x ∷ xs) = ap (λ ys. x ∷ ys) (append_none xs)

-- what the items of sends say
said_sent : (c q p : ℕ) (sends : List (ℕ × Text)) → said_to c q (map (send_item p) sends) ≡ (if p == c then map message_of (sent_to q sends) else [])
said_sent c q p [] = grind (arith, nat_tests)
said_sent c q p (x ∷ sends) = grind (arith, nat_tests, said_sent c q p sends)

-- all that was said once a process has acted
said_then : (s : Setup) (p : ℕ) (w : World) (act : Act) (c q : ℕ) → said_to c q act.items ≡ []
    → said_to c q (does s p act w).items ≡ said_to c q w.items ++ (if p == c then map message_of (sent_to q act.sends) else [])
said_then s p w act c q none =
    said_append c q w.items (act.items ++ map (send_item p) act.sends)
    ∙ ap (λ l. said_to c q w.items ++ l) (said_append c q act.items (map (send_item p) act.sends) ∙ (λ i. none i ++ said_sent c q p act.sends i))

split : (b : Bool) → (b ≡ true) ⊎ (b ≡ false)
split true = inl refl
split false = inr refl

-- an item that sends nothing changes nothing
said_else : (c q : ℕ) (xs : List Item) (i : Item) → said_of c q i ≡ [] → said_to c q (xs ++ i ∷ []) ≡ said_to c q xs
said_else c q xs i none = said_append c q xs (i ∷ []) ∙ (λ j. said_to c q xs ++ (none j ++ [])) ∙ append_none (said_to c q xs)

-- what a node has of another and what is under way
abbrev has : World → ℕ → ℕ → List Text
has w q c = (w.node q).texts c ++ w.link c q

-- by what there is at the end, as messages
later : (w : World) (q c : ℕ) (more : List Text) (all : List Message) → map message_of (has w q c) ≡ all
    → map message_of ((w.node q).texts c ++ (w.link c q ++ more)) ≡ all ++ map message_of more
later w q c more all e =
    ap (map message_of) (sym (append_assoc ((w.node q).texts c) (w.link c q) more)) ∙ map_append (has w q c) more ∙ ap (λ l. l ++ map message_of more) e

act_streams : (s : Setup) (p : ℕ) (w : World) (act : Act) → up s w p ≡ true → (w.node p).me ≡ p → Keeps (w.node p) act.node → ((c q : ℕ) → said_to c q act.items ≡ [])
    → Streams s w → Streams s (does s p act w)
act_streams s p w act on me k none h = record {
  whole = λ q c is ne untold.
      elim (split (q == p)) [
        | inl same ↦ grind (arith, nat_tests, same, on, me, ne, untold, k.other c, ap (λ (f : ℕ → Bool). f c) k.lost, h.whole p c, said_then s p w act c q (none c q), append_none (said_to c q w.items))
        | inr apart ↦ elim (split (c == p)) [
          | inl mine ↦ grind (arith, nat_tests, apart, mine, is, ne, untold, h.whole q c, said_then s p w act c q (none c q), later w q c (sent_to q act.sends) (said_to c q w.items))
          | inr other ↦ grind (arith, nat_tests, apart, other, is, ne, untold, h.whole q c, said_then s p w act c q (none c q), append_none (said_to c q w.items))
        ]
      ];
}

hear_streams : (s : Setup) (p q : ℕ) (t : Text) (rest : List Text) (w : World) → w.link p q ≡ t ∷ rest → (w.node q).me ≡ q → Streams s w
    → Streams s (receives_front p q (t ∷ rest) w)
hear_streams s p q t rest w e me h = record {
  whole = λ r c is ne untold.
      grind (
        arith,
        nat_tests,
        e,
        me,
        is,
        ne,
        untold,
        h.whole r c,
        said_else c r w.items (item.Deliver (proc p) (proc q) (message_of t)) refl,
        append_assoc ((w.node q).texts p) (t ∷ []) rest,
      );
}

-- each node is that of its process, and links carry all that was said
record Streaming (s : Setup) (w : World) : Type 0 where
  knows : KnowThemselves w
  streams : Streams s w

streams_kept : (s : Setup) → IsKept s (Streaming s)
streams_kept s = record {
  acts = λ p w act on e h. record {
    knows = (me_kept s).acts p w act on e h.knows;
    streams = act_streams s p w act on (h.knows.me p) (keeps s (w.node p) act (is_deed s (w.node p) act e)) (λ c q. silent c q s (w.node p) act (is_deed s (w.node p) act e)) h.streams;
  };
  hears = λ p q t rest w on e h. record { knows = (me_kept s).hears p q t rest w on e h.knows; streams = hear_streams s p q t rest w e (h.knows.me q) h.streams };
  kills = λ p w on h. record {
    knows = (me_kept s).kills p w on h.knows;
    streams = record { whole = λ r c is ne untold. grind (arith, nat_tests, is, ne, untold, h.streams.whole r c, said_else c r w.items (item.Kill (proc p)) refl) };
  };
  tells = λ p q w dead on none h. record {
    knows = (me_kept s).tells p q w dead on none h.knows;
    streams = record { whole = λ r c is ne untold. grind (arith, nat_tests, on, is, ne, untold, h.streams.whole r c, said_else c r w.items (item.Told (proc p) (proc q)) refl) };
  };
}

pub all_stream : (s : Setup) (fuel bound : ℕ) (moments : List Moment) → Streams s (whole s fuel bound moments)
all_stream s fuel bound moments =
    (always s (Streaming s) (streams_kept s) (record { knows = record { me = λ p. refl }; streams = record { whole = λ q c is ne untold. refl } }) fuel bound moments).streams
