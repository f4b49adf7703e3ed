-- All parts that are kept or under way stay true, whatever happens.
use Rattle.std.proofs.Common.{◌≡◌, ℕ, ◌==◌, ◌&&◌, List, [], ◌∷◌, ◌++◌, subst, sym}
use Rattle.fx_ballot.specs.World.{put}
use Rattle.fx_machine.specs.Nodes.{Node, Act, first_node, receives, is_told}
use Rattle.fx_machine.specs.Setup.{Setup}
use Rattle.fx_machine.specs.Texts.{Text}
use Rattle.fx_fleet.specs.World.{World, first_world, up, sent_to, does, receives_front, learns, loses}
use Rattle.fx_legal.specs.Ledger.{Ledger}
use Rattle.fx_calm.proofs.Lists.{Each, each_append, chosen, equal}
use Rattle.fx_losses.proofs.Moves.{each_node}
use Rattle.fx_losses.proofs.Tests.{first_of, second_of}
use Rattle.fx_calls.proofs.Parts.{TruePart, Spoken, parts_grow}
use Rattle.fx_calls.proofs.Plans.{Grows}

pub spoken_step : (s : Setup) (p : ℕ) (act : Act) (w : World) (l m : Ledger) → Grows l m → ((c : ℕ) → Each (TruePart m c p) (act.node.texts c)) → ((b : ℕ) → Each (TruePart m p b) (sent_to b act.sends))
    → Spoken l w → Spoken m (does s p act w)
spoken_step s p act w l m g texts sends h = record {
  texts = λ b a. each_node s p act w (λ o n. Each (TruePart m a o) (n.texts a)) (texts a) (λ o ne. parts_grow l m g a o ((w.node o).texts a) (h.texts o a)) b;
  links = λ a b. chosen (Each (TruePart m a b)) ((a == p) && up s w b) (w.link a b ++ sent_to b act.sends) (w.link a b)
      (λ e. each_append (TruePart m a b) (w.link a b) (sent_to b act.sends) (parts_grow l m g a b (w.link a b) (h.links a b))
      (subst (λ (o : ℕ). Each (TruePart m o b) (sent_to b act.sends)) (sym (equal a p (first_of (a == p) (up s w b) e))) (sends b)))
      (λ e. parts_grow l m g a b (w.link a b) (h.links a b));
}

pub spoken_receives : (l : Ledger) (a b : ℕ) (t : Text) (rest : List Text) (w : World) → w.link a b ≡ t ∷ rest → Spoken l w → Spoken l (receives_front a b (t ∷ rest) w)
spoken_receives l a b t rest w front h = record {
  texts = λ q c. chosen (λ (m : Node). Each (TruePart l c q) (m.texts c)) (q == b) (receives a t (w.node b)) (w.node q)
      (λ e. subst (λ (o : ℕ). Each (TruePart l c o) ((receives a t (w.node b)).texts c)) (sym (equal q b e)) (received c)) (λ e. h.texts q c);
  links = λ c q. chosen (Each (TruePart l c q)) ((c == a) && (q == b)) rest (w.link c q)
      (λ e.
      subst (λ (o : ℕ). Each (TruePart l o q) rest) (sym (equal c a (first_of (c == a) (q == b) e)))
      (subst (λ (o : ℕ). Each (TruePart l a o) rest) (sym (equal q b (second_of (c == a) (q == b) e))) under.1)) (λ e. h.links c q);
}
  where
    under : Each (TruePart l a b) (t ∷ rest)
    under = subst (Each (TruePart l a b)) front (h.links a b)

    kept : (c : ℕ) → Each (TruePart l c b) (put (w.node b).texts a ((w.node b).texts a ++ t ∷ []) c)
    kept c = chosen (Each (TruePart l c b)) (c == a) ((w.node b).texts a ++ t ∷ []) ((w.node b).texts c)
        (λ e. subst (λ (o : ℕ). Each (TruePart l o b) ((w.node b).texts a ++ t ∷ [])) (sym (equal c a e)) (each_append (TruePart l a b) ((w.node b).texts a) (t ∷ []) (h.texts b a) (under.0, tt))) (λ e. h.texts b c)

    received : (c : ℕ) → Each (TruePart l c b) ((receives a t (w.node b)).texts c)
    received c = chosen (λ (f : ℕ → List Text). Each (TruePart l c b) (f c)) (a == (w.node b).me) (w.node b).texts (put (w.node b).texts a ((w.node b).texts a ++ t ∷ [])) (λ e. h.texts b c) (λ e. kept c)

pub spoken_learns : (l : Ledger) (a b : ℕ) (w : World) → Spoken l w → Spoken l (learns a b w)
spoken_learns l a b w h = record {
  texts = λ q c. chosen (λ (m : Node). Each (TruePart l c q) (m.texts c)) (q == b) (is_told a (w.node b)) (w.node q)
      (λ e. subst (λ (o : ℕ). Each (TruePart l c o) ((w.node b).texts c)) (sym (equal q b e)) (h.texts b c)) (λ e. h.texts q c);
  links = λ c q. chosen (Each (TruePart l c q)) ((c == a) && (q == b)) [] (w.link c q) (λ e. tt) (λ e. h.links c q);
}

pub spoken_loses : (s : Setup) (l : Ledger) (p : ℕ) (w : World) → Spoken l w → Spoken l (loses s p w)
spoken_loses s l p w h = record {
  texts = λ q c. chosen (λ (m : Node). Each (TruePart l c q) (m.texts c)) (q == p) (first_node s p) (w.node q) (λ e. tt) (λ e. h.texts q c);
  links = λ a b. chosen (Each (TruePart l a b)) (b == p) [] (w.link a b) (λ e. tt) (λ e. h.links a b);
}

pub spoken_first : (s : Setup) (l : Ledger) → Spoken l (first_world s)
spoken_first s l = record { texts = λ b a. tt; links = λ a b. tt }
