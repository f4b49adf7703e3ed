-- What a process only attends: it hears what is under way to it and is told of losses, and nothing else changes.
use Rattle.std.proofs.Common.{◌≡◌, ◌≢◌, ◌<◌, inl, inr, ℕ, zero, suc, ◌==◌, Bool, true, false, ◌&&◌, ◌||◌, List, [], ◌∷◌, arith, refl, sym, ap, subst, ◌∙◌}
use Rattle.std.specs.Prelude.{if◌then◌else◌, not, nat_lt, is_none}
use Rattle.std.proofs.lemmas.Bool.{cases_eq}
use Rattle.std.proofs.lemmas.Bool.Decides.{nat_tests}
use Rattle.fx_ballot.specs.World.{put}
use Rattle.fx_machine.specs.Nodes.{Node, Stage, has_ended, receives, is_told}
use Rattle.fx_machine.specs.Setup.{Setup}
use Rattle.fx_machine.specs.Steps.{next}
use Rattle.fx_machine.specs.Texts.{Text}
use Rattle.fx_deeds.proofs.Whole.{rest_left}
use Rattle.fx_fleet.specs.Rounds.{in_rising_order, receives_all, drains, attends}
use Rattle.fx_fleet.specs.World.{World, up, receives_front, learns, may_learn, notices, with_link}
use Rattle.fx_calm.proofs.Lists.{chosen}
use Rattle.fx_losses.proofs.Fair.{Attended, StillAt}
use Rattle.fx_losses.proofs.Texts.{put_same, put_other}

pub attended_not : (q : ℕ) (w : World) → Attended q w w
attended_not q w = record { far = λ o ne. refl; stage = refl; killed = λ o. refl; links = λ a b ne. refl; clear = λ a e. e; lost = λ o e. e }

pub attended_both : (q : ℕ) (w v x : World) → Attended q w v → Attended q v x → Attended q w x
attended_both q w v x a b = record {
  far = λ o ne. b.far o ne ∙ a.far o ne;
  stage = b.stage ∙ a.stage;
  killed = λ o. b.killed o ∙ a.killed o;
  links = λ c o ne. b.links c o ne ∙ a.links c o ne;
  clear = λ c e. b.clear c (a.clear c e);
  lost = λ o e. b.lost o (a.lost o e);
}

-- who is up stays so
pub attended_up : (s : Setup) (q : ℕ) (w v : World) → Attended q w v → (o : ℕ) → up s v o ≡ up s w o
attended_up s q w v a o =
    ap (λ (b : Bool). nat_lt o s.procs && (not b && not (has_ended (v.node o)))) (a.killed o)
    ∙ ap (λ (b : Bool). nat_lt o s.procs && (not (w.killed o) && not b)) (elim (cases_eq o q) [
      | inl same ↦ subst (λ (i : ℕ). has_ended (v.node i) ≡ has_ended (w.node i)) (sym same) (ap (λ (i : Stage). has_ended (record (w.node q) { stage = i })) a.stage)
      | inr ne ↦ ap has_ended (a.far o ne)
    ])

pair_same : (a b : ℕ) → ((a == a) && (b == b)) ≡ true
pair_same a b = grind (arith, nat_tests)

pair_far : (a b c q : ℕ) → q ≢ b → ((c == a) && (q == b)) ≡ false
pair_far a b c q ne = grind (arith, nat_tests)

pair_else : (a b c q : ℕ) → c ≢ a → ((c == a) && (q == b)) ≡ false
pair_else a b c q ne = grind (arith, nat_tests)

link_far : (a b : ℕ) (texts : List Text) (link : ℕ → ℕ → List Text) (c d : ℕ) → d ≢ b → with_link a b texts link c d ≡ link c d
link_far a b texts link c d ne = ap (λ (i : Bool). if i then texts else link c d) (pair_far a b c d ne)

link_here : (a b : ℕ) (texts : List Text) (link : ℕ → ℕ → List Text) → with_link a b texts link a b ≡ texts
link_here a b texts link = ap (λ (i : Bool). if i then texts else link a b) (pair_same a b)

link_else : (a b : ℕ) (texts : List Text) (link : ℕ → ℕ → List Text) (c : ℕ) → c ≢ a → with_link a b texts link c b ≡ link c b
link_else a b texts link c ne = ap (λ (i : Bool). if i then texts else link c b) (pair_else a b c b ne)

hears_attended : (p q : ℕ) (t : Text) (rest : List Text) (w : World) → w.link p q ≡ t ∷ rest → Attended q w (receives_front p q (t ∷ rest) w)
hears_attended p q t rest w e = record {
  far = λ o ne. put_other w.node q o (receives p t (w.node q)) ne;
  stage = ap (λ (n : Node). n.stage) (put_same w.node q (receives p t (w.node q)));
  killed = λ o. refl;
  links = λ a b ne. link_far p q rest w.link a b ne;
  clear = λ a none. elim (cases_eq a p) [
    | inl same ↦ absurd (let bad : t ∷ rest ≡ [] = sym e ∙ ap (λ (o : ℕ). w.link o q) (sym same) ∙ none in cc)
    | inr ne ↦ link_else p q rest w.link a ne ∙ none
  ];
  lost = λ o e. ap (λ (n : Node). n.lost o) (put_same w.node q (receives p t (w.node q))) ∙ e;
}

learns_attended : (p q : ℕ) (w : World) → Attended q w (learns p q w)
learns_attended p q w = record {
  far = λ o ne. put_other w.node q o (is_told p (w.node q)) ne;
  stage = ap (λ (n : Node). n.stage) (put_same w.node q (is_told p (w.node q)));
  killed = λ o. refl;
  links = λ a b ne. link_far p q [] w.link a b ne;
  clear = λ a none. elim (cases_eq a p) [
    | inl same ↦ ap (λ (o : ℕ). with_link p q [] w.link o q) same ∙ link_here p q [] w.link
    | inr ne ↦ link_else p q [] w.link a ne ∙ none
  ];
  lost = λ o e. ap (λ (n : Node). n.lost o) (put_same w.node q (is_told p (w.node q))) ∙ elim (cases_eq o p) [
    | inl same ↦ ap (put (w.node q).lost p true) same ∙ put_same (w.node q).lost p true
    | inr ne ↦ put_other (w.node q).lost p o true ne ∙ e
  ];
}

all_attended : (p q : ℕ) (ts : List Text) (w : World) → w.link p q ≡ ts → Attended q w (receives_all p q ts w) × ((receives_all p q ts w).link p q ≡ [])
all_attended p q [] w e = (attended_not q w, e)
all_attended p q (t ∷ rest) w e =
    let later = all_attended p q rest (receives_front p q (t ∷ rest) w) (rest_left p q t rest w) in
    (attended_both q w (receives_front p q (t ∷ rest) w) (receives_all p q rest (receives_front p q (t ∷ rest) w)) (hears_attended p q t rest w e) later.0, later.1)

drain_attended : (q p : ℕ) (w : World) → Attended q w (drains q p w) × (p ≢ q → (drains q p w).link p q ≡ [])
drain_attended q p w =
    chosen (λ (v : World). Attended q w v × (p ≢ q → v.link p q ≡ [])) (p == q) w (receives_all p q (w.link p q) w)
    (λ e. (attended_not q w, λ ne. absurd (ne (same p q e))))
    (λ e. let r = all_attended p q (w.link p q) w refl in (r.0, λ ne. r.1))
  where
    same : (a b : ℕ) → (a == b) ≡ true → a ≡ b
    same a b e = grind (arith, nat_tests)

notice_attended : (s : Setup) (p q : ℕ) (w : World) → up s w q ≡ true → Attended q w (notices s p q w) × (w.killed p ≡ true → ((notices s p q w).node q).lost p ≡ true)
notice_attended s p q w on =
    chosen (λ (v : World). Attended q w v × (w.killed p ≡ true → (v.node q).lost p ≡ true)) (may_learn s p q w) (learns p q w) w
    (λ e. (learns_attended p q w, λ dead. ap (λ (n : Node). n.lost p) (put_same w.node q (is_told p (w.node q))) ∙ put_same (w.node q).lost p true))
    (λ e. (attended_not q w, λ dead. was_told (w.killed p) (up s w q) ((w.node q).lost p) dead on e))
  where
    was_told : (a b c : Bool) → a ≡ true → b ≡ true → (a && (b && not c)) ≡ false → c ≡ true
    was_told a b c i j k = grind (arith, nat_tests)

-- ---- one after another

drained : (q n : ℕ) (w : World) → Attended q w (in_rising_order (drains q) n w) × ((p : ℕ) → p < n → p ≢ q → (in_rising_order (drains q) n w).link p q ≡ [])
drained q zero w = (attended_not q w, λ p low ne. absurd (omega (arith, low)))
drained q (suc n) w =
    let before = drained q n w in
    let this = drain_attended q n (in_rising_order (drains q) n w) in (
      attended_both q w (in_rising_order (drains q) n w) (drains q n (in_rising_order (drains q) n w)) before.0 this.0,
      λ p low ne. elim (cases_eq p n) [
        | inl same ↦ subst (λ (o : ℕ). (drains q n (in_rising_order (drains q) n w)).link o q ≡ []) (sym same) (this.1 (λ i. ne (same ∙ i)))
        | inr other ↦ this.0.clear p (before.1 p (omega (arith, low, other)) ne)
      ],
    )

noticed : (s : Setup) (q n : ℕ) (w : World) → up s w q ≡ true
    → Attended q w (in_rising_order (λ p. notices s p q) n w) × ((p : ℕ) → p < n → w.killed p ≡ true → ((in_rising_order (λ p. notices s p q) n w).node q).lost p ≡ true)
noticed s q zero w on = (attended_not q w, λ p low dead. absurd (omega (arith, low)))
noticed s q (suc n) w on =
    let before = noticed s q n w on in
    let this = notice_attended s n q (in_rising_order (λ p. notices s p q) n w) (attended_up s q w (in_rising_order (λ p. notices s p q) n w) before.0 q ∙ on) in (
      attended_both q w (in_rising_order (λ p. notices s p q) n w) (notices s n q (in_rising_order (λ p. notices s p q) n w)) before.0 this.0,
      λ p low dead. elim (cases_eq p n) [
        | inl same ↦ subst (λ (o : ℕ). ((notices s n q (in_rising_order (λ p. notices s p q) n w)).node q).lost o ≡ true) (sym same)
            (this.1 (before.0.killed n ∙ ap w.killed (sym same) ∙ dead))
        | inr other ↦ this.0.lost p (before.1 p (omega (arith, low, other)) dead)
      ],
    )

-- another only attends
pub still_there : (s : Setup) (o q : ℕ) (w v : World) → q ≢ o → Attended o w v → StillAt s q w → StillAt s q v
still_there s o q w v ne a is = record {
  clear = λ p low apart. a.links p q ne ∙ is.clear p low apart;
  told = λ p low dead. ap (λ (n : Node). n.lost p) (a.far q ne) ∙ is.told p low (sym (a.killed p) ∙ dead);
  quiet = ap (λ (b : Bool). not b || is_none (next s (v.node q))) (attended_up s o w v a q) ∙ ap (λ (n : Node). not (up s w q) || is_none (next s n)) (a.far q ne) ∙ is.quiet;
}

pub attends_attended : (s : Setup) (q : ℕ) (w : World) → up s w q ≡ true
    → Attended q w (attends s q w) × ((p : ℕ) → p < s.procs → p ≢ q → (attends s q w).link p q ≡ []) × ((p : ℕ) → p < s.procs → (attends s q w).killed p ≡ true → ((attends s q w).node q).lost p ≡ true)
attends_attended s q w on =
    let first = drained q s.procs w in
    let v : World = in_rising_order (drains q) s.procs w in
    let second = noticed s q s.procs v (attended_up s q w v first.0 q ∙ on) in
    (attended_both q w v (attends s q w) first.0 second.0, λ p low ne. second.0.clear p (first.1 p low ne), λ p low dead. second.1 p low (sym (second.0.killed p) ∙ dead))
