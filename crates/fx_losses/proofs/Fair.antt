-- A fair round in which nobody comes further leaves a still world.
use Rattle.std.proofs.Common.{◌≡◌, ◌≢◌, ◌<◌, ◌≤◌, inl, inr, ℕ, zero, suc, ◌==◌, Bool, true, false, ◌&&◌, ◌||◌, List, [], ◌∷◌, Option, Some, None, arith, refl, sym, ap, subst, ◌∙◌}
use Rattle.std.specs.Prelude.{if◌then◌else◌, not, nat_lt, is_none}
use Rattle.std.proofs.lemmas.Bool.{cases_eq}
use Rattle.std.proofs.lemmas.Bool.Decides.{nat_tests}
use Rattle.fx_ballot.specs.World.{put}
use Rattle.fx_script.specs.declared.job.Job.{Job}
use Rattle.fx_machine.specs.Nodes.{Node, Act, Stage, has_ended, receives, is_told}
use Rattle.fx_machine.specs.Setup.{Setup}
use Rattle.fx_machine.specs.Steps.{next}
use Rattle.fx_machine.specs.Texts.{Text}
use Rattle.fx_deeds.proofs.Whole.{rising_keep, rest_left}
use Rattle.fx_fleet.specs.Rounds.{in_rising_order, is_quiet, rests, receives_all, drains, attends, fair_turn, fair_round}
use Rattle.fx_fleet.specs.Runs.{AsksNothing, job_setup}
use Rattle.fx_fleet.specs.World.{World, up, does_if, steps, receives_front, learns, may_learn, notices, with_link}
use Rattle.fx_calm.proofs.Lists.{chosen}
use Rattle.fx_losses.specs.Losses.{IsStill}
use Rattle.fx_losses.proofs.Moments.{step_keeps, rest_keeps, turn_keeps, round_keeps, attend_keeps}
use Rattle.fx_losses.proofs.Rising.{level, Good, act_rises, Ahead, ahead_kept}
use Rattle.fx_losses.proofs.Shows.{up_parts}
use Rattle.fx_losses.proofs.Texts.{put_same, put_other}

-- ---- what only q attends

-- process q only heard texts and was told of losses
pub record Attended (q : ℕ) (w v : World) : Type 0 where
  pub far : (o : ℕ) → o ≢ q → v.node o ≡ w.node o
  pub stage : (v.node q).stage ≡ (w.node q).stage
  pub killed : (o : ℕ) → v.killed o ≡ w.killed o
  pub links : (a b : ℕ) → b ≢ q → v.link a b ≡ w.link a b
  pub clear : (a : ℕ) → w.link a q ≡ [] → v.link a q ≡ []
  pub lost : (o : ℕ) → (w.node q).lost o ≡ true → (v.node q).lost o ≡ true

attended_not : (q : ℕ) (w : World) → Attended q w w
attended_not q w = record { far = λ o ne. refl; stage = refl; killed = λ o. refl; links = λ a b ne. refl; clear = λ a e. e; lost = λ o e. e }

attended_both : (q : ℕ) (w v x : World) → Attended q w v → Attended q v x → Attended q w x
attended_both q w v x a b = record {
  far = λ o ne. b.far o ne ∙ a.far o ne;
  stage = b.stage ∙ a.stage;
  killed = λ o. b.killed o ∙ a.killed o;
  links = λ c o ne. b.links c o ne ∙ a.links c o ne;
  clear = λ c e. b.clear c (a.clear c e);
  lost = λ o e. b.lost o (a.lost o e);
}

-- who is up stays so
attended_up : (s : Setup) (q : ℕ) (w v : World) → Attended q w v → (o : ℕ) → up s v o ≡ up s w o
attended_up s q w v a o =
    ap (λ (b : Bool). nat_lt o s.procs && (not b && not (has_ended (v.node o)))) (a.killed o)
    ∙ ap (λ (b : Bool). nat_lt o s.procs && (not (w.killed o) && not b)) (elim (cases_eq o q) [
      | inl same ↦ subst (λ (i : ℕ). has_ended (v.node i) ≡ has_ended (w.node i)) (sym same) (ap (λ (i : Stage). has_ended (record (w.node q) { stage = i })) a.stage)
      | inr ne ↦ ap has_ended (a.far o ne)
    ])

pair_same : (a b : ℕ) → ((a == a) && (b == b)) ≡ true
pair_same a b = grind (arith, nat_tests)

pair_far : (a b c q : ℕ) → q ≢ b → ((c == a) && (q == b)) ≡ false
pair_far a b c q ne = grind (arith, nat_tests)

pair_else : (a b c q : ℕ) → c ≢ a → ((c == a) && (q == b)) ≡ false
pair_else a b c q ne = grind (arith, nat_tests)

link_far : (a b : ℕ) (texts : List Text) (link : ℕ → ℕ → List Text) (c d : ℕ) → d ≢ b → with_link a b texts link c d ≡ link c d
link_far a b texts link c d ne = ap (λ (i : Bool). if i then texts else link c d) (pair_far a b c d ne)

link_here : (a b : ℕ) (texts : List Text) (link : ℕ → ℕ → List Text) → with_link a b texts link a b ≡ texts
link_here a b texts link = ap (λ (i : Bool). if i then texts else link a b) (pair_same a b)

link_else : (a b : ℕ) (texts : List Text) (link : ℕ → ℕ → List Text) (c : ℕ) → c ≢ a → with_link a b texts link c b ≡ link c b
link_else a b texts link c ne = ap (λ (i : Bool). if i then texts else link c b) (pair_else a b c b ne)

hears_attended : (p q : ℕ) (t : Text) (rest : List Text) (w : World) → w.link p q ≡ t ∷ rest → Attended q w (receives_front p q (t ∷ rest) w)
hears_attended p q t rest w e = record {
  far = λ o ne. put_other w.node q o (receives p t (w.node q)) ne;
  stage = ap (λ (n : Node). n.stage) (put_same w.node q (receives p t (w.node q)));
  killed = λ o. refl;
  links = λ a b ne. link_far p q rest w.link a b ne;
  clear = λ a none. elim (cases_eq a p) [
    | inl same ↦ absurd (let bad : t ∷ rest ≡ [] = sym e ∙ ap (λ (o : ℕ). w.link o q) (sym same) ∙ none in cc)
    | inr ne ↦ link_else p q rest w.link a ne ∙ none
  ];
  lost = λ o e. ap (λ (n : Node). n.lost o) (put_same w.node q (receives p t (w.node q))) ∙ e;
}

learns_attended : (p q : ℕ) (w : World) → Attended q w (learns p q w)
learns_attended p q w = record {
  far = λ o ne. put_other w.node q o (is_told p (w.node q)) ne;
  stage = ap (λ (n : Node). n.stage) (put_same w.node q (is_told p (w.node q)));
  killed = λ o. refl;
  links = λ a b ne. link_far p q [] w.link a b ne;
  clear = λ a none. elim (cases_eq a p) [
    | inl same ↦ ap (λ (o : ℕ). with_link p q [] w.link o q) same ∙ link_here p q [] w.link
    | inr ne ↦ link_else p q [] w.link a ne ∙ none
  ];
  lost = λ o e. ap (λ (n : Node). n.lost o) (put_same w.node q (is_told p (w.node q))) ∙ elim (cases_eq o p) [
    | inl same ↦ ap (put (w.node q).lost p true) same ∙ put_same (w.node q).lost p true
    | inr ne ↦ put_other (w.node q).lost p o true ne ∙ e
  ];
}

all_attended : (p q : ℕ) (ts : List Text) (w : World) → w.link p q ≡ ts → Attended q w (receives_all p q ts w) × ((receives_all p q ts w).link p q ≡ [])
all_attended p q [] w e = (attended_not q w, e)
all_attended p q (t ∷ rest) w e =
    let later = all_attended p q rest (receives_front p q (t ∷ rest) w) (rest_left p q t rest w) in
    (attended_both q w (receives_front p q (t ∷ rest) w) (receives_all p q rest (receives_front p q (t ∷ rest) w)) (hears_attended p q t rest w e) later.0, later.1)

drain_attended : (q p : ℕ) (w : World) → Attended q w (drains q p w) × (p ≢ q → (drains q p w).link p q ≡ [])
drain_attended q p w =
    chosen (λ (v : World). Attended q w v × (p ≢ q → v.link p q ≡ [])) (p == q) w (receives_all p q (w.link p q) w)
    (λ e. (attended_not q w, λ ne. absurd (ne (same p q e))))
    (λ e. let r = all_attended p q (w.link p q) w refl in (r.0, λ ne. r.1))
  where
    same : (a b : ℕ) → (a == b) ≡ true → a ≡ b
    same a b e = grind (arith, nat_tests)

notice_attended : (s : Setup) (p q : ℕ) (w : World) → up s w q ≡ true → Attended q w (notices s p q w) × (w.killed p ≡ true → ((notices s p q w).node q).lost p ≡ true)
notice_attended s p q w on =
    chosen (λ (v : World). Attended q w v × (w.killed p ≡ true → (v.node q).lost p ≡ true)) (may_learn s p q w) (learns p q w) w
    (λ e. (learns_attended p q w, λ dead. ap (λ (n : Node). n.lost p) (put_same w.node q (is_told p (w.node q))) ∙ put_same (w.node q).lost p true))
    (λ e. (attended_not q w, λ dead. was_told (w.killed p) (up s w q) ((w.node q).lost p) dead on e))
  where
    was_told : (a b c : Bool) → a ≡ true → b ≡ true → (a && (b && not c)) ≡ false → c ≡ true
    was_told a b c i j k = grind (arith, nat_tests)

-- ---- one after another

drained : (q n : ℕ) (w : World) → Attended q w (in_rising_order (drains q) n w) × ((p : ℕ) → p < n → p ≢ q → (in_rising_order (drains q) n w).link p q ≡ [])
drained q zero w = (attended_not q w, λ p low ne. absurd (omega (arith, low)))
drained q (suc n) w =
    let before = drained q n w in
    let this = drain_attended q n (in_rising_order (drains q) n w) in (
      attended_both q w (in_rising_order (drains q) n w) (drains q n (in_rising_order (drains q) n w)) before.0 this.0,
      λ p low ne. elim (cases_eq p n) [
        | inl same ↦ subst (λ (o : ℕ). (drains q n (in_rising_order (drains q) n w)).link o q ≡ []) (sym same) (this.1 (λ i. ne (same ∙ i)))
        | inr other ↦ this.0.clear p (before.1 p (omega (arith, low, other)) ne)
      ],
    )

noticed : (s : Setup) (q n : ℕ) (w : World) → up s w q ≡ true
    → Attended q w (in_rising_order (λ p. notices s p q) n w) × ((p : ℕ) → p < n → w.killed p ≡ true → ((in_rising_order (λ p. notices s p q) n w).node q).lost p ≡ true)
noticed s q zero w on = (attended_not q w, λ p low dead. absurd (omega (arith, low)))
noticed s q (suc n) w on =
    let before = noticed s q n w on in
    let this = notice_attended s n q (in_rising_order (λ p. notices s p q) n w) (attended_up s q w (in_rising_order (λ p. notices s p q) n w) before.0 q ∙ on) in (
      attended_both q w (in_rising_order (λ p. notices s p q) n w) (notices s n q (in_rising_order (λ p. notices s p q) n w)) before.0 this.0,
      λ p low dead. elim (cases_eq p n) [
        | inl same ↦ subst (λ (o : ℕ). ((notices s n q (in_rising_order (λ p. notices s p q) n w)).node q).lost o ≡ true) (sym same)
            (this.1 (before.0.killed n ∙ ap w.killed (sym same) ∙ dead))
        | inr other ↦ this.0.lost p (before.1 p (omega (arith, low, other)) dead)
      ],
    )

-- nothing is under way to q, it was told of each loss, and no action of it is enabled
pub record StillAt (s : Setup) (q : ℕ) (w : World) : Type 0 where
  pub clear : (p : ℕ) → p < s.procs → p ≢ q → w.link p q ≡ []
  pub told : (p : ℕ) → p < s.procs → w.killed p ≡ true → (w.node q).lost p ≡ true
  pub quiet : is_quiet s q w ≡ true

-- another only attends
still_there : (s : Setup) (o q : ℕ) (w v : World) → q ≢ o → Attended o w v → StillAt s q w → StillAt s q v
still_there s o q w v ne a is = record {
  clear = λ p low apart. a.links p q ne ∙ is.clear p low apart;
  told = λ p low dead. ap (λ (n : Node). n.lost p) (a.far q ne) ∙ is.told p low (sym (a.killed p) ∙ dead);
  quiet = ap (λ (b : Bool). not b || is_none (next s (v.node q))) (attended_up s o w v a q) ∙ ap (λ (n : Node). not (up s w q) || is_none (next s n)) (a.far q ne) ∙ is.quiet;
}

attends_attended : (s : Setup) (q : ℕ) (w : World) → up s w q ≡ true
    → Attended q w (attends s q w) × ((p : ℕ) → p < s.procs → p ≢ q → (attends s q w).link p q ≡ []) × ((p : ℕ) → p < s.procs → (attends s q w).killed p ≡ true → ((attends s q w).node q).lost p ≡ true)
attends_attended s q w on =
    let first = drained q s.procs w in
    let v : World = in_rising_order (drains q) s.procs w in
    let second = noticed s q s.procs v (attended_up s q w v first.0 q ∙ on) in
    (attended_both q w v (attends s q w) first.0 second.0, λ p low ne. second.0.clear p (first.1 p low ne), λ p low dead. second.1 p low (sym (second.0.killed p) ∙ dead))

-- ---- a turn and a round in which nobody comes further

module _ (job : Job) (asks : AsksNothing job) where
  abbrev s : Setup
  s = job_setup job

  not_less : (a b c : ℕ) → a < b → b ≤ c → c ≤ a → ⊥
  not_less a b c x y z = omega (arith, x, y, z)

  goes_on : (q : ℕ) (w : World) → is_quiet (job_setup job) q w ≡ false → (up (job_setup job) w q ≡ true) × (is_none (next (job_setup job) (w.node q)) ≡ false)
  goes_on q w e = of (up s w q) (is_none (next s (w.node q))) e
    where
      of : (a b : Bool) → (not a || b) ≡ false → (a ≡ true) × (b ≡ false)
      of true b e = (refl, e)
      of false b e = absurd (let bad : true ≡ false = e in cc)

  pub step_rises : (ps : List ℕ) (q : ℕ) (w : World) → Good job ps w → is_quiet s q w ≡ false → level job w q < level job (steps s q w) q
  step_rises ps q w is e = let k = goes_on q w e in subst (λ (b : Bool). level job w q < level job (if b then does_if s q (next s (w.node q)) w else w) q) (sym k.0) (of (next s (w.node q)) refl k.1 k.0)
    where
      of : (o : Option Act) → next s (w.node q) ≡ o → is_none o ≡ false → up s w q ≡ true → level job w q < level job (does_if s q o w) q
      of None i some on = absurd (let bad : true ≡ false = some in cc)
      of (Some act) i some on = act_rises job ps q w act on i is

  self_ahead : (w : World) → Good job [] w → Ahead job w [] w
  self_ahead w is = (is, λ q. omega arith)

  rest_stays : (more q : ℕ) (w : World) → Good job [] w → level job (rests s (suc more) q w) q ≤ level job w q → (rests s (suc more) q w ≡ w) × (is_quiet s q w ≡ true)
  rest_stays more q w is low = of (is_quiet s q w) refl low
    where
      after : Good job [] (steps s q w)
      after = (step_keeps s (Ahead job w) (ahead_kept job asks w) [] q w (self_ahead w is)).0

      later : level job (steps s q w) q ≤ level job (rests s more q (steps s q w)) q
      later = (rest_keeps s (Ahead job (steps s q w)) (ahead_kept job asks (steps s q w)) [] more q (steps s q w) (self_ahead (steps s q w) after)).1 q

      of : (b : Bool) → is_quiet s q w ≡ b → level job (elim b as (λ c. World) [ true ↦ w | false ↦ rests s more q (steps s q w) ]) q ≤ level job w q → ((elim b as (λ c. World) [ true ↦ w | false ↦ rests s more q (steps s q w) ]) ≡ w) × (b ≡ true)
      of true e low = (refl, refl)
      of false e low = absurd (not_less _ _ _ (step_rises [] q w is e) later low)

  still_turn : (more q : ℕ) (w : World) → Good job [] w → level job (fair_turn s (suc more) q w) q ≤ level job w q
      → Attended q w (fair_turn s (suc more) q w) × (up s (fair_turn s (suc more) q w) q ≡ true → StillAt s q (fair_turn s (suc more) q w))
  still_turn more q w is low = of (up s w q) refl low
    where
      of : (b : Bool) → up s w q ≡ b → level job (if b then rests s (suc more) q (attends s q w) else w) q ≤ level job w q
          → Attended q w (if b then rests s (suc more) q (attends s q w) else w) × (up s (if b then rests s (suc more) q (attends s q w) else w) q ≡ true → StillAt s q (if b then rests s (suc more) q (attends s q w) else w))
      of false e low = (attended_not q w, λ on. absurd (let bad : true ≡ false = sym on ∙ e in cc))
      of true e low =
          let v : World = attends s q w in
          let k = ahead_kept job asks w in
          let ahead : Ahead job w [] (attends s q w) = attend_keeps s (Ahead job w) k [] q w e (self_ahead w is) in
          let stays = rest_stays more q (attends s q w) ahead.0 (then_few _ _ _ low (ahead.1 q)) in
          let a = attends_attended s q w e in (
            subst (Attended q w) (sym stays.0) a.0,
            λ on. subst (StillAt s q) (sym stays.0) (record { clear = a.1; told = a.2; quiet = stays.1 }),
          )
        where
          then_few : (a b c : ℕ) → a ≤ b → b ≤ c → a ≤ c
          then_few a b c x y = omega (arith, x, y)

  -- the turns of the first n
  still_turns : (more n : ℕ) (w : World) → Good job [] w → n ≤ s.procs → ((q : ℕ) → q < s.procs → level job (in_rising_order (fair_turn s (suc more)) n w) q ≤ level job w q)
      → (q : ℕ) → q < n → up s (in_rising_order (fair_turn s (suc more)) n w) q ≡ true → StillAt s q (in_rising_order (fair_turn s (suc more)) n w)
  still_turns more zero w is few low q less on = absurd (omega (arith, less))
  still_turns more (suc n) w is few low q less on = elim (cases_eq q n) [
    | inl same ↦ subst (λ (o : ℕ). StillAt s o (fair_turn s (suc more) n v)) (sym same) (turn.1 (subst (λ (o : ℕ). up s (fair_turn s (suc more) n v) o ≡ true) same on))
    | inr ne ↦ still_there s n q v (fair_turn s (suc more) n v) ne turn.0
        (still_turns more n w is (omega (arith, few)) (λ o small. both _ _ _ (last.1 o) (low o small)) q (omega (arith, less, ne))
        (sym (attended_up s n v (fair_turn s (suc more) n v) turn.0 q) ∙ on))
  ]
    where
      v : World
      v = in_rising_order (fair_turn s (suc more)) n w

      both : (a b c : ℕ) → a ≤ b → b ≤ c → a ≤ c
      both a b c x y = omega (arith, x, y)

      first : Ahead job w [] (in_rising_order (fair_turn s (suc more)) n w)
      first = rising_keep (Ahead job w []) (fair_turn s (suc more)) (λ o x. turn_keeps s (Ahead job w) (ahead_kept job asks w) [] (suc more) o x) n w (self_ahead w is)

      last : Ahead job (in_rising_order (fair_turn s (suc more)) n w) [] (fair_turn s (suc more) n (in_rising_order (fair_turn s (suc more)) n w))
      last = turn_keeps s (Ahead job (in_rising_order (fair_turn s (suc more)) n w)) (ahead_kept job asks (in_rising_order (fair_turn s (suc more)) n w)) [] (suc more) n (in_rising_order (fair_turn s (suc more)) n w) (self_ahead (in_rising_order (fair_turn s (suc more)) n w) first.0)

      turn : Attended n (in_rising_order (fair_turn s (suc more)) n w) (fair_turn s (suc more) n (in_rising_order (fair_turn s (suc more)) n w))
          × (up s (fair_turn s (suc more) n (in_rising_order (fair_turn s (suc more)) n w)) n ≡ true → StillAt s n (fair_turn s (suc more) n (in_rising_order (fair_turn s (suc more)) n w)))
      turn = still_turn more n (in_rising_order (fair_turn s (suc more)) n w) first.0 (both _ _ _ (low n (omega (arith, few))) (first.1 n))

  pub still_round : (more : ℕ) (w : World) → Good job [] w → ((q : ℕ) → q < s.procs → level job (fair_round s (suc more) w) q ≤ level job w q) → IsStill s (fair_round s (suc more) w)
  still_round more w is low =
      let at = still_turns more s.procs w is (omega arith) low in
      record {
        clear = λ p q small ne on. (at q (up_parts s (fair_round s (suc more) w) q on).0 on).clear p small ne;
        told = λ p q small dead on. (at q (up_parts s (fair_round s (suc more) w) q on).0 on).told p small dead;
        quiet = λ p on. (at p (up_parts s (fair_round s (suc more) w) p on).0 on).quiet;
      }

  pub round_ahead : (fuel : ℕ) (w : World) → Good job [] w → Ahead job w [] (fair_round s fuel w)
  round_ahead fuel w is = round_keeps s (Ahead job w) (ahead_kept job asks w) [] fuel w (self_ahead w is)
