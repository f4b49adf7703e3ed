-- What holds of a world, and of its nodes, whatever happens.
use Rattle.std.specs.Prelude.{◌≡◌, ℕ, true, false, List, ◌∷◌, Some}
use Rattle.fx_machine.specs.Nodes.{Node, Act, first_node, receives, is_told}
use Rattle.fx_machine.specs.Setup.{Setup}
use Rattle.fx_machine.specs.Steps.{next}
use Rattle.fx_machine.specs.Texts.{Text}
use Rattle.fx_fleet.specs.World.{World, up, does, receives_front, loses, learns}
use Rattle.fx_deeds.specs.Deeds.{Deed}

-- a step, a delivery, a loss and a notice keep it
pub record IsKept (s : Setup) (Is : World → Type 0) : Type 0 where
  pub acts : (p : ℕ) (w : World) (act : Act) → up s w p ≡ true → next s (w.node p) ≡ Some act → Is w → Is (does s p act w)
  pub hears : (p q : ℕ) (t : Text) (rest : List Text) (w : World) → up s w q ≡ true → w.link p q ≡ t ∷ rest → Is w → Is (receives_front p q (t ∷ rest) w)
  pub kills : (p : ℕ) (w : World) → up s w p ≡ true → Is w → Is (loses s p w)
  pub tells : (p q : ℕ) (w : World) → w.killed p ≡ true → up s w q ≡ true → (w.node q).lost p ≡ false → Is w → Is (learns p q w)

-- it holds of a node that hasn't done anything, and each deed, each text and each notice keep it
pub record IsOwn (s : Setup) (Is : Node → Type 0) : Type 0 where
  pub first : (p : ℕ) → Is (first_node s p)
  pub acts : (n : Node) (act : Act) → Deed s n act → Is n → Is act.node
  pub hears : (q : ℕ) (t : Text) (n : Node) → Is n → Is (receives q t n)
  pub tells : (q : ℕ) (n : Node) → Is n → Is (is_told q n)

-- it holds of each node of a world
pub record AllAre (Is : Node → Type 0) (w : World) : Type 0 where
  pub each : (p : ℕ) → Is (w.node p)

-- each node is that of its process
pub record KnowThemselves (w : World) : Type 0 where
  pub me : (p : ℕ) → (w.node p).me ≡ p

-- who is told lost was killed
pub record ToldOfKilled (w : World) : Type 0 where
  pub killed : (q c : ℕ) → (w.node q).lost c ≡ true → w.killed c ≡ true
