-- Reading the words of an expression one after another, as a loop does.
use Rattle.std.proofs.Common.{◌≡◌, ℕ, Bool, List, [], ◌∷◌, Result, Ok, refl, ap}
use Rattle.fx_text.specs.Words.{Word}
use Rattle.fx_script.specs.declared.expr.Pending.{Pending}
use Rattle.fx_script.specs.declared.refusal.Stop.{Stop}
use Rattle.fx_script.specs.declared.refusal.Stop.TheVariants as stop
use Rattle.fx_script.specs.declared.refusal.Wrong.{Wrong}
use Rattle.fx_script.specs.Left.{Left}
use Rattle.fx_script.specs.Outcome.{Stops}
use Rattle.fx_script.specs.Exprs.{stepped, expr_run}
use Rattle.fx_script.specs.Fields.{first_of, due}

abbrev read_as : Word × Left → Result (Word × Left) Wrong
read_as x = Ok x

read_is : (x y : Word × Left) → read_as x ≡ read_as y → x ≡ y
read_is x y e = cc

-- a word that is wrong
stops_of : (e : Stop) (group : Bool) (ps : List Pending) (ws : List Word) (past : ℕ) (w : Word) (new : Left) → first_of ws past ≡ Ok (w, new)
    → Stops e (stepped group ps w) → Stops e (expr_run group ps ws past)
stops_of stop.NoMemory group ps ws past w new is stops = tt
stops_of (stop.Wrong x) group ps [] past w new is stops = absurd cc
stops_of (stop.Wrong x) group ps (v ∷ vs) past w new is stops =
    let same : v ≡ w = ap (λ (x : Word × Left). x.0) (read_is (v, record { words = vs; past = past }) (w, new) is) in
    rw (same, stops) refl

pub expr_stops : (e : Stop) (group : Bool) (ps : List Pending) (left new : Left) (w : Word) → due left ≡ Ok (w, new) → Stops e (stepped group ps w)
    → Stops e (expr_run group ps left.words left.past)
expr_stops e group ps left new w is stops = stops_of e group ps left.words left.past w new is stops
