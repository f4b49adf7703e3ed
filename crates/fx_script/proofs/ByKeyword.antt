-- What a line says, by its keyword.
use Rattle.std.proofs.Common.{◌≡◌, List, Option, Some, None, Result, Ok, Err, refl, sym, ap, subst, ◌∙◌, inl, inr}
use Rattle.std.proofs.lemmas.Bool.{cases_Bool}
use Rattle.fx_base.specs.declared.spot.Spot.{Spot}
use Rattle.fx_text.specs.Words.{Word}
use Rattle.fx_script.specs.declared.draft.Block.{Block}
use Rattle.fx_script.specs.declared.draft.Draft.{Draft}
use Rattle.fx_script.specs.declared.draft.DuePart.{DuePart}
use Rattle.fx_script.specs.declared.draft.DuePart.TheVariants as due_part
use Rattle.fx_script.specs.declared.head.Head.{Head}
use Rattle.fx_script.specs.declared.keyword.Keyword.{Keyword}
use Rattle.fx_script.specs.declared.refusal.Stop.{Stop}
use Rattle.fx_script.specs.declared.refusal.Stop.TheVariants as stop
use Rattle.fx_script.specs.declared.refusal.Wrong.{Wrong}
use Rattle.fx_script.specs.Answers.{Advances}
use Rattle.fx_script.specs.Heads.{head_at}
use Rattle.fx_script.specs.Keywords.{keyword_of}
use Rattle.fx_script.specs.Left.{Left}
use Rattle.fx_script.specs.Moves.{moved}
use Rattle.fx_script.specs.Order.{may_stand}
use Rattle.fx_script.specs.Outcome.{◌>>=◌, Gives, Stops}
use Rattle.fx_script.specs.Reading.{head_placed, head_in, keyword_allowed, keyword_placed, said_by, taken}
use Rattle.fx_script.specs.SaidLines.{Met, spot_of}

allowed : (s : DuePart) (bs : List Block) (o : Option Keyword) (spot : Spot) (first : Word) (left : Left) (f : Head → Result Draft Wrong)
    → (head_placed s bs o spot first left >>= f) ≡ (keyword_allowed s bs o first >>= λ k. head_at k spot left >>= f)
allowed s bs None spot first left f = refl
allowed s bs (Some k) spot first left f = elim (cases_Bool (may_stand s bs k)) [
  | inl t ↦ rw t refl
  | inr n ↦ rw n refl
]

placed : (s : DuePart) (bs : List Block) (spot : Spot) (first : Word) (left : Left) (f : Head → Result Draft Wrong)
    → (head_in s bs spot first left >>= f) ≡ (keyword_placed s bs first >>= λ k. head_at k spot left >>= f)
placed due_part.Stopped bs spot first left f = refl
placed due_part.Fenix bs spot first left f = allowed due_part.Fenix bs (keyword_of first.bytes) spot first left f
placed due_part.Ranks bs spot first left f = allowed due_part.Ranks bs (keyword_of first.bytes) spot first left f
placed due_part.Spares bs spot first left f = allowed due_part.Spares bs (keyword_of first.bytes) spot first left f
placed due_part.Separation bs spot first left f = allowed due_part.Separation bs (keyword_of first.bytes) spot first left f
placed due_part.Names bs spot first left f = allowed due_part.Names bs (keyword_of first.bytes) spot first left f
placed due_part.Callbacks bs spot first left f = allowed due_part.Callbacks bs (keyword_of first.bytes) spot first left f
placed due_part.Callback bs spot first left f = allowed due_part.Callback bs (keyword_of first.bytes) spot first left f
placed due_part.Body bs spot first left f = allowed due_part.Body bs (keyword_of first.bytes) spot first left f
placed due_part.Schedule bs spot first left f = allowed due_part.Schedule bs (keyword_of first.bytes) spot first left f
placed due_part.Events bs spot first left f = allowed due_part.Events bs (keyword_of first.bytes) spot first left f

-- a line is taken by its keyword
pub taken_by_keyword : (d : Draft) (m : Met) → taken d (Some m) ≡ (keyword_placed d.due_part d.blocks m.first >>= λ k. said_by d k (spot_of m) m.left)
taken_by_keyword d m = placed d.due_part d.blocks (spot_of m) m.first m.left (λ head. Ok (moved d (spot_of m) head))

-- where the keyword may stand, the line is what it says
pub goes_by_keyword : (d : Draft) (m : Met) (k : Keyword) (result : Result (Unit {0}) Stop) (new : Draft) → Gives {X = Keyword} (Ok k) (keyword_placed d.due_part d.blocks m.first)
    → Advances result new (said_by d k (spot_of m) m.left) → Advances result new (taken d (Some m))
goes_by_keyword d m k result new is goes =
    subst (λ (r : Result Draft Wrong). Advances result new r) (sym (taken_by_keyword d m ∙ ap (λ (o : Result Keyword Wrong). o >>= λ k. said_by d k (spot_of m) m.left) is)) goes

-- where it may not, that is what is wrong
pub stops_by_keyword : (d : Draft) (m : Met) (e : Stop) → Stops e (keyword_placed d.due_part d.blocks m.first) → Stops e (taken d (Some m))
stops_by_keyword d m stop.NoMemory is = tt
stops_by_keyword d m (stop.Wrong w) is = taken_by_keyword d m ∙ ap (λ (o : Result Keyword Wrong). o >>= λ k. said_by d k (spot_of m) m.left) is
