-- What a flow does next is the next action of each walk that it does the rest of.
use Rattle.std.proofs.Common.{◌≡◌, ℕ, zero, suc, List, [], ◌∷◌, Option, Some, None, refl, ap, sym, subst, ◌∙◌, Result, Ok, Err, OnOk, IfOk}
use Rattle.std.specs.Prelude.{ℤ, slice_get}
use Rattle.fx_base.specs.declared.memory.NoMemory.{NoMemory}
use Rattle.fx_walk.specs.declared.action.At.{At}
use Rattle.fx_walk.specs.declared.action.At.TheVariants as at
use Rattle.fx_walk.specs.declared.action.View.{View}
use Rattle.fx_walk.specs.declared.printed.Printed.{Printed}
use Rattle.fx_walk.specs.Along.{at_of}
use Rattle.fx_walk.specs.State.{State}
use Rattle.fx_walk.specs.Walk.{Given, Reply, Walk, Ends, Passes, Prints, Asks, view_after}
use Rattle.fx_flow.specs.declared.instr.Instr.{Instr}
use Rattle.fx_flow.specs.declared.instr.Instr.TheVariants as instr
use Rattle.fx_flow.specs.declared.instr.Loop.{Loop}
use Rattle.fx_flow.specs.declared.instr.Outward.{Outward}
use Rattle.fx_flow.specs.Code.{Stand, Act, Over, Moves, Waits, tests, ends, acts_on, acts, takes_on, Follows}
use Rattle.fx_flow.specs.Flowing.{Flowing, at_end, kind_of, next_of, outward_in, outward_of, DoesRest, WentOn, before, AsksFor, WasAnswered}
use Rattle.fx_flow.specs.Outward.{wanted_by, taken_by}

-- ---- kinds

abbrev kind : Act → At
kind Over = at.Finish
kind (Moves printed next) = at.Plain
kind (Waits wanted) = at.Outward

tests_plain : (counter last inside next turns : ℕ) (opened : List Loop) (state : State) → at.Plain ≡ kind (tests counter last inside next turns opened state)
tests_plain counter last inside next zero opened state = refl
tests_plain counter last inside next (suc turns) opened state = refl

ends_kind : (opened : List Loop) (state : State) → at_end opened ≡ kind (ends opened state)
ends_kind [] state = refl
ends_kind (loop ∷ opened) state = tests_plain loop.counter loop.last loop.inside loop.next loop.turns opened state

kinds : (view : View) (c : Stand) (i : Option Instr) → kind_of c.opened i ≡ kind (acts_on view c i)
kinds view c None = ends_kind c.opened c.state
kinds view c (Some instr.End) = ends_kind c.opened c.state
kinds view c (Some (instr.For counter first last inside next)) = tests_plain counter last inside next _ c.opened c.state
kinds view c (Some other) = refl

-- what moves on is a plain action
pub moves_plainly : (view : View) (flow : Flowing) (printed : Option Printed) (next : Stand) → acts flow.code view flow.stand ≡ Moves printed next → next_of flow ≡ at.Plain
moves_plainly view flow printed next is = kinds view flow.stand (slice_get flow.code flow.stand.place) ∙ ap kind is

-- what comes next is told by the walk
pub told : (view : View) (flow : Flowing) (walk : Walk) → DoesRest view walk flow → next_of flow ≡ at_of walk
told view flow (Ends state) does = kinds view flow.stand (slice_get flow.code flow.stand.place) ∙ ap kind does.0
told view flow (Passes rest) does = kinds view flow.stand (slice_get flow.code flow.stand.place) ∙ ap kind does.1
told view flow (Prints printed rest) does = kinds view flow.stand (slice_get flow.code flow.stand.place) ∙ ap kind does.1
told view flow (Asks place wanted state rest) does = kinds view flow.stand (slice_get flow.code flow.stand.place) ∙ ap kind does.0

-- ---- plain actions

same_next : (a b : Option Printed) (c d : Stand) → Moves a c ≡ Moves b d → c ≡ d
same_next a b c d e = cc

same_printed : (a b : Printed) (c d : Stand) → Moves (Some a) c ≡ Moves (Some b) d → b ≡ a
same_printed a b c d e = cc

went : (view : View) (old new : Flowing) (printed : Option Printed) → new ≡ record old { stand = new.stand } → acts old.code view old.stand ≡ Moves printed new.stand
    → (walk : Walk) → DoesRest view walk old → WentOn view walk printed new
went view old new printed same is (Ends state) does = let e : Over ≡ Moves printed new.stand = sym does.0 ∙ is in absurd cc
went view old new None same is (Passes rest) does =
    let e : does.0 ≡ new.stand = same_next None None does.0 new.stand (sym does.1 ∙ is) in
    let there : DoesRest view rest (record old { stand = new.stand }) = subst (λ (c : Stand). Follows old.code rest view c) e does.2 in
    subst (λ (f : Flowing). DoesRest view rest f) (sym same) there
went view old new (Some told) same is (Passes rest) does = let e : Moves None does.0 ≡ Moves (Some told) new.stand = sym does.1 ∙ is in absurd cc
went view old new None same is (Prints printed rest) does = let e : Moves (Some printed) does.0 ≡ Moves None new.stand = sym does.1 ∙ is in absurd cc
went view old new (Some told) same is (Prints printed rest) does =
    let moved : Moves (Some printed) does.0 ≡ Moves (Some told) new.stand = sym does.1 ∙ is in
    let e : does.0 ≡ new.stand = same_next (Some printed) (Some told) does.0 new.stand moved in
    let there : DoesRest view rest (record old { stand = new.stand }) = subst (λ (c : Stand). Follows old.code rest view c) e does.2 in
    (same_printed printed told does.0 new.stand moved, subst (λ (f : Flowing). DoesRest view rest f) (sym same) there)
went view old new printed same is (Asks place wanted state rest) does = let e : Waits wanted ≡ Moves printed new.stand = sym does.0 ∙ is in absurd cc

came : (view : View) (old new : Flowing) (printed : Option Printed) → new ≡ record old { stand = new.stand } → acts old.code view old.stand ≡ Moves printed new.stand
    → (rest : Walk) → DoesRest view rest new → DoesRest view (before printed rest) old
came view old new None same is rest does = (new.stand, is, subst (λ (code : List Instr). Follows code rest view new.stand) (ap (λ (f : Flowing). f.code) same) does)
came view old new (Some printed) same is rest does = (new.stand, is, subst (λ (code : List Instr). Follows code rest view new.stand) (ap (λ (f : Flowing). f.code) same) does)

pub went_on : (r : Result (Option Printed) NoMemory) (view : View) (old new : Flowing) → OnOk r (new ≡ record old { stand = new.stand })
    → IfOk r (λ printed. acts old.code view old.stand ≡ Moves printed new.stand) → IfOk r (λ printed. (walk : Walk) → DoesRest view walk old → WentOn view walk printed new)
went_on (Ok printed) view old new same is = went view old new printed same is
went_on (Err e) view old new same is = tt

pub came_from : (r : Result (Option Printed) NoMemory) (view : View) (old new : Flowing) → OnOk r (new ≡ record old { stand = new.stand })
    → IfOk r (λ printed. acts old.code view old.stand ≡ Moves printed new.stand) → IfOk r (λ printed. (rest : Walk) → DoesRest view rest new → DoesRest view (before printed rest) old)
came_from (Ok printed) view old new same is = came view old new printed same is
came_from (Err e) view old new same is = tt

-- ---- outward statements

pub is_outward : (i : Option Instr) (due : Outward × ℕ) → outward_in i ≡ Some due → i ≡ Some (instr.Outward due.0 due.1)
is_outward (Some (instr.Outward w n)) due e =
    let pair : Outward × ℕ = (w, n) in
    let same : pair ≡ due = cc in
    ap (λ (d : Outward × ℕ). Some (instr.Outward d.0 d.1)) same
is_outward other due e = absurd cc

-- what is asked is what the walk asks
pub asked : (view : View) (flow : Flowing) (what : Outward) (next : ℕ) → outward_of flow ≡ Some (what, next) → (walk : Walk) → DoesRest view walk flow → AsksFor walk (wanted_by what view flow.stand.state)
asked view flow what next due walk does =
    by_walk walk does (ap (acts_on view flow.stand) (is_outward (slice_get flow.code flow.stand.place) (what, next) due)) where
      by_walk : (walk : Walk) → DoesRest view walk flow → acts flow.code view flow.stand ≡ Waits (wanted_by what view flow.stand.state) → AsksFor walk (wanted_by what view flow.stand.state)
      by_walk (Ends state) does is = let e : Over ≡ Waits (wanted_by what view flow.stand.state) = sym does.0 ∙ is in absurd cc
      by_walk (Passes rest) does is = let e : Moves None does.0 ≡ Waits (wanted_by what view flow.stand.state) = sym does.1 ∙ is in absurd cc
      by_walk (Prints printed rest) does is = let e : Moves (Some printed) does.0 ≡ Waits (wanted_by what view flow.stand.state) = sym does.1 ∙ is in absurd cc
      by_walk (Asks place wanted state rest) does is = let e : Waits (wanted_by what view flow.stand.state) ≡ Waits wanted = sym is ∙ does.0 in cc

-- what it is answered leads on as the walk has it
pub answered : (old new : Flowing) (what : Outward) (next : ℕ) (given : Given) → outward_of old ≡ Some (what, next)
    → new ≡ record old { stand = record old.stand { place = next; state = taken_by what old.stand.state given } }
    → (view : View) (walk : Walk) (latest : List ℤ) → DoesRest view walk old → WasAnswered view walk (record { given = given; latest = latest }) new
answered old new what next given due same view walk latest does =
    by_walk walk does (ap (acts_on view old.stand) here) where
      here : slice_get old.code old.stand.place ≡ Some (instr.Outward what next)
      here = is_outward (slice_get old.code old.stand.place) (what, next) due

      by_walk : (walk : Walk) → DoesRest view walk old → acts old.code view old.stand ≡ Waits (wanted_by what view old.stand.state) → WasAnswered view walk (record { given = given; latest = latest }) new
      by_walk (Ends state) does is = let e : Over ≡ Waits (wanted_by what view old.stand.state) = sym does.0 ∙ is in absurd cc
      by_walk (Passes rest) does is = let e : Moves None does.0 ≡ Waits (wanted_by what view old.stand.state) = sym does.1 ∙ is in absurd cc
      by_walk (Prints printed rest) does is = let e : Moves (Some printed) does.0 ≡ Waits (wanted_by what view old.stand.state) = sym does.1 ∙ is in absurd cc
      by_walk (Asks place wanted state rest) does is =
          let reply : Reply = record { given = given; latest = latest } in
          let there : Follows old.code (rest reply) (view_after view reply) (record old.stand { place = next; state = taken_by what old.stand.state given }) =
          subst (λ (c : Stand). Follows old.code (rest reply) (view_after view reply) c) (ap (takes_on old.stand given) here) (does.2 reply) in
          subst (λ (f : Flowing). DoesRest (view_after view reply) (rest reply) f) (sym same) there
