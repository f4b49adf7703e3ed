-- A flow stays a flow of its job.
use Rattle.std.proofs.Common.{◌≡◌, ℕ, zero, suc, ◌+◌, List, [], ◌∷◌, length, Option, Some, None, refl, ap, sym, subst, ◌∙◌, Result, Ok, Err, OnOk, IfOk}
use Rattle.std.specs.Prelude.{ℤ, slice_get}
use Rattle.fx_base.specs.declared.memory.NoMemory.{NoMemory}
use Rattle.fx_base.specs.declared.names.Role.{Role}
use Rattle.fx_script.specs.declared.job.Decl.{Decl}
use Rattle.fx_script.specs.declared.job.Job.{Job}
use Rattle.fx_check.specs.Facts.{facts_of}
use Rattle.fx_check.specs.Rules.{body_place}
use Rattle.fx_walk.specs.declared.action.View.{View}
use Rattle.fx_walk.specs.declared.printed.Printed.{Printed}
use Rattle.fx_walk.specs.InStep.{job_walk}
use Rattle.fx_walk.specs.State.{State, at_init}
use Rattle.fx_walk.specs.Values.{Sight, sight}
use Rattle.fx_walk.specs.Walk.{Walk, Ends, Passes, Prints, Asks}
use Rattle.fx_value.specs.declared.formula.Term.{Term}
use Rattle.fx_value.specs.Shape.{IsShaped, StaysShaped, emptied, kept_by}
use Rattle.fx_value.specs.Terms.{term_values}
use Rattle.fx_value.proofs.Shapes.{emptied_counter, emptied_array, shaped_init, kept_at_init}
use Rattle.fx_flow.specs.declared.instr.Instr.{Instr}
use Rattle.fx_flow.specs.declared.instr.Instr.TheVariants as instr
use Rattle.fx_flow.specs.declared.instr.Loop.{Loop}
use Rattle.fx_flow.specs.Code.{Stand, Act, Over, Moves, Waits, Follows, tests, ends, acts_on, acts, start}
use Rattle.fx_flow.specs.Flowing.{Flowing, state_of, DoesRest, IsFlowOf}
use Rattle.fx_flow.specs.Outward.{array_at}
use Rattle.fx_flow.proofs.Declared.{declares}
use Rattle.fx_flow.proofs.Following.{begins}

-- ---- shapes

length_values : (t : Term) (x : Sight) (i : ℕ) (olds : List ℤ) → length (term_values t x i olds) ≡ length olds
length_values t x i [] = refl
length_values t x i (old ∷ olds) = ap suc (length_values t x (i + 1) olds)

abbrev state_after : State → Act → State
state_after state Over = state
state_after state (Moves printed next) = next.state
state_after state (Waits wanted) = state

-- what an action writes keeps the zeros
tests_same : (counter last inside next turns : ℕ) (opened : List Loop) (state : State) → emptied (state_after state (tests counter last inside next turns opened state)) ≡ emptied state
tests_same counter last inside next zero opened state = refl
tests_same counter last inside next (suc turns) opened state = emptied_counter state counter _

ends_same : (opened : List Loop) (state : State) → emptied (state_after state (ends opened state)) ≡ emptied state
ends_same [] state = refl
ends_same (loop ∷ opened) state = tests_same loop.counter loop.last loop.inside loop.next loop.turns opened state

acts_same : (view : View) (c : Stand) (i : Option Instr) → emptied (state_after c.state (acts_on view c i)) ≡ emptied c.state
acts_same view c None = ends_same c.opened c.state
acts_same view c (Some instr.End) = ends_same c.opened c.state
acts_same view c (Some (instr.Let array value next)) = emptied_array c.state array _ (length_values value (sight view c.state) 0 (array_at c.state array))
acts_same view c (Some (instr.Set counter value next)) = emptied_counter c.state counter _
acts_same view c (Some (instr.Register name next)) = refl
acts_same view c (Some (instr.For counter first last inside next)) = tests_same counter last inside next _ c.opened c.state
acts_same view c (Some other) = refl

-- an action neither takes the shape nor gives it
moves_same : (code : List Instr) (view : View) (c next : Stand) (printed : Option Printed) → acts code view c ≡ Moves printed next → emptied next.state ≡ emptied c.state
moves_same code view c next printed is = ap (λ (act : Act). emptied (state_after c.state act)) (sym is) ∙ acts_same view c (slice_get code c.place)

-- where the walk stays in the declared shape, so did what stands before it
pub stands_shaped : (names : List Decl) (code : List Instr) (view : View) (walk : Walk) (c : Stand) → StaysShaped names walk → Follows code walk view c → IsShaped names c.state
stands_shaped names code view (Ends state) c shaped follows = subst (IsShaped names) (sym follows.1) shaped
stands_shaped names code view (Passes rest) c shaped follows =
    sym (moves_same code view c follows.0 None follows.1) ∙ stands_shaped names code view rest follows.0 shaped follows.2
stands_shaped names code view (Prints printed rest) c shaped follows =
    sym (moves_same code view c follows.0 (Some printed) follows.1) ∙ stands_shaped names code view rest follows.0 shaped follows.2
stands_shaped names code view (Asks place wanted state rest) c shaped follows = subst (IsShaped names) (sym follows.1) shaped.0

-- ---- flows of a job

-- at another stand with a state of the same shape
pub at_stand : (job : Job) (old new : Flowing) → new ≡ record old { stand = new.stand } → (IsShaped job.names (state_of old) → IsShaped job.names (state_of new)) → IsFlowOf job old → IsFlowOf job new
at_stand job old new same keeps is =
    let there : IsFlowOf job (record old { stand = new.stand }) = record { accepted = is.accepted; is_code = is.is_code; are_routines = is.are_routines; shaped = keeps is.shaped } in
    subst (λ (flow : Flowing). IsFlowOf job flow) (sym same) there

pub acted : (view : View) (old new : Flowing) (printed : Option Printed) → new ≡ record old { stand = new.stand } → acts old.code view old.stand ≡ Moves printed new.stand
    → (job : Job) → IsFlowOf job old → IsFlowOf job new
acted view old new printed same is job of = at_stand job old new same
    (λ shaped. moves_same old.code view old.stand new.stand printed is ∙ shaped) of

pub acted_on : (r : Result (Option Printed) NoMemory) (view : View) (old new : Flowing) → OnOk r (new ≡ record old { stand = new.stand })
    → IfOk r (λ printed. acts old.code view old.stand ≡ Moves printed new.stand) → OnOk r ((job : Job) → IsFlowOf job old → IsFlowOf job new)
acted_on (Ok printed) view old new same is = acted view old new printed same is
acted_on (Err e) view old new same is = tt

-- at the beginning of its body a flow does the body's walk
pub from_begin : (job : Job) (flow : Flowing) (state : State) → IsFlowOf job flow → flow.stand ≡ start flow.begin state → (view : View) → DoesRest view (job_walk job view state) flow
from_begin job flow state is at view =
    subst (λ (c : Stand). DoesRest view (job_walk job view state) (record flow { stand = c })) (sym at)
    (begins (facts_of job) flow.code flow.begin job.body is.is_code (declares job is.accepted) body_place is.accepted.body view state)

-- ---- the rewind

at_role : (job : Job) (old : Flowing) (c : Stand) (role : Role) → c ≡ start old.begin (kept_by role old.stand.state) → IsFlowOf job old → c ≡ start old.begin (at_init (facts_of job) role old.stand.state)
at_role job old c role at of = at ∙ ap (λ (state : State). start old.begin state) (kept_at_init (facts_of job) role old.stand.state of.shaped)

pub rewound_stays : (job : Job) (old : Flowing) (c : Stand) (role : Role) → c ≡ start old.begin (kept_by role old.stand.state) → IsFlowOf job old → IsFlowOf job (record old { stand = c })
rewound_stays job old c role at of =
    at_stand job old (record old { stand = c }) refl
    (λ shaped. subst (λ (d : Stand). IsShaped job.names d.state) (sym (at_role job old c role at of)) (shaped_init (facts_of job) role old.stand.state shaped)) of

pub rewound_begins : (job : Job) (old : Flowing) (c : Stand) (role : Role) → c ≡ start old.begin (kept_by role old.stand.state) → IsFlowOf job old
    → (view : View) → DoesRest view (job_walk job view (at_init (facts_of job) role old.stand.state)) (record old { stand = c })
rewound_begins job old c role at of view =
    from_begin job (record old { stand = c }) (at_init (facts_of job) role old.stand.state) (rewound_stays job old c role at of) (at_role job old c role at of) view
