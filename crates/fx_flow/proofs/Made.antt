-- The code of a job with that of its callbacks.
use Rattle.std.proofs.Common.{◌≡◌, ◌<◌, ℕ, suc, ◌+◌, List, [], ◌∷◌, ◌++◌, length, take, drop, drop-cons, get_or, true, append_assoc, Some, refl, ap, sym, subst, ◌∙◌, add-one}
use Rattle.std.specs.Prelude.{slice_get}
use Rattle.std.specs.List.{find}
use Rattle.std.specs.Str.{bytes_eq}
use Rattle.std.proofs.lemmas.List.{append-nil}
use Rattle.std.proofs.Math.Seq.{take-suc}
use Rattle.fx_script.specs.declared.job.Callback.{Callback}
use Rattle.fx_script.specs.declared.job.Job.{Job}
use Rattle.fx_check.specs.Facts.{Facts, facts_of}
use Rattle.fx_check.specs.Parts.{KeepsByParts}
use Rattle.fx_value.specs.Shape.{blank_of}
use Rattle.fx_value.proofs.Shapes.{shaped_blank}
use Rattle.fx_flow.specs.declared.instr.Instr.{Instr}
use Rattle.fx_flow.specs.declared.instr.Instr.TheVariants as instr
use Rattle.fx_flow.specs.declared.instr.Routine.{Routine}
use Rattle.fx_flow.specs.Code.{Leads, start}
use Rattle.fx_flow.specs.Emits.{Emits, Grows}
use Rattle.fx_flow.specs.Flowing.{Flowing, AreRoutines, IsFlowOf, IsRoutine, is_routine_of, part_of}
use Rattle.fx_flow.proofs.Emitted.{get_grown, grown}

-- ---- code that grows

code_grown : (f : Facts) (code more : List Instr) (routine : Routine) (callback : Callback) → IsRoutine f code routine callback → IsRoutine f (code ++ more) routine callback
code_grown f code more routine callback is = record {
  same_name = is.same_name;
  same_count = is.same_count;
  is_code = record { ends = get_grown code more 0 instr.End is.is_code.ends; leads = grown f code more is.is_code.leads };
}

routines_grown : (f : Facts) (code more : List Instr) (routines : List Routine) (callbacks : List Callback) → AreRoutines f code routines callbacks → AreRoutines f (code ++ more) routines callbacks
routines_grown f code more [] [] are = tt
routines_grown f code more [] (callback ∷ callbacks) are = absurd are
routines_grown f code more (routine ∷ routines) [] are = absurd are
routines_grown f code more (routine ∷ routines) (callback ∷ callbacks) are = (code_grown f code more routine callback are.0, routines_grown f code more routines callbacks are.1)

routines_on : (f : Facts) (code : List Instr) (routines : List Routine) (callbacks : List Callback) (routine : Routine) (callback : Callback) → AreRoutines f code routines callbacks → IsRoutine f code routine callback
    → AreRoutines f code (routines ++ routine ∷ []) (callbacks ++ callback ∷ [])
routines_on f code [] [] routine callback are is = (is, tt)
routines_on f code [] (c ∷ callbacks) routine callback are is = absurd are
routines_on f code (r ∷ routines) [] routine callback are is = absurd are
routines_on f code (r ∷ routines) (c ∷ callbacks) routine callback are is = (are.0, routines_on f code routines callbacks routine callback are.1 is)

-- ---- the callbacks one after another

-- no callback yet
pub none_made : (f : Facts) (code : List Instr) (callbacks : List Callback) → AreRoutines f code [] (take 0 callbacks)
none_made f code callbacks = tt

pub grows_none : (code : List Instr) → Grows code code
grows_none code = ([], sym (append-nil code))

pub grows_on : (f : Facts) (a b c : List Instr) (begin : ℕ) (callback : Callback) → Grows a b → Emits f b c begin callback.body 0 → Grows a c
grows_on f a b c begin callback grew emits = (grew.0 ++ emits.more, emits.grew ∙ ap (λ (l : List Instr). l ++ emits.more) grew.1 ∙ append_assoc a grew.0 emits.more)

-- one callback more
pub one_made : (f : Facts) (a b c : List Instr) (callbacks : List Callback) (i : ℕ) (routines : List Routine) (routine : Routine) (callback : Callback) → i < length callbacks → callback ≡ get_or callbacks i callback
    → Grows a b → Emits f b c routine.begin callback.body 0 → routine.name ≡ callback.name → routine.count ≡ length callback.body → slice_get a 0 ≡ Some instr.End
    → AreRoutines f b routines (take i callbacks) → AreRoutines f c (routines ++ routine ∷ []) (take (i + 1) callbacks)
one_made f a b c callbacks i routines routine callback within at grew emits name count end are =
    let here : slice_get b 0 ≡ Some instr.End = subst (λ (l : List Instr). slice_get l 0 ≡ Some instr.End) (sym grew.1) (get_grown a grew.0 0 instr.End end) in
    let there : slice_get c 0 ≡ Some instr.End = subst (λ (l : List Instr). slice_get l 0 ≡ Some instr.End) (sym emits.grew) (get_grown b emits.more 0 instr.End here) in
    let before : AreRoutines f c routines (take i callbacks) = subst (λ (l : List Instr). AreRoutines f l routines (take i callbacks)) (sym emits.grew) (routines_grown f b emits.more routines (take i callbacks) are) in
    let next : take (i + 1) callbacks ≡ take i callbacks ++ callback ∷ [] = rw (add-one, take-suc callbacks i callback within) (ap (λ (x : Callback). take i callbacks ++ x ∷ []) (sym at)) in
    subst (λ (l : List Callback). AreRoutines f c (routines ++ routine ∷ []) l) (sym next)
    (routines_on f c routines (take i callbacks) routine callback before (record { same_name = name; same_count = count; is_code = record { ends = there; leads = emits.leads } }))

-- ---- the whole

pub flow_made : (job : Job) (a b c : List Instr) (begin : ℕ) (routines : List Routine) → KeepsByParts job → a ≡ instr.End ∷ [] → Emits (facts_of job) a b begin job.body 0 → Grows b c
    → (slice_get b 0 ≡ Some instr.End → AreRoutines (facts_of job) c routines job.callbacks)
    → IsFlowOf job (record { code = c; begin = begin; routines = routines; stand = start begin (blank_of job.names) })
flow_made job a b c begin routines parts one emits grew are =
    let f = facts_of job in
    let first : slice_get a 0 ≡ Some instr.End = subst (λ (l : List Instr). slice_get l 0 ≡ Some instr.End) (sym one) refl in
    let second : slice_get b 0 ≡ Some instr.End = subst (λ (l : List Instr). slice_get l 0 ≡ Some instr.End) (sym emits.grew) (get_grown a emits.more 0 instr.End first) in
    let third : slice_get c 0 ≡ Some instr.End = subst (λ (l : List Instr). slice_get l 0 ≡ Some instr.End) (sym grew.1) (get_grown b grew.0 0 instr.End second) in
    record {
      accepted = parts;
      is_code = record { ends = third; leads = subst (λ (l : List Instr). Leads f l begin job.body 0) (sym grew.1) (grown f b grew.0 emits.leads) };
      are_routines = are second;
      shaped = shaped_blank job.names;
    }

-- the same code, at the beginning of the body again, with nothing computed yet
pub another_made : (job : Job) (old : Flowing) → IsFlowOf job old → IsFlowOf job (record old { stand = start old.begin (blank_of job.names) })
another_made job old of = record { accepted = of.accepted; is_code = of.is_code; are_routines = of.are_routines; shaped = shaped_blank job.names }

-- ---- the routine of a name

pub found_here : (name : List ℕ) (routines : List Routine) (i : ℕ) (routine : Routine) → i < length routines → routine ≡ get_or routines i routine → bytes_eq routine.name name ≡ true
    → find (is_routine_of name) (drop i routines) ≡ find (is_routine_of name) routines → Some (routine.begin, routine.count) ≡ part_of (find (is_routine_of name) routines)
found_here name routines i routine within at test same =
    let front : drop i routines ≡ routine ∷ drop (suc i) routines = drop-cons routines i routine within ∙ ap (λ (r : Routine). r ∷ drop (suc i) routines) (sym at) in
    let there : find (is_routine_of name) (routine ∷ drop (suc i) routines) ≡ Some routine = rw test refl in
    ap part_of (sym there ∙ ap (find (is_routine_of name)) (sym front) ∙ same)
