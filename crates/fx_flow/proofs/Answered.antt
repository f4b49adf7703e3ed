-- An outward statement that is answered goes on as the walk does.
use Rattle.std.proofs.Common.{◌≡◌, ℕ, List, [], Some, refl, ap, sym, subst, ◌∙◌}
use Rattle.std.specs.Prelude.{ℤ}
use Rattle.std.specs.FinMap.{FinMap}
use Rattle.std.specs.Ordering.{nat_cmp}
use Rattle.fx_base.specs.declared.names.MemberId.{MemberId}
use Rattle.fx_script.specs.declared.job.Job.{Job}
use Rattle.fx_walk.specs.declared.action.View.{View}
use Rattle.fx_walk.specs.State.{State, restored_from}
use Rattle.fx_walk.specs.Walk.{Given, Nothing, Number, Elements, Entries, Reply, Walk, Ends, Passes, Prints, Asks, view_after}
use Rattle.fx_value.proofs.Shapes.{shaped_counter, shaped_array}
use Rattle.fx_flow.specs.declared.instr.Outward.{Outward}
use Rattle.fx_flow.specs.declared.instr.Outward.TheVariants as outward
use Rattle.fx_flow.specs.Code.{Stand}
use Rattle.fx_flow.specs.Flowing.{Flowing, outward_of, counter_of, target_of, restored_of, DoesRest, WasAnswered, IsFlowOf, IsGivenFitting}
use Rattle.fx_flow.specs.Outward.{array_at, taken_by, takes_number, takes_elements, takes_entries}
use Rattle.fx_value.proofs.Staying.{length_restored}
use Rattle.fx_flow.proofs.Kept.{at_stand, stands_shaped}
use Rattle.fx_flow.proofs.Went.{answered}

-- ---- what is taken

number_taken : (what : Outward) (counter : ℕ) (state : State) (n : ℤ) → counter_of what ≡ Some counter → takes_number counter state (Number n) ≡ taken_by what state (Number n)
number_taken (outward.Reduce op own array) counter state n e = let same : own ≡ counter = cc in rw same refl
number_taken (outward.Agree own array index) counter state n e = let same : own ≡ counter = cc in rw same refl
number_taken other counter state n e = absurd cc

elements_taken : (what : Outward) (target : ℕ) (state : State) (elements : List ℤ) → target_of what ≡ Some target → takes_elements target state (Elements elements) ≡ taken_by what state (Elements elements)
elements_taken (outward.Shift by source own) target state elements e = let same : own ≡ target = cc in rw same refl
elements_taken other target state elements e = absurd cc

entries_taken : (what : Outward) (restored : MemberId × ℕ) (state : State) (entries : FinMap nat_cmp ℤ) → restored_of what ≡ Some restored → takes_entries restored.1 state (Entries entries) ≡ taken_by what state (Entries entries)
entries_taken (outward.Restore group member array stamp) restored state entries e =
    let own : MemberId × ℕ = (member, array) in
    let same : own ≡ restored = cc in
    ap (λ (r : MemberId × ℕ). takes_entries r.1 state (Entries entries)) (sym same)
entries_taken other restored state entries e = absurd cc

nothing_taken : (what : Outward) (state : State) → state ≡ taken_by what state Nothing
nothing_taken (outward.Reduce op counter array) state = refl
nothing_taken other state = refl

-- ---- the walk goes on

abbrev GoesOn : Given → Flowing → Flowing → Type 0
GoesOn given old new = (view : View) (walk : Walk) (latest : List ℤ) → DoesRest view walk old → WasAnswered view walk (record { given = given; latest = latest }) new

taken : (old : Flowing) (c : Stand) (what : Outward) (next : ℕ) (given : Given) (state : State) → outward_of old ≡ Some (what, next) → state ≡ taken_by what old.stand.state given
    → c ≡ record old.stand { place = next; state = state } → GoesOn given old (record old { stand = c })
taken old c what next given state due is at =
    answered old (record old { stand = c }) what next given due
    (ap (λ (d : Stand). record old { stand = d }) (at ∙ ap (λ (s : State). record old.stand { place = next; state = s }) is))

pub number_given : (old : Flowing) (c : Stand) (what : Outward) (next counter : ℕ) (n : ℤ) → outward_of old ≡ Some (what, next) → counter_of what ≡ Some counter
    → c ≡ record old.stand { place = next; state = takes_number counter old.stand.state (Number n) } → GoesOn (Number n) old (record old { stand = c })
number_given old c what next counter n due is at = taken old c what next (Number n) (takes_number counter old.stand.state (Number n)) due (number_taken what counter old.stand.state n is) at

pub elements_given : (old : Flowing) (c : Stand) (what : Outward) (next target : ℕ) (elements : List ℤ) → outward_of old ≡ Some (what, next) → target_of what ≡ Some target
    → c ≡ record old.stand { place = next; state = takes_elements target old.stand.state (Elements elements) } → GoesOn (Elements elements) old (record old { stand = c })
elements_given old c what next target elements due is at =
    taken old c what next (Elements elements) (takes_elements target old.stand.state (Elements elements)) due (elements_taken what target old.stand.state elements is) at

pub entries_given : (old : Flowing) (c : Stand) (what : Outward) (next : ℕ) (restored : MemberId × ℕ) (entries : FinMap nat_cmp ℤ) → outward_of old ≡ Some (what, next) → restored_of what ≡ Some restored
    → c ≡ record old.stand { place = next; state = takes_entries restored.1 old.stand.state (Entries entries) } → GoesOn (Entries entries) old (record old { stand = c })
entries_given old c what next restored entries due is at =
    taken old c what next (Entries entries) (takes_entries restored.1 old.stand.state (Entries entries)) due (entries_taken what restored old.stand.state entries is) at

pub nothing_given : (old : Flowing) (c : Stand) (what : Outward) (next : ℕ) → outward_of old ≡ Some (what, next) → c ≡ record old.stand { place = next } → GoesOn Nothing old (record old { stand = c })
nothing_given old c what next due at = taken old c what next Nothing old.stand.state due (nothing_taken what old.stand.state) at

-- ---- it stays a flow of its job

abbrev StaysOf : Flowing → Flowing → Type 0
StaysOf old new = (job : Job) → IsFlowOf job old → IsFlowOf job new

pub number_stays : (old : Flowing) (c : Stand) (next counter : ℕ) (n : ℤ) → c ≡ record old.stand { place = next; state = takes_number counter old.stand.state (Number n) } → StaysOf old (record old { stand = c })
number_stays old c next counter n at job of =
    subst (λ (d : Stand). IsFlowOf job (record old { stand = d })) (sym at)
    (at_stand job old (record old { stand = record old.stand { place = next; state = takes_number counter old.stand.state (Number n) } }) refl (λ shaped. shaped_counter job.names old.stand.state counter n shaped) of)

-- elements that fit leave the state in the declared shape
pub elements_stay : (old new : Flowing) (elements : List ℤ) → new ≡ record old { stand = new.stand } → GoesOn (Elements elements) old new
    → (job : Job) (view : View) (walk : Walk) → IsFlowOf job old → DoesRest view walk old → IsGivenFitting job.names walk (Elements elements) → IsFlowOf job new
elements_stay old new elements same goes job view (Ends state) of does fits = absurd fits
elements_stay old new elements same goes job view (Passes rest) of does fits = absurd fits
elements_stay old new elements same goes job view (Prints printed rest) of does fits = absurd fits
elements_stay old new elements same goes job view (Asks place wanted state rest) of does fits =
    let reply : Reply = record { given = Elements elements; latest = [] } in
    at_stand job old new same
    (λ shaped. stands_shaped job.names new.code (view_after view reply) (rest reply) new.stand (fits.0.1 reply fits.1) (goes view (Asks place wanted state rest) [] does)) of

pub entries_stay : (old : Flowing) (c : Stand) (next array : ℕ) (entries : FinMap nat_cmp ℤ)
    → c ≡ record old.stand { place = next; state = takes_entries array old.stand.state (Entries entries) } → StaysOf old (record old { stand = c })
entries_stay old c next array entries at job of =
    subst (λ (d : Stand). IsFlowOf job (record old { stand = d })) (sym at)
    (at_stand job old (record old { stand = record old.stand { place = next; state = takes_entries array old.stand.state (Entries entries) } }) refl
    (λ shaped. shaped_array job.names old.stand.state array (restored_from 0 entries (array_at old.stand.state array)) (length_restored 0 entries (array_at old.stand.state array)) shaped) of)

pub place_stays : (old : Flowing) (c : Stand) (next : ℕ) → c ≡ record old.stand { place = next } → StaysOf old (record old { stand = c })
place_stays old c next at job of =
    subst (λ (d : Stand). IsFlowOf job (record old { stand = d })) (sym at)
    (at_stand job old (record old { stand = record old.stand { place = next } }) refl (λ shaped. shaped) of)
