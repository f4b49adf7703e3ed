-- What a process may do where it stands.
use Rattle.std.proofs.lemmas.Bool.Decides.{nat_tests}
use Rattle.std.proofs.Common.{arith, subst, ◌≡◌, ◌<◌, ◌==◌, ℕ, suc, true, false, List, [], refl, ap, sym, ◌∙◌}
use Rattle.std.specs.Prelude.{if◌then◌else◌, not, is_some, Option}
use Rattle.std.specs.Option.{option_map}
use Rattle.std.specs.declared.option.Option.TheVariants.{None, Some}
use Rattle.fx_base.specs.declared.names.Place.{Place}
use Rattle.fx_base.specs.declared.names.Proc.{Proc}
use Rattle.fx_comm.specs.Seats.{Seat, has_place, place_in}
use Rattle.fx_comm.proofs.Places.{has_place_in}
use Rattle.fx_fleet.specs.Runs.{job_setup}
use Rattle.fx_flow.specs.Flowing.{DoesRest, Flowing, state_of}
use Rattle.fx_item.specs.declared.item.Item.{Item}
use Rattle.fx_link.specs.declared.message.Message.{Message}
use Rattle.fx_link.specs.declared.slot.Slot.TheVariants as slot
use Rattle.fx_machine.specs.Ballots.{joins}
use Rattle.fx_machine.specs.Nodes as node
use Rattle.fx_machine.specs.Nodes.{Node}
use Rattle.fx_machine.specs.Steps.{in_arrival, in_walk, inits, may_help_out, next, next_at}
use Rattle.fx_node.specs.declared.node.Moved.{Moved}
use Rattle.fx_node.specs.declared.node.Moved.TheVariants as moved
use Rattle.fx_node.specs.declared.stage.Stage.TheVariants as stage
use Rattle.fx_node.specs.Standing.{IsNodeOf, MayVote, Standing, StandsAs}
use Rattle.fx_node.specs.Stepping.{Steps}
use Rattle.fx_script.specs.declared.job.Job.{Job}
use Rattle.fx_walk.specs.Along.{at_of, stop_of}
use Rattle.fx_walk.specs.Callbacks.{state_at}
use Rattle.fx_walk.specs.Walk.{Walk, Ends, Passes, Prints, Asks}
use Rattle.fx_walk.specs.declared.action.At.TheVariants as at
use Rattle.fx_walk.specs.declared.action.View.{View}

-- where it stands, by its stage
pub stands_at : (job : Job) (c : Standing) (n : Node) (s : _) → c.stage ≡ s → IsNodeOf job c n → StandsAs job s c n
stands_at job c n s is h = subst (λ s. StandsAs job s c n) is h.stands

-- ---- votes

-- in a later epoch than the first
joins_later : (e : ℕ) → 0 < e → (suc e == 1) ≡ false
joins_later e h = grind (arith, nat_tests, h)

pub may_start : (job : Job) (c : Standing) (n : Node) → c.stage ≡ stage.Begins → IsNodeOf job c n → MayVote slot.Start c n
may_start job c n is h =
    let here = stands_at job c n stage.Begins is h in
    record { goes_on = ap node.is_over here.0; still = here.1; valid = ap (λ (e : ℕ). suc e == 1) here.3; unheard = here.2 }

pub may_help : (job : Job) (c : Standing) (n : Node) → c.stage ≡ stage.Arrived → IsNodeOf job c n → MayVote slot.Spare c n
may_help job c n is h =
    let here = stands_at job c n stage.Arrived is h in
    record { goes_on = ap node.is_over here.0; still = here.1; valid = ap not (joins_later n.epoch here.3); unheard = here.2 }

pub may_fail : (job : Job) (c : Standing) (n : Node) → c.stage ≡ stage.Failed → IsNodeOf job c n → MayVote slot.Error c n
may_fail job c n is h =
    let here = stands_at job c n stage.Failed is h in
    record { goes_on = ap node.is_over here.0; still = here.1; valid = ap not (joins_later n.epoch here.3); unheard = here.2 }

-- ---- the walk

ends_in : (view : View) (walk : Walk) (flow : Flowing) → DoesRest view walk flow → at_of walk ≡ at.Finish → walk ≡ Ends (state_of flow)
ends_in view (Ends state) flow does is = ap Ends (sym does.1)
ends_in view (Passes rest) flow does is = absurd (cc)
ends_in view (Prints printed rest) flow does is = absurd (cc)
ends_in view (Asks place wanted state rest) flow does is = absurd (cc)

pub walk_ends : (job : Job) (c : Standing) (n : Node) → c.stage ≡ stage.Walking → IsNodeOf job c n → at_of n.walk ≡ at.Finish → n.walk ≡ Ends (state_of c.flow)
walk_ends job c n is h over =
    let here = stands_at job c n stage.Walking is h in
    ends_in c.view n.walk c.flow here.1.does over

pub may_finish : (job : Job) (c : Standing) (n : Node) → c.stage ≡ stage.Walking → IsNodeOf job c n → at_of n.walk ≡ at.Finish → MayVote slot.Final c n
may_finish job c n is h over =
    let here = stands_at job c n stage.Walking is h in
    record { goes_on = ap node.is_over here.0; still = ap (λ (w : Walk). state_at (stop_of w [])) (walk_ends job c n is h over); valid = ap not (joins_later n.epoch here.3); unheard = here.2 }

pub finishes : (job : Job) (c after : Standing) (n : Node) (said : Moved) (sent sent' : List (Proc × Message)) (told told' : List Item) → n.walk ≡ Ends (state_of c.flow)
    → Steps job n (joins slot.Final n) said after sent sent' told told' → Steps job n (in_walk (job_setup job) n n.walk) said after sent sent' told told'
finishes job c after n said sent sent' told told' still h =
    subst (λ w. Steps job n (in_walk (job_setup job) n w) said after sent sent' told told') (sym still) h

-- ---- the arrival

-- with a place
placed : (found : Option Place) (seats : List Seat) (me : ℕ) (place : Place) → option_map (λ (p : Place). p.0) found ≡ place_in seats me → found ≡ Some place → place_in seats me ≡ Some place.0
placed found seats me place same is = sym same ∙ ap (λ (o : Option Place). option_map (λ (p : Place). p.0) o) is

pub begins_there : (job : Job) (c after : Standing) (n : Node) (said : Moved) (sent sent' : List (Proc × Message)) (told told' : List Item) (place : ℕ)
    → IsNodeOf job c n → place_in c.comm c.me ≡ Some place
    → Steps job n (Some (inits (job_setup job) n)) said after sent sent' told told' → Steps job n (in_arrival (job_setup job) n) said after sent sent' told told'
begins_there job c after n said sent sent' told told' place h there steps =
    let has : has_place n.comm n.me ≡ true = rw (h.comm, h.me) (has_place_in c.comm c.me ∙ ap is_some there) in
    subst (λ b. Steps job n (if b then Some (inits (job_setup job) n) else (if may_help_out n then joins slot.Spare n else None)) said after sent sent' told told') (sym has) steps

no_place : (job : Job) (c : Standing) (n : Node) → IsNodeOf job c n → place_in c.comm c.me ≡ None → has_place n.comm n.me ≡ false
no_place job c n h none = rw (h.comm, h.me) (has_place_in c.comm c.me ∙ ap is_some none)

pub helps_out : (job : Job) (c after : Standing) (n : Node) (said : Moved) (sent sent' : List (Proc × Message)) (told told' : List Item)
    → IsNodeOf job c n → place_in c.comm c.me ≡ None → may_help_out n ≡ true
    → Steps job n (joins slot.Spare n) said after sent sent' told told' → Steps job n (in_arrival (job_setup job) n) said after sent sent' told told'
helps_out job c after n said sent sent' told told' h none may steps =
    subst (λ b. Steps job n (if b then Some (inits (job_setup job) n) else (if may_help_out n then joins slot.Spare n else None)) said after sent sent' told told') (sym (no_place job c n h none))
    (subst (λ b. Steps job n (if b then joins slot.Spare n else None) said after sent sent' told told') (sym may) steps)

pub stays : (job : Job) (c : Standing) (n : Node) (sent : List (Proc × Message)) (told : List Item)
    → c.stage ≡ stage.Arrived → IsNodeOf job c n → place_in c.comm c.me ≡ None → may_help_out n ≡ false
    → Steps job n (in_arrival (job_setup job) n) moved.Quiet c sent sent told told
stays job c n sent told is h none may =
    let here = stands_at job c n stage.Arrived is h in
    subst (λ b. Steps job n (if b then Some (inits (job_setup job) n) else (if may_help_out n then joins slot.Spare n else None)) moved.Quiet c sent sent told told) (sym (no_place job c n h none))
    (subst (λ b. Steps job n (if b then joins slot.Spare n else None) moved.Quiet c sent sent told told) (sym may)
    (record { says = sym (ap (λ (s : node.Stage). if node.is_over s then moved.Ended else moved.Quiet) here.0); node = h; sends = refl; items = refl }))

-- ---- the step

-- a step is that of the stage
pub by_stage : (job : Job) (after : Standing) (n : Node) (s : node.Stage) (said : Moved) (sent sent' : List (Proc × Message)) (told told' : List Item) → n.stage ≡ s
    → Steps job n (next_at (job_setup job) n s) said after sent sent' told told' → Steps job n (next (job_setup job) n) said after sent sent' told told'
by_stage job after n s said sent sent' told told' is steps = subst (λ s. Steps job n (next_at (job_setup job) n s) said after sent sent' told told') (sym is) steps

pub has_stopped : (job : Job) (c : Standing) (n : Node) (sent : List (Proc × Message)) (told : List Item) → c.stage ≡ stage.Over → IsNodeOf job c n
    → Steps job n (next (job_setup job) n) moved.Ended c sent sent told told
has_stopped job c n sent told is h =
    let here = stands_at job c n stage.Over is h in
    by_stage job c n node.Over moved.Ended sent sent told told here
    (record { says = sym (ap (λ (s : node.Stage). if node.is_over s then moved.Ended else moved.Quiet) here); node = h; sends = refl; items = refl })
