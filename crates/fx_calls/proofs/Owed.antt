-- What each deed of a node owes to the ballots, to the journal and to the calls.
use Rattle.std.proofs.Common.{◌≡◌, ◌≢◌, ◌==◌, ℕ, Bool, true, false, List, [], ◌∷◌, ◌++◌, map, Option, refl, ap, sym, subst, ◌∙◌}
use Rattle.std.specs.Prelude.{if◌then◌else◌}
use Rattle.std.specs.List.{flat_map}
use Rattle.fx_ballot.specs.World as ballot
use Rattle.fx_ballot.specs.World.{put}
use Rattle.fx_item.specs.declared.item.Item.{Item}
use Rattle.fx_item.specs.declared.item.Item.TheVariants as item
use Rattle.fx_link.specs.declared.slot.Slot.{Slot}
use Rattle.fx_script.specs.declared.job.Job.{Job}
use Rattle.fx_walk.specs.declared.printed.Called.{Called}
use Rattle.fx_walk.specs.declared.printed.Printed.{Printed}
use Rattle.fx_walk.specs.declared.wanted.Wanted.{Wanted}
use Rattle.fx_machine.specs.Nodes.{Node, Act, my_place, size, state_of}
use Rattle.fx_machine.specs.Setup.{Setup}
use Rattle.fx_machine.specs.Steps.{print_item, callback_items, init_item, inits}
use Rattle.fx_machine.specs.Texts.{Text}
use Rattle.fx_fleet.specs.Rounds.{is_of_journal}
use Rattle.fx_fleet.specs.Runs.{job_setup}
use Rattle.fx_fleet.specs.World.{World, up, sent_to}
use Rattle.fx_calm.proofs.Lists.{Each, each_append, chosen, equal}
use Rattle.fx_calm.proofs.Standing.{noted}
use Rattle.fx_legal.specs.Effects.{written}
use Rattle.fx_legal.specs.Ledger.{Chapter, Ledger}
use Rattle.fx_legal.specs.Legal.{GoesOn, written_all}
use Rattle.fx_legal.specs.Stands.{is_killed}
use Rattle.fx_check.specs.Parts.{KeepsByParts}
use Rattle.fx_losses.proofs.Plays.{Plays}
use Rattle.fx_losses.proofs.Shows.{Shows, Truthful}
use Rattle.fx_calls.specs.Bodies.{AsksNoGroups}
use Rattle.fx_calls.proofs.Delivered.{Delivered, Gives}
use Rattle.fx_calls.proofs.Hearings.{Polls}
use Rattle.fx_calls.proofs.Linked.{Linked, Links}
use Rattle.fx_calls.proofs.Polled.{Polled, Heeds}
use Rattle.fx_calls.proofs.Parts.{TruePart, Spoken}
use Rattle.fx_calls.proofs.Plans.{Grows, HavePlans}
use Rattle.fx_calls.proofs.Stepped.{Stepped, Adds}

pub record Does (job : Job) (p : ℕ) (act : Act) (w : World) (z : ℕ → ballot.World) (fate : ℕ → Option (List Slot)) (l : Ledger) (polls : Polls) : Type 0 where
  pub plays : Plays (job_setup job) p act w z fate
  pub goes : GoesOn job l (noted act.items)
  pub links : Links job p act w plays.fate_now plays.after l (written_all job l (noted act.items))
  pub kills : (written_all job l (noted act.items)).kills ≡ l.kills
  pub adds : Adds job p act.node l (written_all job l (noted act.items))
  pub texts : (c : ℕ) → Each (TruePart (written_all job l (noted act.items)) c p) (act.node.texts c)
  pub sends : (b : ℕ) → Each (TruePart (written_all job l (noted act.items)) p b) (sent_to b act.sends)
  pub heeds : Heeds p act l (written_all job l (noted act.items)) polls
  pub gives : Gives (job_setup job) p act w l (written_all job l (noted act.items))

-- the ledger grew where one that lives stands elsewhere and all else is as it was
pub grows_by : (l m : Ledger) (p : ℕ) → is_killed (l.stands p) ≡ false → ((q : ℕ) → q ≢ p → m.stands q ≡ l.stands q) → m.chapters ≡ l.chapters → m.joined ≡ l.joined → m.entered ≡ l.entered → Grows l m
grows_by l m p alive far chapters joined entered = record {
  chapters = λ e c is. ap (λ (f : ℕ → Option Chapter). f e) chapters ∙ is;
  entered = λ e k q v is. ap (λ (f : ℕ → ℕ → ℕ → Option Wanted). f e k q) entered ∙ is;
  joined = λ e q v is. ap (λ (f : ℕ → ℕ → Option Slot). f e q) joined ∙ is;
  killed = λ q dead. ap is_killed (far q (λ same. let bad : true ≡ false = sym (subst (λ (o : ℕ). is_killed (l.stands o) ≡ true) same dead) ∙ alive in cc)) ∙ dead;
}

-- a text of its own that a process keeps, beside those that it has
pub kept_true : (Is : ℕ → Text → Type 0) (me : ℕ) (texts : ℕ → List Text) (t : Text) → Is me t → ((c : ℕ) → Each (Is c) (texts c)) → (c : ℕ) → Each (Is c) (put texts me (texts me ++ t ∷ []) c)
kept_true Is me texts t is all c =
    chosen (Each (Is c)) (c == me) (texts me ++ t ∷ []) (texts c)
    (λ e. subst (λ (o : ℕ). Each (Is o) (texts me ++ t ∷ [])) (sym (equal c me e)) (each_append (Is me) (texts me) (t ∷ []) (all me) (is, tt))) (λ e. all c)

-- ---- items that enter nothing

-- what a process writes before its body begins, and what its body prints
abbrev pub is_opening : Item → Bool
is_opening (item.Callback p e name) = true
is_opening (item.Init p e role id rank size warn) = true
is_opening (item.Print p e name list) = true
is_opening other = false

enters_none : (job : Job) (l : Ledger) (it : Item) → is_opening it ≡ true → (written job l it).entered ≡ l.entered
enters_none job l (item.Callback p e name) is = refl
enters_none job l (item.Init p e role id rank size warn) is = refl
enters_none job l (item.Print p e name list) is = refl
enters_none job l other is = absurd (let bad : false ≡ true = is in cc)

joins_none : (job : Job) (l : Ledger) (it : Item) → is_opening it ≡ true → (written job l it).joined ≡ l.joined
joins_none job l (item.Callback p e name) is = refl
joins_none job l (item.Init p e role id rank size warn) is = refl
joins_none job l (item.Print p e name list) is = refl
joins_none job l other is = absurd (let bad : false ≡ true = is in cc)

returns_none : (job : Job) (l : Ledger) (it : Item) → is_opening it ≡ true → (written job l it).returns ≡ l.returns
returns_none job l (item.Callback p e name) is = refl
returns_none job l (item.Init p e role id rank size warn) is = refl
returns_none job l (item.Print p e name list) is = refl
returns_none job l other is = absurd (let bad : false ≡ true = is in cc)

abbrev Openings : List Item → Type 0
Openings items = Each (λ it. is_opening it ≡ true) items

pub entered_same : (job : Job) (l : Ledger) (items : List Item) → Each (λ it. is_opening it ≡ true) items → (written_all job l (noted items)).entered ≡ l.entered
entered_same job l [] all = refl
entered_same job l (it ∷ items) all = of (is_of_journal it) (λ m. entered_same job m items all.1)
  where
    of : (b : Bool) → ((m : Ledger) → (written_all job m (noted items)).entered ≡ m.entered) → (written_all job l (if b then it ∷ noted items else noted items)).entered ≡ l.entered
    of true later = later (written job l it) ∙ enters_none job l it all.0
    of false later = later l

pub joined_same : (job : Job) (l : Ledger) (items : List Item) → Each (λ it. is_opening it ≡ true) items → (written_all job l (noted items)).joined ≡ l.joined
joined_same job l [] all = refl
joined_same job l (it ∷ items) all = of (is_of_journal it) (λ m. joined_same job m items all.1)
  where
    of : (b : Bool) → ((m : Ledger) → (written_all job m (noted items)).joined ≡ m.joined) → (written_all job l (if b then it ∷ noted items else noted items)).joined ≡ l.joined
    of true later = later (written job l it) ∙ joins_none job l it all.0
    of false later = later l

pub returns_same : (job : Job) (l : Ledger) (items : List Item) → Each (λ it. is_opening it ≡ true) items → (written_all job l (noted items)).returns ≡ l.returns
returns_same job l [] all = refl
returns_same job l (it ∷ items) all = of (is_of_journal it) (λ m. returns_same job m items all.1)
  where
    of : (b : Bool) → ((m : Ledger) → (written_all job m (noted items)).returns ≡ m.returns) → (written_all job l (if b then it ∷ noted items else noted items)).returns ≡ l.returns
    of true later = later (written job l it) ∙ returns_none job l it all.0
    of false later = later l

prints_open : (n : Node) (prints : List Printed) → Openings (map (print_item n) prints)
prints_open n [] = tt
prints_open n (x ∷ xs) = (refl, prints_open n xs)

callbacks_open : (n : Node) (called : List Called) → Openings (flat_map (callback_items n) called)
callbacks_open n [] = tt
callbacks_open n (c ∷ cs) = (refl, each_append (λ it. is_opening it ≡ true) (map (print_item n) c.prints) (flat_map (callback_items n) cs) (prints_open n c.prints) (callbacks_open n cs))

pub inits_open : (s : Setup) (n : Node) → Each (λ it. is_opening it ≡ true) (inits s n).items
inits_open s n =
    each_append (λ it. is_opening it ≡ true) (flat_map (callback_items n) (s.callbacks n.role (my_place n) (size n) (state_of n))) (init_item s n ∷ [])
    (callbacks_open n (s.callbacks n.role (my_place n) (size n) (state_of n))) (refl, tt)

-- what is known of a world in which process p takes a step
pub record Facts (job : Job) (w : World) (z : ℕ → ballot.World) (fate : ℕ → Option (List Slot)) (l : Ledger) (polls : Polls) (p : ℕ) : Type 0 where
  pub rules : KeepsByParts job
  pub planned : HavePlans job
  pub asks : AsksNoGroups job
  pub here : up (job_setup job) w p ≡ true
  pub shows : Shows (job_setup job) w z fate
  pub truthful : Truthful (job_setup job) w z fate
  pub linked : Linked job w z fate l
  pub stepped : Stepped job w l
  pub spoken : Spoken l w
  pub polled : Polled w l polls
  pub delivered : Delivered (job_setup job) w l
