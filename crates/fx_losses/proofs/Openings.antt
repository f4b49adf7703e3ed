-- What a process writes as it returns from `Init`: all that its callbacks are to write, and then the return.
use Rattle.std.proofs.Common.{◌≡◌, ◌≢◌, ◌<◌, ℕ, zero, suc, true, List, [], ◌∷◌, ◌++◌, map, Option, None, refl, sym, ap, subst, ◌∙◌}
use Rattle.std.specs.Prelude.{if◌then◌else◌, nat_lt}
use Rattle.std.specs.List.{flat_map}
use Rattle.fx_base.specs.declared.names.Role.TheVariants as role
use Rattle.fx_check.specs.Facts.{facts_of}
use Rattle.fx_comm.specs.Seats.{Seat, has_place}
use Rattle.fx_item.specs.declared.item.Item.{Item}
use Rattle.fx_item.specs.declared.item.Item.TheVariants as item
use Rattle.fx_script.specs.declared.job.Job.{Job}
use Rattle.fx_walk.specs.declared.printed.Called.{Called}
use Rattle.fx_walk.specs.declared.printed.Printed.{Printed}
use Rattle.fx_walk.specs.Callbacks.{callbacks_at_init, body_start}
use Rattle.fx_walk.specs.State.{State}
use Rattle.fx_machine.specs.Nodes.{Node, ident_at, my_place, size, state_of}
use Rattle.fx_machine.specs.Numbers.{proc, epoch_no}
use Rattle.fx_machine.specs.Steps.{print_item, callback_items, init_item, begun, inits}
use Rattle.fx_fleet.specs.Runs.{job_setup}
use Rattle.fx_calm.proofs.Seats.{seat_is}
use Rattle.fx_calm.proofs.Standing.{noted}
use Rattle.fx_calm.proofs.Steps.{key_same, key_other}
use Rattle.fx_legal.specs.Effects as effects
use Rattle.fx_legal.specs.Effects.{written, first_stay, returned_from_init}
use Rattle.fx_legal.specs.Groups.{at_key}
use Rattle.fx_legal.specs.Ledger.{Chapter, Ledger, comm_in, comm_of, role_in, ranks_of, procs_of}
use Rattle.fx_legal.specs.Legal.{GoesOn, written_all}
use Rattle.fx_legal.specs.Rules.{HasOpened, HasSeat, IsSize, IsNote, IsPrint}
use Rattle.fx_legal.specs.Stands as stand
use Rattle.fx_legal.specs.Stands.{Note, Stand, notes_of}
use Rattle.fx_losses.proofs.Standing.{opening}

-- items of one process that change nothing but where it stands
pub record Wrote (job : Job) (l : Ledger) (p : ℕ) (items : List Item) (x : Stand) : Type 0 where
  pub goes : GoesOn job l items
  pub mine : (written_all job l items).stands p ≡ x
  pub stands : (q : ℕ) → q ≢ p → (written_all job l items).stands q ≡ l.stands q
  pub joined : (written_all job l items).joined ≡ l.joined
  pub chapters : (written_all job l items).chapters ≡ l.chapters
  pub kills : (written_all job l items).kills ≡ l.kills

-- the ledger where the process stands elsewhere
abbrev pub standing : ℕ → Stand → Ledger → Ledger
standing p x l = record l { stands = at_key p x l.stands }

pub wrote_none : (job : Job) (l : Ledger) (p : ℕ) (x : Stand) → l.stands p ≡ x → Wrote job l p [] x
wrote_none job l p x e = record { goes = tt; mine = e; stands = λ q ne. refl; joined = refl; chapters = refl; kills = refl }

module _ (job : Job) (n : Node) (few : n.me < procs_of job) (state : State) where
  abbrev p : ℕ
  p = n.me

  -- an item by which it stands elsewhere, and then the others
  pub wrote_one : (l : Ledger) (it : Item) (y x : Stand) (rest : List Item) → written job l it ≡ standing p y l → GoesOn job l (it ∷ []) → Wrote job (standing p y l) p rest x → Wrote job l p (it ∷ rest) x
  wrote_one l it y x rest e one more =
      let here = subst (λ (m : Ledger). Wrote job m p rest x) (sym e) more in
      record {
        goes = (one.0, here.goes);
        mine = here.mine;
        stands = λ q ne. here.stands q ne ∙ ap (λ (m : Ledger). m.stands q) e ∙ key_other p y l.stands q ne;
        joined = here.joined ∙ ap (λ (m : Ledger). m.joined) e;
        chapters = here.chapters ∙ ap (λ (m : Ledger). m.chapters) e;
        kills = here.kills ∙ ap (λ (m : Ledger). m.kills) e;
      }

  -- the stand of who has these notes still to write
  abbrev at_notes : List Note → Stand
  at_notes notes = stand.Opening n.epoch notes state

  -- what comes behind, once all notes are written
  abbrev Behind : Ledger → List Item → Stand → Type 0
  Behind l rest x = (m : Ledger) → m.stands p ≡ at_notes [] → m.chapters ≡ l.chapters → Wrote job m p rest x

  prints_then : (prints : List Printed) (notes : List Note) (l : Ledger) (more rest : List Item) (x : Stand) → l.stands p ≡ at_notes (map stand.Print prints ++ notes) → l.chapters (suc n.epoch) ≡ None
      → ((m : Ledger) → m.stands p ≡ at_notes notes → m.chapters ≡ l.chapters → Wrote job m p (noted (more ++ rest)) x)
      → Wrote job l p (noted ((map (print_item n) prints ++ more) ++ rest)) x
  prints_then [] notes l more rest x at current behind = behind l at refl
  prints_then (what ∷ prints) notes l more rest x at current behind =
      wrote_one l (print_item n what) (at_notes (map stand.Print prints ++ notes)) x (noted ((map (print_item n) prints ++ more) ++ rest))
      (ap (λ (o : Stand). standing p o l) (ap effects.printed at))
      ((few, (subst (IsPrint n.epoch what) (sym at) (refl, refl), current)), tt)
      (prints_then prints notes (standing p (at_notes (map stand.Print prints ++ notes)) l) more rest x (key_same p (at_notes (map stand.Print prints ++ notes)) l.stands) current behind)

  notes_then : (called : List Called) (l : Ledger) (rest : List Item) (x : Stand) → l.stands p ≡ at_notes (notes_of called) → l.chapters (suc n.epoch) ≡ None → Behind l (noted rest) x
      → Wrote job l p (noted (flat_map (callback_items n) called ++ rest)) x
  notes_then [] l rest x at current behind = behind l at refl
  notes_then (c ∷ cs) l rest x at current behind =
      wrote_one l (item.Callback (proc p) (epoch_no n.epoch) c.name) (at_notes (map stand.Print c.prints ++ notes_of cs)) x (noted ((map (print_item n) c.prints ++ flat_map (callback_items n) cs) ++ rest))
      (ap (λ (o : Stand). standing p o l) (ap effects.noted at))
      ((few, (subst (IsNote n.epoch (stand.Callback c.name)) (sym at) (refl, refl), current)), tt)
      (prints_then c.prints (notes_of cs) (standing p (at_notes (map stand.Print c.prints ++ notes_of cs)) l) (flat_map (callback_items n) cs) rest x
      (key_same p (at_notes (map stand.Print c.prints ++ notes_of cs)) l.stands) current
      (λ m at_m same. notes_then cs m rest x at_m (ap (λ (f : ℕ → Option Chapter). f (suc n.epoch)) same ∙ current) (λ k at_k same_k. behind k at_k (same_k ∙ same))))

module _ (job : Job) (n : Node) (l : Ledger) (few : n.me < procs_of job) (comm : comm_in l n.epoch ≡ n.comm) (named : n.role ≡ role_in l n.epoch n.me) (place : has_place n.comm n.me ≡ true)
    (at : l.stands n.me ≡ opening job n) (current : l.chapters (suc n.epoch) ≡ None) where
  abbrev state : State
  state = body_start (facts_of job) n.role (my_place n) (size n) (state_of n)

  -- where it stands in its body
  abbrev pub in_body : Stand
  in_body = stand.Walking (first_stay n.epoch (record { 0 = ident_at n (my_place n) })) (stand.shown (begun (job_setup job) n).walk)

  returns : (m : Ledger) → m.stands n.me ≡ stand.Opening n.epoch [] state → m.chapters ≡ l.chapters → Wrote job m n.me (noted (init_item (job_setup job) n ∷ [])) in_body
  returns m at_m same =
      wrote_one job n few state m (init_item (job_setup job) n) in_body in_body []
      (ap (λ (o : Stand). standing n.me o m) (ap (returned_from_init job n.role (record { 0 = ident_at n (my_place n) }) (my_place n) (size n)) at_m)) (
        (
          few,
          record {
            opened = subst (HasOpened n.epoch) (sym at_m) refl;
            named = named ∙ sym (role_same n.epoch);
            seated = subst (λ (c : List Seat). HasSeat c (my_place n) (record { 0 = ident_at n (my_place n) }, proc n.me)) (sym comm_now) (seat_is n.comm n.me place);
            sized = subst (λ (c : List Seat). IsSize job c (size n) (nat_lt (size n) (ranks_of job))) (sym comm_now) (refl, refl);
            current = ap (λ (f : ℕ → Option Chapter). f (suc n.epoch)) same ∙ current;
          },
        ),
        tt,
      )
      (wrote_none job (standing n.me in_body m) n.me in_body (key_same n.me in_body m.stands))
    where
      comm_now : comm_in m n.epoch ≡ n.comm
      comm_now = ap (λ (f : ℕ → Option Chapter). comm_of (f n.epoch)) same ∙ comm

      role_same : (e : ℕ) → role_in m e n.me ≡ role_in l e n.me
      role_same zero = refl
      role_same (suc zero) = refl
      role_same (suc (suc e)) = ap (λ (f : ℕ → Option Chapter). if has_place (comm_of (f (suc e))) n.me then role.Survivor else role.Recovered) same

  pub inits_wrote : Wrote job l n.me (noted (inits (job_setup job) n).items) in_body
  inits_wrote = notes_then job n few state (callbacks_at_init (facts_of job) n.role (my_place n) (size n) (state_of n)) l (init_item (job_setup job) n ∷ []) in_body at current (λ m at_m same. returns m at_m same)
