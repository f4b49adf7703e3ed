-- A step and a delivery in the world of a calm run.
use Rattle.std.proofs.lemmas.Bool.Decides.{nat_tests}
use Rattle.std.proofs.lemmas.List.Elements.{filter-append}
use Rattle.std.proofs.Common.{arith, ◌≡◌, ◌<◌, ℕ, Bool, true, false, ◌&&◌, ◌==◌, List, [], ◌∷◌, ◌++◌, map, Some, refl, sym, ap, subst, ◌∙◌}
use Rattle.fx_ballot.specs.World.{put}
use Rattle.fx_item.specs.declared.item.Item.{Item}
use Rattle.fx_item.specs.declared.item.Item.TheVariants as item
use Rattle.fx_script.specs.declared.job.Job.{Job}
use Rattle.fx_machine.specs.Messages.{message_of}
use Rattle.fx_machine.specs.Nodes.{Node, Act, receives}
use Rattle.fx_machine.specs.Numbers.{proc}
use Rattle.fx_machine.specs.Setup.{Setup}
use Rattle.fx_machine.specs.Steps.{next}
use Rattle.fx_machine.specs.Texts.{Text}
use Rattle.fx_fleet.specs.Rounds.{is_of_journal}
use Rattle.fx_fleet.specs.Runs.{AsksNothing, job_setup}
use Rattle.fx_fleet.specs.World.{World, up, sent_to, send_item, does, receives_front}
use Rattle.fx_deeds.proofs.Every.{is_deed}
use Rattle.fx_legal.specs.Ledger.{Ledger, procs_of, first_ledger}
use Rattle.fx_legal.specs.Legal.{GoesOn, ledger_of, written_all}
use Rattle.fx_legal.specs.Stands.{Ended, is_killed}
use Rattle.fx_calm.proofs.Lists.{each_append, chosen, equal, unequal, written_more, goes_on_more}
use Rattle.fx_calm.proofs.Standing.{AreTrue, IsTrue, IsCalm, Tied, Legally, Owes, noted, texts_later, node_later, not_ended, lives}
use Rattle.fx_calm.proofs.Begins.{Peace}
use Rattle.fx_calm.proofs.Steps.{kept_texts}
use Rattle.fx_calm.proofs.Deeds.{deed_owes}

append_none : {X : Type 0} (xs : List X) → xs ++ [] ≡ xs
append_none [] = refl
append_none (x ∷ xs) = ap (λ l. x ∷ l) (append_none xs)

-- sends stand in no journal
none_sent : (p : ℕ) (sends : List (ℕ × Text)) → noted (map (send_item p) sends) ≡ []
none_sent p [] = refl
none_sent p (x ∷ sends) = none_sent p sends

noted_more : (p : ℕ) (before items : List Item) (sends : List (ℕ × Text)) → noted (before ++ (items ++ map (send_item p) sends)) ≡ noted before ++ noted items
noted_more p before items sends =
    filter-append is_of_journal before (items ++ map (send_item p) sends)
    ∙ ap (λ (l : List Item). noted before ++ l)
    (filter-append is_of_journal items (map (send_item p) sends) ∙ ap (λ (l : List Item). noted items ++ l) (none_sent p sends) ∙ append_none (noted items))

-- a process that is up is one of the job
up_below : (s : Setup) (w : World) (p : ℕ) → up s w p ≡ true → p < s.procs
up_below s w p e = grind (arith, nat_tests, e)

peace_of : (job : Job) (l : Ledger) (w : World) → Tied job l w → Peace l
peace_of job l w tied = record {
  living = λ q. subst (λ (m : ℕ). is_killed (l.stands m) ≡ false) (tied.me q)
      (lives job l (w.node q).me (w.node q).epoch (w.node q).walk (w.node q).stage (tied.each q).at);
  ended = λ q e. not_ended job l (w.node q).me (w.node q).epoch (w.node q).walk (w.node q).stage (tied.each q).at
      (subst (λ (m : ℕ). l.stands m ≡ Ended) (sym (tied.me q)) e);
}

acts_tied : (job : Job) (l : Ledger) (p : ℕ) (w : World) (act : Act) → Tied job l w → Owes job l (w.node p) act
    → Tied job (written_all job l (noted act.items)) (does (job_setup job) p act w)
acts_tied job l p w act tied owes = record {
  killed = tied.killed;
  me = λ q. chosen (λ (m : Node). m.me ≡ q) (q == p) act.node (w.node q) (λ e. owes.me ∙ tied.me p ∙ sym (equal q p e)) (λ e. tied.me q);
  each = λ q. chosen (λ (m : Node). IsCalm job after m) (q == p) act.node (w.node q) (λ e. owes.node)
      (λ e. node_later job (w.node p).me l after owes.later (w.node q) (λ same. unequal q p e (sym (tied.me q) ∙ same ∙ tied.me p)) (tied.each q));
  links = λ a b. chosen (AreTrue job after a) ((a == p) && up (job_setup job) w b) (w.link a b ++ sent_to b act.sends) (w.link a b)
      (λ e. each_append (IsTrue job after a) (w.link a b) (sent_to b act.sends) (old a b)
      (subst (λ (q : ℕ). AreTrue job after q (sent_to b act.sends)) (tied.me p ∙ sym (equal a p (first_of (a == p) (up (job_setup job) w b) e))) (owes.sends b))) (λ e. old a b);
  book = owes.book;
}
  where
    after : Ledger
    after = written_all job l (noted act.items)

    old : (a b : ℕ) → AreTrue job after a (w.link a b)
    old a b = texts_later job (w.node p).me l after owes.later a (w.link a b) (tied.links a b)

    first_of : (a b : Bool) → (a && b) ≡ true → a ≡ true
    first_of a b e = grind (arith, nat_tests, e)

pub acts_legally : (job : Job) → AsksNothing job → (p : ℕ) (w : World) (act : Act) → up (job_setup job) w p ≡ true → next (job_setup job) (w.node p) ≡ Some act
    → Legally job w → Legally job (does (job_setup job) p act w)
acts_legally job asks p w act on e is = record {
  goes = subst (GoesOn job (first_ledger job)) (sym more) (goes_on_more job (first_ledger job) (noted w.items) (noted act.items) is.goes owes.goes);
  tied = subst (λ (l : Ledger). Tied job l (does (job_setup job) p act w))
      (sym (ap (written_all job (first_ledger job)) more ∙ written_more job (first_ledger job) (noted w.items) (noted act.items))) (acts_tied job l p w act is.tied owes);
}
  where
    l : Ledger
    l = ledger_of job (noted w.items)

    owes : Owes job l (w.node p) act
    owes = deed_owes job l (w.node p) (subst (λ (q : ℕ). q < procs_of job) (sym (is.tied.me p)) (up_below (job_setup job) w p on)) asks (is.tied.each p) is.tied.book
        (peace_of job l w is.tied) act (is_deed (job_setup job) (w.node p) act e)

    more : noted (w.items ++ (act.items ++ map (send_item p) act.sends)) ≡ noted w.items ++ noted act.items
    more = noted_more p w.items act.items act.sends

-- ---- a delivery

received : (job : Job) (l : Ledger) (p : ℕ) (t : Text) (n : Node) → IsTrue job l p t → IsCalm job l n → IsCalm job l (receives p t n)
received job l p t n true_is is = record {
  lost = is.lost;
  comm = is.comm;
  present = is.present;
  named = is.named;
  at = is.at;
  texts = λ q. chosen (λ (f : ℕ → List Text). AreTrue job l q (f q)) (p == n.me) n.texts (put n.texts p (n.texts p ++ t ∷ [])) (λ e. is.texts q)
      (λ e. kept_texts job l p n.texts t true_is is.texts q);
}

hears_tied : (job : Job) (l : Ledger) (p q : ℕ) (t : Text) (rest : List Text) (w : World) → w.link p q ≡ t ∷ rest → Tied job l w → Tied job l (receives_front p q (t ∷ rest) w)
hears_tied job l p q t rest w e tied = record {
  killed = tied.killed;
  me = λ r. chosen (λ (m : Node). m.me ≡ r) (r == q) (receives p t (w.node q)) (w.node r) (λ e. tied.me q ∙ sym (equal r q e)) (λ e. tied.me r);
  each = λ r. chosen (IsCalm job l) (r == q) (receives p t (w.node q)) (w.node r) (λ e. received job l p t (w.node q) under.0 (tied.each q)) (λ e. tied.each r);
  links = λ a b. chosen (AreTrue job l a) ((a == p) && (b == q)) rest (w.link a b)
      (λ e. subst (λ (c : ℕ). AreTrue job l c rest) (sym (equal a p (first_of (a == p) (b == q) e))) under.1) (λ e. tied.links a b);
  book = tied.book;
}
  where
    under : AreTrue job l p (t ∷ rest)
    under = subst (AreTrue job l p) e (tied.links p q)

    first_of : (a b : Bool) → (a && b) ≡ true → a ≡ true
    first_of a b e = grind (arith, nat_tests, e)

pub hears_legally : (job : Job) (p q : ℕ) (t : Text) (rest : List Text) (w : World) → w.link p q ≡ t ∷ rest → Legally job w → Legally job (receives_front p q (t ∷ rest) w)
hears_legally job p q t rest w e is = record {
  goes = subst (GoesOn job (first_ledger job)) (sym same) is.goes;
  tied = subst (λ (l : List Item). Tied job (ledger_of job l) (receives_front p q (t ∷ rest) w)) (sym same) (hears_tied job (ledger_of job (noted w.items)) p q t rest w e is.tied);
}
  where
    same : noted (w.items ++ item.Deliver (proc p) (proc q) (message_of t) ∷ []) ≡ noted w.items
    same = filter-append is_of_journal w.items (item.Deliver (proc p) (proc q) (message_of t) ∷ []) ∙ append_none (noted w.items)
