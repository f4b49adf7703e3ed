-- Deliveries and notices keep that the journal is legal.
use Rattle.std.proofs.lemmas.List.Elements.{filter-append}
use Rattle.std.proofs.lemmas.Bool.{cases_eq}
use Rattle.std.proofs.Common.{◌≡◌, ℕ, suc, Bool, true, false, List, [], ◌∷◌, ◌++◌, Option, inl, inr, refl, sym, ap, subst, ◌∙◌}
use Rattle.std.specs.Prelude.{if◌then◌else◌}
use Rattle.fx_ballot.specs.declared.heard.Heard.{Heard}
use Rattle.fx_ballot.specs.World.{start, tells, kills, put}
use Rattle.fx_ballot.specs.World as ballot
use Rattle.fx_item.specs.declared.item.Item.{Item}
use Rattle.fx_item.specs.declared.item.Item.TheVariants as item
use Rattle.fx_link.specs.declared.slot.Slot.{Slot}
use Rattle.fx_script.specs.declared.job.Job.{Job}
use Rattle.fx_machine.specs.Messages.{message_of}
use Rattle.fx_machine.specs.Nodes.{Node, receives, is_told}
use Rattle.fx_machine.specs.Numbers.{proc}
use Rattle.fx_machine.specs.Texts.{Text}
use Rattle.fx_fleet.specs.Rounds.{is_of_journal}
use Rattle.fx_fleet.specs.Runs.{job_setup}
use Rattle.fx_fleet.specs.World.{World, up, receives_front, learns}
use Rattle.fx_calm.proofs.Standing.{noted}
use Rattle.fx_legal.specs.Effects.{due_kills}
use Rattle.fx_legal.specs.Ledger.{first_ledger}
use Rattle.fx_legal.specs.Legal.{GoesOn, ledger_of}
use Rattle.fx_legal.specs.Stands.{Stand}
use Rattle.fx_calls.proofs.Parts.{Spoken}
use Rattle.fx_calls.proofs.Speaking.{spoken_receives, spoken_learns}
use Rattle.fx_calls.proofs.Stepped.{InStep, Stepped, still_in_step}
use Rattle.fx_legal.specs.Ledger.{Ledger}
use Rattle.fx_calls.proofs.Delivered.{Delivered, delivered_receives, delivered_learns}
use Rattle.fx_losses.proofs.Notices.{alike_learns}
use Rattle.fx_losses.proofs.Events.{alike_up, alike_delivers, behind_delivery, deliver_shows, self_shows, got_own}
use Rattle.fx_losses.proofs.Notices.{notice_shows, tells_vote, tells_estimate}
use Rattle.fx_calls.proofs.Linked.{Linked, linked_same}
use Rattle.fx_losses.proofs.Shows.{Shows, Truthful, up_parts}
use Rattle.fx_calls.proofs.Polled.{Polled}
use Rattle.fx_calls.proofs.Polling.{polled_receives, polled_learns}
use Rattle.fx_calls.proofs.Standing.{AtStage, still_stands}
use Rattle.fx_losses.proofs.Texts.{append_none, put_same, put_other, text_in, of_epoch}
use Rattle.fx_losses.proofs.Truths.{truthful_grows, truthful_same, truthful_receives, truthful_learns}
use Rattle.fx_calls.proofs.Legally.{Legally}
use Rattle.fx_calls.proofs.Hearings.{Polls}
use Rattle.fx_calls.proofs.Saying.{Said, said_receives, said_learns}

-- ---- a delivery, and a notice

pub same_journal : (items : List Item) (it : Item) → is_of_journal it ≡ false → noted (items ++ it ∷ []) ≡ noted items
same_journal items it unseen = filter-append is_of_journal items (it ∷ []) ∙ ap (λ (b : Bool). noted items ++ (if b then it ∷ [] else [])) unseen ∙ append_none (noted items)

module _ (job : Job) (ps : List ℕ) (w v : World) (z : ℕ → ballot.World) (fate : ℕ → Option (List Slot)) (same : noted v.items ≡ noted w.items) where
  -- nothing was written
  quietly : (is : Legally job ps w) → Polled v (ledger_of job (noted w.items)) is.polls → Delivered (job_setup job) v (ledger_of job (noted w.items)) → Shows (job_setup job) v z fate → Truthful (job_setup job) v z fate → Linked job v z fate (ledger_of job (noted w.items)) → Stepped job v (ledger_of job (noted w.items)) → Spoken (ledger_of job (noted w.items)) v → Legally job ps v
  quietly is polled delivered shows truthful linked stepped spoken = record {
    worlds = z;
    fate = fate;
    shows = shows;
    truthful = truthful;
    goes = subst (GoesOn job (first_ledger job)) (sym same) is.goes;
    linked = subst (λ (l : List Item). Linked job v z fate (ledger_of job l)) (sym same) linked;
    stepped = subst (λ (l : List Item). Stepped job v (ledger_of job l)) (sym same) stepped;
    spoken = subst (λ (l : List Item). Spoken (ledger_of job l) v) (sym same) spoken;
    polls = is.polls;
    delivered = subst (λ (l : List Item). Delivered (job_setup job) v (ledger_of job l)) (sym same) delivered;
    polled = subst (λ (l : List Item). Polled v (ledger_of job l) is.polls) (sym same) polled;
    due = subst (λ (l : List Item). due_kills (ledger_of job l).stands (ledger_of job l).kills ≡ due_kills (ledger_of job l).stands ps) (sym same) is.due;
  }

-- one node hears or is told
stepped_at : (job : Job) (l : Ledger) (w v : World) (b : ℕ) (n : Node) → v.node ≡ put w.node b n → ((q : ℕ) → v.killed q ≡ w.killed q) → (InStep job l b (w.node b) → InStep job l b n) → Stepped job w l → Stepped job v l
stepped_at job l w v b n nodes killed keeps is = record {
  entries = is.entries;
  nodes = λ q alive. elim (cases_eq q b) [
    | inl same ↦ subst (λ o. InStep job l o (v.node o)) (sym same) (subst (λ (f : ℕ → Node). InStep job l b (f b)) (sym nodes) (subst (InStep job l b) (sym (put_same w.node b n)) (keeps (is.nodes b (sym (ap w.killed same) ∙ sym (killed q) ∙ alive)))))
    | inr ne ↦ subst (λ (f : ℕ → Node). InStep job l q (f q)) (sym nodes) (subst (InStep job l q) (sym (put_other w.node b q n ne)) (is.nodes q (sym (killed q) ∙ alive)))
  ];
}

-- what was heard, and that the ballots of calls are as before
hears_so : (job : Job) (ps : List ℕ) (a b : ℕ) (t : Text) (rest : List Text) (w : World) → up (job_setup job) w b ≡ true → w.link a b ≡ t ∷ rest → (is : Legally job ps w)
    → (x : Legally job ps (receives_front a b (t ∷ rest) w)) × (x.polls ≡ is.polls)
unfolding quietly
hears_so job ps a b t rest w on front is = elim (cases_eq a b) [
  | inl same ↦ (
    quietly job ps w (receives_front a b (t ∷ rest) w) is.worlds is.fate silent is polled delivered (self_shows (job_setup job) a b t rest w is.worlds is.fate on front is.shows same) (truthful_receives (job_setup job) is.worlds is.fate a b t rest w front is.truthful)
        (linked_same job w (receives_front a b (t ∷ rest) w) is.worlds is.worlds is.fate (ledger_of job (noted w.items)) (λ q. refl) (λ d q. refl) stands is.linked) stepped spoken,
    refl,
  )
  | inr ne ↦ (
    quietly job ps w (receives_front a b (t ∷ rest) w) (behind_delivery (job_setup job) a b t rest w is.worlds is.fate on front is.shows ne) is.fate silent is polled delivered (deliver_shows (job_setup job) a b t rest w is.worlds is.fate on front is.shows ne)
        (truthful_same (job_setup job) is.worlds (behind_delivery (job_setup job) a b t rest w is.worlds is.fate on front is.shows ne) is.fate (receives_front a b (t ∷ rest) w) (λ d q. got_own a b (text_in (suc d) t) (of_epoch (suc d) rest) (is.worlds d) ne q)
        (truthful_receives (job_setup job) is.worlds is.fate a b t rest w front is.truthful))
        (linked_same job w (receives_front a b (t ∷ rest) w) is.worlds (behind_delivery (job_setup job) a b t rest w is.worlds is.fate on front is.shows ne) is.fate (ledger_of job (noted w.items)) (λ q. refl)
        (λ d q. ap (λ (x : Heard). x.vote) (got_own a b (text_in (suc d) t) (of_epoch (suc d) rest) (is.worlds d) ne q)) stands is.linked) stepped spoken,
    refl,
  )
]
  where
    stepped : Stepped job (receives_front a b (t ∷ rest) w) (ledger_of job (noted w.items))
    stepped =
        stepped_at job (ledger_of job (noted w.items)) w (receives_front a b (t ∷ rest) w) b (receives a t (w.node b)) refl (λ q. refl)
        (λ x. still_in_step job (ledger_of job (noted w.items)) b (w.node b) (receives a t (w.node b)).texts (w.node b).lost x) is.stepped

    spoken : Spoken (ledger_of job (noted w.items)) (receives_front a b (t ∷ rest) w)
    spoken = spoken_receives (ledger_of job (noted w.items)) a b t rest w front is.spoken

    delivered : Delivered (job_setup job) (receives_front a b (t ∷ rest) w) (ledger_of job (noted w.items))
    delivered = delivered_receives (job_setup job) (ledger_of job (noted w.items)) a b t rest w on (is.shows.sane b (up_parts (job_setup job) w b on).1).me front
        (λ q u. sym (alike_up (job_setup job) b w (receives_front a b (t ∷ rest) w) q (alike_delivers (job_setup job) a b t rest w is.worlds is.fate on front is.shows)) ∙ u) is.delivered

    polled : Polled (receives_front a b (t ∷ rest) w) (ledger_of job (noted w.items)) is.polls
    polled = polled_receives (ledger_of job (noted w.items)) is.polls a b t rest w (is.shows.sane b (up_parts (job_setup job) w b on).1).me front is.polled

    silent : noted (receives_front a b (t ∷ rest) w).items ≡ noted w.items
    silent = same_journal w.items (item.Deliver (proc a) (proc b) (message_of t)) refl

    stands : (q : ℕ) (x : Stand) → AtStage job x (w.node q) → AtStage job x ((receives_front a b (t ∷ rest) w).node q)
    stands q x i = elim (cases_eq q b) [
      | inl same ↦ subst (λ o. AtStage job x ((receives_front a b (t ∷ rest) w).node o)) (sym same) (subst (AtStage job x) (sym (put_same w.node b (receives a t (w.node b)))) (still_stands job x (w.node b) (receives a t (w.node b)).texts (w.node b).lost (subst (λ o. AtStage job x (w.node o)) same i)))
      | inr ne ↦ subst (AtStage job x) (sym (put_other w.node b q (receives a t (w.node b)) ne)) i
    ]

pub hears_legally : (job : Job) (ps : List ℕ) (a b : ℕ) (t : Text) (rest : List Text) (w : World) → up (job_setup job) w b ≡ true → w.link a b ≡ t ∷ rest → Legally job ps w
    → Legally job ps (receives_front a b (t ∷ rest) w)
hears_legally job ps a b t rest w on front is = (hears_so job ps a b t rest w on front is).0

pub hears_polls : (job : Job) (ps : List ℕ) (a b : ℕ) (t : Text) (rest : List Text) (w : World) (on : up (job_setup job) w b ≡ true) (front : w.link a b ≡ t ∷ rest) (is : Legally job ps w)
    → (hears_legally job ps a b t rest w on front is).polls ≡ is.polls
unfolding hears_legally
hears_polls job ps a b t rest w on front is = (hears_so job ps a b t rest w on front is).1

pub tells_legally : (job : Job) (ps : List ℕ) (a b : ℕ) (w : World) → w.killed a ≡ true → Legally job ps w → Legally job ps (learns a b w)
tells_legally job ps a b w dead is =
    quietly job ps w (learns a b w) (λ d. tells a b (is.worlds d)) is.fate silent is (polled_learns (ledger_of job (noted w.items)) is.polls a b w is.polled)
    (delivered_learns (job_setup job) (ledger_of job (noted w.items)) a b w dead (λ q u. sym (alike_up (job_setup job) b w (learns a b w) q (alike_learns (job_setup job) a b w is.worlds is.fate dead is.shows)) ∙ u) is.delivered) (notice_shows (job_setup job) a b w is.worlds is.fate dead is.shows)
    (truthful_grows (job_setup job) is.worlds (λ d. tells a b (is.worlds d)) is.fate is.fate (λ d c x e. tells_vote a b (is.worlds d) c ∙ e) (λ d c x e. tells_estimate a b (is.worlds d) c ∙ e) (λ d x e. e) (learns a b w)
    (truthful_learns (job_setup job) is.worlds is.fate a b w is.truthful))
    (linked_same job w (learns a b w) is.worlds (λ d. tells a b (is.worlds d)) is.fate (ledger_of job (noted w.items)) (λ q. refl) (λ d q. tells_vote a b (is.worlds d) q) stands is.linked)
    (stepped_at job (ledger_of job (noted w.items)) w (learns a b w) b (is_told a (w.node b)) refl (λ q. refl)
    (λ x. still_in_step job (ledger_of job (noted w.items)) b (w.node b) (w.node b).texts (is_told a (w.node b)).lost x) is.stepped)
    (spoken_learns (ledger_of job (noted w.items)) a b w is.spoken)
  where
    silent : noted (learns a b w).items ≡ noted w.items
    silent = same_journal w.items (item.Told (proc a) (proc b)) refl

    stands : (q : ℕ) (x : Stand) → AtStage job x (w.node q) → AtStage job x ((learns a b w).node q)
    stands q x i = elim (cases_eq q b) [
      | inl same ↦ subst (λ o. AtStage job x ((learns a b w).node o)) (sym same) (subst (AtStage job x) (sym (put_same w.node b (is_told a (w.node b)))) (still_stands job x (w.node b) (w.node b).texts (is_told a (w.node b)).lost (subst (λ o. AtStage job x (w.node o)) same i)))
      | inr ne ↦ subst (AtStage job x) (sym (put_other w.node b q (is_told a (w.node b)) ne)) i
    ]

pub tells_polls : (job : Job) (ps : List ℕ) (a b : ℕ) (w : World) (dead : w.killed a ≡ true) (is : Legally job ps w) → (tells_legally job ps a b w dead is).polls ≡ is.polls
unfolding tells_legally quietly
tells_polls job ps a b w dead is = refl

-- what was said stands as before
pub hears_said : (job : Job) (ps : List ℕ) (a b : ℕ) (t : Text) (rest : List Text) (w : World) (on : up (job_setup job) w b ≡ true) (front : w.link a b ≡ t ∷ rest) (is : Legally job ps w)
    → Said (job_setup job) w (ledger_of job (noted w.items)) is.polls → Said (job_setup job) (receives_front a b (t ∷ rest) w) (ledger_of job (noted (receives_front a b (t ∷ rest) w).items)) (hears_legally job ps a b t rest w on front is).polls
hears_said job ps a b t rest w on front is said =
    subst (λ (x : List Item). Said (job_setup job) (receives_front a b (t ∷ rest) w) (ledger_of job x) (hears_legally job ps a b t rest w on front is).polls) (sym (same_journal w.items (item.Deliver (proc a) (proc b) (message_of t)) refl))
    (subst (λ (x : Polls). Said (job_setup job) (receives_front a b (t ∷ rest) w) (ledger_of job (noted w.items)) x) (sym (hears_polls job ps a b t rest w on front is))
    (said_receives (job_setup job) (ledger_of job (noted w.items)) is.polls a b t rest w (is.shows.sane b (up_parts (job_setup job) w b on).1).me front
    (λ q u. sym (alike_up (job_setup job) b w (receives_front a b (t ∷ rest) w) q (alike_delivers (job_setup job) a b t rest w is.worlds is.fate on front is.shows)) ∙ u) said))

pub tells_said : (job : Job) (ps : List ℕ) (a b : ℕ) (w : World) (dead : w.killed a ≡ true) (is : Legally job ps w)
    → Said (job_setup job) w (ledger_of job (noted w.items)) is.polls → Said (job_setup job) (learns a b w) (ledger_of job (noted (learns a b w).items)) (tells_legally job ps a b w dead is).polls
tells_said job ps a b w dead is said =
    subst (λ (x : List Item). Said (job_setup job) (learns a b w) (ledger_of job x) (tells_legally job ps a b w dead is).polls) (sym (same_journal w.items (item.Told (proc a) (proc b)) refl))
    (subst (λ (x : Polls). Said (job_setup job) (learns a b w) (ledger_of job (noted w.items)) x) (sym (tells_polls job ps a b w dead is))
    (said_learns (job_setup job) (ledger_of job (noted w.items)) is.polls a b w dead (λ q u. sym (alike_up (job_setup job) b w (learns a b w) q (alike_learns (job_setup job) a b w is.worlds is.fate dead is.shows)) ∙ u) said))
