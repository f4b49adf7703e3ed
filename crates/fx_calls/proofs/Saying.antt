-- The votes and estimates of calls are read or under way: whoever said one sent it to each other place.
use Rattle.std.proofs.Common.{◌≡◌, ◌≢◌, ℕ, true, false, List, ◌∷◌, ◌++◌, Option, Some, None, inl, inr, refl, ap, sym, subst, ◌∙◌}
use Rattle.std.specs.Prelude.{is_some}
use Rattle.std.proofs.lemmas.Bool.{cases_eq}
use Rattle.fx_ballot.specs.Laws.{vote_of, estimate_of}
use Rattle.fx_ballot.specs.World.{Member}
use Rattle.fx_ballot.specs.declared.heard.Heard.{Heard}
use Rattle.fx_comm.specs.Seats.{Seat, has_place}
use Rattle.fx_script.specs.declared.job.Job.{Job}
use Rattle.fx_walk.specs.declared.wanted.Wanted.{Wanted}
use Rattle.fx_machine.specs.Nodes.{Act, procs_of}
use Rattle.fx_machine.specs.Reading.{OfCall, vote_in, estimate_in}
use Rattle.fx_machine.specs.Setup.{Setup}
use Rattle.fx_machine.specs.Texts.{Text}
use Rattle.fx_fleet.specs.World.{World, up, sent_to, does, receives_front, learns, first_world}
use Rattle.fx_legal.specs.Ledger.{Ledger, Chapter, comm_in, first_ledger}
use Rattle.fx_ballot.specs.Names.{seat_of}
use Rattle.fx_calls.proofs.Delivered as delivered
use Rattle.fx_calls.proofs.Delivered.{Delivered, Gives, stream, stream_receives, stream_learns}
use Rattle.fx_calls.proofs.Hearings.{Polls}
use Rattle.fx_calls.proofs.Plans.{EntryAt, Grows, same_comm}
use Rattle.fx_calls.proofs.Polled.{Heeds}
use Rattle.fx_calls.proofs.Polling.{none_polled}
use Rattle.fx_calls.proofs.Sayings.{has_vote, has_estimate, seat_in, read_stays, read_comes}

-- what a process that lives said in the ballot of a call stands for each other place that is up among what is kept there or under way
pub record Said (s : Setup) (w : World) (l : Ledger) (polls : Polls) : Type 0 where
  pub votes : (a b e k : ℕ) → w.killed a ≡ false → up s w b ≡ true → a ≢ b → has_place (comm_in l e) b ≡ true → is_some (vote_of (polls e k) a) ≡ true → has_vote e k (stream w a b) ≡ true
  pub estimates : (a b e k : ℕ) → w.killed a ≡ false → up s w b ≡ true → a ≢ b → has_place (comm_in l e) b ≡ true → is_some (estimate_of (polls e k) a) ≡ true → has_estimate e k (seat_in l e a) (stream w a b) ≡ true

-- ---- a step

module _ (job : Job) (s : Setup) (p : ℕ) (act : Act) (w : World) (l m : Ledger) (here : up s w p ≡ true) (alive : w.killed p ≡ false) (g : Grows l m) (far : (e k q : ℕ) → q ≢ p → m.entered e k q ≡ l.entered e k q)
    (entries : (e k q : ℕ) (v : Wanted) → l.entered e k q ≡ Some v → EntryAt job l e k v) (gives : Gives s p act w l m) (there : Delivered s w l) (polls : Polls) (h : Heeds p act l m polls) (said : Said s w l polls) where
  before_up : (b : ℕ) → up s (does s p act w) b ≡ true → up s w b ≡ true
  before_up b u = delivered.before_up job s p act w l m here alive g far entries gives there b u

  stream_other : (a b : ℕ) → a ≢ p → stream (does s p act w) a b ≡ stream w a b
  stream_other a b ne = delivered.stream_other job s p act w l m here alive g far entries gives there a b ne

  stream_own : (b : ℕ) → up s w b ≡ true → b ≢ p → stream (does s p act w) p b ≡ stream w p b ++ sent_to b act.sends
  stream_own b u ne = delivered.stream_own job s p act w l m here alive g far entries gives there b u ne

  -- an epoch in whose calls something was said has begun
  vote_begun : (e k q : ℕ) → is_some (vote_of (h.now e k) q) ≡ true → is_some (l.chapters e) ≡ true
  vote_begun e k q is = of (l.chapters e) refl
    where
      of : (o : Option Chapter) → l.chapters e ≡ o → is_some (l.chapters e) ≡ true
      of (Some c) at = ap is_some at
      of None at = absurd (let bad : false ≡ true = sym (ap is_some ((h.blank e k at).vote q q)) ∙ is in cc)

  estimate_begun : (e k q : ℕ) → is_some (estimate_of (h.now e k) q) ≡ true → is_some (l.chapters e) ≡ true
  estimate_begun e k q is = of (l.chapters e) refl
    where
      of : (o : Option Chapter) → l.chapters e ≡ o → is_some (l.chapters e) ≡ true
      of (Some c) at = ap is_some at
      of None at = absurd (let bad : false ≡ true = sym (ap is_some ((h.blank e k at).estimate q q)) ∙ is in cc)

  placed_before : (e b : ℕ) → is_some (l.chapters e) ≡ true → has_place (comm_in m e) b ≡ true → has_place (comm_in l e) b ≡ true
  placed_before e b begun place = ap (λ (seats : List Seat). has_place seats b) (sym (same_comm l m g e begun)) ∙ place

  seat_before : (e a : ℕ) → is_some (l.chapters e) ≡ true → seat_in m e a ≡ seat_in l e a
  seat_before e a begun = ap (λ (seats : List Seat). seat_of (procs_of seats) a) (same_comm l m g e begun)

  own_vote : (b e k : ℕ) → up s w b ≡ true → b ≢ p → has_place (comm_in l e) b ≡ true → is_some (vote_of (h.now e k) p) ≡ true → has_vote e k (stream (does s p act w) p b) ≡ true
  own_vote b e k u ne place is = ap (has_vote e k) (stream_own b u ne) ∙ elim ((h.says e k).vote b ne place is) [
    | inl old ↦ read_stays (vote_in (OfCall e k)) (stream w p b) (sent_to b act.sends) (said.votes p b e k alive u (λ i. ne (sym i)) place old)
    | inr new ↦ read_comes (vote_in (OfCall e k)) (stream w p b) (sent_to b act.sends) new
  ]

  own_estimate : (b e k : ℕ) → up s w b ≡ true → b ≢ p → has_place (comm_in l e) b ≡ true → is_some (estimate_of (h.now e k) p) ≡ true → has_estimate e k (seat_in l e p) (stream (does s p act w) p b) ≡ true
  own_estimate b e k u ne place is = ap (has_estimate e k (seat_in l e p)) (stream_own b u ne) ∙ elim ((h.says e k).estimate b ne place is) [
    | inl old ↦ read_stays (estimate_in (OfCall e k) (seat_in l e p)) (stream w p b) (sent_to b act.sends) (said.estimates p b e k alive u (λ i. ne (sym i)) place old)
    | inr new ↦ read_comes (estimate_in (OfCall e k) (seat_in l e p)) (stream w p b) (sent_to b act.sends) new
  ]

  pub said_step : Said s (does s p act w) m h.now
  said_step = record {
    votes = λ a b e k living u ne place is.
        let placed = placed_before e b (vote_begun e k a is) place in
        elim (cases_eq a p) [
          | inl same ↦ subst (λ o. has_vote e k (stream (does s p act w) o b) ≡ true) (sym same)
              (own_vote b e k (before_up b u) (λ i. ne (same ∙ sym i)) placed (subst (λ o. is_some (vote_of (h.now e k) o) ≡ true) same is))
          | inr apart ↦ ap (has_vote e k) (stream_other a b apart)
              ∙ said.votes a b e k living (before_up b u) ne placed (sym (ap (λ (x : Member). is_some (x.heard a).vote) (h.others e k a apart)) ∙ is)
        ];
    estimates = λ a b e k living u ne place is.
        let begun = estimate_begun e k a is in
        let placed = placed_before e b begun place in
        ap (λ (r : ℕ). has_estimate e k r (stream (does s p act w) a b)) (seat_before e a begun) ∙ elim (cases_eq a p) [
          | inl same ↦ subst (λ o. has_estimate e k (seat_in l e o) (stream (does s p act w) o b) ≡ true) (sym same)
              (own_estimate b e k (before_up b u) (λ i. ne (same ∙ sym i)) placed (subst (λ o. is_some (estimate_of (h.now e k) o) ≡ true) same is))
          | inr apart ↦ ap (has_estimate e k (seat_in l e a)) (stream_other a b apart)
              ∙ said.estimates a b e k living (before_up b u) ne placed (sym (ap (λ (x : Member). is_some (x.heard a).estimate) (h.others e k a apart)) ∙ is)
        ];
  }

-- ---- deliveries, notices and losses

-- where nothing is said, and what each has of each that lives is as before
pub said_same : (s : Setup) (w v : World) (l : Ledger) (polls now : Polls) → ((q : ℕ) → v.killed q ≡ false → w.killed q ≡ false) → ((q : ℕ) → up s v q ≡ true → up s w q ≡ true)
    → ((a b : ℕ) → v.killed a ≡ false → up s v b ≡ true → a ≢ b → stream v a b ≡ stream w a b) → ((e k q : ℕ) → ((now e k).member q).heard q ≡ ((polls e k).member q).heard q) → Said s w l polls → Said s v l now
said_same s w v l polls now living back same heard said = record {
  votes = λ a b e k alive u ne place is. ap (has_vote e k) (same a b alive u ne) ∙ said.votes a b e k (living a alive) (back b u) ne place (sym (ap (λ (x : Heard). is_some x.vote) (heard e k a)) ∙ is);
  estimates = λ a b e k alive u ne place is. ap (has_estimate e k (seat_in l e a)) (same a b alive u ne) ∙ said.estimates a b e k (living a alive) (back b u) ne place (sym (ap (λ (x : Heard). is_some x.estimate) (heard e k a)) ∙ is);
}

pub said_receives : (s : Setup) (l : Ledger) (polls : Polls) (a b : ℕ) (t : Text) (rest : List Text) (w : World) → (w.node b).me ≡ b → w.link a b ≡ t ∷ rest → ((q : ℕ) → up s (receives_front a b (t ∷ rest) w) q ≡ true → up s w q ≡ true)
    → Said s w l polls → Said s (receives_front a b (t ∷ rest) w) l polls
said_receives s l polls a b t rest w me front back said =
    said_same s w (receives_front a b (t ∷ rest) w) l polls polls (λ q e. e) back (λ c q alive u ne. stream_receives a b t rest w me front c q ne) (λ e k q. refl) said

pub said_learns : (s : Setup) (l : Ledger) (polls : Polls) (a b : ℕ) (w : World) → w.killed a ≡ true → ((q : ℕ) → up s (learns a b w) q ≡ true → up s w q ≡ true) → Said s w l polls → Said s (learns a b w) l polls
said_learns s l polls a b w dead back said =
    said_same s w (learns a b w) l polls polls (λ q e. e) back (λ c q alive u ne. stream_learns a b w c q (λ i. let bad : true ≡ false = sym dead ∙ ap w.killed (sym i) ∙ alive in cc)) (λ e k q. refl) said

-- nobody has said anything at first
pub said_first : (job : Job) (s : Setup) → Said s (first_world s) (first_ledger job) none_polled
said_first job s = record {
  votes = λ a b e k alive u ne place is. absurd (let bad : false ≡ true = is in cc);
  estimates = λ a b e k alive u ne place is. absurd (let bad : false ≡ true = is in cc);
}
