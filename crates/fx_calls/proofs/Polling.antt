-- What the world shows of the ballots of calls it still shows behind deliveries, notices and losses.
use Rattle.std.proofs.Common.{◌≡◌, ◌≢◌, ℕ, ◌==◌, suc, Bool, true, false, ◌&&◌, List, [], ◌∷◌, ◌++◌, length, Option, Some, None, inl, inr, arith, refl, ap, sym, subst, ◌∙◌}
use Rattle.std.specs.Prelude.{not, if◌then◌else◌, is_some}
use Rattle.std.proofs.lemmas.Bool.Decides.{nat_tests}
use Rattle.std.proofs.lemmas.Bool.{cases_eq}
use Rattle.fx_ballot.specs.Names.{seat_at, seat_of}
use Rattle.fx_ballot.specs.World.{Member, may_leave, put, kills, start}
use Rattle.fx_ballot.specs.World as ballot
use Rattle.fx_ballot.proofs.Face.{Sound, blank_start, blank_kill, sound_blank, sound_kill}
use Rattle.fx_item.specs.declared.item.Item.{Item}
use Rattle.fx_script.specs.declared.job.Job.{Job}
use Rattle.fx_machine.specs.Nodes.{Node, Stage, first_node, receives, is_told, members}
use Rattle.fx_machine.specs.Nodes as nodes
use Rattle.fx_machine.specs.Reading.{OfCall, first_read, vote_in, estimate_in}
use Rattle.fx_machine.specs.Setup.{Setup}
use Rattle.fx_machine.specs.Texts.{Text}
use Rattle.fx_fleet.specs.World.{World, first_world, receives_front, learns, loses}
use Rattle.fx_legal.specs.Ledger.{Chapter, Ledger, first_ledger}
use Rattle.fx_legal.specs.Ledger as ledger
use Rattle.fx_calm.proofs.Lists.{Each, each_append, chosen, equal}
use Rattle.fx_losses.proofs.Losses.{slain_not}
use Rattle.fx_losses.proofs.Tests.{first_of}
use Rattle.fx_losses.proofs.Texts.{put_same, put_other}
use Rattle.fx_calls.proofs.Hearings.{Polls, TrueText, PollsGrow, texts_grow}
use Rattle.fx_calls.proofs.Plans.{Grows}
use Rattle.fx_calls.proofs.Polled as polled
use Rattle.fx_calls.proofs.Polled.{NodePolls, Polled, node_same, told_grows, flag_grows}

-- a node that hears of others or is told is there as before
node_hears : (polls : Polls) (q : ℕ) (n : Node) (texts : ℕ → List Text) (lost : ℕ → Bool) → texts q ≡ n.texts q → NodePolls polls q n → NodePolls polls q (record n { texts = texts; lost = lost })
node_hears polls q n texts lost same h = record {
  balloting = λ phase at.
      let b = h.balloting phase at in
      record { stands = b.stands; inside = b.inside; undecided = b.undecided; vote = ap (first_read (vote_in (OfCall n.epoch n.calls))) same ∙ b.vote; estimate = ap (first_read (estimate_in (OfCall n.epoch n.calls) (seat_of (members n) q))) same ∙ b.estimate };
  free = h.free;
}

-- one node hears or is told
hears_at : (l : Ledger) (polls : Polls) (w v : World) (b : ℕ) (texts : ℕ → List Text) (lost : ℕ → Bool) → v.node ≡ put w.node b (record (w.node b) { texts = texts; lost = lost }) → ((q : ℕ) → v.killed q ≡ w.killed q)
    → texts b ≡ (w.node b).texts b → ((c a : ℕ) → Each (TrueText polls a) ((v.node c).texts a)) → ((a c : ℕ) → Each (TrueText polls a) (v.link a c)) → Polled w l polls → Polled v l polls
hears_at l polls w v b texts lost nodes killed same kept under is = record {
  sound = is.sound;
  blank = is.blank;
  living = λ e k q. is.living e k q ∙ ap not (sym (killed q));
  gone = is.gone;
  outside = is.outside;
  votes = is.votes;
  told = is.told;
  nodes = λ q alive. elim (cases_eq q b) [
    | inl at ↦ subst (λ o. NodePolls polls o (v.node o)) (sym at) (subst (λ (f : ℕ → Node). NodePolls polls b (f b)) (sym nodes) (subst (NodePolls polls b) (sym (put_same w.node b (record (w.node b) { texts = texts; lost = lost })))
        (node_hears polls b (w.node b) texts lost same (is.nodes b (sym (ap w.killed at) ∙ sym (killed q) ∙ alive)))))
    | inr ne ↦ subst (λ (f : ℕ → Node). NodePolls polls q (f q)) (sym nodes) (subst (NodePolls polls q) (sym (put_other w.node b q (record (w.node b) { texts = texts; lost = lost }) ne)) (is.nodes q (sym (killed q) ∙ alive)))
  ];
  texts = kept;
  links = under;
}

pub polled_receives : (l : Ledger) (polls : Polls) (a b : ℕ) (t : Text) (rest : List Text) (w : World) → (w.node b).me ≡ b → w.link a b ≡ t ∷ rest → Polled w l polls → Polled (receives_front a b (t ∷ rest) w) l polls
polled_receives l polls a b t rest w me front h = hears_at l polls w (receives_front a b (t ∷ rest) w) b (receives a t (w.node b)).texts (w.node b).lost refl (λ q. refl) own_texts
    (λ q c. chosen (λ (m : Node). Each (TrueText polls c) (m.texts c)) (q == b) (receives a t (w.node b)) (w.node q) (λ e. received c) (λ e. h.texts q c))
    (λ c q. chosen (Each (TrueText polls c)) ((c == a) && (q == b)) rest (w.link c q)
    (λ e. subst (λ (o : ℕ). Each (TrueText polls o) rest) (sym (equal c a (first_of (c == a) (q == b) e))) under.1) (λ e. h.links c q)) h
  where
    under : Each (TrueText polls a) (t ∷ rest)
    under = subst (Each (TrueText polls a)) front (h.links a b)

    kept : (c : ℕ) → Each (TrueText polls c) (put (w.node b).texts a ((w.node b).texts a ++ t ∷ []) c)
    kept c = chosen (Each (TrueText polls c)) (c == a) ((w.node b).texts a ++ t ∷ []) ((w.node b).texts c)
        (λ e. subst (λ (o : ℕ). Each (TrueText polls o) ((w.node b).texts a ++ t ∷ [])) (sym (equal c a e)) (each_append (TrueText polls a) ((w.node b).texts a) (t ∷ []) (h.texts b a) (under.0, tt))) (λ e. h.texts b c)

    received : (c : ℕ) → Each (TrueText polls c) ((receives a t (w.node b)).texts c)
    received c = chosen (λ (f : ℕ → List Text). Each (TrueText polls c) (f c)) (a == (w.node b).me) (w.node b).texts (put (w.node b).texts a ((w.node b).texts a ++ t ∷ [])) (λ e. h.texts b c) (λ e. kept c)

    apart : (x y m : ℕ) → m ≡ y → (x == m) ≡ false → y ≢ x
    apart x y m e far same = grind (arith, nat_tests)

    own_texts : (receives a t (w.node b)).texts b ≡ (w.node b).texts b
    own_texts = of (a == (w.node b).me) refl
      where
        of : (x : Bool) → (a == (w.node b).me) ≡ x → (if x then (w.node b).texts else put (w.node b).texts a ((w.node b).texts a ++ t ∷ [])) b ≡ (w.node b).texts b
        of true e = refl
        of false e = put_other (w.node b).texts a b ((w.node b).texts a ++ t ∷ []) (apart a b (w.node b).me me e)

pub polled_learns : (l : Ledger) (polls : Polls) (a b : ℕ) (w : World) → Polled w l polls → Polled (learns a b w) l polls
polled_learns l polls a b w h = hears_at l polls w (learns a b w) b (w.node b).texts (is_told a (w.node b)).lost refl (λ q. refl) refl
    (λ q c. chosen (λ (m : Node). Each (TrueText polls c) (m.texts c)) (q == b) (is_told a (w.node b)) (w.node q) (λ e. h.texts b c) (λ e. h.texts q c))
    (λ c q. chosen (Each (TrueText polls c)) ((c == a) && (q == b)) [] (w.link c q) (λ e. tt) (λ e. h.links c q)) h

-- ---- a loss

abbrev pub killed_in : ℕ → Polls → Polls
killed_in p polls e k = kills p (polls e k)

module _ (s : Setup) (l m : Ledger) (polls : Polls) (p : ℕ) (w : World) (is : Polled w l polls) (g : Grows l m) (chapters : m.chapters ≡ l.chapters) (joined : m.joined ≡ l.joined) (entered : m.entered ≡ l.entered) (returns : m.returns ≡ l.returns) where
  field_same : {X : Type 0} (f : Member → X) → ((x : Member) → f (record x { living = false }) ≡ f x) → (z : ballot.World) (q : ℕ) → f ((kills p z).member q) ≡ f (z.member q)
  field_same f same z q = elim (cases_eq q p) [
    | inl at ↦ subst (λ o. f ((kills p z).member o) ≡ f (z.member o)) (sym at) (ap f (put_same z.member p (record (z.member p) { living = false })) ∙ same (z.member p))
    | inr ne ↦ ap f (put_other z.member p q (record (z.member p) { living = false }) ne)
  ]

  grows_killed : PollsGrow polls (killed_in p polls)
  grows_killed = record {
    vote = λ e k q x at. field_same (λ y. (y.heard q).vote) (λ y. refl) (polls e k) q ∙ at;
    estimate = λ e k q x at. field_same (λ y. (y.heard q).estimate) (λ y. refl) (polls e k) q ∙ at;
  }

  pub polled_loses : Polled (loses s p w) m (killed_in p polls)
  polled_loses = record {
    sound = λ e k begun.
        subst (λ (f : ℕ → Option Chapter). Sound (length (nodes.procs_of (ledger.comm_of (f e)))) (seat_at (nodes.procs_of (ledger.comm_of (f e)))) (kills p (polls e k))) (sym chapters)
        (sound_kill (length (nodes.procs_of (ledger.comm_in l e))) (seat_at (nodes.procs_of (ledger.comm_in l e))) p (polls e k) (is.sound e k (sym (ap (λ (f : ℕ → Option Chapter). is_some (f e)) chapters) ∙ begun)));
    blank = λ e k none. blank_kill p (polls e k) (is.blank e k (sym (ap (λ (f : ℕ → Option Chapter). f e) chapters) ∙ none));
    living = λ e k q. elim (cases_eq q p) [
      | inl at ↦ subst (λ o. ((kills p (polls e k)).member o).living ≡ not (put w.killed p true o)) (sym at)
          (ap (λ (x : Member). x.living) (put_same (polls e k).member p (record ((polls e k).member p) { living = false })) ∙ ap not (sym (put_same w.killed p true)))
      | inr ne ↦ ap (λ (x : Member). x.living) (put_other (polls e k).member p q (record ((polls e k).member p) { living = false }) ne) ∙ is.living e k q ∙ ap not (sym (put_other w.killed p q true ne))
    ];
    gone = λ e k q. field_same (λ y. y.gone) (λ y. refl) (polls e k) q ∙ is.gone e k q ∙ ap (λ (f : ℕ → ℕ → Option _). is_some (f (suc e) q)) (sym joined);
    outside = λ e k q none. field_same (λ y. y.phase) (λ y. refl) (polls e k) q ∙ is.outside e k q (sym (ap (λ (f : ℕ → ℕ → ℕ → Option _). f e k q) entered) ∙ none);
    votes = λ e k q x at. flag_grows l m g e k q x (is.votes e k q x (sym (field_same (λ y. (y.heard q).vote) (λ y. refl) (polls e k) q) ∙ at));
    told = λ e k it rest at. told_grows l m polls (killed_in p polls) g (λ a b q slots x. field_same (λ y. y.phase) (λ y. refl) (polls a b) q ∙ x) e k it (is.told e k it rest (sym (ap (λ (f : ℕ → ℕ → List Item). f e k) returns) ∙ at));
    nodes = λ q alive.
        let n = slain_not p q w.killed alive in
        subst (NodePolls (killed_in p polls) q) (sym (put_other w.node p q (first_node s p) n.0))
        (node_same polls (killed_in p polls) q (w.node q) (λ e k. put_other (polls e k).member p q (record ((polls e k).member p) { living = false }) n.0) (is.nodes q n.1));
    texts = λ q c. chosen (λ (x : Node). Each (TrueText (killed_in p polls) c) (x.texts c)) (q == p) (first_node s p) (w.node q) (λ e. tt) (λ e. texts_grow polls (killed_in p polls) grows_killed c ((w.node q).texts c) (is.texts q c));
    links = λ a b. chosen (Each (TrueText (killed_in p polls) a)) (b == p) [] (w.link a b) (λ e. tt) (λ e. texts_grow polls (killed_in p polls) grows_killed a (w.link a b) (is.links a b));
  }

-- ---- the start

abbrev pub none_polled : Polls
none_polled e k = start

pub polled_first : (job : Job) (s : Setup) → Polled (first_world s) (first_ledger job) none_polled
polled_first job s = record {
  sound = λ e k begun. sound_blank _ _ start blank_start;
  blank = λ e k none. blank_start;
  living = λ e k q. refl;
  gone = λ e k q. refl;
  outside = λ e k q none. refl;
  votes = λ e k q x at. absurd (let bad : None ≡ Some x = at in cc);
  told = λ e k it rest at. absurd (let bad : [] ≡ it ∷ rest = at in cc);
  nodes = λ q alive. record { balloting = λ phase at. absurd (let bad : false ≡ true = ap polled.is_balloting at in cc); free = λ k out. refl };
  texts = λ b a. tt;
  links = λ a b. tt;
}
