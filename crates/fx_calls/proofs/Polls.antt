-- The ballot of a call as what its members said and where they stand, whatever is still under way.
use Rattle.std.proofs.Common.{◌≡◌, ◌≢◌, ℕ, ◌<◌, true, false, ◌&&◌, List, [], Some, inl, inr, refl, ap, sym, subst, ◌∙◌}
use Rattle.std.specs.Prelude.{not, IsSome}
use Rattle.std.proofs.lemmas.Bool.{cases_eq}
use Rattle.fx_ballot.specs.declared.heard.Heard.{Heard}
use Rattle.fx_ballot.specs.declared.poll.Poll.{Poll}
use Rattle.fx_ballot.specs.declared.poll.Poll.TheVariants as poll
use Rattle.fx_ballot.specs.Laws.{vote_of, estimate_of, held, past, IsTrueSlot}
use Rattle.fx_ballot.specs.Turn.{Phase, Turn, turn}
use Rattle.fx_ballot.specs.World.{Member, put, stays, Apart, own_after, among, told_all, sent_by}
use Rattle.fx_ballot.specs.World as ballot
use Rattle.fx_ballot.proofs.Face.{Sound, sound_act}
use Rattle.fx_ballot.proofs.Lists.{Each}
use Rattle.fx_ballot.proofs.Messages.{Said}
use Rattle.fx_link.specs.declared.slot.Slot.{Slot}
use Rattle.fx_losses.proofs.Texts.{put_same, put_other}
use Rattle.fx_losses.proofs.Turns.{turned, turned_member}

-- ---- the same columns

-- where members stand and what they said is the same
pub record SameColumns (z y : ballot.World) : Type 0 where
  pub phase : (q : ℕ) → (y.member q).phase ≡ (z.member q).phase
  pub living : (q : ℕ) → (y.member q).living ≡ (z.member q).living
  pub gone : (q : ℕ) → (y.member q).gone ≡ (z.member q).gone
  pub vote : (q : ℕ) → vote_of y q ≡ vote_of z q
  pub estimate : (q : ℕ) → estimate_of y q ≡ estimate_of z q

-- what members know is what was said, and of losses and leavings
pub record KnowsTrue (y z : ballot.World) : Type 0 where
  pub votes : (p c : ℕ) (s : Slot) → ((y.member p).heard c).vote ≡ Some s → vote_of z c ≡ Some s
  pub estimates : (p c : ℕ) (s : List Slot) → ((y.member p).heard c).estimate ≡ Some s → estimate_of z c ≡ Some s
  pub lost : (p c : ℕ) → ((y.member p).heard c).lost ≡ true → (z.member c).living ≡ false
  pub left : (p c : ℕ) → ((y.member p).heard c).left ≡ true → (z.member c).gone ≡ true

module _ (n : ℕ) (name : ℕ → ℕ) (z y : ballot.World) (same : SameColumns z y) where
  stays_same : (q : ℕ) → stays (y.member q) ≡ stays (z.member q)
  stays_same q = λ i. same.living q i && not (same.gone q i)

  true_slot : (q : ℕ) (x : Slot) → IsTrueSlot z q x → IsTrueSlot y q x
  true_slot q x (inl v) = inl (same.vote q ∙ v)
  true_slot q x (inr (inl v)) = inr (inl (v.0, same.living q ∙ v.1))
  true_slot q x (inr (inr v)) = inr (inr (v.0, same.gone q ∙ v.1, same.phase q ∙ v.2))

  -- so the laws of ballots hold of both
  pub sound_as : KnowsTrue y z → ((a b : ℕ) → y.link a b ≡ []) → Sound n name z → Sound n name y
  sound_as knows none h = record {
    messages = record {
      knows = record {
        votes = λ p c x e. same.vote c ∙ knows.votes p c x e;
        estimates = λ p c x e. same.estimate c ∙ knows.estimates p c x e;
        lost = λ p c e. same.living c ∙ knows.lost p c e;
        left = λ p c e. same.gone c ∙ knows.left p c e;
        outside = λ c e. same.vote c ∙ h.messages.knows.outside c (sym (same.phase c) ∙ e);
        entered = λ c e. same.phase c ∙ h.messages.knows.entered c (sym (same.vote c) ∙ e);
      };
      links = λ a b. subst (Each (Said n name y a)) (sym (none a b)) tt;
    };
    rounds = record {
      spoke = λ c x low e.
          let r = h.rounds.spoke c x low (sym (same.estimate (name c)) ∙ e) in
          (ap (past c) (same.phase (name c)) ∙ r.0, ap held (same.phase (name c)) ∙ r.1);
      agree = λ b p low here e.
          let r = h.rounds.agree b p low (sym (stays_same (name b)) ∙ here) (ap (past b) (sym (same.phase p)) ∙ e) in
          (ap (past b) (same.phase (name b)) ∙ r.0, ap held (same.phase p) ∙ r.1 ∙ ap held (sym (same.phase (name b))));
      one = λ p q f g a b. h.rounds.one p q f g (sym (same.phase p) ∙ a) (sym (same.phase q) ∙ b);
    };
    genuine = record {
      lists = λ p slots e.
          let r = h.genuine.lists p slots (ap held (sym (same.phase p)) ∙ e) in
          record { size = r.size; each = λ k x at. true_slot (name k) x (r.each k x at) };
      parted = λ p e. ap ballot.may_leave (same.phase p) ∙ h.genuine.parted p (sym (same.gone p) ∙ e);
    };
    spoken = record { said = λ c low e. subst IsSome (sym (same.estimate (name c))) (h.spoken.said c low (ap (past c) (sym (same.phase (name c))) ∙ e)) };
  }

-- ---- one member comes to know what it reads

-- process p knows this of others
abbrev pub knowing : ℕ → (ℕ → Heard) → ballot.World → ballot.World
knowing p seen z = record { member = put z.member p (record (z.member p) { heard = put seen p ((z.member p).heard p) }); link = λ a b. [] }

pub record ReadsTrue (z : ballot.World) (p : ℕ) (seen : ℕ → Heard) : Type 0 where
  pub votes : (c : ℕ) (s : Slot) → (seen c).vote ≡ Some s → vote_of z c ≡ Some s
  pub estimates : (c : ℕ) (s : List Slot) → (seen c).estimate ≡ Some s → estimate_of z c ≡ Some s
  pub lost : (c : ℕ) → (seen c).lost ≡ true → (z.member c).living ≡ false
  pub left : (c : ℕ) → (seen c).left ≡ true → (z.member c).gone ≡ true

module _ (p : ℕ) (seen : ℕ → Heard) (z : ballot.World) where
  abbrev y : ballot.World
  y = knowing p seen z

  of_member : {X : Type 0} (f : Member → X) → f (record (z.member p) { heard = put seen p ((z.member p).heard p) }) ≡ f (z.member p) → (q : ℕ) → f (y.member q) ≡ f (z.member q)
  of_member f same q = elim (cases_eq q p) [
    | inl at ↦ subst (λ o. f (y.member o) ≡ f (z.member o)) (sym at) (ap f (put_same z.member p (record (z.member p) { heard = put seen p ((z.member p).heard p) })) ∙ same)
    | inr ne ↦ ap f (put_other z.member p q (record (z.member p) { heard = put seen p ((z.member p).heard p) }) ne)
  ]

  pub known_own : ((knowing p seen z).member p).heard p ≡ (z.member p).heard p
  known_own = ap (λ (m : Member). m.heard p) (put_same z.member p (record (z.member p) { heard = put seen p ((z.member p).heard p) })) ∙ put_same seen p ((z.member p).heard p)

  pub known_other : (c : ℕ) → c ≢ p → ((knowing p seen z).member p).heard c ≡ seen c
  known_other c ne = ap (λ (m : Member). m.heard c) (put_same z.member p (record (z.member p) { heard = put seen p ((z.member p).heard p) })) ∙ put_other seen p c ((z.member p).heard p) ne

  own_heard : (q : ℕ) → (y.member q).heard q ≡ (z.member q).heard q
  own_heard q = elim (cases_eq q p) [
    | inl at ↦ subst (λ o. (y.member o).heard o ≡ (z.member o).heard o) (sym at) known_own
    | inr ne ↦ ap (λ (m : Member). m.heard q) (put_other z.member p q (record (z.member p) { heard = put seen p ((z.member p).heard p) }) ne)
  ]

  pub knowing_same : SameColumns z (knowing p seen z)
  knowing_same = record {
    phase = of_member (λ m. m.phase) refl;
    living = of_member (λ m. m.living) refl;
    gone = of_member (λ m. m.gone) refl;
    vote = λ q. ap (λ (x : Heard). x.vote) (own_heard q);
    estimate = λ q. ap (λ (x : Heard). x.estimate) (own_heard q);
  }

  -- what a property says of all that is known is said of what was known before, and of what is read
  known : (P : Heard → ℕ → Type 0) → ((q c : ℕ) → P ((z.member q).heard c) c) → ((c : ℕ) → P (seen c) c) → (q c : ℕ) → P ((y.member q).heard c) c
  known P before now q c = elim (cases_eq q p) [
    | inl at ↦ elim (cases_eq c p) [
      | inl own ↦ subst (λ o. P ((y.member o).heard c) c) (sym at) (subst (λ o. P ((y.member p).heard o) o) (sym own) (subst (λ (x : Heard). P x p) (sym known_own) (before p p)))
      | inr other ↦ subst (λ o. P ((y.member o).heard c) c) (sym at) (subst (λ (x : Heard). P x c) (sym (known_other c other)) (now c))
    ]
    | inr ne ↦ subst (λ (m : Member). P (m.heard c) c) (sym (put_other z.member p q (record (z.member p) { heard = put seen p ((z.member p).heard p) }) ne)) (before q c)
  ]

  pub sound_knowing : (n : ℕ) (name : ℕ → ℕ) → ReadsTrue z p seen → Sound n name z → Sound n name (knowing p seen z)
  sound_knowing n name t h = sound_as n name z y knowing_same
      (record {
        votes = λ q c s. known (λ x o. x.vote ≡ Some s → vote_of z o ≡ Some s) (λ a b. h.messages.knows.votes a b s) (λ b. t.votes b s) q c;
        estimates = λ q c s. known (λ x o. x.estimate ≡ Some s → estimate_of z o ≡ Some s) (λ a b. h.messages.knows.estimates a b s) (λ b. t.estimates b s) q c;
        lost = λ q c. known (λ x o. x.lost ≡ true → (z.member o).living ≡ false) h.messages.knows.lost t.lost q c;
        left = λ q c. known (λ x o. x.left ≡ true → (z.member o).gone ≡ true) h.messages.knows.left t.left q c;
      }) (λ a b. refl) h

-- ---- a turn

own_vote : (answer : Poll) (h : Heard) → (own_after answer h).vote ≡ h.vote
own_vote poll.NotYet h = refl
own_vote poll.Moved h = refl
own_vote (poll.SendEstimate slots) h = refl
own_vote (poll.Decided slots) h = refl

-- the ballot behind a turn of process p, which has seat i and reads this
abbrev pub behind_turn : ℕ → (ℕ → ℕ) → ℕ → ℕ → (ℕ → Heard) → ballot.World → Turn → ballot.World
behind_turn n name p i seen z t = turned n name p i (knowing p seen z) t

pub turn_sound : (n : ℕ) (name : ℕ → ℕ) (p i : ℕ) (seen : ℕ → Heard) (z : ballot.World) (phase : Phase) → name i ≡ p → Apart n name → i < n → stays (z.member p) ≡ true → (z.member p).phase ≡ phase
    → ((k : ℕ) → ((knowing p seen z).member p).heard (name k) ≡ seen (name k)) → ReadsTrue z p seen → Sound n name z → Sound n name (behind_turn n name p i seen z (turn n i (λ k. seen (name k)) phase))
turn_sound n name p i seen z phase at apart low here stands reads t h =
    subst (λ (x : Turn). Sound n name (turned n name p i y x)) same
    (subst (λ o. Sound n name (turned n name o i y (turn n i (λ k. (y.member o).heard (name k)) (y.member o).phase))) at
    (sound_act n name i y apart low (subst (λ o. stays (y.member o) ≡ true) (sym at) (stays_same n name z y (knowing_same p seen z) p ∙ here)) (sound_knowing p seen z n name t h)))
  where
    y : ballot.World
    y = knowing p seen z

    same : turn n i (λ k. ((knowing p seen z).member p).heard (name k)) ((knowing p seen z).member p).phase ≡ turn n i (λ k. seen (name k)) phase
    same = λ j. turn n i (λ k. reads k j) (((knowing_same p seen z).phase p ∙ stands) j)

-- what the turn leaves of the columns
module _ (n : ℕ) (name : ℕ → ℕ) (p i : ℕ) (seen : ℕ → Heard) (z : ballot.World) (t : Turn) where
  abbrev after : ballot.World
  after = behind_turn n name p i seen z t

  abbrev member_now : Member
  member_now = turned_member p ((knowing p seen z).member p) t.phase t.poll

  pub turn_phase : ((behind_turn n name p i seen z t).member p).phase ≡ t.phase
  turn_phase = ap (λ (m : Member). m.phase) (put_same (knowing p seen z).member p member_now)

  pub turn_other : (q : ℕ) → q ≢ p → (behind_turn n name p i seen z t).member q ≡ z.member q
  turn_other q ne = put_other (knowing p seen z).member p q member_now ne ∙ put_other z.member p q (record (z.member p) { heard = put seen p ((z.member p).heard p) }) ne

  each_member : {X : Type 0} (f : Member → X) → f member_now ≡ f ((knowing p seen z).member p) → f ((knowing p seen z).member p) ≡ f (z.member p) → (q : ℕ) → f (after.member q) ≡ f (z.member q)
  each_member f one two q = elim (cases_eq q p) [
    | inl at ↦ subst (λ o. f (after.member o) ≡ f (z.member o)) (sym at) (ap f (put_same (knowing p seen z).member p member_now) ∙ one ∙ two)
    | inr ne ↦ ap f (turn_other q ne)
  ]

  pub turn_living : (q : ℕ) → ((behind_turn n name p i seen z t).member q).living ≡ (z.member q).living
  turn_living = each_member (λ m. m.living) refl ((knowing_same p seen z).living p)

  pub turn_gone : (q : ℕ) → ((behind_turn n name p i seen z t).member q).gone ≡ (z.member q).gone
  turn_gone = each_member (λ m. m.gone) refl ((knowing_same p seen z).gone p)

  own_now : (after.member p).heard p ≡ own_after t.poll ((z.member p).heard p)
  own_now =
      ap (λ (m : Member). m.heard p) (put_same (knowing p seen z).member p member_now)
      ∙ put_same ((knowing p seen z).member p).heard p (own_after t.poll (((knowing p seen z).member p).heard p)) ∙ ap (own_after t.poll) (known_own p seen z)

  pub turn_vote : (q : ℕ) → vote_of (behind_turn n name p i seen z t) q ≡ vote_of z q
  turn_vote q = elim (cases_eq q p) [
    | inl at ↦ subst (λ o. vote_of after o ≡ vote_of z o) (sym at) (ap (λ (x : Heard). x.vote) own_now ∙ own_vote t.poll ((z.member p).heard p))
    | inr ne ↦ ap (λ (m : Member). (m.heard q).vote) (turn_other q ne)
  ]

  pub turn_estimate : estimate_of (behind_turn n name p i seen z t) p ≡ (own_after t.poll ((z.member p).heard p)).estimate
  turn_estimate = ap (λ (x : Heard). x.estimate) own_now
