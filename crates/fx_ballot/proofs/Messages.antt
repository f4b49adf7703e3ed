-- What is under way or was heard is what its sender said.
use Rattle.std.proofs.Common.{◌≡◌, ℕ, ◌<◌, ◌==◌, Bool, true, false, not, ◌&&◌, List, [], ◌∷◌, ◌++◌, Option, Some, None, arith, refl, subst, sym, ◌∙◌, ap}
use Rattle.std.proofs.lemmas.Bool.Decides.{nat_tests}
use Rattle.std.proofs.lemmas.Bool.{cond_both}
use Rattle.fx_link.specs.declared.slot.Slot.{Slot}
use Rattle.fx_ballot.specs.Turn.{Phase, Outside, Message, Vote, Estimate, Leaving, earliest}
use Rattle.fx_ballot.specs.World.{World, put_link, told_all, enters, hears, leaves, kills, tells}
use Rattle.fx_ballot.specs.Laws.{vote_of, estimate_of}
use Rattle.fx_ballot.proofs.Lists.{Each, each_append, each_weaken}
use Rattle.fx_ballot.proofs.Grows.{Grows, grows_kill, grows_tell, grows_leave, grows_enter, grows_go, grows_say, grows_hear, goes, says, heard_by}

-- process a said the message
abbrev pub Said : ℕ → (ℕ → ℕ) → World → ℕ → Message → Type 0
Said n name w a (Vote slot) = vote_of w a ≡ Some slot
Said n name w a (Estimate r slots) = (estimate_of w a ≡ Some slots) × (r < n) × (name r ≡ a)
Said n name w a Leaving = (w.member a).gone ≡ true

pub said_grows : (n : ℕ) (name : ℕ → ℕ) (w v : World) (a : ℕ) → Grows w v → (x : Message) → Said n name w a x → Said n name v a x
said_grows n name w v a g (Vote slot) h = g.vote a slot h
said_grows n name w v a g (Estimate r slots) h = (g.estimate a slots h.0, h.1, h.2)
said_grows n name w v a g Leaving h = g.gone a h

-- each link has what its sender said
abbrev pub Links : ℕ → (ℕ → ℕ) → World → (ℕ → ℕ → List Message) → Type 0
Links n name w link = (a b : ℕ) → Each (Said n name w a) (link a b)

pub links_grow : (n : ℕ) (name : ℕ → ℕ) (w v : World) (link : ℕ → ℕ → List Message) → Grows w v → Links n name w link → Links n name v link
links_grow n name w v link g h a b = each_weaken (Said n name w a) (Said n name v a) (said_grows n name w v a g) (link a b) (h a b)

same_process : (a p : ℕ) (t : Bool) → ((a == p) && t) ≡ true → p ≡ a
same_process a p t e = grind (arith, nat_tests)

same_link : (a b c d : ℕ) → ((c == a) && (d == b)) ≡ true → (a ≡ c) × (b ≡ d)
same_link a b c d e = grind (arith, nat_tests)

pub links_told : (n : ℕ) (name : ℕ → ℕ) (w : World) (link : ℕ → ℕ → List Message) (to : ℕ → Bool) (p : ℕ) (sent : List Message)
    → Links n name w link → Each (Said n name w p) sent → Links n name w (told_all to link p sent)
links_told n name w link to p sent h s a b =
    cond_both {A = List Message} ((a == p) && (to b && not (b == p))) (link a b ++ sent) (link a b) (Each (Said n name w a))
    (λ e. each_append (Said n name w a) (link a b) sent (h a b) (subst (λ (z : ℕ). Each (Said n name w z) sent) (same_process a p (to b && not (b == p)) e) s))
    (λ e. h a b)

pub links_put : (n : ℕ) (name : ℕ → ℕ) (w : World) (link : ℕ → ℕ → List Message) (a b : ℕ) (rest : List Message)
    → Links n name w link → Each (Said n name w a) rest → Links n name w (put_link link a b rest)
links_put n name w link a b rest h s c d =
    cond_both {A = List Message} ((c == a) && (d == b)) rest (link c d) (Each (Said n name w c))
    (λ e. subst (λ (z : ℕ). Each (Said n name w z) rest) (same_link a b c d e).0 s)
    (λ e. h c d)

-- what is heard is what the other said, and what is told is true
pub record Knows (w : World) : Type 0 where
  pub votes : (p c : ℕ) (s : Slot) → ((w.member p).heard c).vote ≡ Some s → vote_of w c ≡ Some s
  pub estimates : (p c : ℕ) (s : List Slot) → ((w.member p).heard c).estimate ≡ Some s → estimate_of w c ≡ Some s
  pub lost : (p c : ℕ) → ((w.member p).heard c).lost ≡ true → (w.member c).living ≡ false
  pub left : (p c : ℕ) → ((w.member p).heard c).left ≡ true → (w.member c).gone ≡ true
  pub outside : (c : ℕ) → (w.member c).phase ≡ Outside → vote_of w c ≡ None
  pub entered : (c : ℕ) → vote_of w c ≡ None → (w.member c).phase ≡ Outside

pub record Messages (n : ℕ) (name : ℕ → ℕ) (w : World) : Type 0 where
  pub knows : Knows w
  pub links : Links n name w w.link

pub knows_kill : (p : ℕ) (w : World) → Knows w → Knows (kills p w)
knows_kill p w h = record {
  votes = λ o c s e. grind (arith, nat_tests, h.votes o c s);
  estimates = λ o c s e. grind (arith, nat_tests, h.estimates o c s);
  lost = λ o c e. grind (arith, nat_tests, h.lost o c);
  left = λ o c e. grind (arith, nat_tests, h.left o c);
  outside = λ c e. grind (arith, nat_tests, h.outside c);
  entered = λ c e. grind (arith, nat_tests, h.entered c);
}

pub knows_tell : (p q : ℕ) (w : World) → (w.member p).living ≡ false → Knows w → Knows (tells p q w)
knows_tell p q w dead h = record {
  votes = λ o c s e. grind (arith, nat_tests, h.votes o c s);
  estimates = λ o c s e. grind (arith, nat_tests, h.estimates o c s);
  lost = λ o c e. grind (arith, nat_tests, h.lost o c);
  left = λ o c e. grind (arith, nat_tests, h.left o c);
  outside = λ c e. grind (arith, nat_tests, h.outside c);
  entered = λ c e. grind (arith, nat_tests, h.entered c);
}

pub knows_leave : (to : ℕ → Bool) (p : ℕ) (w : World) → Knows w → Knows (leaves to p w)
knows_leave to p w h = record {
  votes = λ q c s e. grind (arith, nat_tests, h.votes q c s);
  estimates = λ q c s e. grind (arith, nat_tests, h.estimates q c s);
  lost = λ q c e. grind (arith, nat_tests, h.lost q c);
  left = λ q c e. grind (arith, nat_tests, h.left q c);
  outside = λ c e. grind (arith, nat_tests, h.outside c);
  entered = λ c e. grind (arith, nat_tests, h.entered c);
}

pub knows_enter : (to : ℕ → Bool) (p : ℕ) (vote : Slot) (w : World) → (w.member p).phase ≡ Outside → Knows w → Knows (enters to p vote w)
knows_enter to p vote w out h = record {
  votes = λ q c s e. grind (arith, nat_tests, h.votes q c s, h.votes q p s, h.outside p out);
  estimates = λ q c s e. grind (arith, nat_tests, h.estimates q c s);
  lost = λ q c e. grind (arith, nat_tests, h.lost q c);
  left = λ q c e. grind (arith, nat_tests, h.left q c);
  outside = λ c e. grind (arith, nat_tests, h.outside c);
  entered = λ c e. grind (arith, nat_tests, h.entered c);
}

vote_keeps_estimates : (link : ℕ → ℕ → List Message) (a b q c : ℕ) (s : Slot) (w : World)
    → (((heard_by link a b (Vote s) w).member q).heard c).estimate ≡ ((w.member q).heard c).estimate
vote_keeps_estimates link a b q c s w = grind (arith, nat_tests)

vote_keeps_own : (link : ℕ → ℕ → List Message) (a b c : ℕ) (s : Slot) (w : World) → vote_of w a ≡ Some s → vote_of (heard_by link a b (Vote s) w) c ≡ vote_of w c
vote_keeps_own link a b c s w said = grind (arith, nat_tests)

earliest_is_own : (x own : Option Slot) (s t : Slot) → own ≡ Some s → (x ≡ Some t → own ≡ Some t) → earliest x s ≡ Some t → own ≡ Some t
earliest_is_own None own s t said h e = said ∙ e
earliest_is_own (Some y) own s t said h e = h e

vote_heard : (link : ℕ → ℕ → List Message) (a b q c : ℕ) (s t : Slot) (w : World) → vote_of w a ≡ Some s
    → (((w.member q).heard c).vote ≡ Some t → vote_of w c ≡ Some t) → (((w.member b).heard a).vote ≡ Some t → vote_of w a ≡ Some t)
    → (((heard_by link a b (Vote s) w).member q).heard c).vote ≡ Some t → vote_of w c ≡ Some t
vote_heard link a b q c s t w said h g e = grind (arith, nat_tests, earliest_is_own ((w.member b).heard a).vote (vote_of w a) s t said g)

pub knows_hear_vote : (link : ℕ → ℕ → List Message) (a b : ℕ) (s : Slot) (w : World) → vote_of w a ≡ Some s → Knows w → Knows (heard_by link a b (Vote s) w)
knows_hear_vote link a b s w said h = record {
  votes = λ q c t e. vote_keeps_own link a b c s w said ∙ vote_heard link a b q c s t w said (h.votes q c t) (h.votes b a t) e;
  estimates = λ q c t e. vote_keeps_estimates link a b c c s w ∙ h.estimates q c t (sym (vote_keeps_estimates link a b q c s w) ∙ e);
  lost = λ q c e. grind (arith, nat_tests, h.lost q c);
  left = λ q c e. grind (arith, nat_tests, h.left q c);
  outside = λ c e. grind (arith, nat_tests, h.outside c);
  entered = λ c e. grind (arith, nat_tests, h.entered c);
}

pub knows_hear_estimate : (link : ℕ → ℕ → List Message) (a b r : ℕ) (s : List Slot) (w : World) → estimate_of w a ≡ Some s → Knows w → Knows (heard_by link a b (Estimate r s) w)
knows_hear_estimate link a b r s w said h = record {
  votes = λ q c t e. grind (arith, nat_tests, h.votes q c t);
  estimates = λ q c t e. grind (arith, nat_tests, h.estimates q c t, h.estimates b a t);
  lost = λ q c e. grind (arith, nat_tests, h.lost q c);
  left = λ q c e. grind (arith, nat_tests, h.left q c);
  outside = λ c e. grind (arith, nat_tests, h.outside c);
  entered = λ c e. grind (arith, nat_tests, h.entered c);
}

pub knows_hear_leaving : (link : ℕ → ℕ → List Message) (a b : ℕ) (w : World) → (w.member a).gone ≡ true → Knows w → Knows (heard_by link a b Leaving w)
knows_hear_leaving link a b w said h = record {
  votes = λ q c s e. grind (arith, nat_tests, h.votes q c s);
  estimates = λ q c s e. grind (arith, nat_tests, h.estimates q c s);
  lost = λ q c e. grind (arith, nat_tests, h.lost q c);
  left = λ q c e. grind (arith, nat_tests, h.left q c);
  outside = λ c e. grind (arith, nat_tests, h.outside c);
  entered = λ c e. grind (arith, nat_tests, h.entered c);
}

pub knows_hear : (link : ℕ → ℕ → List Message) (n : ℕ) (name : ℕ → ℕ) (a b : ℕ) (x : Message) (w : World)
    → Said n name w a x → Knows w → Knows (heard_by link a b x w)
knows_hear link n name a b (Vote s) w said h = knows_hear_vote link a b s w said h
knows_hear link n name a b (Estimate r s) w said h = knows_hear_estimate link a b r s w said.0 h
knows_hear link n name a b Leaving w said h = knows_hear_leaving link a b w said h

pub said_vote : (n : ℕ) (name : ℕ → ℕ) (w : World) (a : ℕ) (x : Message) → Said n name w a x → (s : Slot) → x ≡ Vote s → vote_of w a ≡ Some s
said_vote n name w a (Vote t) said s e = let same : t ≡ s = cc in said ∙ ap (λ (z : Slot). Some z) same
said_vote n name w a (Estimate r t) said s e = absurd (cc)
said_vote n name w a Leaving said s e = absurd (cc)

pub knows_go : (link : ℕ → ℕ → List Message) (p : ℕ) (phase : Phase) (w : World)
    → (phase ≡ Outside → (w.member p).phase ≡ Outside) → ((w.member p).phase ≡ Outside → phase ≡ Outside) → Knows w → Knows (goes link p phase w)
knows_go link p phase w out still h = record {
  votes = λ q c s e. grind (arith, nat_tests, h.votes q c s);
  estimates = λ q c s e. grind (arith, nat_tests, h.estimates q c s);
  lost = λ q c e. grind (arith, nat_tests, h.lost q c);
  left = λ q c e. grind (arith, nat_tests, h.left q c);
  outside = λ c e. grind (arith, nat_tests, h.outside c, out);
  entered = λ c e. grind (arith, nat_tests, h.entered c, h.entered p, still);
}

pub knows_say : (link : ℕ → ℕ → List Message) (p : ℕ) (phase : Phase) (slots : List Slot) (w : World)
    → (phase ≡ Outside → ⊥) → ((w.member p).phase ≡ Outside → ⊥) → ((s : List Slot) → estimate_of w p ≡ Some s → ⊥) → Knows w
    → Knows (says link p phase slots w)
knows_say link p phase slots w out still none h = record {
  votes = λ q c s e. grind (arith, nat_tests, h.votes q c s);
  estimates = λ q c s e. grind (arith, nat_tests, h.estimates q c s, none s);
  lost = λ q c e. grind (arith, nat_tests, h.lost q c);
  left = λ q c e. grind (arith, nat_tests, h.left q c);
  outside = λ c e. grind (arith, nat_tests, h.outside c, out);
  entered = λ c e. grind (arith, nat_tests, h.entered c, h.entered p, still);
}

pub messages_kill : (n : ℕ) (name : ℕ → ℕ) (p : ℕ) (w : World) → Messages n name w → Messages n name (kills p w)
messages_kill n name p w h = record { knows = knows_kill p w h.knows; links = links_grow n name w (kills p w) w.link (grows_kill p w) h.links }

pub messages_tell : (n : ℕ) (name : ℕ → ℕ) (p q : ℕ) (w : World) → (w.member p).living ≡ false → Messages n name w → Messages n name (tells p q w)
messages_tell n name p q w dead h = record {
  knows = knows_tell p q w dead h.knows;
  links = links_put n name (tells p q w) w.link p q [] (links_grow n name w (tells p q w) w.link (grows_tell p q w) h.links) tt;
}

gone_now : (to : ℕ → Bool) (p : ℕ) (w : World) → ((leaves to p w).member p).gone ≡ true
gone_now to p w = grind (arith, nat_tests)

pub messages_leave : (n : ℕ) (name : ℕ → ℕ) (to : ℕ → Bool) (p : ℕ) (w : World) → Messages n name w → Messages n name (leaves to p w)
messages_leave n name to p w h = record {
  knows = knows_leave to p w h.knows;
  links =
      links_told n name (leaves to p w) w.link to p (Leaving ∷ []) (links_grow n name w (leaves to p w) w.link (grows_leave to p w) h.links)
      (gone_now to p w, tt);
}

voted_now : (to : ℕ → Bool) (p : ℕ) (vote : Slot) (w : World) → vote_of (enters to p vote w) p ≡ Some vote
voted_now to p vote w = grind (arith, nat_tests)

pub messages_enter : (n : ℕ) (name : ℕ → ℕ) (to : ℕ → Bool) (p : ℕ) (vote : Slot) (w : World)
    → (w.member p).phase ≡ Outside → (w.member p).gone ≡ false → Messages n name w → Messages n name (enters to p vote w)
messages_enter n name to p vote w out here h = record {
  knows = knows_enter to p vote w out h.knows;
  links =
      links_told n name (enters to p vote w) w.link to p (Vote vote ∷ [])
      (links_grow n name w (enters to p vote w) w.link (grows_enter to p vote w (h.knows.outside p out) here) h.links)
      (voted_now to p vote w, tt);
}

pub messages_hear : (n : ℕ) (name : ℕ → ℕ) (a b : ℕ) (x : Message) (rest : List Message) (w : World)
    → w.link a b ≡ x ∷ rest → Messages n name w → Messages n name (hears a b (x ∷ rest) w)
messages_hear n name a b x rest w front h =
    let both : Each (Said n name w a) (x ∷ rest) = subst (Each (Said n name w a)) front (h.links a b) in
    let v : World = hears a b (x ∷ rest) w in
    let g : Grows w v = grows_hear (put_link w.link a b rest) a b x w (said_vote n name w a x both.0) in
    record {
      knows = knows_hear (put_link w.link a b rest) n name a b x w both.0 h.knows;
      links =
          links_put n name v w.link a b rest (links_grow n name w v w.link g h.links)
          (each_weaken (Said n name w a) (Said n name v a) (said_grows n name w v a g) rest both.1);
    }

pub messages_go : (n : ℕ) (name : ℕ → ℕ) (to : ℕ → Bool) (p : ℕ) (phase : Phase) (w : World)
    → (w.member p).gone ≡ false → (phase ≡ Outside → (w.member p).phase ≡ Outside) → ((w.member p).phase ≡ Outside → phase ≡ Outside)
    → Messages n name w → Messages n name (goes (told_all to w.link p []) p phase w)
messages_go n name to p phase w here out still h =
    let v : World = goes (told_all to w.link p []) p phase w in
    record {
      knows = knows_go (told_all to w.link p []) p phase w out still h.knows;
      links = links_told n name v w.link to p [] (links_grow n name w v w.link (grows_go (told_all to w.link p []) p phase w here) h.links) tt;
    }

said_now : (link : ℕ → ℕ → List Message) (p : ℕ) (phase : Phase) (slots : List Slot) (w : World) → estimate_of (says link p phase slots w) p ≡ Some slots
said_now link p phase slots w = grind (arith, nat_tests)

pub messages_say : (n : ℕ) (name : ℕ → ℕ) (to : ℕ → Bool) (i : ℕ) (phase : Phase) (slots : List Slot) (w : World)
    → i < n → (w.member (name i)).gone ≡ false → (phase ≡ Outside → ⊥) → ((w.member (name i)).phase ≡ Outside → ⊥) → ((s : List Slot) → estimate_of w (name i) ≡ Some s → ⊥) → Messages n name w
    → Messages n name (says (told_all to w.link (name i) (Estimate i slots ∷ [])) (name i) phase slots w)
messages_say n name to i phase slots w low here out still none h =
    let link : ℕ → ℕ → List Message = told_all to w.link (name i) (Estimate i slots ∷ []) in
    let v : World = says link (name i) phase slots w in
    record {
      knows = knows_say link (name i) phase slots w out still none h.knows;
      links =
          links_told n name v w.link to (name i) (Estimate i slots ∷ [])
          (links_grow n name w v w.link (grows_say link (name i) phase slots w here none) h.links)
          ((said_now link (name i) phase slots w, low, refl), tt);
    }
