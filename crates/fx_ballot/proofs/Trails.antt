-- A leaving is the last that is heard of a member.
use Rattle.std.proofs.Common.{◌≡◌, ℕ, ◌≢◌, ◌==◌, Bool, true, false, not, ◌&&◌, List, [], ◌∷◌, ◌++◌, None, inl, inr, arith, refl, subst, sym, ◌∙◌, ap}
use Rattle.std.proofs.lemmas.Bool.Decides.{nat_tests}
use Rattle.std.proofs.lemmas.Bool.{cond_both, cases_eq}
use Rattle.fx_link.specs.declared.slot.Slot.{Slot}
use Rattle.fx_ballot.specs.declared.heard.Heard.{Heard}
use Rattle.fx_ballot.specs.Turn.{Phase, Message, Vote, Estimate, Leaving, hear}
use Rattle.fx_ballot.specs.World.{World, put_link, told_all, enters, hears, leaves, kills, tells}
use Rattle.fx_ballot.specs.Laws.{vote_of, estimate_of, HeardAll}
use Rattle.fx_ballot.proofs.Lists.{Each}
use Rattle.fx_ballot.proofs.Grows.{goes, says, heard_by}
use Rattle.fx_ballot.proofs.Messages.{Said, Messages}

-- what is known once all that is under way is heard
abbrev pub hear_all : List Message → Heard → Heard
hear_all [] h = h
hear_all (x ∷ xs) h = hear_all xs (hear x h)

hear_one_more : (xs : List Message) (y : Message) (h : Heard) → hear_all (xs ++ y ∷ []) h ≡ hear y (hear_all xs h)
hear_one_more [] y h = refl
hear_one_more (x ∷ xs) y h = hear_one_more xs y (hear x h)

no_more : (xs : List Message) → xs ++ [] ≡ xs
no_more [] = refl
no_more (x ∷ xs) = ap (λ (ys : List Message). x ∷ ys) (no_more xs)

-- a leaving in the list is its last message
abbrev pub LeavingLast : List Message → Type 0
LeavingLast [] = Unit {0}
LeavingLast (Vote slot ∷ xs) = LeavingLast xs
LeavingLast (Estimate r slots ∷ xs) = LeavingLast xs
LeavingLast (Leaving ∷ xs) = xs ≡ []

last_appended : (n : ℕ) (name : ℕ → ℕ) (w : World) (a : ℕ) (xs : List Message) (y : Message)
    → (w.member a).gone ≡ false → Each (Said n name w a) xs → LeavingLast (xs ++ y ∷ [])
last_appended n name w a [] (Vote s) here e = tt
last_appended n name w a [] (Estimate r s) here e = tt
last_appended n name w a [] Leaving here e = refl
last_appended n name w a (Vote s ∷ xs) y here e = last_appended n name w a xs y here e.1
last_appended n name w a (Estimate r s ∷ xs) y here e = last_appended n name w a xs y here e.1
last_appended n name w a (Leaving ∷ xs) y here e = let bad : true ≡ false = sym e.0 ∙ here in absurd (cc)

last_rest : (x : Message) (xs : List Message) → LeavingLast (x ∷ xs) → LeavingLast xs
last_rest (Vote s) xs h = h
last_rest (Estimate r s) xs h = h
last_rest Leaving xs h = subst LeavingLast (sym h) tt

-- p, which hears c and wasn't told of its loss, will know of c what c has of itself once it hears what is under way; and a
-- leaving of c is the last of it
pub record Trail (w : World) (p c : ℕ) : Type 0 where
  pub vote : (hear_all (w.link c p) ((w.member p).heard c)).vote ≡ vote_of w c
  pub estimate : (hear_all (w.link c p) ((w.member p).heard c)).estimate ≡ estimate_of w c
  pub left : (hear_all (w.link c p) ((w.member p).heard c)).left ≡ (w.member c).gone
  pub last : LeavingLast (w.link c p)
  pub seen : ((w.member p).heard c).left ≡ true → w.link c p ≡ []

pub record Caught (sees : ℕ → Bool) (w : World) : Type 0 where
  pub trail : (p c : ℕ) → sees p ≡ true → p ≢ c → ((w.member p).heard c).lost ≡ false → Trail w p c

-- what stays the same of one pair
record Alike (w v : World) (p c : ℕ) : Type 0 where
  pub lost : ((v.member p).heard c).lost ≡ false → ((w.member p).heard c).lost ≡ false
  pub vote : vote_of v c ≡ vote_of w c
  pub estimate : estimate_of v c ≡ estimate_of w c
  pub gone : (v.member c).gone ≡ (w.member c).gone

-- a pair whose link and knowledge stay
trail_same : (w v : World) (p c : ℕ) → Alike w v p c → (v.member p).heard c ≡ (w.member p).heard c → v.link c p ≡ w.link c p → Trail w p c → Trail v p c
trail_same w v p c a e l h = record {
  vote = ap (λ (x : Heard). x.vote) (joined w v p c e l) ∙ h.vote ∙ sym a.vote;
  estimate = ap (λ (x : Heard). x.estimate) (joined w v p c e l) ∙ h.estimate ∙ sym a.estimate;
  left = ap (λ (x : Heard). x.left) (joined w v p c e l) ∙ h.left ∙ sym a.gone;
  last = subst LeavingLast (sym l) h.last;
  seen = λ s. l ∙ h.seen (sym (ap (λ (x : Heard). x.left) e) ∙ s);
}
  where
    joined : (w v : World) (p c : ℕ) → (v.member p).heard c ≡ (w.member p).heard c → v.link c p ≡ w.link c p
        → hear_all (v.link c p) ((v.member p).heard c) ≡ hear_all (w.link c p) ((w.member p).heard c)
    joined w v p c e l = ap (λ (xs : List Message). hear_all xs ((v.member p).heard c)) l ∙ ap (λ (x : Heard). hear_all (w.link c p) x) e

alike_kill : (o : ℕ) (w : World) (p c : ℕ) → Alike w (kills o w) p c
alike_kill o w p c = record { lost = λ e. grind (arith, nat_tests); vote = grind (arith, nat_tests); estimate = grind (arith, nat_tests); gone = grind (arith, nat_tests) }

heard_kill : (o : ℕ) (w : World) (p c : ℕ) → ((kills o w).member p).heard c ≡ (w.member p).heard c
heard_kill o w p c = grind (arith, nat_tests)

pub caught_kill : (sees : ℕ → Bool) (o : ℕ) (w : World) → Caught sees w → Caught sees (kills o w)
caught_kill sees o w h = record {
  trail = λ p c s ne e.
      trail_same w (kills o w) p c (alike_kill o w p c) (heard_kill o w p c) refl (h.trail p c s ne ((alike_kill o w p c).lost e));
}

alike_tell : (a b : ℕ) (w : World) (p c : ℕ) → Alike w (tells a b w) p c
alike_tell a b w p c = record { lost = λ e. grind (arith, nat_tests); vote = grind (arith, nat_tests); estimate = grind (arith, nat_tests); gone = grind (arith, nat_tests) }

-- only the pair that is told changes
told_pair : (a b : ℕ) (w : World) (p c : ℕ) → (((tells a b w).member p).heard c).lost ≡ false
    → (((tells a b w).member p).heard c ≡ (w.member p).heard c) × ((tells a b w).link c p ≡ w.link c p)
told_pair a b w p c e = (grind (arith, nat_tests), grind (arith, nat_tests))

pub caught_tell : (sees : ℕ → Bool) (a b : ℕ) (w : World) → Caught sees w → Caught sees (tells a b w)
caught_tell sees a b w h = record {
  trail = λ p c s ne e.
      let same : (((tells a b w).member p).heard c ≡ (w.member p).heard c) × ((tells a b w).link c p ≡ w.link c p) = told_pair a b w p c e in
      trail_same w (tells a b w) p c (alike_tell a b w p c) same.0 same.1 (h.trail p c s ne ((alike_tell a b w p c).lost e));
}

pub own_kept : (link : ℕ → ℕ → List Message) (n : ℕ) (name : ℕ → ℕ) (a b c : ℕ) (x : Message) (w : World) → Said n name w a x
    → (vote_of (heard_by link a b x w) c ≡ vote_of w c) × (estimate_of (heard_by link a b x w) c ≡ estimate_of w c)
own_kept link n name a b c (Vote s) w said = (grind (arith, nat_tests, said), grind (arith, nat_tests))
own_kept link n name a b c (Estimate r s) w said = (grind (arith, nat_tests), grind (arith, nat_tests, said.0))
own_kept link n name a b c Leaving w said = (grind (arith, nat_tests), grind (arith, nat_tests))

lost_kept : (link : ℕ → ℕ → List Message) (a b p c : ℕ) (x : Message) (w : World)
    → (((heard_by link a b x w).member p).heard c).lost ≡ ((w.member p).heard c).lost
lost_kept link a b p c (Vote s) w = grind (arith, nat_tests)
lost_kept link a b p c (Estimate r s) w = grind (arith, nat_tests)
lost_kept link a b p c Leaving w = grind (arith, nat_tests)

pub gone_kept : (link : ℕ → ℕ → List Message) (a b c : ℕ) (x : Message) (w : World) → ((heard_by link a b x w).member c).gone ≡ (w.member c).gone
gone_kept link a b c x w = grind (arith, nat_tests)

alike_hear : (link : ℕ → ℕ → List Message) (n : ℕ) (name : ℕ → ℕ) (a b : ℕ) (x : Message) (w : World) (p c : ℕ)
    → Said n name w a x → Alike w (heard_by link a b x w) p c
alike_hear link n name a b x w p c said = record {
  lost = λ e. sym (lost_kept link a b p c x w) ∙ e;
  vote = (own_kept link n name a b c x w said).0;
  estimate = (own_kept link n name a b c x w said).1;
  gone = gone_kept link a b c x w;
}

other_heard : (link : ℕ → ℕ → List Message) (a b : ℕ) (x : Message) (w : World) (p c : ℕ) → ((p == b) && (c == a)) ≡ false
    → ((heard_by link a b x w).member p).heard c ≡ (w.member p).heard c
other_heard link a b x w p c e = grind (arith, nat_tests)

other_link : (link : ℕ → ℕ → List Message) (a b c p : ℕ) (rest : List Message) → ((p == b) && (c == a)) ≡ false → put_link link a b rest c p ≡ link c p
other_link link a b c p rest e = grind (arith, nat_tests)

this_heard : (link : ℕ → ℕ → List Message) (a b : ℕ) (x : Message) (w : World) → ((heard_by link a b x w).member b).heard a ≡ hear x ((w.member b).heard a)
this_heard link a b x w = grind (arith, nat_tests)

this_link : (link : ℕ → ℕ → List Message) (a b : ℕ) (rest : List Message) → put_link link a b rest a b ≡ rest
this_link link a b rest = grind (arith, nat_tests)

seen_last : (x : Message) (xs : List Message) (h : Heard) → (h.left ≡ true → x ∷ xs ≡ []) → LeavingLast (x ∷ xs) → (hear x h).left ≡ true → xs ≡ []
seen_last (Vote s) xs h none last e = absurd (let bad : Vote s ∷ xs ≡ [] = none e in cc)
seen_last (Estimate r s) xs h none last e = absurd (let bad : Estimate r s ∷ xs ≡ [] = none e in cc)
seen_last Leaving xs h none last e = last

-- the pair between which the message went
trail_this : (n : ℕ) (name : ℕ → ℕ) (a b : ℕ) (x : Message) (rest : List Message) (w : World) → w.link a b ≡ x ∷ rest → Said n name w a x
    → Trail w b a → Trail (hears a b (x ∷ rest) w) b a
trail_this n name a b x rest w front said h =
    let link : ℕ → ℕ → List Message = put_link w.link a b rest in
    let like : Alike w (heard_by link a b x w) b a = alike_hear link n name a b x w b a said in
    let now : hear_all ((hears a b (x ∷ rest) w).link a b) (((hears a b (x ∷ rest) w).member b).heard a) ≡ hear_all (w.link a b) ((w.member b).heard a) =
    ap (λ (ys : List Message). hear_all ys (((hears a b (x ∷ rest) w).member b).heard a)) (this_link w.link a b rest)
    ∙ ap (λ (o : Heard). hear_all rest o) (this_heard link a b x w)
    ∙ ap (λ (ys : List Message). hear_all ys ((w.member b).heard a)) (sym front) in
    let last : LeavingLast (x ∷ rest) = subst LeavingLast front h.last in
    record {
      vote = ap (λ (o : Heard). o.vote) now ∙ h.vote ∙ sym like.vote;
      estimate = ap (λ (o : Heard). o.estimate) now ∙ h.estimate ∙ sym like.estimate;
      left = ap (λ (o : Heard). o.left) now ∙ h.left ∙ sym like.gone;
      last = subst LeavingLast (sym (this_link w.link a b rest)) (last_rest x rest last);
      seen = λ s.
          this_link w.link a b rest
          ∙ seen_last x rest ((w.member b).heard a) (λ t. sym front ∙ h.seen t) last (sym (ap (λ (o : Heard). o.left) (this_heard link a b x w)) ∙ s);
    }

pub caught_hear : (sees : ℕ → Bool) (n : ℕ) (name : ℕ → ℕ) (a b : ℕ) (x : Message) (rest : List Message) (w : World)
    → w.link a b ≡ x ∷ rest → Messages n name w → Caught sees w → Caught sees (hears a b (x ∷ rest) w)
caught_hear sees n name a b x rest w front m h =
    let both : Each (Said n name w a) (x ∷ rest) = subst (Each (Said n name w a)) front (m.links a b) in
    let link : ℕ → ℕ → List Message = put_link w.link a b rest in
    record {
      trail = λ p c s ne e.
          let old : Trail w p c = h.trail p c s ne ((alike_hear link n name a b x w p c both.0).lost e) in
          pair n name a b x rest w p c front both.0 old ((p == b) && (c == a)) refl;
    }
  where
    same_pair : (a b p c : ℕ) → ((p == b) && (c == a)) ≡ true → (b ≡ p) × (a ≡ c)
    same_pair a b p c e = grind (arith, nat_tests)

    pair : (n : ℕ) (name : ℕ → ℕ) (a b : ℕ) (x : Message) (rest : List Message) (w : World) (p c : ℕ) → w.link a b ≡ x ∷ rest → Said n name w a x
        → Trail w p c → (t : Bool) → ((p == b) && (c == a)) ≡ t → Trail (hears a b (x ∷ rest) w) p c
    pair n name a b x rest w p c front said old true t =
        let q : (b ≡ p) × (a ≡ c) = same_pair a b p c t in
        let here : Trail w b a = subst (λ (k : ℕ). Trail w k a) (sym q.0) (subst (λ (k : ℕ). Trail w p k) (sym q.1) old) in
        let now : Trail (hears a b (x ∷ rest) w) b a = trail_this n name a b x rest w front said here in
        subst (λ (k : ℕ). Trail (hears a b (x ∷ rest) w) k c) q.0 (subst (λ (k : ℕ). Trail (hears a b (x ∷ rest) w) b k) q.1 now)
    pair n name a b x rest w p c front said old false t =
        let link : ℕ → ℕ → List Message = put_link w.link a b rest in
        trail_same w (heard_by link a b x w) p c (alike_hear link n name a b x w p c said) (other_heard link a b x w p c t)
        (other_link w.link a b c p rest t) old

alike_go : (link : ℕ → ℕ → List Message) (o : ℕ) (phase : Phase) (w : World) (p c : ℕ) → Alike w (goes link o phase w) p c
alike_go link o phase w p c =
    record { lost = λ e. grind (arith, nat_tests); vote = grind (arith, nat_tests); estimate = grind (arith, nat_tests); gone = grind (arith, nat_tests) }

heard_go : (link : ℕ → ℕ → List Message) (o : ℕ) (phase : Phase) (w : World) (p c : ℕ) → ((goes link o phase w).member p).heard c ≡ (w.member p).heard c
heard_go link o phase w p c = grind (arith, nat_tests)

quiet_link : (to : ℕ → Bool) (link : ℕ → ℕ → List Message) (o a b : ℕ) → told_all to link o [] a b ≡ link a b
quiet_link to link o a b =
    cond_both {A = List Message} ((a == o) && (to b && not (b == o))) (link a b ++ []) (link a b) (λ (ys : List Message). ys ≡ link a b)
    (λ e. no_more (link a b)) (λ e. refl)

pub caught_go : (sees to : ℕ → Bool) (o : ℕ) (phase : Phase) (w : World) → Caught sees w → Caught sees (goes (told_all to w.link o []) o phase w)
caught_go sees to o phase w h = record {
  trail = λ p c s ne e.
      let link : ℕ → ℕ → List Message = told_all to w.link o [] in
      trail_same w (goes link o phase w) p c (alike_go link o phase w p c) (heard_go link o phase w p c) (quiet_link to w.link o c p)
      (h.trail p c s ne ((alike_go link o phase w p c).lost e));
}

-- a message that process o says to all others that are meant
record Broadcast (o : ℕ) (y : Message) (w v : World) : Type 0 where
  pub heard : (p c : ℕ) → p ≢ c → (v.member p).heard c ≡ (w.member p).heard c
  pub vote : (c : ℕ) → c ≢ o → vote_of v c ≡ vote_of w c
  pub estimate : (c : ℕ) → c ≢ o → estimate_of v c ≡ estimate_of w c
  pub gone : (c : ℕ) → c ≢ o → (v.member c).gone ≡ (w.member c).gone
  pub own_vote : (h : Heard) → h.vote ≡ vote_of w o → (hear y h).vote ≡ vote_of v o
  pub own_estimate : (h : Heard) → h.estimate ≡ estimate_of w o → (hear y h).estimate ≡ estimate_of v o
  pub own_left : (h : Heard) → h.left ≡ (w.member o).gone → (hear y h).left ≡ (v.member o).gone

far_link : (to : ℕ → Bool) (link : ℕ → ℕ → List Message) (o : ℕ) (ys : List Message) (c p : ℕ) → c ≢ o → told_all to link o ys c p ≡ link c p
far_link to link o ys c p ne = grind (arith, nat_tests)

near_link : (to : ℕ → Bool) (link : ℕ → ℕ → List Message) (o : ℕ) (ys : List Message) (p : ℕ) → to p ≡ true → p ≢ o → told_all to link o ys o p ≡ link o p ++ ys
near_link to link o ys p t ne = grind (arith, nat_tests)

trail_from : (n : ℕ) (name : ℕ → ℕ) (to : ℕ → Bool) (o : ℕ) (y : Message) (w v : World) (p : ℕ) → Broadcast o y w v
    → v.link o p ≡ told_all to w.link o (y ∷ []) o p → to p ≡ true → p ≢ o → (w.member o).gone ≡ false → Messages n name w → Trail w p o → Trail v p o
trail_from n name to o y w v p b links t ne here m h =
    let link : v.link o p ≡ w.link o p ++ y ∷ [] = links ∙ near_link to w.link o (y ∷ []) p t ne in
    let before : Heard = hear_all (w.link o p) ((w.member p).heard o) in
    let now : hear_all (v.link o p) ((v.member p).heard o) ≡ hear y before =
    ap (λ (ys : List Message). hear_all ys ((v.member p).heard o)) link
    ∙ ap (λ (x : Heard). hear_all (w.link o p ++ y ∷ []) x) (b.heard p o ne)
    ∙ hear_one_more (w.link o p) y ((w.member p).heard o) in
    record {
      vote = ap (λ (x : Heard). x.vote) now ∙ b.own_vote before h.vote;
      estimate = ap (λ (x : Heard). x.estimate) now ∙ b.own_estimate before h.estimate;
      left = ap (λ (x : Heard). x.left) now ∙ b.own_left before h.left;
      last = subst LeavingLast (sym link) (last_appended n name w o (w.link o p) y here (m.links o p));
      seen = λ s. absurd (let bad : true ≡ false = sym (m.knows.left p o (sym (ap (λ (x : Heard). x.left) (b.heard p o ne)) ∙ s)) ∙ here in cc);
    }

caught_broadcast : (sees : ℕ → Bool) (n : ℕ) (name : ℕ → ℕ) (to : ℕ → Bool) (o : ℕ) (y : Message) (w v : World)
    → ((p : ℕ) → sees p ≡ true → to p ≡ true) → ((a b : ℕ) → v.link a b ≡ told_all to w.link o (y ∷ []) a b)
    → (w.member o).gone ≡ false → Broadcast o y w v → Messages n name w → Caught sees w → Caught sees v
caught_broadcast sees n name to o y w v meant links here b m h = record {
  trail = λ p c s ne e.
      let same : (v.member p).heard c ≡ (w.member p).heard c = b.heard p c ne in
      let old : Trail w p c = h.trail p c s ne (sym (ap (λ (x : Heard). x.lost) same) ∙ e) in
      elim (cases_eq c o) [
        | inl own ↦
            let here_old : Trail w p o = subst (Trail w p) own old in
            let ne_o : p ≢ o = λ q. ne (q ∙ sym own) in
            subst (Trail v p) (sym own) (trail_from n name to o y w v p b (links o p) (meant p s) ne_o here m here_old)
        | inr other ↦
            trail_same w v p c
            (record {
              lost = λ l. sym (ap (λ (x : Heard). x.lost) same) ∙ l;
              vote = b.vote c other;
              estimate = b.estimate c other;
              gone = b.gone c other;
            })
            same (links c p ∙ far_link to w.link o (y ∷ []) c p other) old
      ];
}

broadcast_enter : (to : ℕ → Bool) (o : ℕ) (vote : Slot) (w : World) → vote_of w o ≡ None → Broadcast o (Vote vote) w (enters to o vote w)
broadcast_enter to o vote w none = record {
  heard = λ p c ne. grind (arith, nat_tests);
  vote = λ c ne. grind (arith, nat_tests);
  estimate = λ c ne. grind (arith, nat_tests);
  gone = λ c ne. grind (arith, nat_tests);
  own_vote = λ h e. grind (arith, nat_tests, none);
  own_estimate = λ h e. grind (arith, nat_tests);
  own_left = λ h e. grind (arith, nat_tests);
}

pub caught_enter : (sees : ℕ → Bool) (n : ℕ) (name : ℕ → ℕ) (to : ℕ → Bool) (o : ℕ) (vote : Slot) (w : World)
    → ((p : ℕ) → sees p ≡ true → to p ≡ true) → vote_of w o ≡ None → (w.member o).gone ≡ false
    → Messages n name w → Caught sees w → Caught sees (enters to o vote w)
caught_enter sees n name to o vote w meant none here m h =
    caught_broadcast sees n name to o (Vote vote) w (enters to o vote w) meant (λ a b. refl) here (broadcast_enter to o vote w none) m h

broadcast_leave : (to : ℕ → Bool) (o : ℕ) (w : World) → Broadcast o Leaving w (leaves to o w)
broadcast_leave to o w = record {
  heard = λ p c ne. grind (arith, nat_tests);
  vote = λ c ne. grind (arith, nat_tests);
  estimate = λ c ne. grind (arith, nat_tests);
  gone = λ c ne. grind (arith, nat_tests);
  own_vote = λ h e. grind (arith, nat_tests);
  own_estimate = λ h e. grind (arith, nat_tests);
  own_left = λ h e. grind (arith, nat_tests);
}

pub caught_leave : (sees : ℕ → Bool) (n : ℕ) (name : ℕ → ℕ) (to : ℕ → Bool) (o : ℕ) (w : World)
    → ((p : ℕ) → sees p ≡ true → to p ≡ true) → (w.member o).gone ≡ false
    → Messages n name w → Caught sees w → Caught sees (leaves to o w)
caught_leave sees n name to o w meant here m h =
    caught_broadcast sees n name to o Leaving w (leaves to o w) meant (λ a b. refl) here (broadcast_leave to o w) m h

broadcast_say : (link : ℕ → ℕ → List Message) (o r : ℕ) (phase : Phase) (slots : List Slot) (w : World) → estimate_of w o ≡ None
    → Broadcast o (Estimate r slots) w (says link o phase slots w)
broadcast_say link o r phase slots w none = record {
  heard = λ p c ne. grind (arith, nat_tests);
  vote = λ c ne. grind (arith, nat_tests);
  estimate = λ c ne. grind (arith, nat_tests);
  gone = λ c ne. grind (arith, nat_tests);
  own_vote = λ h e. grind (arith, nat_tests);
  own_estimate = λ h e. grind (arith, nat_tests, none);
  own_left = λ h e. grind (arith, nat_tests);
}

pub caught_say : (sees : ℕ → Bool) (n : ℕ) (name : ℕ → ℕ) (to : ℕ → Bool) (o r : ℕ) (phase : Phase) (slots : List Slot) (w : World)
    → ((p : ℕ) → sees p ≡ true → to p ≡ true) → estimate_of w o ≡ None → (w.member o).gone ≡ false
    → Messages n name w → Caught sees w → Caught sees (says (told_all to w.link o (Estimate r slots ∷ [])) o phase slots w)
caught_say sees n name to o r phase slots w meant none here m h =
    let link : ℕ → ℕ → List Message = told_all to w.link o (Estimate r slots ∷ []) in
    caught_broadcast sees n name to o (Estimate r slots) w (says link o phase slots w) meant (λ a b. refl) here (broadcast_say link o r phase slots w none) m h

-- who has seen c leave and wasn't told of its loss has heard all that c sent
pub left_heard : (sees : ℕ → Bool) (w : World) (p c : ℕ) → Caught sees w → sees p ≡ true → ((w.member p).heard c).left ≡ true
    → ((w.member p).heard c).lost ≡ false → HeardAll w p c
left_heard sees w p c h s left lost =
    elim (cases_eq p c) [
      | inl same ↦ subst (HeardAll w p) same (record { vote = refl; estimate = refl })
      | inr ne ↦
          let t : Trail w p c = h.trail p c s ne lost in
          let empty : hear_all (w.link c p) ((w.member p).heard c) ≡ (w.member p).heard c =
          ap (λ (ys : List Message). hear_all ys ((w.member p).heard c)) (t.seen left) in
          record {
            vote = sym (ap (λ (x : Heard). x.vote) empty) ∙ t.vote;
            estimate = sym (ap (λ (x : Heard). x.estimate) empty) ∙ t.estimate;
          }
    ]
