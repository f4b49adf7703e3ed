-- What the calls keep of a store.
use Rattle.std.proofs.Common.{◌≡◌, ◌≢◌, refl, sym, ap, ◌∙◌, subst, ℕ, ℤ, pos, zero, suc, ◌+◌, ◌-◌, ◌<◌, ◌≤◌, ◌+ℤ◌, ◌-ℤ◌, ◌<ℤ◌, Bool, true, false, not, cond, List, [], ◌∷◌, ◌++◌, length, drop, Option, Some, None, slice_get, append_assoc, length-append, length-drop, arith}
use Rattle.std.specs.List.{remove}
use Rattle.std.specs.Prelude.{is_some}
use Rattle.std.specs.Ordering.{int_cmp, int_eq, is_eq, eq_by_cmp}
use Rattle.std.specs.declared.cmp.Ordering.{Ordering}
use Rattle.std.specs.declared.cmp.Ordering.TheVariants.{Less, Equal, Greater}
use Rattle.std.specs.Cmp.{int_cmp_total, tied_itself}
use Rattle.std.specs.FinMap.{find}
use Rattle.std.proofs.lemmas.Int.{ints}
use Rattle.std.proofs.lemmas.List.{append-nil}
use Rattle.fx_base.specs.Keys.{by_time, by_time_same}
use Rattle.fx_base.specs.declared.names.MemberId.{MemberId}
use Rattle.fx_base.specs.declared.names.Stamp.{Stamp}
use Rattle.fx_base.specs.declared.sparse.Sparse.{Sparse}
use Rattle.fx_store.specs.Store.{Store, Stamped, later, earlier, free_stamp, stamps_of, new_store, attaching, storing, committing, newest, closing, promoting, discarding, without, deleting, RiseBelow, counted, IsSound}

-- ---- stamps

stamp_is : (a b : ℤ) → a ≡ b → ◌≡◌ {A = Stamp} (record { 0 = a }) (record { 0 = b })
stamp_is a b same = ap (λ (z : ℤ). record { 0 = z }) same

later_once : (t : Stamp) (n : ℕ) → later (later t 1) n ≡ later t (suc n)
later_once t n = stamp_is ((t.0 +ℤ pos 1) +ℤ pos n) (t.0 +ℤ pos (suc n)) (omega (arith, ints))

later_none : (t : Stamp) → later t 0 ≡ t
later_none t = stamp_is (t.0 +ℤ pos 0) t.0 (omega (arith, ints))

earlier_none : (t : Stamp) → earlier t 0 ≡ t
earlier_none t = stamp_is (t.0 -ℤ pos 0) t.0 (omega (arith, ints))

there_and_back : (t : Stamp) (n : ℕ) → later (earlier t n) n ≡ t
there_and_back t n = stamp_is ((t.0 -ℤ pos n) +ℤ pos n) t.0 (omega (arith, ints))

one_more_back : (t : Stamp) (n m : ℕ) → m ≡ suc n → earlier (later t 1) m ≡ earlier t n
one_more_back t n m same = stamp_is ((t.0 +ℤ pos 1) -ℤ pos m) (t.0 -ℤ pos n) (omega (arith, ints, same))

counted_more : (t : Stamp) (n : ℕ) → counted t (suc n) ≡ counted t n ++ later t n ∷ []
counted_more t zero = ap (λ s. s ∷ []) (sym (later_none t))
counted_more t (suc n) = ap (λ ss. t ∷ ss) (counted_more (later t 1) n ∙ ap (λ s. counted (later t 1) n ++ s ∷ []) (later_once t n))

length-counted : (t : Stamp) (n : ℕ) → length (counted t n) ≡ n
length-counted t zero = refl
length-counted t (suc n) = ap suc (length-counted (later t 1) n)

-- ---- rising

rise_weaker : (ts : List Stamp) (a b : Stamp) → RiseBelow ts a → a.0 <ℤ b.0 → RiseBelow ts b
rise_weaker [] a b rise lt = tt
rise_weaker (t ∷ []) a b rise lt = omega (arith, ints, rise, lt)
rise_weaker (t ∷ u ∷ ts) a b rise lt = (rise.0, rise_weaker (u ∷ ts) a b rise.1 lt)

-- a stamp below the bound goes behind
rise_more : (ts : List Stamp) (t b : Stamp) → RiseBelow ts t → t.0 <ℤ b.0 → RiseBelow (ts ++ t ∷ []) b
rise_more [] t b rise lt = lt
rise_more (s ∷ []) t b rise lt = (rise, lt)
rise_more (s ∷ u ∷ ts) t b rise lt = (rise.0, rise_more (u ∷ ts) t b rise.1 lt)

later_above : (t : Stamp) → t.0 <ℤ (later t 1).0
later_above t = omega (arith, ints)

pub rise_counted : (ts : List Stamp) (t : Stamp) (n : ℕ) → RiseBelow ts t → RiseBelow (ts ++ counted t n) (later t n)
rise_counted ts t zero rise = subst (λ ss. RiseBelow ss (later t 0)) (sym (append-nil ts)) (subst (RiseBelow ts) (sym (later_none t)) rise)
rise_counted ts t (suc n) rise =
    let one = rise_more ts t (later t 1) rise (later_above t) in
    let more = rise_counted (ts ++ t ∷ []) (later t 1) n one in
    subst (RiseBelow (ts ++ counted t (suc n))) (later_once t n)
    (subst (λ ss. RiseBelow ss (later (later t 1) n)) (append_assoc ts (t ∷ []) (counted (later t 1) n)) more)

rise_tail : (t : Stamp) (ts : List Stamp) (b : Stamp) → RiseBelow (t ∷ ts) b → RiseBelow ts b
rise_tail t [] b rise = tt
rise_tail t (u ∷ ts) b rise = rise.1

rise_drop : (n : ℕ) (ts : List Stamp) (b : Stamp) → RiseBelow ts b → RiseBelow (drop n ts) b
rise_drop zero ts b rise = rise
rise_drop (suc n) [] b rise = rise
rise_drop (suc n) (t ∷ ts) b rise = rise_drop n ts b (rise_tail t ts b rise)

stamps_of-drop : (n : ℕ) (es : List Stamped) → stamps_of (drop n es) ≡ drop n (stamps_of es)
stamps_of-drop zero es = refl
stamps_of-drop (suc n) [] = refl
stamps_of-drop (suc n) (e ∷ es) = stamps_of-drop n es

pub stamps_of-append : (a b : List Stamped) → stamps_of (a ++ b) ≡ stamps_of a ++ stamps_of b
stamps_of-append [] b = refl
stamps_of-append (e ∷ a) b = ap (λ ts. e.0 ∷ ts) (stamps_of-append a b)

-- ---- the free stamp

pub free_after_committing : (s : Store) → free_stamp (committing s) ≡ free_stamp s
free_after_committing s =
    let len : length (s.tentative ++ (s.next, s.pending) ∷ []) ≡ suc (length s.tentative) = length-append s.tentative ((s.next, s.pending) ∷ []) ∙ omega arith in
    one_more_back s.next (length s.tentative) (length (s.tentative ++ (s.next, s.pending) ∷ [])) len

pub free_after_discarding : (s : Store) → free_stamp (discarding s) ≡ free_stamp s
free_after_discarding s = earlier_none (free_stamp s)

pub free_after_closing : (s : Store) → free_stamp (closing s) ≡ s.next
free_after_closing s = earlier_none s.next

pub free_after_promoting : (s : Store) (entries : List Stamped) (next : Stamp) → s.tentative ≡ [] → free_stamp (promoting entries next s) ≡ next
free_after_promoting s entries next none = ap (λ (es : List Stamped). earlier next (length es)) none ∙ earlier_none next

pub free_of_new : (start : Stamp) (depth : ℕ) → free_stamp (new_store start depth) ≡ start
free_of_new start depth = earlier_none start

pub next_is : (s : Store) → later (free_stamp s) (length s.tentative) ≡ s.next
next_is s = there_and_back s.next (length s.tentative)

-- ---- soundness

pub sound_new : (start : Stamp) (depth : ℕ) → IsSound (new_store start depth)
sound_new start depth = record { few = omega arith; waiting = omega arith; rise = tt; follow = refl }

pub sound_attaching : (s : Store) (member : MemberId) → IsSound s → IsSound (attaching member s)
sound_attaching s member h = record { few = h.few; waiting = h.waiting; rise = h.rise; follow = h.follow }

pub sound_storing : (s : Store) (member : MemberId) (piece : Sparse) → IsSound s → IsSound (storing member piece s)
sound_storing s member piece h = record { few = h.few; waiting = h.waiting; rise = h.rise; follow = h.follow }

pub sound_committing : (s : Store) → length s.tentative ≤ 16 → IsSound s → IsSound (committing s)
sound_committing s room h =
    let added : List Stamped = s.tentative ++ (s.next, s.pending) ∷ [] in
    let len : length added ≡ suc (length s.tentative) = length-append s.tentative ((s.next, s.pending) ∷ []) ∙ omega arith in
    let free = free_after_committing s in
    record {
      few = h.few;
      waiting = omega (arith, len, room);
      rise = subst (RiseBelow (stamps_of s.kept)) (sym free) h.rise;
      follow =
          stamps_of-append s.tentative ((s.next, s.pending) ∷ [])
          ∙ (λ i. h.follow i ++ sym (next_is s) i ∷ [])
          ∙ sym (counted_more (free_stamp s) (length s.tentative))
          ∙ (λ i. counted (sym free i) (sym len i));
    }

-- all stamps of a store rise below its next one
pub all_rise : (s : Store) → IsSound s → RiseBelow (stamps_of (s.kept ++ s.tentative)) s.next
all_rise s h =
    subst (λ ts. RiseBelow ts s.next) (sym (stamps_of-append s.kept s.tentative ∙ ap (λ ts. stamps_of s.kept ++ ts) h.follow))
    (subst (RiseBelow (stamps_of s.kept ++ counted (free_stamp s) (length s.tentative))) (next_is s) (rise_counted (stamps_of s.kept) (free_stamp s) (length s.tentative) h.rise))

pub sound_closing : (s : Store) → IsSound s → IsSound (closing s)
sound_closing s h =
    let all : List Stamped = s.kept ++ s.tentative in
    record {
      few = omega (arith, length-drop (length all - (s.depth + 1)) all);
      waiting = omega arith;
      rise = subst (RiseBelow (stamps_of (newest (s.depth + 1) all))) (sym (free_after_closing s))
          (subst (λ ts. RiseBelow ts s.next) (sym (stamps_of-drop (length all - (s.depth + 1)) all)) (rise_drop (length all - (s.depth + 1)) (stamps_of all) s.next (all_rise s h)));
      follow = refl;
    }

pub sound_promoting : (s : Store) (entries : List Stamped) (next : Stamp) → s.tentative ≡ [] → length entries ≤ s.depth + 1 → RiseBelow (stamps_of entries) next → IsSound s → IsSound (promoting entries next s)
sound_promoting s entries next none few rise h = record {
  few = few;
  waiting = h.waiting;
  rise = subst (RiseBelow (stamps_of entries)) (sym (free_after_promoting s entries next none)) rise;
  follow = ap stamps_of none ∙ ap (λ (es : List Stamped). counted (free_stamp (promoting entries next s)) (length es)) (sym none);
}

pub sound_discarding : (s : Store) → IsSound s → IsSound (discarding s)
sound_discarding s h = record { few = h.few; waiting = omega arith; rise = subst (RiseBelow (stamps_of s.kept)) (sym (free_after_discarding s)) h.rise; follow = refl }

-- ---- a stamp stands once

rise_skip : (t u b : Stamp) (ts : List Stamp) → RiseBelow (t ∷ u ∷ ts) b → RiseBelow (t ∷ ts) b
rise_skip t u b [] h = omega (arith, ints, h.0, h.1)
rise_skip t u b (v ∷ ts) h = (omega (arith, ints, h.0, h.1.0), h.1.1)

pick_behind : (c : Bool) (t b : Stamp) (e : Stamped) (rest : List Stamped) → RiseBelow (t ∷ stamps_of rest) b → t.0 <ℤ e.0.0 → RiseBelow (e.0 ∷ stamps_of rest) b
    → RiseBelow (t ∷ stamps_of (cond (not c) (e ∷ rest) rest)) b
pick_behind true t b e rest h lt k = h
pick_behind false t b e rest h lt k = (lt, k)

-- behind a stamp
kept_behind : (stamp t b : Stamp) (es : List Stamped) → RiseBelow (t ∷ stamps_of es) b → RiseBelow (t ∷ stamps_of (without stamp es)) b
kept_behind stamp t b [] h = h
kept_behind stamp t b (e ∷ es) h =
    pick_behind (eq_by_cmp by_time stamp e.0) t b e (without stamp es) (kept_behind stamp t b es (rise_skip t e.0 b (stamps_of es) h)) h.0 (kept_behind stamp e.0 b es h.1)

pick_first : (c : Bool) (b : Stamp) (e : Stamped) (rest : List Stamped) → RiseBelow (stamps_of rest) b → RiseBelow (e.0 ∷ stamps_of rest) b → RiseBelow (stamps_of (cond (not c) (e ∷ rest) rest)) b
pick_first true b e rest h k = h
pick_first false b e rest h k = k

pub without_keeps : (stamp : Stamp) (es : List Stamped) (b : Stamp) → RiseBelow (stamps_of es) b → RiseBelow (stamps_of (without stamp es)) b
without_keeps stamp [] b h = tt
without_keeps stamp (e ∷ es) b h =
    pick_first (eq_by_cmp by_time stamp e.0) b e (without stamp es) (without_keeps stamp es b (rise_tail e.0 (stamps_of es) b h)) (kept_behind stamp e.0 b es h)

length_without : (stamp : Stamp) (es : List Stamped) → length (without stamp es) ≤ length es
length_without stamp [] = omega arith
length_without stamp (e ∷ es) = pick (eq_by_cmp by_time stamp e.0) (length_without stamp es)
  where
    pick : (c : Bool) → length (without stamp es) ≤ length es → length (cond (not c) (e ∷ without stamp es) (without stamp es)) ≤ suc (length es)
    pick true le = omega (arith, le)
    pick false le = omega (arith, le)

pub sound_deleting : (s : Store) (stamp : Stamp) → IsSound s → IsSound (deleting stamp s)
sound_deleting s stamp h = record {
  few = omega (arith, length_without stamp s.kept, h.few);
  waiting = h.waiting;
  rise = without_keeps stamp s.kept (free_stamp s) h.rise;
  follow = h.follow;
}

tie : (t u : Stamp) → t ≡ u → eq_by_cmp by_time t u ≡ true
tie t u same = ap (λ v. eq_by_cmp by_time t v) (sym same) ∙ ap is_eq (tied_itself int_cmp_total t.0)

apart_is : (t u : Stamp) → t ≢ u → eq_by_cmp by_time t u ≡ false
apart_is t u apart = go (int_cmp t.0 u.0) refl
  where
    go : (o : Ordering) → int_cmp t.0 u.0 ≡ o → is_eq o ≡ false
    go Less e = refl
    go Equal e = absurd (apart (by_time_same t u e))
    go Greater e = refl

not_tied : (t u : Stamp) → t.0 <ℤ u.0 → eq_by_cmp by_time t u ≡ false
not_tied t u lt = apart_is t u (λ same. let z : t.0 ≡ u.0 = ap (λ (s : Stamp). s.0) same in omega (arith, ints, lt, z))

not_tied_back : (t u : Stamp) → t.0 <ℤ u.0 → eq_by_cmp by_time u t ≡ false
not_tied_back t u lt = apart_is u t (λ same. let z : u.0 ≡ t.0 = ap (λ (s : Stamp). s.0) same in omega (arith, ints, lt, z))

-- what stands further behind has a later stamp
before : (t b : Stamp) (es : List Stamped) (at : ℕ) (e : Stamped) → RiseBelow (t ∷ stamps_of es) b → slice_get es at ≡ Some e → t.0 <ℤ e.0.0
before t b [] at e h is = absurd cc
before t b (x ∷ es) zero e h is = let first : x ≡ e = cc in subst (λ (y : Stamped). t.0 <ℤ y.0.0) first h.0
before t b (x ∷ es) (suc at) e h is = before t b es at e (rise_skip t x.0 b (stamps_of es) h) is

-- no entry behind has the stamp of the first
none_again : (t b : Stamp) (es : List Stamped) → RiseBelow (t ∷ stamps_of es) b → without t es ≡ es
none_again t b [] h = refl
none_again t b (e ∷ es) h =
    let apart : eq_by_cmp by_time t e.0 ≡ false = not_tied t e.0 h.0 in
    ap (λ c. cond (not c) (e ∷ without t es) (without t es)) apart ∙ ap (λ rest. e ∷ rest) (none_again t b es (rise_skip t e.0 b (stamps_of es) h))

pub removed_is : (stamp : Stamp) (es : List Stamped) (at : ℕ) (e : Stamped) (b : Stamp) → RiseBelow (stamps_of es) b → slice_get es at ≡ Some e → e.0 ≡ stamp → without stamp es ≡ remove es at
removed_is stamp [] at e b rise is same = absurd cc
removed_is stamp (x ∷ es) zero e b rise is same =
    let first : x ≡ e = cc in
    let own : x.0 ≡ stamp = ap (λ (y : Stamped). y.0) first ∙ same in
    ap (λ c. cond (not c) (x ∷ without stamp es) (without stamp es)) (tie stamp x.0 (sym own))
    ∙ ap (λ t. without t es) (sym own) ∙ none_again x.0 b es rise
removed_is stamp (x ∷ es) (suc at) e b rise is same =
    let above : x.0.0 <ℤ e.0.0 = before x.0 b es at e rise is in
    let apart : eq_by_cmp by_time stamp x.0 ≡ false = ap (λ t. eq_by_cmp by_time t x.0) (sym same) ∙ not_tied_back x.0 e.0 above in
    ap (λ c. cond (not c) (x ∷ without stamp es) (without stamp es)) apart ∙ ap (λ rest. x ∷ rest) (removed_is stamp es at e b (rise_tail x.0 (stamps_of es) b rise) is same)

pub found_there : (stamp : Stamp) (es : List Stamped) (at : ℕ) (e : Stamped) → slice_get es at ≡ Some e → e.0 ≡ stamp → is_some (find by_time stamp es) ≡ true
found_there stamp [] at e is same = absurd cc
found_there stamp (x ∷ es) zero e is same =
    let first : x ≡ e = cc in
    ap (λ c. is_some (cond c (Some x.1) (find by_time stamp es))) (tie stamp x.0 (sym (ap (λ (y : Stamped). y.0) first ∙ same)))
found_there stamp (x ∷ es) (suc at) e is same = either (eq_by_cmp by_time stamp x.0) x.1 (find by_time stamp es) (found_there stamp es at e is same)
  where
    either : {X : Type 0} (c : Bool) (v : X) (o : Option X) → is_some o ≡ true → is_some (cond c (Some v) o) ≡ true
    either true v o h = refl
    either false v o h = h

pub nowhere : (stamp : Stamp) (es : List Stamped) → ((k : ℕ) (e : Stamped) → k < length es → slice_get es k ≡ Some e → e.0 ≢ stamp) → find by_time stamp es ≡ None
nowhere stamp [] never = refl
nowhere stamp (x ∷ es) never =
    ap (λ c. cond c (Some x.1) (find by_time stamp es)) (apart_is stamp x.0 (λ same. never 0 x (omega arith) refl (sym same))) ∙ nowhere stamp es (λ k e lt. never (suc k) e (omega (arith, lt)))

pub same_stamp : (t u : Stamp) → int_eq t.0 u.0 ≡ true → t ≡ u
same_stamp t u e = by_time_same t u (go (int_cmp t.0 u.0) e)
  where
    go : (o : Ordering) → is_eq o ≡ true → o ≡ Equal
    go Less h = absurd cc
    go Equal h = refl
    go Greater h = absurd cc

pub stamps_tie : (t u : Stamp) → t ≡ u → int_eq t.0 u.0 ≡ true
stamps_tie t u same = tie t u same
