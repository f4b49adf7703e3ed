-- Code that grows does what it did.
use Rattle.std.proofs.Common.{◌≡◌, ℕ, zero, suc, List, [], ◌∷◌, ◌++◌, append_assoc, Some, refl, ap, sym, subst, ◌∙◌, length, drop, get_or, drop-cons, ◌<◌, Result, Ok, Err, IfOk}
use Rattle.std.specs.Prelude.{slice_get}
use Rattle.std.proofs.lemmas.List.{append-nil}
use Rattle.fx_base.specs.declared.memory.NoMemory.{NoMemory}
use Rattle.fx_script.specs.declared.job.Stmt.{Stmt}
use Rattle.fx_check.specs.Facts.{Facts}
use Rattle.fx_flow.specs.declared.instr.Instr.{Instr}
use Rattle.fx_flow.specs.Code.{Leads, Nothing, DoesLet, DoesSet, DoesPrint, DoesRegister, DoesWhen, DoesIf, DoesIfAlone, DoesFor, DoesOutward}
use Rattle.fx_flow.specs.Emits.{Emits, Puts}

pub get_grown : (code more : List Instr) (p : ℕ) (i : Instr) → slice_get code p ≡ Some i → slice_get (code ++ more) p ≡ Some i
get_grown [] more zero i is = absurd cc
get_grown [] more (suc p) i is = absurd cc
get_grown (j ∷ code) more zero i is = is
get_grown (j ∷ code) more (suc p) i is = get_grown code more p i is

pub grown : (f : Facts) (code more : List Instr) {p q : ℕ} {ss : List Stmt} → Leads f code p ss q → Leads f (code ++ more) p ss q
grown f code more Nothing = Nothing
grown f code more (DoesLet spot array value is next) = DoesLet spot array value (get_grown code more _ _ is) (grown f code more next)
grown f code more (DoesSet spot counter value is next) = DoesSet spot counter value (get_grown code more _ _ is) (grown f code more next)
grown f code more (DoesPrint spot name is next) = DoesPrint spot name (get_grown code more _ _ is) (grown f code more next)
grown f code more (DoesRegister spot name is next) = DoesRegister spot name (get_grown code more _ _ is) (grown f code more next)
grown f code more (DoesWhen spot role body is inside next) = DoesWhen spot role body (get_grown code more _ _ is) (grown f code more inside) (grown f code more next)
grown f code more (DoesIf spot test left right body other is inside outside next) =
    DoesIf spot test left right body other (get_grown code more _ _ is) (grown f code more inside) (grown f code more outside) (grown f code more next)
grown f code more (DoesIfAlone spot test left right body is inside next) = DoesIfAlone spot test left right body (get_grown code more _ _ is) (grown f code more inside) (grown f code more next)
grown f code more (DoesFor spot counter first last body greatest is fits inside next) =
    DoesFor spot counter first last body greatest (get_grown code more _ _ is) fits (grown f code more inside) (grown f code more next)
grown f code more (DoesOutward spot x s what rolled asks is next) = DoesOutward spot x s what rolled asks (get_grown code more _ _ is) (grown f code more next)

pub joined : (f : Facts) {code : List Instr} {p q r : ℕ} {ss ts : List Stmt} → Leads f code p ss q → Leads f code q ts r → Leads f code p (ss ++ ts) r
joined f Nothing then = then
joined f (DoesLet spot array value is next) then = DoesLet spot array value is (joined f next then)
joined f (DoesSet spot counter value is next) then = DoesSet spot counter value is (joined f next then)
joined f (DoesPrint spot name is next) then = DoesPrint spot name is (joined f next then)
joined f (DoesRegister spot name is next) then = DoesRegister spot name is (joined f next then)
joined f (DoesWhen spot role body is inside next) then = DoesWhen spot role body is inside (joined f next then)
joined f (DoesIf spot test left right body other is inside outside next) then = DoesIf spot test left right body other is inside outside (joined f next then)
joined f (DoesIfAlone spot test left right body is inside next) then = DoesIfAlone spot test left right body is inside (joined f next then)
joined f (DoesFor spot counter first last body greatest is fits inside next) then = DoesFor spot counter first last body greatest is fits inside (joined f next then)
joined f (DoesOutward spot x s what rolled asks is next) then = DoesOutward spot x s what rolled asks is (joined f next then)

-- nothing more
pub emits_none : (f : Facts) (code : List Instr) (p : ℕ) → Emits f code code p [] p
emits_none f code p = record { more = []; grew = sym (append-nil code); leads = Nothing }

-- one statement in front of others
pub emits_on : (f : Facts) (a b c : List Instr) (p q r : ℕ) (ss ts : List Stmt) → Emits f a b q ts r → Emits f b c p ss q → Emits f a c p (ss ++ ts) r
emits_on f a b c p q r ss ts first then = record {
  more = first.more ++ then.more;
  grew = then.grew ∙ ap (λ (l : List Instr). l ++ then.more) first.grew ∙ append_assoc a first.more then.more;
  leads = joined f then.leads (subst (λ (l : List Instr). Leads f l q ts r) (sym then.grew) (grown f b then.more first.leads));
}

-- ---- answers

pub if_ok : (r : Result ℕ NoMemory) (P Q : ℕ → Type 0) → ((p : ℕ) → P p → Q p) → IfOk r P → IfOk r Q
if_ok (Ok p) P Q so h = so p h
if_ok (Err e) P Q so h = tt

-- an instruction behind code that grew
pub puts_on : (f : Facts) (a b c : List Instr) (more : List Instr) (p : ℕ) (i : Instr) (ss : List Stmt) (q : ℕ) → b ≡ a ++ more → Puts b c p i → Leads f c p ss q → Emits f a c p ss q
puts_on f a b c more p i ss q grew puts leads = record {
  more = more ++ i ∷ [];
  grew = puts.grew ∙ ap (λ (l : List Instr). l ++ i ∷ []) grew ∙ append_assoc a more (i ∷ []);
  leads = leads;
}

pub puts_one : (f : Facts) (a c : List Instr) (p : ℕ) (i : Instr) (ss : List Stmt) (q : ℕ) → Puts a c p i → Leads f c p ss q → Emits f a c p ss q
puts_one f a c p i ss q puts leads = record { more = i ∷ []; grew = puts.grew; leads = leads }

-- what led on leads on behind one more instruction
pub put_behind : (f : Facts) (b c : List Instr) (p : ℕ) (i : Instr) (a : ℕ) (ss : List Stmt) (q : ℕ) → Puts b c p i → Leads f b a ss q → Leads f c a ss q
put_behind f b c p i a ss q puts leads = subst (λ (l : List Instr). Leads f l a ss q) (sym puts.grew) (grown f b (i ∷ []) leads)

-- one statement more of a list, from its end
pub step : (f : Facts) (a b c : List Instr) (p q r i : ℕ) (body : List Stmt) (s : Stmt) → i < length body → s ≡ get_or body i s → Emits f a b q (drop (suc i) body) r → Emits f b c p (s ∷ []) q → Emits f a c p (drop i body) r
step f a b c p q r i body s within is first then =
    subst (λ (l : List Stmt). Emits f a c p l r) (sym (drop-cons body i s within ∙ ap (λ (t : Stmt). t ∷ drop (suc i) body) (sym is)))
    (emits_on f a b c p q r (s ∷ []) (drop (suc i) body) first then)

pub at_end : (f : Facts) (a : List Instr) (p : ℕ) (body : List Stmt) → Emits f a a p (drop (length body) body) p
at_end f a p body = subst (λ (l : List Stmt). Emits f a a p l p) (sym (drop_of_length body)) (emits_none f a p) where
  drop_of_length : (l : List Stmt) → drop (length l) l ≡ []
  drop_of_length [] = refl
  drop_of_length (x ∷ l) = drop_of_length l

-- two lists behind one another, and an instruction
pub twice : (f : Facts) (a b c : List Instr) (p q : ℕ) (ss ts : List Stmt) (r : ℕ) → Emits f a b p ss r → Emits f b c q ts r → (more : List Instr) × (c ≡ a ++ more) × Leads f c p ss r
twice f a b c p q ss ts r first then = (
  first.more ++ then.more,
  then.grew ∙ ap (λ (l : List Instr). l ++ then.more) first.grew ∙ append_assoc a first.more then.more,
  subst (λ (l : List Instr). Leads f l p ss r) (sym then.grew) (grown f b then.more first.leads),
)
