-- Reading part by part, as loops do.
use Rattle.std.proofs.Common.{◌≡◌, sym, ap, ◌∙◌, ℕ, ℤ, suc, ◌+◌, List, Option, Some}
use Rattle.std.specs.FinMap.{insert}
use Rattle.fx_base.specs.declared.snapshot.Snapshot.{Snapshot}
use Rattle.fx_base.specs.declared.sparse.Sparse.{Sparse}
use Rattle.fx_store.specs.Packed.{◌>>=◌}
use Rattle.fx_pack.specs.declared.fields.Fault.{Fault}
use Rattle.fx_pack.specs.declared.fields.Fault.TheVariants.{NotOne, NoMemory}
use Rattle.fx_pack.specs.Reading.{Fails, element_in, elements_put, run_put, runs_put, member_put, members_put}

-- ---- a step, and a step that fails

fails_then : {A B : Type 0} (e : Fault) (o : Option A) (f : A → Option B) → Fails e o → Fails e (o >>= f)
fails_then NotOne o f none = ap (λ x. x >>= f) none
fails_then NoMemory o f none = tt

fails_as : {A : Type 0} (e : Fault) (o p : Option A) → o ≡ p → Fails e o → Fails e p
fails_as NotOne o p same none = sym same ∙ none
fails_as NoMemory o p same none = tt

-- ---- elements

pub element_step : (left index : ℕ) (bytes after : List ℕ) (m : Sparse) (x : ℤ) (whole : Option (Sparse × List ℕ)) → element_in bytes ≡ Some (x, after)
    → elements_put (suc left) index bytes m ≡ whole → elements_put left (index + 1) after (insert m index x) ≡ whole
unfolding elements_put
element_step left index bytes after m x whole is inv = sym (ap (λ (o : Option (ℤ × List ℕ)). o >>= λ e. elements_put left (index + 1) e.1 (insert m index e.0)) is) ∙ inv

pub element_fails : (e : Fault) (left index : ℕ) (bytes : List ℕ) (m : Sparse) (whole : Option (Sparse × List ℕ)) → Fails e (element_in bytes) → elements_put (suc left) index bytes m ≡ whole → Fails e whole
unfolding elements_put
element_fails e left index bytes m whole none inv =
    fails_as e (elements_put (suc left) index bytes m) whole inv (fails_then e (element_in bytes) (λ x. elements_put left (index + 1) x.1 (insert m index x.0)) none)

pub elements_end : (index : ℕ) (bytes : List ℕ) (m : Sparse) (whole : Option (Sparse × List ℕ)) → elements_put 0 index bytes m ≡ whole → whole ≡ Some (m, bytes)
unfolding elements_put
elements_end index bytes m whole inv = sym inv

-- ---- runs

pub run_step : (left least next : ℕ) (bytes after : List ℕ) (m new : Sparse) (whole : Option (Sparse × List ℕ)) → run_put least bytes m ≡ Some (new, (next, after))
    → runs_put (suc left) least bytes m ≡ whole → runs_put left next after new ≡ whole
unfolding runs_put
run_step left least next bytes after m new whole is inv = sym (ap (λ (o : Option (Sparse × (ℕ × List ℕ))). o >>= λ run. runs_put left run.1.0 run.1.1 run.0) is) ∙ inv

pub run_fails : (e : Fault) (left least : ℕ) (bytes : List ℕ) (m : Sparse) (whole : Option (Sparse × List ℕ)) → Fails e (run_put least bytes m) → runs_put (suc left) least bytes m ≡ whole → Fails e whole
unfolding runs_put
run_fails e left least bytes m whole none inv =
    fails_as e (runs_put (suc left) least bytes m) whole inv (fails_then e (run_put least bytes m) (λ run. runs_put left run.1.0 run.1.1 run.0) none)

pub runs_end : (least : ℕ) (bytes : List ℕ) (m : Sparse) (whole : Option (Sparse × List ℕ)) → runs_put 0 least bytes m ≡ whole → whole ≡ Some (m, bytes)
unfolding runs_put
runs_end least bytes m whole inv = sym inv

-- ---- members

pub member_step : (left least member : ℕ) (bytes after : List ℕ) (s : Snapshot) (elements : Sparse) (whole : Option (Snapshot × List ℕ)) → member_put least bytes ≡ Some (member, elements, after)
    → members_put (suc left) least bytes s ≡ whole → members_put left (member + 1) after (insert s (record { 0 = member }) elements) ≡ whole
unfolding members_put
member_step left least member bytes after s elements whole is inv =
    sym (ap (λ (o : Option (ℕ × Sparse × List ℕ)). o >>= λ m. members_put left (m.0 + 1) m.2 (insert s (record { 0 = m.0 }) m.1)) is) ∙ inv

pub member_fails : (e : Fault) (left least : ℕ) (bytes : List ℕ) (s : Snapshot) (whole : Option (Snapshot × List ℕ)) → Fails e (member_put least bytes) → members_put (suc left) least bytes s ≡ whole → Fails e whole
unfolding members_put
member_fails e left least bytes s whole none inv =
    fails_as e (members_put (suc left) least bytes s) whole inv (fails_then e (member_put least bytes) (λ m. members_put left (m.0 + 1) m.2 (insert s (record { 0 = m.0 }) m.1)) none)

pub members_end : (least : ℕ) (bytes : List ℕ) (s : Snapshot) (whole : Option (Snapshot × List ℕ)) → members_put 0 least bytes s ≡ whole → whole ≡ Some (s, bytes)
unfolding members_put
members_end least bytes s whole inv = sym inv
