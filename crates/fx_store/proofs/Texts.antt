-- The parts of a text in bytes: what is written is read again, and what is read was written so.
use Rattle.std.proofs.Common.{◌≡◌, refl, sym, ap, ◌∙◌, subst, ℕ, ℤ, zero, suc, ◌+◌, ◌^◌, ◌<◌, ◌≤◌, Bool, true, ◌&&◌, ◌==◌, List, [], ◌∷◌, ◌++◌, length, Option, Some, append_assoc, arith}
use Rattle.std.specs.Prelude.{nat_le, nat_lt}
use Rattle.std.specs.Int.{w16, to_be_bytes}
use Rattle.std.specs.List.{flat_map}
use Rattle.std.proofs.lemmas.Bool.{leb-true, le-leb, ltb-true, lt-ltb, eqb-true, and_parts, and_from}
use Rattle.fx_store.specs.Packed.{Run, Section, ◌>>=◌, only_if, run_end, byte_in, number_in, elements_in, run_in, runs_in, section_in, sections_in, text_in, element_bytes, run_bytes, section_bytes, text_bytes}
use Rattle.fx_store.proofs.Numbers.{IsBytes, bind_some, only_held, some_is, Takes, Takes-then, wide16, number_takes, number_again, elements_again, elements_take}
use Rattle.fx_store.proofs.Orders.{GoodRun, RunsFrom, GoodSection, SectionsFrom, few_sections}

-- ---- bytes

pub byte_takes : (bytes : List ℕ) (b : ℕ) (rest : List ℕ) → IsBytes bytes → byte_in bytes ≡ Some (b, rest) → Takes bytes (b ∷ []) rest
byte_takes [] b rest fits e = absurd cc
byte_takes (x ∷ xs) b rest fits e =
    subst (λ (p : ℕ × List ℕ). Takes (x ∷ xs) (p.0 ∷ []) p.1) (some_is (x, xs) (b, rest) e) (record { parts = refl; rest_fits = λ i. fits (suc i) })

-- ---- runs

-- where a run may stand
abbrev fits_at : (least start count : ℕ) → Bool
fits_at least start count = nat_le least start && (nat_lt 0 count && nat_le (start + count) 256)

pub run_again : (least : ℕ) (run : Run) (rest : List ℕ) → least ≤ run.start → GoodRun run → run_in least (run_bytes run ++ rest) ≡ Some (run, rest)
unfolding run_in
run_again least run rest begins good =
    let within : run.start + length run.elements ≤ 256 = good.within in
    let elements : List ℕ = flat_map element_bytes run.elements in
    let counted : List ℕ = to_be_bytes w16 (length run.elements) ++ (elements ++ rest) in
    let regrouped : run_bytes run ++ rest ≡ to_be_bytes w16 run.start ++ counted =
    append_assoc (to_be_bytes w16 run.start) (to_be_bytes w16 (length run.elements) ++ elements) rest
    ∙ ap (λ (x : List ℕ). to_be_bytes w16 run.start ++ x) (append_assoc (to_be_bytes w16 (length run.elements)) elements rest) in
    let stands : fits_at least run.start (length run.elements) ≡ true =
    and_from (nat_le least run.start) (nat_lt 0 (length run.elements) && nat_le (run.start + length run.elements) 256) (le-leb least run.start begins)
    (and_from (nat_lt 0 (length run.elements)) (nat_le (run.start + length run.elements) 256) (lt-ltb 0 (length run.elements) good.some) (le-leb (run.start + length run.elements) 256 within)) in
    ap (run_in least) regrouped
    ∙ rw (number_again w16 (2 ^ 16) wide16 run.start counted (omega (arith, within)), number_again w16 (2 ^ 16) wide16 (length run.elements) (elements ++ rest) (omega (arith, within)), stands, elements_again run.elements rest good.elements) refl

pub record ReadRun (least : ℕ) (bytes : List ℕ) (run : Run) (rest : List ℕ) : Type 0 where
  pub taken : Takes bytes (run_bytes run) rest
  pub begins : least ≤ run.start
  pub good : GoodRun run

pub run_takes : (least : ℕ) (bytes : List ℕ) (run : Run) (rest : List ℕ) → IsBytes bytes → run_in least bytes ≡ Some (run, rest) → ReadRun least bytes run rest
unfolding run_in
run_takes least bytes run rest fits e =
    let made : ℕ → List ℤ × List ℕ → Option (Run × List ℕ) = λ start elements. Some (record { start = start; elements = elements.0 }, elements.1) in
    let a = bind_some (number_in w16 bytes) (λ start. number_in w16 start.1 >>= λ count. only_if (fits_at least start.0 count.0) (elements_in count.0 count.1) >>= made start.0) (run, rest) e in
    let b = bind_some (number_in w16 a.0.1) (λ count. only_if (fits_at least a.0.0 count.0) (elements_in count.0 count.1) >>= made a.0.0) (run, rest) a.2 in
    let c = bind_some (only_if (fits_at least a.0.0 b.0.0) (elements_in b.0.0 b.0.1)) (made a.0.0) (run, rest) b.2 in
    let d = only_held (fits_at least a.0.0 b.0.0) (elements_in b.0.0 b.0.1) c.0 c.1 in
    let t = number_takes w16 (2 ^ 16) wide16 bytes a.0.0 a.0.1 fits a.1 in
    let u = number_takes w16 (2 ^ 16) wide16 a.0.1 b.0.0 b.0.1 t.0.rest_fits b.1 in
    let v = elements_take b.0.0 b.0.1 c.0.0 c.0.1 u.0.rest_fits d.1 in
    let p = and_parts (nat_le least a.0.0) (nat_lt 0 b.0.0 && nat_le (a.0.0 + b.0.0) 256) d.0 in
    let q = and_parts (nat_lt 0 b.0.0) (nat_le (a.0.0 + b.0.0) 256) p.1 in
    let some : 0 < b.0.0 = ltb-true 0 b.0.0 q.0 in
    let within : a.0.0 + b.0.0 ≤ 256 = leb-true (a.0.0 + b.0.0) 256 q.1 in
    let same : length c.0.0 ≡ b.0.0 = v.count_is in
    let both = Takes-then a.0.1 (to_be_bytes w16 b.0.0) b.0.1 (flat_map element_bytes c.0.0) c.0.1 u.0 v.taken in
    let whole = Takes-then bytes (to_be_bytes w16 a.0.0) a.0.1 (to_be_bytes w16 b.0.0 ++ flat_map element_bytes c.0.0) c.0.1 t.0 both in
    let exact : Takes bytes (to_be_bytes w16 a.0.0 ++ (to_be_bytes w16 (length c.0.0) ++ flat_map element_bytes c.0.0)) c.0.1 =
    subst (λ k. Takes bytes (to_be_bytes w16 a.0.0 ++ (to_be_bytes w16 k ++ flat_map element_bytes c.0.0)) c.0.1) (sym same) whole in
    subst (λ (x : Run × List ℕ). ReadRun least bytes x.0 x.1) (some_is (record { start = a.0.0; elements = c.0.0 }, c.0.1) (run, rest) c.2)
    (record {
      taken = exact;
      begins = leb-true least a.0.0 p.0;
      good = record { some = omega (arith, some, same); within = omega (arith, within, same); elements = v.fit };
    })

pub runs_again : (least : ℕ) (runs : List Run) (rest : List ℕ) → RunsFrom least runs → runs_in (length runs) least (flat_map run_bytes runs ++ rest) ≡ Some (runs, rest)
unfolding runs_in
runs_again least [] rest from = refl
runs_again least (run ∷ runs) rest from =
    let regrouped : flat_map run_bytes (run ∷ runs) ++ rest ≡ run_bytes run ++ (flat_map run_bytes runs ++ rest) = append_assoc (run_bytes run) (flat_map run_bytes runs) rest in
    ap (runs_in (suc (length runs)) least) regrouped
    ∙ rw (run_again least run (flat_map run_bytes runs ++ rest) from.0 from.1, runs_again (run_end run + 1) runs rest from.2) refl

pub record ReadRuns (count least : ℕ) (bytes : List ℕ) (runs : List Run) (rest : List ℕ) : Type 0 where
  pub taken : Takes bytes (flat_map run_bytes runs) rest
  pub count_is : length runs ≡ count
  pub from : RunsFrom least runs

pub runs_take : (count least : ℕ) (bytes : List ℕ) (runs : List Run) (rest : List ℕ) → IsBytes bytes → runs_in count least bytes ≡ Some (runs, rest) → ReadRuns count least bytes runs rest
unfolding runs_in
runs_take zero least bytes runs rest fits e =
    subst (λ (p : List Run × List ℕ). ReadRuns 0 least bytes p.0 p.1) (some_is ([], bytes) (runs, rest) e)
    (record { taken = record { parts = refl; rest_fits = fits }; count_is = refl; from = tt })
runs_take (suc count) least bytes runs rest fits e =
    let a = bind_some (run_in least bytes) (λ run. runs_in count (run_end run.0 + 1) run.1 >>= λ others. Some (run.0 ∷ others.0, others.1)) (runs, rest) e in
    let b = bind_some (runs_in count (run_end a.0.0 + 1) a.0.1) (λ others. Some (a.0.0 ∷ others.0, others.1)) (runs, rest) a.2 in
    let t = run_takes least bytes a.0.0 a.0.1 fits a.1 in
    let more = runs_take count (run_end a.0.0 + 1) a.0.1 b.0.0 b.0.1 t.taken.rest_fits b.1 in
    subst (λ (p : List Run × List ℕ). ReadRuns (suc count) least bytes p.0 p.1) (some_is (a.0.0 ∷ b.0.0, b.0.1) (runs, rest) b.2)
    (record {
      taken = Takes-then bytes (run_bytes a.0.0) a.0.1 (flat_map run_bytes b.0.0) b.0.1 t.taken more.taken;
      count_is = ap suc more.count_is;
      from = (t.begins, t.good, more.from);
    })

-- ---- members

-- runs take room, so there are few
pub few_runs : (least : ℕ) (runs : List Run) → least ≤ 257 → RunsFrom least runs → length runs + least ≤ 257
few_runs least [] le from = omega arith
few_runs least (run ∷ runs) le from =
    let within : run.start + length run.elements ≤ 256 = from.1.within in
    let more : length runs + (run.start + length run.elements + 1) ≤ 257 = few_runs (run_end run + 1) runs (omega (arith, within)) from.2 in
    omega (arith, more, from.0)

pub section_again : (least : ℕ) (section : Section) (rest : List ℕ) → least ≤ section.member → GoodSection section → section_in least (section_bytes section ++ rest) ≡ Some (section, rest)
unfolding section_in
section_again least section rest begins good =
    let runs : List ℕ = flat_map run_bytes section.runs in
    let few : length section.runs + 0 ≤ 257 = few_runs 0 section.runs (omega arith) good.runs in
    let regrouped : section_bytes section ++ rest ≡ section.member ∷ (to_be_bytes w16 (length section.runs) ++ (runs ++ rest)) =
    ap (λ (x : List ℕ). section.member ∷ x) (append_assoc (to_be_bytes w16 (length section.runs)) runs rest) in
    let stands : (nat_le least section.member && nat_lt section.member 8) ≡ true =
    and_from (nat_le least section.member) (nat_lt section.member 8) (le-leb least section.member begins) (lt-ltb section.member 8 good.below) in
    ap (section_in least) regrouped
    ∙ rw (number_again w16 (2 ^ 16) wide16 (length section.runs) (runs ++ rest) (omega (arith, few)), stands, runs_again 0 section.runs rest good.runs) refl

pub record ReadSection (least : ℕ) (bytes : List ℕ) (section : Section) (rest : List ℕ) : Type 0 where
  pub taken : Takes bytes (section_bytes section) rest
  pub begins : least ≤ section.member
  pub good : GoodSection section

pub section_takes : (least : ℕ) (bytes : List ℕ) (section : Section) (rest : List ℕ) → IsBytes bytes → section_in least bytes ≡ Some (section, rest) → ReadSection least bytes section rest
unfolding section_in
section_takes least bytes section rest fits e =
    let made : ℕ → List Run × List ℕ → Option (Section × List ℕ) = λ member runs. Some (record { member = member; runs = runs.0 }, runs.1) in
    let stands : ℕ → Bool = λ member. nat_le least member && nat_lt member 8 in
    let a = bind_some (byte_in bytes) (λ member. number_in w16 member.1 >>= λ count. only_if (stands member.0) (runs_in count.0 0 count.1) >>= made member.0) (section, rest) e in
    let b = bind_some (number_in w16 a.0.1) (λ count. only_if (stands a.0.0) (runs_in count.0 0 count.1) >>= made a.0.0) (section, rest) a.2 in
    let c = bind_some (only_if (stands a.0.0) (runs_in b.0.0 0 b.0.1)) (made a.0.0) (section, rest) b.2 in
    let d = only_held (stands a.0.0) (runs_in b.0.0 0 b.0.1) c.0 c.1 in
    let t = byte_takes bytes a.0.0 a.0.1 fits a.1 in
    let u = number_takes w16 (2 ^ 16) wide16 a.0.1 b.0.0 b.0.1 t.rest_fits b.1 in
    let v = runs_take b.0.0 0 b.0.1 c.0.0 c.0.1 u.0.rest_fits d.1 in
    let p = and_parts (nat_le least a.0.0) (nat_lt a.0.0 8) d.0 in
    let both = Takes-then a.0.1 (to_be_bytes w16 b.0.0) b.0.1 (flat_map run_bytes c.0.0) c.0.1 u.0 v.taken in
    let whole = Takes-then bytes (a.0.0 ∷ []) a.0.1 (to_be_bytes w16 b.0.0 ++ flat_map run_bytes c.0.0) c.0.1 t both in
    let exact : Takes bytes (a.0.0 ∷ (to_be_bytes w16 (length c.0.0) ++ flat_map run_bytes c.0.0)) c.0.1 =
    subst (λ k. Takes bytes (a.0.0 ∷ (to_be_bytes w16 k ++ flat_map run_bytes c.0.0)) c.0.1) (sym v.count_is) whole in
    subst (λ (x : Section × List ℕ). ReadSection least bytes x.0 x.1) (some_is (record { member = a.0.0; runs = c.0.0 }, c.0.1) (section, rest) c.2)
    (record { taken = exact; begins = leb-true least a.0.0 p.0; good = record { below = ltb-true a.0.0 8 p.1; runs = v.from } })

pub sections_again : (least : ℕ) (sections : List Section) (rest : List ℕ) → SectionsFrom least sections → sections_in (length sections) least (flat_map section_bytes sections ++ rest) ≡ Some (sections, rest)
unfolding sections_in
sections_again least [] rest from = refl
sections_again least (section ∷ sections) rest from =
    let regrouped : flat_map section_bytes (section ∷ sections) ++ rest ≡ section_bytes section ++ (flat_map section_bytes sections ++ rest) = append_assoc (section_bytes section) (flat_map section_bytes sections) rest in
    ap (sections_in (suc (length sections)) least) regrouped
    ∙ rw (section_again least section (flat_map section_bytes sections ++ rest) from.0 from.1, sections_again (section.member + 1) sections rest from.2) refl

pub record ReadSections (count least : ℕ) (bytes : List ℕ) (sections : List Section) (rest : List ℕ) : Type 0 where
  pub taken : Takes bytes (flat_map section_bytes sections) rest
  pub count_is : length sections ≡ count
  pub from : SectionsFrom least sections

pub sections_take : (count least : ℕ) (bytes : List ℕ) (sections : List Section) (rest : List ℕ) → IsBytes bytes → sections_in count least bytes ≡ Some (sections, rest) → ReadSections count least bytes sections rest
unfolding sections_in
sections_take zero least bytes sections rest fits e =
    subst (λ (p : List Section × List ℕ). ReadSections 0 least bytes p.0 p.1) (some_is ([], bytes) (sections, rest) e)
    (record { taken = record { parts = refl; rest_fits = fits }; count_is = refl; from = tt })
sections_take (suc count) least bytes sections rest fits e =
    let a = bind_some (section_in least bytes) (λ section. sections_in count (section.0.member + 1) section.1 >>= λ others. Some (section.0 ∷ others.0, others.1)) (sections, rest) e in
    let b = bind_some (sections_in count (a.0.0.member + 1) a.0.1) (λ others. Some (a.0.0 ∷ others.0, others.1)) (sections, rest) a.2 in
    let t = section_takes least bytes a.0.0 a.0.1 fits a.1 in
    let more = sections_take count (a.0.0.member + 1) a.0.1 b.0.0 b.0.1 t.taken.rest_fits b.1 in
    subst (λ (p : List Section × List ℕ). ReadSections (suc count) least bytes p.0 p.1) (some_is (a.0.0 ∷ b.0.0, b.0.1) (sections, rest) b.2)
    (record {
      taken = Takes-then bytes (section_bytes a.0.0) a.0.1 (flat_map section_bytes b.0.0) b.0.1 t.taken more.taken;
      count_is = ap suc more.count_is;
      from = (t.begins, t.good, more.from);
    })

-- ---- a text

pub text_again : (sections : List Section) (rest : List ℕ) → SectionsFrom 0 sections → text_in (text_bytes sections ++ rest) ≡ Some (sections, rest)
unfolding text_in
text_again sections rest from =
    let few : length sections + 0 ≤ 8 = few_sections 0 sections (omega arith) from in
    rw (le-leb (length sections) 8 (omega (arith, few)), sections_again 0 sections rest from) refl

pub record ReadText (bytes : List ℕ) (sections : List Section) (rest : List ℕ) : Type 0 where
  pub taken : Takes bytes (text_bytes sections) rest
  pub from : SectionsFrom 0 sections

pub text_takes : (bytes : List ℕ) (sections : List Section) (rest : List ℕ) → IsBytes bytes → text_in bytes ≡ Some (sections, rest) → ReadText bytes sections rest
unfolding text_in
text_takes bytes sections rest fits e =
    let marked : ℕ → ℕ → ℕ → ℕ → Bool = λ f s v c. f == 70 && (s == 88 && (v == 1 && nat_le c 8)) in
    let a = bind_some (byte_in bytes) (λ first. byte_in first.1 >>= λ second. byte_in second.1 >>= λ version. byte_in version.1 >>= λ count. only_if (marked first.0 second.0 version.0 count.0) (sections_in count.0 0 count.1)) (sections, rest) e in
    let b = bind_some (byte_in a.0.1) (λ second. byte_in second.1 >>= λ version. byte_in version.1 >>= λ count. only_if (marked a.0.0 second.0 version.0 count.0) (sections_in count.0 0 count.1)) (sections, rest) a.2 in
    let c = bind_some (byte_in b.0.1) (λ version. byte_in version.1 >>= λ count. only_if (marked a.0.0 b.0.0 version.0 count.0) (sections_in count.0 0 count.1)) (sections, rest) b.2 in
    let d = bind_some (byte_in c.0.1) (λ count. only_if (marked a.0.0 b.0.0 c.0.0 count.0) (sections_in count.0 0 count.1)) (sections, rest) c.2 in
    let f = only_held (marked a.0.0 b.0.0 c.0.0 d.0.0) (sections_in d.0.0 0 d.0.1) (sections, rest) d.2 in
    let p = and_parts (a.0.0 == 70) (b.0.0 == 88 && (c.0.0 == 1 && nat_le d.0.0 8)) f.0 in
    let q = and_parts (b.0.0 == 88) (c.0.0 == 1 && nat_le d.0.0 8) p.1 in
    let r = and_parts (c.0.0 == 1) (nat_le d.0.0 8) q.1 in
    let ta = byte_takes bytes a.0.0 a.0.1 fits a.1 in
    let tb = byte_takes a.0.1 b.0.0 b.0.1 ta.rest_fits b.1 in
    let tc = byte_takes b.0.1 c.0.0 c.0.1 tb.rest_fits c.1 in
    let td = byte_takes c.0.1 d.0.0 d.0.1 tc.rest_fits d.1 in
    let v = sections_take d.0.0 0 d.0.1 sections rest td.rest_fits f.1 in
    let s3 = Takes-then c.0.1 (d.0.0 ∷ []) d.0.1 (flat_map section_bytes sections) rest td v.taken in
    let s2 = Takes-then b.0.1 (c.0.0 ∷ []) c.0.1 (d.0.0 ∷ flat_map section_bytes sections) rest tc s3 in
    let s1 = Takes-then a.0.1 (b.0.0 ∷ []) b.0.1 (c.0.0 ∷ d.0.0 ∷ flat_map section_bytes sections) rest tb s2 in
    let s0 = Takes-then bytes (a.0.0 ∷ []) a.0.1 (b.0.0 ∷ c.0.0 ∷ d.0.0 ∷ flat_map section_bytes sections) rest ta s1 in
    let is : a.0.0 ∷ b.0.0 ∷ c.0.0 ∷ d.0.0 ∷ flat_map section_bytes sections ≡ text_bytes sections =
    (λ i. eqb-true a.0.0 70 p.0 i ∷ eqb-true b.0.0 88 q.0 i ∷ eqb-true c.0.0 1 r.0 i ∷ sym v.count_is i ∷ flat_map section_bytes sections) in
    record { taken = subst (λ (x : List ℕ). Takes bytes x rest) is s0; from = v.from }
