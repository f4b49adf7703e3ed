-- Runs and members in order, said from the first on.
use Rattle.std.proofs.Common.{◌≡◌, refl, ℕ, ◌+◌, ◌<◌, ◌≤◌, true, ◌&&◌, List, [], ◌∷◌, length, arith}
use Rattle.std.specs.Prelude.{nat_le, nat_lt}
use Rattle.std.specs.List.{list_all}
use Rattle.std.proofs.lemmas.Bool.{leb-true, le-leb, ltb-true, lt-ltb, and_parts, and_from}
use Rattle.fx_store.specs.Packed.{Run, Section, run_end, is_run, are_apart, is_element, is_section, members_rise, is_text}

-- what a run in order says
pub record GoodRun (run : Run) : Type 0 where
  pub some : 0 < length run.elements
  pub within : run_end run ≤ 256
  pub elements : list_all is_element run.elements ≡ true

pub good_run : (run : Run) → is_run run ≡ true → GoodRun run
good_run run e =
    let a = and_parts (nat_lt 0 (length run.elements)) (nat_le (run_end run) 256 && list_all is_element run.elements) e in
    let b = and_parts (nat_le (run_end run) 256) (list_all is_element run.elements) a.1 in
    record { some = ltb-true 0 (length run.elements) a.0; within = leb-true (run_end run) 256 b.0; elements = b.1 }

pub run_is_good : (run : Run) → GoodRun run → is_run run ≡ true
run_is_good run g =
    and_from (nat_lt 0 (length run.elements)) (nat_le (run_end run) 256 && list_all is_element run.elements) (lt-ltb 0 (length run.elements) g.some)
    (and_from (nat_le (run_end run) 256) (list_all is_element run.elements) (le-leb (run_end run) 256 g.within) g.elements)

-- runs in order, the first of which begins at `least` or later
abbrev pub RunsFrom : ℕ → List Run → Type 0
RunsFrom least [] = Unit {0}
RunsFrom least (run ∷ runs) = (least ≤ run.start) × GoodRun run × RunsFrom (run_end run + 1) runs

runs_go : (least : ℕ) (run : Run) (runs : List Run) → list_all is_run (run ∷ runs) ≡ true → are_apart (run ∷ runs) ≡ true → least ≤ run.start → RunsFrom least (run ∷ runs)
runs_go least run [] all apart begins = (begins, good_run run (and_parts (is_run run) true all).0, tt)
runs_go least run (next ∷ runs) all apart begins =
    let a = and_parts (is_run run) (list_all is_run (next ∷ runs)) all in
    let b = and_parts (nat_lt (run_end run) next.start) (are_apart (next ∷ runs)) apart in
    let lt : run_end run < next.start = ltb-true (run_end run) next.start b.0 in
    (begins, good_run run a.0, runs_go (run_end run + 1) next runs a.1 b.1 (omega (arith, lt)))

pub runs_from : (runs : List Run) → list_all is_run runs ≡ true → are_apart runs ≡ true → RunsFrom 0 runs
runs_from [] all apart = tt
runs_from (run ∷ runs) all apart = runs_go 0 run runs all apart (omega arith)

pub runs_all : (least : ℕ) (runs : List Run) → RunsFrom least runs → list_all is_run runs ≡ true
runs_all least [] from = refl
runs_all least (run ∷ runs) from = and_from (is_run run) (list_all is_run runs) (run_is_good run from.1) (runs_all (run_end run + 1) runs from.2)

pub runs_apart : (least : ℕ) (runs : List Run) → RunsFrom least runs → are_apart runs ≡ true
runs_apart least [] from = refl
runs_apart least (run ∷ []) from = refl
runs_apart least (run ∷ next ∷ runs) from =
    and_from (nat_lt (run_end run) next.start) (are_apart (next ∷ runs)) (lt-ltb (run_end run) next.start (omega (arith, from.2.0))) (runs_apart (run_end run + 1) (next ∷ runs) from.2)

-- ---- members

pub record GoodSection (section : Section) : Type 0 where
  pub below : section.member < 8
  pub runs : RunsFrom 0 section.runs

pub good_section : (section : Section) → is_section section ≡ true → GoodSection section
good_section section e =
    let a = and_parts (nat_lt section.member 8) (list_all is_run section.runs && are_apart section.runs) e in
    let b = and_parts (list_all is_run section.runs) (are_apart section.runs) a.1 in
    record { below = ltb-true section.member 8 a.0; runs = runs_from section.runs b.0 b.1 }

pub section_is_good : (section : Section) → GoodSection section → is_section section ≡ true
section_is_good section g =
    and_from (nat_lt section.member 8) (list_all is_run section.runs && are_apart section.runs) (lt-ltb section.member 8 g.below)
    (and_from (list_all is_run section.runs) (are_apart section.runs) (runs_all 0 section.runs g.runs) (runs_apart 0 section.runs g.runs))

-- members in order, the first of which has the number `least` or more
abbrev pub SectionsFrom : ℕ → List Section → Type 0
SectionsFrom least [] = Unit {0}
SectionsFrom least (section ∷ sections) = (least ≤ section.member) × GoodSection section × SectionsFrom (section.member + 1) sections

sections_go : (least : ℕ) (section : Section) (sections : List Section) → list_all is_section (section ∷ sections) ≡ true → members_rise (section ∷ sections) ≡ true → least ≤ section.member → SectionsFrom least (section ∷ sections)
sections_go least section [] all rise begins = (begins, good_section section (and_parts (is_section section) true all).0, tt)
sections_go least section (next ∷ sections) all rise begins =
    let a = and_parts (is_section section) (list_all is_section (next ∷ sections)) all in
    let b = and_parts (nat_lt section.member next.member) (members_rise (next ∷ sections)) rise in
    let lt : section.member < next.member = ltb-true section.member next.member b.0 in
    (begins, good_section section a.0, sections_go (section.member + 1) next sections a.1 b.1 (omega (arith, lt)))

pub sections_from : (sections : List Section) → is_text sections ≡ true → SectionsFrom 0 sections
sections_from [] e = tt
sections_from (section ∷ sections) e =
    let a = and_parts (nat_le (length (section ∷ sections)) 8) (list_all is_section (section ∷ sections) && members_rise (section ∷ sections)) e in
    let b = and_parts (list_all is_section (section ∷ sections)) (members_rise (section ∷ sections)) a.1 in
    sections_go 0 section sections b.0 b.1 (omega arith)

sections_all : (least : ℕ) (sections : List Section) → SectionsFrom least sections → list_all is_section sections ≡ true
sections_all least [] from = refl
sections_all least (section ∷ sections) from = and_from (is_section section) (list_all is_section sections) (section_is_good section from.1) (sections_all (section.member + 1) sections from.2)

sections_rise : (least : ℕ) (sections : List Section) → SectionsFrom least sections → members_rise sections ≡ true
sections_rise least [] from = refl
sections_rise least (section ∷ []) from = refl
sections_rise least (section ∷ next ∷ sections) from =
    and_from (nat_lt section.member next.member) (members_rise (next ∷ sections)) (lt-ltb section.member next.member (omega (arith, from.2.0))) (sections_rise (section.member + 1) (next ∷ sections) from.2)

-- members that rise below 8 are at most eight
pub few_sections : (least : ℕ) (sections : List Section) → least ≤ 8 → SectionsFrom least sections → length sections + least ≤ 8
few_sections least [] le from = omega arith
few_sections least (section ∷ sections) le from =
    let below : section.member < 8 = from.1.below in
    let more : length sections + (section.member + 1) ≤ 8 = few_sections (section.member + 1) sections (omega (arith, below)) from.2 in
    omega (arith, more, from.0)

pub text_is : (sections : List Section) → SectionsFrom 0 sections → is_text sections ≡ true
text_is sections from =
    let few : length sections + 0 ≤ 8 = few_sections 0 sections (omega arith) from in
    and_from (nat_le (length sections) 8) (list_all is_section sections && members_rise sections) (le-leb (length sections) 8 (omega (arith, few)))
    (and_from (list_all is_section sections) (members_rise sections) (sections_all 0 sections from) (sections_rise 0 sections from))
