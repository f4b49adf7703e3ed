-- The laws of packed snapshots.
use Rattle.std.proofs.Common.{◌≡◌, refl, sym, ap, ◌∙◌, subst, ℕ, zero, suc, ◌+◌, ◌-◌, ◌*◌, ◌/◌, ◌^◌, ◌<◌, ◌≤◌, true, List, [], ◌∷◌, ◌++◌, length, take, drop, Option, Some, None, arith, lit≤}
use Rattle.std.specs.Int.{w16, w64, to_be_bytes, byte_at, bytes_high_first, cast_unsigned}
use Rattle.std.specs.List.{flat_map}
use Rattle.std.proofs.lemmas.List.{take_at, take-append-drop, length-append}
use Rattle.std.proofs.lemmas.Option.{none-some}
use Rattle.std.proofs.Math.Nat.{mod-lt}
use Rattle.fx_base.specs.declared.snapshot.Snapshot.{Snapshot}
use Rattle.fx_store.specs.Redundancy.{IsPayload}
use Rattle.fx_store.specs.Packed.{Run, Section, ◌>>=◌, run_end, element_bytes, run_bytes, section_bytes, text_bytes, snapshot_of, sections_of, spelling_of, has_spelling, Spells, text_in, snapshot_in}
use Rattle.fx_store.proofs.Numbers.{IsBytes, bind_some, some_is}
use Rattle.fx_store.proofs.Orders.{RunsFrom, SectionsFrom, sections_from, few_sections, text_is}
use Rattle.fx_store.proofs.Texts.{text_again, text_takes}
use Rattle.fx_store.proofs.Meanings.{sections_again, snapshot_again, sections_in_order, meaning_has_spelling}

-- what can be written is spelled by its spelling
pub spelled : (s : Snapshot) → has_spelling s ≡ true → Spells (spelling_of s) s
spelled s e = record { sections = sections_of s; in_order = text_is (sections_of s) (sections_in_order s e); spelled = refl; meant = sym (snapshot_again s) }

-- and nothing else is spelled
pub only_spelled : (bytes : List ℕ) (s : Snapshot) → Spells bytes s → has_spelling s ≡ true
only_spelled bytes s p = ap has_spelling p.meant ∙ meaning_has_spelling p.sections (sections_from p.sections p.in_order)

-- the parts of a text are those of its snapshot
parts_are : (bytes : List ℕ) (s : Snapshot) (p : Spells bytes s) → p.sections ≡ sections_of s
parts_are bytes s p = sym (sections_again p.sections (sections_from p.sections p.in_order)) ∙ ap sections_of (sym p.meant)

-- each snapshot has one spelling
pub spelling_is : (bytes : List ℕ) (s : Snapshot) → Spells bytes s → bytes ≡ spelling_of s
spelling_is bytes s p = p.spelled ∙ ap text_bytes (parts_are bytes s p)

pub one_spelling : (a b : List ℕ) (s : Snapshot) → Spells a s → Spells b s → a ≡ b
one_spelling a b s p q = spelling_is a s p ∙ sym (spelling_is b s q)

-- the parts are read from the front of any bytes
parts_again : (a more : List ℕ) (s : Snapshot) (p : Spells a s) → text_in (a ++ more) ≡ Some (p.sections, more)
parts_again a more s p = ap (λ x. text_in (x ++ more)) p.spelled ∙ text_again p.sections more (sections_from p.sections p.in_order)

abbrev Parts : Type 0
Parts = List Section × List ℕ

pub read_again : (a more : List ℕ) (s : Snapshot) → Spells a s → snapshot_in (a ++ more) ≡ Some (s, length a)
read_again a more s p =
    let used : length (a ++ more) - length more ≡ length a = omega (arith, length-append a more) in
    ap (λ o. o >>= λ (t : Parts). Some (snapshot_of t.0, length (a ++ more) - length t.1)) (parts_again a more s p)
    ∙ (λ i. Some (sym p.meant i, used i))

-- no spelling is a front of another
pub no_front : (a b x y : List ℕ) (s t : Snapshot) → Spells a s → Spells b t → a ++ x ≡ b ++ y → (a ≡ b) × (s ≡ t)
no_front a b x y s t p q same =
    let read : Parts × Parts = ((p.sections, x), (q.sections, y)) in
    let is : read.0 ≡ read.1 = some_is read.0 read.1 (sym (parts_again a x s p) ∙ ap text_in same ∙ parts_again b y t q) in
    let parts : p.sections ≡ q.sections = ap (λ (r : Parts). r.0) is in
    (p.spelled ∙ ap text_bytes parts ∙ sym q.spelled, p.meant ∙ ap snapshot_of parts ∙ sym q.meant)

-- what is read is spelled by the front that it takes
pub read_is : (bytes : List ℕ) (s : Snapshot) (used : ℕ) → IsBytes bytes → snapshot_in bytes ≡ Some (s, used) → (used ≤ length bytes) × Spells (take used bytes) s
read_is bytes s used fits e =
    let a = bind_some (text_in bytes) (λ (t : Parts). Some (snapshot_of t.0, length bytes - length t.1)) (s, used) e in
    let t = text_takes bytes a.0.0 a.0.1 fits a.1 in
    let front : List ℕ = text_bytes a.0.0 in
    let is = some_is (snapshot_of a.0.0, length bytes - length a.0.1) (s, used) a.2 in
    let parts : bytes ≡ front ++ a.0.1 = t.taken.parts in
    let len : length bytes ≡ length front + length a.0.1 = ap length parts ∙ length-append front a.0.1 in
    let used-is : used ≡ length front = sym (ap (λ (r : Snapshot × ℕ). r.1) is) ∙ omega (arith, len) in
    let taken : take used bytes ≡ front = (λ i. take (used-is i) (parts i)) ∙ take_at front a.0.1 (length front) refl in (
      omega (arith, used-is, len),
      record { sections = a.0.0; in_order = text_is a.0.0 t.from; spelled = taken; meant = sym (ap (λ (r : Snapshot × ℕ). r.0) is) },
    )

-- where nothing is read, no front is spelled
pub none_is : (bytes : List ℕ) → snapshot_in bytes ≡ None → (k : ℕ) (s : Snapshot) → Spells (take k bytes) s → ⊥
none_is bytes e k s p =
    let read : snapshot_in bytes ≡ Some (s, length (take k bytes)) = ap snapshot_in (sym (take-append-drop k bytes)) ∙ read_again (take k bytes) (drop k bytes) s p in
    none-some (s, length (take k bytes)) (sym e ∙ read)

-- and where no front is spelled, nothing is read
pub is_none : (bytes : List ℕ) → IsBytes bytes → ((k : ℕ) (s : Snapshot) → Spells (take k bytes) s → ⊥) → snapshot_in bytes ≡ None
is_none bytes fits never = go (snapshot_in bytes) refl
  where
    go : (o : Option (Snapshot × ℕ)) → snapshot_in bytes ≡ o → o ≡ None
    go None e = refl
    go (Some r) e = absurd (never r.1 r.0 (read_is bytes r.0 r.1 fits e).1)

-- ---- how long spellings are

elements_len : (xs : List _) → length (flat_map element_bytes xs) ≡ 8 * length xs
elements_len [] = refl
elements_len (x ∷ xs) = length-append (element_bytes x) (flat_map element_bytes xs) ∙ omega (arith, elements_len xs)

run_len : (run : Run) → length (run_bytes run) ≡ 4 + 8 * length run.elements
run_len run =
    length-append (to_be_bytes w16 run.start) (to_be_bytes w16 (length run.elements) ++ flat_map element_bytes run.elements)
    ∙ omega (arith, length-append (to_be_bytes w16 (length run.elements)) (flat_map element_bytes run.elements), elements_len run.elements)

runs_len : (least : ℕ) (runs : List Run) → least ≤ 257 → RunsFrom least runs → length (flat_map run_bytes runs) + 12 * least ≤ 12 * 257
runs_len least [] le from = omega arith
runs_len least (run ∷ runs) le from =
    let within : run.start + length run.elements ≤ 256 = from.1.within in
    let some : 0 < length run.elements = from.1.some in
    let more : length (flat_map run_bytes runs) + 12 * (run.start + length run.elements + 1) ≤ 12 * 257 = runs_len (run_end run + 1) runs (omega (arith, within)) from.2 in
    omega (arith, length-append (run_bytes run) (flat_map run_bytes runs), run_len run, more, from.0, some)

sections_len : (least : ℕ) (sections : List Section) → least ≤ 8 → SectionsFrom least sections → length (flat_map section_bytes sections) + 3087 * least ≤ 3087 * 8
sections_len least [] le from = omega arith
sections_len least (section ∷ sections) le from =
    let below : section.member < 8 = from.1.below in
    let runs : length (flat_map run_bytes section.runs) + 12 * 0 ≤ 12 * 257 = runs_len 0 section.runs (omega arith) from.1.runs in
    let own : length (section_bytes section) ≡ 3 + length (flat_map run_bytes section.runs) = omega (arith, length-append (to_be_bytes w16 (length section.runs)) (flat_map run_bytes section.runs)) in
    let more : length (flat_map section_bytes sections) + 3087 * (section.member + 1) ≤ 3087 * 8 = sections_len (section.member + 1) sections (omega (arith, below)) from.2 in
    omega (arith, length-append (section_bytes section) (flat_map section_bytes sections), own, runs, more, from.0)

-- spelled bytes are bytes that the laws of redundancy speak of
pub spelled_payload : (bytes : List ℕ) (s : Snapshot) → Spells bytes s → IsPayload bytes
spelled_payload bytes s p =
    let len : length (flat_map section_bytes p.sections) + 3087 * 0 ≤ 3087 * 8 = sections_len 0 p.sections (omega arith) (sections_from p.sections p.in_order) in
    let is : length bytes ≡ 4 + length (flat_map section_bytes p.sections) = ap length p.spelled ∙ omega arith in
    (omega (arith, is), omega (arith, is, len))

-- ---- spelled bytes are bytes

abbrev EachByte : List ℕ → Type 0
EachByte [] = Unit {0}
EachByte (b ∷ bytes) = (b < 256) × EachByte bytes

each_joined : (a b : List ℕ) → EachByte a → EachByte b → EachByte (a ++ b)
each_joined [] b h k = k
each_joined (x ∷ a) b h k = (h.0, each_joined a b h.1 k)

each_of_all : {X : Type 0} (f : X → List ℕ) (xs : List X) → ((x : X) → EachByte (f x)) → EachByte (flat_map f xs)
each_of_all f [] h = tt
each_of_all f (x ∷ xs) h = each_joined (f x) (flat_map f xs) (h x) (each_of_all f xs h)

byte_below : (k n : ℕ) → byte_at k n < 256
byte_below zero n = mod-lt n (omega arith)
byte_below (suc k) n = mod-lt (n / 256 ^ suc k) (omega arith)

number_each : (k n : ℕ) → EachByte (bytes_high_first k n)
number_each zero n = tt
number_each (suc k) n = (byte_below k n, number_each k n)

run_each : (run : Run) → EachByte (run_bytes run)
run_each run =
    each_joined (to_be_bytes w16 run.start) (to_be_bytes w16 (length run.elements) ++ flat_map element_bytes run.elements) (number_each 2 run.start)
    (each_joined (to_be_bytes w16 (length run.elements)) (flat_map element_bytes run.elements) (number_each 2 (length run.elements))
    (each_of_all element_bytes run.elements (λ x. number_each 8 (cast_unsigned w64 x))))

sections_each : (least : ℕ) (sections : List Section) → SectionsFrom least sections → EachByte (flat_map section_bytes sections)
sections_each least [] from = tt
sections_each least (section ∷ sections) from =
    let below : section.member < 8 = from.1.below in
    each_joined (section_bytes section) (flat_map section_bytes sections)
    (omega (arith, below), each_joined (to_be_bytes w16 (length section.runs)) (flat_map run_bytes section.runs) (number_each 2 (length section.runs)) (each_of_all run_bytes section.runs run_each))
    (sections_each (section.member + 1) sections from.2)

each_at : (bytes : List ℕ) → EachByte bytes → IsBytes bytes
each_at [] h i = omega arith
each_at (b ∷ bytes) h zero = h.0
each_at (b ∷ bytes) h (suc i) = each_at bytes h.1 i

pub spelled_bytes : (bytes : List ℕ) (s : Snapshot) → Spells bytes s → IsBytes bytes
spelled_bytes bytes s p =
    let from : SectionsFrom 0 p.sections = sections_from p.sections p.in_order in
    let few : length p.sections + 0 ≤ 8 = few_sections 0 p.sections (omega arith) from in
    let each : EachByte (text_bytes p.sections) = (lit≤ tt, (lit≤ tt, (lit≤ tt, (omega (arith, few), sections_each 0 p.sections from)))) in
    each_at bytes (subst EachByte (sym p.spelled) each)
