-- A call over bytes in memory.
use Rattle.std.proofs.Common.{◌≡◌, ℕ, inl, inr, List, [], ◌++◌, Option, Some, refl, sym, ap, ◌∙◌, arith}
use Rattle.fx_io.specs.Faults.{Rose}
use Rattle.fx_io.specs.States.{SourceState, SinkState}
use Rattle.fx_cli.specs.declared.status.Status.{Status}
use Rattle.fx_cli.specs.declared.status.Status.TheVariants.{Done, BadWords, BadJob, ReadFault, WriteFault, NoMemory, Unfinished}
use Rattle.fx_cli.specs.Dues.{Input, IsInput, input_of, Due, due_to}
use Rattle.fx_cli.specs.Ends.{Answered, AnsweredInPart, StoppedReading, Ends, IsInMemory}
use Rattle.fx_cli.proofs.Ending.{input_is}

no_rise : Rose 0 0 → ⊥
no_rise rose = elim rose as (λ _. ⊥) [ inl lt ↦ omega (arith, lt) | inr e ↦ omega (arith, e) ]

-- a source that holds bytes in memory, and a sink in memory, neither with a fault
abbrev holding : List ℕ → SourceState
holding held = record { left = Some held; faults = 0 }

abbrev with : List ℕ → SinkState
with written = record { written = Some written; faults = 0 }

-- what was due to what came in is due to the words and the bytes held
due_is : (words : List (List ℕ)) (held : List ℕ) (left' : Option (List ℕ)) (input : Input) → IsInput words (Some held) left' input →
    due_to input ≡ due_to (input_of words held)
due_is words held left' input is = ap due_to (sym (input_is words (Some held) left' held input refl is))

whole : (words : List (List ℕ)) (held left written : List ℕ) (s : Status) → Answered words (holding held) (holding left) (with []) (with written) s →
    (s ≡ (due_to (input_of words held)).status) × (written ≡ (due_to (input_of words held)).output)
whole words held left written s e =
    let same = due_is words held (Some left) e.0 e.1 in
    (e.2 ∙ ap (λ (d : Due). d.status) same, e.3 ∙ ap (λ (d : Due). d.output) same)

in_part : (words : List (List ℕ)) (held left written : List ℕ) → AnsweredInPart words (holding held) (holding left) (with []) (with written) →
    (rest : List ℕ) × ((due_to (input_of words held)).output ≡ written ++ rest)
in_part words held left written e =
    let same = due_is words held (Some left) e.0 e.1 in
    (e.2.1, sym (ap (λ (d : Due). d.output) same) ∙ e.2.2 ∙ ap (λ (l : List ℕ). l ++ e.2.1) (sym e.2.3))

some_same : (a b : List ℕ) → Some a ≡ Some b → a ≡ b
some_same a b e = cc

nothing : (words : List (List ℕ)) (held left written output : List ℕ) → StoppedReading words (holding held) (holding left) (with []) (with written) →
    (rest : List ℕ) × (output ≡ written ++ rest)
nothing words held left written output e = (output, ap (λ (l : List ℕ). l ++ output) (sym (some_same written [] e.2)))

pub in_memory : (words : List (List ℕ)) (held left written : List ℕ) (s : Status) → Ends words (holding held) (holding left) (with []) (with written) s →
    (s ≡ ReadFault → Rose 0 0) → (s ≡ WriteFault → Rose 0 0) → IsInMemory (due_to (input_of words held)) written s
in_memory words held left written Done e r w = whole words held left written Done e
in_memory words held left written BadWords e r w = whole words held left written BadWords e
in_memory words held left written (BadJob refusal spot) e r w = whole words held left written (BadJob refusal spot) e
in_memory words held left written ReadFault e r w = no_rise (r refl)
in_memory words held left written WriteFault e r w = no_rise (w refl)
in_memory words held left written NoMemory e r w =
    elim e as (λ _. (rest : List ℕ) × ((due_to (input_of words held)).output ≡ written ++ rest))
    [ inl part ↦ in_part words held left written part | inr none ↦ nothing words held left written (due_to (input_of words held)).output none ]
in_memory words held left written Unfinished e r w = whole words held left written Unfinished e
