-- What one line does to a draft.
use Rattle.std.proofs.Common.{◌≡◌, ℕ, ◌+◌, false, ◌∷◌, length, Some, Ok, refl}
use Rattle.fx_text.specs.Lines.{Line}
use Rattle.fx_text.specs.Words.{Word, words_of}
use Rattle.fx_script.specs.declared.draft.Draft.{Draft}
use Rattle.fx_script.specs.Left.{Left}
use Rattle.fx_script.specs.Comments.{is_comment}
use Rattle.fx_script.specs.Reading.{sound, taken, line_taken}

-- a sound line with words that is no comment does what is met in it
pub met_line : (d : Draft) (number : ℕ) (line : Line) (w : Word) (left : Left) → sound line ≡ Ok tt → words_of line.bytes ≡ w ∷ left.words
    → left.past ≡ length line.bytes + 1 → is_comment w ≡ false → line_taken d number line ≡ taken d (Some (record { number = number; first = w; left = left }))
met_line d number line w left fine words past said = rw (fine, words, said, ← past) refl
