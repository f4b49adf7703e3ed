-- The lines of items, one piece after another.
use Rattle.std.proofs.Common.{◌≡◌, ℕ, suc, ◌+◌, ◌<◌, List, [], ◌∷◌, ◌++◌, drop, get_or, length, Err, refl, sym, ap, ◌∙◌, add-one, drop-cons, arith}
use Rattle.fx_io.specs.States.{SinkState}
use Rattle.fx_io.specs.Writing.{Puts}
use Rattle.fx_io.specs.declared.whole.PutEnd.TheVariants as put_end
use Rattle.fx_item.specs.declared.item.Item.{Item}
use Rattle.fx_world.specs.declared.counts.Counts.{Counts}
use Rattle.fx_world.specs.declared.shown.Shown.{Shown}
use Rattle.fx_world.specs.Counting.{counted, counted_one}
use Rattle.fx_world.specs.Texts.{shown_text}
use Rattle.fx_world.proofs.Going.{gains_none}
use Rattle.fx_world.proofs.Lists.{shown_append}

-- want of memory before anything was written
pub unwritten : {a : SinkState} {text : List ℕ} → Puts a a text (Err put_end.NoMemory)
unwritten {a} {text} = record { content = ([], text, refl, gains_none a.written); count_never_falls = omega arith; failed_only_if_count_rose = λ e. absurd cc }

-- the text from an item on begins with what is shown of it
pub shown_from : (shown : Shown) (items : List Item) (k : ℕ) (item : Item) → k < length items → item ≡ get_or items k item →
    shown_text shown (drop k items) ≡ shown_text shown (item ∷ []) ++ shown_text shown (drop (k + 1) items)
shown_from shown items k item below is =
    ap (shown_text shown) (drop-cons items k item below)
    ∙ rw (← is, add-one) (shown_append shown (item ∷ []) (drop (suc k) items))

-- the counts of what is left from an item on
pub counted_from : (items : List Item) (k : ℕ) (item : Item) (c d whole : Counts) → k < length items → item ≡ get_or items k item → d ≡ counted_one c item →
    counted c (drop k items) ≡ whole → counted d (drop (k + 1) items) ≡ whole
counted_from items k item c d whole below is one so =
    let from : drop k items ≡ item ∷ drop (k + 1) items = drop-cons items k item below ∙ rw (← is, add-one) refl in
    ap (λ e. counted e (drop (k + 1) items)) one ∙ sym (ap (counted c) from) ∙ so
