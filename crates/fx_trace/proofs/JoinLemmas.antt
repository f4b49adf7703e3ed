-- A row with a slot that a process joins with, read as a value that wraps the slot.
use Rattle.std.proofs.Common.{◌≡◌, ℕ, ◌+◌, List, [], ◌∷◌, Option, Some, None, refl, sym, ap, subst, ◌∙◌}
use Rattle.std.specs.Prelude.{Result, Ok, Err}
use Rattle.std.specs.Option.{option_map}
use Rattle.fx_item.specs.declared.item.Item.TheVariants as item
use Rattle.fx_link.specs.declared.message.Message.TheVariants as message
use Rattle.fx_link.specs.declared.slot.Slot.{Slot}
use Rattle.fx_lines.specs.declared.fault.ItemFault.{ItemFault}
use Rattle.fx_lines.specs.Fields.{an_epoch}
use Rattle.fx_lines.specs.Forms.{WordForm, Form, and_then, before, made, nothing, wrapped}
use Rattle.fx_lines.specs.Slots.{a_join_kind, a_process}
use Rattle.fx_trace.specs.Reads.{Gives}
use Rattle.fx_trace.specs.declared.read.ReadItem.{ReadItem}
use Rattle.fx_trace.specs.declared.read.ReadItem.TheVariants as read_item
use Rattle.fx_trace.specs.declared.read_word.JoinKind.{JoinKind}

twice_made : {A B C : Type 0} (f : A → B) (g : B → C) (r : Result A ItemFault) → made g (made f r) ≡ made (λ a. g (f a)) r
twice_made f g (Ok a) = refl
twice_made f g (Err fault) = refl

wrapped_then : {A B C : Type 0} (wrap : A → B) (k : ℕ) (a : Option A) (rest : Result C ItemFault) → and_then k (option_map wrap a) rest ≡ made (λ v. (wrap v.0, v.1)) (and_then k a rest)
wrapped_then wrap k None rest = refl
wrapped_then wrap k (Some a) (Ok c) = refl
wrapped_then wrap k (Some a) (Err fault) = refl

then_made : {A B C : Type 0} (f : B → C) (k : ℕ) (a : Option A) (rest : Result B ItemFault) → and_then k a (made f rest) ≡ made (λ v. (v.0, f v.1)) (and_then k a rest)
then_made f k None rest = refl
then_made f k (Some a) (Ok c) = refl
then_made f k (Some a) (Err fault) = refl

-- a field that wraps another one, and a field in front of such a row
read_wrapped : {A B C : Type 0} (wrap : A → B) (inside : B → A) (form : WordForm A) (rest : Form C) (k : ℕ) (words : List (List ℕ))
    → (before (wrapped wrap inside form) rest).read k words ≡ made (λ v. (wrap v.0, v.1)) ((before form rest).read k words)
read_wrapped wrap inside form rest k [] = refl
read_wrapped wrap inside form rest k (word ∷ words) = wrapped_then wrap k (form.read word) (rest.read (k + 1) words)

read_behind : {A B C : Type 0} (f : B → C) (first : WordForm A) (rest : Form B) (made_rest : Form C) → ((k : ℕ) (words : List (List ℕ)) → made_rest.read k words ≡ made f (rest.read k words))
    → (k : ℕ) (words : List (List ℕ)) → (before first made_rest).read k words ≡ made (λ v. (v.0, f v.1)) ((before first rest).read k words)
read_behind f first rest made_rest same k [] = refl
read_behind f first rest made_rest same k (word ∷ words) = ap (and_then k (first.read word)) (same (k + 1) words) ∙ then_made f k (first.read word) (rest.read (k + 1) words)

abbrev pub wrap : Slot → JoinKind
wrap slot = record { 0 = slot }

-- how the code's row ends
abbrev pub joined_with : WordForm JoinKind
joined_with = wrapped wrap (λ kind. kind.0) a_join_kind

epoch_and_kind : (k : ℕ) (words : List (List ℕ))
    → (before an_epoch (before joined_with nothing)).read k words ≡ made (λ v. (v.0, (wrap v.1.0, v.1.1))) ((before an_epoch (before a_join_kind nothing)).read k words)
epoch_and_kind = read_behind (λ v. (wrap v.0, v.1)) an_epoch (before a_join_kind nothing) (before joined_with nothing) (read_wrapped wrap (λ kind. kind.0) a_join_kind nothing)

pub message_joined : (k : ℕ) (words : List (List ℕ))
    → made (λ v. message.Join v.0 v.1.0) ((before an_epoch (before a_join_kind nothing)).read k words) ≡ made (λ v. message.Join v.0 v.1.0.0) ((before an_epoch (before joined_with nothing)).read k words)
message_joined k words =
    sym (ap (made (λ v. message.Join v.0 v.1.0.0)) (epoch_and_kind k words) ∙ twice_made (λ v. (v.0, (wrap v.1.0, v.1.1))) (λ v. message.Join v.0 v.1.0.0) ((before an_epoch (before a_join_kind nothing)).read k words))

pub item_joined : (k : ℕ) (words : List (List ℕ))
    → made (λ v. item.Join v.0 v.1.0 v.1.1.0) ((before a_process (before an_epoch (before a_join_kind nothing))).read k words)
    ≡ made (λ v. item.Join v.0 v.1.0 v.1.1.0.0) ((before a_process (before an_epoch (before joined_with nothing))).read k words)
item_joined k words =
    let same = read_behind (λ v. (v.0, (wrap v.1.0, v.1.1))) a_process (before an_epoch (before a_join_kind nothing)) (before an_epoch (before joined_with nothing)) epoch_and_kind k words in
    sym (ap (made (λ v. item.Join v.0 v.1.0 v.1.1.0.0)) same
    ∙ twice_made (λ v. (v.0, (v.1.0, (wrap v.1.1.0, v.1.1.1)))) (λ v. item.Join v.0 v.1.0 v.1.1.0.0) ((before a_process (before an_epoch (before a_join_kind nothing))).read k words))

refused_made : {A B : Type 0} (f : A → B) (e : ReadItem) (reading : Result A ItemFault) → Gives {A = A} (Err e) reading → Gives {A = B} (Err e) (made f reading)
refused_made f read_item.NoMemory reading h = tt
refused_made f (read_item.Refused fault) reading h = ap (made f) h

-- a refusal of the code's row is one of what is made of it
pub refuses : {A B : Type 0} (f : A → B) (result : Result B ReadItem) (e : ReadItem) (reading : Result A ItemFault) (whole : Result B ItemFault) → result ≡ Err e → whole ≡ made f reading
    → Gives {A = A} (Err e) reading → Gives result whole
refuses f result e reading whole is_err is_made h =
    subst (λ r. Gives r whole) (sym is_err) (subst (λ m. Gives (Err e) m) (sym is_made) (refused_made f e reading h))
