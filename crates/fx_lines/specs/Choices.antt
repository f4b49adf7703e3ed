-- Fields that are one of a few words.
use Rattle.std.specs.Prelude.{ℕ, Bool, true, false, List, [], ◌∷◌, codes}
use Rattle.fx_base.specs.declared.names.Role.{Role}
use Rattle.fx_base.specs.declared.names.Role.TheVariants as role
use Rattle.fx_base.specs.declared.names.Op.{Op}
use Rattle.fx_base.specs.declared.names.Op.TheVariants as op
use Rattle.fx_base.specs.declared.names.How.{How}
use Rattle.fx_base.specs.declared.names.How.TheVariants as how
use Rattle.fx_item.specs.declared.answer.Answer.{Answer}
use Rattle.fx_item.specs.declared.answer.Answer.TheVariants as answer
use Rattle.fx_item.specs.declared.answer.Refusable.{Refusable}
use Rattle.fx_item.specs.declared.answer.Refusable.TheVariants as refusable
use Rattle.fx_lines.specs.Forms.{WordForm, choice}

-- how a process came to its place
abbrev pub role_word : Role → List ℕ
role_word role.Initial = codes "initial"
role_word role.Survivor = codes "survivor"
role_word role.Recovered = codes "recovered"

-- any role
abbrev pub a_role : WordForm Role
a_role = choice role_word (λ r. true) (role.Initial ∷ role.Survivor ∷ role.Recovered ∷ [])

-- what a reduction makes of its numbers
abbrev pub op_word : Op → List ℕ
op_word op.Sum = codes "sum"
op_word op.Min = codes "min"
op_word op.Max = codes "max"

-- any of the three
abbrev pub an_op : WordForm Op
an_op = choice op_word (λ o. true) (op.Sum ∷ op.Min ∷ op.Max ∷ [])

-- what a creation found of the data
abbrev pub how_word : How → List ℕ
how_word how.Fresh = codes "fresh"
how_word how.Kept = codes "kept"
how_word how.Lost = codes "lost"

-- any of the three
abbrev pub a_how : WordForm How
a_how = choice how_word (λ h. true) (how.Fresh ∷ how.Kept ∷ how.Lost ∷ [])

-- whether there are fewer places than the job asks for, since no spare is left
abbrev pub warning_word : Bool → List ℕ
warning_word true = codes "spares-depleted"
warning_word false = codes "full"

-- either
abbrev pub a_warning : WordForm Bool
a_warning = choice warning_word (λ w. true) (true ∷ false ∷ [])

-- the word with which a statement begins
abbrev pub statement_word : Refusable → List ℕ
statement_word refusable.Group = codes "group"
statement_word refusable.Member = codes "member"
statement_word refusable.Store = codes "store"
statement_word refusable.Commit = codes "commit"
statement_word refusable.CommitBarrier = codes "commitbarrier"
statement_word refusable.Restore = codes "restore"
statement_word refusable.Drop = codes "drop"

-- any of the seven
abbrev pub a_statement : WordForm Refusable
a_statement = choice statement_word (λ s. true)
    (refusable.Group ∷ refusable.Member ∷ refusable.Store ∷ refusable.Commit ∷ refusable.CommitBarrier ∷ refusable.Restore ∷ refusable.Drop ∷ [])

-- why it was refused
abbrev pub answer_word : Answer → List ℕ
answer_word answer.NotCreated = codes "NotCreated"
answer_word answer.NotAttached = codes "NotAttached"
answer_word answer.NoStamp = codes "NoStamp"
answer_word answer.NotStored = codes "NotStored"
answer_word answer.AlreadyCreated = codes "AlreadyCreated"
answer_word answer.Full = codes "Full"

-- any of the six
abbrev pub an_answer : WordForm Answer
an_answer = choice answer_word (λ a. true)
    (answer.NotCreated ∷ answer.NotAttached ∷ answer.NoStamp ∷ answer.NotStored ∷ answer.AlreadyCreated ∷ answer.Full ∷ [])
