-- The first words of lines.
use Rattle.std.specs.Prelude.{◌≡◌, ℕ, List, [], ◌∷◌, ◌==◌, Bool, get_or, Option, Some, None, codes, refl}
use Rattle.std.specs.List.{find}
use Rattle.std.specs.Str.{bytes_eq}
use Rattle.fx_script.specs.declared.keyword.Keyword.{Keyword}
use Rattle.fx_script.specs.declared.keyword.Keyword.TheVariants as k
use Rattle.fx_script.specs.declared.keyword.PartWord.{PartWord}
use Rattle.fx_script.specs.declared.keyword.PartWord.TheVariants as part
use Rattle.fx_script.specs.declared.keyword.EdgeWord.{EdgeWord}
use Rattle.fx_script.specs.declared.keyword.EdgeWord.TheVariants as edge
use Rattle.fx_script.specs.declared.keyword.SimpleWord.{SimpleWord}
use Rattle.fx_script.specs.declared.keyword.SimpleWord.TheVariants as simple_word
use Rattle.fx_script.specs.declared.keyword.EventWord.{EventWord}
use Rattle.fx_script.specs.declared.keyword.EventWord.TheVariants as event

-- the word of a line between the parts of a job
abbrev pub part_text : PartWord → List ℕ
part_text part.Fenix = codes "fenix"
part_text part.Ranks = codes "ranks"
part_text part.Spares = codes "spares"
part_text part.Separation = codes "separation"
part_text part.Array = codes "array"
part_text part.Counter = codes "counter"
part_text part.Callback = codes "callback"
part_text part.EndCallback = codes "endcallback"
part_text part.Begin = codes "begin"
part_text part.End = codes "end"
part_text part.Schedule = codes "schedule"
part_text part.Stop = codes "stop"

-- the word of a line that opens, divides or closes a block
abbrev pub edge_text : EdgeWord → List ℕ
edge_text edge.When = codes "when"
edge_text edge.EndWhen = codes "endwhen"
edge_text edge.If = codes "if"
edge_text edge.Else = codes "else"
edge_text edge.EndIf = codes "endif"
edge_text edge.For = codes "for"
edge_text edge.EndFor = codes "endfor"

-- the word of a statement without a block
abbrev pub simple_text : SimpleWord → List ℕ
simple_text simple_word.Let = codes "let"
simple_text simple_word.Set = codes "set"
simple_text simple_word.Print = codes "print"
simple_text simple_word.Register = codes "register"
simple_text simple_word.Barrier = codes "barrier"
simple_text simple_word.Sum = codes "sum"
simple_text simple_word.Min = codes "min"
simple_text simple_word.Max = codes "max"
simple_text simple_word.Agree = codes "agree"
simple_text simple_word.Shift = codes "shift"
simple_text simple_word.Group = codes "group"
simple_text simple_word.Member = codes "member"
simple_text simple_word.Store = codes "store"
simple_text simple_word.Commit = codes "commit"
simple_text simple_word.CommitBarrier = codes "commitbarrier"
simple_text simple_word.Restore = codes "restore"
simple_text simple_word.Drop = codes "drop"

-- the word of an event
abbrev pub event_text : EventWord → List ℕ
event_text event.Step = codes "step"
event_text event.Rest = codes "rest"
event_text event.Deliver = codes "deliver"
event_text event.Kill = codes "kill"
event_text event.Notice = codes "notice"
event_text event.Run = codes "run"

-- the word that stands for a keyword
abbrev pub keyword_text : Keyword → List ℕ
keyword_text (k.Part word) = part_text word
keyword_text (k.Edge word) = edge_text word
keyword_text (k.Simple word) = simple_text word
keyword_text (k.Event word) = event_text word

-- all keywords
abbrev pub keywords : List Keyword
keywords =
    k.Event event.Step
    ∷ k.Simple simple_word.Print
    ∷ k.Simple simple_word.Let
    ∷ k.Simple simple_word.Set
    ∷ k.Simple simple_word.Register
    ∷ k.Simple simple_word.Barrier
    ∷ k.Simple simple_word.Sum
    ∷ k.Simple simple_word.Min
    ∷ k.Simple simple_word.Max
    ∷ k.Simple simple_word.Agree
    ∷ k.Simple simple_word.Shift
    ∷ k.Simple simple_word.Group
    ∷ k.Simple simple_word.Member
    ∷ k.Simple simple_word.Store
    ∷ k.Simple simple_word.Commit
    ∷ k.Simple simple_word.CommitBarrier
    ∷ k.Simple simple_word.Restore
    ∷ k.Simple simple_word.Drop
    ∷ k.Edge edge.When
    ∷ k.Edge edge.EndWhen
    ∷ k.Edge edge.If
    ∷ k.Edge edge.Else
    ∷ k.Edge edge.EndIf
    ∷ k.Edge edge.For
    ∷ k.Edge edge.EndFor
    ∷ k.Event event.Rest
    ∷ k.Event event.Deliver
    ∷ k.Event event.Kill
    ∷ k.Event event.Notice
    ∷ k.Event event.Run
    ∷ k.Part part.Fenix
    ∷ k.Part part.Ranks
    ∷ k.Part part.Spares
    ∷ k.Part part.Separation
    ∷ k.Part part.Array
    ∷ k.Part part.Counter
    ∷ k.Part part.Callback
    ∷ k.Part part.EndCallback
    ∷ k.Part part.Begin
    ∷ k.Part part.End
    ∷ k.Part part.Schedule
    ∷ k.Part part.Stop
    ∷ []

-- whether a keyword's word begins with this letter
abbrev pub begins_with : ℕ → Keyword → Bool
begins_with letter keyword = get_or (keyword_text keyword) 0 0 == letter

-- whether a word stands for this keyword
abbrev pub stands_for : List ℕ → Keyword → Bool
stands_for word keyword = bytes_eq word (keyword_text keyword)

-- the keyword that a word stands for
abbrev pub keyword_of : List ℕ → Option Keyword
keyword_of word = find (stands_for word) keywords

stop_is_one : keyword_of (codes "stop") ≡ Some (k.Part part.Stop)
stop_is_one = refl

stops_is_none : keyword_of (codes "stops") ≡ None
stops_is_none = refl
