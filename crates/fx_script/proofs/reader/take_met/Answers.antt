use Rattle.std.proofs.Common.{Ok, rules}
use Rattle.fx_script.specs.declared.keyword.Keyword.{Keyword}
use Rattle.fx_script.specs.declared.keyword.Keyword.TheVariants as keyword
use Rattle.fx_script.specs.Next.{word_of}
use Rattle.fx_script.specs.Outcome.{Gives}
use Rattle.fx_script.specs.Reading.{keyword_placed}
use Rattle.fx_script.specs.SaidLines.{Met}
use Rattle.fx_script.proofs.ByKeyword.{goes_by_keyword, stops_by_keyword}
use Rattle.fx_script.proofs.reader.take_met.Goals as goal

-- the first word can't stand here
pub returns-in_err-keyword : goal.returns-in_err-keyword
returns-in_err-keyword c =
    let met : Met = record { number = c.args.number; first = word_of c.args.first; left = c.args.cursor.now } in
    let wrong = stops_by_keyword c.args.draft.now met c.in_err-keyword.field-0.0 c.in_err-keyword.ensures in
    search rules

-- an event
pub returns-in-Event : goal.returns-in-Event
returns-in-Event c =
    let met : Met = record { number = c.args.number; first = word_of c.args.first; left = c.args.cursor.now } in
    let event : Keyword = keyword.Event c.in-Event.word in
    let is : Gives {X = Keyword} (Ok event) (keyword_placed c.args.draft.now.due_part c.args.draft.now.blocks met.first) = rw (c.in-Event.is) at c.in_ok-keyword.ensures in
    goes_by_keyword c.args.draft.now met event c.take_event.result c.take_event.new.draft is c.take_event.ensures

-- a statement without a block
pub returns-in-Simple : goal.returns-in-Simple
returns-in-Simple c =
    let met : Met = record { number = c.args.number; first = word_of c.args.first; left = c.args.cursor.now } in
    let simple : Keyword = keyword.Simple c.in-Simple.word in
    let is : Gives {X = Keyword} (Ok simple) (keyword_placed c.args.draft.now.due_part c.args.draft.now.blocks met.first) = rw (c.in-Simple.is) at c.in_ok-keyword.ensures in
    goes_by_keyword c.args.draft.now met simple c.take_simple.result c.take_simple.new.draft is c.take_simple.ensures

-- another line
pub returns-in_default : goal.returns-in_default
returns-in_default c =
    let met : Met = record { number = c.args.number; first = word_of c.args.first; left = c.args.cursor.now } in
    goes_by_keyword c.args.draft.now met c.in_ok-keyword.keyword c.take_other.result c.take_other.new.draft c.in_ok-keyword.ensures c.take_other.ensures
