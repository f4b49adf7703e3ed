-- What the words behind a line's keyword say.
use Rattle.std.specs.Prelude.{Result, Ok, codes}
use Rattle.fx_base.specs.declared.spot.Spot.{Spot}
use Rattle.fx_script.specs.declared.head.EdgeHead.{EdgeHead}
use Rattle.fx_script.specs.declared.head.EdgeHead.TheVariants as edge
use Rattle.fx_script.specs.declared.head.Head.{Head}
use Rattle.fx_script.specs.declared.head.Head.TheVariants as head
use Rattle.fx_script.specs.declared.head.PartHead.{PartHead}
use Rattle.fx_script.specs.declared.head.PartHead.TheVariants as part
use Rattle.fx_script.specs.declared.job.EventKind.{EventKind}
use Rattle.fx_script.specs.declared.job.EventKind.TheVariants as event
use Rattle.fx_script.specs.declared.keyword.EdgeWord.{EdgeWord}
use Rattle.fx_script.specs.declared.keyword.EdgeWord.TheVariants as edge_word
use Rattle.fx_script.specs.declared.keyword.EventWord.{EventWord}
use Rattle.fx_script.specs.declared.keyword.EventWord.TheVariants as event_word
use Rattle.fx_script.specs.declared.keyword.Keyword.{Keyword}
use Rattle.fx_script.specs.declared.keyword.Keyword.TheVariants as k
use Rattle.fx_script.specs.declared.keyword.PartWord.{PartWord}
use Rattle.fx_script.specs.declared.keyword.PartWord.TheVariants as part_word
use Rattle.fx_script.specs.declared.refusal.Wrong.{Wrong}
use Rattle.fx_script.specs.Left.{Left}
use Rattle.fx_script.specs.Outcome.{◌>>=◌}
use Rattle.fx_script.specs.Exprs.{expr_at}
use Rattle.fx_script.specs.Fields.{fixed_at, name_at, number_at, role_at, test_at, end_at}
use Rattle.fx_script.specs.Statements.{simple_at}

-- the lines between the parts of a job
abbrev pub part_at : PartWord → Left → Result (PartHead × Left) Wrong
part_at part_word.Fenix left = do
  version ← fixed_at (codes "1") left
  Ok (part.Fenix, version.1)
part_at part_word.Ranks left = do
  n ← number_at left
  Ok (part.Ranks n.0, n.1)
part_at part_word.Spares left = do
  n ← number_at left
  Ok (part.Spares n.0, n.1)
part_at part_word.Separation left = do
  n ← number_at left
  Ok (part.Separation n.0, n.1)
part_at part_word.Array left = do
  name ← name_at left
  len ← number_at name.1
  Ok (part.Array name.0 len.0, len.1)
part_at part_word.Counter left = do
  name ← name_at left
  Ok (part.Counter name.0, name.1)
part_at part_word.Callback left = do
  name ← name_at left
  Ok (part.Callback name.0, name.1)
part_at part_word.EndCallback left = Ok (part.EndCallback, left)
part_at part_word.Begin left = Ok (part.Begin, left)
part_at part_word.End left = Ok (part.End, left)
part_at part_word.Schedule left = Ok (part.Schedule, left)
part_at part_word.Stop left = Ok (part.Stop, left)

-- the lines that open, divide or close a block
abbrev pub edge_at : EdgeWord → Left → Result (EdgeHead × Left) Wrong
edge_at edge_word.When left = do
  role ← role_at left
  Ok (edge.When role.0, role.1)
edge_at edge_word.EndWhen left = Ok (edge.EndWhen, left)
edge_at edge_word.If left = do
  test ← test_at left
  first ← expr_at test.1
  second ← expr_at first.1
  Ok (edge.If test.0 first.0 second.0, second.1)
edge_at edge_word.Else left = Ok (edge.Else, left)
edge_at edge_word.EndIf left = Ok (edge.EndIf, left)
edge_at edge_word.For left = do
  counter ← name_at left
  first ← expr_at counter.1
  last ← number_at first.1
  Ok (edge.For counter.0 first.0 last.0, last.1)
edge_at edge_word.EndFor left = Ok (edge.EndFor, left)

-- the events
abbrev pub event_at : EventWord → Left → Result (EventKind × Left) Wrong
event_at event_word.Step left = do
  p ← number_at left
  Ok (event.Step p.0, p.1)
event_at event_word.Rest left = do
  p ← number_at left
  Ok (event.Rest p.0, p.1)
event_at event_word.Deliver left = do
  from ← number_at left
  to ← number_at from.1
  Ok (event.Deliver from.0 to.0, to.1)
event_at event_word.Kill left = do
  p ← number_at left
  Ok (event.Kill p.0, p.1)
event_at event_word.Notice left = do
  lost ← number_at left
  to ← number_at lost.1
  Ok (event.Notice lost.0 to.0, to.1)
event_at event_word.Run left = do
  rounds ← number_at left
  Ok (event.Run rounds.0, rounds.1)

-- the words of each kind of line
abbrev pub fields_at : Keyword → Spot → Left → Result (Head × Left) Wrong
fields_at (k.Part word) spot left = part_at word left >>= λ x. Ok (head.Part x.0, x.1)
fields_at (k.Edge word) spot left = edge_at word left >>= λ x. Ok (head.Edge x.0, x.1)
fields_at (k.Simple word) spot left = simple_at word spot left >>= λ x. Ok (head.Simple x.0, x.1)
fields_at (k.Event word) spot left = event_at word left >>= λ x. Ok (head.Event x.0, x.1)

-- and no word behind them
abbrev pub head_at : Keyword → Spot → Left → Result Head Wrong
head_at keyword spot left = do
  fields ← fields_at keyword spot left
  end ← end_at fields.1
  Ok fields.0
