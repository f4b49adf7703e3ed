-- reading goes on from the lines that are left to the answer for the whole text
use Rattle.std.proofs.Common.{◌≡◌, ◌+◌, ◌-◌, ◌≤◌, length, drop}
use Rattle.fx_text.specs.Lines.{lines_of}
use Rattle.fx_script.specs.Reading.{run, reading}
use Rattle.fx_script.proofs.reader.read_text.Given as goal

abbrev pub invariant-loop-line : goal.invariant-loop-line
invariant-loop-line l = record {
  within : l.at ≤ length l.text;
  counted : l.number ≤ l.at + 1;
  same : run l.draft l.number (lines_of (drop l.at l.text)) ≡ reading l.text;
}

abbrev pub decreases-loop-line : goal.decreases-loop-line
decreases-loop-line l = length l.text - l.at
