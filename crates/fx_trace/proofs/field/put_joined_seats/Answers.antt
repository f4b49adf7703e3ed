use Rattle.fx_lines.specs.Fields.{a_seat}
use Rattle.fx_trace.proofs.Texts.{on_ok, list_written}
use Rattle.fx_trace.proofs.field.put_joined_seats.Goals as goal

pub returns-in_ok-put_seat-in-len1-up-clause-ok : goal.returns-in_ok-put_seat-in-len1-up-clause-ok
returns-in_ok-put_seat-in-len1-up-clause-ok c =
    on_ok c.push_other_seats.result
    (list_written a_seat.spell (record { 0 = 0 }, record { 0 = 0 }) c.args.out.now c.put_seat.new.out c.push_other_seats.new.out 44 c.args.seats.now c.in-len1-up.len_at_least
    c.in_ok-put_seat-in-len1-up.ensures.ok)
    c.push_other_seats.ensures.ok
