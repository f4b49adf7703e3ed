use Rattle.std.proofs.Common.{◌<◌, length, slice_index_or}
use Rattle.std.proofs.lemmas.Option.{slice_get-get_or}
use Rattle.fx_comm.specs.Seats.{Seat, seat}
use Rattle.fx_comm.proofs.Places.{its_place}
use Rattle.fx_comm.proofs.comm.Comm.proc_at.Goals as goal

pub returns-clause-place : goal.returns-clause-place
returns-clause-place c =
    let within : c.args.place.0 < length c.self.inside.seats = rw (← c.self.view_is) at c.requires in
    let member : Seat = slice_index_or c.self.inside.seats c.args.place.0 (seat 0 0) in
    rw (← c.self.view_is, c.as_slice.ensures, c.from.ensures)
    (its_place c.self.inside.seats c.args.place.0 member c.self.invariant.apart (slice_get-get_or c.self.inside.seats c.args.place.0 (seat 0 0) within))
