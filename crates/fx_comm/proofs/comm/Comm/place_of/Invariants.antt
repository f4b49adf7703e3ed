-- the process isn't before the place, and what is found from there on is its place
use Rattle.std.proofs.Common.{◌≡◌, ◌+◌, drop}
use Rattle.std.specs.Option.{option_map}
use Rattle.fx_comm.specs.Seats.{place_in}
use Rattle.fx_comm.proofs.comm.Comm.place_of.Given as goal

abbrev pub invariant-loop-seat : goal.invariant-loop-seat
invariant-loop-seat l = record {
  counted : l.place ≡ l.seat-index;
  found : place_in l.seat-items l.proc.0 ≡ option_map (λ place. place + l.place) (place_in (drop l.seat-index l.seat-items) l.proc.0);
}
