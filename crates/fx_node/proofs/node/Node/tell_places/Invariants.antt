-- what is sent, joined with what is left to send, is all
use Rattle.std.proofs.Common.{◌≡◌, ◌++◌, drop}
use Rattle.fx_node.specs.Asking.{to_seats}
use Rattle.fx_node.proofs.node.Node.tell_places.Given as goal

abbrev pub invariant-loop-seat : goal.invariant-loop-seat
invariant-loop-seat l = record {
  sent : l.sends ++ to_seats l.fn.self.me (λ x. l.fn.message) l.seat-index (drop l.seat-index l.seats) ≡ l.fn.sends ++ to_seats l.fn.self.me (λ x. l.fn.message) 0 l.seats;
  same : l.message ≡ l.fn.message;
}
