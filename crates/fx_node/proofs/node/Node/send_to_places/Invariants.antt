-- what is sent, joined with what is left to send, is all
use Rattle.std.proofs.Common.{◌≡◌, ◌++◌, drop}
use Rattle.fx_link.specs.declared.message.Message.TheVariants as message
use Rattle.fx_machine.specs.Numbers.{epoch_no}
use Rattle.fx_node.specs.Asking.{share_of, to_seats}
use Rattle.fx_node.proofs.node.Node.send_to_places.Given as goal

abbrev pub invariant-loop-place : goal.invariant-loop-place
invariant-loop-place l = record {
  sent : l.sends ++ to_seats l.fn.self.me (λ x. message.Part (epoch_no l.fn.self.epoch) l.fn.call (share_of l.fn.only l.fn.values x)) l.place (drop l.place l.seats)
      ≡ l.fn.sends ++ to_seats l.fn.self.me (λ x. message.Part (epoch_no l.fn.self.epoch) l.fn.call (share_of l.fn.only l.fn.values x)) 0 l.seats;
  values : l.values ≡ l.fn.values;
}
