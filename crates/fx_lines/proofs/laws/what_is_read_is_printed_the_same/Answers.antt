use Rattle.fx_lines.proofs.Items.{printed_again}
use Rattle.fx_lines.proofs.laws.what_is_read_is_printed_the_same.Goals as goal

pub returns : goal.returns
returns c = record {
  line = λ line item e. (printed_again line item e).0;
  writable = λ line item e. (printed_again line item e).1;
  in_type = λ line item e. (printed_again line item e).2;
}
