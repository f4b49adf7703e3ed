use Rattle.fx_value.proofs.Shapes.{shaped_array, shaped_blank, shaped_callback, shaped_counter, shaped_init, shaped_length}
use Rattle.fx_value.proofs.laws.states_keep_their_shape.Goals as goal

pub returns-clause-blank : goal.returns-clause-blank
returns-clause-blank c = λ f. shaped_blank f.names

pub returns-clause-counter : goal.returns-clause-counter
returns-clause-counter c = λ f. shaped_counter f.names

pub returns-clause-array : goal.returns-clause-array
returns-clause-array c = λ f. shaped_array f.names

pub returns-clause-callback : goal.returns-clause-callback
returns-clause-callback c = λ f. shaped_callback f.names

pub returns-clause-init : goal.returns-clause-init
returns-clause-init c = shaped_init

pub returns-clause-lengths : goal.returns-clause-lengths
returns-clause-lengths c = λ f. shaped_length f.names
