-- What a process keeps, as plain data.
use Rattle.std.specs.Prelude.{ℕ, Bool, List, refl}
use Rattle.std.specs.Coded.{Coded, code_by, coded×, coded_bool, coded_list, coded_ℕ}
use Rattle.fx_base.specs.contracts.names.Ident as the_ident
use Rattle.fx_base.specs.contracts.names.Proc as the_proc
use Rattle.fx_base.specs.contracts.names.Role as the_role
use Rattle.fx_base.specs.declared.names.Role.{Role}
use Rattle.fx_comm.specs.Seats.{Seat}
use Rattle.fx_flow.specs.Flowing.{Flowing}
use Rattle.fx_flow.specs.Stands.{flow_code}
use Rattle.fx_inbox.specs.Keeping.{Kept, kept_code}
use Rattle.fx_node.specs.contracts.stage.Stage as the_stage
use Rattle.fx_node.specs.declared.stage.Stage.{Stage}
use Rattle.fx_node.specs.Standing.{Standing}
use Rattle.fx_walk.specs.contracts.action.View as the_view
use Rattle.fx_walk.specs.declared.action.View.{View}

-- its parts one after another
abbrev pub standing_code : Coded Standing
standing_code =
    code_by ((ℕ × (ℕ × ℕ)) × ((List Seat × (List ℕ × (Role × ℕ))) × ((Stage × (View × Flowing)) × (Kept × Bool))))
    (coded× (coded× coded_ℕ (coded× coded_ℕ coded_ℕ))
    (coded× (coded× (coded_list (coded× the_ident.the_row.coded the_proc.the_row.coded)) (coded× (coded_list coded_ℕ) (coded× the_role.the_row.coded coded_ℕ)))
    (coded× (coded× the_stage.the_row.coded (coded× the_view.the_row.coded flow_code)) (coded× kept_code coded_bool))))
    (λ c. ((c.me, (c.ranks, c.epoch)), ((c.comm, (c.present, (c.role, c.calls))), ((c.stage, (c.view, c.flow)), (c.inbox, c.failed)))))
    (λ p. record { me = p.0.0; ranks = p.0.1.0; epoch = p.0.1.1; comm = p.1.0.0; present = p.1.0.1.0; role = p.1.0.1.1.0; calls = p.1.0.1.1.1; stage = p.1.1.0.0; view = p.1.1.0.1.0; flow = p.1.1.0.1.1; inbox = p.1.1.1.0; failed = p.1.1.1.1 })
    (λ c. refl)
