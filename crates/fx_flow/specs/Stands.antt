-- Stands as plain data.
use Rattle.std.specs.Prelude.{ℕ, List, refl}
use Rattle.std.specs.Coded.{Coded, code_by, coded×, coded_list, coded_ℕ}
use Rattle.fx_walk.specs.State.{State}
use Rattle.fx_value.specs.Shape.{state_code}
use Rattle.fx_flow.specs.declared.instr.Instr.{Instr}
use Rattle.fx_flow.specs.declared.instr.Loop.{Loop}
use Rattle.fx_flow.specs.declared.instr.Routine.{Routine}
use Rattle.fx_flow.specs.contracts.instr.Instr as the_instr
use Rattle.fx_flow.specs.contracts.instr.Loop as the_loop
use Rattle.fx_flow.specs.contracts.instr.Routine as the_routine
use Rattle.fx_flow.specs.Code.{Stand}
use Rattle.fx_flow.specs.Flowing.{Flowing}

-- at another place
abbrev pub moved_to : ℕ → Stand → Stand
moved_to place c = record c { place = place }

-- a stand as the triple of its parts
abbrev pub stand_code : Coded Stand
stand_code =
    code_by (ℕ × (List Loop × State)) (coded× coded_ℕ (coded× (coded_list the_loop.the_row.coded) state_code))
    (λ c. (c.place, (c.opened, c.state)))
    (λ p. record { place = p.0; opened = p.1.0; state = p.1.1 })
    (λ c. refl)

-- a flow as the quadruple of its parts
abbrev pub flow_code : Coded Flowing
flow_code =
    code_by (List Instr × (ℕ × (List Routine × Stand))) (coded× (coded_list the_instr.the_row.coded) (coded× coded_ℕ (coded× (coded_list the_routine.the_row.coded) stand_code)))
    (λ f. (f.code, (f.begin, (f.routines, f.stand))))
    (λ p. record { code = p.0; begin = p.1.0; routines = p.1.1.0; stand = p.1.1.1 })
    (λ f. refl)
