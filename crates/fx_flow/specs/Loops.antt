-- Open loops, the innermost first.
use Rattle.std.specs.Prelude.{Bool, true, false, List, [], ◌∷◌, Option, Some, None}
use Rattle.fx_flow.specs.declared.instr.Loop.{Loop}

abbrev pub is_open : List Loop → Bool
is_open [] = false
is_open (loop ∷ loops) = true

abbrev pub innermost : List Loop → Option Loop
innermost [] = None
innermost (loop ∷ loops) = Some loop

abbrev pub outer : List Loop → List Loop
outer [] = []
outer (loop ∷ loops) = loops

-- another one in the place of the innermost
abbrev pub with_innermost : Loop → List Loop → List Loop
with_innermost turn [] = []
with_innermost turn (loop ∷ loops) = turn ∷ loops
