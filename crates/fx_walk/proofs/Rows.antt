-- Worked rows: what bodies print and ask, and where they end.
use Rattle.std.specs.Prelude.{◌≡◌, ℕ, ℤ, pos, negsuc, List, [], ◌∷◌, codes, Some, None, refl}
use Rattle.std.specs.FinMap as finite
use Rattle.std.specs.Ordering.{nat_cmp}
use Rattle.fx_base.specs.declared.names.Op.TheVariants as op
use Rattle.fx_base.specs.declared.names.Role.TheVariants as role
use Rattle.fx_base.specs.declared.spot.Spot.{Spot}
use Rattle.fx_script.specs.declared.expr.Expr.{Expr}
use Rattle.fx_script.specs.declared.expr.Expr.TheVariants as expr
use Rattle.fx_script.specs.declared.job.Decl.{Decl}
use Rattle.fx_script.specs.declared.job.Decl.TheVariants as decl
use Rattle.fx_script.specs.declared.job.Job.{Job}
use Rattle.fx_script.specs.declared.job.Picked.TheVariants as picked
use Rattle.fx_script.specs.declared.job.Stmt.{Stmt}
use Rattle.fx_script.specs.declared.job.Stmt.TheVariants as stmt
use Rattle.fx_script.specs.declared.job.Test.TheVariants as test
use Rattle.fx_subset.specs.Indices.{blocks_of}
use Rattle.fx_check.specs.Facts.{Facts}
use Rattle.fx_walk.specs.declared.action.View.{View}
use Rattle.fx_walk.specs.declared.wanted.Wanted.TheVariants as wanted
use Rattle.fx_walk.specs.State.{State, blank, restored_from}
use Rattle.fx_walk.specs.Walk.{Given, Nothing, Number, Elements, Entries, Reply, Walk, Ends, Passes, Prints, walk_of, picked_from, group_id, member_id, stamp_at}
use Rattle.fx_walk.specs.Along.{Output, Print, Ask, outputs, AtEnd, AtAsk, stop_of, rest_after}
use Rattle.fx_walk.specs.Plan.{Group, Attach, Reduce, Close}
use Rattle.fx_walk.specs.InStep.{met, AreGivenAlike, Inside, Meeting, job_walk, next_of}
use Rattle.fx_walk.specs.Callbacks.{no_latest, view_at_init, callbacks_at_init, body_start}
use Rattle.fx_walk.proofs.Steps.{levels}

-- ---- words of the rows

abbrev here : Spot
here = record { line = 9; column = 1 }

abbrev a : List ℕ
a = codes "a"

abbrev b : List ℕ
b = codes "b"

abbrev c : List ℕ
c = codes "c"

abbrev n : ℤ → Expr
n value = expr.Number value

abbrev array_decl : List ℕ → ℤ → Decl
array_decl name len = decl.Array here name len

abbrev counter_decl : List ℕ → Decl
counter_decl name = decl.Counter here name

abbrev with_names : List Decl → Facts
with_names names = record { names = names; callbacks = []; created = []; attached = [] }

-- one rank alone, without data groups
abbrev alone : View
alone = view_at_init role.Initial 0 1

abbrev prints : List ℕ → List ℤ → Output
prints name values = Print (record { name = name; values = values })

abbrev print : List ℕ → Stmt
print name = stmt.Print here name

abbrev set_to : List ℕ → Expr → Stmt
set_to name value = stmt.Set here name value

-- a reply that leaves the stamps as they are where no group has any
abbrev given : Given → Reply
given what = record { given = what; latest = no_latest }

-- ---- one rank with plain statements: for c 0 1 / let a + a c / print a / endfor / when survivor / print a / endwhen / print c

abbrev plain_facts : Facts
plain_facts = with_names (array_decl a (pos 2) ∷ counter_decl c ∷ [])

abbrev plain_body : List Stmt
plain_body =
    stmt.Loop here c (n (pos 0)) (pos 1) (stmt.Let here a (expr.Add (expr.Name a) (expr.Name c)) ∷ print a ∷ [])
    ∷ stmt.RoleOnly here role.Survivor (print a ∷ [])
    ∷ print c
    ∷ []

abbrev plain_end : State
plain_end = record { counters = pos 1 ∷ []; arrays = (pos 1 ∷ pos 1 ∷ []) ∷ []; callbacks = [] }

-- Each plain action is one: three tests of the loop, two `let`, the test of `when`. The ends of blocks are none.
plain_walk : walk_of plain_facts plain_body alone (blank plain_facts) ≡
    Passes (Passes (Prints (record { name = a; values = pos 0 ∷ pos 0 ∷ [] }) (Passes (Passes (Prints (record { name = a; values = pos 1 ∷ pos 1 ∷ [] })
    (Passes (Passes (Prints (record { name = c; values = pos 1 ∷ [] }) (Ends plain_end)))))))))
plain_walk = simp levels

plain_outputs : outputs (walk_of plain_facts plain_body alone (blank plain_facts)) [] ≡ prints a (pos 0 ∷ pos 0 ∷ []) ∷ prints a (pos 1 ∷ pos 1 ∷ []) ∷ prints c (pos 1 ∷ []) ∷ []
plain_outputs = simp levels

-- a survivor prints the array once more
survivor_outputs : outputs (walk_of plain_facts plain_body (record alone { role = role.Survivor }) (blank plain_facts)) []
    ≡ prints a (pos 0 ∷ pos 0 ∷ []) ∷ prints a (pos 1 ∷ pos 1 ∷ []) ∷ prints a (pos 1 ∷ pos 1 ∷ []) ∷ prints c (pos 1 ∷ []) ∷ []
survivor_outputs = simp levels

-- ---- two ranks: let a + rank 1 / sum c a / shift a b 1 / print b

abbrev pair_facts : Facts
pair_facts = with_names (array_decl a (pos 2) ∷ array_decl b (pos 2) ∷ counter_decl c ∷ [])

abbrev pair_body : List Stmt
pair_body = stmt.Let here a (expr.Add expr.Rank (n (pos 1))) ∷ stmt.Reduce here op.Sum c a ∷ stmt.Shift here a b (pos 1) ∷ print b ∷ []

abbrev pair_walk : ℕ → Walk
pair_walk rank = walk_of pair_facts pair_body (view_at_init role.Initial rank 2) (blank pair_facts)

second_of_pair : outputs (pair_walk 1) (given (Number (pos 6)) ∷ given (Elements (pos 1 ∷ pos 1 ∷ [])) ∷ [])
    ≡ Ask (wanted.Reduce op.Sum (pos 4)) ∷ Ask (wanted.Shift 1 (pos 2 ∷ pos 2 ∷ [])) ∷ prints b (pos 1 ∷ pos 1 ∷ []) ∷ []
second_of_pair = simp levels

first_of_pair : outputs (pair_walk 0) (given (Number (pos 6)) ∷ given (Elements (pos 2 ∷ pos 2 ∷ [])) ∷ [])
    ≡ Ask (wanted.Reduce op.Sum (pos 2)) ∷ Ask (wanted.Shift 1 (pos 1 ∷ pos 1 ∷ [])) ∷ prints b (pos 2 ∷ pos 2 ∷ []) ∷ []
first_of_pair = simp levels

-- with one reply it waits at the shift, with the counter set
waits_at_shift : stop_of (pair_walk 1) (given (Number (pos 6)) ∷ [])
    ≡ AtAsk (wanted.Shift 1 (pos 2 ∷ pos 2 ∷ [])) (record { counters = pos 6 ∷ []; arrays = (pos 2 ∷ pos 2 ∷ []) ∷ (pos 0 ∷ pos 0 ∷ []) ∷ []; callbacks = [] })
waits_at_shift = simp levels

-- given nothing, a counter stays, and an array too
given_nothing : stop_of (pair_walk 1) (given Nothing ∷ given Nothing ∷ [])
    ≡ AtEnd (record { counters = pos 0 ∷ []; arrays = (pos 2 ∷ pos 2 ∷ []) ∷ (pos 0 ∷ pos 0 ∷ []) ∷ []; callbacks = [] })
given_nothing = simp levels

-- ---- a data group and a callback: callback note / print a / endcallback, and the body register note / group 0 5 0 / member 0 0 a /
-- when initial / let a + rank 7 / endwhen / restore 0 0 5 / store 0 0 ranges 1 1 / commitbarrier 0

abbrev note : List ℕ
note = codes "note"

abbrev group_facts : Facts
group_facts = record {
  names = array_decl a (pos 2) ∷ [];
  callbacks = record { spot = here; name = note; body = print a ∷ [] } ∷ [];
  created = record { group = pos 0; start = pos 5; depth = pos 0 } ∷ [];
  attached = record { group = pos 0; member = pos 0; array = a } ∷ [];
}

abbrev group_body : List Stmt
group_body =
    stmt.Register here note
    ∷ stmt.Group here (pos 0) (pos 5) (pos 0)
    ∷ stmt.Member here (pos 0) (pos 0) a
    ∷ stmt.RoleOnly here role.Initial (stmt.Let here a (expr.Add expr.Rank (n (pos 7))) ∷ [])
    ∷ stmt.Restore here (pos 0) (pos 0) (n (pos 5))
    ∷ stmt.Store here (pos 0) (pos 0) (picked.Ranges ((pos 1, pos 1) ∷ []))
    ∷ stmt.CommitBarrier here (pos 0)
    ∷ []

-- what is asked while the snapshot is stored that maps index 1 to this element
abbrev group_outputs : ℤ → List Output
group_outputs element =
    Ask (wanted.Group (group_id (pos 0)) (stamp_at (pos 5)) 0)
    ∷ Ask (wanted.Attach (group_id (pos 0)) (member_id (pos 0)))
    ∷ Ask (wanted.Restore (group_id (pos 0)) (member_id (pos 0)) (stamp_at (pos 5)))
    ∷ Ask (wanted.Store (group_id (pos 0)) (member_id (pos 0)) (finite.from_sorted ((1, element) ∷ [])))
    ∷ Ask (wanted.Close (group_id (pos 0)))
    ∷ []

abbrev first_state : State
first_state = record { counters = []; arrays = (pos 7 ∷ pos 7 ∷ []) ∷ []; callbacks = note ∷ [] }

abbrev first_epoch : Walk
first_epoch = walk_of group_facts group_body (view_at_init role.Initial 0 2) (blank group_facts)

first_asks : outputs first_epoch (given Nothing ∷ given Nothing ∷ given Nothing ∷ given Nothing ∷ []) ≡ group_outputs (pos 7)
first_asks = simp levels

first_stop : stop_of first_epoch (given Nothing ∷ given Nothing ∷ given Nothing ∷ given Nothing ∷ given Nothing ∷ []) ≡ AtEnd first_state
first_stop = simp levels

-- the survivor that is left runs its callback, and begins with its array
note_runs : callbacks_at_init group_facts role.Survivor 0 1 first_state ≡ record { name = note; prints = record { name = a; values = pos 7 ∷ pos 7 ∷ [] } ∷ [] } ∷ []
note_runs = simp levels

note_leaves : body_start group_facts role.Survivor 0 1 first_state ≡ first_state
note_leaves = simp levels

-- nobody else runs it
recovered_runs_none : callbacks_at_init group_facts role.Recovered 0 1 first_state ≡ []
recovered_runs_none = refl

-- callbacks run in the order of registration, each on what the one before left: callback one / let a 1 / endcallback,
-- callback two / print a / endcallback
abbrev two_callbacks : Facts
two_callbacks = record {
  names = array_decl a (pos 2) ∷ [];
  callbacks = record { spot = here; name = codes "two"; body = print a ∷ [] } ∷ record { spot = here; name = codes "one"; body = stmt.Let here a (n (pos 1)) ∷ [] } ∷ [];
  created = [];
  attached = [];
}

one_before_two : callbacks_at_init two_callbacks role.Survivor 0 1 (record first_state { callbacks = codes "one" ∷ codes "two" ∷ [] })
    ≡ record { name = codes "one"; prints = [] } ∷ record { name = codes "two"; prints = record { name = a; values = pos 1 ∷ pos 1 ∷ [] } ∷ [] } ∷ []
one_before_two = simp levels

-- it isn't `initial` any more, and is given what was stored
abbrev second_epoch : Walk
second_epoch = walk_of group_facts group_body (view_at_init role.Survivor 0 1) (body_start group_facts role.Survivor 0 1 first_state)

abbrev stored_before : finite.FinMap nat_cmp ℤ
stored_before = finite.from_sorted ((1, pos 7) ∷ [])

stored_at : (i : ℕ) → finite.get stored_before i ≡ finite.find nat_cmp i ((1, pos 7) ∷ [])
stored_at i = finite.get-from_sorted nat_cmp ((1, pos 7) ∷ []) i tt

second_asks : outputs second_epoch (given Nothing ∷ given Nothing ∷ given (Entries stored_before) ∷ given Nothing ∷ []) ≡ group_outputs (pos 7)
second_asks = simp (levels, stored_at)

-- ---- loops

abbrev counters_alone : Facts
counters_alone = with_names (counter_decl c ∷ counter_decl (codes "d") ∷ [])

abbrev shown : List Stmt → List Output
shown statements = outputs (walk_of counters_alone statements alone (blank counters_alone)) []

-- set inside its own loop, a counter has the turn's value again at the next turn, and is left as the last turn set it
set_inside : shown (stmt.Loop here c (n (pos 0)) (pos 2) (print c ∷ set_to c (n (pos 7)) ∷ []) ∷ print c ∷ []) ≡ prints c (pos 0 ∷ []) ∷ prints c (pos 1 ∷ []) ∷ prints c (pos 2 ∷ []) ∷ prints c (pos 7 ∷ []) ∷ []
set_inside = simp levels

-- the first value is computed once: what a turn makes of it changes nothing
first_once : shown (set_to c (n (pos 1)) ∷ stmt.Loop here c (expr.Name c) (pos 3) (set_to c (n (pos 9)) ∷ print c ∷ []) ∷ []) ≡ prints c (pos 9 ∷ []) ∷ prints c (pos 9 ∷ []) ∷ prints c (pos 9 ∷ []) ∷ []
first_once = simp levels

-- a negative first value is 0
from_zero : shown (stmt.Loop here c (expr.Sub (n (pos 0)) (n (pos 2))) (pos 1) (print c ∷ []) ∷ []) ≡ prints c (pos 0 ∷ []) ∷ prints c (pos 1 ∷ []) ∷ []
from_zero = simp levels

-- a loop without a turn leaves its counter
without_turns : shown (set_to c (n (pos 5)) ∷ stmt.Loop here c (n (pos 3)) (pos 2) (print c ∷ []) ∷ print c ∷ []) ≡ prints c (pos 5 ∷ []) ∷ []
without_turns = simp levels

-- ---- branches

abbrev branch : Stmt
branch = stmt.Branch here test.Le (n (pos 3)) (n (pos 3)) (print c ∷ []) None

abbrev either_way : Stmt
either_way = stmt.Branch here test.Lt (n (pos 3)) (n (pos 3)) (set_to c (n (pos 1)) ∷ []) (Some (set_to c (n (pos 2)) ∷ []))

both_ways : shown (branch ∷ either_way ∷ print c ∷ []) ≡ prints c (pos 0 ∷ []) ∷ prints c (pos 2 ∷ []) ∷ []
both_ways = simp levels

-- from the end of the first list over `else` there is no action
over_else : walk_of counters_alone (stmt.Branch here test.Eq (n (pos 3)) (n (pos 3)) (print c ∷ []) (Some (set_to c (n (pos 2)) ∷ [])) ∷ print c ∷ []) alone (blank counters_alone)
    ≡ Passes (Prints (record { name = c; values = pos 0 ∷ [] }) (Prints (record { name = c; values = pos 0 ∷ [] }) (Ends (blank counters_alone))))
over_else = simp levels

-- ---- values

-- 2^63 - 1 and -2^63
abbrev most : ℤ
most = pos 9223372036854775807

abbrev least : ℤ
least = negsuc 9223372036854775807

wraps : shown (set_to c (expr.Add (n most) (n (pos 1))) ∷ print c ∷ set_to c (expr.Mul (n (pos 4294967296)) (n (pos 4294967296))) ∷ print c ∷ set_to c (expr.Sub (n least) (n (pos 1))) ∷ print c ∷ [])
    ≡ prints c (least ∷ []) ∷ prints c (pos 0 ∷ []) ∷ prints c (most ∷ []) ∷ []
wraps = simp levels

-- let a * index 2 / let b + a size / let a - b a / print a / print b
abbrev arrays_alone : Facts
arrays_alone = with_names (array_decl a (pos 3) ∷ array_decl b (pos 3) ∷ [])

lets : outputs (walk_of arrays_alone
    (stmt.Let here a (expr.Mul expr.Index (n (pos 2))) ∷ stmt.Let here b (expr.Add (expr.Name a) expr.Size) ∷ stmt.Let here a (expr.Sub (expr.Name b) (expr.Name a)) ∷ print a ∷ print b ∷ [])
    alone (blank arrays_alone)) []
    ≡ prints a (pos 1 ∷ pos 1 ∷ pos 1 ∷ []) ∷ prints b (pos 1 ∷ pos 3 ∷ pos 5 ∷ []) ∷ []
lets = simp levels

-- the newest stamp is -1 until a reply tells another
abbrev closing : List Stmt
closing = stmt.Let here a (expr.Latest (pos 0)) ∷ print a ∷ stmt.CommitBarrier here (pos 0) ∷ stmt.Let here a (expr.Latest (pos 0)) ∷ print a ∷ []

newest_stamp : outputs (walk_of plain_facts closing alone (blank plain_facts)) (record { given = Nothing; latest = pos 7 ∷ [] } ∷ [])
    ≡ prints a (negsuc 0 ∷ negsuc 0 ∷ []) ∷ Ask (wanted.Close (group_id (pos 0))) ∷ prints a (pos 7 ∷ pos 7 ∷ []) ∷ []
newest_stamp = simp levels

-- ---- stores and restores

-- exactly the indices of the map change, and one past the end changes nothing
abbrev three_entries : List (ℕ × ℤ)
three_entries = (0, pos 5) ∷ (2, pos 15) ∷ (3, pos 20) ∷ []

abbrev three_restored : finite.FinMap nat_cmp ℤ
three_restored = finite.from_sorted three_entries

entry_at : (i : ℕ) → finite.get three_restored i ≡ finite.find nat_cmp i three_entries
entry_at i = finite.get-from_sorted nat_cmp three_entries i tt

restores_exactly : restored_from 0 three_restored (pos 9 ∷ pos 9 ∷ pos 9 ∷ []) ≡ pos 5 ∷ pos 9 ∷ pos 15 ∷ []
restores_exactly = simp entry_at

-- a flag is the element at the index, and what is agreed on is set in the counter
agrees : outputs (walk_of plain_facts (stmt.Agree here c a (pos 1) ∷ print c ∷ []) alone (record { counters = pos 0 ∷ []; arrays = (pos 5 ∷ pos 6 ∷ []) ∷ []; callbacks = [] })) (given (Number (pos 4)) ∷ [])
    ≡ Ask (wanted.Agree (pos 6)) ∷ prints c (pos 4 ∷ []) ∷ []
agrees = simp levels

-- a commit changes nothing of the state, whatever it is given, and a drop's stamp is computed
commits_and_drops : stop_of (walk_of plain_facts (stmt.Commit here (pos 2) ∷ stmt.Drop here (pos 2) (expr.Name c) ∷ []) alone (blank plain_facts)) (given (Number (pos 4)) ∷ [])
    ≡ AtAsk (wanted.Delete (group_id (pos 2)) (stamp_at (pos 0))) (blank plain_facts)
commits_and_drops = simp levels

-- two blocks of one index, two apart, of the array that is attached
stores : outputs (walk_of group_facts (stmt.Store here (pos 0) (pos 0) (picked.Strided (pos 2) (pos 0) (pos 0) (pos 2)) ∷ []) alone (record { counters = []; arrays = (pos 5 ∷ pos 10 ∷ pos 15 ∷ []) ∷ []; callbacks = [] })) []
    ≡ Ask (wanted.Store (group_id (pos 0)) (member_id (pos 0)) (finite.from_sorted ((0, pos 5) ∷ (2, pos 15) ∷ []))) ∷ []
unfolding blocks_of
stores = simp levels

-- ---- two ranks in step: set c 3 / group 0 5 0 / member 0 0 a / when initial / store 0 0 full / endwhen / sum c a / commitbarrier 0

abbrev at_line : ℕ → Spot
at_line line = record { line = line; column = 1 }

abbrev aside_job : Job
aside_job = record {
  ranks = pos 2;
  spares = pos 0;
  separation = pos 1;
  ranks_spot = at_line 2;
  spares_spot = at_line 3;
  separation_spot = at_line 4;
  begin_spot = at_line 7;
  names = array_decl a (pos 2) ∷ counter_decl c ∷ [];
  callbacks = [];
  body =
      stmt.Set (at_line 8) c (n (pos 3))
      ∷ stmt.Group (at_line 9) (pos 0) (pos 5) (pos 0)
      ∷ stmt.Member (at_line 10) (pos 0) (pos 0) a
      ∷ stmt.RoleOnly (at_line 11) role.Initial (stmt.Store (at_line 12) (pos 0) (pos 0) picked.Full ∷ [])
      ∷ stmt.Reduce (at_line 14) op.Sum c a
      ∷ stmt.CommitBarrier (at_line 15) (pos 0)
      ∷ [];
  events = [];
}

abbrev aside_state : State
aside_state = record { counters = pos 0 ∷ []; arrays = (pos 0 ∷ pos 0 ∷ []) ∷ []; callbacks = [] }

-- the first rank is given a reply more, to the store inside `when`; the number that a group is given sets nothing
abbrev with_store : List Reply
with_store = given Nothing ∷ given Nothing ∷ given Nothing ∷ given (Number (pos 9)) ∷ []

abbrev without_store : List Reply
without_store = given (Number (pos 4)) ∷ given Nothing ∷ given (Number (pos 9)) ∷ []

in_step : AreGivenAlike aside_job (view_at_init role.Initial 0 2) (view_at_init role.Recovered 1 2) aside_state aside_state with_store without_store
in_step = record {
  begun = refl;
  one_stays = simp levels ((λ h. refl), ((λ h. refl), ((λ h. refl), ((λ h. refl), tt))));
  other_stays = simp levels ((λ h. refl), ((λ h. refl), ((λ h. refl), tt)));
  same = simp levels;
}

met_with_store : met (job_walk aside_job (view_at_init role.Initial 0 2) aside_state) with_store ≡
    record { spot = at_line 9; common = Group (group_id (pos 0)) (stamp_at (pos 5)) 0; counters = pos 3 ∷ [] }
    ∷ record { spot = at_line 10; common = Attach (group_id (pos 0)) (member_id (pos 0)); counters = pos 3 ∷ [] }
    ∷ record { spot = at_line 14; common = Reduce op.Sum; counters = pos 3 ∷ [] }
    ∷ []
met_with_store = simp levels

meets_next : next_of (rest_after (job_walk aside_job (view_at_init role.Recovered 1 2) aside_state) without_store)
    ≡ Meeting (record { spot = at_line 15; common = Close (group_id (pos 0)); counters = pos 9 ∷ [] })
meets_next = simp levels

-- while it waits at the store it has nothing to do with others
waits_inside : next_of (rest_after (job_walk aside_job (view_at_init role.Initial 0 2) aside_state) (given Nothing ∷ given Nothing ∷ [])) ≡ Inside
waits_inside = simp levels

-- ---- groups and members that differ: let a + index 10 / let b 9 / group 2 5 3 / member 2 1 b / member 2 4 a / store 2 4 full /
-- store 2 1 empty / restore 2 1 + c 6 / print b / print a / commit 2

abbrev member_facts : Facts
member_facts = record {
  names = array_decl a (pos 3) ∷ array_decl b (pos 3) ∷ counter_decl c ∷ [];
  callbacks = [];
  created = record { group = pos 2; start = pos 5; depth = pos 3 } ∷ [];
  attached = record { group = pos 2; member = pos 1; array = b } ∷ record { group = pos 2; member = pos 4; array = a } ∷ [];
}

abbrev member_body : List Stmt
member_body =
    stmt.Let here a (expr.Add expr.Index (n (pos 10)))
    ∷ stmt.Let here b (n (pos 9))
    ∷ stmt.Group here (pos 2) (pos 5) (pos 3)
    ∷ stmt.Member here (pos 2) (pos 1) b
    ∷ stmt.Member here (pos 2) (pos 4) a
    ∷ stmt.Store here (pos 2) (pos 4) picked.Full
    ∷ stmt.Store here (pos 2) (pos 1) picked.Empty
    ∷ stmt.Restore here (pos 2) (pos 1) (expr.Add (expr.Name c) (n (pos 6)))
    ∷ print b
    ∷ print a
    ∷ stmt.Commit here (pos 2)
    ∷ []

abbrev two_entries : List (ℕ × ℤ)
two_entries = (0, pos 3) ∷ (2, pos 4) ∷ []

abbrev two_restored : finite.FinMap nat_cmp ℤ
two_restored = finite.from_sorted two_entries

two_at : (i : ℕ) → finite.get two_restored i ≡ finite.find nat_cmp i two_entries
two_at i = finite.get-from_sorted nat_cmp two_entries i tt

abbrev member_replies : List Reply
member_replies = given Nothing ∷ given Nothing ∷ given Nothing ∷ given Nothing ∷ given Nothing ∷ given (Entries two_restored) ∷ []

members : outputs (walk_of member_facts member_body (view_at_init role.Initial 1 4) (blank member_facts)) member_replies
    ≡ Ask (wanted.Group (group_id (pos 2)) (stamp_at (pos 5)) 3)
    ∷ Ask (wanted.Attach (group_id (pos 2)) (member_id (pos 1)))
    ∷ Ask (wanted.Attach (group_id (pos 2)) (member_id (pos 4)))
    ∷ Ask (wanted.Store (group_id (pos 2)) (member_id (pos 4)) (finite.from_sorted ((0, pos 10) ∷ (1, pos 11) ∷ (2, pos 12) ∷ [])))
    ∷ Ask (wanted.Store (group_id (pos 2)) (member_id (pos 1)) (finite.from_sorted []))
    ∷ Ask (wanted.Restore (group_id (pos 2)) (member_id (pos 1)) (stamp_at (pos 6)))
    ∷ prints b (pos 3 ∷ pos 9 ∷ pos 4 ∷ [])
    ∷ prints a (pos 10 ∷ pos 11 ∷ pos 12 ∷ [])
    ∷ Ask (wanted.Commit (group_id (pos 2)))
    ∷ []
members = simp (levels, two_at)

-- ---- what a rank sees: group 2 5 3 / let a - size index / barrier / min c a / max d a / set c latest 2 / print c / print d /
-- drop 2 - c 1 / when recovered / print c / endwhen

abbrev d : List ℕ
d = codes "d"

abbrev sight_facts : Facts
sight_facts = with_names (array_decl a (pos 3) ∷ counter_decl c ∷ counter_decl d ∷ [])

abbrev sight_body : List Stmt
sight_body =
    stmt.Group here (pos 2) (pos 5) (pos 3)
    ∷ stmt.Let here a (expr.Sub expr.Size expr.Index)
    ∷ stmt.Barrier here
    ∷ stmt.Reduce here op.Min c a
    ∷ stmt.Reduce here op.Max d a
    ∷ set_to c (expr.Latest (pos 2))
    ∷ print c
    ∷ print d
    ∷ stmt.Drop here (pos 2) (expr.Sub (expr.Name c) (n (pos 1)))
    ∷ stmt.RoleOnly here role.Recovered (print c ∷ [])
    ∷ []

abbrev told : Given → Reply
told what = record { given = what; latest = pos 10 ∷ pos 11 ∷ pos 12 ∷ pos 13 ∷ pos 14 ∷ pos 15 ∷ pos 16 ∷ pos 17 ∷ [] }

abbrev sight_walk : Walk
sight_walk = walk_of sight_facts sight_body (view_at_init role.Recovered 1 4) (blank sight_facts)

abbrev sight_replies : List Reply
sight_replies = told Nothing ∷ told Nothing ∷ told (Number (pos 2)) ∷ told (Number (pos 4)) ∷ told Nothing ∷ []

sees : outputs sight_walk sight_replies
    ≡ Ask (wanted.Group (group_id (pos 2)) (stamp_at (pos 5)) 3)
    ∷ Ask wanted.Barrier
    ∷ Ask (wanted.Reduce op.Min (pos 2))
    ∷ Ask (wanted.Reduce op.Max (pos 4))
    ∷ prints c (pos 12 ∷ [])
    ∷ prints d (pos 4 ∷ [])
    ∷ Ask (wanted.Delete (group_id (pos 2)) (stamp_at (pos 11)))
    ∷ prints c (pos 12 ∷ [])
    ∷ []
sees = simp levels

sees_at_end : stop_of sight_walk sight_replies ≡ AtEnd (record { counters = pos 12 ∷ pos 4 ∷ []; arrays = (pos 4 ∷ pos 3 ∷ pos 2 ∷ []) ∷ []; callbacks = [] })
sees_at_end = simp levels

-- ---- tests, each with a digit of its own

abbrev adds : ℤ → Stmt
adds value = set_to d (expr.Add (expr.Name d) (n value))

abbrev tests_body : List Stmt
tests_body =
    set_to c (n (pos 1))
    ∷ stmt.Branch here test.Lt (expr.Name c) (n (pos 2)) (adds (pos 1) ∷ []) None
    ∷ stmt.Branch here test.Lt (n (pos 2)) (expr.Name c) (adds (pos 10) ∷ []) None
    ∷ stmt.Branch here test.Lt (expr.Sub (n (pos 0)) (n (pos 1))) (n (pos 0)) (adds (pos 100) ∷ []) None
    ∷ stmt.Branch here test.Le (n (pos 2)) (expr.Name c) (adds (pos 1000) ∷ []) None
    ∷ stmt.Branch here test.Le (expr.Name c) (n (pos 2)) (adds (pos 10000) ∷ []) None
    ∷ stmt.Branch here test.Eq (expr.Name c) (n (pos 2)) (adds (pos 100000) ∷ []) None
    ∷ print d
    ∷ []

tells_apart : shown tests_body ≡ prints d (pos 10101 ∷ []) ∷ []
tells_apart = simp levels

-- ---- a callback that reads all that a rank sees: let a + a + * c 1000 + * rank 100 + * size 10 latest 0 / print a / print c

abbrev reading_facts : Facts
reading_facts = record {
  names = array_decl a (pos 1) ∷ counter_decl c ∷ [];
  callbacks = record {
    spot = here;
    name = codes "n";
    body =
        stmt.Let here a (expr.Add (expr.Name a) (expr.Add (expr.Mul (expr.Name c) (n (pos 1000)))
        (expr.Add (expr.Mul expr.Rank (n (pos 100))) (expr.Add (expr.Mul expr.Size (n (pos 10))) (expr.Latest (pos 0))))))
        ∷ print a
        ∷ print c
        ∷ [];
  } ∷ [];
  created = record { group = pos 0; start = pos 5; depth = pos 0 } ∷ [];
  attached = [];
}

abbrev reading_before : State
reading_before = record { counters = pos 4 ∷ []; arrays = (pos 1 ∷ []) ∷ []; callbacks = codes "n" ∷ [] }

reads_all : callbacks_at_init reading_facts role.Survivor 2 3 reading_before
    ≡ record { name = codes "n"; prints = record { name = a; values = pos 230 ∷ [] } ∷ record { name = c; values = pos 0 ∷ [] } ∷ [] } ∷ []
reads_all = simp levels

reads_leave : body_start reading_facts role.Survivor 2 3 reading_before ≡ record { counters = pos 0 ∷ []; arrays = (pos 230 ∷ []) ∷ []; callbacks = codes "n" ∷ [] }
reads_leave = simp levels

initial_runs_none : callbacks_at_init reading_facts role.Initial 2 3 reading_before ≡ []
initial_runs_none = refl

-- ---- loops in loops, and a reply that sets a loop's own counter

nested : shown (stmt.Loop here c (n (pos 0)) (pos 1) (stmt.Loop here d (expr.Name c) (pos 1) (print c ∷ print d ∷ []) ∷ []) ∷ print d ∷ [])
    ≡ prints c (pos 0 ∷ []) ∷ prints d (pos 0 ∷ []) ∷ prints c (pos 0 ∷ []) ∷ prints d (pos 1 ∷ []) ∷ prints c (pos 1 ∷ []) ∷ prints d (pos 1 ∷ []) ∷ prints d (pos 1 ∷ []) ∷ []
nested = simp levels

set_by_reply : outputs (walk_of plain_facts (stmt.Loop here c (n (pos 0)) (pos 2) (stmt.Reduce here op.Sum c a ∷ print c ∷ []) ∷ print c ∷ []) alone (blank plain_facts))
    (given (Number (pos 9)) ∷ given (Number (pos 9)) ∷ given (Number (pos 9)) ∷ [])
    ≡ Ask (wanted.Reduce op.Sum (pos 0)) ∷ prints c (pos 9 ∷ []) ∷ Ask (wanted.Reduce op.Sum (pos 0)) ∷ prints c (pos 9 ∷ []) ∷ Ask (wanted.Reduce op.Sum (pos 0)) ∷ prints c (pos 9 ∷ []) ∷ prints c (pos 9 ∷ []) ∷ []
set_by_reply = simp levels

-- a callback that a body registers twice is registered once
registers_once : stop_of (walk_of group_facts (stmt.Register here note ∷ stmt.Register here note ∷ []) alone (blank group_facts)) [] ≡ AtEnd (record { counters = []; arrays = (pos 0 ∷ pos 0 ∷ []) ∷ []; callbacks = note ∷ [] })
registers_once = simp levels

-- elements at a sum, and a number at a shift, set nothing
wrong_kinds : stop_of (pair_walk 1) (given (Elements (pos 5 ∷ pos 5 ∷ [])) ∷ given (Number (pos 4)) ∷ [])
    ≡ AtEnd (record { counters = pos 0 ∷ []; arrays = (pos 2 ∷ pos 2 ∷ []) ∷ (pos 0 ∷ pos 0 ∷ []) ∷ []; callbacks = [] })
wrong_kinds = simp levels

-- two pairs, and two blocks of two
abbrev six : List ℤ
six = pos 10 ∷ pos 11 ∷ pos 12 ∷ pos 13 ∷ pos 14 ∷ pos 15 ∷ []

two_pairs : picked_from (picked.Ranges ((pos 4, pos 5) ∷ (pos 1, pos 2) ∷ [])) 0 six ≡ (1, pos 11) ∷ (2, pos 12) ∷ (4, pos 14) ∷ (5, pos 15) ∷ []
two_pairs = refl

two_blocks : picked_from (picked.Strided (pos 2) (pos 0) (pos 1) (pos 3)) 0 six ≡ (0, pos 10) ∷ (1, pos 11) ∷ (3, pos 13) ∷ (4, pos 14) ∷ []
unfolding blocks_of
two_blocks = refl
