-- Each kind of line rests on its words alone, up to the first that is refused.
use Rattle.std.proofs.Common.{◌≡◌, ℕ, ◌⊎◌, inl, inr, List, [], ◌∷◌, map, Result, Ok, Err, refl, sym, ap, ◌∙◌}
use Rattle.std.specs.Prelude.{ℤ, codes}
use Rattle.std.specs.Str.{bytes_eq}
use Rattle.std.proofs.lemmas.Bool.{cases_Bool}
use Rattle.fx_base.specs.declared.names.Op.{Op}
use Rattle.fx_base.specs.declared.names.Op.TheVariants as op
use Rattle.fx_base.specs.declared.spot.Spot.{Spot}
use Rattle.fx_text.specs.Words.{Word}
use Rattle.fx_script.specs.declared.head.EdgeHead.TheVariants as edge
use Rattle.fx_script.specs.declared.head.Head.{Head}
use Rattle.fx_script.specs.declared.head.Head.TheVariants as head
use Rattle.fx_script.specs.declared.head.PartHead.TheVariants as part
use Rattle.fx_script.specs.declared.job.EventKind.TheVariants as event
use Rattle.fx_script.specs.declared.job.Picked.{Picked}
use Rattle.fx_script.specs.declared.job.Picked.TheVariants as picked
use Rattle.fx_script.specs.declared.job.Stmt.{Stmt}
use Rattle.fx_script.specs.declared.job.Stmt.TheVariants as stmt
use Rattle.fx_script.specs.declared.keyword.EdgeWord.{EdgeWord}
use Rattle.fx_script.specs.declared.keyword.EdgeWord.TheVariants as edge_word
use Rattle.fx_script.specs.declared.keyword.EventWord.{EventWord}
use Rattle.fx_script.specs.declared.keyword.EventWord.TheVariants as event_word
use Rattle.fx_script.specs.declared.keyword.Keyword.{Keyword}
use Rattle.fx_script.specs.declared.keyword.Keyword.TheVariants as k
use Rattle.fx_script.specs.declared.keyword.PartWord.{PartWord}
use Rattle.fx_script.specs.declared.keyword.PartWord.TheVariants as part_word
use Rattle.fx_script.specs.declared.keyword.SimpleWord.{SimpleWord}
use Rattle.fx_script.specs.declared.keyword.SimpleWord.TheVariants as word
use Rattle.fx_script.specs.declared.refusal.JobFault.TheVariants.{BadLine}
use Rattle.fx_script.specs.declared.refusal.Wrong.{Wrong}
use Rattle.fx_script.specs.Left.{Left}
use Rattle.fx_script.specs.Outcome.{◌>>=◌}
use Rattle.fx_script.specs.Exprs.{expr_at}
use Rattle.fx_script.specs.Fields.{misfit, due, fixed_at, name_at, number_at, role_at, test_at, pair_at, pairs_from, strided_at, ranges_at, picked_in, picked_at}
use Rattle.fx_script.specs.Heads.{part_at, edge_at, event_at, fields_at, head_at}
use Rattle.fx_script.specs.Spelling.{bytes_of}
use Rattle.fx_script.specs.Statements.{simple_at}
use Rattle.fx_script.proofs.Judged.{err_is, words_left, Judged, nothing, both, LineGoesOn, LineStopped, LineJudged, line_same, line_both, at_the_end, ends, to_the_end}
use Rattle.fx_script.proofs.JudgedWords.{fixed_judged, name_judged, number_judged, role_judged, test_judged, expr_judged, one, two, three, pair_judged, pairs_line, pairs_judged, regroup}

-- ---- the lines between the parts, blocks and events

part_judged : (w : PartWord) → Judged (part_at w)
part_judged part_word.Fenix = one (fixed_at (codes "1")) (λ u. part.Fenix) (fixed_judged (codes "1") refl refl)
part_judged part_word.Ranks = one number_at (λ n. part.Ranks n) number_judged
part_judged part_word.Spares = one number_at (λ n. part.Spares n) number_judged
part_judged part_word.Separation = one number_at (λ n. part.Separation n) number_judged
part_judged part_word.Array = two name_at number_at (λ name len. part.Array name len) name_judged number_judged
part_judged part_word.Counter = one name_at (λ name. part.Counter name) name_judged
part_judged part_word.Callback = one name_at (λ name. part.Callback name) name_judged
part_judged part_word.EndCallback = nothing part.EndCallback
part_judged part_word.Begin = nothing part.Begin
part_judged part_word.End = nothing part.End
part_judged part_word.Schedule = nothing part.Schedule
part_judged part_word.Stop = nothing part.Stop

edge_judged : (w : EdgeWord) → Judged (edge_at w)
edge_judged edge_word.When = one role_at (λ role. edge.When role) role_judged
edge_judged edge_word.EndWhen = nothing edge.EndWhen
edge_judged edge_word.If = three test_at expr_at expr_at (λ test left right. edge.If test left right) test_judged expr_judged expr_judged
edge_judged edge_word.Else = nothing edge.Else
edge_judged edge_word.EndIf = nothing edge.EndIf
edge_judged edge_word.For = three name_at expr_at number_at (λ counter first last. edge.For counter first last) name_judged expr_judged number_judged
edge_judged edge_word.EndFor = nothing edge.EndFor

event_judged : (w : EventWord) → Judged (event_at w)
event_judged event_word.Step = one number_at (λ p. event.Step p) number_judged
event_judged event_word.Rest = one number_at (λ p. event.Rest p) number_judged
event_judged event_word.Deliver = two number_at number_at (λ from to. event.Deliver from to) number_judged number_judged
event_judged event_word.Kill = one number_at (λ p. event.Kill p) number_judged
event_judged event_word.Notice = two number_at number_at (λ lost to. event.Notice lost to) number_judged number_judged
event_judged event_word.Run = one number_at (λ rounds. event.Run rounds) number_judged

-- ---- subsets, to the end of their line

-- a line whose first word is this one: it goes on behind it, or is refused at it
abbrev JudgedAt : {Y : Type 0} → (Word → Left → Result Y Wrong) → Word → Type 0
JudgedAt h w = LineJudged (h w) ⊎ ((e : Wrong) × (e.column ≡ w.column) × ((left : Left) → h w left ≡ Err e))

abbrev word_first : {Y : Type 0} → (Word → Left → Result Y Wrong) → Left → Result Y Wrong
word_first h left = due left >>= λ next. h next.0 next.1

word_on : {Y : Type 0} (h : Word → Left → Result Y Wrong) (w : Word) (ws : List Word) (past : ℕ) (e : Wrong) → LineGoesOn (word_first h) [] → LineStopped (h w) ws past e → LineStopped (word_first h) (w ∷ ws) past e
word_on h w ws past e can l = record {
  read = w ∷ l.read;
  at = elim l.at [
    | inl a ↦ inl (record { bad = a.bad; behind = a.behind; words = ap (λ (l : List Word). w ∷ l) a.words; column = a.column; again = a.again })
    | inr a ↦ inr (record { words = ap (λ (l : List Word). w ∷ l) a.words; column = a.column })
  ];
  goes_on = record { more = l.goes_on.more; good = l.goes_on.good; value = l.goes_on.value; goes = l.goes_on.goes };
}

word_stopped : {Y : Type 0} (h : Word → Left → Result Y Wrong) → ((w : Word) → JudgedAt h w) → LineGoesOn (word_first h) [] → (ws : List Word) (past : ℕ) (e : Wrong)
    → word_first h (words_left ws past) ≡ Err e → LineStopped (word_first h) ws past e
word_stopped {Y = Y} h each can [] past e g =
    let s : record { fault = BadLine; column = past } ≡ e = err_is {A = Y} (record { fault = BadLine; column = past }) e g in
    record { read = []; at = inr (record { words = refl; column = ap (λ (v : Wrong). v.column) (sym s) }); goes_on = can }
word_stopped {Y = Y} h each can (w ∷ ws) past e g = elim (each w) [
  | inl j ↦ word_on h w ws past e can (j.stopped ws past e g)
  | inr r ↦
      let s : r.0 ≡ e = err_is {A = Y} r.0 e (sym (r.2 (words_left ws past)) ∙ g) in
      record {
        read = [];
        at = inl (record { bad = w; behind = ws; words = refl; column = ap (λ (v : Wrong). v.column) (sym s) ∙ r.1; again = λ others p. r.2 (words_left others p) ∙ ap (λ (v : Wrong). Err v) s });
        goes_on = can;
      }
]

bind_same : {A B : Type 0} (r : Result A Wrong) (f g : A → Result B Wrong) → ((x : A) → f x ≡ g x) → (r >>= f) ≡ (r >>= g)
bind_same (Ok x) f g same = same x
bind_same (Err w) f g same = refl

regroup_three : {A B C D : Type 0} (r : Result A Wrong) (f : A → Result B Wrong) (g : B → Result C Wrong) (h : C → Result D Wrong) → (((r >>= f) >>= g) >>= h) ≡ (r >>= λ x. ((f x >>= g) >>= h))
regroup_three (Ok x) f g h = refl
regroup_three (Err w) f g h = refl

strided_judged : Judged strided_at
strided_judged = both number_at (λ blocks left. number_at left >>= λ start. number_at start.1 >>= λ end. number_at end.1 >>= λ stride. Ok (picked.Strided blocks start.0 end.0 stride.0, stride.1)) number_judged
    (λ blocks. three number_at number_at number_at (λ start end stride. picked.Strided blocks start end stride) number_judged number_judged number_judged)

abbrev subset_at : (Picked → Head) → Word → Left → Result Head Wrong
subset_at f w left = picked_in (w, left) >>= λ s. at_the_end (f s.0) s.1

abbrev ranges_line : (Picked → Head) → Left → Result Head Wrong
ranges_line f left = pair_at left >>= λ pair. pairs_line (λ ps. f (picked.Ranges ps)) 15 (pair.0 ∷ []) pair.1

abbrev as_ranges : List (ℤ × ℤ) × Left → Result (Picked × Left) Wrong
as_ranges pairs = Ok (picked.Ranges pairs.0, pairs.1)

abbrev said_to_end : (Picked → Head) → Picked × Left → Result Head Wrong
said_to_end f s = at_the_end (f s.0) s.1

abbrev pairs_behind : (ℤ × ℤ) × Left → Result (List (ℤ × ℤ) × Left) Wrong
pairs_behind pair = pairs_from 15 (pair.0 ∷ []) pair.1

ranges_same : (f : Picked → Head) (left : Left) → (ranges_at left >>= said_to_end f) ≡ ranges_line f left
ranges_same f left =
    regroup_three (pair_at left) pairs_behind as_ranges (said_to_end f)
    ∙ bind_same (pair_at left) (λ pair. ((pairs_behind pair >>= as_ranges) >>= said_to_end f)) (λ pair. pairs_line (λ ps. f (picked.Ranges ps)) 15 (pair.0 ∷ []) pair.1)
    (λ pair. regroup (pairs_behind pair) as_ranges (said_to_end f))

subset_judged_at : (f : Picked → Head) (w : Word) → JudgedAt (subset_at f) w
subset_judged_at f w = elim (cases_Bool (bytes_eq w.bytes (codes "full"))) [
  | inl t ↦ inl (line_same (at_the_end (f picked.Full)) (subset_at f w) (λ left. rw t refl) (ends (f picked.Full)))
  | inr a ↦ elim (cases_Bool (bytes_eq w.bytes (codes "empty"))) [
    | inl t ↦ inl (line_same (at_the_end (f picked.Empty)) (subset_at f w) (λ left. rw (a, t) refl) (ends (f picked.Empty)))
    | inr b ↦ elim (cases_Bool (bytes_eq w.bytes (codes "strided"))) [
      | inl t ↦ inl (line_same (λ left. strided_at left >>= λ s. at_the_end (f s.0) s.1) (subset_at f w) (λ left. rw (a, b, t) refl)
          (line_both strided_at (λ s. at_the_end (f s)) strided_judged (λ s. ends (f s))))
      | inr c ↦ elim (cases_Bool (bytes_eq w.bytes (codes "ranges"))) [
        | inl t ↦ inl (line_same (ranges_line f) (subset_at f w) (λ left. rw (a, b, c, t) (ranges_same f left))
            (line_both pair_at (λ pair. pairs_line (λ ps. f (picked.Ranges ps)) 15 (pair ∷ [])) pair_judged (λ pair. pairs_judged (λ ps. f (picked.Ranges ps)) 15 (pair ∷ []))))
        | inr d ↦ inr (misfit w, refl, λ left. rw (a, b, c, d) refl)
      ]
    ]
  ]
]

full_goes : (f : Picked → Head) (ws : List Word) (past : ℕ) → map bytes_of ws ≡ codes "full" ∷ [] → word_first (subset_at f) (words_left ws past) ≡ Ok (f picked.Full)
full_goes f [] past e = absurd cc
full_goes f (w ∷ []) past e = let same : w.bytes ≡ codes "full" = cc in rw same refl
full_goes f (w ∷ v ∷ ws) past e = absurd cc

full_on : (f : Picked → Head) → LineGoesOn (word_first (subset_at f)) []
full_on f = record { more = codes "full" ∷ []; good = refl; value = f picked.Full; goes = full_goes f }

abbrev subset_line : (Picked → Head) → Left → Result Head Wrong
subset_line f left = picked_at left >>= λ s. at_the_end (f s.0) s.1

subset_judged : (f : Picked → Head) → LineJudged (subset_line f)
subset_judged f = line_same (word_first (subset_at f)) (subset_line f) (λ left. regroup (due left) picked_in (λ s. at_the_end (f s.0) s.1))
    (record { stopped = word_stopped (subset_at f) (subset_judged_at f) (full_on f); can = full_on f })

-- ---- statements without a block

abbrev store_said : Spot → ℤ → ℤ → Picked → Head
store_said spot group member subset = head.Simple (stmt.Store spot group member subset)

abbrev store_line : Spot → Left → Result Head Wrong
store_line spot left = number_at left >>= λ g. number_at g.1 >>= λ m. subset_line (store_said spot g.0 m.0) m.1

abbrev stored : Spot → ℤ → ℤ → Picked × Left → Result (Stmt × Left) Wrong
stored spot group member s = Ok (stmt.Store spot group member s.0, s.1)

abbrev as_simple : Stmt × Left → Result (Head × Left) Wrong
as_simple x = Ok (head.Simple x.0, x.1)

abbrev all_said : Head × Left → Result Head Wrong
all_said fields = at_the_end fields.0 fields.1

abbrev behind_member : Spot → ℤ → ℤ × Left → Result (Stmt × Left) Wrong
behind_member spot group m = picked_at m.1 >>= stored spot group m.0

abbrev behind_group : Spot → ℤ × Left → Result (Stmt × Left) Wrong
behind_group spot g = number_at g.1 >>= behind_member spot g.0

abbrev member_line : Spot → ℤ → ℤ × Left → Result Head Wrong
member_line spot group m = subset_line (store_said spot group m.0) m.1

abbrev group_line : Spot → ℤ × Left → Result Head Wrong
group_line spot g = number_at g.1 >>= member_line spot g.0

member_same : (spot : Spot) (group : ℤ) (m : ℤ × Left) → ((behind_member spot group m >>= as_simple) >>= all_said) ≡ member_line spot group m
member_same spot group m = regroup_three (picked_at m.1) (stored spot group m.0) as_simple all_said

group_same : (spot : Spot) (g : ℤ × Left) → ((behind_group spot g >>= as_simple) >>= all_said) ≡ group_line spot g
group_same spot g =
    regroup_three (number_at g.1) (behind_member spot g.0) as_simple all_said
    ∙ bind_same (number_at g.1) (λ m. ((behind_member spot g.0 m >>= as_simple) >>= all_said)) (member_line spot g.0) (member_same spot g.0)

store_same : (spot : Spot) (left : Left) → head_at (k.Simple word.Store) spot left ≡ store_line spot left
store_same spot left =
    regroup_three (number_at left) (behind_group spot) as_simple all_said
    ∙ bind_same (number_at left) (λ g. ((behind_group spot g >>= as_simple) >>= all_said)) (group_line spot) (group_same spot)

store_judged : (spot : Spot) → LineJudged (head_at (k.Simple word.Store) spot)
store_judged spot = line_same (store_line spot) (head_at (k.Simple word.Store) spot) (store_same spot)
    (line_both number_at (λ g left. number_at left >>= λ m. subset_line (store_said spot g m.0) m.1) number_judged
    (λ g. line_both number_at (λ m. subset_line (store_said spot g m)) number_judged (λ m. subset_judged (store_said spot g m))))

by_end : (w : SimpleWord) (spot : Spot) → Judged (simple_at w spot) → LineJudged (head_at (k.Simple w) spot)
by_end w spot j = to_the_end (fields_at (k.Simple w) spot) (one (simple_at w spot) (λ s. head.Simple s) j)

reduce_judged : (o : Op) (spot : Spot) → Judged (λ left. name_at left >>= λ c. name_at c.1 >>= λ a. Ok (stmt.Reduce spot o c.0 a.0, a.1))
reduce_judged o spot = two name_at name_at (λ counter array. stmt.Reduce spot o counter array) name_judged name_judged

simple_judged : (w : SimpleWord) (spot : Spot) → LineJudged (head_at (k.Simple w) spot)
simple_judged word.Let spot = by_end word.Let spot (two name_at expr_at (λ array value. stmt.Let spot array value) name_judged expr_judged)
simple_judged word.Set spot = by_end word.Set spot (two name_at expr_at (λ counter value. stmt.Set spot counter value) name_judged expr_judged)
simple_judged word.Print spot = by_end word.Print spot (one name_at (λ name. stmt.Print spot name) name_judged)
simple_judged word.Register spot = by_end word.Register spot (one name_at (λ name. stmt.Register spot name) name_judged)
simple_judged word.Barrier spot = by_end word.Barrier spot (nothing (stmt.Barrier spot))
simple_judged word.Sum spot = by_end word.Sum spot (reduce_judged op.Sum spot)
simple_judged word.Min spot = by_end word.Min spot (reduce_judged op.Min spot)
simple_judged word.Max spot = by_end word.Max spot (reduce_judged op.Max spot)
simple_judged word.Agree spot = by_end word.Agree spot (three name_at name_at number_at (λ counter array index. stmt.Agree spot counter array index) name_judged name_judged number_judged)
simple_judged word.Shift spot = by_end word.Shift spot (three name_at name_at number_at (λ source target by. stmt.Shift spot source target by) name_judged name_judged number_judged)
simple_judged word.Group spot = by_end word.Group spot (three number_at number_at number_at (λ group start depth. stmt.Group spot group start depth) number_judged number_judged number_judged)
simple_judged word.Member spot = by_end word.Member spot (three number_at number_at name_at (λ group member array. stmt.Member spot group member array) number_judged number_judged name_judged)
simple_judged word.Store spot = store_judged spot
simple_judged word.Commit spot = by_end word.Commit spot (one number_at (λ group. stmt.Commit spot group) number_judged)
simple_judged word.CommitBarrier spot = by_end word.CommitBarrier spot (one number_at (λ group. stmt.CommitBarrier spot group) number_judged)
simple_judged word.Restore spot = by_end word.Restore spot (three number_at number_at expr_at (λ group member stamp. stmt.Restore spot group member stamp) number_judged number_judged expr_judged)
simple_judged word.Drop spot = by_end word.Drop spot (two number_at expr_at (λ group stamp. stmt.Drop spot group stamp) number_judged expr_judged)

-- ---- each kind of line

pub head_judged : (keyword : Keyword) (spot : Spot) → LineJudged (head_at keyword spot)
head_judged (k.Part w) spot = to_the_end (fields_at (k.Part w) spot) (one (part_at w) (λ p. head.Part p) (part_judged w))
head_judged (k.Edge w) spot = to_the_end (fields_at (k.Edge w) spot) (one (edge_at w) (λ e. head.Edge e) (edge_judged w))
head_judged (k.Simple w) spot = simple_judged w spot
head_judged (k.Event w) spot = to_the_end (fields_at (k.Event w) spot) (one (event_at w) (λ e. head.Event e) (event_judged w))
