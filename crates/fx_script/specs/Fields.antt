-- What the words of a line say, one after another from the left, or what is wrong first.
use Rattle.std.specs.Prelude.{ℕ, zero, suc, ℤ, List, [], ◌∷◌, ◌++◌, ◌==◌, length, codes, Result, Ok, Err, if◌then◌else◌}
use Rattle.std.specs.Str.{bytes_eq}
use Rattle.fx_base.specs.declared.names.Role.{Role}
use Rattle.fx_base.specs.declared.names.Role.TheVariants as role
use Rattle.fx_text.specs.declared.number.NumberFault.{NumberFault}
use Rattle.fx_text.specs.Words.{Word}
use Rattle.fx_text.specs.Numbers.{number_in}
use Rattle.fx_script.specs.declared.job.Picked.{Picked}
use Rattle.fx_script.specs.declared.job.Picked.TheVariants as picked
use Rattle.fx_script.specs.declared.job.Test.{Test}
use Rattle.fx_script.specs.declared.job.Test.TheVariants as test
use Rattle.fx_script.specs.declared.refusal.JobFault.TheVariants.{BadLine, BadNumber}
use Rattle.fx_script.specs.declared.refusal.Wrong.{Wrong}
use Rattle.fx_script.specs.Left.{Left}
use Rattle.fx_text.specs.Names.{is_name}
use Rattle.fx_script.specs.Outcome.{◌>>=◌}

-- a word that doesn't fit
abbrev pub misfit : Word → Wrong
misfit w = record { fault = BadLine; column = w.column }

-- the next word; a missing one is wrong one column past the line's end
abbrev pub first_of : List Word → ℕ → Result (Word × Left) Wrong
first_of [] past = Err (record { fault = BadLine; column = past })
first_of (w ∷ ws) past = Ok (w, record { words = ws; past = past })

abbrev pub due : Left → Result (Word × Left) Wrong
due left = first_of left.words left.past

-- nothing more
abbrev pub none_of : List Word → Result (Unit {0}) Wrong
none_of [] = Ok tt
none_of (w ∷ ws) = Err (misfit w)

abbrev pub end_at : Left → Result (Unit {0}) Wrong
end_at left = none_of left.words

-- this word
abbrev pub fixed_in : List ℕ → Word × Left → Result (Unit {0} × Left) Wrong
fixed_in text next = if bytes_eq next.0.bytes text then Ok (tt, next.1) else Err (misfit next.0)

abbrev pub fixed_at : List ℕ → Left → Result (Unit {0} × Left) Wrong
fixed_at text left = due left >>= fixed_in text

-- a name
abbrev pub name_in : Word × Left → Result (List ℕ × Left) Wrong
name_in next = if is_name next.0.bytes then Ok (next.0.bytes, next.1) else Err (misfit next.0)

abbrev pub name_at : Left → Result (List ℕ × Left) Wrong
name_at left = due left >>= name_in

-- a number
abbrev pub number_or : Word → Result ℤ NumberFault → Result ℤ Wrong
number_or w (Ok n) = Ok n
number_or w (Err f) = Err (record { fault = BadNumber; column = w.column })

abbrev pub number_in_word : Word → Result ℤ Wrong
number_in_word w = number_or w (number_in w.bytes)

abbrev pub number_at : Left → Result (ℤ × Left) Wrong
number_at left = due left >>= λ next. number_in_word next.0 >>= λ n. Ok (n, next.1)

-- a role
abbrev pub role_in : Word × Left → Result (Role × Left) Wrong
role_in next = if bytes_eq next.0.bytes (codes "initial") then Ok (role.Initial, next.1)
    else (if bytes_eq next.0.bytes (codes "survivor") then Ok (role.Survivor, next.1)
    else (if bytes_eq next.0.bytes (codes "recovered") then Ok (role.Recovered, next.1)
    else Err (misfit next.0)))

abbrev pub role_at : Left → Result (Role × Left) Wrong
role_at left = due left >>= role_in

-- how two sides are compared
abbrev pub test_in : Word × Left → Result (Test × Left) Wrong
test_in next = if bytes_eq next.0.bytes (codes "lt") then Ok (test.Lt, next.1)
    else (if bytes_eq next.0.bytes (codes "le") then Ok (test.Le, next.1)
    else (if bytes_eq next.0.bytes (codes "eq") then Ok (test.Eq, next.1)
    else Err (misfit next.0)))

abbrev pub test_at : Left → Result (Test × Left) Wrong
test_at left = due left >>= test_in

-- a pair of numbers
abbrev pub pair_at : Left → Result ((ℤ × ℤ) × Left) Wrong
pair_at left = do
  first ← number_at left
  last ← number_at first.1
  Ok ((first.0, last.0), last.1)

-- the pairs behind these, at most so many more
unfoldable pub pairs_from : ℕ → List (ℤ × ℤ) → Left → Result (List (ℤ × ℤ) × Left) Wrong
pairs_from zero pairs left = Ok (pairs, left)
pairs_from (suc room) pairs left = if length left.words == 0 then Ok (pairs, left)
    else (pair_at left >>= λ pair. pairs_from room (pairs ++ pair.0 ∷ []) pair.1)

-- 1 to 16 pairs
abbrev pub pairs_at : Left → Result (List (ℤ × ℤ) × Left) Wrong
pairs_at left = pair_at left >>= λ pair. pairs_from 15 (pair.0 ∷ []) pair.1

-- which elements are stored
abbrev pub strided_at : Left → Result (Picked × Left) Wrong
strided_at left = do
  blocks ← number_at left
  start ← number_at blocks.1
  end ← number_at start.1
  stride ← number_at end.1
  Ok (picked.Strided blocks.0 start.0 end.0 stride.0, stride.1)

abbrev pub ranges_at : Left → Result (Picked × Left) Wrong
ranges_at left = do
  pairs ← pairs_at left
  Ok (picked.Ranges pairs.0, pairs.1)

abbrev pub picked_in : Word × Left → Result (Picked × Left) Wrong
picked_in next = if bytes_eq next.0.bytes (codes "full") then Ok (picked.Full, next.1)
    else (if bytes_eq next.0.bytes (codes "empty") then Ok (picked.Empty, next.1)
    else (if bytes_eq next.0.bytes (codes "strided") then strided_at next.1
    else (if bytes_eq next.0.bytes (codes "ranges") then ranges_at next.1
    else Err (misfit next.0))))

abbrev pub picked_at : Left → Result (Picked × Left) Wrong
picked_at left = due left >>= picked_in
