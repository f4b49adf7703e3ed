-- Bytes that are read of digits.
use Rattle.std.proofs.Common.{◌≡◌, ℕ, ◌+◌, ◌-◌, ◌*◌, ◌≤◌, List, [], ◌∷◌, ◌++◌, length, take, drop, get_or, Option, Some, None, refl, sym, ap, ◌∙◌, append_assoc, arith}
use Rattle.std.specs.Option.{option_map}
use Rattle.std.proofs.Math.Seq.{take-length}
use Rattle.fx_lines.specs.Forms.{both}
use Rattle.fx_lines.specs.Hex.{bytes_in, hex_digit}

one_more : (done : List ℕ) (byte : ℕ) (more : Option (List ℕ))
    → option_map (λ m. done ++ m) (option_map (λ v. v.0 ∷ v.1) (both (Some byte) more)) ≡ option_map (λ m. (done ++ byte ∷ []) ++ m) more
one_more done byte None = refl
one_more done byte (Some m) = ap Some (sym (append_assoc done (byte ∷ []) m))

-- two digits more
pub digits_more : (whole : Option (List ℕ)) (done new rest : List ℕ) (high low : ℕ) → 2 ≤ length rest → Some high ≡ hex_digit (get_or rest 0 0) → Some low ≡ hex_digit (get_or rest 1 0)
    → new ≡ done ++ (high * 16 + low) ∷ [] → whole ≡ option_map (λ m. done ++ m) (bytes_in rest)
    → whole ≡ option_map (λ m. new ++ m) (bytes_in (take (length rest - 2) (drop 2 rest)))
digits_more whole done new [] high low two h l added so_far = absurd (omega arith)
digits_more whole done new (a ∷ []) high low two h l added so_far = absurd (omega arith)
digits_more whole done new (a ∷ b ∷ more) high low two h l added so_far =
    let len : length (a ∷ b ∷ more) - 2 ≡ length more = omega arith in
    let all : take (length (a ∷ b ∷ more) - 2) (drop 2 (a ∷ b ∷ more)) ≡ more = rw len (take-length more) in
    let now : whole ≡ option_map (λ m. done ++ m) (option_map (λ v. v.0 ∷ v.1) (both (Some (high * 16 + low)) (bytes_in more))) =
    so_far ∙ ap (λ o. option_map (λ m. done ++ m) (option_map (λ v. v.0 ∷ v.1) (both (option_map (λ d. d.0 * 16 + d.1) (both o (hex_digit b))) (bytes_in more)))) (sym h)
    ∙ ap (λ o. option_map (λ m. done ++ m) (option_map (λ v. v.0 ∷ v.1) (both (option_map (λ d. d.0 * 16 + d.1) (both (Some high) o)) (bytes_in more)))) (sym l) in
    now ∙ one_more done (high * 16 + low) (bytes_in more) ∙ ap (λ front. option_map (λ m. front ++ m) (bytes_in more)) (sym added)
    ∙ ap (λ r. option_map (λ m. new ++ m) (bytes_in r)) (sym all)
