-- Expressions in prefix form: a sign stands in front of its two expressions.
use Rattle.std.specs.Prelude.{ℕ, Bool, true, false, ◌&&◌, ◌||◌, ◌==◌, nat_lt, if◌then◌else◌, List, [], ◌∷◌, ◌++◌, length, codes, Result, Ok, Err}
use Rattle.std.specs.Fmt.{signed_decimal}
use Rattle.std.specs.Str.{bytes_eq}
use Rattle.fx_text.specs.Numbers.{is_digit, fits_64}
use Rattle.fx_text.specs.Words.{Word}
use Rattle.fx_script.specs.declared.expr.Expr.{Expr}
use Rattle.fx_script.specs.declared.expr.Expr.TheVariants as expr
use Rattle.fx_script.specs.declared.expr.Expr.TheOpen.{Expr-F}
use Rattle.fx_script.specs.declared.expr.Expr.TheFolds.{fold-Expr}
use Rattle.fx_script.specs.declared.expr.Pending.{Pending}
use Rattle.fx_script.specs.declared.expr.Pending.TheVariants as pending
use Rattle.fx_script.specs.declared.expr.Sign.{Sign}
use Rattle.fx_script.specs.declared.expr.Sign.TheVariants as sign
use Rattle.fx_script.specs.declared.expr.Step.{Step}
use Rattle.fx_script.specs.declared.expr.Step.TheVariants as step
use Rattle.fx_script.specs.declared.expr.Token.{Token}
use Rattle.fx_script.specs.declared.expr.Token.TheVariants as token
use Rattle.fx_script.specs.declared.refusal.JobFault.TheVariants.{BadLine}
use Rattle.fx_script.specs.declared.refusal.Wrong.{Wrong}
use Rattle.fx_script.specs.Left.{Left}
use Rattle.fx_text.specs.Names.{is_name}
use Rattle.fx_script.specs.Outcome.{◌>>=◌}
use Rattle.fx_script.specs.Fields.{misfit, number_in_word}

-- the word of a sign
abbrev pub sign_text : Sign → List ℕ
sign_text sign.Plus = codes "+"
sign_text sign.Minus = codes "-"
sign_text sign.Times = codes "*"

-- the words of an expression
abbrev pub words_of_level : Expr-F (List (List ℕ)) → List (List ℕ)
words_of_level (Expr-F.Number n) = signed_decimal n ∷ []
words_of_level (Expr-F.Name name) = name ∷ []
words_of_level Expr-F.Index = codes "index" ∷ []
words_of_level Expr-F.Rank = codes "rank" ∷ []
words_of_level Expr-F.Size = codes "size" ∷ []
words_of_level (Expr-F.Latest group) = codes "latest" ∷ signed_decimal group ∷ []
words_of_level (Expr-F.Add left right) = codes "+" ∷ (left ++ right)
words_of_level (Expr-F.Sub left right) = codes "-" ∷ (left ++ right)
words_of_level (Expr-F.Mul left right) = codes "*" ∷ (left ++ right)

abbrev pub expr_words : Expr → List (List ℕ)
expr_words = fold-Expr (List (List ℕ)) words_of_level

-- its names are names and its numbers fit
abbrev pub writable_level : Expr-F Bool → Bool
writable_level (Expr-F.Number n) = fits_64 n
writable_level (Expr-F.Name name) = is_name name
writable_level Expr-F.Index = true
writable_level Expr-F.Rank = true
writable_level Expr-F.Size = true
writable_level (Expr-F.Latest group) = fits_64 group
writable_level (Expr-F.Add left right) = left && right
writable_level (Expr-F.Sub left right) = left && right
writable_level (Expr-F.Mul left right) = left && right

abbrev pub is_writable_expr : Expr → Bool
is_writable_expr = fold-Expr Bool writable_level

-- two expressions behind a sign
abbrev pub joined : Sign → Expr → Expr → Expr
joined sign.Plus left right = expr.Add left right
joined sign.Minus left right = expr.Sub left right
joined sign.Times left right = expr.Mul left right

-- a word is meant as a number: it begins with a digit, or with `-` and more
abbrev pub is_meant_as_number : List ℕ → Bool
is_meant_as_number [] = false
is_meant_as_number (b ∷ bs) = is_digit b || (b == 45 && nat_lt 0 (length bs))

-- a number or a name
abbrev pub operand_in : Word → Result Token Wrong
operand_in w = if is_meant_as_number w.bytes then (number_in_word w >>= λ n. Ok (token.Leaf (expr.Number n)))
    else (if is_name w.bytes then Ok (token.Leaf (expr.Name w.bytes)) else Err (misfit w))

-- what a word of an expression is
abbrev pub token_in : Word → Result Token Wrong
token_in w = if bytes_eq w.bytes (codes "+") then Ok (token.Sign sign.Plus)
    else (if bytes_eq w.bytes (codes "-") then Ok (token.Sign sign.Minus)
    else (if bytes_eq w.bytes (codes "*") then Ok (token.Sign sign.Times)
    else (if bytes_eq w.bytes (codes "index") then Ok (token.Leaf expr.Index)
    else (if bytes_eq w.bytes (codes "rank") then Ok (token.Leaf expr.Rank)
    else (if bytes_eq w.bytes (codes "size") then Ok (token.Leaf expr.Size)
    else (if bytes_eq w.bytes (codes "latest") then Ok token.Latest
    else operand_in w))))))

-- an expression that is complete goes to the sign in front of it, and may complete that one
abbrev pub settled : Expr → List Pending → Step × List Pending
settled e [] = (step.Whole e, [])
settled e (pending.First s ∷ ps) = (step.More false, pending.Second s e ∷ ps)
settled e (pending.Second s left ∷ ps) = settled (joined s left e) ps

-- a word that is no group
abbrev pub taken_token : Token → List Pending → Step × List Pending
taken_token (token.Sign s) ps = (step.More false, pending.First s ∷ ps)
taken_token token.Latest ps = (step.More true, ps)
taken_token (token.Leaf e) ps = settled e ps

-- a word behind these signs, where a group is due or isn't
abbrev pub stepped : Bool → List Pending → Word → Result (Step × List Pending) Wrong
stepped true ps w = number_in_word w >>= λ group. Ok (settled (expr.Latest group) ps)
stepped false ps w = token_in w >>= λ t. Ok (taken_token t ps)

-- the expression is whole, or more words are due
abbrev pub goes_on : Step → Left → (Bool → Result (Expr × Left) Wrong) → Result (Expr × Left) Wrong
goes_on (step.Whole e) left more = Ok (e, left)
goes_on (step.More group) left more = more group

-- the words of an expression, one after another
abbrev pub expr_run : Bool → List Pending → List Word → ℕ → Result (Expr × Left) Wrong
expr_run group ps [] past = Err (record { fault = BadLine; column = past })
expr_run group ps (w ∷ ws) past = stepped group ps w >>= λ next. goes_on next.0 (record { words = ws; past = past }) (λ due. expr_run due next.1 ws past)

-- an expression
abbrev pub expr_at : Left → Result (Expr × Left) Wrong
expr_at left = expr_run false [] left.words left.past
