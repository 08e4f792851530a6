-- Operators by the kind of their token (FORMAT §4.1): precedences, and the kinds of their rows.
use Rattle.std.specs.Prelude.{ℕ, ◌+◌, Bool, true, false, ◌&&◌, List, [], ◌∷◌, eqb, ltb, leb}
use Rattle.tokens.specs.Kind as kind
use Rattle.syntax.specs.Kind as row

-- what stands beside k in a list of pairs, or else d
unfoldable pub among : {A : Type 0} → ℕ → A → List (ℕ × A) → A
among k d [] = d
among k d (p ∷ ps) = elim (eqb k p.0) [ true ↦ p.1 | false ↦ among k d ps ]

-- an operator: its precedence, and the kind of its row
pub record Operator : Type 0 where
  pub precedence : ℕ
  pub row : ℕ

abbrev pub operator : ℕ → ℕ → Operator
operator p k = record { precedence = p; row = k }

-- no operator has precedence 0
abbrev pub no : Operator
no = operator 0 0

abbrev pub infix_table : List (ℕ × Operator)
infix_table =
    ((kind.OR, operator 1 row.or)
    ∷ (kind.AND, operator 2 row.and)
    ∷ (kind.equal, operator 4 row.equal)
    ∷ (kind.not_equal, operator 4 row.not_equal)
    ∷ (kind.less_or_greater_than, operator 4 row.not_equal)
    ∷ (kind.LIKE, operator 4 row.like)
    ∷ (kind.greater_than, operator 5 row.greater_than)
    ∷ (kind.greater_than_or_equal, operator 5 row.greater_than_or_equal)
    ∷ (kind.less_than, operator 5 row.less_than)
    ∷ (kind.less_than_or_equal, operator 5 row.less_than_or_equal)
    ∷ (kind.plus, operator 6 row.add)
    ∷ (kind.minus, operator 6 row.subtract)
    ∷ (kind.asterisk, operator 7 row.multiply)
    ∷ (kind.slash, operator 7 row.divide)
    ∷ (kind.percent, operator 7 row.remainder)
    ∷ (kind.caret, operator 8 row.exponentiate)
    ∷ [])

unfoldable pub infix_of : ℕ → Operator
infix_of k = among k no infix_table

-- the minimum for what stands to the right of an infix operator: one more than its precedence, but for `^` its own
unfoldable pub right_minimum : ℕ → ℕ
right_minimum k = elim (eqb k kind.caret) [ true ↦ (infix_of k).precedence | false ↦ (infix_of k).precedence + 1 ]

-- a prefix operator, whose operand is read at its own precedence
abbrev pub prefix_table : List (ℕ × Operator)
prefix_table =
    ((kind.plus, operator 10 row.identity) ∷ (kind.minus, operator 10 row.negate) ∷ (kind.NOT, operator 3 row.negation) ∷ [])

unfoldable pub prefix_of : ℕ → Operator
prefix_of k = among k no prefix_table

-- the precedence of a postfix operator: the rules give the row of each
abbrev pub postfix_table : List (ℕ × ℕ)
postfix_table = (kind.exclamation, 9) ∷ (kind.IS, 4) ∷ []

unfoldable pub postfix_of : ℕ → ℕ
postfix_of k = among k 0 postfix_table

-- p is the precedence of an operator, and at least m
unfoldable pub binds : ℕ → ℕ → Bool
binds p m = ltb 0 p && leb m p
