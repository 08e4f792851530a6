-- Operands of one token: where one stands alone, and what it is read as.
use Rattle.std.specs.Prelude.{ℕ, ◌+◌, Bool, true, false, not, ◌&&◌, ◌||◌, List, eqb, ltb}
use Rattle.tokens.specs.Kind as kind
use Rattle.tokens.specs.Token.{kind_at, spelled}
use Rattle.numbers.specs.Number.{number_of}
use Rattle.rows.specs.Label.{label}
use Rattle.syntax.specs.Kind as row
use Rattle.operators.specs.Operator.{infix_of, postfix_of, binds}
use Rattle.grammar.specs.Memory.{Out, push_leaf, numeral}
use Rattle.grammar.specs.declared.Cursor.{Cursor}

-- a token of kind k may follow an operand of one token, and be read with it at the minimum m: a call's parenthesis, a qualified name's period, an
-- operator
unfoldable pub may_follow_operand : ℕ → ℕ → Bool
may_follow_operand k m =
    (eqb k kind.open_paren || eqb k kind.period) || (binds (infix_of k).precedence m || binds (postfix_of k) m)

-- a number, a string or a name
unfoldable pub starts_leaf : ℕ → Bool
starts_leaf k = eqb k kind.number || (eqb k kind.string || eqb k kind.ident)

module _ (ts : List ℕ) where
  -- the operand at token `at` is that token alone, and there is a level for it
  unfoldable pub single_token_operand : ℕ → ℕ → ℕ → Bool
  single_token_operand levels m at = ltb 0 levels && (starts_leaf (kind_at ts at) && not (may_follow_operand (kind_at ts (at + 1)) m))

  -- what it is read as
  unfoldable pub single_token : List ℕ → Cursor → List ℕ → Out
  single_token text c t =
      elim (eqb (kind_at ts c.at) kind.number) [
        | true ↦ numeral (number_of (spelled text ts c.at)) c t
        | false ↦
            elim (eqb (kind_at ts c.at) kind.string) [
              | true ↦ push_leaf (label row.string c.at 0) c t
              | false ↦ push_leaf (label row.column c.at 0) c t
            ]
      ]
