-- The cases of the rules that pass the row table along, as the functions' tests tell them apart, where a proof names them.
-- Assumes nothing.
use mathlib.Core.Path.{◌≡◌, sym, ap}
use mathlib.Core.Bool.{false}
use mathlib.Core.List.{List}
use Prim.Native.Nat.{ℕ, suc, ◌+◌, ◌-◌, ◌*◌, ◌≤◌, ◌<◌}
use native.Mathlib.Omega.{arith}
use borrow.Author.Tests.{le-leb, lt-leb, eq-eqb, ne_eqb}
use lib.Seq.{sets}
use Rattle.tokens.specs.Kind as kind
use Rattle.tokens.specs.Token.{kind_at}
use Rattle.refusals.specs.declared.Refusal.TheVariants.{TooDeep, NoRoom}
use Rattle.rows.specs.Layout.{width, numbers, capacity}
use Rattle.rows.specs.Label.{label, row_over_many}
use Rattle.rows.specs.declared.Row.{Row}
use Rattle.syntax.specs.Kind as row
use Rattle.operators.specs.Operator.{binds, prefix_of}
use Rattle.grammar.specs.Atom.{start_of}
use Rattle.grammar.specs.declared.Start.{Start}
use Rattle.grammar.specs.Memory.{done, refuse, then, past, push_row, push_leaf, Rec}
use Rattle.grammar.specs.Memory.{column, argument, arguments, named, atom, operand, level, expression}
use Rattle.grammar.specs.declared.Cursor.{Cursor}
use Rattle.grammar.proofs.Answers.{goes_on}
use Rattle.grammar.proofs.Loops.{one_less, while_on, while_off}

-- the cases of `push_row`
module _ (r : Row) (c : Cursor) (t : List ℕ) where
  pub push_full : capacity t ≤ c.rows → push_row r c t ≡ refuse NoRoom c.at
  unfolding push_row
  push_full le = rw (le-leb _ _ le, push_row)

  pub push_room : c.rows < capacity t → push_row r c t ≡ done (record { at = c.at; rows = c.rows + 1 }) (sets t (c.rows * width) (numbers r))
  unfolding push_row
  push_room lt = rw (lt-leb _ _ lt, push_row)

module _ (ts : List ℕ) (c : Cursor) (t : List ℕ) where
  -- a column with no period after its name
  pub column_plain : (kind_at ts (c.at + 1) ≡ kind.period → ⊥) → column ts c t ≡ push_leaf (label row.column c.at 0) c t
  unfolding column
  column_plain n = rw (ne_eqb _ kind.period n, column)

-- the cases of the rules of one level
module _ (text ts : List ℕ) (rec : Rec) (c : Cursor) (t : List ℕ) where
  pub arguments_end : (f n left : ℕ) → kind_at ts c.at ≡ kind.close_paren →
      arguments text ts rec f n (suc left) c t ≡ push_row (row_over_many (label row.function f 0) n) (past 1 c) t
  unfolding arguments
  arguments_end f n left e = rw (eq-eqb _ kind.close_paren e, arguments)

  pub arguments_on : (f n left : ℕ) → (kind_at ts c.at ≡ kind.close_paren → ⊥) →
      arguments text ts rec f n (suc left) c t ≡ then (argument text ts rec n c t) (arguments text ts rec f (n + 1) left)
  unfolding arguments
  arguments_on f n left e = rw (ne_eqb _ kind.close_paren e, arguments)

  pub named_column : (kind_at ts (c.at + 1) ≡ kind.open_paren → ⊥) → named text ts rec c t ≡ column ts c t
  unfolding named
  named_column n = rw (ne_eqb _ kind.open_paren n, named)

  pub prefix_off : (m : ℕ) → binds (prefix_of (kind_at ts c.at)).precedence m ≡ false →
      operand text ts rec m c t ≡ atom text ts rec (start_of (kind_at ts c.at)) c t
  unfolding operand
  prefix_off m e = rw (e, operand)

-- an atom, by what it starts with
pub atom_by : (text ts : List ℕ) (rec : Rec) (c : Cursor) (t : List ℕ) {a b : Start} → a ≡ b → atom text ts rec a c t ≡ atom text ts rec b c t
atom_by text ts rec c t e = ap (λ (s : Start). atom text ts rec s c t) e

-- the cases of `expression`
module _ (text ts : List ℕ) (levels m : ℕ) (c : Cursor) (t : List ℕ) where
  pub expression_none : levels ≡ 0 → expression text ts levels m c t ≡ refuse TooDeep c.at
  unfolding expression
  expression_none z = rw z

  pub expression_level : (levels ≡ 0 → ⊥) → expression text ts levels m c t ≡ level text ts (expression text ts (levels - 1)) m c t
  unfolding expression
  expression_level some = sym (ap (λ (n : ℕ). expression text ts n m c t) (one_less levels (omega arith)))

-- for the functions' `using`: how a loop goes on and ends, how the arguments do, and how an expression does
pub ruleset loop_cases = (goes_on, while_on, while_off)

pub ruleset arguments_cases = (goes_on, arguments_end, arguments_on)

pub ruleset expression_cases = (goes_on, expression_none, expression_level, while_off)
