-- The reading rules with the row table passed along: what the inner functions promise. Rule by rule the text is that of Rules, with a row
-- written where that builds a tree. No entry's promise names this file.
use Rattle.std.specs.Prelude.{◌≡◌, Result, Ok, Err, Option, Some, None, ℕ, zero, suc, ◌+◌, ◌-◌, ◌*◌, List, Bool, true, false, eqb, ltb, leb}
use Rattle.std.proofs.lemmas.List.Edits.{sets}
use Rattle.tokens.specs.Kind as kind
use Rattle.tokens.specs.Token.{token_count, kind_at, spelled}
use Rattle.numbers.specs.Number.{number_of}
use Rattle.numbers.specs.declared.Number.{Number}
use Rattle.numbers.specs.declared.Number.TheVariants.{Integer, Float}
use Rattle.refusals.specs.declared.Refused.{Refused}
use Rattle.refusals.specs.declared.Refusal.{Refusal}
use Rattle.refusals.specs.declared.Refusal.TheVariants.{End, NoAtom, LeftOver, BadNumber, TooDeep, NoRoom, NeedClose, NeedComma, NeedName, NeedNullOrNan}
use Rattle.rows.specs.Layout.{width, numbers, capacity}
use Rattle.rows.specs.Label.{Label, label, leaf_row, row_over_one, row_over_two, row_over_many}
use Rattle.rows.specs.declared.Row.{Row}
use Rattle.syntax.specs.Kind as row
use Rattle.operators.specs.Operator.{infix_of, right_minimum, prefix_of, postfix_of, binds}
use Rattle.grammar.specs.Atom.{start_of}
use Rattle.grammar.specs.declared.Start.{Start}
use Rattle.grammar.specs.declared.Start.TheVariants as start
use Rattle.grammar.specs.declared.Cursor.{Cursor}

-- how far a reading has come, and the row table; or a refusal and its place
pub data Out : Type 0 where
  done : Cursor → List ℕ → Out
  refuse : Refusal → ℕ → Out

-- what a step's answer and the row table as it leaves it come to: the table counts only where the step read
abbrev pub outcome : Result Cursor Refused → List ℕ → Out
outcome (Ok c) t = done c t
outcome (Err e) t = refuse e.why e.place

-- the answer r, with the row table t as it is left, is what o says
pub record Gives (o : Out) (r : Result Cursor Refused) (t : List ℕ) : Type 0 where
  pub answer : outcome r t ≡ o

-- and then
unfoldable pub then : Out → (Cursor → List ℕ → Out) → Out
then (done c t) k = k c t
then (refuse why at) k = refuse why at

-- past n tokens
abbrev pub past : ℕ → Cursor → Cursor
past n c = record { at = c.at + n; rows = c.rows }

-- a row is due: it is written after the others, if there is room
unfoldable pub push_row : Row → Cursor → List ℕ → Out
push_row r c t =
    elim (leb (capacity t) c.rows) [
      | true ↦ refuse NoRoom c.at
      | false ↦ done (record { at = c.at; rows = c.rows + 1 }) (sets t (c.rows * width) (numbers r))
    ]

-- a leaf of one token
abbrev pub push_leaf : Label → Cursor → List ℕ → Out
push_leaf l c t = push_row (leaf_row l) (past 1 c) t

-- a row over the last one, the root so far
abbrev pub push_over_last : Label → Cursor → List ℕ → Out
push_over_last l c t = push_row (row_over_one l (c.rows - 1)) c t

-- a number, by what its bytes are
unfoldable pub numeral : Option Number → Cursor → List ℕ → Out
numeral (Some (Integer n)) c t = push_leaf (label row.integer n 0) c t
numeral (Some Float) c t = push_leaf (label row.float c.at 0) c t
numeral None c t = refuse BadNumber c.at

-- a step, while there is one
unfoldable pub while : (ℕ → Bool) → (Cursor → List ℕ → Out) → ℕ → Cursor → List ℕ → Out
while more? step zero c t = done c t
while more? step (suc turns) c t =
    elim (more? c.at) [ false ↦ done c t | true ↦ then (step c t) (while more? step turns) ]

-- turns enough for every loop: each turn but the last uses a token
abbrev pub fuel : List ℕ → ℕ
fuel ts = suc (token_count ts)

-- a reading at a minimum precedence
abbrev pub Rec : Type 0
Rec = ℕ → Cursor → List ℕ → Out

module _ (ts : List ℕ) where
  -- the token that is needed is missing: none is left (END), or another stands here
  unfoldable pub missing : Refusal → ℕ → Out
  missing why at = elim (eqb (kind_at ts at) kind.none) [ true ↦ refuse End at | false ↦ refuse why at ]

  -- a token of kind k is needed here
  unfoldable pub need : ℕ → Refusal → Cursor → List ℕ → Out
  need k why c t = elim (eqb (kind_at ts c.at) k) [ true ↦ done (past 1 c) t | false ↦ missing why c.at ]

  -- NULL or NAN, after IS
  unfoldable pub null_or_nan : Cursor → List ℕ → Out
  null_or_nan c t =
      elim (eqb (kind_at ts c.at) kind.NULL) [
        | true ↦ push_over_last (label row.is 0 0) (past 1 c) t
        | false ↦ then (need kind.NAN NeedNullOrNan c t) (push_over_last (label row.is 0 1))
      ]

  -- a postfix operator: `!`, or IS and perhaps NOT
  unfoldable pub postfix : Cursor → List ℕ → Out
  postfix c t =
      elim (eqb (kind_at ts c.at) kind.exclamation) [
        | true ↦ push_over_last (label row.factorial 0 0) (past 1 c) t
        | false ↦
            elim (eqb (kind_at ts (c.at + 1)) kind.NOT) [
              | false ↦ null_or_nan (past 1 c) t
              | true ↦ then (null_or_nan (past 2 c) t) (push_over_last (label row.negation 0 0))
            ]
      ]

  -- a postfix operator after the other, as long as the next one binds at m
  unfoldable pub postfixes : ℕ → Cursor → List ℕ → Out
  postfixes m = while (λ at. binds (postfix_of (kind_at ts at)) m) postfix (fuel ts)

  -- name.name or name
  unfoldable pub column : Cursor → List ℕ → Out
  column c t =
      elim (eqb (kind_at ts (c.at + 1)) kind.period) [
        | true ↦ then (need kind.ident NeedName (past 2 c) t) (push_row (leaf_row (label row.qualified c.at (c.at + 2))))
        | false ↦ push_leaf (label row.column c.at 0) c t
      ]

  -- the expression has ended, and every token must be used
  unfoldable pub finish : Cursor → List ℕ → Out
  finish c t = elim (ltb c.at (token_count ts)) [ true ↦ refuse LeftOver c.at | false ↦ done c t ]

module _ (text ts : List ℕ) where
  -- the rules of one level: `rec` reads an expression one level down
  module _ (rec : Rec) where
    -- an expression in parentheses
    unfoldable pub group : Cursor → List ℕ → Out
    group c t = then (rec 0 (past 1 c) t) (need ts kind.close_paren NeedClose)

    -- an argument, after a comma if it is not the first
    unfoldable pub argument : ℕ → Cursor → List ℕ → Out
    argument n c t = elim (eqb n 0) [ true ↦ rec 0 c t | false ↦ then (need ts kind.comma NeedComma c t) (rec 0) ]

    -- the arguments after the first n of the function that token f names, up to the closing parenthesis
    unfoldable pub arguments : ℕ → ℕ → ℕ → Cursor → List ℕ → Out
    arguments f n zero c t = refuse End c.at
    arguments f n (suc turns) c t =
        elim (eqb (kind_at ts c.at) kind.close_paren) [
          | true ↦ push_row (row_over_many (label row.function f 0) n) (past 1 c) t
          | false ↦ then (argument n c t) (arguments f (n + 1) turns)
        ]

    -- name(args), else a column
    unfoldable pub named : Cursor → List ℕ → Out
    named c t =
        elim (eqb (kind_at ts (c.at + 1)) kind.open_paren) [
          | true ↦ arguments c.at 0 (fuel ts) (past 2 c) t
          | false ↦ column ts c t
        ]

    -- an atom, by what it starts with
    unfoldable pub atom : Start → Cursor → List ℕ → Out
    atom start.Nothing c t = refuse End c.at
    atom start.Number c t = numeral (number_of (spelled text ts c.at)) c t
    atom start.Text c t = push_leaf (label row.string c.at 0) c t
    atom start.Name c t = named c t
    atom start.Paren c t = group c t
    atom (start.Plain kind x) c t = push_leaf (label kind x 0) c t
    atom start.Other c t = refuse NoAtom c.at

    -- a prefix operator that binds at m, and its operand; or else an atom
    unfoldable pub operand : ℕ → Cursor → List ℕ → Out
    operand m c t =
        let op = prefix_of (kind_at ts c.at) in
        elim (binds op.precedence m) [
          | false ↦ atom (start_of (kind_at ts c.at)) c t
          | true ↦ then (rec op.precedence (past 1 c) t) (push_over_last (label op.row 0 0))
        ]

    -- an infix operator after its left side, with its right side
    unfoldable pub infixed : Cursor → List ℕ → Out
    infixed c t =
        let k = kind_at ts c.at in
        then (rec (right_minimum k) (past 1 c) t) λ d u. push_row (row_over_two (label (infix_of k).row 0 0) (c.rows - 1) (d.rows - 1)) d u

    -- infix operators of at least m with their right sides, while there are any
    unfoldable pub infixes : ℕ → Cursor → List ℕ → Out
    infixes m = while (λ at. binds (infix_of (kind_at ts at)).precedence m) infixed (fuel ts)

    -- reading at a minimum m
    unfoldable pub level : Rec
    level m c t =
        then (operand m c t) λ c t.  -- (a)
        then (postfixes ts m c t) λ c t.  -- (b)
        then (infixes m c t) (postfixes ts m)  -- (c) and (d)

  -- an expression at a minimum, with so many levels left
  unfoldable pub expression : ℕ → Rec
  expression zero m c t = refuse TooDeep c.at
  expression (suc levels) m c t = level (expression levels) m c t

  -- all tokens are one expression, read at 0
  unfoldable pub whole_expression : ℕ → List ℕ → Out
  whole_expression levels t = then (expression levels 0 (record { at = 0; rows = 0 }) t) (finish ts)
