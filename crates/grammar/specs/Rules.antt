-- The reading rules (FORMAT §4): tokens to a tree, or to a refusal and its place. A node is made with `label kind x y`, the numbers of its row that are its
-- own; those that name its operands or count them stand as 0.
use Rattle.std.specs.Prelude.{Option, Some, None, ℕ, zero, suc, ◌+◌, List, Bool, true, false, eqb, ltb, leb}
use Rattle.tokens.specs.Kind as kind
use Rattle.tokens.specs.Token.{token_count, kind_at, spelled}
use Rattle.numbers.specs.Number.{number_of}
use Rattle.numbers.specs.declared.Number.{Number}
use Rattle.numbers.specs.declared.Number.TheVariants.{Integer, Float}
use Rattle.refusals.specs.declared.Refusal.{Refusal}
use Rattle.refusals.specs.declared.Refusal.TheVariants.{End, NoAtom, LeftOver, BadNumber, TooDeep, NoRoom, NeedClose, NeedComma, NeedName, NeedNullOrNan}
use Rattle.rows.specs.Label.{label}
use Rattle.syntax.specs.Kind as row
use Rattle.operators.specs.Operator.{infix_of, right_minimum, prefix_of, postfix_of, binds}
use Rattle.grammar.specs.Atom.{start_of}
use Rattle.grammar.specs.declared.Start.{Start}
use Rattle.grammar.specs.declared.Start.TheVariants as start
use Rattle.syntax.specs.Tree.{Tree, leaf, unary, binary, call, Trees, none, more}

-- what a reading comes to: the next token, the rows due so far and the tree; or a refusal and its place
pub data Reading : Type 0 where
  done : ℕ → ℕ → Tree → Reading
  refuse : Refusal → ℕ → Reading

-- and then, from the next token, the rows due and the tree
infixl 10 ◌>>=◌
unfoldable pub ◌>>=◌ : Reading → (ℕ × ℕ × Tree → Reading) → Reading
◌>>=◌ (done at used x) k = k (at, used, x)
◌>>=◌ (refuse why at) k = refuse why at

-- a reading at a minimum precedence, from a token on, with so many rows due before it
abbrev pub Reader : Type 0
Reader = ℕ → ℕ → ℕ → Reading

-- a step, while there is one: `turns` are enough where each step uses a token
unfoldable pub while : (ℕ → Bool) → (ℕ → ℕ → Tree → Reading) → ℕ → ℕ → ℕ → Tree → Reading
while more? step zero at used x = done at used x
while more? step (suc turns) at used x =
    elim (more? at) [
      | false ↦ done at used x
      | true ↦ do
        (at, used, x) ← step at used x
        while more? step turns at used x
    ]

-- a text, its tokens, and a table of cap rows
module _ (text ts : List ℕ) (cap : ℕ) where
  -- the tokens and operands of x are read, and its own row is due: there must be room for it
  unfoldable pub due : ℕ → ℕ → Tree → Reading
  due at used x = elim (leb cap used) [ true ↦ refuse NoRoom at | false ↦ done at (used + 1) x ]

  -- the token that is needed is missing: none is left (END), or another stands here
  unfoldable pub missing : Refusal → ℕ → Reading
  missing why at = elim (eqb (kind_at ts at) kind.none) [ true ↦ refuse End at | false ↦ refuse why at ]

  -- a token of kind k is needed here, and reading goes on after it
  unfoldable pub need : ℕ → Refusal → ℕ → (ℕ → Reading) → Reading
  need k why at on = elim (eqb (kind_at ts at) k) [ true ↦ on (at + 1) | false ↦ missing why at ]

  -- NULL or NAN, after IS
  unfoldable pub null_or_nan : ℕ → ℕ → Tree → Reading
  null_or_nan at used x =
      elim (eqb (kind_at ts at) kind.NULL) [
        | true ↦ due (at + 1) used (unary (label row.is 0 0) x)
        | false ↦ need kind.NAN NeedNullOrNan at λ at. due at used (unary (label row.is 0 1) x)
      ]

  -- a postfix operator after x: `!`, or IS and perhaps NOT
  unfoldable pub postfix : ℕ → ℕ → Tree → Reading
  postfix at used x =
      elim (eqb (kind_at ts at) kind.exclamation) [
        | true ↦ due (at + 1) used (unary (label row.factorial 0 0) x)
        | false ↦
            elim (eqb (kind_at ts (at + 1)) kind.NOT) [
              | false ↦ null_or_nan (at + 1) used x
              | true ↦ do
                (at, used, x) ← null_or_nan (at + 2) used x
                due at used (unary (label row.negation 0 0) x)
            ]
      ]

  -- a postfix operator after the other, as long as the next one binds at m
  unfoldable pub postfixes : ℕ → ℕ → ℕ → Tree → Reading
  postfixes m = while (λ at. binds (postfix_of (kind_at ts at)) m) postfix (suc (token_count ts))

  -- a number, by what its bytes are
  unfoldable pub numeral : Option Number → ℕ → ℕ → Reading
  numeral (Some (Integer n)) at used = due (at + 1) used (leaf (label row.integer n 0))
  numeral (Some Float) at used = due (at + 1) used (leaf (label row.float at 0))
  numeral None at used = refuse BadNumber at

  -- name.name or name
  unfoldable pub column : ℕ → ℕ → Reading
  column at used =
      elim (eqb (kind_at ts (at + 1)) kind.period) [
        | true ↦ need kind.ident NeedName (at + 2) λ next. due next used (leaf (label row.qualified at (at + 2)))
        | false ↦ due (at + 1) used (leaf (label row.column at 0))
      ]

  -- the rules of one level: `rec` reads an expression one level down
  module _ (rec : Reader) where
    -- an expression in parentheses
    unfoldable pub group : ℕ → ℕ → Reading
    group at used = do
      (at, used, x) ← rec 0 (at + 1) used
      need kind.close_paren NeedClose at λ at. done at used x

    -- an argument, after a comma if it is not the first
    unfoldable pub argument : Trees → ℕ → ℕ → Reading
    argument none at used = rec 0 at used
    argument (more xs x) at used = need kind.comma NeedComma at λ at. rec 0 at used

    -- the arguments after xs of the function that token f names, up to the closing parenthesis: `turns` are enough, as for `while`
    unfoldable pub arguments : ℕ → ℕ → ℕ → ℕ → Trees → Reading
    arguments f zero at used xs = refuse End at
    arguments f (suc turns) at used xs =
        elim (eqb (kind_at ts at) kind.close_paren) [
          | true ↦ due (at + 1) used (call (label row.function f 0) xs)
          | false ↦ do
            (at, used, x) ← argument xs at used
            arguments f turns at used (more xs x)
        ]

    -- name(args), else a column
    unfoldable pub named : ℕ → ℕ → Reading
    named at used =
        elim (eqb (kind_at ts (at + 1)) kind.open_paren) [
          | true ↦ arguments at (suc (token_count ts)) (at + 2) used none
          | false ↦ column at used
        ]

    -- an atom, by what it starts with
    unfoldable pub atom : Start → ℕ → ℕ → Reading
    atom start.Nothing at used = refuse End at
    atom start.Number at used = numeral (number_of (spelled text ts at)) at used
    atom start.Text at used = due (at + 1) used (leaf (label row.string at 0))
    atom start.Name at used = named at used
    atom start.Paren at used = group at used
    atom (start.Plain kind x) at used = due (at + 1) used (leaf (label kind x 0))
    atom start.Other at used = refuse NoAtom at

    -- a prefix operator that binds at m, and its operand; or else an atom
    unfoldable pub operand : ℕ → ℕ → ℕ → Reading
    operand m at used =
        let op = prefix_of (kind_at ts at) in
        elim (binds op.precedence m) [
          | false ↦ atom (start_of (kind_at ts at)) at used
          | true ↦ do
            (at, used, x) ← rec op.precedence (at + 1) used
            due at used (unary (label op.row 0 0) x)
        ]

    -- an infix operator after its left side x, with its right side
    unfoldable pub infixed : ℕ → ℕ → Tree → Reading
    infixed at used x = do
      let k = kind_at ts at
      (at, used, y) ← rec (right_minimum k) (at + 1) used
      due at used (binary (label (infix_of k).row 0 0) x y)

    -- infix operators of at least m with their right sides, while there are any
    unfoldable pub infixes : ℕ → ℕ → ℕ → Tree → Reading
    infixes m = while (λ at. binds (infix_of (kind_at ts at)).precedence m) infixed (suc (token_count ts))

    -- reading at a minimum m
    unfoldable pub level : Reader
    level m at used = do
      (at, used, x) ← operand m at used  -- (a)
      (at, used, x) ← postfixes m at used x  -- (b)
      (at, used, x) ← infixes m at used x  -- (c)
      postfixes m at used x  -- (d)

  -- an expression at a minimum, with so many levels left
  unfoldable pub expression : ℕ → Reader
  expression zero m at used = refuse TooDeep at
  expression (suc levels) m at used = level (expression levels) m at used

  -- the expression has ended, and every token must be used
  unfoldable pub finish : ℕ → ℕ → Tree → Reading
  finish at used x = elim (ltb at (token_count ts)) [ true ↦ refuse LeftOver at | false ↦ done at used x ]

  -- all tokens are one expression, read at 0
  unfoldable pub whole_expression : ℕ → Reading
  whole_expression levels = do
    (at, used, x) ← expression levels 0 0 0
    finish at used x

-- the same without a room limit: a table of as many rows as there are tokens is always large enough. No entry's promise names it
unfoldable pub unlimited : List ℕ → List ℕ → ℕ → Reading
unlimited text ts levels = whole_expression text ts (token_count ts) levels
