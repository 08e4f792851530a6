-- Where a reading of an operand comes to, a row is written: `..-writes`, a law for each rule. So no contract need say it.
-- Assumes nothing.
use mathlib.Core.Bool.{Bool}
use mathlib.Core.List.{List}
use Prim.Native.Nat.{ℕ, zero, suc, ◌+◌, ◌<◌}
use native.Mathlib.Omega.{arith}
use lib.Dec.{eqb, leb}
use Rattle.std.specs.Prelude.{Option, Some, None}
use Rattle.tokens.specs.Kind as kind
use Rattle.tokens.specs.Token.{kind_at, spelled}
use Rattle.numbers.specs.Number.{number_of}
use Rattle.numbers.specs.declared.Number.{Number}
use Rattle.numbers.specs.declared.Number.TheVariants.{Integer, Float}
use Rattle.refusals.specs.declared.Refusal.{Refusal}
use Rattle.refusals.specs.declared.Refusal.TheVariants.{NeedClose, NeedNullOrNan}
use Rattle.rows.specs.Layout.{capacity}
use Rattle.rows.specs.declared.Row.{Row}
use Rattle.operators.specs.Operator.{binds, prefix_of}
use Rattle.grammar.specs.Atom.{start_of}
use Rattle.grammar.specs.declared.Start.{Start}
use Rattle.grammar.specs.declared.Start.TheVariants as start
use Rattle.grammar.specs.Memory.{Out, past, push_row, while, fuel, Rec, need, null_or_nan, postfix, postfixes, column, numeral, group, arguments}
use Rattle.grammar.specs.Memory.{named, atom, operand, infixed, infixes, level, expression}
use Rattle.grammar.specs.declared.Cursor.{Cursor}
use Rattle.grammar.proofs.Reached.{Holds, gone, after, either, anything, missing_holds}

-- a row is written
abbrev pub Written : Cursor → Type 0
Written c = 0 < c.rows

push_row_writes : (r : Row) (c : Cursor) (t : List ℕ) → Holds Written (push_row r c t)
unfolding push_row
push_row_writes r c t = either (leb (capacity t) c.rows) (λ e. gone) (λ e. record { told = omega arith })

module _ (ts : List ℕ) where
  pub need_writes : (k : ℕ) (why : Refusal) (c : Cursor) (t : List ℕ) → Written c → Holds Written (need ts k why c t)
  unfolding need
  need_writes k why c t some = either (eqb (kind_at ts c.at) k) (λ e. record { told = some }) (λ e. missing_holds ts Written why c.at)

  pub null_writes : (c : Cursor) (t : List ℕ) → Written c → Holds Written (null_or_nan ts c t)
  unfolding null_or_nan
  null_writes c t some =
      either (eqb (kind_at ts c.at) kind.NULL) (λ e. push_row_writes _ _ t)
      (λ e. after (need_writes kind.NAN NeedNullOrNan c t some) (λ d u h. push_row_writes _ d u))

  pub postfix_writes : (c : Cursor) (t : List ℕ) → Written c → Holds Written (postfix ts c t)
  unfolding postfix
  postfix_writes c t some =
      either (eqb (kind_at ts c.at) kind.exclamation) (λ e. push_row_writes _ _ t)
      (λ e. either (eqb (kind_at ts (c.at + 1)) kind.NOT) (λ f. after (null_writes (past 2 c) t some) (λ d u h. push_row_writes _ d u))
      (λ f. null_writes (past 1 c) t some))

  while_writes : (more? : ℕ → Bool) (step : Cursor → List ℕ → Out) → ((c : Cursor) (t : List ℕ) → Written c → Holds Written (step c t)) →
      (turns : ℕ) (c : Cursor) (t : List ℕ) → Written c → Holds Written (while more? step turns c t)
  unfolding while
  while_writes more? step goes zero c t some = record { told = some }
  while_writes more? step goes (suc turns) c t some =
      either (more? c.at) (λ e. after (goes c t some) (λ d u h. while_writes more? step goes turns d u h)) (λ e. record { told = some })

  pub postfixes_writes : (m : ℕ) (c : Cursor) (t : List ℕ) → Written c → Holds Written (postfixes ts m c t)
  unfolding postfixes
  postfixes_writes m = while_writes _ (postfix ts) postfix_writes (fuel ts)

  column_writes : (c : Cursor) (t : List ℕ) → Holds Written (column ts c t)
  unfolding column
  column_writes c t =
      either (eqb (kind_at ts (c.at + 1)) kind.period) (λ e. after (anything _) (λ d u h. push_row_writes _ d u)) (λ e. push_row_writes _ _ t)

numeral_writes : (x : Option Number) (c : Cursor) (t : List ℕ) → Holds Written (numeral x c t)
unfolding numeral
numeral_writes (Some (Integer n)) c t = push_row_writes _ _ t
numeral_writes (Some Float) c t = push_row_writes _ _ t
numeral_writes None c t = gone

module _ (text ts : List ℕ) where
  module _ (rec : Rec) (some : (m : ℕ) (c : Cursor) (t : List ℕ) → Holds Written (rec m c t)) where
    arguments_writes : (f n turns : ℕ) (c : Cursor) (t : List ℕ) → Holds Written (arguments text ts rec f n turns c t)
    unfolding arguments
    arguments_writes f n zero c t = gone
    arguments_writes f n (suc turns) c t =
        either (eqb (kind_at ts c.at) kind.close_paren) (λ e. push_row_writes _ _ t) (λ e. after (anything _) (λ d u h. arguments_writes f (n + 1) turns d u))

    pub atom_writes : (s : Start) (c : Cursor) (t : List ℕ) → Holds Written (atom text ts rec s c t)
    unfolding atom named group
    atom_writes start.Nothing c t = gone
    atom_writes start.Number c t = numeral_writes (number_of (spelled text ts c.at)) c t
    atom_writes start.Text c t = push_row_writes _ _ t
    atom_writes start.Name c t =
        either (eqb (kind_at ts (c.at + 1)) kind.open_paren) (λ e. arguments_writes c.at 0 (fuel ts) (past 2 c) t) (λ e. column_writes ts c t)
    atom_writes start.Paren c t = after (some 0 (past 1 c) t) (λ d u h. need_writes ts kind.close_paren NeedClose d u h)
    atom_writes (start.Plain kind x) c t = push_row_writes _ _ t
    atom_writes start.Other c t = gone

    pub operand_writes : (m : ℕ) (c : Cursor) (t : List ℕ) → Holds Written (operand text ts rec m c t)
    unfolding operand
    operand_writes m c t =
        either (binds (prefix_of (kind_at ts c.at)).precedence m) (λ e. after (anything _) (λ d u h. push_row_writes _ d u))
        (λ e. atom_writes (start_of (kind_at ts c.at)) c t)

    pub infixed_writes : (c : Cursor) (t : List ℕ) → Holds Written (infixed text ts rec c t)
    unfolding infixed
    infixed_writes c t = after (anything _) (λ d u h. push_row_writes _ d u)

    pub infixes_writes : (m : ℕ) (c : Cursor) (t : List ℕ) → Written c → Holds Written (infixes text ts rec m c t)
    unfolding infixes
    infixes_writes m = while_writes ts _ (infixed text ts rec) (λ c t h. infixed_writes c t) (fuel ts)

    level_writes : (m : ℕ) (c : Cursor) (t : List ℕ) → Holds Written (level text ts rec m c t)
    unfolding level
    level_writes m c t =
        after (operand_writes m c t) λ c₁ t₁ h₁.
        after (postfixes_writes ts m c₁ t₁ h₁) λ c₂ t₂ h₂.
        after (infixes_writes m c₂ t₂ h₂) λ c₃ t₃ h₃. postfixes_writes ts m c₃ t₃ h₃

  pub expression_writes : (levels m : ℕ) (c : Cursor) (t : List ℕ) → Holds Written (expression text ts levels m c t)
  unfolding expression
  expression_writes zero m c t = gone
  expression_writes (suc levels) m c t = level_writes (expression text ts levels) (expression_writes levels) m c t
