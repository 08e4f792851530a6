-- Where a reading comes to, the cursor stands past where it began, and within the tokens: `..-advances`, a law for each rule. So no contract
-- need say it.
-- Assumes nothing.
use mathlib.Core.Path.{◌≡◌, refl}
use mathlib.Core.Bool.{Bool, true, false}
use mathlib.Core.List.{List}
use Prim.Native.Nat.{ℕ, zero, suc, ◌+◌, ◌≤◌, ◌<◌}
use native.Mathlib.Omega.{arith}
use native.Mathlib.Nat.{le_refl}
use borrow.Author.Tests.{eqb-true, eqb-false}
use lib.Dec.{eqb, leb}
use Rattle.std.specs.Prelude.{Option, Some, None}
use Rattle.tokens.specs.Kind as kind
use Rattle.tokens.specs.Token.{token_count, kind_at, spelled}
use Rattle.tokens.proofs.TokenTable.{kind_in}
use Rattle.numbers.specs.Number.{number_of}
use Rattle.numbers.specs.declared.Number.{Number}
use Rattle.numbers.specs.declared.Number.TheVariants.{Integer, Float}
use Rattle.refusals.specs.declared.Refusal.{Refusal}
use Rattle.refusals.specs.declared.Refusal.TheVariants.{NeedClose, NeedComma, NeedName, NeedNullOrNan}
use Rattle.rows.specs.Layout.{capacity}
use Rattle.rows.specs.declared.Row.{Row}
use Rattle.operators.specs.Operator.{among, binds, prefix_of}
use Rattle.grammar.specs.Atom.{start_of}
use Rattle.grammar.specs.declared.Start.{Start}
use Rattle.grammar.specs.declared.Start.TheVariants as start
use Rattle.grammar.specs.Memory.{Out, done, then, past, push_row, while, fuel, Rec, need, null_or_nan, postfix, postfixes, column, numeral, group}
use Rattle.grammar.specs.Memory.{argument, arguments, named, atom, operand, infixed, infixes, level, expression}
use Rattle.grammar.specs.declared.Cursor.{Cursor}
use Rattle.grammar.proofs.Reached.{Holds, gone, weaker, after, either, missing_holds}
use Rattle.grammar.proofs.Loops.{Moves}
use Rattle.grammar.proofs.InTokens.{kind_is, prefix_in, infix_in}

-- where a reading stands
stop : (ts : List ℕ) (lo : ℕ) {c : Cursor} {t : List ℕ} → lo ≤ c.at → c.at ≤ token_count ts → Holds (Moves ts lo) (done c t)
stop ts lo a b = record { told = record { least = a; within = b } }

less : {ts : List ℕ} {hi : ℕ} {o : Out} (lo : ℕ) → lo ≤ hi → Holds (Moves ts hi) o → Holds (Moves ts lo) o
less lo le h = weaker (λ d m. record { least = omega (arith, m.least); within = m.within }) h

module _ (ts : List ℕ) where
  push_row_advances : (r : Row) (c : Cursor) (t : List ℕ) → c.at ≤ token_count ts → Holds (Moves ts c.at) (push_row r c t)
  unfolding push_row
  push_row_advances r c t inside = either (leb (capacity t) c.rows) (λ e. gone) (λ e. stop ts _ (le_refl _) inside)

  -- a row after a step
  push_after_advances : {lo : ℕ} {o : Out} (r : Cursor → Row) → Holds (Moves ts lo) o → Holds (Moves ts lo) (then o (λ d u. push_row (r d) d u))
  push_after_advances {lo} r h = after h (λ d u m. less lo m.least (push_row_advances (r d) d u m.within))

  pub need_advances : (k : ℕ) → 0 < k → (why : Refusal) (c : Cursor) (t : List ℕ) → Holds (Moves ts (c.at + 1)) (need ts k why c t)
  unfolding need
  need_advances k pos why c t =
      either (eqb (kind_at ts c.at) k) (λ e. stop ts _ (le_refl _) (omega (arith, kind_is ts c.at k pos (eqb-true _ k e))))
      (λ e. missing_holds ts _ why c.at)

  null_advances : (c : Cursor) (t : List ℕ) → Holds (Moves ts (c.at + 1)) (null_or_nan ts c t)
  unfolding null_or_nan
  null_advances c t =
      either (eqb (kind_at ts c.at) kind.NULL)
      (λ e. push_row_advances _ (past 1 c) t (omega (arith, kind_is ts c.at kind.NULL (omega arith) (eqb-true _ _ e))))
      (λ e. push_after_advances _ (need_advances kind.NAN (omega arith) NeedNullOrNan c t))

  pub postfix_advances : (c : Cursor) (t : List ℕ) → Holds (Moves ts (c.at + 1)) (postfix ts c t)
  unfolding postfix
  postfix_advances c t =
      either (eqb (kind_at ts c.at) kind.exclamation)
      (λ e. push_row_advances _ (past 1 c) t (omega (arith, kind_is ts c.at kind.exclamation (omega arith) (eqb-true _ _ e))))
      (λ e. either (eqb (kind_at ts (c.at + 1)) kind.NOT) (λ f. less _ (omega arith) (push_after_advances _ (null_advances (past 2 c) t)))
      (λ f. less _ (omega arith) (null_advances (past 1 c) t)))

  -- a loop whose steps go on
  while_advances : (more? : ℕ → Bool) (step : Cursor → List ℕ → Out) →
      ((c : Cursor) (t : List ℕ) → more? c.at ≡ true → Holds (Moves ts (c.at + 1)) (step c t)) →
      (turns : ℕ) (c : Cursor) (t : List ℕ) → c.at ≤ token_count ts → Holds (Moves ts c.at) (while more? step turns c t)
  unfolding while
  while_advances more? step goes zero c t inside = stop ts _ (le_refl _) inside
  while_advances more? step goes (suc turns) c t inside =
      either (more? c.at) (λ e. after (goes c t e) (λ d u m. less _ (omega (arith, m.least)) (while_advances more? step goes turns d u m.within)))
      (λ e. stop ts _ (le_refl _) inside)

  pub postfixes_advances : (m : ℕ) (c : Cursor) (t : List ℕ) → c.at ≤ token_count ts → Holds (Moves ts c.at) (postfixes ts m c t)
  unfolding postfixes
  postfixes_advances m = while_advances _ (postfix ts) (λ c t e. postfix_advances c t) (fuel ts)

  column_advances : (c : Cursor) (t : List ℕ) → c.at < token_count ts → Holds (Moves ts (c.at + 1)) (column ts c t)
  unfolding column
  column_advances c t lt =
      either (eqb (kind_at ts (c.at + 1)) kind.period)
      (λ e. less _ (omega arith) (push_after_advances _ (need_advances kind.ident (omega arith) NeedName (past 2 c) t)))
      (λ e. push_row_advances _ (past 1 c) t (omega arith))

  numeral_advances : (x : Option Number) (c : Cursor) (t : List ℕ) → c.at < token_count ts → Holds (Moves ts (c.at + 1)) (numeral x c t)
  unfolding numeral
  numeral_advances (Some (Integer n)) c t lt = push_row_advances _ (past 1 c) t (omega arith)
  numeral_advances (Some Float) c t lt = push_row_advances _ (past 1 c) t (omega arith)
  numeral_advances None c t lt = gone

module _ (text ts : List ℕ) where
  module _ (rec : Rec) (goes : (m : ℕ) (c : Cursor) (t : List ℕ) → c.at ≤ token_count ts → Holds (Moves ts (c.at + 1)) (rec m c t)) where
    pub argument_advances : (n : ℕ) (c : Cursor) (t : List ℕ) → c.at ≤ token_count ts → Holds (Moves ts (c.at + 1)) (argument text ts rec n c t)
    unfolding argument
    argument_advances n c t inside =
        either (eqb n 0) (λ e. goes 0 c t inside)
        (λ e. after (need_advances ts kind.comma (omega arith) NeedComma c t) (λ d u m. less _ (omega (arith, m.least)) (goes 0 d u m.within)))

    arguments_advances : (f n turns : ℕ) (c : Cursor) (t : List ℕ) → c.at ≤ token_count ts → Holds (Moves ts (c.at + 1)) (arguments text ts rec f n turns c t)
    unfolding arguments
    arguments_advances f n zero c t inside = gone
    arguments_advances f n (suc turns) c t inside =
        either (eqb (kind_at ts c.at) kind.close_paren)
        (λ e. push_row_advances ts _ (past 1 c) t (omega (arith, kind_is ts c.at kind.close_paren (omega arith) (eqb-true _ _ e))))
        (λ e. after (argument_advances n c t inside) (λ d u m. less _ (omega (arith, m.least)) (arguments_advances f (n + 1) turns d u m.within)))

    atom_advances : (s : Start) (c : Cursor) (t : List ℕ) → c.at < token_count ts → Holds (Moves ts (c.at + 1)) (atom text ts rec s c t)
    unfolding atom named group
    atom_advances start.Nothing c t lt = gone
    atom_advances start.Number c t lt = numeral_advances ts (number_of (spelled text ts c.at)) c t lt
    atom_advances start.Text c t lt = push_row_advances ts _ (past 1 c) t (omega arith)
    atom_advances start.Name c t lt =
        either (eqb (kind_at ts (c.at + 1)) kind.open_paren)
        (λ e. let inside = kind_is ts (c.at + 1) kind.open_paren (omega arith) (eqb-true _ _ e) in
        less _ (omega arith) (arguments_advances c.at 0 (fuel ts) (past 2 c) t (omega (arith, inside))))
        (λ e. column_advances ts c t lt)
    atom_advances start.Paren c t lt =
        after (goes 0 (past 1 c) t (omega arith)) (λ d u m. less _ (omega (arith, m.least)) (need_advances ts kind.close_paren (omega arith) NeedClose d u))
    atom_advances (start.Plain kind x) c t lt = push_row_advances ts _ (past 1 c) t (omega arith)
    atom_advances start.Other c t lt = gone

    -- an atom at the end of the tokens is refused
    pub atom_ends : (c : Cursor) (t : List ℕ) → c.at ≤ token_count ts → Holds (Moves ts (c.at + 1)) (atom text ts rec (start_of (kind_at ts c.at)) c t)
    unfolding start_of among atom
    atom_ends c t inside = by (eqb (kind_at ts c.at) 0) refl
      where
        by : (b : Bool) → eqb (kind_at ts c.at) 0 ≡ b → Holds (Moves ts (c.at + 1)) (atom text ts rec (start_of (kind_at ts c.at)) c t)
        by true e = rw (eqb-true (kind_at ts c.at) 0 e) gone
        by false e = atom_advances (start_of (kind_at ts c.at)) c t (kind_in ts c.at (eqb-false _ 0 e))

    pub operand_advances : (m : ℕ) (c : Cursor) (t : List ℕ) → c.at ≤ token_count ts → Holds (Moves ts (c.at + 1)) (operand text ts rec m c t)
    unfolding operand
    operand_advances m c t inside =
        either (binds (prefix_of (kind_at ts c.at)).precedence m)
        (λ e. less _ (omega arith) (push_after_advances ts _ (goes _ (past 1 c) t (omega (arith, prefix_in ts _ m e)))))
        (λ e. atom_ends c t inside)

    pub infixed_advances : (c : Cursor) (t : List ℕ) → c.at < token_count ts → Holds (Moves ts (c.at + 1)) (infixed text ts rec c t)
    unfolding infixed
    infixed_advances c t lt = less _ (omega arith) (push_after_advances ts _ (goes _ (past 1 c) t (omega arith)))

    pub infixes_advances : (m : ℕ) (c : Cursor) (t : List ℕ) → c.at ≤ token_count ts → Holds (Moves ts c.at) (infixes text ts rec m c t)
    unfolding infixes
    infixes_advances m = while_advances ts _ (infixed text ts rec) (λ c t e. infixed_advances c t (infix_in ts _ m e)) (fuel ts)

    level_advances : (m : ℕ) (c : Cursor) (t : List ℕ) → c.at ≤ token_count ts → Holds (Moves ts (c.at + 1)) (level text ts rec m c t)
    unfolding level
    level_advances m c t inside =
        after (operand_advances m c t inside) λ c₁ t₁ m₁.
        after (postfixes_advances ts m c₁ t₁ m₁.within) λ c₂ t₂ m₂.
        after (infixes_advances m c₂ t₂ m₂.within) λ c₃ t₃ m₃.
        less _ (omega (arith, m₁.least, m₂.least, m₃.least)) (postfixes_advances ts m c₃ t₃ m₃.within)

  pub expression_advances : (levels m : ℕ) (c : Cursor) (t : List ℕ) → c.at ≤ token_count ts → Holds (Moves ts (c.at + 1)) (expression text ts levels m c t)
  unfolding expression
  expression_advances zero m c t inside = gone
  expression_advances (suc levels) m c t inside = level_advances (expression text ts levels) (expression_advances levels) m c t inside
