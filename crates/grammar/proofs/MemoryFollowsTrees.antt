-- The rules that pass the row table along are the rules of trees: for each rule a law of its name. `whole_expression_laid` is what the promise of `parse`
-- rests on.
-- Assumes nothing.
use mathlib.Core.Path.{◌≡◌, refl, ap, ◌∙◌}
use mathlib.Core.Bool.{Bool, true, false}
use mathlib.Core.List.{List, [], ◌++◌}
use Prim.Native.Nat.{ℕ, zero, suc, ◌+◌, ◌-◌, ◌*◌}
use native.Mathlib.Omega.{arith}
use borrow.Author.Tests.{ne_eqb}
use lib.Dec.{eqb, ltb}
use lib.ListN.{length-append}
use lib.Seq.{sets}
use Rattle.std.specs.Prelude.{Option, Some, None}
use Rattle.tokens.specs.Kind as kind
use Rattle.tokens.specs.Token.{token_count, kind_at, spelled}
use Rattle.numbers.specs.Number.{number_of}
use Rattle.numbers.specs.declared.Number.{Number}
use Rattle.numbers.specs.declared.Number.TheVariants.{Integer, Float}
use Rattle.refusals.specs.declared.Refusal.{Refusal}
use Rattle.refusals.specs.declared.Refusal.TheVariants.{End, NeedClose, NeedComma, NeedName, NeedNullOrNan}
use Rattle.rows.specs.Label.{Label, leaf_row, row_over_one, row_over_two}
use Rattle.rows.specs.Layout.{width}
use Rattle.rows.proofs.Laws.{follows}
use Rattle.operators.specs.Operator.{binds, right_minimum, prefix_of}
use Rattle.grammar.specs.Atom.{start_of}
use Rattle.grammar.specs.declared.Start.{Start}
use Rattle.grammar.specs.declared.Start.TheVariants as start
use Rattle.syntax.specs.Tree.{Tree, leaf, unary, binary, Trees, none, more, size, sizes, many, root, rows_of, rows_all}
use Rattle.grammar.specs.Rules.{Reading, Reader}
use Rattle.grammar.specs.Rules as T
use Rattle.grammar.specs.Memory.{Out, done, refuse, then, past, push_row, fuel, Rec}
use Rattle.grammar.specs.Memory as M
use Rattle.grammar.specs.declared.Cursor.{Cursor}
use Rattle.syntax.proofs.Lengths.{length_rows, length_all}
use Rattle.grammar.proofs.LaidOut.{cursor, Room, room_stays, Laid, LaidAfter, refusal_laid, tree_laid, either, after, row_laid}

-- a loop: its step, and its end
while_laid : (cap : ℕ) (more? : ℕ → Bool) (step : Cursor → List ℕ → Out) (read : ℕ → ℕ → Tree → Reading) (t : List ℕ) (n : ℕ) →
    LaidAfter cap t n t n step (λ (at, used, x). read at used x) →
    (turns : ℕ) → LaidAfter cap t n t n (M.while more? step turns) (λ (at, used, x). T.while more? read turns at used x)
unfolding M.while T.while
while_laid cap more? step read t n goes zero at x le = tree_laid cap t n at x le
while_laid cap more? step read t n goes (suc turns) at x le =
    either cap (more? at) (after cap _ _ (goes at x le) (while_laid cap more? step read t n goes turns)) (tree_laid cap t n at x le)

module _ (text ts : List ℕ) (cap : ℕ) where
  leaf_laid : (l : Label) (k : ℕ) (c : Cursor) (t : List ℕ) → Room cap t →
      Laid cap t c.rows (push_row (leaf_row l) (past k c) t) (T.due text ts cap (c.at + k) c.rows (leaf l))
  unfolding rows_of size
  leaf_laid l k c t room = row_laid cap text ts t t [] c.rows (leaf_row l) (past k c) (leaf l) room refl (omega arith) refl refl

  unary_laid : (l : Label) (t : List ℕ) (n : ℕ) → Room cap t →
      LaidAfter cap t n t n (λ d u. push_row (row_over_one l (d.rows - 1)) d u) (λ (at, used, x). T.due text ts cap at used (unary l x))
  unfolding rows_of size
  unary_laid l t n room at x le =
      row_laid cap text ts t _ (rows_of n x) n (row_over_one l (root n x)) (cursor at (n + size x)) (unary l x) room refl
      (omega (arith, length_rows n x)) (omega arith) refl

  binary_laid : (l : Label) (x : Tree) (t : List ℕ) (n : ℕ) → Room cap t →
      LaidAfter cap (sets t (n * width) (rows_of n x)) (n + size x) t n
      (λ d u. push_row (row_over_two l (root n x) (d.rows - 1)) d u) (λ (at, used, y). T.due text ts cap at used (binary l x y))
  unfolding rows_of size
  binary_laid l x t n room at y le =
      row_laid cap text ts t _ (rows_of n x ++ rows_of (n + size x) y) n (row_over_two l (root n x) (root (n + size x) y))
      (cursor at (n + size x + size y)) (binary l x y) room
      (follows t n (n + size x) (rows_of n x) (rows_of (n + size x) y) (omega (arith, length_rows n x)))
      (omega (arith, length-append (rows_of n x) (rows_of (n + size x) y), length_rows n x, length_rows (n + size x) y)) (omega arith) refl

  missing_laid : (why : Refusal) (t : List ℕ) (n at : ℕ) → Laid cap t n (M.missing ts why at) (T.missing text ts cap why at)
  unfolding M.missing T.missing
  missing_laid why t n at = either cap (eqb (kind_at ts at) kind.none) (refusal_laid cap) (refusal_laid cap)

  -- a token that is needed, and what follows it
  need_laid : (k : ℕ) (why : Refusal) (c : Cursor) (u t : List ℕ) (n : ℕ) (next : Cursor → List ℕ → Out) (on : ℕ → Reading) →
      Laid cap t n (next (past 1 c) u) (on (c.at + 1)) → Laid cap t n (then (M.need ts k why c u) next) (T.need text ts cap k why c.at on)
  unfolding M.need T.need M.missing T.missing then
  need_laid k why c u t n next on laid = by (eqb (kind_at ts c.at) k) (eqb (kind_at ts c.at) kind.none)
    where
      by : (p q : Bool) →
          Laid cap t n (then (elim p [ true ↦ done (past 1 c) u | false ↦ elim q [ true ↦ refuse End c.at | false ↦ refuse why c.at ] ]) next)
          (elim p [ true ↦ on (c.at + 1) | false ↦ elim q [ true ↦ T.refuse End c.at | false ↦ T.refuse why c.at ] ])
      by true q = laid
      by false true = refusal_laid cap
      by false false = refusal_laid cap

  -- and no more
  close_laid : (k : ℕ) (why : Refusal) (t : List ℕ) (n : ℕ) →
      LaidAfter cap t n t n (M.need ts k why) (λ (at, used, x). T.need text ts cap k why at λ at. T.done at used x)
  unfolding M.need T.need
  close_laid k why t n at x le = either cap (eqb (kind_at ts at) k) (tree_laid cap t n (at + 1) x le) (missing_laid why t n at)

  null_laid : (t : List ℕ) (n : ℕ) → Room cap t → LaidAfter cap t n t n (M.null_or_nan ts) (λ (at, used, x). T.null_or_nan text ts cap at used x)
  unfolding M.null_or_nan T.null_or_nan
  null_laid t n room at x le =
      either cap (eqb (kind_at ts at) kind.NULL) (unary_laid _ t n room (at + 1) x le)
      (need_laid kind.NAN NeedNullOrNan _ _ t n _ _ (unary_laid _ t n room (at + 1) x le))

  postfix_laid : (t : List ℕ) (n : ℕ) → Room cap t → LaidAfter cap t n t n (M.postfix ts) (λ (at, used, x). T.postfix text ts cap at used x)
  unfolding M.postfix T.postfix
  postfix_laid t n room at x le =
      either cap (eqb (kind_at ts at) kind.exclamation) (unary_laid _ t n room (at + 1) x le)
      (either cap (eqb (kind_at ts (at + 1)) kind.NOT) (after cap _ _ (null_laid t n room (at + 2) x le) (unary_laid _ t n room))
      (null_laid t n room (at + 1) x le))

  postfixes_laid : (m : ℕ) (t : List ℕ) (n : ℕ) → Room cap t → LaidAfter cap t n t n (M.postfixes ts m) (λ (at, used, x). T.postfixes text ts cap m at used x)
  unfolding M.postfixes T.postfixes
  postfixes_laid m t n room = while_laid cap _ _ _ t n (postfix_laid t n room) (fuel ts)

  -- a rule read from anywhere, and a rule read at any minimum
  abbrev LaidAnywhere : (Cursor → List ℕ → Out) → (ℕ → ℕ → Reading) → Type 0
  LaidAnywhere k read = (c : Cursor) (t : List ℕ) → Room cap t → Laid cap t c.rows (k c t) (read c.at c.rows)

  abbrev pub Reads : Rec → Reader → Type 0
  Reads rec read = (m : ℕ) → LaidAnywhere (rec m) (read m)

  numeral_laid : (x : Option Number) → LaidAnywhere (M.numeral x) (T.numeral text ts cap x)
  unfolding M.numeral T.numeral
  numeral_laid (Some (Integer n)) c t room = leaf_laid _ 1 c t room
  numeral_laid (Some Float) c t room = leaf_laid _ 1 c t room
  numeral_laid None c t room = refusal_laid cap

  column_laid : LaidAnywhere (M.column ts) (T.column text ts cap)
  unfolding M.column T.column
  column_laid c t room =
      either cap (eqb (kind_at ts (c.at + 1)) kind.period)
      (need_laid kind.ident NeedName (past 2 c) t t c.rows _ _ (leaf_laid _ 1 (past 2 c) t room))
      (leaf_laid _ 1 c t room)

  module _ (rec : Rec) (read : Reader) (reads : Reads rec read) where
    group_laid : LaidAnywhere (M.group text ts rec) (T.group text ts cap read)
    unfolding M.group T.group
    group_laid c t room = after cap _ _ (reads 0 (past 1 c) t room) (close_laid kind.close_paren NeedClose t c.rows)

    argument_laid : (xs : Trees) → LaidAnywhere (M.argument text ts rec (many xs)) (T.argument text ts cap read xs)
    unfolding M.argument T.argument many
    argument_laid none c t room = reads 0 c t room
    argument_laid (more xs x) c t room =
        rw (ne_eqb (many xs + 1) 0 (λ z. omega arith), M.argument) (need_laid kind.comma NeedComma c t t c.rows _ _ (reads 0 (past 1 c) t room))

    arguments_laid : (f turns : ℕ) (xs : Trees) (n : ℕ) (c : Cursor) (t : List ℕ) → Room cap t → c.rows ≡ n + sizes xs →
        Laid cap t n (M.arguments text ts rec f (many xs) turns c (sets t (n * width) (rows_all n xs)))
        (T.arguments text ts cap read f turns c.at c.rows xs)
    unfolding M.arguments T.arguments many rows_of size
    arguments_laid f zero xs n c t room e = refusal_laid cap
    arguments_laid f (suc turns) xs n c t room e =
        either cap (eqb (kind_at ts c.at) kind.close_paren)
        (row_laid cap text ts t _ (rows_all n xs) n _ (past 1 c)
        _ room refl (omega (arith, length_all n xs)) (omega arith) refl)
        (after cap _ _ (argument_laid xs c _ (room_stays cap t (n * width) (rows_all n xs) room)) λ at x le.
        let table : sets (sets t (n * width) (rows_all n xs)) (c.rows * width) (rows_of c.rows x) ≡ sets t (n * width) (rows_all n (more xs x)) =
        follows t n c.rows (rows_all n xs) (rows_of c.rows x) (omega (arith, length_all n xs))
        ∙ ap (λ (k : ℕ). sets t (n * width) (rows_all n xs ++ rows_of k x)) e in
        rw table (arguments_laid f turns (more xs x) n (cursor at (c.rows + size x)) t room (omega arith)))

    named_laid : LaidAnywhere (M.named text ts rec) (T.named text ts cap read)
    unfolding M.named T.named rows_of size many
    named_laid c t room =
        either cap (eqb (kind_at ts (c.at + 1)) kind.open_paren) (arguments_laid c.at (fuel ts) none c.rows (past 2 c) t room (omega arith))
        (column_laid c t room)

    atom_laid : (s : Start) → LaidAnywhere (M.atom text ts rec s) (T.atom text ts cap read s)
    unfolding M.atom T.atom
    atom_laid start.Nothing c t room = refusal_laid cap
    atom_laid start.Number c t room = numeral_laid (number_of (spelled text ts c.at)) c t room
    atom_laid start.Text c t room = leaf_laid _ 1 c t room
    atom_laid start.Name c t room = named_laid c t room
    atom_laid start.Paren c t room = group_laid c t room
    atom_laid (start.Plain kind x) c t room = leaf_laid _ 1 c t room
    atom_laid start.Other c t room = refusal_laid cap

    operand_laid : (m : ℕ) → LaidAnywhere (M.operand text ts rec m) (T.operand text ts cap read m)
    unfolding M.operand T.operand
    operand_laid m c t room =
        let op = prefix_of (kind_at ts c.at) in
        either cap (binds op.precedence m)
        (after cap _ _ (reads op.precedence (past 1 c) t room) (unary_laid _ t c.rows room))
        (atom_laid (start_of (kind_at ts c.at)) c t room)

    infixed_laid : (t : List ℕ) (n : ℕ) → Room cap t → LaidAfter cap t n t n (M.infixed text ts rec) (λ (at, used, x). T.infixed text ts cap read at used x)
    unfolding M.infixed T.infixed
    infixed_laid t n room at x le =
        let k = kind_at ts at in
        after cap _ _ (reads (right_minimum k) (cursor (at + 1) (n + size x)) _ (room_stays cap t (n * width) (rows_of n x) room))
        (binary_laid _ x t n room)

    infixes_laid : (m : ℕ) (t : List ℕ) (n : ℕ) → Room cap t →
        LaidAfter cap t n t n (M.infixes text ts rec m) (λ (at, used, x). T.infixes text ts cap read m at used x)
    unfolding M.infixes T.infixes
    infixes_laid m t n room = while_laid cap _ _ _ t n (infixed_laid t n room) (fuel ts)

    level_laid : Reads (M.level text ts rec) (T.level text ts cap read)
    unfolding M.level T.level
    level_laid m c t room =
        after cap _ _ (operand_laid m c t room) λ at₁ x₁ le₁.
        after cap _ _ (postfixes_laid m t c.rows room at₁ x₁ le₁) λ at₂ x₂ le₂.
        after cap _ _ (infixes_laid m t c.rows room at₂ x₂ le₂) (postfixes_laid m t c.rows room)

  pub expression_laid : (levels : ℕ) → Reads (M.expression text ts levels) (T.expression text ts cap levels)
  unfolding M.expression T.expression
  expression_laid zero m c t room = refusal_laid cap
  expression_laid (suc levels) m c t room = level_laid (M.expression text ts levels) (T.expression text ts cap levels) (expression_laid levels) m c t room

  finish_laid : (t : List ℕ) (n : ℕ) → LaidAfter cap t n t n (M.finish ts) (λ (at, used, x). T.finish text ts cap at used x)
  unfolding M.finish T.finish
  finish_laid t n at x le = either cap (ltb at (token_count ts)) (refusal_laid cap) (tree_laid cap t n at x le)

  pub whole_expression_laid : (levels : ℕ) (t : List ℕ) → Room cap t →
      Laid cap t 0 (M.whole_expression text ts levels t) (T.whole_expression text ts cap levels)
  unfolding M.whole_expression T.whole_expression
  whole_expression_laid levels t room = after cap _ _ (expression_laid levels 0 _ t room) (finish_laid t 0)
