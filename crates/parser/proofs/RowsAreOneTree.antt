-- The rows that an accepted parse writes are one whole tree, each row's operands standing directly before it (`parsed_rows_are_one_tree`).
-- Assumes nothing.
use mathlib.Core.Path.{◌≡◌}
use mathlib.Core.List.{List, ◌++◌}
use Prim.Native.Nat.{ℕ, ◌*◌}
use native.Mathlib.Omega.{arith}
use lib.ListN.{drop}
use Rattle.std.specs.Prelude.{Result, Ok, Err}
use Rattle.refusals.specs.Refusal.{refused}
use Rattle.refusals.specs.declared.Refused.{Refused}
use Rattle.tokens.specs.Token.{check_table}
use Rattle.rows.specs.Layout.{width, capacity}
use Rattle.syntax.specs.Tree.{Tree, size, rows_of}
use Rattle.syntax.specs.Read.{Whole}
use Rattle.syntax.proofs.RowsReadBack.{WellFormed, rows_read_back}
use Rattle.grammar.specs.Rules.{Reading, done, refuse, whole_expression}
use Rattle.grammar.proofs.Readings.{Holds, Any, weaken}
use Rattle.grammar.proofs.ReadingAdvances.{whole_expression_goes}
use Rattle.parser.specs.Promise.{after_check, parsing, Answers, Parses}

-- the tree that a parse comes to is well formed
abbrev Formed : Reading → Type 0
Formed o = Holds (λ at used x. WellFormed x) Any o

parsing_formed : (text ts : List ℕ) (cap levels : ℕ) → Formed (parsing text ts cap levels)
unfolding parsing
parsing_formed text ts cap levels = by (check_table text ts)
  where
    by : (k : Result ℕ Refused) → Formed (after_check k (whole_expression text ts cap levels))
    by (Ok n) = weaken (whole_expression_goes text ts cap levels) (λ why p h. tt) (λ at used x o. o.formed tt)
    by (Err e) = record { told = tt }

-- the first n rows of u are one whole tree
pub record OneTree (u : List ℕ) (n : ℕ) : Type 0 where
  pub tree : Tree
  pub rows : Whole u n tree

-- what a parse leaves when it answers that it wrote n rows
pub parsed_rows_are_one_tree : (levels : ℕ) (text ts t : List ℕ) (n : ℕ) (u : List ℕ) → Parses levels text ts t (Ok n) u → OneTree u n
parsed_rows_are_one_tree levels text ts t n u p = by (parsing text ts (capacity t) levels) (parsing_formed text ts (capacity t) levels) p
  where
    by : (o : Reading) → Formed o → Answers o t (Ok n) u → OneTree u n
    by (done at used x) h s =
        let same : ◌≡◌ {A = Result ℕ Refused} (Ok n) (Ok (size x)) = s.answer in
        let many : n ≡ size x = cc in
        let table : u ≡ rows_of 0 x ++ drop (size x * width) t = s.table in
        record { tree = x; rows = rw (many, table) (rows_read_back x (drop (size x * width) t) h.told) }
    by (refuse why q) h s =
        let same : ◌≡◌ {A = Result ℕ Refused} (Ok n) (Err (refused why q)) = s.answer in
        let z : ◌≡◌ {A = ℕ} 0 1 = cc in
        absurd (omega arith)
