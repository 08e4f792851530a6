-- `list_many` writes only where the lists have room for what was counted.
use Rattle.std.proofs.Common.{◌≡◌, sym, ap, ◌∙◌, Some, arith}
use mathlib.Core.Bool.{false}
use Rattle.predicate.specs.Tree.{tree_at}
use Rattle.cnf.specs.Clause.{clauses}
use Rattle.cnf.proofs.Sizes.{size_is}
use Rattle.splitter.specs.declared.Listed.{Listed}
use Rattle.splitter.proofs.list_many.Goals as goal

pub write_counted-requires : goal.write_counted-requires
write_counted-requires c =
    let some : c.count_clauses.result ≡ Some c.in_ok-size.size = grind arith in
    let z = size_is (clauses false (tree_at c.args.rows.now c.args.r)) (sym c.count_clauses.ensures ∙ some) in
    let x = ap (λ (l : Listed). l.clauses) c.from-listed.ensures in
    let y = ap (λ (l : Listed). l.literals) c.from-listed.ensures in
    (c.requires.0, c.requires.1, omega arith, omega arith, omega arith, (omega arith, omega arith))
