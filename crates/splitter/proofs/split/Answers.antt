-- `split` meets its contract: rows that the check takes are the tree at their root, whose clauses are listed.
use Rattle.predicate.specs.Tree.{tree_at}
use Rattle.std.proofs.lemmas.Result.{err_from_is_err_and}
use Rattle.splitter.proofs.Answers.{splits_refused, splits_listed}
use Rattle.splitter.proofs.split.Goals as goal

pub returns-in_err-root : goal.returns-in_err-root
returns-in_err-root c =
    let args = c.args in
    let p = err_from_is_err_and c.from_residual.result c.from_residual.ensures.1 in
    rw (p.1, p.2) (splits_refused args.text.now args.rows.now args.literals.now args.ends.now (c.check.ensures.bad _ _ c.in_err-root.was))

pub list_tree-requires : goal.list_tree-requires
list_tree-requires c = let z = c.check.ensures.good _ c.in_ok-root.was in (z.sound, z.low)

pub returns : goal.returns
returns c =
    let args = c.args in
    splits_listed args.text.now args.rows.now args.literals.now args.ends.now (tree_at args.rows.now c.in_ok-root.root)
    (c.check.ensures.good _ c.in_ok-root.was).reads c.list_tree.ensures
