-- `list_tree` meets its contract: an atom's list is its one literal.
use Rattle.std.proofs.Common.{arith}
use mathlib.Core.Bool.{false}
use Rattle.predicate.proofs.Trees.{root_at}
use Rattle.cnf.specs.Source.{signed}
use Rattle.cnf.proofs.Sources.{source_is}
use Rattle.splitter.proofs.Answers.{listed_as}
use Rattle.splitter.proofs.list_tree.Goals as goal

pub list_one-requires : goal.list_one-requires
list_one-requires c = omega (arith, (source_is (signed false c.args.r) c.requires.0 c.past_nots.ensures c.in-Atom.is).0)

pub returns-in-Atom : goal.returns-in-Atom
returns-in-Atom c =
    listed_as _ _ (source_is (signed false c.args.r) c.requires.0 c.past_nots.ensures c.in-Atom.is).1 (c.list_one.ensures _ (root_at _ _))
