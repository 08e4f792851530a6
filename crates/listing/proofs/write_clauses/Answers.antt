-- `write_clauses` meets its contract: the clauses are put before one empty chain, and each chain is written out in turn.
use Rattle.std.proofs.Common.{◌-◌, refl, arith}
use mathlib.Core.Bool.{false}
use Rattle.predicate.specs.Tree.{tree_at}
use Rattle.cnf.specs.Source.{clauses_at, signed}
use Rattle.cnf.proofs.Sizes.{clauses_some}
use Rattle.listing.proofs.WrittenClauses.{none_written, room_to_prepend, chains_ready, rest_unchanged}
use Rattle.listing.proofs.WrittenClauses.{turn_followable, turn_room, turn_low, turn_goes, all_written}
use Rattle.listing.proofs.write_clauses.Goals as goal

pub overflow_sub-last : goal.overflow_sub-last
overflow_sub-last c = omega (arith, clauses_some false (tree_at c.args.rows.now c.args.r))

pub bounds-ends-last : goal.bounds-ends-last
bounds-ends-last c = omega (arith, clauses_some false (tree_at c.args.rows.now c.args.r))

pub prepend_clauses-requires : goal.prepend_clauses-requires
prepend_clauses-requires c =
    let cs = clauses_at c.args.rows.now (signed false c.args.r) in
    (c.requires.0, c.requires.1, room_to_prepend cs (c.args.n - 1) (omega (arith, clauses_some false (tree_at c.args.rows.now c.args.r))) c.requires.3)

pub loop-k-init : goal.loop-k-init
loop-k-init c =
    let cs = clauses_at c.args.rows.now (signed false c.args.r) in (
      none_written cs _ _,
      chains_ready cs (c.args.n - 1) (omega (arith, clauses_some false (tree_at c.args.rows.now c.args.r))) c.requires.3 c.prepend_clauses.ensures
          c.requires.2,
    )

pub write_chain-at-requires : goal.write_chain-at-requires
write_chain-at-requires c =
    let cs = clauses_at c.args.rows.now (signed false c.args.r) in
    let loop = c.loop-k in
    (turn_followable cs loop.invariant.0 loop.invariant.1 c.loop-k-test.true refl, turn_room cs loop.invariant.0 loop.invariant.1 c.loop-k-test.true refl)

pub overflow_cast-ends-in-loop-k : goal.overflow_cast-ends-in-loop-k
overflow_cast-ends-in-loop-k c =
    let loop = c.loop-k in
    omega (
      arith,
      turn_low (clauses_at c.args.rows.now (signed false c.args.r)) loop.invariant.0 loop.invariant.1 c.loop-k-test.true refl c.write_chain-at.ensures,
    )

pub loop-k-preserved : goal.loop-k-preserved
loop-k-preserved c =
    let loop = c.loop-k in (
      turn_goes (clauses_at c.args.rows.now (signed false c.args.r)) loop.invariant.0 loop.invariant.1 c.loop-k-test.true refl c.write_chain-at.ensures refl,
      loop.invariant.1,
    )

pub returns : goal.returns
returns c =
    let cs = clauses_at c.args.rows.now (signed false c.args.r) in
    let loop = c.loop-k in
    all_written cs loop.invariant.0 loop.invariant.1 (omega (arith, loop.auto.k-end))
    (rest_unchanged cs (c.args.n - 1) (omega (arith, clauses_some false (tree_at c.args.rows.now c.args.r))) c.requires.3 c.prepend_clauses.ensures)
