-- The invariant of `write_clauses`: the first k clauses are written, the ends over the heads of their chains.
use mathlib.Core.Bool.{false}
use Rattle.cnf.specs.Source.{clauses_at, signed}
use Rattle.listing.proofs.WrittenClauses.{FirstWritten, ChainsReady}
use Rattle.listing.proofs.write_clauses.Given as goal

abbrev pub invariant-loop-k : goal.invariant-loop-k
invariant-loop-k l =
    let cs = clauses_at l.rows (signed false l.r) in
    FirstWritten cs l.initial.literals l.literals l.initial.ends l.ends l.at l.k × ChainsReady cs l.cells l.initial.literals l.initial.ends l.n
