-- The invariant of `write_chain`: the chain from cell h on is left to be written. The measure is h, since each cell comes after its next.
use Rattle.listing.proofs.WrittenClauses.{ChainLeft}
use Rattle.listing.proofs.write_chain.Given as goal

abbrev pub invariant-loop-h : goal.invariant-loop-h
invariant-loop-h l = ChainLeft l.cells l.initial.literals l.literals l.head l.start l.h l.at

abbrev pub decreases-loop-h : goal.decreases-loop-h
decreases-loop-h l = l.h
