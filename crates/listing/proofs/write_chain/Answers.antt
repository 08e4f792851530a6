-- `write_chain` meets its contract: each turn writes the literal of a cell, and goes to the next one.
use Rattle.listing.proofs.WrittenClauses.{chain_room, chain_goes, chain_written}
use Rattle.listing.proofs.write_chain.Goals as goal

pub bounds-literals-at : goal.bounds-literals-at
bounds-literals-at c = chain_room c.loop-h.invariant c.loop-h-test.true c.requires.1

pub loop-h-preserved : goal.loop-h-preserved
loop-h-preserved c = chain_goes c.loop-h.invariant c.loop-h-test.true c.from.ensures c.from-h.ensures

pub returns : goal.returns
returns c = chain_written c.loop-h.invariant c.loop-h-test.false
