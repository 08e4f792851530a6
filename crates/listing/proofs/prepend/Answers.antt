-- `prepend` meets its contract: each turn makes a cell before the next chain.
use Rattle.std.proofs.Common.{refl, arith}
use Rattle.listing.proofs.Chains.{prepended_more}
use Rattle.listing.proofs.prepend.Goals as goal

pub loop-i-preserved : goal.loop-i-preserved
loop-i-preserved c = prepended_more c.loop-i.invariant c.loop-i.auto.i (omega arith) (omega arith) refl
