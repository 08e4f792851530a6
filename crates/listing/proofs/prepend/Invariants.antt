-- The invariant of `prepend`: x was put before the chains whose heads stand before place i.
use Rattle.std.proofs.Common.{◌-◌}
use Rattle.listing.specs.Chain.{free_of}
use Rattle.listing.specs.Heads.{Prepended}
use Rattle.listing.proofs.prepend.Given as goal

abbrev pub invariant-loop-i : goal.invariant-loop-i
invariant-loop-i l =
    Prepended l.x l.initial.cells l.cells l.initial.heads l.heads l.fn.run.first (l.i - l.fn.run.first) (free_of l.initial.cells) l.m
