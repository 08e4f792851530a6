-- Each place so far took a field, and the count one more.
use Rattle.std.proofs.Common.{◌≡◌, drop}
use Rattle.replay.specs.Fields.{left_of}
use Rattle.replay.proofs.fields.Fields.list.Given as goal

abbrev pub invariant-loop-x : goal.invariant-loop-x
invariant-loop-x g l = left_of l.self ≡ drop l.x-index (left_of l.initial.self)
