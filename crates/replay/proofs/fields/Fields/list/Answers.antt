-- A place takes one field more than the places before it.
use Rattle.std.proofs.Common.{◌∙◌, ap, drop}
use Rattle.std.proofs.lemmas.List.{drop-drop}
use Rattle.replay.specs.Fields.{left_of}
use Rattle.replay.proofs.fields.Fields.list.Goals as goal

pub loop-x-preserved : goal.loop-x-preserved
loop-x-preserved g c =
    c.number.ensures ∙ ap (drop 1) c.loop-x.invariant ∙ drop-drop 1 c.loop-x.x-index (left_of c.count.new.self)
