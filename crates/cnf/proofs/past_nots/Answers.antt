-- `past_nots` meets its contract: a NOT is one row down in the other reading, and any other row is a source itself.
use Rattle.std.proofs.Common.{sym, ap, ◌∙◌, arith}
use Rattle.predicate.proofs.Trees.{sound_below}
use Rattle.predicate.proofs.Shapes.{falls_not}
use Rattle.predicate.specs.declared.Shape.{Shape}
use Rattle.cnf.specs.Source.{source_of, source_at}
use Rattle.cnf.proofs.Sources.{source_step}
use Rattle.cnf.proofs.past_nots.Goals as goal

pub loop-x-smaller : goal.loop-x-smaller
loop-x-smaller c = falls_not c.loop-x.invariant.0 c.shape_at.ensures c.in-Not.is

pub loop-x-preserved : goal.loop-x-preserved
unfolding source_of
loop-x-preserved c =
    let at = c.loop-x.at in
    let rows = c.args.rows.now in
    let sound = c.loop-x.invariant.0 in
    let h = falls_not sound c.shape_at.ensures c.in-Not.is in (
      sound_below c.in-Not.x sound (omega (arith, h)),
      sym (source_step rows at sound ∙ ap (λ (s : Shape). source_of s at (source_at rows)) (sym c.shape_at.ensures ∙ c.in-Not.is))
          ∙ c.loop-x.invariant.1,
    )
