-- `postfix::null_or_nan` meets its contract where NAN is needed.
use Rattle.std.proofs.Common.{sym, ◌∙◌, arith}
use Rattle.tokens.specs.Kind as kind
use Rattle.grammar.proofs.InTokens.{kind_is}
use Rattle.grammar.proofs.Reached.{came}
use Rattle.grammar.proofs.RowWritten.{need_writes}
use Rattle.steps.proofs.postfix.null_or_nan.Goals as goal

pub past-requires : goal.past-requires
past-requires c = omega (arith, kind_is _ _ kind.NULL (omega arith) (sym c.kind_at.ensures ∙ c.if-kind_at-eq-NULL.true))

pub push_over_last-requires-2 : goal.push_over_last-requires-2
push_over_last-requires-2 c = came c.in_ok-d.was (c.need.ensures c.args.rows.now) (need_writes _ _ _ _ _ c.requires)
