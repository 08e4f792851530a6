-- `token::need` meets its contract. A token of the needed kind is one of the tokens, so one more fits.
use Rattle.std.proofs.Common.{sym, ◌∙◌, arith}
use Rattle.grammar.proofs.InTokens.{kind_is}
use Rattle.steps.proofs.token.need.Goals as goal

pub past-requires : goal.past-requires
past-requires c = omega (arith, kind_is _ _ _ c.requires (sym c.kind_at-found.ensures ∙ c.if-found-kind.true))
