-- `postfix::postfixes` meets its contract: each turn applies one postfix operator, and the first token that is none ends it.
use Rattle.std.proofs.Common.{◌+◌, sym, ◌∙◌, arith}
use Rattle.grammar.specs.Memory.{postfixes}
use Rattle.grammar.proofs.Answers.{after_read}
use Rattle.grammar.proofs.Loops.{Moves, begins, turns, while_on}
use Rattle.grammar.proofs.InTokens.{postfix_in}
use Rattle.grammar.proofs.Reached.{came}
use Rattle.grammar.proofs.CursorAdvances.{postfix_advances}
use Rattle.grammar.proofs.RowWritten.{postfix_writes}
use Rattle.steps.proofs.postfix.postfixes.Goals as goal

pub loop-rows-init : goal.loop-rows-init
unfolding postfixes
loop-rows-init c = (begins _ _ _ _ c.requires.0, c.requires.1)

pub postfix-requires : goal.postfix-requires
postfix-requires c = (postfix_in _ _ _ (sym c.postfix_at.ensures ∙ c.loop-rows-test.true), c.loop-rows.invariant.1)

pub loop-rows-smaller : goal.loop-rows-smaller
loop-rows-smaller c =
    let m : Moves c.args.tokens.now (c.loop-rows.c.at + 1) c.in_ok-c.c = came c.in_ok-c.was c.postfix.ensures (postfix_advances _ _ _) in
    omega (arith, m.least, m.within)

pub loop-rows-preserved : goal.loop-rows-preserved
loop-rows-preserved c = (
  turns c.loop-rows.invariant.0 c.postfix.auto.rows (came c.in_ok-c.was c.postfix.ensures (postfix_advances _ _ _))
      (while_on _ _ _ _ _ (sym c.postfix_at.ensures ∙ c.loop-rows-test.true) ∙ after_read _ c.in_ok-c.was c.postfix.ensures),
  came c.in_ok-c.was c.postfix.ensures (postfix_writes _ _ _ c.loop-rows.invariant.1),
)
