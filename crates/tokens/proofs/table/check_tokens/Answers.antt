-- `table::check_tokens` meets its contract: each turn checks one token, and the first that is not good is the answer.
use Rattle.std.proofs.Common.{Ok, Err, sym, ap, ◌∙◌, rules}
use Rattle.tokens.proofs.TokenTable.{check_begins, check_on, check_off, check_ends}
use Rattle.tokens.proofs.table.check_tokens.Goals as goal

pub loop-n-init : goal.loop-n-init
loop-n-init c = (check_begins _ _, c.count-whole.ensures)

pub returns-then-not-token_good : goal.returns-then-not-token_good
returns-then-not-token_good c =
    let loop = c.loop-n in
    let token-good = c.token_good in
    ap Err c.at.ensures ∙ check_off _ _ _ loop.invariant.0 (search rules) (sym token-good.ensures ∙ c.if-not-token_good.true)

pub loop-n-preserved : goal.loop-n-preserved
loop-n-preserved c =
    let loop = c.loop-n in
    let token-good = c.token_good in
    (check_on _ _ _ loop.invariant.0 (search rules) (sym token-good.ensures ∙ c.if-not-token_good.false), c.count-whole.ensures)

pub returns : goal.returns
returns c = ap Ok c.count-whole.ensures ∙ check_ends _ _ _ c.loop-n.invariant.0 (search rules)
