-- `lookup_of` meets its contract: the check says whether the rows are a tree, and at which row.
use Rattle.std.proofs.Common.{ap}
use Rattle.std.proofs.lemmas.Result.{err_from_is_err_and}
use Rattle.lookup.specs.ByNumber.{answer_of}
use Rattle.lookup.proofs.AnswerOfClause.{lookup_of_refusal}
use Rattle.lookup.proofs.lookup_of.Goals as goal

pub lookup_at-requires : goal.lookup_at-requires
lookup_at-requires c = let rooted = c.check.ensures.good _ c.in_ok-root.was in (rooted.sound, rooted.low)

pub returns-in_err-root : goal.returns-in_err-root
unfolding answer_of
returns-in_err-root c =
    let p = err_from_is_err_and c.from_residual.result c.from_residual.ensures.1 in
    rw (p.1, p.2) (ap (answer_of c.args.wanted) (lookup_of_refusal c.args.clause (c.check.ensures.bad _ _ c.in_err-root.was)))
