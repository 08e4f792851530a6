-- `value_at` meets its contract: the value with which the lookup is answered, or no such value.
use Rattle.std.proofs.Common.{sym, ap, ◌∙◌}
use Rattle.std.specs.Prelude.{ok_or}
use Rattle.lookup.proofs.AnswerOfClause.{found_on}
use Rattle.lookup.proofs.LookupMeans.{finds_value}
use Rattle.lookup.proofs.value_at.Goals as goal

pub returns : goal.returns
returns c =
    finds_value _ _ _ _
    (c.ok_or.ensures.value ∙ ap (ok_or _) c.at.ensures ∙ found_on c.args.wanted _ (sym c.lookup_of.ensures ∙ c.in_ok-found.was))
