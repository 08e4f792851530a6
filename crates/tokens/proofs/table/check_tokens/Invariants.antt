-- The invariant of `table::check_tokens`: from token n on, the check comes to what it comes to from the first.
use Rattle.std.proofs.Common.{◌≡◌}
use Rattle.tokens.specs.Token.{token_count}
use Rattle.tokens.proofs.TokenTable.{Checking}
use Rattle.tokens.proofs.table.check_tokens.Given as goal

abbrev pub invariant-loop-n : goal.invariant-loop-n
invariant-loop-n l = Checking l.text l.tokens l.n × (l.whole ≡ token_count l.tokens)
