-- `lookup_at` meets its contract: a clause that is among those counted can be found, and the lookup that it makes answers.
use Rattle.std.proofs.Common.{◌≡◌, refl, ap, ◌∙◌, Some, arith}
use Rattle.cnf.specs.Source.{clauses_at}
use Rattle.lookup.specs.ByNumber.{tests_of, partial_answer}
use Rattle.lookup.proofs.AnswerOfClause.{lookup_clause, has_clause}
use Rattle.lookup.proofs.lookup_at.Goals as goal

pub clause_lookup-requires : goal.clause_lookup-requires
clause_lookup-requires c =
    let some : c.count_clauses.result ≡ Some c.in_ok-size.size = grind arith in
    has_clause (clauses_at c.args.rows.now c.args.from.at) 0 0 c.count_clauses.ensures some c.requires.0 c.requires.1 refl c.if-size-from.false

pub returns : goal.returns
unfolding tests_of
returns c =
    let some : c.count_clauses.result ≡ Some c.in_ok-size.size = grind arith in
    c.partial_answer.ensures
    ∙ ap partial_answer c.clause_lookup.ensures
    ∙ lookup_clause (clauses_at c.args.rows.now c.args.from.at) _ _ c.count_clauses.ensures some c.if-size-from.false
