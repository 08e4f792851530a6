-- Each input of the table comes to what stands beside it: the definitions compute.
-- Assumes nothing.
use mathlib.Core.Path.{◌≡◌, refl}
use Prim.Native.Nat.{ℕ}
use mathlib.Core.List.{List, map}
use Rattle.worked.specs.Table.{cases}
use Rattle.worked.specs.Said as said
use Rattle.parser.specs.Promise as promise
use Rattle.operators.specs.Operator as operator
use Rattle.grammar.specs.Atom as atom
use Rattle.grammar.specs.Rules as rules
use Rattle.syntax.specs.Tree as syntax
use Rattle.tokens.specs.Token as token
use Rattle.numbers.specs.Number as number
use Rattle.rows.specs.PostOrder as order
use Rattle.predicate.specs.Row as row
use Rattle.predicate.specs.Tree as tree
use Rattle.predicate.specs.Read as read
use Rattle.cnf.specs.Clause as clause
use Rattle.values.specs.Value as value
use Rattle.columns.specs.Lookup as lookup
use Rattle.lookup.specs.Answer as answer

pub examples : map (λ (c : List ℕ × List ℕ). c.0) cases ≡ map (λ (c : List ℕ × List ℕ). c.1) cases
unfolding cases said.tokens said.parsed said.split said.values said.looked_up promise.parsing rules.◌>>=◌ rules.while rules.due rules.missing
    rules.need rules.null_or_nan rules.postfix rules.postfixes rules.numeral rules.column rules.group rules.argument rules.arguments
    rules.named rules.atom rules.operand rules.infixed rules.infixes rules.level rules.expression rules.finish rules.whole_expression
    operator.among operator.infix_of operator.right_minimum operator.prefix_of operator.postfix_of operator.binds atom.start_of
    syntax.size syntax.sizes syntax.many syntax.rows_of syntax.rows_all token.token_at token.kind_at token.known token.fits token.check_from
    token.check_table token.span_of token.span_at token.spelled number.digit number.begins number.ended number.past_digits number.digits
    number.past_fraction number.past_sign number.exponent number.value_from number.integer_of number.number_of order.stands_before order.before
    order.directly_before order.push row.is_one_of row.classes row.class_in row.class_of row.allowed_of row.shape_of row.shape_at row.arity_of
    row.operands_of tree.root_of tree.node_of read.step_at read.ended read.and_then read.read_from read.read_rows clause.clauses
    clause.literal_number value.signed_of value.pattern_of value.value_by value.value_of value.constant_of value.is_undefined lookup.leaf_of
    lookup.is_column lookup.is_constant lookup.defined lookup.looked_for lookup.comparison lookup.equal_test lookup.is_test lookup.test_of lookup.literal_test lookup.tests_column
    lookup.all_test_column lookup.value_in lookup.values_in lookup.lookup_on lookup.lookup_from lookup.lookup_in lookup.clause_lookup
    answer.lookup_or_refusal answer.lookup_among answer.lookup_of
examples = refl
