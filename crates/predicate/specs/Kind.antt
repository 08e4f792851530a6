-- The kinds of predicate rows (FORMAT §6).
use Rattle.std.specs.Prelude.{ℕ}

-- constants
abbrev pub null : ℕ
null = 1

abbrev pub boolean : ℕ
boolean = 2

abbrev pub integer : ℕ
integer = 3

abbrev pub float : ℕ
float = 4

abbrev pub string : ℕ
string = 5

abbrev pub column : ℕ
column = 6

-- what predicates are split at
abbrev pub AND : ℕ
AND = 7

abbrev pub OR : ℕ
OR = 8

abbrev pub NOT : ℕ
NOT = 9

-- every other operator
abbrev pub equal : ℕ
equal = 10

abbrev pub greater_than : ℕ
greater_than = 11

abbrev pub less_than : ℕ
less_than = 12

abbrev pub is : ℕ
is = 13

abbrev pub add : ℕ
add = 14

abbrev pub divide : ℕ
divide = 15

abbrev pub exponentiate : ℕ
exponentiate = 16

abbrev pub factorial : ℕ
factorial = 17

abbrev pub identity : ℕ
identity = 18

abbrev pub multiply : ℕ
multiply = 19

abbrev pub negate : ℕ
negate = 20

abbrev pub remainder : ℕ
remainder = 21

abbrev pub square_root : ℕ
square_root = 22

abbrev pub subtract : ℕ
subtract = 23

abbrev pub like : ℕ
like = 24
