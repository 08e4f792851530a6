-- The kinds of syntax rows (FORMAT §5). A comment holds up to the next one, and a number of a row that it does not name is 0.
use Rattle.std.specs.Prelude.{ℕ}

-- leaves: first `*`, where x is 0
abbrev pub all : ℕ
all = 1

-- x is the value
abbrev pub integer : ℕ
integer = 2

-- x is the token, which is not read further
abbrev pub float : ℕ
float = 3

-- x is 0
abbrev pub infinity : ℕ
infinity = 4

abbrev pub nan : ℕ
nan = 5

-- x is the token
abbrev pub string : ℕ
string = 6

-- x is 0 or 1
abbrev pub boolean : ℕ
boolean = 7

-- x is 0
abbrev pub null : ℕ
null = 8

-- x is the name's token
abbrev pub column : ℕ
column = 9

-- a column of a table: x is the table's token, y the name's
abbrev pub qualified : ℕ
qualified = 10

-- over any number of arguments: x is the name's token, y how many there are
abbrev pub function : ℕ
function = 11

-- over one operand: x is its row
abbrev pub identity : ℕ
identity = 12

abbrev pub negate : ℕ
negate = 13

-- NOT: x is its row
abbrev pub negation : ℕ
negation = 14

-- x is its row
abbrev pub factorial : ℕ
factorial = 15

-- x is its row; y is 0 for NULL, 1 for NAN
abbrev pub is : ℕ
is = 16

-- over two operands: x and y are their rows
abbrev pub and : ℕ
and = 17

abbrev pub or : ℕ
or = 18

abbrev pub equal : ℕ
equal = 19

abbrev pub not_equal : ℕ
not_equal = 20

abbrev pub greater_than : ℕ
greater_than = 21

abbrev pub greater_than_or_equal : ℕ
greater_than_or_equal = 22

abbrev pub less_than : ℕ
less_than = 23

abbrev pub less_than_or_equal : ℕ
less_than_or_equal = 24

abbrev pub like : ℕ
like = 25

abbrev pub add : ℕ
add = 26

abbrev pub subtract : ℕ
subtract = 27

abbrev pub multiply : ℕ
multiply = 28

abbrev pub divide : ℕ
divide = 29

abbrev pub remainder : ℕ
remainder = 30

abbrev pub exponentiate : ℕ
exponentiate = 31
