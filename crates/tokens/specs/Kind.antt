-- The kinds of tokens that the rules name (FORMAT §2.2). The keywords of statements have the numbers up to the last.
use Rattle.std.specs.Prelude.{ℕ}

-- no token: what stands past the last one
abbrev pub none : ℕ
none = 0

-- what carries a spelling
abbrev pub number : ℕ
number = 1

abbrev pub string : ℕ
string = 2

abbrev pub ident : ℕ
ident = 3

-- infix operators
abbrev pub OR : ℕ
OR = 4

abbrev pub AND : ℕ
AND = 5

abbrev pub equal : ℕ
equal = 6  -- =

abbrev pub not_equal : ℕ
not_equal = 7  -- !=

abbrev pub less_or_greater_than : ℕ
less_or_greater_than = 8  -- <>

abbrev pub LIKE : ℕ
LIKE = 9

abbrev pub greater_than : ℕ
greater_than = 10  -- >

abbrev pub greater_than_or_equal : ℕ
greater_than_or_equal = 11  -- >=

abbrev pub less_than : ℕ
less_than = 12  -- <

abbrev pub less_than_or_equal : ℕ
less_than_or_equal = 13  -- <=

abbrev pub plus : ℕ
plus = 14  -- +

abbrev pub minus : ℕ
minus = 15  -- -

abbrev pub asterisk : ℕ
asterisk = 16  -- *

abbrev pub slash : ℕ
slash = 17  -- /

abbrev pub percent : ℕ
percent = 18  -- %

abbrev pub caret : ℕ
caret = 19  -- ^

-- what else expressions use
abbrev pub exclamation : ℕ
exclamation = 20  -- !

abbrev pub IS : ℕ
IS = 21

abbrev pub NOT : ℕ
NOT = 22

abbrev pub NULL : ℕ
NULL = 23

abbrev pub NAN : ℕ
NAN = 24

abbrev pub TRUE : ℕ
TRUE = 25

abbrev pub FALSE : ℕ
FALSE = 26

abbrev pub INFINITY : ℕ
INFINITY = 27

abbrev pub open_paren : ℕ
open_paren = 28  -- (

abbrev pub close_paren : ℕ
close_paren = 29  -- )

abbrev pub comma : ℕ
comma = 30  -- ,

abbrev pub period : ℕ
period = 31  -- .

abbrev pub semicolon : ℕ
semicolon = 32  -- ;

-- the last kind
abbrev pub last : ℕ
last = 88
