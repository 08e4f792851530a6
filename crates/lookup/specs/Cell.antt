-- Cells, and how they compare (FORMAT §10).
use Rattle.std.specs.Prelude.{ℕ, Bool, true, false, ◌&&◌, ◌||◌, List, [], ◌∷◌, take, drop, eqb, ℤ, pos, negsuc, Float}
use Rattle.std.specs.Bool.{beq}
use Rattle.std.specs.Float.Ieee.{eq, is_nan as is_nan_float}
use Rattle.cnf.specs.Kleene as kleene
use Rattle.values.specs.declared.Value.{Value}
use Rattle.values.specs.declared.Value.TheVariants as value

-- what a column holds
pub data Cell : Type 0 where
  null : Cell
  boolean : Bool → Cell
  integer : ℤ → Cell
  float : Float → Cell
  string : List ℕ → Cell

-- a value as a cell: a string is its bytes
unfoldable pub cell_of : List ℕ → Value → Cell
cell_of text value.Null = null
cell_of text (value.Boolean b) = boolean b
cell_of text (value.Integer n) = integer n
cell_of text (value.Float x) = float x
cell_of text (value.String start length) = string (take length (drop start text))

unfoldable pub is_null : Cell → Bool
is_null null = true
is_null (boolean b) = false
is_null (integer n) = false
is_null (float x) = false
is_null (string s) = false

unfoldable pub is_nan : Cell → Bool
is_nan null = false
is_nan (boolean b) = false
is_nan (integer n) = false
is_nan (float x) = is_nan_float x
is_nan (string s) = false

unfoldable pub same_integer : ℤ → ℤ → Bool
same_integer (pos m) (pos n) = eqb m n
same_integer (pos m) (negsuc n) = false
same_integer (negsuc m) (pos n) = false
same_integer (negsuc m) (negsuc n) = eqb m n

unfoldable pub same_bytes : List ℕ → List ℕ → Bool
same_bytes [] [] = true
same_bytes [] (b ∷ t) = false
same_bytes (a ∷ s) [] = false
same_bytes (a ∷ s) (b ∷ t) = eqb a b && same_bytes s t

-- one kind, and one value in it: floats are compared as floats are, strings byte by byte (NULL is decided by `equal`)
unfoldable pub same : Cell → Cell → Bool
same null b = false
same (boolean a) b = elim b [ null ↦ false | boolean c ↦ beq a c | integer n ↦ false | float x ↦ false | string s ↦ false ]
same (integer a) b = elim b [ null ↦ false | boolean c ↦ false | integer n ↦ same_integer a n | float x ↦ false | string s ↦ false ]
same (float a) b = elim b [ null ↦ false | boolean c ↦ false | integer n ↦ false | float x ↦ eq a x | string s ↦ false ]
same (string a) b = elim b [ null ↦ false | boolean c ↦ false | integer n ↦ false | float x ↦ false | string s ↦ same_bytes a s ]

abbrev pub truth : Bool → kleene.Value
truth true = kleene.TRUE
truth false = kleene.FALSE

abbrev pub is_true : kleene.Value → Bool
is_true kleene.TRUE = true
is_true kleene.NULL = false
is_true kleene.FALSE = false

-- Equal of two cells
unfoldable pub equal : Cell → Cell → kleene.Value
equal a b = elim (is_null a || is_null b) [ true ↦ kleene.NULL | false ↦ truth (same a b) ]

-- Is of a cell: NULL (0), or NAN (1)
unfoldable pub is : ℕ → Cell → kleene.Value
is y a = truth (elim (eqb y 0) [ true ↦ is_null a | false ↦ is_nan a ])

-- two cells match: both are NULL, both are NaN, or they are equal
unfoldable pub matches : Cell → Cell → Bool
matches a b = (is_null a && is_null b) || ((is_nan a && is_nan b) || is_true (equal a b))
