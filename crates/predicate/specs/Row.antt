-- What a predicate row is by its three numbers (FORMAT §6).
use Rattle.std.specs.Prelude.{ℕ, ◌+◌, Bool, true, false, ◌&&◌, ◌||◌, List, [], ◌∷◌, length, leb, eqb}
use Rattle.limits.specs.Limits.{column_max}
use Rattle.rows.specs.Layout.{row_at}
use Rattle.rows.specs.declared.Row.{Row}
use Rattle.predicate.specs.Kind as kind
use Rattle.predicate.specs.declared.Class.{Class}
use Rattle.predicate.specs.declared.Class.TheVariants as class
use Rattle.predicate.specs.declared.Shape.{Shape}
use Rattle.predicate.specs.declared.Shape.TheVariants as shape
use Rattle.predicate.specs.declared.Arity.{Arity}
use Rattle.predicate.specs.declared.Arity.TheVariants as arity

-- k is one of ks
unfoldable pub is_one_of : ℕ → List ℕ → Bool
is_one_of k [] = false
is_one_of k (j ∷ ks) = eqb k j || is_one_of k ks

-- the operators over one operand, but for Is, and those over two
abbrev pub unary_kinds : List ℕ
unary_kinds = kind.factorial ∷ kind.identity ∷ kind.negate ∷ kind.square_root ∷ []

abbrev pub binary_kinds : List ℕ
binary_kinds =
    kind.equal
    ∷ kind.greater_than
    ∷ kind.less_than
    ∷ kind.add
    ∷ kind.divide
    ∷ kind.exponentiate
    ∷ kind.multiply
    ∷ kind.remainder
    ∷ kind.subtract
    ∷ kind.like
    ∷ []

-- the kinds of each class
unfoldable pub classes : List (List ℕ × Class)
classes =
    (kind.null ∷ [], class.Null)
    ∷ (kind.boolean ∷ [], class.Boolean)
    ∷ (kind.integer ∷ kind.float ∷ [], class.Number)
    ∷ (kind.string ∷ [], class.Text)
    ∷ (kind.column ∷ [], class.Column)
    ∷ (kind.AND ∷ [], class.And)
    ∷ (kind.OR ∷ [], class.Or)
    ∷ (kind.NOT ∷ [], class.Not)
    ∷ (kind.is ∷ [], class.Is)
    ∷ (unary_kinds, class.Unary)
    ∷ (binary_kinds, class.Binary)
    ∷ []

-- the class that has the kind, else unknown
unfoldable pub class_in : ℕ → List (List ℕ × Class) → Class
class_in k [] = class.Unknown
class_in k (c ∷ cs) = elim (is_one_of k c.0) [ true ↦ c.1 | false ↦ class_in k cs ]

unfoldable pub class_of : ℕ → Class
class_of k = class_in k classes

-- what x and y may be, besides the rows of operands: unused ones are 0, a string lies in the text
unfoldable pub allowed_of : List ℕ → Class → ℕ → ℕ → Bool
allowed_of text class.Unknown x y = false
allowed_of text class.Null x y = eqb x 0 && eqb y 0
allowed_of text class.Boolean x y = leb x 1 && eqb y 0
allowed_of text class.Number x y = eqb y 0
allowed_of text class.Text x y = leb (x + y) (length text)
allowed_of text class.Column x y = leb x column_max && eqb y 0
allowed_of text class.And x y = true
allowed_of text class.Or x y = true
allowed_of text class.Not x y = eqb y 0
allowed_of text class.Is x y = leb y 1
allowed_of text class.Unary x y = eqb y 0
allowed_of text class.Binary x y = true

-- what a row is to a splitter
unfoldable pub shape_of : Class → Row → Shape
shape_of class.Unknown w = shape.Leaf
shape_of class.Null w = shape.Leaf
shape_of class.Boolean w = shape.Leaf
shape_of class.Number w = shape.Leaf
shape_of class.Text w = shape.Leaf
shape_of class.Column w = shape.Leaf
shape_of class.And w = shape.Both w.x w.y
shape_of class.Or w = shape.Either w.x w.y
shape_of class.Not w = shape.Not w.x
shape_of class.Is w = shape.One w.x
shape_of class.Unary w = shape.One w.x
shape_of class.Binary w = shape.Two w.x w.y

unfoldable pub shape_at : List ℕ → ℕ → Shape
shape_at l r = shape_of (class_of (row_at l r).kind) (row_at l r)

-- the rows of its operands
unfoldable pub arity_of : Shape → Arity
arity_of shape.Leaf = arity.Nil
arity_of (shape.One x) = arity.One x
arity_of (shape.Two x y) = arity.Two x y
arity_of (shape.Both x y) = arity.Two x y
arity_of (shape.Either x y) = arity.Two x y
arity_of (shape.Not x) = arity.One x

unfoldable pub operands_of : Arity → List ℕ
operands_of arity.Nil = []
operands_of (arity.One x) = x ∷ []
operands_of (arity.Two x y) = x ∷ y ∷ []
