-- The value that a constant stands for, and the constant that stands for a value (FORMAT §6.2 and §9.5).
use Rattle.std.specs.Prelude.{ℕ, ◌-◌, ◌^◌, Bool, true, false, List, [], ◌∷◌, eqb, ltb, ℤ, pos, negsuc}
use Rattle.std.specs.Float.Ieee.{of_bits, to_bits, is_nan}
use Rattle.std.specs.Float.{binary64}
use Rattle.predicate.specs.Kind as kind
use Rattle.rows.specs.Label.{Label}
use Rattle.values.specs.declared.Constant.{Constant}
use Rattle.values.specs.declared.Value.{Value}
use Rattle.values.specs.declared.Value.TheVariants.{Null, Boolean, Integer, Float, String}

-- the number whose two's complement pattern at 64 bits is x
unfoldable pub signed_of : ℕ → ℤ
signed_of x = elim (ltb x (2 ^ 63)) [ true ↦ pos x | false ↦ negsuc (2 ^ 64 - 1 - x) ]

-- and back
unfoldable pub pattern_of : ℤ → ℕ
pattern_of (pos n) = n
pattern_of (negsuc n) = 2 ^ 64 - 1 - n

-- the value of a constant of kind k; any other kind, which no constant has, counts as Null
unfoldable pub value_by : ℕ → ℕ → ℕ → Value
value_by k x y =
    elim (eqb k kind.boolean) [
      | true ↦ Boolean (eqb x 1)
      | false ↦
          elim (eqb k kind.integer) [
            | true ↦ Integer (signed_of x)
            | false ↦
                elim (eqb k kind.float) [
                  | true ↦ Float (of_bits binary64 x)
                  | false ↦ elim (eqb k kind.string) [ true ↦ String x y | false ↦ Null ]
                ]
          ]
    ]

unfoldable pub value_of : Constant → Value
value_of c = value_by c.kind c.x c.y

-- the constant that stands for a value: every NaN has the one pattern
unfoldable pub constant_of : Value → Constant
constant_of Null = record { kind = kind.null; x = 0; y = 0 }
constant_of (Boolean b) = record { kind = kind.boolean; x = elim b [ true ↦ 1 | false ↦ 0 ]; y = 0 }
constant_of (Integer n) = record { kind = kind.integer; x = pattern_of n; y = 0 }
constant_of (Float f) = record { kind = kind.float; x = to_bits binary64 f; y = 0 }
constant_of (String start length) = record { kind = kind.string; x = start; y = length }

-- the numbers of a constant, in order
abbrev pub constant_numbers : Constant → List ℕ
constant_numbers c = c.kind ∷ c.x ∷ c.y ∷ []

-- the constant that a leaf of a predicate is
abbrev pub constant_of_label : Label → Constant
constant_of_label l = record { kind = l.kind; x = l.x; y = l.y }

-- no cell equals it: NULL or NaN
unfoldable pub is_undefined : Value → Bool
is_undefined Null = true
is_undefined (Boolean b) = false
is_undefined (Integer n) = false
is_undefined (Float x) = is_nan x
is_undefined (String start length) = false
