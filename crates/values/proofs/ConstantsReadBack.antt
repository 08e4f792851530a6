-- The value of a constant is the constant: the constant of the value of an allowed constant is that constant (`constant_back`), but for the other patterns
-- of a NaN, for which it is the one that is handed out (`nan_back`).
-- Assumes nothing.
use mathlib.Core.Path.{◌≡◌, refl, sym, ap, ap₂}
use mathlib.Core.Bool.{Bool, true, false, ◌&&◌}
use mathlib.Core.List.{List}
use Prim.Native.Nat.{ℕ, zero, suc, ◌-◌, ◌^◌, ◌≤◌, ◌<◌}
use native.Mathlib.Omega.{arith}
use borrow.Author.Tests.{eqb-true, leb-true}
use lib.Dec.{eqb, ltb}
use lib.IntN.{pos, negsuc}
use lib.Ieee.{binary64, is_nan, of_bits}
use lib.Ieee.Bits.{to_bits-of_bits}
use Rattle.predicate.specs.Kind as kind
use Rattle.predicate.specs.Row.{is_one_of, classes, class_in, class_of, allowed_of}
use Rattle.values.specs.Value.{signed_of, pattern_of, value_by, value_of, constant_of}
use Rattle.values.specs.declared.Constant.{Constant}
use Rattle.std.proofs.lemmas.Float.{T_from_false}
use Rattle.values.proofs.NanPatterns.{one_nan_pattern}

pub both_true : (a b : Bool) → (a && b) ≡ true → (a ≡ true) × (b ≡ true)
both_true true true e = (refl, refl)
both_true true false e = let z : ◌≡◌ {A = ℕ} 0 1 = cc in absurd (omega arith)
both_true false b e = let z : ◌≡◌ {A = ℕ} 0 1 = cc in absurd (omega arith)

-- a pattern, read as a signed number and written again
pub pattern_back : (x : ℕ) → x < 2 ^ 64 → pattern_of (signed_of x) ≡ x
unfolding pattern_of signed_of
pattern_back x h = by (ltb x (2 ^ 63)) refl
  where
    by : (b : Bool) → ltb x (2 ^ 63) ≡ b → pattern_of (elim b [ true ↦ pos x | false ↦ negsuc (2 ^ 64 - 1 - x) ]) ≡ x
    by true e = refl
    by false e = omega arith

abbrev constant_by : ℕ → ℕ → ℕ → Constant
constant_by k x y = record { kind = k; x = x; y = y }

module _ (text : List ℕ) (x y : ℕ) where
  null_back : allowed_of text (class_of kind.null) x y ≡ true → constant_of (value_by kind.null x y) ≡ constant_by kind.null x y
  unfolding allowed_of class_of class_in classes is_one_of constant_of value_by
  null_back e = let f = both_true _ _ e in ap₂ (constant_by kind.null) (sym (eqb-true x 0 f.0)) (sym (eqb-true y 0 f.1))

  boolean_back : allowed_of text (class_of kind.boolean) x y ≡ true → constant_of (value_by kind.boolean x y) ≡ constant_by kind.boolean x y
  unfolding allowed_of class_of class_in classes is_one_of constant_of value_by
  boolean_back e = let f = both_true _ _ e in ap₂ (constant_by kind.boolean) (bit x (leb-true x 1 f.0)) (sym (eqb-true y 0 f.1))
    where
      bit : (n : ℕ) → n ≤ 1 → elim (eqb n 1) [ true ↦ 1 | false ↦ 0 ] ≡ n
      bit zero h = refl
      bit (suc zero) h = refl
      bit (suc (suc n)) h = absurd (omega arith)

  integer_back : x < 2 ^ 64 → allowed_of text (class_of kind.integer) x y ≡ true → constant_of (value_by kind.integer x y) ≡ constant_by kind.integer x y
  unfolding allowed_of class_of class_in classes is_one_of constant_of value_by
  integer_back h e = ap₂ (constant_by kind.integer) (pattern_back x h) (sym (eqb-true y 0 e))

  float_back : x < 2 ^ 64 → is_nan (of_bits binary64 x) ≡ false → allowed_of text (class_of kind.float) x y ≡ true
      → constant_of (value_by kind.float x y) ≡ constant_by kind.float x y
  unfolding allowed_of class_of class_in classes is_one_of constant_of value_by
  float_back h n e = ap₂ (constant_by kind.float) (to_bits-of_bits binary64 x h (T_from_false (is_nan (of_bits binary64 x)) n)) (sym (eqb-true y 0 e))

  string_back : constant_of (value_by kind.string x y) ≡ constant_by kind.string x y
  unfolding constant_of value_by
  string_back = refl

  back : (k : ℕ) → kind.null ≤ k → k ≤ kind.string → x < 2 ^ 64 → (k ≡ kind.float → is_nan (of_bits binary64 x) ≡ false)
      → allowed_of text (class_of k) x y ≡ true → constant_of (value_by k x y) ≡ constant_by k x y
  back zero low high h n e = absurd (omega arith)
  back (suc zero) low high h n e = null_back e
  back (suc (suc zero)) low high h n e = boolean_back e
  back (suc (suc (suc zero))) low high h n e = integer_back h e
  back (suc (suc (suc (suc zero)))) low high h n e = float_back h (n refl) e
  back (suc (suc (suc (suc (suc zero))))) low high h n e = string_back
  back (suc (suc (suc (suc (suc (suc k)))))) low high h n e = absurd (omega arith)

-- the theorem
pub constant_back : (text : List ℕ) (c : Constant) → kind.null ≤ c.kind → c.kind ≤ kind.string → c.x < 2 ^ 64
    → (c.kind ≡ kind.float → is_nan (of_bits binary64 c.x) ≡ false) → allowed_of text (class_of c.kind) c.x c.y ≡ true → constant_of (value_of c) ≡ c
unfolding value_of
constant_back text c low high h n e = back text c.x c.y c.kind low high h n e

-- and a NaN's
pub nan_back : (x y : ℕ) → is_nan (of_bits binary64 x) ≡ true → constant_of (value_by kind.float x y) ≡ constant_by kind.float 9_221_120_237_041_090_560 0
unfolding constant_of value_by
nan_back x y e = ap (λ (i : ℕ). constant_by kind.float i 0) (sym (one_nan_pattern (of_bits binary64 x) e))
