-- Equal of two cells does not mind which stands first (`equal_symmetric`).
-- Assumes nothing.
use mathlib.Core.Path.{◌≡◌, refl, sym, ap, ap₂, ◌∙◌}
use Prim.Native.Nat.{ℕ, ◌*◌}
use mathlib.Core.Bool.{Bool, true, false, ◌&&◌, ◌||◌, beq}
use mathlib.Core.List.{List, [], ◌∷◌}
use borrow.Author.Tests.{eqb-true, eqb-false, eq-eqb, ne_eqb}
use lib.Dec.{eqb}
use lib.IntN.{ℤ, pos, negsuc}
use lib.Ieee.{Float, nan, inf, fin, eq, level, up, down}
use Rattle.lookup.specs.Cell.{Cell, null, boolean, integer, float, string, is_null, same_integer, same_bytes, same, truth, equal}

eqb_symmetric : (m n : ℕ) → eqb m n ≡ eqb n m
eqb_symmetric m n = by (eqb m n) refl
  where
    by : (b : Bool) → eqb m n ≡ b → b ≡ eqb n m
    by true e = sym (eq-eqb n m (sym (eqb-true m n e)))
    by false e = sym (ne_eqb n m (λ f. eqb-false m n e (sym f)))

beq_symmetric : (a b : Bool) → beq a b ≡ beq b a
beq_symmetric true true = refl
beq_symmetric true false = refl
beq_symmetric false true = refl
beq_symmetric false false = refl

level_symmetric : (s : Bool) (m : ℕ) (t : Bool) (n : ℕ) → level s m t n ≡ level t n s m
level_symmetric s m t n = by (eqb m n) refl
  where
    by : (b : Bool) → eqb m n ≡ b → (b && (beq s t || eqb m 0)) ≡ level t n s m
    by true e = ap₂ ◌||◌ (beq_symmetric s t) (ap (λ (i : ℕ). eqb i 0) (eqb-true m n e)) ∙ sym (rw (sym (eqb_symmetric m n) ∙ e, level))
    by false e = sym (rw (sym (eqb_symmetric m n) ∙ e, level))

float_symmetric : (x y : Float) → eq x y ≡ eq y x
unfolding eq
float_symmetric nan nan = refl
float_symmetric nan (inf t) = refl
float_symmetric nan (fin t n d) = refl
float_symmetric (inf s) nan = refl
float_symmetric (inf s) (inf t) = beq_symmetric s t
float_symmetric (inf s) (fin t n d) = refl
float_symmetric (fin s m e) nan = refl
float_symmetric (fin s m e) (inf t) = refl
float_symmetric (fin s m e) (fin t n d) = level_symmetric s (m * up e * down d) t (n * up d * down e)

integer_symmetric : (a b : ℤ) → same_integer a b ≡ same_integer b a
unfolding same_integer
integer_symmetric (pos m) (pos n) = eqb_symmetric m n
integer_symmetric (pos m) (negsuc n) = refl
integer_symmetric (negsuc m) (pos n) = refl
integer_symmetric (negsuc m) (negsuc n) = eqb_symmetric m n

bytes_symmetric : (a b : List ℕ) → same_bytes a b ≡ same_bytes b a
unfolding same_bytes
bytes_symmetric [] [] = refl
bytes_symmetric [] (b ∷ t) = refl
bytes_symmetric (a ∷ s) [] = refl
bytes_symmetric (a ∷ s) (b ∷ t) = ap₂ ◌&&◌ (eqb_symmetric a b) (bytes_symmetric s t)

pub equal_symmetric : (a b : Cell) → equal a b ≡ equal b a
unfolding equal same is_null
equal_symmetric null null = refl
equal_symmetric null (boolean c) = refl
equal_symmetric null (integer n) = refl
equal_symmetric null (float x) = refl
equal_symmetric null (string s) = refl
equal_symmetric (boolean a) null = refl
equal_symmetric (boolean a) (boolean c) = ap truth (beq_symmetric a c)
equal_symmetric (boolean a) (integer n) = refl
equal_symmetric (boolean a) (float x) = refl
equal_symmetric (boolean a) (string s) = refl
equal_symmetric (integer a) null = refl
equal_symmetric (integer a) (boolean c) = refl
equal_symmetric (integer a) (integer n) = ap truth (integer_symmetric a n)
equal_symmetric (integer a) (float x) = refl
equal_symmetric (integer a) (string s) = refl
equal_symmetric (float a) null = refl
equal_symmetric (float a) (boolean c) = refl
equal_symmetric (float a) (integer n) = refl
equal_symmetric (float a) (float x) = ap truth (float_symmetric a x)
equal_symmetric (float a) (string s) = refl
equal_symmetric (string a) null = refl
equal_symmetric (string a) (boolean c) = refl
equal_symmetric (string a) (integer n) = refl
equal_symmetric (string a) (float x) = refl
equal_symmetric (string a) (string s) = ap truth (bytes_symmetric a s)
