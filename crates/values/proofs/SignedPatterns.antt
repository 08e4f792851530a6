-- Two's complement, as a machine writes a negative number z: it takes y, which is -1 less z. `Negative` says what is asked of y: it fits in 64 bits and is not
-- negative, and the pattern of z is as far below the greatest pattern as y is large. All that still holds of y once it was written in 64 bits and read again
-- (`read_back_lem`).
-- Assumes nothing.
use mathlib.Core.Path.{◌≡◌, sym, subst}
use Prim.Native.Nat.{◌-◌, ◌≤◌}
use lib.Dec.{T}
use lib.IntN.{ℤ, nat_abs}
use lib.Signed.{non_neg}
use mir.Facts.{to_z-of_z}
use mir.Syntax.{w64}
use mir.Val.{to_z, of_z, Fits, SFits}
use Rattle.values.specs.Value.{pattern_of}

-- what is to be shown of -1 less z
pub record Negative (z y : ℤ) : Type 0 where
  pub fits : SFits w64 y
  pub plain : T (non_neg y) × Fits w64 (nat_abs y)
  pub small : nat_abs y ≤ 18446744073709551615
  pub pattern : 18446744073709551615 - nat_abs y ≡ pattern_of z

-- and as the machine reads it back
pub read_back_lem : {z y : ℤ} → Negative z y → Negative z (to_z w64 (of_z w64 y))
read_back_lem {z} {y} h = subst (Negative z) (sym (to_z-of_z h.fits)) h
