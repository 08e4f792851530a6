-- Which spellings are numbers (FORMAT §3). The last definition is the rule; those above it are its words.
use Rattle.std.specs.Prelude.{Option, Some, None, ℕ, ◌+◌, ◌-◌, ◌*◌, Bool, true, false, ◌&&◌, ◌||◌, List, [], ◌∷◌, leb, eqb}
use Rattle.limits.specs.Limits.{integer_max}
use Rattle.numbers.specs.declared.Number.{Number}
use Rattle.numbers.specs.declared.Number.TheVariants.{Integer, Float}

-- 0 to 9
unfoldable pub digit : ℕ → Bool
digit b = leb 48 b && leb b 57

-- begins with a digit
unfoldable pub begins : List ℕ → Bool
begins [] = false
begins (b ∷ s) = digit b

-- nothing is left
unfoldable pub ended : List ℕ → Bool
ended [] = true
ended (b ∷ s) = false

-- what follows any digits, perhaps none
unfoldable pub past_digits : List ℕ → List ℕ
past_digits [] = []
past_digits (b ∷ s) = elim (digit b) [ true ↦ past_digits s | false ↦ b ∷ s ]

-- at least one digit, and nothing else
unfoldable pub digits : List ℕ → Bool
digits s = begins s && ended (past_digits s)

-- what follows an optional `.` with any digits
unfoldable pub past_fraction : List ℕ → List ℕ
past_fraction [] = []
past_fraction (b ∷ s) = elim (eqb b 46) [ true ↦ past_digits s | false ↦ b ∷ s ]

-- what follows an optional `+` or `-`
unfoldable pub past_sign : List ℕ → List ℕ
past_sign [] = []
past_sign (b ∷ s) = elim (eqb b 43 || eqb b 45) [ true ↦ s | false ↦ b ∷ s ]

-- nothing; or `e` or `E`, perhaps a sign, and then digits up to the end, of which there is one at least
unfoldable pub exponent : List ℕ → Bool
exponent [] = true
exponent (b ∷ s) = (eqb b 101 || eqb b 69) && digits (past_sign s)

-- the whole number that digits spell, after those that spelled n
unfoldable pub value_from : ℕ → List ℕ → ℕ
value_from n [] = n
value_from n (b ∷ s) = value_from (n * 10 + (b - 48)) s

-- an Integer, up to the largest
unfoldable pub integer_of : ℕ → Option Number
integer_of n = elim (leb n integer_max) [ true ↦ Some (Integer n) | false ↦ None ]

-- all digits: an Integer, or past the largest no number
-- else at least one digit, an optional fraction and an optional exponent: a Float, which is not read further
-- else no number; nor is an empty spelling
unfoldable pub number_of : List ℕ → Option Number
number_of s =
    elim (digits s) [
      | true ↦ integer_of (value_from 0 s)
      | false ↦ elim (begins s && exponent (past_fraction (past_digits s))) [ true ↦ Some Float | false ↦ None ]
    ]
