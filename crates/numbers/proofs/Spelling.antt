-- Laws of the number rule: a run of digits from its first turn to its end, and what a run says of what follows it.
-- Assumes nothing.
use mathlib.Core.Path.{◌≡◌, refl, sym, ap, subst, ◌∙◌}
use mathlib.Core.Bool.{Bool, true, false, ◌&&◌}
use mathlib.Core.List.{List, [], ◌∷◌}
use Prim.Native.Nat.{ℕ, ◌+◌, ◌-◌, ◌*◌, ◌≤◌, ◌<◌}
use native.Mathlib.Omega.{arith}
use borrow.Author.Tests.{lt-leb, leb-true, leb-false, eqb-true}
use lib.Dec.{leb}
use lib.ListN.{length, get_or, take, drop}
use Rattle.std.proofs.lemmas.List.{nil_from_length, take_rest}
use Rattle.std.specs.Prelude.{Option, Some, None, IfSome, ◌==◌}
use Rattle.std.specs.Option.{option_and_then, option_map}
use Rattle.limits.specs.Limits.{integer_max}
use Rattle.numbers.specs.Number.{digit, begins, ended, past_digits, digits, value_from, integer_of, number_of}
use Rattle.numbers.specs.Run.{small, leading}
use Rattle.numbers.specs.declared.Number.TheVariants.{Integer}

-- what a digit is
pub digit_in : (b : ℕ) → digit b ≡ true → (48 ≤ b) × (b ≤ 57)
unfolding digit
digit_in b e = by (leb 48 b) (leb b 57) refl refl e
  where
    by : (p q : Bool) → leb 48 b ≡ p → leb b 57 ≡ q → (p && q) ≡ true → (48 ≤ b) × (b ≤ 57)
    by true true f g h = (leb-true 48 b f, leb-true b 57 g)
    by true false f g h = let z : ◌≡◌ {A = ℕ} 0 1 = cc in absurd (omega arith)
    by false q f g h = let z : ◌≡◌ {A = ℕ} 0 1 = cc in absurd (omega arith)

-- a number grows with each digit
grows : (n : ℕ) (s : List ℕ) → n ≤ value_from n s
unfolding value_from
grows n [] = omega arith
grows n (b ∷ s) = omega (arith, grows (n * 10 + (b - 48)) s)

-- so one that is past the largest stays so
small_grows : (n : ℕ) (s : List ℕ) → option_and_then (λ k. small (value_from k s)) (small n) ≡ small (value_from n s)
unfolding small
small_grows n s = by (leb n integer_max) refl
  where
    by : (b : Bool) → leb n integer_max ≡ b →
        option_and_then (λ k. small (value_from k s)) (elim b [ true ↦ Some n | false ↦ None ]) ≡ small (value_from n s)
    by true e = refl
    by false e =
        let lt : integer_max < n = leb-false n integer_max e in
        sym (rw (lt-leb (value_from n s) integer_max (omega (arith, lt, grows n s)), small))

-- ---- past_digits by its first byte: a digit is skipped, and what begins with none is left as it is

pub past_on : (rest : List ℕ) → 1 ≤ length rest → digit (get_or rest 0 0) ≡ true → past_digits (take (length rest - 1) (drop 1 rest)) ≡ past_digits rest
unfolding past_digits
past_on [] some is = absurd (omega arith)
past_on (b ∷ after) some is =
    let on : past_digits (b ∷ after) ≡ past_digits after = rw (is, past_digits) in
    rw (take_rest (b ∷ after) 1) (sym on)

pub past_off : (rest : List ℕ) → 1 ≤ length rest → digit (get_or rest 0 0) ≡ false → rest ≡ past_digits rest
unfolding past_digits
past_off [] some isnt = refl
past_off (b ∷ after) some isnt = rw (isnt, past_digits)

pub past_out : (rest : List ℕ) → length rest < 1 → rest ≡ past_digits rest
unfolding past_digits
past_out [] none = refl
past_out (b ∷ after) none = absurd (omega arith)

-- ---- a run of digits and its value

-- the value of the digits so far, with the digits that follow
abbrev with_digits : Option ℕ → List ℕ → Option ℕ
with_digits value s = option_and_then (λ k. small (value_from k s)) value

-- the digits that s begins with are read up to `rest`, and spell `value`
pub record Running (s rest : List ℕ) (value : Option ℕ) : Type 0 where
  pub least : with_digits value [] ≡ value
  pub left : past_digits rest ≡ past_digits s
  pub total : with_digits value (leading rest) ≡ small (value_from 0 (leading s))

pub run_begins : (s : List ℕ) → Running s s (Some 0)
unfolding small value_from
run_begins s = record { least = refl; left = refl; total = refl }

-- one more digit
abbrev pub after_digit : Option ℕ → ℕ → Option ℕ
after_digit value b = option_and_then (λ n. small (n * 10 + (b - 48))) value

digit_least : (value : Option ℕ) (b : ℕ) → with_digits (after_digit value b) [] ≡ after_digit value b
unfolding value_from
digit_least None b = refl
digit_least (Some n) b = small_grows (n * 10 + (b - 48)) []

digit_total : (value : Option ℕ) (b : ℕ) (s : List ℕ) → with_digits (after_digit value b) s ≡ with_digits value (b ∷ s)
unfolding value_from
digit_total None b s = refl
digit_total (Some n) b s = small_grows (n * 10 + (b - 48)) s

module _ {s after : List ℕ} {b : ℕ} {value : Option ℕ} (r : Running s (b ∷ after) value) where
  -- the next byte is a digit
  run_on : digit b ≡ true → Running s after (after_digit value b)
  unfolding past_digits leading
  run_on is =
      let past_on : past_digits (b ∷ after) ≡ past_digits after = rw (is, past_digits) in
      let value_on : leading (b ∷ after) ≡ b ∷ leading after = rw (is, leading) in
      record {
        least = digit_least value b;
        left = sym past_on ∙ r.left;
        total = digit_total value b (leading after) ∙ sym (ap (with_digits value) value_on) ∙ r.total;
      }

  -- or it is none
  run_off : digit b ≡ false → (value ≡ small (value_from 0 (leading s))) × (b ∷ after ≡ past_digits s)
  unfolding past_digits leading
  run_off isnt =
      let past_off : past_digits (b ∷ after) ≡ b ∷ after = rw (isnt, past_digits) in
      let none : leading (b ∷ after) ≡ [] = rw (isnt, leading) in
      (sym r.least ∙ sym (ap (with_digits value) none) ∙ r.total, sym past_off ∙ r.left)

-- the same by what is left, of which the first byte is looked at
pub turn_on : (s rest : List ℕ) (value : Option ℕ) → 1 ≤ length rest → digit (get_or rest 0 0) ≡ true → Running s rest value →
    Running s (take (length rest - 1) (drop 1 rest)) (after_digit value (get_or rest 0 0))
turn_on s [] value some is r = absurd (omega arith)
turn_on s (b ∷ after) value some is r = rw (take_rest (b ∷ after) 1) (run_on r is)

pub turn_off : (s rest : List ℕ) (value : Option ℕ) → 1 ≤ length rest → digit (get_or rest 0 0) ≡ false → Running s rest value →
    (value ≡ small (value_from 0 (leading s))) × (rest ≡ past_digits s)
turn_off s [] value some is r = absurd (omega arith)
turn_off s (b ∷ after) value some is r = run_off r is

-- nothing is left
pub run_out : (s rest : List ℕ) (value : Option ℕ) → length rest < 1 → Running s rest value →
    (value ≡ small (value_from 0 (leading s))) × (rest ≡ past_digits s)
unfolding past_digits leading
run_out s (b ∷ after) value none r = absurd (omega arith)
run_out s [] value none r = (sym r.least ∙ r.total, r.left)

-- a value past the largest Integer stays so, whatever digits are left
pub run_past : {s rest : List ℕ} {value : Option ℕ} → value ≡ None → Running s rest value →
    (None ≡ small (value_from 0 (leading s))) × (past_digits rest ≡ past_digits s)
run_past {s} {rest} past r = let q = subst (Running s rest) past r in (q.total, q.left)

-- all of it is digits: those that it begins with are all
leading_all : (s : List ℕ) → past_digits s ≡ [] → leading s ≡ s
unfolding past_digits leading
leading_all [] e = refl
leading_all (b ∷ s) e = by (digit b) e (leading_all s)
  where
    by : (d : Bool) → ◌≡◌ {A = List ℕ} (elim d [ true ↦ past_digits s | false ↦ b ∷ s ]) [] → (past_digits s ≡ [] → leading s ≡ s) →
        ◌≡◌ {A = List ℕ} (elim d [ true ↦ b ∷ leading s | false ↦ [] ]) (b ∷ s)
    by true h on = ap (λ (l : List ℕ). b ∷ l) (on h)
    by false h on = let z : ◌≡◌ {A = ℕ} (length (b ∷ s)) 0 = ap length h in absurd (omega arith)

-- and, if it is not empty, it begins with one
pub all_begin : (s : List ℕ) → (length s == 0) ≡ false → past_digits s ≡ [] → begins s ≡ true
unfolding past_digits begins
all_begin [] some e = let z : ◌≡◌ {A = ℕ} 0 1 = cc in absurd (omega arith)
all_begin (b ∷ s) some e = by (digit b) e
  where
    by : (d : Bool) → ◌≡◌ {A = List ℕ} (elim d [ true ↦ past_digits s | false ↦ b ∷ s ]) [] → d ≡ true
    by true h = refl
    by false h = let z : ◌≡◌ {A = ℕ} (length (b ∷ s)) 0 = ap length h in absurd (omega arith)

-- of digits only, the value says which Integer they are
pub digits_are : (s rest : List ℕ) (v : Option ℕ) → begins s ≡ true → rest ≡ past_digits s → (length rest == 0) ≡ true →
    v ≡ small (value_from 0 (leading s)) → number_of s ≡ option_map Integer v
unfolding number_of digits ended integer_of small
digits_are s rest v some is none value =
    let past : past_digits s ≡ [] = sym is ∙ nil_from_length rest (eqb-true (length rest) 0 none) in
    let all : v ≡ small (value_from 0 s) = value ∙ ap (λ (l : List ℕ). small (value_from 0 l)) (leading_all s past) in
    rw (some, past, number_of) (integer_small (value_from 0 s) ∙ ap (option_map Integer) (sym all))
  where
    integer_small : (n : ℕ) → integer_of n ≡ option_map Integer (small n)
    integer_small n = by (leb n integer_max)
      where
        by : (b : Bool) → elim b [ true ↦ Some (Integer n) | false ↦ None ] ≡ option_map Integer (elim b [ true ↦ Some n | false ↦ None ])
        by true = refl
        by false = refl

-- that it begins with a digit need not be asked of a spelling that is not empty
pub all_digits_are : (s rest : List ℕ) (v : Option ℕ) → (length s == 0) ≡ false → rest ≡ past_digits s → (length rest == 0) ≡ true →
    v ≡ small (value_from 0 (leading s)) → number_of s ≡ option_map Integer v
all_digits_are s rest v some is none value =
    digits_are s rest v (all_begin s some (sym is ∙ nil_from_length rest (eqb-true (length rest) 0 none))) is none value

-- so each value that there is is the Integer's
pub value_said : (s : List ℕ) (v : Option ℕ) → number_of s ≡ option_map Integer v → IfSome v (λ n. number_of s ≡ Some (Integer n))
value_said s None e = tt
value_said s (Some n) e = e
