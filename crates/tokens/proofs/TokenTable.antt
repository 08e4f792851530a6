-- Laws of the table of tokens: a token that is not there is none, the turns of the table's check, and that the bytes of a token lie in the text.
-- Assumes nothing.
use mathlib.Core.Path.{◌≡◌, refl, sym, ap, ◌∙◌}
use mathlib.Core.Bool.{Bool, true, false, ◌&&◌}
use mathlib.Core.List.{List}
use Prim.Native.Nat.{ℕ, suc, ◌+◌, ◌-◌, ◌≤◌, ◌<◌}
use native.Mathlib.Nat.{lt_of_not-le, add-sub_cancel_left}
use native.Mathlib.Omega.{arith}
use borrow.Author.Tests.{lt-ltb, le-ltb, leb-true}
use lib.ListN.{length, take, drop}
use Rattle.limits.specs.Limits.{text_max}
use Rattle.tokens.specs.Token.{token_count, token_at, kind_at, known, fits, check_from, check_table, span_of, span_at, spelled}
use Rattle.std.specs.Prelude.{Ok, Err}
use Rattle.refusals.specs.Refusal.{refused}
use Rattle.refusals.specs.declared.Refusal.TheVariants.{TooLong, BadTable}
use Rattle.tokens.specs.declared.table.Token.{Token}
use Rattle.tokens.specs.declared.table.Span.{Span}

module _ (ts : List ℕ) (n : ℕ) where
  pub missing : token_count ts ≤ n → token_at ts n ≡ record { kind = 0; start = 0; length = 0 }
  unfolding token_at
  missing le = rw (le-ltb n (token_count ts) le, token_at)

  pub kind_missing : token_count ts ≤ n → kind_at ts n ≡ 0
  unfolding kind_at
  kind_missing le = ap (λ (t : Token). t.kind) (missing le)

  -- a token whose kind is not 0 is one of the tokens
  pub kind_in : (kind_at ts n ≡ 0 → ⊥) → n < token_count ts
  kind_in some = lt_of_not-le (λ le. some (kind_missing le))

-- the check has come to token n
pub record Checking (text ts : List ℕ) (n : ℕ) : Type 0 where
  pub within : n ≤ token_count ts
  pub same : check_from text ts n (token_count ts - n) ≡ check_from text ts 0 (token_count ts)

pub check_begins : (text ts : List ℕ) → Checking text ts 0
check_begins text ts = record { within = omega arith; same = ap (check_from text ts 0) (let z : token_count ts - 0 ≡ token_count ts = omega arith in z) }

module _ (text ts : List ℕ) (n : ℕ) (at : Checking text ts n) where
  one_left : n < token_count ts → token_count ts - n ≡ suc (token_count ts - (n + 1))
  one_left lt = omega arith

  pub check_on : n < token_count ts → (known (kind_at ts n) && fits text (token_at ts n)) ≡ true → Checking text ts (n + 1)
  unfolding check_from
  check_on lt e =
      let turn : check_from text ts n (token_count ts - n) ≡ check_from text ts (n + 1) (token_count ts - (n + 1)) = rw (one_left lt, e, check_from) in
      record { within = omega arith; same = sym turn ∙ at.same }

  pub check_off : n < token_count ts → (known (kind_at ts n) && fits text (token_at ts n)) ≡ false →
      Err (refused BadTable n) ≡ check_from text ts 0 (token_count ts)
  unfolding check_from
  check_off lt e =
      let turn : check_from text ts n (token_count ts - n) ≡ Err (refused BadTable n) = rw (one_left lt, e, check_from) in
      sym turn ∙ at.same

  pub check_ends : token_count ts ≤ n → Ok (token_count ts) ≡ check_from text ts 0 (token_count ts)
  unfolding check_from
  check_ends le =
      let none : token_count ts - n ≡ 0 = omega arith in
      let last : n ≡ token_count ts = omega (arith, at.within) in
      let end : check_from text ts n (token_count ts - n) ≡ Ok n = rw none in
      ap Ok (sym last) ∙ sym end ∙ at.same

-- a text that is too long is refused first, whatever the table is
pub long_text : (text ts : List ℕ) → text_max < length text → check_table text ts ≡ Err (refused TooLong 0)
unfolding check_table
long_text text ts lt = rw (lt-ltb text_max (length text) lt, check_table)

-- a part of the text
abbrev In : List ℕ → Span → Type 0
In text s = s.start + s.length ≤ length text

module _ (text : List ℕ) (t : Token) where
  span_on : fits text t ≡ true → span_of text t ≡ record { start = t.start; length = t.length }
  unfolding span_of
  span_on e = rw (e, span_of)

  span_off : fits text t ≡ false → span_of text t ≡ record { start = 0; length = 0 }
  unfolding span_of
  span_off e = rw (e, span_of)

  span_of_in : In text (span_of text t)
  unfolding fits
  span_of_in = by (fits text t) refl
    where
      by : (b : Bool) → fits text t ≡ b → In text (span_of text t)
      by true e = rw (span_on e) (leb-true (t.start + t.length) (length text) e)
      by false e = rw (span_off e) (omega arith)

-- the bytes of a token lie in the text
pub span_in : (text ts : List ℕ) (n : ℕ) → In text (span_at text ts n)
unfolding span_at
span_in text ts n = span_of_in text (token_at ts n)

-- and those bytes, as the part of the text from there
pub part_there : (text ts : List ℕ) (n : ℕ) (s : Span) →
    s ≡ span_at text ts n → take (s.start + s.length - s.start) (drop s.start text) ≡ spelled text ts n
unfolding spelled
part_there text ts n s e = rw (add-sub_cancel_left s.start s.length, e)

-- which ends within the text
pub part_in : (text ts : List ℕ) (n : ℕ) (s : Span) → s ≡ span_at text ts n → s.start + s.length ≤ length text
part_in text ts n s e = rw e (span_in text ts n)
