-- The reading without a room limit. A table of as many rows as there are tokens is always large enough: every row has a token of its own, so
-- NO_ROOM is never given (`room_enough`), and every larger table gives the same (`larger_same`). So what that table gives is the reading without a limit:
--   accepted_if, accepted_only_if: a table of cap rows accepts exactly what the reading without a limit makes a tree of at most cap rows.
-- Assumes nothing.
use mathlib.Core.Path.{◌≡◌, refl, sym, ◌∙◌}
use mathlib.Core.List.{List}
use Prim.Native.Nat.{ℕ, ◌+◌, ◌≤◌, ◌<◌, max}
use native.Mathlib.Omega.{arith}
use native.Mathlib.Nat.{le_refl}
use borrow.Author.Tests.{leb-true, leb-false}
use lib.Dec.{leb}
use Rattle.tokens.specs.Token.{token_count}
use Rattle.refusals.specs.declared.Refusal.TheVariants.{NoRoom}
use Rattle.syntax.specs.Tree.{Tree, size}
use Rattle.grammar.specs.Rules.{Reading, done, refuse, whole_expression, unlimited}
use Rattle.grammar.proofs.Readings.{by_cases, told_of}
use Rattle.grammar.proofs.ReadingAdvances.{whole_expression_goes}
use Rattle.grammar.proofs.SmallerTable.{Limited, same, short, same_or_no_room, same_done, accepted_fits, accepted_larger}

-- with at least as many rows as tokens, NO_ROOM is never given
pub room_enough : (text ts : List ℕ) (cap : ℕ) → token_count ts ≤ cap → (levels p : ℕ) → whole_expression text ts cap levels ≡ refuse NoRoom p → ⊥
room_enough text ts cap large levels p e =
    let full = (told_of e (whole_expression_goes text ts cap levels)).full refl in
    let more : cap + 0 < 0 + p = full.0 in
    let within : p ≤ max 0 (token_count ts) = full.1 in
    omega arith

module _ (text ts : List ℕ) (levels cap : ℕ) where
  large_same : {r s : Reading} → Limited (token_count ts) r s → ((p : ℕ) → r ≡ refuse NoRoom p → ⊥) → s ≡ r
  large_same (same w) never = refl
  large_same (short p b) never = absurd (never p refl)

  -- every table of at least as many rows as tokens gives it
  pub larger_same : token_count ts ≤ cap → whole_expression text ts cap levels ≡ unlimited text ts levels
  unfolding unlimited
  larger_same large =
      large_same (same_or_no_room text ts (token_count ts) cap large levels)
      (room_enough text ts (token_count ts) (le_refl (token_count ts)) levels)

  module _ {at used : ℕ} {x : Tree} where
    pub accepted_if : unlimited text ts levels ≡ done at used x → size x ≤ cap → whole_expression text ts cap levels ≡ done at used x
    unfolding unlimited
    accepted_if e le = accepted_larger text ts levels (token_count ts) e cap le

    pub accepted_only_if : whole_expression text ts cap levels ≡ done at used x → (unlimited text ts levels ≡ done at used x) × (size x ≤ cap)
    unfolding unlimited
    accepted_only_if e = (
      by_cases (leb cap (token_count ts)) (λ l. (same_done (same_or_no_room text ts cap (token_count ts) (leb-true cap (token_count ts) l) levels) e).0)
          (λ l. sym (larger_same (omega (arith, leb-false cap (token_count ts) l))) ∙ e),
      accepted_fits text ts levels cap e,
    )
