-- What the inner functions give is what `parse` promises: the rows are the tree's, and what follows them is as it was (`accepted_as_promised`); or the
-- table is zeros (`refused_as_promised`).
-- Assumes nothing.
use mathlib.Core.Path.{◌≡◌, refl, ap, ◌∙◌}
use mathlib.Core.List.{List, [], ◌++◌}
use Prim.Native.Nat.{ℕ, ◌*◌}
use native.Mathlib.Nat.{zero-add}
use native.Mathlib.Omega.{arith}
use lib.ListN.{length, drop, replicate}
use lib.Seq.{sets}
use Rattle.std.specs.Prelude.{Result, Ok, Err}
use Rattle.tokens.specs.Token.{check_table}
use Rattle.refusals.specs.Refusal.{refused}
use Rattle.refusals.specs.declared.Refused.{Refused}
use Rattle.rows.specs.Layout.{width, capacity}
use Rattle.rows.proofs.Laws.{laid_out, capacity_count}
use Rattle.syntax.specs.Tree.{size, rows_of}
use Rattle.grammar.specs.Rules.{Reading}
use Rattle.grammar.specs.Rules as T
use Rattle.grammar.specs.Memory.{Out, done, refuse, Gives, whole_expression}
use Rattle.parser.specs.Inner.{out_after_check, parsing_out}
use Rattle.parser.specs.Promise.{after_check, parsing, answer_of, table_of, parse_numbers, Answers, Parses}
use Rattle.grammar.specs.declared.Cursor.{Cursor}
use Rattle.syntax.proofs.Lengths.{length_rows}
use Rattle.grammar.proofs.LaidOut.{cursor, Laid, refusal_laid}
use Rattle.grammar.proofs.MemoryFollowsTrees.{whole_expression_laid}

abbrev rows_in : Out → ℕ
rows_in (done c t) = c.rows
rows_in (refuse why at) = 0

abbrev table_in : Out → List ℕ
table_in (done c t) = t
table_in (refuse why at) = []

abbrev refused_in : Out → Result ℕ Refused
refused_in (done c t) = Ok 0
refused_in (refuse why at) = Err (refused why at)

-- an answer and a table that are the reading's are all that it answers: the answer's numbers follow
answers : {t u : List ℕ} {r : Result ℕ Refused} (o : Reading) → r ≡ answer_of o → u ≡ table_of t o → Answers o t r u
unfolding parse_numbers
answers (T.done at used x) answer table = record { answer = answer; table = table; numbers = ap parse_numbers answer }
answers (T.refuse why at) answer table = record { answer = answer; table = table; numbers = ap parse_numbers answer }

module _ (text ts t : List ℕ) (levels : ℕ) where
  -- it is the same at both levels
  parsing_laid : Laid (capacity t) t 0 (parsing_out text ts levels t) (parsing text ts (capacity t) levels)
  unfolding parsing parsing_out
  parsing_laid = by (check_table text ts)
    where
      by : (k : Result ℕ Refused) → Laid (capacity t) t 0 (out_after_check k (whole_expression text ts levels t))
          (after_check k (T.whole_expression text ts (capacity t) levels))
      by (Ok n) = whole_expression_laid text ts (capacity t) levels t refl
      by (Err e) = refusal_laid (capacity t)

  -- all tokens were read: the rows are the tree's
  pub accepted_as_promised : {r : Result Cursor Refused} {c : Cursor} {u : List ℕ} → r ≡ Ok c → Gives (parsing_out text ts levels t) r u →
      Parses levels text ts t (Ok c.rows) u
  accepted_as_promised {r} {c} {u} e a = by (parsing text ts (capacity t) levels) parsing_laid
    where
      is : done c u ≡ parsing_out text ts levels t
      is = rw e at a.answer

      by : (o : Reading) → Laid (capacity t) t 0 (parsing_out text ts levels t) o → Answers o t (Ok c.rows) u
      by (T.done at used x) l =
          let same : done c u ≡ done (cursor at used) (sets t 0 (rows_of 0 x)) = is ∙ l.is in
          let rows : c.rows ≡ size x = ap rows_in same ∙ l.fits.0 ∙ zero-add (size x) in
          answers (T.done at used x) (ap Ok rows)
          (ap table_in same
          ∙ laid_out t (rows_of 0 x) 0 (size x) (length_rows 0 x) (omega (arith, capacity_count t))
          ∙ ap (λ (k : ℕ). rows_of 0 x ++ drop (k * width) t) (zero-add (size x)))
      by (T.refuse why at) l = let same : done c u ≡ refuse why at = is ∙ l.is in let z : ◌≡◌ {A = ℕ} 0 1 = cc in absurd (omega arith)

  -- they were not, and the table is cleared
  pub refused_as_promised : {r : Result Cursor Refused} {e : Refused} {u v : List ℕ} → r ≡ Err e → Gives (parsing_out text ts levels t) r u →
      length u ≡ length t → v ≡ replicate (length u) 0 → Parses levels text ts t (Err e) v
  refused_as_promised {r} {e} {u} {v} refusal g long zeros = by (parsing text ts (capacity t) levels) parsing_laid
    where
      is : refuse e.why e.place ≡ parsing_out text ts levels t
      is = rw refusal at g.answer

      by : (o : Reading) → Laid (capacity t) t 0 (parsing_out text ts levels t) o → Answers o t (Err e) v
      by (T.done p used x) l =
          let same : refuse e.why e.place ≡ done (cursor p used) (sets t 0 (rows_of 0 x)) = is ∙ l.is in
          let z : ◌≡◌ {A = ℕ} 0 1 = cc in
          absurd (omega arith)
      by (T.refuse w p) l = answers (T.refuse w p) (ap refused_in (is ∙ l.is)) (zeros ∙ ap (λ (k : ℕ). replicate k 0) long)
