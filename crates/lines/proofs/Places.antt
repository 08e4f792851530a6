-- Where words lie in their line. Assumes nothing.
use Rattle.std.proofs.Common.{◌≡◌, ℕ, ◌+◌, List, [], ◌∷◌, ◌++◌, take, drop, sym, ◌∙◌, ap}
use Rattle.std.proofs.Math.Seq.{take-add}
use Rattle.std.specs.Iterator.{Yields}
use Rattle.lines.specs.declared.scan.Word.{Word}
use Rattle.lines.specs.declared.scan.Words.{Words}
use Rattle.lines.specs.Words.{line_of, words_steps}

-- what stands before a part, and the part
pub cut_in_two : (n m : ℕ) (l : List ℕ) → take n l ++ take m (drop n l) ≡ take (n + m) l
cut_in_two n m l = sym (take-add n m l)

-- however many words are taken, the line stays
pub line_stays : (s : Words) (xs : List Word) (t : Words) → Yields words_steps s xs t → line_of t ≡ line_of s
line_stays s [] t e = ap line_of (sym e)
line_stays s (x ∷ xs) t (j, step, rest) = line_stays j xs t rest ∙ step.0
