-- The words of a line: what they are words of, and what a call of `next` says.
use Rattle.std.specs.Prelude.{◌≡◌, ℕ, ◌≤◌, List, ◌++◌, Option, MatchOption, length, take}
use Rattle.lines.specs.declared.scan.Word.{Word}
use Rattle.lines.specs.declared.scan.Words.{Words}

-- the line
abbrev pub line_of : Words → List ℕ
line_of words = words.line.now

-- how far the line has been read
abbrev pub read_of : Words → ℕ
read_of words = words.at

-- the line stays; a word comes after what was read, and what stands before it and the word are all that has been read then
abbrev pub words_steps : Words → Option Word → Words → Type 0
words_steps s r t =
    (line_of t ≡ line_of s)
    × MatchOption r (read_of t ≡ read_of s)
    (λ word. (read_of s ≤ length word.before.now) × (word.before.now ++ word.bytes.now ≡ take (read_of t) (line_of s)))
