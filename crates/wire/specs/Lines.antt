-- The lines of an input.
use Rattle.std.specs.Prelude.{◌≡◌, ℕ, suc, ◌+◌, ◌<◌, min, cond, List, [], ◌∷◌, ◌++◌, length, take, drop, Some, None, Option, OnSome, ◌==◌, nat_lt}
use Rattle.std.specs.Option.{option_to_list}
use Rattle.wire.specs.Bytes.{line_feed}

-- only so many bytes of an input count
abbrev pub input_limit : ℕ
input_limit = 65536

-- one more byte at the front of the first line
abbrev pub begun_with : ℕ → List (List ℕ) → List (List ℕ)
begun_with x [] = (x ∷ []) ∷ []
begun_with x (l ∷ ls) = (x ∷ l) ∷ ls

-- a line ends at a line feed or, unless it is empty, at the end
abbrev pub lines_of : List ℕ → List (List ℕ)
lines_of [] = []
lines_of (x ∷ xs) = cond (x == line_feed) ([] ∷ lines_of xs) (begun_with x (lines_of xs))

-- the lines that begin at or after a place of the input
abbrev pub lines_from : List ℕ → ℕ → List (List ℕ)
lines_from xs place = lines_of (drop place xs)

-- how many bytes stand before the first line feed
abbrev pub line_length : List ℕ → ℕ
line_length [] = 0
line_length (x ∷ xs) = cond (x == line_feed) 0 (suc (line_length xs))

-- the place past the line at `place` and past its line feed, if it has one
abbrev pub place_after : List ℕ → ℕ → ℕ
place_after xs place = min (length xs) (place + line_length (drop place xs) + 1)

-- the line that begins at a place of the input: none at its end
abbrev pub line_at : List ℕ → ℕ → Option (List ℕ)
line_at xs place = cond (nat_lt place (length xs)) (Some (take (line_length (drop place xs)) (drop place xs))) None

-- a reader at a place of the input reads a line, if one is left, and comes to another place: the lines still to come are those that were, less this one
pub record ReadsLine (xs : List ℕ) (place : ℕ) (line : Option (List ℕ)) (then : ℕ) : Type 0 where
  pub which : line ≡ line_at xs place
  pub moves : then ≡ place_after xs place
  pub lines_left : lines_of (drop place xs) ≡ option_to_list line ++ lines_of (drop then xs)

-- a call of a reader that reads this line, if one is left, and leaves a reader of the same input at another place
pub record NextLine (xs : List ℕ) (place : ℕ) (line : Option (List ℕ)) (ys : List ℕ) (then : ℕ) : Type 0 where
  pub reads : ReadsLine xs place line then
  pub goes : OnSome line (place < then)
  pub same : ys ≡ xs
