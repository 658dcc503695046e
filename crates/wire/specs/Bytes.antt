-- Numbers as bytes, the highest first, and bytes as hexadecimal text.
use Rattle.std.specs.Prelude.{ℕ, ◌+◌, ◌/◌, ◌%◌, ◌<◌, cond, List, [], ◌∷◌, nat_lt}
use Rattle.std.specs.Int.{bytes_high_first}

-- the last k bytes of n, the highest first
abbrev pub big_endian : ℕ → ℕ → List ℕ
big_endian = bytes_high_first

-- each of the numbers is a byte
abbrev pub Bytes : List ℕ → Type 0
Bytes [] = Unit {0}
Bytes (b ∷ bs) = (b < 256) × Bytes bs

-- the digit of a number from 0 to 15: '0' to '9', then 'a' to 'f'
abbrev pub hex_digit : ℕ → ℕ
hex_digit n = cond (nat_lt n 10) (48 + n) (87 + n)

-- bytes as text, two digits a byte
abbrev pub hexed : List ℕ → List ℕ
hexed [] = []
hexed (b ∷ bs) = hex_digit (b / 16) ∷ (hex_digit (b % 16) ∷ hexed bs)

abbrev pub line_feed : ℕ
line_feed = 10
