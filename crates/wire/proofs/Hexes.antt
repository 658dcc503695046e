-- Hexadecimal text: how long it is, what stands where, and that it writes one list of bytes.
use Rattle.std.proofs.Common.{◌≡◌, ℕ, zero, suc, ◌+◌, ◌*◌, ◌/◌, ◌%◌, ◌<◌, ◌≤◌, List, [], ◌∷◌, ◌++◌, length, get_or, take, set, sym, refl, ap, ◌∙◌, subst, inl, inr, append_assoc, arith}
use Rattle.std.specs.Simd.{first_chunks}
use Rattle.std.proofs.lemmas.List.{take_more, take_more_set}
use Rattle.std.proofs.lemmas.Bool.{cases_lt, lt-ltb, le-ltb}
use Rattle.wire.specs.Bytes.{hex_digit, hexed, Bytes}

pub digit_low : (n : ℕ) → n < 10 → hex_digit n ≡ 48 + n
digit_low n h = rw (lt-ltb n 10 h)

pub digit_high : (n : ℕ) → 10 ≤ n → hex_digit n ≡ 87 + n
digit_high n h = rw (le-ltb n 10 h)

-- a digit has one value
digit_one : (m n : ℕ) → hex_digit m ≡ hex_digit n → m ≡ n
digit_one m n e = elim (cases_lt m 10) [
  | inl l ↦ elim (cases_lt n 10) [ inl k ↦ omega (arith, digit_low m l, digit_low n k) | inr k ↦ omega (arith, digit_low m l, digit_high n k) ]
  | inr l ↦ elim (cases_lt n 10) [ inl k ↦ omega (arith, digit_high m l, digit_low n k) | inr k ↦ omega (arith, digit_high m l, digit_high n k) ]
]

pub hexed_length : (bs : List ℕ) → length (hexed bs) ≡ 2 * length bs
hexed_length [] = refl
hexed_length (b ∷ bs) = let e = hexed_length bs in omega arith

pub hexed_append : (xs bs : List ℕ) → hexed (xs ++ bs) ≡ hexed xs ++ hexed bs
hexed_append [] bs = refl
hexed_append (x ∷ xs) bs = ap (λ (ys : List ℕ). hex_digit (x / 16) ∷ (hex_digit (x % 16) ∷ ys)) (hexed_append xs bs)

pub hexed_one : (xs bs : List ℕ) → hexed xs ≡ hexed bs → xs ≡ bs
hexed_one [] [] e = refl
hexed_one [] (b ∷ bs) e = cc
hexed_one (x ∷ xs) [] e = cc
hexed_one (x ∷ xs) (b ∷ bs) e =
    let p : hex_digit (x / 16) ≡ hex_digit (b / 16) = cc in
    let q : hex_digit (x % 16) ≡ hex_digit (b % 16) = cc in
    let r : hexed xs ≡ hexed bs = cc in
    let s = digit_one (x / 16) (b / 16) p in
    let t = digit_one (x % 16) (b % 16) q in
    let same : x ≡ b = omega arith in
    let rest = hexed_one xs bs r in
    cc

-- the two digits of the byte at place i
pub high_at : (bs : List ℕ) (i : ℕ) → i < length bs → get_or (hexed bs) (2 * i) 0 ≡ hex_digit (get_or bs i 0 / 16)
high_at [] i h = absurd (omega arith)
high_at (b ∷ bs) zero h = refl
high_at (b ∷ bs) (suc i) h =
    let e : 2 * suc i ≡ suc (suc (2 * i)) = omega arith in
    ap (λ (k : ℕ). get_or (hexed (b ∷ bs)) k 0) e ∙ high_at bs i (omega arith)

pub low_at : (bs : List ℕ) (i : ℕ) → i < length bs → get_or (hexed bs) (2 * i + 1) 0 ≡ hex_digit (get_or bs i 0 % 16)
low_at [] i h = absurd (omega arith)
low_at (b ∷ bs) zero h = refl
low_at (b ∷ bs) (suc i) h =
    let e : 2 * suc i + 1 ≡ suc (suc (2 * i + 1)) = omega arith in
    ap (λ (k : ℕ). get_or (hexed (b ∷ bs)) k 0) e ∙ low_at bs i (omega arith)

-- two more characters of a line
two_more : (line : List ℕ) (i : ℕ) → 2 * i + 1 < length line → take (2 * (i + 1)) line ≡ take (2 * i) line ++ (get_or line (2 * i) 0 ∷ (get_or line (2 * i + 1) 0 ∷ []))
two_more line i h =
    let e : 2 * (i + 1) ≡ (2 * i + 1) + 1 = omega arith in
    ap (λ (k : ℕ). take k line) e ∙ take_more line (2 * i + 1) 0 h ∙ ap (λ (xs : List ℕ). xs ++ (get_or line (2 * i + 1) 0 ∷ [])) (take_more line (2 * i) 0 (omega arith)) ∙ simp append_assoc

pub bytes_at : (bs : List ℕ) → Bytes bs → (k : ℕ) → get_or bs k 0 < 256
bytes_at [] t k = omega arith
bytes_at (b ∷ bs) t zero = t.0
bytes_at (b ∷ bs) t (suc k) = bytes_at bs t.1 k

pub bytes_append : (xs ys : List ℕ) → Bytes xs → Bytes ys → Bytes (xs ++ ys)
bytes_append [] ys h t = t
bytes_append (x ∷ xs) ys h t = (h.0, bytes_append xs ys h.1 t)

-- two digits are one more byte of those that a line writes
digits_more : (bytes line : List ℕ) (i h l : ℕ) → l < 16 → 2 * i + 1 < length line → hex_digit h ≡ get_or line (2 * i) 0 → hex_digit l ≡ get_or line (2 * i + 1) 0 → hexed bytes ≡ take (2 * i) line
    → hexed (bytes ++ ((h * 16 + l) ∷ [])) ≡ take (2 * (i + 1)) line
digits_more bytes line i h l low within p q e =
    let a : (h * 16 + l) / 16 ≡ h = omega arith in
    let b : (h * 16 + l) % 16 ≡ l = omega arith in
    let two = two_more line i within in
    let joined = hexed_append bytes ((h * 16 + l) ∷ []) in
    let x = ap hex_digit a in
    let y = ap hex_digit b in
    cc

-- one more byte, of two digits, in its place
module _ (bytes line : List ℕ) (i h l : ℕ) (room : i < length bytes) (high : h < 16) (low : l < 16) where
  pub bytes_more : Bytes (take i bytes) → Bytes (take (i + 1) (set bytes i (h * 16 + l)))
  bytes_more t = subst (λ (xs : List ℕ). Bytes xs) (sym (take_more_set bytes i (h * 16 + l) room)) (bytes_append (take i bytes) ((h * 16 + l) ∷ []) t (omega arith, tt))

  pub hexed_more_at : 2 * i + 1 < length line → hex_digit h ≡ get_or line (2 * i) 0 → hex_digit l ≡ get_or line (2 * i + 1) 0 → hexed (take i bytes) ≡ take (2 * i) line → hexed (take (i + 1) (set bytes i (h * 16 + l))) ≡ take (2 * (i + 1)) line
  hexed_more_at within p q e = ap hexed (take_more_set bytes i (h * 16 + l) room) ∙ digits_more (take i bytes) line i h l low within p q e

-- text that is no bytes: too long, of odd length, or with a character that is no digit
pub too_long : (bs line : List ℕ) (n : ℕ) → hexed bs ≡ line → length bs ≤ n → length line ≤ 2 * n
too_long bs line n e h = omega (arith, ap length e, hexed_length bs)

pub is_even : (bs line : List ℕ) → hexed bs ≡ line → length line ≡ 2 * length bs
is_even bs line e = ap length (sym e) ∙ hexed_length bs

pub high_digit_at : (bs line : List ℕ) (i : ℕ) → Bytes bs → hexed bs ≡ line → 2 * i + 1 < length line → (n : ℕ) × (n < 16) × (hex_digit n ≡ get_or line (2 * i) 0)
high_digit_at bs line i b e h =
    let k : i < length bs = omega (arith, is_even bs line e) in
    let s = bytes_at bs b i in
    (get_or bs i 0 / 16, omega arith, sym (high_at bs i k) ∙ ap (λ (xs : List ℕ). get_or xs (2 * i) 0) e)

pub low_digit_at : (bs line : List ℕ) (i : ℕ) → hexed bs ≡ line → 2 * i + 1 < length line → (n : ℕ) × (n < 16) × (hex_digit n ≡ get_or line (2 * i + 1) 0)
low_digit_at bs line i e h =
    let k : i < length bs = omega (arith, is_even bs line e) in
    (get_or bs i 0 % 16, omega arith, sym (low_at bs i k) ∙ ap (λ (xs : List ℕ). get_or xs (2 * i + 1) 0) e)

-- character j of pair i of a line
pair_char : (line : List ℕ) (n i j : ℕ) → n * 2 ≤ length line → i < n → j < 2 → get_or (get_or (first_chunks 2 n line) i []) j 0 ≡ get_or line (2 * i + j) 0
pair_char line zero i j h k l = absurd (omega arith)
pair_char [] (suc n) i j h k l = absurd (omega arith)
pair_char (a ∷ []) (suc n) i j h k l = absurd (omega arith)
pair_char (a ∷ (b ∷ xs)) (suc n) zero zero h k l = refl
pair_char (a ∷ (b ∷ xs)) (suc n) zero (suc zero) h k l = refl
pair_char (a ∷ (b ∷ xs)) (suc n) zero (suc (suc j)) h k l = absurd (omega arith)
pair_char (a ∷ (b ∷ xs)) (suc n) (suc i) j h k l =
    let e : 2 * suc i + j ≡ suc (suc (2 * i + j)) = omega arith in
    pair_char xs n i j (omega arith) (omega arith) l ∙ sym (ap (λ (m : ℕ). get_or (a ∷ (b ∷ xs)) m 0) e)

-- pair i of a line that is cut into pairs
module _ (line : List ℕ) (pairs : List (List ℕ)) (i : ℕ) (cut : pairs ≡ first_chunks 2 (length line / 2) line) (within : i < length line / 2) where
  at : (j k : ℕ) → j < 2 → 2 * i + j ≡ k → get_or (get_or pairs i []) j 0 ≡ get_or line k 0
  at j k h e = ap (λ (ps : List (List ℕ)). get_or (get_or ps i []) j 0) cut ∙ pair_char line (length line / 2) i j (omega arith) within h ∙ ap (λ (m : ℕ). get_or line m 0) e

  -- both are digits where the line writes bytes
  pub high_digit : (bs : List ℕ) → Bytes bs → hexed bs ≡ line → (n : ℕ) × (n < 16) × (hex_digit n ≡ get_or (get_or pairs i []) 0 0)
  high_digit bs b e =
      let d = high_digit_at bs line i b e (omega arith) in
      (d.0, d.1, d.2 ∙ sym (at 0 (2 * i) (omega arith) (omega arith)))

  pub low_digit : (bs : List ℕ) → hexed bs ≡ line → (n : ℕ) × (n < 16) × (hex_digit n ≡ get_or (get_or pairs i []) 1 0)
  low_digit bs e =
      let d = low_digit_at bs line i e (omega arith) in
      (d.0, d.1, d.2 ∙ sym (at 1 (2 * i + 1) (omega arith) (omega arith)))

  -- two digits are one more byte
  pub hexed_more : (bytes : List ℕ) (h l : ℕ) → l < 16 → hex_digit h ≡ get_or (get_or pairs i []) 0 0 → hex_digit l ≡ get_or (get_or pairs i []) 1 0 → hexed bytes ≡ take (2 * i) line
      → hexed (bytes ++ ((h * 16 + l) ∷ [])) ≡ take (2 * (i + 1)) line
  hexed_more bytes h l low p q e =
      digits_more bytes line i h l low (omega arith) (p ∙ at 0 (2 * i) (omega arith) (omega arith)) (q ∙ at 1 (2 * i + 1) (omega arith) (omega arith)) e

-- one text after another
pub joined : (e f g xs ys : List ℕ) → f ≡ e ++ hexed xs → g ≡ f ++ hexed ys → g ≡ e ++ hexed (xs ++ ys)
joined e f g xs ys p q = q ∙ ap (λ (zs : List ℕ). zs ++ hexed ys) p ∙ append_assoc e (hexed xs) (hexed ys) ∙ ap (λ (zs : List ℕ). e ++ zs) (sym (hexed_append xs ys))

-- the bytes up to place i, and one more
pub written_more : (e f g bs : List ℕ) (i : ℕ) → i < length bs → f ≡ e ++ hexed (take i bs) → g ≡ f ++ hexed (get_or bs i 0 ∷ []) → g ≡ e ++ hexed (take (i + 1) bs)
written_more e f g bs i h p q = joined e f g (take i bs) (get_or bs i 0 ∷ []) p q ∙ ap (λ (zs : List ℕ). e ++ hexed zs) (sym (take_more bs i 0 h))

pub closed : (e f g t u : List ℕ) → f ≡ e ++ t → g ≡ f ++ u → g ≡ e ++ (t ++ u)
closed e f g t u p q = q ∙ ap (λ (zs : List ℕ). zs ++ u) p ∙ append_assoc e t u
