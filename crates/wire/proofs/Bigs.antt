-- Numbers as bytes, the highest first, there and back.
use Rattle.std.proofs.Common.{◌≡◌, ℕ, zero, suc, ◌/◌, ◌%◌, ◌^◌, ◌<◌, List, [], ◌∷◌, ◌++◌, length, sym, refl, ap, ◌∙◌, pow-suc, arith}
use Rattle.std.proofs.Math.Nat.{div-div-eq-div-mul, pow-succ'}
use Rattle.std.specs.Int.{byte_at}
use Rattle.std.specs.Int.Digits.{number_from_digits}
use Rattle.std.proofs.lemmas.Int.Digits.{number_push}
use Rattle.std.proofs.lemmas.Nat.{be_bytes_2, be_bytes_4, be_bytes_8, from_be_bytes-to_be_bytes_2, from_be_bytes-to_be_bytes_4, from_be_bytes-to_be_bytes_8}
use Rattle.wire.specs.Bytes.{big_endian, Bytes}
use Rattle.wire.specs.Decoder.{pair_at, quad_at, eight_at}
use Rattle.wire.proofs.Hexes.{bytes_at}

pub bytes_big : (k n : ℕ) → Bytes (big_endian k n)
bytes_big zero n = tt
bytes_big (suc k) n = (small k, bytes_big k n)
  where
    small : (i : ℕ) → byte_at i n < 256
    small zero = omega arith
    small (suc i) = omega arith

-- the last byte of n comes after the bytes of n / 256
pub big_endian_more : (k n : ℕ) → big_endian (suc k) n ≡ big_endian k (n / 256) ++ (n % 256 ∷ [])
big_endian_more zero n = refl
big_endian_more (suc k) n = ap (λ (b : ℕ). b ∷ big_endian (suc k) n) (higher k) ∙ ap (λ (bs : List ℕ). byte_at k (n / 256) ∷ bs) (big_endian_more k n)
  where
    higher : (i : ℕ) → byte_at (suc i) n ≡ byte_at i (n / 256)
    higher zero = refl
    higher (suc i) = ap (λ (d : ℕ). n / d % 256) (pow-succ' 256 (suc i)) ∙ ap (λ (q : ℕ). q % 256) (sym (div-div-eq-div-mul n 256 (256 ^ suc i)))

-- a number below 256 to the k is written by its k bytes
pub number_big : (k n : ℕ) → n < 256 ^ k → number_from_digits 256 (big_endian k n) ≡ n
number_big zero n h = omega arith
number_big (suc k) n h =
    let e : number_from_digits 256 (big_endian k (n / 256)) ≡ n / 256 = number_big k (n / 256) (omega (arith, pow-suc 256 k)) in
    ap (number_from_digits 256) (big_endian_more k n) ∙ number_push 256 (big_endian k (n / 256)) (n % 256) ∙ omega arith

-- the bytes of the number that some bytes write are these bytes
module _ (bs : List ℕ) (bytes : Bytes bs) where
  pub pair_back : length bs ≡ 2 → big_endian 2 (pair_at bs 0) ≡ bs
  pair_back two = be_bytes_2 bs (pair_at bs 0) two (bytes_at bs bytes) refl

  pub quad_back : length bs ≡ 4 → big_endian 4 (quad_at bs 0) ≡ bs
  quad_back four = be_bytes_4 bs (quad_at bs 0) four (bytes_at bs bytes) refl

  pub eight_back : length bs ≡ 8 → big_endian 8 (eight_at bs 0) ≡ bs
  eight_back eight = be_bytes_8 bs (eight_at bs 0) eight (bytes_at bs bytes) (omega arith)

-- a number that fits is what its bytes write
pub pair_there : (n : ℕ) → n < 2 ^ 16 → pair_at (big_endian 2 n) 0 ≡ n
pair_there n h = from_be_bytes-to_be_bytes_2 n h

pub quad_there : (n : ℕ) → n < 2 ^ 32 → quad_at (big_endian 4 n) 0 ≡ n
quad_there n h = from_be_bytes-to_be_bytes_4 n h

pub eight_there : (n : ℕ) → n < 2 ^ 64 → eight_at (big_endian 8 n) 0 ≡ n
eight_there n h = omega (arith, from_be_bytes-to_be_bytes_8 n h)

-- the bytes as the machine takes them
pub two_bytes : (n : ℕ) → n / 256 % 256 ∷ (n % 256 ∷ []) ≡ big_endian 2 n
two_bytes n = refl

pub four_bytes : (n : ℕ) → n / 16777216 % 256 ∷ (n / 65536 % 256 ∷ (n / 256 % 256 ∷ (n % 256 ∷ []))) ≡ big_endian 4 n
four_bytes n = refl

pub eight_bytes : (n : ℕ) → n / 72057594037927936 % 256 ∷ (n / 281474976710656 % 256 ∷ (n / 1099511627776 % 256 ∷ (n / 4294967296 % 256 ∷ (n / 16777216 % 256 ∷ (n / 65536 % 256 ∷ (n / 256 % 256 ∷ (n % 256 ∷ []))))))) ≡ big_endian 8 n
eight_bytes n = refl
