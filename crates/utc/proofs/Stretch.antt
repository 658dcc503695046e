-- A window of l smeared seconds that lasts w seconds of TAI, and what follows it: what stands e after its opening by smeared time, read as ticks after its opening by TAI, and back.
use Rattle.std.proofs.Common.{◌≡◌, ℕ, ◌+◌, ◌-◌, ◌*◌, ◌/◌, ◌<◌, ◌≤◌, cond, ltb, inl, inr, sym, ap, ◌∙◌, add-mul, mul-add, mul_comm, mul_assoc, one-mul, zero-mul, mul-le-mul_left, mul-le-mul_right, mul-lt-mul_of_pos_right, le-div_iff_mul-le, div-lt_iff_lt-mul, div-mul-le_self, le_of_mul-le-mul_right, arith}
use Rattle.std.proofs.Math.Nat.{mul-sub, lt-div-mul-add}
use Rattle.std.proofs.lemmas.Bool.{cases_lt, lt-ltb, le-ltb}
use Rattle.clocks.specs.Counts.{second}
use Rattle.clocks.specs.Stamps.{up}
use Rattle.utc.proofs.Cells.{Climbs, climb_on}

-- a quotient rounded up is at most y exactly if y times the divisor reaches
pub up_le : (x k y : ℕ) → 0 < k → (up x k ≤ y → x ≤ y * k) × (x ≤ y * k → up x k ≤ y)
up_le x k y h =
    let e : (y + 1) * k ≡ y * k + k = add-mul y 1 k ∙ ap (λ (z : ℕ). y * k + z) (one-mul k) in
    let d = div-lt_iff_lt-mul {k = k} {x = x + (k - 1)} {y = y + 1} h in
    (λ g. let m = d.0 (omega arith) in omega arith, λ g. let m = d.1 (omega arith) in omega arith)

pub up_reaches : (x k : ℕ) → 0 < k → x ≤ up x k * k
up_reaches x k h = (up_le x k (up x k) h).0 (omega arith)

up_near : (x k : ℕ) → up x k * k ≤ x + (k - 1)
up_near x k = div-mul-le_self (x + (k - 1)) k

abbrev pub stretched : (l w e : ℕ) → ℕ
stretched l w e = cond (ltb e (l * second)) (up (e * w) l) (e + w * second - l * second)

abbrev pub shrunk : (l w n : ℕ) → ℕ
shrunk l w n = cond (ltb n (w * second)) (n * l / w) (n + l * second - w * second)

-- l times the stretch, not rounded
abbrev pub scaled : (l w e : ℕ) → ℕ
scaled l w e = cond (ltb e (l * second)) (e * w) ((e + w * second - l * second) * l)

pub in_stretched : (l w e : ℕ) → e < l * second → stretched l w e ≡ up (e * w) l
in_stretched l w e h = rw (lt-ltb e (l * second) h)

pub out_stretched : (l w e : ℕ) → l * second ≤ e → stretched l w e ≡ e + w * second - l * second
out_stretched l w e h = rw (le-ltb e (l * second) h)

pub in_shrunk : (l w n : ℕ) → n < w * second → shrunk l w n ≡ n * l / w
in_shrunk l w n h = rw (lt-ltb n (w * second) h)

pub out_shrunk : (l w n : ℕ) → w * second ≤ n → shrunk l w n ≡ n + l * second - w * second
out_shrunk l w n h = rw (le-ltb n (w * second) h)

in_scaled : (l w e : ℕ) → e < l * second → scaled l w e ≡ e * w
in_scaled l w e h = rw (lt-ltb e (l * second) h)

pub out_scaled : (l w e : ℕ) → l * second ≤ e → scaled l w e ≡ (e + w * second - l * second) * l
out_scaled l w e h = rw (le-ltb e (l * second) h)

-- the window's end, by either side
cross : (l w : ℕ) → l * second * w ≡ w * second * l
cross l w = mul_comm (l * second) w ∙ sym (mul_assoc w l second) ∙ ap (λ (z : ℕ). z * second) (mul_comm w l) ∙ mul_assoc l w second ∙ mul_comm l (w * second)

-- a slope climbs by at most what a steeper one does
slope : (w k e d : ℕ) → w ≤ k → e ≤ d → Climbs k e (e * w) d (d * w)
slope w k e d h g =
    let a : (d - e) * w ≤ (d - e) * k = mul-le-mul_left (d - e) h in
    let b : w * (d - e) ≡ w * d - w * e = mul-sub w d e in
    let c : k * (d - e) ≡ k * d - k * e = mul-sub k d e in
    let b1 = mul_comm w (d - e) in
    let b2 = mul_comm w d in
    let b3 = mul_comm w e in
    let c1 = mul_comm k (d - e) in
    let m1 : w * e ≤ w * d = mul-le-mul_left w g in
    let m2 : k * e ≤ k * d = mul-le-mul_left k g in
    record { by = omega arith }

pub stretch_zero : (l w : ℕ) → 0 < l → stretched l w 0 ≡ 0
stretch_zero l w pl =
    let e = in_stretched l w 0 (omega arith) in
    let z = zero-mul w in
    let y = zero-mul l in
    let a = (up_le (0 * w) l 0 pl).1 (omega arith) in
    omega arith

pub scaled_zero : (l w : ℕ) → 0 < l → scaled l w 0 ≡ 0
scaled_zero l w pl = let e = in_scaled l w 0 (omega arith) in let z = zero-mul w in omega arith

-- a window that stretches nothing
pub stretch_flat : (l e : ℕ) → 0 < l → stretched l l e ≡ e
stretch_flat l e pl = elim (cases_lt e (l * second)) [
  | inl h ↦
      let a = (up_le (e * l) l e pl).1 (omega arith) in
      let b = le_of_mul-le-mul_right (up_reaches (e * l) l pl) pl in
      rw (in_stretched l l e h) (omega arith)
  | inr h ↦ rw (out_stretched l l e h) (omega arith)
]

module _ (l w : ℕ) (pl : 0 < l) (pw : 0 < w) where
  -- inside the window, by either side
  shrunk_inside : (n : ℕ) → n < w * second → n * l / w < l * second
  shrunk_inside n h =
      let m : n * l < w * second * l = mul-lt-mul_of_pos_right h pl in
      let c = cross l w in
      (div-lt_iff_lt-mul {k = w} {x = n * l} {y = l * second} pw).1 (omega arith)

  pub stretch_meets : (e n : ℕ) → (stretched l w e ≤ n → e ≤ shrunk l w n) × (e ≤ shrunk l w n → stretched l w e ≤ n)
  stretch_meets e n =
      let c = cross l w in
      elim (cases_lt e (l * second)) [
        | inl h ↦ elim (cases_lt n (w * second)) [
          | inl g ↦
              rw (in_stretched l w e h, in_shrunk l w n g) (
                λ q. (le-div_iff_mul-le {k = w} {x = e} {y = n * l} pw).1 ((up_le (e * w) l n pl).0 q),
                λ q. (up_le (e * w) l n pl).1 ((le-div_iff_mul-le {k = w} {x = e} {y = n * l} pw).0 q),
              )
          | inr g ↦
              rw (in_stretched l w e h, out_shrunk l w n g) (
                λ q. omega arith,
                λ q.
                    let a : e * w ≤ l * second * w = mul-le-mul_right w (omega arith) in
                    let b : w * second * l ≤ n * l = mul-le-mul_right l g in
                    (up_le (e * w) l n pl).1 (omega arith),
              )
        ]
        | inr h ↦ elim (cases_lt n (w * second)) [
          | inl g ↦
              rw (out_stretched l w e h, in_shrunk l w n g)
              (λ q. let no : ⊥ = omega arith in absurd no, λ q. let a = shrunk_inside n g in let no : ⊥ = omega arith in absurd no)
          | inr g ↦ rw (out_stretched l w e h, out_shrunk l w n g) (λ q. omega arith, λ q. omega arith)
        ]
      ]

  pub stretch_rises : (e d : ℕ) → e ≤ d → stretched l w e ≤ stretched l w d
  stretch_rises e d h =
      let a = (stretch_meets d (stretched l w d)).0 (omega arith) in
      (stretch_meets e (stretched l w d)).1 (omega arith)

  pub stretch_ends : (e d : ℕ) → l * second ≤ d → e < d → stretched l w e ≤ d + w * second - l * second
  stretch_ends e d h g = elim (cases_lt e (l * second)) [
    | inl k ↦
        let a : e * w ≤ l * second * w = mul-le-mul_right w (omega arith) in
        let c = cross l w in
        let b = (up_le (e * w) l (w * second) pl).1 (omega arith) in
        rw (in_stretched l w e k) (omega arith)
    | inr k ↦ rw (out_stretched l w e k) (omega arith)
  ]

  pub shrink_ends : (n d : ℕ) → l * second ≤ d → n < d + w * second - l * second → shrunk l w n < d
  shrink_ends n d h g = elim (cases_lt n (w * second)) [
    | inl k ↦ let a = shrunk_inside n k in rw (in_shrunk l w n k) (omega arith)
    | inr k ↦ rw (out_shrunk l w n k) (omega arith)
  ]

  loss_inside : (n : ℕ) → w ≤ l + l → n < w * second → n ≤ up (n * l / w * w) l + 1
  loss_inside n h k =
      let v : ℕ = up (n * l / w * w) l in
      elim (cases_lt (v + 1) n) [
        | inr g ↦ g
        | inl g ↦
            let a : n * l / w * w ≤ v * l = up_reaches (n * l / w * w) l pl in
            let b : n * l < n * l / w * w + w = lt-div-mul-add {a = n * l} {b = w} pw in
            let c : (v + 2) * l ≤ n * l = mul-le-mul_right l (omega arith) in
            let e : (v + 2) * l ≡ v * l + 2 * l = add-mul v 2 l in
            let no : ⊥ = omega arith in
            absurd no
      ]

  pub stretch_loss : (n : ℕ) → w ≤ l + l → n ≤ stretched l w (shrunk l w n) + 1
  stretch_loss n h = elim (cases_lt n (w * second)) [
    | inl k ↦ rw (in_shrunk l w n k, in_stretched l w (n * l / w) (shrunk_inside n k)) (loss_inside n h k)
    | inr k ↦ rw (out_shrunk l w n k, out_stretched l w (n + l * second - w * second) (omega arith)) (omega arith)
  ]

  pub scaled_near : (e : ℕ) → (scaled l w e ≤ l * stretched l w e) × (l * stretched l w e ≤ scaled l w e + (l - 1))
  scaled_near e = elim (cases_lt e (l * second)) [
    | inl h ↦
        let a = up_reaches (e * w) l pl in
        let b = up_near (e * w) l in
        let c = mul_comm l (up (e * w) l) in
        rw (in_stretched l w e h, in_scaled l w e h) (omega arith, omega arith)
    | inr h ↦
        let c = mul_comm l (e + w * second - l * second) in
        rw (out_stretched l w e h, out_scaled l w e h) (omega arith, omega arith)
  ]

  refill : (e : ℕ) → l * second ≤ e → (e + w * second - l * second) + l * second ≡ e + w * second
  refill e h = omega arith

  after : (k e d : ℕ) → l ≤ k → l * second ≤ e → e ≤ d → Climbs k e ((e + w * second - l * second) * l) d ((d + w * second - l * second) * l)
  after k e d hl a h =
      let c = (slope l k (e + w * second - l * second) (d + w * second - l * second) hl (omega arith)).by in
      let e1 = mul-add k (e + w * second - l * second) (l * second) in
      let e2 = mul-add k (d + w * second - l * second) (l * second) in
      let f1 = ap (λ (z : ℕ). k * z) (refill e a) in
      let f2 = ap (λ (z : ℕ). k * z) (refill d (omega arith)) in
      let g1 = mul-add k e (w * second) in
      let g2 = mul-add k d (w * second) in
      record { by = omega arith }

  left_over : (a b : ℕ) → a + b - a ≡ b
  left_over a b = omega arith

  at_end : (l * second + w * second - l * second) * l ≡ l * second * w
  at_end = ap (λ (z : ℕ). z * l) (left_over (l * second) (w * second)) ∙ sym (cross l w)

  to_end : (k e : ℕ) → w ≤ k → e < l * second → Climbs k e (e * w) (l * second) ((l * second + w * second - l * second) * l)
  to_end k e h a = rw at_end (slope w k e (l * second) h (omega arith))

  pub scaled_climbs : (k e d : ℕ) → w ≤ k → l ≤ k → e ≤ d → Climbs k e (scaled l w e) d (scaled l w d)
  scaled_climbs k e d hw hl h = elim (cases_lt d (l * second)) [
    | inl b ↦ let a : e < l * second = omega arith in rw (in_scaled l w e a, in_scaled l w d b) (slope w k e d hw h)
    | inr b ↦ elim (cases_lt e (l * second)) [
      | inl a ↦ rw (in_scaled l w e a, out_scaled l w d b) (climb_on (to_end k e hw a) (after k (l * second) d hl (omega arith) b))
      | inr a ↦ rw (out_scaled l w e a, out_scaled l w d b) (after k e d hl a h)
    ]
  ]

-- the spread of n counts that are read at most k / l apart, rounded
pub spread_by : (l st x y r s : ℕ) → 0 < l → r ≤ s → l * y + (l + st) * r ≤ l * x + (l - 1) + (l + st) * s → y ≤ x + ((s - r) + up (st * (s - r)) l)
spread_by l st x y r s pl h g =
    let n : ℕ = s - r in
    let u : ℕ = up (st * n) l in
    let refilled : s ≡ r + n = omega arith in
    let a : (l + st) * s ≡ (l + st) * r + (l + st) * n = ap (λ (z : ℕ). (l + st) * z) refilled ∙ mul-add (l + st) r n in
    let b : (l + st) * n ≡ l * n + st * n = add-mul l st n in
    let c : st * n ≤ u * l = up_reaches (st * n) l pl in
    let d = mul_comm l u in
    let e : l * (x + (n + u)) ≡ l * x + (l * n + l * u) = mul-add l x (n + u) ∙ ap (λ (z : ℕ). l * x + z) (mul-add l n u) in
    elim (cases_lt (x + (n + u)) y) [
      | inr k ↦ k
      | inl k ↦
          let m : l * (x + (n + u) + 1) ≤ l * y = mul-le-mul_left l (omega arith) in
          let o : l * (x + (n + u) + 1) ≡ l * (x + (n + u)) + l * 1 = mul-add l (x + (n + u)) 1 in
          let no : ⊥ = omega arith in
          absurd no
    ]

-- which grows
pub spread_up : (l st n k : ℕ) → 0 < l → n ≤ k → n + up (st * n) l ≤ k + up (st * k) l
spread_up l st n k pl h =
    let a = up_reaches (st * k) l pl in
    let m : st * n ≤ st * k = mul-le-mul_left st h in
    let b = (up_le (st * n) l (up (st * k) l) pl).1 (omega arith) in
    omega arith
