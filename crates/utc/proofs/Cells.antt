-- A map made of rising cells keeps the laws if each cell does, whatever its cells are.
use Rattle.std.proofs.Common.{◌≡◌, ℕ, ◌+◌, ◌-◌, ◌*◌, ◌<◌, ◌≤◌, inl, inr, sym, refl, ap, ◌∙◌, subst, mul-add, add-one, arith}
use Rattle.std.proofs.Math.Decide.{le_ind}
use Rattle.std.proofs.lemmas.Bool.{cases_order}

pub record CellMap : Type 0 where
  -- the own count, and the count below, that cell i begins with
  pub own : ℕ → ℕ
  pub low : ℕ → ℕ
  -- so many of its own counts are read
  pub stands : ℕ → ℕ
  -- what stands e after the cell's beginning is read, and is shown, as what stands so far after it
  pub reads : ℕ → ℕ → ℕ
  pub shows : ℕ → ℕ → ℕ

-- own count r is read as x
pub record ReadIn (m : CellMap) (r x : ℕ) : Type 0 where
  pub cell : ℕ
  pub e : ℕ
  pub at : r ≡ m.own cell + e
  pub inside : e < m.stands cell
  pub is : x ≡ m.low cell + m.reads cell e

-- count n is shown as s
pub record ShownIn (m : CellMap) (n s : ℕ) : Type 0 where
  pub cell : ℕ
  pub e : ℕ
  pub at : n ≡ m.low cell + e
  pub inside : n < m.low (cell + 1)
  pub is : s ≡ m.own cell + m.shows cell e

-- h climbs by at most k to a step of one: hy - hx ≤ k * (y - x), said without subtraction
pub record Climbs (k x hx y hy : ℕ) : Type 0 where
  pub by : hy + k * x ≤ hx + k * y

-- what a cell has to keep. exact e is q times the reading of e before it is rounded up, and climbs by at most k to a step
pub record LawfulCell (m : CellMap) (q k loss : ℕ) (exact : ℕ → ℕ) (i : ℕ) : Type 0 where
  pub some : 0 < m.stands i
  pub room : m.own i + m.stands i ≤ m.own (i + 1)
  pub onward : m.low i ≤ m.low (i + 1)
  pub reads_inside : (e : ℕ) → e < m.stands i → m.low i + m.reads i e ≤ m.low (i + 1)
  pub shows_inside : (n : ℕ) → m.low i + n < m.low (i + 1) → m.shows i n < m.stands i
  pub meets : (e n : ℕ) → e < m.stands i → m.low i + n < m.low (i + 1) → (m.reads i e ≤ n → e ≤ m.shows i n) × (e ≤ m.shows i n → m.reads i e ≤ n)
  pub rises : (e d : ℕ) → e ≤ d → d < m.stands i → m.reads i e ≤ m.reads i d
  pub near : (n : ℕ) → m.low i + n < m.low (i + 1) → n ≤ m.reads i (m.shows i n) + loss
  pub starts : exact 0 ≡ 0
  pub rounds : (e : ℕ) → e < m.stands i → (exact e ≤ q * m.reads i e) × (q * m.reads i e ≤ exact e + (q - 1))
  pub climbs : (e d : ℕ) → e ≤ d → d < m.stands i → Climbs k e (exact e) d (exact d)
  pub climbs_out : (e : ℕ) → e < m.stands i → Climbs k (m.own i + e) (q * m.low i + exact e) (m.own (i + 1)) (q * m.low (i + 1))

-- what the map then keeps
pub record LawfulCells (m : CellMap) (q k loss : ℕ) : Type 0 where
  pub rise : {r s x y : ℕ} → ReadIn m r x → ReadIn m s y → r ≤ s → x ≤ y
  pub meet : {r x n s : ℕ} → ReadIn m r x → ShownIn m n s → (x ≤ n → r ≤ s) × (r ≤ s → x ≤ n)
  pub back : {n s : ℕ} → ShownIn m n s → (x : ℕ) × ReadIn m s x
  pub near : {n s x : ℕ} → ShownIn m n s → ReadIn m s x → (x ≤ n) × (n ≤ x + loss)
  pub apart : {r s x y : ℕ} → ReadIn m r x → ReadIn m s y → r ≤ s → q * y + k * r ≤ q * x + (q - 1) + k * s

climb_none : (k x hx : ℕ) → Climbs k x hx x hx
climb_none k x hx = record { by = omega arith }

pub climb_on : {k x hx y hy z hz : ℕ} → Climbs k x hx y hy → Climbs k y hy z hz → Climbs k x hx z hz
climb_on p q = record { by = omega arith }

-- both sides moved on
pub climb_moved : (k p q : ℕ) {x hx y hy : ℕ} → Climbs k x hx y hy → Climbs k (p + x) (q + hx) (p + y) (q + hy)
climb_moved k p q {x} {hx} {y} {hy} c = let a = mul-add k p x in let b = mul-add k p y in let g = c.by in record { by = omega arith }

-- what holds at i, and passes from each place to the next, holds from i on
pub from_on : (P : ℕ → Type 0) (i j : ℕ) → i ≤ j → P i → ((j : ℕ) → P j → P (j + 1)) → P j
from_on P i j h p step = le_ind P p (λ k _ c. subst P (add-one k) (step k c)) j h

module _ (m : CellMap) (q k loss : ℕ) (exact : ℕ → ℕ → ℕ) (cells : (i : ℕ) → LawfulCell m q k loss (exact i) i) where
  own_on : (i j : ℕ) → i ≤ j → m.own i ≤ m.own j
  own_on i j h = from_on (λ (z : ℕ). m.own i ≤ m.own z) i j h (omega arith) (λ z p. let r = (cells z).room in omega arith)

  low_on : (i j : ℕ) → i ≤ j → m.low i ≤ m.low j
  low_on i j h = from_on (λ (z : ℕ). m.low i ≤ m.low z) i j h (omega arith) (λ z p. let r = (cells z).onward in omega arith)

  -- a reading said of another name of its cell
  moved : {r x : ℕ} (a : ReadIn m r x) (i : ℕ) → a.cell ≡ i → (r ≡ m.own i + a.e) × (a.e < m.stands i) × (x ≡ m.low i + m.reads i a.e)
  moved {r} {x} a i e = subst (λ (z : ℕ). (r ≡ m.own z + a.e) × (a.e < m.stands z) × (x ≡ m.low z + m.reads z a.e)) e (a.at, a.inside, a.is)

  rise : {r s x y : ℕ} → ReadIn m r x → ReadIn m s y → r ≤ s → x ≤ y
  rise {r} {s} {x} {y} a b h =
      let ca = cells a.cell in
      let cb = cells b.cell in
      elim (cases_order a.cell b.cell) [
        | inl e ↦ let p = moved a b.cell e in let g = cb.rises a.e b.e (omega arith) b.inside in omega (arith, b.is)
        | inr (inl l) ↦ let u = ca.reads_inside a.e a.inside in let o = low_on (a.cell + 1) b.cell (omega arith) in omega (arith, a.is, b.is)
        | inr (inr l) ↦ let o = own_on (b.cell + 1) a.cell (omega arith) in let u = cb.room in let no : ⊥ = omega (arith, a.at, b.at, b.inside) in absurd no
      ]

  meet : {r x n s : ℕ} → ReadIn m r x → ShownIn m n s → (x ≤ n → r ≤ s) × (r ≤ s → x ≤ n)
  meet {r} {x} {n} {s} a b =
      let ca = cells a.cell in
      let cb = cells b.cell in
      let sb : m.low b.cell + b.e < m.low (b.cell + 1) = omega (arith, b.at, b.inside) in
      let ib = cb.shows_inside b.e sb in
      elim (cases_order a.cell b.cell) [
        | inl e ↦
            let p = moved a b.cell e in
            let g = cb.meets a.e b.e p.1 sb in
            (λ h. let f = g.0 (omega (arith, b.at)) in omega (arith, b.is), λ h. let f = g.1 (omega (arith, b.is)) in omega (arith, b.at))
        | inr (inl l) ↦
            let u = ca.reads_inside a.e a.inside in
            let o = low_on (a.cell + 1) b.cell (omega arith) in
            let v = ca.room in
            let w = own_on (a.cell + 1) b.cell (omega arith) in
            (λ h. omega (arith, a.at, a.inside, b.is), λ h. omega (arith, a.is, b.at))
        | inr (inr l) ↦
            let o = own_on (b.cell + 1) a.cell (omega arith) in
            let v = cb.room in
            let w = low_on (b.cell + 1) a.cell (omega arith) in
            (λ h. let no : ⊥ = omega (arith, a.is, b.inside) in absurd no, λ h. let no : ⊥ = omega (arith, a.at, b.is) in absurd no)
      ]

  back : {n s : ℕ} → (b : ShownIn m n s) → ReadIn m s (m.low b.cell + m.reads b.cell (m.shows b.cell b.e))
  back b =
      let c = cells b.cell in
      record { cell = b.cell; e = m.shows b.cell b.e; at = b.is; inside = c.shows_inside b.e (omega (arith, b.at, b.inside)); is = refl }

  near : {n s x : ℕ} → ShownIn m n s → ReadIn m s x → (x ≤ n) × (n ≤ x + loss)
  near {n} {s} {x} b a =
      let c = cells b.cell in
      let g = c.near b.e (omega (arith, b.at, b.inside)) in
      let o = rise (back b) a (omega arith) in
      ((meet a b).1 (omega arith), omega (arith, b.at))

  -- q times a reading, before it is rounded up
  abbrev high : (i e : ℕ) → ℕ
  high i e = q * m.low i + exact i e

  within : {r x : ℕ} (a : ReadIn m r x) → (high a.cell a.e ≤ q * x) × (q * x ≤ high a.cell a.e + (q - 1))
  within {r} {x} a =
      let c = cells a.cell in
      let g = c.rounds a.e a.inside in
      let f : q * x ≡ q * m.low a.cell + q * m.reads a.cell a.e = ap (λ (z : ℕ). q * z) a.is ∙ mul-add q (m.low a.cell) (m.reads a.cell a.e) in
      (omega arith, omega arith)

  from_start : (i e : ℕ) → e < m.stands i → Climbs k (m.own i) (q * m.low i) (m.own i + e) (high i e)
  from_start i e h =
      let c = cells i in
      let g = (climb_moved k (m.own i) (q * m.low i) (c.climbs 0 e (omega arith) h)).by in
      let z = c.starts in
      let n : m.own i + 0 ≡ m.own i = omega arith in
      let f = ap (λ (z : ℕ). k * z) n in
      record { by = omega arith }

  over : (i : ℕ) → Climbs k (m.own i) (q * m.low i) (m.own (i + 1)) (q * m.low (i + 1))
  over i = climb_on (from_start i 0 (cells i).some) ((cells i).climbs_out 0 (cells i).some)

  over_all : (i j : ℕ) → i ≤ j → Climbs k (m.own i) (q * m.low i) (m.own j) (q * m.low j)
  over_all i j h = from_on (λ (z : ℕ). Climbs k (m.own i) (q * m.low i) (m.own z) (q * m.low z)) i j h (climb_none k (m.own i) (q * m.low i)) (λ z c. climb_on c (over z))

  far : {r s x y : ℕ} (a : ReadIn m r x) (b : ReadIn m s y) → r ≤ s → Climbs k (m.own a.cell + a.e) (high a.cell a.e) (m.own b.cell + b.e) (high b.cell b.e)
  far {r} {s} a b h =
      let ca = cells a.cell in
      let cb = cells b.cell in
      elim (cases_order a.cell b.cell) [
        | inl e ↦
            let p = moved a b.cell e in
            let here = climb_moved k (m.own b.cell) (q * m.low b.cell) (cb.climbs a.e b.e (omega (arith, b.at)) b.inside) in
            subst (λ (z : ℕ). Climbs k (m.own z + a.e) (high z a.e) (m.own b.cell + b.e) (high b.cell b.e)) (sym e) here
        | inr (inl l) ↦ climb_on (ca.climbs_out a.e a.inside) (climb_on (over_all (a.cell + 1) b.cell (omega arith)) (from_start b.cell b.e b.inside))
        | inr (inr l) ↦ let o = own_on (b.cell + 1) a.cell (omega arith) in let u = cb.room in let no : ⊥ = omega (arith, a.at, b.at, b.inside) in absurd no
      ]

  apart : {r s x y : ℕ} → ReadIn m r x → ReadIn m s y → r ≤ s → q * y + k * r ≤ q * x + (q - 1) + k * s
  apart a b h =
      let c = (far a b h).by in
      let e = ap (λ (z : ℕ). k * z) a.at in
      let f = ap (λ (z : ℕ). k * z) b.at in
      let u = within a in
      let v = within b in
      omega arith

  pub cells_keep : LawfulCells m q k loss
  cells_keep = record { rise = rise; meet = meet; back = λ b. (_, back b); near = near; apart = apart }
