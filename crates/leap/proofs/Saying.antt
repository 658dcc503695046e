-- The computed test says exactly that a table is sound.
use Rattle.std.proofs.Common.{◌≡◌, ℕ, zero, suc, ◌+◌, ◌-◌, ◌<◌, ◌≤◌, true, ◌&&◌, eqb, leb, List, [], ◌∷◌, length, take, drop, sym, refl, ap, ◌∙◌, subst, add-one, arith}
use Rattle.std.proofs.lemmas.List.{length-take-le, take_all}
use Rattle.std.proofs.lemmas.Bool.{and_parts, and_from, eqb-true, eq-eqb, le-leb, leb-true, false≢true}
use Rattle.calendar.specs.Calendar.{FirstOfMonth, month_first, date_of, take_months}
use Rattle.calendar.proofs.Dates.{month_first_says}
use Rattle.leap.specs.declared.entry.Entry.{Entry}
use Rattle.leap.specs.declared.table.LeapTable.TheInside.{Inside}
use Rattle.leap.specs.Table.{Table, Sound, top_offset, most_entries, table_end, first_entry_day, first_entry_offset, at}
use Rattle.leap.specs.Test.{first_entry, chain, in_order, sound}
use Rattle.leap.specs.Held.{shown, Held}
use Rattle.leap.specs.Parts.{table_from}
use Rattle.leap.proofs.Chain.{Next, Follow, newest, chain_says, chain_passes, newest_at, newest_in_time, pairs_of, follow_of, in_order_says, in_order_passes}

-- a sound table, as a first entry and those that follow
pub record Stands (a : Entry) (es : List Entry) (x : ℕ) : Type 0 where
  pub room : length (a ∷ es) ≤ most_entries
  pub first_day : a.day ≡ first_entry_day
  pub first_offset : a.offset ≡ first_entry_offset
  pub follow : Follow a es x
  pub expires : x ≤ table_end

first_month : FirstOfMonth first_entry_day
unfolding month_first date_of take_months
first_month = month_first_says first_entry_day refl

next_at : (a : Entry) (es : List Entry) (x : ℕ) → Follow a es x → (k : ℕ) → k + 1 < length (a ∷ es) → Next (at (a ∷ es) k) (at (a ∷ es) (k + 1))
next_at a es x f k h = rw (add-one k) (pairs_of a es x f k (omega arith))

months_at : (a : Entry) (es : List Entry) (x : ℕ) → Stands a es x → (k : ℕ) → k < length (a ∷ es) → FirstOfMonth (at (a ∷ es) k).day
months_at a es x s zero h = subst FirstOfMonth (sym s.first_day) first_month
months_at a es x s (suc k) h = (pairs_of a es x s.follow k (omega arith)).month

range_at : (a : Entry) (es : List Entry) (x : ℕ) → Stands a es x → (k : ℕ) → k < length (a ∷ es) → (at (a ∷ es) k).offset ≤ top_offset
range_at a es x s zero h = omega arith
range_at a es x s (suc k) h = (pairs_of a es x s.follow k (omega arith)).range

pub last_at : (a : Entry) (es : List Entry) → at (a ∷ es) (length (a ∷ es) - 1) ≡ newest a es
last_at a es = let e : length (a ∷ es) - 1 ≡ length es = omega arith in ap (at (a ∷ es)) e ∙ newest_at a es (length es) refl

pub stands_sound : (a : Entry) (es : List Entry) (x : ℕ) → Stands a es x → Sound (table_from (a ∷ es) x)
stands_sound a es x s =
    record {
      some = omega arith;
      room = s.room;
      first_day = s.first_day;
      first_offset = s.first_offset;
      days_rise = λ k h. (next_at a es x s.follow k h).rises;
      month_firsts = months_at a es x s;
      moves = λ k h. (next_at a es x s.follow k h).moves;
      steps = λ k h. (next_at a es x s.follow k h).steps;
      range = range_at a es x s;
      last_in_time = rw (last_at a es) (newest_in_time a es x s.follow);
      expires = s.expires;
    }

-- and the other way round: of a sound table each entry may stand after the one before it
pub sound_pairs : (t : Table) → Sound t → (k : ℕ) → k + 1 < length t.entries → Next (at t.entries k) (at t.entries (k + 1))
sound_pairs t s k h =
    record {
      rises = s.days_rise k h;
      moves = s.moves k h;
      steps = s.steps k h;
      range = s.range (k + 1) h;
      month = s.month_firsts (k + 1) h;
    }

follow_at : (a : Entry) (es : List Entry) (x : ℕ) → ((k : ℕ) → k + 1 < length (a ∷ es) → Next (at (a ∷ es) k) (at (a ∷ es) (k + 1))) → (at (a ∷ es) (length (a ∷ es) - 1)).day < x → Follow a es x
follow_at a es x p l = follow_of a es x (λ k h. rw (add-one k) at (p k (omega arith))) (rw (last_at a es) at l)

pub sound_stands : (a : Entry) (es : List Entry) (x : ℕ) → Sound (table_from (a ∷ es) x) → Stands a es x
sound_stands a es x s =
    record {
      room = s.room;
      first_day = s.first_day;
      first_offset = s.first_offset;
      follow = follow_at a es x (sound_pairs (table_from (a ∷ es) x) s) s.last_in_time;
      expires = s.expires;
    }

-- a table is sound where its ends are right and each entry may stand after the one before it
pub record Ends (t : Table) : Type 0 where
  pub some : 1 ≤ length t.entries
  pub room : length t.entries ≤ most_entries
  pub first_day : (at t.entries 0).day ≡ first_entry_day
  pub first_offset : (at t.entries 0).offset ≡ first_entry_offset
  pub last_in_time : (at t.entries (length t.entries - 1)).day < t.expiry
  pub expires : t.expiry ≤ table_end

-- the entries after the first
abbrev pub later : List Entry → List Entry
later es = take (length es - 1) (drop 1 es)

later_is : (a : Entry) (es : List Entry) → later (a ∷ es) ≡ es
later_is a es = take_all (length (a ∷ es) - 1) es (omega arith)

pub sound_by : (es : List Entry) (x : ℕ) → Ends (table_from es x) → in_order es (later es) ≡ true → Sound (table_from es x)
sound_by [] x e p = let no : ⊥ = omega (arith, e.some) in absurd no
sound_by (a ∷ es) x e p =
    let rising : in_order (a ∷ es) es ≡ true = ap (in_order (a ∷ es)) (sym (later_is a es)) ∙ p in
    stands_sound a es x
    (record {
      room = e.room;
      first_day = e.first_day;
      first_offset = e.first_offset;
      follow = in_order_says a es x rising (rw (last_at a es) at e.last_in_time);
      expires = e.expires;
    })

pub sound_in_order : (es : List Entry) (x : ℕ) → Sound (table_from es x) → in_order es (later es) ≡ true
sound_in_order [] x s = refl
sound_in_order (a ∷ es) x s = ap (in_order (a ∷ es)) (later_is a es) ∙ in_order_passes a es x (sound_stands a es x s).follow

-- the test says that the table is sound, and a sound table passes
pub sound_says : (es : List Entry) (x : ℕ) → length es ≤ most_entries → sound es x ≡ true → Sound (table_from es x)
sound_says [] x r h = absurd (false≢true h)
sound_says (a ∷ es) x r h =
    let p = and_parts (first_entry a) (leb x table_end && chain a es x) h in
    let q = and_parts (eqb a.day first_entry_day) (eqb a.offset first_entry_offset) p.0 in
    let l = and_parts (leb x table_end) (chain a es x) p.1 in
    stands_sound a es x
    (record {
      room = r;
      first_day = eqb-true a.day first_entry_day q.0;
      first_offset = eqb-true a.offset first_entry_offset q.1;
      follow = chain_says a es x l.1;
      expires = leb-true x table_end l.0;
    })

pub sound_passes : (es : List Entry) (x : ℕ) → Sound (table_from es x) → sound es x ≡ true
sound_passes [] x s = let no : ⊥ = omega arith in absurd no
sound_passes (a ∷ es) x s =
    let p = sound_stands a es x s in
    and_from _ _
    (and_from _ _ (eq-eqb a.day first_entry_day p.first_day) (eq-eqb a.offset first_entry_offset p.first_offset))
    (and_from _ _ (le-leb x table_end p.expires) (chain_passes a es x p.follow))

-- every table that the code holds is sound
pub held_sound : (a : Inside) → Held a → Sound (shown a)
held_sound a h =
    let n : length (take a.count a.entries) ≡ a.count = length-take-le a.count a.entries (omega arith) in
    sound_says (take a.count a.entries) a.expiry (omega arith) h.keeps

pub table_sound : (a : Inside) (t : Table) → Held a → shown a ≡ t → Sound t
table_sound a t h is = subst Sound is (held_sound a h)

-- so many entries are in use
pub table_length : (a : Inside) (t : Table) → Held a → shown a ≡ t → length t.entries ≡ a.count
table_length a t h is = ap (λ (u : Table). length u.entries) (sym is) ∙ length-take-le a.count a.entries (omega arith)
