-- An accepted bulletin leaves a sound table sound, and what it says of the past as it was.
use Rattle.std.proofs.Common.{◌≡◌, ℕ, ◌-◌, ◌≤◌, Bool, true, false, cond, not, ◌&&◌, ◌||◌, eqb, ltb, leb, List, [], ◌∷◌, ◌++◌, length, Some, None, Ok, Result, sym, refl, ap, subst, inl, inr, arith}
use Rattle.std.proofs.lemmas.List.{length_push}
use Rattle.std.proofs.lemmas.Bool.{ltb-true, ltb-false, leb-false, eq-eqb, ne_eqb, and_parts, or_parts, cases_eq, cases_Bool}
use Rattle.std.proofs.lemmas.Bool.Decides.{nat_tests}
use Rattle.refusals.specs.Said.{Said}
use Rattle.calendar.specs.Calendar.{month_first}
use Rattle.calendar.proofs.Dates.{month_first_says}
use Rattle.leap.specs.declared.entry.Entry.{Entry}
use Rattle.leap.specs.declared.bulletin.Bulletin.{Bulletin}
use Rattle.leap.specs.Table.{Table, Sound, largest_step, top_offset, most_entries, table_end, apart, at}
use Rattle.leap.specs.Parts.{table_from}
use Rattle.leap.specs.Bulletin.{last_offset, moved, leaves_range, next_offset, refused, judged_change, judged, new_entry, extended, appended, renewed, Appendable, Renews, KeepsPast}
use Rattle.leap.proofs.Chain.{Next, newest, newest_in_time, follow_push}
use Rattle.leap.proofs.Saying.{stands_sound, sound_stands, last_at}
use Rattle.leap.proofs.Offsets.{keeps_past}

pub extended_sound : (t : Table) → Sound t → (x : ℕ) → t.expiry ≤ x → x ≤ table_end → Sound (extended t x)
extended_sound t s x h k =
    record {
      some = s.some;
      room = s.room;
      first_day = s.first_day;
      first_offset = s.first_offset;
      days_rise = s.days_rise;
      month_firsts = s.month_firsts;
      moves = s.moves;
      steps = s.steps;
      range = s.range;
      last_in_time = let l = s.last_in_time in omega arith;
      expires = k;
    }

pub extended_renews : (t : Table) (x : ℕ) → t.expiry ≤ x → Renews t (extended t x)
extended_renews t x h = record { expiry_grows = h; entries_stand = inl refl }

added_by : (es : List Entry) (x y : ℕ) (e : Entry) → Sound (table_from es x) → Appendable (table_from es x) e y → Sound (table_from (es ++ e ∷ []) y)
added_by [] x y e s p = let no : ⊥ = omega (arith, s.some) in absurd no
added_by (a ∷ es) x y e s p =
    let q = sound_stands a es x s in
    let l = newest_in_time a es x q.follow in
    let o : (at (a ∷ es) (length (a ∷ es) - 1)).offset ≡ (newest a es).offset = ap (λ (b : Entry). b.offset) (last_at a es) in
    let n : Next (newest a es) e =
    record {
      rises = let h = p.after in omega arith;
      moves = let h = p.moves in omega arith;
      steps = let h = p.steps in omega arith;
      range = p.range;
      month = month_first_says e.day p.month;
    } in
    stands_sound a (es ++ e ∷ []) y
    (record {
      room = let h = p.room in simp length_push (omega arith);
      first_day = q.first_day;
      first_offset = q.first_offset;
      follow = follow_push a es x y e q.follow n p.before;
      expires = p.expires;
    })

pub appended_sound : (t : Table) → Sound t → (e : Entry) (x : ℕ) → Appendable t e x → Sound (appended t e x)
appended_sound t s e x p = added_by t.entries t.expiry x e s p

pub appended_renews : (t : Table) (e : Entry) (x : ℕ) → Appendable t e x → Renews t (appended t e x)
appended_renews t e x p =
    let a = p.after in
    let b = p.before in
    record { expiry_grows = omega arith; entries_stand = inr (e, refl, a, b) }

-- an answer that is no refusal has passed each check
passed : (b : Bool) (n : ℕ) (r : Result (Unit {0}) Said) → cond b (refused n) r ≡ Ok tt → (b ≡ false) × (r ≡ Ok tt)
passed true n r e = absurd (cc)
passed false n r e = (refl, e)

held : (b : Bool) (n : ℕ) (r : Result (Unit {0}) Said) → cond b r (refused n) ≡ Ok tt → (b ≡ true) × (r ≡ Ok tt)
held true n r e = (refl, e)
held false n r e = absurd (cc)

pub record Moves (o p : ℕ) : Type 0 where
  pub moves : 1 ≤ apart o p
  pub steps : apart o p ≤ largest_step
  pub range : p ≤ top_offset

-- the offset after a change that does not leave the range
pub moved_by : (c o : ℕ) → o ≤ top_offset → leaves_range c o ≡ false → Moves o (moved c o)
moved_by c o top h = record { moves = grind (arith, nat_tests); steps = grind (arith, nat_tests); range = grind (arith, nat_tests) }

pub next_moves : (c o p : ℕ) → o ≤ top_offset → Some p ≡ next_offset c o → Moves o p
next_moves c o p top e =
    elim (cases_Bool (leaves_range c o)) [
      | inl h ↦ let n : next_offset c o ≡ None = ap (λ b. cond b None (Some (moved c o))) h in absurd (cc)
      | inr h ↦
          let n : next_offset c o ≡ Some (moved c o) = ap (λ b. cond b None (Some (moved c o))) h in
          let q : moved c o ≡ p = cc in
          subst (Moves o) q (moved_by c o top h)
    ]

module _ (t : Table) (s : Sound t) (b : Bulletin) where
  abbrev wrong_change : Bool
  wrong_change = ltb 2 b.change || (eqb b.change 0 && not (eqb b.day 0))

  abbrev wrong_expiry : Bool
  wrong_expiry = ltb b.expiry t.expiry || ltb table_end b.expiry

  abbrev in_time : Bool
  in_time = ltb t.expiry b.day && ltb b.day b.expiry

  abbrev no_room : Bool
  no_room = leb most_entries (length t.entries) || leaves_range b.change (last_offset t)

  expiry_fits : judged t b ≡ Ok tt → (t.expiry ≤ b.expiry) × (b.expiry ≤ table_end)
  expiry_fits e =
      let p = passed wrong_change 19 _ e in
      let q = passed wrong_expiry 20 _ p.1 in
      let r = or_parts (ltb b.expiry t.expiry) (ltb table_end b.expiry) q.0 in
      (ltb-false b.expiry t.expiry r.0, ltb-false table_end b.expiry r.1)

  change_judged : judged t b ≡ Ok tt → (b.change ≡ 0 → ⊥) → judged_change t b ≡ Ok tt
  change_judged e n =
      let p = passed wrong_change 19 _ e in
      let q = passed wrong_expiry 20 _ p.1 in
      rw (ne_eqb b.change 0 n) at q.1

  -- a bulletin that is accepted with a change has an entry that may be appended
  pub change_fits : judged t b ≡ Ok tt → (b.change ≡ 0 → ⊥) → Appendable t (new_entry t b) b.expiry
  change_fits e n =
      let p = held (in_time && month_first b.day) 21 _ (change_judged e n) in
      let q = passed no_room 22 (Ok tt) p.1 in
      let days = and_parts in_time (month_first b.day) p.0 in
      let within = and_parts (ltb t.expiry b.day) (ltb b.day b.expiry) days.0 in
      let r = or_parts (leb most_entries (length t.entries)) (leaves_range b.change (last_offset t)) q.0 in
      let some = s.some in
      let m = moved_by b.change (last_offset t) (s.range (length t.entries - 1) (omega arith)) r.1 in
      record {
        room = leb-false most_entries (length t.entries) r.0;
        after = ltb-true t.expiry b.day within.0;
        before = ltb-true b.day b.expiry within.1;
        expires = (expiry_fits e).1;
        month = days.1;
        moves = m.moves;
        steps = m.steps;
        range = m.range;
      }

  pub accepted_sound : judged t b ≡ Ok tt → Sound (renewed t b)
  accepted_sound e =
      elim (cases_eq b.change 0) [
        | inl z ↦ rw (eq-eqb b.change 0 z) (extended_sound t s b.expiry (expiry_fits e).0 (expiry_fits e).1)
        | inr n ↦ rw (ne_eqb b.change 0 n) (appended_sound t s (new_entry t b) b.expiry (change_fits e n))
      ]

  pub accepted_renews : judged t b ≡ Ok tt → Renews t (renewed t b)
  accepted_renews e =
      elim (cases_eq b.change 0) [
        | inl z ↦ rw (eq-eqb b.change 0 z) (extended_renews t b.expiry (expiry_fits e).0)
        | inr n ↦ rw (ne_eqb b.change 0 n) (appended_renews t (new_entry t b) b.expiry (change_fits e n))
      ]

  pub accepted : judged t b ≡ Ok tt → Sound (renewed t b) × Renews t (renewed t b) × KeepsPast t (renewed t b)
  accepted e = (accepted_sound e, accepted_renews e, keeps_past (accepted_renews e))

-- the same of a table that is known to be the renewed one
pub accepted_past : (t : Table) → Sound t → (b : Bulletin) (u : Table) → judged t b ≡ Ok tt → u ≡ renewed t b → KeepsPast t u × Renews t u
accepted_past t s b u e f =
    let a = accepted t s b e in
    (subst (KeepsPast t) (sym f) a.2, subst (Renews t) (sym f) a.1)
