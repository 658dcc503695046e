use Rattle.std.proofs.Common.{◌≡◌, ℕ, ◌<◌, true, List, length, get_or, sym, refl, ap, ◌∙◌, subst, arith, rules}
use borrow.Author.Tests.{tests}
use Rattle.std.proofs.lemmas.List.{ext_get_or, get_or-map}
use Rattle.calendar.specs.Calendar.{month_first, date_of, take_months}
use Rattle.leap.specs.declared.entry.Entry.{Entry}
use Rattle.leap.specs.Table.{Sound}
use Rattle.leap.specs.Test.{sound}
use Rattle.leap.specs.Parts.{table_from}
use Rattle.leap.specs.Room.{blank}
use Rattle.leap.specs.Starting.{pairs, pair_entry, starting_entries, starting_expiry, starting}
use Rattle.leap.proofs.Saying.{sound_says}
use Rattle.leap.proofs.table.LeapTable.starting.Goals as goal

-- a list of an entry for each pair
mapped : (es : List Entry) → length es ≡ 28 → ((i : ℕ) → i < 28 → get_or es i blank ≡ pair_entry (get_or pairs i (0, 0))) → es ≡ starting_entries
mapped es n at = ext_get_or blank es starting_entries n (λ i h. at i (omega arith) ∙ sym (get_or-map pair_entry pairs i (0, 0) blank (omega arith)))

-- the whole table is sound: one test, which antt computes
starting_passes : sound starting_entries starting_expiry ≡ true
unfolding month_first date_of take_months
starting_passes = refl

starting_sound : Sound starting
starting_sound = sound_says starting_entries starting_expiry (omega arith) starting_passes

pub holding-requires : goal.holding-requires
holding-requires c =
    let e = mapped c.map-entries.result c.map-entries.ensures.items.long (λ i h. let at = c.map-entries.ensures.items.at i (0, 0) blank h in search (rules, tests)) in
    subst (λ (es : List Entry). Sound (table_from es starting_expiry)) (sym e) starting_sound

pub returns : goal.returns
returns c =
    let e = mapped c.map-entries.result c.map-entries.ensures.items.long (λ i h. let at = c.map-entries.ensures.items.at i (0, 0) blank h in search (rules, tests)) in
    let is = c.holding.ensures ∙ ap (λ (es : List Entry). table_from es starting_expiry) e in
    record { is = is; sound = subst Sound (sym is) starting_sound }
