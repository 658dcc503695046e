use Rattle.std.proofs.Common.{◌≡◌, leb, Option, reverse, sym, ap, ◌∙◌, rules}
use borrow.Author.Tests.{tests}
use Rattle.std.specs.List.{find}
use Rattle.std.specs.Option.{option_map, option_map_or}
use Rattle.std.proofs.lemmas.Iterator.Search.{find_from_yields_List}
use Rattle.std.proofs.lemmas.Iterator.Adapters.{YieldsList-from_rev_slice}
use Rattle.std.proofs.lemmas.Iterator.Consumers.{YieldsList-from_copied}
use Rattle.leap.specs.declared.entry.Entry.{Entry}
use Rattle.leap.specs.Table.{off, first_entry_offset}
use Rattle.leap.proofs.Offsets.{from_back, answer_is, offset_of, off_low, off_counts}
use Rattle.leap.proofs.table.LeapTable.offset_on.Goals as goal

pub returns : goal.returns
returns c =
    let t = c.args.self.now in
    let s = c.in_use.ensures.sound in
    let d = c.args.day in
    let found : option_map (λ (e : Entry). e) c.find-newest.result ≡ find (λ e. leb e.day d) (reverse t.entries) =
    find_from_yields_List (λ (e : Entry). leb e.day d) _ _ c.find-newest.result c.find-newest.ensures.ran (YieldsList-from_copied (YieldsList-from_rev_slice t.entries (cc (c.copied.ensures.source, c.rev.ensures.source, c.iter.ensures.rest, c.in_use.ensures.is)))) (λ x b q k. (search (rules, tests), search (rules, tests))) in
    let is : c.map_or.result ≡ off t d =
    answer_is (λ (e : Entry). e) _ c.find-newest.result first_entry_offset c.map_or.result c.map_or.ensures (λ e is. search rules)
    ∙ ap (λ (r : Option Entry). option_map_or offset_of r first_entry_offset) found
    ∙ sym (from_back first_entry_offset t.entries d) in
    record { is = is; counts = rw is (off_counts t s d); range = rw is (off_low t s d); sound = s }
