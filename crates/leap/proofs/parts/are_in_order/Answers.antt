use Rattle.std.proofs.Common.{◌≡◌, rules}
use borrow.Author.Tests.{tests}
use Rattle.std.specs.Iterator.Adapters.{zip_second}
use Rattle.std.proofs.lemmas.Iterator.{YieldsList-from_slice, YieldsList-from_zip}
use Rattle.std.proofs.lemmas.Iterator.Search.{all_from_yields_List}
use Rattle.leap.specs.declared.entry.Entry.{Entry}
use Rattle.leap.specs.Test.{next_to}
use Rattle.leap.proofs.parts.are_in_order.Goals as goal

pub returns : goal.returns
returns c =
    let es = c.args.entries.now in
    let later = c.args.later.now in
    let second : (zip_second c.zip.result).rest.now ≡ later = search rules in
    all_from_yields_List (λ (p : Entry × Entry). next_to p.0 p.1) c.all.new.self _ c.all.result c.all.ensures.ran (YieldsList-from_zip (YieldsList-from_slice es (cc (c.zip.ensures.first, c.iter.ensures.rest))) (YieldsList-from_slice later second)) (λ x b q k. search (rules, tests))
