use Rattle.std.proofs.Common.{◌-◌, length, sym, ap, ◌∙◌, arith, rules}
use Rattle.leap.specs.Table.{Table}
use Rattle.leap.specs.Bulletin.{last_offset}
use Rattle.leap.proofs.Saying.{table_sound, table_length}
use Rattle.leap.proofs.Bulletins.{next_moves}
use Rattle.leap.proofs.table.LeapTable.changed.Goals as goal

pub with_entry-requires : goal.with_entry-requires
with_entry-requires c =
    let t = c.args.self.now in
    let h = c.self.invariant in
    let n = table_length c.self.inside t h c.self.view_is in
    let s = table_sound c.self.inside t h c.self.view_is in
    let x = ap (λ (u : Table). u.expiry) c.self.view_is in
    let m = next_moves c.args.bulletin.change (last_offset t) c.in_ok-ok_or.field-0 (s.range (length t.entries - 1) (omega (arith, s.some))) (sym c.in_ok-ok_or.ensures.ok_part ∙ c.requires.next) in
    record {
      room = omega (arith, h.high);
      after = omega arith;
      before = search rules;
      expires = c.requires.expires;
      month = search rules;
      moves = m.moves;
      steps = m.steps;
      range = m.range;
    }
