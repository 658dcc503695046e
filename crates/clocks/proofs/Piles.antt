-- A pile of lawful rungs is lawful.
use Rattle.std.proofs.Common.{ℕ, ◌-◌, ◌≤◌, le_trans, arith}
use Rattle.clocks.specs.Rungs.{RungMeaning, LawfulRung}
use Rattle.clocks.specs.Piles.{pile}
use Rattle.clocks.proofs.Both.{Upper, read_steps, read_made, show_steps, show_made, within_both}

module _ (u v : RungMeaning) where
  abbrev upper : Upper ℕ
  upper = record { reads = u.reads; shows = u.shows; rungs = u.rungs }

  pub pile_lawful : LawfulRung u → LawfulRung v → LawfulRung (pile u v)
  pile_lawful lu lv = record {
    reads_counts = λ s e. let p = read_steps upper v e in ((lu.reads_counts s p.1).0, (lv.reads_counts s p.2).1);
    shows_counts = λ s e. let p = show_steps upper v e in ((lv.shows_counts s p.3).0, (lu.shows_counts s p.4).1);
    reads_rise = λ s e f h. let p = read_steps upper v e in let q = read_steps upper v f in lv.reads_rise s p.2 q.2 (lu.reads_rise s p.1 q.1 h);
    shown_is_read = λ s e. let p = show_steps upper v e in (p.2, read_made upper v p.5 p.6);
    reads_meet_shows = λ s e f. let p = read_steps upper v e in let q = show_steps upper v f in
        let above = lu.reads_meet_shows s p.1 q.4 in
        let below = lv.reads_meet_shows s p.2 q.3 in
        (λ h. above.0 (below.0 h), λ h. below.1 (above.1 h));
    within_loss = λ s e f. within_both upper v u.loss lv s (λ m b. lu.within_loss s) e f;
    within_spread = λ {t} {r} {s = r'} s e f h. let p = read_steps upper v e in let q = read_steps upper v f in
        let up = lu.within_spread s p.1 q.1 h in
        let rise = lu.reads_rise s p.1 q.1 h in
        let low = lv.within_spread s p.2 q.2 rise in
        let d : q.0 - p.0 ≤ u.spread (r' - r) = omega arith in
        let grown = lv.spread_grows d in
        omega arith;
    spread_grows = λ h. lv.spread_grows (lu.spread_grows h);
    spread_covers = λ n. le_trans (lu.spread_covers n) (lv.spread_covers (u.spread n));
    reads_kept = λ s k e. let p = read_steps upper v e in read_made upper v (lu.reads_kept s k p.1) (lv.reads_kept s k p.2);
    shows_kept = λ s k e. let p = show_steps upper v e in show_made upper v (lv.shows_kept s k p.3) (lu.shows_kept s k p.4) (lu.reads_kept s k p.5) (lv.reads_kept s k p.6);
  }
