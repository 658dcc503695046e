-- A lawful form over a lawful rung is a lawful scale.
use Rattle.clocks.specs.Rungs.{RungMeaning, LawfulRung}
use Rattle.clocks.specs.Forms.{Stamp, FormMeaning, LawfulForm}
use Rattle.clocks.specs.Scales.{scale}
use Rattle.clocks.proofs.Both.{Upper, read_steps, read_made, show_steps, show_made, within_both}

module _ (f : FormMeaning) (v : RungMeaning) where
  abbrev upper : Upper Stamp
  upper = record { reads = f.reads; shows = f.shows; rungs = 1 }

  pub scale_lawful : LawfulForm f → LawfulRung v → LawfulForm (scale f v)
  scale_lawful lf lv = record {
    reads_counts = λ s e. let p = read_steps upper v e in (lv.reads_counts s p.2).1;
    shows_counts = λ s e. let p = show_steps upper v e in (lv.shows_counts s p.3).0;
    shown_is_read = λ s e. let p = show_steps upper v e in (p.2, read_made upper v p.5 p.6);
    within_loss = λ s e g. within_both upper v f.loss lv s (λ m b. lf.within_loss s) e g;
    reads_kept = λ s k e. let p = read_steps upper v e in read_made upper v (lf.reads_kept s k p.1) (lv.reads_kept s k p.2);
    shows_kept = λ s k e. let p = show_steps upper v e in show_made upper v (lv.shows_kept s k p.3) (lf.shows_kept s k p.4) (lf.reads_kept s k p.5) (lv.reads_kept s k p.6);
  }
