use Rattle.std.proofs.Common.{◌≡◌, sym, ◌∙◌}
use Rattle.calendar.specs.Calendar.{day_number}
use Rattle.calendar.proofs.Dates.{stands_alone}
use Rattle.calendar.proofs.date.Date.of_day.Goals as goal

pub returns : goal.returns
returns c =
    let y = c.year_of-year.ensures in
    let m = c.month_of-month.ensures in
    let is : day_number c.year_of-year.result.0 c.month_of-month.result.0 c.month_of-month.result.1 ≡ c.args.day = m.adds_up ∙ y.adds_up in
    record {
      numbered = is;
      alone = stands_alone c.year_of-year.result.0 c.month_of-month.result.0 c.month_of-month.result.1 c.args.day ((y.year_from, y.year_to, m.month_from, m.month_to), m.day_from, m.day_to) (sym is);
    }
