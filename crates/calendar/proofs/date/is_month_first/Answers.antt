use Rattle.std.proofs.Common.{◌≡◌, sym, ◌∙◌, rules}
use Rattle.calendar.specs.Calendar.{month_first}
use Rattle.calendar.proofs.Dates.{apart, month_first_test, month_first_says, month_first_passes}
use Rattle.calendar.proofs.date.is_month_first.Goals as goal

pub returns : goal.returns
returns c =
    let day = c.args.day in
    let test : c.is_some_and.result ≡ month_first day = month_first_test _ c.of_day.result day c.is_some_and.result c.of_day.ensures.numbered c.is_some_and.ensures (λ date is. search rules) in
    record {
      says = (λ is. month_first_says day (sym test ∙ is), λ first. test ∙ month_first_passes day first);
      test = test;
      apart = apart day;
    }
