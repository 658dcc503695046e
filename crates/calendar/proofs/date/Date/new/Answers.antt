use Rattle.std.proofs.Common.{◌<◌, ◌⊎◌, arith}
use Rattle.std.proofs.lemmas.Grind.{common_steps}
use Rattle.calendar.specs.Calendar.{ValidMonth}
use Rattle.calendar.proofs.Dates.{wrong_day}
use Rattle.calendar.proofs.date.Date.new.Goals as goal

pub returns-then-not-contains-3 : goal.returns-then-not-contains-3
returns-then-not-contains-3 c =
    let month : ValidMonth c.args.year c.args.month = grind (arith, common_steps) in
    let outside : (c.args.day < 1) ⊎ (c.days_in_month.result < c.args.day) = grind (arith, common_steps) in
    wrong_day c.args.year c.args.month c.args.day c.days_in_month.result month c.days_in_month.ensures outside
