use Rattle.std.proofs.Common.{◌≡◌, ◌≤◌, arith}
use Rattle.std.proofs.lemmas.Bool.{le-ltb}
use Rattle.calendar.specs.Calendar.{last_day}
use Rattle.calendar.proofs.Dates.{last_day as at_most_last}
use Rattle.civil.specs.Civil.{date_shown}
use Rattle.civil.proofs.Dates.{date_is_shown}
use Rattle.civil_form.proofs.date.show_day.Goals as goal

pub returns : goal.returns
returns c =
    let date = c.in_ok-date.date in
    let day = c.args.day in
    let numbered = c.in_ok-date.ensures.numbered in
    let shown : c.join.result ≡ date_shown day = omega (arith, date_is_shown date.year date.month date.day day date.valid numbered) in
    let early : day ≤ last_day = omega (arith, at_most_last date.year date.month date.day date.valid, numbered) in
    rw (le-ltb last_day day early, shown)
