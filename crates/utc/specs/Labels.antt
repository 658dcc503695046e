-- UTC labels: counts with a number for each second of UTC, an inserted one too. A label is a day, counted from 1970-01-01, and the ticks since it began, for which every day has as much room as the longest day could need.
use Rattle.std.specs.Prelude.{ℕ, ◌+◌, ◌*◌, ◌/◌, ◌%◌}
use Rattle.leap.specs.Table.{day_seconds, largest_step}
use Rattle.clocks.specs.Counts.{second}

-- a day with no change, in ticks
abbrev pub day_ticks : ℕ
day_ticks = day_seconds * second

-- the seconds that a day has at most
abbrev pub label_seconds : ℕ
label_seconds = day_seconds + largest_step

-- from the first label of a day to the first of the next, in ticks
abbrev pub label_day : ℕ
label_day = label_seconds * second

-- the label that comes n ticks after the start of day d
abbrev pub label_at : ℕ → ℕ → ℕ
label_at d n = d * label_day + n

-- the parts of a label: its day, and the ticks since that day's start
abbrev pub day_of : ℕ → ℕ
day_of l = l / label_day

abbrev pub ticks_of : ℕ → ℕ
ticks_of l = l % label_day
