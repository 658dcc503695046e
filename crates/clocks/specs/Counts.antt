-- Counts, and the limits to which questions about clocks are told.
use Rattle.std.specs.Prelude.{ℕ, ◌<◌}

-- a count is a whole number below this end
abbrev pub count_end : ℕ
count_end = 8000000000000000000

abbrev pub Count : ℕ → Type 0
Count n = n < count_end

-- a loss and a spread are told up to here
abbrev pub told_limit : ℕ
told_limit = 1000000000000

-- the number of rungs, and the place of a rung, are told up to here
abbrev pub rungs_limit : ℕ
rungs_limit = 255

-- a bank has at most so many feeds of use, and their number is told up to one more
abbrev pub most_feeds : ℕ
most_feeds = 64

abbrev pub feeds_limit : ℕ
feeds_limit = 65

-- a second in ticks
abbrev pub second : ℕ
second = 1000000000
