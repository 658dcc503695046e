-- A bank: one scale, or two banks side by side. Its feeds are numbered from 0, left first, and each has its scale.
use Rattle.std.specs.Prelude.{ℕ, ◌+◌, ◌-◌, ◌<◌, min, cond, ◌&&◌, Ok, Err, Result, nat_lt}
use Rattle.refusals.specs.declared.fault.Fault.{Fault}
use Rattle.refusals.specs.declared.refusal.Refusal.{Refusal}
use Rattle.refusals.specs.declared.refusal.Refusal.TheVariants.{NoFeed, Clock}
use Rattle.leap.specs.Table.{Table}
use Rattle.clocks.specs.Counts.{most_feeds, told_limit}
use Rattle.clocks.specs.Forms.{Stamp, FormMeaning, LawfulForm}

-- how many feeds there are, and what the scale of each means
pub record BankMeaning : Type 0 where
  pub feeds : ℕ
  pub scale_of : ℕ → FormMeaning

-- the scale of each feed keeps the laws
abbrev pub LawfulBank : BankMeaning → Type 0
LawfulBank m = (f : ℕ) → f < m.feeds → LawfulForm (m.scale_of f)

abbrev pub one_scale : FormMeaning → BankMeaning
one_scale s = record { feeds = 1; scale_of = λ _. s }

abbrev pub beside : BankMeaning → BankMeaning → BankMeaning
beside u v = record { feeds = u.feeds + v.feeds; scale_of = λ f. cond (nat_lt f u.feeds) (u.scale_of f) (v.scale_of (f - u.feeds)) }

-- a feed from 64 on, or from the number of feeds on, is refused, by its number alone
abbrev pub of_feed : {A : Type 0} → BankMeaning → ℕ → Result A Refusal → Result A Refusal
of_feed m f a = cond (nat_lt f most_feeds && nat_lt f m.feeds) a (Err NoFeed)

-- a clock's fault as a refusal
abbrev pub clocked : {A : Type 0} → Result A Fault → Result A Refusal
clocked (Ok x) = Ok x
clocked (Err f) = Err (Clock f)

abbrev pub bank_reads : BankMeaning → Table → ℕ → Stamp → Result ℕ Refusal
bank_reads m t f p = of_feed m f (clocked ((m.scale_of f).reads t p))

abbrev pub bank_shows : BankMeaning → Table → ℕ → ℕ → Result Stamp Refusal
bank_shows m t f n = of_feed m f (clocked ((m.scale_of f).shows t n))

-- the loss of a feed, as it is told
abbrev pub bank_loss : BankMeaning → ℕ → Result ℕ Refusal
bank_loss m f = of_feed m f (Ok (min told_limit (m.scale_of f).loss))
