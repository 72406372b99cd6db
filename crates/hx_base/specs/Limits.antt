-- The limits of a job's inputs, of an import's settings and of a catalogue, and a quantity above its limit.
use Rattle.std.specs.Prelude.{◌<◌, ◌≤◌, ℕ, nat_lt, if◌then◌else◌, Option, Some, None}
use Rattle.hx_base.specs.declared.refusal.Refusal.{Refusal}
use Rattle.hx_base.specs.declared.refusal.Refusal.TheVariants as refusal
use Rattle.hx_base.specs.declared.settings.Settings.{Settings}

-- a job has at most so many inputs
abbrev pub most_inputs : ℕ
most_inputs = 10000

-- an input has at most so many bytes
abbrev pub most_bytes : ℕ
most_bytes = 67108864

-- and so many rows, 2 ^ 40
abbrev pub most_rows : ℕ
most_rows = 1099511627776

-- a catalogue has at most so many partitions
abbrev pub most_partitions : ℕ
most_partitions = 100000

-- a partition has at most so many rows
abbrev pub most_in_partition : ℕ
most_in_partition = 1000000

-- and a pixel of an order of at most this
abbrev pub highest_order : ℕ
highest_order = 20

-- margins are cut by pixels of an order of at most this
abbrev pub highest_margin_order : ℕ
highest_margin_order = 24

-- pixels of partitions have orders from lowest to highest; margins are cut finer; and a partition has from one row to the threshold
pub record FitsLimits (settings : Settings) : Type 0 where
  pub lowest : settings.lowest ≤ settings.highest
  pub highest : settings.highest ≤ highest_order
  pub margin_least : settings.highest < settings.margin_order
  pub margin_most : settings.margin_order ≤ highest_margin_order
  pub threshold_least : 1 ≤ settings.threshold
  pub threshold_most : settings.threshold ≤ most_in_partition

-- a quantity that is above its limit, by the number of the limit
abbrev pub above : ℕ → ℕ → ℕ → Option Refusal
above what limit found = if nat_lt limit found then Some (refusal.TooMany what found limit) else None
