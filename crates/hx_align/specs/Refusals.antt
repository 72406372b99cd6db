-- What is refused of counts that are cut into partitions.
use Rattle.std.specs.Prelude.{◌≡◌, ◌<◌, ◌⊎◌, ℕ, List, length, Option, Some}
use Rattle.hx_base.specs.Limits.{above, most_partitions}
use Rattle.hx_base.specs.Partitions.{ArePartitions, IsFirstOverfull, NothingOverfull}
use Rattle.hx_base.specs.declared.pixel.Pixel.{Pixel}
use Rattle.hx_base.specs.declared.refusal.Refusal.{Refusal}
use Rattle.hx_base.specs.declared.refusal.Refusal.TheVariants as refusal
use Rattle.hx_align.specs.declared.refusal.AlignRefusal.{AlignRefusal}
use Rattle.hx_align.specs.declared.refusal.AlignRefusal.TheVariants as own

-- an alignment's refusal, as a command's
abbrev pub refusal_of : AlignRefusal → Refusal
refusal_of (own.Overfull pixel count) = refusal.Overfull pixel count
refusal_of (own.TooMany found) = refusal.TooMany 3 found most_partitions
refusal_of own.Memory = refusal.Memory

-- what is refused: the first overfull pixel, or else too many partitions, or nothing
abbrev pub IsCutRefusal : (Pixel → ℕ) → ℕ → ℕ → ℕ → Option Refusal → Type 0
IsCutRefusal count lowest highest threshold first =
    ((pixel : ℕ) × IsFirstOverfull count highest threshold pixel × (first ≡ Some (refusal.Overfull pixel (count (record { order = highest; number = pixel })))))
    ⊎ (NothingOverfull count highest threshold × (pixels : List Pixel) × ArePartitions count lowest highest threshold pixels × (first ≡ above 3 most_partitions (length pixels)))

-- why counts couldn't be cut
abbrev pub IsCutCause : ℕ → Refusal → Type 0
IsCutCause threshold (refusal.Overfull pixel count) = threshold < count
IsCutCause threshold (refusal.TooMany what found limit) = (what ≡ 3) × (limit ≡ most_partitions) × (limit < found)
IsCutCause threshold refusal.Memory = Unit {0}
IsCutCause threshold _ = ⊥
