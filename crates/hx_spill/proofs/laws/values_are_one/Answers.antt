use Rattle.std.proofs.Common.{◌≡◌, ◌∙◌, ℕ, List, ap, sym}
use Rattle.hx_align.proofs.Carried.{plan_unique}
use Rattle.hx_base.specs.Pixels.{count_in}
use Rattle.hx_base.specs.declared.pixel.Pixel.{Pixel}
use Rattle.hx_base.specs.declared.row.Row.{Row}
use Rattle.hx_hist.proofs.Counts.{same_counts}
use Rattle.hx_hist.specs.Histograms.{Histogram}
use Rattle.hx_hist.specs.declared.hist.Pair.{Pair}
use Rattle.hx_spill.proofs.One.{margin_once, placed_once}
use Rattle.hx_spill.proofs.laws.values_are_one.Goals as goal

hist_is : (a b : Histogram) → a.order ≡ b.order → a.pairs ≡ b.pairs → a ≡ b
hist_is a b order pairs = ap (λ (k : ℕ). record { order = k; pairs = a.pairs }) order ∙ ap (λ (ps : List Pair). record { order = b.order; pairs = ps }) pairs

pub returns-clause-counts : goal.returns-clause-counts
returns-clause-counts c = λ order rows a b first second.
    hist_is a b (first.order_is ∙ sym second.order_is) (same_counts order a.pairs b.pairs first.histogram second.histogram (λ p. first.counts p ∙ sym (second.counts p)))

pub returns-clause-plan : goal.returns-clause-plan
returns-clause-plan c = λ lowest highest threshold rows a b first second. plan_unique (λ pixel. count_in pixel rows) lowest highest threshold a b first.partitions second.partitions

pub returns-clause-split : goal.returns-clause-split
returns-clause-split c = λ parts rows a b. placed_once parts _ a b (λ pixel xs ys is also. is ∙ sym also)

pub returns-clause-margin_split : goal.returns-clause-margin_split
returns-clause-margin_split c = λ parts margin_order rows a b. placed_once parts _ a b (λ pixel xs ys. margin_once pixel margin_order rows xs ys)
