-- Counts of rows of several lists.
use Rattle.std.proofs.Common.{◌≡◌, ◌∙◌, ◌+◌, ◌++◌, ◌∷◌, ◌==◌, [], ℕ, List, length, refl, sym, ap, arith}
use Rattle.std.specs.List.{AllZip, filter, flat_map, sum_by}
use Rattle.std.proofs.lemmas.List.{length-append}
use Rattle.std.proofs.lemmas.List.Elements.{filter-append}
use Rattle.std.proofs.lemmas.List.Sums.{sum_by-cons}
use Rattle.hx_base.specs.Pixels.{count_in, pixel_of, rows_in}
use Rattle.hx_base.specs.declared.pixel.Pixel.{Pixel}
use Rattle.hx_base.specs.declared.row.Row.{Row}
use Rattle.hx_hist.specs.Histograms.{Histogram, count_at, total_of}
use Rattle.hx_hist.specs.Tallies.{count_among, total_among}
use Rattle.hx_spill.specs.Values.{AreCountsOf, IsSumOf, IsSumOfAll}

pub rows_in-append : (pixel : Pixel) (rows more : List Row) → rows_in pixel (rows ++ more) ≡ rows_in pixel rows ++ rows_in pixel more
rows_in-append pixel rows more = filter-append (λ (row : Row). pixel_of pixel.order row.hp == pixel.number) rows more

pub count_in-append : (pixel : Pixel) (rows more : List Row) → count_in pixel (rows ++ more) ≡ count_in pixel rows + count_in pixel more
count_in-append pixel rows more = ap length (rows_in-append pixel rows more) ∙ length-append (rows_in pixel rows) (rows_in pixel more)

pub counts_none : (order : ℕ) → AreCountsOf order [] (record { order = order; pairs = [] })
counts_none order = record {
  order_is = refl;
  histogram = record { ascending = λ i j d lt within. absurd (omega (arith, within)); counted = λ k d lt. absurd (omega (arith, lt)); range = λ k d lt. absurd (omega (arith, lt)) };
  counts = λ number. refl;
  total = refl;
}

pub counts_more : (order : ℕ) (rows more : List Row) (a b both : Histogram) → AreCountsOf order rows a → AreCountsOf order more b → IsSumOf order a b both → AreCountsOf order (rows ++ more) both
counts_more order rows more a b both first second sum = record {
  order_is = sum.order_is;
  histogram = sum.histogram;
  counts = λ number.
      let pixel : Pixel = record { order = order; number = number } in
      omega (arith, sum.counts number, first.counts number, second.counts number, count_in-append pixel rows more);
  total = omega (arith, sum.total, first.total, second.total, length-append rows more);
}

among : (order : ℕ) (number : ℕ) (inputs : List (List Row)) (hists : List Histogram) → AllZip (AreCountsOf order) inputs hists
    → count_among number hists ≡ count_in (record { order = order; number = number }) (flat_map (λ rows. rows) inputs)
among order number [] [] all = refl
among order number [] (hist ∷ hists) all = absurd all
among order number (rows ∷ inputs) [] all = absurd all
among order number (rows ∷ inputs) (hist ∷ hists) all =
    let pixel : Pixel = record { order = order; number = number } in
    let rest = among order number inputs hists all.1 in
    omega (arith, sum_by-cons (λ (h : Histogram). count_at number h.pairs) hist hists, all.0.counts number, rest, count_in-append pixel rows (flat_map (λ rows. rows) inputs))

all_rows : (order : ℕ) (inputs : List (List Row)) (hists : List Histogram) → AllZip (AreCountsOf order) inputs hists → total_among hists ≡ length (flat_map (λ rows. rows) inputs)
all_rows order [] [] all = refl
all_rows order [] (hist ∷ hists) all = absurd all
all_rows order (rows ∷ inputs) [] all = absurd all
all_rows order (rows ∷ inputs) (hist ∷ hists) all =
    let rest = all_rows order inputs hists all.1 in
    omega (arith, sum_by-cons (λ (h : Histogram). total_of h.pairs) hist hists, all.0.total, rest, length-append rows (flat_map (λ rows. rows) inputs))

pub counts_all : (order : ℕ) (inputs : List (List Row)) (hists : List Histogram) (sum : Histogram) → AllZip (AreCountsOf order) inputs hists → IsSumOfAll order hists sum → AreCountsOf order (flat_map (λ rows. rows) inputs) sum
counts_all order inputs hists sum all is = record {
  order_is = is.order_is;
  histogram = is.histogram;
  counts = λ number. is.counts number ∙ among order number inputs hists all;
  total = is.total ∙ all_rows order inputs hists all;
}
