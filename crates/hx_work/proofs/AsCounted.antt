-- Rows that stand pixel by pixel are counted by their pixels.
use Rattle.std.proofs.Common.{◌≡◌, ◌∙◌, ◌==◌, ◌+◌, ◌<◌, ◌≤◌, ◌∷◌, if◌then◌else◌, [], ℕ, zero, suc, List, Bool, length, take, drop, get_or, refl, sym, ap, arith, inl, inr, sum_by}
use Rattle.std.specs.List.{All}
use Rattle.std.proofs.lemmas.Bool.{cases_Bool}
use Rattle.std.proofs.lemmas.List.{length-drop, take_all, take_more}
use Rattle.std.proofs.lemmas.List.Sums.{sum_by-append, sum_by-cons}
use Rattle.hx_base.specs.Pixels.{PixelContains, count_in, pixel_of}
use Rattle.hx_base.specs.declared.pixel.Pixel.{Pixel}
use Rattle.hx_base.specs.declared.row.Row.{Row}
use Rattle.hx_hist.specs.Histograms.{Histogram, IsHistogram, count_at, total_of}
use Rattle.hx_hist.specs.declared.hist.Pair.{Pair}
use Rattle.hx_hist.proofs.Pairs.{count_at_is, share}
use Rattle.hx_spill.specs.Values.{AreCountsOf}

-- a pixel of an order
abbrev of_order : ℕ → ℕ → Pixel
of_order order number = record { order = order; number = number }

-- one row more
count_row : (pixel : Pixel) (row : Row) (rows : List Row) → count_in pixel (row ∷ rows) ≡ (if pixel_of pixel.order row.hp == pixel.number then 1 else 0) + count_in pixel rows
count_row pixel row rows = elim (cases_Bool (pixel_of pixel.order row.hp == pixel.number)) [ inl is ↦ rw is (omega arith) | inr not ↦ rw not (omega arith) ]

ifs_add : (b : Bool) (m n : ℕ) → (if b then m else 0) + (if b then n else 0) ≡ (if b then m + n else 0)
ifs_add b m n = elim (cases_Bool b) [ inl is ↦ rw is refl | inr not ↦ rw not refl ]

if_none : (b : Bool) → ◌≡◌ {A = ℕ} (if b then 0 else 0) 0
if_none b = elim (cases_Bool b) [ inl is ↦ rw is refl | inr not ↦ rw not refl ]

-- the first rows lie in one pixel
front_counts : (order p q count : ℕ) (rows : List Row) → count ≤ length rows → All (PixelContains (of_order order q)) (take count rows)
    → count_in (of_order order p) rows ≡ (if q == p then count else 0) + count_in (of_order order p) (drop count rows)
front_counts order p q zero rows few within = omega (arith, if_none (q == p))
front_counts order p q (suc count) [] few within = absurd (omega (arith, few))
front_counts order p q (suc count) (row ∷ rows) few within =
    let here : pixel_of order row.hp ≡ q = within 0 row (omega arith) in
    let one : ℕ → ℕ = λ n. if n == p then 1 else 0 in
    let own : one (pixel_of order row.hp) ≡ one q = ap one here in
    let rest = front_counts order p q count rows (omega (arith, few)) (λ k d less. within (suc k) d (omega (arith, less))) in
    let next : 1 + count ≡ suc count = omega arith in
    let both = ifs_add (q == p) 1 count ∙ ap (λ (n : ℕ). if q == p then n else 0) next in
    omega (arith, count_row (of_order order p) row rows, own, rest, both)

module _ (order : ℕ) (rows : List Row) (pairs : List Pair) where
  -- so many pairs count the rows up to a rest of them
  pub record CountUpTo (i : ℕ) (rest : List Row) : Type 0 where
    pub counts : (p : ℕ) → count_at p (take i pairs) + count_in (of_order order p) rest ≡ count_in (of_order order p) rows
    pub total : total_of (take i pairs) + length rest ≡ length rows

  pub count_none : CountUpTo 0 rows
  count_none = record { counts = λ p. omega arith; total = omega arith }

  more_of : (f : Pair → ℕ) (i : ℕ) (d : Pair) → i < length pairs → sum_by f (take (i + 1) pairs) ≡ sum_by f (take i pairs) + f (get_or pairs i d)
  more_of f i d less = ap (sum_by f) (take_more pairs i d less) ∙ sum_by-append f (take i pairs) (get_or pairs i d ∷ []) ∙ omega (arith, sum_by-cons f (get_or pairs i d) [])

  pub count_pair : (i : ℕ) (d : Pair) (rest : List Row) → i < length pairs → (get_or pairs i d).count ≤ length rest → All (PixelContains (of_order order (get_or pairs i d).pixel)) (take (get_or pairs i d).count rest)
      → CountUpTo i rest → CountUpTo (i + 1) (drop (get_or pairs i d).count rest)
  count_pair i d rest less many within h =
      let pair = get_or pairs i d in record {
        counts = λ p.
            let more : count_at p (take (i + 1) pairs) ≡ count_at p (take i pairs) + share p pair =
            count_at_is p (take (i + 1) pairs) ∙ more_of (share p) i d less ∙ ap (λ (n : ℕ). n + share p pair) (sym (count_at_is p (take i pairs))) in
            omega (arith, more, front_counts order p pair.pixel pair.count rest many within, h.counts p);
        total = omega (arith, more_of (λ x. x.count) i d less, h.total, length-drop pair.count rest, many);
      }

-- all rows are counted
pub all_counted : (map : Histogram) (rows rest : List Row) (i : ℕ) → IsHistogram map.order map.pairs → length map.pairs ≤ i → length rest ≡ 0 → CountUpTo map.order rows map.pairs i rest → AreCountsOf map.order rows map
all_counted map rows [] i is end none h =
    let whole = take_all i map.pairs end in record {
      order_is = refl;
      histogram = is;
      counts = λ p. let here = h.counts p in let same = ap (count_at p) whole in omega (arith, here, same);
      total = let same = ap total_of whole in omega (arith, h.total, same);
    }
all_counted map rows (row ∷ rest) i is end none h = absurd (omega (arith, none))
