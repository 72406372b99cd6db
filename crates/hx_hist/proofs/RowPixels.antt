-- Counts of rows by pixel.
use Rattle.std.proofs.Common.{◌≡◌, ◌∙◌, ◌+◌, ◌*◌, ◌^◌, ◌<◌, ◌≤◌, ◌==◌, ◌∷◌, [], ℕ, List, map, sym, ap, refl, count_by, if◌then◌else◌}
use Rattle.std.specs.List.{All, sum_by}
use Rattle.std.specs.List.Sorted.{IsPermutation}
use Rattle.std.proofs.lemmas.List.Elements.{All-map, All-weaker}
use Rattle.std.proofs.lemmas.List.Sorted.{All-permutation, sum_by-IsPermutation}
use Rattle.std.proofs.lemmas.List.Sums.{sum_by-cons, length-filter}
use Rattle.hx_base.specs.Pixels.{count_in, pixel_of}
use Rattle.hx_base.specs.Rows.{IsGood}
use Rattle.hx_base.specs.declared.row.Row.{Row}
use Rattle.hx_base.proofs.Powers.{pixel_below}

sum_by-map : {X Y : Type 0} (g : Y → ℕ) (f : X → Y) (xs : List X) → sum_by g (map f xs) ≡ sum_by (λ x. g (f x)) xs
sum_by-map g f [] = refl
sum_by-map g f (x ∷ xs) = sum_by-cons g (f x) (map f xs) ∙ ap (λ n. g (f x) + n) (sum_by-map g f xs) ∙ sym (sum_by-cons (λ y. g (f y)) x xs)

-- how often a pixel stands in the pixels of rows, in any order
pub count_pixels : (order : ℕ) (rows : List Row) (pixels : List ℕ) → IsPermutation (map (λ row. pixel_of order row.hp) rows) pixels → (p : ℕ) → count_by (λ pixel. pixel == p) pixels ≡ count_in (record { order = order; number = p }) rows
count_pixels order rows pixels moved p =
    sum_by-IsPermutation (λ pixel. if pixel == p then 1 else 0) (map (λ (row : Row). pixel_of order row.hp) rows) pixels moved
    ∙ sum_by-map (λ pixel. if pixel == p then 1 else 0) (λ (row : Row). pixel_of order row.hp) rows ∙ sym (length-filter (λ (row : Row). pixel_of order row.hp == p) rows)

-- the pixels of good rows are of the order
pub pixels_range : (order : ℕ) (rows : List Row) (pixels : List ℕ) → order ≤ 29 → All IsGood rows → IsPermutation (map (λ row. pixel_of order row.hp) rows) pixels → All (λ pixel. pixel < 12 * 4 ^ order) pixels
pixels_range order rows pixels h good moved =
    All-permutation (λ pixel. pixel < 12 * 4 ^ order) (map (λ (row : Row). pixel_of order row.hp) rows) pixels moved
    (All-map (λ pixel. pixel < 12 * 4 ^ order) (λ (row : Row). pixel_of order row.hp) rows
    (All-weaker IsGood (λ (row : Row). pixel_of order row.hp < 12 * 4 ^ order) (λ row g. pixel_below order row.hp h g.pixel) rows good))
