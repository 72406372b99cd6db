-- Tables of counts, one for each pixel.
use Rattle.std.proofs.Common.{◌≡◌, ◌==◌, ◌+◌, ◌*◌, ◌^◌, ◌<◌, ◌≤◌, ℕ, List, All, get_or, length, arith, ap, inl, inr}
use Rattle.std.proofs.Math.ListN.{get_or-eq_default}
use Rattle.std.proofs.lemmas.Bool.{cases_lt, ne_eqb}
use Rattle.hx_base.proofs.Powers.{pixel_below}
use Rattle.hx_base.specs.Pixels.{count_in, pixel_of}
use Rattle.hx_base.specs.Rows.{IsGood}
use Rattle.hx_base.specs.declared.row.Row.{Row}
use Rattle.hx_hist.proofs.Pairs.{filter_none}

-- a number that is no pixel's contains no rows
no_rows : (order p : ℕ) (rows : List Row) → order ≤ 29 → All IsGood rows → 12 * 4 ^ order ≤ p → count_in (record { order = order; number = p }) rows ≡ 0
no_rows order p rows within good past =
    ap (λ (xs : List Row). length xs) (filter_none (λ (row : Row). pixel_of order row.hp == p) rows
    (λ k d there. ne_eqb _ p (λ same. let below = pixel_below order (get_or rows k d).hp within (good k d there).pixel in omega (arith, past, same, below))))

-- a table of an order's pixels counts for all numbers
pub counted_past : (order : ℕ) (rows : List Row) (old new : List ℕ) → order ≤ 29 → All IsGood rows → length old ≡ 12 * 4 ^ order → length new ≡ length old
    → ((p : ℕ) → p < 12 * 4 ^ order → get_or new p 0 ≡ get_or old p 0 + count_in (record { order = order; number = p }) rows) → (p : ℕ) → get_or new p 0 ≡ get_or old p 0 + count_in (record { order = order; number = p }) rows
counted_past order rows old new within good long same counts p =
    elim (cases_lt p (12 * 4 ^ order)) [
      | inl less ↦ counts p less
      | inr past ↦ omega (arith, get_or-eq_default old 0 {n = p} (omega (arith, past, long)), get_or-eq_default new 0 {n = p} (omega (arith, past, long, same)), no_rows order p rows within good past)
    ]
