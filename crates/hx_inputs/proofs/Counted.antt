-- Counts of the rows of inputs.
use Rattle.std.proofs.Common.{◌≡◌, ◌∙◌, ◌+◌, ◌==◌, ◌++◌, length, ℕ, List, sym, ap}
use Rattle.std.proofs.lemmas.List.{length-append}
use Rattle.std.proofs.lemmas.List.Elements.{filter-append}
use Rattle.hx_base.specs.Pixels.{count_in, pixel_of, rows_in}
use Rattle.hx_base.specs.declared.row.Row.{Row}

-- the counts of more rows
pub count_more : (order same : ℕ) (rows more : List Row) (old new : ℕ → ℕ) → same ≡ order → ((p : ℕ) → old p ≡ count_in (record { order = order; number = p }) rows)
    → ((p : ℕ) → new p ≡ old p + count_in (record { order = same; number = p }) more) → (p : ℕ) → new p ≡ count_in (record { order = order; number = p }) (rows ++ more)
count_more order same rows more old new is counted added p =
    let both : count_in (record { order = order; number = p }) (rows ++ more) ≡ count_in (record { order = order; number = p }) rows + count_in (record { order = order; number = p }) more =
    ap (λ (xs : List Row). length xs) (filter-append (λ (row : Row). pixel_of order row.hp == p) rows more) ∙ length-append (rows_in (record { order = order; number = p }) rows) _ in
    added p ∙ rw is (ap (λ (n : ℕ). n + count_in (record { order = order; number = p }) more) (counted p)) ∙ sym both
