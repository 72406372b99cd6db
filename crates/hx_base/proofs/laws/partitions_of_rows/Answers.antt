use Rattle.std.proofs.Common.{◌≡◌, ◌<◌, ◌≤◌, ◌==◌, ◌∷◌, [], ℕ, List, Bool, true, zero, suc, filter, length, get_or, arith, inl, inr}
use Rattle.std.proofs.lemmas.Bool.{cases_Bool, eq-eqb}
use Rattle.std.proofs.lemmas.Bool.Decides.{Decides-eqb}
use Rattle.hx_base.specs.Pixels.{HoldsPosition, count_in, pixel_of}
use Rattle.hx_base.specs.declared.pixel.Pixel.{Pixel}
use Rattle.hx_base.specs.declared.row.Row.{Row}
use Rattle.hx_base.proofs.Partitions.{IsMonotone, holders_one, holds_outer, in_a_partition, partitions_disjoint}
use Rattle.hx_base.proofs.laws.partitions_of_rows.Goals as goal

-- what passes a narrower test passes the wider
fewer : (p q : Row → Bool) (rows : List Row) → ((row : Row) → p row ≡ true → q row ≡ true) → length (filter p rows) ≤ length (filter q rows)
fewer p q [] wider = omega arith
fewer p q (row ∷ rows) wider =
    let rest = fewer p q rows wider in
    elim (cases_Bool (p row)) [
      | inl is ↦ rw (is, wider row is) (omega arith)
      | inr not ↦ elim (cases_Bool (q row)) [ inl is2 ↦ rw (not, is2) (omega arith) | inr not2 ↦ rw (not, not2) rest ]
    ]

-- a row that passes is counted
counted : (p : Row → Bool) (rows : List Row) (k : ℕ) (d : Row) → k < length rows → p (get_or rows k d) ≡ true → 1 ≤ length (filter p rows)
counted p [] k d within is = absurd (omega (arith, within))
counted p (row ∷ rows) zero d within is = rw is (omega arith)
counted p (row ∷ rows) (suc k) d within is =
    let rest = counted p rows k d (omega (arith, within)) is in
    elim (cases_Bool (p row)) [ inl here ↦ rw here (omega arith) | inr not ↦ rw not rest ]

test : Pixel → Row → Bool
test pixel row = pixel_of pixel.order row.hp == pixel.number

rows_grow : (highest : ℕ) (rows : List Row) → IsMonotone highest (λ pixel. count_in pixel rows)
unfolding test
rows_grow highest rows = record {
  grows = λ inner outer exists within lies.
      fewer (test inner) (test outer) rows (λ row is. eq-eqb (pixel_of outer.order row.hp) outer.number (holds_outer inner outer row.hp exists.order lies ((Decides-eqb _ _).0 is)));
}

pub returns-clause-disjoint : goal.returns-clause-disjoint
returns-clause-disjoint c = λ rows lowest highest threshold pixels parts. partitions_disjoint (λ pixel. count_in pixel rows) lowest highest threshold (rows_grow highest rows) pixels parts

pub returns-clause-each_once : goal.returns-clause-each_once
unfolding test
returns-clause-each_once c = λ rows lowest highest threshold pixels good orders within fits parts. λ k d inside.
    let count = λ (pixel : Pixel). count_in pixel rows in
    let place = (get_or rows k d).hp in
    let some = λ (pixel : Pixel). λ (holds : HoldsPosition pixel place). counted (test pixel) rows k d inside (eq-eqb (pixel_of pixel.order place) pixel.number holds) in
    let found = in_a_partition count lowest highest threshold place orders within (good k d inside) some fits in
    let apart = partitions_disjoint count lowest highest threshold (rows_grow highest rows) pixels parts in
    holders_one place pixels found.0 apart.disjoint ((parts.exact found.0).1 found.1) found.2
