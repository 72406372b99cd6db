-- A file's head tells how many rows it has.
use Rattle.std.proofs.Common.{◌≡◌, ◌∙◌, ◌+◌, ◌*◌, ◌^◌, ◌<◌, ◌≤◌, ◌∷◌, ◌++◌, ◌&&◌, ◌==◌, [], ℕ, List, Bool, true, false, Ok, Err, length, map, refl, sym, ap, arith, nat_le, nat_lt}
use Rattle.std.specs.Prelude.{codes}
use Rattle.std.proofs.lemmas.Bool.{eqb-true}
use Rattle.std.proofs.lemmas.List.{length-append, length-map}
use Rattle.std.proofs.lemmas.List.Sums.{sum_by-cons}
use Rattle.hx_base.proofs.RowValues.{value-of}
use Rattle.hx_base.specs.Columns.{◌>>=◌}
use Rattle.hx_base.specs.Limits.{most_rows}
use Rattle.hx_base.specs.declared.row.Row.{Row}
use Rattle.hx_hist.specs.Histograms.{Histogram, total_of}
use Rattle.hx_hist.specs.declared.hist.Pair.{Pair}
use Rattle.hx_spill.specs.Items.{each, ended, kept, mark, number}
use Rattle.hx_spill.specs.Maps as Maps
use Rattle.hx_spill.specs.Splits as Splits
use Rattle.hx_spill.specs.Splits.{placed_at, placed_in, rows_of, slice_in, split_in}
use Rattle.hx_spill.specs.declared.split.Placed.{Placed}
use Rattle.hx_spill.specs.declared.split.head.Entry.{Entry}
use Rattle.hx_spill.proofs.Each.{each-length, kept-is}
use Rattle.hx_spill.proofs.Told.{parts}

placed_length : (n : ℕ) (bytes : List ℕ) (entries : List Entry) (placed : List Placed) → placed_in n bytes entries ≡ Ok placed → length placed ≡ rows_of entries
placed_length n bytes [] placed read = let none : [] ≡ placed = cc read in rw (← none) refl
placed_length n bytes (entry ∷ entries) placed read =
    let rows = value-of (slice_in n bytes entry) _ placed read in
    let more = value-of (placed_in n bytes entries) _ placed rows.2 in
    let made : map (placed_at entry.part) rows.0 ++ more.0 ≡ placed = cc more.2 in
    let count = each-length _ entry.rows rows.0 rows.1 in
    let rest = placed_length n bytes entries more.0 more.1 in
    ap length (sym made) ∙ length-append (map (placed_at entry.part) rows.0) more.0
    ∙ omega (arith, length-map rows.0 (placed_at entry.part), count, rest, sum_by-cons (λ (e : Entry). e.rows) entry entries)

pub split_rows_told : (bytes : List ℕ) (placed : List Placed) → split_in bytes ≡ Ok placed → Splits.rows_in_head bytes ≡ Ok (length placed)
unfolding Splits.rows_in_head
split_rows_told bytes placed is =
    let p = parts bytes placed is in
    let count = placed_length (length p.0) bytes p.0 placed p.2 in
    rw (p.1, count) refl

pub map_rows_told : (bytes : List ℕ) (hist : Histogram) → Maps.map_in bytes ≡ Ok hist → Maps.rows_in_head bytes ≡ Ok (total_of hist.pairs)
unfolding Maps.map_in Maps.rows_in_head
map_rows_told bytes hist is =
    let marked = value-of (mark (codes "HXM1") bytes) _ hist is in
    let order = value-of (number 4 (λ k. nat_le k 29) 4 bytes) _ hist marked.2 in
    let rows = value-of (number 8 (λ n. nat_le n most_rows) 8 bytes) _ hist order.2 in
    let n = value-of (number 8 (λ _. true) 16 bytes) _ hist rows.2 in
    let pairs = value-of (each n.0 (Maps.pair_behind order.0 bytes)) _ hist n.2 in
    let ends = value-of (ended (Maps.place_of_pair n.0) bytes) _ hist pairs.2 in
    let whole = kept-is (total_of pairs.0 == rows.0) hist (record { order = order.0; pairs = pairs.0 }) 8 (sym ends.2) in
    let same : total_of hist.pairs ≡ total_of pairs.0 = ap (λ (h : Histogram). total_of h.pairs) whole.1 in
    let told : total_of pairs.0 ≡ rows.0 = eqb-true _ _ whole.0 in
    rw (marked.1, order.1) (rows.1 ∙ ap Ok (sym told ∙ sym same))
