-- A part of a recorded task's file, by the file's value and by its bytes.
use Rattle.std.proofs.Common.{◌≡◌, ◌<◌, ◌≤◌, ◌==◌, ◌∙◌, ℕ, List, [], All, map, MatchOption, Option, Some, None, Ok, Err, Vec, length, slice_get, take, refl, sym, ap, ⊎_elim, ne_eqb, arith}
use Rattle.std.specs.declared.alloc.Global.{Global}
use Rattle.std.proofs.lemmas.Option.{slice_get_cases}
use Rattle.hx_align.specs.Plans.{pixels_of}
use Rattle.hx_align.specs.declared.plan.PlanRow.{PlanRow}
use Rattle.hx_base.specs.Columns.{◌>>=◌}
use Rattle.hx_base.specs.Contents.{AreMarginRows, partition_rows}
use Rattle.hx_base.specs.declared.pixel.Pixel.{Pixel}
use Rattle.hx_base.specs.declared.refusal.JobFile.{JobFile}
use Rattle.hx_base.specs.declared.refusal.JobFile.TheVariants as file
use Rattle.hx_base.specs.declared.refusal.SpillRefusal.TheVariants as spill_refusal
use Rattle.hx_base.specs.declared.row.Row.{Row}
use Rattle.hx_hist.proofs.Pairs.{filter_none}
use Rattle.hx_outside.specs.Faults.{Rose}
use Rattle.hx_outside.specs.declared.store.StoreError.TheVariants as store_error
use Rattle.hx_spill.proofs.Alone.{has_slices}
use Rattle.hx_spill.specs.Alone.{LeadsTo}
use Rattle.hx_spill.specs.Items.{Read}
use Rattle.hx_spill.specs.Splits.{slice, slice_place, split_in}
use Rattle.hx_spill.specs.Values.{ArePlaced}
use Rattle.hx_spill.specs.declared.split.Placed.{Placed}
use Rattle.hx_spill.specs.declared.split.SlicePlace.{SlicePlace}
use Rattle.hx_book.specs.Tasks.{JobData}
use Rattle.hx_book.specs.Values.{IsFileOf}
use Rattle.hx_book.specs.Books.{JobMembers}
use Rattle.hx_book.specs.Slices.{Answers, GoTo, HasParts, IsSliceCause, IsSliceOf, of_slice, read_alone, rows_found}
use Rattle.hx_book.specs.declared.slices.SliceError.{SliceError}
use Rattle.hx_book.specs.declared.slices.SliceError.TheVariants as error

-- a number past all partitions has no rows
slice_past : (placed : List Placed) (part n : ℕ) → All (λ p. p.part < n) placed → n ≤ part → slice part placed ≡ []
slice_past placed part n all past =
    ap (λ (l : List Placed). map_rows l) (filter_none (λ (p : Placed). p.part == part) placed (λ k d within. ne_eqb _ part (λ e. let l = all k d within in omega (arith, l, e, past))))
  where
    map_rows : List Placed → List Row
    map_rows l = map (λ (p : Placed). p.row) l

past_end : {X : Type 0} (xs : List X) (n : ℕ) → slice_get xs n ≡ None → length xs ≤ n
past_end xs n none = ⊎_elim (λ (x, within, is, at). absurd (let c : None ≡ Some x = sym none ∙ is in cc c)) (λ (past, is). past) (slice_get_cases xs n).1

-- what goes to the partition of a number
goes : (plan : List PlanRow) (part : ℕ) (Goes : Pixel → List Row → Type 0) (placed : List Placed) → ArePlaced (pixels_of plan) Goes placed → GoTo plan part (λ pixel. Goes pixel (slice part placed)) (slice part placed)
goes plan part Goes placed are = by (slice_get (pixels_of plan) part) refl
  where
    by : (o : Option Pixel) → slice_get (pixels_of plan) part ≡ o → MatchOption o (slice part placed ≡ []) (λ pixel. Goes pixel (slice part placed))
    by None e = slice_past placed part (length (pixels_of plan)) are.no_other (past_end (pixels_of plan) part e)
    by (Some pixel) e = are.each part pixel e

pub slice_of_file : (job : JobData) (part : ℕ) (bytes : List ℕ) (f : JobFile) → HasParts f → IsFileOf job bytes f → (placed : List Placed) × (split_in bytes ≡ Ok placed) × IsSliceOf job f part (slice part placed)
unfolding IsFileOf
slice_of_file job part bytes (file.Split input) has v =
    let s = v.holds in
    (s.file.placed, s.file.reads, record { all = v.all; plan = v.plan; cut = v.cut; holds = record { own = s.rows; are = s.are; go = goes v.plan part (λ pixel there. there ≡ partition_rows pixel s.rows) s.file.placed s.file.value } })
slice_of_file job part bytes (file.MarginSplit number) has v =
    let o = v.holds in
    (o.holds.placed, o.holds.reads, record { all = v.all; plan = v.plan; cut = v.cut; holds = record { part = o.part; there = o.there; holds = goes v.plan part (λ pixel there. AreMarginRows pixel job.settings.margin_order (partition_rows o.part v.all) there) o.holds.placed o.holds.value } })
slice_of_file job part bytes file.Journal has v = absurd has
slice_of_file job part bytes (file.Map input) has v = absurd has
slice_of_file job part bytes file.Plan has v = absurd has
slice_of_file job part bytes (file.Part number) has v = absurd has
slice_of_file job part bytes (file.Margin number) has v = absurd has
slice_of_file job part bytes file.List has v = absurd has
slice_of_file job part bytes file.MarginList has v = absurd has
slice_of_file job part bytes file.MarginProperties has v = absurd has
slice_of_file job part bytes file.Properties has v = absurd has

-- what is read of a part alone is its slice
pub alone_is : (part : ℕ) (bytes : List ℕ) (placed : List Placed) → split_in bytes ≡ Ok placed → read_alone part bytes ≡ Ok (slice part placed)
alone_is part bytes placed reads =
    let has = has_slices bytes placed reads in
    let (found, told, leads) = has.each_part part in
    ap (λ (r : Read ℕ). r >>= λ width. slice_place part (take width bytes) >>= λ f. rows_found f bytes) has.front
    ∙ (ap (λ (r : Read (Option SlicePlace)). r >>= λ f. rows_found f bytes) told ∙ rows found leads)
  where
    rows : (found : Option SlicePlace) → LeadsTo bytes found (slice part placed) → rows_found found bytes ≡ Ok (slice part placed)
    rows None none = ap Ok (sym none)
    rows (Some place) alone = alone.read

pub answered : (v : Vec Row Global) (read : Read (List Row)) (rows : List Row) → Answers (Ok v) read → read ≡ Ok rows → rows ≡ v.items
answered v read rows answers is = let c : Ok rows ≡ Ok v.items = sym is ∙ answers in cc c

pub slice_cause : (j : JobMembers) (asked : JobFile) (now : ℕ) (why : SliceError) → (j.premises → (rows : List Row) × Answers (Err why) (Ok rows)) → (why ≡ error.Store store_error.Failed → Rose j.before now) → IsSliceCause j asked now (of_slice asked why)
slice_cause j asked now (error.Store store_error.Failed) told failed = failed refl
slice_cause j asked now (error.Store store_error.Memory) told failed = tt
slice_cause j asked now (error.Spill (spill_refusal.Damaged place)) told failed = (refl, refl, λ p. let (rows, same) = told p in cc same)
slice_cause j asked now (error.Spill spill_refusal.Memory) told failed = tt
