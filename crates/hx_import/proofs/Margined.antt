-- The files of a partition's rows in margins, and of its margin.
use Rattle.std.proofs.Common.{◌≡◌, ◌<◌, ◌≤◌, ◌==◌, ◌*◌, ◌^◌, ◌∷◌, ◌∙◌, ℕ, ℤ, suc, List, Result, [], Some, Ok, Err, All, IfOk, get_or, length, slice_get, refl, sym, ap, subst, arith, inl, inr}
use Rattle.std.specs.List.{Any}
use Rattle.std.specs.List.Sorted.{IsSorted}
use Rattle.std.proofs.lemmas.Bool.{cases_Bool}
use Rattle.std.proofs.lemmas.Bool.Decides.{Decides-eqb}
use Rattle.hx_align.specs.Plans.{pixels_of}
use Rattle.hx_align.specs.declared.plan.PlanRow.{PlanRow}
use Rattle.hx_base.specs.Columns.{◌>>=◌, column_names}
use Rattle.hx_base.specs.Contents.{AreMarginRows, partition_rows}
use Rattle.hx_base.specs.Limits.{FitsLimits, most_rows}
use Rattle.hx_base.specs.Partitions.{ArePartitions, NothingOverfull, holders_of}
use Rattle.hx_base.specs.Pixels.{AreDisjointInOrder, HoldsPosition, PixelContains, count_in, pixel_of}
use Rattle.hx_base.specs.Rows.{IsGood, row_cmp, sorted_rows}
use Rattle.hx_base.specs.declared.pixel.Pixel.{Pixel}
use Rattle.hx_base.specs.declared.refusal.JobFile.TheVariants as file
use Rattle.hx_base.specs.declared.row.Row.{Row}
use Rattle.hx_margin.specs.Around.{AreAround}
use Rattle.hx_margin.proofs.Placing.{rows_held}
use Rattle.hx_margin.proofs.Whole.{gathered_margin}
use Rattle.hx_pqmeta.specs.declared.refusal.PqRefusal.{PqRefusal}
use Rattle.hx_pqread.specs.Columns.{columns_in}
use Rattle.hx_catalog.specs.Answers.{damage_place}
use Rattle.hx_rows.specs.Parquet.{in_file, parquet_rows, rows_of_columns}
use Rattle.hx_spill.specs.Values.{IsMarginSplitFile}
use Rattle.hx_work.specs.Work.{IsReduced, Work}
use Rattle.hx_book.specs.Books.{JobMembers, job_of}
use Rattle.hx_book.specs.Tasks.{IsCut, JobData, contents_of, names_of}
use Rattle.hx_book.specs.Values.{HasRows, IsFileOf, OfPart}
use Rattle.hx_import.specs.Given.{GathersAround, GathersSlices, IsCutFor}
use Rattle.hx_import.proofs.Cuts.{of_these}
use Rattle.hx_import.proofs.Gathered.{one_pixel}
use Rattle.hx_import.proofs.Reduced.{all_good, has_rows}

-- a partition's file is read as rows
pub part_reads : (job : JobData) (bytes : List ℕ) (number row why : ℕ) → IsFileOf job bytes (file.Part number) → parquet_rows bytes ≡ Err (row, why) → ⊥
unfolding IsFileOf
part_reads job bytes number row why value fault =
    let rows = value.holds.holds in
    let both = sym rows.read ∙ fault in
    cc both

-- a file that is read as rows is damaged at its beginning alone
pub no_fault : (bytes : List ℕ) (rows : List Row) → parquet_rows bytes ≡ Ok rows → damage_place (columns_in bytes column_names) ≡ 0
unfolding parquet_rows
no_fault bytes rows is = by (columns_in bytes column_names) is
  where
    by : (read : Result (List (List ℤ)) PqRefusal) → (in_file read >>= rows_of_columns) ≡ Ok rows → damage_place read ≡ 0
    by (Ok lists) e = refl
    by (Err fault) e = cc e

module _ (j : JobMembers) (number : ℕ) (part : Pixel) (bytes : List ℕ) (rows : List Row) (reads : parquet_rows bytes ≡ Ok rows) (value : j.premises → IsFileOf (job_of j) bytes (file.Part number))
    (plan : List PlanRow) (parts : List Pixel) (cut : IsCutFor j plan parts) (there : slice_get parts number ≡ Some part) where
  at_part : slice_get (pixels_of plan) number ≡ Some part
  at_part = subst (λ (ps : List Pixel). slice_get ps number ≡ Some part) cut.pixels there

  -- its rows are the partition's
  rows_of_part : (p : j.premises) → rows ≡ partition_rows part (cut.cut p).0
  unfolding IsFileOf
  rows_of_part p =
      let (all, is_cut) = cut.cut p in
      let own = of_these (job_of j) (λ all plan. OfPart plan number (λ part. HasRows (partition_rows part all) bytes)) all plan is_cut (value p) in
      let same : own.part ≡ part = one_pixel (pixels_of plan) number own.part part own.there at_part in
      let both : Ok rows ≡ Ok (partition_rows own.part all) = sym reads ∙ own.holds.read in
      let is : rows ≡ partition_rows own.part all = cc both in
      is ∙ ap (λ (x : Pixel). partition_rows x all) same

  pub margin_split : (made : List ℕ) → IsMarginSplitFile parts j.settings.margin_order rows made → j.premises → IsFileOf (job_of j) made (file.MarginSplit number)
  unfolding IsFileOf
  margin_split made is p =
      let (all, is_cut) = cut.cut p in record {
        all = all;
        plan = plan;
        cut = is_cut;
        holds = record {
          part = part;
          there = at_part;
          holds = subst (λ (ps : List Pixel). IsMarginSplitFile ps j.settings.margin_order (partition_rows part all) made) cut.pixels
              (subst (λ (rs : List Row). IsMarginSplitFile parts j.settings.margin_order rs made) (rows_of_part p) is);
        };
      }

  -- they ascend
  pub ascending : j.premises → IsSorted row_cmp rows
  unfolding IsFileOf
  ascending p =
      let (all, is_cut) = cut.cut p in
      let own = of_these (job_of j) (λ all plan. OfPart plan number (λ part. HasRows (partition_rows part all) bytes)) all plan is_cut (value p) in
      let both : Ok rows ≡ Ok (partition_rows own.part all) = sym reads ∙ own.holds.read in
      let is : rows ≡ partition_rows own.part all = cc both in
      subst (IsSorted row_cmp) (sym is) own.holds.ascending

  -- and the partition contains them
  pub all_contained : j.premises → All (PixelContains part) rows
  all_contained p =
      let all = (cut.cut p).0 in
      subst (All (PixelContains part)) (sym (rows_of_part p))
      (λ k d less.
      let (x, at, holds) = rows_held parts number part all there k d less in
      let same : x ≡ part = one_pixel parts number x part at there in
      subst (λ (y : Pixel). HoldsPosition y (get_or (partition_rows part all) k d).hp) same holds)

-- where some partition is kept that holds a position, some partition holds it
held : (position : ℕ) (parts : List Pixel) → 1 ≤ length (holders_of position parts) → Any (λ part. HoldsPosition part position) parts
held position [] h = absurd (omega (arith, h))
held position (part ∷ parts) h =
    elim (cases_Bool (pixel_of part.order position == part.number)) [
      | inl e ↦ (0, part, omega arith, refl, (Decides-eqb (pixel_of part.order position) part.number).0 e)
      | inr e ↦
          let rest = held position parts (rw e at h) in
          (suc rest.0, rest.1, omega (arith, rest.2), rest.3, rest.4)
    ]

-- the two laws on the partitions of rows
abbrev pub EachOnce : Type 0
EachOnce = (rows : List Row) (lowest highest threshold : ℕ) (pixels : List Pixel) → All (λ row. row.hp < 12 * 4 ^ 29) rows → lowest ≤ highest → highest ≤ 29
    → NothingOverfull (λ pixel. count_in pixel rows) highest threshold → ArePartitions (λ pixel. count_in pixel rows) lowest highest threshold pixels
    → All (λ row. length (holders_of row.hp pixels) ≡ 1) rows

abbrev pub AreApart : Type 0
AreApart = (rows : List Row) (lowest highest threshold : ℕ) (pixels : List Pixel) → ArePartitions (λ pixel. count_in pixel rows) lowest highest threshold pixels → AreDisjointInOrder pixels

-- each row lies in a partition
pub covered : EachOnce → (job : JobData) (all : List Row) (plan : List PlanRow) → FitsLimits job.settings → IsCut job all plan → All (λ row. Any (λ p. PixelContains p row) (pixels_of plan)) all
covered once job all plan limits cut =
    let s = job.settings in
    let good = all_good (names_of job) (contents_of job) all cut.read in
    let each = once all s.lowest s.highest s.threshold (pixels_of plan) (λ k d less. (good k d less).pixel) limits.lowest (omega (arith, limits.highest)) cut.planned.fits cut.planned.partitions.partitions in
    λ k d less. held (get_or all k d).hp (pixels_of plan) (omega (arith, each k d less))

module _ (once : EachOnce) (apart : AreApart) (j : JobMembers) (limits : FitsLimits j.settings) (number : ℕ) (part : Pixel) (numbers : List ℕ) (gathered : List Row)
    (good : All IsGood gathered) (few : length gathered ≤ most_rows) (plan : List PlanRow) (parts : List Pixel) (cut : IsCutFor j plan parts) (there : slice_get parts number ≡ Some part)
    (around : AreAround parts part numbers) (gathers : j.premises → GathersAround (job_of j) number numbers gathered) where
  pub margin : (result : Work) → IsReduced gathered result → IfOk result (λ made. j.premises → IsFileOf (job_of j) made.items (file.Margin number))
  unfolding IsFileOf
  margin (Ok made) is = λ p.
      let job = job_of j in
      let m = job.settings.margin_order in
      let (all, is_cut) = cut.cut p in
      let at : slice_get (pixels_of plan) number ≡ Some part = subst (λ (ps : List Pixel). slice_get ps number ≡ Some part) cut.pixels there in
      let own = of_these job (λ all plan. OfPart plan number (λ part. GathersSlices job part (pixels_of plan) all numbers gathered)) all plan is_cut (gathers p) in
      let same : own.part ≡ part = one_pixel (pixels_of plan) number own.part part own.there at in
      let slices = subst (λ (x : Pixel). GathersSlices job x (pixels_of plan) all numbers gathered) same own.holds in
      let disjoint = apart all job.settings.lowest job.settings.highest job.settings.threshold (pixels_of plan) is_cut.planned.partitions.partitions in
      let around : AreAround (pixels_of plan) part numbers = subst (λ (ps : List Pixel). AreAround ps part numbers) cut.pixels around in
      let whole = gathered_margin all (pixels_of plan) part m numbers slices.slices (omega (arith, limits.margin_most)) disjoint (covered once job all plan limits is_cut) around slices.are in
      let are : AreMarginRows part m all (sorted_rows gathered) = subst (λ (rs : List Row). AreMarginRows part m all (sorted_rows rs)) (sym slices.gathered_are) whole in record {
        all = all;
        plan = plan;
        cut = is_cut;
        holds = record { part = part; there = at; holds = record { margin = sorted_rows gathered; are = are; file = has_rows gathered made.items is good few } };
      }
  margin (Err r) is = tt
