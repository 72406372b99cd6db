-- A folder in which each task is done is the catalogue of all inputs' rows.
use Rattle.std.proofs.Common.{◌≡◌, ◌<◌, ◌≤◌, ◌∙◌, ◌*◌, ◌++◌, ◌∷◌, if◌then◌else◌, ℕ, zero, suc, List, [], Some, Ok, Option, Bool, true, false, All, length, slice_get, slice_index_or, sum_by, refl, sym, ap, subst, ⊎_elim, arith}
use Rattle.std.proofs.lemmas.List.{length-append, length-map}
use Rattle.std.proofs.lemmas.List.Elements.{All-append, Contains-get_or}
use Rattle.std.proofs.lemmas.List.Sums.{sum_by-cons}
use Rattle.hx_align.specs.Plans.{pixels_of}
use Rattle.hx_align.specs.declared.plan.PlanRow.{PlanRow}
use Rattle.hx_base.specs.Contents.{AreMarginRows, partition_rows}
use Rattle.hx_base.specs.Limits.{FitsLimits, most_inputs, most_rows}
use Rattle.hx_base.specs.Names.{IsName}
use Rattle.hx_base.specs.Partitions.{ArePartitions}
use Rattle.hx_base.specs.Pixels.{AreDisjointInOrder, count_in}
use Rattle.hx_base.specs.Rows.{IsGood}
use Rattle.hx_base.specs.declared.pixel.Pixel.{Pixel}
use Rattle.hx_base.specs.declared.row.Row.{Row}
use Rattle.hx_base.specs.declared.task.Task.{Task}
use Rattle.hx_catalog.specs.Catalogues.{HasItsMargin, IsCatalogue}
use Rattle.hx_catalog.specs.Files.{AreListed, FileHolds, HoldsRows, rows_file}
use Rattle.hx_catalog.specs.Lists.{IsList, list_text}
use Rattle.hx_catalog.specs.Properties.{properties_text}
use Rattle.hx_inputs.specs.Inputs.{AreRows}
use Rattle.hx_journal.specs.declared.record.Record.{Record}
use Rattle.hx_outside.specs.Folders.{Folder}
use Rattle.hx_rows.proofs.Collecting.{AreRead}
use Rattle.hx_rows.proofs.Few.{csv-read, parquet-read}
use Rattle.hx_rows.specs.Csv.{csv_rows}
use Rattle.hx_rows.specs.Parquet.{parquet_rows}
use Rattle.hx_rows.specs.Reading.{names_parquet, rows_of}
use Rattle.hx_spill.proofs.One.{margin_once}
use Rattle.hx_book.specs.Tasks.{AreAllRows, AreParts, GoesByParts, HasKindsBefore, IsCut, IsTask, JobData, contents_of, count_of, names_of, pixel_at, task, task_path}
use Rattle.hx_book.specs.Values.{AreMargins, HasRows, IsFileOf, IsMarginFile, IsMarginText, IsValue, OfCut, OfPart, object_properties}
use Rattle.hx_book.specs.Resumable.{IsFiledWhole, IsUnderWay, IsWork, done_of}
use Rattle.hx_book.proofs.Ones.{cut_plans, cut_rows, parts_same}
use Rattle.hx_book.proofs.Steps.{done_from}

-- rows that were read are good, and no more than an input may have
read_rows : (name bytes : List ℕ) (rows : List Row) → rows_of name bytes ≡ Ok rows → AreRead 1 rows
unfolding rows_of
read_rows name bytes rows is = by (names_parquet name) is
  where
    by : (b : Bool) → (if b then parquet_rows bytes else csv_rows bytes) ≡ Ok rows → AreRead 1 rows
    by true e = parquet-read bytes rows e
    by false e = csv-read bytes rows e

pub record AreMany (count : ℕ) (rows : List Row) : Type 0 where
  pub few : length rows ≤ count * most_rows
  pub good : All IsGood rows

pub all_read : (names contents : List (List ℕ)) (rows : List Row) → AreRows names contents rows → AreMany (length names) rows
all_read [] [] rows is = subst (AreMany 0) (sym is) (record { few = omega arith; good = λ i d less. absurd (omega (arith, less)) })
all_read [] (c ∷ cs) rows is = absurd is
all_read (n ∷ ns) [] rows is = absurd is
all_read (n ∷ ns) (c ∷ cs) rows (first, rest, read, more, same) =
    let one = read_rows n c first read in
    let others = all_read ns cs rest more in
    subst (AreMany (suc (length ns))) (sym same) (record {
      few = let a = one.few in let b = others.few in omega (arith, a, b, length-append first rest);
      good = All-append IsGood first rest one.good others.good;
    })

-- the file of a task of a finished job that is no work file
record IsThere (job : JobData) (f : Folder) (t : Task) : Type 0 where
  parts : List Pixel
  are_parts : GoesByParts t.kind → AreParts job parts
  bytes : List ℕ
  there : f (task_path job.settings.name parts t) ≡ Some bytes
  value : IsValue job t bytes

module _ (job : JobData) (f : Folder) (records : List Record) (way : IsUnderWay job f records) (whole : HasKindsBefore job (done_of records) 9) where
  there_is : (kind number : ℕ) → 1 ≤ kind → kind < 9 → (IsWork kind → ⊥) → IsTask job (task kind number) → IsThere job f (task kind number)
  there_is kind number one small no_work is =
      let (r, among, same) = done_from records (task kind number) (whole kind one small number is) in
      ⊎_elim
      (λ free. absurd (no_work (subst (λ (t : Task). IsWork t.kind) same free.work)))
      (λ filed. subst (IsThere job f) same (record { parts = filed.parts; are_parts = filed.are_parts; bytes = filed.bytes; there = filed.there; value = filed.value }))
      (way.files r among)

  no_work : (kind : ℕ) → (kind ≡ 1 → ⊥) → (kind ≡ 2 → ⊥) → (kind ≡ 3 → ⊥) → (kind ≡ 5 → ⊥) → IsWork kind → ⊥
  no_work kind a b c d w = ⊎_elim a (λ x. ⊎_elim b (λ y. ⊎_elim c d y) x) w

  at_once : (kind number : ℕ) → number < count_of (length job.inputs) 0 kind → (GoesByParts kind → ⊥) → IsTask job (task kind number)
  at_once kind number less none = record { parts = []; are_parts = λ by. absurd (none by); numbered = less }

  alone : (kind number : ℕ) → 7 ≤ kind → kind < 9 → number < count_of (length job.inputs) 0 kind → IsThere job f (task kind number)
  alone kind number low high less = there_is kind number (omega (arith, low)) high (no_work kind (λ e. omega (arith, e, low)) (λ e. omega (arith, e, low)) (λ e. omega (arith, e, low)) (λ e. omega (arith, e, low)))
      (at_once kind number less (λ by. omega (arith, by.1, low)))

  cut_there : (t : IsThere job f (task 8 0)) → (all : List Row) × (plan : List PlanRow) × IsCut job all plan
  unfolding IsFileOf
  cut_there t = let v = t.value in (v.all, v.plan, v.cut)

  module _ (all : List Row) (plan : List PlanRow) (cut : IsCut job all plan) where
    are : AreParts job (pixels_of plan)
    are = record { rows = all; plan = plan; cut = cut; pixels = refl }

    -- what holds of rows and a plan holds of these
    of_these : (P : List Row → List PlanRow → Type 0) → OfCut job P → P all plan
    of_these P v =
        let rows = cut_rows job v.all all v.plan plan v.cut cut in
        let plans = cut_plans job v.all all v.plan plan v.cut cut in
        subst (λ (p : List PlanRow). P all p) plans (subst (λ (r : List Row). P r v.plan) rows v.holds)

    of_part : (kind number : ℕ) → 4 ≤ kind → kind ≤ 6 → (kind ≡ 5 → ⊥) → count_of (length job.inputs) (length (pixels_of plan)) kind ≡ length (pixels_of plan) → number < length (pixels_of plan) → IsThere job f (task kind number)
    of_part kind number low high other count less = there_is kind number (omega (arith, low)) (omega (arith, high)) (no_work kind (λ e. omega (arith, e, low)) (λ e. omega (arith, e, low)) (λ e. omega (arith, e, low)) other)
        (record { parts = pixels_of plan; are_parts = λ by. are; numbered = subst (λ (n : ℕ). number < n) (sym count) less })

    pixel_there : (n : ℕ) (d : Pixel) → n < length (pixels_of plan) → slice_get (pixels_of plan) n ≡ Some (slice_index_or (pixels_of plan) n d)
    pixel_there n d less = got (pixels_of plan) n d less
      where
        got : (xs : List Pixel) (n : ℕ) (d : Pixel) → n < length xs → slice_get xs n ≡ Some (slice_index_or xs n d)
        got [] n d less = absurd (omega (arith, less))
        got (x ∷ xs) zero d less = refl
        got (x ∷ xs) (suc n) d less = got xs n d (omega (arith, less))

    one_pixel : (n : ℕ) (a b : Pixel) → slice_get (pixels_of plan) n ≡ Some a → slice_get (pixels_of plan) n ≡ Some b → a ≡ b
    one_pixel n a b x y = let e : Some a ≡ Some b = sym x ∙ y in cc e

    holds_of : (rows : List Row) (bytes : List ℕ) → HasRows rows bytes → HoldsRows bytes rows
    holds_of rows bytes h = record { columns = h.columns; good = h.good; ascending = h.ascending }

    file_holds : (file : Option (List ℕ)) (bytes : List ℕ) (rows : List Row) → file ≡ Some bytes → HasRows rows bytes → FileHolds file rows
    file_holds file bytes rows is h = subst (λ (o : Option (List ℕ)). FileHolds o rows) (sym is) (holds_of rows bytes h)

    -- a partition's own file
    own_file : (n : ℕ) (d : Pixel) → n < length (pixels_of plan) → FileHolds (f (rows_file job.settings.name false (slice_index_or (pixels_of plan) n d))) (partition_rows (slice_index_or (pixels_of plan) n d) all)
    unfolding IsFileOf
    own_file n d less =
        let t = of_part 4 n (omega arith) (omega arith) (λ e. omega (arith, e)) refl less in
        let here = of_these (λ rows p. OfPart p n (λ part. HasRows (partition_rows part rows) t.bytes)) t.value in
        let same : here.part ≡ slice_index_or (pixels_of plan) n d = one_pixel n _ _ here.there (pixel_there n d less) in
        let lists = parts_same job t.parts (pixels_of plan) (t.are_parts (omega arith, omega arith)) are in
        let path : f (rows_file job.settings.name false (pixel_at (pixels_of plan) n)) ≡ Some t.bytes = subst (λ (l : List Pixel). f (rows_file job.settings.name false (pixel_at l n)) ≡ Some t.bytes) lists t.there in
        let pixel : pixel_at (pixels_of plan) n ≡ slice_index_or (pixels_of plan) n d = one_pixel n _ _ (pixel_there n (record { order = 0; number = 0 }) less) (pixel_there n d less) in
        file_holds _ t.bytes _ (subst (λ (x : Pixel). f (rows_file job.settings.name false x) ≡ Some t.bytes) pixel path) (subst (λ (x : Pixel). HasRows (partition_rows x all) t.bytes) same here.holds)

    -- its margin's
    margin_file : (n : ℕ) (d : Pixel) → n < length (pixels_of plan) → HasItsMargin f job.settings.name job.settings.margin_order all (slice_index_or (pixels_of plan) n d)
    unfolding IsFileOf
    margin_file n d less =
        let t = of_part 6 n (omega arith) (omega arith) (λ e. omega (arith, e)) refl less in
        let here = of_these (λ rows p. OfPart p n (IsMarginFile job rows t.bytes)) t.value in
        let same : here.part ≡ slice_index_or (pixels_of plan) n d = one_pixel n _ _ here.there (pixel_there n d less) in
        let lists = parts_same job t.parts (pixels_of plan) (t.are_parts (omega arith, omega arith)) are in
        let path : f (rows_file job.settings.name true (pixel_at (pixels_of plan) n)) ≡ Some t.bytes = subst (λ (l : List Pixel). f (rows_file job.settings.name true (pixel_at l n)) ≡ Some t.bytes) lists t.there in
        let pixel : pixel_at (pixels_of plan) n ≡ slice_index_or (pixels_of plan) n d = one_pixel n _ _ (pixel_there n (record { order = 0; number = 0 }) less) (pixel_there n d less) in
        let found = here.holds in
        record {
          margin = found.margin;
          is = subst (λ (x : Pixel). AreMarginRows x job.settings.margin_order all found.margin) same found.are;
          holds = file_holds _ t.bytes _ (subst (λ (x : Pixel). f (rows_file job.settings.name true x) ≡ Some t.bytes) pixel path) found.file;
        }

    -- all rows of the margins' files, one after another
    listed : (rest : List PlanRow) → ((i : ℕ) (d : Pixel) → i < length (pixels_of rest) → HasItsMargin f job.settings.name job.settings.margin_order all (slice_index_or (pixels_of rest) i d))
        → (margins : List (List Row)) → AreMargins job.settings.margin_order all rest margins → (rows : List Row) × AreListed f job.settings.name true (pixels_of rest) rows × (length rows ≡ sum_by length margins)
    listed [] each [] is = ([], refl, refl)
    listed [] each (m ∷ ms) is = absurd is
    listed (row ∷ rest) each [] is = absurd is
    listed (row ∷ rest) each (m ∷ ms) (is, more) =
        let own = each 0 row.pixel (omega arith) in
        let (rows, there, count) = listed rest (λ i d less. each (suc i) d (omega (arith, less))) ms more in
        let same : own.margin ≡ m = margin_once row.pixel job.settings.margin_order all own.margin m own.is is in (
          own.margin ++ rows,
          (own.margin, rows, record { holds = own.holds; belong = tt }, there, refl),
          omega (arith, length-append own.margin rows, ap (length {A = Row}) same, count, sum_by-cons (length {A = Row}) m ms),
        )

    -- the texts
    text_of : (kind number : ℕ) (t : IsThere job f (task kind number)) (path : List ℕ) → ((p : List Pixel) → task_path job.settings.name p (task kind number) ≡ path) → (text : List ℕ) → t.bytes ≡ text → f path ≡ Some text
    text_of kind number t path same text is = subst (λ (x : List ℕ). f x ≡ Some t.bytes) (same t.parts) t.there ∙ ap (λ (x : List ℕ). Some x) is

    module _ (few : length job.inputs ≤ most_inputs) (name : IsName job.settings.name) (limits : FitsLimits job.settings)
        (disjoint : (rows : List Row) (lowest highest threshold : ℕ) (pixels : List Pixel) → ArePartitions (λ pixel. count_in pixel rows) lowest highest threshold pixels → AreDisjointInOrder pixels) where
      many : AreMany (length job.inputs) all
      many = subst (λ (n : ℕ). AreMany n all) (length-map job.inputs (λ input. input.name)) (all_read (names_of job) (contents_of job) all cut.read)

      counted : length (pixels_of plan) ≡ length plan
      counted = length-map plan (λ (row : PlanRow). row.pixel)

      list_is : IsList (pixels_of plan)
      list_is = record {
        most = let l = cut.planned.few in omega (arith, l, counted);
        orders = λ i d less.
            let is = (cut.planned.partitions.partitions.exact (slice_index_or (pixels_of plan) i d)).0 (Contains-get_or (pixels_of plan) i d less) in
            omega (arith, is.not_higher, limits.highest);
        disjoint = disjoint all job.settings.lowest job.settings.highest job.settings.threshold (pixels_of plan) cut.planned.partitions.partitions;
      }

      pub catalogue_is : IsCatalogue f job.settings.name job.settings all
      unfolding IsFileOf
      catalogue_is =
          let properties = alone 8 0 (omega arith) (omega arith) (omega arith) in
          let list = alone 7 0 (omega arith) (omega arith) (omega arith) in
          let margin_list = alone 7 1 (omega arith) (omega arith) (omega arith) in
          let margin_properties = alone 7 2 (omega arith) (omega arith) (omega arith) in
          let margins = of_these (λ rows p. IsMarginText job rows p margin_properties.bytes) margin_properties.value in
          let (rows, there, count) = listed plan margin_file margins.margins margins.are in
          record {
            parts = pixels_of plan;
            good = many.good;
            texts = record {
              own = record {
                text = text_of 8 0 properties _ (λ p. refl) _ (of_these (λ rows p. properties.bytes ≡ properties_text (object_properties job rows p)) properties.value)
                    ∙ ap (λ (n : ℕ). Some (properties_text (record { settings = job.settings; margin = false; rows = length all; partitions = n }))) (sym counted);
                valid = record { name = name; limits = limits; rows = let m = many.few in omega (arith, m, few); partitions = let l = cut.planned.few in omega (arith, l, counted) };
                named = refl;
                kind = refl;
              };
              list = record { text = text_of 7 0 list _ (λ p. refl) _ (of_these (λ rows p. list.bytes ≡ list_text (pixels_of p)) list.value); valid = list_is };
            };
            cut = record { partitions = cut.planned.partitions.partitions; none_overfull = cut.planned.fits };
            contents = own_file;
            margin_list = text_of 7 1 margin_list _ (λ p. refl) _ (of_these (λ rows p. margin_list.bytes ≡ list_text (pixels_of p)) margin_list.value);
            margins = margin_file;
            margin_properties = record {
              margins = rows;
              listed = there;
              text = text_of 7 2 margin_properties _ (λ p. refl) _ margins.text
                  ∙ ap (λ (n : ℕ). Some (properties_text (record { settings = job.settings; margin = true; rows = n; partitions = length plan }))) (sym count)
                  ∙ ap (λ (n : ℕ). Some (properties_text (record { settings = job.settings; margin = true; rows = length rows; partitions = n }))) (sym counted);
            };
          }

pub finished : (job : JobData) (f : Folder) → length job.inputs ≤ most_inputs → IsName job.settings.name → FitsLimits job.settings → IsFiledWhole job f
    → ((rows : List Row) (lowest highest threshold : ℕ) (pixels : List Pixel) → ArePartitions (λ pixel. count_in pixel rows) lowest highest threshold pixels → AreDisjointInOrder pixels)
    → (rows : List Row) × AreAllRows job rows × IsCatalogue f job.settings.name job.settings rows
finished job f few name limits (records, way, whole) disjoint =
    let (all, plan, cut) = cut_there job f records way whole (alone job f records way whole 8 0 (omega arith) (omega arith) (omega arith)) in
    (all, cut.read, catalogue_is job f records way whole all plan cut few name limits disjoint)
