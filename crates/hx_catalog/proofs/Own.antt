-- A folder that reads as a catalogue has a finished one, of the rows of its own files; and what it is to keep all sentences.
use Rattle.std.proofs.Common.{◌≡◌, ◌∙◌, ◌==◌, ◌++◌, ◌∷◌, [], ℕ, suc, zero, false, List, Option, None, Some, All, AllPairs, ap, arith, filter, get_or, inl, inr, length, refl, subst, sym}
use Rattle.std.proofs.lemmas.Bool.{cases_Bool}
use Rattle.std.proofs.lemmas.Bool.Decides.{Decides-eqb}
use Rattle.std.proofs.lemmas.List.{append-nil}
use Rattle.std.proofs.lemmas.List.Elements.{All-append, filter-append}
use Rattle.std.proofs.lemmas.List.Sorted.{All-permutation, IsPermutation-refl, length_permutation}
use Rattle.std.specs.List.Sorted.{IsPermutation, IsSorted}
use Rattle.hx_base.specs.Contents.{partition_rows}
use Rattle.hx_base.specs.Pixels.{AreDisjoint, PixelContains, count_in, pixel_of, rows_in}
use Rattle.hx_base.specs.Rows.{IsGood, row_cmp, sorted_rows}
use Rattle.hx_base.specs.declared.pixel.Pixel.{Pixel}
use Rattle.hx_base.specs.declared.row.Row.{Row}
use Rattle.hx_base.specs.declared.settings.Settings.{Settings}
use Rattle.hx_base.proofs.Partitions.{Agree, nothing_overfull_over, partitions_over}
use Rattle.hx_base.proofs.RowOrder.{only_sorted}
use Rattle.hx_outside.specs.Folders.{Folder}
use Rattle.hx_catalog.specs.Catalogues.{HasTexts, IsCatalogue, IsFinished, IsReadAsColumns, KeepsSentences, properties_with}
use Rattle.hx_catalog.specs.Files.{AreListed, FileHolds, HasRows, rows_file}
use Rattle.hx_catalog.specs.declared.properties.Properties.{Properties}
use Rattle.hx_catalog.proofs.Permuted.{kept, kept-is, own-permutes, own_rows}
use Rattle.hx_catalog.proofs.Whole.{AreApart, EachOnce, own-belong}

-- the law on sorted rows
abbrev AsOften : Type 0
AsOften = (rows : List Row) → IsPermutation rows (sorted_rows rows)

-- the files of partitions, one after another
own-listed : AsOften → (folder : Folder) (name : List ℕ) (parts : List Pixel) (rows : List Row) → All (λ part. FileHolds (folder (rows_file name false part)) (partition_rows part rows)) parts
    → AreListed folder name false parts (own_rows parts rows)
own-listed often folder name [] rows contents = refl
own-listed often folder name (part ∷ parts) rows contents = (
  partition_rows part rows,
  own_rows parts rows,
  record { holds = contents 0 part (omega arith); belong = own-belong often part rows },
  own-listed often folder name parts rows (λ k d less. contents (suc k) d (omega (arith, less))),
  refl,
)

-- another order of a catalogue's rows
module _ (folder : Folder) (name : List ℕ) (settings : Settings) (rows others : List Row) (moved : IsPermutation rows others) (is : IsCatalogue folder name settings rows) where
  same-length : length others ≡ length rows
  same-length = length_permutation rows others moved

  counts : Agree settings.highest (λ pixel. count_in pixel rows) (λ pixel. count_in pixel others)
  counts = record { same = λ pixel exists low. sym (length_permutation (rows_in pixel rows) (rows_in pixel others) (kept (λ row. pixel_of pixel.order row.hp == pixel.number) rows others moved)) }

  pub reordered : IsCatalogue folder name settings others
  reordered = record {
    parts = is.parts;
    good = All-permutation IsGood rows others moved is.good;
    texts = subst (λ (n : ℕ). HasTexts folder name (properties_with settings false n is.parts) is.parts) (sym same-length) is.texts;
    cut = record {
      partitions = partitions_over _ _ settings.lowest settings.highest settings.threshold counts is.parts is.cut.partitions;
      none_overfull = nothing_overfull_over _ _ settings.lowest settings.highest settings.threshold counts (let h = is.texts.own.valid.limits.highest in omega (arith, h)) is.cut.none_overfull;
    };
    contents = λ k d less.
        let part : Pixel = get_or is.parts k d in
        subst (λ (xs : List Row). FileHolds (folder (rows_file name false part)) xs) (kept-is (λ row. pixel_of part.order row.hp == part.number) rows others moved) (is.contents k d less);
    margin_list = is.margin_list;
    margins = λ k d less. let h = is.margins k d less in record {
      margin = h.margin;
      is = record { test = h.is.test; tells = h.is.tells; listed = h.is.listed ∙ kept-is h.is.test rows others moved };
      holds = h.holds;
    };
    margin_properties = is.margin_properties;
  }

module _ (once : EachOnce) (apart : AreApart) (often : AsOften) (folder : Folder) (name : List ℕ) where
  pub is-finished : (settings : Settings) (rows : List Row) → IsCatalogue folder name settings rows → (own : List Row) × IsPermutation rows own × IsFinished folder name settings own
  unfolding reordered
  is-finished settings rows is =
      let limits = is.texts.own.valid.limits in
      let each = once rows settings.lowest settings.highest settings.threshold is.parts (λ k d less. (is.good k d less).pixel) limits.lowest (let h = limits.highest in omega (arith, h)) is.cut.none_overfull is.cut.partitions in
      let disjoint = (apart rows settings.lowest settings.highest settings.threshold is.parts is.cut.partitions).disjoint in
      let moved = own-permutes is.parts rows disjoint each in
      let other = reordered folder name settings rows (own_rows is.parts rows) moved is in (
        own_rows is.parts rows,
        moved,
        record { catalogue = other; listed = own-listed often folder name is.parts rows is.contents },
      )

  -- what a file holds is good and ascends, and it has the five columns
  holds-good : (found : Option (List ℕ)) (rows : List Row) → FileHolds found rows → All IsGood rows
  holds-good None rows h = absurd h
  holds-good (Some bytes) rows h = h.good

  holds-ascending : (found : Option (List ℕ)) (rows : List Row) → FileHolds found rows → IsSorted row_cmp rows
  holds-ascending None rows h = absurd h
  holds-ascending (Some bytes) rows h = h.ascending

  holds-columns : (part : Pixel) (rows : List Row) (found : Option (List ℕ)) → folder (rows_file name false part) ≡ found → FileHolds found rows → IsReadAsColumns folder name part
  holds-columns part rows None there h = absurd h
  holds-columns part rows (Some bytes) there h = record { bytes = bytes; there = there; lists = _; columns = h.columns }

  -- all of the rows, or none, lie in a pixel
  all-within : (part : Pixel) (rows : List Row) → All (PixelContains part) rows → rows_in part rows ≡ rows
  all-within part [] h = refl
  all-within part (row ∷ rows) h =
      let e = (Decides-eqb (pixel_of part.order row.hp) part.number).1 (h 0 row (omega arith)) in
      rw e (ap (λ (xs : List Row). row ∷ xs) (all-within part rows (λ k d less. h (suc k) d (omega (arith, less)))))

  none-within : (part other : Pixel) (rows : List Row) → AreDisjoint part other → All (PixelContains other) rows → rows_in part rows ≡ []
  none-within part other [] apart' h = refl
  none-within part other (row ∷ rows) apart' h =
      elim (cases_Bool (pixel_of part.order row.hp == part.number)) [
        | inl here ↦ absurd (apart' row.hp ((Decides-eqb (pixel_of part.order row.hp) part.number).0 here) (h 0 row (omega arith)))
        | inr out ↦ rw out (none-within part other rows apart' (λ k d less. h (suc k) d (omega (arith, less))))
      ]

  none-listed : (part : Pixel) (parts : List Pixel) (rows : List Row) → All (AreDisjoint part) parts → AreListed folder name false parts rows → rows_in part rows ≡ []
  none-listed part [] rows apart' listed = ap (rows_in part) listed
  none-listed part (other ∷ parts) rows apart' (front, more, has, rest, is) =
      let here = none-within part other front (apart' 0 other (omega arith)) has.belong in
      let later = none-listed part parts more (λ k d less. apart' (suc k) d (omega (arith, less))) rest in
      ap (rows_in part) is ∙ filter-append (λ (row : Row). pixel_of part.order row.hp == part.number) front more ∙ (λ k. here k ++ later k)

  -- the rows of the first file, and of later ones
  first-own : (part : Pixel) (parts : List Pixel) (rows front more : List Row) → All (AreDisjoint part) parts → HasRows folder name false part front → AreListed folder name false parts more
      → rows ≡ front ++ more → partition_rows part rows ≡ front
  first-own part parts rows front more apart' has rest is =
      let here = all-within part front has.belong in
      let later = none-listed part parts more apart' rest in
      let kept' : rows_in part rows ≡ front = ap (rows_in part) is ∙ filter-append (λ (row : Row). pixel_of part.order row.hp == part.number) front more ∙ (λ k. here k ++ later k) ∙ append-nil front in
      ap sorted_rows kept' ∙ sym (only_sorted front front (holds-ascending (folder (rows_file name false part)) front has.holds) (IsPermutation-refl front))

  later-own : (part other : Pixel) (rows front more : List Row) → AreDisjoint other part → All (PixelContains part) front → rows ≡ front ++ more → partition_rows other rows ≡ partition_rows other more
  later-own part other rows front more from belong is =
      let here = none-within other part front from belong in
      ap sorted_rows (ap (rows_in other) is ∙ filter-append (λ (row : Row). pixel_of other.order row.hp == other.number) front more ∙ (λ k. here k ++ rows_in other more))

  abbrev IsHeld : List Row → Pixel → Type 0
  IsHeld rows part = FileHolds (folder (rows_file name false part)) (partition_rows part rows)

  -- what holds of the first and of all others
  of-each : (P : Pixel → Type 0) (part : Pixel) (parts : List Pixel) → P part → All P parts → All P (part ∷ parts)
  of-each P part parts first others zero d less = first
  of-each P part parts first others (suc k) d less = others k d (omega (arith, less))

  -- the rows of partitions' files, one after another, are cut so
  listed-contents : (parts : List Pixel) (rows : List Row) → AllPairs AreDisjoint parts → AreListed folder name false parts rows → All (IsHeld rows) parts
  listed-contents [] rows apart' listed = λ k d less. absurd (omega (arith, less))
  listed-contents (part ∷ parts) rows apart' (front, more, has, rest, is) =
      let others = listed-contents parts more (λ i j e lt less. apart' (suc i) (suc j) e (omega arith) (omega (arith, less))) rest in
      of-each (IsHeld rows) part parts
      (subst (λ (xs : List Row). FileHolds (folder (rows_file name false part)) xs)
      (sym (first-own part parts rows front more (λ k d less. apart' 0 (suc k) d (omega arith) (omega (arith, less))) has rest is)) has.holds)
      (λ k d less.
      let other : Pixel = get_or parts k d in
      let from : AreDisjoint other part = λ position a b. apart' 0 (suc k) d (omega arith) (omega (arith, less)) position b a in
      subst (λ (xs : List Row). FileHolds (folder (rows_file name false other)) xs) (sym (later-own part other rows front more from has.belong is)) (others k d less))

  listed-good : (parts : List Pixel) (rows : List Row) → AreListed folder name false parts rows → All IsGood rows
  listed-good [] rows listed = subst (All IsGood) (sym listed) (λ k d less. absurd (omega (arith, less)))
  listed-good (part ∷ parts) rows (front, more, has, rest, is) =
      subst (All IsGood) (sym is) (All-append IsGood front more (holds-good (folder (rows_file name false part)) front has.holds) (listed-good parts more rest))

  same-properties : (a b : Properties) → a.settings ≡ b.settings → a.margin ≡ b.margin → a.rows ≡ b.rows → a.partitions ≡ b.partitions → a ≡ b
  same-properties a b settings margin rows partitions = λ k. record { settings = settings k; margin = margin k; rows = rows k; partitions = partitions k }

  pub sentences-finished : (properties : Properties) (parts : List Pixel) (rows : List Row) → KeepsSentences folder name properties parts rows → IsFinished folder name properties.settings rows
  sentences-finished properties parts rows s =
      let settings : Settings = properties.settings in
      let disjoint = (apart rows settings.lowest settings.highest settings.threshold parts s.cut.partitions).disjoint in
      let same : properties ≡ properties_with settings false (length rows) parts = same-properties properties (properties_with settings false (length rows) parts) refl s.texts.own.kind s.counts.0 s.counts.1 in
      record {
        catalogue = record {
          parts = parts;
          good = listed-good parts rows s.listed;
          texts = subst (λ (p : Properties). HasTexts folder name p parts) same s.texts;
          cut = s.cut;
          contents = listed-contents parts rows disjoint s.listed;
          margin_list = s.margin_list;
          margins = s.margins;
          margin_properties = s.margin_properties;
        };
        listed = s.listed;
      }

  pub finished-sentences : (settings : Settings) (rows : List Row) (is : IsFinished folder name settings rows)
      → KeepsSentences folder name (properties_with settings false (length rows) is.catalogue.parts) is.catalogue.parts rows
  finished-sentences settings rows is = let c = is.catalogue in record {
    texts = c.texts;
    columns = λ k d less. let part : Pixel = get_or c.parts k d in holds-columns part (partition_rows part rows) (folder (rows_file name false part)) refl (c.contents k d less);
    own_rows = λ k d less. let part : Pixel = get_or c.parts k d in (partition_rows part rows, record { holds = c.contents k d less; belong = own-belong often part rows });
    listed = is.listed;
    cut = c.cut;
    margin_list = c.margin_list;
    margins = c.margins;
    margin_properties = c.margin_properties;
    counts = (refl, refl);
  }
