-- What a folder that reads as a catalogue is opened as, and what is loaded of it.
use Rattle.std.proofs.Common.{◌≡◌, ◌==◌, ◌*◌, ◌^◌, ◌<◌, ◌≤◌, ◌∷◌, [], ℕ, suc, Bool, true, false, List, Ok, Some, All, Any, Contains, arith, get_or, inl, inr, length, refl, slice_get, subst, sym}
use Rattle.std.proofs.lemmas.Bool.{cases_Bool}
use Rattle.std.proofs.lemmas.Bool.Decides.{Decides-eqb}
use Rattle.std.proofs.lemmas.List.Elements.{filter_passes}
use Rattle.std.proofs.lemmas.List.Sorted.{All-permutation}
use Rattle.std.proofs.lemmas.Option.{get_or_from_slice_get, slice_get-get_or, slice_get_within}
use Rattle.std.specs.List.Sorted.{IsPermutation}
use Rattle.hx_base.specs.Contents.{AreMarginRows, partition_rows}
use Rattle.hx_base.specs.Coverage.{IsCutInto}
use Rattle.hx_base.specs.Partitions.{ArePartitions, NothingOverfull, holders_of}
use Rattle.hx_base.specs.Pixels.{AreDisjointInOrder, HoldsPosition, PixelContains, count_in, pixel_of, rows_in}
use Rattle.hx_base.specs.Rows.{sorted_rows}
use Rattle.hx_base.specs.declared.pixel.Pixel.{Pixel}
use Rattle.hx_base.specs.declared.row.Row.{Row}
use Rattle.hx_base.specs.declared.settings.Settings.{Settings}
use Rattle.hx_outside.specs.Folders.{Folder}
use Rattle.hx_catalog.specs.Answers.{Loads, Opens, opened_of}
use Rattle.hx_catalog.specs.Catalogues.{HasItsMargin, IsCatalogue}
use Rattle.hx_catalog.specs.Files.{FileHolds, rows_file}

-- what holds of an element
at-index : {X : Type 0} (P : X → Type 0) (xs : List X) (i : ℕ) (x : X) → All P xs → slice_get xs i ≡ Some x → P x
at-index P xs i x all at = subst P (get_or_from_slice_get xs i x x at) (all i x (slice_get_within xs i x at))

-- the rows of a partition lie in it
pub own-belong : ((rows : List Row) → IsPermutation rows (sorted_rows rows)) → (pixel : Pixel) (rows : List Row) → All (PixelContains pixel) (partition_rows pixel rows)
own-belong often pixel rows =
    let test : Row → Bool = λ row. pixel_of pixel.order row.hp == pixel.number in
    All-permutation (PixelContains pixel) (rows_in pixel rows) (sorted_rows (rows_in pixel rows)) (often (rows_in pixel rows))
    (λ k d within. (Decides-eqb (pixel_of pixel.order (get_or (rows_in pixel rows) k d).hp) pixel.number).0 (filter_passes test rows k d within))

module _ (folder : Folder) (name : List ℕ) (settings : Settings) (rows : List Row) (is : IsCatalogue folder name settings rows) where
  pub is-opened : (side : ℕ) → Opens folder name side (Ok (opened_of settings (length rows) is.parts side))
  is-opened side = (refl, is.texts)

  named : name ≡ settings.name
  named = sym is.texts.own.named

  module _ (side part : ℕ) (pixel : Pixel) (at : slice_get is.parts part ≡ Some pixel) where
    pub rows-loaded : ((rows : List Row) → IsPermutation rows (sorted_rows rows)) → Loads folder (opened_of settings (length rows) is.parts side) part false (Ok (partition_rows pixel rows))
    rows-loaded often =
        let holds : FileHolds (folder (rows_file name false pixel)) (partition_rows pixel rows) = at-index (λ p. FileHolds (folder (rows_file name false p)) (partition_rows p rows)) is.parts part pixel is.contents at in (
          pixel,
          at,
          record {
            holds = subst (λ (n : List ℕ). FileHolds (folder (rows_file n false pixel)) (partition_rows pixel rows)) named holds;
            belong = own-belong often pixel rows;
          },
        )

    pub margin-loaded : (margin : List Row) × AreMarginRows pixel settings.margin_order rows margin × Loads folder (opened_of settings (length rows) is.parts side) part true (Ok margin)
    margin-loaded =
        let has : HasItsMargin folder name settings.margin_order rows pixel = at-index (HasItsMargin folder name settings.margin_order rows) is.parts part pixel is.margins at in (
          has.margin,
          has.is,
          (pixel, at, record { holds = subst (λ (n : List ℕ). FileHolds (folder (rows_file n true pixel)) has.margin) named has.holds; belong = tt }),
        )

-- where some partition is kept that holds a position, some partition holds it
held : (position : ℕ) (parts : List Pixel) → 1 ≤ length (holders_of position parts) → Any (λ part. HoldsPosition part position) parts
held position [] h = absurd (omega (arith, h))
held position (part ∷ parts) h =
    elim (cases_Bool (pixel_of part.order position == part.number)) [
      | inl e ↦ (0, part, omega arith, refl, (Decides-eqb (pixel_of part.order position) part.number).0 e)
      | inr e ↦
          let rest = held position parts (rw e at h) in
          (suc rest.0, rest.1, omega (arith, rest.2), rest.3, rest.4)
    ]

-- the two laws on the partitions of rows
abbrev pub EachOnce : Type 0
EachOnce = (rows : List Row) (lowest highest threshold : ℕ) (pixels : List Pixel) → All (λ row. row.hp < 12 * 4 ^ 29) rows → lowest ≤ highest → highest ≤ 29
    → NothingOverfull (λ pixel. count_in pixel rows) highest threshold → ArePartitions (λ pixel. count_in pixel rows) lowest highest threshold pixels
    → All (λ row. length (holders_of row.hp pixels) ≡ 1) rows

abbrev pub AreApart : Type 0
AreApart = (rows : List Row) (lowest highest threshold : ℕ) (pixels : List Pixel) → ArePartitions (λ pixel. count_in pixel rows) lowest highest threshold pixels → AreDisjointInOrder pixels

pub is-cut : EachOnce → AreApart → (folder : Folder) (name : List ℕ) (settings : Settings) (rows : List Row) (is : IsCatalogue folder name settings rows) → IsCutInto rows is.parts settings.margin_order
is-cut once apart folder name settings rows is =
    let limits = is.texts.own.valid.limits in
    let lowest : settings.lowest ≤ settings.highest = limits.lowest in
    let highest : settings.highest ≤ 29 = omega (arith, limits.highest) in
    let each = once rows settings.lowest settings.highest settings.threshold is.parts (λ k d within. (is.good k d within).pixel) lowest highest is.cut.none_overfull is.cut.partitions in
    record {
      covered = λ k d within. held (get_or rows k d).hp is.parts (omega (arith, each k d within));
      disjoint = apart rows settings.lowest settings.highest settings.threshold is.parts is.cut.partitions;
      orders = λ k d within.
          let part : Pixel = get_or is.parts k d in
          let there : Contains is.parts part = (k, within, get_or_from_slice_get is.parts k part part (slice_get-get_or is.parts k d within)) in
          omega (arith, ((is.cut.partitions.exact part).0 there).not_higher, limits.margin_least);
      cover_order = omega (arith, limits.margin_most);
    }
