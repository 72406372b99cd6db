-- Over finished catalogues: what was opened, what its files have, and what is found.
use Rattle.std.proofs.Common.{◌≡◌, ◌∙◌, ◌<◌, ◌^◌, ◌++◌, ◌∷◌, [], ℕ, List, Bool, true, false, Option, Some, Ok, Err, length, refl, sym, ap, subst, arith, inl, inr}
use Rattle.std.specs.Prelude.{Result, slice_get}
use Rattle.std.proofs.lemmas.List.Elements.{All-contains}
use Rattle.hx_base.specs.Contents.{AreMarginRows, partition_rows}
use Rattle.hx_base.specs.Coverage.{IsCutInto, IsLeastTooNear, NoneTooNear}
use Rattle.hx_base.specs.declared.pixel.Pixel.{Pixel}
use Rattle.hx_base.specs.declared.refusal.Refusal.{Refusal}
use Rattle.hx_base.specs.declared.row.Row.{Row}
use Rattle.hx_base.specs.declared.settings.Settings.{Settings}
use Rattle.hx_catalog.specs.Answers.{IsNotOpened, IsOutside, Loads, Opened, Opens}
use Rattle.hx_catalog.specs.Catalogues.{HasItsMargin, HasList, IsCatalogue, IsFinished, properties_with}
use Rattle.hx_catalog.specs.Files.{AreListed, FileHolds, HasRows, rows_file}
use Rattle.hx_catalog.specs.Lists.{IsList, list_text}
use Rattle.hx_outside.specs.Folders.{Folder}
use Rattle.hx_xmatch.specs.Fields.{AreFilesOf}
use Rattle.hx_xmatch.specs.Files.{AreAllRows, HasRowsAt, IsLoadRefusal, margin_order_of}
use Rattle.hx_xmatch.specs.Pieces.{FindsAll}
use Rattle.hx_xmatch.specs.MatchText.{match_text, matched_rows}
use Rattle.hx_xmatch.specs.Output.{IsTextFor, counted}
use Rattle.hx_xmatch.specs.Outcomes.{AnswersExactly, AreOpened, IsAsked, IsMatch, IsMatchRefusal, IsOpenRefusal, radius2}
use Rattle.hx_xmatch.specs.Tested.{IsCovered, IsTestRefusal, IsTooNarrow}
use Rattle.hx_xmatch.specs.declared.query.Query.{Query}
use Rattle.hx_xmatch.proofs.Matches.{match_of_read}
use Rattle.hx_xmatch.proofs.Reading.{member_at}
use Rattle.hx_xmatch.proofs.Texts.{matched_few}

-- readings of one file are one
abbrev pub OneFile : Type 0
OneFile = (file : Option (List ℕ)) (a b : List Row) → FileHolds file a → FileHolds file b → a ≡ b

abbrev pub OneOpening : Type 0
OneOpening = (folder : Folder) (name : List ℕ) (side : ℕ) (a b : Result Opened Refusal) → Opens folder name side a → Opens folder name side b → a ≡ b

abbrev pub OneLoading : Type 0
OneLoading = (folder : Folder) (opened : Opened) (part : ℕ) (margin : Bool) (a b : Result (List Row) Refusal) → Loads folder opened part margin a → Loads folder opened part margin b → a ≡ b

-- a folder that reads as a catalogue has its rows
abbrev pub ReadsRows : Type 0
ReadsRows = (folder : Folder) (name : List ℕ) (settings : Settings) (rows : List Row) (side part : ℕ) (pixel : Pixel) (is : IsCatalogue folder name settings rows) →
    slice_get is.parts part ≡ Some pixel → Loads folder (record { properties = properties_with settings false (length rows) is.parts; parts = is.parts; side = side }) part false (Ok (partition_rows pixel rows))

abbrev pub ReadsMargins : Type 0
ReadsMargins = (folder : Folder) (name : List ℕ) (settings : Settings) (rows : List Row) (side part : ℕ) (pixel : Pixel) (is : IsCatalogue folder name settings rows) →
    slice_get is.parts part ≡ Some pixel → (margin : List Row) × AreMarginRows pixel settings.margin_order rows margin
    × Loads folder (record { properties = properties_with settings false (length rows) is.parts; parts = is.parts; side = side }) part true (Ok margin)

abbrev Read : Type 0
Read = Result (List Row) Refusal

abbrev Found : Type 0
Found = Result Opened Refusal

ok_rows : (a b : List Row) (x y : Read) → x ≡ Ok a → y ≡ Ok b → x ≡ y → a ≡ b
ok_rows a b x y is_a is_b e = cc (is_a, is_b, e)

not_both : (a : List Row) (given : Refusal) (x y : Read) → x ≡ Ok a → y ≡ Err given → x ≡ y → ⊥
not_both a given x y is_a is_given e = cc (is_a, is_given, e)

ok_opened : (a b : Opened) (x y : Found) → x ≡ Ok a → y ≡ Ok b → x ≡ y → a ≡ b
ok_opened a b x y is_a is_b e = cc (is_a, is_b, e)

not_opened : (a : Opened) (given : Refusal) (x y : Found) → x ≡ Ok a → y ≡ Err given → x ≡ y → ⊥
not_opened a given x y is_a is_given e = cc (is_a, is_given, e)

-- one file in every place of a folder
pub file_by_loading : Settings → OneLoading → OneFile
file_by_loading settings one file a b holds other =
    let folder = λ (name : List ℕ). file in
    let pixel : Pixel = record { order = 0; number = 0 } in
    let opened : Opened = record { properties = properties_with settings false 0 []; parts = pixel ∷ []; side = 1 } in
    ok_rows a b (Ok a) (Ok b) refl refl (one folder opened 0 true (Ok a) (Ok b) (pixel, refl, record { holds = holds; belong = tt }) (pixel, refl, record { holds = other; belong = tt }))

module _ (one_file : OneFile) where
  listed_once : (folder : Folder) (name : List ℕ) (margin : Bool) (parts : List Pixel) (a b : List Row) → AreListed folder name margin parts a → AreListed folder name margin parts b → a ≡ b
  listed_once folder name margin [] a b is_a is_b = is_a ∙ sym is_b
  listed_once folder name margin (part ∷ parts) a b (front, more, has, rest, is) (other, others, has_other, rest_other, is_other) =
      let same = one_file (folder (rows_file name margin part)) front other has.holds has_other.holds in
      is ∙ ap (λ (l : List Row). l ++ more) same ∙ ap (λ (l : List Row). other ++ l) (listed_once folder name margin parts more others rest rest_other) ∙ sym is_other

  module _ (one_opening : OneOpening) (folder : Folder) (name : List ℕ) (side : ℕ) (settings : Settings) (rows : List Row) (finished : IsFinished folder name settings rows)
      (opened : Opened) (opens : Opens folder name side (Ok opened)) where
    -- the catalogue as it is opened
    abbrev its : Opened
    its = record { properties = properties_with settings false (length rows) finished.catalogue.parts; parts = finished.catalogue.parts; side = side }

    opened_is : opened ≡ its
    opened_is = ok_opened opened its (Ok opened) (Ok its) refl refl (one_opening folder name side (Ok opened) (Ok its) opens (refl, finished.catalogue.texts))

    pub parts_are : opened.parts ≡ finished.catalogue.parts
    parts_are = ap (λ (o : Opened). o.parts) opened_is

    pub order_is : margin_order_of opened ≡ settings.margin_order
    order_is = ap (λ (o : Opened). margin_order_of o) opened_is

    its_name : settings.name ≡ name
    its_name = finished.catalogue.texts.own.named

    -- all rows are those of the catalogue
    all_its_rows : (all : List Row) → AreAllRows folder its all → all ≡ rows
    all_its_rows all are = listed_once folder name false finished.catalogue.parts all rows (subst (λ (n : List ℕ). AreListed folder n false finished.catalogue.parts all) its_name are) finished.listed

    pub all_rows_are : (all : List Row) → AreAllRows folder opened all → all ≡ rows
    all_rows_are all are = all_its_rows all (subst (λ (o : Opened). AreAllRows folder o all) opened_is are)

    -- its files
    has_its : (index : ℕ) (margin : Bool) (file : List Row) → HasRowsAt folder its index margin file → (part : Pixel) × (slice_get finished.catalogue.parts index ≡ Some part) × HasRows folder name margin part file
    has_its index margin file (part, at, has) = (part, at, subst (λ (n : List ℕ). HasRows folder n margin part file) its_name has)

    some_part : (a b : Pixel) → Some a ≡ Some b → a ≡ b
    some_part a b e = cc e

    holds_at : (index : ℕ) (margin : Bool) (part : Pixel) (file : List Row) → slice_get finished.catalogue.parts index ≡ Some part → HasRowsAt folder its index margin file → FileHolds (folder (rows_file name margin part)) file
    holds_at index margin part file at told =
        let (other, at_other, has) = has_its index margin file told in
        subst (λ (p : Pixel). FileHolds (folder (rows_file name margin p)) file) (some_part other part (sym at_other ∙ at)) has.holds

    margin_of : (part : Pixel) (file : List Row) → HasItsMargin folder name settings.margin_order rows part → FileHolds (folder (rows_file name true part)) file → AreMarginRows part settings.margin_order rows file
    margin_of part file its_margin holds =
        subst (AreMarginRows part settings.margin_order rows) (one_file (folder (rows_file name true part)) its_margin.margin file its_margin.holds holds) its_margin.is

    its_files : AreFilesOf (HasRowsAt folder its) finished.catalogue.parts settings.margin_order rows
    its_files = record {
      named = λ index margin file told. (told.0, told.1);
      own = λ index part file at told.
          one_file (folder (rows_file name false part)) file (partition_rows part rows) (holds_at index false part file at told)
          (All-contains (λ (p : Pixel). FileHolds (folder (rows_file name false p)) (partition_rows p rows)) finished.catalogue.parts part finished.catalogue.contents (member_at finished.catalogue.parts index part at));
      margins = λ index part file at told.
          margin_of part file (All-contains (HasItsMargin folder name settings.margin_order rows) finished.catalogue.parts part finished.catalogue.margins (member_at finished.catalogue.parts index part at)) (holds_at index true part file at told);
    }

    pub files_are : AreFilesOf (HasRowsAt folder opened) opened.parts (margin_order_of opened) rows
    files_are = subst (λ (o : Opened). AreFilesOf (HasRowsAt folder o) o.parts (margin_order_of o) rows) (sym opened_is) its_files

-- no file of a finished catalogue is damaged, and it is opened
module _ (one_opening : OneOpening) (one_loading : OneLoading) (reads_rows : ReadsRows) (reads_margins : ReadsMargins) (folder : Folder) (name : List ℕ) (side : ℕ) (settings : Settings) (rows : List Row)
    (finished : IsFinished folder name settings rows) where
  abbrev it : Opened
  it = record { properties = properties_with settings false (length rows) finished.catalogue.parts; parts = finished.catalogue.parts; side = side }

  pub is_opened : (given : Refusal) → IsNotOpened folder name side given → ⊥
  is_opened given not = not_opened it given (Ok it) (Err given) refl refl (one_opening folder name side (Ok it) (Err given) (refl, finished.catalogue.texts) not)

  loads_ok : (index : ℕ) (margin : Bool) (given : Refusal) → Loads folder it index margin (Err given) → ⊥
  loads_ok index false given (pixel, at, damaged) =
      not_both (partition_rows pixel rows) given (Ok (partition_rows pixel rows)) (Err given) refl refl (one_loading folder it index false (Ok (partition_rows pixel rows)) (Err given) (reads_rows folder name settings rows side index pixel finished.catalogue at) (pixel, at, damaged))
  loads_ok index true given (pixel, at, damaged) =
      let (margin, is, loads) = reads_margins folder name settings rows side index pixel finished.catalogue at in
      not_both margin given (Ok margin) (Err given) refl refl (one_loading folder it index true (Ok margin) (Err given) loads (pixel, at, damaged))

  pub is_loaded : (opened : Opened) (given : Refusal) → Opens folder name side (Ok opened) → IsLoadRefusal folder opened given → IsOutside given
  is_loaded opened given opens (inl out) = out
  is_loaded opened given opens (inr (index, margin, damaged)) =
      absurd (loads_ok index margin given (subst (λ (o : Opened). Loads folder o index margin (Err given)) (ok_opened opened it (Ok opened) (Ok it) refl refl (one_opening folder name side (Ok opened) (Ok it) opens (refl, finished.catalogue.texts))) damaged))

-- two finished catalogues
module _ (one_file : OneFile) (one_opening : OneOpening) (folder : Folder) (left_name right_name : List ℕ) (left_settings right_settings : Settings) (left right : List Row)
    (is_left : IsFinished folder left_name left_settings left) (is_right : IsFinished folder right_name right_settings right)
    (left_opened right_opened : Opened) (left_opens : Opens folder left_name 1 (Ok left_opened)) (right_opens : Opens folder right_name 2 (Ok right_opened)) (r2 : ℕ) where
  -- what the test found is so of the rows of the catalogues
  pub covered_is : IsCovered folder left_opened right_opened r2 → NoneTooNear is_right.catalogue.parts right_settings.margin_order r2 left right
  covered_is covered =
      let lefts = all_rows_are one_file one_opening folder left_name 1 left_settings left is_left left_opened left_opens covered.left_rows covered.are_left in
      let rights = all_rows_are one_file one_opening folder right_name 2 right_settings right is_right right_opened right_opens covered.right_rows covered.are_right in
      let parts = parts_are one_file one_opening folder right_name 2 right_settings right is_right right_opened right_opens in
      let order = order_is one_file one_opening folder right_name 2 right_settings right is_right right_opened right_opens in
      subst (λ (l : List Row). NoneTooNear is_right.catalogue.parts right_settings.margin_order r2 l right) lefts
      (subst (λ (l : List Row). NoneTooNear is_right.catalogue.parts right_settings.margin_order r2 covered.left_rows l) rights
      (subst (λ (m : ℕ). NoneTooNear is_right.catalogue.parts m r2 covered.left_rows covered.right_rows) order
      (subst (λ (ps : List Pixel). NoneTooNear ps (margin_order_of right_opened) r2 covered.left_rows covered.right_rows) parts covered.none)))

  pub narrow_is : (p q gap2 : ℕ) → IsTooNarrow folder left_opened right_opened r2 p q gap2 → IsLeastTooNear is_right.catalogue.parts right_settings.margin_order r2 left right p q gap2
  narrow_is p q gap2 narrow =
      let lefts = all_rows_are one_file one_opening folder left_name 1 left_settings left is_left left_opened left_opens narrow.left_rows narrow.are_left in
      let rights = all_rows_are one_file one_opening folder right_name 2 right_settings right is_right right_opened right_opens narrow.right_rows narrow.are_right in
      let parts = parts_are one_file one_opening folder right_name 2 right_settings right is_right right_opened right_opens in
      let order = order_is one_file one_opening folder right_name 2 right_settings right is_right right_opened right_opens in
      subst (λ (l : List Row). IsLeastTooNear is_right.catalogue.parts right_settings.margin_order r2 l right p q gap2) lefts
      (subst (λ (l : List Row). IsLeastTooNear is_right.catalogue.parts right_settings.margin_order r2 narrow.left_rows l p q gap2) rights
      (subst (λ (m : ℕ). IsLeastTooNear is_right.catalogue.parts m r2 narrow.left_rows narrow.right_rows p q gap2) order
      (subst (λ (ps : List Pixel). IsLeastTooNear ps (margin_order_of right_opened) r2 narrow.left_rows narrow.right_rows p q gap2) parts narrow.least)))

  -- the text is the match text of the catalogues' rows
  module _ (cut : IsCutInto right is_right.catalogue.parts right_settings.margin_order) where
    finds : NoneTooNear is_right.catalogue.parts right_settings.margin_order r2 left right → FindsAll folder right_opened r2 right left
    finds none =
        let parts = parts_are one_file one_opening folder right_name 2 right_settings right is_right right_opened right_opens in
        let order = order_is one_file one_opening folder right_name 2 right_settings right is_right right_opened right_opens in
        let cut_here : IsCutInto right right_opened.parts (margin_order_of right_opened) =
        subst (λ (m : ℕ). IsCutInto right right_opened.parts m) (sym order) (subst (λ (ps : List Pixel). IsCutInto right ps right_settings.margin_order) (sym parts) cut) in
        let none_here : NoneTooNear right_opened.parts (margin_order_of right_opened) r2 left right =
        subst (λ (m : ℕ). NoneTooNear right_opened.parts m r2 left right) (sym order) (subst (λ (ps : List Pixel). NoneTooNear ps right_settings.margin_order r2 left right) (sym parts) none) in
        record {
          files = files_are one_file one_opening folder right_name 2 right_settings right is_right right_opened right_opens;
          cut = cut_here;
          enough = λ row read member reads. match_of_read right_opened.parts (margin_order_of right_opened) r2 left right read row cut_here none_here member reads;
        }

    pub text_is : (text : List ℕ) (rows matched : ℕ) → IsMatch folder left_opened right_opened r2 text rows matched → IsTextFor r2 right left text rows matched
    text_is text rows matched is =
        let lefts = all_rows_are one_file one_opening folder left_name 1 left_settings left is_left left_opened left_opens is.lines.left_rows is.lines.are_left in
        let found = finds (covered_is is.covered) in
        subst (λ (l : List Row). IsTextFor r2 right l text rows matched) lefts
        (is.lines.written right (subst (λ (l : List Row). FindsAll folder right_opened r2 right l) (sym lefts) found))

-- what the laws of hx_catalog say
pub record CatalogueLaws : Type 0 where
  pub opening : OneOpening
  pub loading : OneLoading
  pub reads_rows : ReadsRows
  pub reads_margins : ReadsMargins
  pub cut : (folder : Folder) (name : List ℕ) (settings : Settings) (rows : List Row) (is : IsCatalogue folder name settings rows) → IsCutInto rows is.parts settings.margin_order
  pub lists : (a b : List Pixel) → IsList a → IsList b → list_text a ≡ list_text b → a ≡ b

module _ (laws : CatalogueLaws) (folder : Folder) (query : Query) (left_settings right_settings : Settings) (left right : List Row)
    (is_left : IsFinished folder query.left left_settings left) (is_right : IsFinished folder query.right right_settings right) where
  abbrev files : OneFile
  files = file_by_loading left_settings laws.loading

  abbrev r2 : ℕ
  r2 = radius2 query

  counted_is : (n : ℕ) → n < 2 ^ 64 → counted n ≡ n
  counted_is n lt = omega (arith, lt)

  pub match_is : (text : List ℕ) (rows matched : ℕ) → IsAsked folder query text rows matched → (text ≡ match_text r2 right left) × (rows ≡ length left) × (matched ≡ matched_rows r2 right left)
  match_is text rows matched asked =
      let cut = laws.cut folder query.right right_settings right is_right.catalogue in
      let is = text_is files laws.opening folder query.left query.right left_settings right_settings left right is_left is_right asked.left asked.right asked.opened.left_opens asked.opened.right_opens r2 cut text rows matched asked.is in
      let fits : length left < 2 ^ 64 = is_left.catalogue.texts.own.valid.rows in
      let few = matched_few r2 right left in
      (is.text_is, is.rows_are ∙ counted_is (length left) fits, is.matched_are ∙ counted_is (matched_rows r2 right left) (omega (arith, few, fits)))

  module _ (parts : List Pixel) (has : HasList folder query.right parts) where
    some_text : (a b : List ℕ) → Some a ≡ Some b → a ≡ b
    some_text a b e = cc e

    same_parts : is_right.catalogue.parts ≡ parts
    same_parts = laws.lists is_right.catalogue.parts parts is_right.catalogue.texts.list.valid has.valid (some_text (list_text is_right.catalogue.parts) (list_text parts) (sym is_right.catalogue.texts.list.text ∙ has.text))

    pub none_is : (text : List ℕ) (rows matched : ℕ) → IsAsked folder query text rows matched → NoneTooNear parts right_settings.margin_order r2 left right
    none_is text rows matched asked =
        subst (λ (ps : List Pixel). NoneTooNear ps right_settings.margin_order r2 left right) same_parts
        (covered_is files laws.opening folder query.left query.right left_settings right_settings left right is_left is_right asked.left asked.right asked.opened.left_opens asked.opened.right_opens r2 asked.is.covered)

    test_is : (given : Refusal) (left_opened right_opened : Opened) → AreOpened folder query left_opened right_opened → IsTestRefusal folder left_opened right_opened r2 given
        → AnswersExactly parts right_settings.margin_order r2 left right (Some given)
    test_is given left_opened right_opened opened (inl (inl load)) = inl (is_loaded laws.opening laws.loading laws.reads_rows laws.reads_margins folder query.left 1 left_settings left is_left left_opened given opened.left_opens load)
    test_is given left_opened right_opened opened (inl (inr load)) = inl (is_loaded laws.opening laws.loading laws.reads_rows laws.reads_margins folder query.right 2 right_settings right is_right right_opened given opened.right_opens load)
    test_is given left_opened right_opened opened (inr (p, q, gap2, e, narrow)) = inr (
      p,
      q,
      gap2,
      e,
      subst (λ (ps : List Pixel). IsLeastTooNear ps right_settings.margin_order r2 left right p q gap2) same_parts
          (narrow_is files laws.opening folder query.left query.right left_settings right_settings left right is_left is_right left_opened right_opened opened.left_opens opened.right_opens r2 p q gap2 narrow),
    )

    open_is : (given : Refusal) → IsOpenRefusal folder query given → IsOutside given
    open_is given (inl out) = out
    open_is given (inr (inl not)) = absurd (is_opened laws.opening laws.loading laws.reads_rows laws.reads_margins folder query.left 1 left_settings left is_left given not)
    open_is given (inr (inr (left_opens, not))) = absurd (is_opened laws.opening laws.loading laws.reads_rows laws.reads_margins folder query.right 2 right_settings right is_right given not)

    pub answer_is : (given : Refusal) → IsMatchRefusal folder query given → AnswersExactly parts right_settings.margin_order r2 left right (Some given)
    answer_is given (inl opening) = inl (open_is given opening)
    answer_is given (inr (left_opened, right_opened, opened, test)) = test_is given left_opened right_opened opened test
