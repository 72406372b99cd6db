-- The pages of a column stand in the file.
use Rattle.std.proofs.Common.{◌≡◌, ℕ, zero, suc, ◌+◌, ◌-◌, ◌*◌, ◌<◌, ◌≤◌, ℤ, pos, List, [], ◌∷◌, ◌++◌, length, take, drop, Option, Some, Ok, refl, sym, ap, subst, ◌∙◌, arith, append_assoc, length-append, length-drop}
use Rattle.std.specs.Prelude.{FitsSigned}
use Rattle.std.specs.List.{AllByRecursion}
use Rattle.std.specs.Int.{w64}
use Rattle.std.proofs.lemmas.List.{take_at, drop_at, take-append-drop, length-take}
use Rattle.std.proofs.Math.Seq.{take-append-add}
use Rattle.hx_pqmeta.specs.WrittenFields.{page_header_fields}
use Rattle.hx_pqmeta.specs.Writing.{page_header_bytes, IsDataPage, SpellsPageHeaders, KeepsPageHeaders}
use Rattle.hx_pqread.specs.declared.layout.Asked.{Asked}
use Rattle.hx_pqread.specs.Bodies.{IsBody}
use Rattle.hx_pqread.specs.Values.{all_there}
use Rattle.hx_pqread.specs.Pages.{head_checked}
use Rattle.hx_pqread.specs.Laws.{IsPage, ArePages}
use Rattle.hx_pqwrite.specs.Files.{page_rows, body, head_of, page, pages}
use Rattle.hx_pqwrite.proofs.Bodies.{plain_layout, body_length, length_there, body_stands}

abbrev pub asked_for : (column end : ℕ) → Asked
asked_for column end = record { column = column; layout = plain_layout; end = end }

is_data_page : (count : ℕ) → count ≤ page_rows → IsDataPage (head_of count)
is_data_page count few = record {
  kind = refl;
  levels = refl;
  level_fits = omega arith;
  plain_size = omega (arith, few);
  stored_size = omega (arith, few);
  values = omega (arith, few);
  encoding = omega arith;
}

head_fits : (column count next : ℕ) → head_checked column plain_layout (record (head_of count) { next = next }) ≡ Ok (record (head_of count) { next = next })
unfolding head_checked
head_fits column count next = refl

page_stands : SpellsPageHeaders → KeepsPageHeaders → (column end : ℕ) (file before more : List ℕ) (numbers : List ℤ) → AllByRecursion (FitsSigned w64) numbers → length numbers ≤ page_rows
    → file ≡ before ++ (page numbers ++ more) → 4 ≤ length before → length before + length (page numbers) ≤ end
    → IsPage (asked_for column end) file (length before) (all_there numbers) (length before + length (page numbers))
page_stands spells keeps column end file before more numbers fit few file_is low within =
    let head = head_of (length numbers) in
    let header = page_header_bytes head in
    let bytes = body numbers in
    let start = length before in
    let next = start + length header in
    let is = is_data_page (length numbers) few in
    let whole : length (page numbers) ≡ length header + length bytes = length-append header bytes in
    let size = body_length numbers in
    let some : 0 < length header = omega arith in
    let behind : drop start file ≡ header ++ (bytes ++ more) = ap (λ (xs : List ℕ). drop start xs) file_is ∙ (drop_at before (page numbers ++ more) start refl ∙ append_assoc header bytes more) in
    let room : end - start ≡ length header + (end - start - length header) = omega (arith, within, whole) in
    let parts : take (end - start) (drop start file) ≡ header ++ take (end - start - length header) (bytes ++ more) =
    ap (λ (xs : List ℕ). take (end - start) xs) behind ∙ (ap (λ (k : ℕ). take k (header ++ (bytes ++ more))) room ∙ take-append-add header (bytes ++ more) (end - start - length header)) in
    let cut : file ≡ (before ++ header) ++ (bytes ++ more) = file_is ∙ (ap (λ (xs : List ℕ). before ++ xs) (append_assoc header bytes more) ∙ sym (append_assoc before header (bytes ++ more))) in
    let body_is : take (length numbers * 8) (drop next file) ≡ bytes =
    ap (λ (xs : List ℕ). take (length numbers * 8) (drop next xs)) cut
    ∙ (ap (λ (xs : List ℕ). take (length numbers * 8) xs) (drop_at (before ++ header) (bytes ++ more) next (length-append before header)) ∙ take_at bytes more (length numbers * 8) size) in
    record {
      behind_mark = low;
      before_footer = omega (arith, within, whole, some);
      fields = page_header_fields head;
      rest = record { at = next; bytes = take (end - start - length header) (bytes ++ more) };
      header = record { front = header; spelled = spells head is; parts = parts; place = refl };
      head = record head { next = next };
      read = keeps head next is;
      checked = head_fits column (length numbers) next;
      size = length numbers * 8;
      plain_size = refl;
      stored_size = refl;
      count = ap (λ (k : ℕ). pos k) (sym (length_there numbers));
      fits = omega (arith, within, whole, size);
      body = subst (λ (xs : List ℕ). IsBody plain_layout xs (all_there numbers)) (sym body_is) (body_stands numbers fit);
      end = omega (arith, whole, size);
    }

all_take : (n : ℕ) (numbers : List ℤ) → AllByRecursion (FitsSigned w64) numbers → AllByRecursion (FitsSigned w64) (take n numbers)
all_take zero numbers fit = tt
all_take (suc n) [] fit = tt
all_take (suc n) (x ∷ numbers) fit = (fit.0, all_take n numbers fit.1)

all_drop : (n : ℕ) (numbers : List ℤ) → AllByRecursion (FitsSigned w64) numbers → AllByRecursion (FitsSigned w64) (drop n numbers)
all_drop zero numbers fit = fit
all_drop (suc n) [] fit = tt
all_drop (suc n) (x ∷ numbers) fit = all_drop n numbers fit.1

there_append : (xs ys : List ℤ) → all_there (xs ++ ys) ≡ all_there xs ++ all_there ys
there_append [] ys = refl
there_append (x ∷ xs) ys = ap (λ (zs : List (Option ℤ)). Some x ∷ zs) (there_append xs ys)

pub pages_stand : SpellsPageHeaders → KeepsPageHeaders → (column end : ℕ) (file more : List ℕ) (count : ℕ) (before : List ℕ) (numbers : List ℤ) → AllByRecursion (FitsSigned w64) numbers → length numbers ≤ count * page_rows
    → file ≡ before ++ (pages count numbers ++ more) → 4 ≤ length before → length before + length (pages count numbers) ≤ end
    → (places : List ℕ) × ArePages (asked_for column end) file (length before) places (all_there numbers)
unfolding pages
pages_stand spells keeps column end file more zero before [] fit few file_is low within = ([], refl)
pages_stand spells keeps column end file more zero before (n ∷ numbers) fit few file_is low within = absurd (omega (arith, few))
pages_stand spells keeps column end file more (suc count) before numbers fit few file_is low within =
    let now = take page_rows numbers in
    let later = drop page_rows numbers in
    let others = pages count later in
    let first : file ≡ before ++ (page now ++ (others ++ more)) = file_is ∙ ap (λ (xs : List ℕ). before ++ xs) (append_assoc (page now) others more) in
    let second : file ≡ (before ++ page now) ++ (others ++ more) = first ∙ sym (append_assoc before (page now) (others ++ more)) in
    let next : length (before ++ page now) ≡ length before + length (page now) = length-append before (page now) in
    let whole : length (page now ++ others) ≡ length (page now) + length others = length-append (page now) others in
    let now_few : length now ≤ page_rows = omega (arith, length-take page_rows numbers) in
    let later_few : length later ≤ count * page_rows = omega (arith, length-drop page_rows numbers, few) in
    let one = page_stands spells keeps column end file before (others ++ more) now (all_take page_rows numbers fit) now_few first low (omega (arith, within, whole)) in
    let rest = pages_stand spells keeps column end file more count (before ++ page now) later (all_drop page_rows numbers fit) later_few second (omega (arith, low, next)) (omega (arith, within, whole, next)) in
    let rest_at = subst (λ (place : ℕ). ArePages (asked_for column end) file place rest.0 (all_there later)) next rest.1 in
    let values : all_there numbers ≡ all_there now ++ all_there later = ap all_there (sym (take-append-drop page_rows numbers)) ∙ there_append now later in
    (length before ∷ rest.0, (all_there now, length before + length (page now), all_there later, refl, one, rest_at, values))
