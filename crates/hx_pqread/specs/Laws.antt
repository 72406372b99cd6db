-- The columns of a file as what stands in it: pages at places, each with a spelled header and a body, one after another.
use Rattle.std.specs.Prelude.{◌≡◌, ◌↔◌, ℕ, ℤ, pos, ◌+◌, ◌-◌, ◌<◌, ◌≤◌, List, [], ◌∷◌, ◌++◌, length, take, drop, slice_get, Option, Some, None, Result, Ok, Err}
use Rattle.hx_thrift.specs.Texts.{Text}
use Rattle.hx_thrift.specs.Values.{Entry, Value, entries}
use Rattle.hx_thrift.specs.Spelling.{Begins}
use Rattle.hx_pqmeta.specs.declared.page.PageHead.{PageHead}
use Rattle.hx_pqmeta.specs.declared.refusal.PqRefusal.{PqRefusal}
use Rattle.hx_pqmeta.specs.Records.{FooterRecord}
use Rattle.hx_pqmeta.specs.Refusals.{each}
use Rattle.hx_pqmeta.specs.Fields.{page_header_of}
use Rattle.hx_pqmeta.specs.Footers.{footer_in}
use Rattle.hx_pqmeta.specs.PageHeaders.{page_head_of}
use Rattle.hx_pqread.specs.declared.layout.Asked.{Asked}
use Rattle.hx_pqread.specs.declared.layout.Layout.{Layout}
use Rattle.hx_pqread.specs.declared.chunk.Span.{Span}
use Rattle.hx_pqread.specs.Runs.{HasLevels}
use Rattle.hx_pqread.specs.Levels.{levels_in}
use Rattle.hx_pqread.specs.Values.{all_there}
use Rattle.hx_pqread.specs.Bodies.{IsBody, body_values}
use Rattle.hx_pqread.specs.Pages.{text_from, head_checked}
use Rattle.hx_pqread.specs.Columns.{places_of, layout_of, group_span, column_at, columns_in}

-- A page of a column stands at a place: a spelled header, and behind it a body of these values, which ends at next.
pub record IsPage (asked : Asked) (file : List ℕ) (place : ℕ) (values : List (Option ℤ)) (next : ℕ) : Type 0 where
  pub behind_mark : 4 ≤ place
  pub before_footer : place < asked.end
  pub fields : List (Entry (Value 31))
  pub rest : Text
  pub header : Begins 32 12 (text_from asked.end place file) (entries fields) rest
  pub head : PageHead
  pub read : page_head_of (page_header_of fields) rest.at ≡ Ok head
  pub checked : head_checked asked.column asked.layout head ≡ Ok head
  pub size : ℕ
  pub plain_size : head.plain_size ≡ pos size
  pub stored_size : head.stored_size ≡ pos size
  pub count : head.values ≡ pos (length values)
  pub fits : size ≤ asked.end - head.next
  pub body : IsBody asked.layout (take size (drop head.next file)) values
  pub end : next ≡ head.next + size

-- Pages stand at these places, the first at the given one, and each other one where the one before it ends; these are their values, one after another.
abbrev pub ArePages : Asked → (file : List ℕ) → (place : ℕ) → (places : List ℕ) → (values : List (Option ℤ)) → Type 0
ArePages asked file place [] values = values ≡ []
ArePages asked file place (first ∷ places) values = (page : List (Option ℤ)) × (next : ℕ) × (more : List (Option ℤ))
    × (first ≡ place) × IsPage asked file place page next × ArePages asked file next places more × (values ≡ page ++ more)

-- as many values as a chunk has, from pages of which the first stands where the chunk says; from none where it has no values
pub record IsSpan (asked : Asked) (file : List ℕ) (span : Span) (values : List (Option ℤ)) : Type 0 where
  pub places : List ℕ
  pub pages : ArePages asked file span.place places values
  pub count : length values ≡ span.count
  pub none : span.count ≡ 0 → places ≡ []

abbrev pub AreSpans : Asked → (file : List ℕ) → List Span → (values : List (Option ℤ)) → Type 0
AreSpans asked file [] values = values ≡ []
AreSpans asked file (span ∷ spans) values = (front : List (Option ℤ)) × (more : List (Option ℤ))
    × IsSpan asked file span front × AreSpans asked file spans more × (values ≡ front ++ more)

-- The values of the column of a name, which has the place column in the list of names: exactly one leaf has the name, and its chunks have the values, group after group.
pub record IsColumn (footer : FooterRecord) (file : List ℕ) (column : ℕ) (name : List ℕ) (values : List (Option ℤ)) : Type 0 where
  pub place : ℕ
  pub leaf : places_of name 0 footer.leaves ≡ place ∷ []
  pub layout : Layout
  pub kind : layout_of column (slice_get footer.leaves place) ≡ Ok layout
  pub spans : List Span
  pub chunks : each (group_span column place) footer.groups ≡ Ok spans
  pub pages : AreSpans (record { column = column; layout = layout; end = footer.start }) file spans values

-- The columns of these names, the first of which has the place column in the list of all names, have these numbers and no absent value.
abbrev pub AreColumns : FooterRecord → (file : List ℕ) → (column : ℕ) → (names : List (List ℕ)) → (lists : List (List ℤ)) → Type 0
AreColumns footer file column [] [] = Unit {0}
AreColumns footer file column [] (numbers ∷ lists) = ⊥
AreColumns footer file column (name ∷ names) [] = ⊥
AreColumns footer file column (name ∷ names) (numbers ∷ lists) = IsColumn footer file column name (all_there numbers) × AreColumns footer file (column + 1) names lists

-- the columns of these names of a whole file
pub record HasColumns (file : List ℕ) (names : List (List ℕ)) (lists : List (List ℤ)) : Type 0 where
  pub footer : FooterRecord
  pub footer_is : footer_in file ≡ Ok footer
  pub columns : AreColumns footer file 0 names lists

-- the first refusal in reading the columns of these names, or none
abbrev pub refusal_of : {A : Type 0} → Result A PqRefusal → Option PqRefusal
refusal_of (Ok x) = None
refusal_of (Err refusal) = Some refusal

abbrev pub parquet_fault : (file : List ℕ) → (names : List (List ℕ)) → Option PqRefusal
parquet_fault file names = refusal_of (columns_in file names)

-- Levels stand in bytes exactly where reading gives them.
abbrev pub ReadsLevels : Type 0
ReadsLevels = (count : ℕ) (bytes levels : List ℕ) → HasLevels count bytes levels ↔ (levels_in count bytes ≡ Some levels)

-- A body is that of these values exactly where reading gives them.
abbrev pub ReadsABody : Type 0
ReadsABody = (layout : Layout) (body : List ℕ) (values : List (Option ℤ)) → IsBody layout body values ↔ (body_values layout (length values) body ≡ Some values)

-- A column has these values, some of which may be absent, exactly where reading gives them.
abbrev pub ReadsAColumn : Type 0
ReadsAColumn = (footer : FooterRecord) (file : List ℕ) (column : ℕ) (name : List ℕ) (values : List (Option ℤ))
    → IsColumn footer file column name values ↔ (column_at footer file column name ≡ Ok values)

-- A file has these columns exactly where reading gives them.
abbrev pub ReadsWhatIsThere : Type 0
ReadsWhatIsThere = (file : List ℕ) (names : List (List ℕ)) (lists : List (List ℤ)) → HasColumns file names lists ↔ (columns_in file names ≡ Ok lists)

-- The first refusal is none exactly where a file has columns of these names.
abbrev pub RefusesTheRest : Type 0
RefusesTheRest = (file : List ℕ) (names : List (List ℕ)) → (parquet_fault file names ≡ None) ↔ ((lists : List (List ℤ)) × HasColumns file names lists)
