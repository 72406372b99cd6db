-- A data page of a column, which stands at a place of a file: its values and the place behind it, or the first refusal.
use Rattle.std.specs.Prelude.{ℕ, zero, suc, ℤ, pos, ◌+◌, ◌-◌, List, [], ◌++◌, length, take, drop, Bool, false, ◌&&◌, ◌==◌, nat_le, nat_lt, Option, Some, None, Result, Ok, Err, if◌then◌else◌}
use Rattle.std.specs.Ordering.{int_eq}
use Rattle.hx_thrift.specs.Texts.{Text, ◌>>=◌}
use Rattle.hx_pqmeta.specs.declared.page.PageHead.{PageHead}
use Rattle.hx_pqmeta.specs.declared.refusal.PqRefusal.{PqRefusal}
use Rattle.hx_pqmeta.specs.declared.refusal.PqRefusal.TheVariants.{Encoding, Bounds}
use Rattle.hx_pqmeta.specs.Enumerations.{rle_encoding, data_page, plain_encoding}
use Rattle.hx_pqmeta.specs.Refusals.{needed}
use Rattle.hx_pqmeta.specs.PageHeaders.{page_head_at}
use Rattle.hx_pqmeta.specs.Naturals.{natural}
use Rattle.hx_pqread.specs.declared.layout.Asked.{Asked}
use Rattle.hx_pqread.specs.declared.layout.Layout.{Layout}
use Rattle.hx_pqread.specs.Bodies.{body_values}

-- what stands in a file from a place up to an end
abbrev pub text_from : (end place : ℕ) → List ℕ → Text
text_from end place file = record { at = place; bytes = take (end - place) (drop place file) }

-- a head whose levels are runs, which is the encoding 3
abbrev pub runs_checked : (column : ℕ) → PageHead → Result PageHead PqRefusal
runs_checked column head = do
  encoding ← needed 703 head.levels
  if int_eq encoding rle_encoding then Ok head else Err (Encoding column)

-- A head that is read further: a data page (type 0) of plain numbers (encoding 0), whose levels are runs where the column has levels.
unfoldable pub head_checked : (column : ℕ) → Layout → PageHead → Result PageHead PqRefusal
head_checked column layout head =
    if int_eq head.kind data_page && int_eq head.encoding plain_encoding
    then (if layout.is_optional then runs_checked column head else Ok head)
    else Err (Encoding column)

-- Whether a head's counts fit where room bytes stand behind it and left values are to come: the body's size is the same before and after compression.
abbrev pub are_sizes : (left room : ℕ) → (plain_size stored_size values : ℤ) → Bool
are_sizes left room (pos plain_size) (pos stored_size) (pos values) = plain_size == stored_size && nat_le stored_size room && nat_le values left
are_sizes left room _ _ _ = false

-- what is read of a page, or Bounds where it isn't as it has to be
abbrev pub bounded : {A : Type 0} → (column : ℕ) → Option A → Result A PqRefusal
bounded column (Some x) = Ok x
bounded column None = Err (Bounds column)

-- the body behind a head: its bytes, which are there whole before the footer
unfoldable pub body_at : Asked → (left : ℕ) → PageHead → List ℕ → Result (List ℕ) PqRefusal
body_at asked left head file =
    if are_sizes left (asked.end - head.next) head.plain_size head.stored_size head.values
    then Ok (take (natural head.stored_size) (drop head.next file))
    else Err (Bounds asked.column)

-- the values of the page with this head, and the place behind it
unfoldable pub page_behind : Asked → (left : ℕ) → PageHead → List ℕ → Result (List (Option ℤ) × ℕ) PqRefusal
page_behind asked left head file = do
  checked ← head_checked asked.column asked.layout head
  body ← body_at asked left checked file
  values ← bounded asked.column (body_values asked.layout (natural checked.values) body)
  Ok (values, checked.next + natural checked.stored_size)

-- The page at a place of a column of which left values are to come. Pages stand behind the file's first four bytes and before the footer.
unfoldable pub page_at : Asked → (left place : ℕ) → List ℕ → Result (List (Option ℤ) × ℕ) PqRefusal
page_at asked left place file =
    if nat_le 4 place && nat_lt place asked.end
    then (page_head_at (text_from asked.end place file) >>= λ head. page_behind asked left head file)
    else Err (Bounds asked.column)

-- So many values, from pages one after another; none is read where no value is to come. Of n bytes at most n begin a page.
unfoldable pub pages_at : Asked → (most left place : ℕ) → List ℕ → Result (List (Option ℤ)) PqRefusal
pages_at asked most zero place file = Ok []
pages_at asked zero (suc left) place file = Err (Bounds asked.column)
pages_at asked (suc most) (suc left) place file = do
  page ← page_at asked (suc left) place file
  more ← pages_at asked most (suc left - length page.0) page.1 file
  Ok (page.0 ++ more)
