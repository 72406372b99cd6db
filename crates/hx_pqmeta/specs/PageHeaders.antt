-- The header of a page, or the first refusal.
use Rattle.std.specs.Prelude.{ℕ, ℤ, pos, Option, None, Result, Ok, if◌then◌else◌}
use Rattle.std.specs.Ordering.{int_eq}
use Rattle.hx_thrift.specs.Texts.{Text, ◌>>=◌}
use Rattle.hx_thrift.specs.Reading.{value_at, struct_at}
use Rattle.hx_pqmeta.specs.declared.refusal.PqRefusal.{PqRefusal}
use Rattle.hx_pqmeta.specs.declared.page.DataPageHeader.{DataPageHeader}
use Rattle.hx_pqmeta.specs.declared.page.PageHead.{PageHead}
use Rattle.hx_pqmeta.specs.declared.page.PageHeader.{PageHeader}
use Rattle.hx_pqmeta.specs.Refusals.{placed, needed}
use Rattle.hx_pqmeta.specs.Enumerations.{data_page}
use Rattle.hx_pqmeta.specs.Fields.{page_header_of}

-- the head of a page of which nothing but its type and sizes is known
abbrev pub plain_head : (kind plain_size stored_size : ℤ) → (next : ℕ) → PageHead
plain_head kind plain_size stored_size next = record {
  kind = kind;
  plain_size = plain_size;
  stored_size = stored_size;
  values = pos 0;
  encoding = pos 0;
  levels = None;
  next = next;
}

-- the head of a data page, whose own header has to be there
unfoldable pub with_data_page : PageHead → Option DataPageHeader → Result PageHead PqRefusal
with_data_page head header = do
  data_page ← needed 605 header
  values ← needed 701 data_page.values
  encoding ← needed 702 data_page.encoding
  Ok (record {
    kind = head.kind;
    plain_size = head.plain_size;
    stored_size = head.stored_size;
    values = values;
    encoding = encoding;
    levels = data_page.levels;
    next = head.next;
  })

-- the head of a page whose header has these fields and ends at next: a page of a type other than 0 isn't asked for a data page's header
unfoldable pub page_head_of : PageHeader → (next : ℕ) → Result PageHead PqRefusal
page_head_of header next = do
  kind ← needed 601 header.kind
  plain_size ← needed 602 header.plain_size
  stored_size ← needed 603 header.stored_size
  if int_eq kind data_page
      then with_data_page (plain_head kind plain_size stored_size next) header.data_page
      else Ok (plain_head kind plain_size stored_size next)

-- the head of the page whose header a text begins with
unfoldable pub page_head_at : Text → Result PageHead PqRefusal
page_head_at text = do
  header ← placed (struct_at (value_at 31) text)
  page_head_of (page_header_of header.0) header.1.at
