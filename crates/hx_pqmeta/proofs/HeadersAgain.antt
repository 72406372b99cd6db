-- The header of a page that is written is read again.
use Rattle.std.proofs.Common.{◌≡◌, ℕ, ◌+◌, ℤ, pos, ◌++◌, length, Option, Some, None, Ok, refl, arith}
use Rattle.std.specs.Prelude.{IsSome}
use Rattle.hx_thrift.specs.Texts.{Text}
use Rattle.hx_thrift.specs.Values.{entries, Value}
use Rattle.hx_thrift.specs.Spelling.{ReadsWhatIsSpelled}
use Rattle.hx_thrift.specs.Writing.{WritesValues}
use Rattle.hx_pqmeta.specs.Fields.{last, page_header_of}
use Rattle.hx_pqmeta.specs.PageHeaders.{with_data_page, page_head_of, page_head_at}
use Rattle.hx_pqmeta.specs.WrittenFields.{page_header_fields}
use Rattle.hx_pqmeta.specs.Writing.{page_header_bytes, SpellsPageHeaders, KeepsPageHeaders, ReadsPageHeaders}
use Rattle.hx_pqmeta.proofs.Again.{struct_read}
use Rattle.hx_pqmeta.proofs.Suiting.{page_header_suits}

pub header_spelled : WritesValues → SpellsPageHeaders
header_spelled writes head is = writes 32 12 (entries (page_header_fields head)) (page_header_suits head is)

head_of : (plain_size stored_size values encoding kind : ℤ) (levels : Option ℤ) (at next : ℕ) → kind ≡ pos 0 → IsSome levels
    → page_head_of (page_header_of (page_header_fields {A = Value 29} (record { kind = kind; plain_size = plain_size; stored_size = stored_size; values = values; encoding = encoding; levels = levels; next = at }))) next
    ≡ Ok (record { kind = kind; plain_size = plain_size; stored_size = stored_size; values = values; encoding = encoding; levels = levels; next = next })
unfolding page_head_of with_data_page last
head_of plain_size stored_size values encoding kind None at next zero some = absurd cc
head_of plain_size stored_size values encoding kind (Some n) at next zero some = rw zero refl

pub fields_again : KeepsPageHeaders
fields_again head next is = head_of head.plain_size head.stored_size head.values head.encoding head.kind head.levels head.next next is.kind is.levels

pub header_again : WritesValues → ReadsWhatIsSpelled → ReadsPageHeaders
unfolding page_head_at
header_again writes reads head at more is =
    let bytes = page_header_bytes head in
    let text : Text = record { at = at; bytes = bytes ++ more } in
    let rest : Text = record { at = at + length bytes; bytes = more } in
    let fields = page_header_fields {A = Value 29} head in
    let value = (reads 32 12 text (entries fields) rest (record { least = omega arith; greatest = omega arith })).0
    (record { front = bytes; spelled = header_spelled writes head is; parts = refl; place = refl }) in
    rw (struct_read text fields rest value) (fields_again head (at + length bytes) is)
