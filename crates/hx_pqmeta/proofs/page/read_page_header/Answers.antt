use Rattle.std.proofs.Common.{◌≡◌, ◌+◌, ◌≤◌, length, Ok, subst, arith}
use Rattle.std.proofs.lemmas.Result.{IfOk-weaker}
use Rattle.hx_thrift.specs.Texts.{Text}
use Rattle.hx_thrift.specs.Values.{entries}
use Rattle.hx_thrift.specs.Reading.{struct_at, value_at}
use Rattle.hx_pqmeta.proofs.Entries.{struct_value}
use Rattle.hx_pqmeta.proofs.page.read_page_header.Goals as goal

pub returns-clause-next : goal.returns-clause-next
returns-clause-next c =
    let start : Text = record { at = c.args.at; bytes = c.args.bytes.now } in
    let end = c.read_entries.new.reader in
    let header = c.in_ok-header.ensures in
    let read = subst (λ (text : Text). struct_at (value_at 31) text ≡ Ok (header.0, end)) c.new-reader.ensures header.1 in
    let within = c.reading_is_spelling.ensures.within 32 12 start (entries header.0) end (record { least = omega arith; greatest = omega arith }) (struct_value 31 start end header.0 read) in
    IfOk-weaker c.page_head.result (λ head. head.next ≡ c.place.result) (λ head. (c.args.at ≤ head.next) × (head.next ≤ c.args.at + length c.args.bytes.now))
    (λ head is. (omega (arith, is, c.place.ensures, within.later), omega (arith, is, c.place.ensures, within.same_end))) c.page_head.ensures.next
