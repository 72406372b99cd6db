use Rattle.std.proofs.Common.{◌≡◌, length, refl, ap, ◌∙◌, arith}
use Rattle.hx_thrift.specs.Texts.{Text}
use Rattle.hx_pqread.specs.Levels.{head_at}
use Rattle.hx_pqread.proofs.Standing.{behind}
use Rattle.hx_pqread.proofs.levels.run_head.Goals as goal

pub overflow_sub-bytes : goal.overflow_sub-bytes
overflow_sub-bytes c =
    let begin = (c.reading_is_spelling.ensures.varint c.new-reader.result c.in-Ok.head c.varint.new.self).1 c.in-Ok.ensures in
    let h = behind begin in
    let same = ap (λ (t : Text). length t.bytes) c.new-reader.ensures in
    omega (arith, h.0, same, c.remaining.ensures)

pub returns-in-Ok : goal.returns-in-Ok
unfolding head_at
returns-in-Ok c =
    let read = rw c.new-reader.ensures at c.in-Ok.ensures in
    let begin = (c.reading_is_spelling.ensures.varint (record { at = 0; bytes = c.args.bytes.now }) c.in-Ok.head c.varint.new.self).1 read in
    let h = behind begin in
    let same : c.split_at.result.1.now ≡ c.varint.new.self.bytes = (rw (c.remaining.ensures) at c.split_at.ensures.back) ∙ h.1 in
    rw (read, same) refl
