use Rattle.std.proofs.Common.{◌++◌, ◌∙◌, replicate}
use Rattle.std.specs.Int.{w32, w64, to_le_bytes}
use Rattle.hx_journal.specs.Journal.{body}
use Rattle.hx_journal.proofs.Bodies.{put_together}
use Rattle.hx_journal.proofs.record.Record.push_body.Goals as goal

pub returns : goal.returns
unfolding body
returns c =
    let r = c.args.self.now in
    c.in_ok-extend_from_slice-4.ensures.items
    ∙ (λ k. (c.in_ok-extend_from_slice-3.ensures.items
    ∙ (λ k. (c.in_ok-extend_from_slice-2.ensures.items
    ∙ (λ k. (c.in_ok-extend_from_slice.ensures.items
    ∙ (λ k. c.in_ok-push.ensures.items k ++ c.to_le_bytes.ensures k)) k ++ c.to_le_bytes-2.ensures k)) k ++ c.to_le_bytes-3.ensures k)) k ++ replicate 11 0)
    ∙ put_together c.args.bytes.now.items r.task.kind (to_le_bytes w32 r.task.number) (to_le_bytes w64 r.len) (to_le_bytes w64 r.rows) (replicate 11 0)
