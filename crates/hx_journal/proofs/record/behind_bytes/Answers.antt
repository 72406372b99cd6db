use Rattle.hx_journal.proofs.Bodies.{body_read, no_kind, no_len, no_number, no_rows, no_zeros}
use Rattle.hx_journal.proofs.Headed.{told-as}
use Rattle.hx_journal.proofs.record.behind_bytes.Goals as goal

pub returns-in_err-kind : goal.returns-in_err-kind
returns-in_err-kind c = rw c.from_residual.ensures (no_kind c.args.bytes.now c.args.entry.now c.in_err-kind.ensures)

pub returns-in_err-number : goal.returns-in_err-number
returns-in_err-number c =
    let a = c.in_ok-kind in
    rw c.from_residual-in_err-number.ensures (no_number c.args.bytes.now c.args.entry.now a.kind.now a.ensures (rw c.to_le_bytes.ensures at c.in_err-number.ensures))

pub returns-in_err-len : goal.returns-in_err-len
returns-in_err-len c =
    let a = c.in_ok-kind in
    let b = c.in_ok-number in
    rw c.from_residual-in_err-len.ensures (no_len c.args.bytes.now c.args.entry.now a.kind.now a.ensures b.number.now (rw c.to_le_bytes.ensures at b.ensures) (rw c.to_le_bytes-2.ensures at c.in_err-len.ensures))

pub returns-in_err-rows : goal.returns-in_err-rows
returns-in_err-rows c =
    let a = c.in_ok-kind in
    let b = c.in_ok-number in
    let l = c.in_ok-len in
    rw c.from_residual-in_err-rows.ensures
    (no_rows c.args.bytes.now c.args.entry.now a.kind.now a.ensures b.number.now (rw c.to_le_bytes.ensures at b.ensures) l.len.now (rw c.to_le_bytes-2.ensures at l.ensures) (rw c.to_le_bytes-3.ensures at c.in_err-rows.ensures))

pub returns : goal.returns
returns c =
    let a = c.in_ok-kind in
    let b = c.in_ok-number in
    let l = c.in_ok-len in
    let n = c.in_ok-rows in
    told-as c.behind-5.result _ _ _ _ c.behind-5.ensures
    (no_zeros c.args.bytes.now c.args.entry.now a.kind.now a.ensures b.number.now (rw c.to_le_bytes.ensures at b.ensures) l.len.now (rw c.to_le_bytes-2.ensures at l.ensures) n.rows.now (rw c.to_le_bytes-3.ensures at n.ensures))
    (λ after is. body_read c.args.bytes.now c.args.entry.now a.kind.now a.ensures b.number.now (rw c.to_le_bytes.ensures at b.ensures) l.len.now (rw c.to_le_bytes-2.ensures at l.ensures) n.rows.now (rw c.to_le_bytes-3.ensures at n.ensures) after.now is)
