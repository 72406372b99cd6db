use Rattle.hx_spill.proofs.Heads.{head_read}
use Rattle.hx_spill.proofs.split.head.read_head.Goals as goal

pub returns-clause-head : goal.returns-clause-head
returns-clause-head c =
    let has = c.in_ok-head.ensures.read in
    rw c.in_ok-head.ensures.entries record {
      entries = has.entries;
      head = head_read c.args.bytes.now c.in_ok-mark.field-0 c.in_ok-n.n has.entries c.in_ok-mark.ensures.value c.in_ok-n.ensures.value has.read;
      read = has.read;
      within = has.within;
    }
