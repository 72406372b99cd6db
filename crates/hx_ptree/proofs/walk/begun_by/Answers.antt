use Rattle.std.proofs.Common.{◌<◌, inl, inr, slice_index_or}
use Rattle.std.proofs.lemmas.Bool.{cases_lt, le-leb}
use Rattle.hx_base.specs.Pixels.{first_position}
use Rattle.hx_ptree.proofs.Lists.{begins_later}
use Rattle.hx_ptree.proofs.walk.begun_by.Goals as goal

pub returns-then-not-begins_by-clause-later : goal.returns-then-not-begins_by-clause-later
returns-then-not-begins_by-clause-later c =
    let part = slice_index_or c.args.parts.now c.loop-index.index (record { order = 0; number = 0 }) in
    let first : c.args.position < first_position part =
    elim (cases_lt c.args.position (first_position part)) [ inl open_yet ↦ open_yet | inr begun ↦ absurd (cc (c.begins_by.ensures, le-leb _ _ begun, c.if-not-begins_by.true)) ] in
    begins_later c.args.parts.now c.requires.disjoint c.args.position c.loop-index.index (record { order = 0; number = 0 }) c.loop-index-test.true first
