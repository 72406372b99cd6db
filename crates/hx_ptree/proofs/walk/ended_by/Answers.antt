use Rattle.std.proofs.Common.{◌<◌, inl, inr, slice_index_or}
use Rattle.std.proofs.lemmas.Bool.{cases_lt, le-leb}
use Rattle.hx_base.specs.Pixels.{end_position}
use Rattle.hx_ptree.proofs.Lists.{ends_later}
use Rattle.hx_ptree.proofs.walk.ended_by.Goals as goal

pub returns-then-not-ends_by-clause-after : goal.returns-then-not-ends_by-clause-after
returns-then-not-ends_by-clause-after c =
    let part = slice_index_or c.args.parts.now c.loop-index.index (record { order = 0; number = 0 }) in
    let first : c.args.position < end_position part =
    elim (cases_lt c.args.position (end_position part)) [ inl open_yet ↦ open_yet | inr ended ↦ absurd (cc (c.ends_by.ensures, le-leb _ _ ended, c.if-not-ends_by.true)) ] in
    ends_later c.args.parts.now c.requires.disjoint c.args.position c.loop-index.index (record { order = 0; number = 0 }) c.loop-index-test.true first
