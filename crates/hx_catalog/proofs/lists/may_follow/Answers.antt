use Rattle.std.proofs.Common.{inl, inr, length, ◌<◌}
use Rattle.std.proofs.lemmas.Bool.{cases_lt}
use Rattle.hx_base.specs.Limits.{most_partitions}
use Rattle.hx_catalog.proofs.Listed.{follows, must-follow}
use Rattle.hx_catalog.proofs.lists.may_follow.Goals as goal

pub returns-then-may_be_listed : goal.returns-then-may_be_listed
returns-then-may_be_listed c =
    let pixels = c.args.pixels.now in
    let pixel = c.args.pixel.now in
    let room : length pixels < most_partitions =
    elim (cases_lt (length pixels) most_partitions) [ inl few ↦ few | inr full ↦ absurd (let is = c.is_full.ensures.1 full in cc (is, c.if-is_full.false)) ] in
    let listed = c.may_be_listed.ensures.0 c.if-may_be_listed.true in (
      λ h. follows pixels pixel c.requires room listed.0 listed.1 (c.end_before.ensures.0 h),
      λ h. c.end_before.ensures.1 (must-follow pixels pixel h).ended,
    )
