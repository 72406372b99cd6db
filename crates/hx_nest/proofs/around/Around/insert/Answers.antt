use Rattle.std.proofs.Common.{◌≤◌, length, arith, inl, inr}
use Rattle.hx_nest.proofs.Lists.{kept_insert, kept_none}
use Rattle.hx_nest.proofs.around.Around.insert.Goals as goal
use Rattle.hx_nest.proofs.around.Around.insert.Goals.{then-index-count-via-then-index-count, then-index-count-via-else-index-count+then-self-index}

pub returns-then-index-count : goal.returns-then-index-count
returns-then-index-count c =
    let index = c.index_of-index in
    let count = c.self.inside.count in
    let long : c.self.inside.count ≤ length c.self.inside.pixels = omega (arith, c.self.told, c.self.invariant) in
    let adds = kept_insert c.self.inside.pixels c.args.self.now count index.result c.args.pixel long c.self.view_is index.ensures.within _ c.put_at.ensures index.ensures.before index.ensures.after in
    elim c.then-index-count.branch [
      | then-index-count-via-then-index-count w ↦ adds (inl w.if-index-count.true) c.requires.ascending
      | then-index-count-via-else-index-count+then-self-index w ↦ adds (inr w.if-self-index.true) c.requires.ascending
    ]

pub returns-else-self-index : goal.returns-else-self-index
returns-else-self-index c =
    let index = c.index_of-index in
    let long : c.self.inside.count ≤ length c.self.inside.pixels = omega (arith, c.self.told, c.self.invariant) in
    kept_none c.self.inside.pixels c.args.self.now c.self.inside.count index.result c.args.pixel long c.self.view_is index.ensures.within c.if-index-count.false c.if-self-index.false c.requires.ascending
