use Rattle.std.proofs.Common.{ℕ, subst, sym, ◌∙◌}
use Rattle.std.proofs.lemmas.Bool.{false≢true}
use Rattle.hx_nest.proofs.Interleaved.{one_place}
use Rattle.hx_margin.specs.Inner.{IsInBlock}
use Rattle.hx_margin.proofs.edges.is_inner.Goals as goal

pub returns-then-is_in_block : goal.returns-then-is_in_block
returns-then-is_in_block c =
    let at = c.split-at.result in (
      λ t. record {
        face = at.face;
        x = at.x;
        y = at.y;
        at = c.split-at.ensures;
        along_x = c.is_in_block.ensures.0 c.if-is_in_block.true;
        along_y = c.is_in_block-then-is_in_block.ensures.0 t;
      },
      λ h.
          let same = one_place c.args.order c.args.pixel h.face h.x h.y at.face at.x at.y h.at c.split-at.ensures in
          c.is_in_block-then-is_in_block.ensures.1 (subst (λ (y : ℕ). IsInBlock c.args.steps y) same.2 h.along_y),
    )

pub returns-else-is_in_block : goal.returns-else-is_in_block
returns-else-is_in_block c =
    let at = c.split-at.result in (
      λ t. absurd (false≢true (sym c.if-is_in_block.false ∙ t)),
      λ h.
          let same = one_place c.args.order c.args.pixel h.face h.x h.y at.face at.x at.y h.at c.split-at.ensures in
          c.is_in_block.ensures.1 (subst (λ (x : ℕ). IsInBlock c.args.steps x) same.1 h.along_x),
    )
