use Rattle.std.proofs.Common.{◌∷◌, [], get_or, arith}
use Rattle.hx_xmatch.proofs.Texts.{lines_more, matched_few, matched_next, no_row}
use Rattle.hx_xmatch.proofs.lines.push_matches.Goals as goal

pub loop-row-preserved : goal.loop-row-preserved
loop-row-preserved c =
    let tree = c.args.tree.now in
    let left = c.args.left.now in
    let i = c.loop-row.row-index in
    record {
      text = lines_more c.args.r2 tree left i no_row c.args.text.now.items c.loop-row.text.items _ c.loop-row-test.true c.loop-row.invariant.text c.in_ok-matched.ensures.line;
      matched = omega (arith, c.in_ok-matched.ensures.matched, c.loop-row.invariant.matched, matched_next c.args.r2 tree left i no_row c.loop-row-test.true);
      fits = omega (arith, c.in_ok-matched.ensures.matched, c.loop-row.invariant.fits, matched_few c.args.r2 tree (get_or left i no_row ∷ []));
    }
