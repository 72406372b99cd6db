use Rattle.std.proofs.Common.{◌≡◌, ◌∙◌, ◌+◌, ◌++◌, ◌∷◌, [], take, ap, sym, arith}
use Rattle.std.proofs.lemmas.List.{take_more, take_all}
use Rattle.hx_mem.specs.declared.files.File.{File}
use Rattle.hx_mem.proofs.files.copy.Goals as goal

pub returns : goal.returns
returns c = c.loop-at.invariant ∙ take_all _ c.args.files.now (omega arith)

pub loop-at-preserved : goal.loop-at-preserved
loop-at-preserved c =
    let files = c.args.files.now in
    let x = c.index-files-at.result in
    let more : take (c.loop-at.at + 1) files ≡ take c.loop-at.at files ++ x ∷ [] = take_more files c.loop-at.at x (omega arith) ∙ ap (λ (y : File). take c.loop-at.at files ++ y ∷ []) (sym c.index-files-at.is) in
    c.in_ok-push.ensures.items ∙ (λ k. c.loop-at.invariant k ++ c.in_ok-copy.ensures k ∷ []) ∙ sym more
