use Rattle.std.proofs.Common.{◌≡◌, ◌≢◌, ◌∙◌, ◌++◌, ◌∷◌, [], ◌+◌, take, List, ap, subst, sym, arith, rules}
use Rattle.std.proofs.lemmas.List.{take_more, take_all}
use Rattle.hx_mem.specs.declared.files.File.{File}
use Rattle.hx_mem.specs.Files.{IsNowhere}
use Rattle.hx_mem.proofs.Entries.{found_at, one_more, absent}
use Rattle.hx_mem.proofs.files.find.Goals as goal

pub returns-then-eq-clause-found : goal.returns-then-eq-clause-found
returns-then-eq-clause-found c =
    let files = c.args.files.now in
    let is : c.index-files-at.result.name ≡ c.args.name.now = search rules in
    found_at files c.loop-at.at c.index-files-at.result c.args.name.now c.loop-at.invariant (omega arith) (ap (λ (e : File). e.name) (sym c.index-files-at.is) ∙ is)

pub loop-at-preserved : goal.loop-at-preserved
loop-at-preserved c =
    let files = c.args.files.now in
    let name = c.args.name.now in
    let x = c.index-files-at.result in
    let apart : x.name ≢ name = search rules in
    let more : take (c.loop-at.at + 1) files ≡ take c.loop-at.at files ++ x ∷ [] = take_more files c.loop-at.at x (omega arith) ∙ ap (λ (y : File). take c.loop-at.at files ++ y ∷ []) (sym c.index-files-at.is) in
    subst (λ (l : _). IsNowhere l name) (sym more) (one_more (take c.loop-at.at files) x name c.loop-at.invariant apart)

pub returns-clause-absent : goal.returns-clause-absent
returns-clause-absent c = λ e. absent c.args.files.now c.args.name.now (subst (λ (l : List File). IsNowhere l c.args.name.now) (take_all _ c.args.files.now (omega arith)) c.loop-at.invariant)
