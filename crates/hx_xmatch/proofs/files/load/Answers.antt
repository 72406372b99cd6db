use Rattle.std.proofs.Common.{ℕ, Bool, Vec, Ok, Err, inl, inr}
use Rattle.std.specs.Prelude.{IfErr, IfOk, Result}
use Rattle.std.specs.declared.alloc.Global.{Global}
use Rattle.hx_base.specs.declared.refusal.JobFile.{JobFile}
use Rattle.hx_base.specs.declared.refusal.Refusal.{Refusal}
use Rattle.hx_base.specs.declared.row.Row.{Row}
use Rattle.hx_catalog.specs.Answers.{IsExact, Loads, MayRefuseLoading, Opened, listed}
use Rattle.hx_catalog.specs.Files.{rows_of_part}
use Rattle.hx_outside.specs.Folders.{Folder}
use Rattle.hx_xmatch.specs.Files.{HasRowsAt, IsLoadRefusal, MayRefuseRows}
use Rattle.hx_xmatch.proofs.files.load.Goals as goal

loaded : (folder : Folder) (opened : Opened) (part : ℕ) (margin : Bool) (answer : Result (Vec Row Global) Refusal) → IsExact (Loads folder opened part margin) (listed answer)
    → IfOk answer (λ rows. HasRowsAt folder opened part margin rows.items)
loaded folder opened part margin (Ok rows) exact = elim exact.only [ inl right ↦ right | inr out ↦ absurd out ]
loaded folder opened part margin (Err given) exact = tt

refused : (folder : Folder) (opened : Opened) (part : ℕ) (margin : Bool) (answer : Result (Vec Row Global) Refusal) → IsExact (Loads folder opened part margin) (listed answer)
    → IfErr answer (IsLoadRefusal folder opened)
refused folder opened part margin (Ok rows) exact = tt
refused folder opened part margin (Err given) exact = elim exact.only [ inl right ↦ inr (part, margin, right) | inr out ↦ inl out ]

kind_of : (side : ℕ) (file : JobFile) (given : Refusal) → MayRefuseLoading side file given → MayRefuseRows side given
kind_of side file given (inl out) = inl out
kind_of side file given (inr (place, is)) = inr (file, place, is)

kinds : (side : ℕ) (file : JobFile) (answer : Result (Vec Row Global) Refusal) → IfErr answer (MayRefuseLoading side file) → IfErr answer (MayRefuseRows side)
kinds side file (Ok rows) h = tt
kinds side file (Err given) h = kind_of side file given h

pub returns-clause-loaded : goal.returns-clause-loaded
returns-clause-loaded g c tells = loaded (g.S.Store.disk.reads c.args.store.now) c.args.catalogue.now c.args.part c.args.margin c.load.result (c.load.ensures.exact tells)

pub returns-clause-refused : goal.returns-clause-refused
returns-clause-refused g c tells = refused (g.S.Store.disk.reads c.args.store.now) c.args.catalogue.now c.args.part c.args.margin c.load.result (c.load.ensures.exact tells)

pub returns-clause-kinds : goal.returns-clause-kinds
returns-clause-kinds g c = kinds c.args.catalogue.now.side (rows_of_part c.args.margin c.args.part) c.load.result c.load.ensures.kinds
