use Rattle.std.proofs.Common.{◌≡◌, Ok, Err, inl, inr, rules, subst}
use Rattle.hx_base.specs.declared.refusal.Refusal.{Refusal}
use Rattle.hx_catalog.specs.Answers.{IsExact, IsNotOpened, Opened, Opens}
use Rattle.hx_outside.specs.Folders.{Folder}
use Rattle.hx_outside.proofs.Runs.{same_next}
use Rattle.hx_xmatch.specs.Outcomes.{IsOpenRefusal}
use Rattle.hx_xmatch.specs.declared.query.Query.{Query}
use Rattle.hx_xmatch.proofs.matching.open_pair.Goals as goal

opens_left : (folder : Folder) (query : Query) (left : Opened) → IsExact {T = Opened} (Opens folder query.left 1) (Ok left) → Opens folder query.left 1 (Ok left)
opens_left folder query left exact = elim exact.only [ inl opens ↦ opens | inr out ↦ absurd out ]

second_refused : (folder mid : Folder) → mid ≡ folder → (query : Query) (left : Opened) (given : Refusal) → IsExact {T = Opened} (Opens folder query.left 1) (Ok left)
    → IsExact {T = Opened} (Opens mid query.right 2) (Err given) → IsOpenRefusal folder query given
second_refused folder mid same query left given first second = elim second.only [
  | inl is ↦ inr (inr ((left, opens_left folder query left first), subst (λ (h : Folder). IsNotOpened h query.right 2 given) same is))
  | inr out ↦ inl out
]

pub returns-clause-unchanged : goal.returns-clause-unchanged
returns-clause-unchanged g c tells =
    let run = c.open_catalogue.ensures.unchanged tells in
    same_next g.S.Store.disk _ _ _ tells run (c.open_catalogue-2.ensures.unchanged run.told)

pub returns-in_err-right-clause-refused : goal.returns-in_err-right-clause-refused
returns-in_err-right-clause-refused g c tells =
    let is : c.from_residual-in_err-right.result ≡ Err c.in_err-right.field-0.0 = search rules in
    let run = c.open_catalogue.ensures.unchanged tells in
    rw is (second_refused (g.S.Store.disk.reads c.args.store.now) (g.S.Store.disk.reads c.open_catalogue.new.store) run.seen c.args.query.now _ _ (c.in_ok-left.ensures.exact tells) (c.in_err-right.ensures.exact run.told))

pub returns-in_err-right-clause-kinds : goal.returns-in_err-right-clause-kinds
returns-in_err-right-clause-kinds g c =
    let is : c.from_residual-in_err-right.result ≡ Err c.in_err-right.field-0.0 = search rules in
    rw is (inr (inl c.in_err-right.ensures.kinds))
