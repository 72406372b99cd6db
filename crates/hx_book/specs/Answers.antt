-- Facts for each answer of a claim, and how many claims may be answered with a task yet.
use Rattle.std.specs.Prelude.{◌+◌, ◌-◌, ◌*◌, ⊤, ℕ}
use Rattle.hx_book.specs.Books.{Shown}
use Rattle.hx_book.specs.declared.answers.Claim.{Claim}
use Rattle.hx_book.specs.declared.answers.Claim.TheVariants.{Take, Idle, Stopped, Done}
use Rattle.hx_book.specs.declared.answers.Claimed.{Claimed}

abbrev pub IfTake : {Src : Type 0} → Claim Src → (Claimed Src → Type 0) → Type 0
IfTake (Take c) P = P c
IfTake Idle P = ⊤
IfTake Stopped P = ⊤
IfTake Done P = ⊤

abbrev pub IsTake : {Src : Type 0} → Claim Src → Type 0
IsTake (Take c) = ⊤
IsTake Idle = ⊥
IsTake Stopped = ⊥
IsTake Done = ⊥

abbrev pub IsIdle : {Src : Type 0} → Claim Src → Type 0
IsIdle (Take c) = ⊥
IsIdle Idle = ⊤
IsIdle Stopped = ⊥
IsIdle Done = ⊥

abbrev pub IsStopped : {Src : Type 0} → Claim Src → Type 0
IsStopped (Take c) = ⊥
IsStopped Idle = ⊥
IsStopped Stopped = ⊤
IsStopped Done = ⊥

abbrev pub IsDone : {Src : Type 0} → Claim Src → Type 0
IsDone (Take c) = ⊥
IsDone Idle = ⊥
IsDone Stopped = ⊥
IsDone Done = ⊤

-- A bound of the tasks that are given yet: it falls with each claim that gives one, and never rises. A kind has at most 100000 tasks.
abbrev pub most_claims : Shown → ℕ
most_claims b = (9 - b.stage) * 100001 + (100001 - b.from)
