use Rattle.std.proofs.Common.{◌≡◌, ◌<◌, ◌∙◌, ◌++◌, ◌∷◌, ℕ, List, [], Some, Err, IfSome, length, refl, sym, ap, subst, inl, inr, arith}
use Rattle.hx_base.specs.Paths.{path_of}
use Rattle.hx_base.specs.Tasks.{file_of}
use Rattle.hx_base.specs.declared.pixel.Pixel.{Pixel}
use Rattle.hx_base.specs.declared.refusal.Refusal.{Refusal as RefusalData}
use Rattle.hx_journal.specs.Journal.{Opened}
use Rattle.hx_journal.specs.declared.record.Record.{Record}
use Rattle.hx_book.specs.Books.{IsOutsideCause, Shown}
use Rattle.hx_book.specs.Recordings.{pixel_for}
use Rattle.hx_book.specs.Tasks.{count_of}
use Rattle.hx_book.proofs.Exits.{apart, failed, is_entry, none_kept, noted, passed, planned, stage_small, store_cause}
use Rattle.hx_book.proofs.Holding.{failed_kept, put_kept}
use Rattle.hx_book.proofs.book.Book.finish.Goals.{then-self-count-via-then-self-count, then-self-count-via-else-self-count+then-is_some}
use Rattle.hx_book.proofs.book.Book.finish.Goals as goal

pub invariant_of-self : goal.invariant_of-self
invariant_of-self g c =
    let i = c.self.inside in
    let held = rw (← c.self.view_is) at c.requires.held in
    let kind = rw (← c.self.view_is) at c.requires.kind in
    put_kept g.J.Job.of g.Src.Source.source g.S.Store.disk _ c.self.invariant c.args.claimed.task c.args.claimed.source c.put_source.new.homes.items held kind c.requires.source c.put_source.ensures c.in-Some.refusal c.in-Some.is

pub returns-in-Some-clause-refused : goal.returns-in-Some-clause-refused
returns-in-Some-clause-refused g c = c.in-Some.is

pub returns-in-Some-clause-free : goal.returns-in-Some-clause-free
returns-in-Some-clause-free g c = refl

pub returns-in-Some-clause-settings : goal.returns-in-Some-clause-settings
returns-in-Some-clause-settings g c = ap (λ (s : Shown). s.settings) c.self.view_is

pub returns-in-Some-clause-later : goal.returns-in-Some-clause-later
returns-in-Some-clause-later g c =
    let e = ap (λ (s : Shown). s.faults) c.self.view_is in
    omega (arith, e)

pub invariant_of-self-in-Err : goal.invariant_of-self-in-Err
invariant_of-self-in-Err g c =
    let i = c.self.inside in
    let held = rw (← c.self.view_is) at c.requires.held in
    let kind = rw (← c.self.view_is) at c.requires.kind in
    failed_kept g.J.Job.of g.Src.Source.source g.S.Store.disk _ c.self.invariant c.args.claimed.task c.args.claimed.source c.put_source.new.homes.items held kind c.requires.source c.put_source.ensures i.store i.journal c.in-Err.refusal c.self.invariant.disk c.self.invariant.good (omega arith)
    (subst (λ (r : RefusalData). IsOutsideCause g.J.Job.of g.Src.Source.source (λ n s. (n ≡ c.args.claimed.task.number) × (c.args.claimed.source ≡ Some s)) (g.S.Store.disk.faults i.store) r) (sym c.in-Err.ensures.cause) tt)

pub returns-in-Err-clause-refused : goal.returns-in-Err-clause-refused
returns-in-Err-clause-refused g c = refl

pub returns-in-Err-clause-free : goal.returns-in-Err-clause-free
returns-in-Err-clause-free g c = refl

pub returns-in-Err-clause-settings : goal.returns-in-Err-clause-settings
returns-in-Err-clause-settings g c = ap (λ (s : Shown). s.settings) c.self.view_is

pub returns-in-Err-clause-later : goal.returns-in-Err-clause-later
returns-in-Err-clause-later g c =
    let e = ap (λ (s : Shown). s.faults) c.self.view_is in
    omega (arith, e)

pub record_task-requires-clause-apart : goal.record_task-requires-clause-apart
record_task-requires-clause-apart g c =
    let i = c.self.inside in
    let held = rw (← c.self.view_is) at c.requires.held in
    let kind = rw (← c.self.view_is) at c.requires.kind in
    let path : IfSome (file_of c.args.claimed.task) (λ f. c.as_str-2.result.now ≡ path_of i.settings.name f (pixel_for i.parts.items f)) =
    subst (λ (l : List Pixel). IfSome (file_of c.args.claimed.task) (λ f. c.as_str-2.result.now ≡ path_of i.settings.name f (pixel_for l f))) c.deref.ensures.value
    (subst (λ (x : List ℕ). IfSome (file_of c.args.claimed.task) (λ f. x ≡ path_of i.settings.name f (pixel_for c.deref.result.now f))) (sym c.as_str-2.ensures.value) c.in-Ok.ensures.path) in
    apart g.J.Job.of g.Src.Source.source g.S.Store.disk _ c.self.invariant c.args.claimed.task c.args.claimed.source c.put_source.new.homes.items held kind c.requires.source c.put_source.ensures c.in-None.is c.args.bytes.now c.in-Ok.prepared.rows c.as_str-2.result.now c.as_str.result.now c.requires.value c.in-Ok.ensures.file path (c.as_str.ensures.value ∙ c.in-Ok.ensures.tmp) c.in-Ok.ensures.rows c.in-Ok.ensures.no_rows

pub record_task-requires-clause-entry : goal.record_task-requires-clause-entry
record_task-requires-clause-entry g c =
    let i = c.self.inside in
    let held = rw (← c.self.view_is) at c.requires.held in
    let kind = rw (← c.self.view_is) at c.requires.kind in
    let path : IfSome (file_of c.args.claimed.task) (λ f. c.as_str-2.result.now ≡ path_of i.settings.name f (pixel_for i.parts.items f)) =
    subst (λ (l : List Pixel). IfSome (file_of c.args.claimed.task) (λ f. c.as_str-2.result.now ≡ path_of i.settings.name f (pixel_for l f))) c.deref.ensures.value
    (subst (λ (x : List ℕ). IfSome (file_of c.args.claimed.task) (λ f. x ≡ path_of i.settings.name f (pixel_for c.deref.result.now f))) (sym c.as_str-2.ensures.value) c.in-Ok.ensures.path) in
    is_entry g.J.Job.of g.Src.Source.source g.S.Store.disk _ c.self.invariant c.args.claimed.task c.args.claimed.source c.put_source.new.homes.items held kind c.requires.source c.put_source.ensures c.in-None.is c.args.bytes.now c.in-Ok.prepared.rows c.as_str-2.result.now c.as_str.result.now c.requires.value c.in-Ok.ensures.file path (c.as_str.ensures.value ∙ c.in-Ok.ensures.tmp) c.in-Ok.ensures.rows c.in-Ok.ensures.no_rows

pub invariant_of-self-in-Err-record_task : goal.invariant_of-self-in-Err-record_task
invariant_of-self-in-Err-record_task g c =
    let i = c.self.inside in
    let held = rw (← c.self.view_is) at c.requires.held in
    let kind = rw (← c.self.view_is) at c.requires.kind in
    let path : IfSome (file_of c.args.claimed.task) (λ f. c.as_str-2.result.now ≡ path_of i.settings.name f (pixel_for i.parts.items f)) =
    subst (λ (l : List Pixel). IfSome (file_of c.args.claimed.task) (λ f. c.as_str-2.result.now ≡ path_of i.settings.name f (pixel_for l f))) c.deref.ensures.value
    (subst (λ (x : List ℕ). IfSome (file_of c.args.claimed.task) (λ f. x ≡ path_of i.settings.name f (pixel_for c.deref.result.now f))) (sym c.as_str-2.ensures.value) c.in-Ok.ensures.path) in
    failed g.J.Job.of g.Src.Source.source g.S.Store.disk _ c.self.invariant c.args.claimed.task c.args.claimed.source c.put_source.new.homes.items held kind c.requires.source c.put_source.ensures c.in-None.is c.args.bytes.now c.in-Ok.prepared.rows c.as_str-2.result.now c.as_str.result.now c.requires.value c.in-Ok.ensures.file path (c.as_str.ensures.value ∙ c.in-Ok.ensures.tmp) c.in-Ok.ensures.rows c.in-Ok.ensures.no_rows c.record_task.new.store c.record_task.ensures.passes c.record_task.ensures.cause.later c.record_task.new.journal c.of_store-refusal.result
    (subst (λ (r : RefusalData). IsOutsideCause g.J.Job.of g.Src.Source.source (λ n s. (n ≡ c.args.claimed.task.number) × (c.args.claimed.source ≡ Some s)) (g.S.Store.disk.faults c.record_task.new.store) r) (sym c.of_store-refusal.ensures)
    (store_cause g.J.Job.of g.Src.Source.source _ (g.S.Store.disk.faults i.store) (g.S.Store.disk.faults c.record_task.new.store) c.in-Err-record_task.error c.self.invariant.count (λ e. c.in-Err-record_task.ensures.cause.failed (ap Err e))))

pub returns-in-Err-record_task-clause-refused : goal.returns-in-Err-record_task-clause-refused
returns-in-Err-record_task-clause-refused g c = refl

pub returns-in-Err-record_task-clause-free : goal.returns-in-Err-record_task-clause-free
returns-in-Err-record_task-clause-free g c = refl

pub returns-in-Err-record_task-clause-settings : goal.returns-in-Err-record_task-clause-settings
returns-in-Err-record_task-clause-settings g c = ap (λ (s : Shown). s.settings) c.self.view_is

pub returns-in-Err-record_task-clause-later : goal.returns-in-Err-record_task-clause-later
returns-in-Err-record_task-clause-later g c =
    let l = c.record_task.ensures.cause.later in
    rw (← c.self.view_is) l

pub overflow_cast-inputs : goal.overflow_cast-inputs
overflow_cast-inputs g c =
    let i = c.self.inside in
    let inputs : c.len-inputs.result ≡ length i.homes.items = omega (arith, c.len-inputs.ensures, c.put_source.new.homes.ok, c.put_source.ensures.long) in
    let few = c.self.invariant.fitting.few in
    let homes = c.self.invariant.fitting.count in
    omega (arith, inputs, few, homes)

pub overflow_cast-partitions : goal.overflow_cast-partitions
overflow_cast-partitions g c = omega (arith, c.len-partitions.ensures, c.in-Ok.prepared.parts.ok, c.in-Ok.ensures.few)

pub stage_after-self-inside-requires : goal.stage_after-self-inside-requires
stage_after-self-inside-requires g c = omega arith

pub invariant_of-self-then-task-eq-PLAN : goal.invariant_of-self-then-task-eq-PLAN
invariant_of-self-then-task-eq-PLAN g c =
    let i = c.self.inside in
    let held = rw (← c.self.view_is) at c.requires.held in
    let kind = rw (← c.self.view_is) at c.requires.kind in
    let path : IfSome (file_of c.args.claimed.task) (λ f. c.as_str-2.result.now ≡ path_of i.settings.name f (pixel_for i.parts.items f)) =
    subst (λ (l : List Pixel). IfSome (file_of c.args.claimed.task) (λ f. c.as_str-2.result.now ≡ path_of i.settings.name f (pixel_for l f))) c.deref.ensures.value
    (subst (λ (x : List ℕ). IfSome (file_of c.args.claimed.task) (λ f. x ≡ path_of i.settings.name f (pixel_for c.deref.result.now f))) (sym c.as_str-2.ensures.value) c.in-Ok.ensures.path) in
    let inputs : c.len-inputs.result ≡ length i.homes.items = omega (arith, c.len-inputs.ensures, c.put_source.new.homes.ok, c.put_source.ensures.long) in
    let two : c.args.claimed.task.kind ≡ 2 = omega (arith, c.if-task-eq-PLAN.true) in
    let long : length c.in-Ok.prepared.parts.items ≡ c.len-partitions.result = omega (arith, c.len-partitions.ensures, c.in-Ok.prepared.parts.ok) in
    planned g.J.Job.of g.Src.Source.source g.S.Store.disk _ c.self.invariant c.args.claimed.task c.args.claimed.source c.put_source.new.homes.items held kind c.requires.source c.put_source.ensures c.in-None.is c.args.bytes.now c.in-Ok.prepared.rows c.as_str-2.result.now c.as_str.result.now c.requires.value c.in-Ok.ensures.file path (c.as_str.ensures.value ∙ c.in-Ok.ensures.tmp) c.in-Ok.ensures.rows c.in-Ok.ensures.no_rows c.record_task.new.store c.record_task.ensures.passes c.record_task.ensures.cause.later c.record_task.new.journal c.in-Ok-record_task.ensures.kept c.in-Ok-record_task.ensures.done
    c.in-Ok.prepared.parts.items c.len-partitions.result c.stage_after-self-inside.result c.new.result.items c.new.ensures.items two long (omega (arith, long, c.in-Ok.ensures.few)) (c.in-Ok.ensures.parts two)
    c.stage_after-self-inside.ensures.later c.stage_after-self-inside.ensures.most
    (subst (λ (n : ℕ). (k : ℕ) → 2 < k → k < c.stage_after-self-inside.result → count_of n c.len-partitions.result k ≡ 0) inputs c.stage_after-self-inside.ensures.empty)
    (subst (λ (n : ℕ). c.stage_after-self-inside.result < 9 → 0 < count_of n c.len-partitions.result c.stage_after-self-inside.result) inputs c.stage_after-self-inside.ensures.some)

pub returns-then-task-eq-PLAN-clause-receipt : goal.returns-then-task-eq-PLAN-clause-receipt
returns-then-task-eq-PLAN-clause-receipt g c = (refl, ap (length {A = Record}) c.records.ensures.items ∙ ap (λ (s : Shown). length s.records) c.self.view_is)

pub returns-then-task-eq-PLAN-clause-recorded : goal.returns-then-task-eq-PLAN-clause-recorded
returns-then-task-eq-PLAN-clause-recorded g c =
    let entry : Record = record { task = c.args.claimed.task; len = length c.args.bytes.now; rows = c.in-Ok.prepared.rows } in
    record { entry = entry; task_is = refl; len_is = refl; records = ap (λ (o : Opened). o.records) c.in-Ok-record_task.ensures.kept ∙ ap (λ (s : Shown). s.records ++ entry ∷ []) c.self.view_is }

pub returns-then-task-eq-PLAN-clause-clear : goal.returns-then-task-eq-PLAN-clause-clear
returns-then-task-eq-PLAN-clause-clear g c = (sym (ap (λ (s : Shown). s.first) c.self.view_is) ∙ c.in-None.is, c.in-None.is, ap (λ (s : Shown). s.kept) c.self.view_is)

pub returns-then-task-eq-PLAN-clause-free : goal.returns-then-task-eq-PLAN-clause-free
returns-then-task-eq-PLAN-clause-free g c = refl

pub returns-then-task-eq-PLAN-clause-settings : goal.returns-then-task-eq-PLAN-clause-settings
returns-then-task-eq-PLAN-clause-settings g c = ap (λ (s : Shown). s.settings) c.self.view_is

pub returns-then-task-eq-PLAN-clause-later : goal.returns-then-task-eq-PLAN-clause-later
returns-then-task-eq-PLAN-clause-later g c =
    let l = c.record_task.ensures.cause.later in
    rw (← c.self.view_is) l

pub invariant_of-self-then-self-count : goal.invariant_of-self-then-self-count
invariant_of-self-then-self-count g c =
    let i = c.self.inside in
    let held = rw (← c.self.view_is) at c.requires.held in
    let kind = rw (← c.self.view_is) at c.requires.kind in
    let path : IfSome (file_of c.args.claimed.task) (λ f. c.as_str-2.result.now ≡ path_of i.settings.name f (pixel_for i.parts.items f)) =
    subst (λ (l : List Pixel). IfSome (file_of c.args.claimed.task) (λ f. c.as_str-2.result.now ≡ path_of i.settings.name f (pixel_for l f))) c.deref.ensures.value
    (subst (λ (x : List ℕ). IfSome (file_of c.args.claimed.task) (λ f. x ≡ path_of i.settings.name f (pixel_for c.deref.result.now f))) (sym c.as_str-2.ensures.value) c.in-Ok.ensures.path) in
    let inputs : c.len-inputs.result ≡ length i.homes.items = omega (arith, c.len-inputs.ensures, c.put_source.new.homes.ok, c.put_source.ensures.long) in
    let count : c.count_of-count.result ≡ count_of (length i.homes.items) i.partitions i.stage = c.count_of-count.ensures ∙ ap (λ (n : ℕ). count_of n i.partitions i.stage) inputs in
    noted g.J.Job.of g.Src.Source.source g.S.Store.disk _ c.self.invariant c.args.claimed.task c.args.claimed.source c.put_source.new.homes.items held kind c.requires.source c.put_source.ensures c.in-None.is c.args.bytes.now c.in-Ok.prepared.rows c.as_str-2.result.now c.as_str.result.now c.requires.value c.in-Ok.ensures.file path (c.as_str.ensures.value ∙ c.in-Ok.ensures.tmp) c.in-Ok.ensures.rows c.in-Ok.ensures.no_rows c.record_task.new.store c.record_task.ensures.passes c.record_task.ensures.cause.later c.record_task.new.journal c.in-Ok-record_task.ensures.kept c.in-Ok-record_task.ensures.done
    (elim c.then-self-count.branch [ then-self-count-via-then-self-count w ↦ inl (omega (arith, w.if-self-count.true, count)) | then-self-count-via-else-self-count+then-is_some w ↦ inr (sym w.is_some.ensures ∙ w.if-is_some.true) ])

pub returns-then-self-count-clause-receipt : goal.returns-then-self-count-clause-receipt
returns-then-self-count-clause-receipt g c = (refl, ap (length {A = Record}) c.records.ensures.items ∙ ap (λ (s : Shown). length s.records) c.self.view_is)

pub returns-then-self-count-clause-recorded : goal.returns-then-self-count-clause-recorded
returns-then-self-count-clause-recorded g c =
    let entry : Record = record { task = c.args.claimed.task; len = length c.args.bytes.now; rows = c.in-Ok.prepared.rows } in
    record { entry = entry; task_is = refl; len_is = refl; records = ap (λ (o : Opened). o.records) c.in-Ok-record_task.ensures.kept ∙ ap (λ (s : Shown). s.records ++ entry ∷ []) c.self.view_is }

pub returns-then-self-count-clause-clear : goal.returns-then-self-count-clause-clear
returns-then-self-count-clause-clear g c = (sym (ap (λ (s : Shown). s.first) c.self.view_is) ∙ c.in-None.is, c.in-None.is, ap (λ (s : Shown). s.kept) c.self.view_is)

pub returns-then-self-count-clause-free : goal.returns-then-self-count-clause-free
returns-then-self-count-clause-free g c = refl

pub returns-then-self-count-clause-settings : goal.returns-then-self-count-clause-settings
returns-then-self-count-clause-settings g c = ap (λ (s : Shown). s.settings) c.self.view_is

pub returns-then-self-count-clause-later : goal.returns-then-self-count-clause-later
returns-then-self-count-clause-later g c =
    let l = c.record_task.ensures.cause.later in
    rw (← c.self.view_is) l

pub stage_after-self-inside-requires-2 : goal.stage_after-self-inside-requires-2
stage_after-self-inside-requires-2 g c =
    let i = c.self.inside in
    let held = rw (← c.self.view_is) at c.requires.held in
    let kind = rw (← c.self.view_is) at c.requires.kind in
    stage_small g.J.Job.of g.Src.Source.source g.S.Store.disk _ c.self.invariant c.args.claimed.task c.args.claimed.source c.put_source.new.homes.items held kind c.requires.source c.put_source.ensures c.in-None.is

pub invariant_of-self-2 : goal.invariant_of-self-2
invariant_of-self-2 g c =
    let i = c.self.inside in
    let held = rw (← c.self.view_is) at c.requires.held in
    let kind = rw (← c.self.view_is) at c.requires.kind in
    let path : IfSome (file_of c.args.claimed.task) (λ f. c.as_str-2.result.now ≡ path_of i.settings.name f (pixel_for i.parts.items f)) =
    subst (λ (l : List Pixel). IfSome (file_of c.args.claimed.task) (λ f. c.as_str-2.result.now ≡ path_of i.settings.name f (pixel_for l f))) c.deref.ensures.value
    (subst (λ (x : List ℕ). IfSome (file_of c.args.claimed.task) (λ f. x ≡ path_of i.settings.name f (pixel_for c.deref.result.now f))) (sym c.as_str-2.ensures.value) c.in-Ok.ensures.path) in
    let inputs : c.len-inputs.result ≡ length i.homes.items = omega (arith, c.len-inputs.ensures, c.put_source.new.homes.ok, c.put_source.ensures.long) in
    let count : c.count_of-count.result ≡ count_of (length i.homes.items) i.partitions i.stage = c.count_of-count.ensures ∙ ap (λ (n : ℕ). count_of n i.partitions i.stage) inputs in
    passed g.J.Job.of g.Src.Source.source g.S.Store.disk _ c.self.invariant c.args.claimed.task c.args.claimed.source c.put_source.new.homes.items held kind c.requires.source c.put_source.ensures c.in-None.is c.args.bytes.now c.in-Ok.prepared.rows c.as_str-2.result.now c.as_str.result.now c.requires.value c.in-Ok.ensures.file path (c.as_str.ensures.value ∙ c.in-Ok.ensures.tmp) c.in-Ok.ensures.rows c.in-Ok.ensures.no_rows c.record_task.new.store c.record_task.ensures.passes c.record_task.ensures.cause.later c.record_task.new.journal c.in-Ok-record_task.ensures.kept c.in-Ok-record_task.ensures.done
    c.stage_after-self-inside-2.result c.new-2.result.items c.new-2.ensures.items (λ two. let no = c.if-task-eq-PLAN.false in omega (arith, no, two)) (none_kept i.kept (sym c.is_some.ensures ∙ c.if-is_some.false)) (omega (arith, c.if-self-count.false, count))
    c.stage_after-self-inside-2.ensures.later c.stage_after-self-inside-2.ensures.most
    (subst (λ (n : ℕ). (k : ℕ) → i.stage < k → k < c.stage_after-self-inside-2.result → count_of n i.partitions k ≡ 0) inputs c.stage_after-self-inside-2.ensures.empty)
    (subst (λ (n : ℕ). c.stage_after-self-inside-2.result < 9 → 0 < count_of n i.partitions c.stage_after-self-inside-2.result) inputs c.stage_after-self-inside-2.ensures.some)

pub returns-clause-receipt : goal.returns-clause-receipt
returns-clause-receipt g c = (refl, ap (length {A = Record}) c.records.ensures.items ∙ ap (λ (s : Shown). length s.records) c.self.view_is)

pub returns-clause-recorded : goal.returns-clause-recorded
returns-clause-recorded g c =
    let entry : Record = record { task = c.args.claimed.task; len = length c.args.bytes.now; rows = c.in-Ok.prepared.rows } in
    record { entry = entry; task_is = refl; len_is = refl; records = ap (λ (o : Opened). o.records) c.in-Ok-record_task.ensures.kept ∙ ap (λ (s : Shown). s.records ++ entry ∷ []) c.self.view_is }

pub returns-clause-clear : goal.returns-clause-clear
returns-clause-clear g c = (sym (ap (λ (s : Shown). s.first) c.self.view_is) ∙ c.in-None.is, c.in-None.is, ap (λ (s : Shown). s.kept) c.self.view_is)

pub returns-clause-free : goal.returns-clause-free
returns-clause-free g c = refl

pub returns-clause-settings : goal.returns-clause-settings
returns-clause-settings g c = ap (λ (s : Shown). s.settings) c.self.view_is

pub returns-clause-later : goal.returns-clause-later
returns-clause-later g c =
    let l = c.record_task.ensures.cause.later in
    rw (← c.self.view_is) l
