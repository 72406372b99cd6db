-- Files removed, so that no crash brings them back, and what stays.
use Rattle.std.proofs.Common.{◌≡◌, ◌≢◌, ◌≤◌, ◌<◌, ◌+◌, ◌==◌, ◌∙◌, ◌++◌, ◌⊎◌, ⊎_elim, inl, inr, if◌then◌else◌, ℕ, List, Option, Some, None, Bool, true, false, Result, Ok, Err, OnOk, codes, get_or, length, refl, sym, ap, append_assoc, subst, arith}
use Rattle.std.specs.List.{All, AllWithin}
use Rattle.std.proofs.lemmas.Bool.{cases_lt}
use Rattle.std.proofs.lemmas.List.{append_cancel_left, get_or_default}
use Rattle.std.specs.Str.{bytes_eq}
use Rattle.hx_base.specs.Paths.{folder_of, part_of, path_of}
use Rattle.hx_base.specs.declared.pixel.Pixel.{Pixel}
use Rattle.hx_base.specs.declared.refusal.JobFile.{JobFile}
use Rattle.hx_base.specs.declared.refusal.JobFile.TheVariants as file
use Rattle.hx_base.specs.Tasks.{file_of, list_of}
use Rattle.hx_base.specs.declared.task.Task.{Task}
use Rattle.hx_journal.specs.Headers.{IsHeader}
use Rattle.hx_journal.specs.Journal.{IsReady, Opened, Stands, Trims, journal_file}
use Rattle.hx_journal.specs.declared.record.Record.{Record}
use Rattle.hx_journal.proofs.AtRest.{keeps, stands_at}
use Rattle.hx_journal.proofs.Unique.{one_journal}
use Rattle.hx_outside.specs.Disk.{DiskMembers, IsDoneToAll, Passes}
use Rattle.hx_outside.specs.Folders.{Folder, MayRemove, Same, SameBut, removed}
use Rattle.hx_outside.proofs.Calls.{remove_others}
use Rattle.hx_outside.proofs.Names.{written_there}
use Rattle.hx_outside.proofs.Runs.{goes_on, joined, stands, weaker}
use Rattle.hx_import.specs.Cleaning.{CleansInOrder, HasNoWorkOf, IsWorkFile, KeepsJournal, KeepsOutside, LeavesWork, RemovesInOrder, work_folder}

if_none : (b : Bool) (other : Option (List ℕ)) → other ≡ None → (if b then None else other) ≡ None
if_none true other none = refl
if_none false other none = none

removed_none : (path : List ℕ) (g : Folder) (n : List ℕ) → (n ≡ path) ⊎ (g n ≡ None) → removed path g n ≡ None
removed_none path g n (inl is) = subst (λ (m : List ℕ). removed path g m ≡ None) (sym is) (written_there path None g)
removed_none path g n (inr none) = if_none (bytes_eq n path) (g n) none

-- a name that no folder has which a crash may leave
abbrev pub IsGone : {S : Type 0} → DiskMembers S → S → List ℕ → Type 0
IsGone d s n = (f : Folder) → d.may_leave s f → f n ≡ None

module _ {S : Type 0} (d : DiskMembers S) where
  pub removed_passes : (old mid new : S) (path : List ℕ) → d.tells old → Passes d old mid Same → Passes d mid new (MayRemove path) → Passes d old new (SameBut path)
  removed_passes old mid new path tells first call =
      joined d old mid new Same (MayRemove path) (SameBut path) tells first call (λ f g was same n apart. (λ k. same k n))
      (λ f g h was same now step n apart. remove_others path g h step n apart ∙ (λ k. same k n))

  pub synced_passes : (old mid : S) (path : List ℕ) → d.tells old → Passes d old mid Same → Passes d old mid (SameBut path)
  synced_passes old mid path tells first = weaker d old mid Same (SameBut path) first (λ f g was same n apart. (λ k. same k n)) tells

  pub removed_gone : {T E : Type 0} (old mid new : S) (path : List ℕ) (result : Result T E) → Passes d old mid Same → OnOk result (IsDoneToAll d mid new (removed path))
      → OnOk result ((n : List ℕ) → (n ≡ path) ⊎ IsGone d old n → IsGone d new n)
  removed_gone old mid new path (Ok x) first done = λ n none f now.
      let (g, was, is) = done f now in
      let (h, before, same) = first.each g (d.counts_now mid (d.moment old) g first.later was) in
      (λ k. is k n) ∙ removed_none path g n (⊎_elim (λ e. inl e) (λ all. inr ((λ k. same k n) ∙ all h before)) none)
  removed_gone old mid new path (Err e) first done = tt

-- the file that a task leaves in the folder for work has no pixel in its name
one_part : (left : JobFile) (p q : Pixel) → folder_of left ≡ work_folder → part_of left p ≡ part_of left q
one_part file.Journal p q h = refl
one_part (file.Map input) p q h = refl
one_part file.Plan p q h = refl
one_part (file.Split input) p q h = refl
one_part (file.Part part) p q h = cc h
one_part (file.MarginSplit part) p q h = refl
one_part (file.Margin part) p q h = cc h
one_part file.List p q h = cc h
one_part file.MarginList p q h = cc h
one_part file.MarginProperties p q h = cc h
one_part file.Properties p q h = cc h

pub one_path : (name : List ℕ) (left : JobFile) (p q : Pixel) → folder_of left ≡ work_folder → path_of name left p ≡ path_of name left q
one_path name left p q h = ap (λ (part : List ℕ). name ++ folder_of left ++ part) (one_part left p q h)

pub is_work : (name : List ℕ) (left : JobFile) (pixel : Pixel) → folder_of left ≡ work_folder → IsWorkFile name (path_of name left pixel)
is_work name left pixel h = (part_of left pixel, ap (λ (folder : List ℕ). name ++ folder ++ part_of left pixel) h)

pub only_outside : (name path : List ℕ) → IsWorkFile name path → (f g : Folder) → SameBut path f g → KeepsOutside name f g
only_outside name path work f g same n out = same n (λ e. out (subst (IsWorkFile name) (sym e) work))

pub nothing_left : (name : List ℕ) (f : Folder) (entry : Record) → ((left : JobFile) → ¬ (LeavesWork entry.task left)) → HasNoWorkOf name f entry
nothing_left name f entry none left pixel leaves = absurd (none left leaves)

one_left : (task : Task) (a b : JobFile) → LeavesWork task a → LeavesWork task b → a ≡ b
one_left task a b la lb = let both = sym la.leaves ∙ lb.leaves in cc both

pub left_gone : (name : List ℕ) (f : Folder) (entry : Record) (left : JobFile) (at : Pixel) → LeavesWork entry.task left → f (path_of name left at) ≡ None → HasNoWorkOf name f entry
left_gone name f entry left at leaves gone other pixel others =
    let same : other ≡ left = one_left entry.task other left others leaves in
    ap f (one_path name other pixel at others.in_work ∙ ap (λ (l : JobFile). path_of name l at) same) ∙ gone

-- no task leaves the journal
never_if : (b : Bool) (x y : Option JobFile) → (x ≡ Some file.Journal → ⊥) → (y ≡ Some file.Journal → ⊥) → (if b then x else y) ≡ Some file.Journal → ⊥
never_if true x y first other = first
never_if false x y first other = other

never_none : (left : JobFile) → None ≡ Some left → ⊥
never_none left e = cc e

never_list : (number : ℕ) → list_of number ≡ Some file.Journal → ⊥
never_list number =
    never_if (number == 0) _ _ (λ (e : Some file.List ≡ Some file.Journal). cc e)
    (never_if (number == 1) _ _ (λ (e : Some file.MarginList ≡ Some file.Journal). cc e)
    (never_if (number == 2) _ _ (λ (e : Some file.MarginProperties ≡ Some file.Journal). cc e) (never_none file.Journal)))

not_journal : (task : Task) → file_of task ≡ Some file.Journal → ⊥
not_journal task =
    never_if (task.kind == 1) _ _ (λ (e : Some (file.Map task.number) ≡ Some file.Journal). cc e)
    (never_if (task.kind == 2) _ _ (never_if (task.number == 0) _ _ (λ (e : Some file.Plan ≡ Some file.Journal). cc e) (never_none file.Journal))
    (never_if (task.kind == 3) _ _ (λ (e : Some (file.Split task.number) ≡ Some file.Journal). cc e)
    (never_if (task.kind == 4) _ _ (λ (e : Some (file.Part task.number) ≡ Some file.Journal). cc e)
    (never_if (task.kind == 5) _ _ (λ (e : Some (file.MarginSplit task.number) ≡ Some file.Journal). cc e)
    (never_if (task.kind == 6) _ _ (λ (e : Some (file.Margin task.number) ≡ Some file.Journal). cc e)
    (never_if (task.kind == 7) _ _ (never_list task.number)
    (never_if (task.kind == 8) _ _ (never_if (task.number == 0) _ _ (λ (e : Some file.Properties ≡ Some file.Journal). cc e) (never_none file.Journal)) (never_none file.Journal))))))))

-- the first letter of a work file's name tells it from the journal
first_letter : (left : JobFile) (pixel : Pixel) → folder_of left ≡ work_folder → left ≢ file.Journal → get_or (folder_of left ++ part_of left pixel) 6 0 ≡ 106 → ⊥
first_letter file.Journal pixel h other e = other refl
first_letter (file.Map input) pixel h other e = let letter : 109 ≡ 106 = e in omega (arith, letter)
first_letter file.Plan pixel h other e = let letter : 112 ≡ 106 = e in omega (arith, letter)
first_letter (file.Split input) pixel h other e = let letter : 115 ≡ 106 = e in omega (arith, letter)
first_letter (file.Part part) pixel h other e = cc h
first_letter (file.MarginSplit part) pixel h other e = let letter : 109 ≡ 106 = e in omega (arith, letter)
first_letter (file.Margin part) pixel h other e = cc h
first_letter file.List pixel h other e = cc h
first_letter file.MarginList pixel h other e = cc h
first_letter file.MarginProperties pixel h other e = cc h
first_letter file.Properties pixel h other e = cc h

pub other_file : (name : List ℕ) (task : Task) (left : JobFile) (pixel : Pixel) → LeavesWork task left → path_of name left pixel ≢ journal_file name
other_file name task left pixel leaves e =
    let tails : folder_of left ++ part_of left pixel ≡ codes ".work/" ++ codes "journal" =
    append_cancel_left name _ _ (sym (append_assoc name (folder_of left) (part_of left pixel)) ∙ e ∙ append_assoc name (codes ".work/") (codes "journal")) in
    first_letter left pixel leaves.in_work (λ (is : left ≡ file.Journal). not_journal task (leaves.leaves ∙ ap (λ (l : JobFile). Some l) is)) (ap (λ (tail : List ℕ). get_or tail 6 0) tails)

pub keeps_next : {S : Type 0} (d : DiskMembers S) (old mid new : S) (name : List ℕ) → d.tells old → Passes d old mid (KeepsOutside name) → Passes d mid new (KeepsOutside name) → Passes d old new (KeepsOutside name)
keeps_next d old mid new name tells run call =
    goes_on d old mid new (KeepsOutside name) (KeepsOutside name) tells run call (λ f g h was first now next n out. next n out ∙ first n out)

pub keeps_nothing : {S : Type 0} (d : DiskMembers S) (s : S) (name : List ℕ) → d.tells s → Passes d s s (KeepsOutside name)
keeps_nothing d s name tells = stands d s (KeepsOutside name) tells (λ f n out. refl)

pub keeps_same : {S : Type 0} (d : DiskMembers S) (old new : S) (name : List ℕ) → d.tells old → Passes d old new Same → Passes d old new (KeepsOutside name)
keeps_same d old new name tells run = weaker d old new Same (KeepsOutside name) run (λ f g was same n out. (λ k. same k n)) tells

pub keeps_file : {S : Type 0} (d : DiskMembers S) (old new : S) (name path : List ℕ) → IsWorkFile name path → d.tells old → Passes d old new (SameBut path) → Passes d old new (KeepsOutside name)
keeps_file d old new name path work tells run = weaker d old new (SameBut path) (KeepsOutside name) run (λ f g was same. only_outside name path work f g same) tells

pub keeps_trimmed : {S : Type 0} (d : DiskMembers S) (old new : S) (name : List ℕ) → d.tells old → Passes d old new (Trims (journal_file name)) → Passes d old new (KeepsOutside name)
keeps_trimmed d old new name tells run =
    weaker d old new (Trims (journal_file name)) (KeepsOutside name) run
    (λ f g was trims. only_outside name (journal_file name) (codes "journal", refl) f g trims.others) tells

module _ {S : Type 0} (d : DiskMembers S) (old new : S) where
  -- a path is gone, and each that was gone still is
  abbrev pub IsGoneToo : List ℕ → Type 0
  IsGoneToo path = (n : List ℕ) → (n ≡ path) ⊎ IsGone d old n → IsGone d new n

  pub still_gone : {T E : Type 0} (path : List ℕ) (result : Result T E) → OnOk result (IsGoneToo path) → OnOk result ((n : List ℕ) → IsGone d old n → IsGone d new n)
  still_gone path (Ok x) gone = λ n before. gone n (inr before)
  still_gone path (Err e) gone = tt

  -- the work file of a task, whose path was removed
  pub left_gone_where : {T E : Type 0} (name : List ℕ) (entry : Record) (left : JobFile) (at : Pixel) (result : Result T E) → LeavesWork entry.task left
      → (path shown : List ℕ) → path ≡ shown → shown ≡ path_of name left at → OnOk result (IsGoneToo path) → OnOk result ((f : Folder) → d.may_leave new f → HasNoWorkOf name f entry)
  left_gone_where name entry left at (Ok x) leaves path shown same is gone =
      λ f now. left_gone name f entry left at leaves (gone (path_of name left at) (inl (sym is ∙ sym same)) f now)
  left_gone_where name entry left at (Err e) leaves path shown same is gone = tt

  -- work files that were removed stay so
  pub all_gone : {T E : Type 0} (name : List ℕ) (entries : List Record) (path : List ℕ) (result : Result T E) → ((f : Folder) → d.may_leave old f → All (HasNoWorkOf name f) entries)
      → OnOk result (IsGoneToo path) → OnOk result ((f : Folder) → d.may_leave new f → All (HasNoWorkOf name f) entries)
  all_gone name entries path (Ok x) before gone =
      λ f now k e within left pixel leaves. gone (path_of name left pixel) (inr (λ g was. before g was k e within left pixel leaves)) f now
  all_gone name entries path (Err e) before gone = tt

  pub that_gone : {T E : Type 0} (path name : List ℕ) (result : Result T E) → name ≡ path → OnOk result (IsGoneToo path) → OnOk result (IsGone d new name)
  that_gone path name (Ok x) is gone = gone name (inl is)
  that_gone path name (Err e) is gone = tt

-- a journal opened behind a look at the properties
pub opened_passes : {S : Type 0} (d : DiskMembers S) (old mid new : S) (name : List ℕ) → d.tells old → Passes d old mid Same → (d.tells mid → Passes d mid new (Trims (journal_file name))) → Passes d old new (KeepsOutside name)
opened_passes d old mid new name tells first call =
    keeps_next d old mid new name tells (keeps_same d old mid name tells first) (keeps_trimmed d mid new name first.told (call first.told))

-- ---- in which order

module _ {S : Type 0} (d : DiskMembers S) (name : List ℕ) where
  pub journal_stands : (s : S) → d.tells s → Passes d s s (KeepsJournal name)
  journal_stands s tells = stands d s (KeepsJournal name) tells (λ f. refl)

  pub journal_next : (old mid new : S) → d.tells old → Passes d old mid (KeepsJournal name) → Passes d mid new (KeepsJournal name) → Passes d old new (KeepsJournal name)
  journal_next old mid new tells run call = goes_on d old mid new (KeepsJournal name) (KeepsJournal name) tells run call (λ f g h was first now next. next ∙ first)

  -- a work file that a task left was removed
  pub journal_kept : (old new : S) (task : Task) (left : JobFile) (at : Pixel) (path shown : List ℕ) → LeavesWork task left → path ≡ shown → shown ≡ path_of name left at
      → d.tells old → Passes d old new (SameBut path) → Passes d old new (KeepsJournal name)
  journal_kept old new task left at path shown leaves same is tells run =
      weaker d old new (SameBut path) (KeepsJournal name) run
      (λ f g was other. other (journal_file name) (λ (e : journal_file name ≡ path). other_file name task left at leaves (sym is ∙ sym same ∙ sym e))) tells

  pub kept_in_order : (old new : S) (records : List Record) → d.tells old → Passes d old new (KeepsJournal name) → Passes d old new (RemovesInOrder name records)
  kept_in_order old new records tells run = weaker d old new (KeepsJournal name) (RemovesInOrder name records) run (λ f g was same. inl same) tells

  still_none : (records : List Record) (f g : Folder) → SameBut (journal_file name) f g → All (HasNoWorkOf name f) records → All (HasNoWorkOf name g) records
  still_none records f g same gone k e within left pixel leaves = same (path_of name left pixel) (other_file name _ left pixel leaves) ∙ gone k e within left pixel leaves

  -- the work files are absent, and the journal is removed
  pub journal_last : (old mid new : S) (records : List Record) (path : List ℕ) → path ≡ journal_file name → d.tells old → Passes d old mid (KeepsJournal name)
      → ((f : Folder) → d.may_leave mid f → All (HasNoWorkOf name f) records) → Passes d mid new (SameBut path) → Passes d old new (RemovesInOrder name records)
  journal_last old mid new records path is tells run gone call =
      joined d old mid new (KeepsJournal name) (SameBut path) (RemovesInOrder name records) tells run call (λ f g was same. inl same)
      (λ f g h was same now others. inr (still_none records g h (λ n apart. others n (λ (e : n ≡ path). apart (e ∙ is))) (gone g now)))

  -- opening leaves the records that stand
  trims_in_order : (f g : Folder) → Trims (journal_file name) f g → CleansInOrder name f g
  trims_in_order f g trims header records heading stands = inl ((keeps (journal_file name) header records f g heading trims).0 stands)

  opened_trims : (old mid new : S) → d.tells old → Passes d old mid Same → Passes d mid new (Trims (journal_file name)) → Passes d old new (Trims (journal_file name))
  opened_trims old mid new tells first call =
      joined d old mid new Same (Trims (journal_file name)) (Trims (journal_file name)) tells first call
      (λ f g was same. record { others = λ n apart. λ k. same k n; there = inl (λ k. same k (journal_file name)) })
      (λ f g h was same now trims. subst (λ (x : Folder). Trims (journal_file name) x h) same trims)

  pub same_in_order : (old new : S) → d.tells old → Passes d old new Same → Passes d old new (CleansInOrder name)
  same_in_order old new tells run =
      weaker d old new Same (CleansInOrder name) run (λ f g was same header records heading stands. inl (subst (λ (x : Folder). Stands header records (x (journal_file name))) (sym same) stands)) tells

  pub opened_in_order : (old mid new : S) → d.tells old → Passes d old mid Same → (d.tells mid → Passes d mid new (Trims (journal_file name))) → Passes d old new (CleansInOrder name)
  opened_in_order old mid new tells first call =
      weaker d old new (Trims (journal_file name)) (CleansInOrder name) (opened_trims old mid new tells first (call first.told)) (λ f g was trims. trims_in_order f g trims) tells

  pub cleaned_in_order : (old mid opened new : S) (journal : Opened) (records : List Record) → d.tells old → Passes d old mid Same → (d.tells mid → Passes d mid opened (Trims (journal_file name)))
      → journal.file ≡ journal_file name → IsHeader journal.header → (d.tells mid → IsReady d opened journal) → records ≡ journal.records
      → (d.tells opened → Passes d opened new (RemovesInOrder name records)) → Passes d old new (CleansInOrder name)
  cleaned_in_order old mid opened new journal records tells first call named its_header ready all next =
      joined d old opened new (Trims (journal_file name)) (RemovesInOrder name records) (CleansInOrder name) tells run (next run.told) (λ f g was trims. trims_in_order f g trims)
      (λ f g h was trims now step header rs heading stands.
      let left : Stands header rs (g (journal_file name)) = (keeps (journal_file name) header rs f g heading trims).0 stands in
      ⊎_elim (λ (same : h (journal_file name) ≡ g (journal_file name)). inl (subst (Stands header rs) (sym same) left))
      (λ (gone : All (HasNoWorkOf name h) records). inr (subst (All (HasNoWorkOf name h)) (all ∙ sym (one g now header rs heading left)) gone)) step)
    where
      run : Passes d old opened (Trims (journal_file name))
      run = opened_trims old mid opened tells first (call first.told)

      one : (g : Folder) → d.may_leave opened g → (header : List ℕ) (rs : List Record) → IsHeader header → Stands header rs (g (journal_file name)) → rs ≡ journal.records
      one g now header rs heading left =
          let at : Stands journal.header journal.records (g (journal_file name)) =
          subst (λ (n : List ℕ). Stands journal.header journal.records (g n)) named (stands_at d opened journal.file journal.header journal.records g (ready first.told).rest now) in
          (one_journal header journal.header rs journal.records (g (journal_file name)) heading its_header left at).1

-- the work file of a task is in no folder that a crash may leave
abbrev pub IsWorkGone : {S : Type 0} → DiskMembers S → S → List ℕ → Record → Type 0
IsWorkGone d s name entry = (left : JobFile) (pixel : Pixel) → LeavesWork entry.task left → IsGone d s (path_of name left pixel)

-- the work files of the first of some tasks were removed
pub record AreRemoved {S : Type 0} (d : DiskMembers S) (name : List ℕ) (entries : List Record) (k : ℕ) (old s : S) : Type 0 where
  pub passes : d.tells old → Passes d old s (KeepsOutside name)
  pub journal : d.tells old → Passes d old s (KeepsJournal name)
  pub gone : d.tells old → AllWithin (IsWorkGone d s name) entries 0 k
  pub later : d.faults old ≤ d.faults s

module _ {S : Type 0} (d : DiskMembers S) (name : List ℕ) (entries : List Record) (old : S) where
  pub none_removed : AreRemoved d name entries 0 old old
  none_removed = record { passes = λ tells. keeps_nothing d old name tells; journal = λ tells. journal_stands d name old tells; gone = λ tells k e low high. absurd (omega (arith, high)); later = omega arith }

  pub one_removed : (mid new : S) (k : ℕ) (entry : Record) → entry ≡ get_or entries k entry → k < length entries → AreRemoved d name entries k old mid
      → (d.tells mid → Passes d mid new (KeepsOutside name))
      → (d.tells mid → Passes d mid new (KeepsJournal name))
      → (d.tells mid → (f : Folder) → d.may_leave new f → HasNoWorkOf name f entry)
      → (d.tells mid → (n : List ℕ) → IsGone d mid n → IsGone d new n)
      → d.faults mid ≤ d.faults new → AreRemoved d name entries (k + 1) old new
  one_removed mid new k entry is within before passes kept gone still later = record {
    passes = λ tells. let run = before.passes tells in keeps_next d old mid new name tells run (passes run.told);
    journal = λ tells. let run = before.journal tells in journal_next d name old mid new tells run (kept run.told);
    gone = λ tells. more tells;
    later = omega (arith, later, before.later);
  }
    where
      here : d.tells mid → (j : ℕ) (e : Record) → j ≡ k → IsWorkGone d new name (get_or entries j e)
      here told j e at left pixel leaves f now =
          let same : get_or entries j e ≡ entry = ap (λ (i : ℕ). get_or entries i e) at ∙ get_or_default entries k e entry within ∙ sym is in
          gone told f now left pixel (subst (λ (x : Record). LeavesWork x.task left) same leaves)

      more : d.tells old → AllWithin (IsWorkGone d new name) entries 0 (k + 1)
      more tells j e low high =
          let told = (before.passes tells).told in
          elim (cases_lt j k) [
            | inl less ↦ λ left pixel leaves. still told (path_of name left pixel) (before.gone tells j e low less left pixel leaves)
            | inr past ↦ here told j e (omega (arith, high, past))
          ]

  pub all_removed : (k : ℕ) (s : S) → length entries ≤ k → AreRemoved d name entries k old s → d.tells old → (f : Folder) → d.may_leave s f → All (HasNoWorkOf name f) entries
  all_removed k s past removed tells f now = λ j e within left pixel leaves. removed.gone tells j e (omega arith) (omega (arith, within, past)) left pixel leaves f now
