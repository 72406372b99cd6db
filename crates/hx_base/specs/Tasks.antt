-- The tasks of an import, by their kinds' numbers, and the file that each leaves.
use Rattle.std.specs.Prelude.{◌==◌, ℕ, if◌then◌else◌, Option, Some, None}
use Rattle.hx_base.specs.declared.refusal.JobFile.{JobFile}
use Rattle.hx_base.specs.declared.refusal.JobFile.TheVariants as file
use Rattle.hx_base.specs.declared.task.Task.{Task}

-- the lists: the catalogue's partitions, its margin's, and the margin's properties
abbrev pub list_of : ℕ → Option JobFile
list_of number =
    if number == 0 then Some file.List
    else if number == 1 then Some file.MarginList
    else if number == 2 then Some file.MarginProperties
    else None

-- a file that no number tells
abbrev pub alone : JobFile → ℕ → Option JobFile
alone only number = if number == 0 then Some only else None

-- map, plan, split, reduce, margin split, margin reduce, lists, properties
abbrev pub file_of : Task → Option JobFile
file_of task =
    if task.kind == 1 then Some (file.Map task.number)
    else if task.kind == 2 then alone file.Plan task.number
    else if task.kind == 3 then Some (file.Split task.number)
    else if task.kind == 4 then Some (file.Part task.number)
    else if task.kind == 5 then Some (file.MarginSplit task.number)
    else if task.kind == 6 then Some (file.Margin task.number)
    else if task.kind == 7 then list_of task.number
    else if task.kind == 8 then alone file.Properties task.number
    else None
