-- The text of each refusal. Numbers are decimal.
use Rattle.std.specs.Prelude.{◌++◌, ℕ, List, codes}
use Rattle.std.specs.Fmt.{decimal}
use Rattle.hx_base.specs.declared.refusal.JobFile.{JobFile}
use Rattle.hx_base.specs.declared.refusal.JobFile.TheVariants as file
use Rattle.hx_base.specs.declared.refusal.Refusal.{Refusal}
use Rattle.hx_base.specs.declared.refusal.Refusal.TheVariants as refusal

-- the place of a kind of file among the kinds, from 0
abbrev pub file_kind : JobFile → ℕ
file_kind file.Journal = 0
file_kind (file.Map input) = 1
file_kind file.Plan = 2
file_kind (file.Split input) = 3
file_kind (file.Part partition) = 4
file_kind (file.MarginSplit partition) = 5
file_kind (file.Margin partition) = 6
file_kind file.List = 7
file_kind file.MarginList = 8
file_kind file.MarginProperties = 9
file_kind file.Properties = 10

-- the number of the file's input or partition, or 0
abbrev pub file_number : JobFile → ℕ
file_number (file.Map input) = input
file_number (file.Split input) = input
file_number (file.Part partition) = partition
file_number (file.MarginSplit partition) = partition
file_number (file.Margin partition) = partition
file_number _ = 0

abbrev pub refusal_text : Refusal → List ℕ
refusal_text refusal.Usage = codes "usage"
refusal_text (refusal.BadInput input row why) = codes "bad input " ++ decimal input ++ codes " row " ++ decimal row ++ codes " why " ++ decimal why
refusal_text (refusal.Overfull pixel count) = codes "overfull pixel " ++ decimal pixel ++ codes " count " ++ decimal count
refusal_text (refusal.TooNarrow left right gap2) = codes "margin too narrow left " ++ decimal left ++ codes " right " ++ decimal right ++ codes " gap2 " ++ decimal gap2
refusal_text refusal.StoreFault = codes "store fault"
refusal_text (refusal.InputFault input) = codes "input fault " ++ decimal input
refusal_text refusal.SinkFault = codes "output fault"
refusal_text refusal.Memory = codes "out of memory"
refusal_text (refusal.NoCatalogue side) = codes "no catalogue " ++ decimal side
refusal_text (refusal.OtherJob place kept asked) = codes "other job at " ++ decimal place ++ codes " kept " ++ decimal kept ++ codes " asked " ++ decimal asked
refusal_text (refusal.Damaged side f place) = codes "damaged " ++ decimal side ++ codes " " ++ decimal (file_kind f) ++ codes " " ++ decimal (file_number f) ++ codes " at " ++ decimal place
refusal_text (refusal.InputChanged input pixel kept found) = codes "input " ++ decimal input ++ codes " changed pixel " ++ decimal pixel ++ codes " kept " ++ decimal kept ++ codes " found " ++ decimal found
refusal_text (refusal.TooMany what found limit) = codes "too many " ++ decimal what ++ codes " found " ++ decimal found ++ codes " limit " ++ decimal limit
refusal_text refusal.NameTaken = codes "name taken"
