-- A part that is read by the bytes that are read at first.
use Rattle.std.proofs.Common.{◌≡◌, ◌≤◌, ◌∙◌, ℕ, List, Ok, Err, Result, Vec, drop, take, ap, sym, subst}
use Rattle.std.specs.declared.alloc.Global.{Global}
use Rattle.std.proofs.lemmas.List.{take-take}
use Rattle.hx_base.specs.Columns.{◌>>=◌}
use Rattle.hx_base.specs.declared.row.Row.{Row}
use Rattle.hx_base.specs.declared.refusal.SpillRefusal.{SpillRefusal}
use Rattle.hx_spill.specs.Alone.{head_width}
use Rattle.hx_spill.specs.Items.{Read}
use Rattle.hx_book.specs.Slices.{Answers, read_alone, read_by_head}
use Rattle.hx_book.specs.declared.slices.SliceError.{SliceError}

-- what begins the bytes that are read at first begins the file
pub begins : (count : ℕ) (file front : List ℕ) → count ≤ 1024 → front ≡ take 1024 (drop 0 file) → take count front ≡ take count file
begins count file front few is = ap (take count) is ∙ take-take count 1024 file few

-- a file that isn't known by its front is refused
pub refused : (part : ℕ) (file : List ℕ) (why : SpillRefusal) → head_width (take 12 file) ≡ Err why → read_alone part file ≡ Err why
refused part file why told = ap (λ (r : Read ℕ). r >>= λ width. read_by_head part (take width file) file) told

-- the answer by the head is the answer by the file
pub by_head : (part width : ℕ) (file head : List ℕ) (answer : Result (Vec Row Global) SliceError) → head_width (take 12 file) ≡ Ok width → head ≡ take width file → Answers answer (read_by_head part head file) → Answers answer (read_alone part file)
by_head part width file head answer told is holds =
    let same : read_by_head part head file ≡ read_alone part file = ap (λ (l : List ℕ). read_by_head part l file) is ∙ sym (ap (λ (r : Read ℕ). r >>= λ w. read_by_head part (take w file) file) told) in
    subst (Answers answer) same holds
