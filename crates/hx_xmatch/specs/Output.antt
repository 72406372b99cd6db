-- Writing the file of a match: its names, and what stands in it. r2 is the square of the radius.
use Rattle.std.specs.Prelude.{◌≡◌, ◌≢◌, ◌++◌, ◌-◌, ◌^◌, ℕ, false, List, Option, Some, All, codes, length, min}
use Rattle.hx_base.specs.declared.row.Row.{Row}
use Rattle.hx_catalog.specs.Answers.{Opened}
use Rattle.hx_outside.specs.Folders.{Folder, contents}
use Rattle.hx_xmatch.specs.Files.{AreAllRows, HasRowsAt}
use Rattle.hx_xmatch.specs.MatchText.{match_lines, match_text, matched_rows}
use Rattle.hx_xmatch.specs.Pieces.{FindsAll}

-- the file of an output's name, and the temporary one
abbrev pub output_file : List ℕ → List ℕ
output_file name = name ++ codes ".csv"

abbrev pub temporary_file : List ℕ → List ℕ
temporary_file name = name ++ codes ".csv.tmp"

-- a name without a folder
abbrev pub HasNoFolder : List ℕ → Type 0
HasNoFolder name = All (λ byte. byte ≢ 47) name

-- a number as 64 bits count it
abbrev pub counted : ℕ → ℕ
counted n = min n (2 ^ 64 - 1)

-- a text is the match text of left rows, with their number and that of those with a match
pub record IsTextFor (r2 : ℕ) (right left : List Row) (text : List ℕ) (rows matched : ℕ) : Type 0 where
  pub text_is : text ≡ match_text r2 right left
  pub rows_are : rows ≡ counted (length left)
  pub matched_are : matched ≡ counted (matched_rows r2 right left)

-- it is so over the files of a folder, whatever the right rows are of which these files find all
abbrev pub IsWrittenFor : Folder → Opened → ℕ → List Row → List ℕ → ℕ → ℕ → Type 0
IsWrittenFor folder right r2 left text rows matched = (all : List Row) → FindsAll folder right r2 all left → IsTextFor r2 all left text rows matched

-- the same of all left rows in a folder
pub record IsTextOf (folder : Folder) (left right : Opened) (r2 : ℕ) (text : List ℕ) (rows matched : ℕ) : Type 0 where
  pub left_rows : List Row
  pub are_left : AreAllRows folder left left_rows
  pub written : IsWrittenFor folder right r2 left_rows text rows matched

-- the temporary file has gained the lines of the rows of a left partition
pub record AddsPiece (folder : Folder) (left right : Opened) (part r2 : ℕ) (old new : Option (List ℕ)) (rows matched : ℕ) : Type 0 where
  pub file : List Row
  pub is : HasRowsAt folder left part false file
  pub lines : List ℕ
  pub added : new ≡ Some (contents old ++ lines)
  pub rows_are : rows ≡ length file
  pub found : (all : List Row) → FindsAll folder right r2 all file → (lines ≡ match_lines r2 all file) × (matched ≡ matched_rows r2 all file)
