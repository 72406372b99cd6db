-- The lines of some left rows, over the files of the right catalogue. r2 is the square of the radius.
use Rattle.std.specs.Prelude.{◌≡◌, ◌++◌, ℕ, Bool, true, false, List, Contains}
use Rattle.hx_base.specs.Coverage.{IsCutInto}
use Rattle.hx_base.specs.declared.pixel.Pixel.{Pixel}
use Rattle.hx_base.specs.declared.row.Row.{Row}
use Rattle.hx_catalog.specs.Answers.{Opened}
use Rattle.hx_outside.specs.Folders.{Folder}
use Rattle.hx_xmatch.specs.Fields.{AreFilesOf, HasFile, IsInAFile}
use Rattle.hx_xmatch.specs.Files.{HasRowsAt, margin_order_of}
use Rattle.hx_xmatch.specs.MatchText.{match_lines, matched_rows, nearest_of}
use Rattle.hx_xmatch.specs.Reads.{ReadsAll}

-- what is read for each of some left rows has its match of all right rows
abbrev pub Suffices : List Pixel → ℕ → ℕ → List Row → List Row → Type 0
Suffices parts margin_order r2 right left =
    (row : Row) (read : List Row) → Contains left row → ReadsAll parts margin_order right row read → nearest_of row r2 read ≡ nearest_of row r2 right

-- the right catalogue's files in a folder have these rows, and for some left rows enough of them is read
pub record FindsAll (folder : Folder) (opened : Opened) (r2 : ℕ) (right left : List Row) : Type 0 where
  pub files : AreFilesOf (HasRowsAt folder opened) opened.parts (margin_order_of opened) right
  pub cut : IsCutInto right opened.parts (margin_order_of opened)
  pub enough : Suffices opened.parts (margin_order_of opened) r2 right left

-- a text has gained the lines of left rows, of which so many have a match
pub record AddsLines (r2 : ℕ) (right left : List Row) (old new : List ℕ) (matched : ℕ) : Type 0 where
  pub lines : new ≡ old ++ match_lines r2 right left
  pub count : matched ≡ matched_rows r2 right left

-- rows have gained those of a file
pub record AddsFile (told : List Row → Type 0) (old new : List Row) : Type 0 where
  pub file : List Row
  pub is : told file
  pub added : new ≡ old ++ file

-- rows have gained those of a partition, and where it is asked those of its margin
pub record AddsPart (told : ℕ → Bool → List Row → Type 0) (index : ℕ) (margin : Bool) (old new : List Row) : Type 0 where
  pub own : HasFile (told index false) new
  pub margins : margin ≡ true → HasFile (told index true) new
  pub kept : (row : Row) → Contains old row → Contains new row
  pub only : ((row : Row) → Contains old row → IsInAFile told row) → (row : Row) → Contains new row → IsInAFile told row
