-- What the coverage test answers over the files of two catalogues in a folder. r2 is the square of the radius.
use Rattle.std.specs.Prelude.{◌≡◌, ◌⊎◌, ℕ, List}
use Rattle.hx_base.specs.Coverage.{IsLeastTooNear, NoneTooNear}
use Rattle.hx_base.specs.declared.refusal.Refusal.{Refusal}
use Rattle.hx_base.specs.declared.refusal.Refusal.TheVariants as refusal
use Rattle.hx_base.specs.declared.row.Row.{Row}
use Rattle.hx_catalog.specs.Answers.{Opened}
use Rattle.hx_outside.specs.Folders.{Folder}
use Rattle.hx_xmatch.specs.Files.{AreAllRows, IsEitherLoadRefusal, MayRefuseFiles, margin_order_of}

-- no pair of pixels is too near
pub record IsCovered (folder : Folder) (left right : Opened) (r2 : ℕ) : Type 0 where
  pub left_rows : List Row
  pub right_rows : List Row
  pub are_left : AreAllRows folder left left_rows
  pub are_right : AreAllRows folder right right_rows
  pub none : NoneTooNear right.parts (margin_order_of right) r2 left_rows right_rows

-- this is the least pair of pixels that are too near
pub record IsTooNarrow (folder : Folder) (left right : Opened) (r2 p q gap2 : ℕ) : Type 0 where
  pub left_rows : List Row
  pub right_rows : List Row
  pub are_left : AreAllRows folder left left_rows
  pub are_right : AreAllRows folder right right_rows
  pub least : IsLeastTooNear right.parts (margin_order_of right) r2 left_rows right_rows p q gap2

-- why a match isn't done: a pair is too near, or a file isn't loaded
abbrev pub IsTestRefusal : Folder → Opened → Opened → ℕ → Refusal → Type 0
IsTestRefusal folder left right r2 given =
    IsEitherLoadRefusal folder left right given
    ⊎ ((p q gap2 : ℕ) × (given ≡ refusal.TooNarrow p q gap2) × IsTooNarrow folder left right r2 p q gap2)

-- the refusals of the test, whatever the store
abbrev pub MayRefuseTest : Refusal → Type 0
MayRefuseTest given = MayRefuseFiles given ⊎ ((p q gap2 : ℕ) × (given ≡ refusal.TooNarrow p q gap2))
