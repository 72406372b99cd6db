-- What recording a task makes of a folder, at any moment.
use Rattle.std.specs.Prelude.{◌≡◌, ◌≢◌, ◌⊎◌, ◌∷◌, ◌++◌, List, [], ℕ, Some}
use Rattle.hx_outside.specs.Folders.{Folder}
use Rattle.hx_journal.specs.Journal.{Opened, Stands}
use Rattle.hx_journal.specs.declared.record.Record.{Record}

-- three files with three names
pub record AreApart (tmp file journal : List ℕ) : Type 0 where
  pub tmp_file : tmp ≢ file
  pub tmp_journal : tmp ≢ journal
  pub file_journal : file ≢ journal

-- Of the files but the temporary one only the task's and the journal change. The task's file may have these bytes
-- instead. The journal has the records from before, or these and the new one, and the latter only where the task's file
-- has the bytes.
pub record Records (tmp name bytes : List ℕ) (journal : Opened) (r : Record) (f g : Folder) : Type 0 where
  pub others : (n : List ℕ) → n ≢ tmp → n ≢ name → n ≢ journal.file → g n ≡ f n
  pub there : (g name ≡ f name) ⊎ (g name ≡ Some bytes)
  pub noted : Stands journal.header journal.records (g journal.file) ⊎ (Stands journal.header (journal.records ++ r ∷ []) (g journal.file) × (g name ≡ Some bytes))
