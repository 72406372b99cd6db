-- A store's error as a journal's refusal.
use Rattle.std.specs.Prelude.{◌≡◌, ⊤, ℕ, List, Option, Some, None}
use Rattle.hx_outside.specs.declared.store.StoreError.{StoreError}
use Rattle.hx_outside.specs.declared.store.StoreError.TheVariants.{Failed, Memory}
use Rattle.hx_journal.specs.declared.refusal.JournalRefusal.{JournalRefusal}
use Rattle.hx_journal.specs.Headers.{IsHeader}
use Rattle.hx_journal.specs.Journal.{IsFirstDamage, Opened, Stands}
use Rattle.hx_journal.specs.declared.refusal.JournalRefusal.TheVariants as refusal

abbrev pub refusal_of : StoreError → JournalRefusal
refusal_of Failed = refusal.StoreFault
refusal_of Memory = refusal.Memory

-- why a journal isn't opened: there is no file, or its first damaged place
abbrev pub IsRefusedFor : Option (List ℕ) → JournalRefusal → Type 0
IsRefusedFor file refusal.Absent = file ≡ None
IsRefusedFor file (refusal.Damaged place) = (bytes : List ℕ) × (file ≡ Some bytes) × IsFirstDamage bytes place
IsRefusedFor file refusal.StoreFault = ⊤
IsRefusedFor file refusal.Memory = ⊤

-- a fault of the store, or want of memory
abbrev pub IsFault : JournalRefusal → Type 0
IsFault refusal.Absent = ⊥
IsFault (refusal.Damaged place) = ⊥
IsFault refusal.StoreFault = ⊤
IsFault refusal.Memory = ⊤

-- why bytes aren't read as a journal
abbrev pub IsUnread : List ℕ → JournalRefusal → Type 0
IsUnread bytes refusal.Absent = ⊥
IsUnread bytes (refusal.Damaged place) = IsFirstDamage bytes place
IsUnread bytes refusal.StoreFault = ⊥
IsUnread bytes refusal.Memory = ⊤

-- an opened journal has the file's header and records
pub record IsOpened (name : List ℕ) (file : Option (List ℕ)) (journal : Opened) : Type 0 where
  pub named : journal.file ≡ name
  pub heading : IsHeader journal.header
  pub stands : Stands journal.header journal.records file
