-- What is known of headers, of the files of journals, and of what opening leaves of one.
use Rattle.std.specs.Prelude.{◌≡◌, ◌↔◌, ◌++◌, ℕ, List, Option, length}
use Rattle.hx_base.specs.declared.settings.Settings.{Settings}
use Rattle.hx_outside.specs.Folders.{Folder}
use Rattle.hx_outside.specs.Disk.{DiskMembers, Passes}
use Rattle.hx_journal.specs.Headers.{Heading, IsHeader, IsHeading, header_of, heading_of}
use Rattle.hx_journal.specs.Journal.{IsAtRest, IsFirstDamage, IsJournal, Opened, Stands, Trims}
use Rattle.hx_journal.specs.Refusals.{IsFault, IsOpened, IsRefusedFor}
use Rattle.hx_journal.specs.declared.record.Record.{Record}
use Rattle.hx_journal.specs.declared.refusal.JournalRefusal.{JournalRefusal}

-- No header is the front of another: what two headers begin is one header and one rest.
abbrev pub BeginsOneHeader : Type 0
BeginsOneHeader = (a b x y : List ℕ) → IsHeader a → IsHeader b → a ++ x ≡ b ++ y → (a ≡ b) × (x ≡ y)

-- a header says one thing
abbrev pub SaysOneHeading : Type 0
SaysOneHeading = (a b : Heading) → IsHeading a → IsHeading b → header_of a ≡ header_of b → a ≡ b

-- two jobs have the same settings, and inputs of the same lengths and words
pub record AreOneJob (s t : Settings) (lens counts : List ℕ) (words names : List (List ℕ)) : Type 0 where
  pub settings : s ≡ t
  pub lengths : lens ≡ counts
  pub texts : words ≡ names

-- two jobs with one header are one
abbrev pub NamesOneJob : Type 0
NamesOneJob = (s t : Settings) (lens counts : List ℕ) (words names : List (List ℕ))
    → IsHeading (heading_of s lens words) → IsHeading (heading_of t counts names) → length words ≡ length lens → length names ≡ length counts
    → header_of (heading_of s lens words) ≡ header_of (heading_of t counts names) → AreOneJob s t lens counts words names

-- A file stands for one header and one list of records.
abbrev pub StandsForOneJournal : Type 0
StandsForOneJournal = (a b : List ℕ) (rs ss : List Record) (file : Option (List ℕ)) → IsHeader a → IsHeader b → Stands a rs file → Stands b ss file → (a ≡ b) × (rs ≡ ss)

-- bytes have one first damaged place at most
abbrev pub HasOneFirstDamage : Type 0
HasOneFirstDamage = (bytes : List ℕ) (one other : ℕ) → IsFirstDamage bytes one → IsFirstDamage bytes other → one ≡ other

-- bytes that are damaged are no journal
abbrev pub DamagedIsNoJournal : Type 0
DamagedIsNoJournal = (bytes : List ℕ) (place : ℕ) → IsFirstDamage bytes place → ¬ (IsJournal bytes)

-- a file opens with the header and the records that it stands for
abbrev pub OpensAsItStands : Type 0
OpensAsItStands = (name header : List ℕ) (rs : List Record) (file : Option (List ℕ)) (journal : Opened) → IsHeader header → Stands header rs file
    → IsOpened name file journal → journal ≡ record { file = name; header = header; records = rs }

-- and isn't opened only for a fault or for want of memory
abbrev pub IsRefusedByFault : Type 0
IsRefusedByFault = (header : List ℕ) (rs : List Record) (file : Option (List ℕ)) (refusal : JournalRefusal) → IsHeader header → Stands header rs file → IsRefusedFor file refusal → IsFault refusal

-- opening changes neither the header nor the records that a file stands for
abbrev pub OpeningKeepsRecords : Type 0
OpeningKeepsRecords = (name header : List ℕ) (rs : List Record) (f g : Folder) → IsHeader header → Trims name f g → Stands header rs (f name) ↔ Stands header rs (g name)

-- what is at rest stands for its header and its records in each image
abbrev pub StandsAtRest : {S : Type 0} → DiskMembers S → Type 0
StandsAtRest {S} d = (s : S) (name header : List ℕ) (rs : List Record) (f : Folder) → IsAtRest d s name header rs → d.may_leave s f → Stands header rs (f name)

-- and is at rest still after calls that leave its file as it was
abbrev pub RestsOverOthers : {S : Type 0} → DiskMembers S → Type 0
RestsOverOthers {S} d = (old new : S) (name header : List ℕ) (rs : List Record) → Passes d old new (λ f g. g name ≡ f name) → IsAtRest d old name header rs → IsAtRest d new name header rs
