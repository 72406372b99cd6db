-- What a journal's file stands for, and what the calls on it make of a folder.
use Rattle.std.specs.Prelude.{◌≡◌, ◌≢◌, ◌≤◌, ◌<◌, ◌^◌, ◌+◌, ◌*◌, ◌⊎◌, ◌∷◌, ◌++◌, ⊤, ℕ, List, [], Option, Some, codes, get_or, length, replicate}
use Rattle.std.specs.Int.{w32, w64, from_le_bytes, to_le_bytes}
use Rattle.hx_outside.specs.Folders.{Folder, SameBut}
use Rattle.hx_outside.specs.Disk.{DiskMembers}
use Rattle.hx_journal.specs.Headers.{IsHeader}
use Rattle.hx_journal.specs.declared.record.Record.{Record}

-- the 32 bytes of a record: kind, number, length of the task's file, rows, and eleven zeros
unfoldable pub body : Record → List ℕ
body r = r.task.kind ∷ to_le_bytes w32 r.task.number ++ to_le_bytes w64 r.len ++ to_le_bytes w64 r.rows ++ replicate 11 0

-- what a record may say: a kind from 1 to 8, and no rows for lists and properties
pub record IsEntry (r : Record) : Type 0 where
  pub least : 1 ≤ r.task.kind
  pub most : r.task.kind ≤ 8
  pub no_rows : 7 ≤ r.task.kind → r.rows ≡ 0

-- a body is that of one, whose numbers fit their bytes
pub record IsRecord (r : Record) : Type 0 where
  pub entry : IsEntry r
  pub number : r.task.number < 2 ^ 32
  pub len : r.len < 2 ^ 64
  pub rows : r.rows < 2 ^ 64

abbrev pub AreRecords : List Record → Type 0
AreRecords [] = ⊤
AreRecords (r ∷ rs) = IsRecord r × AreRecords rs

-- bodies behind open gates
abbrev pub blocks : List Record → List ℕ
blocks [] = []
blocks (r ∷ rs) = 1 ∷ (body r ++ blocks rs)

-- all that stands before the first closed gate
abbrev pub front : List ℕ → List Record → List ℕ
front header rs = header ++ blocks rs

-- A file has a header and records: the bodies behind its open gates before the first closed one, behind which
-- anything may stand.
pub record Stands (header : List ℕ) (rs : List Record) (file : Option (List ℕ)) : Type 0 where
  pub gate : ℕ
  pub rest : List ℕ
  pub closed : gate ≢ 1
  pub sound : AreRecords rs
  pub is : file ≡ Some (front header rs ++ (gate ∷ rest))

-- bytes that are a journal
abbrev pub IsJournal : List ℕ → Type 0
IsJournal bytes = (header : List ℕ) × (rs : List Record) × IsHeader header × Stands header rs (Some bytes)

-- behind a gate there is no body, or no gate behind that
abbrev pub HasNoBody : List ℕ → Type 0
HasNoBody rest = (r : Record) (next : ℕ) (more : List ℕ) → IsRecord r → rest ≢ body r ++ (next ∷ more)

-- What stands behind these records is damaged: there is no gate right behind the header, or the gate is open, and there
-- is no body and gate behind it. So a record has a gate behind it, and the first of two damaged gates is told.
abbrev pub IsBroken : List Record → List ℕ → Type 0
IsBroken records [] = records ≡ []
IsBroken records (gate ∷ rest) = (gate ≡ 1) × HasNoBody rest

-- the bytes begin with no header
abbrev pub HasNoHeader : List ℕ → Type 0
HasNoHeader bytes = (header rest : List ℕ) → IsHeader header → bytes ≢ header ++ rest

-- the first damaged gate is behind a header and some records
pub record IsDamagedAt (bytes : List ℕ) (place : ℕ) : Type 0 where
  pub header : List ℕ
  pub heading : IsHeader header
  pub records : List Record
  pub sound : AreRecords records
  pub rest : List ℕ
  pub is : bytes ≡ front header records ++ rest
  pub at : place ≡ length (front header records)
  pub broken : IsBroken records rest

-- the first damaged place: 0 where no header stands, else that of a gate
abbrev pub IsFirstDamage : List ℕ → ℕ → Type 0
IsFirstDamage bytes place = (HasNoHeader bytes × (place ≡ 0)) ⊎ IsDamagedAt bytes place

-- Each folder that a crash may leave has the header, the records and a closed gate with nothing behind it.
pub record IsAtRest {S : Type 0} (d : DiskMembers S) (s : S) (name header : List ℕ) (rs : List Record) : Type 0 where
  pub gate : ℕ
  pub closed : gate ≢ 1
  pub sound : AreRecords rs
  pub each : (f : Folder) → d.may_leave s f → f name ≡ Some (front header rs ++ (gate ∷ []))

-- Only the journal changes: it has the records from before, or these and the new one.
pub record Notes (name header : List ℕ) (rs : List Record) (r : Record) (f g : Folder) : Type 0 where
  pub others : SameBut name f g
  pub there : Stands header rs (g name) ⊎ Stands header (rs ++ r ∷ []) (g name)

-- A journal changes behind its first closed gate alone.
pub record Trimmed (before after : Option (List ℕ)) : Type 0 where
  pub header : List ℕ
  pub heading : IsHeader header
  pub records : List Record
  pub sound : AreRecords records
  pub gate : ℕ
  pub closed : gate ≢ 1
  pub was_behind : List ℕ
  pub is_behind : List ℕ
  pub was : before ≡ Some (front header records ++ (gate ∷ was_behind))
  pub is : after ≡ Some (front header records ++ (gate ∷ is_behind))

-- Only the journal changes, and it behind its first closed gate alone.
pub record Trims (name : List ℕ) (f g : Folder) : Type 0 where
  pub others : SameBut name f g
  pub there : (g name ≡ f name) ⊎ Trimmed (f name) (g name)

-- an open journal: its file, its header and its records
pub record Opened : Type 0 where
  pub file : List ℕ
  pub header : List ℕ
  pub records : List Record

-- a store tells, and has an open journal at rest
pub record IsReady {S : Type 0} (d : DiskMembers S) (s : S) (journal : Opened) : Type 0 where
  pub told : d.tells s
  pub rest : IsAtRest d s journal.file journal.header journal.records

-- what an open journal keeps: a header, records, and the place of the closed gate behind them
pub record IsSound (gate : ℕ) (header : List ℕ) (records : List Record) : Type 0 where
  pub heading : IsHeader header
  pub entries : AreRecords records
  pub place : gate ≡ length header + 33 * length records

-- the files of a catalogue's journal
abbrev pub journal_file : List ℕ → List ℕ
journal_file name = name ++ codes ".work/" ++ codes "journal"

abbrev pub temporary_file : List ℕ → List ℕ
temporary_file name = name ++ codes ".work/tmp"

-- the record that the first 32 of some bytes spell, if they are a body
abbrev pub candidate : List ℕ → Record
candidate bytes = record {
  task = record { kind = at 0; number = from_le_bytes w32 (at 1 ∷ at 2 ∷ at 3 ∷ at 4 ∷ []) };
  len = from_le_bytes w64 (at 5 ∷ at 6 ∷ at 7 ∷ at 8 ∷ at 9 ∷ at 10 ∷ at 11 ∷ at 12 ∷ []);
  rows = from_le_bytes w64 (at 13 ∷ at 14 ∷ at 15 ∷ at 16 ∷ at 17 ∷ at 18 ∷ at 19 ∷ at 20 ∷ []);
}
  where
    at : ℕ → ℕ
    at i = get_or bytes i 0

-- a body, and what follows it: at least a gate
abbrev pub BeginsByBody : List ℕ → Record → List ℕ → Type 0
BeginsByBody bytes r after = IsRecord r × (0 < length after) × (bytes ≡ body r ++ after)

-- a header, and what follows it
abbrev pub BeginsByHeader : List ℕ → List ℕ → Type 0
BeginsByHeader bytes after = (header : List ℕ) × IsHeader header × (bytes ≡ header ++ after)
