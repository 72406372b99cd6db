-- The records that a reader of bytes in memory has left.
use Rattle.std.specs.Prelude.{◌≡◌, ◌+◌, ℕ, List, [], ◌∷◌, length, Option, Some, None, Bool, true, false}
use Rattle.std.specs.Borrow.{Bor}
use Rattle.csv.specs.Machine.{ends_at_end}
use Rattle.csv.specs.Reading.{Ready, default_config, is_flexible, records_from, source_of}
use Rattle.csv.specs.declared.parser.State.{State}
use Rattle.csv.specs.declared.reader.Reader.{Reader}
use Rattle.csv.specs.declared.reader.Trim.TheVariants as trim

-- the bytes that a reader has left, if it has not failed
abbrev pub bytes_left : Reader (Bor (List ℕ)) → Option (List ℕ)
bytes_left reader = source_of (λ s. Some s.now) reader

abbrev pub unread_from : State → Option (List ℕ) → List (List (List ℕ))
unread_from state None = []
unread_from state (Some bytes) = records_from default_config (length bytes + 1) state bytes

-- the records that a reader has left
abbrev pub unread : Reader (Bor (List ℕ)) → List (List (List ℕ))
unread reader = unread_from reader.state (bytes_left reader)

-- a reader that stands between two records, and reads in the default dialect, with no header of its own, records of any length
pub record Stands (reader : Reader (Bor (List ℕ))) : Type 0 where
  pub trim : reader.trim ≡ trim.None
  pub flexible : is_flexible reader ≡ true
  pub ready : Ready reader
  pub config : reader.config ≡ default_config
  pub between : ends_at_end reader.state ≡ false
  pub left : (bytes : List ℕ) × (bytes_left reader ≡ Some bytes)

-- what a read finds: the next record, which it takes, or that none is left
abbrev pub TakesNext : Bool → Reader (Bor (List ℕ)) → Reader (Bor (List ℕ)) → List (List ℕ) → Type 0
TakesNext true before after fields = Stands after × (unread before ≡ fields ∷ unread after)
TakesNext false before after fields = unread before ≡ []
