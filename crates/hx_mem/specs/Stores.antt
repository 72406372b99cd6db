-- A store in memory.
use Rattle.std.specs.Prelude.{◌≡◌, ◌||◌, ◌++◌, ◌∷◌, ◌+◌, ℕ, List, [], Option, Some, None, Bool, true, false, not, nat_lt, length, Result, Ok, Err, IsErr, IsErrOf, refl, if◌then◌else◌}
use Rattle.hx_outside.specs.Folders.{Folder}
use Rattle.hx_outside.specs.Disk.{DiskMembers}
use Rattle.hx_outside.specs.declared.store.StoreError.{StoreError}
use Rattle.hx_outside.specs.declared.store.StoreError.TheVariants.{Failed, Memory}
use Rattle.hx_mem.specs.declared.files.File.{File}
use Rattle.hx_mem.specs.declared.change.Change.{Change}
use Rattle.hx_mem.specs.declared.change.Call.{Call}
use Rattle.std.specs.Str.{bytes_eq}
use Rattle.hx_mem.specs.Calls.{CallCount, counted, is_named}
use Rattle.hx_mem.specs.Files.{folder_of}
use Rattle.hx_mem.specs.Logs.{reads_after, IsImage, WasImage, logged}
use Rattle.hx_mem.specs.LogLaws.{counts_now, earlier, only_now, reads_among}

-- the files that it began with, the changes since, the names that were read, the count of its calls, and the number
-- of the call from which on all fail
pub record Held : Type 0 where
  pub start : List File
  pub log : List Call
  pub looked : List (List ℕ)
  pub count : CallCount
  pub stop : Option ℕ

abbrev pub start_of : Held → Folder
start_of store = folder_of store.start

-- it tells all that it holds, and what a crash may leave
abbrev pub mem_disk : DiskMembers Held
mem_disk = record {
  tells = λ s. Unit {0};
  reads = λ s. reads_after s.log (start_of s);
  may_leave = λ s f. IsImage s.log (start_of s) f;
  moment = λ s. length s.log;
  left_since = λ s t f. WasImage s.log (start_of s) t f;
  faults = λ s. s.count.faults;
  reads_now = λ s told. reads_among s.log (start_of s) (λ g. g ≡ start_of s) refl;
  counts_now = λ s t f le now. counts_now s.log (start_of s) t f le now;
  earlier = λ s t u f le was. earlier s.log (start_of s) t u f le was;
  only_now = λ s f left. only_now s.log (start_of s) f left;
}

-- no call was made since the folder that it reads as, and none is to fail
pub record IsFresh (store : Held) : Type 0 where
  pub no_change : store.log ≡ []
  pub no_read : store.looked ≡ []
  pub no_call : store.count ≡ record { named = []; calls = 0; faults = 0 }
  pub no_stop : store.stop ≡ None

-- whether a number is that of the stop or past it
abbrev pub is_past : Option ℕ → ℕ → Bool
is_past None number = false
is_past (Some stop) number = not (nat_lt number stop)

-- whether the next call fails: its number was named, or is at or past the stop
abbrev pub is_to_fail : Held → Bool
is_to_fail store = is_named store.count.named store.count.calls || is_past store.stop store.count.calls

-- a call fails exactly where it is to, or wants memory
pub record FailsAsAsked {T : Type 0} (fails : Bool) (result : Result T StoreError) : Type 0 where
  pub only : IsErrOf result Failed → fails ≡ true
  pub always : fails ≡ true → IsErr result

-- the store after a call, but for what it changes
abbrev pub after_call : Held → Held
after_call store = record store { count = counted store.count (is_to_fail store) }

-- after a call that makes a change, and what it answers
abbrev pub after_change : {T : Type 0} → Change → Result T StoreError → Held → Held
after_change change result store = record (after_call store) { log = logged change result store.log }

-- the names that were read, with one more, unless memory was wanted
abbrev pub looked_at : {T : Type 0} → List ℕ → Result T StoreError → List (List ℕ) → List (List ℕ)
looked_at name (Ok count) looked = looked ++ name ∷ []
looked_at name (Err Failed) looked = looked ++ name ∷ []
looked_at name (Err Memory) looked = looked

-- after a read, and what it answers
abbrev pub after_read : {T : Type 0} → List ℕ → Result T StoreError → Held → Held
after_read name result store = record (after_call store) { looked = looked_at name result store.looked }

-- how often a name is in a list
abbrev pub count_of : List ℕ → List (List ℕ) → ℕ
count_of name [] = 0
count_of name (other ∷ names) = (if bytes_eq other name then 1 else 0) + count_of name names
