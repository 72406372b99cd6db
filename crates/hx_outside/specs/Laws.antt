-- How runs of calls are joined, over any store. The general forms, over any step, are lemmas of proofs/Runs.
use Rattle.std.specs.Prelude.{◌≢◌, ℕ, List}
use Rattle.hx_outside.specs.Folders.{Same, SameBut}
use Rattle.hx_outside.specs.Disk.{DiskMembers, Passes, IsStable}

-- two runs that change nothing are one that changes nothing
abbrev pub UnchangedTwice : {S : Type 0} → DiskMembers S → Type 0
UnchangedTwice {S} d = (old mid new : S) → d.tells old → Passes d old mid Same → Passes d mid new Same → Passes d old new Same

-- two runs that change one file are one that changes it alone
abbrev pub OneFileTwice : {S : Type 0} → DiskMembers S → Type 0
OneFileTwice {S} d = (old mid new : S) (name : List ℕ) → d.tells old
    → Passes d old mid (SameBut name) → Passes d mid new (SameBut name) → Passes d old new (SameBut name)

-- a stable file stays stable while another changes
abbrev pub StableFilesStay : {S : Type 0} → DiskMembers S → Type 0
StableFilesStay {S} d = (old new : S) (name other : List ℕ) → other ≢ name
    → Passes d old new (SameBut name) → IsStable d old other → IsStable d new other
