-- What a run behind the arguments answers, writes, leaves and tells.
use Rattle.std.specs.Prelude.{◌≡◌, ◌<◌, ◌≤◌, ◌++◌, ◌∷◌, ◌⊎◌, ◌↔◌, ℕ, List, [], length, map, Option, Some, None, IfSome, IsSomeAnd, option_map}
use Rattle.hx_base.specs.Limits.{most_inputs}
use Rattle.hx_base.specs.declared.refusal.Refusal.{Refusal}
use Rattle.hx_base.specs.declared.refusal.Refusal.TheVariants as refusal
use Rattle.hx_cli.specs.Asked.{Premises}
use Rattle.hx_cli.specs.FirstRefusal.{IsEarlyRefusal, IsExactFor, IsFirstRefusal}
use Rattle.hx_cli.specs.Leaves.{Leaves, work_refusal}
use Rattle.hx_cli.specs.Runs.{Decides, Gains, IsCaused, IsOutput}
use Rattle.hx_cli.specs.Texts.{refusal_text}
use Rattle.hx_inputs.specs.Inputs.{IsAfterLengths}
use Rattle.hx_inputs.specs.Sources.{SameSources, Tell}
use Rattle.hx_outside.specs.Disk.{DiskMembers}
use Rattle.hx_outside.specs.Faults.{HasFailed}
use Rattle.hx_outside.specs.Sinks.{SinkMembers}
use Rattle.hx_outside.specs.Sources.{SourceMembers}
use Rattle.hx_words.specs.Words.{Command, HasNoMeaning, Means}

-- how a run over inputs, a store and a sink ended, by these before and after
pub record IsRun {S T O : Type 0} (source : SourceMembers S) (disk : DiskMembers T) (sink : SinkMembers O) (words : List (List ℕ)) (before now : List S) (store store_now : T) (out out_now : O) (answer : Option Refusal) : Type 0 where
  -- the inputs come back in their order
  pub inputs : SameSources source before now
  -- usage exactly where the words have no meaning
  pub usage : (answer ≡ Some refusal.Usage) ↔ HasNoMeaning words
  -- more inputs than there may be
  pub many : most_inputs < length before → answer ≡ Some (refusal.TooMany 1 (length before) most_inputs)
  -- where the sources tell and the premises hold: each refusal exactly where it comes first
  pub first : (bytes : List (List ℕ)) (command : Command) → Tell source before bytes → Means words command → Premises disk store command (map source.label before) bytes →
      IsExactFor command answer (IsFirstRefusal command (map source.label before) bytes (disk.reads store))
  -- where the sources and the store tell: the refusals that no rows decide
  pub decided : (bytes : List (List ℕ)) (command : Command) → Tell source before bytes → Means words command → disk.tells store →
      Decides command answer (IsEarlyRefusal command (map source.label before) bytes (disk.reads store))
  -- a fault of an input, or want of memory, only where no input before it is too long
  pub in_turn : (bytes : List (List ℕ)) → Tell source before bytes → IfSome answer (IsAfterLengths bytes)
  -- each refusal has its cause
  pub cause : IfSome answer (IsCaused source disk words before now store store_now (HasFailed sink.faults out out_now))
  -- where the sink tells: it has gained the text, or a front of it where it failed, or nothing
  pub output : IfSome (sink.written out) (λ was. Gains (λ text. (bytes : List (List ℕ)) → Tell source before bytes → IsOutput disk store words (map source.label before) bytes text) was (sink.written out_now) answer)
  -- the sink's count did not fall, nor did the store's
  pub later : sink.faults out ≤ sink.faults out_now
  pub faults : disk.faults store ≤ disk.faults store_now
  -- what is left in the folder; a line without a meaning, or of too many inputs, leaves the store as it was
  pub left : (command : Command) → Means words command → Leaves disk store store_now command (map source.label before) (Tell source before) (work_refusal answer)
  pub untouched : HasNoMeaning words → store_now ≡ store
  pub too_many : most_inputs < length before → store_now ≡ store

-- the like of a store that is there
abbrev pub IsRunOver : {S T O : Type 0} → SourceMembers S → DiskMembers T → SinkMembers O → List (List ℕ) → List S → List S → T → Option T → O → O → Option Refusal → Type 0
IsRunOver source disk sink words before now store store_now out out_now answer =
    IsSomeAnd store_now (λ kept. IsRun source disk sink words before now store kept out out_now answer)

-- what is told of a refusal: its text and a line end
abbrev pub line_of : Refusal → List ℕ
line_of r = refusal_text r ++ 10 ∷ []

-- what is told of an answer: its refusal, or that there is no memory for the text
abbrev pub IsTold : Option Refusal → Option Refusal → Type 0
IsTold None told = told ≡ None
IsTold (Some r) told = (told ≡ Some r) ⊎ (told ≡ Some refusal.Memory)

-- what tells gains the line of what is told, where it doesn't fail
abbrev pub GainsLine : {E : Type 0} → SinkMembers E → Option Refusal → E → E → Type 0
GainsLine sink None before now = now ≡ before
GainsLine sink (Some r) before now = (HasFailed sink.faults before now → ⊥) → sink.written now ≡ option_map (λ was. was ++ line_of r) (sink.written before)
