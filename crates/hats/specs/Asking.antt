-- Why the words of the command line are not known.
use Rattle.std.specs.declared.io.ErrorKind.{ErrorKind}
use Rattle.std.specs.declared.io.ErrorKind.TheVariants as kind
use Rattle.hx_base.specs.declared.refusal.Refusal.{Refusal}
use Rattle.hx_base.specs.declared.refusal.Refusal.TheVariants as refusal

-- there is no memory for them, or one of them is no text
abbrev pub refusal_of : ErrorKind → Refusal
refusal_of kind.OutOfMemory = refusal.Memory
refusal_of _ = refusal.Usage
