-- A source in memory.
use Rattle.std.specs.Prelude.{◌≡◌, ◌-◌, ◌<◌, ◌^◌, ℕ, List, [], length, min, take, drop, Some}
use Rattle.std.proofs.Common.{subst}
use Rattle.std.proofs.lemmas.Option.{same_Some}
use Rattle.hx_outside.specs.Sources.{SourceMembers}
use Rattle.hx_mem.specs.Calls.{one_more, one_more_if, is_named}

-- bytes whose number a u64 holds
pub record Content : Type 0 where
  pub bytes : List ℕ
  pub short : length bytes < 2 ^ 64

-- its name and its bytes, the numbers of the calls that fail, the number of the next call, and how many calls
-- have failed
pub record Memory : Type 0 where
  pub name : List ℕ
  pub content : Content
  pub named : List ℕ
  pub calls : ℕ
  pub faults : ℕ

-- it tells all that it holds
abbrev pub mem_source : SourceMembers Memory
mem_source = record {
  told = λ memory. Some memory.content.bytes;
  label = λ memory. memory.name;
  faults = λ memory. memory.faults;
  short = λ memory bytes told. subst (λ (held : List ℕ). length held < 2 ^ 64) (same_Some memory.content.bytes bytes told) memory.content.short;
}

-- a source as it begins: no call was made, and none is to fail
pub record IsFresh (name bytes : List ℕ) (memory : Memory) : Type 0 where
  pub same_name : memory.name ≡ name
  pub same_bytes : memory.content.bytes ≡ bytes
  pub none_named : memory.named ≡ []
  pub no_calls : memory.calls ≡ 0
  pub no_faults : memory.faults ≡ 0

-- the source after a call, which fails where its number was named
abbrev pub after_call : Memory → Memory
after_call memory = record memory {
  calls = one_more memory.calls;
  faults = one_more_if (is_named memory.named memory.calls) memory.faults;
}

-- what a read from `at` on gives where so many bytes are wanted: all that are left, as far as they are wanted
abbrev pub given : List ℕ → ℕ → ℕ → List ℕ
given bytes at wanted = take (min wanted (length bytes - at)) (drop at bytes)
