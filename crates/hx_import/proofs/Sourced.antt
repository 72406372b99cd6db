-- The source of a task's input, before and after it was read; and a task's refusal as a book takes it.
use Rattle.std.proofs.Common.{◌≡◌, ◌≤◌, ◌<◌, ◌∙◌, ◌⊎◌, ℕ, List, length, Some, Option, Result, Ok, Err, IfOk, IfErr, IfSome, Vec, Global, true, false, slice_get, refl, sym, ap, subst, arith, inl, inr}
use Rattle.std.proofs.lemmas.Option.{slice_get_within}
use Rattle.hx_base.specs.declared.refusal.Refusal.{Refusal}
use Rattle.hx_base.specs.declared.refusal.Refusal.TheVariants as refusal
use Rattle.hx_base.specs.declared.task.Task.{Task}
use Rattle.hx_inputs.specs.Causes.{IsReadCause}
use Rattle.hx_outside.specs.Faults.{Rose}
use Rattle.hx_outside.specs.Sources.{SameSource, SourceMembers}
use Rattle.hx_book.specs.Books.{IsHome, IsOutsideCause, IsOwn, IsTaskCause, JobMembers, TakesInput, is_outside, job_of}
use Rattle.hx_book.proofs.Keeping.{inputs_are}
use Rattle.hx_import.specs.Given.{AreOfInput}
use Rattle.hx_import.specs.Working.{IsAsked, IsFailed}

module _ {Src : Type 0} (j : JobMembers) (source : SourceMembers Src) where
  pub home_same : (n : ℕ) (before now : Src) → IsHome j source n before → SameSource source before now → IsHome j source n now
  home_same n before now home same = record {
    origin = home.origin;
    there = home.there;
    name = same.name ∙ home.name;
    word = home.word;
    bytes = same.bytes ∙ home.bytes;
    later = omega (arith, home.later, same.later);
  }

  told_as : (told own : Option (List ℕ)) (all : List ℕ) → told ≡ own → IfSome told (λ bytes. all ≡ bytes) → IfSome own (λ bytes. all ≡ bytes)
  told_as told own all same is = subst (λ (o : Option (List ℕ)). IfSome o (λ bytes. all ≡ bytes)) same is

  -- what is read of it is the input's
  pub own_bytes : {E : Type 0} (n : ℕ) (before now : Src) → IsAsked j → IsHome j source n before → SameSource source before now → (result : Result (Vec ℕ Global) E)
      → IfOk result (λ all. IfSome (source.told before) (λ bytes. all.items ≡ bytes)) → IfOk result (λ bytes. AreOfInput j n (source.label now) bytes.items)
  own_bytes n before now asked home same (Ok all) is = record {
    origin = home.origin;
    there = home.there;
    word = home.word;
    name_is = same.name ∙ home.name;
    bytes_are = told_as (source.told before) home.origin.told all.items home.bytes is;
    told = λ p. asked.told p n home.origin home.there;
  }
  own_bytes n before now asked home same (Err e) is = tt

  -- a fault of it
  pub source_failed : (t : Task) (before now : Src) (faults : ℕ) (r : Refusal) → IsHome j source t.number before → IsReadCause source t.number before now r → IsFailed j source t (Some now) faults r
  source_failed t before now faults (refusal.InputFault input) home (is, rose) =
      (is, now, home.origin, refl, ap (slice_get j.origins) is ∙ home.there, risen home.origin.faults (source.faults before) (source.faults now) home.later rose)
    where
      risen : (a b c : ℕ) → a ≤ b → Rose b c → Rose a c
      risen a b c less rose = grind (arith, less, rose)
  source_failed t before now faults refusal.Memory home cause = tt
  source_failed t before now faults _ home cause = absurd cause

  -- why a task failed, as the book takes it
  pub task_cause : (t : Task) (own : Option Src) (faults : ℕ) (r : Refusal) → IsFailed j source t own faults r → is_outside r ≡ false → IsTaskCause j t r
  task_cause t own faults refusal.StoreFault h is = absurd (cc is)
  task_cause t own faults (refusal.InputFault input) h is = absurd (cc is)
  task_cause t own faults refusal.Memory h is = absurd (cc is)
  task_cause t own faults _ h is = h

  pub outside_cause : (t : Task) (own : Option Src) (faults : ℕ) (r : Refusal) → IsFailed j source t own faults r → is_outside r ≡ true
      → IsOutsideCause j source (λ n s. (n ≡ t.number) × (own ≡ Some s)) faults r
  outside_cause t own faults refusal.StoreFault h is = h
  outside_cause t own faults (refusal.InputFault input) (same, s, origin, here, there, rose) is = (s, origin, (same, here), there, rose)
  outside_cause t own faults refusal.Memory h is = tt
  outside_cause t own faults _ h is = absurd (cc is)

  -- a source that was read is still the task's own
  pub own_still : (t : Task) (s now : Src) → IsOwn j source t (Some s) → IsHome j source t.number now → IsOwn j source t (Some now)
  own_still t s now own home = record { takes = λ takes. (now, refl, home); none = λ other. let e = own.none other in absurd (cc e) }

  pub own_home : (t : Task) (s : Src) → IsOwn j source t (Some s) → TakesInput t.kind ⊎ (TakesInput t.kind → ⊥) → IsHome j source t.number s
  own_home t s own (inl takes) =
      let (x, is, home) = own.takes takes in
      let same : s ≡ x = cc is in
      subst (IsHome j source t.number) (sym same) home
  own_home t s own (inr other) = let e = own.none other in absurd (cc e)

  pub read_failed_of : {T : Type 0} (t : Task) (before now : Src) (faults : ℕ) (result : Result T Refusal) → IsHome j source t.number before → IfErr result (IsReadCause source t.number before now)
      → IfErr result (IsFailed j source t (Some now) faults)
  read_failed_of t before now faults (Ok x) home cause = tt
  read_failed_of t before now faults (Err r) home cause = source_failed t before now faults r home cause

  pub home_number : (n : ℕ) (s : Src) → IsHome j source n s → n < length (job_of j).inputs
  home_number n s home = let within = slice_get_within j.origins n home.origin home.there in omega (arith, within, inputs_are j)
