-- What is answered over inputs that were looked at first.
use Rattle.std.proofs.Common.{◌≡◌, ◌∙◌, ◌≤◌, ◌<◌, ◌⊎◌, ◌+◌, ◌-◌, ◌^◌, ℕ, List, [], ◌∷◌, Option, Some, None, Result, Ok, Err, IfErr, IfOk, Vec, Global, arith, inl, inr, length, map, min, refl, subst, sym, suc, get_or, ap}
use Rattle.std.specs.Option.{option_or}
use Rattle.std.proofs.lemmas.List.{length-map}
use Rattle.std.proofs.Math.Nat.{le_trans}
use Rattle.hx_base.specs.FirstRefusals.{MayStandInPlace, OrElse}
use Rattle.hx_base.specs.declared.refusal.Refusal.{Refusal}
use Rattle.hx_base.specs.declared.refusal.Refusal.TheVariants as refusal
use Rattle.hx_import.specs.Imports.{IsOfFolder, MayStandOverFolder}
use Rattle.hx_inputs.proofs.Sources.{same_names, tell_still}
use Rattle.hx_inputs.specs.Causes.{IsInputsCause}
use Rattle.hx_inputs.specs.Inputs.{too_long, too_many_inputs}
use Rattle.hx_inputs.specs.Sources.{HasLength, SameSources, Tell}
use Rattle.hx_outside.specs.Disk.{DiskMembers}
use Rattle.hx_outside.specs.Faults.{Rose}
use Rattle.hx_outside.specs.Sources.{SourceMembers}
use Rattle.hx_words.specs.Words.{Around, Clean, Command, Histogram, Import, Match, Plan}
use Rattle.hx_cli.specs.Asked.{Premises}
use Rattle.hx_cli.specs.FirstRefusal.{IsDecidedFor, IsEarlyRefusal, IsFirstRefusal, IsLaterRefusal, IsRefusalOfFolder, MayStandFor, ShowsFor}
use Rattle.hx_cli.specs.Leaves.{Leaves}
use Rattle.hx_cli.specs.Runs.{Answers, Decides, IsOwnCause, IsTextOf, refusal_in}
use Rattle.hx_cli.proofs.OverFolders.{idle_leaves}

map-of : {S X : Type 0} (f : S → X) (before now : List S) → length now ≡ length before → ((i : ℕ) (d : S) → i < length before → f (get_or now i d) ≡ f (get_or before i d)) → map f now ≡ map f before
map-of f [] [] h each = refl
map-of f [] (y ∷ ys) h each = absurd (omega (arith, h))
map-of f (x ∷ xs) [] h each = absurd (omega (arith, h))
map-of f (x ∷ xs) (y ∷ ys) h each =
    let first : f y ≡ f x = each 0 y (omega arith) in
    rw first (ap (λ zs. f x ∷ zs) (map-of f xs ys (omega (arith, h)) (λ i d below. each (suc i) d (omega (arith, below)))))

rose_before : (a b c : ℕ) → a ≤ b → Rose b c → Rose a c
rose_before a b c le rose = le_trans (least (a + 1) (b + 1) (2 ^ 64 - 1) (omega (arith, le))) rose
  where
    least : (x y most : ℕ) → x ≤ y → min x most ≤ min y most
    least x y most h = omega (arith, h)

module _ {Src : Type 0} (source : SourceMembers Src) (before mid after : List Src) (same : SameSources source before mid) where
  pub same_further : SameSources source mid after → SameSources source before after
  same_further more = record {
    count = more.count ∙ same.count;
    each = λ i d below.
        let a = same.each i d below in
        let b = more.each i d (omega (arith, below, same.count)) in
        record { bytes = b.bytes ∙ a.bytes; name = b.name ∙ a.name; later = le_trans a.later b.later };
  }

  long_before : (found : ℕ) → HasLength source mid found → HasLength source before found
  long_before found (input, below, long) =
      let within : input < length before = omega (arith, below, same.count) in
      (input, within, λ d. let s = same.each input d within in rw s.bytes at (long d))

  -- a cause since a later time is one since an earlier one
  cause_before : (r : Refusal) → IsInputsCause source mid after r → IsInputsCause source before after r
  cause_before (refusal.BadInput input row why) (below, cause) =
      let within : input < length before = omega (arith, below, same.count) in
      (within, λ d. let s = same.each input d within in rw (s.bytes, s.name) at (cause d))
  cause_before (refusal.InputFault input) (below, cause) =
      let within : input < length before = omega (arith, below, same.count) in
      (within, λ d. let s = same.each input d within in ((cause d).0, rose_before _ _ _ s.later (cause d).1))
  cause_before (refusal.TooMany what found limit) (more, inl (is, most, many)) = (more, inl (is, most, many ∙ same.count))
  cause_before (refusal.TooMany what found limit) (more, inr (is, most, long)) = (more, inr (is, most, long_before found long))
  cause_before refusal.Memory cause = tt
  cause_before _ cause = absurd cause

  pub same_tolds : map source.told mid ≡ map source.told before
  same_tolds = map-of source.told before mid same.count (λ i d below. (same.each i d below).bytes)

  same_labels : map source.label mid ≡ map source.label before
  same_labels = same_names source before mid same

-- what is shown of later refusals, where none comes early
later_for : {T : Type 0} (command : Command) (early : Option Refusal) (IsLater : Option Refusal → Type 0) (result : Result T Refusal) → None ≡ early → ShowsFor command IsLater result → ShowsFor command (OrElse early IsLater) result
later_for command None IsLater (Ok x) none shows = shows
later_for command None IsLater (Err r) none shows = shows
later_for command (Some r) IsLater result none shows = cc none

later_decided : (command : Command) (early : Option Refusal) (IsRight : Option Refusal → Type 0) (answer : Option Refusal) → None ≡ early → IsDecidedFor command answer IsRight → IsDecidedFor command answer (OrElse early IsRight)
later_decided command None IsRight answer none by = record { only = λ r is of. by.only r is of; always = λ r right. by.always r right }
later_decided command (Some r) IsRight answer none by = cc none

later_decides : (command : Command) (early : Option Refusal) (IsRight : Option Refusal → Type 0) (answer : Option Refusal) → None ≡ early → Decides command answer IsRight → Decides command answer (OrElse early IsRight)
later_decides (Histogram order files) early IsRight answer none by = tt
later_decides (Plan lowest highest threshold files) early IsRight answer none by = tt
later_decides (Around order pixel) early IsRight answer none by = tt
later_decides (Import l h t m name files) early IsRight answer none by = later_decided (Import l h t m name files) early IsRight answer none by
later_decides (Clean name) early IsRight answer none by = later_decided (Clean name) early IsRight answer none by
later_decides (Match left right radius output) early IsRight answer none by = later_decided (Match left right radius output) early IsRight answer none by

err_weaker : (P Q : Refusal → Type 0) (answer : Result (Vec ℕ Global) Refusal) → ((r : Refusal) → P r → Q r) → IfErr answer P → IfErr answer Q
err_weaker P Q (Ok t) f h = tt
err_weaker P Q (Err r) f h = f r h

in_folder : (r : Refusal) → MayStandInPlace r → MayStandOverFolder r
in_folder (refusal.InputFault input) stands = tt
in_folder refusal.Memory stands = tt
in_folder _ stands = absurd stands

stands_for : (command : Command) (r : Refusal) → MayStandInPlace r → MayStandFor command r
stands_for (Histogram order files) r stands = stands
stands_for (Plan lowest highest threshold files) r stands = stands
stands_for (Around order pixel) r stands = stands
stands_for (Import l h t m name files) r stands = in_folder r stands
stands_for (Clean name) r stands = in_folder r stands
stands_for (Match left right radius output) r stands = in_folder r stands

from_early : (early : Option Refusal) (IsLater : Option Refusal → Type 0) (r : Refusal) → Some r ≡ early → OrElse early IsLater (Some r)
from_early None IsLater r is = cc is
from_early (Some given) IsLater r is = is

no_stand : (r : Refusal) → MayStandInPlace r → IsOfFolder r → ⊥
no_stand (refusal.InputFault input) stands of = of
no_stand refusal.Memory stands of = of
no_stand _ stands of = stands

early_one : (early : Option Refusal) (IsLater : Option Refusal → Type 0) (r given : Refusal) → Some r ≡ early → OrElse early IsLater (Some given) → Some r ≡ Some given
early_one None IsLater r given is right = cc is
early_one (Some e) IsLater r given is right = is ∙ sym right

early_decided : (command : Command) (early : Option Refusal) (IsRight : Option Refusal → Type 0) (r : Refusal) → MayStandInPlace r ⊎ (Some r ≡ early) → IsDecidedFor command (Some r) (OrElse early IsRight)
early_decided command early IsRight r (inl stands) = record {
  only = λ given is of. let same : r ≡ given = cc is in absurd (no_stand r stands (rw (← same) at of));
  always = λ given right. inr (stands_for command r stands);
}
early_decided command early IsRight r (inr first) = record {
  only = λ given is of. let same : r ≡ given = cc is in rw (← same) (from_early early IsRight r first);
  always = λ given right. inl (early_one early IsRight r given first right);
}

early_decides : (command : Command) (early : Option Refusal) (IsRight : Option Refusal → Type 0) (r : Refusal) → MayStandInPlace r ⊎ (Some r ≡ early) → Decides command (Some r) (OrElse early IsRight)
early_decides (Histogram order files) early IsRight r shows = tt
early_decides (Plan lowest highest threshold files) early IsRight r shows = tt
early_decides (Around order pixel) early IsRight r shows = tt
early_decides (Import l h t m name files) early IsRight r shows = early_decided (Import l h t m name files) early IsRight r shows
early_decides (Clean name) early IsRight r shows = early_decided (Clean name) early IsRight r shows
early_decides (Match left right radius output) early IsRight r shows = early_decided (Match left right radius output) early IsRight r shows

early_shows : (command : Command) (early : Option Refusal) (IsLater : Option Refusal → Type 0) (r : Refusal) → MayStandInPlace r ⊎ (Some r ≡ early) → MayStandFor command r ⊎ OrElse early IsLater (Some r)
early_shows command early IsLater r (inl stands) = inl (stands_for command r stands)
early_shows command early IsLater r (inr first) = inr (from_early early IsLater r first)

module _ {Src S : Type 0} (source : SourceMembers Src) (d : DiskMembers S) (before mid : List Src) (command : Command) (same : SameSources source before mid) where
  abbrev names : List (List ℕ)
  names = map source.label before

  -- where the inputs keep to the limits
  pub checked : (after : List Src) (store now : S) (answer : Result (Vec ℕ Global) Refusal)
      → ((bytes : List (List ℕ)) → Tell source before bytes → None ≡ option_or (too_many_inputs (length before)) (too_long bytes))
      → Answers source d command (IsLaterRefusal command) (IsRefusalOfFolder command) mid after store now answer
      → Answers source d command (IsFirstRefusal command) (IsEarlyRefusal command) before after store now answer
  checked after store now answer none a =
      let labels : map source.label mid ≡ names = same_labels source before mid after same in
      let tolds : map source.told mid ≡ map source.told before = same_tolds source before mid after same in
      let still : (bytes : List (List ℕ)) → Tell source before bytes → Tell source mid bytes = tell_still source before mid same in
      let early : (bytes : List (List ℕ)) → Tell source before bytes → None ≡ option_or (too_many_inputs (length names)) (too_long bytes) =
      λ bytes tell. rw (length-map before source.label) (none bytes tell) in
      record {
        same = same_further source before mid after same a.same;
        later = a.later;
        text = λ bytes tell. subst (λ (ns : List (List ℕ)). IfOk answer (λ text. IsTextOf d store command ns bytes text.items)) labels (a.text bytes (still bytes tell));
        first = λ bytes tell premises. later_for command _ (IsLaterRefusal command names bytes (d.reads store)) answer (early bytes tell)
            (subst (λ (ns : List (List ℕ)). ShowsFor command (IsLaterRefusal command ns bytes (d.reads store)) answer) labels (a.first bytes (still bytes tell) (subst (λ (ns : List (List ℕ)). Premises d store command ns bytes) (sym labels) premises)));
        decided = λ bytes tell told. later_decides command _ (IsRefusalOfFolder command names bytes (d.reads store)) (refusal_in answer) (early bytes tell)
            (subst (λ (ns : List (List ℕ)). Decides command (refusal_in answer) (IsRefusalOfFolder command ns bytes (d.reads store))) labels (a.decided bytes (still bytes tell) told));
        cause = err_weaker _ _ answer (λ r cause. elim cause [
          | inl inputs ↦ inl (cause_before source before mid after same r inputs)
          | inr own ↦ inr (subst (λ (ts : List (Option (List ℕ))). IsOwnCause d store now names (λ bytes. ts ≡ map (λ (b : List ℕ). Some b) bytes) command r) tolds
              (subst (λ (ns : List (List ℕ)). IsOwnCause d store now ns (Tell source mid) command r) labels own))
        ]) a.cause;
        leaves = subst (λ (ts : List (Option (List ℕ))). Leaves d store now command names (λ bytes. ts ≡ map (λ (b : List ℕ). Some b) bytes) (refusal_in answer)) tolds
            (subst (λ (ns : List (List ℕ)). Leaves d store now command ns (Tell source mid) (refusal_in answer)) labels a.leaves);
      }

  -- where they don't
  pub check_failed : (store : S) (r : Refusal)
      → ((bytes : List (List ℕ)) → Tell source before bytes → MayStandInPlace r ⊎ (Some r ≡ option_or (too_many_inputs (length before)) (too_long bytes)))
      → IsInputsCause source before mid r
      → Answers source d command (IsFirstRefusal command) (IsEarlyRefusal command) before mid store store (Err r)
  check_failed store r shows cause =
      let early : (bytes : List (List ℕ)) → Tell source before bytes → MayStandInPlace r ⊎ (Some r ≡ option_or (too_many_inputs (length names)) (too_long bytes)) =
      λ bytes tell. rw (length-map before source.label) (shows bytes tell) in
      record {
        same = same;
        later = omega arith;
        text = λ bytes tell. tt;
        first = λ bytes tell premises. early_shows command _ (IsLaterRefusal command names bytes (d.reads store)) r (early bytes tell);
        decided = λ bytes tell told. early_decides command _ (IsRefusalOfFolder command names bytes (d.reads store)) r (early bytes tell);
        cause = inl cause;
        leaves = idle_leaves d store command names (Tell source before) r;
      }
