-- The first refusal of inputs that are looked at one after another, and their rows so far.
use Rattle.std.proofs.Common.{◌≡◌, ◌≢◌, ◌+◌, ◌<◌, ◌++◌, ◌∷◌, ◌⊎◌, ◌∙◌, ℕ, zero, suc, List, [], Option, Some, None, Ok, drop, get_or, length, take, sym, ap, refl, inl, inr, append_assoc}
use Rattle.std.specs.Option.{option_or}
use Rattle.std.proofs.lemmas.List.{append-nil, drop_more, take_more}
use Rattle.hx_base.specs.FirstRefusals.{MayStandInPlace}
use Rattle.hx_base.specs.Limits.{above, most_bytes}
use Rattle.hx_base.specs.declared.refusal.Refusal.{Refusal}
use Rattle.hx_base.specs.declared.refusal.Refusal.TheVariants as refusal
use Rattle.hx_base.specs.declared.row.Row.{Row}
use Rattle.hx_rows.specs.Reading.{rows_of}
use Rattle.hx_outside.specs.Sources.{SourceMembers}
use Rattle.hx_inputs.specs.Causes.{IsInputCause}
use Rattle.hx_inputs.specs.Inputs.{AreRows, IsAfterLengths, IsAfterRows, bad_input, fault_of, too_long}

-- the next input's length, and its fault
pub long_next : (bytes : List (List ℕ)) (i : ℕ) → i < length bytes → too_long (drop i bytes) ≡ option_or (above 2 most_bytes (length (get_or bytes i []))) (too_long (drop (i + 1) bytes))
long_next bytes i below = ap too_long (drop_more bytes i [] below)

pub bad_next : (names bytes : List (List ℕ)) (i : ℕ) (name : List ℕ) → name ≡ get_or names i name → i < length names → i < length bytes
    → bad_input i (drop i names) (drop i bytes) ≡ option_or (fault_of i (rows_of name (get_or bytes i []))) (bad_input (i + 1) (drop (i + 1) names) (drop (i + 1) bytes))
bad_next names bytes i name is named told =
    let named : drop i names ≡ name ∷ drop (i + 1) names = drop_more names i name named ∙ ap (λ (n : List ℕ). n ∷ drop (i + 1) names) (sym is) in
    rw (named, drop_more bytes i [] told) refl

-- a refusal that comes first of the rest comes first
pub refused_here : (r : Refusal) (here later whole : Option Refusal) → whole ≡ option_or here later → MayStandInPlace r ⊎ (Some r ≡ here) → MayStandInPlace r ⊎ (Some r ≡ whole)
refused_here r here later whole is (inl free) = inl free
refused_here r here later whole is (inr same) = inr (rw (is, ← same) refl)

-- where the next input has none, the first refusal is one of later inputs
pub passed_here : (here later whole : Option Refusal) → whole ≡ option_or here later → None ≡ here → whole ≡ later
passed_here here later whole is none = rw (is, ← none) refl

-- where the first of two refusals is none, each is
pub both_none : (here later : Option Refusal) → option_or here later ≡ None → (here ≡ None) × (later ≡ None)
both_none None later none = (refl, none)
both_none (Some r) later none = cc none

short-joined : (bytes : List (List ℕ)) (b : List ℕ) → too_long bytes ≡ None → None ≡ above 2 most_bytes (length b) → too_long (bytes ++ b ∷ []) ≡ None
short-joined [] b short here = rw (← here) refl
short-joined (x ∷ bytes) b short here =
    let both = both_none (above 2 most_bytes (length x)) (too_long bytes) short in
    rw both.0 (short-joined bytes b both.1 here)

-- the first inputs are not too long, and the next one isn't either
pub short_next : (bytes : List (List ℕ)) (i : ℕ) → i < length bytes → too_long (take i bytes) ≡ None → None ≡ above 2 most_bytes (length (get_or bytes i [])) → too_long (take (i + 1) bytes) ≡ None
short_next bytes i below short here = rw (take_more bytes i [] below) (short-joined (take i bytes) (get_or bytes i []) short here)

-- where no input is too long, none of the first is
pub short_before : (bytes : List (List ℕ)) (i : ℕ) → too_long bytes ≡ None → too_long (take i bytes) ≡ None
short_before bytes zero short = refl
short_before [] (suc i) short = refl
short_before (b ∷ bytes) (suc i) short =
    let both = both_none (above 2 most_bytes (length b)) (too_long bytes) short in
    rw both.0 (short_before bytes i both.1)

pub short_after : (bytes : List (List ℕ)) (r : Refusal) → too_long bytes ≡ None → IsAfterLengths bytes r
short_after bytes (refusal.InputFault i) short = short_before bytes i short
short_after bytes refusal.Memory short = short
short_after bytes _ short = tt

-- inputs that have rows are not bad
pub good_rows : (number : ℕ) (names bytes : List (List ℕ)) (rows : List Row) → AreRows names bytes rows → bad_input number names bytes ≡ None
good_rows number [] [] rows are = refl
good_rows number [] (b ∷ bytes) rows are = absurd are
good_rows number (name ∷ names) [] rows are = absurd are
good_rows number (name ∷ names) (b ∷ bytes) rows (first, rest, here, others, is) = rw here (good_rows (number + 1) names bytes rest others)

module _ {S : Type 0} (source : SourceMembers S) (i : ℕ) (before now : S) where
  -- a refusal of the next input comes in its turn
  pub turn_of_length : (bytes : List (List ℕ)) (r : Refusal) → IsInputCause source i before now r → r ≢ refusal.Memory → too_long (take i bytes) ≡ None → IsAfterLengths bytes r
  turn_of_length bytes (refusal.InputFault j) cause free short = rw cause.0 short
  turn_of_length bytes refusal.Memory cause free short = absurd (free refl)
  turn_of_length bytes _ cause free short = tt

  pub turn_of_rows : (names bytes : List (List ℕ)) (r : Refusal) → IsInputCause source i before now r → bad_input 0 (take i names) (take i bytes) ≡ None → IsAfterRows names bytes r
  turn_of_rows names bytes (refusal.InputFault j) cause good = rw cause.0 good
  turn_of_rows names bytes _ cause good = tt

rows-joined : (names bytes : List (List ℕ)) (rows : List Row) (name text : List ℕ) (more : List Row) → AreRows names bytes rows → rows_of name text ≡ Ok more
    → AreRows (names ++ name ∷ []) (bytes ++ text ∷ []) (rows ++ more)
rows-joined [] [] rows name text more are read = (more, [], read, refl, rw are (sym (append-nil more)))
rows-joined [] (b ∷ bytes) rows name text more are read = absurd are
rows-joined (n ∷ names) [] rows name text more are read = absurd are
rows-joined (n ∷ names) (b ∷ bytes) rows name text more (first, rest, here, others, is) read =
    (first, rest ++ more, here, rows-joined names bytes rest name text more others read, ap (λ (xs : List Row). xs ++ more) is ∙ append_assoc first rest more)

-- the rows of one input more
pub rows_next : (names bytes : List (List ℕ)) (i : ℕ) (name : List ℕ) (rows more : List Row) → name ≡ get_or names i name → i < length names → i < length bytes
    → AreRows (take i names) (take i bytes) rows → rows_of name (get_or bytes i []) ≡ Ok more → AreRows (take (i + 1) names) (take (i + 1) bytes) (rows ++ more)
rows_next names bytes i name rows more is named told are read =
    let names-are : take (i + 1) names ≡ take i names ++ name ∷ [] = take_more names i name named ∙ ap (λ (n : List ℕ). take i names ++ n ∷ []) (sym is) in
    rw (names-are, take_more bytes i [] told) (rows-joined (take i names) (take i bytes) rows name (get_or bytes i []) more are read)

-- inputs have one list of rows
pub one_rows : (names bytes : List (List ℕ)) (a b : List Row) → AreRows names bytes a → AreRows names bytes b → a ≡ b
one_rows [] [] a b ha hb = ha ∙ sym hb
one_rows [] (t ∷ bytes) a b ha hb = absurd ha
one_rows (n ∷ names) [] a b ha hb = absurd ha
one_rows (n ∷ names) (t ∷ bytes) a b (first, rest, here, others, is) (first', rest', here', others', is') =
    let one : first ≡ first' = cc (here, here') in
    let more : rest ≡ rest' = one_rows names bytes rest rest' others others' in
    is ∙ rw (one, more) (sym is')
