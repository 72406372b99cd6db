-- Options at the head of words.
use Rattle.std.proofs.Common.{◌≡◌, ◌≢◌, ◌+◌, ◌^◌, ◌<◌, ◌≤◌, ◌++◌, ◌∷◌, ◌==◌, ◌∙◌, ℕ, suc, true, false, List, [], All, IfSome, MatchOption, Option, Some, None, IsSome, drop, get_or, length, sym, ap, arith, refl, subst, inl, inr}
use Rattle.std.specs.Fmt.{decimal}
use Rattle.std.specs.List.{Contains}
use Rattle.std.specs.Option.{option_or, unwrap_or}
use Rattle.std.specs.Prelude.{slice_index, if◌then◌else◌}
use Rattle.hx_base.specs.FileWords.{IsFileWord}
use Rattle.hx_base.specs.Names.{IsName, IsNameByte}
use Rattle.hx_words.specs.Words.{AreFiles, value_of}
use Rattle.std.proofs.lemmas.Bool.{cases_Bool}
use Rattle.std.proofs.lemmas.Fmt.{decimal_injective}
use Rattle.hx_words.specs.Options.{AreFurther, AreNew, AreOptions, AreRead, BeginsNoOption, InRange, default_of, given_in, is_option, kept, number_of, option_words, word_of}
use Rattle.hx_words.specs.declared.options.OptionName.{OptionName}
use Rattle.hx_words.specs.declared.options.OptionName.TheVariants as option
use Rattle.hx_words.specs.declared.options.Options.{Options}

pub range_fits : (name : OptionName) (n : ℕ) → InRange name n → n < 2 ^ 64
range_fits option.Lowest n h = omega (arith, h)
range_fits option.Highest n h = omega (arith, h)
range_fits option.Threshold n h = omega (arith, h.1)
range_fits option.MarginOrder n h = omega (arith, h)

-- a word that is no option's, or is one, at the head of words
pub head_option : (words : List (List ℕ)) (word : List ℕ) (found : Option OptionName) → 0 < length words → word ≡ get_or words 0 word
    → MatchOption found ((name : OptionName) → word ≢ word_of name) (λ name. word ≡ word_of name) → MatchOption found (BeginsNoOption words) (λ name. (more : List (List ℕ)) × (words ≡ word_of name ∷ more))
head_option [] word found some is h = absurd (omega (arith, some))
head_option (w ∷ ws) word None some is h = λ name more e. h name (let same : w ≡ word_of name = cc e in is ∙ same)
head_option (w ∷ ws) word (Some name) some is h = (ws, ap (λ (x : List ℕ). x ∷ ws) (sym is ∙ h))

pub no_value : (name : OptionName) (word : List ℕ) (value : ℕ) → value < 2 ^ 64 → word ≡ decimal value → (InRange name value → ⊥) → (n : ℕ) → InRange name n → word ≢ decimal n
no_value name word value fits is out n range same =
    let e : value ≡ n = decimal_injective value n fits (range_fits name n range) (sym is ∙ same) in
    out (subst (InRange name) (sym e) range)

-- the option that a word names, by its first letter
abbrev named : List ℕ → Option OptionName
named word =
    if slice_index word 2 == 108 then Some option.Lowest
    else if slice_index word 2 == 104 then Some option.Highest
    else if slice_index word 2 == 116 then Some option.Threshold
    else Some option.MarginOrder

named_itself : (name : OptionName) → named (word_of name) ≡ Some name
named_itself option.Lowest = refl
named_itself option.Highest = refl
named_itself option.Threshold = refl
named_itself option.MarginOrder = refl

-- an option by its word
pub one_option : (a b : OptionName) → word_of a ≡ word_of b → a ≡ b
one_option a b h = let same : Some a ≡ Some b = sym (named_itself a) ∙ ap named h ∙ named_itself b in cc same

same_option : (a b : OptionName) → is_option a b ≡ true → a ≡ b
same_option option.Lowest option.Lowest h = refl
same_option option.Highest option.Highest h = refl
same_option option.Threshold option.Threshold h = refl
same_option option.MarginOrder option.MarginOrder h = refl
same_option option.Lowest option.Highest h = cc h
same_option option.Lowest option.Threshold h = cc h
same_option option.Lowest option.MarginOrder h = cc h
same_option option.Highest option.Lowest h = cc h
same_option option.Highest option.Threshold h = cc h
same_option option.Highest option.MarginOrder h = cc h
same_option option.Threshold option.Lowest h = cc h
same_option option.Threshold option.Highest h = cc h
same_option option.Threshold option.MarginOrder h = cc h
same_option option.MarginOrder option.Lowest h = cc h
same_option option.MarginOrder option.Highest h = cc h
same_option option.MarginOrder option.Threshold h = cc h

option_itself : (a : OptionName) → is_option a a ≡ true
option_itself option.Lowest = refl
option_itself option.Highest = refl
option_itself option.Threshold = refl
option_itself option.MarginOrder = refl

other_option : (a b : OptionName) → is_option a b ≡ false → b ≢ a
other_option a b off same = let on : is_option a b ≡ true = rw same (option_itself a) in cc (on, off)

-- the first two words
pub two_words : (words : List (List ℕ)) (name : OptionName) (value : List ℕ) → (more : List (List ℕ)) × (words ≡ word_of name ∷ more) → 2 ≤ length words → value ≡ get_or words 1 value
    → words ≡ word_of name ∷ value ∷ drop 2 words
two_words [] name value h some is = absurd (omega (arith, some))
two_words (w ∷ []) name value h some is = absurd (omega (arith, some))
two_words (w ∷ v ∷ words) name value h some is = let first : w ≡ word_of name = cc h.1 in rw (first, ← is) refl

-- where a name stands alone there are no options
pub name_alone : (names : List OptionName) (before : Options) (words : List (List ℕ)) (name : OptionName) → (more : List (List ℕ)) × (words ≡ word_of name ∷ more) → length words < 2
    → (options : List (OptionName × ℕ)) (rest : List (List ℕ)) → AreFurther names before words options rest → ⊥
name_alone names before words name h few [] rest further = further.end name h.0 (sym further.form ∙ h.1)
name_alone names before words name h few ((other, n) ∷ options) rest further = omega (arith, few, ap (λ (xs : List (List ℕ)). length xs) further.form)

-- nor where another command's option stands
pub other_refused : (names : List OptionName) (before : Options) (words : List (List ℕ)) (name : OptionName) → (more : List (List ℕ)) × (words ≡ word_of name ∷ more) → (Contains names name → ⊥)
    → (options : List (OptionName × ℕ)) (rest : List (List ℕ)) → AreFurther names before words options rest → ⊥
other_refused names before words name h none [] rest further = further.end name h.0 (sym further.form ∙ h.1)
other_refused names before words name h none ((other, n) ∷ options) rest further =
    let both : word_of name ∷ h.0 ≡ word_of other ∷ decimal n ∷ option_words options ++ rest = sym h.1 ∙ further.form in
    none (subst (Contains names) (sym (one_option name other (cc both))) further.sound.0)

module _ (names : List OptionName) (before : Options) (words : List (List ℕ)) (name : OptionName) (value : List ℕ) (tail : List (List ℕ)) (are : words ≡ word_of name ∷ value ∷ tail) where
  -- the first of the options, and those behind it
  first-of : (options : List (OptionName × ℕ)) (rest : List (List ℕ)) → AreFurther names before words options rest
      → (n : ℕ) × (behind : List (OptionName × ℕ)) × (options ≡ (name, n) ∷ behind) × (value ≡ decimal n) × (tail ≡ option_words behind ++ rest)
  first-of [] rest further = absurd (further.end name (value ∷ tail) (sym further.form ∙ are))
  first-of ((other, n) ∷ behind) rest further =
      let both : word_of name ∷ value ∷ tail ≡ word_of other ∷ decimal n ∷ option_words behind ++ rest = sym are ∙ further.form in
      let same : name ≡ other = one_option name other (cc both) in
      (n, behind, rw same refl, cc both, cc both)

  -- an option whose word says no number, or that was given before
  pub value_refused : ((n : ℕ) → InRange name n → value ≡ decimal n → IsSome (kept before name)) → (options : List (OptionName × ℕ)) (rest : List (List ℕ)) → AreFurther names before words options rest → ⊥
  value_refused none options rest further =
      let first = first-of options rest further in
      let sound : AreOptions names ((name, first.0) ∷ first.1) = rw first.2 at further.sound in
      let new : AreNew before ((name, first.0) ∷ first.1) = rw first.2 at further.new in
      let some = none first.0 sound.1 first.3 in
      cc (rw new.0 at some)

  module _ (after : Options) (number : ℕ) (fresh : kept before name ≡ None) (set : kept after name ≡ Some number) (others : (other : OptionName) → other ≢ name → kept after other ≡ kept before other) where
    newer : (options : List (OptionName × ℕ)) → AreNew before options → given_in options name ≡ None → AreNew after options
    newer [] new none = tt
    newer ((other, n) ∷ options) new none =
        elim (cases_Bool (is_option other name)) [
          | inl on ↦ let given : given_in ((other, n) ∷ options) name ≡ Some n = rw on refl in cc (given, none)
          | inr off ↦
              let behind : given_in options name ≡ None = rw off at none in
              (others other (λ e. other_option other name off (sym e)) ∙ new.0, newer options new.1 behind)
        ]

    older : (options : List (OptionName × ℕ)) → AreNew after options → AreNew before options
    older [] new = tt
    older ((other, n) ∷ options) new =
        (sym (others other (λ e. let here : kept after name ≡ None = rw e at new.0 in cc (here, set))) ∙ new.0, older options new.1)

    not-given : (options : List (OptionName × ℕ)) → AreNew after options → given_in options name ≡ None
    not-given [] new = refl
    not-given ((other, n) ∷ options) new =
        elim (cases_Bool (is_option other name)) [
          | inl on ↦ let here : kept after name ≡ None = rw (same_option other name on) at new.0 in cc (here, set)
          | inr off ↦ rw off (not-given options new.1)
        ]

    -- options behind an option
    pub rest_refused : ((options : List (OptionName × ℕ)) (rest : List (List ℕ)) → AreFurther names after tail options rest → ⊥) → (options : List (OptionName × ℕ)) (rest : List (List ℕ)) → AreFurther names before words options rest → ⊥
    rest_refused none options rest further =
        let first = first-of options rest further in
        let sound : AreOptions names ((name, first.0) ∷ first.1) = rw first.2 at further.sound in
        let new : AreNew before ((name, first.0) ∷ first.1) = rw first.2 at further.new in
        none first.1 rest (record { form = first.4; sound = sound.3; new = newer first.1 new.1 sound.2; end = further.end })

    kept-of : (options : List (OptionName × ℕ)) (last : Options) → AreNew after options → ((other : OptionName) → kept last other ≡ option_or (given_in options other) (kept after other))
        → (other : OptionName) → kept last other ≡ option_or (given_in ((name, number) ∷ options) other) (kept before other)
    kept-of options last new are_kept other =
        elim (cases_Bool (is_option name other)) [
          | inl on ↦
              let same : name ≡ other = same_option name other on in
              let here : kept last name ≡ Some number = are_kept name ∙ rw (not-given options new, set) refl in
              rw on (subst (λ (o : OptionName). kept last o ≡ Some number) same here)
          | inr off ↦ rw off (are_kept other ∙ rw (others other (other_option name other off)) refl)
        ]

    behind-two : (count : ℕ) → drop (count + 2) words ≡ drop count tail
    behind-two count = let two : count + 2 ≡ suc (suc count) = omega arith in rw (are, two) refl

    pub read_more : (last : Options) (count : ℕ) → Contains names name → InRange name number → value ≡ decimal number → AreRead names after tail last count → AreRead names before words last (count + 2)
    read_more last count among range is read = record {
      options = (name, number) ∷ read.options;
      further = record {
        form = are ∙ rw (is, behind-two count) (ap (λ (xs : List (List ℕ)). word_of name ∷ decimal number ∷ xs) read.further.form);
        sound = (among, range, not-given read.options read.further.new, read.further.sound);
        new = (fresh, older read.options read.further.new);
        end = rw (behind-two count) read.further.end;
      };
      within = omega (arith, read.within, ap (λ (xs : List (List ℕ)). length xs) are);
      are_kept = kept-of read.options last read.further.new read.are_kept;
    }

-- options are read in one way
pub split_once : (names : List OptionName) (a b : List (OptionName × ℕ)) (ra rb : List (List ℕ)) → AreOptions names a → AreOptions names b → BeginsNoOption ra → BeginsNoOption rb → option_words a ++ ra ≡ option_words b ++ rb
    → (a ≡ b) × (ra ≡ rb)
split_once names [] [] ra rb sa sb ea eb form = (refl, form)
split_once names [] ((n, v) ∷ b) ra rb sa sb ea eb form = absurd (ea n (decimal v ∷ option_words b ++ rb) form)
split_once names ((n, v) ∷ a) [] ra rb sa sb ea eb form = absurd (eb n (decimal v ∷ option_words a ++ ra) (sym form))
split_once names ((n, v) ∷ a) ((m, w) ∷ b) ra rb sa sb ea eb form =
    let name : n ≡ m = one_option n m (cc form) in
    let digits : decimal v ≡ decimal w = cc form in
    let number : v ≡ w = decimal_injective v w (range_fits n v sa.1) (range_fits m w sb.1) digits in
    let behind = split_once names a b ra rb sa.3 sb.3 ea eb (cc form) in
    (cc (name, number, behind.0), behind.1)

-- the number that options give lies in its range
pub given_range : (names : List OptionName) (options : List (OptionName × ℕ)) (name : OptionName) → AreOptions names options → IfSome (given_in options name) (InRange name)
given_range names [] name sound = tt
given_range names ((other, n) ∷ options) name sound =
    elim (cases_Bool (is_option other name)) [
      | inl on ↦ rw on (subst (λ (o : OptionName). InRange o n) (same_option other name on) sound.1)
      | inr off ↦ rw off (given_range names options name sound.3)
    ]

default-range : (name : OptionName) → InRange name (default_of name)
default-range option.Lowest = omega arith
default-range option.Highest = omega arith
default-range option.Threshold = (omega arith, omega arith)
default-range option.MarginOrder = omega arith

or-default : (name : OptionName) (given : Option ℕ) → IfSome given (InRange name) → InRange name (unwrap_or given (default_of name))
or-default name None h = default-range name
or-default name (Some n) h = h

-- so does the number that they leave at its default
pub value_range : (names : List OptionName) (options : List (OptionName × ℕ)) (name : OptionName) → AreOptions names options → InRange name (value_of name options)
value_range names options name sound = or-default name (given_in options name) (given_range names options name sound)

all-new : (before : Options) → ((name : OptionName) → kept before name ≡ None) → (options : List (OptionName × ℕ)) → AreNew before options
all-new before none [] = tt
all-new before none ((name, n) ∷ options) = (none name, all-new before none options)

dashed : (name : OptionName) → slice_index (word_of name) 0 ≡ 45
dashed option.Lowest = refl
dashed option.Highest = refl
dashed option.Threshold = refl
dashed option.MarginOrder = refl

dash_first : (name : OptionName) → get_or (word_of name) 0 45 ≡ 45
dash_first option.Lowest = refl
dash_first option.Highest = refl
dash_first option.Threshold = refl
dash_first option.MarginOrder = refl

no_dash : IsNameByte 45 → ⊥
no_dash (inl h) = omega (arith, h.0)
no_dash (inr (inl h)) = omega (arith, h.0)
no_dash (inr (inr h)) = omega (arith, h)

-- no input's name is an option's
pub files_end : (files : List (List ℕ)) → AreFiles files → BeginsNoOption files
files_end files are name more is =
    let all : All IsFileWord (word_of name ∷ more) = rw is at are.each in
    let first : IsFileWord (word_of name) = all 0 [] (omega arith) in
    first.no_option (dashed name)

-- nor is a catalogue's name
pub name_ends : (name : List ℕ) (rest : List (List ℕ)) → IsName name → BeginsNoOption (name ∷ rest)
name_ends name rest named option more is =
    let same : name ≡ word_of option = cc is in
    let byte = named.bytes 0 45 (omega (arith, named.least)) in
    let dash : get_or name 0 45 ≡ 45 = rw same (dash_first option) in
    no_dash (rw dash at byte)

or-none : (a b : Option ℕ) → b ≡ None → option_or a b ≡ a
or-none None b none = none
or-none (Some n) b none = refl

-- what options behind a command are read as, where none stand before them
module _ (names : List OptionName) (before : Options) (none : (name : OptionName) → kept before name ≡ None) (words : List (List ℕ)) where
  pub further_of : (options : List (OptionName × ℕ)) (rest : List (List ℕ)) → words ≡ option_words options ++ rest → AreOptions names options → BeginsNoOption rest → AreFurther names before words options rest
  further_of options rest form sound end = record { form = form; sound = sound; new = all-new before none options; end = end }

  module _ (after : Options) (count : ℕ) (read : AreRead names before words after count) where
    -- the options that were read are those of the line
    kept-given : (name : OptionName) → kept after name ≡ given_in read.options name
    kept-given name = read.are_kept name ∙ or-none (given_in read.options name) (kept before name) (none name)

    pub kept_range : (name : OptionName) → IfSome (kept after name) (InRange name)
    kept_range name = rw (kept-given name) (given_range names read.options name read.further.sound)

    pub number_is : (name : OptionName) → number_of after name ≡ value_of name read.options
    number_is name = ap (λ (o : Option ℕ). unwrap_or o (default_of name)) (kept-given name)

    -- options and other words that are the words are those that were read
    pub one_reading : (options : List (OptionName × ℕ)) (rest : List (List ℕ)) → words ≡ option_words options ++ rest → AreOptions names options → BeginsNoOption rest
        → (rest ≡ drop count words) × ((name : OptionName) → value_of name options ≡ number_of after name)
    one_reading options rest form sound end =
        let one = split_once names options read.options rest (drop count words) sound read.further.sound end read.further.end (sym form ∙ read.further.form) in
        (one.1, λ name. ap (λ (o : List (OptionName × ℕ)). value_of name o) one.0 ∙ sym (number_is name))
