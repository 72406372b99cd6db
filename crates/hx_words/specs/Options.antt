-- Options of a command line: each is two words, its name and a number.
use Rattle.std.specs.Prelude.{◌≡◌, ◌≤◌, ◌++◌, ◌∷◌, ℕ, Bool, true, false, if◌then◌else◌, List, [], length, drop, Option, Some, None, codes, Contains}
use Rattle.std.specs.Fmt.{decimal}
use Rattle.std.specs.Option.{option_or, unwrap_or}
use Rattle.hx_base.specs.Limits.{highest_margin_order, highest_order, most_in_partition}
use Rattle.hx_words.specs.declared.options.OptionName.{OptionName}
use Rattle.hx_words.specs.declared.options.OptionName.TheVariants as option
use Rattle.hx_words.specs.declared.options.Options.{Options}

abbrev pub word_of : OptionName → List ℕ
word_of option.Lowest = codes "--lowest"
word_of option.Highest = codes "--highest"
word_of option.Threshold = codes "--threshold"
word_of option.MarginOrder = codes "--margin-order"

-- the numbers that an option may have
abbrev pub InRange : OptionName → ℕ → Type 0
InRange option.Lowest number = number ≤ highest_order
InRange option.Highest number = number ≤ highest_order
InRange option.Threshold number = (1 ≤ number) × (number ≤ most_in_partition)
InRange option.MarginOrder number = number ≤ highest_margin_order

abbrev pub default_of : OptionName → ℕ
default_of option.Lowest = 0
default_of option.Highest = 7
default_of option.Threshold = 1000000
default_of option.MarginOrder = 10

-- the options of `import`
abbrev pub import_options : List OptionName
import_options = option.Lowest ∷ option.Highest ∷ option.Threshold ∷ option.MarginOrder ∷ []

-- the options of `plan`
abbrev pub plan_options : List OptionName
plan_options = option.Lowest ∷ option.Highest ∷ option.Threshold ∷ []

abbrev pub is_option : OptionName → OptionName → Bool
is_option option.Lowest option.Lowest = true
is_option option.Highest option.Highest = true
is_option option.Threshold option.Threshold = true
is_option option.MarginOrder option.MarginOrder = true
is_option _ _ = false

-- the words of options
abbrev pub option_words : List (OptionName × ℕ) → List (List ℕ)
option_words [] = []
option_words ((name, number) ∷ options) = word_of name ∷ decimal number ∷ option_words options

-- the number that options give a name
abbrev pub given_in : List (OptionName × ℕ) → OptionName → Option ℕ
given_in [] name = None
given_in ((other, number) ∷ options) name = if is_option other name then Some number else given_in options name

-- each has one of a command's names and a number in its range, and no name stands twice
abbrev pub AreOptions : List OptionName → List (OptionName × ℕ) → Type 0
AreOptions names [] = Unit {0}
AreOptions names ((name, number) ∷ options) = Contains names name × InRange name number × (given_in options name ≡ None) × AreOptions names options

-- no option stands at the head of the words
abbrev pub BeginsNoOption : List (List ℕ) → Type 0
BeginsNoOption words = (name : OptionName) (more : List (List ℕ)) → words ≡ word_of name ∷ more → ⊥

-- What the code's options are.

-- the number that they have for a name
abbrev pub kept : Options → OptionName → Option ℕ
kept options option.Lowest = options.lowest
kept options option.Highest = options.highest
kept options option.Threshold = options.threshold
kept options option.MarginOrder = options.margin_order

-- or else the default
abbrev pub number_of : Options → OptionName → ℕ
number_of options name = unwrap_or (kept options name) (default_of name)

-- none of the options was given before
abbrev pub AreNew : Options → List (OptionName × ℕ) → Type 0
AreNew before [] = Unit {0}
AreNew before ((name, number) ∷ options) = (kept before name ≡ None) × AreNew before options

-- words are options of a command that weren't given before, and the rest
pub record AreFurther (names : List OptionName) (before : Options) (words : List (List ℕ)) (options : List (OptionName × ℕ)) (rest : List (List ℕ)) : Type 0 where
  pub form : words ≡ option_words options ++ rest
  pub sound : AreOptions names options
  pub new : AreNew before options
  pub end : BeginsNoOption rest

-- the options at the head of words, the number of whose words is told, are kept beside those before
pub record AreRead (names : List OptionName) (before : Options) (words : List (List ℕ)) (after : Options) (count : ℕ) : Type 0 where
  pub options : List (OptionName × ℕ)
  pub further : AreFurther names before words options (drop count words)
  pub within : count ≤ length words
  pub are_kept : (name : OptionName) → kept after name ≡ option_or (given_in options name) (kept before name)
