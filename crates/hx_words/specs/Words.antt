-- The command line: what a list of words means.
use Rattle.std.specs.Prelude.{◌≡◌, ◌≢◌, ◌<◌, ◌≤◌, ◌*◌, ◌^◌, ◌++◌, ◌∷◌, ℕ, slice_index, List, [], length, All, codes}
use Rattle.std.specs.Fmt.{decimal}
use Rattle.std.specs.Option.{unwrap_or}
use Rattle.hx_base.specs.FileWords.{IsFileWord}
use Rattle.hx_base.specs.Names.{IsName}
use Rattle.hx_words.specs.Options.{AreOptions, default_of, given_in, import_options, option_words, plan_options}
use Rattle.hx_words.specs.declared.options.OptionName.{OptionName}
use Rattle.hx_words.specs.declared.options.OptionName.TheVariants as option

-- a command with its values
pub data Command : Type 0 where
  Histogram : ℕ → List (List ℕ) → Command
  Plan : ℕ → ℕ → ℕ → List (List ℕ) → Command
  Around : ℕ → ℕ → Command
  Import : ℕ → ℕ → ℕ → ℕ → List ℕ → List (List ℕ) → Command
  Clean : List ℕ → Command
  Match : List ℕ → List ℕ → ℕ → List ℕ → Command

-- the words that name its inputs, in order
abbrev pub files_of : Command → List (List ℕ)
files_of (Histogram order files) = files
files_of (Plan lowest highest threshold files) = files
files_of (Around order pixel) = []
files_of (Import lowest highest threshold margin_order name files) = files
files_of (Clean name) = []
files_of (Match left right radius output) = []

-- the words that name a command's inputs, at least one
pub record AreFiles (words : List (List ℕ)) : Type 0 where
  pub some : 1 ≤ length words
  pub each : All IsFileWord words

-- a text that may be a decimal number by its first byte: `0` stands alone, and there is no sign
pub record BeginsNumber (text : List ℕ) : Type 0 where
  pub some : 0 < length text
  pub no_sign : slice_index text 0 ≢ 43
  pub no_leading_zero : slice_index text 0 ≡ 48 → length text ≡ 1

-- `histogram K FILE...`: K is an order as a decimal number, with no sign and no leading zero
pub record IsHistogramLine (words : List (List ℕ)) (order : ℕ) (files : List (List ℕ)) : Type 0 where
  pub form : words ≡ codes "histogram" ∷ decimal order ∷ files
  pub in_range : order ≤ 29
  pub inputs : AreFiles files

-- what is given for an option, or else the default
abbrev pub value_of : OptionName → List (OptionName × ℕ) → ℕ
value_of name options = unwrap_or (given_in options name) (default_of name)

-- `plan [--lowest L] [--highest H] [--threshold T] FILE...`, the options in any order
pub record IsPlanLine (words : List (List ℕ)) (lowest highest threshold : ℕ) (files : List (List ℕ)) : Type 0 where
  pub options : List (OptionName × ℕ)
  pub form : words ≡ codes "plan" ∷ option_words options ++ files
  pub sound : AreOptions plan_options options
  pub lowest_is : lowest ≡ value_of option.Lowest options
  pub highest_is : highest ≡ value_of option.Highest options
  pub threshold_is : threshold ≡ value_of option.Threshold options
  pub order : lowest ≤ highest
  pub inputs : AreFiles files

-- `around K P`: a pixel of an order
pub record IsAroundLine (words : List (List ℕ)) (order pixel : ℕ) : Type 0 where
  pub form : words ≡ codes "around" ∷ decimal order ∷ decimal pixel ∷ []
  pub in_range : order ≤ 29
  pub there : pixel < 12 * 4 ^ order

-- `import [--lowest L] [--highest H] [--threshold T] [--margin-order M] NAME FILE...`, the options in any order
pub record IsImportLine (words : List (List ℕ)) (lowest highest threshold margin_order : ℕ) (name : List ℕ) (files : List (List ℕ)) : Type 0 where
  pub options : List (OptionName × ℕ)
  pub form : words ≡ codes "import" ∷ option_words options ++ name ∷ files
  pub sound : AreOptions import_options options
  pub lowest_is : lowest ≡ value_of option.Lowest options
  pub highest_is : highest ≡ value_of option.Highest options
  pub threshold_is : threshold ≡ value_of option.Threshold options
  pub margin_order_is : margin_order ≡ value_of option.MarginOrder options
  pub order : lowest ≤ highest
  pub finer : highest < margin_order
  pub named : IsName name
  pub inputs : AreFiles files

-- `clean NAME`
pub record IsCleanLine (words : List (List ℕ)) (name : List ℕ) : Type 0 where
  pub form : words ≡ codes "clean" ∷ name ∷ []
  pub named : IsName name

-- a match looks for rows within a chord of at most this, in 10^-9: two opposite points have it
abbrev pub most_radius : ℕ
most_radius = 2000000000

-- `xmatch LEFT RIGHT RADIUS OUT`: three names, of which the first two may be one, and a chord
pub record IsMatchLine (words : List (List ℕ)) (left right : List ℕ) (radius : ℕ) (output : List ℕ) : Type 0 where
  pub form : words ≡ codes "xmatch" ∷ left ∷ right ∷ decimal radius ∷ output ∷ []
  pub left_named : IsName left
  pub right_named : IsName right
  pub in_range : radius ≤ most_radius
  pub output_named : IsName output

-- what words mean
abbrev pub Means : List (List ℕ) → Command → Type 0
Means words (Histogram order files) = IsHistogramLine words order files
Means words (Plan lowest highest threshold files) = IsPlanLine words lowest highest threshold files
Means words (Around order pixel) = IsAroundLine words order pixel
Means words (Import lowest highest threshold margin_order name files) = IsImportLine words lowest highest threshold margin_order name files
Means words (Clean name) = IsCleanLine words name
Means words (Match left right radius output) = IsMatchLine words left right radius output

abbrev pub HasMeaning : List (List ℕ) → Type 0
HasMeaning words = (command : Command) × Means words command

abbrev pub HasNoMeaning : List (List ℕ) → Type 0
HasNoMeaning words = (command : Command) → Means words command → ⊥

-- names are the file words of a line that has a meaning, in order, and else none
pub record AreInputNames (words names : List (List ℕ)) : Type 0 where
  pub meant : (command : Command) → Means words command → names ≡ files_of command
  pub none : HasNoMeaning words → names ≡ []
