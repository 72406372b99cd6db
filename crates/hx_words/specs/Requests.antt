-- What a request of the code stands for.
use Rattle.std.specs.Prelude.{◌≡◌, ◌∷◌, ◌-◌, ◌*◌, ◌^◌, ◌<◌, ◌≤◌, ℕ, List, [], length, drop, slice_index_or}
use Rattle.hx_base.specs.Limits.{highest_margin_order, highest_order, most_in_partition}
use Rattle.hx_base.specs.Names.{IsName}
use Rattle.hx_words.specs.Words.{AreFiles, Around, Clean, Command, Histogram, Import, Match, Means, Plan, files_of, most_radius}
use Rattle.hx_words.specs.declared.request.Action.{Action}
use Rattle.hx_words.specs.declared.request.Action.TheVariants as action
use Rattle.hx_words.specs.declared.request.Request.{Request}

-- the word before the inputs' names, by which an import names its catalogue
abbrev pub name_before : List (List ℕ) → List (List ℕ) → List ℕ
name_before words names = slice_index_or words (length words - length names - 1) []

-- the word that stands so far from the end: the last one is the first
abbrev pub word_from_end : List (List ℕ) → ℕ → List ℕ
word_from_end words place = slice_index_or words (length words - place) []

-- the command of a line, over inputs of these names
abbrev pub command_of : Action → List (List ℕ) → List (List ℕ) → Command
command_of (action.Histogram order) words names = Histogram order names
command_of (action.Plan lowest highest threshold) words names = Plan lowest highest threshold names
command_of (action.Around order pixel) words names = Around order pixel
command_of (action.Import lowest highest threshold margin_order) words names = Import lowest highest threshold margin_order (name_before words names) names
command_of action.Clean words names = Clean (name_before words names)
command_of (action.Match radius) words names = Match (word_from_end words 4) (word_from_end words 3) radius (word_from_end words 1)

-- a catalogue's name, and behind it the names of inputs, at least one
abbrev pub AreNameAndFiles : List (List ℕ) → Type 0
AreNameAndFiles words = (name : List ℕ) × (files : List (List ℕ)) × (words ≡ name ∷ files) × IsName name × AreFiles files

-- the words mean that command, over the inputs that they end in
pub record IsRequest (words : List (List ℕ)) (request : Request) : Type 0 where
  pub within : request.files ≤ length words
  pub means : Means words (command_of request.action words (drop request.files words))
  pub inputs : files_of (command_of request.action words (drop request.files words)) ≡ drop request.files words

-- its numbers are in their ranges, and its inputs have names of their kind
pub record IsHistogramRequest (order : ℕ) (names : List (List ℕ)) : Type 0 where
  pub in_range : order ≤ 29
  pub files : AreFiles names

pub record IsPlanRequest (lowest highest threshold : ℕ) (names : List (List ℕ)) : Type 0 where
  pub order : lowest ≤ highest
  pub in_range : highest ≤ highest_order
  pub threshold_least : 1 ≤ threshold
  pub threshold_most : threshold ≤ most_in_partition
  pub files : AreFiles names

pub record IsAroundRequest (order pixel : ℕ) : Type 0 where
  pub in_range : order ≤ 29
  pub there : pixel < 12 * 4 ^ order

pub record IsImportRequest (lowest highest threshold margin_order : ℕ) (name : List ℕ) (names : List (List ℕ)) : Type 0 where
  pub order : lowest ≤ highest
  pub in_range : highest ≤ highest_order
  pub threshold_least : 1 ≤ threshold
  pub threshold_most : threshold ≤ most_in_partition
  pub finer : highest < margin_order
  pub margin_most : margin_order ≤ highest_margin_order
  pub named : IsName name
  pub files : AreFiles names

pub record IsMatchRequest (left right : List ℕ) (radius : ℕ) (output : List ℕ) : Type 0 where
  pub left_named : IsName left
  pub right_named : IsName right
  pub in_range : radius ≤ most_radius
  pub output_named : IsName output

abbrev pub IsSound : Action → List (List ℕ) → List (List ℕ) → Type 0
IsSound (action.Histogram order) words names = IsHistogramRequest order names
IsSound (action.Plan lowest highest threshold) words names = IsPlanRequest lowest highest threshold names
IsSound (action.Around order pixel) words names = IsAroundRequest order pixel
IsSound (action.Import lowest highest threshold margin_order) words names = IsImportRequest lowest highest threshold margin_order (name_before words names) names
IsSound action.Clean words names = IsName (name_before words names)
IsSound (action.Match radius) words names = IsMatchRequest (word_from_end words 4) (word_from_end words 3) radius (word_from_end words 1)
