-- The header of a journal: lines of text that name a job.
use Rattle.std.specs.Prelude.{◌≡◌, ◌≢◌, ◌<◌, ◌≤◌, ◌^◌, ◌++◌, ◌∷◌, ⊤, ℕ, List, [], codes, length, map}
use Rattle.std.specs.Fmt.{decimal}
use Rattle.std.specs.Str.{IsUtf8}
use Rattle.hx_base.specs.FileWords.{IsFileWord}
use Rattle.hx_base.specs.Limits.{FitsLimits}
use Rattle.hx_base.specs.Names.{IsName}
use Rattle.hx_base.specs.declared.settings.Settings.{Settings}

-- lines, each ended by a newline
abbrev pub text_of : List (List ℕ) → List ℕ
text_of [] = []
text_of (line ∷ lines) = line ++ 10 ∷ text_of lines

-- a key and a number
abbrev pub numbered : List ℕ → ℕ → List ℕ
numbered key number = key ++ decimal number

-- an input by its length in bytes and its file word
pub record Listed : Type 0 where
  pub len : ℕ
  pub word : List ℕ

abbrev pub input_line : Listed → List ℕ
input_line input = codes "input " ++ (decimal input.len ++ 32 ∷ input.word)

-- the inputs of these lengths and words
abbrev pub listed : List ℕ → List (List ℕ) → List Listed
listed [] words = []
listed (len ∷ lens) [] = []
listed (len ∷ lens) (word ∷ words) = record { len = len; word = word } ∷ listed lens words

-- what a header says
pub record Heading : Type 0 where
  pub version : ℕ
  pub settings : Settings
  pub inputs : List Listed

-- its first lines, with the number of its inputs
abbrev pub head_lines : ℕ → Settings → ℕ → List (List ℕ)
head_lines version settings count =
    numbered (codes "hats-journal ") version
    ∷ (codes "name " ++ settings.name)
    ∷ numbered (codes "lowest ") settings.lowest
    ∷ numbered (codes "highest ") settings.highest
    ∷ numbered (codes "threshold ") settings.threshold
    ∷ numbered (codes "margin_order ") settings.margin_order
    ∷ numbered (codes "inputs ") count
    ∷ []

-- and those of the inputs, and the end
abbrev pub input_lines : List Listed → List (List ℕ)
input_lines inputs = map input_line inputs ++ codes "end" ∷ []

abbrev pub header_lines : Heading → List (List ℕ)
header_lines heading = head_lines heading.version heading.settings (length heading.inputs) ++ input_lines heading.inputs

abbrev pub header_of : Heading → List ℕ
header_of heading = text_of (header_lines heading)

-- what a header may say of an input
pub record IsListed (input : Listed) : Type 0 where
  pub len : input.len < 2 ^ 64
  pub word : IsFileWord input.word
  pub text : IsUtf8 input.word

abbrev pub AreListed : List Listed → Type 0
AreListed [] = ⊤
AreListed (input ∷ inputs) = IsListed input × AreListed inputs

-- what a header may say: 0 and 1 are the versions so far
pub record IsHeading (heading : Heading) : Type 0 where
  pub version : heading.version ≤ 1
  pub name : IsName heading.settings.name
  pub limits : FitsLimits heading.settings
  pub count : length heading.inputs < 2 ^ 64
  pub inputs : AreListed heading.inputs

abbrev pub IsHeader : List ℕ → Type 0
IsHeader bytes = (heading : Heading) × IsHeading heading × (bytes ≡ header_of heading)

-- the version that is written
abbrev pub written_version : ℕ
written_version = 1

-- the heading of a job
abbrev pub heading_of : Settings → List ℕ → List (List ℕ) → Heading
heading_of settings lens words = record { version = written_version; settings = settings; inputs = listed lens words }

-- the lines behind the name
abbrev pub tail_lines : Settings → List Listed → List (List ℕ)
tail_lines settings inputs =
    numbered (codes "lowest ") settings.lowest
    ∷ numbered (codes "highest ") settings.highest
    ∷ numbered (codes "threshold ") settings.threshold
    ∷ numbered (codes "margin_order ") settings.margin_order
    ∷ numbered (codes "inputs ") (length inputs)
    ∷ input_lines inputs

-- what they may say
pub record IsTail (settings : Settings) (inputs : List Listed) : Type 0 where
  pub limits : FitsLimits settings
  pub count : length inputs < 2 ^ 64
  pub sound : AreListed inputs

abbrev pub HasNoTail : List ℕ → Type 0
HasNoTail text = (settings : Settings) (inputs : List Listed) (rest : List ℕ) → IsTail settings inputs → text ≢ text_of (tail_lines settings inputs) ++ rest

abbrev pub BeginsByTail : List ℕ → List ℕ → Type 0
BeginsByTail text after = (settings : Settings) × (inputs : List Listed) × IsTail settings inputs × (text ≡ text_of (tail_lines settings inputs) ++ after)

-- the lines of so many inputs
pub record AreSoMany (count : ℕ) (inputs : List Listed) : Type 0 where
  pub long : length inputs ≡ count
  pub sound : AreListed inputs

abbrev pub HasNoInputs : ℕ → List ℕ → Type 0
HasNoInputs count text = (inputs : List Listed) (rest : List ℕ) → AreSoMany count inputs → text ≢ text_of (map input_line inputs) ++ rest

abbrev pub BeginsByInputs : ℕ → List ℕ → List ℕ → Type 0
BeginsByInputs count text after = (inputs : List Listed) × AreSoMany count inputs × (text ≡ text_of (map input_line inputs) ++ after)

-- settings of these numbers
abbrev pub settings_of : ℕ → ℕ → ℕ → ℕ → Settings
settings_of lowest highest threshold margin_order = record { name = []; lowest = lowest; highest = highest; threshold = threshold; margin_order = margin_order }
