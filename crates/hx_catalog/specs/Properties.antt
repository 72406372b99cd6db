-- A catalogue's properties, `hats.properties` in HATS.
use Rattle.std.specs.Prelude.{◌<◌, ◌^◌, ◌∷◌, ⊤, Bool, true, false, ℕ, List, [], codes}
use Rattle.std.specs.Fmt.{decimal}
use Rattle.hx_base.specs.Limits.{FitsLimits}
use Rattle.hx_base.specs.Names.{IsName}
use Rattle.hx_catalog.specs.Lines.{AreLinesOf, field, text_of}
use Rattle.hx_catalog.specs.declared.properties.Properties.{Properties}

-- a margin catalogue, or the catalogue itself
abbrev pub kind_of : Bool → List ℕ
kind_of true = codes "margin"
kind_of false = codes "object"

abbrev pub kind_line : Bool → List ℕ
kind_line margin = field (codes "kind") (kind_of margin)

-- both kinds there are
abbrev pub IsKind : Bool → Type 0
IsKind margin = ⊤

abbrev pub format : List ℕ
format = codes "hats-profile-1"

abbrev pub property_lines : Properties → List (List ℕ)
property_lines of =
    field (codes "format") format
    ∷ field (codes "name") of.settings.name
    ∷ kind_line of.margin
    ∷ field (codes "rows") (decimal of.rows)
    ∷ field (codes "lowest") (decimal of.settings.lowest)
    ∷ field (codes "highest") (decimal of.settings.highest)
    ∷ field (codes "threshold") (decimal of.settings.threshold)
    ∷ field (codes "margin_order") (decimal of.settings.margin_order)
    ∷ field (codes "partitions") (decimal of.partitions)
    ∷ []

abbrev pub properties_text : Properties → List ℕ
properties_text of = text_of (property_lines of)

-- the properties that a text may name
pub record AreProperties (of : Properties) : Type 0 where
  pub name : IsName of.settings.name
  pub limits : FitsLimits of.settings
  pub rows : of.rows < 2 ^ 64
  pub partitions : of.partitions < 2 ^ 32

abbrev pub ArePropertyLines : List (List ℕ) → Type 0
ArePropertyLines lines = AreLinesOf AreProperties property_lines lines

-- what stands in the lines is a name and numbers of 64 bits
pub record HaveLines (of : Properties) : Type 0 where
  pub name : IsName of.settings.name
  pub rows : of.rows < 2 ^ 64
  pub lowest : of.settings.lowest < 2 ^ 64
  pub highest : of.settings.highest < 2 ^ 64
  pub threshold : of.settings.threshold < 2 ^ 64
  pub margin_order : of.settings.margin_order < 2 ^ 64
