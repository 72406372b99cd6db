-- The lines of the commands that use a folder.
use Rattle.std.specs.Prelude.{◌++◌, ◌∷◌, ℕ, List, [], codes}
use Rattle.std.specs.Fmt.{decimal}

-- `NAME rows R partitions P margin M`
abbrev pub import_line : List ℕ → ℕ → ℕ → ℕ → List ℕ
import_line name rows partitions margin =
    name ++ codes " rows " ++ decimal rows ++ codes " partitions " ++ decimal partitions ++ codes " margin " ++ decimal margin ++ 10 ∷ []

-- `NAME clean`
abbrev pub clean_line : List ℕ → List ℕ
clean_line name = name ++ codes " clean\n"

-- `LEFT RIGHT rows N matched K`
abbrev pub matched_line : List ℕ → List ℕ → ℕ → ℕ → List ℕ
matched_line left right rows matched = left ++ 32 ∷ [] ++ right ++ codes " rows " ++ decimal rows ++ codes " matched " ++ decimal matched ++ 10 ∷ []
