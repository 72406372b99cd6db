-- A key at the front of a line.
use Rattle.std.proofs.Common.{◌≡◌, ◌≢◌, ◌++◌, ◌∷◌, ◌∙◌, ℕ, List, Option, Some, None, Bor, MatchOption, ap, sym}
use Rattle.std.proofs.lemmas.List.{append_cancel_left}
use Rattle.hx_catalog.specs.Lines.{field}

pub behind-key : (text key rest : List ℕ) (read : Option (Bor (List ℕ))) → text ≡ key ++ rest → MatchOption read ((more : List ℕ) → rest ≢ 61 ∷ more) (λ value. rest ≡ 61 ∷ value.now)
    → MatchOption read ((value : List ℕ) → text ≢ field key value) (λ value. text ≡ field key value.now)
behind-key text key rest None is none = λ value same. none value (append_cancel_left key rest (61 ∷ value) (sym is ∙ same))
behind-key text key rest (Some value) is some = is ∙ ap (λ (t : List ℕ). key ++ t) some
