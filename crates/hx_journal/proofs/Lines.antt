-- Lines at the front of a text.
use Rattle.std.proofs.Common.{◌≡◌, ◌∙◌, ◌+◌, ◌++◌, ◌∷◌, ◌<◌, ◌≤◌, [], ℕ, List, length, take, drop, get_or, sym, ap, arith, refl, Option, Some, None, Bor, MatchOption, append_assoc}
use Rattle.std.proofs.lemmas.List.{append_cancel_left, take_all, take_more}
use Rattle.std.specs.Fmt.{decimal}
use Rattle.std.specs.Str.Parse.{AllDigits}
use Rattle.hx_journal.specs.Fronts.{Begins, BeginsByNone, FitsWord, HasNoNewline}
use Rattle.hx_journal.specs.Headers.{numbered}
use Rattle.hx_journal.proofs.Digits.{below_no_digit, parts}

pub line-append : (xs ys : List ℕ) → HasNoNewline xs → HasNoNewline ys → HasNoNewline (xs ++ ys)
line-append [] ys some more = more
line-append (x ∷ xs) ys some more = (some.0, line-append xs ys some.1 more)

pub line-of-digits : (digits : List ℕ) → AllDigits 10 digits → HasNoNewline digits
line-of-digits [] all = tt
line-of-digits (digit ∷ digits) all = (λ e. below_no_digit digit (omega (arith, e)) all.0, line-of-digits digits all.1)

-- a text has one first line
pub first-line : (a b x y : List ℕ) → HasNoNewline a → HasNoNewline b → a ++ 10 ∷ x ≡ b ++ 10 ∷ y → (a ≡ b) × (x ≡ y)
first-line [] [] x y la lb h = (refl, cc h)
first-line [] (c ∷ b) x y la lb h = absurd (lb.0 (let e : 10 ≡ c = cc h in sym e))
first-line (c ∷ a) [] x y la lb h = absurd (la.0 (cc h))
first-line (c ∷ a) (d ∷ b) x y la lb h =
    let rest = first-line a b x y la.1 lb.1 (cc h) in
    let same : c ≡ d = cc h in
    (cc (same, rest.0), rest.1)

-- bytes up to a newline
pub newline-more : (text : List ℕ) (i : ℕ) → i < length text → HasNoNewline (take i text) → (get_or text i 0 ≡ 10 → ⊥) → HasNoNewline (take (i + 1) text)
newline-more text i within none other = rw (take_more text i 0 within) (line-append (take i text) (get_or text i 0 ∷ []) none (other, tt))

pub newline-at : (text : List ℕ) (i : ℕ) → i < length text → HasNoNewline (take i text) → get_or text i 0 ≡ 10 → Begins HasNoNewline (λ line. line) 10 text (take i text) (drop (i + 1) text)
newline-at text i within none at = (none, parts text i within ∙ rw at refl)

newline-behind : (line rest : List ℕ) → HasNoNewline (line ++ 10 ∷ rest) → ⊥
newline-behind [] rest none = none.0 refl
newline-behind (byte ∷ line) rest none = newline-behind line rest none.1

pub newline-none : (text : List ℕ) (n : ℕ) → length text ≤ n → HasNoNewline (take n text) → BeginsByNone HasNoNewline (λ line. line) 10 text
newline-none text n end none line rest plain is = newline-behind line rest (rw (← is) (rw (take_all n text end) at none))

-- what stands behind a key
behind-key-is : (text key behind value rest : List ℕ) → text ≡ key ++ behind → text ≡ (key ++ value) ++ 10 ∷ rest → behind ≡ value ++ 10 ∷ rest
behind-key-is text key behind value rest is at = append_cancel_left key behind (value ++ 10 ∷ rest) (sym is ∙ at ∙ append_assoc key value (10 ∷ rest))

pub value-at : (text key value : List ℕ) (read : Option (Bor (List ℕ) × Bor (List ℕ))) → text ≡ key ++ value
    → MatchOption read (BeginsByNone HasNoNewline (λ line. line) 10 value) (λ r. Begins HasNoNewline (λ line. line) 10 value r.0.now r.1.now)
    → MatchOption read (BeginsByNone HasNoNewline (λ line. key ++ line) 10 text) (λ r. Begins HasNoNewline (λ line. key ++ line) 10 text r.0.now r.1.now)
value-at text key value None is none = λ line rest plain at. none line rest plain (behind-key-is text key value line rest is at)
value-at text key value (Some r) is some = (some.0, is ∙ ap (λ (v : List ℕ). key ++ v) some.1 ∙ sym (append_assoc key r.0.now (10 ∷ r.1.now)))

pub number-at : (text key value : List ℕ) (read : Option (ℕ × Bor (List ℕ))) → text ≡ key ++ value
    → MatchOption read (BeginsByNone FitsWord decimal 10 value) (λ r. Begins FitsWord decimal 10 value r.0 r.1.now)
    → MatchOption read (BeginsByNone FitsWord (numbered key) 10 text) (λ r. Begins FitsWord (numbered key) 10 text r.0 r.1.now)
number-at text key value None is none = λ n rest fits at. none n rest fits (behind-key-is text key value (decimal n) rest is at)
number-at text key value (Some r) is some = (some.0, is ∙ ap (λ (v : List ℕ). key ++ v) some.1 ∙ sym (append_assoc key (decimal r.0) (10 ∷ r.1.now)))
