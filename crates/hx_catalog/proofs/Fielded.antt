-- Lines of a key and a value at the front of a text.
use Rattle.std.proofs.Common.{◌≡◌, ◌≢◌, ◌∙◌, ◌+◌, ◌^◌, ◌++◌, ◌∷◌, ◌<◌, ◌≤◌, [], suc, true, false, ℕ, List, codes, length, take, drop, get_or, sym, ap, arith, refl, Option, Some, None, Bor, MatchOption, inl, inr, append_assoc}
use Rattle.std.proofs.lemmas.List.{append_cancel_left, take_all, take_more}
use Rattle.std.proofs.lemmas.Str.{IsUtf8-from_ascii}
use Rattle.std.proofs.lemmas.Str.Ascii.{IsAscii-cons, IsAscii-nil}
use Rattle.std.specs.Fmt.{decimal}
use Rattle.std.specs.List.{All}
use Rattle.std.specs.Str.{IsAscii, IsUtf8}
use Rattle.hx_base.specs.Names.{IsName, IsNameByte}
use Rattle.hx_catalog.specs.Fronts.{Begins, BeginsByNone, FitsWord, HasNoNewline, IsFrom}
use Rattle.hx_catalog.specs.Lines.{field}
use Rattle.hx_catalog.specs.Properties.{IsKind, kind_line}
use Rattle.hx_catalog.proofs.Digits.{one-number, parts}
use Rattle.hx_catalog.proofs.Texts.{line-append}

-- names are ASCII and have no newline
ascii-byte : (byte : ℕ) → IsNameByte byte → (byte < 128) × (byte ≡ 10 → ⊥)
ascii-byte byte h = elim h [ inl letter ↦ (omega (arith, letter), λ e. omega (arith, letter, e)) | inr (inl digit) ↦ (omega (arith, digit), λ e. omega (arith, digit, e)) | inr (inr under) ↦ (omega (arith, under), λ e. omega (arith, under, e)) ]

ascii-bytes : (text : List ℕ) → All IsNameByte text → IsAscii text
ascii-bytes [] all = IsAscii-nil
ascii-bytes (byte ∷ text) all = IsAscii-cons byte text (ascii-byte byte (all 0 byte (omega arith))).0 (ascii-bytes text (λ k d within. all (suc k) d (omega (arith, within))))

name-bytes : (text : List ℕ) → All IsNameByte text → HasNoNewline text
name-bytes [] all = tt
name-bytes (byte ∷ text) all = ((ascii-byte byte (all 0 byte (omega arith))).1, name-bytes text (λ k d within. all (suc k) d (omega (arith, within))))

pub name-utf8 : (text : List ℕ) → IsName text → IsUtf8 text
name-utf8 text name = IsUtf8-from_ascii text (ascii-bytes text name.bytes)

pub name-line : (text : List ℕ) → IsName text → HasNoNewline text
name-line text name = name-bytes text name.bytes

-- bytes up to a newline
pub newline-more : (text : List ℕ) (i : ℕ) → i < length text → HasNoNewline (take i text) → (get_or text i 0 ≡ 10 → ⊥) → HasNoNewline (take (i + 1) text)
newline-more text i within none other = rw (take_more text i 0 within) (line-append (take i text) (get_or text i 0 ∷ []) none (other, tt))

pub newline-at : (text : List ℕ) (i : ℕ) → i < length text → HasNoNewline (take i text) → get_or text i 0 ≡ 10 → Begins HasNoNewline (λ line. line) 10 text (take i text) (drop (i + 1) text)
newline-at text i within none at = (none, parts text i within ∙ rw at refl)

newline-behind : (line rest : List ℕ) → HasNoNewline (line ++ 10 ∷ rest) → ⊥
newline-behind [] rest none = none.0 refl
newline-behind (byte ∷ line) rest none = newline-behind line rest none.1

pub newline-none : (text : List ℕ) (n : ℕ) → length text ≤ n → HasNoNewline (take n text) → BeginsByNone HasNoNewline (λ line. line) 10 text
newline-none text n end none line rest plain is = newline-behind line rest (rw (← is) (rw (take_all n text end) at none))

-- neither kind
pub kind-none : (text : List ℕ) → ((rest : List ℕ) → text ≢ codes "kind=object\n" ++ rest) → ((rest : List ℕ) → text ≢ codes "kind=margin\n" ++ rest) → BeginsByNone IsKind kind_line 10 text
kind-none text object margin true rest kind is = margin rest is
kind-none text object margin false rest kind is = object rest is

-- what stands behind a key
behind-key-is : (text key behind value rest : List ℕ) → text ≡ field key behind → text ≡ field key value ++ 10 ∷ rest → behind ≡ value ++ 10 ∷ rest
behind-key-is text key behind value rest is at = append_cancel_left (key ++ 61 ∷ []) behind (value ++ 10 ∷ rest)
    (append_assoc key (61 ∷ []) behind ∙ sym is ∙ at ∙ append_assoc key (61 ∷ value) (10 ∷ rest) ∙ sym (append_assoc key (61 ∷ []) (value ++ 10 ∷ rest)))

pub number-none : (text key behind : List ℕ) (least most : ℕ) → most < 2 ^ 64 → text ≡ field key behind → BeginsByNone FitsWord decimal 10 behind
    → BeginsByNone (IsFrom least most) (λ n. field key (decimal n)) 10 text
number-none text key behind least most fits is none n rest range at = none n rest (omega (arith, range)) (behind-key-is text key behind (decimal n) rest is at)

pub number-same : (text key behind after rest : List ℕ) (m n : ℕ) → m < 2 ^ 64 → n < 2 ^ 64 → text ≡ field key behind → behind ≡ decimal m ++ 10 ∷ after → text ≡ field key (decimal n) ++ 10 ∷ rest → m ≡ n
number-same text key behind after rest m n fits_m fits_n is read at =
    (one-number m n 10 after rest fits_m fits_n (omega arith) (sym read ∙ behind-key-is text key behind (decimal n) rest is at)).0

pub value-at : (text key value : List ℕ) (read : Option (Bor (List ℕ) × Bor (List ℕ))) → text ≡ field key value
    → MatchOption read (BeginsByNone HasNoNewline (λ line. line) 10 value) (λ r. Begins HasNoNewline (λ line. line) 10 value r.0.now r.1.now)
    → MatchOption read (BeginsByNone HasNoNewline (field key) 10 text) (λ r. Begins HasNoNewline (field key) 10 text r.0.now r.1.now)
value-at text key value None is none = λ line rest plain at. none line rest plain (behind-key-is text key value line rest is at)
value-at text key value (Some r) is some = (some.0, is ∙ ap (λ (v : List ℕ). field key v) some.1 ∙ sym (append_assoc key (61 ∷ r.0.now) (10 ∷ r.1.now)))
