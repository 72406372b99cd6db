-- Lines of texts, and what is read of a text of some kind.
use Rattle.std.proofs.Common.{◌≡◌, ◌==◌, ◌∙◌, ◌++◌, ◌∷◌, ◌⊎◌, [], ℕ, true, false, List, Result, Ok, Err, IfOk, IfErr, length, sym, ap, refl, arith, inl, inr, append-nil, append_assoc}
use Rattle.std.proofs.lemmas.Bool.{and_parts, eq-eqb}
use Rattle.std.proofs.Math.Bool.{not}
use Rattle.std.proofs.lemmas.List.{append_cancel_left}
use Rattle.std.specs.List.{list_all}
use Rattle.std.specs.Str.Parse.{AllDigits}
use Rattle.hx_base.specs.declared.refusal.SpillRefusal.{SpillRefusal}
use Rattle.hx_base.specs.declared.refusal.SpillRefusal.TheVariants as refusal
use Rattle.hx_catalog.proofs.Digits.{below_no_digit}
use Rattle.hx_catalog.specs.Fronts.{HasNoNewline}
use Rattle.hx_catalog.specs.Lines.{AreLinesOf, IsFirstBroken, IsRefusedFor, NoneBroken, OnlyDamagedAt, OnlyRead, text_of}

abbrev pub IsLine : List ℕ → Type 0
IsLine line = HasNoNewline line

abbrev pub AreLines : List (List ℕ) → Type 0
AreLines [] = Unit {0}
AreLines (line ∷ lines) = IsLine line × AreLines lines

pub line-tested : (bytes : List ℕ) → list_all (λ byte. not (byte == 10)) bytes ≡ true → IsLine bytes
line-tested [] all = tt
line-tested (byte ∷ bytes) all =
    let parts = and_parts (not (byte == 10)) (list_all (λ b. not (b == 10)) bytes) all in
    (λ e. let newline : not (byte == 10) ≡ false = ap not (eq-eqb byte 10 e) in cc (newline, parts.0), line-tested bytes parts.1)

pub line-append : (xs ys : List ℕ) → IsLine xs → IsLine ys → IsLine (xs ++ ys)
line-append [] ys some more = more
line-append (x ∷ xs) ys some more = (some.0, line-append xs ys some.1 more)

pub line-of-digits : (digits : List ℕ) → AllDigits 10 digits → IsLine digits
line-of-digits [] all = tt
line-of-digits (digit ∷ digits) all = (λ e. below_no_digit digit (omega (arith, e)) all.0, line-of-digits digits all.1)

front-lines : (front more : List (List ℕ)) → AreLines (front ++ more) → AreLines front
front-lines [] more all = tt
front-lines (line ∷ front) more all = (all.0, front-lines front more all.1)

-- a text has one first line
pub first-line : (a b x y : List ℕ) → IsLine a → IsLine b → a ++ 10 ∷ x ≡ b ++ 10 ∷ y → (a ≡ b) × (x ≡ y)
first-line [] [] x y la lb h = (refl, cc h)
first-line [] (c ∷ b) x y la lb h = absurd (lb.0 (let e : 10 ≡ c = cc h in sym e))
first-line (c ∷ a) [] x y la lb h = absurd (la.0 (cc h))
first-line (c ∷ a) (d ∷ b) x y la lb h =
    let rest = first-line a b x y la.1 lb.1 (cc h) in
    let same : c ≡ d = cc h in
    (cc (same, rest.0), rest.1)

pub text-append : (xs ys : List (List ℕ)) → text_of (xs ++ ys) ≡ text_of xs ++ text_of ys
text-append [] ys = refl
text-append (x ∷ xs) ys = ap (λ (t : List ℕ). x ++ 10 ∷ t) (text-append xs ys) ∙ sym (append_assoc x (10 ∷ text_of xs) (text_of ys))

-- one line more
pub text-push : (lines : List (List ℕ)) (line rest : List ℕ) → text_of lines ++ (line ++ 10 ∷ rest) ≡ text_of (lines ++ line ∷ []) ++ rest
text-push [] line rest = sym (append_assoc line (10 ∷ []) rest)
text-push (x ∷ xs) line rest =
    let first : text_of (x ∷ xs) ++ (line ++ 10 ∷ rest) ≡ x ++ 10 ∷ (text_of xs ++ (line ++ 10 ∷ rest)) = append_assoc x (10 ∷ text_of xs) (line ++ 10 ∷ rest) in
    let last : text_of (x ∷ (xs ++ line ∷ [])) ++ rest ≡ x ++ 10 ∷ (text_of (xs ++ line ∷ []) ++ rest) = append_assoc x (10 ∷ text_of (xs ++ line ∷ [])) rest in
    first ∙ ap (λ (t : List ℕ). x ++ 10 ∷ t) (text-push xs line rest) ∙ sym last

-- of two ways to read lines off the front of a text one goes on where the other stops
abbrev Ahead : List (List ℕ) → List ℕ → List (List ℕ) → List ℕ → Type 0
Ahead lines rest further left = (more : List (List ℕ)) × (further ≡ lines ++ more) × (rest ≡ text_of more ++ left)

one-way : (xs ys : List (List ℕ)) (r s : List ℕ) → AreLines xs → AreLines ys → text_of xs ++ r ≡ text_of ys ++ s → Ahead xs r ys s ⊎ Ahead ys s xs r
one-way [] ys r s lx ly h = inl (ys, refl, h)
one-way (x ∷ xs) [] r s lx ly h = inr (x ∷ xs, refl, sym h)
one-way (x ∷ xs) (y ∷ ys) r s lx ly h =
    let regrouped : x ++ 10 ∷ (text_of xs ++ r) ≡ y ++ 10 ∷ (text_of ys ++ s) = sym (append_assoc x (10 ∷ text_of xs) r) ∙ h ∙ append_assoc y (10 ∷ text_of ys) s in
    let first = first-line x y (text_of xs ++ r) (text_of ys ++ s) lx.0 ly.0 regrouped in
    elim (one-way xs ys r s lx.1 ly.1 first.1) [
      | inl a ↦ inl (a.0, cc (first.0, a.1), a.2)
      | inr a ↦ inr (a.0, cc (first.0, a.1), a.2)
    ]

some-text : (lines : List (List ℕ)) (rest : List ℕ) → [] ≡ text_of lines ++ rest → (lines ≡ []) × (rest ≡ [])
some-text [] rest h = (refl, sym h)
some-text ([] ∷ lines) rest h = absurd (cc h)
some-text ((byte ∷ line) ∷ lines) rest h = absurd (cc h)

-- a kind of text: its lines are lines, and those of one value alone
pub record IsKind {V : Type 0} (Fits : V → Type 0) (lines_of : V → List (List ℕ)) : Type 0 where
  pub lines : (value : V) → Fits value → AreLines (lines_of value)
  pub one : (a b : V) → Fits a → Fits b → lines_of a ≡ lines_of b → a ≡ b

module _ {V : Type 0} (Fits : V → Type 0) (lines_of : V → List (List ℕ)) (kind : IsKind Fits lines_of) where
  sound-lines : (front : List (List ℕ)) → NoneBroken (AreLinesOf Fits lines_of) front → AreLines front
  sound-lines front sound = front-lines front sound.0 (rw sound.1.2 (kind.lines sound.1.0 sound.1.1))

  pub one-value : (a b : V) → Fits a → Fits b → text_of (lines_of a) ≡ text_of (lines_of b) → a ≡ b
  one-value a b fits_a fits_b same =
      let h : text_of (lines_of a) ++ [] ≡ text_of (lines_of b) ++ [] = ap (λ (t : List ℕ). t ++ []) same in
      elim (one-way (lines_of a) (lines_of b) [] [] (kind.lines a fits_a) (kind.lines b fits_b) h) [
        | inl ahead ↦ kind.one a b fits_a fits_b (sym (ahead.1 ∙ ap (λ (m : List (List ℕ)). lines_of a ++ m) (some-text ahead.0 [] ahead.2).0 ∙ append-nil (lines_of a)))
        | inr ahead ↦ kind.one a b fits_a fits_b (ahead.1 ∙ ap (λ (m : List (List ℕ)). lines_of b ++ m) (some-text ahead.0 [] ahead.2).0 ∙ append-nil (lines_of b))
      ]

  -- where one line more is read, no rule is broken there
  no-break : (front further : List (List ℕ)) (rest left : List ℕ) → Ahead front rest further left → NoneBroken (AreLinesOf Fits lines_of) further
      → ((line more : List ℕ) → rest ≡ line ++ 10 ∷ more → NoneBroken (AreLinesOf Fits lines_of) (front ++ line ∷ []) → ⊥) → front ≡ further
  no-break front further rest left ([], is, at) sound broken = sym (is ∙ append-nil front)
  no-break front further rest left (line ∷ lines, is, at) sound broken =
      let whole : further ++ sound.0 ≡ (front ++ line ∷ []) ++ (lines ++ sound.0) =
      ap (λ (f : List (List ℕ)). f ++ sound.0) is ∙ append_assoc front (line ∷ lines) sound.0 ∙ sym (append_assoc front (line ∷ []) (lines ++ sound.0)) in
      absurd (broken line (text_of lines ++ left) (at ∙ append_assoc line (10 ∷ text_of lines) left)
      (lines ++ sound.0, (sound.1.0, sound.1.1, sym whole ∙ sound.1.2)))

  pub one-place : (text : List ℕ) (p q : ℕ) → IsFirstBroken (AreLinesOf Fits lines_of) text p → IsFirstBroken (AreLinesOf Fits lines_of) text q → p ≡ q
  one-place text p q a b =
      let same : a.front ≡ b.front =
      elim (one-way a.front b.front a.rest b.rest (sound-lines a.front a.sound) (sound-lines b.front b.sound) (sym a.form ∙ b.form)) [
        | inl ahead ↦ no-break a.front b.front a.rest b.rest ahead b.sound a.broken
        | inr ahead ↦ sym (no-break b.front a.front b.rest a.rest ahead a.sound b.broken)
      ] in
      a.at ∙ ap (λ (f : List (List ℕ)). length (text_of f)) same ∙ sym b.at

  -- no line of a value's text breaks a rule
  pub none-broken : (value : V) (place : ℕ) → Fits value → IsFirstBroken (AreLinesOf Fits lines_of) (text_of (lines_of value)) place → ⊥
  none-broken value place fits b =
      let whole : AreLinesOf Fits lines_of (lines_of value) = (value, fits, refl) in
      let sound : NoneBroken (AreLinesOf Fits lines_of) (lines_of value) = ([], (value, fits, append-nil (lines_of value))) in
      elim (one-way b.front (lines_of value) b.rest [] (sound-lines b.front b.sound) (kind.lines value fits) (sym b.form ∙ sym (append-nil (text_of (lines_of value))))) [
        | inl ahead ↦
            let same = no-break b.front (lines_of value) b.rest [] ahead sound b.broken in
            let e : b.rest ≡ [] = append_nothing b.front (lines_of value) b.rest same (sym b.form) in
            b.unfinished e (rw same whole)
        | inr ahead ↦
            let none = some-text ahead.0 b.rest ahead.2 in
            let same : b.front ≡ lines_of value = ahead.1 ∙ ap (λ (m : List (List ℕ)). lines_of value ++ m) none.0 ∙ append-nil (lines_of value) in
            b.unfinished none.1 (rw same whole)
      ]
    where
      append_nothing : (front lines : List (List ℕ)) (rest : List ℕ) → front ≡ lines → text_of front ++ rest ≡ text_of lines → rest ≡ []
      append_nothing front lines rest same h = append_cancel_left (text_of front) rest [] (h ∙ ap text_of (sym same) ∙ sym (append-nil (text_of front)))

  module _ {W : Type 0} (view : W → V) (text : List ℕ) where
    pub only_read : (r : Result W SpillRefusal) → IfOk r (λ w. Fits (view w) × (text ≡ text_of (lines_of (view w)))) → IfErr r (IsRefusedFor (AreLinesOf Fits lines_of) text)
        → (value : V) → Fits value → text ≡ text_of (lines_of value) → OnlyRead (λ w. view w ≡ value) r
    only_read (Ok w) read refused value fits is = one-value (view w) value read.0 fits (sym read.1 ∙ is)
    only_read (Err refusal.Memory) read refused value fits is = refl
    only_read (Err (refusal.Damaged place)) read refused value fits is = absurd (none-broken value place fits (rw is at refused))

    pub only_damaged : (r : Result W SpillRefusal) → IfOk r (λ w. Fits (view w) × (text ≡ text_of (lines_of (view w)))) → IfErr r (IsRefusedFor (AreLinesOf Fits lines_of) text)
        → (place : ℕ) → IsFirstBroken (AreLinesOf Fits lines_of) text place → OnlyDamagedAt place r
    only_damaged (Ok w) read refused place broken = none-broken (view w) place read.0 (rw read.1 at broken)
    only_damaged (Err refusal.Memory) read refused place broken = inr refl
    only_damaged (Err (refusal.Damaged found)) read refused place broken = inl (ap refusal.Damaged (one-place text found place refused broken))
