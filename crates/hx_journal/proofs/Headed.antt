-- The lines of a header, read one after another.
use Rattle.std.proofs.Common.{◌≡◌, ◌≢◌, ◌∙◌, ◌+◌, ◌^◌, ◌++◌, ◌∷◌, ◌<◌, ◌≤◌, [], suc, ℕ, List, codes, drop, length, map, subst, sym, ap, arith, refl, append_assoc, inl, inr, Option, Some, None, MatchOption}
use Rattle.hx_journal.specs.Journal.{BeginsByHeader}
use Rattle.std.proofs.lemmas.List.{append_cancel_left}
use Rattle.std.proofs.lemmas.Str.{IsUtf8-from_ascii}
use Rattle.std.proofs.lemmas.Str.Ascii.{IsAscii-cons, IsAscii-nil}
use Rattle.std.specs.Str.{IsAscii, IsUtf8}
use Rattle.std.specs.Fmt.{decimal}
use Rattle.std.specs.List.{All}
use Rattle.hx_base.specs.FileWords.{IsFileWord, IsPlain}
use Rattle.hx_base.specs.Limits.{FitsLimits}
use Rattle.hx_base.specs.Names.{IsName, IsNameByte}
use Rattle.hx_base.specs.declared.settings.Settings.{Settings}
use Rattle.hx_journal.specs.Fronts.{Begins, BeginsByNone, FitsWord, HasNoNewline}
use Rattle.hx_journal.specs.Headers.{AreListed, AreSoMany, BeginsByTail, HasNoInputs, HasNoTail, Heading, IsHeader, IsHeading, IsListed, settings_of, IsTail, Listed, header_of, input_line, input_lines, numbered, tail_lines, text_of}
use Rattle.hx_journal.proofs.Digits.{one-number}
use Rattle.hx_journal.proofs.Lines.{first-line}
use Rattle.hx_journal.proofs.Written.{text-append}

-- a number's line
line-is : (key : List ℕ) (m : ℕ) (lines : List (List ℕ)) (r : List ℕ) → text_of (numbered key m ∷ lines) ++ r ≡ numbered key m ++ 10 ∷ (text_of lines ++ r)
line-is key m lines r = append_assoc (numbered key m) (10 ∷ text_of lines) r

pub no-line : (key text r : List ℕ) (lines : List (List ℕ)) (m : ℕ) → m < 2 ^ 64 → BeginsByNone FitsWord (numbered key) 10 text → text ≢ text_of (numbered key m ∷ lines) ++ r
no-line key text r lines m fits none is = none m (text_of lines ++ r) fits (is ∙ line-is key m lines r)

pub same-line : (key text rest r : List ℕ) (lines : List (List ℕ)) (x m : ℕ) → m < 2 ^ 64 → Begins FitsWord (numbered key) 10 text x rest → text ≡ text_of (numbered key m ∷ lines) ++ r
    → (x ≡ m) × (rest ≡ text_of lines ++ r)
same-line key text rest r lines x m fits begins is =
    one-number x m 10 rest (text_of lines ++ r) begins.0 fits (omega arith)
    (append_cancel_left key (decimal x ++ 10 ∷ rest) (decimal m ++ 10 ∷ (text_of lines ++ r))
    (sym (append_assoc key (decimal x) (10 ∷ rest)) ∙ sym begins.1 ∙ is ∙ line-is key m lines r ∙ append_assoc key (decimal m) (10 ∷ (text_of lines ++ r))))

-- words have no newline
plain-bytes : (text : List ℕ) → All IsPlain text → HasNoNewline text
plain-bytes [] all = tt
plain-bytes (byte ∷ text) all = ((λ e. omega (arith, e, (all 0 byte (omega arith)).0)), plain-bytes text (λ k d within. all (suc k) d (omega (arith, within))))

pub word-line : (word : List ℕ) → IsFileWord word → HasNoNewline word
word-line word is = plain-bytes word is.plain

ascii-byte : (byte : ℕ) → IsNameByte byte → byte < 128
ascii-byte byte h = elim h [ inl letter ↦ omega (arith, letter) | inr (inl digit) ↦ omega (arith, digit) | inr (inr under) ↦ omega (arith, under) ]

ascii-bytes : (text : List ℕ) → All IsNameByte text → IsAscii text
ascii-bytes [] all = IsAscii-nil
ascii-bytes (byte ∷ text) all = IsAscii-cons byte text (ascii-byte byte (all 0 byte (omega arith))) (ascii-bytes text (λ k d within. all (suc k) d (omega (arith, within))))

pub name-utf8 : (text : List ℕ) → IsName text → IsUtf8 text
name-utf8 text name = IsUtf8-from_ascii text (ascii-bytes text name.bytes)

name-byte : (byte : ℕ) → IsNameByte byte → byte ≡ 10 → ⊥
name-byte byte h e = elim h [ inl letter ↦ omega (arith, letter, e) | inr (inl digit) ↦ omega (arith, digit, e) | inr (inr under) ↦ omega (arith, under, e) ]

name-bytes : (text : List ℕ) → All IsNameByte text → HasNoNewline text
name-bytes [] all = tt
name-bytes (byte ∷ text) all = (name-byte byte (all 0 byte (omega arith)), name-bytes text (λ k d within. all (suc k) d (omega (arith, within))))

pub name-line : (text : List ℕ) → IsName text → HasNoNewline text
name-line text name = name-bytes text name.bytes

-- an input's line
pub input-parts : (x : Listed) (more : List ℕ) → input_line x ++ 10 ∷ more ≡ codes "input " ++ (decimal x.len ++ 32 ∷ (x.word ++ 10 ∷ more))
input-parts x more =
    append_assoc (codes "input ") (decimal x.len ++ 32 ∷ x.word) (10 ∷ more)
    ∙ ap (λ (l : List ℕ). codes "input " ++ l) (append_assoc (decimal x.len) (32 ∷ x.word) (10 ∷ more))

pub input-value : (text rest more : List ℕ) (x : Listed) → text ≡ codes "input " ++ rest → text ≡ input_line x ++ 10 ∷ more → rest ≡ decimal x.len ++ 32 ∷ (x.word ++ 10 ∷ more)
input-value text rest more x is at = append_cancel_left (codes "input ") rest (decimal x.len ++ 32 ∷ (x.word ++ 10 ∷ more)) (sym is ∙ at ∙ input-parts x more)

pub input-word : (text rest value more : List ℕ) (n : ℕ) (x : Listed) → text ≡ codes "input " ++ rest → Begins FitsWord decimal 32 rest n value → IsListed x → text ≡ input_line x ++ 10 ∷ more → value ≡ x.word ++ 10 ∷ more
input-word text rest value more n x is begins fits at = (one-number n x.len 32 value (x.word ++ 10 ∷ more) begins.0 fits.len (omega arith) (sym begins.1 ∙ input-value text rest more x is at)).1

pub input-begins : (text rest value word after : List ℕ) (n : ℕ) → text ≡ codes "input " ++ rest → Begins FitsWord decimal 32 rest n value → value ≡ word ++ 10 ∷ after → text ≡ input_line (record { len = n; word = word }) ++ 10 ∷ after
input-begins text rest value word after n is begins at =
    is ∙ ap (λ (l : List ℕ). codes "input " ++ l) (begins.1 ∙ ap (λ (l : List ℕ). decimal n ++ 32 ∷ l) at) ∙ sym (input-parts (record { len = n; word = word }) after)

-- lines of inputs
lines-is : (x : Listed) (xs : List Listed) (r : List ℕ) → text_of (map input_line (x ∷ xs)) ++ r ≡ input_line x ++ 10 ∷ (text_of (map input_line xs) ++ r)
lines-is x xs r = append_assoc (input_line x) (10 ∷ text_of (map input_line xs)) r

one-input : (x y : Listed) (a b : List ℕ) → IsListed x → IsListed y → input_line x ++ 10 ∷ a ≡ input_line y ++ 10 ∷ b → (x ≡ y) × (a ≡ b)
one-input x y a b fits_x fits_y h =
    let rest = decimal x.len ++ 32 ∷ (x.word ++ 10 ∷ a) in
    let value = input-value (input_line x ++ 10 ∷ a) rest b y (input-parts x a) h in
    let number = one-number x.len y.len 32 (x.word ++ 10 ∷ a) (y.word ++ 10 ∷ b) fits_x.len fits_y.len (omega arith) value in
    let line = first-line x.word y.word a b (word-line x.word fits_x.word) (word-line y.word fits_y.word) number.1 in
    (λ k. record { len = number.0 k; word = line.0 k }, line.1)

-- where more inputs stand than were read, one more stands there
pub one-more : (done xs : List Listed) (rest r : List ℕ) → length done < length xs → AreListed done → AreListed xs → text_of (map input_line done) ++ rest ≡ text_of (map input_line xs) ++ r
    → (x : Listed) × IsListed x × (more : List ℕ) × (rest ≡ input_line x ++ 10 ∷ more)
one-more [] [] rest r fewer all also h = absurd (omega (arith, fewer))
one-more [] (x ∷ xs) rest r fewer all also h = (x, also.0, text_of (map input_line xs) ++ r, h ∙ lines-is x xs r)
one-more (d ∷ done) [] rest r fewer all also h = absurd (omega (arith, fewer))
one-more (d ∷ done) (x ∷ xs) rest r fewer all also h =
    one-more done xs rest r (omega (arith, fewer)) all.1 also.1 (one-input d x _ _ all.0 also.0 (sym (lines-is d done rest) ∙ h ∙ lines-is x xs r)).1

-- as many inputs are the same, and end where they end
pub as-many : (done xs : List Listed) (rest r : List ℕ) → length done ≡ length xs → AreListed done → AreListed xs → text_of (map input_line done) ++ rest ≡ text_of (map input_line xs) ++ r
    → (done ≡ xs) × (rest ≡ r)
as-many [] [] rest r same all also h = (refl, h)
as-many [] (x ∷ xs) rest r same all also h = absurd (omega (arith, same))
as-many (d ∷ done) [] rest r same all also h = absurd (omega (arith, same))
as-many (d ∷ done) (x ∷ xs) rest r same all also h =
    let first = one-input d x (text_of (map input_line done) ++ rest) (text_of (map input_line xs) ++ r) all.0 also.0 (sym (lines-is d done rest) ∙ h ∙ lines-is x xs r) in
    let more = as-many done xs rest r (omega (arith, same)) all.1 also.1 first.1 in
    (λ k. first.0 k ∷ more.0 k, more.1)

listed-push : (xs : List Listed) (x : Listed) → AreListed xs → IsListed x → AreListed (xs ++ x ∷ [])
listed-push [] x all one = (one, tt)
listed-push (y ∷ xs) x all one = (all.0, listed-push xs x all.1 one)

length-more : (xs : List Listed) (x : Listed) → length (xs ++ x ∷ []) ≡ length xs + 1
length-more [] x = refl
length-more (y ∷ xs) x = omega (arith, length-more xs x)

lines-push : (xs : List Listed) (x : Listed) (after : List ℕ) → text_of (map input_line xs) ++ (input_line x ++ 10 ∷ after) ≡ text_of (map input_line (xs ++ x ∷ [])) ++ after
lines-push [] x after = sym (append_assoc (input_line x) (10 ∷ []) after)
lines-push (y ∷ xs) x after = lines-is y xs (input_line x ++ 10 ∷ after) ∙ ap (λ (l : List ℕ). input_line y ++ 10 ∷ l) (lines-push xs x after) ∙ sym (lines-is y (xs ++ x ∷ []) after)

module _ (text rest : List ℕ) (left count : ℕ) (done : List Listed) (so_many : length done + left ≡ count) (sound : AreListed done) (form : text ≡ text_of (map input_line done) ++ rest) where
  pub no-inputs : 0 < left → BeginsByNone IsListed input_line 10 rest → HasNoInputs count text
  no-inputs some none xs r many is =
      let (x, fits, more, at) = one-more done xs rest r (omega (arith, some, so_many, many.long)) sound many.sound (sym form ∙ is) in
      none x more fits at

  pub next-input : (after : List ℕ) (x : Listed) → Begins IsListed input_line 10 rest x after → 0 < left → (l : ℕ) → l + 1 ≡ left
      → (more : List Listed) × (length more + l ≡ count) × AreListed more × (text ≡ text_of (map input_line more) ++ after)
  next-input after x begins some l is =
      (done ++ x ∷ [], omega (arith, is, so_many, length-more done x), listed-push done x sound begins.0, form ∙ ap (λ (t : List ℕ). text_of (map input_line done) ++ t) begins.1 ∙ lines-push done x after)

-- the lines behind the name, one after another
module _ (s : Settings) (xs : List Listed) (r text : List ℕ) (fits : IsTail s xs) (is : text ≡ text_of (tail_lines s xs) ++ r) where
  abbrev behind : ℕ → List ℕ
  behind k = text_of (drop k (tail_lines s xs)) ++ r

  pub no-lowest : BeginsByNone FitsWord (numbered (codes "lowest ")) 10 text → ⊥
  no-lowest none = no-line (codes "lowest ") text r (drop 1 (tail_lines s xs)) s.lowest (omega (arith, fits.limits)) none is

  module _ (l : ℕ) (rest1 : List ℕ) (b1 : Begins FitsWord (numbered (codes "lowest ")) 10 text l rest1) where
    lowest-is : (l ≡ s.lowest) × (rest1 ≡ behind 1)
    lowest-is = same-line (codes "lowest ") text rest1 r (drop 1 (tail_lines s xs)) l s.lowest (omega (arith, fits.limits)) b1 is

    pub no-highest : BeginsByNone FitsWord (numbered (codes "highest ")) 10 rest1 → ⊥
    no-highest none = no-line (codes "highest ") rest1 r (drop 2 (tail_lines s xs)) s.highest (omega (arith, fits.limits)) none lowest-is.1

    module _ (h : ℕ) (rest2 : List ℕ) (b2 : Begins FitsWord (numbered (codes "highest ")) 10 rest1 h rest2) where
      highest-is : (h ≡ s.highest) × (rest2 ≡ behind 2)
      highest-is = same-line (codes "highest ") rest1 rest2 r (drop 2 (tail_lines s xs)) h s.highest (omega (arith, fits.limits)) b2 lowest-is.1

      pub no-threshold : BeginsByNone FitsWord (numbered (codes "threshold ")) 10 rest2 → ⊥
      no-threshold none = no-line (codes "threshold ") rest2 r (drop 3 (tail_lines s xs)) s.threshold (omega (arith, fits.limits)) none highest-is.1

      module _ (t : ℕ) (rest3 : List ℕ) (b3 : Begins FitsWord (numbered (codes "threshold ")) 10 rest2 t rest3) where
        threshold-is : (t ≡ s.threshold) × (rest3 ≡ behind 3)
        threshold-is = same-line (codes "threshold ") rest2 rest3 r (drop 3 (tail_lines s xs)) t s.threshold (omega (arith, fits.limits)) b3 highest-is.1

        pub no-margin : BeginsByNone FitsWord (numbered (codes "margin_order ")) 10 rest3 → ⊥
        no-margin none = no-line (codes "margin_order ") rest3 r (drop 4 (tail_lines s xs)) s.margin_order (omega (arith, fits.limits)) none threshold-is.1

        module _ (m : ℕ) (rest4 : List ℕ) (b4 : Begins FitsWord (numbered (codes "margin_order ")) 10 rest3 m rest4) where
          margin-is : (m ≡ s.margin_order) × (rest4 ≡ behind 4)
          margin-is = same-line (codes "margin_order ") rest3 rest4 r (drop 4 (tail_lines s xs)) m s.margin_order (omega (arith, fits.limits)) b4 threshold-is.1

          pub no-count : BeginsByNone FitsWord (numbered (codes "inputs ")) 10 rest4 → ⊥
          no-count none = no-line (codes "inputs ") rest4 r (input_lines xs) (length xs) fits.count none margin-is.1

          pub limits-are : FitsLimits (settings_of l h t m)
          limits-are = record {
            lowest = omega (arith, fits.limits, lowest-is.0, highest-is.0);
            highest = omega (arith, fits.limits, highest-is.0);
            margin_least = omega (arith, fits.limits, highest-is.0, margin-is.0);
            margin_most = omega (arith, fits.limits, margin-is.0);
            threshold_least = omega (arith, fits.limits, threshold-is.0);
            threshold_most = omega (arith, fits.limits, threshold-is.0);
          }

          module _ (n : ℕ) (rest5 : List ℕ) (b5 : Begins FitsWord (numbered (codes "inputs ")) 10 rest4 n rest5) where
            count-is : (n ≡ length xs) × (rest5 ≡ text_of (input_lines xs) ++ r)
            count-is = same-line (codes "inputs ") rest4 rest5 r (input_lines xs) n (length xs) fits.count b5 margin-is.1

            inputs-are : rest5 ≡ text_of (map input_line xs) ++ (codes "end\n" ++ r)
            inputs-are = count-is.1 ∙ ap (λ (l : List ℕ). l ++ r) (text-append (map input_line xs) (codes "end" ∷ [])) ∙ append_assoc (text_of (map input_line xs)) (codes "end\n") r

            pub some-inputs : HasNoInputs n rest5 → ⊥
            some-inputs none = none xs (codes "end\n" ++ r) (record { long = sym count-is.0; sound = fits.sound }) inputs-are

            pub some-end : (end : List ℕ) (ys : List Listed) → AreSoMany n ys → rest5 ≡ text_of (map input_line ys) ++ end → (ys ≡ xs) × (end ≡ codes "end\n" ++ r)
            some-end end ys many at = as-many ys xs end (codes "end\n" ++ r) (many.long ∙ count-is.0) many.sound fits.sound (sym at ∙ inputs-are)

-- a line in front of a text
line-on : (key : List ℕ) (x : ℕ) (lines : List (List ℕ)) (text rest after : List ℕ) → text ≡ numbered key x ++ 10 ∷ rest → rest ≡ text_of lines ++ after → text ≡ text_of (numbered key x ∷ lines) ++ after
line-on key x lines text rest after is at = is ∙ ap (λ (l : List ℕ). numbered key x ++ 10 ∷ l) at ∙ sym (line-is key x lines after)

pub tail-read : (text rest1 rest2 rest3 rest4 rest5 end after : List ℕ) (l h t m n : ℕ) (xs : List Listed)
    → Begins FitsWord (numbered (codes "lowest ")) 10 text l rest1 → Begins FitsWord (numbered (codes "highest ")) 10 rest1 h rest2 → Begins FitsWord (numbered (codes "threshold ")) 10 rest2 t rest3
    → Begins FitsWord (numbered (codes "margin_order ")) 10 rest3 m rest4 → Begins FitsWord (numbered (codes "inputs ")) 10 rest4 n rest5 → FitsLimits (settings_of l h t m)
    → AreSoMany n xs → rest5 ≡ text_of (map input_line xs) ++ end → end ≡ codes "end\n" ++ after → BeginsByTail text after
tail-read text rest1 rest2 rest3 rest4 rest5 end after l h t m n xs b1 b2 b3 b4 b5 limits many is at = (s, xs, record { limits = limits; count = omega (arith, many.long, b5.0); sound = many.sound }, text-is)
  where
    s : Settings
    s = settings_of l h t m

    last-is : rest5 ≡ text_of (input_lines xs) ++ after
    last-is = is ∙ ap (λ (e : List ℕ). text_of (map input_line xs) ++ e) at ∙ sym (append_assoc (text_of (map input_line xs)) (codes "end\n") after) ∙ ap (λ (e : List ℕ). e ++ after) (sym (text-append (map input_line xs) (codes "end" ∷ [])))

    count-on : rest4 ≡ text_of (numbered (codes "inputs ") (length xs) ∷ input_lines xs) ++ after
    count-on = line-on (codes "inputs ") (length xs) (input_lines xs) rest4 rest5 after (b5.1 ∙ ap (λ (k : ℕ). numbered (codes "inputs ") k ++ 10 ∷ rest5) (sym many.long)) last-is

    text-is : text ≡ text_of (tail_lines s xs) ++ after
    text-is =
        line-on (codes "lowest ") l (drop 1 (tail_lines s xs)) text rest1 after b1.1
        (line-on (codes "highest ") h (drop 2 (tail_lines s xs)) rest1 rest2 after b2.1
        (line-on (codes "threshold ") t (drop 3 (tail_lines s xs)) rest2 rest3 after b3.1
        (line-on (codes "margin_order ") m (drop 4 (tail_lines s xs)) rest3 rest4 after b4.1 count-on)))

-- another way to say what an option tells
pub told-as : {A : Type 0} (read : Option A) (N M : Type 0) (P Q : A → Type 0) → MatchOption read N P → (N → M) → ((a : A) → P a → Q a) → MatchOption read M Q
told-as None N M P Q none absent there = absent none
told-as (Some a) N M P Q some absent there = there a some

-- the first two lines
module _ (h : Heading) (header r bytes : List ℕ) (fits : IsHeading h) (spelled : header ≡ header_of h) (is : bytes ≡ header ++ r) where
  abbrev all-of : List (List ℕ)
  all-of = (codes "name " ++ h.settings.name) ∷ tail_lines h.settings h.inputs

  bytes-are : bytes ≡ text_of (numbered (codes "hats-journal ") h.version ∷ all-of) ++ r
  bytes-are = is ∙ ap (λ (l : List ℕ). l ++ r) spelled

  pub no-title : BeginsByNone FitsWord (numbered (codes "hats-journal ")) 10 bytes → ⊥
  no-title none = no-line (codes "hats-journal ") bytes r all-of h.version (omega (arith, fits.version)) none bytes-are

  module _ (v : ℕ) (rest1 : List ℕ) (b1 : Begins FitsWord (numbered (codes "hats-journal ")) 10 bytes v rest1) where
    title-is : (v ≡ h.version) × (rest1 ≡ text_of all-of ++ r)
    title-is = same-line (codes "hats-journal ") bytes rest1 r all-of v h.version (omega (arith, fits.version)) b1 bytes-are

    pub version-low : v ≤ 1
    version-low = omega (arith, title-is.0, fits.version)

    name-is : rest1 ≡ (codes "name " ++ h.settings.name) ++ 10 ∷ (text_of (tail_lines h.settings h.inputs) ++ r)
    name-is = title-is.1 ∙ append_assoc (codes "name " ++ h.settings.name) (10 ∷ text_of (tail_lines h.settings h.inputs)) r

    pub no-name : BeginsByNone HasNoNewline (λ line. codes "name " ++ line) 10 rest1 → ⊥
    no-name none = none h.settings.name (text_of (tail_lines h.settings h.inputs) ++ r) (name-line h.settings.name fits.name) name-is

    module _ (name rest2 : List ℕ) (b2 : Begins HasNoNewline (λ line. codes "name " ++ line) 10 rest1 name rest2) where
      same-name : (name ≡ h.settings.name) × (rest2 ≡ text_of (tail_lines h.settings h.inputs) ++ r)
      same-name =
          let more = text_of (tail_lines h.settings h.inputs) ++ r in
          first-line name h.settings.name rest2 more b2.0 (name-line h.settings.name fits.name)
          (append_cancel_left (codes "name ") (name ++ 10 ∷ rest2) (h.settings.name ++ 10 ∷ more)
          (sym (append_assoc (codes "name ") name (10 ∷ rest2)) ∙ sym b2.1 ∙ name-is ∙ append_assoc (codes "name ") h.settings.name (10 ∷ more)))

      pub some-name : IsName name
      some-name = subst IsName (sym same-name.0) fits.name

      pub no-tail : HasNoTail rest2 → ⊥
      no-tail none = none h.settings h.inputs r (record { limits = fits.limits; count = fits.count; sound = fits.inputs }) same-name.1

pub header-read : (bytes rest1 name rest2 after : List ℕ) (v : ℕ) → Begins FitsWord (numbered (codes "hats-journal ")) 10 bytes v rest1 → v ≤ 1
    → Begins HasNoNewline (λ line. codes "name " ++ line) 10 rest1 name rest2 → IsName name → BeginsByTail rest2 after → BeginsByHeader bytes after
header-read bytes rest1 name rest2 after v b1 low b2 good (s, xs, fits, at) = (header_of h, (h, is-heading, refl), b1.1 ∙ ap (λ (l : List ℕ). numbered (codes "hats-journal ") v ++ 10 ∷ l) named ∙ sym (line-is (codes "hats-journal ") v lines after))
  where
    settings : Settings
    settings = record { name = name; lowest = s.lowest; highest = s.highest; threshold = s.threshold; margin_order = s.margin_order }

    h : Heading
    h = record { version = v; settings = settings; inputs = xs }

    lines : List (List ℕ)
    lines = (codes "name " ++ name) ∷ tail_lines settings xs

    named : rest1 ≡ text_of lines ++ after
    named = b2.1 ∙ ap (λ (l : List ℕ). (codes "name " ++ name) ++ 10 ∷ l) at ∙ sym (append_assoc (codes "name " ++ name) (10 ∷ text_of (tail_lines settings xs)) after)

    is-heading : IsHeading h
    is-heading = record {
      version = low;
      name = good;
      limits = record {
        lowest = fits.limits.lowest;
        highest = fits.limits.highest;
        margin_least = fits.limits.margin_least;
        margin_most = fits.limits.margin_most;
        threshold_least = fits.limits.threshold_least;
        threshold_most = fits.limits.threshold_most;
      };
      count = fits.count;
      inputs = fits.sound;
    }

-- headers end where they end, and say one thing
record SameTail (s t : Settings) (xs ys : List Listed) (r x : List ℕ) : Type 0 where
  low : t.lowest ≡ s.lowest
  high : t.highest ≡ s.highest
  most : t.threshold ≡ s.threshold
  margin : t.margin_order ≡ s.margin_order
  inputs : ys ≡ xs
  rest : x ≡ r

one-tail : (s t : Settings) (xs ys : List Listed) (r x : List ℕ) → IsTail s xs → IsTail t ys → text_of (tail_lines t ys) ++ x ≡ text_of (tail_lines s xs) ++ r → SameTail s t xs ys r x
one-tail s t xs ys r x fits also is =
    let b1 : Begins FitsWord (numbered (codes "lowest ")) 10 (behind-line 0) t.lowest (behind-line 1) = (omega (arith, also.limits), line-is (codes "lowest ") t.lowest (drop 1 (tail_lines t ys)) x) in
    let b2 : Begins FitsWord (numbered (codes "highest ")) 10 (behind-line 1) t.highest (behind-line 2) = (omega (arith, also.limits), line-is (codes "highest ") t.highest (drop 2 (tail_lines t ys)) x) in
    let b3 : Begins FitsWord (numbered (codes "threshold ")) 10 (behind-line 2) t.threshold (behind-line 3) = (omega (arith, also.limits), line-is (codes "threshold ") t.threshold (drop 3 (tail_lines t ys)) x) in
    let b4 : Begins FitsWord (numbered (codes "margin_order ")) 10 (behind-line 3) t.margin_order (behind-line 4) = (omega (arith, also.limits), line-is (codes "margin_order ") t.margin_order (drop 4 (tail_lines t ys)) x) in
    let b5 : Begins FitsWord (numbered (codes "inputs ")) 10 (behind-line 4) (length ys) (behind-line 5) = (also.count, line-is (codes "inputs ") (length ys) (input_lines ys) x) in
    let end = some-end s xs r (behind-line 0) fits is t.lowest (behind-line 1) b1 t.highest (behind-line 2) b2 t.threshold (behind-line 3) b3 t.margin_order (behind-line 4) b4 (length ys) (behind-line 5) b5
    (codes "end\n" ++ x) ys (record { long = refl; sound = also.sound })
    (ap (λ (l : List ℕ). l ++ x) (text-append (map input_line ys) (codes "end" ∷ [])) ∙ append_assoc (text_of (map input_line ys)) (codes "end\n") x) in
    record {
      low = (lowest-is s xs r (behind-line 0) fits is t.lowest (behind-line 1) b1).0;
      high = (highest-is s xs r (behind-line 0) fits is t.lowest (behind-line 1) b1 t.highest (behind-line 2) b2).0;
      most = (threshold-is s xs r (behind-line 0) fits is t.lowest (behind-line 1) b1 t.highest (behind-line 2) b2 t.threshold (behind-line 3) b3).0;
      margin = (margin-is s xs r (behind-line 0) fits is t.lowest (behind-line 1) b1 t.highest (behind-line 2) b2 t.threshold (behind-line 3) b3 t.margin_order (behind-line 4) b4).0;
      inputs = end.0;
      rest = append_cancel_left (codes "end\n") x r end.1;
    }
  where
    behind-line : ℕ → List ℕ
    behind-line k = text_of (drop k (tail_lines t ys)) ++ x

pub one-heading : (g h : Heading) (x y : List ℕ) → IsHeading g → IsHeading h → header_of g ++ x ≡ header_of h ++ y → (g ≡ h) × (x ≡ y)
one-heading g h x y fits_g fits_h is =
    let bytes = header_of g ++ x in
    let tail = text_of (tail_lines g.settings g.inputs) ++ x in
    let all = (codes "name " ++ g.settings.name) ∷ tail_lines g.settings g.inputs in
    let b1 : Begins FitsWord (numbered (codes "hats-journal ")) 10 bytes g.version (text_of all ++ x) = (omega (arith, fits_g.version), line-is (codes "hats-journal ") g.version all x) in
    let title = title-is h (header_of h) y bytes fits_h refl is g.version (text_of all ++ x) b1 in
    let b2 : Begins HasNoNewline (λ line. codes "name " ++ line) 10 (text_of all ++ x) g.settings.name tail =
    (name-line g.settings.name fits_g.name, append_assoc (codes "name " ++ g.settings.name) (10 ∷ text_of (tail_lines g.settings g.inputs)) x) in
    let named = same-name h (header_of h) y bytes fits_h refl is g.version (text_of all ++ x) b1 g.settings.name tail b2 in
    let same = one-tail h.settings g.settings h.inputs g.inputs y x
    (record { limits = fits_h.limits; count = fits_h.count; sound = fits_h.inputs }) (record { limits = fits_g.limits; count = fits_g.count; sound = fits_g.inputs }) named.1 in (
      λ k. record {
        version = title.0 k;
        settings = record { name = named.0 k; lowest = same.low k; highest = same.high k; threshold = same.most k; margin_order = same.margin k };
        inputs = same.inputs k;
      },
      same.rest,
    )

pub one-header : (a b x y : List ℕ) → IsHeader a → IsHeader b → a ++ x ≡ b ++ y → (a ≡ b) × (x ≡ y)
one-header a b x y (g, fits_g, is_g) (h, fits_h, is_h) is =
    let same = one-heading g h x y fits_g fits_h (ap (λ (l : List ℕ). l ++ x) (sym is_g) ∙ is ∙ ap (λ (l : List ℕ). l ++ y) is_h) in
    (is_g ∙ ap header_of same.0 ∙ sym is_h, same.1)
