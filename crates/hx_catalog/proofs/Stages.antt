-- Properties as lines, read one after another.
use Rattle.std.proofs.Common.{◌≡◌, ◌==◌, ◌∙◌, ◌+◌, ◌-◌, ◌^◌, ◌++◌, ◌∷◌, ◌<◌, ◌≤◌, [], ℕ, Bool, true, false, List, codes, length, take, drop, get_or, sym, ap, arith, refl, inl, append-nil, append_assoc, take-append-drop}
use Rattle.std.proofs.Math.Bool.{not}
use Rattle.std.proofs.lemmas.Fmt.{decimal_injective}
use Rattle.std.proofs.lemmas.List.{length-append}
use Rattle.std.specs.Fmt.{decimal}
use Rattle.std.specs.List.{list_all}
use Rattle.hx_base.specs.Names.{IsName}
use Rattle.hx_catalog.specs.Fronts.{Begins, BeginsByNone, HasNoNewline, IsFrom}
use Rattle.hx_catalog.specs.Lines.{IsFirstBroken, field, text_of}
use Rattle.hx_catalog.specs.Properties.{AreProperties, IsKind, ArePropertyLines, format, kind_line, properties_text, property_lines}
use Rattle.hx_catalog.specs.declared.properties.Properties.{Properties}
use Rattle.hx_catalog.proofs.Digits.{all-digits}
use Rattle.hx_catalog.proofs.Fielded.{name-line}
use Rattle.hx_catalog.proofs.Texts.{AreLines, IsKind as IsKindOfText, IsLine, first-line, line-append, line-of-digits, line-tested, text-push}

-- one line more is written
pub line-written : (front : List (List ℕ)) (line old new : List ℕ) → old ≡ text_of front → new ≡ old ++ line ++ 10 ∷ [] → new ≡ text_of (front ++ line ∷ [])
line-written front line old new before is =
    is ∙ ap (λ (t : List ℕ). t ++ line ++ 10 ∷ []) before ∙ append_assoc (text_of front) line (10 ∷ []) ∙ text-push front line [] ∙ append-nil (text_of (front ++ line ∷ []))

-- lines in front of a rest
abbrev pub onto : List (List ℕ) → List ℕ → List ℕ
onto [] rest = rest
onto (line ∷ lines) rest = line ++ 10 ∷ onto lines rest

pub onto-text : (lines : List (List ℕ)) (rest : List ℕ) → onto lines rest ≡ text_of lines ++ rest
onto-text [] rest = refl
onto-text (line ∷ lines) rest = ap (λ (t : List ℕ). line ++ 10 ∷ t) (onto-text lines rest) ∙ sym (append_assoc line (10 ∷ text_of lines) rest)

front-of : (xs zs ys : List (List ℕ)) (l : List ℕ) → (xs ++ l ∷ []) ++ ys ≡ zs → (take (length xs) zs ≡ xs) × (get_or zs (length xs) [] ≡ l)
front-of [] [] ys l h = absurd (cc h)
front-of [] (z ∷ zs) ys l h = (refl, cc h)
front-of (x ∷ xs) [] ys l h = absurd (cc h)
front-of (x ∷ xs) (z ∷ zs) ys l h =
    let behind = front-of xs zs ys l (cc h) in
    let same : z ≡ x = cc h in
    (cc (same, behind.0), behind.1)

-- properties of which so many lines are read
pub record Stage (count : ℕ) (of : Properties) (text rest : List ℕ) : Type 0 where
  pub fits : AreProperties of
  pub form : text ≡ onto (take count (property_lines of)) rest

-- the next line breaks a rule, where none of properties that have the same lines before stands there
pub stage-broken : (count : ℕ) (of : Properties) (text rest : List ℕ) → count < 9 → length (take count (property_lines of)) ≡ count → Stage count of text rest
    → ((other : Properties) (more : List ℕ) → AreProperties other → take count (property_lines other) ≡ take count (property_lines of) → rest ≡ get_or (property_lines other) count [] ++ 10 ∷ more → ⊥)
    → IsFirstBroken ArePropertyLines text (length text - length rest)
stage-broken count of text rest few size stage none =
    let front = take count (property_lines of) in
    let form : text ≡ text_of front ++ rest = stage.form ∙ onto-text front rest in record {
      front = front;
      rest = rest;
      form = form;
      at = omega (arith, ap length form, length-append (text_of front) rest);
      sound = (drop count (property_lines of), (of, stage.fits, take-append-drop count (property_lines of)));
      broken = λ line more at sound.
          let other = sound.1.0 in
          let first = front-of front (property_lines other) sound.0 line sound.1.2 in
          none other more sound.1.1 (ap (λ (n : ℕ). take n (property_lines other)) (sym size) ∙ first.0)
          (at ∙ ap (λ (l : List ℕ). l ++ 10 ∷ more) (sym first.1 ∙ ap (λ (n : ℕ). get_or (property_lines other) n []) size));
      unfinished = λ end whole. let all : length front ≡ 9 = ap length whole.2 in omega (arith, all, size, few);
    }

-- behind the last line nothing may stand
pub end-broken : (of : Properties) (text rest : List ℕ) → Stage 9 of text rest → 0 < length rest → IsFirstBroken ArePropertyLines text (length text - length rest)
end-broken of text rest stage some =
    let front = property_lines of in
    let form : text ≡ text_of front ++ rest = stage.form ∙ onto-text front rest in record {
      front = front;
      rest = rest;
      form = form;
      at = omega (arith, ap length form, length-append (text_of front) rest);
      sound = ([], (of, stage.fits, append-nil front));
      broken = λ line more at sound. let many = ap length sound.1.2 in omega (arith, many, length-append (front ++ line ∷ []) sound.0);
      unfinished = λ end whole. omega (arith, some, ap length end);
    }

abbrev pub of-parts : List ℕ → Bool → ℕ → ℕ → ℕ → ℕ → ℕ → ℕ → Properties
of-parts name margin rows lowest highest threshold margin_order partitions = record {
  settings = record { name = name; lowest = lowest; highest = highest; threshold = threshold; margin_order = margin_order };
  margin = margin;
  rows = rows;
  partitions = partitions;
}

pub some-name : IsName (codes "a")
some-name = record {
  least = omega arith;
  most = omega arith;
  bytes = λ k d within. let e : k ≡ 0 = omega (arith, within) in rw e (inl (omega arith, omega arith));
  no_margin = λ ends. omega (arith, ap length ends.1, length-append ends.0 (codes "_margin"));
}

pub fits-parts : (name : List ℕ) (margin : Bool) (rows lowest highest threshold margin_order partitions : ℕ) → IsName name → rows < 2 ^ 64 → lowest ≤ highest → highest ≤ 20 → (1 ≤ threshold) × (threshold ≤ 1000000)
    → (highest < margin_order) × (margin_order ≤ 24) → partitions < 2 ^ 32 → AreProperties (of-parts name margin rows lowest highest threshold margin_order partitions)
fits-parts name margin rows lowest highest threshold margin_order partitions is few low high some order parts = record {
  name = is;
  limits = record { lowest = low; highest = high; margin_least = order.0; margin_most = order.1; threshold_least = some.0; threshold_most = some.1 };
  rows = few;
  partitions = parts;
}

-- What is read line after line; what isn't read yet is the least that fits, or the most where a later rule is looser by it.
abbrev pub read1 : Properties
read1 = of-parts (codes "a") false 0 0 20 1 24 0

abbrev pub read2 : List ℕ → Properties
read2 name = of-parts name false 0 0 20 1 24 0

abbrev pub read3 : List ℕ → Bool → Properties
read3 name margin = of-parts name margin 0 0 20 1 24 0

abbrev pub read4 : List ℕ → Bool → ℕ → Properties
read4 name margin rows = of-parts name margin rows 0 20 1 24 0

abbrev pub read5 : List ℕ → Bool → ℕ → ℕ → Properties
read5 name margin rows lowest = of-parts name margin rows lowest 20 1 24 0

abbrev pub read6 : List ℕ → Bool → ℕ → ℕ → ℕ → Properties
read6 name margin rows lowest highest = of-parts name margin rows lowest highest 1 24 0

abbrev pub read7 : List ℕ → Bool → ℕ → ℕ → ℕ → ℕ → Properties
read7 name margin rows lowest highest threshold = of-parts name margin rows lowest highest threshold 24 0

abbrev pub read8 : List ℕ → Bool → ℕ → ℕ → ℕ → ℕ → ℕ → Properties
read8 name margin rows lowest highest threshold margin_order = of-parts name margin rows lowest highest threshold margin_order 0

some-properties : AreProperties read1
some-properties = fits-parts (codes "a") false 0 0 20 1 24 0 some-name (omega arith) (omega arith) (omega arith) (omega arith, omega arith) (omega arith, omega arith) (omega arith)

zero-left : (n : ℕ) → n - n ≡ 0
zero-left n = omega arith

onto-push : (front : List (List ℕ)) (line rest : List ℕ) → onto front (line ++ 10 ∷ rest) ≡ onto (front ++ line ∷ []) rest
onto-push [] line rest = refl
onto-push (x ∷ xs) line rest = ap (λ (t : List ℕ). x ++ 10 ∷ t) (onto-push xs line rest)

pub one-more : (front : List (List ℕ)) (line text rest behind : List ℕ) → text ≡ onto front rest → rest ≡ line ++ 10 ∷ behind → text ≡ onto (front ++ line ∷ []) behind
one-more front line text rest behind is at = is ∙ ap (onto front) at ∙ onto-push front line behind

abbrev pub Number : List ℕ → ℕ → ℕ → List ℕ → ℕ → List ℕ → Type 0
Number key least most = Begins (IsFrom least most) (λ n. field key (decimal n)) 10

abbrev pub NoNumber : List ℕ → ℕ → ℕ → List ℕ → Type 0
NoNumber key least most = BeginsByNone (IsFrom least most) (λ n. field key (decimal n)) 10

module _ {text : List ℕ} where
  pub stage1 : {rest : List ℕ} → text ≡ codes "format=hats-profile-1\n" ++ rest → Stage 1 read1 text rest
  stage1 is = record { fits = some-properties; form = is }

  pub stage2 : {rest behind name value : List ℕ} → Stage 1 read1 text rest → (name ≡ value) × IsName value → Begins HasNoNewline (field (codes "name")) 10 rest value behind → Stage 2 (read2 name) text behind
  stage2 {rest} {behind} {name} {value} stage is line = record {
    fits = fits-parts name false 0 0 20 1 24 0 (rw is.0 is.1) (omega arith) (omega arith) (omega arith) (omega arith, omega arith) (omega arith, omega arith) (omega arith);
    form = rw is.0 (one-more (take 1 (property_lines read1)) (field (codes "name") value) text rest behind stage.form line.1);
  }

  pub stage3 : {rest behind name : List ℕ} {margin : Bool} → Stage 2 (read2 name) text rest → Begins IsKind kind_line 10 rest margin behind → Stage 3 (read3 name margin) text behind
  stage3 {rest} {behind} {name} {margin} stage line = record {
    fits = fits-parts name margin 0 0 20 1 24 0 stage.fits.name (omega arith) (omega arith) (omega arith) (omega arith, omega arith) (omega arith, omega arith) (omega arith);
    form = one-more (take 2 (property_lines (read2 name))) (kind_line margin) text rest behind stage.form line.1;
  }

  module _ {name : List ℕ} {margin : Bool} where
    pub stage4 : {rest behind : List ℕ} {rows : ℕ} → Stage 3 (read3 name margin) text rest → Number (codes "rows") 0 18446744073709551615 rest rows behind → Stage 4 (read4 name margin rows) text behind
    stage4 {rest} {behind} {rows} stage line =
        let fits = stage.fits in
        let limits = fits.limits in record {
          fits = fits-parts name margin rows 0 20 1 24 0 fits.name (omega arith) (omega arith) (omega arith) (omega arith, omega arith) (omega arith, omega arith) (omega arith);
          form = one-more (take 3 (property_lines (read3 name margin))) (field (codes "rows") (decimal rows)) text rest behind stage.form line.1;
        }

    pub stage5 : {rest behind : List ℕ} {rows lowest : ℕ} → Stage 4 (read4 name margin rows) text rest → Number (codes "lowest") 0 20 rest lowest behind → Stage 5 (read5 name margin rows lowest) text behind
    stage5 {rest} {behind} {rows} {lowest} stage line =
        let fits = stage.fits in
        let limits = fits.limits in record {
          fits = fits-parts name margin rows lowest 20 1 24 0 fits.name (omega arith) (omega arith) (omega arith) (omega arith, omega arith) (omega arith, omega arith) (omega arith);
          form = one-more (take 4 (property_lines (read4 name margin rows))) (field (codes "lowest") (decimal lowest)) text rest behind stage.form line.1;
        }

    pub stage6 : {rest behind : List ℕ} {rows lowest highest : ℕ} → Stage 5 (read5 name margin rows lowest) text rest → Number (codes "highest") lowest 20 rest highest behind → Stage 6 (read6 name margin rows lowest highest) text behind
    stage6 {rest} {behind} {rows} {lowest} {highest} stage line =
        let fits = stage.fits in
        let limits = fits.limits in record {
          fits = fits-parts name margin rows lowest highest 1 24 0 fits.name (omega arith) (omega arith) (omega arith) (omega arith, omega arith) (omega arith, omega arith) (omega arith);
          form = one-more (take 5 (property_lines (read5 name margin rows lowest))) (field (codes "highest") (decimal highest)) text rest behind stage.form line.1;
        }

    pub stage7 : {rest behind : List ℕ} {rows lowest highest threshold : ℕ} → Stage 6 (read6 name margin rows lowest highest) text rest → Number (codes "threshold") 1 1000000 rest threshold behind → Stage 7 (read7 name margin rows lowest highest threshold) text behind
    stage7 {rest} {behind} {rows} {lowest} {highest} {threshold} stage line =
        let fits = stage.fits in
        let limits = fits.limits in record {
          fits = fits-parts name margin rows lowest highest threshold 24 0 fits.name (omega arith) (omega arith) (omega arith) (omega arith, omega arith) (omega arith, omega arith) (omega arith);
          form = one-more (take 6 (property_lines (read6 name margin rows lowest highest))) (field (codes "threshold") (decimal threshold)) text rest behind stage.form line.1;
        }

    pub stage8 : {rest behind : List ℕ} {rows lowest highest threshold margin_order : ℕ} → Stage 7 (read7 name margin rows lowest highest threshold) text rest → Number (codes "margin_order") (highest + 1) 24 rest margin_order behind → Stage 8 (read8 name margin rows lowest highest threshold margin_order) text behind
    stage8 {rest} {behind} {rows} {lowest} {highest} {threshold} {margin_order} stage line =
        let fits = stage.fits in
        let limits = fits.limits in record {
          fits = fits-parts name margin rows lowest highest threshold margin_order 0 fits.name (omega arith) (omega arith) (omega arith) (omega arith, omega arith) (omega arith, omega arith) (omega arith);
          form = one-more (take 7 (property_lines (read7 name margin rows lowest highest threshold))) (field (codes "margin_order") (decimal margin_order)) text rest behind stage.form line.1;
        }

    pub stage9 : {rest behind : List ℕ} {rows lowest highest threshold margin_order partitions : ℕ} → Stage 8 (read8 name margin rows lowest highest threshold margin_order) text rest → Number (codes "partitions") 0 4294967295 rest partitions behind → Stage 9 (of-parts name margin rows lowest highest threshold margin_order partitions) text behind
    stage9 {rest} {behind} {rows} {lowest} {highest} {threshold} {margin_order} {partitions} stage line =
        let fits = stage.fits in
        let limits = fits.limits in record {
          fits = fits-parts name margin rows lowest highest threshold margin_order partitions fits.name (omega arith) (omega arith) (omega arith) (omega arith, omega arith) (omega arith, omega arith) (omega arith);
          form = one-more (take 8 (property_lines (read8 name margin rows lowest highest threshold margin_order))) (field (codes "partitions") (decimal partitions)) text rest behind stage.form line.1;
        }

  -- where none of a line stands there, it is broken
  pub broken1 : ((rest : List ℕ) → text ≡ codes "format=hats-profile-1\n" ++ rest → ⊥) → IsFirstBroken ArePropertyLines text 0
  broken1 none =
      let start : Stage 0 read1 text text = record { fits = some-properties; form = refl } in
      rw (zero-left (length text)) at (stage-broken 0 read1 text text (omega arith) refl start (λ other more fits same at. none more at))

  pub broken2 : {rest : List ℕ} → Stage 1 read1 text rest → BeginsByNone HasNoNewline (field (codes "name")) 10 rest → IsFirstBroken ArePropertyLines text (length text - length rest)
  broken2 {rest} stage none = stage-broken 1 read1 text rest (omega arith) refl stage (λ other more fits same at. none other.settings.name more (name-line other.settings.name fits.name) at)

  pub broken-name : {rest : List ℕ} (value behind : List ℕ) → Stage 1 read1 text rest → Begins HasNoNewline (field (codes "name")) 10 rest value behind → (IsName value → ⊥) → IsFirstBroken ArePropertyLines text (length text - length rest)
  broken-name {rest} value behind stage line none = stage-broken 1 read1 text rest (omega arith) refl stage
      (λ other more fits same at.
      let name = first-line value other.settings.name behind more line.0 (name-line other.settings.name fits.name) (cc (sym line.1 ∙ at)) in
      none (rw name.0 fits.name))

  pub broken3 : {rest name : List ℕ} → Stage 2 (read2 name) text rest → BeginsByNone IsKind kind_line 10 rest → IsFirstBroken ArePropertyLines text (length text - length rest)
  broken3 {rest} {name} stage none = stage-broken 2 (read2 name) text rest (omega arith) refl stage (λ other more fits same at. none other.margin more tt at)

  module _ {name : List ℕ} {margin : Bool} {rest : List ℕ} where
    pub broken4 : Stage 3 (read3 name margin) text rest → NoNumber (codes "rows") 0 18446744073709551615 rest → IsFirstBroken ArePropertyLines text (length text - length rest)
    broken4 stage none = stage-broken 3 (read3 name margin) text rest (omega arith) refl stage
        (λ other more fits same at. none other.rows more (omega arith, omega (arith, fits.rows)) at)

    pub broken5 : {rows : ℕ} → Stage 4 (read4 name margin rows) text rest → NoNumber (codes "lowest") 0 20 rest → IsFirstBroken ArePropertyLines text (length text - length rest)
    broken5 {rows} stage none = stage-broken 4 (read4 name margin rows) text rest (omega arith) refl stage
        (λ other more fits same at. none other.settings.lowest more (omega (arith, fits.limits), omega (arith, fits.limits)) at)

    pub broken6 : {rows lowest : ℕ} → Stage 5 (read5 name margin rows lowest) text rest → NoNumber (codes "highest") lowest 20 rest → IsFirstBroken ArePropertyLines text (length text - length rest)
    broken6 {rows} {lowest} stage none = stage-broken 5 (read5 name margin rows lowest) text rest (omega arith) refl stage
        (λ other more fits same at.
        let before : field (codes "lowest") (decimal other.settings.lowest) ≡ field (codes "lowest") (decimal lowest) = ap (λ (lines : List (List ℕ)). get_or lines 4 []) same in
        let number : other.settings.lowest ≡ lowest = decimal_injective other.settings.lowest lowest (omega (arith, fits.limits)) (omega (arith, stage.fits.limits)) (cc before) in
        none other.settings.highest more (omega (arith, fits.limits, number), omega (arith, fits.limits)) at)

    pub broken7 : {rows lowest highest : ℕ} → Stage 6 (read6 name margin rows lowest highest) text rest → NoNumber (codes "threshold") 1 1000000 rest → IsFirstBroken ArePropertyLines text (length text - length rest)
    broken7 {rows} {lowest} {highest} stage none = stage-broken 6 (read6 name margin rows lowest highest) text rest (omega arith) refl stage
        (λ other more fits same at. none other.settings.threshold more (omega (arith, fits.limits), omega (arith, fits.limits)) at)

    pub broken8 : {rows lowest highest threshold : ℕ} → Stage 7 (read7 name margin rows lowest highest threshold) text rest → NoNumber (codes "margin_order") (highest + 1) 24 rest → IsFirstBroken ArePropertyLines text (length text - length rest)
    broken8 {rows} {lowest} {highest} {threshold} stage none = stage-broken 7 (read7 name margin rows lowest highest threshold) text rest (omega arith) refl stage
        (λ other more fits same at.
        let before : field (codes "highest") (decimal other.settings.highest) ≡ field (codes "highest") (decimal highest) = ap (λ (lines : List (List ℕ)). get_or lines 5 []) same in
        let number : other.settings.highest ≡ highest = decimal_injective other.settings.highest highest (omega (arith, fits.limits)) (omega (arith, stage.fits.limits)) (cc before) in
        none other.settings.margin_order more (omega (arith, fits.limits, number), omega (arith, fits.limits)) at)

    pub broken9 : {rows lowest highest threshold margin_order : ℕ} → Stage 8 (read8 name margin rows lowest highest threshold margin_order) text rest → NoNumber (codes "partitions") 0 4294967295 rest → IsFirstBroken ArePropertyLines text (length text - length rest)
    broken9 {rows} {lowest} {highest} {threshold} {margin_order} stage none = stage-broken 8 (read8 name margin rows lowest highest threshold margin_order) text rest (omega arith) refl stage
        (λ other more fits same at. none other.partitions more (omega arith, omega (arith, fits.partitions)) at)

-- the properties of a text are one kind of text
property-lines : (of : Properties) → AreProperties of → AreLines (property_lines of)
property-lines of fits =
    let limits = fits.limits in (
      line-tested (field (codes "format") format) refl,
      (
        line-of (codes "name") of.settings.name refl (name-line of.settings.name fits.name),
        (
          kind-of-line of.margin,
          (
            line-of (codes "rows") (decimal of.rows) refl (number of.rows fits.rows),
            (
              line-of (codes "lowest") (decimal of.settings.lowest) refl (number of.settings.lowest (omega arith)),
              (
                line-of (codes "highest") (decimal of.settings.highest) refl (number of.settings.highest (omega arith)),
                (
                  line-of (codes "threshold") (decimal of.settings.threshold) refl (number of.settings.threshold (omega arith)),
                  (
                    line-of (codes "margin_order") (decimal of.settings.margin_order) refl (number of.settings.margin_order (omega arith)),
                    (
                      line-of (codes "partitions") (decimal of.partitions) refl (number of.partitions (omega (arith, fits.partitions))),
                      tt,
                    ),
                  ),
                ),
              ),
            ),
          ),
        ),
      ),
    )
  where
    number : (n : ℕ) → n < 2 ^ 64 → IsLine (decimal n)
    number n small = line-of-digits (decimal n) (all-digits n small)

    line-of : (key value : List ℕ) → list_all (λ byte. not (byte == 10)) key ≡ true → IsLine value → IsLine (field key value)
    line-of key value plain line = line-append key (61 ∷ value) (line-tested key plain) (λ e. absurd (omega (arith, e)), line)

    kind-of-line : (margin : Bool) → IsLine (kind_line margin)
    kind-of-line true = line-tested (kind_line true) refl
    kind-of-line false = line-tested (kind_line false) refl

same-kind : (a b : Bool) → kind_line a ≡ kind_line b → a ≡ b
same-kind true true h = refl
same-kind false false h = refl
same-kind true false h = let e : 109 ≡ 111 = ap (λ (l : List ℕ). get_or l 5 0) h in absurd (omega (arith, e))
same-kind false true h = let e : 111 ≡ 109 = ap (λ (l : List ℕ). get_or l 5 0) h in absurd (omega (arith, e))

pub properties-kind : IsKindOfText AreProperties property_lines
properties-kind = record {
  lines = property-lines;
  one = λ a b fits_a fits_b h.
      let line = λ (i : ℕ). ap (λ (lines : List (List ℕ)). get_or lines i []) h in
      let la = fits_a.limits in
      let lb = fits_b.limits in
      let name : a.settings.name ≡ b.settings.name = cc (line 1) in
      let margin = same-kind a.margin b.margin (line 2) in
      let rows = decimal_injective a.rows b.rows fits_a.rows fits_b.rows (cc (line 3)) in
      let lowest = decimal_injective a.settings.lowest b.settings.lowest (omega arith) (omega arith) (cc (line 4)) in
      let highest = decimal_injective a.settings.highest b.settings.highest (omega arith) (omega arith) (cc (line 5)) in
      let threshold = decimal_injective a.settings.threshold b.settings.threshold (omega arith) (omega arith) (cc (line 6)) in
      let margin_order = decimal_injective a.settings.margin_order b.settings.margin_order (omega arith) (omega arith) (cc (line 7)) in
      let partitions = decimal_injective a.partitions b.partitions (omega (arith, fits_a.partitions)) (omega (arith, fits_b.partitions)) (cc (line 8)) in
      same-parts name margin rows lowest highest threshold margin_order partitions;
}
  where
    same-parts : {n n' : List ℕ} {m m' : Bool} {r r' l l' h h' t t' o o' p p' : ℕ} → n ≡ n' → m ≡ m' → r ≡ r' → l ≡ l' → h ≡ h' → t ≡ t' → o ≡ o' → p ≡ p' → of-parts n m r l h t o p ≡ of-parts n' m' r' l' h' t' o' p'
    same-parts a b c d e f g h = rw (a, b, c, d, e, f, g, h) refl

-- nothing stands behind the last line
pub whole-read : (of : Properties) (text rest : List ℕ) → Stage 9 of text rest → length rest ≡ 0 → AreProperties of × (text ≡ properties_text of)
whole-read of text [] stage none = (stage.fits, stage.form ∙ onto-text (property_lines of) [] ∙ append-nil (properties_text of))
whole-read of text (byte ∷ rest) stage none = absurd (omega (arith, none))
