-- Lists of partitions as lines.
use Rattle.std.proofs.Common.{◌≡◌, ◌∙◌, ◌+◌, ◌-◌, ◌^◌, ◌++◌, ◌∷◌, ◌<◌, ◌≤◌, [], suc, ℕ, List, length, map, take, get_or, sym, ap, refl, arith, inl, inr, codes, append-nil, append_assoc}
use Rattle.std.proofs.Math.Nat.{pow-le-pow_right}
use Rattle.std.proofs.Math.Seq.{get_or-append_seam}
use Rattle.std.proofs.lemmas.Bool.{cases_lt}
use Rattle.std.proofs.lemmas.Fmt.{decimal_injective}
use Rattle.std.proofs.lemmas.List.{get_or_append_left, length-append, length_push, map_push, take_more}
use Rattle.std.proofs.lemmas.List.Elements.{All-push}
use Rattle.std.proofs.lemmas.List.Quantifiers.{all_pairs_push}
use Rattle.std.specs.Fmt.{decimal}
use Rattle.std.specs.List.{All, AllPairs}
use Rattle.hx_base.specs.declared.pixel.Pixel.{Pixel}
use Rattle.hx_base.specs.Limits.{highest_order, most_partitions}
use Rattle.hx_base.specs.Pixels.{AreDisjoint, IsPixel, end_position, first_position}
use Rattle.hx_base.proofs.Ranges.{ascend, disjoint_where_ascending, some_range}
use Rattle.hx_catalog.specs.Fronts.{BeginsByNone}
use Rattle.hx_catalog.specs.Lines.{IsFirstBroken, text_of}
use Rattle.hx_catalog.specs.Lists.{AreListLines, IsList, IsPixelOfLine, MayFollow, header, list_lines, list_text, pixel_line}
use Rattle.hx_catalog.proofs.Digits.{all-digits, one-number}
use Rattle.hx_catalog.proofs.Texts.{AreLines, IsKind, line-append, line-of-digits, line-tested, text-push}

front-all : {X : Type 0} (P : X → Type 0) (xs ys : List X) → All P (xs ++ ys) → All P xs
front-all P xs ys all = λ k d within. rw (get_or_append_left xs ys d k within) at (all k d (omega (arith, within, length-append xs ys)))

front-pairs : {X : Type 0} (R : X → X → Type 0) (xs ys : List X) → AllPairs R (xs ++ ys) → AllPairs R xs
front-pairs R xs ys all = λ i j d lt within.
    let low : i < length xs = omega (arith, lt, within) in
    rw (get_or_append_left xs ys d i low, get_or_append_left xs ys d j within) at (all i j d lt (omega (arith, within, length-append xs ys)))

-- the front of a list of partitions is one
pub front-list : (xs ys : List Pixel) → IsList (xs ++ ys) → IsList xs
front-list xs ys list = record {
  most = omega (arith, list.most, length-append xs ys);
  orders = front-all (λ pixel. pixel.order ≤ highest_order) xs ys list.orders;
  disjoint = record {
    each = front-all IsPixel xs ys list.disjoint.each;
    disjoint = front-pairs AreDisjoint xs ys list.disjoint.disjoint;
    ordered = front-pairs (λ a b. first_position a < first_position b) xs ys list.disjoint.ordered;
  };
}

-- the pixel of a line has a number that fits a word
of-line : (pixel : Pixel) → pixel.order ≤ highest_order → IsPixel pixel → IsPixelOfLine pixel
of-line pixel low exists =
    let power = pow-le-pow_right {n = 4} (omega arith) {i = pixel.order} {j = 29} exists.order in
    record { order = low; number = omega (arith, power, exists.number) }

-- each of a list
abbrev AreOfLines : List Pixel → Type 0
AreOfLines [] = Unit {0}
AreOfLines (pixel ∷ pixels) = IsPixelOfLine pixel × AreOfLines pixels

pub are-of-lines : (pixels : List Pixel) → IsList pixels → AreOfLines pixels
are-of-lines pixels list = each pixels list.orders list.disjoint.each
  where
    each : (xs : List Pixel) → All (λ pixel. pixel.order ≤ highest_order) xs → All IsPixel xs → AreOfLines xs
    each [] orders exist = tt
    each (x ∷ xs) orders exist =
        (of-line x (orders 0 x (omega arith)) (exist 0 x (omega arith)), each xs (λ k d within. orders (suc k) d (omega (arith, within))) (λ k d within. exist (suc k) d (omega (arith, within))))

abbrev at-order : ℕ → ℕ → Pixel
at-order k p = record { order = k; number = p }

made : (a b : Pixel) → a.order ≡ b.order → a.number ≡ b.number → a ≡ b
made a b order number = ap (λ (k : ℕ). at-order k a.number) order ∙ ap (λ (p : ℕ). at-order b.order p) number

-- two pixels of a line are one
same-pixel : (a b : Pixel) → IsPixelOfLine a → IsPixelOfLine b → pixel_line a ≡ pixel_line b → a ≡ b
same-pixel a b fits_a fits_b h =
    let order = one-number a.order b.order 44 (decimal a.number) (decimal b.number) (omega (arith, fits_a.order)) (omega (arith, fits_b.order)) (omega arith) h in
    let number : a.number ≡ b.number = decimal_injective a.number b.number fits_a.number fits_b.number order.1 in
    made a b order.0 number

same-pixels : (xs ys : List Pixel) → AreOfLines xs → AreOfLines ys → map pixel_line xs ≡ map pixel_line ys → xs ≡ ys
same-pixels [] [] fx fy h = refl
same-pixels [] (y ∷ ys) fx fy h = absurd (cc h)
same-pixels (x ∷ xs) [] fx fy h = absurd (cc h)
same-pixels (x ∷ xs) (y ∷ ys) fx fy h = cc (same-pixel x y fx.0 fy.0 (cc h), same-pixels xs ys fx.1 fy.1 (cc h))

pixel-lines : (xs : List Pixel) → AreOfLines xs → AreLines (map pixel_line xs)
pixel-lines [] fits = tt
pixel-lines (x ∷ xs) fits =
    let order = line-of-digits (decimal x.order) (all-digits x.order (omega (arith, fits.0.order))) in
    let number = line-of-digits (decimal x.number) (all-digits x.number fits.0.number) in
    (line-append (decimal x.order) (44 ∷ decimal x.number) order (λ e. absurd (omega (arith, e)), number), pixel-lines xs fits.1)

pub list-kind : IsKind IsList list_lines
list-kind = record {
  lines = λ pixels list. (line-tested header refl, pixel-lines pixels (are-of-lines pixels list));
  one = λ a b list_a list_b h. same-pixels a b (are-of-lines a list_a) (are-of-lines b list_b) (cc h);
}

-- where lines go on behind those of pixels, more pixels do
goes-on : (xs ys : List Pixel) (line : List ℕ) (more : List (List ℕ)) → AreOfLines xs → AreOfLines ys → map pixel_line xs ++ line ∷ more ≡ map pixel_line ys
    → (next : Pixel) × (rest : List Pixel) × (ys ≡ xs ++ next ∷ rest) × (line ≡ pixel_line next)
goes-on [] [] line more fx fy h = absurd (cc h)
goes-on [] (y ∷ ys) line more fx fy h = (y, ys, refl, cc h)
goes-on (x ∷ xs) [] line more fx fy h = absurd (cc h)
goes-on (x ∷ xs) (y ∷ ys) line more fx fy h =
    let same = same-pixel x y fx.0 fy.0 (cc h) in
    let behind = goes-on xs ys line more fx.1 fy.1 (cc h) in
    (behind.0, behind.1, cc (same, behind.2), behind.3)

-- the line behind those of a list breaks a rule, where no pixel with which the list goes on stands there
pub list-broken : (pixels : List Pixel) (text rest : List ℕ) → IsList pixels → text ≡ list_text pixels ++ rest → 0 < length rest → BeginsByNone (MayFollow pixels) pixel_line 10 rest
    → IsFirstBroken AreListLines text (length text - length rest)
list-broken pixels text rest list is some none = record {
  front = list_lines pixels;
  rest = rest;
  form = is;
  at = omega (arith, ap length is, length-append (list_text pixels) rest);
  sound = ([], (pixels, list, append-nil (list_lines pixels)));
  broken = λ line more at sound.
      let further = sound.1.0 in
      let whole : list_lines pixels ++ line ∷ sound.0 ≡ list_lines further = sym (append_assoc (list_lines pixels) (line ∷ []) sound.0) ∙ sound.1.2 in
      let next = goes-on pixels further line sound.0 (are-of-lines pixels list) (are-of-lines further sound.1.1) (cc whole) in
      let longer : IsList ((pixels ++ next.0 ∷ []) ++ next.1) = rw (append_assoc pixels (next.0 ∷ []) next.1) (rw next.2 at sound.1.1) in
      none next.0 more (front-list (pixels ++ next.0 ∷ []) next.1 longer) (rw next.3 at at);
  unfinished = λ end _. omega (arith, some, ap length end);
}

-- no pixel at all
pub no-pixels : IsList []
no-pixels = record { most = omega arith; orders = λ k d within. absurd (omega (arith, within)); disjoint = record { each = λ k d within. absurd (omega (arith, within)); disjoint = λ i j d lt within. absurd (omega (arith, within)); ordered = λ i j d lt within. absurd (omega (arith, within)) } }

-- nor does a text begin as a list that doesn't begin with its header
pub header-broken : (text : List ℕ) → ((rest : List ℕ) → text ≡ (codes "Norder,Npix\n") ++ rest → ⊥) → IsFirstBroken AreListLines text 0
header-broken text none = record {
  front = [];
  rest = text;
  form = refl;
  at = refl;
  sound = (header ∷ [], ([], no-pixels, refl));
  broken = λ line more at sound. let first : line ≡ header = cc sound.1.2 in none more (rw first at at);
  unfinished = λ end whole. cc whole.2;
}

-- a list goes on with a pixel that fits, exists and begins where all before it have ended
pub follows : (pixels : List Pixel) (pixel : Pixel) → IsList pixels → length pixels < most_partitions → pixel.order ≤ highest_order → IsPixel pixel
    → All (λ earlier. end_position earlier ≤ first_position pixel) pixels → MayFollow pixels pixel
follows pixels pixel list few low exists ended = record {
  most = omega (arith, length_push pixels pixel);
  orders = All-push (λ p. p.order ≤ highest_order) pixels pixel list.orders low;
  disjoint = disjoint_where_ascending (pixels ++ pixel ∷ []) (All-push IsPixel pixels pixel list.disjoint.each exists)
      (all_pairs_push (λ a b. end_position a ≤ first_position b) pixels pixel (ascend pixels list.disjoint) ended);
}

-- and with no other
pub record Follows (pixels : List Pixel) (pixel : Pixel) : Type 0 where
  pub few : length pixels < most_partitions
  pub low : pixel.order ≤ highest_order
  pub exists : IsPixel pixel
  pub ended : All (λ earlier. end_position earlier ≤ first_position pixel) pixels

pub must-follow : (pixels : List Pixel) (pixel : Pixel) → MayFollow pixels pixel → Follows pixels pixel
must-follow pixels pixel list =
    let size = length_push pixels pixel in
    let last : get_or (pixels ++ pixel ∷ []) (length pixels) pixel ≡ pixel = get_or-append_seam pixels pixel [] pixel in record {
      few = omega (arith, list.most, size);
      low = rw last at (list.orders (length pixels) pixel (omega (arith, size)));
      exists = rw last at (list.disjoint.each (length pixels) pixel (omega (arith, size)));
      ended = λ k d within.
          let up = ascend (pixels ++ pixel ∷ []) list.disjoint k (length pixels) d within (omega (arith, size)) in
          rw (get_or_append_left pixels (pixel ∷ []) d k within, get_or-append_seam pixels pixel [] d) at up;
    }

-- all pixels of a list end before another begins where the last does
pub last-ends : (pixels : List Pixel) (last pixel : Pixel) → IsList pixels → ((d : Pixel) → last ≡ get_or pixels (length pixels - 1) d) → end_position last ≤ first_position pixel
    → All (λ earlier. end_position earlier ≤ first_position pixel) pixels
last-ends pixels last pixel list is ended = λ k d within.
    elim (cases_lt k (length pixels - 1)) [
      | inl before ↦
          let up : end_position (get_or pixels k d) ≤ first_position last = rw (is d) (ascend pixels list.disjoint k (length pixels - 1) d before (omega (arith, within))) in
          omega (arith, up, some_range last, ended)
      | inr at ↦ let e : k ≡ length pixels - 1 = omega (arith, within, at) in rw (e, ← is d) ended
    ]

-- one pixel more
list-push : (pixels : List Pixel) (pixel : Pixel) → list_lines (pixels ++ pixel ∷ []) ≡ list_lines pixels ++ pixel_line pixel ∷ []
list-push pixels pixel = ap (λ (lines : List (List ℕ)). header ∷ lines) (map_push pixel_line pixels pixel)

pub list-next : (pixels : List Pixel) (pixel : Pixel) (text rest behind : List ℕ) → text ≡ list_text pixels ++ rest → rest ≡ pixel_line pixel ++ 10 ∷ behind
    → text ≡ list_text (pixels ++ pixel ∷ []) ++ behind
list-next pixels pixel text rest behind is at =
    is ∙ ap (λ (t : List ℕ). list_text pixels ++ t) at ∙ text-push (list_lines pixels) (pixel_line pixel) behind
    ∙ ap (λ (lines : List (List ℕ)). text_of lines ++ behind) (sym (list-push pixels pixel))

pub list-written : (pixels : List Pixel) (i : ℕ) (d : Pixel) (old new : List ℕ) → i < length pixels → old ≡ list_text (take i pixels) → new ≡ old ++ pixel_line (get_or pixels i d) ++ 10 ∷ []
    → new ≡ list_text (take (i + 1) pixels)
list-written pixels i d old new within before is =
    let front = take i pixels in
    let pixel = get_or pixels i d in
    let more : take (i + 1) pixels ≡ front ++ pixel ∷ [] = take_more pixels i d within in
    is ∙ ap (λ (t : List ℕ). t ++ pixel_line pixel ++ 10 ∷ []) before ∙ append_assoc (list_text front) (pixel_line pixel) (10 ∷ []) ∙ text-push (list_lines front) (pixel_line pixel) []
    ∙ append-nil (text_of (list_lines front ++ pixel_line pixel ∷ [])) ∙ ap text_of (sym (list-push front pixel)) ∙ ap list_text (sym more)

-- the order of the pixel at the front of a text, and what follows it
pub order-first : (text rest more : List ℕ) (order : ℕ) (pixel : Pixel) → order < 2 ^ 64 → text ≡ decimal order ++ 44 ∷ rest → IsPixelOfLine pixel → text ≡ pixel_line pixel ++ 10 ∷ more
    → (order ≡ pixel.order) × (rest ≡ decimal pixel.number ++ 10 ∷ more)
order-first text rest more order pixel fits is line at =
    one-number order pixel.order 44 rest (decimal pixel.number ++ 10 ∷ more) fits (omega (arith, line.order)) (omega arith)
    (sym is ∙ at ∙ append_assoc (decimal pixel.order) (44 ∷ decimal pixel.number) (10 ∷ more))

-- one pixel stands there
pub one-pixel : (text rest more : List ℕ) (a b : Pixel) → IsPixelOfLine a → text ≡ pixel_line a ++ 10 ∷ rest → IsPixelOfLine b → text ≡ pixel_line b ++ 10 ∷ more → a ≡ b
one-pixel text rest more a b line_a at_a line_b at_b =
    let order = order-first text (decimal a.number ++ 10 ∷ rest) more a.order b (omega (arith, line_a.order)) (at_a ∙ append_assoc (decimal a.order) (44 ∷ decimal a.number) (10 ∷ rest)) line_b at_b in
    let number = one-number a.number b.number 10 rest more line_a.number line_b.number (omega arith) order.1 in
    made a b order.0 number.0

-- a pixel with which a list goes on can stand in a line
pub next-of-line : (pixels : List Pixel) (pixel : Pixel) → MayFollow pixels pixel → IsPixelOfLine pixel
next-of-line pixels pixel list = let next = must-follow pixels pixel list in of-line pixel next.low next.exists
