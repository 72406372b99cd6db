-- What the words of a line mean, over the inputs that they name.
use Rattle.std.proofs.Common.{◌*◌, ◌^◌, ◌≡◌, ◌<◌, ◌≤◌, ◌∷◌, [], ℕ, List, None, zero, suc, ◌+◌, ◌-◌, ap, arith, drop, get_or, length, refl, ◌∙◌, sym}
use Rattle.std.proofs.Math.Nat.{pow-le-pow_right}
use Rattle.std.proofs.lemmas.Fmt.{decimal_injective}
use Rattle.std.specs.Fmt.{decimal}
use Rattle.hx_words.specs.Requests.{AreNameAndFiles, IsRequest, IsSound, command_of, name_before}
use Rattle.std.proofs.lemmas.List.{length-drop}
use Rattle.std.specs.Prelude.{codes, slice_index_or}
use Rattle.hx_base.specs.Names.{IsName}
use Rattle.hx_words.proofs.OptionWords.{files_end, name_ends, number_is, one_reading, split_once, value_range}
use Rattle.hx_words.specs.Options.{AreRead, import_options, kept, number_of, plan_options}
use Rattle.hx_words.specs.Words.{AreFiles, AreInputNames, Around, Clean, Command, Histogram, Import, IsImportLine, IsMatchLine, IsPlanLine, Match, Means, Plan, files_of, most_radius, value_of}
use Rattle.hx_words.specs.declared.options.OptionName.{OptionName}
use Rattle.hx_words.specs.declared.options.OptionName.TheVariants as option
use Rattle.hx_words.specs.declared.options.Options.{Options}
use Rattle.hx_words.specs.declared.request.Action.{Action}
use Rattle.hx_words.specs.declared.request.Action.TheVariants as action
use Rattle.hx_words.specs.declared.request.Request.{Request}

pub same_order : (a b : ℕ) → a ≤ 29 → b ≤ 29 → decimal a ≡ decimal b → a ≡ b
same_order a b la lb is = decimal_injective a b (omega (arith, la)) (omega (arith, lb)) is

pub same_radius : (a b : ℕ) → a ≤ most_radius → b ≤ most_radius → decimal a ≡ decimal b → a ≡ b
same_radius a b la lb is = decimal_injective a b (omega (arith, la)) (omega (arith, lb)) is

-- the pixels of an order are few enough for 64 bits
pub within_words : (order : ℕ) → order ≤ 29 → 12 * 4 ^ order ≤ 12 * 4 ^ 29
within_words order h = let most = pow-le-pow_right {n = 4} (omega arith) {i = order} {j = 29} h in omega (arith, most)

-- a name that stands before the last words of a line
record StandsBefore (words : List (List ℕ)) (index : ℕ) (name : List ℕ) (files : List (List ℕ)) : Type 0 where
  pub within : index + 1 ≤ length words
  pub last : drop (index + 1) words ≡ files
  pub before : name_before words files ≡ name

drop_next : (words : List (List ℕ)) (index : ℕ) (name : List ℕ) (files : List (List ℕ)) → drop index words ≡ name ∷ files → drop (suc index) words ≡ files
drop_next [] zero name files is = cc is
drop_next (w ∷ words) zero name files is = cc is
drop_next [] (suc index) name files is = cc is
drop_next (w ∷ words) (suc index) name files is = drop_next words index name files is

first_behind : (words : List (List ℕ)) (index : ℕ) (name : List ℕ) (files : List (List ℕ)) → drop index words ≡ name ∷ files → slice_index_or words index [] ≡ name
first_behind [] zero name files is = cc is
first_behind (w ∷ words) zero name files is = cc is
first_behind [] (suc index) name files is = cc is
first_behind (w ∷ words) (suc index) name files is = first_behind words index name files is

name_and_files : (words : List (List ℕ)) (index : ℕ) (name : List ℕ) (files : List (List ℕ)) → drop index words ≡ name ∷ files → StandsBefore words index name files
name_and_files words index name files behind =
    let lengths = length-drop index words in
    let counted : length (drop index words) ≡ length files + 1 = rw behind (omega arith) in
    let within : index + 1 ≤ length words = omega (arith, lengths, counted) in
    let at : length words - length files - 1 ≡ index = omega (arith, lengths, counted, within) in
    let next : index + 1 ≡ suc index = omega arith in
    record { within = within; last = rw next (drop_next words index name files behind); before = rw at (first_behind words index name files behind) }

-- the first letter of a line, and of a command's word
abbrev letter_of : List (List ℕ) → ℕ
letter_of words = get_or (get_or words 0 []) 0 0

abbrev letter : Command → ℕ
letter (Histogram k files) = 104
letter (Plan l u t files) = 112
letter (Around k p) = 97
letter (Import l u t m name files) = 105
letter (Clean name) = 99
letter (Match left right radius output) = 120

begins : (words : List (List ℕ)) (c : Command) → Means words c → letter_of words ≡ letter c
begins words (Histogram k files) h = ap letter_of h.form
begins words (Plan l u t files) h = ap letter_of h.form
begins words (Around k p) h = ap letter_of h.form
begins words (Import l u t m name files) h = ap letter_of h.form
begins words (Clean name) h = ap letter_of h.form
begins words (Match left right radius output) h = ap letter_of h.form

one_letter : (words : List (List ℕ)) (a b : Command) → Means words a → Means words b → letter a ≡ letter b
one_letter words a b means other = sym (begins words a means) ∙ begins words b other

-- words have one meaning
pub one_meaning : (words : List (List ℕ)) (a b : Command) → Means words a → Means words b → a ≡ b
one_meaning words (Histogram k files) (Histogram k' files') a b =
    let order : decimal k ≡ decimal k' = cc (a.form, b.form) in
    let same : files ≡ files' = cc (a.form, b.form) in
    cc (same_order k k' a.in_range b.in_range order, same)
one_meaning words (Histogram k files) (Plan l' u' t' files') a b = absurd (omega (arith, one_letter words (Histogram k files) (Plan l' u' t' files') a b))
one_meaning words (Histogram k files) (Around k' p') a b = absurd (omega (arith, one_letter words (Histogram k files) (Around k' p') a b))
one_meaning words (Histogram k files) (Import l' u' t' m' name' files') a b = absurd (omega (arith, one_letter words (Histogram k files) (Import l' u' t' m' name' files') a b))
one_meaning words (Histogram k files) (Clean name') a b = absurd (omega (arith, one_letter words (Histogram k files) (Clean name') a b))
one_meaning words (Histogram k files) (Match left' right' radius' output') a b = absurd (omega (arith, one_letter words (Histogram k files) (Match left' right' radius' output') a b))
one_meaning words (Plan l u t files) (Histogram k' files') a b = absurd (omega (arith, one_letter words (Plan l u t files) (Histogram k' files') a b))
one_meaning words (Plan l u t files) (Plan l' u' t' files') a b =
    let one = split_once plan_options a.options b.options files files' a.sound b.sound (files_end files a.inputs) (files_end files' b.inputs) (cc (a.form, b.form)) in
    let value : (name : OptionName) → value_of name a.options ≡ value_of name b.options = λ name. ap (λ o. value_of name o) one.0 in
    cc (a.lowest_is ∙ value option.Lowest ∙ sym b.lowest_is, a.highest_is ∙ value option.Highest ∙ sym b.highest_is, a.threshold_is ∙ value option.Threshold ∙ sym b.threshold_is, one.1)
one_meaning words (Plan l u t files) (Around k' p') a b = absurd (omega (arith, one_letter words (Plan l u t files) (Around k' p') a b))
one_meaning words (Plan l u t files) (Import l' u' t' m' name' files') a b = absurd (omega (arith, one_letter words (Plan l u t files) (Import l' u' t' m' name' files') a b))
one_meaning words (Plan l u t files) (Clean name') a b = absurd (omega (arith, one_letter words (Plan l u t files) (Clean name') a b))
one_meaning words (Plan l u t files) (Match left' right' radius' output') a b = absurd (omega (arith, one_letter words (Plan l u t files) (Match left' right' radius' output') a b))
one_meaning words (Around k p) (Histogram k' files') a b = absurd (omega (arith, one_letter words (Around k p) (Histogram k' files') a b))
one_meaning words (Around k p) (Plan l' u' t' files') a b = absurd (omega (arith, one_letter words (Around k p) (Plan l' u' t' files') a b))
one_meaning words (Around k p) (Around k' p') a b =
    let order : decimal k ≡ decimal k' = cc (a.form, b.form) in
    let pixel : decimal p ≡ decimal p' = cc (a.form, b.form) in
    let bound = within_words k a.in_range in
    let bound' = within_words k' b.in_range in
    cc (same_order k k' a.in_range b.in_range order, decimal_injective p p' (omega (arith, a.there, bound)) (omega (arith, b.there, bound')) pixel)
one_meaning words (Around k p) (Import l' u' t' m' name' files') a b = absurd (omega (arith, one_letter words (Around k p) (Import l' u' t' m' name' files') a b))
one_meaning words (Around k p) (Clean name') a b = absurd (omega (arith, one_letter words (Around k p) (Clean name') a b))
one_meaning words (Around k p) (Match left' right' radius' output') a b = absurd (omega (arith, one_letter words (Around k p) (Match left' right' radius' output') a b))
one_meaning words (Import l u t m name files) (Histogram k' files') a b = absurd (omega (arith, one_letter words (Import l u t m name files) (Histogram k' files') a b))
one_meaning words (Import l u t m name files) (Plan l' u' t' files') a b = absurd (omega (arith, one_letter words (Import l u t m name files) (Plan l' u' t' files') a b))
one_meaning words (Import l u t m name files) (Around k' p') a b = absurd (omega (arith, one_letter words (Import l u t m name files) (Around k' p') a b))
one_meaning words (Import l u t m name files) (Import l' u' t' m' name' files') a b =
    let one = split_once import_options a.options b.options (name ∷ files) (name' ∷ files') a.sound b.sound (name_ends name files a.named) (name_ends name' files' b.named) (cc (a.form, b.form)) in
    let value : (name : OptionName) → value_of name a.options ≡ value_of name b.options = λ name. ap (λ o. value_of name o) one.0 in
    let same : name ≡ name' = cc one.1 in
    let inputs : files ≡ files' = cc one.1 in
    cc (
      a.lowest_is ∙ value option.Lowest ∙ sym b.lowest_is,
      a.highest_is ∙ value option.Highest ∙ sym b.highest_is,
      a.threshold_is ∙ value option.Threshold ∙ sym b.threshold_is,
      a.margin_order_is ∙ value option.MarginOrder ∙ sym b.margin_order_is,
      same,
      inputs,
    )
one_meaning words (Import l u t m name files) (Clean name') a b = absurd (omega (arith, one_letter words (Import l u t m name files) (Clean name') a b))
one_meaning words (Import l u t m name files) (Match left' right' radius' output') a b = absurd (omega (arith, one_letter words (Import l u t m name files) (Match left' right' radius' output') a b))
one_meaning words (Clean name) (Histogram k' files') a b = absurd (omega (arith, one_letter words (Clean name) (Histogram k' files') a b))
one_meaning words (Clean name) (Plan l' u' t' files') a b = absurd (omega (arith, one_letter words (Clean name) (Plan l' u' t' files') a b))
one_meaning words (Clean name) (Around k' p') a b = absurd (omega (arith, one_letter words (Clean name) (Around k' p') a b))
one_meaning words (Clean name) (Import l' u' t' m' name' files') a b = absurd (omega (arith, one_letter words (Clean name) (Import l' u' t' m' name' files') a b))
one_meaning words (Clean name) (Clean name') a b = cc (a.form, b.form)
one_meaning words (Clean name) (Match left' right' radius' output') a b = absurd (omega (arith, one_letter words (Clean name) (Match left' right' radius' output') a b))
one_meaning words (Match left right radius output) (Histogram k' files') a b = absurd (omega (arith, one_letter words (Match left right radius output) (Histogram k' files') a b))
one_meaning words (Match left right radius output) (Plan l' u' t' files') a b = absurd (omega (arith, one_letter words (Match left right radius output) (Plan l' u' t' files') a b))
one_meaning words (Match left right radius output) (Around k' p') a b = absurd (omega (arith, one_letter words (Match left right radius output) (Around k' p') a b))
one_meaning words (Match left right radius output) (Import l' u' t' m' name' files') a b = absurd (omega (arith, one_letter words (Match left right radius output) (Import l' u' t' m' name' files') a b))
one_meaning words (Match left right radius output) (Clean name') a b = absurd (omega (arith, one_letter words (Match left right radius output) (Clean name') a b))
one_meaning words (Match left right radius output) (Match left' right' radius' output') a b =
    let same : decimal radius ≡ decimal radius' = cc (a.form, b.form) in
    let chord : radius ≡ radius' = same_radius radius radius' a.in_range b.in_range same in
    let first : left ≡ left' = cc (a.form, b.form) in
    let second : right ≡ right' = cc (a.form, b.form) in
    let written : output ≡ output' = cc (a.form, b.form) in
    cc (first, second, chord, written)

sound : (words names : List (List ℕ)) (a : Action) → Means words (command_of a words names) → IsSound a words names
sound words names (action.Histogram order) h = record { in_range = h.in_range; files = h.inputs }
sound words names (action.Plan lowest highest threshold) h =
    let most = value_range plan_options h.options option.Threshold h.sound in record {
      order = h.order;
      in_range = rw h.highest_is (value_range plan_options h.options option.Highest h.sound);
      threshold_least = rw h.threshold_is most.0;
      threshold_most = rw h.threshold_is most.1;
      files = h.inputs;
    }
sound words names (action.Around order pixel) h = record { in_range = h.in_range; there = h.there }
sound words names (action.Import lowest highest threshold margin_order) h =
    let most = value_range import_options h.options option.Threshold h.sound in record {
      order = h.order;
      in_range = rw h.highest_is (value_range import_options h.options option.Highest h.sound);
      threshold_least = rw h.threshold_is most.0;
      threshold_most = rw h.threshold_is most.1;
      finer = h.finer;
      margin_most = rw h.margin_order_is (value_range import_options h.options option.MarginOrder h.sound);
      named = h.named;
      files = h.inputs;
    }
sound words names action.Clean h = h.named
sound words names (action.Match radius) h = record { left_named = h.left_named; right_named = h.right_named; in_range = h.in_range; output_named = h.output_named }

-- a request that the words make is one over the inputs' names
pub over_inputs : (words names : List (List ℕ)) (r : Request) → IsRequest words r → AreInputNames words names → Means words (command_of r.action words names) × IsSound r.action words names
over_inputs words names r h named =
    let last = drop r.files words in
    let same : names ≡ last = named.meant (command_of r.action words last) h.means ∙ h.inputs in
    (rw same h.means, rw same (sound words last r.action h.means))

-- the last words of a line are its inputs' names
pub files_named : (words : List (List ℕ)) (r : Request) → IsRequest words r → AreInputNames words (drop r.files words)
files_named words r h =
    let command = command_of r.action words (drop r.files words) in record {
      meant = λ other means. sym h.inputs ∙ ap files_of (one_meaning words command other h.means means);
      none = λ no. absurd (no command h.means);
    }

-- what a line `plan [OPTION]... FILE...` is, by the options that were read
module _ (before : Options) (none : (name : OptionName) → kept before name ≡ None) (line : List (List ℕ)) (after : Options) (count : ℕ) (read : AreRead plan_options before line after count) where
  abbrev lowest : ℕ
  lowest = number_of after option.Lowest

  abbrev highest : ℕ
  highest = number_of after option.Highest

  -- what it would ask for
  pub plan_line : (l u t : ℕ) (files : List (List ℕ)) → IsPlanLine (codes "plan" ∷ line) l u t files → (files ≡ drop count line) × (lowest ≤ highest)
  plan_line l u t files h =
      let one = one_reading plan_options before none line after count read h.options files (cc h.form) h.sound (files_end files h.inputs) in
      (one.0, omega (arith, h.order, h.lowest_is, h.highest_is, one.1 option.Lowest, one.1 option.Highest))

  pub plan_requested : (a : Action) → a ≡ action.Plan lowest highest (number_of after option.Threshold) → lowest ≤ highest → AreFiles (drop count line) → IsRequest (codes "plan" ∷ line) (record { action = a; files = count + 1 })
  plan_requested a is order files =
      let next : count + 1 ≡ suc count = omega arith in
      let value = number_is plan_options before none line after count read in
      let means : IsPlanLine (codes "plan" ∷ line) lowest highest (number_of after option.Threshold) (drop count line) = record {
        options = read.options;
        form = ap (λ (ws : List (List ℕ)). codes "plan" ∷ ws) read.further.form;
        sound = read.further.sound;
        lowest_is = value option.Lowest;
        highest_is = value option.Highest;
        threshold_is = value option.Threshold;
        order = order;
        inputs = files;
      } in record {
        within = omega (arith, read.within);
        means = rw (is, next) means;
        inputs = rw (is, next) refl;
      }

-- what a line `import [OPTION]... NAME FILE...` is, by the options that were read
module _ (before : Options) (none : (name : OptionName) → kept before name ≡ None) (line : List (List ℕ)) (after : Options) (count : ℕ) (read : AreRead import_options before line after count) where
  abbrev coarsest : ℕ
  coarsest = number_of after option.Lowest

  abbrev finest : ℕ
  finest = number_of after option.Highest

  abbrev margins : ℕ
  margins = number_of after option.MarginOrder

  -- what it would ask for
  pub import_line : (l u t m : ℕ) (name : List ℕ) (files : List (List ℕ)) → IsImportLine (codes "import" ∷ line) l u t m name files
      → AreNameAndFiles (drop count line) × (coarsest ≤ finest) × (finest < margins)
  import_line l u t m name files h =
      let one = one_reading import_options before none line after count read h.options (name ∷ files) (cc h.form) h.sound (name_ends name files h.named) in (
        (name, files, sym one.0, h.named, h.inputs),
        omega (arith, h.order, h.lowest_is, h.highest_is, one.1 option.Lowest, one.1 option.Highest),
        omega (arith, h.finer, h.margin_order_is, h.highest_is, one.1 option.MarginOrder, one.1 option.Highest),
      )

  pub import_requested : (a : Action) → a ≡ action.Import coarsest finest (number_of after option.Threshold) margins → coarsest ≤ finest → finest < margins → AreNameAndFiles (drop count line)
      → IsRequest (codes "import" ∷ line) (record { action = a; files = count + 2 })
  import_requested a is order finer (name, files, behind, named, inputs) =
      let value = number_is import_options before none line after count read in
      let words = codes "import" ∷ line in
      let next : count + 1 ≡ suc count = omega arith in
      let two : count + 2 ≡ count + 1 + 1 = omega arith in
      let at_files = name_and_files words (count + 1) name files (rw next behind) in
      let means : IsImportLine words coarsest finest (number_of after option.Threshold) margins name files = record {
        options = read.options;
        form = ap (λ (ws : List (List ℕ)). codes "import" ∷ ws) (rw behind at read.further.form);
        sound = read.further.sound;
        lowest_is = value option.Lowest;
        highest_is = value option.Highest;
        threshold_is = value option.Threshold;
        margin_order_is = value option.MarginOrder;
        order = order;
        finer = finer;
        named = named;
        inputs = inputs;
      } in record {
        within = omega (arith, at_files.within);
        means = rw (is, two, at_files.last, at_files.before) means;
        inputs = rw (is, two, at_files.last) refl;
      }

-- the third of four words is the radius
pub third_word : (line : List (List ℕ)) (a b c d : List ℕ) (left right : List ℕ) (radius : ℕ) (output : List ℕ) → line ≡ a ∷ b ∷ c ∷ d ∷ [] → IsMatchLine (codes "xmatch" ∷ line) left right radius output → c ≡ decimal radius
third_word line a b c d left right radius output are h =
    let four : line ≡ left ∷ right ∷ decimal radius ∷ output ∷ [] = cc h.form in
    let same : a ∷ b ∷ c ∷ d ∷ [] ≡ left ∷ right ∷ decimal radius ∷ output ∷ [] = sym are ∙ four in
    cc same

-- three names and a radius are what `xmatch` takes
pub match_requested : (line : List (List ℕ)) (left right digits output : List ℕ) (radius : ℕ) → line ≡ left ∷ right ∷ digits ∷ output ∷ [] → IsName left → IsName right → IsName output → radius ≤ most_radius → digits ≡ decimal radius
    → IsRequest (codes "xmatch" ∷ line) (record { action = action.Match radius; files = 5 })
match_requested line left right digits output radius are left_named right_named output_named range is =
    rw are (record {
      within = omega arith;
      means = record { form = rw is refl; left_named = left_named; right_named = right_named; in_range = range; output_named = output_named };
      inputs = refl;
    })
