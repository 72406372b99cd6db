-- Where the text goes on behind parts that are read one after another.
use Rattle.std.proofs.Common.{◌≡◌, ℕ, zero, suc, ◌+◌, ◌-◌, ◌<◌, ◌≤◌, ℤ, List, ◌∷◌, false, eqb, Some, None, Result, Ok, Err, refl, sym, ap, ◌∙◌, arith}
use Rattle.std.proofs.lemmas.Bool.{lt-ltb, le-ltb}
use Rattle.std.proofs.lemmas.Bool.Decides.{nat_tests}
use Rattle.hx_thrift.specs.declared.header.Field.{Field}
use Rattle.hx_thrift.specs.declared.header.ListHead.{ListHead}
use Rattle.hx_thrift.specs.declared.refusal.ThriftRefusal.{ThriftRefusal}
use Rattle.hx_thrift.specs.declared.refusal.ThriftRefusal.TheVariants.{Short, TooDeep}
use Rattle.hx_thrift.specs.Texts.{Text, Read, read_as, rest_of}
use Rattle.hx_thrift.specs.Kinds.{part_kind}
use Rattle.hx_thrift.specs.Values.{Entry, leaf, elements, pairs, entries}
use Rattle.hx_thrift.specs.Reading.{field_at, list_at, elements_at, entries_at, struct_at, sequence_at, pair_at, map_at, leaf_at, container_at, value_at}

pub ok_of_rest : {A : Type 0} (read : Read A) (rest : Text) → rest_of read ≡ Ok rest → (x : A) × (read ≡ Ok (x, rest))
ok_of_rest (Ok x) rest is =
    let same : x.1 ≡ rest = cc in
    (x.0, ap (λ (text : Text). Ok (x.0, text)) same)
ok_of_rest (Err refusal) rest is = absurd cc

pub err_of_rest : {A : Type 0} (read : Read A) (refusal : ThriftRefusal) → rest_of read ≡ Err refusal → read ≡ Err refusal
err_of_rest (Ok x) refusal is = absurd cc
err_of_rest (Err other) refusal is = cc

pub rest_of-read_as : {A B : Type 0} (make : A → B) (read : Read A) → rest_of (read_as make read) ≡ rest_of read
rest_of-read_as make (Ok x) = refl
rest_of-read_as make (Err refusal) = refl

-- ---- so many values; all is what the first of them begins

pub next_element : {A : Type 0} (read : Text → Read A) (n left : ℕ) (text rest : Text) (all : Result Text ThriftRefusal) → rest_of (read text) ≡ Ok rest → n ≡ left + 1
    → rest_of (elements_at read n text) ≡ all → rest_of (elements_at read left rest) ≡ all
unfolding elements_at
next_element read zero left text rest all part count so_far = absurd (omega arith)
next_element read (suc n) left text rest all part count so_far =
    let same : left ≡ n = omega arith in
    let first = ok_of_rest (read text) rest part in
    rw same (sym (rest_of-read_as (λ others. first.0 ∷ others) (elements_at read n rest)) ∙ (rw first.1 at so_far))

pub refused_element : {A : Type 0} (read : Text → Read A) (n : ℕ) (text : Text) (refusal : ThriftRefusal) (all : Result Text ThriftRefusal) → rest_of (read text) ≡ Err refusal → 0 < n
    → rest_of (elements_at read n text) ≡ all → all ≡ Err refusal
unfolding elements_at
refused_element read zero text refusal all part some so_far = absurd (omega arith)
refused_element read (suc n) text refusal all part some so_far = sym so_far ∙ rw (err_of_rest (read text) refusal part) refl

pub all_elements : {A : Type 0} (read : Text → Read A) (n : ℕ) (text : Text) (all : Result Text ThriftRefusal) → n ≡ 0 → rest_of (elements_at read n text) ≡ all → all ≡ Ok text
unfolding elements_at
all_elements read zero text all none so_far = sym so_far
all_elements read (suc n) text all none so_far = absurd (omega arith)

pub behind_list_head : {A : Type 0} (read : ℕ → Text → Read A) (text rest : Text) (head : ListHead) → list_at text ≡ Ok (head, rest)
    → rest_of (sequence_at read text) ≡ rest_of (elements_at (read (part_kind head.kind)) head.size rest)
unfolding sequence_at
behind_list_head read text rest head is = rw is (rest_of-read_as (λ xs. (head.kind, xs)) (elements_at (read (part_kind head.kind)) head.size rest))

pub no_list_head : {A : Type 0} (read : ℕ → Text → Read A) (text : Text) (refusal : ThriftRefusal) → list_at text ≡ Err refusal → rest_of (sequence_at read text) ≡ Err refusal
unfolding sequence_at
no_list_head read text refusal is = rw is refl

-- ---- the entries of a struct; all is what the first of them begins

pub next_entry : {A : Type 0} (read : ℕ → Text → Read A) (n left : ℕ) (last next : ℤ) (text body rest : Text) (field : Field) (all : Result Text ThriftRefusal)
    → field_at last text ≡ Ok (Some field, body) → next ≡ field.id → rest_of (read field.kind body) ≡ Ok rest → n ≡ left + 1
    → rest_of (entries_at read n last text) ≡ all → rest_of (entries_at read left next rest) ≡ all
unfolding entries_at
next_entry read zero left last next text body rest field all header id part count so_far = absurd (omega arith)
next_entry {A = A} read (suc n) left last next text body rest field all header id part count so_far =
    let same : left ≡ n = omega arith in
    let value = ok_of_rest (read field.kind body) rest part in
    let entry = λ (others : List (Entry A)). record { id = field.id; kind = field.kind; value = value.0 } ∷ others in
    rw (same, id) (sym (rest_of-read_as entry (entries_at read n field.id rest)) ∙ (rw (header, value.1) at so_far))

pub refused_value : {A : Type 0} (read : ℕ → Text → Read A) (n : ℕ) (last : ℤ) (text body : Text) (field : Field) (refusal : ThriftRefusal) (all : Result Text ThriftRefusal)
    → field_at last text ≡ Ok (Some field, body) → rest_of (read field.kind body) ≡ Err refusal → 0 < n
    → rest_of (entries_at read n last text) ≡ all → all ≡ Err refusal
unfolding entries_at
refused_value read zero last text body field refusal all header part some so_far = absurd (omega arith)
refused_value read (suc n) last text body field refusal all header part some so_far = sym so_far ∙ rw (header, err_of_rest (read field.kind body) refusal part) refl

pub refused_header : {A : Type 0} (read : ℕ → Text → Read A) (n : ℕ) (last : ℤ) (text : Text) (refusal : ThriftRefusal) (all : Result Text ThriftRefusal)
    → field_at last text ≡ Err refusal → 0 < n → rest_of (entries_at read n last text) ≡ all → all ≡ Err refusal
unfolding entries_at
refused_header read zero last text refusal all header some so_far = absurd (omega arith)
refused_header read (suc n) last text refusal all header some so_far = sym so_far ∙ rw header refl

pub at_stop : {A : Type 0} (read : ℕ → Text → Read A) (n : ℕ) (last : ℤ) (text rest : Text) (all : Result Text ThriftRefusal)
    → field_at last text ≡ Ok (None, rest) → 0 < n → rest_of (entries_at read n last text) ≡ all → all ≡ Ok rest
unfolding entries_at
at_stop read zero last text rest all header some so_far = absurd (omega arith)
at_stop read (suc n) last text rest all header some so_far = sym so_far ∙ rw header refl

pub no_stop : {A : Type 0} (read : ℕ → Text → Read A) (n : ℕ) (last : ℤ) (text : Text) (all : Result Text ThriftRefusal) → n ≡ 0
    → rest_of (entries_at read n last text) ≡ all → all ≡ Err (Short text.at)
unfolding entries_at
no_stop read zero last text all none so_far = sym so_far
no_stop read (suc n) last text all none so_far = absurd (omega arith)

-- ---- a pair

pub behind_key : {A : Type 0} (read : ℕ → Text → Read A) (key value : ℕ) (text rest : Text) → rest_of (read (part_kind key) text) ≡ Ok rest
    → rest_of (pair_at read key value text) ≡ rest_of (read (part_kind value) rest)
unfolding pair_at
behind_key read key value text rest part =
    let k = ok_of_rest (read (part_kind key) text) rest part in
    rw k.1 (rest_of-read_as (λ v. (k.0, v)) (read (part_kind value) rest))

pub refused_key : {A : Type 0} (read : ℕ → Text → Read A) (key value : ℕ) (text : Text) (refusal : ThriftRefusal) → rest_of (read (part_kind key) text) ≡ Err refusal
    → rest_of (pair_at read key value text) ≡ Err refusal
unfolding pair_at
refused_key read key value text refusal part = rw (err_of_rest (read (part_kind key) text) refusal part) refl

-- ---- a value, by its kind

pub of_leaf : (levels kind : ℕ) (text : Text) → kind < 9 → rest_of (value_at levels kind text) ≡ rest_of (leaf_at kind text)
unfolding value_at
of_leaf zero kind text small = rw (lt-ltb kind 9 small) (rest_of-read_as leaf (leaf_at kind text))
of_leaf (suc levels) kind text small = rw (lt-ltb kind 9 small) (rest_of-read_as leaf (leaf_at kind text))

pub too_deep : (levels kind : ℕ) (text : Text) → 9 ≤ kind → levels ≡ 0 → rest_of (value_at levels kind text) ≡ Err (TooDeep text.at)
unfolding value_at
too_deep zero kind text great none = rw (le-ltb kind 9 great) refl
too_deep (suc levels) kind text great none = absurd (omega arith)

pub of_struct : (levels kind : ℕ) (text : Text) → kind ≡ 12 → (levels ≡ 0 → ⊥) → rest_of (value_at levels kind text) ≡ rest_of (struct_at (value_at (levels - 1)) text)
unfolding value_at container_at
of_struct zero kind text is some = absurd (some refl)
of_struct (suc levels) kind text is some =
    let less : suc levels - 1 ≡ levels = omega arith in
    rw (is, less) (rest_of-read_as entries (struct_at (value_at levels) text))

pub of_map : (levels kind : ℕ) (text : Text) → kind ≡ 11 → (levels ≡ 0 → ⊥) → rest_of (value_at levels kind text) ≡ rest_of (map_at (value_at (levels - 1)) text)
unfolding value_at container_at
of_map zero kind text is some = absurd (some refl)
of_map (suc levels) kind text is some =
    let less : suc levels - 1 ≡ levels = omega arith in
    rw (is, less) (rest_of-read_as pairs (map_at (value_at levels) text))

pub of_sequence : (levels kind : ℕ) (text : Text) → 9 ≤ kind → (kind ≡ 12 → ⊥) → (kind ≡ 11 → ⊥) → (levels ≡ 0 → ⊥)
    → rest_of (value_at levels kind text) ≡ rest_of (sequence_at (value_at (levels - 1)) text)
unfolding value_at container_at
of_sequence zero kind text great no_struct no_map some = absurd (some refl)
of_sequence (suc levels) kind text great no_struct no_map some =
    let less : suc levels - 1 ≡ levels = omega arith in
    let other : eqb kind 12 ≡ false = grind (arith, nat_tests) in
    let another : eqb kind 11 ≡ false = grind (arith, nat_tests) in
    rw (le-ltb kind 9 great, other, another, less) (rest_of-read_as (λ x. elements x.0 x.1) (sequence_at (value_at levels) text))
