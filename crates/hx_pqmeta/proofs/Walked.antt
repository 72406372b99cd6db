-- Walking through the entries of a struct, as a loop does.
use Rattle.std.proofs.Common.{◌≡◌, ℕ, zero, suc, ◌+◌, ◌<◌, inl, inr, List, [], ◌∷◌, ◌++◌, length, map, Result, Some, None, Ok, Err, refl, ap, append_assoc, arith, ℤ, pos}
use Rattle.std.proofs.lemmas.List.{append-nil, map-append}
use Rattle.hx_thrift.specs.declared.header.Field.{Field}
use Rattle.hx_thrift.specs.declared.refusal.ThriftRefusal.{ThriftRefusal}
use Rattle.hx_thrift.specs.declared.refusal.ThriftRefusal.TheVariants.{Short}
use Rattle.hx_thrift.specs.Texts.{Text, Read, read_as}
use Rattle.hx_thrift.specs.Values.{Entry, Node, entries}
use Rattle.hx_thrift.specs.Reading.{field_at, elements_at, entries_at, struct_at}
use Rattle.hx_pqmeta.specs.declared.refusal.PqRefusal.{PqRefusal}
use Rattle.hx_pqmeta.specs.declared.refusal.PqRefusal.TheVariants.{Thrift}
use Rattle.hx_pqmeta.specs.Fields.{entries_in}
use Rattle.hx_pqmeta.specs.Refusals.{place_of, placed}
use Rattle.hx_pqmeta.specs.Answers.{Refuses}

-- what was read before, and what is still read
abbrev pub with_front : {B : Type 0} → List B → Read (List B) → Read (List B)
with_front front read = read_as (λ others. front ++ others) read

over : {B : Type 0} (front : List B) (x : B) (read : Read (List B)) → with_front front (read_as (λ more. x ∷ more) read) ≡ with_front (front ++ x ∷ []) read
over {B = B} front x (Ok y) = ap (λ (xs : List B). Ok (xs, y.1)) (simp append_assoc)
over front x (Err refusal) = refl

pub from_first : {B : Type 0} (read : Read (List B)) → with_front [] read ≡ read
from_first (Ok y) = refl
from_first (Err refusal) = refl

pub placed_refusal : {A : Type 0} (read : Result A ThriftRefusal) (refusal : ThriftRefusal) → read ≡ Err refusal → placed read ≡ Err (Thrift (place_of refusal))
placed_refusal read refusal is = rw is refl

pub refusal_placed : {A : Type 0} (read : Result A ThriftRefusal) (refusal : PqRefusal) → placed read ≡ Err refusal
    → (first : ThriftRefusal) × (read ≡ Err first) × (refusal ≡ Thrift (place_of first))
refusal_placed (Ok x) refusal is = absurd cc
refusal_placed (Err first) refusal is = (first, refl, cc)

-- a part's refusal is that of the whole
pub refused_part : {A B : Type 0} (wants : Type 0) (refusal : PqRefusal) (part : Read A) (whole : Read B) → Refuses wants refusal part
    → ((first : ThriftRefusal) → part ≡ Err first → whole ≡ Err first) → Refuses wants refusal whole
refused_part wants refusal part whole (inl want) leads = inl want
refused_part wants refusal part whole (inr is) leads =
    let first = refusal_placed part refusal is in
    inr (rw first.2 (placed_refusal whole first.0 (leads first.0 first.1)))

-- ---- entries

pub next_entry : {A : Type 0} (read : ℕ → Text → Read A) (n less : ℕ) (last next : ℤ) (text body after : Text) (field : Field) (value : A) (front : List (Entry A))
    → next ≡ field.id → field_at last text ≡ Ok (Some field, body) → read field.kind body ≡ Ok (value, after) → n ≡ less + 1
    → with_front front (entries_at read n last text) ≡ with_front (front ++ record { id = field.id; kind = field.kind; value = value } ∷ []) (entries_at read less next after)
unfolding entries_at
next_entry read zero less last next text body after field value front id header part count = absurd (omega arith)
next_entry read (suc n) less last next text body after field value front id header part count =
    let same : n ≡ less = omega arith in
    rw (header, part, same, id) (over front (record { id = field.id; kind = field.kind; value = value }) (entries_at read less field.id after))

pub refused_value : {A : Type 0} (read : ℕ → Text → Read A) (n : ℕ) (last : ℤ) (text body : Text) (field : Field) (refusal : ThriftRefusal) (front : List (Entry A))
    → field_at last text ≡ Ok (Some field, body) → 0 < n → read field.kind body ≡ Err refusal → with_front front (entries_at read n last text) ≡ Err refusal
unfolding entries_at
refused_value read zero last text body field refusal front header count part = absurd (omega arith)
refused_value read (suc n) last text body field refusal front header count part = rw (header, part) refl

pub refused_header : {A : Type 0} (read : ℕ → Text → Read A) (n : ℕ) (last : ℤ) (text : Text) (refusal : ThriftRefusal) (front : List (Entry A))
    → field_at last text ≡ Err refusal → 0 < n → with_front front (entries_at read n last text) ≡ Err refusal
unfolding entries_at
refused_header read zero last text refusal front header count = absurd (omega arith)
refused_header read (suc n) last text refusal front header count = rw header refl

pub at_stop : {A : Type 0} (read : ℕ → Text → Read A) (n : ℕ) (last : ℤ) (text after : Text) (front : List (Entry A))
    → field_at last text ≡ Ok (None, after) → 0 < n → with_front front (entries_at read n last text) ≡ Ok (front, after)
unfolding entries_at
at_stop read zero last text after front header count = absurd (omega arith)
at_stop {A = A} read (suc n) last text after front header count = rw header (ap (λ (es : List (Entry A)). Ok (es, after)) (append-nil front))

pub at_end : {A : Type 0} (read : ℕ → Text → Read A) (n : ℕ) (last : ℤ) (text : Text) (front : List (Entry A)) → n ≡ 0
    → with_front front (entries_at read n last text) ≡ Err (Short text.at)
unfolding entries_at
at_end read zero last text front count = refl
at_end read (suc n) last text front count = absurd (omega arith)

pub no_entries : {A : Type 0} (read : ℕ → Text → Read A) (text : Text) → with_front [] (entries_at read (length text.bytes) (pos 0) text) ≡ struct_at read text
unfolding struct_at
no_entries read text = from_first (entries_at read (length text.bytes) (pos 0) text)

-- ---- structs one after another

pub next_element : {B : Type 0} (read : Text → Read B) (n less : ℕ) (text after : Text) (x : B) (front : List B) → read text ≡ Ok (x, after) → n ≡ less + 1
    → with_front front (elements_at read n text) ≡ with_front (front ++ x ∷ []) (elements_at read less after)
unfolding elements_at
next_element read zero less text after x front part count = absurd (omega arith)
next_element read (suc n) less text after x front part count =
    let same : n ≡ less = omega arith in
    rw (part, same) (over front x (elements_at read less after))

pub refused_element : {B : Type 0} (read : Text → Read B) (n : ℕ) (text : Text) (refusal : ThriftRefusal) (front : List B) → 0 < n → read text ≡ Err refusal
    → with_front front (elements_at read n text) ≡ Err refusal
unfolding elements_at
refused_element read zero text refusal front count part = absurd (omega arith)
refused_element read (suc n) text refusal front count part = rw part refl

pub no_more : {B : Type 0} (read : Text → Read B) (n : ℕ) (text : Text) (front : List B) → n ≡ 0 → with_front front (elements_at read n text) ≡ Ok (front, text)
unfolding elements_at
no_more {B = B} read zero text front count = ap (λ (xs : List B). Ok (xs, text)) (append-nil front)
no_more read (suc n) text front count = absurd (omega arith)

-- what is kept of a list after one more struct
pub one_more : {A T : Type 0} (said : List (Entry A) → T) (kept : List T) (xs : List (Node A)) (t : T) (es : List (Entry A)) → kept ≡ map said (map entries_in xs) → t ≡ said es
    → kept ++ t ∷ [] ≡ map said (map entries_in (xs ++ entries es ∷ []))
one_more said kept xs t es so_far is =
    rw (map-append entries_in xs (entries es ∷ []), map-append said (map entries_in xs) (es ∷ []), so_far, is) refl

-- where memory may be wanted, more may be refused
pub wanting : {B : Type 0} (wants : Type 0) (refusal : PqRefusal) (read : Read B) → Refuses wants refusal read → Refuses (Unit {0}) refusal read
wanting wants refusal read (inl want) = inl (tt, want.1)
wanting wants refusal read (inr is) = inr is
