-- What one more entry changes in the fields of a struct.
use Rattle.std.proofs.Common.{◌≡◌, ℕ, suc, pos, to_z, List, [], ◌∷◌, ◌++◌, cond, Option, Some, None, Result, Ok, Err, of_z, refl, sym, ap, ◌∙◌}
use Rattle.std.specs.Option.{option_or, option_map, IsSomeAnd}
use Rattle.hx_thrift.specs.Texts.{Text}
use Rattle.hx_thrift.specs.declared.refusal.ThriftRefusal.{ThriftRefusal}
use Rattle.hx_thrift.specs.declared.header.Field.{Field}
use Rattle.hx_pqmeta.specs.declared.refusal.PqRefusal.{PqRefusal}
use Rattle.hx_pqmeta.specs.Answers.{Gives, Adds}
use Rattle.hx_pqmeta.proofs.Walked.{refused_part}
use Rattle.hx_thrift.specs.Values.{Entry, Value, entries}
use Rattle.hx_thrift.specs.Reading.{struct_at, container_at, value_at}
use Rattle.std.specs.Int.{w16}
use Rattle.std.specs.Int.RustNames.{FitsSigned}
use Rattle.std.proofs.lemmas.Int.{to_z-of_z}
use Rattle.hx_pqmeta.specs.Fields.{is_entry, last}

or_none : {B : Type 0} (x : Option B) → x ≡ option_or x None
or_none None = refl
or_none (Some x) = refl

or_or : {B : Type 0} (x y z : Option B) → option_or (option_or x y) z ≡ option_or x (option_or y z)
or_or None y z = refl
or_or (Some x) y z = refl

pub last_more : {A B : Type 0} (held : A → Option B) (id kind : ℕ) (es : List (Entry A)) (e : Entry A)
    → last held id kind (es ++ e ∷ []) ≡ option_or (cond (is_entry id kind e.id e.kind) (held e.value) None) (last held id kind es)
unfolding last
last_more held id kind [] e = or_none (cond (is_entry id kind e.id e.kind) (held e.value) None)
last_more held id kind (x ∷ es) e =
    rw (last_more held id kind es e) (or_or (cond (is_entry id kind e.id e.kind) (held e.value) None) (last held id kind es) (cond (is_entry id kind x.id x.kind) (held x.value) None))

-- ---- fields that may be absent

pub map_or : {A B : Type 0} (f : A → B) (x y : Option A) → option_map f (option_or x y) ≡ option_or (option_map f x) (option_map f y)
map_or f None y = refl
map_or f (Some x) y = refl

-- ---- a field that is a struct

pub struct_value : (levels : ℕ) (text rest : Text) (es : List (Entry (Value levels))) → struct_at (value_at levels) text ≡ Ok (es, rest) → value_at (suc levels) 12 text ≡ Ok (entries es, rest)
unfolding value_at container_at
struct_value levels text rest es read = rw read refl

pub refused_struct : (levels : ℕ) (text : Text) (refusal : ThriftRefusal) → struct_at (value_at levels) text ≡ Err refusal → value_at (suc levels) 12 text ≡ Err refusal
unfolding value_at container_at
refused_struct levels text refusal read = rw read refl

-- what is read of a struct, as a value
pub struct_given : {X : Type 0} (levels : ℕ) (wants : Type 0) (said : List (Entry (Value levels)) → X) (result : Result X PqRefusal) (old new : Text) → Gives wants new result (struct_at (value_at levels) old) (λ fields es. fields ≡ said es)
    → Gives wants new result (value_at (suc levels) 12 old) (λ fields value. (es : List (Entry (Value levels))) × (value ≡ entries es) × (fields ≡ said es))
struct_given levels wants said (Ok fields) old new given = (entries given.0, struct_value levels old new given.0 given.1, (given.0, refl, given.2))
struct_given levels wants said (Err refusal) old new given = refused_part wants refusal (struct_at (value_at levels) old) (value_at (suc levels) 12 old) given (refused_struct levels old)

-- ---- one more entry, by its id and kind as a match compares them

-- of a field
pub adds : (levels id kind : ℕ) {S : Type 0} (said : List (Entry (Value levels)) → S) {s t : S} (old new : Text) (field : Field) → FitsSigned w16 field.id → to_z w16 (of_z w16 (pos id)) ≡ pos id
    → of_z w16 field.id ≡ of_z w16 (pos id) → field.kind ≡ kind
    → (y : Value levels) × (value_at levels kind old ≡ Ok (y, new)) × ((es : List (Entry (Value levels))) → s ≡ said es → t ≡ said (es ++ record { id = pos id; kind = kind; value = y } ∷ []))
    → (y : Value levels) × (value_at levels field.kind old ≡ Ok (y, new)) × Adds said s t (record { id = field.id; kind = field.kind; value = y })
adds levels id kind said old new field fits whole same kind_is given =
    let id_is : field.id ≡ pos id = sym (to_z-of_z w16 field.id fits) ∙ ap (to_z w16) same ∙ whole in
    (given.0, rw kind_is given.1, λ es so_far. rw (id_is, kind_is) (given.2 es so_far))

-- of a field whose value is a number or a binary
pub adds_some : (levels id kind : ℕ) {X S : Type 0} (make : X → Value levels) (said : List (Entry (Value levels)) → S) {found : Option X} {s t : S} (old new : Text) (field : Field) → FitsSigned w16 field.id → to_z w16 (of_z w16 (pos id)) ≡ pos id
    → of_z w16 field.id ≡ of_z w16 (pos id) → field.kind ≡ kind → (y : Value levels) × (value_at levels kind old ≡ Ok (y, new)) × IsSomeAnd found (λ x. y ≡ make x)
    → ((x : X) → found ≡ Some x → (es : List (Entry (Value levels))) → s ≡ said es → t ≡ said (es ++ record { id = pos id; kind = kind; value = make x } ∷ []))
    → (y : Value levels) × (value_at levels field.kind old ≡ Ok (y, new)) × Adds said s t (record { id = field.id; kind = field.kind; value = y })
adds_some levels id kind {X = X} make said {found = found} old new field fits whole same kind_is given tells =
    let some = of_some make found given.0 given.2 in
    adds levels id kind said old new field fits whole same kind_is (given.0, given.1, λ es so_far. rw some.2 (tells some.0 some.1 es so_far)) where
      of_some : {X Y : Type 0} (make : X → Y) (found : Option X) (y : Y) → IsSomeAnd found (λ x. y ≡ make x) → (x : X) × (found ≡ Some x) × (y ≡ make x)
      of_some make None y is = absurd is
      of_some make (Some x) y is = (x, refl, is)
