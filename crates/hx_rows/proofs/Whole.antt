-- One read of a record takes the first of the records that are left, and leaves the others.
use Rattle.std.proofs.Common.{Bor, add-one, ◌≡◌, ◌==◌, ◌&&◌, ◌++◌, ◌+◌, if◌then◌else◌, Bool, ◌<◌, ◌≤◌, ◌∷◌, [], ◌∙◌, ℕ, zero, suc, List, length, Option, Some, None, refl, ap, true, false, arith, inl, inr}
use Rattle.std.proofs.lemmas.Bool.{cases_Bool}
use Rattle.csv.specs.Machine.{Read, next_record, step, in_field, start_field, start_record, after_end, ends_with, is_byte, is_end, ends_at_end, fields_after, field_after}
use Rattle.csv.specs.Reading.{NextIs, ReadRecord, Ready, ReadsNext, default_config, is_flexible, pending_of, records_from, records_next}
use Rattle.csv.specs.declared.reader.Reader.{Reader}
use Rattle.hx_rows.specs.Unread.{Stands, TakesNext, bytes_left}
use Rattle.csv.specs.declared.parser.Action.{Action}
use Rattle.csv.specs.declared.parser.Action.TheVariants as act
use Rattle.csv.specs.declared.parser.Config.{Config}
use Rattle.csv.specs.declared.parser.State.{State}
use Rattle.csv.specs.declared.parser.State.TheVariants as st
use Rattle.csv.specs.declared.parser.Terminator.{Terminator}
use Rattle.csv.specs.declared.parser.Terminator.TheVariants as term

-- a step that ends a record leaves a state in which the text may end
abbrev EndsBetween : State × Action → Type 0
EndsBetween x = is_end x.1 ≡ true → ends_at_end x.0 ≡ false

chosen : (b : Bool) (x y : State × Action) → EndsBetween x → EndsBetween y → EndsBetween (if b then x else y)
chosen true x y f g = f
chosen false x y f g = g

after-between : (t : Terminator) (c : ℕ) → ends_at_end (after_end t c) ≡ false
after-between term.CRLF c = elim (cases_Bool (c == 13)) [ inl e ↦ rw e refl | inr e ↦ rw e refl ]
after-between (term.Any t) c = refl

field-between : (cfg : Config) (c : ℕ) → EndsBetween (in_field cfg c)
field-between cfg c =
    chosen (c == cfg.delimiter) (st.StartField, act.EndField) _ (λ h. cc h) (chosen (ends_with cfg.terminator c) (after_end cfg.terminator c, act.EndRecord) (st.InField, act.Copy) (λ h. after-between cfg.terminator c) (λ h. cc h))

start_field-between : (cfg : Config) (c : ℕ) → EndsBetween (start_field cfg c)
start_field-between cfg c = chosen (cfg.quoting && (c == cfg.quote)) (st.InQuoted, act.Skip) (in_field cfg c) (λ h. cc h) (field-between cfg c)

start-between : (cfg : Config) (c : ℕ) → EndsBetween (start_record cfg c)
start-between cfg c =
    chosen (ends_with cfg.terminator c) (st.StartRecord, act.Skip) _ (λ h. cc)
    (chosen (is_byte cfg.comment c) (st.InComment, act.Skip) (start_field cfg c) (λ h. cc h) (start_field-between cfg c))

step-between : (cfg : Config) (s : State) (c : ℕ) → EndsBetween (step cfg s c)
step-between cfg st.StartRecord c = start-between cfg c
step-between cfg st.StartField c = start_field-between cfg c
step-between cfg st.InField c = field-between cfg c
step-between cfg st.InQuoted c =
    chosen (cfg.quoting && (c == cfg.quote)) (st.AfterQuote, act.Skip) _ (λ h. cc h)
    (chosen (cfg.quoting && is_byte cfg.escape c) (st.InEscape, act.Skip) (st.InQuoted, act.Copy) (λ h. cc h) (λ h. cc h))
step-between cfg st.InEscape c = λ h. cc h
step-between cfg st.AfterQuote c = chosen (cfg.quoting && cfg.double_quote && (c == cfg.quote)) (st.InQuoted, act.Copy) (in_field cfg c) (λ h. cc h) (field-between cfg c)
step-between cfg st.InComment c = chosen (c == 10) (st.StartRecord, act.Skip) (st.InComment, act.Skip) (λ h. cc) (λ h. cc h)
step-between cfg st.AfterCr c = chosen (c == 10) (st.StartRecord, act.Skip) (start_record cfg c) (λ h. cc) (start-between cfg c)

-- a record that was read leaves no more than it found, and ends where the text may end
leaves : (cfg : Config) (s : State) (fields : List (List ℕ)) (field xs : List ℕ) (p : Read) → next_record cfg s fields field xs ≡ Some p
    → (length p.2 ≤ length xs) × (ends_at_end p.1 ≡ false)
unfolding next_record
leaves cfg s fields field [] p h =
    elim (cases_Bool (ends_at_end s)) [
      | inl e ↦ let q : p ≡ (fields ++ (field ∷ []), st.StartRecord, []) = cc (rw e at h) in rw q (omega arith, refl)
      | inr e ↦ cc (rw e at h)
    ]
leaves cfg s fields field (c ∷ rest) p h =
    elim (cases_Bool (is_end (step cfg s c).1)) [
      | inl e ↦ let q : p ≡ (fields_after (step cfg s c).1 fields field, (step cfg s c).0, rest) = cc (rw e at h) in rw q (omega arith, step-between cfg s c e)
      | inr e ↦ let r = leaves cfg (step cfg s c).0 (fields_after (step cfg s c).1 fields field) (field_after (step cfg s c).1 c field) rest p (rw e at h) in (omega arith, r.1)
    ]

-- from between two records it takes a byte at least
takes : (cfg : Config) (s : State) (xs : List ℕ) (p : Read) → ends_at_end s ≡ false → next_record cfg s [] [] xs ≡ Some p → length p.2 < length xs
unfolding next_record
takes cfg s [] p between h = cc (rw between at h)
takes cfg s (c ∷ rest) p between h =
    elim (cases_Bool (is_end (step cfg s c).1)) [
      | inl e ↦ let q : p ≡ (fields_after (step cfg s c).1 [] [], (step cfg s c).0, rest) = cc (rw e at h) in rw q (omega arith)
      | inr e ↦ let r = leaves cfg (step cfg s c).0 (fields_after (step cfg s c).1 [] []) (field_after (step cfg s c).1 c []) rest p (rw e at h) in omega arith
    ]

-- with fuel enough, how much there is makes no difference
next-fuel : (cfg : Config) (n m : ℕ) (s : State) (xs : List ℕ)
    (more : (s2 : State) (ys : List ℕ) → length ys < n → length ys < m → ends_at_end s2 ≡ false → records_from cfg n s2 ys ≡ records_from cfg m s2 ys)
    (next : Option Read) → length xs < suc n → length xs < suc m → ends_at_end s ≡ false → next_record cfg s [] [] xs ≡ next
    → records_next (records_from cfg n) next ≡ records_next (records_from cfg m) next
next-fuel cfg n m s xs more None enough enough2 between h = refl
next-fuel cfg n m s xs more (Some p) enough enough2 between h =
    let shorter = takes cfg s xs p between h in
    ap (λ rest. p.0 ∷ rest) (more p.1 p.2 (omega arith) (omega arith) (leaves cfg s [] [] xs p h).1)

records_from-fuel : (cfg : Config) (n m : ℕ) (s : State) (xs : List ℕ) → length xs < n → length xs < m → ends_at_end s ≡ false → records_from cfg n s xs ≡ records_from cfg m s xs
unfolding records_from
records_from-fuel cfg zero m s xs enough enough2 between = absurd (omega arith)
records_from-fuel cfg (suc n) zero s xs enough enough2 between = absurd (omega arith)
records_from-fuel cfg (suc n) (suc m) s xs enough enough2 between =
    next-fuel cfg n m s xs (λ s2 ys. records_from-fuel cfg n m s2 ys) (next_record cfg s [] [] xs) enough enough2 between refl

-- what is left after a record was read
unfoldable pub Leaves : Config → State → List ℕ → List (List ℕ) → State → List ℕ → Type 0
Leaves cfg s xs fields s2 ys = (ends_at_end s2 ≡ false) × (records_from cfg (length xs + 1) s xs ≡ fields ∷ records_from cfg (length ys + 1) s2 ys)

pub next-true : (cfg : Config) (s s2 : State) (xs ys : List ℕ) (fields : List (List ℕ)) (next : Option Read) → ends_at_end s ≡ false
    → next_record cfg s [] [] xs ≡ next → NextIs next true fields s2 ys → Leaves cfg s xs fields s2 ys
unfolding Leaves records_from
next-true cfg s s2 xs ys fields None between h found = cc
next-true cfg s s2 xs ys fields (Some p) between h found =
    let left = leaves cfg s [] [] xs p h in
    let shorter = takes cfg s xs p between h in
    rw (found.1, found.2, found.3) (
      left.1,
      rw (add-one (length xs), h)
          (ap (λ rest. p.0 ∷ rest) (records_from-fuel cfg (length xs) (length p.2 + 1) p.1 p.2 shorter (omega arith) left.1)),
    )

next-false : (cfg : Config) (s s2 : State) (xs ys : List ℕ) (fields : List (List ℕ)) (next : Option Read)
    → next_record cfg s [] [] xs ≡ next → NextIs next false fields s2 ys → records_from cfg (length xs + 1) s xs ≡ []
unfolding records_from
next-false cfg s s2 xs ys fields None h found = rw (add-one (length xs), h) refl
next-false cfg s s2 xs ys fields (Some p) h found = cc

reads-true : (cfg : Config) (s s2 : State) (xs : List ℕ) (after : Option (List ℕ)) (fields : List (List ℕ)) → ends_at_end s ≡ false
    → ReadsNext cfg s (Some xs) after true fields s2 → (ys : List ℕ) × (after ≡ Some ys) × Leaves cfg s xs fields s2 ys
reads-true cfg s s2 xs None fields between h = absurd h
reads-true cfg s s2 xs (Some ys) fields between h = (ys, refl, next-true cfg s s2 xs ys fields (next_record cfg s [] [] xs) between refl h)

reads-false : (cfg : Config) (s s2 : State) (xs : List ℕ) (after : Option (List ℕ)) (fields : List (List ℕ))
    → ReadsNext cfg s (Some xs) after false fields s2 → records_from cfg (length xs + 1) s xs ≡ []
reads-false cfg s s2 xs None fields h = absurd h
reads-false cfg s s2 xs (Some ys) fields h = next-false cfg s s2 xs ys fields (next_record cfg s [] [] xs) refl h

-- what the crate says of a read, in terms of the records that are left
pub takes-next : (before after : Reader (Bor (List ℕ))) (fields : List (List ℕ)) (found : Bool) → Stands before
    → (found ≡ true → Ready after) → is_flexible after ≡ is_flexible before → ReadRecord (λ s. Some s.now) before after found fields → TakesNext found before after fields
unfolding Leaves
takes-next before after fields true stands ready flexible r =
    let (ys, pending, left) = reads-true default_config before.state after.state stands.left.0 (pending_of (Some after.rdr.now) after) fields stands.between (rw (stands.config, stands.left.1) at r.0) in
    let source : bytes_left after ≡ Some ys = rw r.1 pending in
    (record { trim = r.3 ∙ stands.trim; flexible = flexible ∙ stands.flexible; ready = ready refl; config = r.2 ∙ stands.config; between = left.0; left = (ys, source) }, rw (stands.left.1, source) left.1)
takes-next before after fields false stands ready flexible r =
    rw stands.left.1 (reads-false default_config before.state after.state stands.left.0 (pending_of (Some after.rdr.now) after) fields (rw (stands.config, stands.left.1) at r.0))
