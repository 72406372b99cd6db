use Rattle.std.proofs.Common.{◌≡◌, ℕ, ◌+◌, List, ◌++◌, length, Option, None, Ok, Err, refl, sym, ap, ◌∙◌, append_assoc, length-append, arith}
use Rattle.hx_thrift.specs.declared.refusal.ThriftRefusal.{ThriftRefusal}
use Rattle.hx_thrift.specs.Texts.{Text, Read, EndsWithin}
use Rattle.hx_thrift.specs.Kinds.{IsKind}
use Rattle.hx_thrift.specs.Values.{Value}
use Rattle.hx_thrift.specs.Reading.{varint_at, value_at}
use Rattle.hx_thrift.specs.Spelling.{Begins, BeginsVarint, refusal_of}
use Rattle.hx_thrift.proofs.Sound.{sound_varint, sound_value}
use Rattle.hx_thrift.proofs.Complete.{text_at, varint_read, value_read}
use Rattle.hx_thrift.proofs.laws.reading_is_spelling.Goals as goal

begins : (levels kind : ℕ) (text : Text) (value : Value levels) (rest : Text) → IsKind kind → value_at levels kind text ≡ Ok (value, rest) → Begins levels kind text value rest
begins levels kind text value rest is read =
    let taken = sound_value levels kind is text (value, rest) read in
    record { front = taken.front; spelled = taken.spelled_so; parts = taken.parts; place = taken.place }

reads : (levels kind : ℕ) (text : Text) (value : Value levels) (rest : Text) → Begins levels kind text value rest → value_at levels kind text ≡ Ok (value, rest)
reads levels kind text value rest begin =
    let whole = ap (λ (bytes : List ℕ). text_at text.at bytes) begin.parts in
    let end = ap (λ (at : ℕ). text_at at rest.bytes) (sym begin.place) in
    ap (value_at levels kind) whole ∙ value_read levels kind begin.front value begin.spelled text.at rest.bytes ∙ ap (λ (text : Text). Ok (value, text)) end

followed : (levels kind : ℕ) (text : Text) (value : Value levels) (rest : Text) (more : List ℕ) → Begins levels kind text value rest
    → Begins levels kind (text_at text.at (text.bytes ++ more)) value (text_at rest.at (rest.bytes ++ more))
followed levels kind text value rest more begin = record {
  front = begin.front;
  spelled = begin.spelled;
  parts = ap (λ (bytes : List ℕ). bytes ++ more) begin.parts ∙ append_assoc begin.front rest.bytes more;
  place = begin.place;
}

within : (levels kind : ℕ) (text : Text) (value : Value levels) (rest : Text) → Begins levels kind text value rest → EndsWithin text rest
within levels kind text value rest begin =
    let sum : length text.bytes ≡ length begin.front + length rest.bytes = ap length begin.parts ∙ length-append begin.front rest.bytes in
    record { later = omega (arith, begin.place); same_end = omega (arith, begin.place) }

abbrev none_of : Option ThriftRefusal
none_of = None

some_value : (levels kind : ℕ) (text : Text) (read : Read (Value levels)) → IsKind kind → value_at levels kind text ≡ read → refusal_of read ≡ none_of
    → (value : Value levels) × (rest : Text) × Begins levels kind text value rest
some_value levels kind text (Ok x) is read none = (x.0, x.1, begins levels kind text x.0 x.1 is read)
some_value levels kind text (Err refusal) is read none = absurd cc

pub returns-clause-read : goal.returns-clause-read
returns-clause-read c levels kind text value rest is = (reads levels kind text value rest, begins levels kind text value rest is)

pub returns-clause-refused : goal.returns-clause-refused
returns-clause-refused c levels kind text is = (
  some_value levels kind text (value_at levels kind text) is refl,
  λ begin. ap refusal_of (reads levels kind text begin.0 begin.1 begin.2),
)

pub returns-clause-followed : goal.returns-clause-followed
returns-clause-followed c levels kind text value rest more is read =
    reads levels kind (text_at text.at (text.bytes ++ more)) value (text_at rest.at (rest.bytes ++ more)) (followed levels kind text value rest more (begins levels kind text value rest is read))

pub returns-clause-within : goal.returns-clause-within
returns-clause-within c levels kind text value rest is read = within levels kind text value rest (begins levels kind text value rest is read)

pub returns-clause-varint : goal.returns-clause-varint
returns-clause-varint c text n rest = (
  λ begin.
      let whole = ap (λ (bytes : List ℕ). text_at text.at bytes) begin.parts in
      let end = ap (λ (at : ℕ). text_at at rest.bytes) (sym begin.place) in
      ap varint_at whole ∙ varint_read begin.front n begin.spelled text.at rest.bytes ∙ ap (λ (text : Text). Ok (n, text)) end,
  λ read. let taken = sound_varint text (n, rest) read in record { front = taken.front; spelled = taken.spelled_so; parts = taken.parts; place = taken.place },
)
