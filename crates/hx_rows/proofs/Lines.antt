-- Lines of plain text: fields of bytes above the comma, with a comma between two, up to a line feed.
use Rattle.std.proofs.Common.{◌≡◌, ◌++◌, ◌+◌, ◌-◌, ◌<◌, ◌≤◌, ◌∷◌, ◌∙◌, [], ℕ, List, Bor, Some, Ok, Err, arith, ap, drop, get_or, length, map, refl, take, suc, add-one, append-nil, drop-cons, length-drop}
use Rattle.std.proofs.lemmas.Bool.{ne_eqb}
use Rattle.std.proofs.lemmas.List.{drop_all, get_or-drop, map_push, take_all, take_more}
use Rattle.std.specs.List.{AllByRecursion}
use Rattle.hx_rows.specs.Csv.{columns_of, csv_rows, row_of_record, table_rows}
use Rattle.hx_rows.specs.Rows.{fault_number, rows_from}
use Rattle.hx_rows.specs.declared.fault.Fault.{Fault}
use Rattle.csv.specs.Machine.{Runs, next_record, step}
use Rattle.csv.specs.Reading.{default_config, records_from, strip_bom}
use Rattle.csv.specs.declared.parser.Action.TheVariants as act
use Rattle.csv.specs.declared.parser.State.TheVariants as st
use Rattle.csv.proofs.ReadFacts.{part-rest, run-copies}
use Rattle.hx_rows.specs.Unread.{unread_from}
use Rattle.hx_rows.proofs.Whole.{Leaves, next-true}

abbrev pub AboveComma : List ℕ → Type 0
AboveComma run = AllByRecursion (λ byte. 44 < byte) run

pub above-push : (run : List ℕ) (byte : ℕ) → AboveComma run → 44 < byte → AboveComma (run ++ byte ∷ [])
above-push [] byte all above = (above, tt)
above-push (b ∷ run) byte all above = (all.0, above-push run byte all.1 above)

-- such a byte joins the field at hand, and begins one
joins : (byte : ℕ) → 44 < byte → step default_config st.InField byte ≡ (st.InField, act.Copy)
joins byte above = rw (ne_eqb byte 44 (λ e. omega (arith, e)), ne_eqb byte 13 (λ e. omega (arith, e)), ne_eqb byte 10 (λ e. omega (arith, e))) refl

begins : (byte : ℕ) → 44 < byte → step default_config st.StartField byte ≡ (st.InField, act.Copy)
begins byte above = rw (ne_eqb byte 34 (λ e. omega (arith, e))) (joins byte above)

all-join : (run : List ℕ) → AboveComma run → Runs default_config st.InField run
unfolding Runs
all-join [] all = tt
all-join (b ∷ run) all = (joins b all.0, all-join run all.1)

-- a field and its comma
pub field-comma : (fields : List (List ℕ)) (run rest : List ℕ) → AboveComma run
    → next_record default_config st.StartField fields [] (run ++ 44 ∷ rest) ≡ next_record default_config st.StartField (fields ++ run ∷ []) [] rest
unfolding next_record
field-comma fields [] rest all = refl
field-comma fields (b ∷ run) rest all =
    rw (begins b all.0) (run-copies default_config st.InField fields (b ∷ []) run (44 ∷ rest) (all-join run all.1))

-- the last field of a line and its line feed
pub field-line : (fields : List (List ℕ)) (run rest : List ℕ) → AboveComma run
    → next_record default_config st.StartField fields [] (run ++ 10 ∷ rest) ≡ Some (fields ++ run ∷ [], st.StartRecord, rest)
unfolding next_record
field-line fields [] rest all = refl
field-line fields (b ∷ run) rest all =
    rw (begins b all.0) (run-copies default_config st.InField fields (b ∷ []) run (10 ∷ rest) (all-join run all.1))

-- the last field of a text
field-last : (fields : List (List ℕ)) (run : List ℕ) → 0 < length run → AboveComma run
    → next_record default_config st.StartField fields [] run ≡ Some (fields ++ run ∷ [], st.StartRecord, [])
unfolding next_record
field-last fields [] some all = absurd (omega (arith, some))
field-last fields (b ∷ run) some all =
    let copied = run-copies default_config st.InField fields (b ∷ []) run [] (all-join run all.1) in
    rw (begins b all.0) (rw (append-nil run) at copied)

-- a line that isn't blank begins by a field
pub line-begins : (byte : ℕ) (rest : List ℕ) → (byte ≡ 10 → ⊥) → (byte ≡ 13 → ⊥)
    → next_record default_config st.StartRecord [] [] (byte ∷ rest) ≡ next_record default_config st.StartField [] [] (byte ∷ rest)
unfolding next_record
line-begins byte rest no_line no_return = rw (ne_eqb byte 13 no_return, ne_eqb byte 10 no_line) refl

-- a record that was read is the first of those that were left
pub line-taken : (text rest : List ℕ) (fields : List (List ℕ)) → next_record default_config st.StartRecord [] [] text ≡ Some (fields, st.StartRecord, rest)
    → unread_from st.StartRecord (Some text) ≡ fields ∷ unread_from st.StartRecord (Some rest)
unfolding Leaves
line-taken text rest fields is =
    (next-true default_config st.StartRecord st.StartRecord text rest fields (Some (fields, st.StartRecord, rest)) refl is (refl, refl, refl, refl)).1

-- The same at places of a text.

pub begins-at : (text : List ℕ) (at : ℕ) → at < length text → (get_or text at 0 ≡ 10 → ⊥) → (get_or text at 0 ≡ 13 → ⊥)
    → next_record default_config st.StartRecord [] [] (drop at text) ≡ next_record default_config st.StartField [] [] (drop at text)
begins-at text at low no_line no_return = rw (drop-cons text at 0 low) (line-begins (get_or text at 0) (drop (suc at) text) no_line no_return)

split-at : (text : List ℕ) (from end : ℕ) → from ≤ end → end < length text → drop from text ≡ take (end - from) (drop from text) ++ get_or text end 0 ∷ drop (end + 1) text
split-at text from end low high =
    let at : from + (end - from) ≡ end = omega arith in
    part-rest from (end - from) text ∙ rw (at, drop-cons text end 0 high, add-one end) refl

pub comma-at : (text : List ℕ) (from end : ℕ) (fields : List (List ℕ)) → from ≤ end → end < length text → AboveComma (take (end - from) (drop from text)) → get_or text end 0 ≡ 44
    → next_record default_config st.StartField fields [] (drop from text)
    ≡ next_record default_config st.StartField (fields ++ take (end - from) (drop from text) ∷ []) [] (drop (end + 1) text)
comma-at text from end fields low high all is =
    ap (next_record default_config st.StartField fields []) (rw is at (split-at text from end low high)) ∙ field-comma fields (take (end - from) (drop from text)) (drop (end + 1) text) all

pub line-at : (text : List ℕ) (from end : ℕ) (fields : List (List ℕ)) → from ≤ end → end < length text → AboveComma (take (end - from) (drop from text)) → get_or text end 0 ≡ 10
    → next_record default_config st.StartField fields [] (drop from text)
    ≡ Some (fields ++ take (end - from) (drop from text) ∷ [], st.StartRecord, drop (end + 1) text)
line-at text from end fields low high all is =
    ap (next_record default_config st.StartField fields []) (rw is at (split-at text from end low high)) ∙ field-line fields (take (end - from) (drop from text)) (drop (end + 1) text) all

pub end-at : (text : List ℕ) (from end : ℕ) (fields : List (List ℕ)) → from < end → end ≡ length text → AboveComma (take (end - from) (drop from text))
    → next_record default_config st.StartField fields [] (drop from text)
    ≡ Some (fields ++ take (end - from) (drop from text) ∷ [], st.StartRecord, drop end text)
end-at text from end fields some is all =
    let size = length-drop from text in
    let whole : take (end - from) (drop from text) ≡ drop from text = take_all (end - from) (drop from text) (omega (arith, size, is)) in
    let rest : drop end text ≡ [] = drop_all end text (omega (arith, is)) in
    rw (whole, rest) (field-last fields (drop from text) (omega (arith, size, is)) (rw whole at all))

-- a text with no byte order mark
pub no-mark : (text : List ℕ) → (get_or text 0 0 ≡ 239 → ⊥) → strip_bom text ≡ text
unfolding strip_bom
no-mark [] h = refl
no-mark (a ∷ []) h = refl
no-mark (a ∷ b ∷ []) h = refl
no-mark (a ∷ b ∷ c ∷ rest) h = rw (ne_eqb a 239 h) refl

-- a part of a text, one byte longer
pub part-more : (text : List ℕ) (from i : ℕ) → from ≤ i → i < length text → take (i + 1 - from) (drop from text) ≡ take (i - from) (drop from text) ++ get_or text i 0 ∷ []
part-more text from i low high =
    let one : i + 1 - from ≡ (i - from) + 1 = omega arith in
    let at : from + (i - from) ≡ i = omega arith in
    let lt : i - from < length (drop from text) = omega (arith, length-drop from text) in
    ap (λ n. take n (drop from text)) one ∙ take_more (drop from text) (i - from) 0 lt ∙ ap (λ byte. take (i - from) (drop from text) ++ byte ∷ []) (get_or-drop from text (i - from) 0 ∙ ap (λ n. get_or text n 0) at)

-- one more field of a line
pub fields-push : (fields : List (Bor (List ℕ))) (next : Bor (List ℕ)) (run : List ℕ) → next.now ≡ run
    → map (λ (field : Bor (List ℕ)). field.now) (fields ++ next ∷ []) ≡ map (λ (field : Bor (List ℕ)). field.now) fields ++ run ∷ []
fields-push fields next run is = rw (← is) (map_push (λ (field : Bor (List ℕ)). field.now) fields next)

-- at its end a text has no record left
pub none-left : (text : List ℕ) (at : ℕ) → length text ≤ at → unread_from st.StartRecord (Some (drop at text)) ≡ []
unfolding records_from next_record
none-left text at end = rw (drop_all at text end) refl

-- the rows of a text that begins by a plain header
pub rows-of-plain : (text rest : List ℕ) (header : List (List ℕ)) (columns : List ℕ) → strip_bom text ≡ text
    → next_record default_config st.StartRecord [] [] text ≡ Some (header, st.StartRecord, rest) → Ok columns ≡ columns_of header
    → csv_rows text ≡ rows_from (row_of_record columns (length header)) 1 (unread_from st.StartRecord (Some rest))
unfolding table_rows
rows-of-plain text rest header columns mark is known = rw (mark, line-taken text rest header is, ← known) refl

pub fault-of-plain : (text rest : List ℕ) (header : List (List ℕ)) (f : Fault) → strip_bom text ≡ text
    → next_record default_config st.StartRecord [] [] text ≡ Some (header, st.StartRecord, rest) → Err f ≡ columns_of header
    → csv_rows text ≡ Err (0, fault_number f)
unfolding table_rows
fault-of-plain text rest header f mark is known = rw (mark, line-taken text rest header is, ← known) refl
