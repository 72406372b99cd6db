-- Reading pages one after another, and pages that stand one after another, are one.
use Rattle.std.proofs.Common.{◌≡◌, inl, inr, ℕ, ℤ, zero, suc, pos, negsuc, ◌+◌, ◌-◌, ◌<◌, ◌≤◌, List, [], ◌∷◌, ◌++◌, length, take, drop, ◌&&◌, Bool, true, false, cond, ltb, leb, Option, Some, None, Result, Ok, Err, refl, sym, ap, ◌∙◌, arith, length-append}
use Rattle.std.proofs.lemmas.Bool.Decides.{nat_tests}
use Rattle.std.proofs.lemmas.Bool.{leb-true, ltb-true}
use Rattle.std.specs.Ordering.{int_eq}
use Rattle.hx_thrift.specs.declared.refusal.ThriftRefusal.{ThriftRefusal}
use Rattle.hx_thrift.specs.declared.header.Field.{Field}
use Rattle.hx_thrift.specs.Texts.{Text, Read, ◌>>=◌, read_as}
use Rattle.hx_thrift.specs.Kinds.{IsKind}
use Rattle.hx_thrift.specs.Values.{Entry, Node, Value, entries}
use Rattle.hx_thrift.specs.Reading.{value_at, struct_at, container_at}
use Rattle.hx_thrift.specs.Spelling.{Begins, Spells, AreEntries, IsHeader, ReadsWhatIsSpelled}
use Rattle.hx_pqmeta.specs.declared.page.DataPageHeader.{DataPageHeader}
use Rattle.hx_pqmeta.specs.declared.page.PageHead.{PageHead}
use Rattle.hx_pqmeta.specs.declared.page.PageHeader.{PageHeader}
use Rattle.hx_pqmeta.specs.declared.refusal.PqRefusal.{PqRefusal}
use Rattle.hx_pqmeta.specs.declared.refusal.PqRefusal.TheVariants.{Encoding, Bounds}
use Rattle.hx_pqmeta.specs.Refusals.{placed, needed}
use Rattle.hx_pqmeta.specs.Naturals.{natural}
use Rattle.hx_pqmeta.specs.Fields.{page_header_of}
use Rattle.hx_pqmeta.specs.PageHeaders.{plain_head, with_data_page, page_head_of, page_head_at}
use Rattle.hx_pqread.specs.declared.layout.Asked.{Asked}
use Rattle.hx_pqread.specs.declared.layout.Layout.{Layout}
use Rattle.hx_pqread.specs.Bodies.{body_values}
use Rattle.hx_pqread.specs.Pages.{text_from, runs_checked, head_checked, are_sizes, bounded, body_at, page_behind, page_at, pages_at}
use Rattle.hx_pqread.specs.Laws.{IsPage, ArePages, ReadsABody}
use Rattle.hx_pqread.proofs.Counts.{body_length}

-- the laws below this one: of Thrift's spelling, and of a body
pub record Below : Type 0 where
  pub spelling : ReadsWhatIsSpelled
  pub body : ReadsABody

both_true : (a b : Bool) → a && b ≡ true → (a ≡ true) × (b ≡ true)
both_true true b e = (refl, e)
both_true false b e = absurd cc

pub bind_ok : {A B : Type 0} (read : Result A PqRefusal) (next : A → Result B PqRefusal) (y : B) → (read >>= next) ≡ Ok y → (x : A) × (read ≡ Ok x) × (next x ≡ Ok y)
bind_ok (Ok x) next y e = (x, refl, e)
bind_ok (Err refusal) next y e = absurd cc

pub accepted : {A : Type 0} (b : Bool) (refusal : PqRefusal) (x : Result A PqRefusal) (y : A) → cond b x (Err refusal) ≡ Ok y → (b ≡ true) × (x ≡ Ok y)
accepted true refusal x y e = (refl, e)
accepted false refusal x y e = absurd cc

pub same : {A : Type 0} (x y : A) (first second : Result A PqRefusal) → first ≡ Ok x → second ≡ Ok y → first ≡ second → x ≡ y
same x y first second a b e = cc

placed_ok : {A : Type 0} (read : Result A ThriftRefusal) (x : A) → placed read ≡ Ok x → read ≡ Ok x
placed_ok (Ok y) x e = cc
placed_ok (Err refusal) x e = absurd cc

-- ---- a page

head_same : (column : ℕ) (layout : Layout) (head checked : PageHead) → head_checked column layout head ≡ Ok checked → head ≡ checked
unfolding head_checked
head_same column layout head checked e =
    let a = accepted (int_eq head.kind (pos 0) && int_eq head.encoding (pos 0)) (Encoding column) (cond layout.is_optional (runs_checked column head) (Ok head)) checked e in
    by_kind layout.is_optional a.1 where
      by_kind : (is_optional : Bool) → cond is_optional (runs_checked column head) (Ok head) ≡ Ok checked → head ≡ checked
      by_kind false e = same head checked (Ok head) (Ok checked) refl refl e
      by_kind true e =
          let levels = bind_ok (needed 703 head.levels) (λ encoding. cond (int_eq encoding (pos 3)) (Ok head) (Err (Encoding column))) checked e in
          let b = accepted (int_eq levels.0 (pos 3)) (Encoding column) (Ok head) checked levels.2 in
          same head checked (Ok head) (Ok checked) refl refl b.1

sizes_are : (left room : ℕ) (plain_size stored_size values : ℤ) → are_sizes left room plain_size stored_size values ≡ true
    → (size : ℕ) × (n : ℕ) × (plain_size ≡ pos size) × (stored_size ≡ pos size) × (values ≡ pos n) × (size ≤ room) × (n ≤ left)
sizes_are left room (pos p) (pos s) (pos v) e =
    let one : p ≡ s = grind (arith, nat_tests) in
    (s, v, ap pos one, refl, refl, grind (arith, nat_tests), grind (arith, nat_tests))
sizes_are left room (pos p) (pos s) (negsuc v) e = absurd cc
sizes_are left room (pos p) (negsuc s) (pos v) e = absurd cc
sizes_are left room (pos p) (negsuc s) (negsuc v) e = absurd cc
sizes_are left room (negsuc p) (pos s) (pos v) e = absurd cc
sizes_are left room (negsuc p) (pos s) (negsuc v) e = absurd cc
sizes_are left room (negsuc p) (negsuc s) (pos v) e = absurd cc
sizes_are left room (negsuc p) (negsuc s) (negsuc v) e = absurd cc

fewer : (a b c : ℕ) → a ≡ b → b ≤ c → a ≤ c
fewer a b c e h = omega arith

sizes_fit : (left room size n : ℕ) → size ≤ room → n ≤ left → are_sizes left room (pos size) (pos size) (pos n) ≡ true
sizes_fit left room size n a b = grind (arith, nat_tests)

abbrev answer : PageHead → List (Option ℤ) → Result (List (Option ℤ) × ℕ) PqRefusal
answer head values = Ok (values, head.next + natural head.stored_size)

-- what a body that is read is like
pub record IsRead (asked : Asked) (left : ℕ) (head : PageHead) (file : List ℕ) (values : List (Option ℤ)) (next : ℕ) : Type 0 where
  pub size : ℕ
  pub plain_size : head.plain_size ≡ pos size
  pub stored_size : head.stored_size ≡ pos size
  pub count : head.values ≡ pos (length values)
  pub fits : size ≤ asked.end - head.next
  pub body : body_values asked.layout (length values) (take size (drop head.next file)) ≡ Some values
  pub end : next ≡ head.next + size
  pub few : length values ≤ left

ok_pair : {A : Type 0} (a x : A) (b y : ℕ) (first second : Result (A × ℕ) PqRefusal) → first ≡ Ok (a, b) → second ≡ Ok (x, y) → first ≡ second → (a ≡ x) × (b ≡ y)
ok_pair {A = A} a x b y first second p q e =
    let both : (a, b) ≡ (x, y) = same (a, b) (x, y) first second p q e in
    (ap (λ (z : A × ℕ). z.0) both, ap (λ (z : A × ℕ). z.1) both)

answer_ok : (column : ℕ) (head : PageHead) (read : Option (List (Option ℤ))) (values : List (Option ℤ)) (next : ℕ) → (bounded column read >>= answer head) ≡ Ok (values, next)
    → (read ≡ Some values) × (head.next + natural head.stored_size ≡ next)
answer_ok column head None values next e = absurd cc
answer_ok column head (Some read) values next e =
    let both = ok_pair read values (head.next + natural head.stored_size) next (answer head read) (Ok (values, next)) refl refl e in
    (ap (λ (xs : List (Option ℤ)). Some xs) both.0, both.1)

-- where the sizes fit, what the bytes of a body are read as
body_is : (asked : Asked) (left : ℕ) (head : PageHead) (file body : List ℕ) (values : List (Option ℤ)) (next : ℕ) → are_sizes left (asked.end - head.next) head.plain_size head.stored_size head.values ≡ true
    → take (natural head.stored_size) (drop head.next file) ≡ body → body_values asked.layout (natural head.values) body ≡ Some values → head.next + natural head.stored_size ≡ next → IsRead asked left head file values next
body_is asked left head file body values next fit bytes read end =
    let s = sizes_are left (asked.end - head.next) head.plain_size head.stored_size head.values fit in
    let stored : natural head.stored_size ≡ s.0 = ap natural s.3 in
    let number : natural head.values ≡ s.1 = ap natural s.4 in
    let len : length values ≡ s.1 = body_length asked.layout (natural head.values) body values read ∙ number in
    record {
      size = s.0;
      plain_size = s.2;
      stored_size = s.3;
      count = s.4 ∙ ap pos (sym len);
      fits = s.5;
      body =
          ap (λ (n : ℕ). body_values asked.layout n (take s.0 (drop head.next file))) (len ∙ sym number)
          ∙ (ap (λ (n : ℕ). body_values asked.layout (natural head.values) (take n (drop head.next file))) (sym stored)
          ∙ (ap (body_values asked.layout (natural head.values)) bytes ∙ read));
      end = sym end ∙ ap (λ (n : ℕ). head.next + n) stored;
      few = fewer (length values) s.1 left len s.6;
    }

body_sound : (asked : Asked) (left : ℕ) (head : PageHead) (file : List ℕ) (values : List (Option ℤ)) (next : ℕ)
    → (body_at asked left head file >>= λ body. bounded asked.column (body_values asked.layout (natural head.values) body) >>= answer head) ≡ Ok (values, next)
    → IsRead asked left head file values next
unfolding body_at
body_sound asked left head file values next e =
    let bytes = take (natural head.stored_size) (drop head.next file) in
    let body = bind_ok (body_at asked left head file) (λ body. bounded asked.column (body_values asked.layout (natural head.values) body) >>= answer head) (values, next) e in
    let a = accepted (are_sizes left (asked.end - head.next) head.plain_size head.stored_size head.values) (Bounds asked.column) (Ok bytes) body.0 body.1 in
    let read = answer_ok asked.column head (body_values asked.layout (natural head.values) body.0) values next body.2 in
    body_is asked left head file body.0 values next a.0 (same bytes body.0 (Ok bytes) (Ok body.0) refl refl a.1) read.0 read.1

is_struct : IsKind 12
is_struct = record { least = omega arith; greatest = omega arith }

struct_value : (levels : ℕ) (text rest : Text) (es : List (Entry (Value levels))) → struct_at (value_at levels) text ≡ Ok (es, rest) → value_at (suc levels) 12 text ≡ Ok (entries es, rest)
unfolding value_at container_at
struct_value levels text rest es read = rw read refl

header_sound : Below → (text : Text) (head : PageHead) → page_head_at text ≡ Ok head
    → (es : List (Entry (Value 31))) × (rest : Text) × Begins 32 12 text (entries es) rest × (page_head_of (page_header_of es) rest.at ≡ Ok head)
unfolding page_head_at
header_sound law text head e =
    let header = bind_ok (placed (struct_at (value_at 31) text)) (λ header. page_head_of (page_header_of header.0) header.1.at) head e in
    let read = placed_ok (struct_at (value_at 31) text) header.0 header.1 in
    let value = struct_value 31 text header.0.1 header.0.0 read in
    (header.0.0, header.0.1, (law.spelling 32 12 text (entries header.0.0) header.0.1 is_struct).1 value, header.2)

pub page_behind_sound : (asked : Asked) (left : ℕ) (head : PageHead) (file : List ℕ) (values : List (Option ℤ)) (next : ℕ) → page_behind asked left head file ≡ Ok (values, next)
    → (head_checked asked.column asked.layout head ≡ Ok head) × IsRead asked left head file values next
unfolding page_behind
page_behind_sound asked left head file values next e =
    let rest = λ (head : PageHead). body_at asked left head file >>= λ body. bounded asked.column (body_values asked.layout (natural head.values) body) >>= answer head in
    let checked = bind_ok (head_checked asked.column asked.layout head) rest (values, next) e in
    let is : head ≡ checked.0 = head_same asked.column asked.layout head checked.0 checked.1 in
    (checked.1 ∙ ap (λ (x : PageHead). Ok x) (sym is), body_sound asked left head file values next (ap rest is ∙ checked.2))

pub page_sound : Below → (asked : Asked) (left place : ℕ) (file : List ℕ) (values : List (Option ℤ)) (next : ℕ) → page_at asked left place file ≡ Ok (values, next)
    → IsPage asked file place values next × (length values ≤ left)
unfolding page_at
page_sound law asked left place file values next e =
    let text = text_from asked.end place file in
    let a = accepted (leb 4 place && ltb place asked.end) (Bounds asked.column) (page_head_at text >>= λ head. page_behind asked left head file) (values, next) e in
    let inside = both_true (leb 4 place) (ltb place asked.end) a.0 in
    let head = bind_ok (page_head_at text) (λ head. page_behind asked left head file) (values, next) a.1 in
    let header = header_sound law text head.0 head.1 in
    let behind = page_behind_sound asked left head.0 file values next head.2 in
    let body = behind.1 in (
      record {
        behind_mark = leb-true 4 place inside.0;
        before_footer = ltb-true place asked.end inside.1;
        fields = header.0;
        rest = header.1;
        header = header.2;
        head = head.0;
        read = header.3;
        checked = behind.0;
        size = body.size;
        plain_size = body.plain_size;
        stored_size = body.stored_size;
        count = body.count;
        fits = body.fits;
        body = (law.body asked.layout (take body.size (drop head.0.next file)) values).1 body.body;
        end = body.end;
      },
      body.few,
    )

-- ---- a page that stands there is read

abbrev node : {A : Type 0} → List (Entry A) → Node A
node es = entries es

one_list : {A : Type 0} (es fs : List (Entry A)) → node es ≡ node fs → es ≡ fs
one_list es fs e = cc

abbrev read_one : {A : Type 0} → A × Text → Read A
read_one x = Ok x

one_read : {A : Type 0} (x y : A × Text) → read_one x ≡ read_one y → x ≡ y
one_read x y e = cc

entries_back : {A : Type 0} (read : Read (List (Entry A))) (es : List (Entry A)) (rest : Text) → read_as (λ es. node es) read ≡ Ok (node es, rest) → read ≡ Ok (es, rest)
entries_back {A = A} (Ok x) es rest e =
    let both : (node x.0, x.1) ≡ (node es, rest) = one_read (node x.0, x.1) (node es, rest) e in
    let first : x.0 ≡ es = one_list x.0 es (ap (λ (y : Node A × Text). y.0) both) in
    let second : x.1 ≡ rest = ap (λ (y : Node A × Text). y.1) both in
    rw (← first, ← second) refl
entries_back (Err refusal) es rest e = absurd cc

struct_again : (levels : ℕ) (text rest : Text) (es : List (Entry (Value levels))) → value_at (suc levels) 12 text ≡ Ok (entries es, rest) → struct_at (value_at levels) text ≡ Ok (es, rest)
unfolding value_at container_at
struct_again levels text rest es e = entries_back (struct_at (value_at levels) text) es rest e

header_complete : Below → (text : Text) (es : List (Entry (Value 31))) (rest : Text) (head : PageHead) → Begins 32 12 text (entries es) rest → page_head_of (page_header_of es) rest.at ≡ Ok head → page_head_at text ≡ Ok head
unfolding page_head_at
header_complete law text es rest head begins read =
    let value = (law.spelling 32 12 text (entries es) rest is_struct).0 begins in
    rw (struct_again 31 text rest es value) read

pub page_complete : Below → (asked : Asked) (left place : ℕ) (file : List ℕ) (values : List (Option ℤ)) (next : ℕ) → IsPage asked file place values next → length values ≤ left
    → page_at asked left place file ≡ Ok (values, next)
unfolding page_at page_behind body_at
page_complete law asked left place file values next p few =
    let text = text_from asked.end place file in
    let mark = p.behind_mark in
    let footer = p.before_footer in
    let inside : leb 4 place && ltb place asked.end ≡ true = grind (arith, nat_tests) in
    let head = header_complete law text p.fields p.rest p.head p.header p.read in
    let fit = sizes_fit left (asked.end - p.head.next) p.size (length values) p.fits few in
    let body = (law.body asked.layout (take p.size (drop p.head.next file)) values).0 p.body in
    rw (inside, head, p.checked, p.plain_size, p.stored_size, p.count, fit, body, p.end) refl

-- ---- a page has a header, so the next one stands further on

abbrev done : PageHead → Result PageHead PqRefusal
done head = Ok head

made_next : (head made : PageHead) → done head ≡ Ok made → head.next ≡ made.next
made_next head made e = ap (λ (x : PageHead). x.next) (same head made (Ok head) (Ok made) refl refl e)

data_next : (head made : PageHead) (header : Option DataPageHeader) → with_data_page head header ≡ Ok made → head.next ≡ made.next
unfolding with_data_page
data_next head made None e = absurd cc
data_next head made (Some data_page) e = with_values data_page.values data_page.encoding e where
  with_values : (values encoding : Option ℤ) → (needed 701 values >>= λ values. needed 702 encoding >>= λ encoding. Ok (record { kind = head.kind; plain_size = head.plain_size; stored_size = head.stored_size; values = values; encoding = encoding; levels = data_page.levels; next = head.next })) ≡ Ok made → head.next ≡ made.next
  with_values None encoding e = absurd cc
  with_values (Some values) None e = absurd cc
  with_values (Some values) (Some encoding) e = made_next (record { kind = head.kind; plain_size = head.plain_size; stored_size = head.stored_size; values = values; encoding = encoding; levels = data_page.levels; next = head.next }) made e

head_next : (header : PageHeader) (next : ℕ) (made : PageHead) → page_head_of header next ≡ Ok made → next ≡ made.next
unfolding page_head_of
head_next header next made e =
    let kind = bind_ok (needed 601 header.kind) (λ kind. needed 602 header.plain_size >>= λ plain_size. needed 603 header.stored_size >>= λ stored_size.
    cond (int_eq kind (pos 0)) (with_data_page (plain_head kind plain_size stored_size next) header.data_page) (Ok (plain_head kind plain_size stored_size next))) made e in
    let plain_size = bind_ok (needed 602 header.plain_size) (λ plain_size. needed 603 header.stored_size >>= λ stored_size.
    cond (int_eq kind.0 (pos 0)) (with_data_page (plain_head kind.0 plain_size stored_size next) header.data_page) (Ok (plain_head kind.0 plain_size stored_size next))) made kind.2 in
    let stored_size = bind_ok (needed 603 header.stored_size) (λ stored_size.
    cond (int_eq kind.0 (pos 0)) (with_data_page (plain_head kind.0 plain_size.0 stored_size next) header.data_page) (Ok (plain_head kind.0 plain_size.0 stored_size next))) made plain_size.2 in
    let head = plain_head kind.0 plain_size.0 stored_size.0 next in
    by_kind head (int_eq kind.0 (pos 0)) stored_size.2 where
      by_kind : (head : PageHead) (b : Bool) → cond b (with_data_page head header.data_page) (Ok head) ≡ Ok made → head.next ≡ made.next
      by_kind head true e = data_next head made header.data_page e
      by_kind head false e = made_next head made e

front_none : (front others : List ℕ) → [] ≡ front ++ others → [] ≡ front
front_none [] others e = refl
front_none (byte ∷ front) others e = absurd cc

no_header : (last : ℤ) (header : Field) (bytes : List ℕ) → [] ≡ bytes → IsHeader last bytes header → ⊥
no_header last header bytes none h = elim h.2 [
  | inl step ↦ (let e = none ∙ step.3 in absurd cc)
  | inr own ↦ (let e = none ∙ own.1 in absurd cc)
]

no_entries : (spelled : ℕ → List ℕ → Value 31 → Type 0) (last : ℤ) (bytes : List ℕ) (es : List (Entry (Value 31))) → [] ≡ bytes → AreEntries spelled last bytes es → ⊥
no_entries spelled last bytes [] none h = (let e = none ∙ h in absurd cc)
no_entries spelled last bytes (e ∷ es) none h = no_header last (record { id = e.id; kind = e.kind }) h.0 (front_none h.0 (h.1 ++ h.2) (none ∙ h.3)) h.4

some_front : (front : List ℕ) → ([] ≡ front → ⊥) → 0 < length front
some_front [] some = absurd (some refl)
some_front (byte ∷ front) some = omega arith

page_further : (asked : Asked) (file : List ℕ) (place : ℕ) (values : List (Option ℤ)) (next : ℕ) → IsPage asked file place values next → place < next
page_further asked file place values next p =
    let some = some_front p.header.front (λ none. no_entries (Spells 31) (pos 0) p.header.front p.fields none p.header.spelled.1) in
    omega (arith, some, p.header.place, head_next (page_header_of p.fields) p.rest.at p.head p.read, p.end)

-- ---- pages, one after another

none_left : (values : List (Option ℤ)) → length values ≡ 0 → [] ≡ values
none_left [] e = refl
none_left (value ∷ values) e = absurd (omega arith)

pub pages_sound : Below → (asked : Asked) (most left place : ℕ) (file : List ℕ) (values : List (Option ℤ)) → pages_at asked most left place file ≡ Ok values
    → (places : List ℕ) × ArePages asked file place places values × (length values ≡ left) × (left ≡ 0 → places ≡ [])
unfolding pages_at
pages_sound law asked zero zero place file values e =
    let none : [] ≡ values = same [] values (Ok []) (Ok values) refl refl e in
    ([], sym none, ap length (sym none), λ e. refl)
pages_sound law asked (suc most) zero place file values e =
    let none : [] ≡ values = same [] values (Ok []) (Ok values) refl refl e in
    ([], sym none, ap length (sym none), λ e. refl)
pages_sound law asked zero (suc left) place file values e = absurd cc
pages_sound law asked (suc most) (suc left) place file values e =
    let page = bind_ok (page_at asked (suc left) place file) (λ page. pages_at asked most (suc left - length page.0) page.1 file >>= λ more. Ok (page.0 ++ more)) values e in
    let more = bind_ok (pages_at asked most (suc left - length page.0.0) page.0.1 file) (λ more. Ok (page.0.0 ++ more)) values page.2 in
    let whole : page.0.0 ++ more.0 ≡ values = same (page.0.0 ++ more.0) values (Ok (page.0.0 ++ more.0)) (Ok values) refl refl more.2 in
    let first = page_sound law asked (suc left) place file page.0.0 page.0.1 page.1 in
    let others = pages_sound law asked most (suc left - length page.0.0) page.0.1 file more.0 more.1 in
    (place ∷ others.0, (page.0.0, page.0.1, more.0, refl, first.0, others.1, sym whole), ap length (sym whole) ∙ (length-append page.0.0 more.0 ∙ omega (arith, first.1, others.2)), λ e. absurd {A = place ∷ others.0 ≡ []} (omega arith))

pub pages_complete : Below → (asked : Asked) (places : List ℕ) (most left place : ℕ) (file : List ℕ) (values : List (Option ℤ)) → ArePages asked file place places values → length values ≡ left → asked.end ≤ place + most
    → pages_at asked most left place file ≡ Ok values
unfolding pages_at
pages_complete law asked places zero zero place file values h len fuel = ap (λ (xs : List (Option ℤ)). Ok xs) (none_left values len)
pages_complete law asked places (suc most) zero place file values h len fuel = ap (λ (xs : List (Option ℤ)). Ok xs) (none_left values len)
pages_complete law asked [] most (suc left) place file values h len fuel = absurd (omega (arith, ap length h, len))
pages_complete law asked (first ∷ places) zero (suc left) place file values h len fuel = absurd (omega (arith, h.4.before_footer, fuel))
pages_complete law asked (first ∷ places) (suc most) (suc left) place file values h len fuel =
    let page = h.0 in
    let next = h.1 in
    let more = h.2 in
    let sum : length values ≡ length page + length more = ap length h.6 ∙ length-append page more in
    let one = page_complete law asked (suc left) place file page next h.4 (omega (arith, sum, len)) in
    let further = page_further asked file place page next h.4 in
    let others = pages_complete law asked places most (suc left - length page) next file more h.5 (omega (arith, sum, len)) (omega (arith, further, fuel)) in
    rw (one, others, h.6) refl
