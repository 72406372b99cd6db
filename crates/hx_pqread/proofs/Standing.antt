-- Reading runs and levels, and runs and levels that stand in bytes, are one.
use Rattle.std.proofs.Common.{◌≡◌, inl, inr, ℕ, zero, suc, ◌+◌, ◌-◌, ◌*◌, ◌/◌, ◌%◌, ◌<◌, ◌≤◌, List, [], ◌∷◌, ◌++◌, length, take, drop, replicate, ◌&&◌, Bool, true, false, cond, eqb, leb, ltb, Some, Ok, Err, refl, sym, ap, subst, ◌∙◌, arith, append_assoc, length-append}
use Rattle.std.proofs.lemmas.Bool.{eqb-true, leb-true, ltb-true, le-leb, lt-ltb}
use Rattle.std.proofs.lemmas.Bool.Decides.{nat_tests}
use Rattle.std.proofs.lemmas.List.{take-append-drop, length-take-le, take_at, drop_at}
use Rattle.std.proofs.lemmas.Option.{some_pair_parts}
use Rattle.std.specs.Prelude.{slice_index}
use Rattle.std.specs.List.{flat_map}
use Rattle.hx_thrift.specs.Texts.{Text, Read}
use Rattle.hx_thrift.specs.Reading.{varint_at}
use Rattle.hx_thrift.specs.Spelling.{AreGroups, IsVarint, AreAll, BeginsVarint, ReadsVarints}
use Rattle.hx_pqread.specs.Runs.{group_levels, IsEqualRun, IsPackedRun, IsRun, all_levels, HasLevels}
use Rattle.hx_pqread.specs.Levels.{◌>>=◌, found, head_at, equal_at, packed_at, run_at, levels_at, levels_in}
use Rattle.hx_pqread.proofs.Counts.{bind_some, kept, some_same}
use Rattle.hx_pqread.proofs.Saying.{take_parts}

-- what was taken from the front of bytes, with what is behind it
record Takes (spelled : List ℕ → Type 0) (bytes rest : List ℕ) : Type 0 where
  front : List ℕ
  parts : bytes ≡ front ++ rest
  some : 0 < length front
  spelled_so : spelled front

-- ---- a header

found_ok : {A : Type 0} (read : Read A) (x : A) (rest : List ℕ) → found read ≡ Some (x, rest) → (text : Text) × (read ≡ Ok (x, text)) × (text.bytes ≡ rest)
found_ok (Ok y) x rest e = let both = some_pair_parts y.0 x y.1.bytes rest e in (y.1, rw both.0 refl, both.1)
found_ok (Err refusal) x rest e = absurd cc

some_groups : (bytes : List ℕ) (n : ℕ) → AreGroups bytes n → 0 < length bytes
some_groups [] n groups = absurd groups
some_groups (byte ∷ bytes) n groups = omega arith

head_sound : ReadsVarints → (bytes : List ℕ) (n : ℕ) (rest : List ℕ) → head_at bytes ≡ Some (n, rest) → Takes (λ header. IsVarint header n) bytes rest
unfolding head_at
head_sound law bytes n rest e =
    let text : Text = record { at = 0; bytes = bytes } in
    let read = found_ok (varint_at text) n rest e in
    let begin = (law text n read.0).1 read.1 in
    record {
      front = begin.front;
      parts = begin.parts ∙ ap (λ (back : List ℕ). begin.front ++ back) read.2;
      some = some_groups begin.front n begin.spelled.groups;
      spelled_so = begin.spelled;
    }

head_complete : ReadsVarints → (header : List ℕ) (n : ℕ) (rest : List ℕ) → IsVarint header n → head_at (header ++ rest) ≡ Some (n, rest)
unfolding head_at
head_complete law header n rest is =
    let read = (law (record { at = 0; bytes = header ++ rest }) n (record { at = length header; bytes = rest })).0 (record { front = header; spelled = is; parts = refl; place = omega arith }) in
    rw read refl

-- how many bytes are left behind a varint says which ones
pub behind : {text : Text} {n : ℕ} {rest : Text} → BeginsVarint text n rest → (length rest.bytes ≤ length text.bytes) × (drop (length text.bytes - length rest.bytes) text.bytes ≡ rest.bytes)
behind {text = text} {rest = rest} begin =
    let sum : length text.bytes ≡ length begin.front + length rest.bytes = ap length begin.parts ∙ length-append begin.front rest.bytes in
    (omega arith, with_len (length text.bytes - length rest.bytes) (omega arith)) where
      with_len : (n : ℕ) → length begin.front ≡ n → drop n text.bytes ≡ rest.bytes
      with_len n is = ap (drop n) begin.parts ∙ drop_at begin.front rest.bytes n is

-- ---- a run

equal_sound : (header : List ℕ) (n : ℕ) (body levels rest : List ℕ) → IsVarint header n → 0 < length header → eqb (n % 2) 0 ≡ true → equal_at (n / 2) body ≡ Some (levels, rest) → Takes (λ front. IsRun front levels) (header ++ body) rest
unfolding equal_at
equal_sound header n [] levels rest is some even e = absurd cc
equal_sound header n (level ∷ body) levels rest is some even e =
    let a = kept (ltb 0 (length (level ∷ body)) && ltb (slice_index (level ∷ body) 0) 2) (replicate (n / 2) level, body) (levels, rest) e in
    let small : level < 2 = below (ltb 0 (suc (length body))) a.0 in
    let levels_are : replicate (n / 2) level ≡ levels = ap (λ (x : List ℕ × List ℕ). x.0) a.1 in
    let rest_is : body ≡ rest = ap (λ (x : List ℕ × List ℕ). x.1) a.1 in
    let half : n ≡ 2 * (n / 2) = omega (arith, eqb-true (n % 2) 0 even) in
    record {
      front = header ++ level ∷ [];
      parts = ap (λ (back : List ℕ). header ++ level ∷ back) rest_is ∙ sym (append_assoc header (level ∷ []) rest);
      some = omega (arith, length-append header (level ∷ []));
      spelled_so = record { header = header; body = level ∷ []; parts = refl; count = n / 2; kind = inl (subst (λ (m : ℕ). IsVarint header m) half is, (level, small, refl, sym levels_are)) };
    } where
      below : (b : Bool) → b && ltb level 2 ≡ true → level < 2
      below true e = ltb-true level 2 e
      below false e = absurd cc

packed_sound : (header : List ℕ) (n : ℕ) (body levels rest : List ℕ) → IsVarint header n → 0 < length header → eqb (n % 2) 0 ≡ false → packed_at (n / 2) body ≡ Some (levels, rest) → Takes (λ front. IsRun front levels) (header ++ body) rest
unfolding packed_at
packed_sound header n body levels rest is some odd e =
    let a = kept (leb (n / 2) (length body)) (flat_map group_levels (take (n / 2) body), drop (n / 2) body) (levels, rest) e in
    let levels_are : flat_map group_levels (take (n / 2) body) ≡ levels = ap (λ (x : List ℕ × List ℕ). x.0) a.1 in
    let rest_is : drop (n / 2) body ≡ rest = ap (λ (x : List ℕ × List ℕ). x.1) a.1 in
    let half : n ≡ 2 * (n / 2) + 1 = grind (arith, nat_tests) in
    let groups = take (n / 2) body in
    record {
      front = header ++ groups;
      parts = ap (λ (back : List ℕ). header ++ back) (sym (take-append-drop (n / 2) body) ∙ ap (λ (back : List ℕ). groups ++ back) rest_is) ∙ sym (append_assoc header groups rest);
      some = omega (arith, length-append header groups);
      spelled_so = record { header = header; body = groups; parts = refl; count = n / 2; kind = inr (subst (λ (m : ℕ). IsVarint header m) half is, (length-take-le (n / 2) body (leb-true (n / 2) (length body) a.0), sym levels_are)) };
    }

run_sound : ReadsVarints → (bytes levels rest : List ℕ) → run_at bytes ≡ Some (levels, rest) → Takes (λ front. IsRun front levels) bytes rest
unfolding run_at
run_sound law bytes levels rest e =
    let head = bind_some (head_at bytes) (λ head. cond (eqb (head.0 % 2) 0) (equal_at (head.0 / 2) head.1) (packed_at (head.0 / 2) head.1)) (levels, rest) e in
    let header = head_sound law bytes head.0.0 head.0.1 head.1 in
    subst (λ (bytes : List ℕ). Takes (λ front. IsRun front levels) bytes rest) (sym header.parts) (by_kind header.front head.0.0 head.0.1 (eqb (head.0.0 % 2) 0) header.spelled_so header.some refl head.2) where
      by_kind : (header : List ℕ) (n : ℕ) (body : List ℕ) (b : Bool) → IsVarint header n → 0 < length header → eqb (n % 2) 0 ≡ b → cond b (equal_at (n / 2) body) (packed_at (n / 2) body) ≡ Some (levels, rest) → Takes (λ front. IsRun front levels) (header ++ body) rest
      by_kind header n body true is some even e = equal_sound header n body levels rest is some even e
      by_kind header n body false is some odd e = packed_sound header n body levels rest is some odd e

equal_complete : (count : ℕ) (body levels rest : List ℕ) → IsEqualRun count body levels → equal_at count (body ++ rest) ≡ Some (levels, rest)
unfolding equal_at
equal_complete count body levels rest h =
    let some : ltb 0 (length (h.0 ∷ rest)) && ltb h.0 2 ≡ true = both (ltb 0 (length (h.0 ∷ rest))) (ltb h.0 2) (lt-ltb 0 (length (h.0 ∷ rest)) (omega arith)) (lt-ltb h.0 2 h.1) in
    rw (h.2, h.3, some) refl where
      both : (a b : Bool) → a ≡ true → b ≡ true → a && b ≡ true
      both a b p q = rw (p, q) refl

packed_complete : (count : ℕ) (body levels rest : List ℕ) → IsPackedRun count body levels → packed_at count (body ++ rest) ≡ Some (levels, rest)
unfolding packed_at
packed_complete count body levels rest h =
    let long : leb count (length (body ++ rest)) ≡ true = le-leb count (length (body ++ rest)) (omega (arith, length-append body rest, h.0)) in
    rw (long, take_at body rest count h.0, drop_at body rest count h.0, h.1) refl

run_complete : ReadsVarints → (front levels rest : List ℕ) → IsRun front levels → run_at (front ++ rest) ≡ Some (levels, rest)
unfolding run_at
run_complete law front levels rest run =
    let whole : front ++ rest ≡ run.header ++ (run.body ++ rest) = ap (λ (bytes : List ℕ). bytes ++ rest) run.parts ∙ append_assoc run.header run.body rest in
    rw whole (elim run.kind [
      | inl h ↦ (
          let head = head_complete law run.header (2 * run.count) (run.body ++ rest) h.0 in
          rw head (even (2 * run.count) (omega arith) (omega arith) (equal_complete run.count run.body levels rest h.1)))
      | inr h ↦ (
          let head = head_complete law run.header (2 * run.count + 1) (run.body ++ rest) h.0 in
          rw head (odd (2 * run.count + 1) (omega arith) (omega arith) (packed_complete run.count run.body levels rest h.1)))
    ]) where
      even : (n : ℕ) → n % 2 ≡ 0 → n / 2 ≡ run.count → equal_at run.count (run.body ++ rest) ≡ Some (levels, rest) → cond (eqb (n % 2) 0) (equal_at (n / 2) (run.body ++ rest)) (packed_at (n / 2) (run.body ++ rest)) ≡ Some (levels, rest)
      even n none half e = rw (none, half) e

      odd : (n : ℕ) → n % 2 ≡ 1 → n / 2 ≡ run.count → packed_at run.count (run.body ++ rest) ≡ Some (levels, rest) → cond (eqb (n % 2) 0) (equal_at (n / 2) (run.body ++ rest)) (packed_at (n / 2) (run.body ++ rest)) ≡ Some (levels, rest)
      odd n one half e = rw (one, half) e

-- ---- levels

no_levels : (bytes levels : List ℕ) → [] ≡ levels → HasLevels 0 bytes levels
no_levels bytes levels e = record { front = []; rest = bytes; parts = refl; runs = []; spelled = refl; enough = omega arith; first = sym e }

some_run : (front levels : List ℕ) → IsRun front levels → 0 < length front
some_run front levels run =
    let whole = ap length run.parts ∙ length-append run.header run.body in
    elim run.kind [
      | inl h ↦ omega (arith, whole, some_groups run.header (2 * run.count) h.0.groups)
      | inr h ↦ omega (arith, whole, some_groups run.header (2 * run.count + 1) h.0.groups)
    ]

-- a run, and the levels behind it
first_run : (count : ℕ) (bytes rest run more levels : List ℕ) → Takes (λ front. IsRun front run) bytes rest → HasLevels (count - length run) rest more → take count run ++ more ≡ levels → HasLevels count bytes levels
first_run count bytes rest run more levels first others whole = record {
  front = first.front ++ others.front;
  rest = others.rest;
  parts = first.parts ∙ (ap (λ (back : List ℕ). first.front ++ back) others.parts ∙ sym (append_assoc first.front others.front others.rest));
  runs = run ∷ others.runs;
  spelled = (first.front, others.front, refl, first.spelled_so, others.spelled);
  enough = omega (arith, length-append run (all_levels others.runs), others.enough);
  first = sym whole ∙ (ap (λ (back : List ℕ). take count run ++ back) others.first ∙ sym (take_parts count run (all_levels others.runs)));
}

levels_sound : ReadsVarints → (runs count : ℕ) (bytes levels : List ℕ) → levels_at runs count bytes ≡ Some levels → HasLevels count bytes levels
unfolding levels_at
levels_sound law zero zero bytes levels e = no_levels bytes levels (some_same [] levels e)
levels_sound law (suc runs) zero bytes levels e = no_levels bytes levels (some_same [] levels e)
levels_sound law zero (suc count) bytes levels e = absurd cc
levels_sound law (suc runs) (suc count) bytes levels e =
    let run = bind_some (run_at bytes) (λ run. levels_at runs (suc count - length run.0) run.1 >>= λ more. Some (take (suc count) run.0 ++ more)) levels e in
    let more = bind_some (levels_at runs (suc count - length run.0.0) run.0.1) (λ more. Some (take (suc count) run.0.0 ++ more)) levels run.2 in
    first_run (suc count) bytes run.0.1 run.0.0 more.0 levels (run_sound law bytes run.0.0 run.0.1 run.1) (levels_sound law runs (suc count - length run.0.0) run.0.1 more.0 more.1) (some_same (take (suc count) run.0.0 ++ more.0) levels more.2)

levels_complete : ReadsVarints → (runs : List (List ℕ)) (most count : ℕ) (front rest : List ℕ) → AreAll IsRun front runs → length front ≤ most → count ≤ length (all_levels runs)
    → levels_at most count (front ++ rest) ≡ Some (take count (all_levels runs))
unfolding levels_at
levels_complete law runs zero zero front rest spelled fuel enough = refl
levels_complete law runs (suc most) zero front rest spelled fuel enough = refl
levels_complete law [] most (suc count) front rest spelled fuel enough = absurd (omega arith)
levels_complete law (levels ∷ runs) zero (suc count) front rest spelled fuel enough =
    let some = some_run spelled.0 levels spelled.3 in
    absurd (omega (arith, some, fuel, ap length spelled.2, length-append spelled.0 spelled.1))
levels_complete law (levels ∷ runs) (suc most) (suc count) front rest spelled fuel enough =
    let first = spelled.0 in
    let back = spelled.1 in
    let some = some_run first levels spelled.3 in
    let len = ap length spelled.2 ∙ length-append first back in
    let one = run_complete law first levels (back ++ rest) spelled.3 in
    let others = levels_complete law runs most (suc count - length levels) back rest spelled.4 (omega (arith, some, len)) (omega (arith, length-append levels (all_levels runs))) in
    let whole : front ++ rest ≡ first ++ (back ++ rest) = ap (λ (bytes : List ℕ). bytes ++ rest) spelled.2 ∙ append_assoc first back rest in
    rw (whole, one, others, take_parts (suc count) levels (all_levels runs)) refl

pub reads_levels : ReadsVarints → (count : ℕ) (bytes levels : List ℕ) → HasLevels count bytes levels → levels_in count bytes ≡ Some levels
reads_levels law count bytes levels h =
    let fuel : length h.front ≤ length bytes = omega (arith, ap length h.parts, length-append h.front h.rest) in
    let read = levels_complete law h.runs (length bytes) count h.front h.rest h.spelled fuel h.enough in
    ap (levels_at (length bytes) count) h.parts ∙ (read ∙ ap (λ (levels : List ℕ). Some levels) (sym h.first))

pub has_levels : ReadsVarints → (count : ℕ) (bytes levels : List ℕ) → levels_in count bytes ≡ Some levels → HasLevels count bytes levels
has_levels law count bytes levels e = levels_sound law (length bytes) count bytes levels e
