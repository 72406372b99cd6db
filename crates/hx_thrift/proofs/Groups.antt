-- The groups of a varint, as a loop meets them.
use Rattle.std.proofs.Common.{◌≡◌, ℕ, zero, suc, ◌+◌, ◌-◌, ◌*◌, ◌%◌, ◌^◌, ◌<◌, ◌≤◌, Ok, Err, refl, sym, ap, ◌∙◌, arith, add-one, mul_comm, inl, inr}
use Rattle.std.proofs.lemmas.Bool.{cases_lt, lt-ltb, le-ltb}
use Rattle.std.proofs.lemmas.Nat.{mul-add-lt}
use Rattle.std.proofs.Math.Nat.{pow-le-pow_right, pow-suc}
use Rattle.hx_thrift.specs.declared.refusal.ThriftRefusal.{ThriftRefusal}
use Rattle.hx_thrift.specs.declared.refusal.ThriftRefusal.TheVariants.{Overlong}
use Rattle.hx_thrift.specs.Texts.{Text, Read, read_as}
use Rattle.hx_thrift.specs.Reading.{byte_at, groups_at, varint_at}

-- a number whose lower groups were read, with the weight of the next one
abbrev pub above : (low weight : ℕ) → Read ℕ → Read ℕ
above low weight read = read_as (λ high. low + weight * high) read

above-group : (low weight group : ℕ) (read : Read ℕ) → above low weight (read_as (λ high. group + 128 * high) read) ≡ above (low + group * weight) (weight * 128) read
above-group low weight group (Ok x) = ap (λ (n : ℕ). Ok (n, x.1)) (grind arith)
above-group low weight group (Err refusal) = refl

pub last_group : (low weight start most group : ℕ) (text rest : Text) → byte_at start text ≡ Ok (group, rest) → group < 128 → 0 < most
    → above low weight (groups_at start most text) ≡ Ok (low + weight * group, rest)
unfolding groups_at
last_group low weight start zero group text rest byte small some = absurd (omega arith)
last_group low weight start (suc most) group text rest byte small some = rw (byte, lt-ltb group 128 small) refl

pub next_group : (low weight start most left group : ℕ) (text rest : Text) → byte_at start text ≡ Ok (group, rest) → 128 ≤ group → most ≡ left + 1
    → above low weight (groups_at start most text) ≡ above (low + group % 128 * weight) (weight * 128) (groups_at start left rest)
unfolding groups_at
next_group low weight start zero left group text rest byte great count = absurd (omega arith)
next_group low weight start (suc most) left group text rest byte great count =
    let same : most ≡ left = omega arith in
    rw (byte, le-ltb group 128 great, same) (above-group low weight (group % 128) (groups_at start left rest))

pub no_group : (low weight start most : ℕ) (text : Text) (refusal : ThriftRefusal) → byte_at start text ≡ Err refusal → 0 < most
    → above low weight (groups_at start most text) ≡ Err refusal
unfolding groups_at
no_group low weight start zero text refusal byte some = absurd (omega arith)
no_group low weight start (suc most) text refusal byte some = rw byte refl

-- ---- weights

weight_bound : (i weight : ℕ) → i < 9 → weight ≡ 128 ^ i → weight ≤ 128 ^ 8
weight_bound i weight turn is = rw is (pow-le-pow_right {n = 128} (omega arith) {i = i} {j = 8} (omega arith))

pub next_below : (low group weight : ℕ) → low < weight → low + group % 128 * weight < weight * 128
next_below low group weight below = omega (arith, mul-add-lt (group % 128) weight low 128 (omega arith) below)

pub sum_fits : (i low group weight : ℕ) → i < 9 → weight ≡ 128 ^ i → low < weight → low + group % 128 * weight < 2 ^ 63
sum_fits i low group weight turn is below = omega (arith, next_below low group weight below, weight_bound i weight turn is)

pub weight_fits : (i weight : ℕ) → i < 9 → weight ≡ 128 ^ i → weight * 128 < 2 ^ 64
weight_fits i weight turn is = omega (arith, weight_bound i weight turn is)

pub next_weight : (i weight : ℕ) → weight ≡ 128 ^ i → weight * 128 ≡ 128 ^ (i + 1)
next_weight i weight is = rw (add-one i, pow-suc 128 i, is) refl

-- ---- the varint, by its groups

whole_varint : (n : ℕ) (text rest : Text) → groups_at text.at 10 text ≡ Ok (n, rest) → n < 2 ^ 64 → varint_at text ≡ Ok (n, rest)
unfolding varint_at
whole_varint n text rest groups fits = rw (groups, lt-ltb n (2 ^ 64) fits) refl

great_varint : (n : ℕ) (text rest : Text) → groups_at text.at 10 text ≡ Ok (n, rest) → 2 ^ 64 ≤ n → varint_at text ≡ Err (Overlong text.at)
unfolding varint_at
great_varint n text rest groups great = rw (groups, le-ltb n (2 ^ 64) great) refl

no_varint : (text : Text) (refusal : ThriftRefusal) → groups_at text.at 10 text ≡ Err refusal → varint_at text ≡ Err refusal
unfolding varint_at
no_varint text refusal groups = rw groups refl

-- Turn i of the loop, with the bytes that are ahead and the place where the varint of text starts.

pub refused : (i low weight start : ℕ) (text ahead : Text) (refusal : ThriftRefusal) → start ≡ text.at → i < 10 → byte_at start ahead ≡ Err refusal
    → above low weight (groups_at text.at (10 - i) ahead) ≡ groups_at text.at 10 text
    → varint_at text ≡ Err refusal
refused i low weight start text ahead refusal place turn byte so_far =
    let byte_here = rw place at byte in
    no_varint text refusal (sym so_far ∙ no_group low weight text.at (10 - i) ahead refusal byte_here (omega arith))

pub ended : (i low weight start group : ℕ) (text ahead rest : Text) → start ≡ text.at → i < 9 → weight ≡ 128 ^ i → low < weight → byte_at start ahead ≡ Ok (group, rest) → group < 128
    → above low weight (groups_at text.at (10 - i) ahead) ≡ groups_at text.at 10 text
    → varint_at text ≡ Ok (low + group % 128 * weight, rest)
ended i low weight start group text ahead rest place turn is below byte small so_far =
    let byte_here = rw place at byte in
    let same : low + weight * group ≡ low + group % 128 * weight = grind arith in
    let fits = sum_fits i low group weight turn is below in
    whole_varint (low + group % 128 * weight) text rest
    (sym so_far ∙ last_group low weight text.at (10 - i) group ahead rest byte_here small (omega arith) ∙ ap (λ (n : ℕ). Ok (n, rest)) same) (omega arith)

pub goes_on : (i low weight start group : ℕ) (text ahead rest : Text) → start ≡ text.at → i < 9 → byte_at start ahead ≡ Ok (group, rest) → 128 ≤ group
    → above low weight (groups_at text.at (10 - i) ahead) ≡ groups_at text.at 10 text
    → above (low + group % 128 * weight) (weight * 128) (groups_at text.at (10 - (i + 1)) rest) ≡ groups_at text.at 10 text
goes_on i low weight start group text ahead rest place turn byte great so_far =
    let byte_here = rw place at byte in
    sym (next_group low weight text.at (10 - i) (10 - (i + 1)) group ahead rest byte_here great (omega arith)) ∙ so_far

pub last_fits : (i low weight start group : ℕ) (text ahead rest : Text) → start ≡ text.at → i ≡ 9 → weight ≡ 128 ^ i → low < weight → byte_at start ahead ≡ Ok (group, rest) → group ≤ 1
    → above low weight (groups_at text.at (10 - i) ahead) ≡ groups_at text.at 10 text
    → varint_at text ≡ Ok (low + group * weight, rest)
last_fits i low weight start group text ahead rest place nine is below byte small so_far =
    let byte_here = rw place at byte in
    let full : weight ≡ 2 ^ 63 = is ∙ ap (λ (k : ℕ). 128 ^ k) nine in
    whole_varint (low + group * weight) text rest
    (sym so_far ∙ last_group low weight text.at (10 - i) group ahead rest byte_here (omega arith) (omega arith) ∙ ap (λ (n : ℕ). Ok (low + n, rest)) (mul_comm weight group)) (rw full (omega arith))

pub last_great : (i low weight start group : ℕ) (text ahead rest : Text) → start ≡ text.at → i ≡ 9 → weight ≡ 128 ^ i → byte_at start ahead ≡ Ok (group, rest) → 1 < group
    → above low weight (groups_at text.at (10 - i) ahead) ≡ groups_at text.at 10 text
    → varint_at text ≡ Err (Overlong start)
unfolding groups_at
last_great i low weight start group text ahead rest place nine is byte great so_far =
    let byte_here = rw place at byte in
    let full : weight ≡ 2 ^ 63 = is ∙ ap (λ (k : ℕ). 128 ^ k) nine in
    rw place (elim (cases_lt group 128) [
      | inl small ↦ great_varint (low + weight * group) text rest (sym so_far ∙ last_group low weight text.at (10 - i) group ahead rest byte_here small (omega arith)) (rw full (omega arith))
      | inr more ↦ no_varint text (Overlong text.at) (sym so_far ∙ next_group low weight text.at (10 - i) 0 group ahead rest byte_here more (omega arith))
    ])
