-- A body that is read has as many values as are asked for.
use Rattle.std.proofs.Common.{◌≡◌, ℕ, ℤ, zero, suc, ◌+◌, ◌-◌, ◌*◌, List, [], ◌++◌, length, take, drop, replicate, ◌&&◌, Bool, true, false, cond, eqb, leb, Option, Some, None, refl, sym, ap, ◌∙◌, arith, length-append}
use Rattle.std.proofs.lemmas.Bool.{eqb-true}
use Rattle.std.proofs.lemmas.List.{length-take, length-replicate}
use Rattle.std.specs.Option.{option_map}
use Rattle.hx_pqread.specs.declared.layout.Layout.{Layout}
use Rattle.hx_pqread.specs.Levels.{◌>>=◌, run_at, levels_at, levels_in, given}
use Rattle.hx_pqread.specs.Numbers.{size, numbers_at}
use Rattle.hx_pqread.specs.Values.{spread}
use Rattle.hx_pqread.specs.Bodies.{levels_len, optional_parts, body_parts, spread_at, body_values}
use Rattle.hx_pqread.proofs.Spreading.{length_spread}

-- where a chain has a value, each part has one
pub bind_some : {A B : Type 0} (read : Option A) (next : A → Option B) (y : B) → (read >>= next) ≡ Some y → (x : A) × (read ≡ Some x) × (next x ≡ Some y)
bind_some (Some x) next y e = (x, refl, e)
bind_some None next y e = absurd cc

pub kept : {A : Type 0} (b : Bool) (x y : A) → cond b (Some x) None ≡ Some y → (b ≡ true) × (x ≡ y)
kept true x y e = (refl, cc)
kept false x y e = absurd cc

pub taken : {A : Type 0} (b : Bool) (x : Option A) (y : A) → cond b x None ≡ Some y → (b ≡ true) × (x ≡ Some y)
taken true x y e = (refl, e)
taken false x y e = absurd cc

pub mapped : {A B : Type 0} (f : A → B) (read : Option A) (y : B) → option_map f read ≡ Some y → (x : A) × (read ≡ Some x) × (f x ≡ y)
mapped f (Some x) y e = (x, refl, cc)
mapped f None y e = absurd cc

pub some_same : {A : Type 0} (x y : A) → Some x ≡ Some y → x ≡ y
some_same x y e = cc

pub length_levels : (runs wanted : ℕ) (bytes levels : List ℕ) → levels_at runs wanted bytes ≡ Some levels → length levels ≡ wanted
unfolding levels_at
length_levels zero zero bytes levels e = ap length (sym (some_same [] levels e))
length_levels (suc runs) zero bytes levels e = ap length (sym (some_same [] levels e))
length_levels zero (suc wanted) bytes levels e = absurd cc
length_levels (suc runs) (suc wanted) bytes levels e =
    let run = bind_some (run_at bytes) (λ run. levels_at runs (suc wanted - length run.0) run.1 >>= λ more. Some (take (suc wanted) run.0 ++ more)) levels e in
    let more = bind_some (levels_at runs (suc wanted - length run.0.0) run.0.1) (λ more. Some (take (suc wanted) run.0.0 ++ more)) levels run.2 in
    let others = length_levels runs (suc wanted - length run.0.0) run.0.1 more.0 more.1 in
    let whole = ap length (sym (some_same (take (suc wanted) run.0.0 ++ more.0) levels more.2)) in
    whole ∙ (length-append (take (suc wanted) run.0.0) more.0 ∙ omega (arith, length-take (suc wanted) run.0.0, others))

optional_length : (count : ℕ) (body : List ℕ) (parts : List ℕ × List ℕ) → optional_parts count body ≡ Some parts → length parts.0 ≡ count
unfolding optional_parts
optional_length count body parts e =
    let runs = take (levels_len body) (drop 4 body) in
    let inside = taken (leb 4 (length body) && leb (4 + levels_len body) (length body)) (option_map (λ levels. (levels, drop (4 + levels_len body) body)) (levels_in count runs)) parts e in
    let levels = mapped (λ levels. (levels, drop (4 + levels_len body) body)) (levels_in count runs) parts inside.1 in
    ap (λ (x : List ℕ × List ℕ). length x.0) (sym levels.2) ∙ length_levels (length runs) count runs levels.0 levels.1

parts_length : (is_optional : Bool) (count : ℕ) (body : List ℕ) (parts : List ℕ × List ℕ) → body_parts is_optional count body ≡ Some parts → length parts.0 ≡ count
parts_length true count body parts e = optional_length count body parts e
parts_length false count body parts e = ap (λ (x : List ℕ × List ℕ). length x.0) (sym (some_same (replicate count 1, body) parts e)) ∙ length-replicate {A = ℕ} count 1

-- what is read of a body: its levels, and the numbers behind them
pub body_read : (layout : Layout) (count : ℕ) (body : List ℕ) (values : List (Option ℤ)) → body_values layout count body ≡ Some values
    → (levels : List ℕ) × (bytes : List ℕ) × (body_parts layout.is_optional count body ≡ Some (levels, bytes)) × (length bytes ≡ given levels * size layout.is_wide)
    × (spread levels (numbers_at layout.is_wide (given levels) bytes) ≡ values)
unfolding body_values spread_at
body_read layout count body values e =
    let parts = bind_some (body_parts layout.is_optional count body) (λ parts. spread_at layout.is_wide parts.0 parts.1) values e in
    let levels = parts.0.0 in
    let bytes = parts.0.1 in
    let fits = kept (eqb (length bytes) (given levels * size layout.is_wide)) (spread levels (numbers_at layout.is_wide (given levels) bytes)) values parts.2 in
    (levels, bytes, parts.1, eqb-true (length bytes) (given levels * size layout.is_wide) fits.0, fits.1)

pub body_length : (layout : Layout) (count : ℕ) (body : List ℕ) (values : List (Option ℤ)) → body_values layout count body ≡ Some values → length values ≡ count
body_length layout count body values e =
    let b = body_read layout count body values e in
    ap length (sym b.4) ∙ (length_spread b.0 (numbers_at layout.is_wide (given b.0) b.1) ∙ parts_length layout.is_optional count body (b.0, b.1) b.2)
