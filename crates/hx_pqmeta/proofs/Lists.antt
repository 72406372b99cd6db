-- Lists of structs, by their header and their elements.
use Rattle.std.proofs.Common.{◌≡◌, ℕ, zero, suc, List, [], ◌∷◌, length, map, Some, None, Ok, Err, ◌⊎◌, inl, inr, false, nat_eq, refl, sym, ap, ◌∙◌, arith}
use Rattle.std.proofs.lemmas.Bool.Decides.{nat_tests}
use Rattle.hx_thrift.specs.declared.header.ListHead.{ListHead}
use Rattle.hx_thrift.specs.declared.refusal.ThriftRefusal.{ThriftRefusal}
use Rattle.hx_thrift.specs.Texts.{Text, Read, ◌>>=◌, read_as}
use Rattle.hx_thrift.specs.Kinds.{part_kind}
use Rattle.hx_thrift.specs.Values.{Node, elements, Value}
use Rattle.hx_thrift.specs.Reading.{list_at, elements_at, sequence_at, container_at, value_at}
use Rattle.hx_pqmeta.specs.Fields.{entries_in, structs_of}

as_as : {A B C : Type 0} (f : B → C) (g : A → B) (read : Read A) → read_as f (read_as g read) ≡ read_as (λ x. f (g x)) read
as_as f g (Ok x) = refl
as_as f g (Err refusal) = refl

made : {A B : Type 0} (make : A → B) (read : Read A) (value : B) (rest : Text) → read_as make read ≡ Ok (value, rest) → (x : A) × (read ≡ Ok (x, rest)) × (value ≡ make x)
made {B = B} make (Ok x) value rest is =
    let same : ◌≡◌ {A = B × Text} (make x.0, x.1) (value, rest) = cc in
    (x.0, ap (λ (y : Text). Ok (x.0, y)) (ap (λ y. y.1) same), sym (ap (λ y. y.0) same))
made make (Err refusal) value rest is = absurd cc

-- so many elements are read
more : {A : Type 0} (n : ℕ) (first : Read A) (others : Text → Read (List A)) (rest : Text) (xs : List A) → ((text : Text) (ys : List A) → others text ≡ Ok (ys, rest) → length ys ≡ n)
    → first >>= (λ x. read_as (λ ys. x.0 ∷ ys) (others x.1)) ≡ Ok (xs, rest) → length xs ≡ suc n
more n (Ok x) others rest xs so_many is =
    let behind = made (λ ys. x.0 ∷ ys) (others x.1) xs rest is in
    rw behind.2 (omega (arith, so_many x.1 behind.0 behind.1))
more n (Err refusal) others rest xs so_many is = absurd cc

pub count : {A : Type 0} (read : Text → Read A) (n : ℕ) (text rest : Text) (xs : List A) → elements_at read n text ≡ Ok (xs, rest) → length xs ≡ n
unfolding elements_at
count {A = A} read zero text rest xs is =
    let same : ◌≡◌ {A = List A × Text} (xs, rest) ([], text) = cc in
    ap (λ y. length y.0) same
count read (suc n) text rest xs is = more n (read text) (λ y. elements_at read n y) rest xs (λ y ys each. count read n y rest ys each) is

-- a list, behind its header
behind_header : (levels : ℕ) (text body : Text) (head : ListHead) → list_at text ≡ Ok (head, body)
    → value_at (suc levels) 9 text ≡ read_as (λ xs. elements head.kind xs) (elements_at (value_at levels (part_kind head.kind)) head.size body)
unfolding value_at container_at sequence_at
behind_header levels text body head header = rw header (as_as (λ x. elements x.0 x.1) (λ xs. (head.kind, xs)) (elements_at (value_at levels (part_kind head.kind)) head.size body))

pub no_header : (levels : ℕ) (text : Text) (refusal : ThriftRefusal) → list_at text ≡ Err refusal → value_at (suc levels) 9 text ≡ Err refusal
unfolding value_at container_at sequence_at
no_header levels text refusal header = rw header refl

-- a list of structs, or of nothing
same_elements : (levels kind size : ℕ) (body : Text) → (kind ≡ 12) ⊎ (size ≡ 0) → elements_at (value_at levels (part_kind kind)) size body ≡ elements_at (value_at levels 12) size body
unfolding elements_at
same_elements levels kind size body (inl structs) = rw structs refl
same_elements levels kind size body (inr none) = rw none refl

pub structs_behind : (levels : ℕ) (text body : Text) (head : ListHead) → list_at text ≡ Ok (head, body) → (head.kind ≡ 12) ⊎ (head.size ≡ 0)
    → value_at (suc levels) 9 text ≡ read_as (λ xs. elements head.kind xs) (elements_at (value_at levels 12) head.size body)
structs_behind levels text body head header may = behind_header levels text body head header ∙ ap (read_as (λ xs. elements head.kind xs)) (same_elements levels head.kind head.size body may)

pub are_structs : {A : Type 0} (kind size : ℕ) (xs : List (Node A)) → (kind ≡ 12) ⊎ (size ≡ 0) → length xs ≡ size → structs_of (elements kind xs) ≡ Some (map entries_in xs)
are_structs kind size [] may all = refl
are_structs kind size (x ∷ xs) (inl structs) all = rw structs refl
are_structs kind size (x ∷ xs) (inr none) all = absurd (omega (arith, all, none))

-- any other list
pub no_structs : (levels : ℕ) (text body rest : Text) (head : ListHead) (value : Value (suc (suc levels))) → list_at text ≡ Ok (head, body) → ((head.kind ≡ 12) ⊎ (head.size ≡ 0) → ⊥)
    → value_at (suc (suc levels)) 9 text ≡ Ok (value, rest) → structs_of value ≡ None
no_structs levels text body rest head value header may_not read =
    let part = elements_at (value_at (suc levels) (part_kind head.kind)) head.size body in
    let xs = made (λ xs. elements head.kind xs) part value rest (sym (behind_header (suc levels) text body head header) ∙ read) in
    rw xs.2 (others head.kind head.size xs.0 may_not (count (value_at (suc levels) (part_kind head.kind)) head.size body rest xs.0 xs.1)) where
      others : {A : Type 0} (kind size : ℕ) (xs : List (Node A)) → ((kind ≡ 12) ⊎ (size ≡ 0) → ⊥) → length xs ≡ size → structs_of (elements kind xs) ≡ None
      others kind size [] may_not all = absurd (may_not (inr (sym all)))
      others kind size (x ∷ xs) may_not all =
          let not_struct : kind ≡ 12 → ⊥ = λ is. may_not (inl is) in
          let other : nat_eq kind 12 ≡ false = grind (arith, nat_tests) in
          rw other refl
