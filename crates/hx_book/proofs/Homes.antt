-- The sources that are at home, as they go and come.
use Rattle.std.proofs.Common.{◌≡◌, ◌<◌, ◌∙◌, ℕ, zero, suc, List, [], ◌∷◌, Some, None, Option, length, slice_get, refl, sym, ap, subst, inl, inr, ⊎_elim, arith}
use Rattle.std.proofs.lemmas.Bool.{cases_eq}
use Rattle.hx_base.specs.declared.task.Task.{Task}
use Rattle.hx_outside.specs.Disk.{DiskMembers}
use Rattle.hx_outside.specs.Sources.{SourceMembers}
use Rattle.hx_book.specs.Tasks.{count_of, task}
use Rattle.hx_book.specs.Books.{Inside, IsHome, IsKept, IsOwn, IsPut, JobMembers, TakesInput}
use Rattle.hx_book.proofs.Keeping.{takes_or_not}

pub slice_get_within : {X : Type 0} (xs : List X) (n : ℕ) (x : X) → slice_get xs n ≡ Some x → n < length xs
slice_get_within [] n x e = absurd (cc e)
slice_get_within (y ∷ ys) zero x e = omega arith
slice_get_within (y ∷ ys) (suc n) x e = let l = slice_get_within ys n x e in omega (arith, l)

pub count_of_inputs : (i p k : ℕ) → TakesInput k → count_of i p k ≡ i
count_of_inputs i p k (inl e) = ap (λ (x : ℕ). count_of i p x) e
count_of_inputs i p k (inr e) = ap (λ (x : ℕ). count_of i p x) e

module _ {Src S : Type 0} (j : JobMembers) (source : SourceMembers Src) (d : DiskMembers S) (b : Inside Src S) (h : IsKept j source d b) where
  -- a source goes out with a task that is claimed
  pub claimed_own : (n : ℕ) (own : Option Src) → b.held ≡ None → slice_get b.homes n ≡ Some own → TakesInput b.stage → IsOwn j source (task b.stage n) own
  claimed_own n None free at takes = absurd (let a = h.away n at in let c : None ≡ Some n = sym free ∙ a.0 in cc c)
  claimed_own n (Some s) free at takes = record { takes = λ again. (s, refl, h.homes n s at); none = λ not. absurd (not takes) }

  module _ (t : Task) (own : Option Src) (more : List (Option Src)) (held : b.held ≡ Some t.number) (kind : t.kind ≡ b.stage) (is : IsOwn j source t own) (put : IsPut t.number own b.homes more) where
    takes_here : TakesInput t.kind → TakesInput b.stage
    takes_here takes = subst TakesInput kind takes

    came : TakesInput t.kind → (s : Src) × (slice_get more t.number ≡ Some (Some s)) × IsHome j source t.number s
    came takes =
        let (s, given, home) = is.takes takes in
        (s, put.there (slice_get_within b.homes t.number None (h.gone t.number held (takes_here takes))) s given, home)

    pub put_all : (n : ℕ) (s : Src) → slice_get more n ≡ Some (Some s) → IsHome j source n s
    put_all n s at = ⊎_elim
        (λ (e : n ≡ t.number). ⊎_elim
        (λ takes.
        let (own_s, there, home) = came takes in
        let same : own_s ≡ s = (let c : Some (Some own_s) ≡ Some (Some s) = sym there ∙ subst (λ (k : ℕ). slice_get more k ≡ Some (Some s)) e at in cc c) in
        subst (λ (k : ℕ). IsHome j source k s) (sym e) (subst (IsHome j source t.number) same home))
        (λ no. h.homes n s (subst (λ (l : List (Option Src)). slice_get l n ≡ Some (Some s)) (put.none (is.none no)) at))
        (takes_or_not t.kind))
        (λ other. h.homes n s (sym (put.others n other) ∙ at))
        (cases_eq n t.number)

    pub put_none : (n : ℕ) → slice_get more n ≡ Some None → ⊥
    put_none n at = ⊎_elim
        (λ (e : n ≡ t.number). ⊎_elim
        (λ takes.
        let (own_s, there, home) = came takes in
        let c : Some (Some own_s) ≡ Some None = sym there ∙ subst (λ (k : ℕ). slice_get more k ≡ Some None) e at in cc c)
        (λ no. no (subst TakesInput (sym kind) (h.away n (subst (λ (l : List (Option Src)). slice_get l n ≡ Some None) (put.none (is.none no)) at)).1))
        (takes_or_not t.kind))
        (λ other. let a = h.away n (sym (put.others n other) ∙ at) in let c : Some n ≡ Some t.number = sym a.0 ∙ held in other (cc c))
        (cases_eq n t.number)

    -- what was at home is so still
    pub put_stays : (n : ℕ) (s : Src) → slice_get b.homes n ≡ Some (Some s) → slice_get more n ≡ Some (Some s)
    put_stays n s at = ⊎_elim
        (λ (e : n ≡ t.number). ⊎_elim
        (λ takes. absurd (let c : Some None ≡ Some (Some s) = sym (h.gone t.number held (takes_here takes)) ∙ subst (λ (k : ℕ). slice_get b.homes k ≡ Some (Some s)) e at in cc c))
        (λ no. subst (λ (l : List (Option Src)). slice_get l n ≡ Some (Some s)) (sym (put.none (is.none no))) at)
        (takes_or_not t.kind))
        (λ other. put.others n other ∙ at)
        (cases_eq n t.number)

    -- the task's source is at home now
    pub put_own : (n : ℕ) (s : Src) → n ≡ t.number → own ≡ Some s → slice_get more n ≡ Some (Some s)
    put_own n s e given = ⊎_elim
        (λ takes. subst (λ (k : ℕ). slice_get more k ≡ Some (Some s)) (sym e) (put.there (slice_get_within b.homes t.number None (h.gone t.number held (takes_here takes))) s given))
        (λ no. absurd (let c : Some s ≡ None = sym given ∙ is.none no in cc c))
        (takes_or_not t.kind)
