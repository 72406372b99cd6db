-- Where a catalogue is absent, that is answered, or something that may come first.
use Rattle.std.proofs.Common.{◌≡◌, ◌⊎◌, ℕ, List, Option, Some, None, Ok, inl, inr}
use Rattle.std.specs.Prelude.{IsSome}
use Rattle.hx_base.specs.declared.refusal.JobFile.{JobFile}
use Rattle.hx_base.specs.declared.refusal.Refusal.{Refusal}
use Rattle.hx_catalog.specs.Answers.{IsDamagedAt, Opened, Opens}
use Rattle.hx_catalog.specs.Files.{properties_file}
use Rattle.hx_outside.specs.Folders.{Folder}
use Rattle.hx_xmatch.specs.Files.{NamesFileOf}
use Rattle.hx_xmatch.specs.Outcomes.{AreOpened, IsAbsent, IsMatchRefusal, MayComeFirst}
use Rattle.hx_xmatch.specs.declared.query.Query.{Query}

there : (file : Option (List ℕ)) (bytes : List ℕ) → file ≡ Some bytes → file ≡ None → ⊥
there file bytes is none = cc (is, none)

some_there : (file : Option (List ℕ)) → IsSome file → file ≡ None → ⊥
some_there None some none = cc some
some_there (Some bytes) some none = cc none

-- an opened catalogue is there
left_there : (folder : Folder) (name : List ℕ) (side : ℕ) (opened : Opened) → Opens folder name side (Ok opened) → folder (properties_file name) ≡ None → ⊥
left_there folder name side opened opens none = there (folder (properties_file name)) _ opens.1.own.text none

pub opened_there : (folder : Folder) (query : Query) (left right : Opened) (first : Refusal) → AreOpened folder query left right → IsAbsent folder query first → ⊥
opened_there folder query left right first opened (inl (e, none)) = left_there folder query.left 1 left opened.left_opens none
opened_there folder query left right first opened (inr (e, some, none)) = left_there folder query.right 2 right opened.right_opens none

names : (side : ℕ) (file : JobFile) (IsDamage : ℕ → Type 0) (given : Refusal) → IsDamagedAt side file IsDamage given → NamesFileOf side given
names side file IsDamage given (place, is, damage) = (file, place, is)

pub absent_first : (folder : Folder) (query : Query) (given first : Refusal) → IsAbsent folder query first → IsMatchRefusal folder query given → (Some given ≡ Some first) ⊎ MayComeFirst given
absent_first folder query given first absent (inl (inl out)) = inr (inl out)
absent_first folder query given first (inl (e, none)) (inl (inr (inl (inl (is, gone))))) = inl (cc (e, is))
absent_first folder query given first (inr (e, some, none)) (inl (inr (inl (inl (is, gone))))) = absurd (some_there (folder (properties_file query.left)) some gone)
absent_first folder query given first absent (inl (inr (inl (inr (inl damaged))))) = inr (inr (inl (names 1 _ _ given damaged)))
absent_first folder query given first absent (inl (inr (inl (inr (inr (properties, damaged)))))) = inr (inr (inl (names 1 _ _ given damaged)))
absent_first folder query given first (inl (e, none)) (inl (inr (inr ((left, opens), not)))) = absurd (left_there folder query.left 1 left opens none)
absent_first folder query given first (inr (e, some, none)) (inl (inr (inr ((left, opens), inl (is, gone))))) = inl (cc (e, is))
absent_first folder query given first (inr (e, some, none)) (inl (inr (inr ((left, opens), inr (inl damaged))))) = inr (inr (inr (names 2 _ _ given damaged)))
absent_first folder query given first (inr (e, some, none)) (inl (inr (inr ((left, opens), inr (inr (properties, damaged)))))) = inr (inr (inr (names 2 _ _ given damaged)))
absent_first folder query given first absent (inr (left, right, opened, test)) = absurd (opened_there folder query left right first opened absent)
