-- The names of the output's files: they differ, and lie in no folder.
use Rattle.std.proofs.Common.{◌≢◌, ◌<◌, ◌⊎◌, ℕ, List, length, ap, arith, inl, inr, length-append}
use Rattle.std.specs.Prelude.{codes}
use Rattle.std.proofs.lemmas.List.Elements.{All-append, All-from_recursion, All-weaker}
use Rattle.hx_base.specs.Names.{IsName, IsNameByte}
use Rattle.hx_xmatch.specs.Output.{HasNoFolder, output_file, temporary_file}

pub names_apart : (name : List ℕ) → temporary_file name ≢ output_file name
names_apart name e = omega (arith, ap length e, length-append name (codes ".csv.tmp"), length-append name (codes ".csv"))

no_slash : (byte : ℕ) → IsNameByte byte → byte ≢ 47
no_slash byte (inl h) e = omega (arith, h.0, e)
no_slash byte (inr (inl h)) e = omega (arith, h.0, e)
no_slash byte (inr (inr h)) e = omega (arith, h, e)

other : (byte : ℕ) → 47 < byte ⊎ byte < 47 → byte ≢ 47
other byte (inl h) e = omega (arith, h, e)
other byte (inr h) e = omega (arith, h, e)

end_plain : HasNoFolder (codes ".csv.tmp")
end_plain = All-from_recursion (λ byte. byte ≢ 47) (codes ".csv.tmp") (
  other 46 (inr (omega arith)),
  (
    other 99 (inl (omega arith)),
    (
      other 115 (inl (omega arith)),
      (
        other 118 (inl (omega arith)),
        (other 46 (inr (omega arith)), (other 116 (inl (omega arith)), (other 109 (inl (omega arith)), (other 112 (inl (omega arith)), tt)))),
      ),
    ),
  ),
)

pub no_folder : (name : List ℕ) → IsName name → HasNoFolder (temporary_file name)
no_folder name is = All-append (λ byte. byte ≢ 47) name (codes ".csv.tmp") (All-weaker IsNameByte (λ byte. byte ≢ 47) no_slash name is.bytes) end_plain
