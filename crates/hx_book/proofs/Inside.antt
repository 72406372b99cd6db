-- The files that an import changes stand in the three folders of the catalogue's name.
use Rattle.std.proofs.Common.{◌++◌, ℕ, List, codes, sym, inl, inr, append_assoc, refl}
use Rattle.std.specs.Fmt.{decimal}
use Rattle.hx_base.specs.Paths.{rows_part}
use Rattle.hx_base.specs.declared.pixel.Pixel.{Pixel}
use Rattle.hx_base.specs.declared.task.Task.{Task}
use Rattle.hx_journal.specs.Journal.{journal_file, temporary_file}
use Rattle.hx_book.specs.Tasks.{pixel_at, task_path}
use Rattle.hx_book.specs.Books.{IsInside}
use Rattle.hx_book.proofs.Paths.{IsNumbered, by_kind}

pub journal_inside : (name : List ℕ) → IsInside name (journal_file name)
journal_inside name = (codes "journal", inl refl)

pub temporary_inside : (name : List ℕ) → IsInside name (temporary_file name)
temporary_inside name = (codes "tmp", inl (sym (append_assoc name (codes ".work/") (codes "tmp"))))

pub path_inside : (name : List ℕ) (parts : List Pixel) (t : Task) → IsNumbered t → IsInside name (task_path name parts t)
path_inside name parts t is = by_kind (λ u. IsInside name (task_path name parts u))
    (λ n less. (codes "map-" ++ decimal n, inl refl)) (codes "plan", inl refl) (λ n less. (codes "split-" ++ decimal n, inl refl)) (λ n less. (rows_part (pixel_at parts n), inr (inl refl)))
    (λ n less. (codes "msplit-" ++ decimal n, inl refl)) (λ n less. (rows_part (pixel_at parts n), inr (inr refl)))
    (codes "partition_info.csv", inr (inl refl)) (codes "partition_info.csv", inr (inr refl)) (codes "hats.properties", inr (inr refl)) (codes "hats.properties", inr (inl refl))
    t is
