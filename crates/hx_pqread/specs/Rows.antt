-- How many rows a file has, by its footer alone.
use Rattle.std.specs.Prelude.{ℕ, List, Result, Ok}
use Rattle.hx_pqmeta.specs.declared.refusal.PqRefusal.{PqRefusal}
use Rattle.hx_thrift.specs.Texts.{◌>>=◌}
use Rattle.hx_pqmeta.specs.Footers.{rows_of, footer_in}

-- the rows of all row groups, where the footer of the file is read
unfoldable pub rows_in_footer : (file : List ℕ) → Result ℕ PqRefusal
rows_in_footer file = do
  footer ← footer_in file
  Ok (rows_of footer.groups)
