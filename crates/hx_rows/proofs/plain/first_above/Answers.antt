use Rattle.hx_rows.specs.Numbers.{IsWordOf}
use Rattle.hx_rows.proofs.Commas.{front-above}
use Rattle.hx_rows.proofs.Words.{each-small}
use Rattle.hx_rows.proofs.plain.first_above.Goals as goal

pub returns-clause-run : goal.returns-clause-run
returns-clause-run c =
    let text = c.args.text.now in
    let word : IsWordOf c.from_le_bytes-word.result text = (c.told-text, each-small text c.fits-text, c.from_le_bytes-word.ensures) in
    front-above text c.from_le_bytes-word.result word
