use Rattle.hx_rows.specs.Numbers.{IsWordOf}
use Rattle.hx_rows.proofs.Words.{each-small}
use Rattle.hx_rows.proofs.digits.eight_digits.Goals as goal

pub returns : goal.returns
returns c =
    let text = c.args.text.now in
    let word : IsWordOf c.from_le_bytes.result text = (c.told-text, each-small text c.fits-text, c.from_le_bytes.ensures) in
    let told = c.in_ok-digits.ensures text word in
    (told.0, c.value_of.ensures text told.0 told.1)
