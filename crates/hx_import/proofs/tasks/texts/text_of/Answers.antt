use Rattle.std.proofs.Common.{◌∙◌, ap}
use Rattle.hx_base.specs.declared.settings.Settings.{Settings}
use Rattle.hx_catalog.specs.Properties.{properties_text}
use Rattle.hx_import.proofs.tasks.texts.text_of.Goals as goal

pub returns-clause-text : goal.returns-clause-text
returns-clause-text c =
    c.in_ok-properties_text.ensures
    ∙ ap (λ (s : Settings). properties_text (record { settings = s; margin = c.args.margin; rows = c.args.rows; partitions = c.args.partitions })) c.in_ok-settings.ensures
