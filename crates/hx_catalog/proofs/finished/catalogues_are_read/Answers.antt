use Rattle.hx_catalog.proofs.Whole.{is-opened, margin-loaded, rows-loaded}
use Rattle.hx_catalog.proofs.finished.catalogues_are_read.Goals as goal

pub returns-clause-opens : goal.returns-clause-opens
returns-clause-opens c folder name settings rows side is = is-opened folder name settings rows is side

pub returns-clause-rows : goal.returns-clause-rows
returns-clause-rows c folder name settings rows side part pixel is at = rows-loaded folder name settings rows is side part pixel at c.sorted_rows_of_lists.ensures.as_often

pub returns-clause-margins : goal.returns-clause-margins
returns-clause-margins c folder name settings rows side part pixel is at = margin-loaded folder name settings rows is side part pixel at
