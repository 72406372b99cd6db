use Rattle.hx_xmatch.proofs.Finished.{CatalogueLaws, answer_is, match_is, none_is}
use Rattle.hx_xmatch.proofs.laws.finished_catalogues_are_matched.Goals as goal

pub returns-clause-text : goal.returns-clause-text
returns-clause-text c = λ folder query left_settings right_settings left right is_left is_right.
    let laws : CatalogueLaws = record {
      opening = c.answers_are_one.ensures.opening;
      loading = c.answers_are_one.ensures.loading;
      reads_rows = c.catalogues_are_read.ensures.rows;
      reads_margins = c.catalogues_are_read.ensures.margins;
      cut = c.catalogues_are_cut.ensures;
      lists = c.lists_have_one_reading.ensures.one;
    } in
    match_is laws folder query left_settings right_settings left right is_left is_right

pub returns-clause-covered : goal.returns-clause-covered
returns-clause-covered c = λ folder query left_settings right_settings left right is_left is_right.
    let laws : CatalogueLaws = record {
      opening = c.answers_are_one.ensures.opening;
      loading = c.answers_are_one.ensures.loading;
      reads_rows = c.catalogues_are_read.ensures.rows;
      reads_margins = c.catalogues_are_read.ensures.margins;
      cut = c.catalogues_are_cut.ensures;
      lists = c.lists_have_one_reading.ensures.one;
    } in
    none_is laws folder query left_settings right_settings left right is_left is_right

pub returns-clause-refused : goal.returns-clause-refused
returns-clause-refused c = λ folder query left_settings right_settings left right is_left is_right.
    let laws : CatalogueLaws = record {
      opening = c.answers_are_one.ensures.opening;
      loading = c.answers_are_one.ensures.loading;
      reads_rows = c.catalogues_are_read.ensures.rows;
      reads_margins = c.catalogues_are_read.ensures.margins;
      cut = c.catalogues_are_cut.ensures;
      lists = c.lists_have_one_reading.ensures.one;
    } in
    answer_is laws folder query left_settings right_settings left right is_left is_right
