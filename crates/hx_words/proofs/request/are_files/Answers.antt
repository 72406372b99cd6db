use Rattle.hx_words.proofs.FileWords.{files_are, some_word, words_are}
use Rattle.hx_words.proofs.request.are_files.Goals as goal

pub returns-then-not-is_empty : goal.returns-then-not-is_empty
returns-then-not-is_empty c = (
  λ all. files_are c.args.words.now (some_word c.args.words.now c.if-not-is_empty.ensures) (c.are_file_words.ensures.0 all),
  λ files. c.are_file_words.ensures.1 (words_are c.args.words.now files),
)
