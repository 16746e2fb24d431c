use Rattle.std.proofs.Common.{rules}
use Rattle.omf_image.specs.Words.{add_word, put_word}
use Rattle.omf_image.proofs.pages.Pages.add_word.Goals as goal

pub returns-clause-bytes : goal.returns-clause-bytes
unfolding add_word put_word
returns-clause-bytes g c = search rules
