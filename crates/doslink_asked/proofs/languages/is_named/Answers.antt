use Rattle.std.proofs.lemmas.Bool.Decides.{same_from_decides}
use Rattle.std.proofs.lemmas.Slice.Eq.{bytes_eq-Decides}
use Rattle.doslink_words.specs.Keywords.{is_keyword}
use Rattle.doslink_asked.proofs.languages.is_named.Goals as goal

pub returns : goal.returns
unfolding is_keyword
returns c = same_from_decides _ _ c.eq_ignore_ascii_case.ensures.test (bytes_eq-Decides _ _)
