use Rattle.std.proofs.Common.{map}
use Rattle.omf_record.specs.Expansion.{contents}
use Rattle.omf_record.specs.View.{block_view}
use Rattle.omf_record.proofs.Together.{together, whole}
use Rattle.omf_record.proofs.content.place_in_content.Goals as goal

pub returns-in-Inside-clause-together : goal.returns-in-Inside-clause-together
unfolding contents
returns-in-Inside-clause-together g c =
    λ _. together (map block_view c.args.blocks.now) c.args.at c.args.width c.in-Inside.ensures

pub returns-in-Inside-clause-whole : goal.returns-in-Inside-clause-whole
unfolding contents
returns-in-Inside-clause-whole g c =
    λ _. whole (map block_view c.args.blocks.now) c.args.at c.args.width c.in-Inside.ensures
