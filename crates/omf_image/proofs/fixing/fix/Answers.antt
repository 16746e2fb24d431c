use Rattle.std.proofs.Common.{◌∙◌, sym}
use Rattle.omf_image.proofs.Meaning.{first_four}
use Rattle.omf_image.proofs.fixing.fix.Goals as goal

pub returns-clause-gives : goal.returns-clause-gives
returns-clause-gives g c bytes base earlier h = (
  first_four _ _ _ _ (sym c.range_fault.ensures ∙ c.in_default.is)
      (sym (c.are_clear.ensures earlier h.marked) ∙ c.if-not-are_clear.false),
  c.add_hits.ensures.holds bytes base earlier h,
)

pub are_clear-requires-clause-room : goal.are_clear-requires-clause-room
are_clear-requires-clause-room g c = c.requires.room

pub are_clear-requires-clause-hits : goal.are_clear-requires-clause-hits
are_clear-requires-clause-hits g c = c.requires.hits

pub add_hits-requires-clause-room : goal.add_hits-requires-clause-room
add_hits-requires-clause-room g c = c.requires.room

pub add_hits-requires-clause-hits : goal.add_hits-requires-clause-hits
add_hits-requires-clause-hits g c = c.requires.hits

pub returns-clause-room : goal.returns-clause-room
returns-clause-room g c = c.add_hits.ensures.room

pub returns-clause-same : goal.returns-clause-same
returns-clause-same g c = c.add_hits.ensures.same
