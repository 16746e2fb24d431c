use Rattle.std.proofs.Common.{subst, sym}
use Rattle.omf_codec.specs.inside.Heads.{by_head_make}
use Rattle.omf_record.specs.Body.{ReferenceText}
use Rattle.omf_record.specs.Canonical.{reference}
use Rattle.omf_record.specs.inside.Ends.{EndText, ByAttribute}
use Rattle.omf_record.proofs.fixups.AttributeMadeEndParts.make.Goals as goal

pub returns : goal.returns
returns c =
    λ text l.
    subst (λ y. EndText ReferenceText reference y text) (sym c.end_of.ensures)
    (by_head_make (ByAttribute ReferenceText reference) c.args.parts text l)
