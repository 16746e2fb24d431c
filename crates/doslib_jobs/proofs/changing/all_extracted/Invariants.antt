use Rattle.std.proofs.Common.{◌≡◌, drop, map}
use Rattle.omf_library.specs.Members.{joined}
use Rattle.doslib_words.specs.Words.{texts}
use Rattle.doslib_jobs.specs.Libraries.{all_extracted}
use Rattle.doslib_jobs.specs.inside.Libraries.{extracted_said}
use Rattle.doslib_jobs.proofs.changing.all_extracted.Given as goal

abbrev pub invariant-loop-name : goal.invariant-loop-name
invariant-loop-name g l =
    joined (map extracted_said l.found.items) (all_extracted (texts (drop l.name-index l.names)) (texts l.members))
    ≡ all_extracted (texts l.names) (texts l.members)
