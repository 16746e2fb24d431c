use Rattle.std.proofs.Common.{◌≡◌, map, drop}
use Rattle.omf_image.specs.Words.{add_words}
use Rattle.mz.specs.Header.{entry_address}
use Rattle.mz.proofs.loading.relocate.Given as goal

abbrev pub invariant-loop-entry : goal.invariant-loop-entry
invariant-loop-entry l =
    add_words l.paragraph (map entry_address (drop l.entry-index l.entries)) l.bytes
    ≡ add_words l.paragraph (map entry_address l.entries) l.initial.bytes
