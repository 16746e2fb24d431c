use Rattle.std.proofs.Common.{◌≡◌, drop}
use Rattle.doslink_words.specs.Tokens.{texts}
use Rattle.makefile_words.specs.Lines.{with_folders}
use Rattle.makefile_words.proofs.options.put_folders.Given as goal

abbrev pub invariant-folders : goal.invariant-folders
invariant-folders l =
    with_folders (texts l.fn.list.items) (texts l.folders)
    ≡ with_folders (texts l.list.items) (drop l.folder-index (texts l.folders))
