use Rattle.std.proofs.Common.{◌≡◌, false, is_some, take}
use Rattle.std.specs.List.{list_any}
use Rattle.omf_frame.specs.Lending.{plain_frame}
use Rattle.omf_library.specs.Records.{comment_text}
use Rattle.omf_library.proofs.defaults.has_comments.Given as goal

abbrev pub invariant-loop-frame : goal.invariant-loop-frame
invariant-loop-frame l =
    list_any (λ f. is_some (comment_text l.class (plain_frame f))) (take l.frame-index l.frames) ≡ false
