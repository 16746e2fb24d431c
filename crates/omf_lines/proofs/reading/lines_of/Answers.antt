use Rattle.std.proofs.Common.{[], ◌∙◌, map, ap, arith}
use Rattle.std.proofs.lemmas.List.{take_all}
use Rattle.std.specs.List.{flat_map}
use Rattle.omf_frame.specs.Lending.{plain_frame}
use Rattle.omf_library.proofs.Gathering.{gather-turn}
use Rattle.omf_lines.specs.Lines.{lines_in}
use Rattle.omf_lines.proofs.reading.lines_of.Goals as goal

pub loop-frame-preserved : goal.loop-frame-preserved
loop-frame-preserved g c =
    gather-turn plain_frame lines_in _ c.loop-frame.frame-index c.frame-item.result [] c.loop-frame.lines.items _
    c.loop-frame-test.true c.frame-item.is c.loop-frame.invariant c.in_ok-push_lines.ensures

pub returns : goal.returns
returns g c =
    c.loop-frame.invariant
    ∙ ap (λ fs. flat_map lines_in (map plain_frame fs)) (take_all c.loop-frame.frame-index _ (omega arith))
