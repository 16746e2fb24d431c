use Rattle.std.proofs.Common.{◌∙◌, ◌&&◌, ap, map, sym}
use Rattle.std.specs.Prelude.{find}
use Rattle.std.specs.List.{list_any}
use Rattle.std.specs.Option.{option_and_then, option_map}
use Rattle.omf_module.specs.Module.{Segment}
use Rattle.omf_module.specs.Seen.{segment_seen}
use Rattle.omf_stack.specs.Stack.{is_stack, same_class}
use Rattle.omf_stack.proofs.Classes.{in_class}
use Rattle.omf_stack.proofs.finding.stack_part.Goals as goal

pub returns-in_default : goal.returns-in_default
returns-in_default g c =
    let ss = map segment_seen c.args.segments.now in
    let next = λ (opening : Segment). find (λ (t : Segment). is_stack t && same_class opening t) ss in
    let o = c.opening.ensures (λ k. list_any (in_class k) ss) c.in_ok-classes.ensures in
    sym (ap (option_and_then next) (sym o ∙ ap (option_map segment_seen) c.in_default.is))

pub returns : goal.returns
returns g c =
    let ss = map segment_seen c.args.segments.now in
    let next = λ (opening : Segment). find (λ (t : Segment). is_stack t && same_class opening t) ss in
    let o = c.opening.ensures (λ k. list_any (in_class k) ss) c.in_ok-classes.ensures in
    c.first_of_class.ensures ∙ sym (ap (option_and_then next) (sym o ∙ ap (option_map segment_seen) c.in-Some.is))
