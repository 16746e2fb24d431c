use Rattle.std.proofs.Common.{◌≡◌, ◌∙◌, Some, ap, map, sym}
use Rattle.std.proofs.lemmas.Result.{IfOk-weaker}
use Rattle.std.specs.Option.{option_map}
use Rattle.omf_module.specs.Seen.{segment_seen}
use Rattle.omf_stack.specs.Answer.{wanted_by}
use Rattle.omf_stack.specs.Stack.{segments, stack_length, stack_part}
use Rattle.omf_stack.specs.inside.Wanted.{wanted_left}
use Rattle.omf_stack.proofs.Promised.{answer-some, stack-fits, wanted-is}
use Rattle.omf_stack.proofs.making.stack_module.Goals as goal

pub wanted_by-requires-clause-name : goal.wanted_by-requires-clause-name
wanted_by-requires-clause-name g c =
    let all = ap (map segment_seen) c.deref.ensures.value ∙ c.in_ok-segments.ensures in
    let e : stack_part (segments c.args.modules.now) ≡ Some (segment_seen c.in-Some.stack) =
    sym (ap stack_part all) ∙ sym c.in_ok-stack.ensures ∙ ap (option_map segment_seen) c.in-Some.is in
    (stack-fits c.args.modules.now (segment_seen c.in-Some.stack) c.all_promise.ensures e).name

pub wanted_by-requires-clause-class : goal.wanted_by-requires-clause-class
wanted_by-requires-clause-class g c =
    let all = ap (map segment_seen) c.deref.ensures.value ∙ c.in_ok-segments.ensures in
    let e : stack_part (segments c.args.modules.now) ≡ Some (segment_seen c.in-Some.stack) =
    sym (ap stack_part all) ∙ sym c.in_ok-stack.ensures ∙ ap (option_map segment_seen) c.in-Some.is in
    (stack-fits c.args.modules.now (segment_seen c.in-Some.stack) c.all_promise.ensures e).class

pub returns-in-Some : goal.returns-in-Some
returns-in-Some g c =
    let st = segment_seen c.in-Some.stack in
    let ms = c.args.modules.now in
    let all = ap (map segment_seen) c.deref.ensures.value ∙ c.in_ok-segments.ensures in
    let again = ap (map segment_seen) c.deref-in-Some.ensures.value ∙ c.in_ok-segments.ensures in
    let e : stack_part (segments ms) ≡ Some st =
    sym (ap stack_part all) ∙ sym c.in_ok-stack.ensures ∙ ap (option_map segment_seen) c.in-Some.is in
    let asked = c.min-asked.result in
    IfOk-weaker c.wanted_by.result _ _
    (λ s h. h
    ∙ ap (wanted_left st) c.bytes_left.ensures
    ∙ wanted-is st (stack_length st (map segment_seen c.deref-in-Some.result.now)) asked
    ∙ ap (λ xs. wanted_by st (stack_length st xs) asked) again
    ∙ ap (wanted_by st (stack_length st (segments ms))) c.min-asked.ensures
    ∙ sym (answer-some ms c.args.bytes st e))
    c.wanted_by.ensures
