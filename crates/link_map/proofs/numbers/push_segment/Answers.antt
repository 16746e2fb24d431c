use Rattle.std.proofs.Common.{rules, ◌≡◌, ◌<◌, ◌++◌, ◌∙◌, ℕ, List, OnOk, ap, length, subst, sym}
use Rattle.std.proofs.lemmas.Option.{same_Some}
use Rattle.omf_module.specs.Module.{Segment}
use Rattle.omf_place.specs.Layout.{places_of, segment_position}
use Rattle.link_map.specs.Numbers.{number_rows, numbers_heading}
use Rattle.link_map.proofs.BySegment.{not-empty, numbers-none, numbers-some}
use Rattle.link_map.proofs.Texts.{then-ok}
use Rattle.link_map.proofs.numbers.push_segment.Goals as goal

pub returns-then-is_empty : goal.returns-then-is_empty
returns-then-is_empty g c segment there =
    let input = c.args.input.now in
    let none : length c.args.lines.now ≡ 0 = search rules in
    numbers-none (places_of input.layout.now input.input) (segment_position input.layout.now input.input c.args.index)
    (numbers_heading input.file.now input.numbered.now.name.now segment.name) c.args.lines.now c.args.text.now.items none

pub returns : goal.returns
returns g c segment there =
    let input = c.args.input.now in
    let places = places_of input.layout.now input.input in
    let position = segment_position input.layout.now input.input c.args.index in
    let lines = c.args.lines.now in
    let some : 0 < length lines = not-empty _ c.is_empty.result c.is_empty.ensures c.if-is_empty.false in
    let heading : List ℕ → List ℕ = λ n. numbers_heading input.file.now input.numbered.now.name.now n in
    let r = c.push_rows.result in
    let s0 = c.args.text.now.items in
    let s2 = c.push_rows.new.text.items in
    subst (λ l. OnOk r (s2 ≡ s0 ++ l))
    (ap (λ (s : Segment). heading s.name ++ number_rows places c.segment_position-position.result lines)
    (sym (same_Some _ _ (sym there ∙ c.segment-segment.ensures)))
    ∙ ap (λ p. heading segment.name ++ number_rows places p lines) c.segment_position-position.ensures
    ∙ numbers-some places position (heading segment.name) lines some)
    (then-ok r s0 c.push_heading.new.text.items s2 _ _ c.in_ok-push_heading.ensures c.push_rows.ensures)
