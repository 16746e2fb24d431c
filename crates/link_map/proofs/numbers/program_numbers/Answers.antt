use Rattle.std.proofs.Common.{ℕ, List, ◌<◌, ◌++◌, ◌∙◌, [], Some, ap, ap₂, arith, filter, slice_get, subst, sym}
use Rattle.std.proofs.lemmas.Option.{slice_get-get_or}
use Rattle.std.specs.Option.{unwrap_or}
use Rattle.omf_lines.specs.Lines.{is_of, module_lines, module_name}
use Rattle.omf_module.specs.Module.{Module}
use Rattle.link_map.specs.Numbers.{bytes_of, lines_in_segments, module_numbers}
use Rattle.link_map.proofs.BySegment.{sorted-text}
use Rattle.link_map.proofs.Texts.{each-done, each-more}
use Rattle.link_map.proofs.numbers.program_numbers.Goals as goal

pub loop-input-preserved : goal.loop-input-preserved
loop-input-preserved g c =
    let layout = c.args.layout.now in
    let files = bytes_of c.args.sources.files.now in
    let inputs = bytes_of c.args.sources.inputs.now in
    let text : ℕ × Module → List ℕ = λ p. module_numbers layout (unwrap_or (slice_get files p.0) []) (unwrap_or (slice_get inputs p.0) []) p in
    let old = c.loop-input.text.items in
    let i = c.loop-input.input in
    let from = c.index-modules-input.result in
    let said = c.in_ok-said.said in
    let file = unwrap_or (slice_get files i) [] in
    let bytes = unwrap_or (slice_get inputs i) [] in
    each-more text c.args.modules.now i from old _ _ c.loop-input-test.true
    (c.in_ok-push_segments.ensures
    ∙ ap (λ t. old ++ t)
    (ap₂ (λ f n. lines_in_segments layout f n said.lines.items (i, from)) c.slice_at-in-loop-input.ensures
    (c.in_ok-said.ensures.name ∙ ap module_name c.slice_at.ensures)
    ∙ sorted-text layout file (module_name bytes) said.lines.items (module_lines bytes) i from
    (λ segment. c.in_ok-said.ensures.lines.1 segment
    ∙ ap (λ b. filter (is_of segment) (module_lines b)) c.slice_at.ensures))
    ∙ ap (λ m. old ++ text (i, m)) c.index-modules-input.is) c.loop-input.invariant

pub returns : goal.returns
returns g c =
    let files = bytes_of c.args.sources.files.now in
    let inputs = bytes_of c.args.sources.inputs.now in
    each-done (λ p. module_numbers c.args.layout.now (unwrap_or (slice_get files p.0) [])
    (unwrap_or (slice_get inputs p.0) []) p) c.args.modules.now c.loop-input.input c.loop-input.text.items _ (omega arith)
    c.loop-input.invariant

pub push_segments-requires : goal.push_segments-requires
push_segments-requires g c =
    let i = c.loop-input.input in
    let from = c.index-modules-input.result in
    let is = slice_get-get_or c.args.modules.now i from c.loop-input-test.true ∙ ap Some (sym c.index-modules-input.is)
    in
    let places = c.requires.each i from is in record {
      placed = record {
        input = subst (λ n. i < n) (sym c.requires.modules) c.loop-input-test.true;
        segments = places.segments;
        groups = places.groups;
      };
      rising = c.in_ok-said.ensures.lines.0;
    }
