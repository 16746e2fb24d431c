use Rattle.std.proofs.Common.{ℕ, List, ◌<◌, ◌++◌, ◌∙◌, [], Some, ap, arith, flat_map, map, slice_get, subst, sym}
use Rattle.std.proofs.lemmas.Option.{slice_get-get_or}
use Rattle.std.specs.Option.{unwrap_or}
use Rattle.omf_frame.specs.Lending.{plain_frame}
use Rattle.omf_library.specs.Records.{module_records}
use Rattle.omf_lines.specs.Lines.{name_of}
use Rattle.omf_module.specs.Module.{Module}
use Rattle.link_map.specs.Detailed.{Part, attribute_byte, module_parts}
use Rattle.link_map.specs.Numbers.{bytes_of}
use Rattle.link_map.specs.inside.Details.{all_parts}
use Rattle.link_map.proofs.Grouped.{module-parts}
use Rattle.link_map.proofs.Texts.{each-done, each-more}
use Rattle.link_map.proofs.parts.program_parts.Goals as goal

pub loop-input-preserved : goal.loop-input-preserved
loop-input-preserved g c =
    let layout = c.args.layout.now in
    let inputs = bytes_of c.args.inputs.now in
    let made : ℕ × Module → List Part = λ p. module_parts layout (unwrap_or (slice_get inputs p.0) []) p in
    let old = all_parts c.loop-input.parts.items in
    let i = c.loop-input.input in
    let from = c.index-modules-input.result in
    each-more made c.args.modules.now i from old _ _ c.loop-input-test.true
    (c.in_ok-push_input.ensures
    ∙ ap (λ l. old ++ l) (module-parts layout _ _ _ _ i from
    (c.in_ok-frames.ensures ∙ ap (λ b. module_records b 0) c.slice_at.ensures)
    (c.module_name.ensures ∙ ap (λ fs. name_of (map plain_frame fs)) c.deref.ensures.value)
    (c.in_ok-attribute_bytes.ensures
    ∙ ap (λ fs. flat_map attribute_byte (map plain_frame fs)) c.deref-in-loop-input.ensures.value))
    ∙ ap (λ m. old ++ made (i, m)) c.index-modules-input.is) c.loop-input.invariant

pub returns : goal.returns
returns g c =
    let inputs = bytes_of c.args.inputs.now in
    each-done (λ p. module_parts c.args.layout.now (unwrap_or (slice_get inputs p.0) []) p)
    c.args.modules.now c.loop-input.input (all_parts c.loop-input.parts.items) _ (omega arith)
    c.loop-input.invariant

pub push_input-requires-clause-placed : goal.push_input-requires-clause-placed
push_input-requires-clause-placed g c =
    let i = c.loop-input.input in
    let from = c.index-modules-input.result in
    let is = slice_get-get_or c.args.modules.now i from c.loop-input-test.true ∙ ap Some (sym c.index-modules-input.is)
    in
    let places = c.requires.each i from is in record {
      input = subst (λ n. i < n) (sym c.requires.modules) c.loop-input-test.true;
      segments = places.segments;
      groups = places.groups;
    }
