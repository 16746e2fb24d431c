use Rattle.std.proofs.Common.{◌<◌, ◌++◌, ◌∙◌, Some, ap, ap₂, append_assoc, arith, subst, sym}
use Rattle.std.proofs.lemmas.Option.{slice_get-get_or}
use Rattle.std.specs.List.{enumerate_from, flat_map}
use Rattle.omf_search.specs.Results.{bytes_of}
use Rattle.doslink_telling.specs.Table.{module_line, module_lines, segment_lines}
use Rattle.doslink_telling.proofs.Texts.{each-done, each-more}
use Rattle.doslink_telling.proofs.mapping.table.Goals as goal

pub loop-input-init : goal.loop-input-init
loop-input-init g c =
    ap (λ t. t ++ flat_map (module_lines c.args.layout.now (bytes_of c.args.inputs.now) (bytes_of c.args.words.now))
    (enumerate_from 0 c.args.modules.now)) c.in_ok-text.ensures.items

pub loop-input-preserved : goal.loop-input-preserved
loop-input-preserved g c =
    let lines = module_lines c.args.layout.now (bytes_of c.args.inputs.now) (bytes_of c.args.words.now) in
    let old = c.loop-input.text.items in
    let i = c.loop-input.input in
    let from = c.index-modules-input.result in
    each-more lines c.args.modules.now i from old c.push_segments.new.text.items _ c.loop-input-test.true
    (c.in_ok-push_segments.ensures
    ∙ ap (λ t. t ++ segment_lines c.args.layout.now (i, from))
    (c.in_ok-push_module_line.ensures
    ∙ ap₂ (λ w b. old ++ module_line w b) c.slice_at.ensures c.slice_at-in-loop-input.ensures)
    ∙ append_assoc old _ (segment_lines c.args.layout.now (i, from))
    ∙ ap (λ m. old ++ lines (i, m)) c.index-modules-input.is)
    c.loop-input.invariant

pub returns : goal.returns
returns g c =
    each-done (module_lines c.args.layout.now (bytes_of c.args.inputs.now) (bytes_of c.args.words.now))
    c.args.modules.now c.loop-input.input c.loop-input.text.items _ (omega arith) c.loop-input.invariant

pub push_segments-requires : goal.push_segments-requires
push_segments-requires g c =
    let i = c.loop-input.input in
    let from = c.index-modules-input.result in
    let is = slice_get-get_or c.args.modules.now i from c.loop-input-test.true ∙ ap Some (sym c.index-modules-input.is)
    in record {
      input = subst (λ n. i < n) (sym c.requires.modules) c.loop-input-test.true;
      placed = (c.requires.each i from is).segments;
    }
