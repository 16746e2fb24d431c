use Rattle.std.proofs.Common.{◌∙◌, ◌++◌, ap}
use Rattle.doslink_link.specs.Linking.{bytes_of}
use Rattle.link_map.specs.Map.{shown_map_text}
use Rattle.doslink_jobs.proofs.program.linker_map.Goals as goal

pub returns-in-Ok : goal.returns-in-Ok
returns-in-Ok g c =
    let r = c.args.report.now in
    let inputs = bytes_of c.args.inputs.now in
    let words = bytes_of c.args.words.now in
    c.in-Ok.ensures.0
    ∙ ap (λ front. front ++ shown_map_text c.args.shown c.deref.result.now r.layout r.program inputs words)
    c.new-page.ensures.empty
    ∙ ap (λ ms. shown_map_text c.args.shown ms r.layout r.program inputs words) c.deref.ensures.value
