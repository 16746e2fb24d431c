use Rattle.std.proofs.Common.{◌≡◌, ◌∙◌, Err, ap, inl, inr, map, string_bytes, subst}
use Rattle.std.specs.Option.{option_map}
use Rattle.doslink_files.specs.Written.{StandsAt}
use Rattle.doslink_link.specs.Linking.{IsFaultless, IsLinkedAs, LinksTo, bytes_of}
use Rattle.doslink_passes.specs.Request.{names_of}
use Rattle.doslink_passes.specs.Sources.{source_bytes}
use Rattle.doslink_passes.specs.declared.stop.Stop.TheVariants.{Memory}
use Rattle.doslink_passes.proofs.Refused.{OnInput-weaker, refused-exit}
use Rattle.doslink_jobs.specs.Maps.{map_bytes}
use Rattle.doslink_jobs.specs.Written.{AreWritten}
use Rattle.doslink_jobs.proofs.Linked.{fault-of}
use Rattle.doslink_jobs.proofs.linking.write_program.Goals as goal

pub returns-in_err-linked-in-Ok : goal.returns-in_err-linked-in-Ok
returns-in_err-linked-in-Ok g c =
    let exit = c.from_residual-in_err-linked-in-Ok in
    let names = names_of c.args.request.now.job.now.ignore_case in
    let modules = c.args.linked.modules.items in
    let report = c.in-Ok.linked.report in
    let file = c.in-Ok.linked.file.items in
    refused-exit _ exit.result _ exit.ensures.1 (λ wrong. inr wrong)
    (c.in_err-linked-in-Ok.ensures.formed names modules
    (subst (λ n. IsLinkedAs n modules report file) c.options_of.ensures c.in-Ok.ensures.links.1))

pub returns-in_err-write_files-in-Ok : goal.returns-in_err-write_files-in-Ok
returns-in_err-write_files-in-Ok g c =
    let exit = c.from_residual-in_err-write_files-in-Ok in
    refused-exit _ exit.result _ exit.ensures.1 (λ none. absurd none) c.in_err-write_files-in-Ok.ensures.refused

pub returns-in_err-warn_of_program-in-Ok : goal.returns-in_err-warn_of_program-in-Ok
returns-in_err-warn_of_program-in-Ok g c =
    let exit = c.from_residual-in_err-warn_of_program-in-Ok in
    refused-exit _ exit.result Memory exit.ensures.1 (λ none. absurd none) tt

pub returns-in-Ok : goal.returns-in-Ok
returns-in-Ok g c =
    let A = g.row.A.Denot in
    let Writes = StandsAt (g.W.World.blank c.args.world) (g.W.World.Puts c.args.world) in
    let out = string_bytes c.args.places.now.out in
    let mapped = option_map string_bytes c.args.places.now.map in
    let job = c.args.request.now.job.now in
    let names = names_of job.ignore_case in
    let sources = map source_bytes c.args.linked.sources.items in
    let told : bytes_of c.deref-in-Ok.result.now ≡ sources =
    ap bytes_of c.deref-in-Ok.ensures.value ∙ c.in_ok-slices.ensures ∙ ap (map source_bytes) c.deref.ensures.value in
    let modules = c.args.linked.modules.items in
    let linked = subst (λ n. IsLinkedAs n modules c.in-Ok.linked.report c.in-Ok.linked.file.items)
    c.options_of.ensures c.in-Ok.ensures.links.1 in
    let report = c.in_ok-linked-in-Ok.linked.report in
    let file = c.in_ok-linked-in-Ok.linked.file.items in
    let words = bytes_of c.deref-in-Ok-2.result.now in (
      subst (λ n. IsFaultless A n modules) c.options_of.ensures c.in-Ok.ensures.links.0,
      record {
        report = report;
        file = file;
        words = words;
        formed = c.in_ok-linked-in-Ok.ensures.formed names modules linked;
        written = subst (λ i. AreWritten Writes out mapped file (map_bytes job.map_form report i words)) told
            c.in_ok-write_files-in-Ok.ensures.written;
      },
    )

pub returns : goal.returns
returns g c =
    let names = names_of c.args.request.now.job.now.ignore_case in
    let modules = c.args.linked.modules.items in
    OnInput-weaker c.stop_at_fault.result
    (λ one. inl (
      c.in-Err.fault,
      fault-of names modules c.in-Err.fault one
          (subst (λ n. LinksTo n modules (Err c.in-Err.fault)) c.options_of.ensures c.in-Err.ensures.links),
    ))
    c.stop_at_fault.ensures
