use Rattle.std.proofs.Common.{◌∙◌, Option, false, length, slice_get, refl, ap, sym}
use Rattle.std.proofs.lemmas.Option.{slice_get_past, slice_get_read}
use Rattle.std.specs.Option.{option_map_or, option_and_then}
use Rattle.omf_module.specs.Module.{Module}
use Rattle.omf_image.specs.inside.Starts.{is_stack}
use Rattle.flat_file.proofs.stack.is_stack_segment.Goals as goal

pub returns-in-Some : goal.returns-in-Some
returns-in-Some g c =
    let modules = c.args.modules.now in
    let k = c.args.combined.input in
    let lookup = c.in-Some.ensures.lookup in
    let at = slice_get_read modules (length modules) k c.in-Some.module.now refl lookup.3.0 lookup.1 in
    c.is_stack_of.ensures
    ∙ ap
    (λ (o : Option Module).
    option_map_or (λ s. is_stack s.standing) (option_and_then (λ m. slice_get m.segments c.args.combined.segment) o)
    false) (sym at)

pub returns-in-None : goal.returns-in-None
returns-in-None g c =
    ap
    (λ (o : Option Module).
    option_map_or (λ s. is_stack s.standing) (option_and_then (λ m. slice_get m.segments c.args.combined.segment) o)
    false) (sym (slice_get_past c.args.modules.now c.args.combined.input c.in-None.ensures.lookup.3))
