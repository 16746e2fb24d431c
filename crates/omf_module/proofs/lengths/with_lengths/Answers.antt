use Rattle.std.proofs.Common.{◌≡◌, ℕ, Result, Ok, sym, ap, subst, ◌∙◌, rules}
use Rattle.std.specs.List.{AllByRecursion}
use Rattle.std.proofs.lemmas.List.Elements.{recursion_from_All}
use Rattle.omf_module.specs.Module.{Module}
use Rattle.omf_module.specs.Lengths.{relengthened, first_outside}
use Rattle.omf_module.specs.Sound.{SegmentFits, IsSound}
use Rattle.omf_module.proofs.LengthsSound.{sound_lengths, is_refused, is_answered}
use Rattle.omf_module.proofs.lengths.with_lengths.Goals as goal

pub returns-in-Some : goal.returns-in-Some
returns-in-Some g c =
    let store = c.set_lengths.new.self in
    let given : Module =
    record {
      segments = store.segments;
      groups = store.groups;
      externals = store.externals;
      publics = store.publics;
      data_records = store.data_records;
      start = c.into_parts-store.result.1;
    } in
    let same : given ≡ relengthened c.args.lengths.now c.args.module = search rules in
    is_refused c.args.lengths.now c.args.module c.in-Some.place
    (ap first_outside (sym same) ∙ sym c.first_outside.ensures ∙ c.in-Some.is)

pub from_parts-requires : goal.from_parts-requires
from_parts-requires g c =
    let store = c.set_lengths.new.self in
    let given : Module =
    record {
      segments = store.segments;
      groups = store.groups;
      externals = store.externals;
      publics = store.publics;
      data_records = store.data_records;
      start = c.into_parts-store.result.1;
    } in
    let same : given ≡ relengthened c.args.lengths.now c.args.module = search rules in
    let sound = c.into_parts-store.ensures.sound in
    let old =
    subst (λ (m : Module). AllByRecursion SegmentFits m.segments) c.into_parts-store.ensures.parts
    (recursion_from_All SegmentFits c.args.module.segments sound.segments) in
    let fits =
    subst (λ (m : Module). AllByRecursion SegmentFits m.segments) same (c.set_lengths.ensures.fits old) in
    subst IsSound (sym same)
    (sound_lengths c.args.lengths.now c.args.module sound fits
    (ap first_outside (sym same) ∙ sym c.first_outside.ensures ∙ c.in-None.is))

pub returns-in-None : goal.returns-in-None
returns-in-None g c =
    let store = c.set_lengths.new.self in
    let given : Module =
    record {
      segments = store.segments;
      groups = store.groups;
      externals = store.externals;
      publics = store.publics;
      data_records = store.data_records;
      start = c.into_parts-store.result.1;
    } in
    let same : given ≡ relengthened c.args.lengths.now c.args.module = search rules in
    let ok : Module → Result Module ℕ = λ m. Ok m in
    ap ok (c.from_parts.ensures ∙ same)
    ∙ is_answered c.args.lengths.now c.args.module
    (ap first_outside (sym same) ∙ sym c.first_outside.ensures ∙ c.in-None.is)
