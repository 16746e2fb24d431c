use Rattle.std.proofs.Common.{IfOk, ap, length, map, subst, sym, zip, ◌∙◌}
use Rattle.std.proofs.lemmas.List.{length-map}
use Rattle.omf_search.specs.Results.{module_said}
use Rattle.doslink_link.specs.Linking.{bytes_of}
use Rattle.doslink_passes.specs.Meant.{ArePacked, with_defaults}
use Rattle.doslink_passes.specs.Sources.{source_bytes}
use Rattle.doslink_passes.proofs.meant.modules_meant.Goals as goal

pub all_with_defaults-requires : goal.all_with_defaults-requires
all_with_defaults-requires g c =
    sym c.requires ∙ sym (length-map c.args.sources.now source_bytes) ∙ ap length (sym c.in_ok-slices.ensures)
    ∙ length-map c.in_ok-slices.slices.items (λ s. s.now) ∙ ap length (sym c.deref.ensures.value)

pub returns : goal.returns
returns g c =
    let m = c.args.meanings.now in
    subst (λ ms. IfOk c.packed.result (λ v. ArePacked c.args.packs ms v.items))
    (c.in_ok-modules.ensures
    ∙ ap (λ bs. map (with_defaults m.names (map module_said m.says.now)) (zip bs c.args.modules.items))
    (ap bytes_of c.deref.ensures.value ∙ c.in_ok-slices.ensures)) c.packed.ensures
