use Rattle.std.proofs.Common.{◌≡◌, All, ap, ap₂, arith, length, map, min, subst, sym, ◌∙◌}
use Rattle.omf_frame.specs.Lending.{plain_frame}
use Rattle.omf_library.specs.Defaults.{weak_and_lazy}
use Rattle.omf_library.specs.Records.{module_records}
use Rattle.omf_library.specs.Said.{all_defaulted}
use Rattle.omf_module.specs.Defaulted.{defaulted}
use Rattle.omf_module.specs.Grouped.{greatest_index}
use Rattle.omf_module.specs.Sound.{IsIndexOf}
use Rattle.omf_search.specs.Results.{module_said}
use Rattle.doslink_passes.specs.Meant.{meanings_of}
use Rattle.doslink_passes.proofs.Passing.{meanings-within}
use Rattle.doslink_passes.proofs.meant.with_defaults.Goals as goal

pub redirect_externals-requires : goal.redirect_externals-requires
redirect_externals-requires g c =
    let m = c.args.meanings.now in
    subst (All (IsIndexOf c.args.module.externals)) (sym (c.deref-3.ensures.value ∙ c.in_ok-indexes.ensures))
    (meanings-within c.args.module.externals c.min-count.result
    (omega (arith, c.min-count.ensures, c.external_count.ensures)) m.names (map module_said m.says.now)
    (all_defaulted c.deref-2.result.now))

pub returns : goal.returns
returns g c =
    let m = c.args.meanings.now in
    let says = map module_said m.says.now in
    let told : all_defaulted c.deref-2.result.now ≡ weak_and_lazy (module_records c.args.bytes.now 0) =
    ap all_defaulted c.deref-2.ensures.value ∙ c.in_ok-defaults.ensures
    ∙ ap weak_and_lazy (ap (map plain_frame) c.deref.ensures.value ∙ c.in_ok-frames.ensures) in
    let count : c.min-count.result ≡ min (length c.args.module.externals) greatest_index =
    c.min-count.ensures ∙ ap (λ n. min n greatest_index) c.external_count.ensures in
    c.redirect_externals.ensures
    ∙ ap (λ ms. defaulted ms c.args.module) (c.deref-3.ensures.value ∙ c.in_ok-indexes.ensures
    ∙ ap₂ (meanings_of m.names says c.args.module.externals) told count)
