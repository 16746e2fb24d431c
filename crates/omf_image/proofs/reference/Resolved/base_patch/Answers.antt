use Rattle.std.proofs.Common.{◌≡◌, ◌∙◌, ◌%◌, ◌+◌, ap, arith}
use Rattle.omf_image.specs.Value.{base_patch}
use Rattle.omf_image.specs.declared.patch.Patch.TheVariants.{Word, Relocated}
use Rattle.omf_image.proofs.reference.Resolved.base_patch.Goals as goal

pub returns-in-Relocatable : goal.returns-in-Relocatable
returns-in-Relocatable c =
    let number = c.in-Relocatable.number in
    let small : number ≡ (number + 0) % 65536 = omega arith in
    ap (Relocated c.args.at) small ∙ ap (base_patch 0 c.args.at) c.in-Relocatable.ensures

pub returns-in-Absolute : goal.returns-in-Absolute
returns-in-Absolute c =
    let number = c.in-Absolute.number in
    let small : number ≡ number % 65536 = omega arith in
    ap (Word c.args.at) small ∙ ap (base_patch 0 c.args.at) c.in-Absolute.ensures
