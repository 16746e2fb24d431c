use Rattle.std.proofs.Common.{sym, ap, subst, ◌∙◌}
use Rattle.omf_module.specs.Sound.{IsSound}
use Rattle.omf_module.specs.inside.Running.{State, module_in}
use Rattle.omf_module.proofs.Held.{state_is}
use Rattle.omf_module.proofs.Promised.{sound_records}
use Rattle.omf_module.proofs.builder.ModuleBuilder.finish.Goals as goal

pub into_module-requires : goal.into_module-requires
into_module-requires g c =
    let (rs, h) = c.requires in
    subst (λ (s : State). IsSound (module_in s)) (sym (state_is rs c.args.self h.keeps)) (sound_records rs h.taken h.sound)

pub returns : goal.returns
returns g c = λ rs h. c.into_module.ensures ∙ ap module_in (state_is rs c.args.self h.keeps)
