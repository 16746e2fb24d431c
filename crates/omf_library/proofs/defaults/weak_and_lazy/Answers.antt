use Rattle.std.proofs.Common.{◌++◌, map, ap, ◌∙◌}
use Rattle.omf_frame.specs.Lending.{plain_frame}
use Rattle.omf_library.specs.Said.{all_defaulted}
use Rattle.omf_library.specs.Defaults.{defaulted, weak_and_lazy}
use Rattle.omf_library.proofs.defaults.weak_and_lazy.Goals as goal

pub returns : goal.returns
unfolding weak_and_lazy
returns g c =
    let records = map plain_frame c.args.frames.now in
    c.in_ok-push_defaulted-2.ensures
    ∙ ap (λ told. told ++ defaulted 0xA9 records)
    (c.in_ok-push_defaulted.ensures
    ∙ ap (λ none. all_defaulted none ++ defaulted 0xA8 records) c.new-told.ensures.items)
