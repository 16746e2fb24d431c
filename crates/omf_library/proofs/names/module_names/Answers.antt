use Rattle.std.proofs.Common.{filter, map, not, ap, ap₂, ◌∙◌}
use Rattle.omf_frame.specs.Lending.{plain_frame}
use Rattle.omf_library.specs.Defaults.{is_theirs_alone, weak_and_lazy, weak_externals}
use Rattle.omf_library.specs.Aliases.{aliases_of}
use Rattle.omf_library.specs.Names.{asks_dosseg, communal_names, external_names, library_names, needed_names}
use Rattle.omf_library.specs.Names.{offered_names, texts, wanted_names}
use Rattle.omf_library.proofs.names.module_names.Goals as goal

pub returns-clause-wanted : goal.returns-clause-wanted
unfolding wanted_names
returns-clause-wanted g c =
    c.in_ok-said-3.ensures
    ∙ ap₂ (λ fs names. filter (λ name. not (is_theirs_alone (weak_externals fs) fs name)) names)
    (ap (map plain_frame) c.deref-4.ensures.value ∙ c.in_ok-frames.ensures)
    (ap texts c.deref-5.ensures.value ∙ c.in_ok-said.ensures.externals
    ∙ ap external_names (ap (map plain_frame) c.deref.ensures.value ∙ c.in_ok-frames.ensures))

pub returns-clause-needed : goal.returns-clause-needed
unfolding needed_names
returns-clause-needed g c =
    c.in_ok-said-2.ensures
    ∙ ap₂ (λ fs names. filter (λ name. not (is_theirs_alone (weak_and_lazy fs) fs name)) names)
    (ap (map plain_frame) c.deref-2.ensures.value ∙ c.in_ok-frames.ensures)
    (ap texts c.deref-3.ensures.value ∙ c.in_ok-said.ensures.externals
    ∙ ap external_names (ap (map plain_frame) c.deref.ensures.value ∙ c.in_ok-frames.ensures))

pub returns-clause-offered : goal.returns-clause-offered
returns-clause-offered g c =
    c.in_ok-said.ensures.offered
    ∙ ap offered_names (ap (map plain_frame) c.deref.ensures.value ∙ c.in_ok-frames.ensures)

pub returns-clause-externals : goal.returns-clause-externals
returns-clause-externals g c =
    c.in_ok-said.ensures.externals
    ∙ ap external_names (ap (map plain_frame) c.deref.ensures.value ∙ c.in_ok-frames.ensures)

pub returns-clause-communals : goal.returns-clause-communals
returns-clause-communals g c =
    c.in_ok-said.ensures.communals
    ∙ ap communal_names (ap (map plain_frame) c.deref.ensures.value ∙ c.in_ok-frames.ensures)

pub returns-clause-aliases : goal.returns-clause-aliases
returns-clause-aliases g c =
    c.in_ok-said.ensures.aliases
    ∙ ap aliases_of (ap (map plain_frame) c.deref.ensures.value ∙ c.in_ok-frames.ensures)

pub returns-clause-libraries : goal.returns-clause-libraries
returns-clause-libraries g c =
    c.in_ok-said.ensures.libraries
    ∙ ap library_names (ap (map plain_frame) c.deref.ensures.value ∙ c.in_ok-frames.ensures)

pub returns-clause-dosseg : goal.returns-clause-dosseg
returns-clause-dosseg g c =
    c.in_ok-said.ensures.dosseg
    ∙ ap asks_dosseg (ap (map plain_frame) c.deref.ensures.value ∙ c.in_ok-frames.ensures)
