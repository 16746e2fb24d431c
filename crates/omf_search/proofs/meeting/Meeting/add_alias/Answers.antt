use Rattle.std.proofs.Common.{◌≡◌, ◌+◌, ◌∷◌, [], ◌∙◌, ap, cond, is_some, map, refl, subst, sym, true, false}
use Rattle.std.proofs.lemmas.List.{map-append}
use Rattle.omf_library.specs.Said.{alias_said}
use Rattle.omf_search.specs.declared.meeting.Meeting.{Meeting}
use Rattle.omf_search.specs.declared.said.Wanted as held
use Rattle.omf_search.specs.Keys.{size, value_of}
use Rattle.omf_search.specs.Taken.{IsMet}
use Rattle.omf_search.specs.Results.{wanted_said}
use Rattle.omf_search.specs.Wanted.{Met, with_alias}
use Rattle.omf_search.proofs.MetSteps.{alias-again, alias-known, alias-unused, alias-used, met-alias, met-same, met-wanted}
use Rattle.omf_search.proofs.MetSteps.{not-false, not-true}
use Rattle.omf_search.proofs.Results.{OnOk-map}
use Rattle.omf_search.proofs.meeting.Meeting.add_alias.Goals as goal

pub returns-then-not-branch : goal.returns-then-not-branch
returns-then-not-branch g c = λ s is.
    let names = c.args.names in
    let old = c.args.self.now in
    let after : Meeting g.row.A.Denot = record { wanted = old.wanted; asked = old.asked; aliases = c.add.new.self } in
    let known : is_some (value_of names c.args.self.now.aliases c.args.alias.now.name) ≡ true =
    not-false _ (sym c.in_ok-add.ensures.fresh ∙ c.if-not-branch.true) in
    subst (λ (t : Met). IsMet names t after)
    (sym (alias-again names c.args.index s (alias_said c.args.alias.now)
    (sym (alias-known names s c.args.self.now c.args.alias.now.name is) ∙ known)))
    (met-same names s c.args.self.now after is refl refl (c.in_ok-add.ensures.kept c.if-not-branch.true))

pub returns-then-not-contains : goal.returns-then-not-contains
returns-then-not-contains g c = λ s is.
    let names = c.args.names in
    let old = c.args.self.now in
    let after : Meeting g.row.A.Denot = record { wanted = old.wanted; asked = old.asked; aliases = c.add.new.self } in
    let new : is_some (value_of names c.args.self.now.aliases c.args.alias.now.name) ≡ false =
    not-true _ (sym c.in_ok-add.ensures.fresh ∙ c.if-not-branch.false) in
    subst (λ (t : Met). IsMet names t after)
    (sym (alias-unused names c.args.index s (alias_said c.args.alias.now)
    (sym (alias-known names s c.args.self.now c.args.alias.now.name is) ∙ new)
    (sym (is.asked c.args.alias.now.name) ∙ sym c.contains.ensures ∙ c.if-not-contains.true)))
    (met-alias names s c.args.self.now after c.args.alias.now.name (record { name = c.args.alias.now.meaning; wanted_by = c.args.index }) is refl refl c.in_ok-add.ensures.values
    (c.in_ok-add.ensures.size
    ∙ ap (λ b. cond b (size c.args.self.now.aliases + 1) (size c.args.self.now.aliases)) c.if-not-branch.false))

pub returns : goal.returns
returns g c =
    let names = c.args.names in
    let old = c.args.self.now in
    let after : Meeting g.row.A.Denot = record { wanted = old.wanted; asked = old.asked; aliases = c.add.new.self } in
    let w : held.Wanted = record { name = c.args.alias.now.meaning; wanted_by = c.args.index } in
    OnOk-map c.ask.result _ _
    (λ asks. λ s is.
    let new : is_some (value_of names old.aliases c.args.alias.now.name) ≡ false =
    not-true _ (sym c.in_ok-add.ensures.fresh ∙ c.if-not-branch.false) in
    let one =
    met-alias names s old after
    c.args.alias.now.name w is refl refl c.in_ok-add.ensures.values
    (c.in_ok-add.ensures.size ∙ ap (λ b. cond b (size old.aliases + 1) (size old.aliases)) c.if-not-branch.false) in
    let two =
    met-wanted names (with_alias c.args.alias.now.name.now (wanted_said w) s)
    after (record { wanted = c.push.new.self; asked = old.asked; aliases = c.add.new.self }) (wanted_said w ∷ []) one refl refl
    (ap (map wanted_said) c.in_ok-push.ensures.items ∙ map-append wanted_said old.wanted.items (w ∷ [])) in
    subst (λ (t : Met). IsMet names t c.ask.new.self)
    (sym (alias-used names c.args.index s (alias_said c.args.alias.now)
    (sym (alias-known names s old c.args.alias.now.name is) ∙ new)
    (sym (is.asked c.args.alias.now.name) ∙ sym c.contains.ensures ∙ c.if-not-contains.false)))
    (asks _ two)) c.ask.ensures
