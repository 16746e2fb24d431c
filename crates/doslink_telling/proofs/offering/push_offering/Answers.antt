use Rattle.std.proofs.Common.{◌∙◌, ◌++◌, ◌-◌, ap, filter, map}
use Rattle.std.proofs.lemmas.List.Elements.{filter_agree}
use Rattle.std.specs.BTreeSet.{contains}
use Rattle.std.specs.Ordering.{nat_cmp}
use Rattle.omf_library.specs.Members.{PlainMember, plain_member}
use Rattle.omf_search.proofs.Results.{OnOk-map}
use Rattle.doslink_telling.specs.Offering.{offered, offering_said, offers}
use Rattle.doslink_telling.specs.Symbols.{symbols}
use Rattle.doslink_telling.specs.inside.Tables.{symbol_said}
use Rattle.doslink_telling.proofs.offering.push_offering.Goals as goal

pub returns : goal.returns
returns g c =
    OnOk-map c.push_members_at.result _ _
    (λ pushed these is.
    let old = map offering_said c.args.all.now.items in
    let ms = map plain_member c.deref-2.result.now in
    pushed
    ∙ ap (λ l. old ++ map (offered c.args.file) l)
    (filter_agree (λ (m : PlainMember). contains nat_cmp c.in_ok-places.places (m.place - 60))
    (λ (m : PlainMember). offers c.args.names these (map symbol_said c.deref.result.now) (m.place - 60))
    (λ (m : PlainMember). c.in_ok-places.ensures these is (m.place - 60)) ms)
    ∙ ap (λ f. old ++ map (offered c.args.file)
    (filter (λ (m : PlainMember). offers c.args.names these f (m.place - 60)) ms))
    (ap (map symbol_said) c.deref.ensures.value ∙ c.in_ok-found.ensures)
    ∙ ap (λ l. old ++ map (offered c.args.file)
    (filter (λ (m : PlainMember). offers c.args.names these (symbols c.args.bytes.now) (m.place - 60)) l))
    (ap (map plain_member) c.deref-2.ensures.value ∙ c.in_ok-members.ensures))
    c.push_members_at.ensures
