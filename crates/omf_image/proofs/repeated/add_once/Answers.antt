use Rattle.std.proofs.Common.{◌≡◌, ◌∙◌, ◌<◌, ◌≤◌, ◌+◌, ◌++◌, ℕ, List, refl, sym, ap, subst, length, get_or}
use Rattle.omf_record.specs.Expansion.{StandTogether, StandWhole}
use Rattle.omf_record.specs.Numbers.{location_width}
use Rattle.omf_image.specs.declared.patch.Patch.{Patch}
use Rattle.omf_image.specs.Records.{hits, patches_on, stored_of}
use Rattle.omf_image.specs.inside.Entries.{DataEntry}
use Rattle.omf_image.specs.Faults.{first_test}
use Rattle.omf_image.specs.inside.States.{state, Holds}
use Rattle.omf_image.specs.inside.PlacedData.{entry_seen}
use Rattle.omf_image.specs.inside.Stored.{IsStored}
use Rattle.omf_image.proofs.Meaning.{fault_on, gives_fault, patches_found, first_of_zip}
use Rattle.omf_image.proofs.Records.{width_some}
use Rattle.omf_image.proofs.Twins.{stored_room, stored_test, stored_more}
use Rattle.omf_image.proofs.repeated.add_once.Goals as goal

pub fix-requires-clause-hits : goal.fix-requires-clause-hits
fix-requires-clause-hits g c =
    let s = c.args.placed.now in
    let e : DataEntry = entry_seen s in
    let x = c.args.fixup.now in
    let w = location_width x.location in
    let n = length c.args.stored.now.touched.items in
    let places = s.data_record.places.now in
    let z : stored_of e.item ≡ places =
    first_of_zip places s.data_record.bytes.now (sym c.requires.placed.lengths) in
    let at = c.deref.ensures.value ∙ c.in_ok-find_once.ensures places (c.requires.placed.index c.requires.repeated) in
    let together = subst (StandTogether x.offset w) z c.requires.fixup.lies in
    subst (λ (l : List ℕ). (k : ℕ) → k < length l → get_or l k 0 + w ≤ n) (sym at)
    (λ k h.
    stored_room x.offset w places (hits x.offset places) n k (width_some x.location) together refl
    (λ j l. c.requires.ends j 0 l) h)

pub returns-clause-gives : goal.returns-clause-gives
returns-clause-gives g c earlier h =
    let s = c.args.placed.now in
    let e : DataEntry = entry_seen s in
    let x = c.args.fixup.now in
    let r = c.in_ok-resolved.resolved in
    let w = location_width x.location in
    let places = s.data_record.places.now in
    let bytes = s.data_record.bytes.now in
    let is = hits x.offset places in
    let z : stored_of e.item ≡ places = first_of_zip places bytes (sym c.requires.placed.lengths) in
    let found : is ≡ hits x.offset (stored_of e.item) = ap (hits x.offset) (sym z) in
    let at = c.deref.ensures.value ∙ c.in_ok-find_once.ensures places (c.requires.placed.index c.requires.repeated) in
    let together = subst (StandTogether x.offset w) z c.requires.fixup.lies in
    let whole = subst (StandWhole x.offset w) z c.requires.fixup.whole in
    let gives = c.in_ok-fix.ensures.gives h.contents h.base h.once h.holds in (
      fault_on s.layout.now e x r s.start is earlier c.in_ok-resolved.ensures c.requires.placed.start found
          ∙ stored_test x r s.start places bytes is (state c.args.stored.now) earlier c.requires.leading refl together
          whole h
          ∙ ap (λ (l : List ℕ). first_test r x.self_relative x.location 0 l h.once) (sym at) ∙ gives.0,
      subst (λ (ps : List Patch). IsStored places bytes (state c.fix.new.work) (earlier ++ ps))
          (sym (patches_found s.layout.now e x r s.start is c.in_ok-resolved.ensures c.requires.placed.start found))
          (stored_more x r s.start places bytes is (state c.args.stored.now) earlier c.requires.leading refl together
          whole h (state c.fix.new.work)
          (subst
          (λ (l : List ℕ).
          Holds 0 h.contents h.base (state c.fix.new.work) (h.once ++ patches_on 0 r x.self_relative x.location 0 l)) at
          gives.1)),
    )

pub returns-in_err-fix-clause-gives : goal.returns-in_err-fix-clause-gives
returns-in_err-fix-clause-gives g c earlier h =
    let s = c.args.placed.now in
    let e : DataEntry = entry_seen s in
    let x = c.args.fixup.now in
    let r = c.in_ok-resolved.resolved in
    let w = location_width x.location in
    let places = s.data_record.places.now in
    let bytes = s.data_record.bytes.now in
    let is = hits x.offset places in
    let z : stored_of e.item ≡ places = first_of_zip places bytes (sym c.requires.placed.lengths) in
    let found : is ≡ hits x.offset (stored_of e.item) = ap (hits x.offset) (sym z) in
    let at = c.deref.ensures.value ∙ c.in_ok-find_once.ensures places (c.requires.placed.index c.requires.repeated) in
    let together = subst (StandTogether x.offset w) z c.requires.fixup.lies in
    let whole = subst (StandWhole x.offset w) z c.requires.fixup.whole in
    gives_fault s.layout.now e earlier x _ _ _ c.from_residual-in_err-fix.ensures.1 (
    fault_on s.layout.now e x r s.start is earlier c.in_ok-resolved.ensures c.requires.placed.start found
    ∙ stored_test x r s.start places bytes is (state c.args.stored.now) earlier c.requires.leading refl together whole h
    ∙ ap (λ (l : List ℕ). first_test r x.self_relative x.location 0 l h.once) (sym at)
    ∙ c.in_err-fix.ensures.gives h.contents h.base h.once h.holds)

pub returns-in_err-resolved-clause-gives : goal.returns-in_err-resolved-clause-gives
returns-in_err-resolved-clause-gives g c earlier h =
    let s = c.args.placed.now in
    gives_fault s.layout.now (entry_seen s) earlier c.args.fixup.now _ _ _ c.from_residual.ensures.1
    (c.in_err-resolved.ensures earlier)
