use Rattle.std.proofs.Common.{◌≡◌, ◌∙◌, ◌++◌, List, sym, ap, subst, arith, length}
use Rattle.omf_image.specs.declared.patch.Patch.{Patch}
use Rattle.omf_image.specs.Records.{hits, stored_of}
use Rattle.omf_image.specs.inside.Entries.{DataEntry}
use Rattle.omf_image.specs.inside.States.{state, Holds}
use Rattle.omf_image.specs.inside.PlacedData.{entry_seen}
use Rattle.omf_image.proofs.Meaning.{fault_on, gives_fault, patches_found, first_of_zip, hit_inside}
use Rattle.omf_image.proofs.fixing.add_fixup.Goals as goal

pub fix-requires-clause-hits : goal.fix-requires-clause-hits
fix-requires-clause-hits g c k h =
    let s = c.args.placed.now in
    let e : DataEntry = entry_seen s in
    let x = c.args.fixup.now in
    let z : stored_of e.item ≡ s.data_record.places.now =
    first_of_zip s.data_record.places.now s.data_record.bytes.now (sym c.requires.placed.lengths) in
    let is = c.deref.ensures.value ∙ c.in_ok-find_hits.ensures ∙ ap (hits x.offset) (sym z) in
    let room = hit_inside e.item x c.deref.result.now k c.requires.fixup.lies is h in
    omega (arith, room, ap length z, c.requires.placed.lengths, c.requires.sized)

pub returns-clause-gives : goal.returns-clause-gives
returns-clause-gives g c bytes base earlier h =
    let s = c.args.placed.now in
    let e : DataEntry = entry_seen s in
    let x = c.args.fixup.now in
    let z : stored_of e.item ≡ s.data_record.places.now =
    first_of_zip s.data_record.places.now s.data_record.bytes.now (sym c.requires.placed.lengths) in
    let is = c.deref.ensures.value ∙ c.in_ok-find_hits.ensures ∙ ap (hits x.offset) (sym z) in
    let gives = c.in_ok-fix.ensures.gives bytes base earlier h in (
      fault_on s.layout.now e x c.in_ok-resolved.resolved s.start c.deref.result.now earlier c.in_ok-resolved.ensures
          c.requires.placed.start is ∙ gives.0,
      subst (λ (ps : List Patch). Holds s.start bytes base (state c.fix.new.work) (earlier ++ ps))
          (sym
          (patches_found s.layout.now e x c.in_ok-resolved.resolved s.start c.deref.result.now c.in_ok-resolved.ensures
          c.requires.placed.start is)) gives.1,
    )

pub returns-in_err-fix-clause-gives : goal.returns-in_err-fix-clause-gives
returns-in_err-fix-clause-gives g c bytes base earlier h =
    let s = c.args.placed.now in
    let e : DataEntry = entry_seen s in
    let x = c.args.fixup.now in
    let z : stored_of e.item ≡ s.data_record.places.now =
    first_of_zip s.data_record.places.now s.data_record.bytes.now (sym c.requires.placed.lengths) in
    let is = c.deref.ensures.value ∙ c.in_ok-find_hits.ensures ∙ ap (hits x.offset) (sym z) in
    gives_fault s.layout.now e earlier x _ _ _ c.from_residual-in_err-fix.ensures.1 (
    fault_on s.layout.now e x c.in_ok-resolved.resolved s.start c.deref.result.now earlier c.in_ok-resolved.ensures
    c.requires.placed.start is
    ∙ c.in_err-fix.ensures.gives bytes base earlier h)

pub returns-in_err-resolved-clause-gives : goal.returns-in_err-resolved-clause-gives
returns-in_err-resolved-clause-gives g c bytes base earlier h =
    let s = c.args.placed.now in
    gives_fault s.layout.now (entry_seen s) earlier c.args.fixup.now _ _ _ c.from_residual.ensures.1
    (c.in_err-resolved.ensures earlier)

pub find_hits-requires-clause-plain : goal.find_hits-requires-clause-plain
find_hits-requires-clause-plain g c = c.requires.placed.plain

pub find_hits-requires-clause-index : goal.find_hits-requires-clause-index
find_hits-requires-clause-index g c = c.requires.placed.index

pub fix-requires-clause-room : goal.fix-requires-clause-room
fix-requires-clause-room g c = c.requires.room

pub returns-clause-room : goal.returns-clause-room
returns-clause-room g c = c.fix.ensures.room

pub returns-clause-sized : goal.returns-clause-sized
returns-clause-sized g c = c.fix.ensures.same ∙ c.requires.sized
