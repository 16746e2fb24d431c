use Rattle.std.proofs.Common.{◌∙◌, ◌++◌, List, sym, subst, take, flat_map}
use Rattle.std.proofs.lemmas.List.{take_all, at_drop_all}
use Rattle.omf_module.specs.declared.ResolvedFixup.{ResolvedFixup}
use Rattle.omf_image.specs.declared.patch.Patch.{Patch}
use Rattle.omf_image.specs.Records.{fixup_patches}
use Rattle.omf_image.specs.inside.Entries.{DataEntry}
use Rattle.omf_image.specs.Faults.{fixups_fault}
use Rattle.omf_image.specs.inside.States.{state}
use Rattle.omf_image.specs.inside.PlacedData.{entry_seen}
use Rattle.omf_image.specs.inside.Stored.{IsStored}
use Rattle.omf_image.proofs.Meaning.{fixups_more, fixups_stop, patches_more, answers_at}
use Rattle.omf_image.proofs.repeated.add_each_once.Goals as goal

pub returns-in-Err-clause-gives : goal.returns-in-Err-clause-gives
returns-in-Err-clause-gives g c earlier h =
    let s = c.args.placed.now in
    let e : DataEntry = entry_seen s in
    let old = c.loop-fixup.invariant.gives earlier h in
    let xs = c.args.fixups.now in
    let i = c.loop-fixup.fixup-index in
    let so_far = earlier ++ flat_map (fixup_patches 0 s.layout.now e) (take i xs) in
    answers_at _ _ _ _ c.at.ensures
    (fixups_stop _ _ s.layout.now e xs i _ c.in-Err.stop so_far (fixups_fault s.layout.now e earlier xs)
    c.loop-fixup-test.true (c.in-Err.ensures.gives so_far old.0) old.1)

pub loop-fixup-preserved : goal.loop-fixup-preserved
loop-fixup-preserved g c =
    let s = c.args.placed.now in
    let e : DataEntry = entry_seen s in
    let xs = c.args.fixups.now in
    let i = c.loop-fixup.fixup-index in
    record {
      room = c.in-Ok.ensures.room;
      same = c.in-Ok.ensures.same ∙ c.loop-fixup.invariant.same;
      gives = λ earlier h.
          let so_far = earlier ++ flat_map (fixup_patches 0 s.layout.now e) (take i xs) in
          let old = c.loop-fixup.invariant.gives earlier h in
          let new = c.in-Ok.ensures.gives so_far old.0 in (
            subst
                (λ (ps : List Patch).
                IsStored s.data_record.places.now s.data_record.bytes.now (state c.add_once.new.stored) ps)
                (patches_more (fixup_patches 0 s.layout.now e) earlier xs i _ c.loop-fixup-test.true) new.1,
            fixups_more s.layout.now e earlier xs i _ (fixups_fault s.layout.now e earlier xs) c.loop-fixup-test.true
                new.0 old.1,
          );
    }

pub returns-clause-gives : goal.returns-clause-gives
returns-clause-gives g c earlier h =
    let s = c.args.placed.now in
    let e : DataEntry = entry_seen s in
    let f = fixup_patches 0 s.layout.now e in
    let xs = c.args.fixups.now in
    let i = c.loop-fixup.fixup-index in
    let done = c.loop-fixup.invariant.gives earlier h in (
      sym done.1
          ∙ at_drop_all (fixups_fault s.layout.now e (earlier ++ flat_map f (take i xs))) xs i c.loop-fixup-test.false,
      subst
          (λ (l : List ResolvedFixup).
          IsStored s.data_record.places.now s.data_record.bytes.now (state c.loop-fixup.stored)
          (earlier ++ flat_map f l)) (take_all i xs c.loop-fixup-test.false) done.0,
    )
