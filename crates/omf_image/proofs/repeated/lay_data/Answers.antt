use Rattle.std.proofs.Common.{◌∙◌, List, [], take, flat_map, arith, refl, sym}
use Rattle.std.proofs.lemmas.List.Elements.{All-take}
use Rattle.omf_image.specs.declared.patch.Patch.{Patch}
use Rattle.omf_image.specs.Records.{fixup_patches}
use Rattle.omf_image.specs.inside.Entries.{DataEntry}
use Rattle.omf_image.specs.inside.PlacedData.{entry_seen}
use Rattle.omf_image.specs.inside.Ready.{IsFixupReady}
use Rattle.omf_image.proofs.Meaning.{fixups_left, fixups_first}
use Rattle.omf_image.proofs.Leading.{refused_by}
use Rattle.omf_image.proofs.repeated.lay_data.Goals as goal

pub add_each_once-requires-clause-placed : goal.add_each_once-requires-clause-placed
add_each_once-requires-clause-placed g c = c.requires.placed

pub add_each_once-requires-clause-fixups : goal.add_each_once-requires-clause-fixups
add_each_once-requires-clause-fixups g c =
    let s = c.args.placed.now in
    All-take (IsFixupReady s.layout.now (entry_seen s)) c.count_once-count.result s.data_record.fixups.now
    c.requires.fixups

pub returns-in_err-add_each_once-clause-gives : goal.returns-in_err-add_each_once-clause-gives
returns-in_err-add_each_once-clause-gives g c =
    let s = c.args.placed.now in
    refused_by _ _ _ _ _ _ c.from_residual-in_err-add_each_once.ensures.1
    (fixups_first s.layout.now (entry_seen s) s.data_record.fixups.now c.count_once-count.result)
    (c.in_err-add_each_once.ensures.gives [] c.in_ok-stored.ensures.stored)

pub returns-clause-gives : goal.returns-clause-gives
returns-clause-gives g c =
    let s = c.args.placed.now in
    let e : DataEntry = entry_seen s in
    let xs = s.data_record.fixups.now in
    let n = c.count_once-count.result in
    let earlier : List Patch = flat_map (fixup_patches 0 s.layout.now e) (take n xs) in
    let once = c.in_ok-add_each_once.ensures.gives [] c.in_ok-stored.ensures.stored in (
      c.in_ok-lay_copies.ensures.holds s.data_record.bytes.now earlier once.1,
      fixups_left s.layout.now e xs n once.0,
    )

pub lay-requires-clause-inside : goal.lay-requires-clause-inside
lay-requires-clause-inside g c = c.requires.inside

pub lay-requires-clause-words : goal.lay-requires-clause-words
lay-requires-clause-words g c = c.requires.words

pub returns-then-count-eq0-clause-room : goal.returns-then-count-eq0-clause-room
returns-then-count-eq0-clause-room g c = c.in_ok-lay.ensures.room

pub returns-then-count-eq0-clause-sized : goal.returns-then-count-eq0-clause-sized
returns-then-count-eq0-clause-sized g c = c.in_ok-lay.ensures.sized

pub returns-then-count-eq0-clause-gives : goal.returns-then-count-eq0-clause-gives
returns-then-count-eq0-clause-gives g c = (c.in_ok-lay.ensures.holds, refl)

pub stored_work-requires-clause-lengths : goal.stored_work-requires-clause-lengths
stored_work-requires-clause-lengths g c = c.requires.placed.lengths

pub stored_work-requires-clause-copies : goal.stored_work-requires-clause-copies
stored_work-requires-clause-copies g c = c.requires.copies

pub add_each_once-requires-clause-leading : goal.add_each_once-requires-clause-leading
add_each_once-requires-clause-leading g c = c.count_once-count.ensures.leading

pub add_each_once-requires-clause-room : goal.add_each_once-requires-clause-room
add_each_once-requires-clause-room g c = c.in_ok-stored.ensures.room

pub add_each_once-requires-clause-ends : goal.add_each_once-requires-clause-ends
add_each_once-requires-clause-ends g c = c.in_ok-stored.ensures.ends

pub lay_copies-requires-clause-inside : goal.lay_copies-requires-clause-inside
lay_copies-requires-clause-inside g c = omega (arith, c.requires.inside, c.requires.placed.lengths)

pub lay_copies-requires-clause-words : goal.lay_copies-requires-clause-words
lay_copies-requires-clause-words g c = c.requires.words

pub lay_copies-requires-clause-room : goal.lay_copies-requires-clause-room
lay_copies-requires-clause-room g c = c.add_each_once.ensures.room

pub lay_copies-requires-clause-ends : goal.lay_copies-requires-clause-ends
lay_copies-requires-clause-ends g c k d h =
    let low = c.in_ok-stored.ensures.ends k d h in
    omega (arith, low, c.add_each_once.ensures.same)

pub returns-clause-count : goal.returns-clause-count
returns-clause-count g c = c.count_once-count.ensures.count

pub returns-clause-room : goal.returns-clause-room
returns-clause-room g c = c.in_ok-lay_copies.ensures.room

pub returns-clause-sized : goal.returns-clause-sized
returns-clause-sized g c = c.in_ok-lay_copies.ensures.sized ∙ sym c.requires.placed.lengths
