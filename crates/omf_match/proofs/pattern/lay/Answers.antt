use Rattle.std.proofs.Common.{◌+◌, ◌<◌, ◌++◌, ◌∙◌, ap₂, arith, length, length-set, map, zip, take, drop}
use Rattle.std.proofs.lemmas.List.{length-map}
use Rattle.omf_match.specs.Pattern.{cell_of}
use Rattle.omf_match.proofs.Laying.{put-more, put-all, cell-at, zip-length}
use Rattle.omf_match.proofs.pattern.lay.Goals as goal

pub loop-index-preserved : goal.loop-index-preserved
loop-index-preserved g c =
    let record' = c.args.record.now in
    let places = record'.places.now in
    let bytes = record'.bytes.now in
    let i = c.loop-index.index in
    let inside : i < length bytes = c.loop-index-test.true in
    let len-zip = zip-length places bytes c.requires.lengths in
    let len-map = length-map (zip places bytes) (cell_of record'.fixups.now) in
    record {
      len = length-set c.loop-index.cells.items (c.from-start.result + i) c.cell_of.result ∙ c.loop-index.invariant.len;
      laid = put-more c.args.cells.now.items c.loop-index.cells.items
          (map (cell_of record'.fixups.now) (zip places bytes)) c.from-start.result i c.cell_of.result
          (omega (arith, inside, c.requires.inside, c.from-start.ensures)) (omega (arith, inside, len-zip, len-map))
          (cell-at record'.fixups.now places bytes c.args.marks.now i c.cell_of.result c.requires.lengths inside
          c.requires.marked c.cell_of.ensures) c.loop-index.invariant.laid;
    }

pub returns : goal.returns
returns g c =
    let record' = c.args.record.now in
    let places = record'.places.now in
    let bytes = record'.bytes.now in
    let old = c.args.cells.now.items in
    let cells = map (cell_of record'.fixups.now) (zip places bytes) in
    let len-zip = zip-length places bytes c.requires.lengths in
    let len-map = length-map (zip places bytes) (cell_of record'.fixups.now) in
    put-all old c.loop-index.cells.items cells c.from-start.result c.loop-index.index
    (omega (arith, len-zip, len-map, c.loop-index-test.false, c.loop-index.auto.index-end)) c.loop-index.invariant.laid
    ∙ ap₂ (λ s n. take s old ++ cells ++ drop (s + n) old) c.from-start.ensures len-map
