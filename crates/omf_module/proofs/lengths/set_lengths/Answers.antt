use Rattle.std.proofs.Common.{◌<◌, length, get_or, map, sym, subst, arith, ◌∙◌, ap}
use Rattle.std.proofs.lemmas.List.{get_or_default, map-set, get_or-map, length-map}
use Rattle.std.proofs.lemmas.List.Elements.{All-from_recursion}
use Rattle.std.specs.List.{AllByRecursion}
use Rattle.omf_record.specs.declared.segments.SegmentLength.TheVariants as lengths
use Rattle.omf_module.specs.declared.Standing.TheVariants.{Absolute}
use Rattle.omf_module.specs.declared.entries.SegmentEntry.{SegmentEntry}
use Rattle.omf_module.specs.Lengths.{with_told, with_length}
use Rattle.omf_module.specs.Sound.{SegmentFits}
use Rattle.omf_module.specs.inside.Store.{segment, SegmentIsIn}
use Rattle.omf_module.proofs.InPlace.{all_set}
use Rattle.omf_module.proofs.Indexed.{indexed_more}
use Rattle.omf_module.proofs.lengths.set_lengths.Goals as goal

-- what is read past the end
abbrev none : SegmentEntry
none = record {
  name = record { from = 0; len = 0 };
  class = record { from = 0; len = 0 };
  length = lengths.Word 0;
  standing = Absolute 0 0;
}

pub loop-index-preserved : goal.loop-index-preserved
loop-index-preserved c =
    let old = c.args.segments.now in
    let now = c.loop-index.segments in
    let i = c.loop-index.index in
    let x = get_or now i none in
    let new = c.with_length.result in
    let within : i < length old = omega arith in
    let within_now : i < length now = omega arith in
    record {
      says =
          λ bytes.
          indexed_more (with_length c.args.lengths.now) (segment bytes) old now i x new within within_now
          (get_or_default now i none x within_now) (c.loop-index.invariant.says bytes)
          (c.with_length.ensures.says bytes ∙ ap (λ o. with_told o (segment bytes x)) c.told_length.ensures);
      inside =
          λ bytes h.
          let all = c.loop-index.invariant.inside bytes h in
          all_set (SegmentIsIn bytes) now i new all
          (c.with_length.ensures.inside bytes (All-from_recursion (SegmentIsIn bytes) now all i none within_now));
      fits =
          λ bytes h.
          let all = c.loop-index.invariant.fits bytes h in
          let seen = map (segment bytes) now in
          let within_seen : i < length seen = omega (arith, length-map now (segment bytes)) in
          let read =
          subst SegmentFits (get_or-map (segment bytes) now i none (segment bytes none) within_now)
          (All-from_recursion SegmentFits seen all i (segment bytes none) within_seen) in
          subst (AllByRecursion SegmentFits) (sym (map-set (segment bytes) now i new))
          (all_set SegmentFits seen i (segment bytes new) all (c.with_length.ensures.fits bytes read));
    }
