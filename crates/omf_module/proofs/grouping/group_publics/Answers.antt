use Rattle.std.proofs.Common.{◌<◌, length, get_or, false, sym, subst, arith}
use Rattle.std.proofs.lemmas.List.{get_or_default}
use Rattle.std.proofs.lemmas.List.Elements.{All-from_recursion}
use Rattle.omf_record.specs.declared.externals.PublicBase.TheVariants.{AtFrame}
use Rattle.omf_module.specs.declared.entries.PublicEntry.{PublicEntry}
use Rattle.omf_module.specs.Grouped.{public_in}
use Rattle.omf_module.specs.inside.Store.{public_symbol, IsIn, PublicIsIn}
use Rattle.omf_module.proofs.InPlace.{seen_more, all_set}
use Rattle.omf_module.proofs.grouping.group_publics.Goals as goal

-- what is read past the end
abbrev none : PublicEntry
none = record { name = record { from = 0; len = 0 }; base = AtFrame 0 0; offset = 0; local = false }

pub loop-index-preserved : goal.loop-index-preserved
loop-index-preserved c =
    let old = c.args.publics.now in
    let now = c.loop-index.publics in
    let i = c.loop-index.index in
    let x = get_or now i none in
    let within : i < length old = omega arith in
    let within_now : i < length now = omega arith in
    record {
      says =
          λ bytes.
          seen_more (public_symbol bytes) (public_in c.args.joined.now c.args.group) old now i x c.public_in.result
          within within_now (get_or_default now i none x within_now) (c.loop-index.invariant.says bytes)
          (c.public_in.ensures.says bytes);
      inside =
          λ bytes h.
          let all = c.loop-index.invariant.inside bytes h in
          all_set (PublicIsIn bytes) now i c.public_in.result all
          (subst (IsIn bytes) (sym c.public_in.ensures.name)
          (All-from_recursion (PublicIsIn bytes) now all i none within_now));
    }
