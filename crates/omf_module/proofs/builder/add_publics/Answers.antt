use Rattle.std.proofs.Common.{◌<◌, [], ◌∷◌, get_or, map, take, refl, sym, ap, subst, ◌∙◌, arith}
use Rattle.std.specs.List.{AllByRecursion}
use Rattle.std.proofs.lemmas.List.{append-nil, take_all}
use Rattle.omf_record.specs.Record.{Public}
use Rattle.omf_record.specs.declared.externals.Public.{Public as CodePublic}
use Rattle.omf_record.specs.View.{public_view}
use Rattle.omf_record.proofs.Places.{all-append}
use Rattle.omf_module.specs.inside.Entries.{public_of}
use Rattle.omf_module.specs.inside.Store.{Kept}
use Rattle.std.proofs.lemmas.List.{map_more}
use Rattle.omf_module.proofs.Lists.{map_map_pushed}
use Rattle.omf_module.proofs.builder.add_publics.Goals as goal

-- what is read past the end
abbrev none : CodePublic
none = record { name = record { ref_ptr = (0, 0); now = [] }; offset = 0; type_index = 0 }

abbrev InField : Public → Type 0
InField p = p.offset < 65536

pub loop-public-init : goal.loop-public-init
loop-public-init g c =
    let old : Kept = c.args.store.now in
    record {
      base = refl;
      kept = ap (λ ns. record old { publics = ns }) (sym (append-nil old.publics));
      fits = tt;
    }

pub loop-public-preserved : goal.loop-public-preserved
loop-public-preserved g c =
    let old : Kept = c.args.store.now in
    let all = c.args.publics.now in
    let i = c.loop-public.public-index in
    let more =
    map_map_pushed (public_of c.args.local c.args.base) public_view old.publics all i _
    c.loop-public-test.true in
    let pushed = rw c.loop-public.invariant.kept at c.in_ok-push_public.ensures in
    record {
      base = refl;
      kept = pushed ∙ ap (λ ns. record old { publics = ns }) more;
      fits =
          let x = get_or all i none in
          let offset : x.offset < 65536 = omega arith in
          subst (AllByRecursion InField) (sym (map_more public_view all i none c.loop-public-test.true))
          (all-append InField (map public_view (take i all)) (public_view x ∷ []) c.loop-public.invariant.fits (offset, tt));
    }

pub returns-clause-kept : goal.returns-clause-kept
returns-clause-kept g c =
    let all = take_all c.loop-public.public-index c.args.publics.now c.loop-public-test.false in
    rw all at c.loop-public.invariant.kept

pub returns-clause-fits : goal.returns-clause-fits
returns-clause-fits g c =
    let all = take_all c.loop-public.public-index c.args.publics.now c.loop-public-test.false in
    rw all at c.loop-public.invariant.fits
