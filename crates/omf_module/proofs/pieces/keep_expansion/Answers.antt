use Rattle.std.proofs.Common.{◌≡◌, ℕ, ◌≤◌, ◌++◌, List, length, map, arith, [], sym, ◌∙◌}
use Rattle.std.proofs.lemmas.List.{length-map, append-nil}
use Rattle.omf_frame.proofs.Told.{on_err}
use Rattle.omf_record.specs.Expansion.{expansion, bytes, places}
use Rattle.omf_record.specs.View.{block_view}
use Rattle.omf_module.proofs.Stored.{written_behind, behind_from, behind_long}
use Rattle.omf_module.proofs.pieces.keep_expansion.Goals as goal

pub returns-in_err-from-clause-kept : goal.returns-in_err-from-clause-kept
returns-in_err-from-clause-kept g c = on_err _ c.lengthen.ensures.kept

pub returns-in_err-from-clause-kept_places : goal.returns-in_err-from-clause-kept_places
returns-in_err-from-clause-kept_places g c =
    let same : (more : List ℕ) × (c.args.places.now.items ≡ c.args.places.now.items ++ more) =
    ([], sym (append-nil c.args.places.now.items)) in
    on_err _ same

pub returns-in_err-places_from-clause-kept : goal.returns-in_err-places_from-clause-kept
returns-in_err-places_from-clause-kept g c = on_err _ c.lengthen.ensures.kept

pub returns-in_err-places_from-clause-kept_places : goal.returns-in_err-places_from-clause-kept_places
returns-in_err-places_from-clause-kept_places g c = on_err _ c.lengthen-2.ensures.kept

pub slice_bounds-expand_into-count : goal.slice_bounds-expand_into-count
slice_bounds-expand_into-count g c =
    let b = c.in_ok-from.ensures.ok in
    behind_from c.args.bytes.now.items b.1 c.lengthen.new.list.items c.as_mut_slice-bytes.result.now
    c.in_ok-from.from b.0 b.2 c.as_mut_slice-bytes.ensures.value

pub slice_bounds-expand_into-count-2 : goal.slice_bounds-expand_into-count-2
slice_bounds-expand_into-count-2 g c =
    let p = c.in_ok-places_from.ensures.ok in
    behind_from c.args.places.now.items p.1 c.lengthen-2.new.list.items c.as_mut_slice-places.result.now
    c.in_ok-places_from.places_from p.0 p.2 c.as_mut_slice-places.ensures.value

pub expand_into-requires-clause-bytes_len : goal.expand_into-requires-clause-bytes_len
expand_into-requires-clause-bytes_len g c =
    let b = c.in_ok-from.ensures.ok in
    behind_long c.args.bytes.now.items b.1 c.lengthen.new.list.items c.as_mut_slice-bytes.result.now
    c.in_ok-from.from b.0 b.2 c.as_mut_slice-bytes.ensures.value ∙ b.3 ∙ c.requires.len

pub expand_into-requires-clause-stored_len : goal.expand_into-requires-clause-stored_len
expand_into-requires-clause-stored_len g c =
    let p = c.in_ok-places_from.ensures.ok in
    behind_long c.args.places.now.items p.1 c.lengthen-2.new.list.items c.as_mut_slice-places.result.now
    c.in_ok-places_from.places_from p.0 p.2 c.as_mut_slice-places.ensures.value ∙ p.3 ∙ c.requires.len

pub returns-clause-ok : goal.returns-clause-ok
returns-clause-ok g c =
    let said = expansion (map block_view c.args.blocks.now) in
    let b = c.in_ok-from.ensures.ok in
    let p = c.in_ok-places_from.ensures.ok in (
      written_behind c.args.bytes.now.items b.1 c.lengthen.new.list.items c.as_mut_slice-bytes.result.now
          c.expand_into.new.bytes (bytes said) c.in_ok-from.from c.lengthen.new.list.len
          b.0 b.2 c.as_mut_slice-bytes.ensures.value (omega (arith, c.lengthen.new.list.ok.0))
          c.expand_into.ensures.bytes (omega (arith, length-map said (λ x. x.1), c.requires.len, b.3)),
      written_behind c.args.places.now.items p.1 c.lengthen-2.new.list.items c.as_mut_slice-places.result.now
          c.expand_into.new.stored (places said) c.in_ok-places_from.places_from c.lengthen-2.new.list.len
          p.0 p.2 c.as_mut_slice-places.ensures.value (omega (arith, c.lengthen-2.new.list.ok.0))
          c.expand_into.ensures.stored (omega (arith, length-map said (λ x. x.0), c.requires.len, p.3)),
    )

pub returns-clause-kept : goal.returns-clause-kept
returns-clause-kept g c = tt

pub returns-clause-kept_places : goal.returns-clause-kept_places
returns-clause-kept_places g c = tt

pub offset_bounds-places-places_from : goal.offset_bounds-places-places_from
offset_bounds-places-places_from g c =
    let p = c.in_ok-places_from.ensures.ok in
    let le : c.in_ok-places_from.places_from ≤ length c.as_mut_slice-places.result.now =
    behind_from c.args.places.now.items p.1 c.lengthen-2.new.list.items c.as_mut_slice-places.result.now
    c.in_ok-places_from.places_from p.0 p.2 c.as_mut_slice-places.ensures.value in
    omega (arith, le, c.as_mut_slice-places.type_inv)

pub expand_into-requires-clause-small : goal.expand_into-requires-clause-small
expand_into-requires-clause-small g c = omega (arith, c.requires.len, c.requires.small)

pub expand_into-requires-clause-short : goal.expand_into-requires-clause-short
expand_into-requires-clause-short g c = c.requires.short
