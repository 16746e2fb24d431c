use Rattle.std.proofs.Common.{◌≡◌, ◌++◌, ◌∷◌, [], List, ℕ, map, length, refl, sym, ap, ◌∙◌, arith, length-append}
use Rattle.std.proofs.lemmas.List.{take_at}
use Rattle.omf_record.specs.View.{block_view}
use Rattle.omf_record.specs.Expansion.{expansion, places, bytes}
use Rattle.omf_module.specs.declared.pieces.Piece.{Piece}
use Rattle.omf_module.specs.inside.Store.{Kept, IsConsistent}
use Rattle.omf_module.proofs.Stored.{data_kept_as, data_in, stays, last_of, once_kept}
use Rattle.omf_module.proofs.Rising.{rises_on}
use Rattle.omf_module.proofs.Ranges.{zipped, length-places, length-bytes}
use Rattle.omf_module.proofs.store.Store.push_blocks.Goals as goal

abbrev piece : ℕ → ℕ → Piece
piece from len = record { from = from; len = len }

same_piece : (xs more : List ℕ) (from len : ℕ) → from ≡ length xs → len ≡ length more → piece from len ≡ last_of xs more
same_piece xs more from len e f = rw (e, f) refl

pub keep_expansion-requires-clause-len : goal.keep_expansion-requires-clause-len
keep_expansion-requires-clause-len g c = c.requires.len

pub keep_expansion-requires-clause-small : goal.keep_expansion-requires-clause-small
keep_expansion-requires-clause-small g c = c.requires.small

pub keep_expansion-requires-clause-short : goal.keep_expansion-requires-clause-short
keep_expansion-requires-clause-short g c = c.requires.short

pub invariant_of-self : goal.invariant_of-self
unfolding IsConsistent
invariant_of-self g c =
    let b = c.in_err-keep_expansion.ensures.kept in
    let p = c.in_err-keep_expansion.ensures.kept_places in
    rw (b.1, p.1) ((
      (stays c.self.inside.bytes.items b.0 c.self.inside.places.items p.0 _ c.self.invariant.0).1,
      rises_on c.self.inside.places.items p.0 _ c.self.invariant.1,
    ))

pub keep_once-places_from-requires-clause-from : goal.keep_once-places_from-requires-clause-from
keep_once-places_from-requires-clause-from g c =
    rw c.in_ok-keep_expansion.ensures.ok.1
    (omega (
      arith,
      c.len-places_from.ensures,
      c.self.inside.places.ok.0,
      length-append c.self.inside.places.items (places (expansion (map block_view c.args.blocks.now))),
    ))

pub keep_once-places_from-requires-clause-other : goal.keep_once-places_from-requires-clause-other
unfolding IsConsistent
keep_once-places_from-requires-clause-other g c =
    let ps = expansion (map block_view c.args.blocks.now) in
    let places_from : length c.self.inside.places.items ≡ c.len-places_from.result =
    omega (arith, c.len-places_from.ensures, c.self.inside.places.ok.0) in
    rw (
      c.in_ok-keep_expansion.ensures.ok.1,
      take_at c.self.inside.places.items (places ps) c.len-places_from.result
          places_from,
    )
    (c.last_places-before.ensures.inside c.self.inside.bytes.items c.self.inside.places.items
    (rw c.deref.ensures.value c.self.invariant.0.data_records))

pub invariant_of-self-in_err-push : goal.invariant_of-self-in_err-push
unfolding IsConsistent
invariant_of-self-in_err-push g c =
    let ps = expansion (map block_view c.args.blocks.now) in
    let places_from : c.len-places_from.result ≡ length c.self.inside.places.items =
    omega (arith, c.len-places_from.ensures, c.self.inside.places.ok.0) in
    let once =
    once_kept c.self.inside.places.items (places ps) _ _ _ _ _ c.in_ok-keep_expansion.ensures.ok.1 places_from
    (c.requires.len ∙ sym (length-places ps)) c.keep_once-places_from.ensures.kept
    c.keep_once-places_from.ensures.stands in
    rw (c.in_err-push.ensures.items, c.in_ok-keep_expansion.ensures.ok.0, once.1)
    ((
      (stays c.self.inside.bytes.items (bytes ps) c.self.inside.places.items once.0 _ c.self.invariant.0).1,
      rises_on
          c.self.inside.places.items once.0 _ c.self.invariant.1,
    ))

pub invariant_of-self-2 : goal.invariant_of-self-2
unfolding IsConsistent
invariant_of-self-2 g c =
    let ps = expansion (map block_view c.args.blocks.now) in
    let from : c.len.result ≡ length c.self.inside.bytes.items =
    omega (arith, c.len.ensures, c.self.inside.bytes.ok.0) in
    let places_from : c.len-places_from.result ≡ length c.self.inside.places.items =
    omega (arith, c.len-places_from.ensures, c.self.inside.places.ok.0) in
    let part : piece c.len.result c.args.len ≡ last_of c.self.inside.bytes.items (bytes ps) =
    same_piece c.self.inside.bytes.items (bytes ps) c.len.result c.args.len from
    (c.requires.len ∙ sym (length-bytes ps)) in
    let once =
    once_kept c.self.inside.places.items (places ps) _ _ _ _ _ c.in_ok-keep_expansion.ensures.ok.1 places_from
    (c.requires.len ∙ sym (length-places ps)) c.keep_once-places_from.ensures.kept
    c.keep_once-places_from.ensures.stands in
    rw (c.in_ok-push.ensures.items, c.in_ok-keep_expansion.ensures.ok.0, once.1)
    ((
      data_in c.self.inside.bytes.items c.self.inside.places.items _ c.self.invariant.0 (bytes ps) once.0 (places ps) _
          (part, once.2.0, once.2.1, c.new.ensures.items),
      rises_on c.self.inside.places.items once.0 _ c.self.invariant.1,
    ))

pub returns : goal.returns
unfolding IsConsistent
returns g c =
    let ps = expansion (map block_view c.args.blocks.now) in
    let from : c.len.result ≡ length c.self.inside.bytes.items =
    omega (arith, c.len.ensures, c.self.inside.bytes.ok.0) in
    let places_from : c.len-places_from.result ≡ length c.self.inside.places.items =
    omega (arith, c.len-places_from.ensures, c.self.inside.places.ok.0) in
    let part : piece c.len.result c.args.len ≡ last_of c.self.inside.bytes.items (bytes ps) =
    same_piece c.self.inside.bytes.items (bytes ps) c.len.result c.args.len from
    (c.requires.len ∙ sym (length-bytes ps)) in
    let once =
    once_kept c.self.inside.places.items (places ps) _ _ _ _ _ c.in_ok-keep_expansion.ensures.ok.1 places_from
    (c.requires.len ∙ sym (length-places ps)) c.keep_once-places_from.ensures.kept
    c.keep_once-places_from.ensures.stands in
    rw (c.in_ok-push.ensures.items, c.in_ok-keep_expansion.ensures.ok.0, once.1)
    (data_kept_as c.self.inside.bytes.items c.self.inside.places.items _ c.self.invariant.0 (bytes ps) once.0
    (places ps) _ ps (part, once.2.0, once.2.1, c.new.ensures.items) (zipped ps)
    ∙ ap (λ (k : Kept). record k {
      data_records =
          k.data_records
          ++ record {
            place = c.args.origin.place;
            segment = c.args.origin.segment;
            offset = c.args.origin.offset;
            pairs = ps;
            fixups = [];
          } ∷ [];
    }) c.self.view_is)
