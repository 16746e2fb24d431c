use Rattle.std.proofs.Common.{◌++◌, ◌∷◌, [], length, ap, ◌∙◌}
use Rattle.std.specs.List.{range_with_len, zip}
use Rattle.omf_module.specs.inside.Store.{Kept, IsConsistent}
use Rattle.omf_module.proofs.Stored.{stays, places_stay, data_kept, data_in}
use Rattle.omf_module.proofs.Rising.{rises_on, rising_data}
use Rattle.omf_module.proofs.Ranges.{numbered}
use Rattle.omf_module.proofs.store.Store.push_bytes.Goals as goal

pub invariant_of-self : goal.invariant_of-self
unfolding IsConsistent
invariant_of-self g c =
    let p = c.rising_piece.ensures.kept in
    rw p.1 ((
      places_stay c.self.inside.bytes.items c.self.inside.places.items p.0 _ c.self.invariant.0,
      rises_on c.self.inside.places.items p.0 _ c.self.invariant.1,
    ))

pub invariant_of-self-in_err-bytes : goal.invariant_of-self-in_err-bytes
unfolding IsConsistent
invariant_of-self-in_err-bytes g c =
    let p = c.rising_piece.ensures.kept in
    let b = c.keep.ensures.kept in (
      rw (b.1, p.1)
          (stays c.self.inside.bytes.items b.0 c.self.inside.places.items p.0 _ c.self.invariant.0).1,
      c.in_ok-self-inside.ensures.ok.1,
    )

pub invariant_of-self-in_err-push : goal.invariant_of-self-in_err-push
unfolding IsConsistent
invariant_of-self-in_err-push g c =
    let p = c.rising_piece.ensures.kept in
    let b = c.keep.ensures.kept in (
      rw (c.in_err-push.ensures.items, b.1, p.1)
          (stays c.self.inside.bytes.items b.0 c.self.inside.places.items p.0 _ c.self.invariant.0).1,
      c.in_ok-self-inside.ensures.ok.1,
    )

pub invariant_of-self-2 : goal.invariant_of-self-2
unfolding IsConsistent
invariant_of-self-2 g c =
    let p = c.rising_piece.ensures.kept in
    let r =
    rising_data c.self.inside.bytes.items c.self.inside.places.items c.args.bytes.now p.0 _ _ _ p.1
    c.in_ok-self-inside.ensures.ok c.in_ok-bytes.ensures.ok.1 in (
      rw (c.in_ok-push.ensures.items, c.in_ok-bytes.ensures.ok.0, p.1)
          (data_in c.self.inside.bytes.items c.self.inside.places.items _ c.self.invariant.0 c.args.bytes.now p.0
          (range_with_len 0 (length c.args.bytes.now)) _ (c.in_ok-bytes.ensures.ok.1, r.0, r.1, c.new.ensures.items)),
      c.in_ok-self-inside.ensures.ok.1,
    )

pub returns : goal.returns
unfolding IsConsistent
returns g c =
    let p = c.rising_piece.ensures.kept in
    let r =
    rising_data c.self.inside.bytes.items c.self.inside.places.items c.args.bytes.now p.0 _ _ _ p.1
    c.in_ok-self-inside.ensures.ok c.in_ok-bytes.ensures.ok.1 in
    rw (c.in_ok-push.ensures.items, c.in_ok-bytes.ensures.ok.0, p.1, ← numbered 0 c.args.bytes.now)
    (data_kept c.self.inside.bytes.items c.self.inside.places.items _ c.self.invariant.0 c.args.bytes.now p.0
    (range_with_len 0 (length c.args.bytes.now)) _ (c.in_ok-bytes.ensures.ok.1, r.0, r.1, c.new.ensures.items)
    ∙ ap (λ (k : Kept). record k {
      data_records =
          k.data_records
          ++ record {
            place = c.args.origin.place;
            segment = c.args.origin.segment;
            offset = c.args.origin.offset;
            pairs = zip (range_with_len 0 (length c.args.bytes.now)) c.args.bytes.now;
            fixups = [];
          } ∷ [];
    }) c.self.view_is)
