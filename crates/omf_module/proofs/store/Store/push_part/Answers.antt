use Rattle.std.proofs.Common.{◌++◌, ◌∷◌, [], ap, ◌∙◌}
use Rattle.omf_module.specs.Seen.{segment_seen}
use Rattle.omf_module.specs.inside.Store.{Kept, IsConsistent}
use Rattle.omf_module.proofs.Parted.{part_kept, part_in}
use Rattle.omf_module.proofs.store.Store.push_part.Goals as goal

pub invariant_of-self-2 : goal.invariant_of-self-2
unfolding IsConsistent
invariant_of-self-2 g c =
    rw (
      c.in_ok-push.ensures.items,
      c.in_ok-class.ensures.ok.0,
      c.in_ok-class.ensures.ok.1,
      c.in_ok-name.ensures.ok.0,
      c.in_ok-name.ensures.ok.1,
    )
    ((
      part_in c.self.inside.bytes.items c.self.inside.places.items _ c.self.invariant.0 c.args.segment.name.now
          c.args.segment.class.now c.length_of.result c.args.segment.standing,
      c.self.invariant.1,
    ))

pub returns : goal.returns
unfolding IsConsistent
returns g c =
    rw (
      c.in_ok-push.ensures.items,
      c.in_ok-class.ensures.ok.0,
      c.in_ok-class.ensures.ok.1,
      c.in_ok-name.ensures.ok.0,
      c.in_ok-name.ensures.ok.1,
    )
    (part_kept c.self.inside.bytes.items c.self.inside.places.items _ c.self.invariant.0 c.args.segment.name.now
    c.args.segment.class.now c.length_of.result c.args.segment.standing c.args.segment.length c.length_of.ensures
    ∙ ap (λ (k : Kept). record k { segments = k.segments ++ segment_seen c.args.segment ∷ [] }) c.self.view_is)
