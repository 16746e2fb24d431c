use Rattle.std.proofs.Common.{◌≡◌, ◌++◌, ◌∷◌, [], map, ap, ◌∙◌}
use Rattle.omf_module.specs.inside.Entries.{segment_of}
use Rattle.omf_module.specs.inside.Store.{Kept, elements, segment, IsConsistent}
use Rattle.omf_module.proofs.Stored.{segment_kept, segment_in}
use Rattle.omf_module.proofs.store.Store.push_segment.Goals as goal

pub invariant_of-self : goal.invariant_of-self
invariant_of-self g c = rw c.in_err-push.ensures.items c.self.invariant

pub invariant_of-self-2 : goal.invariant_of-self-2
unfolding IsConsistent
invariant_of-self-2 g c =
    let inside = rw c.deref.ensures.value at c.segment_entry-segment.ensures.inside c.self.inside.bytes.items in
    rw c.in_ok-push.ensures.items ((
      segment_in _ _ _ c.self.invariant.0 c.segment_entry-segment.result (inside c.self.invariant.0.names),
      c.self.invariant.1,
    ))

pub returns : goal.returns
unfolding IsConsistent
returns g c =
    let says : segment c.self.inside.bytes.items c.segment_entry-segment.result
    ≡ segment_of (map (elements c.self.inside.bytes.items) c.self.inside.names.items) c.args.definition.now =
    rw c.deref.ensures.value at c.segment_entry-segment.ensures.says c.self.inside.bytes.items in
    rw c.in_ok-push.ensures.items
    (segment_kept _ _ _ c.self.invariant.0 c.segment_entry-segment.result says
    ∙ ap (λ (k : Kept). record k { segments = k.segments ++ segment_of k.names c.args.definition.now ∷ [] })
    c.self.view_is)
