use Rattle.std.proofs.Common.{◌≡◌, Some, ◌∙◌, ap, map, refl, sym}
use Rattle.omf_place.specs.Faults.{PlacementFault, duplicate_in}
use Rattle.omf_place.specs.inside.HeldNames.{entry_view}
use Rattle.omf_place.specs.Said.{said}
use Rattle.omf_place.proofs.DuplicateSteps.{starts, owner-within, repeated, apart-more, holds-more, holds-all}
use Rattle.omf_place.proofs.DuplicateSteps.{no-duplicate}
use Rattle.omf_place.proofs.Results.{IfSome-map}
use Rattle.omf_place.proofs.scopes.index_publics.Goals as goal

pub loop-entry-init : goal.loop-entry-init
loop-entry-init g c =
    record { holds = starts c.args.names c.args.count c.in_ok-scopes.scopes c.in_ok-scopes.ensures; apart = refl }

pub add-requires : goal.add-requires
add-requires g c =
    owner-within c.args.names c.args.count c.args.entries.now c.loop-entry.entry-index _ c.loop-entry.scopes
    c.loop-entry-test.true c.requires c.loop-entry.invariant.holds c.loop-entry.invariant.apart

pub returns-then-not-branch-clause-fault : goal.returns-then-not-branch-clause-fault
returns-then-not-branch-clause-fault g c =
    IfSome-map _ (λ (f : PlacementFault). duplicate_in c.args.names (map entry_view c.args.entries.now) ≡ Some f)
    (said c.duplicate_public.result)
    (λ f e.
    repeated c.args.names c.args.count c.args.entries.now c.loop-entry.entry-index _ c.loop-entry.scopes
    c.loop-entry-test.true c.requires c.loop-entry.invariant.holds c.loop-entry.invariant.apart
    (c.in_ok-add.ensures.there c.if-not-branch.true) ∙ ap (λ h. Some h) (sym e))
    c.duplicate_public.ensures

pub loop-entry-preserved : goal.loop-entry-preserved
loop-entry-preserved g c = record {
  holds =
      holds-more c.args.names c.args.count c.args.entries.now c.loop-entry.entry-index _ c.loop-entry.scopes
      c.loop-entry-test.true c.requires c.loop-entry.invariant.holds c.loop-entry.invariant.apart
      _ c.in_ok-add.ensures.count (c.in_ok-add.ensures.fresh c.if-not-branch.false);
  apart =
      apart-more c.args.names c.args.count c.args.entries.now c.loop-entry.entry-index _ c.loop-entry.scopes
      c.loop-entry-test.true c.requires c.loop-entry.invariant.holds c.loop-entry.invariant.apart
      (c.in_ok-add.ensures.absent c.if-not-branch.false);
}

pub returns-clause-made : goal.returns-clause-made
returns-clause-made g c =
    holds-all c.args.names c.args.count c.args.entries.now c.loop-entry.entry-index c.loop-entry.scopes
    c.loop-entry-test.false c.loop-entry.invariant.holds

pub returns-clause-apart : goal.returns-clause-apart
returns-clause-apart g c =
    no-duplicate c.args.names c.args.entries.now c.loop-entry.entry-index c.loop-entry-test.false
    c.loop-entry.invariant.apart
