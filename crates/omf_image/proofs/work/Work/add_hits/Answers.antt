use Rattle.std.proofs.Common.{◌∙◌, ◌+◌, ◌++◌, ℕ, List, refl, sym, ap, subst, take, flat_map}
use Rattle.std.proofs.lemmas.List.{append_assoc, append-nil, take_all}
use Rattle.omf_image.specs.declared.patch.Patch.{Patch}
use Rattle.omf_image.specs.Value.{patches_at}
use Rattle.omf_image.specs.inside.States.{state, Holds}
use Rattle.omf_image.proofs.Touched.{flat_more}
use Rattle.omf_image.proofs.work.Work.add_hits.Goals as goal

pub loop-at-preserved : goal.loop-at-preserved
loop-at-preserved g c =
    let f : ℕ → List Patch =
    λ i. patches_at 0 c.args.resolved.now c.args.self_relative c.args.location i (c.args.start + i) in
    let k = c.loop-at.at-index in
    let hits = c.args.hits.now in
    record {
      room = c.add_patches.ensures.room;
      same = c.add_patches.ensures.same ∙ c.loop-at.invariant.same;
      holds = λ bytes base ps h.
          subst (λ (l : List Patch). Holds c.args.start bytes base (state c.add_patches.new.self) l)
          (append_assoc ps (flat_map f (take k hits)) _
          ∙ ap (λ (l : List Patch). ps ++ (flat_map f (take k hits) ++ l)) c.patches-first.ensures.patches
          ∙ ap (λ (l : List Patch). ps ++ l) (sym (flat_more f hits k c.loop-at-test.true)))
          (c.add_patches.ensures.holds bytes base (ps ++ flat_map f (take k hits))
          (c.loop-at.invariant.holds bytes base ps h));
    }

pub returns-clause-holds : goal.returns-clause-holds
returns-clause-holds g c bytes base ps h =
    let f : ℕ → List Patch =
    λ i. patches_at 0 c.args.resolved.now c.args.self_relative c.args.location i (c.args.start + i) in
    subst (λ (l : List ℕ). Holds c.args.start bytes base (state c.loop-at.self) (ps ++ flat_map f l))
    (take_all c.loop-at.at-index c.args.hits.now c.loop-at-test.false)
    (c.loop-at.invariant.holds bytes base ps h)

pub loop-at-init : goal.loop-at-init
loop-at-init g c = record {
  room = c.requires.room;
  same = refl;
  holds = λ bytes base ps h.
      subst (λ (l : List Patch). Holds c.args.start bytes base (state c.args.self.now) l) (sym (append-nil ps)) h;
}

pub returns-clause-room : goal.returns-clause-room
returns-clause-room g c = c.loop-at.invariant.room

pub returns-clause-same : goal.returns-clause-same
returns-clause-same g c = c.loop-at.invariant.same
