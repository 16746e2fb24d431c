use Rattle.std.proofs.Common.{◌+◌, ℕ, List, [], ◌++◌, map, drop, append-nil, refl, sym, subst, arith}
use Rattle.std.proofs.lemmas.List.{at_drop_all}
use Rattle.std.specs.Borrow.{Bor}
use Rattle.omf_frame.specs.Lending.{plain_frame}
use Rattle.omf_frame.specs.declared.frame.Frame.{Frame}
use Rattle.omf_library.specs.Names.{texts}
use Rattle.omf_comdat.specs.Comdats.{AreComdats, IsIn, records_said}
use Rattle.omf_comdat.proofs.Finding.{comdats-turn}
use Rattle.omf_comdat.proofs.records.comdat_records.Goals as goal

pub loop-frame-preserved : goal.loop-frame-preserved
loop-frame-preserved g c = λ more rest.
    let all = map plain_frame c.args.frames.now in
    let behind = map plain_frame (drop (c.loop-frame.frame-index + 1) c.args.frames.now) in
    let p = c.in_ok-push_comdat.ensures in
    subst (λ told. AreComdats [] all (told ++ more)) (sym p.pushed)
    (comdats-turn c.args.frames.now c.loop-frame.frame-index c.frame-item.result all (texts c.loop-frame.listed.items)
    (records_said c.loop-frame.records.items) p.here c.loop-frame-test.true c.frame-item.is
    (subst (λ (names : List (Bor (List ℕ))). IsIn (texts names) (plain_frame c.frame-item.result) p.here)
    c.deref.ensures.value p.found)
    c.loop-frame.invariant more
    (subst (λ listed. AreComdats listed behind more) c.in_ok-push_listed.ensures rest))

pub returns : goal.returns
returns g c =
    let told = records_said c.loop-frame.records.items in
    subst (AreComdats [] (map plain_frame c.args.frames.now)) (append-nil told)
    (c.loop-frame.invariant []
    (subst (λ (fs : List Frame). AreComdats (texts c.loop-frame.listed.items) (map plain_frame fs) [])
    (sym (at_drop_all (λ (fs : List Frame). fs) c.args.frames.now c.loop-frame.frame-index (omega arith))) refl))
