use Rattle.std.proofs.Common.{IfSome, map, refl, string_bytes, subst, sym, ◌∙◌}
use Rattle.std.specs.List.{Contains}
use Rattle.doslink_files.specs.Files.{IsModulesPart}
use Rattle.doslink_files.specs.inside.Taking.{IsTaken}
use Rattle.doslink_files.proofs.Looking.{first-holds, path-at, taken-among}
use Rattle.doslink_files.proofs.taking.take_first.Goals as goal
use Rattle.doslink_files.proofs.taking.take_first.Goals.{in-Ok, in-Err+in_ok-why-in-Err}

pub returns-in-Ok-2 : goal.returns-in-Ok-2
returns-in-Ok-2 g c =
    let stands = path-at c.args.paths.now c.loop-path.path-index _ _ c.loop-path-test.true refl in
    taken-among (g.W.World.bytes c.args.world.now) (g.W.World.holds c.args.world.now) c.args.known.now
    (map string_bytes c.args.paths.now) c.as_str.result.now c.in-Ok.taken
    (rw (c.as_str.ensures.value, c.path-item.is) stands) c.in-Ok.ensures

pub loop-path-preserved : goal.loop-path-preserved
loop-path-preserved g c =
    let told = g.W.World.bytes c.args.world.now in
    let holds = g.W.World.holds c.args.world.now in
    let paths = map string_bytes c.args.paths.now in
    let stands = path-at c.args.paths.now c.loop-path.path-index _ _ c.loop-path-test.true refl in
    let Among = IsTaken {A = g.row.A.Denot} (λ path bytes. Contains paths path × IsModulesPart (told path) bytes)
    holds c.args.known.now in
    elim c.match-take_at.branch [
      | in-Ok w ↦ record {
        last = subst (λ last. IfSome last Among) (sym (w.last-is ∙ w.or-last.ensures))
            (first-holds Among c.loop-path.last w.in-Ok.taken c.loop-path.invariant.last
            (taken-among told holds c.args.known.now paths c.as_str.result.now w.in-Ok.taken
            (rw (c.as_str.ensures.value, c.path-item.is) stands) w.in-Ok.ensures));
      }
      | in-Err+in_ok-why-in-Err w ↦ record {
        last = subst (λ last. IfSome last Among) (sym w.last-is) c.loop-path.invariant.last;
      }
    ]
