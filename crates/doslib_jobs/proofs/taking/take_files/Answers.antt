use Rattle.std.proofs.Common.{◌<◌, ◌+◌, ◌∙◌, ap, length, map, rules, subst, sym, take}
use Rattle.std.proofs.lemmas.List.{map_push}
use Rattle.doslib_words.specs.Words.{texts}
use Rattle.doslib_jobs.specs.inside.Libraries.{HasTaken, source_said}
use Rattle.doslib_jobs.proofs.Libraries.{taken-all, taken-more, taken-none}
use Rattle.doslib_jobs.proofs.taking.take_files.Goals as goal

pub loop-path-init : goal.loop-path-init
loop-path-init g c = rw c.new-taken.ensures.items (taken-none _ _ _ c.requires.lines c.requires.status)

pub loop-path-preserved : goal.loop-path-preserved
loop-path-preserved g c =
    let here : c.loop-path.path-index < length c.args.paths.now = search rules in
    let pushed =
    ap (map source_said) c.in_ok-push.ensures.items ∙ map_push source_said c.loop-path.taken.items _ in
    subst (λ l. HasTaken (g.W.World.bytes c.args.world) (texts (take (c.loop-path.path-index + 1) c.args.paths.now)) l
    c.take_file.new.outcome.lines.items c.take_file.new.outcome.status) (sym pushed)
    (taken-more _ c.args.paths.now c.loop-path.path-index _ _ _ _ _ here c.loop-path.invariant
    c.in_ok-take_file.ensures)

pub returns : goal.returns
returns g c = taken-all _ c.args.paths.now c.loop-path.path-index _ _ _ c.loop-path-test.false c.loop-path.invariant
