use Rattle.std.proofs.Common.{[], ◌++◌, ◌∙◌, All, ap, append-nil, map, refl, sym, subst}
use Rattle.std.proofs.lemmas.List.Elements.{All-get_or, All-nil}
use Rattle.doslink_files.specs.Files.{contents}
use Rattle.doslink_words.specs.Tokens.{texts}
use Rattle.doslink_jobs.specs.Jobs.{IsAskedBy, IsDefault}
use Rattle.doslink_jobs.specs.inside.Absent.{AreLookedUp, library_said, outcome_of}
use Rattle.doslink_jobs.specs.inside.Absent.{Absent}
use Rattle.doslink_jobs.proofs.Absent.{found-outcome, looked-more, looked-none, none-absent}
use Rattle.doslink_jobs.proofs.gathering.find_round.Goals as goal
use Rattle.doslink_jobs.proofs.gathering.find_round.Goals.{in-Ok+in_ok-keep_found-in-Ok}
use Rattle.doslink_jobs.proofs.gathering.find_round.Goals.{in-Err+in_ok-pass_absent-in-Err}

pub loop-library-init : goal.loop-library-init
loop-library-init g c =
    let told = g.W.World.bytes c.args.world.now in
    let folders = texts c.args.folders.now in
    let absent = map library_said c.args.absent.now.items in record {
      files = λ left_out modules asked.
          subst (λ fs. All (IsDefault told folders left_out modules) (contents fs)) (sym c.new-round.ensures.items)
          (All-nil (IsDefault told folders left_out modules));
      absent = subst (λ fs. AreLookedUp told folders [] (contents fs) absent absent) (sym c.new-round.ensures.items)
          (looked-none told folders absent);
      kept = refl;
    }

pub loop-library-preserved : goal.loop-library-preserved
loop-library-preserved g c =
    let told = g.W.World.bytes c.args.world.now in
    let folders = texts c.args.folders.now in
    let all = c.args.libraries.now in
    let i = c.loop-library.library-index in
    let x = c.library-item.result in
    let before = c.loop-library.invariant in
    let start = map library_said c.loop-library.absent.items in
    elim c.match-find_one.branch [
      | in-Ok+in_ok-keep_found-in-Ok w ↦ record {
        files = λ left_out modules asked.
            let by = subst (λ l. IsAskedBy left_out modules l.name.now) (sym c.library-item.is)
            (All-get_or (λ l. IsAskedBy left_out modules l.name.now) all i x c.loop-library-test.true asked) in
            subst (λ r. All (IsDefault told folders left_out modules) (contents r.items)) (sym w.round-is)
            (w.in_ok-keep_found-in-Ok.ensures.files told folders x.name.now left_out modules w.in-Ok.ensures by
            (before.files left_out modules asked));
        absent = looked-more told folders all i x (outcome_of w.in-Ok.found) _ _ _ start _ c.loop-library-test.true
            c.library-item.is before.absent (found-outcome told folders x.name.now w.in-Ok.found w.in-Ok.ensures)
            (ap (λ r. contents r.items) w.round-is ∙ w.in_ok-keep_found-in-Ok.ensures.added)
            (ap (λ a. map library_said a.items) w.absent-is ∙ sym (append-nil start)
            ∙ ap (λ l. start ++ l) (sym (none-absent (library_said x) w.in-Ok.found)));
        kept = ap (λ l. l.items) w.lines-is ∙ before.kept;
      }
      | in-Err+in_ok-pass_absent-in-Err w ↦ record {
        files = λ left_out modules asked.
            subst (λ r. All (IsDefault told folders left_out modules) (contents r.items)) (sym w.round-is)
            (before.files left_out modules asked);
        absent = looked-more told folders all i x Absent (contents c.loop-library.round.items) _ _ start _
            c.loop-library-test.true c.library-item.is before.absent tt
            (ap (λ r. contents r.items) w.round-is ∙ sym (append-nil (contents c.loop-library.round.items)))
            (ap (λ a. map library_said a.items) w.absent-is ∙ w.in_ok-pass_absent-in-Err.ensures.added);
        kept = ap (λ l. l.items) w.lines-is ∙ w.in_ok-pass_absent-in-Err.ensures.kept ∙ before.kept;
      }
    ]
