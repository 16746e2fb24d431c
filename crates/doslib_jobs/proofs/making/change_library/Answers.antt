use Rattle.std.proofs.Common.{◌≡◌, ◌∷◌, ◌++◌, ◌∙◌, [], IfOk, ap, subst}
use Rattle.doslink_files.specs.Written.{StandsAt}
use Rattle.doslib_words.specs.Words.{texts}
use Rattle.doslib_jobs.specs.Jobs.{IsChanged}
use Rattle.doslib_jobs.specs.inside.Libraries.{DoesBy, change_of}
use Rattle.doslib_jobs.specs.inside.Running.{outcome_said}
use Rattle.doslib_jobs.proofs.making.change_library.Goals as goal

pub returns : goal.returns
returns g c =
    let all : texts c.deref.result.now ≡ c.args.path.now ∷ texts c.args.files.now =
    ap texts (c.deref.ensures.value ∙ c.in_ok-extend_from_slice.ensures.items
    ∙ ap (λ l. l ++ c.args.files.now)
    (c.in_ok-push.ensures.items ∙ ap (λ l. l ++ c.args.path ∷ []) c.new-paths.ensures.items)) in
    subst (λ ps. IfOk (outcome_said c.change_by.result) (λ o. DoesBy (g.W.World.bytes c.args.world) ps
    (λ sources. IsChanged (StandsAt (g.W.World.blank c.args.world) (g.W.World.Puts c.args.world)) c.args.path.now
    (change_of c.args.change sources)) o.0 o.1)) all c.change_by.ensures
