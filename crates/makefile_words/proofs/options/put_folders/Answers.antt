use Rattle.std.proofs.Common.{◌∙◌, ◌<◌, ap, arith, length, option_map, sym}
use Rattle.std.proofs.lemmas.List.{length-map, map-append}
use Rattle.doslink_words.specs.Tokens.{texts}
use Rattle.makefile_words.proofs.LinesLemmas.{folders_more, folders_wrong, text_here}
use Rattle.makefile_words.proofs.options.put_folders.Goals as goal

pub returns-in-None : goal.returns-in-None
returns-in-None c =
    let inside : c.folders.folder-index < length (texts c.args.folders.now) =
    omega (arith, length-map c.args.folders.now (λ s. s.now)) in
    c.folders.invariant
    ∙ folders_wrong (texts c.folders.list.items) (texts c.args.folders.now) c.folders.folder-index _ inside
    (text_here c.args.folders.now c.folders.folder-index _ (omega arith))
    (sym (ap (option_map (λ s. s.now)) c.in-None.is) ∙ c.folder_name.ensures)

pub folders-preserved : goal.folders-preserved
folders-preserved c =
    let inside : c.folders.folder-index < length (texts c.args.folders.now) =
    omega (arith, length-map c.args.folders.now (λ s. s.now)) in
    c.folders.invariant
    ∙ folders_more (texts c.folders.list.items) (texts c.args.folders.now) c.folders.folder-index _
    c.in-Some.name.now _ inside (text_here c.args.folders.now c.folders.folder-index _ (omega arith))
    (sym (ap (option_map (λ s. s.now)) c.in-Some.is) ∙ c.folder_name.ensures)
    (ap texts c.in_ok-push-in-Some.ensures.items ∙ map-append (λ s. s.now) _ _)
