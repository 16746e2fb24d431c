use Rattle.std.proofs.Common.{◌∙◌, Some, set, sym, ap}
use Rattle.std.specs.Option.{option_map}
use Rattle.omf_library.specs.Names.{texts}
use Rattle.omf_librarian.proofs.Changes.{set_there}
use Rattle.omf_librarian.proofs.changing.replaced.Goals as goal

pub returns : goal.returns
returns g c =
    let ms = c.args.members.now in
    let i = c.in-Some.index in
    let m = c.args.«module» in
    ap (λ o. option_map (λ k. set (texts ms) k m.now) o) (sym c.in-Some.ensures.said)
    ∙ ap Some (set_there ms i m ∙ ap (λ l. texts (set l i m)) (sym c.in_ok-all.ensures.items))
