use Rattle.std.proofs.Common.{◌+◌, ◌∙◌, map, drop, ap}
use Rattle.std.proofs.lemmas.List.{map_push}
use Rattle.omf_library.specs.Members.{joined}
use Rattle.omf_library.specs.Names.{texts}
use Rattle.omf_librarian.specs.Modules.{modules_from}
use Rattle.omf_librarian.specs.inside.Members.{bytes_in}
use Rattle.omf_librarian.proofs.Members.{modules-step}
use Rattle.omf_librarian.proofs.modules.modules.Goals as goal

pub loop-member-preserved : goal.loop-member-preserved
loop-member-preserved g c =
    let ms = c.args.members.now in
    let i = c.loop-member.member in
    ap (λ l. joined l (modules_from (i + 1) (texts (drop (i + 1) ms))))
    (ap (map bytes_in) c.in_ok-push.ensures.items ∙ map_push bytes_in c.loop-member.modules.items c.in_ok-new.field-0)
    ∙ modules-step ms i _ c.in_ok-new.field-0.bytes.now (map bytes_in c.loop-member.modules.items)
    c.loop-member-test.true c.in_ok-new.ensures
    ∙ c.loop-member.invariant
