use Rattle.std.proofs.Common.{◌∙◌, ap, map}
use Rattle.omf_library.specs.Members.{plain_member}
use Rattle.doslib_match.proofs.Telling.{matched}
use Rattle.doslib_match.proofs.matching.match_file.Goals as goal

pub returns : goal.returns
returns g c =
    let whole = c.in_ok-members.ensures ∙ c.in_ok-whole.ensures.members in
    matched c.args.sought.now.wanted c.args.sought.now.image.now c.args.path.now c.args.bytes.items _ _ _ _ _
    (ap (λ ms. map plain_member ms) c.deref.ensures.value ∙ whole) c.in_ok-whole.ensures.fault c.new-told.ensures.text
    c.new-told.ensures.spans c.new-told.ensures.faults c.in_ok-add_members.ensures c.in_ok-push_faults.ensures
