use Rattle.std.proofs.Common.{◌≡◌, ◌∙◌, ap, map}
use Rattle.omf_library.specs.Members.{plain_member}
use Rattle.doslib_text.specs.Parts.{whole_members}
use Rattle.doslib_jobs.proofs.Running.{faulted, listed}
use Rattle.doslib_jobs.proofs.telling.tell_members.Goals as goal

pub returns : goal.returns
returns g c =
    let path = c.args.path.now in
    let file = c.args.bytes.items in
    let found = c.in_ok-members.members.items in
    let whole : map plain_member found ≡ whole_members file =
    c.in_ok-members.ensures ∙ c.in_ok-whole.ensures.members in
    let text = listed path file _ _ _ c.in_ok-whole.ensures.kind whole
    (rw (c.deref.ensures.value, c.new-text.ensures.items) at c.in_ok-push_list.ensures) in
    let lines = ap (λ ms. map plain_member ms) c.deref-2.ensures.value ∙ whole in
    let faults = faulted path file _ _ lines c.in_ok-whole.ensures.fault in
    (text, (rw c.new-faults.ensures.items at c.in_ok-push_faults.ensures) ∙ faults)
