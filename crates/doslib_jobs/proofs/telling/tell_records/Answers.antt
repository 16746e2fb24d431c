use Rattle.std.proofs.Common.{◌≡◌, ◌++◌, ◌∙◌, ap, map}
use Rattle.omf_library.specs.Members.{plain_member}
use Rattle.doslib_text.specs.Parts.{whole_members}
use Rattle.doslib_jobs.proofs.Running.{faulted, shown}
use Rattle.doslib_jobs.proofs.telling.tell_records.Goals as goal

pub returns : goal.returns
returns g c =
    let path = c.args.path.now in
    let file = c.args.bytes.items in
    let found = c.in_ok-members.members.items in
    let whole : map plain_member found ≡ whole_members file =
    c.in_ok-members.ensures ∙ c.in_ok-whole.ensures.members in
    let first = ap (λ ms. map plain_member ms) c.deref.ensures.value ∙ whole in
    let second = ap (λ ms. map plain_member ms) c.deref-2.ensures.value ∙ whole in (
      c.in_ok-shown.shown.faults.items,
      shown path file _ _ _ _ c.in_ok-whole.ensures.kind first c.in_ok-shown.ensures,
      c.in_ok-push_faults.ensures
          ∙ ap (λ l. c.in_ok-shown.shown.faults.items ++ l) (faulted path file _ _ second c.in_ok-whole.ensures.fault),
    )
