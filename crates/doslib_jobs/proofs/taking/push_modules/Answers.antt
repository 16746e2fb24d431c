use Rattle.std.proofs.Common.{◌≡◌, ◌++◌, ◌∙◌, OnOk, ap, map, subst, sym}
use Rattle.omf_library.specs.Members.{PlainMember, plain_member}
use Rattle.doslib_names.proofs.Lists.{twice-mapped}
use Rattle.doslib_words.specs.Words.{texts}
use Rattle.doslib_jobs.specs.Libraries.{modules_in}
use Rattle.doslib_jobs.specs.inside.Libraries.{source_said}
use Rattle.doslib_jobs.proofs.taking.push_modules.Goals as goal

pub returns : goal.returns
returns g c =
    let all : map (λ m. m.bytes.now) c.deref.result.now ≡ modules_in (source_said c.args.taken.now) =
    ap (map (λ m. m.bytes.now)) c.deref.ensures.value
    ∙ sym (twice-mapped (λ (m : PlainMember). m.bytes) plain_member c.in_ok-members.members.items)
    ∙ ap (map (λ (m : PlainMember). m.bytes)) c.in_ok-members.ensures in
    subst (λ l. OnOk c.push_members.result
    (texts c.push_members.new.modules.items ≡ texts c.args.modules.now.items ++ l)) all c.push_members.ensures
