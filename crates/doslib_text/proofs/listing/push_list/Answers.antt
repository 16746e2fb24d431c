use Rattle.std.proofs.Common.{◌≡◌, ◌++◌, OnOk, map, subst, sym}
use Rattle.std.proofs.lemmas.List.{length-map}
use Rattle.std.specs.List.{flat_map}
use Rattle.omf_library.specs.Members.{plain_member}
use Rattle.doslib_text.specs.Listing.{member_text, title}
use Rattle.doslib_text.proofs.Texts.{then-ok}
use Rattle.doslib_text.proofs.listing.push_list.Goals as goal

pub returns : goal.returns
returns g c =
    let members = map plain_member c.args.members.now in
    let r = c.push_members.result in
    let s0 = c.args.lines.now.items in
    let s2 = c.push_members.new.lines.items in
    subst
    (λ n. OnOk r (s2 ≡ s0 ++ (title c.args.kind c.args.path.now n ++ flat_map member_text members)))
    (sym (length-map c.args.members.now plain_member))
    (then-ok r s0 c.push_title.new.lines.items s2 _ _ c.in_ok-push_title.ensures c.push_members.ensures)
