use Rattle.std.proofs.Common.{[], ◌≡◌, ◌++◌, codes, map, slice_get, subst}
use Rattle.std.specs.Option.{option_map_or}
use Rattle.doslink_stock.specs.Seen.{entry_held}
use Rattle.doslink_telling.specs.Missing.{like_text, wanting_text}
use Rattle.doslink_telling.specs.inside.Wanters.{wanter_held}
use Rattle.doslink_telling.proofs.Texts.{extended-ok, then-ok}
use Rattle.doslink_telling.proofs.missing.push_missing_line.Goals as goal

pub returns : goal.returns
returns g c =
    let r = c.extend_from_slice.result in
    let s0 = c.args.lines.now.items in
    let s1 = c.push_wanted.new.lines.items in
    let s2 = c.push_like.new.lines.items in
    let s3 = c.extend_from_slice.new.self.items in
    let files = c.args.paths.now in
    let wanted = c.args.wanted.now in
    let linked = map wanter_held c.args.wanters.now in
    let members = map entry_held c.args.stock.now.members.items in
    let front = option_map_or (wanting_text files wanted.name.now) (slice_get linked wanted.wanted_by) [] in
    then-ok r s0 s1 s3 front _ c.in_ok-push_wanted.ensures
    (then-ok r s1 s2 s3 _ (codes "\n")
    (subst (λ l. s2 ≡ s1 ++ like_text files linked members l) c.requires c.in_ok-push_like.ensures)
    (extended-ok r s2 s3 (codes "\n") c.extend_from_slice.ensures.items))
