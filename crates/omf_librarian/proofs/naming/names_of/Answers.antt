use Rattle.std.proofs.Common.{◌≡◌, ◌≤◌, ◌+◌, ◌++◌, ◌∷◌, [], ◌∙◌, ℕ, List, length, map, drop, get_or, sym, ap, subst}
use Rattle.std.proofs.Common.{append_assoc, arith}
use Rattle.std.proofs.lemmas.List.{append-nil, drop_all}
use Rattle.omf_librarian.specs.Naming.{Named, all_named, named_by}
use Rattle.omf_librarian.specs.Pages.{page_behind}
use Rattle.omf_librarian.specs.inside.Members.{bytes_in}
use Rattle.omf_librarian.specs.inside.Names.{Noted}
use Rattle.omf_librarian.proofs.Paging.{behind_least, behind_step, drop_read, pages_fit}
use Rattle.omf_librarian.proofs.naming.names_of.Goals as goal

pub loop-member-preserved : goal.loop-member-preserved
loop-member-preserved g c =
    let ms = c.args.modules.now in
    let i = c.loop-member.member in
    let x = c.index-modules-member.result in
    let size = c.args.size in
    let page = c.loop-member.page in
    let more = c.div_ceil-page.result in
    let before = c.loop-member.invariant.before in
    let rest = map bytes_in (drop (i + 1) ms) in
    let step : page_behind size (page + more) rest ≡ page_behind size 1 (map bytes_in ms) =
    behind_step bytes_in ms i x size page more c.loop-member-test.true c.index-modules-member.is c.div_ceil-page.ensures
    ∙ c.loop-member.invariant.page in
    record {
      before = before ++ named_by i page x.bytes.now;
      fits =
          omega (arith, behind_least size (page + more) rest, step, pages_fit (map bytes_in ms) size c.requires.pages);
      noted = c.in_ok-note_member.ensures before c.loop-member.invariant.noted;
      page = step;
      all =
          append_assoc before (named_by i page x.bytes.now) (all_named size (i + 1) (page + more) rest)
          ∙ ap (λ k. before ++ (named_by i page x.bytes.now ++ all_named size (i + 1) (page + k) rest))
          c.div_ceil-page.ensures
          ∙ ap (λ l. before ++ all_named size i page (map bytes_in l))
          (sym (drop_read ms i x c.loop-member-test.true c.index-modules-member.is))
          ∙ c.loop-member.invariant.all;
    }

pub returns : goal.returns
returns g c =
    let ms = c.args.modules.now in
    let i = c.loop-member.member in
    let before = c.loop-member.invariant.before in
    let none : drop i ms ≡ [] = drop_all i ms (omega (arith, c.loop-member-test.false)) in
    let all : before ≡ all_named c.args.size 0 1 (map bytes_in ms) =
    sym (append-nil before)
    ∙ ap (λ l. before ++ all_named c.args.size i c.loop-member.page (map bytes_in l)) (sym none)
    ∙ c.loop-member.invariant.all in
    let P : List Named → Type 0 = λ l. Noted l c.loop-member.names in
    subst P all c.loop-member.invariant.noted
