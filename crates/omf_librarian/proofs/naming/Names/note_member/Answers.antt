use Rattle.std.proofs.Common.{◌≡◌, ◌++◌, ◌∙◌, ℕ, List, map, sym, ap, subst, append_assoc}
use Rattle.std.proofs.lemmas.List.{map-append}
use Rattle.omf_library.specs.Names.{texts}
use Rattle.omf_librarian.specs.Naming.{Named, named_by}
use Rattle.omf_librarian.specs.inside.Answers.{own_names}
use Rattle.omf_librarian.specs.inside.Names.{Noted, named_as}
use Rattle.omf_librarian.proofs.naming.Names.note_member.Goals as goal

pub returns : goal.returns
returns g c = λ before h.
    let m = c.args.module.now in
    let f = named_as c.args.member c.args.page in
    let own = own_names m.own.items in
    let offered = texts m.says.offered.items in
    let all : ((before ++ map f (own_names c.deref.result.now)) ++ map f (texts c.deref-2.result.now))
    ≡ before ++ named_by c.args.member c.args.page m.bytes.now =
    ap (λ l. (before ++ map f (own_names l)) ++ map f (texts c.deref-2.result.now)) c.deref.ensures.value
    ∙ ap (λ l. (before ++ map f own) ++ map f (texts l)) c.deref-2.ensures.value
    ∙ append_assoc before (map f own) (map f offered)
    ∙ ap (λ l. before ++ l) (sym (map-append f own offered) ∙ ap (map f) m.named) in
    let P : List Named → Type 0 = λ l. Noted l c.note_offered.new.self in
    subst P all (c.in_ok-note_offered.ensures _ (c.in_ok-note_own.ensures before h))
