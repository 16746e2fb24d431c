use Rattle.std.proofs.Common.{◌≡◌, ◌∙◌, ℕ, List, Vec, Ok, Err, map, sym, ap, subst}
use Rattle.std.specs.declared.result.Result.{Result}
use Rattle.std.proofs.lemmas.Result.{err_from_is_err_and}
use Rattle.omf_library.specs.Names.{texts}
use Rattle.omf_librarian.specs.Answers.{Answers}
use Rattle.omf_librarian.specs.Library.{PlainLibrary, library_of, library_with}
use Rattle.omf_librarian.specs.Pages.{page_size_for}
use Rattle.omf_librarian.specs.Said.{library_said}
use Rattle.omf_librarian.specs.declared.fault.LibrarianFault.{LibrarianFault}
use Rattle.omf_librarian.specs.declared.module.Module.{Module}
use Rattle.omf_librarian.specs.inside.Members.{bytes_in}
use Rattle.omf_librarian.proofs.Making.{fault_stands, fault_through, made-asked, made-modules, made-size, made-with}
use Rattle.omf_librarian.proofs.Reading.{read_by}
use Rattle.omf_librarian.proofs.library.library_bytes.Goals as goal

pub returns-in_err-asked-clause-made : goal.returns-in_err-asked-clause-made
returns-in_err-asked-clause-made g c =
    let p = err_from_is_err_and c.from_residual.result c.from_residual.ensures.1 in
    rw (p.1, p.2)
    (fault_stands (library_said {A = g.row.A.Denot}) _ _
    (made-asked c.args.page (texts c.args.members.now) _ (sym c.in_err-asked.ensures.said)))

pub returns-in_err-modules-clause-made : goal.returns-in_err-modules-clause-made
returns-in_err-modules-clause-made g c =
    let p = err_from_is_err_and c.from_residual-in_err-modules.result c.from_residual-in_err-modules.ensures.1 in
    rw (p.1, p.2)
    (fault_through (λ (v : Vec (Module g.row.A.Denot) g.row.A.Denot). map bytes_in v.items)
    (library_said {A = g.row.A.Denot}) _ _ _ c.in_err-modules.ensures
    (λ is.
    made-modules c.args.page (texts c.args.members.now) c.in_ok-asked.asked _ (sym c.in_ok-asked.ensures.said) is))

pub returns-in_err-size-clause-made : goal.returns-in_err-size-clause-made
returns-in_err-size-clause-made g c =
    let p = err_from_is_err_and c.from_residual-in_err-size.result c.from_residual-in_err-size.ensures.1 in
    rw (p.1, p.2)
    (fault_stands (library_said {A = g.row.A.Denot}) _ _
    (made-size c.args.page (texts c.args.members.now) c.in_ok-asked.asked (map bytes_in c.in_ok-modules.modules.items) _
    (sym c.in_ok-asked.ensures.said) c.in_ok-modules.ensures
    (ap (λ l. page_size_for c.in_ok-asked.asked (map bytes_in l)) (sym c.deref.ensures.value)
    ∙ sym c.in_err-size.ensures.said)))

pub returns-clause-made : goal.returns-clause-made
returns-clause-made g c =
    let ms = map bytes_in c.in_ok-modules.modules.items in
    let whole : library_with (map bytes_in c.deref-2.result.now) c.in_ok-size.size
    ≡ library_of c.args.page (texts c.args.members.now) =
    ap (λ l. library_with (map bytes_in l) c.in_ok-size.size) c.deref-2.ensures.value
    ∙ sym (made-with c.args.page (texts c.args.members.now) c.in_ok-asked.asked ms c.in_ok-size.size
    (sym c.in_ok-asked.ensures.said) c.in_ok-modules.ensures
    (ap (λ l. page_size_for c.in_ok-asked.asked (map bytes_in l)) (sym c.deref.ensures.value)
    ∙ sym c.in_ok-size.ensures.said)) in
    let P : Result PlainLibrary LibrarianFault → Type 0 =
    λ t. Answers (library_said {A = g.row.A.Denot}) c.library_with.result t in
    subst P whole c.library_with.ensures

pub returns-clause-read : goal.returns-clause-read
returns-clause-read g c = read_by c.args.page (texts c.args.members.now) c.library_with.result (returns-clause-made g c)
