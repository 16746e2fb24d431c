use Rattle.std.proofs.Common.{◌≡◌, ◌≤◌, ◌∙◌, [], ℕ, List, Some, None, Ok, All, is_some, length, map, sym, ap, subst}
use Rattle.std.proofs.Common.{arith}
use Rattle.std.specs.Option.{option_map}
use Rattle.omf_librarian.specs.Entering.{dictionary_of}
use Rattle.omf_librarian.specs.Library.{PlainLibrary, names_in}
use Rattle.omf_librarian.specs.Naming.{Doubled, entries_behind}
use Rattle.omf_librarian.specs.Said.{doubled_said}
use Rattle.omf_librarian.specs.Writing.{library_bytes}
use Rattle.omf_librarian.specs.inside.Members.{bytes_in}
use Rattle.omf_librarian.specs.inside.Views.{IsShort, entry_view, items_of}
use Rattle.omf_librarian.proofs.Making.{with-all, with-names}
use Rattle.omf_librarian.proofs.Paging.{pages_fit}
use Rattle.omf_librarian.proofs.library.library_with.Goals as goal

pub dictionary_of-requires : goal.dictionary_of-requires
dictionary_of-requires g c = subst (All IsShort) (sym c.deref.ensures.value) c.in_ok-names.ensures.short

pub returns : goal.returns
returns g c =
    let size = c.args.size in
    let ms = map bytes_in c.args.modules.now in
    let d = c.in-Some-2.dictionary.items in
    let made : dictionary_of (entries_behind [] (names_in size ms)) ≡ Some d =
    ap dictionary_of (sym c.in_ok-names.ensures.entries)
    ∙ ap (λ l. dictionary_of (map entry_view l)) (sym c.deref.ensures.value)
    ∙ sym c.in_ok-dictionary.ensures.said ∙ ap (λ o. option_map items_of o) c.in-Some-2.is in
    with-all ms size d made
    ∙ ap (λ (l : List Doubled). Ok (record { bytes = library_bytes size ms d; doubled = l }))
    (sym c.in_ok-names.ensures.doubled)
    ∙ ap (λ (l : List ℕ). Ok (record { bytes = l; doubled = map doubled_said c.in_ok-names.names.doubled.items }))
    (ap (library_bytes size ms) (sym c.deref-2.ensures.value) ∙ sym c.in_ok-bytes.ensures)

pub returns-in_default-2 : goal.returns-in_default-2
returns-in_default-2 g c =
    let size = c.args.size in
    let ms = map bytes_in c.args.modules.now in
    with-names ms size
    (ap dictionary_of (sym c.in_ok-names.ensures.entries)
    ∙ ap (λ l. dictionary_of (map entry_view l)) (sym c.deref.ensures.value)
    ∙ sym c.in_ok-dictionary.ensures.said ∙ ap (λ o. option_map items_of o) c.in_default-2.is)
