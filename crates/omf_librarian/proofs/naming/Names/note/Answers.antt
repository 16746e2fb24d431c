use Rattle.std.proofs.Common.{◌≡◌, ◌∙◌, ℕ, List, Some, None, cond, sym, ap, refl}
use Rattle.std.specs.Borrow.{Bor}
use Rattle.std.specs.Map.{lookup}
use Rattle.std.specs.Str.{bytes_eq}
use Rattle.omf_librarian.specs.Naming.{first_of}
use Rattle.omf_librarian.specs.inside.Names.{named_view}
use Rattle.omf_librarian.proofs.Noting.{member_in, note_new, note_old}
use Rattle.omf_librarian.proofs.naming.Names.note.Goals as goal

pub returns-in-Some : goal.returns-in-Some
returns-in-Some g c = λ before h.
    let n = named_view c.args.named in
    let is : member_in (first_of before n.name) ≡ Some c.in-Some.first =
    sym (h.first n.name) ∙ sym (c.copied.ensures ∙ c.get.ensures.value) ∙ c.in-Some.is in
    note_old before n c.args.self.now _ c.in-Some.first _ h is refl refl c.in_ok-push.ensures.items
    (ap (λ (l : List ℕ). record { name = l; first = c.in-Some.first; second = n.member })
    c.in_ok-from_slice.ensures.items)

pub returns : goal.returns
returns g c = λ before h.
    let n = named_view c.args.named in
    let is : member_in (first_of before n.name) ≡ None =
    sym (h.first n.name) ∙ sym (c.copied.ensures ∙ c.get.ensures.value) ∙ c.in_default.is in
    note_new before n c.args.self.now _ _ h is
    (λ q. c.in_ok-insert.ensures.updates.0 (record { ref_ptr = (0, 0); now = q }))
    c.in_ok-push-2.ensures.items refl c.requires refl
