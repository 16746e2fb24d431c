use Rattle.std.proofs.Common.{◌≡◌, ◌≤◌, ◌∙◌, ℕ, List, [], length, get_or, map, sym, ap, subst, arith}
use Rattle.std.specs.Borrow.{Bor}
use Rattle.std.proofs.lemmas.List.{get_or-map, length-map}
use Rattle.omf_library.specs.Names.{texts}
use Rattle.omf_librarian.proofs.Noting.{none_long_at}
use Rattle.omf_librarian.proofs.naming.Names.note_offered.Goals as goal

pub note-requires : goal.note-requires
note-requires g c =
    let names = c.args.offered.now in
    let i = c.loop-name.name-index in
    let view = λ (x : Bor (List ℕ)). x.now in
    let d : Bor (List ℕ) = record { ref_ptr = (0, 0); now = [] } in
    let size : length (texts names) ≡ length names = length-map names view in
    let at : get_or (texts names) i [] ≡ (get_or names i d).now = get_or-map view names i d [] c.loop-name-test.true in
    omega (arith, ap length at, none_long_at (texts names) i [] c.requires (omega (arith, size, c.loop-name-test.true)))
