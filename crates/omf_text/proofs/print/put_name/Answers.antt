use Rattle.std.proofs.Common.{[], ◌∷◌, ◌++◌, refl}
use Rattle.std.specs.List.{flat_map}
use Rattle.omf_frame.proofs.Told.{Wrote-cut, Wrote-then}
use Rattle.omf_text.specs.Printing.{name_byte, printed_name}
use Rattle.omf_text.proofs.print.put_name.Goals as goal

pub returns-in_err-put_all : goal.returns-in_err-put_all
unfolding printed_name
returns-in_err-put_all g c =
    let name = flat_map name_byte c.args.name.now in
    Wrote-cut _ _ _ _ _ (34 ∷ []) (name ++ 34 ∷ []) _ _ c.in_err-put_all.ensures refl c.from_residual.ensures.1

pub returns-in_err-put_plain_name : goal.returns-in_err-put_plain_name
unfolding printed_name
returns-in_err-put_plain_name g c =
    let name = flat_map name_byte c.args.name.now in
    let failed = c.from_residual-in_err-put_plain_name.ensures.1 in
    Wrote-then _ _ _ _ _ _ (34 ∷ []) (name ++ 34 ∷ []) _ c.in_ok-put_all.ensures
    (Wrote-cut _ _ _ _ _ name (34 ∷ []) _ _ c.in_err-put_plain_name.ensures refl failed)

pub returns : goal.returns
unfolding printed_name
returns g c =
    let name = flat_map name_byte c.args.name.now in
    Wrote-then _ _ _ _ _ _ (34 ∷ []) (name ++ 34 ∷ []) _ c.in_ok-put_all.ensures
    (Wrote-then _ _ _ _ _ _ name (34 ∷ []) _ c.in_ok-put_plain_name.ensures c.put_all-2.ensures)
