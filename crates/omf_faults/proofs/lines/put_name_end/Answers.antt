use Rattle.std.proofs.Common.{refl, codes, ◌++◌}
use Rattle.omf_text.specs.Printing.{printed_name}
use Rattle.omf_frame.proofs.Told.{Wrote-cut, Wrote-then}
use Rattle.omf_faults.proofs.lines.put_name_end.Goals as goal

pub returns-in_err-put_all : goal.returns-in_err-put_all
returns-in_err-put_all g c =
    rw c.in-Some.is (Wrote-cut _ _ _ _ _ (codes " ") (printed_name c.in-Some.name.now ++ codes "\n") _ _
    c.in_err-put_all.ensures refl c.from_residual.ensures.1)

pub returns-in_err-put_name : goal.returns-in_err-put_name
returns-in_err-put_name g c =
    let name = printed_name c.in-Some.name.now in
    let failed = c.from_residual-in_err-put_name.ensures.1 in
    rw c.in-Some.is (Wrote-then _ _ _ _ _ _ (codes " ") _ _ c.in_ok-put_all.ensures
    (Wrote-cut _ _ _ _ _ name (codes "\n") _ _ c.in_err-put_name.ensures refl failed))

pub returns : goal.returns
returns g c =
    let name = printed_name c.in-Some.name.now in
    rw c.in-Some.is (Wrote-then _ _ _ _ _ _ (codes " ") _ _ c.in_ok-put_all.ensures
    (Wrote-then _ _ _ _ _ _ name _ _ c.in_ok-put_name.ensures c.put_all-3.ensures))
