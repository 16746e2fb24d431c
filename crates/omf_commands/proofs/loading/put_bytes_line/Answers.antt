use Rattle.std.proofs.Common.{refl, codes, ◌++◌}
use Rattle.std.specs.List.{flat_map}
use Rattle.omf_frame.proofs.Told.{Wrote-cut, Wrote-then}
use Rattle.omf_text.specs.Printing.{hexadecimal}
use Rattle.omf_commands.specs.Loading.{bytes_line}
use Rattle.omf_commands.proofs.loading.put_bytes_line.Goals as goal

pub returns-in_err-put_hexadecimal : goal.returns-in_err-put_hexadecimal
unfolding bytes_line
returns-in_err-put_hexadecimal g c =
    let behind = codes " " ++ (flat_map (hexadecimal 2) c.args.bytes.now ++ codes "\n") in
    Wrote-cut _ _ _ _ _ (hexadecimal 5 c.args.address) behind _ _ c.in_err-put_hexadecimal.ensures refl
    c.from_residual.ensures.1

pub returns-in_err-put_all : goal.returns-in_err-put_all
unfolding bytes_line
returns-in_err-put_all g c =
    let behind = flat_map (hexadecimal 2) c.args.bytes.now ++ codes "\n" in
    Wrote-then _ _ _ _ _ _ (hexadecimal 5 c.args.address) _ _ c.in_ok-put_hexadecimal.ensures
    (Wrote-cut _ _ _ _ _ (codes " ") behind _ _ c.in_err-put_all.ensures refl c.from_residual-in_err-put_all.ensures.1)

pub returns-in_err-put_hexadecimal_bytes : goal.returns-in_err-put_hexadecimal_bytes
unfolding bytes_line
returns-in_err-put_hexadecimal_bytes g c =
    Wrote-then _ _ _ _ _ _ (hexadecimal 5 c.args.address) _ _ c.in_ok-put_hexadecimal.ensures
    (Wrote-then _ _ _ _ _ _ (codes " ") _ _ c.in_ok-put_all.ensures
    (Wrote-cut _ _ _ _ _ (flat_map (hexadecimal 2) c.args.bytes.now) (codes "\n") _ _
    c.in_err-put_hexadecimal_bytes.ensures refl c.from_residual-in_err-put_hexadecimal_bytes.ensures.1))

pub returns : goal.returns
unfolding bytes_line
returns g c =
    Wrote-then _ _ _ _ _ _ (hexadecimal 5 c.args.address) _ _ c.in_ok-put_hexadecimal.ensures
    (Wrote-then _ _ _ _ _ _ (codes " ") _ _ c.in_ok-put_all.ensures
    (Wrote-then _ _ _ _ _ _ (flat_map (hexadecimal 2) c.args.bytes.now) _ _ c.in_ok-put_hexadecimal_bytes.ensures
    c.put_all-2.ensures))
