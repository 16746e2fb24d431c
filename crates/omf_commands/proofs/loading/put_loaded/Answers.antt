use Rattle.std.proofs.Common.{◌≡◌, ◌*◌, ap₂, refl}
use Rattle.omf_frame.proofs.Told.{Wrote-cut, Wrote-same, Wrote-then}
use Rattle.omf_commands.specs.Loading.{bytes_lines}
use Rattle.omf_commands.proofs.loading.put_loaded.Goals as goal

pub returns-in_err-put_registers : goal.returns-in_err-put_registers
returns-in_err-put_registers g c =
    Wrote-cut _ _ _ _ _ _ (bytes_lines (16 * c.args.paragraph) c.args.loaded.now.bytes) _ _
    c.in_err-put_registers.ensures refl c.from_residual.ensures.1

pub returns : goal.returns
returns g c =
    let lines : bytes_lines (16 * c.from.result) c.bytes.result.now
    ≡ bytes_lines (16 * c.args.paragraph) c.args.loaded.now.bytes =
    ap₂ (λ n bytes. bytes_lines (16 * n) bytes) c.from.ensures c.bytes.ensures in
    Wrote-then _ _ _ _ _ _ _ _ _ c.in_ok-put_registers.ensures (Wrote-same _ _ _ _ _ _ _ lines c.put_bytes.ensures)
