use Rattle.std.proofs.Common.{inl, inr, refl}
use Rattle.omf_files.specs.Files.{sink_bytes}
use Rattle.doslib_words.specs.Words.{texts}
use Rattle.doslib_jobs.specs.Comparing.{Compares, Differs}
use Rattle.doslib_jobs.proofs.Finding.{said-weaker}
use Rattle.doslib_jobs.proofs.comparing.tell_compared.Goals as goal

pub returns-in-Ends-2 : goal.returns-in-Ends-2
returns-in-Ends-2 g c =
    inr (c.in-Program.program, rw c.in-Program.is at c.in_ok-program.ensures, inl (rw c.in-Ends-2.is at c.in_ok-program-2.ensures, refl))

pub returns : goal.returns
returns g c =
    let told = g.W.World.bytes c.args.world in
    let paths = texts c.args.pair.files.now in
    let old = sink_bytes g.O.Write.contents c.args.output.now in
    let new = sink_bytes g.O.Write.contents c.compare_images.new.output in
    said-weaker c.compare_images.result
    (Differs told c.in-Program.program.image c.in-Program-2.program.image paths old new)
    (Compares told c.args.pair.program.now c.args.pair.other.now paths old new)
    (λ answer differs. inr (
      c.in-Program.program,
      rw c.in-Program.is at c.in_ok-program.ensures,
      inr (c.in-Program-2.program, rw c.in-Program-2.is at c.in_ok-program-2.ensures, differs),
    ))
    (rw (c.image.ensures, c.image-2.ensures) at c.compare_images.ensures)
