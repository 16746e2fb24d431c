use Rattle.std.proofs.Common.{◌≡◌, ◌∙◌, ℕ, List, Ok, Err, refl, inr}
use Rattle.std.specs.declared.option.Option.{Option}
use Rattle.std.specs.declared.result.Result.{Result}
use Rattle.omf_frame.proofs.Told.{Keeps-refl}
use Rattle.mz.specs.File.{MzFile}
use Rattle.mz.specs.Loading.{Loaded, Loads, loading}
use Rattle.mz.specs.declared.fault.FileFault.{FileFault}
use Rattle.mz.specs.declared.fault.FileFault.TheVariants as file
use Rattle.mz.specs.declared.fault.MzFault.{MzFault}
use Rattle.mz.specs.declared.fault.MzFault.TheVariants as mz
use Rattle.omf_commands.specs.inside.Faults.{mz_fault}
use Rattle.omf_commands.specs.Loading.{IsFile, LoadsFile}
use Rattle.omf_commands.proofs.loading.load_file.Goals as goal

-- a file isn't loaded, so nothing is written
not_loaded : (A : Type 0) (paragraph : ℕ) (old new w : Option (List ℕ)) (f : MzFile) (e : MzFault)
    → (r : Result Loaded FileFault) → IsFile old new f → loading paragraph f ≡ r → Loads (Err e) r
    → LoadsFile {A = A} paragraph old new w w (Err (mz_fault e))
not_loaded A paragraph old new w f mz.Memory (Ok l) is loads h = (inr (l, (f, is, loads)), Keeps-refl w)
not_loaded A paragraph old new w f mz.Memory (Err e) is loads h = absurd h
not_loaded A paragraph old new w f (mz.File file.DoesNotFit) r is loads h = ((f, is, loads ∙ h), Keeps-refl w)
not_loaded A paragraph old new w f (mz.File file.Magic) r is loads h = absurd h
not_loaded A paragraph old new w f (mz.File file.Header) r is loads h = absurd h
not_loaded A paragraph old new w f (mz.File file.Truncated) r is loads h = absurd h
not_loaded A paragraph old new w f (mz.File file.RelocationOutside) r is loads h = absurd h
not_loaded A paragraph old new w f (mz.File file.Device) r is loads h = absurd h

pub returns-in-Err-load-clause-loads : goal.returns-in-Err-load-clause-loads
returns-in-Err-load-clause-loads g c =
    rw c.mz_fault-in-Err-load.ensures
    (not_loaded _ _ _ _ _ c.in-Ok.file c.in-Err-load.fault _ (c.in-Ok.ensures.exact, c.in-Ok.ensures.stands) refl
    c.in-Err-load.ensures)

pub returns-in-Ok-put_loaded-clause-loads : goal.returns-in-Ok-put_loaded-clause-loads
returns-in-Ok-put_loaded-clause-loads g c = (
  c.in-Ok-load.loaded,
  (c.in-Ok.file, (c.in-Ok.ensures.exact, c.in-Ok.ensures.stands), c.in-Ok-load.ensures),
  c.in-Ok-put_loaded.ensures.0,
)

pub returns-clause-loads : goal.returns-clause-loads
returns-clause-loads g c = (
  c.in-Ok-load.loaded,
  (c.in-Ok.file, (c.in-Ok.ensures.exact, c.in-Ok.ensures.stands), c.in-Ok-load.ensures),
  c.in-Err-put_loaded.ensures.0,
)
