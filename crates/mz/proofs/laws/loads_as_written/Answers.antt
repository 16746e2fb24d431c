use Rattle.std.proofs.Common.{◌++◌, ◌∙◌, List, ℕ, ap, sym, length}
use Rattle.mz.specs.Header.{told_len, header_at}
use Rattle.mz.specs.Reading.{reading}
use Rattle.mz.specs.Laws.{memory}
use Rattle.mz.proofs.Written.{memory_back, reads_back, tells_length, loads_back, refuses}
use Rattle.mz.proofs.laws.loads_as_written.Goals as goal

pub returns-clause-reads : goal.returns-clause-reads
returns-clause-reads c = λ p b rest mz. ap (λ (l : List ℕ). reading (l ++ rest)) mz.1 ∙ reads_back p mz.0 rest

pub returns-clause-length : goal.returns-clause-length
returns-clause-length c =
    λ p b rest mz.
    ap (λ (l : List ℕ). told_len (header_at (l ++ rest))) mz.1 ∙ tells_length p mz.0 rest ∙ ap length (sym mz.1)

pub returns-clause-loads : goal.returns-clause-loads
returns-clause-loads c = λ p w P fits. loads_back p w P fits

pub returns-clause-refuses : goal.returns-clause-refuses
returns-clause-refuses c = λ p w P above. refuses p w P above

pub returns-clause-memory : goal.returns-clause-memory
returns-clause-memory c = λ p b rest mz P. ap (λ (l : List ℕ). memory P (l ++ rest)) mz.1 ∙ memory_back p mz.0 rest P
