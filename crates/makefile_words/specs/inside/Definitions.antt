-- What functions that read a file of definitions answer.
use Rattle.std.specs.Prelude.{◌≡◌, ⊤, List, Result, Ok, Err}
use Rattle.makefile_words.specs.Lines.{WrongWord}
use Rattle.makefile_words.specs.declared.faults.LineFault.{LineFault}
use Rattle.makefile_words.specs.declared.faults.LineFault.TheVariants as line_fault
use Rattle.makefile_words.specs.declared.line.IdleAt.{IdleAt}

-- a change to this is what is meant, the first word at fault, or want of memory
abbrev pub Tells : Result Unit LineFault → Result (List IdleAt) WrongWord → List IdleAt → Type 0
Tells (Ok done) meant after = meant ≡ Ok after
Tells (Err line_fault.Memory) meant after = ⊤
Tells (Err (line_fault.Word place word kind)) meant after =
    meant ≡ Err (record { place = place; word = word.now; kind = kind })
