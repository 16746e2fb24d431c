-- A word of the header as the code has it.
use Rattle.mz_text.specs.Program.{NamedWord, named}
use Rattle.mz_text.specs.declared.program.HeaderWord.{HeaderWord}

-- the same
abbrev pub word_said : HeaderWord → NamedWord
word_said word = named word.place word.value word.name.now
