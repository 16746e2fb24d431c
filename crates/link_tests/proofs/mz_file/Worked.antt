-- Worked loading: a file, and the memory and registers once it is loaded.
use Rattle.std.proofs.Common.{◌≡◌, ℕ, List, [], ◌∷◌, refl}
use Rattle.std.specs.Prelude.{Ok, Err}
use Rattle.omf_image.specs.Words.{add_word, put_word}
use Rattle.mz.specs.declared.fault.FileFault.TheVariants.{DoesNotFit}
use Rattle.mz.specs.Header.{header_at}
use Rattle.mz.specs.Reading.{file_of, reading}
use Rattle.mz.specs.Loading.{loaded, loading}

-- A file of 36 bytes: a header of two paragraphs with an entry for the word at 1, SP 16, and the image B8 00 00 CB
abbrev file : List ℕ
file =
    0x4D ∷ 0x5A ∷ 0x24 ∷ 0x00 ∷ 0x01 ∷ 0x00 ∷ 0x01 ∷ 0x00 ∷ 0x02 ∷ 0x00 ∷ 0x00 ∷ 0x00 ∷ 0xFF ∷ 0xFF ∷ 0x00 ∷ 0x00
    ∷ 0x10 ∷ 0x00 ∷ 0x00 ∷ 0x00 ∷ 0x00 ∷ 0x00 ∷ 0x00 ∷ 0x00 ∷ 0x1C ∷ 0x00 ∷ 0x00 ∷ 0x00 ∷ 0x01 ∷ 0x00 ∷ 0x00 ∷ 0x00
    ∷ 0xB8 ∷ 0x00 ∷ 0x00 ∷ 0xCB ∷ []

-- it has no fault
file_read : reading file ≡ Ok (file_of file)
unfolding reading file_of header_at
file_read = refl

-- at paragraph 1234H the word is 1234H, as CS and SS are
file_loaded : loaded 0x1234 (file_of file) ≡ record {
  bytes = 0xB8 ∷ 0x34 ∷ 0x12 ∷ 0xCB ∷ [];
  registers = record { cs = 0x1234; ip = 0; ss = 0x1234; sp = 16 };
}
unfolding loaded file_of header_at add_word put_word
file_loaded = refl

-- it fits at FFFFH, and nothing does at 10000H
file_fits : loading 0xFFFF (file_of file) ≡ Ok (loaded 0xFFFF (file_of file))
unfolding loading file_of header_at
file_fits = refl

file_beyond : loading 0x10000 (file_of file) ≡ Err DoesNotFit
unfolding loading file_of header_at
file_beyond = refl
