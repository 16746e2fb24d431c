-- Modules have one file.
use Rattle.std.proofs.Common.{◌≡◌, ℕ, zero, suc, ◌+◌, ◌*◌, ◌/◌, ◌%◌, ◌<◌, List, [], ◌∷◌, get_or, set, refl, sym, ap}
use Rattle.std.proofs.Common.{ap₂, subst, ◌∙◌, arith}
use Rattle.std.specs.List.{AllByRecursion}
use Rattle.std.proofs.lemmas.List.{ext_get_or, set-get_or}
use Rattle.std.proofs.lemmas.List.Elements.{recursion_from_All}
use Rattle.omf_module.specs.Module.{Module}
use Rattle.omf_place.proofs.Ended.{one_layout}
use Rattle.omf_place.specs.Layout.{Layout}
use Rattle.omf_place.specs.declared.names.Names.{Names}
use Rattle.omf_image.specs.Program.{Program, IsProgram}
use Rattle.omf_image.specs.Records.{program_byte}
use Rattle.omf_image.specs.declared.start.Registers.{Registers}
use Rattle.omf_image.specs.Words.{put_word, add_word, add_words}
use Rattle.mz.specs.File.{file_bytes}
use Rattle.omf_commands.specs.Linking.{IsLinked, IsFileOf}

abbrev AreBytes : List ℕ → Type 0
AreBytes = AllByRecursion (λ b. b < 256)

is_byte : (bytes : List ℕ) (i : ℕ) → AreBytes bytes → get_or bytes i 0 < 256
is_byte [] i h = omega arith
is_byte (b ∷ bytes) zero h = h.0
is_byte (b ∷ bytes) (suc i) h = is_byte bytes i h.1

-- nothing is added at paragraph 0
zero_word : (i : ℕ) (bytes : List ℕ) → AreBytes bytes → add_word 0 i bytes ≡ bytes
unfolding add_word put_word
zero_word i bytes small =
    let x = get_or bytes i 0 in
    let y = get_or bytes (i + 1) 0 in
    let a : x < 256 = is_byte bytes i small in
    let b : y < 256 = is_byte bytes (i + 1) small in
    let low : (x + 256 * y + 0) % 65536 % 256 ≡ x = omega (arith, a, b) in
    let high : (x + 256 * y + 0) % 65536 / 256 ≡ y = omega (arith, a, b) in
    ap₂ (λ u v. set (set bytes i u) (i + 1) v) low high
    ∙ (ap (λ l. set l (i + 1) y) (set-get_or bytes i 0) ∙ set-get_or bytes (i + 1) 0)

zero_words : (places bytes : List ℕ) → AreBytes bytes → add_words 0 places bytes ≡ bytes
zero_words [] bytes small = refl
zero_words (i ∷ is) bytes small = ap (add_words 0 is) (zero_word i bytes small) ∙ zero_words is bytes small

-- a file doesn't tell which pages of the image were made
abbrev parts : List ℕ → ℕ → List ℕ → Registers → Program
parts image end relocations r =
    record { image = image; written = end; relocations = relocations; registers = r; made = [] }

written_parts : (p : Program) → file_bytes p ≡ file_bytes (parts p.image p.written p.relocations p.registers)
unfolding file_bytes
written_parts p = refl

image_byte : (names : Names) (modules : List Module) (layout : Layout) (p : Program) → IsLinked names modules layout p
    → IsProgram p → (i : ℕ) → i < layout.size → get_or p.image i 0 ≡ program_byte 0 layout modules i
image_byte names modules layout p linked limits i h =
    ap (λ l. get_or l i 0)
    (sym (zero_words p.relocations p.image (recursion_from_All (λ b. b < 256) p.image limits.image)))
    ∙ linked.program.everywhere 0 i h

same_written : (names : Names) (modules : List Module) (layout : Layout) (p q : Program)
    → IsLinked names modules layout p → IsLinked names modules layout q → IsProgram p → IsProgram q
    → file_bytes p ≡ file_bytes q
same_written names modules layout p q a b m n =
    let long = a.program.sized ∙ sym b.program.sized in
    let image : p.image ≡ q.image = ext_get_or 0 p.image q.image long (λ i h.
    let below : i < layout.size = subst (λ k. i < k) a.program.sized h in
    image_byte names modules layout p a m i below ∙ sym (image_byte names modules layout q b n i below)) in
    let relocations : p.relocations ≡ q.relocations = a.program.listed ∙ sym b.program.listed in
    let registers : p.registers ≡ q.registers = sym a.program.at_zero ∙ b.program.at_zero in
    let ends : p.written ≡ q.written = a.program.written ∙ sym b.program.written in
    written_parts p
    ∙ (ap₂ (λ x y. file_bytes (parts x p.written y p.registers)) image relocations
    ∙ (ap₂ (λ n r. file_bytes (parts q.image n q.relocations r)) ends registers ∙ sym (written_parts q)))

pub same_file : (names : Names) (modules : List Module) (file other : List ℕ) → IsFileOf names modules file
    → IsFileOf names modules other → file ≡ other
same_file names modules file other (layout, p, a, m) (layout', q, b, n) =
    let same : layout' ≡ layout = one_layout names modules layout' layout b.is_layout a.is_layout in
    let b' = subst (λ l. IsLinked names modules l q) same b in
    m.1 ∙ (same_written names modules layout p q a b' m.0 n.0 ∙ sym n.1)
