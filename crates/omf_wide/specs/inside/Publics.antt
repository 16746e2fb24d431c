-- Public names and lines whose offsets have 16 bits in four bytes.
use Rattle.std.proofs.Common.{ℕ, List, [], ◌∷◌, ◌++◌, refl}
use Rattle.omf_codec.specs.Language.{◌⋆◌ as Joined, Name, Index, Word}
use Rattle.omf_codec.specs.inside.Canonical as canon
use Rattle.omf_codec.specs.inside.Format.{Format, Lawful, IsFilled, IsMade, free}
use Rattle.omf_codec.specs.inside.FormatLaws.{both, both_lawful, both_filled, both_blank, made_lawful, made_filled, exact}
use Rattle.omf_codec.specs.inside.PrimitiveLaws.{name, name_lawful, name_filled, index, index_lawful, word}
use Rattle.omf_codec.specs.inside.Numbers.{long, long_lawful, LongText}
use Rattle.omf_record.specs.Record as says
use Rattle.omf_record.specs.View.{public_view}
use Rattle.omf_record.specs.declared.externals.Line.{Line}
use Rattle.omf_record.specs.declared.externals.Public.{Public}
use Rattle.omf_wide.specs.Body.{ListedText}
use Rattle.omf_wide.specs.declared.externals.ListedExternal.{ListedExternal}

-- a name, an offset, a type index
abbrev pub PublicText : says.Public → List ℕ → Type 0
PublicText p = Joined (Name p.name) (Joined (LongText p.offset) (Index p.type_index))

abbrev pub public : Format Public says.Public
public = free public_view PublicText
    (λ p. canon.name p.name ++ ((canon.word p.offset ++ 0 ∷ 0 ∷ []) ++ canon.index p.type_index))

pub public_made : IsMade (both name (both long index)) public
public_made = exact (both name (both long index)) public
    (λ x. record { name = x.0; offset = x.1.0; type_index = x.1.1 }) (λ p. (p.name, (p.offset, p.type_index)))
    (λ y. refl) (λ x text l. l) (λ y text l. l) (λ y. refl) (λ r. tt)

pub public_lawful : Lawful public
public_lawful = made_lawful (both name (both long index)) public public_made
    (both_lawful name name_lawful (λ r. tt) (both long index)
    (both_lawful long long_lawful (λ r. tt) index index_lawful)) (λ r. tt)

pub public_filled : IsFilled public
public_filled = made_filled (both name (both long index)) public public_made
    (both_filled name (both long index) name_filled)

-- a line number and the offset of its code
abbrev pub LineText : Line → List ℕ → Type 0
LineText l = Joined (Word l.number) (LongText l.offset)

abbrev pub line : Format Line Line
line = free (λ x. x) LineText (λ l. canon.word l.number ++ (canon.word l.offset ++ 0 ∷ 0 ∷ []))

pub line_made : IsMade (both word long) line
line_made = exact (both word long) line (λ x. record { number = x.0; offset = x.1 }) (λ l. (l.number, l.offset))
    (λ y. refl) (λ x text l. l) (λ y text l. l) (λ y. refl) (λ r. tt)

-- externals by the indexes of their names
abbrev pub listed : Format ListedExternal ListedExternal
listed = free (λ x. x) ListedText (λ e. canon.index e.name ++ canon.index e.type_index)

pub listed_made : IsMade (both index index) listed
listed_made = exact (both index index) listed (λ x. record { name = x.0; type_index = x.1 })
    (λ e. (e.name, e.type_index)) (λ y. refl) (λ x text l. l) (λ y text l. l) (λ y. refl) (λ r. tt)
