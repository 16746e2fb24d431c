-- What each value is made of.
use Rattle.std.proofs.Common.{◌≡◌, ℕ, ◌<◌, List, [], ◌++◌, Option, Some, None, refl, sym, ap, subst, ◌∙◌, append-nil}
use Rattle.std.proofs.Common.{arith}
use Rattle.omf_record.specs.Language.{Index}
use Rattle.omf_record.specs.Record as says
use Rattle.omf_record.specs.View.{external_view, public_view}
use Rattle.omf_record.specs.Body.{BaseText}
use Rattle.omf_record.specs.inside.Fields.{ExternalText, PublicText, LineText, ComponentText}
use Rattle.omf_record.specs.Canonical as canon
use Rattle.omf_codec.specs.inside.Format.{join, Format, Lawful, IsFilled, IsMade, Splits, free}
use Rattle.omf_codec.specs.inside.FormatLaws.{both, both_lawful, both_filled, made_lawful, made_filled, behind}
use Rattle.omf_codec.specs.inside.FormatLaws.{behind_lawful, when, when_lawful, bits_at, exact, exact_splits}
use Rattle.omf_codec.specs.inside.PrimitiveLaws.{name, name_lawful, name_filled, index, index_lawful, word}
use Rattle.omf_codec.specs.inside.PrimitiveLaws.{word_lawful, word_filled, fact_byte_lawful, fact_byte_filled}
use Rattle.omf_codec.specs.inside.PrimitiveLaws.{fact_byte, index_small}
use Rattle.omf_codec.specs.inside.Heads.{joined}
use Rattle.omf_record.specs.declared.externals.External.{External}
use Rattle.omf_record.specs.declared.externals.Public.{Public}
use Rattle.omf_record.specs.Types.{Line, PublicBase}
use Rattle.omf_record.specs.declared.externals.PublicBase.TheVariants.{AtFrame, InSegment}

-- externals
abbrev pub external : Format External says.External
external = free external_view ExternalText canon.external

pub external_made : IsMade (both name index) external
external_made = exact (both name index) external (λ x. record { name = x.0; type_index = x.1 })
    (λ e. (e.name, e.type_index)) (λ y. refl) (λ x text l. l) (λ y text l. l) (λ y. refl) (λ r. tt)

-- publics
abbrev pub public : Format Public says.Public
public = free public_view PublicText canon.public

pub public_made : IsMade (both name (both word index)) public
public_made = exact (both name (both word index)) public
    (λ x. record { name = x.0; offset = x.1.0; type_index = x.1.1 }) (λ p. (p.name, (p.offset, p.type_index)))
    (λ y. refl) (λ x text l. l) (λ y text l. l) (λ y. refl) (λ r. tt)

pub external_lawful : Lawful external
external_lawful = made_lawful (both name index) external external_made
    (both_lawful name name_lawful (λ r. tt) index index_lawful) (λ r. tt)

pub external_filled : IsFilled external
external_filled = made_filled (both name index) external external_made (both_filled name index name_filled)

pub public_lawful : Lawful public
public_lawful = made_lawful (both name (both word index)) public public_made
    (both_lawful name name_lawful (λ r. tt) (both word index)
    (both_lawful word word_lawful (λ r. tt) index index_lawful)) (λ r. tt)

pub public_filled : IsFilled public
public_filled = made_filled (both name (both word index)) public public_made
    (both_filled name (both word index) name_filled)

-- lines
abbrev pub line : Format Line Line
line = free (λ x. x) LineText canon.line

pub line_made : IsMade (both word word) line
line_made = exact (both word word) line (λ x. record { number = x.0; offset = x.1 }) (λ l. (l.number, l.offset))
    (λ y. refl) (λ x text l. l) (λ y text l. l) (λ y. refl) (λ r. tt)

pub line_lawful : Lawful line
line_lawful = made_lawful (both word word) line line_made (both_lawful word word_lawful (λ r. tt) word word_lawful)
    (λ r. tt)

pub line_filled : IsFilled line
line_filled = made_filled (both word word) line line_made (both_filled word word word_filled)

-- ---- a segment of a group, behind the byte FFH

-- the byte FFH
abbrev pub IsMark : ℕ → Type 0
IsMark b = b ≡ 255

-- components of groups
abbrev pub component : Format ℕ ℕ
component = free (λ x. x) ComponentText canon.component

pub component_to : (b i : ℕ) (text : List ℕ) → (both (fact_byte IsMark) index).Text (b, i) text → ComponentText i text
component_to b i text l = joined l (rw l.first.0 at l.first.1) l.second

pub component_from : (i : ℕ) (text : List ℕ) → ComponentText i text → (both (fact_byte IsMark) index).Text (255, i) text
component_from i text l = joined l (refl, l.first) l.second

pub component_splits : (i : ℕ) → Splits (both (fact_byte IsMark) index) component (255, i) i
component_splits = exact_splits (both (fact_byte IsMark) index) component (λ x. x.1) (λ i. (255, i)) (λ y. refl)
    (λ x. component_to x.0 x.1) component_from (λ y. refl)

pub component_made : IsMade (both (fact_byte IsMark) index) component
component_made = exact (both (fact_byte IsMark) index) component (λ x. x.1) (λ i. (255, i)) (λ y. refl)
    (λ x. component_to x.0 x.1) component_from (λ y. refl) (λ r. tt)

pub component_lawful : Lawful component
component_lawful = made_lawful (both (fact_byte IsMark) index) component component_made
    (both_lawful (fact_byte IsMark) (fact_byte_lawful IsMark) (λ r. tt) index index_lawful) (λ r. tt)

pub component_filled : IsFilled component
component_filled = made_filled (both (fact_byte IsMark) index) component component_made
    (both_filled (fact_byte IsMark) index (fact_byte_filled IsMark))

-- ---- a base: a frame stands only behind the segment index 0

-- a group, a segment, and a frame behind the segment 0
abbrev pub BaseParts : Format (ℕ × (ℕ × Option ℕ)) (ℕ × (ℕ × Option ℕ))
BaseParts = both index (behind index (λ n. when (bits_at 1 65536 n ≡ 0) word) (λ rest. Unit {0}))

-- where publics lie
abbrev pub base : Format PublicBase PublicBase
base = free (λ x. x) BaseText canon.base

-- where publics lie, by these parts
abbrev pub base_of : ℕ × (ℕ × Option ℕ) → PublicBase
base_of (group, (segment, Some frame)) = AtFrame group frame
base_of (group, (segment, None)) = InSegment group segment

-- the parts of where publics lie
abbrev pub base_parts : PublicBase → ℕ × (ℕ × Option ℕ)
base_parts (AtFrame group frame) = (group, (0, Some frame))
base_parts (InSegment group segment) = (group, (segment, None))

pub base_to : (x : ℕ × (ℕ × Option ℕ)) (text : List ℕ) → BaseParts.Text x text → BaseText (base_of x) text
base_to (group, (segment, Some frame)) text j =
    let k = j.second in
    let zero : segment ≡ 0 = omega (arith, k.second.0, index_small segment k.front k.first) in
    joined j j.first (joined k (subst (λ n. Index n k.front) zero k.first) k.second.1)
base_to (group, (segment, None)) text j =
    let k = j.second in
    let no = k.second.0 in
    let some : 0 < segment = omega (arith, no) in
    joined j j.first (
      some,
      subst (Index segment)
          (sym (k.parts ∙ ap (λ (t : List ℕ). k.front ++ t) k.second.1 ∙ append-nil k.front)) k.first,
    )

pub base_from : (y : PublicBase) (text : List ℕ) → BaseText y text → BaseParts.Text (base_parts y) text
base_from (AtFrame group frame) text j = joined j j.first (joined j.second j.second.first (refl, j.second.second))
base_from (InSegment group segment) text j =
    joined j j.first (join j.rest [] (sym (append-nil j.rest)) j.second.1
    ((λ e. omega (arith, j.second.0, index_small segment j.rest j.second.1, e)), refl))

base_back : (y : PublicBase) → base_of (base_parts y) ≡ y
base_back y = grind arith

base_same : (y : PublicBase) → BaseParts.canonical (base_parts y) ≡ canon.base y
base_same y = grind (arith, append-nil)

pub base_splits : (y : PublicBase) → Splits BaseParts base (base_parts y) y
base_splits = exact_splits BaseParts base base_of base_parts base_same base_to base_from base_back

pub base_made : IsMade BaseParts base
base_made = exact BaseParts base base_of base_parts base_same base_to base_from base_back (λ r. tt)

pub base_lawful : Lawful base
base_lawful = made_lawful BaseParts base base_made
    (both_lawful index index_lawful (λ r. tt) (behind index (λ n. when (bits_at 1 65536 n ≡ 0) word) (λ rest. Unit {0}))
    (behind_lawful index (λ n. when (bits_at 1 65536 n ≡ 0) word) (λ rest. Unit {0}) index_lawful (λ r. tt)
    (λ n. when_lawful (bits_at 1 65536 n ≡ 0) word word_lawful (λ r. tt)) (λ x rest u. tt))) (λ r. tt)
