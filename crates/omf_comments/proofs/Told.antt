-- What no extension and no comment says, from what no fields do.
use Rattle.std.proofs.Common.{◌≡◌, ◌≢◌, ℕ, ◌/◌, ◌%◌, ◌<◌, ◌≤◌, eqb, List, [], ◌∷◌, ◌++◌, length, Option, Some, None}
use Rattle.std.proofs.Common.{refl, sym, ap, subst, ◌∙◌, append-nil, arith}
use Rattle.std.proofs.lemmas.Bool.{eqb-true, eqb-false}
use Rattle.std.proofs.lemmas.List.{length-append}
use Rattle.omf_codec.specs.Language.{◌⋆◌ as Joined, IsBytes, Byte, One}
use Rattle.omf_codec.specs.inside.Format.{join, Format}
use Rattle.omf_codec.specs.inside.FormatLaws.{both}
use Rattle.omf_codec.specs.inside.PrimitiveLaws.{byte, name, word, rest_of}
use Rattle.omf_record.specs.Numbers.{bit}
use Rattle.omf_comments.specs.inside.Comments.{ExtensionOf}
use Rattle.omf_comments.specs.Comments.{Extension, ExtensionText, Import, Export, Increment, Directive}
use Rattle.omf_comments.specs.Comments.{ByName, ByOrdinal, Comment, CommentOf, CommentText, Extended, DebugStyle}
use Rattle.omf_comments.specs.Comments.{Dependency, DependencyEnd, Text, Bare, subtype}

-- no value of the format has the bytes
abbrev pub NoText : {I V : Type 0} → Format I V → List ℕ → Type 0
NoText {I} {V} F bytes = (x : V) → F.Text x bytes → ⊥

-- ---- a byte ahead

pub byte_ahead : {M : List ℕ → Type 0} (b : ℕ) (rest : List ℕ) → b < 256 → M rest → Joined (Byte b) M (b ∷ rest)
byte_ahead b rest lt m = join (b ∷ []) rest refl (lt, refl) m

heads : (a b : ℕ) (s t : List ℕ) → a ∷ s ≡ b ∷ t → (a ≡ b) × (s ≡ t)
heads a b s t e = (cc, cc)

pub behind_byte : {M : List ℕ → Type 0} (n b : ℕ) (rest : List ℕ) → Joined (Byte n) M (b ∷ rest) → (n ≡ b) × M rest
behind_byte {M} n b rest j =
    let e : b ∷ rest ≡ n ∷ j.rest = subst (λ (t : List ℕ). b ∷ rest ≡ t ++ j.rest) j.first.1 j.parts in
    let h = heads b n rest j.rest e in
    (sym h.0, subst M (sym h.1) j.second)

pub behind_one : {P : ℕ → Type 0} {M : List ℕ → Type 0} (b : ℕ) (rest : List ℕ) → Joined (One P) M (b ∷ rest)
    → P b × M rest
behind_one {P} {M} b rest j =
    let (n, lt, p, is) = j.first in
    let e : b ∷ rest ≡ n ∷ j.rest = subst (λ (t : List ℕ). b ∷ rest ≡ t ++ j.rest) is j.parts in
    let h = heads b n rest j.rest e in
    (subst P (sym h.0) p, subst M (sym h.1) j.second)

byte_there : {M : List ℕ → Type 0} (n : ℕ) → Joined (Byte n) M [] → ⊥
byte_there n j = let p = ap length j.parts in let f = ap length j.first.1 in
    let a = length-append j.front j.rest in
    omega (arith, p, f, a)

one_there : {P : ℕ → Type 0} {M : List ℕ → Type 0} → Joined (One P) M [] → ⊥
one_there j = let (n, lt, h, is) = j.first in let p = ap length j.parts in let f = ap length is in
    let a = length-append j.front j.rest in
    omega (arith, p, f, a)

-- ---- extensions

pub none_by_name : (rest : List ℕ) → NoText (both name (both name name)) rest → (e : Extension)
    → ExtensionOf 1 e (0 ∷ rest) → ⊥
none_by_name rest h (Import i m (ByName n)) l = h (i, (m, n)) (behind_byte 0 0 rest l.1).1
none_by_name rest h (Import i m (ByOrdinal n)) l = absurd (let e = (behind_byte 1 0 rest l.1).0 in omega (arith, e))
none_by_name rest h _ l = absurd (let e = l.0 in omega (arith, e))

pub none_by_ordinal : (rest : List ℕ) → NoText (both name (both name word)) rest → (e : Extension)
    → ExtensionOf 1 e (1 ∷ rest) → ⊥
none_by_ordinal rest h (Import i m (ByName n)) l = absurd (let e = (behind_byte 0 1 rest l.1).0 in omega (arith, e))
none_by_ordinal rest h (Import i m (ByOrdinal n)) l = h (i, (m, n)) (behind_byte 1 1 rest l.1).1
none_by_ordinal rest h _ l = absurd (let e = l.0 in omega (arith, e))

pub no_flag : (b : ℕ) (rest : List ℕ) → b ≢ 0 → b ≢ 1 → (e : Extension) → ExtensionOf 1 e (b ∷ rest) → ⊥
no_flag b rest zero one (Import i m (ByName n)) l = zero (sym (behind_byte 0 b rest l.1).0)
no_flag b rest zero one (Import i m (ByOrdinal n)) l = one (sym (behind_byte 1 b rest l.1).0)
no_flag b rest zero one _ l = absurd (let e = l.0 in omega (arith, e))

flag_to : (n : ℕ) → n < 2 → n ≡ bit (eqb n 1)
flag_to n lt = grind (arith, eqb-true, eqb-false)

-- what flags say
abbrev exported : (x y : List ℕ) → Option ℕ → ℕ → Extension
exported x y ordinal flags = Export x y ordinal (eqb (flags / 64 % 2) 1) (eqb (flags / 32 % 2) 1) (flags % 32)

pub export_by_ordinal : (flags : ℕ) (rest x y : List ℕ) (n : ℕ) → 128 ≤ flags → flags < 256
    → (both name (both name word)).Text (x, (y, n)) rest → ExtensionText (exported x y (Some n) flags) (flags ∷ rest)
export_by_ordinal flags rest x y n ge lt l =
    let a : flags / 64 % 2 < 2 = omega arith in
    let b : flags / 32 % 2 < 2 = omega arith in
    join (flags ∷ []) rest refl (
      flags,
      lt,
      (
        omega (arith, ge, lt),
        omega (arith, flag_to (flags / 64 % 2) a),
        omega (arith, flag_to (flags / 32 % 2) b),
        omega arith,
      ),
      refl,
    ) l

pub export_by_name : (flags : ℕ) (rest x y : List ℕ) → flags < 128 → (both name name).Text (x, y) rest
    → ExtensionText (exported x y None flags) (flags ∷ rest)
export_by_name flags rest x y lt l =
    let a : flags / 64 % 2 < 2 = omega arith in
    let b : flags / 32 % 2 < 2 = omega arith in
    let below : flags < 256 = omega (arith, lt) in
    join (flags ∷ []) rest refl (
      flags,
      below,
      (
        omega (arith, lt),
        omega (arith, flag_to (flags / 64 % 2) a),
        omega (arith, flag_to (flags / 32 % 2) b),
        omega arith,
      ),
      refl,
    ) (join l.front l.rest l.parts l.first (join l.rest [] (sym (append-nil l.rest)) l.second refl))

pub none_exported_by_ordinal : (flags : ℕ) (rest : List ℕ) → 128 ≤ flags → NoText (both name (both name word)) rest
    → (e : Extension) → ExtensionOf 2 e (flags ∷ rest) → ⊥
none_exported_by_ordinal flags rest ge h (Export x y (Some n) r d p) l = h (x, (y, n)) (behind_one flags rest l.1).1
none_exported_by_ordinal flags rest ge h (Export x y None r d p) l =
    absurd (let b = (behind_one flags rest l.1).0.0 in let lt = small flags rest l.1 in omega (arith, b, ge, lt))
  where
    small : {P : ℕ → Type 0} {M : List ℕ → Type 0} (b : ℕ) (rest : List ℕ) → Joined (One P) M (b ∷ rest) → b < 256
    small b rest j = let (n, lt, p, is) = j.first in
        let e : b ∷ rest ≡ n ∷ j.rest = subst (λ (t : List ℕ). b ∷ rest ≡ t ++ j.rest) is j.parts in
        let h = (heads b n rest j.rest e).0 in
        omega (arith, h, lt)
none_exported_by_ordinal flags rest ge h _ l = absurd (let e = l.0 in omega (arith, e))

pub none_exported_by_name : (flags : ℕ) (rest : List ℕ) → flags < 128 → NoText (both name name) rest
    → (e : Extension) → ExtensionOf 2 e (flags ∷ rest) → ⊥
none_exported_by_name flags rest lt h (Export x y None r d p) l =
    let m = (behind_one flags rest l.1).1 in
    h (x, y) (join m.front m.rest m.parts m.first
    (subst (λ (t : List ℕ). name.Text y t)
    (sym (m.second.parts ∙ ap (λ (t : List ℕ). m.second.front ++ t) m.second.second
    ∙ append-nil m.second.front)) m.second.first))
none_exported_by_name flags rest lt h (Export x y (Some n) r d p) l =
    absurd (let b = (behind_one flags rest l.1).0.0 in omega (arith, b, lt))
none_exported_by_name flags rest lt h _ l = absurd (let e = l.0 in omega (arith, e))

pub none_increment : (bytes : List ℕ) → NoText (both word (both word rest_of)) bytes → (e : Extension)
    → ExtensionOf 3 e bytes → ⊥
none_increment bytes h (Increment x y p) l = h (x, (y, p)) l.1
none_increment bytes h _ l = absurd (let e = l.0 in omega (arith, e))

pub none_directive : (bytes : List ℕ) → NoText (both byte (both byte byte)) bytes → (e : Extension)
    → ExtensionOf 5 e bytes → ⊥
none_directive bytes h (Directive f p d) l = h (f, (p, d)) l.1
none_directive bytes h _ l = absurd (let e = l.0 in omega (arith, e))

-- an import has a flag
pub none_empty : (e : Extension) → ExtensionOf 1 e [] → ⊥
none_empty (Import i m (ByName n)) l = byte_there 0 l.1
none_empty (Import i m (ByOrdinal n)) l = byte_there 1 l.1
none_empty _ l = absurd (let e = l.0 in omega (arith, e))

-- an export has flags
pub none_empty_2 : (e : Extension) → ExtensionOf 2 e [] → ⊥
none_empty_2 (Export x y o r d p) l = one_there l.1
none_empty_2 _ l = absurd (let e = l.0 in omega (arith, e))

-- ---- comments

pub extension_text : (number : ℕ) (rest : List ℕ) (e : Extension) → number < 256 → ExtensionOf number e rest
    → CommentText (Extended e) (number ∷ rest)
extension_text number rest e lt l =
    subst (λ n. Joined (Byte n) (ExtensionText e) (number ∷ rest)) (sym l.0) (byte_ahead number rest lt l.1)

pub none_extended : (number : ℕ) (rest : List ℕ) → ((e : Extension) → ExtensionOf number e rest → ⊥) → (c : Comment)
    → CommentOf 0xA0 c (number ∷ rest) → ⊥
none_extended number rest h (Extended e) l = let b = behind_byte (subtype e) number rest l.1 in h e b
none_extended number rest h (Text n t) l = absurd (grind (arith, eqb-true, eqb-false, l.0, l.1.0))
none_extended number rest h (Bare n) l = absurd (grind (arith, eqb-true, eqb-false, l.0, l.1.0))
none_extended number rest h _ l = absurd (let e = l.0 in omega (arith, e))

pub none_extended_empty : (c : Comment) → CommentOf 0xA0 c [] → ⊥
none_extended_empty (Extended e) l = byte_there (subtype e) l.1
none_extended_empty (Text n t) l = absurd (grind (arith, eqb-true, eqb-false, l.0, l.1.0))
none_extended_empty (Bare n) l = absurd (grind (arith, eqb-true, eqb-false, l.0, l.1.0))
none_extended_empty _ l = absurd (let e = l.0 in omega (arith, e))

pub debug_text : (version : ℕ) (style : List ℕ) → version < 256 → IsBytes style
    → CommentText (DebugStyle version style) (version ∷ style)
debug_text version style lt b = byte_ahead version style lt (b, refl)

pub none_debug : (c : Comment) → CommentOf 0xA1 c [] → ⊥
none_debug (DebugStyle v s) l = byte_there v l.1
none_debug (Text n t) l = absurd (grind (arith, eqb-true, eqb-false, l.0, l.1.0))
none_debug (Bare n) l = absurd (grind (arith, eqb-true, eqb-false, l.0, l.1.0))
none_debug _ l = absurd (let e = l.0 in omega (arith, e))

pub none_dependency : (bytes : List ℕ) → 0 < length bytes → NoText (both word (both word name)) bytes → (c : Comment)
    → CommentOf 0xE9 c bytes → ⊥
none_dependency bytes some h (Dependency t d n) l = h (t, (d, n)) l.1
none_dependency bytes some h DependencyEnd l = absurd (omega (arith, some, ap length l.1))
none_dependency bytes some h (Text n t) l = absurd (grind (arith, eqb-true, eqb-false, l.0, l.1.0))
none_dependency bytes some h (Bare n) l = absurd (grind (arith, eqb-true, eqb-false, l.0, l.1.0))
none_dependency bytes some h _ l = absurd (let e = l.0 in omega (arith, e))
