-- A body of a type says one thing at most.
use Rattle.std.proofs.Common.{◌≡◌, ◌<◌, ℕ, List, [], Vec, refl, sym, ap, ◌∙◌, true}
use Rattle.omf_codec.specs.Language.{width_of}
use Rattle.omf_codec.specs.inside.Format.{Format, Lawful, IsFree, IsFilled}
use Rattle.omf_codec.specs.inside.FormatLaws.{both, both_lawful, both_filled, each_lawful, made_lawful, made_filled}
use Rattle.omf_codec.specs.inside.Numbers.{double, number_lawful}
use Rattle.omf_codec.specs.inside.PrimitiveLaws.{index, index_lawful, index_filled, name, name_lawful, name_filled}
use Rattle.omf_codec.specs.inside.PrimitiveLaws.{word}
use Rattle.omf_codec.specs.inside.PrimitiveLaws.{word_lawful, word_filled, rest_of, rest_lawful}
use Rattle.omf_record.specs.Record.{Extdef, Pubdef, Linnum, Lnames, Ledata}
use Rattle.omf_record.specs.inside.Ends.{end_lawful}
use Rattle.omf_record.specs.inside.Shapes.{base, base_lawful, external, external_lawful, external_filled}
use Rattle.omf_wide.specs.Body.{BodyOf, ReferenceAt, kind_of}
use Rattle.omf_wide.specs.Said.{Said, Plain, Fixupp, Modend, Cextdef, Segdef}
use Rattle.omf_wide.specs.inside.Publics.{listed, listed_made}
use Rattle.omf_wide.specs.inside.References.{reference_text, reference_lawful}
use Rattle.omf_wide.specs.inside.Segments.{segment_lawful}
use Rattle.omf_wide.specs.inside.Subrecords.{subrecord, subrecord_lawful, subrecord_filled}
use Rattle.omf_wide.proofs.Layouts.{body, layout_of, list}

list_lawful : {I A : Type 0} (F : Format I A) → Lawful F → IsFilled F → IsFree F → Lawful (list ℕ F)
list_lawful F law filled unended = each_lawful F (λ v. v.items) law unended filled

lawful : (r : Said) → Lawful (layout_of ℕ r).parts
lawful (Plain (Lnames _)) = list_lawful name name_lawful name_filled (λ r. tt)
lawful (Plain (Extdef local _)) = list_lawful external external_lawful external_filled (λ r. tt)
lawful (Plain (Pubdef local _ _)) =
    let behind = both double index in
    both_lawful base base_lawful (λ r. tt) (list ℕ (both name behind))
    (list_lawful (both name behind) (both_lawful name name_lawful (λ r. tt) behind
    (both_lawful double (number_lawful true) (λ r. tt) index index_lawful)) (both_filled name behind name_filled)
    (λ r. tt))
lawful (Plain (Linnum _ _ _)) =
    both_lawful index index_lawful (λ r. tt) (both index (list ℕ (both word double)))
    (both_lawful index index_lawful (λ r. tt) (list ℕ (both word double))
    (list_lawful (both word double) (both_lawful word word_lawful (λ r. tt) double (number_lawful true))
    (both_filled word double word_filled) (λ r. tt)))
lawful (Plain (Ledata _ _ _)) =
    both_lawful index index_lawful (λ r. tt) (both double rest_of)
    (both_lawful double (number_lawful true) (λ r. tt) rest_of rest_lawful)
lawful (Fixupp wide _) = list_lawful (subrecord wide) (subrecord_lawful wide) (subrecord_filled wide) (λ r. tt)
lawful (Modend wide _ _) = end_lawful (ReferenceAt (width_of wide)) (reference_text wide) (reference_lawful wide)
lawful (Segdef wide _) = segment_lawful wide
lawful (Cextdef _) =
    list_lawful listed
    (made_lawful (both index index) listed listed_made (both_lawful index index_lawful (λ r. tt) index index_lawful)
    (λ r. tt)) (made_filled (both index index) listed listed_made (both_filled index index index_filled)) (λ r. tt)
lawful _ = name_lawful

-- a body says at most one thing of each type
pub one_of : (kind : ℕ) (text : List ℕ) (r s : Said) → 0 < kind → BodyOf kind r text → BodyOf kind s text → r ≡ s
one_of kind text r s some l m =
    let of = body ℕ r kind some (sym l.0) in
    let (x, x-is, xl) = of.from r text l in
    let (y, y-is, yl) = of.from s text m in
    sym x-is ∙ ap of.made ((lawful r).one x y text text [] [] xl yl of.ending.ended of.ending.ended refl).0 ∙ y-is
