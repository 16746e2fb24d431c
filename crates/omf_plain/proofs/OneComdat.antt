-- A body says one COMDAT at most.
use Rattle.std.proofs.Common.{◌≡◌, ℕ, Bool, List, [], refl}
use Rattle.omf_codec.specs.inside.Format.{Lawful}
use Rattle.omf_codec.specs.inside.FormatLaws.{both, both_lawful, behind_lawful, made_lawful}
use Rattle.omf_codec.specs.inside.PrimitiveLaws.{fact_byte, fact_byte_lawful, rest_of, rest_lawful}
use Rattle.omf_extended.specs.Body.{Body}
use Rattle.omf_extended.specs.Said.{Comdat}
use Rattle.omf_extended.specs.declared.comdats.Comdat as said
use Rattle.omf_extended.specs.inside.Comdats.{AreAttributes, AreFlags, Behind, ComdatParts, behind_laws, comdat, comdat_made}

parts_lawful : (wide : Bool) → Lawful (ComdatParts wide)
parts_lawful wide =
    both_lawful (fact_byte AreFlags) (fact_byte_lawful AreFlags) (λ r. tt) _
    (behind_lawful (fact_byte AreAttributes) (Behind wide) (λ rest. Unit {0}) (fact_byte_lawful AreAttributes) (λ r. tt)
    (behind_laws wide) (λ x rest e. tt))

lawful : (wide : Bool) → Lawful (both (comdat wide) rest_of)
lawful wide =
    both_lawful (comdat wide)
    (made_lawful (ComdatParts wide) (comdat wide) (comdat_made wide) (parts_lawful wide) (λ r. tt)) (λ r. tt) rest_of
    rest_lawful

pub one_comdat : (wide : Bool) (c d : said.Comdat) (a b text : List ℕ) → Body (Comdat wide c a) text
    → Body (Comdat wide d b) text → (let x : said.Comdat × List ℕ = (c, a) in x) ≡ (d, b)
unfolding Body
one_comdat wide c d a b text l m = ((lawful wide).one (c, a) (d, b) text text [] [] l m refl refl refl).0
