-- The end of a module, by its parts.
use Rattle.std.proofs.Common.{◌≡◌, ℕ, Bool, List, Option, subst, sym}
use Rattle.omf_codec.specs.inside.FormatLaws.{behind}
use Rattle.omf_codec.specs.inside.Heads.{by_head_make}
use Rattle.omf_codec.specs.inside.PrimitiveLaws.{fact_byte}
use Rattle.omf_record.specs.inside.Ends.{Behind, ByAttribute, EndText, IsAttribute, end_of}

abbrev Parts : {R : Type 0} → (R → List ℕ → Type 0) → (R → List ℕ) → ℕ × Option R → List ℕ → Type 0
Parts texts canonical x =
    (behind (fact_byte IsAttribute) (Behind texts canonical) (λ rest. Unit {0})).Text
    ((behind (fact_byte IsAttribute) (Behind texts canonical) (λ rest. Unit {0})).view x)

-- what the parts spell, the end does that they make
pub end_make : {R : Type 0} (texts : R → List ℕ → Type 0) (canonical : R → List ℕ) (x : ℕ × Option R)
    (end : Bool × Option R) (text : List ℕ) → end ≡ end_of x.0 x.1 → Parts texts canonical x text
    → EndText texts canonical end text
end_make texts canonical x end text is l =
    subst (λ y. EndText texts canonical y text) (sym is) (by_head_make (ByAttribute texts canonical) x text l)
