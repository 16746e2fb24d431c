-- The one variable that the declarations of a name ask for.
use Rattle.std.specs.Prelude.{◌≡◌, ℕ, ◌==◌, max, if◌then◌else◌, List, [], ◌∷◌, map, Ok, Err}
use Rattle.std.specs.declared.result.Result.{Result}
use Rattle.omf_library.specs.Members.{joined}
use Rattle.omf_library.specs.Records.{result_and_then}
use Rattle.omf_place.specs.Names.{agrees}
use Rattle.omf_place.specs.declared.names.Names.{Names}
use Rattle.omf_communal.specs.declared.declarations.Whose.{Whose}
use Rattle.omf_communal.specs.declared.declarations.Variable as lent
use Rattle.omf_communal.specs.declared.declarations.Extent.{Extent}
use Rattle.omf_communal.specs.declared.declarations.Extent.TheVariants.{Near, Far}
use Rattle.omf_communal.specs.declared.fault.ClashFault.{ClashFault}
use Rattle.omf_communal.specs.declared.fault.ClashFault.TheVariants.{NearAndFar, ElementSizes, Memory}
use Rattle.omf_communal.specs.Modules.{Declared, Module, wanted}

-- a variable of the program: its name as the first module that declares it spells it, its extent, and that declaration
pub record Variable : Type 0 where
  pub name : List ℕ
  pub extent : Extent
  pub first : Whose

-- one without where its name lies in memory
abbrev pub variable_said : lent.Variable → Variable
variable_said v = record { name = v.name.now; extent = v.extent; first = v.first }

-- the variable that a first declaration asks for
abbrev pub fresh : Declared → Variable
fresh d = record { name = d.name; extent = d.extent; first = d.whose }

-- the greater of two extents, each with where it is asked for: both near, or both far with elements of one size
abbrev pub greater : Whose → Extent → Whose → Extent → Result Extent ClashFault
greater first (Near one) other (Near two) = Ok (Near (max one two))
greater first (Far one size) other (Far two size') =
    if size == size' then Ok (Far (max one two) size) else Err (ElementSizes first other)
greater first (Near one) other (Far two size') = Err (NearAndFar first other)
greater first (Far one size) other (Near two) = Err (NearAndFar first other)

-- the variable of a name with one declaration more of it
abbrev pub widened : Variable → Declared → Result Variable ClashFault
widened v d = result_and_then (λ extent. Ok (record { name = v.name; extent = extent; first = v.first }))
    (greater v.first v.extent d.whose d.extent)

-- one declaration more behind those that ask for some variables: of the variable of its name, if there is one
abbrev pub meet : Names → Declared → List Variable → Result (List Variable) ClashFault
meet names d [] = Ok (fresh d ∷ [])
meet names d (v ∷ vs) =
    if agrees names d.name v.name then result_and_then (λ w. Ok (w ∷ vs)) (widened v d)
    else joined (v ∷ []) (meet names d vs)

-- the variables that declarations ask for behind those that stand, or the first clash
abbrev pub met : Names → List Variable → List Declared → Result (List Variable) ClashFault
met names vs [] = Ok vs
met names vs (d ∷ ds) = result_and_then (λ ws. met names ws ds) (meet names d vs)

-- the variables of a program, in order of first meeting, or the first clash
abbrev pub variables : Names → List Module → Result (List Variable) ClashFault
variables names ms = met names [] (wanted names ms)

-- these variables are those
abbrev pub AreVariables : List lent.Variable → Result (List Variable) ClashFault → Type 0
AreVariables vs stands = stands ≡ Ok (map variable_said vs)

-- the clash is that one, unless it is want of memory
abbrev pub IsClash : {A : Type 0} → ClashFault → Result A ClashFault → Type 0
IsClash (NearAndFar first other) stands = stands ≡ Err (NearAndFar first other)
IsClash (ElementSizes first other) stands = stands ≡ Err (ElementSizes first other)
IsClash Memory stands = Unit {0}
