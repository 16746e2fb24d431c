-- Each name that modules declare and none offers has one variable, of the greatest length that is asked for.
use Rattle.std.specs.Prelude.{◌≡◌, ◌≤◌, true, false, ◌⊎◌, List, [], ◌∷◌, Ok}
use Rattle.std.specs.List.{AllByRecursion}
use Rattle.omf_place.specs.Names.{agrees}
use Rattle.omf_place.specs.declared.names.Names.{Names}
use Rattle.omf_communal.specs.declared.declarations.Extent.{Extent}
use Rattle.omf_communal.specs.declared.declarations.Extent.TheVariants.{Near, Far}
use Rattle.omf_communal.specs.Modules.{Declared, Module, wanted}
use Rattle.omf_communal.specs.Deciding.{Variable, variables}

-- one of these is so
abbrev pub Any : {X : Type 0} → (X → Type 0) → List X → Type 0
Any P [] = ⊥
Any P (x ∷ xs) = P x ⊎ Any P xs

-- an extent is no less than another: both near, or both far with elements of one size
abbrev pub IsNoLess : Extent → Extent → Type 0
IsNoLess (Near one) (Near two) = two ≤ one
IsNoLess (Far one size) (Far two size') = (size ≡ size') × (two ≤ one)
IsNoLess (Near one) (Far two size') = ⊥
IsNoLess (Far one size) (Near two) = ⊥

-- a variable has the name that a declaration has, and no less than it asks for
pub record Serves (names : Names) (d : Declared) (v : Variable) : Type 0 where
  pub name : agrees names d.name v.name ≡ true
  pub extent : IsNoLess v.extent d.extent

-- a declaration of a variable's name asks for all that the variable has
pub record AsksAll (names : Names) (v : Variable) (d : Declared) : Type 0 where
  pub name : agrees names d.name v.name ≡ true
  pub extent : v.extent ≡ d.extent

-- no two variables have one name
abbrev pub HaveOwnNames : Names → List Variable → Type 0
HaveOwnNames names [] = Unit {0}
HaveOwnNames names (v ∷ vs) = AllByRecursion (λ w. agrees names v.name w.name ≡ false) vs × HaveOwnNames names vs

-- the variables of declarations
pub record AreOf (names : Names) (ds : List Declared) (vs : List Variable) : Type 0 where
  pub served : AllByRecursion (λ d. Any (Serves names d) vs) ds
  pub asked : AllByRecursion (λ v. Any (AsksAll names v) ds) vs
  pub apart : HaveOwnNames names vs

-- those of a program are of what its modules declare and none offers
abbrev pub AreOnce : Type 0
AreOnce = (names : Names) (ms : List Module) (vs : List Variable) → variables names ms ≡ Ok vs →
    AreOf names (wanted names ms) vs
