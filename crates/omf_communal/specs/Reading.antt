-- The communal variables that a module declares: the entries of its records of type B0H (TIS OMF 1.1, "COMDEF") and, of
-- those that it alone knows, B8H (TIS OMF 1.1, "LCOMDEF").
use Rattle.std.specs.Prelude.{◌≡◌, ℕ, ◌==◌, if◌then◌else◌, List, [], ◌∷◌, map, Ok, Err}
use Rattle.std.specs.declared.result.Result.{Result}
use Rattle.omf_frame.specs.Frame.{Frame}
use Rattle.omf_library.specs.Members.{joined}
use Rattle.omf_library.specs.Records.{result_and_then}
use Rattle.omf_communal.specs.declared.declarations.Extent.{Extent}
use Rattle.omf_communal.specs.declared.declarations.Scope.{Scope}
use Rattle.omf_communal.specs.declared.declarations.Scope.TheVariants as scope
use Rattle.omf_communal.specs.declared.fault.EntryFault.{EntryFault}
use Rattle.omf_communal.specs.declared.fault.CommunalFault.{CommunalFault}
use Rattle.omf_communal.specs.declared.fault.CommunalFault.TheVariants.{Malformed, Memory}
use Rattle.omf_communal.specs.declared.declarations.Communal as lent
use Rattle.omf_communal.specs.Entries.{Entry, entries}

-- a communal variable as a module declares it, and the place of its record
pub record Communal : Type 0 where
  pub place : ℕ
  pub name : List ℕ
  pub extent : Extent

-- one without where its name lies in memory
abbrev pub plain_communal : lent.Communal → Communal
plain_communal c = record { place = c.place; name = c.name.now; extent = c.extent }

-- what an entry of the record at a place declares
abbrev pub communal_at : ℕ → Entry → Communal
communal_at place e = record { place = place; name = e.name; extent = e.extent }

-- what entries of the record at a place declare; a fault is one of that record
abbrev pub at_record : ℕ → Result (List Entry) EntryFault → Result (List Communal) CommunalFault
at_record place (Ok es) = Ok (map (communal_at place) es)
at_record place (Err fault) = Err (Malformed place fault)

-- what a record with this body declares
abbrev pub entries_at : ℕ → List ℕ → Result (List Communal) CommunalFault
entries_at place body = at_record place (entries body)

-- the type of the records that declare variables of a scope: COMDEF and LCOMDEF, whose bodies are alike
abbrev pub record_type : Scope → ℕ
record_type scope.Program = 0xB0
record_type scope.Module = 0xB8

-- what a record declares of a scope
abbrev pub communals_in : Scope → Frame → Result (List Communal) CommunalFault
communals_in s f = if f.kind == record_type s then entries_at f.place f.body else Ok []

-- what records declare of a scope, in their order, or the first fault
abbrev pub communals_of : Scope → List Frame → Result (List Communal) CommunalFault
communals_of s [] = Ok []
communals_of s (f ∷ fs) = result_and_then (λ cs. joined cs (communals_of s fs)) (communals_in s f)

-- these variables are those
abbrev pub AreTold : List lent.Communal → Result (List Communal) CommunalFault → Type 0
AreTold told stands = stands ≡ Ok (map plain_communal told)

-- the fault is that one, unless it is want of memory
abbrev pub IsFault : {A : Type 0} → CommunalFault → Result A CommunalFault → Type 0
IsFault (Malformed place fault) stands = stands ≡ Err (Malformed place fault)
IsFault Memory stands = Unit {0}
