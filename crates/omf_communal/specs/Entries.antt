-- The entries of COMDEF (TIS OMF 1.1, "COMDEF"): a name, a type index, a data type, and the numbers that the type has.
use Rattle.std.specs.Prelude.{ℕ, zero, suc, ◌==◌, if◌then◌else◌, List, [], ◌∷◌, length, Ok, Err, ok_or}
use Rattle.std.specs.declared.option.Option.{Option}
use Rattle.std.specs.declared.result.Result.{Result}
use Rattle.omf_library.specs.Fields.{name_front, index_front}
use Rattle.omf_library.specs.Members.{joined}
use Rattle.omf_library.specs.Records.{result_and_then}
use Rattle.omf_communal.specs.declared.declarations.Extent.{Extent}
use Rattle.omf_communal.specs.declared.declarations.Extent.TheVariants.{Near, Far}
use Rattle.omf_communal.specs.declared.fault.EntryFault.{EntryFault}
use Rattle.omf_communal.specs.declared.fault.EntryFault.TheVariants.{Body, DataType}
use Rattle.omf_communal.specs.Fields.{number_front}

-- a field that has to be there
abbrev pub whole : {A : Type 0} → Option A → Result A EntryFault
whole field = ok_or field Body

-- near: the length in bytes
abbrev pub near_front : List ℕ → Result (Extent × List ℕ) EntryFault
near_front bytes = result_and_then (λ (length, rest). Ok (Near length, rest)) (whole (number_front bytes))

-- far: how many elements, and the size of an element in bytes
abbrev pub far_front : List ℕ → Result (Extent × List ℕ) EntryFault
far_front bytes = result_and_then
    (λ (count, rest). result_and_then (λ (size, after). Ok (Far count size, after)) (whole (number_front rest)))
    (whole (number_front bytes))

-- the data type, 62H near or 61H far, and its numbers; any other is at fault
abbrev pub extent_front : List ℕ → Result (Extent × List ℕ) EntryFault
extent_front [] = Err Body
extent_front (kind ∷ rest) =
    if kind == 0x62 then near_front rest
    else if kind == 0x61 then far_front rest
    else Err DataType

-- an entry, and the bytes behind it
pub record Entry : Type 0 where
  pub name : List ℕ
  pub extent : Extent
  pub rest : List ℕ

-- the entry at the front of the bytes
unfoldable pub entry_front : List ℕ → Result Entry EntryFault
entry_front bytes = result_and_then
    (λ (name, rest). result_and_then
    (λ (type_index, behind). result_and_then
    (λ (extent, after). Ok (record { name = name; extent = extent; rest = after })) (extent_front behind))
    (whole (index_front rest)))
    (whole (name_front bytes))

-- the entries of a body, so many at most: it has no byte behind them
abbrev pub entries_up_to : ℕ → List ℕ → Result (List Entry) EntryFault
entries_up_to most [] = Ok []
entries_up_to zero (b ∷ bs) = Err Body
entries_up_to (suc most) (b ∷ bs) =
    result_and_then (λ (e : Entry). joined (e ∷ []) (entries_up_to most e.rest)) (entry_front (b ∷ bs))

-- all of them: each has a byte at least
unfoldable pub entries : List ℕ → Result (List Entry) EntryFault
entries bytes = entries_up_to (length bytes) bytes
