-- Externals of EXTDEF, and those of COMDEF, LCOMDEF and CEXTDEF as these (TIS OMF 1.1, the section of each), by what their
-- names mean.
use Rattle.std.specs.Prelude.{ℕ, if◌then◌else◌, nat_lt, Bool, List, length, Ok, Err}
use Rattle.std.specs.declared.result.Result.{Result}
use Rattle.std.specs.Option.{ok_or, unwrap_or}
use Rattle.omf_alias.specs.Meaning.{Renaming, meaning}
use Rattle.omf_library.specs.Entries.{listed_name}
use Rattle.omf_record.specs.Record.{External}
use Rattle.omf_wide.specs.Communals.{Communal}
use Rattle.omf_wide.specs.declared.communals.Extent.{Extent}
use Rattle.omf_wide.specs.declared.communals.Extent.TheVariants.{Near, Far, Other}
use Rattle.omf_wide.specs.declared.externals.ListedExternal.{ListedExternal}
use Rattle.omf_plain.specs.declared.fault.Obstacle.{Obstacle}
use Rattle.omf_plain.specs.declared.fault.Obstacle.TheVariants.{Body, DataType, TooLong}
use Rattle.omf_plain.specs.Step.{◌>>=◌}

-- what a name means; one of which the aliases go on for ever stays
abbrev pub renamed : Renaming → List ℕ → List ℕ
renamed renaming name = unwrap_or (meaning renaming name) name

-- an external of what a name means
abbrev pub meant_external : Renaming → (name : List ℕ) → (type_index : ℕ) → Result External Obstacle
meant_external renaming name type_index =
    let means = renamed renaming name in
    if nat_lt 255 (length means) then Err TooLong else Ok (record { name = means; type_index = type_index })

-- an external by what its name means
abbrev pub plain_external : Renaming → External → Result External Obstacle
plain_external renaming e = meant_external renaming e.name e.type_index

-- an external by the index of its name among those before it
abbrev pub plain_listed : Renaming → (names : List (List ℕ)) → ListedExternal → Result External Obstacle
plain_listed renaming names e =
    ok_or (listed_name names e.name) Body >>= λ name. meant_external renaming name e.type_index

-- a variable's external: of what its name means, or, where it is local, of its name
abbrev pub external_of : Renaming → (local : Bool) → Communal → Result External Obstacle
external_of renaming local c =
    if local then Ok (record { name = c.name; type_index = c.type_index })
    else meant_external renaming c.name c.type_index

-- so it is of one that is near or far
abbrev pub plain_communal : Renaming → (local : Bool) → Communal → Extent → Result External Obstacle
plain_communal renaming local c (Near length) = external_of renaming local c
plain_communal renaming local c (Far elements size) = external_of renaming local c
plain_communal renaming local c (Other data_type) = Err DataType
