-- What a module says of names, by its records' types and bodies alone. Names that are local to the module (LEXTDEF,
-- LPUBDEF, LCOMDEF, a local COMDAT) and communal variables (COMDEF) are neither wanted nor offered, and what an ALIAS
-- stands for isn't wanted by itself. Weak externals aren't wanted, and lazy ones are wanted but not needed.
use Rattle.std.specs.Prelude.{ℕ, ◌==◌, Bool, not, if◌then◌else◌, List, [], filter, map, is_some}
use Rattle.std.specs.Borrow.{Bor}
use Rattle.std.specs.Option.{option_map_or, option_and_then, option_or, option_to_list}
use Rattle.std.specs.List.{filter_map, flat_map, list_any}
use Rattle.omf_frame.specs.Frame.{Frame}
use Rattle.omf_library.specs.Listed.{said_by}
use Rattle.omf_library.specs.Records.{comment_text}
use Rattle.omf_library.specs.Entries.{entries, external_front, communal_front, public_front, alias_front}
use Rattle.omf_library.specs.Entries.{variable_front}
use Rattle.omf_library.specs.Entries.{behind_base, comdat_name, listed_name}
use Rattle.omf_library.specs.Defaults.{is_theirs_alone, weak_and_lazy, weak_externals}

-- names without where they lie in memory
abbrev pub texts : List (Bor (List ℕ)) → List (List ℕ)
texts names = map (λ x. x.now) names

-- the names that a record wants, by those listed so far: 8CH EXTDEF, BCH CEXTDEF
unfoldable pub wanted_in : List (List ℕ) → Frame → List (List ℕ)
wanted_in listed f =
    if f.kind == 0x8C then entries external_front f.body
    else if f.kind == 0xBC then filter_map (listed_name listed) (entries communal_front f.body)
    else []

-- the names of a PUBDEF whose offsets have so many bytes
abbrev pub public_names : ℕ → List ℕ → List (List ℕ)
public_names offset body = option_map_or (entries (public_front offset)) (behind_base body) []

-- the name of a COMDAT whose offset has so many bytes
abbrev pub comdat_names : ℕ → List (List ℕ) → List ℕ → List (List ℕ)
comdat_names offset listed body = option_to_list (option_and_then (listed_name listed) (comdat_name offset body))

-- the names that a record offers: 90H and 91H PUBDEF, C2H and C3H COMDAT, C6H ALIAS
unfoldable pub offered_in : List (List ℕ) → Frame → List (List ℕ)
offered_in listed f =
    if f.kind == 0x90 then public_names 2 f.body
    else if f.kind == 0x91 then public_names 4 f.body
    else if f.kind == 0xC2 then comdat_names 2 listed f.body
    else if f.kind == 0xC3 then comdat_names 4 listed f.body
    else if f.kind == 0xC6 then entries alias_front f.body
    else []

-- the communal variables that a record declares: B0H COMDEF
unfoldable pub communals_in : Frame → List (List ℕ)
communals_in f = if f.kind == 0xB0 then entries variable_front f.body else []

-- the default library that a comment names: class 9FH, and 81H, which was it before
unfoldable pub library_in : Frame → List (List ℕ)
library_in f = option_to_list (option_or (comment_text 0x9F f) (comment_text 0x81 f))

-- the names that its records want, by any external
unfoldable pub external_names : List Frame → List (List ℕ)
external_names records = said_by wanted_in [] records

-- the names that a module wants from others: no external that isn't weak has the others
unfoldable pub wanted_names : List Frame → List (List ℕ)
wanted_names records =
    filter (λ name. not (is_theirs_alone (weak_externals records) records name)) (external_names records)

-- the names that another has to offer: no external without a default has the others
unfoldable pub needed_names : List Frame → List (List ℕ)
needed_names records =
    filter (λ name. not (is_theirs_alone (weak_and_lazy records) records name)) (external_names records)

-- the names that it offers to others
unfoldable pub offered_names : List Frame → List (List ℕ)
offered_names records = said_by offered_in [] records

-- the communal variables that it declares
unfoldable pub communal_names : List Frame → List (List ℕ)
communal_names records = flat_map communals_in records

-- the default libraries that it names
unfoldable pub library_names : List Frame → List (List ℕ)
library_names records = flat_map library_in records

-- it asks for the DOSSEG order: a comment of class 9EH
unfoldable pub asks_dosseg : List Frame → Bool
asks_dosseg records = list_any (λ f. is_some (comment_text 0x9E f)) records
