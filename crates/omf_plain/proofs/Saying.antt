-- What a record says, as it is a COMDAT or not.
use Rattle.std.proofs.Common.{◌≡◌, ℕ, List, Option, None, Some, Ok, ap, ◌∙◌}
use Rattle.std.specs.Option.{option_to_list}
use Rattle.omf_extended.specs.declared.comdats.Comdat.{Comdat}
use Rattle.omf_record.specs.Record.{Record}
use Rattle.omf_plain.specs.Comdats.{comdat_in, comdat_says, says_by, says_of, seen_after_comdat, seen_behind}
use Rattle.omf_plain.specs.Comdats.{seen_by_comdat}
use Rattle.omf_plain.specs.Given.{Given}
use Rattle.omf_plain.specs.Plain.{Taking, plain}
use Rattle.omf_plain.specs.Seen.{Seen, seen_after}
use Rattle.omf_plain.specs.Step.{◌>>=◌}

pub says_plain : (t : Taking) (seen : Seen) (g : Given) → comdat_in g ≡ None
    → says_of t seen g ≡ (plain t seen g >>= λ found. Ok (option_to_list found))
says_plain t seen g e = ap (says_by t seen g) e

pub says_one : (t : Taking) (seen : Seen) (g : Given) (found : Option Record) → comdat_in g ≡ None
    → plain t seen g ≡ Ok found → says_of t seen g ≡ Ok (option_to_list found)
says_one t seen g found e p = says_plain t seen g e ∙ ap (λ r. r >>= λ found. Ok (option_to_list found)) p

pub seen_plain : (t : Taking) (seen : Seen) (g : Given) → comdat_in g ≡ None
    → seen_behind t seen g ≡ seen_after t.keep_debug seen g
seen_plain t seen g e = ap (seen_by_comdat t seen g) e

pub says_comdat : (t : Taking) (seen : Seen) (g : Given) (c : Comdat) (bytes : List ℕ) → comdat_in g ≡ Some (c, bytes)
    → says_of t seen g ≡ comdat_says t seen c bytes
says_comdat t seen g c bytes e = ap (says_by t seen g) e

pub seen_comdat : (t : Taking) (seen : Seen) (g : Given) (c : Comdat) (bytes : List ℕ) → comdat_in g ≡ Some (c, bytes)
    → seen_behind t seen g ≡ seen_after_comdat t seen c bytes
seen_comdat t seen g c bytes e = ap (seen_by_comdat t seen g) e
