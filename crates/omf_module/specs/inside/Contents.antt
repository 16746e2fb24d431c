-- Contents of the code, as plain pairs of a first stored place and a length.
use Rattle.std.specs.Prelude.{ℕ, ◌+◌, Bool, ◌&&◌, nat_le, List, Option}
use Rattle.std.specs.List.{filter_map, list_any}
use Rattle.omf_record.specs.Records.{Placed}
use Rattle.omf_module.specs.declared.contents.Content.{Content}
use Rattle.omf_module.specs.Before.{last}
use Rattle.omf_module.specs.Tables.{contents_in}

abbrev pub pair : Content → ℕ × ℕ
pair content = (content.place, content.len)

-- so many stored places from `at` on lie wholly in the content
abbrev pub lies_within : (at width : ℕ) → (content : ℕ × ℕ) → Bool
lies_within at width content = nat_le content.0 at && nat_le (at + width) (content.0 + content.1)

-- in one of the contents
abbrev pub lies_in : List (ℕ × ℕ) → (at width : ℕ) → Bool
lies_in contents at width = list_any (lies_within at width) contents

-- the contents of the last data record
abbrev pub last_contents : List Placed → Option (List (ℕ × ℕ))
last_contents records = last (filter_map (λ (placed : Placed). contents_in placed.says) records)
