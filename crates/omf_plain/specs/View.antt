-- What the code's values say.
use Rattle.std.specs.Prelude.{◌≡◌, ℕ, List, map, Ok, Err}
use Rattle.std.specs.declared.result.Result.{Result}
use Rattle.omf_alias.specs.Said.{renaming_said}
use Rattle.omf_library.specs.Names.{texts}
use Rattle.omf_record.specs.View.{view}
use Rattle.omf_extended.specs.View.{extended_view, wide_block_view}
use Rattle.omf_wide.specs.View.{said_view}
use Rattle.omf_plain.specs.declared.data.Content.{Content}
use Rattle.omf_plain.specs.declared.data.WideContent as kept_wide
use Rattle.omf_plain.specs.declared.data.Data as kept
use Rattle.omf_plain.specs.declared.data.Data.TheVariants as last
use Rattle.omf_plain.specs.declared.fault.Obstacle.{Obstacle}
use Rattle.omf_plain.specs.declared.fault.PlainFault.{PlainFault}
use Rattle.omf_plain.specs.declared.fault.PlainFault.TheVariants.{Of, Memory}
use Rattle.omf_plain.specs.declared.given.Given as lent
use Rattle.omf_plain.specs.declared.given.Given.TheVariants as taken
use Rattle.omf_plain.specs.declared.pass.Pass.{Pass}
use Rattle.omf_plain.specs.Data.{Data, WideContent, Absent, KeptOut, Stored, Repeated, WideRepeated}
use Rattle.omf_plain.specs.Given as given
use Rattle.omf_plain.specs.Given.{Given, Narrow, Wide, Later}
use Rattle.omf_plain.specs.Plain.{Taking}
use Rattle.omf_plain.specs.Seen.{Seen}

-- without where slices lie in memory
abbrev pub given_view : {A : Type 0} → lent.Given A → Given
given_view (taken.Narrow r) = Narrow (view r)
given_view (taken.Wide said) = Wide (said_view said)
given_view (taken.Data d) = given.Data d.segment d.offset d.bytes.now
given_view (taken.Repeated r) = given.Repeated r.segment r.offset (map wide_block_view r.blocks.items)
given_view (taken.Later said) = Later (extended_view said)

abbrev pub content_view : Content → ℕ × List ℕ
content_view c = (c.place, c.bytes.now)

abbrev pub wide_content_view : kept_wide.WideContent → WideContent
wide_content_view c = record { given = c.places.given; said = c.places.said; bytes = c.bytes.now }

abbrev pub data_view : {A : Type 0} → kept.Data A → Data
data_view last.Absent = Absent
data_view last.KeptOut = KeptOut
data_view (last.Stored segment offset bytes) = Stored segment offset bytes.now
data_view (last.Repeated contents) = Repeated (map content_view contents.items)
data_view (last.WideRepeated contents) = WideRepeated (map wide_content_view contents.items)

-- how a pass takes records, and what it has seen
abbrev pub taking_of : {A : Type 0} → Pass A → Taking
taking_of pass = record {
  keep_debug = pass.keep_debug;
  renaming = renaming_said pass.renaming;
  comdats = pass.comdats.now;
}

abbrev pub seen_by : {A : Type 0} → Pass A → Seen
seen_by pass = record {
  names = texts pass.names.listed.items;
  segments = pass.segments.items;
  kept_out = pass.kept_out.items;
  flat = pass.flat.items;
  last = data_view pass.last;
  comdats = pass.comdat_count;
  opened = pass.opened;
  current = pass.current;
}

-- the only answer, unless memory runs out
abbrev pub Answers : {X Y : Type 0} → (X → Y) → Result X PlainFault → Result Y Obstacle → Type 0
Answers says (Ok x) stands = stands ≡ Ok (says x)
Answers says (Err (Of obstacle)) stands = stands ≡ Err obstacle
Answers says (Err Memory) stands = Unit {0}
