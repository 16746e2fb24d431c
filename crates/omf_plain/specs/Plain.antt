-- What a record says as one of the fourteen that a link takes: of 32 bits, with 16; communal variables, as externals.
use Rattle.std.specs.Prelude.{ℕ, ◌==◌, ◌&&◌, Bool, false, if◌then◌else◌, nat_lt, List, slice_index, None, Some, Ok}
use Rattle.std.specs.Prelude.{Err}
use Rattle.std.specs.declared.option.Option.{Option}
use Rattle.std.specs.declared.result.Result.{Result}
use Rattle.omf_alias.specs.Meaning.{Renaming}
use Rattle.omf_comdat.specs.declared.fate.ComdatFate.{ComdatFate}
use Rattle.omf_extended.specs.Said as later
use Rattle.omf_extended.specs.Said.{Extended}
use Rattle.omf_record.specs.Record.{Block, blocks_of, Record, Coment, Extdef, External, Pubdef, Ledata, Lidata, Fixupp}
use Rattle.omf_record.specs.Record.{Modend, Segdef}
use Rattle.omf_record.specs.declared.fixups.Subrecord.{Subrecord}
use Rattle.omf_wide.specs.Said as wide
use Rattle.omf_wide.specs.Said.{Said}
use Rattle.omf_wide.specs.declared.segments.WideSegment.{WideSegment}
use Rattle.omf_plain.specs.declared.fault.Obstacle.{Obstacle}
use Rattle.omf_plain.specs.declared.fault.Obstacle.TheVariants.{Above16Bits, EasyOmf, FlatFrame, ImportedName}
use Rattle.omf_plain.specs.declared.fault.Obstacle.TheVariants.{LateSegment, OtherType}
use Rattle.omf_plain.specs.Data.{have_word_counts}
use Rattle.omf_plain.specs.Externals.{plain_external, plain_listed, plain_communal}
use Rattle.omf_plain.specs.Fixups.{plain_start, plain_subrecord}
use Rattle.omf_plain.specs.Flat.{base_is_flat}
use Rattle.omf_plain.specs.Given.{Given, Narrow, Wide, Data, Repeated, Later}
use Rattle.omf_plain.specs.Seen.{Seen, is_out}
use Rattle.omf_plain.specs.Segments.{is_kept_out, nothing_of, plain_segment}
use Rattle.omf_plain.specs.Step.{◌>>=◌, alone, each_of}

-- How the records of a module are taken: whether what debuggers read is kept in the program, what names mean, and what
-- becomes of the module's COMDAT records, in their order.
pub record Taking : Type 0 where
  pub keep_debug : Bool
  pub renaming : Renaming
  pub comdats : List ComdatFate

-- a record, or none, or what is in the way of one
abbrev pub Taken : Type 0
Taken = Result (Option Record) Obstacle

-- A comment of class AAH says that the module is Easy OMF, whose records of even types have fields of 32 bits; one of
-- class A0H, OMF extensions, and subtype 01H, IMPDEF, a name that a dynamic library has. Any other says nothing here.
abbrev pub comment_obstacle : (class : ℕ) → (bytes : List ℕ) → Option Obstacle
comment_obstacle class bytes =
    if class == 0xAA then Some EasyOmf
    else if (class == 0xA0) && (slice_index bytes 0 == 1) then Some ImportedName
    else None

-- a record stays, unless something is in the way of it
abbrev pub unless : Option Obstacle → Record → Taken
unless None same = Ok (Some same)
unless (Some obstacle) same = Err obstacle

-- external names
abbrev pub externals : (local : Bool) → Result (List External) Obstacle → Taken
externals local names = names >>= λ es. Ok (Some (Extdef local es))

-- threads and fix-ups
abbrev pub fixupp : Result (List Subrecord) Obstacle → Taken
fixupp subrecords = subrecords >>= λ subs. Ok (Some (Fixupp subs))

-- a record of data, where its segment isn't kept out
abbrev pub kept : Seen → (segment : ℕ) → Record → Option Record
kept seen segment same = if is_out seen.kept_out segment then None else Some same

-- one of the fourteen, or one that says what one of them does; of a segment that is kept out data is, too
abbrev pub plain_record : Taking → Seen → Record → Taken
plain_record t seen (Coment kind class bytes) = unless (comment_obstacle class bytes) (Coment kind class bytes)
plain_record t seen (Extdef local names) =
    if local then Ok (Some (Extdef local names))
    else externals false (each_of (λ e. alone (plain_external t.renaming e)) names)
plain_record t seen (Pubdef local base publics) =
    if base_is_flat seen.flat base then Err FlatFrame else Ok (Some (Pubdef local base publics))
plain_record t seen (Ledata segment offset bytes) = Ok (kept seen segment (Ledata segment offset bytes))
plain_record t seen (Lidata segment offset blocks) = Ok (kept seen segment (Lidata segment offset blocks))
plain_record t seen same = Ok (Some same)

-- a segment, which has to stand before those that COMDATs open
abbrev pub plain_segdef : Taking → Seen → (is_wide : Bool) → WideSegment → Taken
plain_segdef t seen is_wide s =
    if nat_lt 0 seen.opened then Err LateSegment
    else if is_kept_out t.keep_debug seen.names s.class then Ok (Some (Segdef (nothing_of s)))
    else (plain_segment is_wide s >>= λ segment. Ok (Some (Segdef segment)))

-- one of 32 bits, or like it
abbrev pub plain_said : Taking → Seen → Said → Taken
plain_said t seen (wide.Plain r) = plain_record t seen r
plain_said t seen (wide.Fixupp is_wide subrecords) = fixupp (each_of (plain_subrecord seen.flat seen.last) subrecords)
plain_said t seen (wide.Modend is_wide main start) =
    plain_start seen.flat start >>= λ found. Ok (Some (Modend main found))
plain_said t seen (wide.Cextdef names) =
    externals false (each_of (λ e. alone (plain_listed t.renaming seen.names e)) names)
plain_said t seen (wide.Segdef is_wide s) = plain_segdef t seen is_wide s

-- data of 32 bits, where its segment isn't kept out: its offset has 16 bits
abbrev pub plain_data : Seen → (segment offset : ℕ) → List ℕ → Taken
plain_data seen segment offset bytes =
    if is_out seen.kept_out segment then Ok None
    else if nat_lt offset 65536 then Ok (Some (Ledata segment offset bytes))
    else Err Above16Bits

-- repeated data of 32 bits, where its segment isn't kept out: its offset and its repeat counts have 16 bits
abbrev pub plain_repeated : Seen → (segment offset : ℕ) → List Block → Taken
plain_repeated seen segment offset blocks =
    if is_out seen.kept_out segment then Ok None
    else if nat_lt offset 65536 && have_word_counts (blocks_of blocks) then Ok (Some (Lidata segment offset blocks))
    else Err Above16Bits

-- One that came after Intel's and is no COMDAT: communal variables are externals; aliases say what names mean; the lines
-- of COMDATs say nothing here. No other one is taken.
abbrev pub plain_later : Taking → Extended → Taken
plain_later t (later.Comdef local entries unknown) =
    externals local (each_of (λ c. alone (plain_communal t.renaming local c c.extent)) entries)
plain_later t (later.Alias aliases) = Ok None
plain_later t (later.Linsym wide continuation name lines) = Ok None
plain_later t _ = Err OtherType

-- a record that is no COMDAT
unfoldable pub plain : Taking → Seen → Given → Taken
plain t seen (Narrow r) = plain_record t seen r
plain t seen (Wide said) = plain_said t seen said
plain t seen (Data segment offset bytes) = plain_data seen segment offset bytes
plain t seen (Repeated segment offset blocks) = plain_repeated seen segment offset blocks
plain t seen (Later said) = plain_later t said
