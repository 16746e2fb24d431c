-- The records that are taken are such as a module may hold.
use Rattle.std.proofs.Common.{◌≡◌, ℕ, ◌≤◌, Bool, true, false, if◌then◌else◌, List, [], ◌∷◌, length, refl, ap}
use Rattle.std.proofs.Common.{subst}
use Rattle.std.proofs.Common.{Result, Ok, Err, Option, None, Some, arith}
use Rattle.std.specs.Prelude.{nat_lt, ◌&&◌}
use Rattle.std.specs.List.{AllByRecursion}
use Rattle.std.specs.Option.{ok_or}
use Rattle.std.proofs.lemmas.Bool.Decides.{nat_tests}
use Rattle.std.proofs.lemmas.List.{length-append}
use Rattle.omf_alias.specs.Meaning.{Renaming}
use Rattle.omf_codec.specs.Language.{each, ◌⋆◌ as Joined, Name, Little, Index}
use Rattle.omf_extended.specs.Body as later
use Rattle.omf_extended.specs.Said as later_said
use Rattle.omf_extended.specs.Said.{Extended, Comdef, Alias}
use Rattle.omf_library.specs.Entries.{listed_name}
use Rattle.omf_library.specs.Members.{joined}
use Rattle.omf_module.specs.Building.{IsTakable}
use Rattle.omf_module.specs.Sound.{IsShort}
use Rattle.omf_module.proofs.Takable.{takable_of}
use Rattle.omf_record.specs.Body as narrow
use Rattle.omf_record.specs.Expansion.{data_len, blocks_len, all_stored_len, stored_len}
use Rattle.omf_record.specs.Record as record'
use Rattle.omf_record.specs.Record.{Record, External, Public, Theadr, Coment, Modend, Extdef, Pubdef, Linnum, Lnames}
use Rattle.omf_record.specs.Record.{Segdef}
use Rattle.omf_record.specs.Record.{Grpdef, Fixupp, Ledata, Lidata}
use Rattle.omf_record.specs.declared.externals.Line.{Line}
use Rattle.omf_record.specs.declared.externals.PublicBase.{PublicBase}
use Rattle.omf_record.specs.declared.fixups.Reference.{Reference}
use Rattle.omf_record.specs.declared.fixups.Subrecord.{Subrecord}
use Rattle.omf_record.specs.declared.segments.SegmentDefinition.{SegmentDefinition}
use Rattle.omf_record.proofs.RecordLaws.{canonical_shortest}
use Rattle.omf_record.proofs.Stored.{data_within}
use Rattle.omf_wide.specs.Body as wide
use Rattle.omf_wide.specs.Communals.{Communal, CommunalText}
use Rattle.omf_wide.specs.Said as said
use Rattle.omf_wide.specs.declared.communals.Extent.{Extent}
use Rattle.omf_wide.specs.declared.communals.Extent.TheVariants.{Near, Far, Other}
use Rattle.omf_wide.specs.declared.externals.ListedExternal.{ListedExternal}
use Rattle.omf_plain.specs.declared.fault.Obstacle.{Obstacle}
use Rattle.omf_plain.specs.declared.fault.Obstacle.TheVariants as obstacle
use Rattle.omf_plain.specs.Data.{all_wide_stored_len, wide_stored_len, have_word_counts}
use Rattle.omf_plain.specs.Externals.{meant_external, plain_external, plain_listed, external_of, plain_communal}
use Rattle.omf_plain.specs.Externals.{renamed}
use Rattle.omf_plain.specs.Fixups.{plain_start, plain_subrecord}
use Rattle.omf_plain.specs.Flat.{base_is_flat}
use Rattle.omf_plain.specs.Given.{Given, Narrow, Wide, Data, Repeated, Later}
use Rattle.omf_plain.specs.Plain as spec
use Rattle.omf_plain.specs.Plain.{Taking, Taken, comment_obstacle, unless, externals, fixupp, plain_record, plain_said}
use Rattle.omf_plain.specs.Plain.{plain_segdef, plain_later, plain_data, plain_repeated}
use Rattle.omf_plain.specs.Reading.{IsGiven}
use Rattle.omf_plain.specs.Seen.{Seen, is_out}
use Rattle.omf_plain.specs.Segments.{is_kept_out, nothing_of, plain_segment}
use Rattle.omf_plain.specs.Step.{◌>>=◌, alone, each_of}
use Rattle.omf_plain.proofs.Lengths.{wide_repeated_len}

-- ---- those that may be held

abbrev AllShort : List External → Type 0
AllShort es = AllByRecursion (λ (e : External). IsShort e.name) es

extdef_takable : (local : Bool) (es : List External) → AllShort es → IsTakable (Extdef local es)
unfolding data_len
extdef_takable local es h = record { names = h; short = omega arith }

pub pubdef_takable : (local : Bool) (base : PublicBase) (ps : List Public)
    → AllByRecursion (λ (p : Public). IsShort p.name) ps → IsTakable (Pubdef local base ps)
unfolding data_len
pubdef_takable local base ps h = record { names = h; short = omega arith }

theadr_takable : (name : List ℕ) → IsTakable (Theadr name)
unfolding data_len
theadr_takable name = record { names = tt; short = omega arith }

linnum_takable : (group segment : ℕ) (lines : List Line) → IsTakable (Linnum group segment lines)
unfolding data_len
linnum_takable group segment lines = record { names = tt; short = omega arith }

fixups_takable : (subrecords : List Subrecord) → IsTakable (Fixupp subrecords)
unfolding data_len
fixups_takable subrecords = record { names = tt; short = omega arith }

modend_takable : (main : Bool) (start : Option Reference) → IsTakable (Modend main start)
unfolding data_len
modend_takable main start = record { names = tt; short = omega arith }

pub segdef_takable : (segment : SegmentDefinition) → IsTakable (Segdef segment)
unfolding data_len
segdef_takable segment = record { names = tt; short = omega arith }

pub ledata_takable : (segment offset : ℕ) (bytes : List ℕ) → length bytes ≤ 65534 → IsTakable (Ledata segment offset bytes)
unfolding data_len
ledata_takable segment offset bytes le = record { names = tt; short = le }

lidata_takable : (segment offset : ℕ) (blocks : List record'.Block) → blocks_len blocks ≤ 65534
    → IsTakable (Lidata segment offset blocks)
unfolding data_len
lidata_takable segment offset blocks le = record { names = tt; short = le }

-- ---- one answer

same_record : (x y : Record) → IsTakable x → (let u : Taken = Ok (Some x) in u) ≡ Ok (Some y) → IsTakable y
same_record x y h e = let is : x ≡ y = cc in subst IsTakable is h

no_record : (o : Obstacle) (y : Record) → (let u : Taken = Err o in u) ≡ Ok (Some y) → ⊥
no_record o y e = cc

nothing : (y : Record) → (let u : Taken = Ok None in u) ≡ Ok (Some y) → ⊥
nothing y e = cc

-- a record, where a condition doesn't keep it out, or refuse it
kept_record : (out : Bool) (x y : Record) → IsTakable x
    → (let u : Taken = Ok (if out then None else Some x) in u) ≡ Ok (Some y) → IsTakable y
kept_record true x y h e = absurd (nothing y e)
kept_record false x y h e = same_record x y h e

unrefused : (b : Bool) (o : Obstacle) (x y : Record) → IsTakable x
    → (let u : Taken = if b then Err o else Ok (Some x) in u) ≡ Ok (Some y) → IsTakable y
unrefused true o x y h e = absurd (no_record o y e)
unrefused false o x y h e = same_record x y h e

unless_record : (o : Option Obstacle) (x y : Record) → IsTakable x → unless o x ≡ Ok (Some y) → IsTakable y
unless_record None x y h e = same_record x y h e
unless_record (Some o) x y h e = absurd (no_record o y e)

-- ---- externals

one_list : (x y : List External) → (let u : Result (List External) Obstacle = Ok x in u) ≡ Ok y → x ≡ y
one_list x y e = cc

no_list : (o : Obstacle) (y : List External) → (let u : Result (List External) Obstacle = Err o in u) ≡ Ok y → ⊥
no_list o y e = cc

-- each of a list gives a short one
all_short : {A : Type 0} (P : A → Type 0) (says : A → Result External Obstacle)
    → ((a : A) (e : External) → P a → says a ≡ Ok e → IsShort e.name) → (xs : List A) (es : List External)
    → AllByRecursion P xs → each_of (λ a. alone (says a)) xs ≡ Ok es → AllShort es
all_short P says short [] es h e = subst AllShort (one_list [] es e) tt
all_short {A} P says short (x ∷ xs) es h e =
    go (says x) refl (each_of (λ a. alone (says a)) xs) (λ more is. all_short P says short xs more h.1 is) e
  where
    go : (r : Result External Obstacle) → says x ≡ r → (s : Result (List External) Obstacle)
        → ((more : List External) → s ≡ Ok more → AllShort more) → (alone r >>= λ ys. joined ys s) ≡ Ok es → AllShort es
    go (Ok a) is (Ok more) rest e =
        subst AllShort (one_list (a ∷ more) es e) (short x a h.0 is, rest more refl)
    go (Ok a) is (Err o) rest e = absurd (no_list o es e)
    go (Err o) is s rest e = absurd (no_list o es e)

none_asked : {A : Type 0} (xs : List A) → AllByRecursion (λ (a : A). Unit {0}) xs
none_asked [] = tt
none_asked (x ∷ xs) = (tt, none_asked xs)

externals_takable : (local : Bool) (r : Result (List External) Obstacle) (y : Record)
    → ((es : List External) → r ≡ Ok es → AllShort es) → externals local r ≡ Ok (Some y) → IsTakable y
externals_takable local (Ok es) y h e = same_record (Extdef local es) y (extdef_takable local es (h es refl)) e
externals_takable local (Err o) y h e = absurd (no_record o y e)

one_external : (x y : External) → (let u : Result External Obstacle = Ok x in u) ≡ Ok y → x ≡ y
one_external x y e = cc

no_external : (o : Obstacle) (y : External) → (let u : Result External Obstacle = Err o in u) ≡ Ok y → ⊥
no_external o y e = cc

meant_short : (renaming : Renaming) (name : List ℕ) (type_index : ℕ) (e : External)
    → meant_external renaming name type_index ≡ Ok e → IsShort e.name
meant_short renaming name type_index e is = go (nat_lt 255 (length (renamed renaming name))) refl is
  where
    meant : External
    meant = record { name = renamed renaming name; type_index = type_index }

    go : (b : Bool) → nat_lt 255 (length (renamed renaming name)) ≡ b
        → (let u : Result External Obstacle = if b then Err obstacle.TooLong else Ok meant in u) ≡ Ok e → IsShort e.name
    go true long is = absurd (no_external obstacle.TooLong e is)
    go false long is =
        let short : length (renamed renaming name) ≤ 255 = grind (arith, nat_tests) in
        subst (λ (x : External). IsShort x.name) (one_external meant e is) short

listed_short : (renaming : Renaming) (names : List (List ℕ)) (l : ListedExternal) (e : External) → Unit {0}
    → plain_listed renaming names l ≡ Ok e → IsShort e.name
listed_short renaming names l e u is = go (ok_or (listed_name names l.name) obstacle.Body) is
  where
    go : (r : Result (List ℕ) Obstacle) → (r >>= λ name. meant_external renaming name l.type_index) ≡ Ok e
        → IsShort e.name
    go (Ok name) is = meant_short renaming name l.type_index e is
    go (Err o) is = absurd (no_external o e is)

variable_short : (renaming : Renaming) (local : Bool) (c : Communal) (e : External) → IsShort c.name
    → external_of renaming local c ≡ Ok e → IsShort e.name
variable_short renaming true c e h is =
    subst (λ (x : External). IsShort x.name) (one_external (record { name = c.name; type_index = c.type_index }) e is) h
variable_short renaming false c e h is = meant_short renaming c.name c.type_index e is

communal_short : (renaming : Renaming) (local : Bool) (c : Communal) (extent : Extent) (e : External) → IsShort c.name
    → plain_communal renaming local c extent ≡ Ok e → IsShort e.name
communal_short renaming local c (Near length) e h is = variable_short renaming local c e h is
communal_short renaming local c (Far elements size) e h is = variable_short renaming local c e h is
communal_short renaming local c (Other data_type) e h is = absurd (no_external obstacle.DataType e is)

communals_short : (cs : List Communal) (text : List ℕ) → each CommunalText cs text
    → AllByRecursion (λ (c : Communal). IsShort c.name) cs
communals_short [] text l = tt
communals_short (c ∷ cs) text l = (l.first.first.0, communals_short cs l.rest l.second)

-- ---- records

-- one of the fourteen that is taken may be held, where that which says it may
record_takable : (t : Taking) (seen : Seen) (x y : Record) → IsTakable x → plain_record t seen x ≡ Ok (Some y)
    → IsTakable y
record_takable t seen (Coment kind class bytes) y h e =
    unless_record (comment_obstacle class bytes) (Coment kind class bytes) y h e
record_takable t seen (Extdef true names) y h e = same_record (Extdef true names) y h e
record_takable t seen (Extdef false names) y h e =
    externals_takable false (each_of (λ e. alone (plain_external t.renaming e)) names) y
    (λ es is. all_short (λ a. Unit {0}) (plain_external t.renaming)
    (λ a e u is. meant_short t.renaming a.name a.type_index e is) names es (none_asked names) is) e
record_takable t seen (Pubdef local base publics) y h e =
    unrefused (base_is_flat seen.flat base) obstacle.FlatFrame (Pubdef local base publics) y h e
record_takable t seen (Ledata segment offset bytes) y h e =
    kept_record (is_out seen.kept_out segment) (Ledata segment offset bytes) y h e
record_takable t seen (Lidata segment offset blocks) y h e =
    kept_record (is_out seen.kept_out segment) (Lidata segment offset blocks) y h e
record_takable t seen (Theadr name) y h e = same_record (Theadr name) y h e
record_takable t seen (Modend main start) y h e = same_record (Modend main start) y h e
record_takable t seen (Linnum group segment lines) y h e = same_record (Linnum group segment lines) y h e
record_takable t seen (Lnames names) y h e = same_record (Lnames names) y h e
record_takable t seen (Segdef segment) y h e = same_record (Segdef segment) y h e
record_takable t seen (Grpdef name segments) y h e = same_record (Grpdef name segments) y h e
record_takable t seen (Fixupp subrecords) y h e = same_record (Fixupp subrecords) y h e

narrow_takable : (r : Record) (body : List ℕ) → narrow.Body r body → length body ≤ 65534 → IsTakable r
narrow_takable r body l le =
    takable_of r body l (omega (arith, data_within r, (canonical_shortest r body l).1, le))

publics_short : (ps : List Public) (text : List ℕ)
    → each (λ (p : Public). Joined (Name p.name) (Joined (Little 4 p.offset) (Index p.type_index))) ps text
    → AllByRecursion (λ (p : Public). IsShort p.name) ps
publics_short [] text l = tt
publics_short (p ∷ ps) text l = (l.first.first.0, publics_short ps l.rest l.second)

data_takable : (segment offset : ℕ) (bytes body : List ℕ) → wide.DataText segment offset bytes body
    → length body ≤ 65534 → IsTakable (Ledata segment offset bytes)
data_takable segment offset bytes body j le =
    let k = j.second in
    ledata_takable segment offset bytes
    (omega (
      arith,
      le,
      ap length j.parts,
      length-append j.front j.rest,
      ap length k.parts,
      length-append k.front k.rest,
      ap length k.second.1,
    ))

wide_takable : (r : Record) (body : List ℕ) → wide.RecordAt 4 r body → length body ≤ 65534 → IsTakable r
wide_takable (Theadr name) body l le = theadr_takable name
wide_takable (Lnames names) body l le = narrow_takable (Lnames names) body l le
wide_takable (Extdef true names) body l le = narrow_takable (Extdef true names) body l le
wide_takable (Extdef false names) body l le = absurd l
wide_takable (Pubdef local base publics) body l le =
    pubdef_takable local base publics (publics_short publics l.rest l.second)
wide_takable (Linnum group segment lines) body l le = linnum_takable group segment lines
wide_takable (Ledata segment offset bytes) body l le = data_takable segment offset bytes body l le
wide_takable (Lidata segment offset blocks) body l le = absurd l
wide_takable (Coment kind class bytes) body l le = absurd l
wide_takable (Modend main start) body l le = absurd l
wide_takable (Segdef segment) body l le = absurd l
wide_takable (Grpdef name segments) body l le = absurd l
wide_takable (Fixupp subrecords) body l le = absurd l

mutual
  -- a block has no more bytes in LIDATA of 16 bits
  block_fewer : (b : record'.Block) → stored_len b ≤ wide_stored_len b
  block_fewer (record'.Content repeat bytes) = omega arith
  block_fewer (record'.Nested repeat blocks) = omega (arith, blocks_fewer blocks)

  blocks_fewer : (bs : record'.Blocks) → all_stored_len bs ≤ all_wide_stored_len bs
  blocks_fewer record'.End = omega arith
  blocks_fewer (record'.More b bs) = omega (arith, block_fewer b, blocks_fewer bs)

repeated_takable : (segment offset : ℕ) (blocks : List record'.Block) (body : List ℕ)
    → later.RepeatedText segment offset blocks body → length body ≤ 65534 → IsTakable (Lidata segment offset blocks)
unfolding blocks_len
repeated_takable segment offset blocks body l le =
    lidata_takable segment offset blocks
    (omega (arith, le, wide_repeated_len segment offset blocks body l, blocks_fewer (record'.blocks_of blocks)))

-- subrecords, a start and a segment are no names
fixupp_takable : (r : Result (List Subrecord) Obstacle) (y : Record) → fixupp r ≡ Ok (Some y) → IsTakable y
fixupp_takable (Ok subrecords) y e = same_record (Fixupp subrecords) y (fixups_takable subrecords) e
fixupp_takable (Err o) y e = absurd (no_record o y e)

said_takable : (t : Taking) (seen : Seen) (x : said.Said) (body : List ℕ) (y : Record) → wide.Body x body
    → length body ≤ 65534 → plain_said t seen x ≡ Ok (Some y) → IsTakable y
unfolding wide.Body
said_takable t seen (said.Plain r) body y l le e = record_takable t seen r y (wide_takable r body l le) e
said_takable t seen (said.Fixupp is_wide subrecords) body y l le e =
    fixupp_takable (each_of (plain_subrecord seen.flat seen.last) subrecords) y e
said_takable t seen (said.Modend is_wide main start) body y l le e = go (plain_start seen.flat start) e
  where
    go : (r : Result (Option Reference) Obstacle)
        → (r >>= λ found. (let u : Taken = Ok (Some (Modend main found)) in u)) ≡ Ok (Some y) → IsTakable y
    go (Ok found) e = same_record (Modend main found) y (modend_takable main found) e
    go (Err o) e = absurd (no_record o y e)
said_takable t seen (said.Cextdef names) body y l le e =
    externals_takable false (each_of (λ e. alone (plain_listed t.renaming seen.names e)) names) y
    (λ es is. all_short (λ a. Unit {0}) (plain_listed t.renaming seen.names)
    (listed_short t.renaming seen.names) names es (none_asked names) is) e
said_takable t seen (said.Segdef is_wide s) body y l le e = late (nat_lt 0 seen.opened) e
  where
    made : (r : Result SegmentDefinition Obstacle)
        → (r >>= λ segment. (let u : Taken = Ok (Some (Segdef segment)) in u)) ≡ Ok (Some y) → IsTakable y
    made (Ok segment) e = same_record (Segdef segment) y (segdef_takable segment) e
    made (Err o) e = absurd (no_record o y e)

    go : (b : Bool)
        → (let u : Taken = if b then Ok (Some (Segdef (nothing_of s)))
        else (plain_segment is_wide s >>= λ segment. Ok (Some (Segdef segment))) in u) ≡ Ok (Some y) → IsTakable y
    go true e = same_record (Segdef (nothing_of s)) y (segdef_takable (nothing_of s)) e
    go false e = made (plain_segment is_wide s) e

    late : (b : Bool)
        → (let u : Taken = if b then Err obstacle.LateSegment
        else if is_kept_out t.keep_debug seen.names s.class then Ok (Some (Segdef (nothing_of s)))
        else (plain_segment is_wide s >>= λ segment. Ok (Some (Segdef segment))) in u) ≡ Ok (Some y) → IsTakable y
    late true e = absurd (no_record obstacle.LateSegment y e)
    late false e = go (is_kept_out t.keep_debug seen.names s.class) e

later_takable : (t : Taking) (x : Extended) (body : List ℕ) (y : Record) → later.Body x body
    → plain_later t x ≡ Ok (Some y) → IsTakable y
unfolding later.Body
later_takable t (Comdef local cs u) body y l e =
    externals_takable local (each_of (λ c. alone (plain_communal t.renaming local c c.extent)) cs) y
    (λ es is. all_short (λ (c : Communal). IsShort c.name) (λ c. plain_communal t.renaming local c c.extent)
    (λ c e h is. communal_short t.renaming local c c.extent e h is) cs es (communals_short cs l.1.front l.1.first) is) e
later_takable t (Alias aliases) body y l e = absurd (nothing y e)
later_takable t (later_said.Comdat _ _ _) body y l e = absurd (no_record obstacle.OtherType y e)
later_takable t (later_said.Linsym _ _ _ _) body y l e = absurd (nothing y e)
later_takable t (later_said.Bakpat _ _ _ _) body y l e = absurd (no_record obstacle.OtherType y e)
later_takable t (later_said.Nbkpat _ _ _ _) body y l e = absurd (no_record obstacle.OtherType y e)
later_takable t (later_said.Lidata _ _ _) body y l e = absurd (no_record obstacle.OtherType y e)
later_takable t (later_said.Vernum _) body y l e = absurd (no_record obstacle.OtherType y e)
later_takable t (later_said.Vendext _ _) body y l e = absurd (no_record obstacle.OtherType y e)

-- data of 32 bits, where it isn't kept out and its numbers have 16 bits
data_kept : (out fits : Bool) (x y : Record) → IsTakable x
    → (let u : Taken = if out then Ok None else if fits then Ok (Some x) else Err obstacle.Above16Bits in u) ≡ Ok (Some y)
    → IsTakable y
data_kept true fits x y h e = absurd (nothing y e)
data_kept false true x y h e = same_record x y h e
data_kept false false x y h e = absurd (no_record obstacle.Above16Bits y e)

pub takable : (kind : ℕ) (body : List ℕ) (g : Given) (t : Taking) (seen : Seen) (y : Record) → IsGiven kind body g
    → length body ≤ 65534 → spec.plain t seen g ≡ Ok (Some y) → IsTakable y
unfolding spec.plain
takable kind body (Narrow r) t seen y l le e = record_takable t seen r y (narrow_takable r body l.1.1 le) e
takable kind body (Wide x) t seen y l le e = said_takable t seen x body y l.1.1.1 le e
takable kind body (Data segment offset bytes) t seen y l le e =
    data_kept (is_out seen.kept_out segment) (nat_lt offset 65536) (Ledata segment offset bytes) y
    (data_takable segment offset bytes body l.1 le) e
takable kind body (Repeated segment offset blocks) t seen y l le e =
    data_kept (is_out seen.kept_out segment) (nat_lt offset 65536 && have_word_counts (record'.blocks_of blocks))
    (Lidata segment offset blocks) y (repeated_takable segment offset blocks body l.1 le) e
takable kind body (Later x) t seen y l le e = later_takable t x body y l.1.1 e
