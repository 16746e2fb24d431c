-- The record of a frame says one thing, as far as a link takes it.
use Rattle.std.proofs.Common.{◌≡◌, ◌<◌, ℕ, zero, suc, Bool, true, false, List, [], refl, sym, ap, subst, ◌∙◌, Ok, Err}
use Rattle.std.proofs.Common.{None}
use Rattle.std.proofs.Common.{arith}
use Rattle.omf_codec.specs.inside.Format.{Lawful}
use Rattle.omf_codec.specs.inside.FormatLaws.{both, both_lawful, each_bytes}
use Rattle.omf_codec.specs.inside.Numbers.{double, number_lawful}
use Rattle.omf_codec.specs.inside.PrimitiveLaws.{index, index_lawful, rest_of, rest_lawful}
use Rattle.omf_codec.specs.inside.Format.{join}
use Rattle.omf_record.specs.Body as narrow
use Rattle.omf_record.specs.Record.{Block, Record}
use Rattle.omf_record.specs.declared.parse.RecordFault.TheVariants as narrow_fault
use Rattle.omf_record.proofs.RecordLaws as narrow_laws
use Rattle.omf_wide.specs.Body as wide
use Rattle.omf_wide.specs.Said.{Said}
use Rattle.omf_wide.specs.declared.fault.WideFault.TheVariants as wide_fault
use Rattle.omf_wide.proofs.Once as wide_laws
use Rattle.std.specs.Option.{option_to_list}
use Rattle.omf_extended.specs.Body as later
use Rattle.omf_extended.specs.declared.comdats.Comdat as said_comdat
use Rattle.omf_extended.specs.Said.{Extended, Comdef, Alias, Comdat, Linsym, Bakpat, Nbkpat, Lidata, Vernum, Vendext}
use Rattle.omf_extended.specs.declared.fault.ExtendedFault.TheVariants as later_fault
use Rattle.omf_extended.specs.inside.Repeated.{block, block_lawful}
use Rattle.omf_extended.proofs.Once.{one_comdef, one_repeated}
use Rattle.omf_wide.specs.Communals.{Communal}
use Rattle.omf_plain.specs.declared.fault.GivenFault.{GivenFault}
use Rattle.omf_plain.specs.declared.fault.GivenFault.TheVariants as fault
use Rattle.omf_plain.specs.declared.fault.Obstacle.TheVariants.{OtherType}
use Rattle.omf_plain.specs.Comdats.{comdat_in, says_of, seen_behind}
use Rattle.omf_plain.specs.Externals.{plain_communal}
use Rattle.omf_plain.specs.Given.{Given, Narrow, Wide, Data, Repeated, Later}
use Rattle.omf_plain.specs.Plain as spec
use Rattle.omf_plain.specs.Plain.{Taking, externals, plain_later}
use Rattle.omf_plain.specs.Reading.{is_narrow, is_wide, is_data, is_repeated, is_later, IsGiven, GivenStands, is_memory}
use Rattle.omf_plain.specs.Seen.{Seen}
use Rattle.omf_plain.specs.Step.{◌>>=◌, alone, each_of}
use Rattle.omf_plain.specs.Widths.{later_widths, no_widths, record_widths}
use Rattle.omf_plain.proofs.Families.{narrow_wide, narrow_data, narrow_repeated, narrow_later, wide_data, wide_repeated}
use Rattle.omf_plain.proofs.Families.{wide_later, data_repeated, data_later, repeated_later}
use Rattle.omf_plain.proofs.OneComdat.{one_comdat}
use Rattle.omf_plain.proofs.Saying.{says_plain, seen_plain}

-- ---- by its type

narrow_only : (kind : ℕ) (body : List ℕ) (h : Given) → is_narrow kind ≡ true → IsGiven kind body h
    → (r : Record) × (h ≡ Narrow r) × narrow.BodyOf kind r body
narrow_only kind body (Narrow r) k m = (r, refl, m.1)
narrow_only kind body (Wide s) k m = absurd (narrow_wide kind k m.0)
narrow_only kind body (Data s o b) k m = absurd (narrow_data kind k m.0)
narrow_only kind body (Repeated s o b) k m = absurd (narrow_repeated kind k m.0)
narrow_only kind body (Later e) k m = absurd (narrow_later kind k m.0)

wide_only : (kind : ℕ) (body : List ℕ) (h : Given) → is_wide kind ≡ true → IsGiven kind body h
    → (s : Said) × (h ≡ Wide s) × wide.NarrowBodyOf kind s body
wide_only kind body (Narrow r) k m = absurd (narrow_wide kind m.0 k)
wide_only kind body (Wide s) k m = (s, refl, m.1)
wide_only kind body (Data s o b) k m = absurd (wide_data kind k m.0)
wide_only kind body (Repeated s o b) k m = absurd (wide_repeated kind k m.0)
wide_only kind body (Later e) k m = absurd (wide_later kind k m.0)

data_only : (kind : ℕ) (body : List ℕ) (h : Given) → is_data kind ≡ true → IsGiven kind body h
    → (x : ℕ × (ℕ × List ℕ)) × (h ≡ Data x.0 x.1.0 x.1.1) × wide.DataText x.0 x.1.0 x.1.1 body
data_only kind body (Narrow r) k m = absurd (narrow_data kind m.0 k)
data_only kind body (Wide s) k m = absurd (wide_data kind m.0 k)
data_only kind body (Data s o b) k m = ((s, (o, b)), refl, m.1)
data_only kind body (Repeated s o b) k m = absurd (data_repeated kind k m.0)
data_only kind body (Later e) k m = absurd (data_later kind k m.0)

repeated_only : (kind : ℕ) (body : List ℕ) (h : Given) → is_repeated kind ≡ true → IsGiven kind body h
    → (x : ℕ × (ℕ × List Block)) × (h ≡ Repeated x.0 x.1.0 x.1.1) × later.RepeatedText x.0 x.1.0 x.1.1 body
repeated_only kind body (Narrow r) k m = absurd (narrow_repeated kind m.0 k)
repeated_only kind body (Wide s) k m = absurd (wide_repeated kind m.0 k)
repeated_only kind body (Data s o b) k m = absurd (data_repeated kind m.0 k)
repeated_only kind body (Repeated s o b) k m = ((s, (o, b)), refl, m.1)
repeated_only kind body (Later e) k m = absurd (repeated_later kind k m.0)

later_only : (kind : ℕ) (body : List ℕ) (h : Given) → is_later kind ≡ true → IsGiven kind body h
    → (e : Extended) × (h ≡ Later e) × later.BodyOf kind e body
later_only kind body (Narrow r) k m = absurd (narrow_later kind m.0 k)
later_only kind body (Wide s) k m = absurd (wide_later kind m.0 k)
later_only kind body (Data s o b) k m = absurd (data_later kind m.0 k)
later_only kind body (Repeated s o b) k m = absurd (repeated_later kind m.0 k)
later_only kind body (Later e) k m = (e, refl, m.1)

-- ---- what came after Intel's records

-- none that is taken has such a type
abbrev IsOther : ℕ → Type 0
IsOther kind =
    (kind ≡ 0xB0 → ⊥) × (kind ≡ 0xB8 → ⊥) × (kind ≡ 0xC6 → ⊥) × (kind ≡ 0xC4 → ⊥) × (kind ≡ 0xC5 → ⊥)

not_taken : (t : Taking) (d : Extended) → IsOther (later.kind_of d) → plain_later t d ≡ Err OtherType
not_taken t (Comdef true cs u) n = absurd (n.1 refl)
not_taken t (Comdef false cs u) n = absurd (n.0 refl)
not_taken t (Alias xs) n = absurd (n.2 refl)
not_taken t (Linsym true c x ls) n = absurd (n.4 refl)
not_taken t (Linsym false c x ls) n = absurd (n.3 refl)
not_taken t _ n = refl

comdat_other : (wide : Bool) → IsOther (later.comdat_kind wide)
comdat_other true = (λ e. omega (arith, e), λ e. omega (arith, e), λ e. omega (arith, e), λ e. omega (arith, e), λ e. omega (arith, e))
comdat_other false = (λ e. omega (arith, e), λ e. omega (arith, e), λ e. omega (arith, e), λ e. omega (arith, e), λ e. omega (arith, e))

bakpat_other : (wide : Bool) → IsOther (later.bakpat_kind wide)
bakpat_other true = (λ e. omega (arith, e), λ e. omega (arith, e), λ e. omega (arith, e), λ e. omega (arith, e), λ e. omega (arith, e))
bakpat_other false = (λ e. omega (arith, e), λ e. omega (arith, e), λ e. omega (arith, e), λ e. omega (arith, e), λ e. omega (arith, e))

nbkpat_other : (wide : Bool) → IsOther (later.nbkpat_kind wide)
nbkpat_other true = (λ e. omega (arith, e), λ e. omega (arith, e), λ e. omega (arith, e), λ e. omega (arith, e), λ e. omega (arith, e))
nbkpat_other false = (λ e. omega (arith, e), λ e. omega (arith, e), λ e. omega (arith, e), λ e. omega (arith, e), λ e. omega (arith, e))

with_other : (t : Taking) (d : Extended) (kind : ℕ) → later.kind_of d ≡ kind → IsOther kind
    → Err OtherType ≡ plain_later t d
with_other t d kind e n = sym (not_taken t d (subst IsOther (sym e) n))

with_comdef : (t : Taking) (local : Bool) (cs : List Communal) (u : List ℕ) (d : Extended) (text : List ℕ)
    → later.kind_of d ≡ later.comdef_kind local → later.Body (Comdef local cs u) text → later.Body d text
    → plain_later t (Comdef local cs u) ≡ plain_later t d
with_comdef t true cs u (Comdef true ds v) text e l m =
    ap (λ xs. externals true (each_of (λ c. alone (plain_communal t.renaming true c c.extent)) xs))
    (one_comdef true cs ds u v text l m)
with_comdef t false cs u (Comdef false ds v) text e l m =
    ap (λ xs. externals false (each_of (λ c. alone (plain_communal t.renaming false c c.extent)) xs))
    (one_comdef false cs ds u v text l m)
with_comdef t local cs u d text e l m = absurd (grind (arith, e))

with_alias : (t : Taking) (d : Extended) → later.kind_of d ≡ 0xC6 → plain_later t d ≡ Ok None
with_alias t (Alias xs) e = refl
with_alias t d e = absurd (grind (arith, e))

with_linsym : (t : Taking) (wide : Bool) (d : Extended) → later.kind_of d ≡ later.linsym_kind wide
    → plain_later t d ≡ Ok None
with_linsym t wide (Linsym w c n ls) e = refl
with_linsym t wide d e = absurd (grind (arith, e))

later_same : (kind : ℕ) (text : List ℕ) (t : Taking) (e d : Extended) → later.BodyOf kind e text
    → later.BodyOf kind d text → plain_later t e ≡ plain_later t d
later_same kind text t (Comdef local cs u) d l m = with_comdef t local cs u d text (m.0 ∙ sym l.0) l.1 m.1
later_same kind text t (Alias xs) d l m = sym (with_alias t d (m.0 ∙ sym l.0))
later_same kind text t (Comdat wide c b) d l m =
    with_other t d (later.comdat_kind wide) (m.0 ∙ sym l.0) (comdat_other wide)
later_same kind text t (Linsym wide c n ls) d l m = sym (with_linsym t wide d (m.0 ∙ sym l.0))
later_same kind text t (Bakpat wide s o ps) d l m =
    with_other t d (later.bakpat_kind wide) (m.0 ∙ sym l.0) (bakpat_other wide)
later_same kind text t (Nbkpat wide o n ps) d l m =
    with_other t d (later.nbkpat_kind wide) (m.0 ∙ sym l.0) (nbkpat_other wide)
later_same kind text t (Lidata s o c) d l m =
    with_other t d 0xA3 (m.0 ∙ sym l.0) (λ e. omega (arith, e), λ e. omega (arith, e), λ e. omega (arith, e), λ e. omega (arith, e), λ e. omega (arith, e))
later_same kind text t (Vernum x) d l m =
    with_other t d 0xCC (m.0 ∙ sym l.0) (λ e. omega (arith, e), λ e. omega (arith, e), λ e. omega (arith, e), λ e. omega (arith, e), λ e. omega (arith, e))
later_same kind text t (Vendext v b) d l m =
    with_other t d 0xCE (m.0 ∙ sym l.0) (λ e. omega (arith, e), λ e. omega (arith, e), λ e. omega (arith, e), λ e. omega (arith, e), λ e. omega (arith, e))

-- ---- what is taken

-- a link takes the same of both
pub record Same (g h : Given) : Type 0 where
  pub says : (t : Taking) (seen : Seen) → says_of t seen g ≡ says_of t seen h
  pub seen : (t : Taking) (seen : Seen) → seen_behind t seen g ≡ seen_behind t seen h
  pub widths : (t : Taking) (seen : Seen) → record_widths t seen g ≡ record_widths t seen h

equal : (g h : Given) → h ≡ g → Same g h
equal g h e = record {
  says = λ t seen. ap (says_of t seen) (sym e);
  seen = λ t seen. ap (seen_behind t seen) (sym e);
  widths = λ t seen. ap (record_widths t seen) (sym e);
}

abbrev IsNoComdat : Extended → Type 0
IsNoComdat (Comdat wide c b) = ⊥
IsNoComdat _ = Unit {0}

none_in : (d : Extended) → IsNoComdat d → comdat_in (Later d) ≡ None
none_in (Comdat wide c b) n = absurd n
none_in _ n = refl

no_widths_of : (t : Taking) (seen : Seen) (d : Extended) → IsNoComdat d → later_widths t seen d ≡ no_widths
no_widths_of t seen (Comdat wide c b) n = absurd n
no_widths_of t seen _ n = refl

-- one of another type than COMDATs is none
by_kind : (d : Extended) → (later.kind_of d ≡ 0xC2 → ⊥) × (later.kind_of d ≡ 0xC3 → ⊥) → IsNoComdat d
by_kind (Comdat true c b) n = absurd (n.1 refl)
by_kind (Comdat false c b) n = absurd (n.0 refl)
by_kind _ n = tt

kinds : (e : Extended) → IsNoComdat e → (later.kind_of e ≡ 0xC2 → ⊥) × (later.kind_of e ≡ 0xC3 → ⊥)
kinds (Comdat wide c b) n = absurd n
kinds (Comdef true cs u) n = (λ e. omega (arith, e), λ e. omega (arith, e))
kinds (Comdef false cs u) n = (λ e. omega (arith, e), λ e. omega (arith, e))
kinds (Alias xs) n = (λ e. omega (arith, e), λ e. omega (arith, e))
kinds (Linsym true c x ls) n = (λ e. omega (arith, e), λ e. omega (arith, e))
kinds (Linsym false c x ls) n = (λ e. omega (arith, e), λ e. omega (arith, e))
kinds (Bakpat true s o ps) n = (λ e. omega (arith, e), λ e. omega (arith, e))
kinds (Bakpat false s o ps) n = (λ e. omega (arith, e), λ e. omega (arith, e))
kinds (Nbkpat true o x ps) n = (λ e. omega (arith, e), λ e. omega (arith, e))
kinds (Nbkpat false o x ps) n = (λ e. omega (arith, e), λ e. omega (arith, e))
kinds (Lidata s o c) n = (λ e. omega (arith, e), λ e. omega (arith, e))
kinds (Vernum x) n = (λ e. omega (arith, e), λ e. omega (arith, e))
kinds (Vendext v b) n = (λ e. omega (arith, e), λ e. omega (arith, e))

plain_same : (kind : ℕ) (body : List ℕ) (t : Taking) (seen : Seen) (e d : Extended) → later.BodyOf kind e body
    → later.BodyOf kind d body → spec.plain t seen (Later e) ≡ spec.plain t seen (Later d)
unfolding spec.plain
plain_same kind body t seen e d l m = later_same kind body t e d l m

no_comdats : (kind : ℕ) (body : List ℕ) (e d : Extended) → IsNoComdat e → later.BodyOf kind e body
    → later.BodyOf kind d body → Same (Later e) (Later d)
no_comdats kind body e d n l m =
    let same : later.kind_of d ≡ later.kind_of e = m.0 ∙ sym l.0 in
    let no = kinds e n in
    let o = by_kind d ((λ x. no.0 (sym same ∙ x)), (λ x. no.1 (sym same ∙ x))) in
    record {
      says = λ t seen.
          says_plain t seen (Later e) (none_in e n)
          ∙ ap (λ r. r >>= λ found. Ok (option_to_list found)) (plain_same kind body t seen e d l m)
          ∙ sym (says_plain t seen (Later d) (none_in d o));
      seen = λ t seen. seen_plain t seen (Later e) (none_in e n) ∙ sym (seen_plain t seen (Later d) (none_in d o));
      widths = λ t seen. no_widths_of t seen e n ∙ sym (no_widths_of t seen d o);
    }

-- a COMDAT and what has its type are one
same_comdat : (wide : Bool) (c : said_comdat.Comdat) (a body : List ℕ) (d : Extended)
    → later.kind_of d ≡ later.comdat_kind wide → later.Body (Comdat wide c a) body → later.Body d body
    → d ≡ Comdat wide c a
same_comdat true c a body (Comdat true d b) e l m =
    ap (λ (x : said_comdat.Comdat × List ℕ). Comdat true x.0 x.1) (one_comdat true d c b a body m l)
same_comdat false c a body (Comdat false d b) e l m =
    ap (λ (x : said_comdat.Comdat × List ℕ). Comdat false x.0 x.1) (one_comdat false d c b a body m l)
same_comdat wide c a body d e l m = absurd (grind (arith, e))

of_later : (kind : ℕ) (body : List ℕ) (e d : Extended) → later.BodyOf kind e body → later.BodyOf kind d body
    → Same (Later e) (Later d)
of_later kind body (Comdat wide c a) d l m =
    equal (Later (Comdat wide c a)) (Later d)
    (ap (λ x. Later x) (same_comdat wide c a body d (m.0 ∙ sym l.0) l.1 m.1))
of_later kind body (Comdef local cs u) d l m = no_comdats kind body (Comdef local cs u) d tt l m
of_later kind body (Alias xs) d l m = no_comdats kind body (Alias xs) d tt l m
of_later kind body (Linsym wide c n ls) d l m = no_comdats kind body (Linsym wide c n ls) d tt l m
of_later kind body (Bakpat wide s o ps) d l m = no_comdats kind body (Bakpat wide s o ps) d tt l m
of_later kind body (Nbkpat wide o n ps) d l m = no_comdats kind body (Nbkpat wide o n ps) d tt l m
of_later kind body (Lidata s o c) d l m = no_comdats kind body (Lidata s o c) d tt l m
of_later kind body (Vernum x) d l m = no_comdats kind body (Vernum x) d tt l m
of_later kind body (Vendext v b) d l m = no_comdats kind body (Vendext v b) d tt l m

some : (kind : ℕ) → is_wide kind ≡ true → 0 < kind
some zero e = absurd cc
some (suc kind) e = omega arith

data_lawful : Lawful (both index (both double rest_of))
data_lawful =
    both_lawful index index_lawful (λ r. tt) (both double rest_of)
    (both_lawful double (number_lawful true) (λ r. tt) rest_of rest_lawful)

pub one_given : (kind : ℕ) (body : List ℕ) (g h : Given) → IsGiven kind body g → IsGiven kind body h → Same g h
one_given kind body (Narrow r) h l m =
    let (s, is, k) = narrow_only kind body h l.0 m in
    equal (Narrow r) h (is ∙ ap (λ x. Narrow x) (narrow_laws.one_of kind body s r k l.1))
one_given kind body (Wide r) h l m =
    let (s, is, k) = wide_only kind body h l.0 m in
    equal (Wide r) h (is ∙ ap (λ x. Wide x) (wide_laws.one_of kind body s r (some kind l.0) k.1 l.1.1))
one_given kind body (Data s o b) h l m =
    let (x, is, k) = data_only kind body h l.0 m in
    equal (Data s o b) h
    (is
    ∙ ap (λ (y : ℕ × (ℕ × List ℕ)). Data y.0 y.1.0 y.1.1)
    (data_lawful.one x (s, (o, b)) body body [] [] k l.1 refl refl refl).0)
one_given kind body (Repeated s o b) h l m =
    let (x, is, k) = repeated_only kind body h l.0 m in
    equal (Repeated s o b) h
    (is
    ∙ ap (λ (y : ℕ × (ℕ × List Block)). Repeated y.0 y.1.0 y.1.1)
    (one_repeated x.0 s x.1.0 o x.1.1 b body k l.1))
one_given kind body (Later e) h l m =
    let (d, is, k) = later_only kind body h l.0 m in
    subst (Same (Later e)) (sym is) (of_later kind body e d l.1 k)

-- ---- where a body says nothing

as_lidata : (s o : ℕ) (bs : List Block) (body : List ℕ) → later.RepeatedText s o bs body
    → (c : List ℕ) × later.BodyOf 0xA3 (Lidata s o c) body
unfolding later.Body
as_lidata s o bs body j =
    let k = j.second in (
      k.rest,
      (
        refl,
        join j.front j.rest j.parts j.first
            (join k.front k.rest k.parts k.first
            ((bs, k.second), (each_bytes (block 63) (block_lawful 63) bs k.rest k.second, refl))),
      ),
    )

pub none_given : (kind : ℕ) (body : List ℕ) (f : GivenFault) (h : Given) → GivenStands kind body f
    → is_memory f ≡ false → IsGiven kind body h → ⊥
none_given kind body (fault.Narrow narrow_fault.Memory) h l n m = absurd cc
none_given kind body (fault.Narrow narrow_fault.OtherType) h l n m =
    let (r, is, k) = narrow_only kind body h l.0 m in l.1 (r, body, k)
none_given kind body (fault.Narrow (narrow_fault.Body at)) h l n m =
    let (r, is, k) = narrow_only kind body h l.0 m in l.1.1.none r k
none_given kind body (fault.Wide wide_fault.Memory) h l n m = absurd cc
none_given kind body (fault.Wide wide_fault.OtherType) h l n m =
    let (s, is, k) = wide_only kind body h l.0 m in l.1 (s, body, k.1)
none_given kind body (fault.Wide (wide_fault.Body at)) h l n m =
    let (s, is, k) = wide_only kind body h l.0 m in l.1.1.none s k.1
none_given kind body (fault.Wide (wide_fault.Above16Bits at)) h l n m =
    let (s, is, k) = wide_only kind body h l.0 m in l.1.0.none s k
none_given kind body (fault.Data wide_fault.Memory) h l n m = absurd cc
none_given kind body (fault.Data wide_fault.OtherType) h l n m = l.1
none_given kind body (fault.Data (wide_fault.Body at)) h l n m =
    let (x, is, k) = data_only kind body h l.0 m in l.1.none x k
none_given kind body (fault.Data (wide_fault.Above16Bits at)) h l n m = l.1
none_given kind body (fault.Repeated later_fault.Memory) h l n m = absurd cc
none_given kind body (fault.Repeated later_fault.OtherType) h l n m =
    let (x, is, k) = repeated_only kind body h l.0 m in
    let (c, b) = as_lidata x.0 x.1.0 x.1.1 body k in l.1 (Lidata x.0 x.1.0 c, body, b)
none_given kind body (fault.Repeated (later_fault.Body at)) h l n m =
    let (x, is, k) = repeated_only kind body h l.0 m in
    let (c, b) = as_lidata x.0 x.1.0 x.1.1 body k in l.1.1.none (Lidata x.0 x.1.0 c) b
none_given kind body (fault.Later later_fault.Memory) h l n m = absurd cc
none_given kind body (fault.Later later_fault.OtherType) h l n m =
    let (e, is, k) = later_only kind body h l.0 m in l.1 (e, body, k)
none_given kind body (fault.Later (later_fault.Body at)) h l n m =
    let (e, is, k) = later_only kind body h l.0 m in l.1.1.none e k
