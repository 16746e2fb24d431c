-- What is left of a file's members while they are told.
use Rattle.std.proofs.Common.{◌≡◌, ◌≢◌, ℕ, zero, suc, ◌+◌, ◌-◌, ◌<◌, ◌≤◌, true, List, [], ◌∷◌, ◌++◌, length, map, take}
use Rattle.std.proofs.Common.{drop, get_or, slice_range, All, Some, Ok, Err, refl, sym, ap, ◌∙◌, append_assoc, arith}
use Rattle.std.proofs.Common.{rules}
use Rattle.std.specs.declared.result.Result.{Result}
use Rattle.std.specs.Int.{next_multiple_of}
use Rattle.std.proofs.lemmas.List.{append-nil, map-append, length-take-le, length-drop, drop-drop}
use Rattle.std.proofs.lemmas.List.Elements.{All-push}
use Rattle.std.proofs.lemmas.Bool.{lt-leb, lt-ltb, eq-eqb, ne_eqb, le-leb}
use Rattle.omf_library.specs.declared.fault.FormatFault.TheVariants.{Truncated, TooLong}
use Rattle.omf_library.specs.declared.fault.LibraryFault.{LibraryFault}
use Rattle.omf_library.specs.declared.fault.LibraryFault.TheVariants.{Malformed, Memory}
use Rattle.omf_library.specs.declared.files.Member.{Member}
use Rattle.omf_library.specs.Records.{result_and_then}
use Rattle.omf_library.specs.Members.{PlainMember, plain_member, joined}
use Rattle.omf_library.specs.Library.{page_size, member_at, library_members}
use Rattle.omf_library.specs.Library as library
use Rattle.omf_library.specs.declared.archive.Entry.{Entry as LentEntry}
use Rattle.omf_library.specs.Archive.{PlainEntry, at_place, is_header, decimal, without_spaces, entry_of, modules_of}
use Rattle.omf_library.specs.Archive.{is_table, table_behind, even_place, archive_members}
use Rattle.omf_library.specs.Archive as archive
use Rattle.omf_library.specs.Files.{IsFault, IsPart}
use Rattle.omf_library.specs.inside.Views.{IsMember, IsContent, Pushed}

-- ---- lists and what follows them

joined-nil : {A E : Type 0} (r : Result (List A) E) → joined [] r ≡ r
joined-nil (Ok ys) = refl
joined-nil (Err e) = refl

joined-append : {A E : Type 0} (xs ys : List A) (r : Result (List A) E) → joined (xs ++ ys) r ≡ joined xs (joined ys r)
joined-append xs ys (Ok zs) = ap Ok (append_assoc xs ys zs)
joined-append xs ys (Err e) = refl

-- a fault that stands is one
pub fault-is : {A : Type 0} (e : LibraryFault) (stands : Result A LibraryFault) → stands ≡ Err e → IsFault e stands
fault-is (Malformed place fault) stands h = h
fault-is Memory stands h = tt

told-push : (told : List Member) (m : Member)
    → map plain_member (told ++ m ∷ []) ≡ map plain_member told ++ plain_member m ∷ []
told-push told m = map-append plain_member told (m ∷ [])

pred_of : (n m : ℕ) → m < n → (k : ℕ) × (n ≡ suc k)
pred_of zero m h = absurd (omega arith)
pred_of (suc n) m h = (n, refl)

-- ---- libraries

-- the members that were told, and those that are left, make all of them
pub record MembersLeft (file : List ℕ) (page place : ℕ) (told : List Member) : Type 0 where
  pub most : ℕ
  pub enough : length file ≤ place + most
  pub all : joined (map plain_member told) (library.members_up_to most page file place) ≡ library_members file
  pub parts : All (IsPart file) told

pub members_first : (file : List ℕ) (page : ℕ) → page_size file ≡ Ok page → MembersLeft file page page []
unfolding library_members
members_first file page is = record {
  most = length file;
  enough = omega arith;
  all = joined-nil _ ∙ sym (ap (result_and_then (λ p. library.members_up_to (length file) p file p)) is);
  parts = search rules;
}

pub no_page : (file : List ℕ) (e : LibraryFault) → page_size file ≡ Err e → library_members file ≡ Err e
unfolding library_members
no_page file e is = ap (result_and_then (λ p. library.members_up_to (length file) p file p)) is

-- the file ends before the end record
cut_within : (most page : ℕ) (file : List ℕ) (place : ℕ) → length file ≤ place
    → library.members_up_to most page file place ≡ Err (Malformed place Truncated)
cut_within zero page file place past = refl
cut_within (suc most) page file place past = rw (le-leb (length file) place past) refl

pub members_cut : (file : List ℕ) (page place : ℕ) (told : List Member) → MembersLeft file page place told
    → length file ≤ place
    → library_members file ≡ Err (Malformed place Truncated)
members_cut file page place told left past =
    sym left.all ∙ ap (joined (map plain_member told)) (cut_within left.most page file place past)

-- the end record
members-end : (most page : ℕ) (file : List ℕ) (place : ℕ) → place < length file → get_or file place 0 ≡ 0xF1
    → library.members_up_to (suc most) page file place ≡ Ok []
members-end most page file place within is =
    rw (lt-leb (length file) place within, eq-eqb (get_or file place 0) 0xF1 is) refl

pub members_last : (file : List ℕ) (page place : ℕ) (told : List Member) → MembersLeft file page place told
    → place < length file → get_or file place 0 ≡ 0xF1
    → library_members file ≡ Ok (map plain_member told)
members_last file page place told left within is =
    let p = pred_of left.most 0 (omega (arith, left.enough)) in
    sym left.all
    ∙ ap (joined (map plain_member told))
    (ap (λ n. library.members_up_to n page file place) p.1 ∙ members-end p.0 page file place within is)
    ∙ ap Ok (append-nil (map plain_member told))

-- another record
members-step : (most page : ℕ) (file : List ℕ) (place : ℕ) → place < length file → get_or file place 0 ≢ 0xF1
    → library.members_up_to (suc most) page file place
    ≡ result_and_then
    (λ m. joined (m ∷ []) (library.members_up_to most page file (next_multiple_of (place + length m.bytes) page)))
    (member_at file place)
members-step most page file place within other =
    rw (lt-leb (length file) place within, ne_eqb (get_or file place 0) 0xF1 other) refl

pub members_fault : (file : List ℕ) (page place : ℕ) (told : List Member) (e : LibraryFault)
    → MembersLeft file page place told → place < length file → get_or file place 0 ≢ 0xF1
    → member_at file place ≡ Err e → library_members file ≡ Err e
members_fault file page place told e left within other is =
    let p = pred_of left.most 0 (omega (arith, left.enough)) in
    sym left.all
    ∙ ap (joined (map plain_member told))
    (ap (λ n. library.members_up_to n page file place) p.1 ∙ members-step p.0 page file place within other
    ∙ ap
    (result_and_then
    (λ m. joined (m ∷ []) (library.members_up_to p.0 page file (next_multiple_of (place + length m.bytes) page)))) is)

pub members_more : (file : List ℕ) (page place next : ℕ) (told : List Member) (m : Member)
    → MembersLeft file page place told → place < length file → get_or file place 0 ≢ 0xF1
    → member_at file place ≡ Ok (plain_member m) → IsMember file place m
    → next ≡ next_multiple_of (place + length m.bytes.now) page → place < next
    → MembersLeft file page next (told ++ m ∷ [])
members_more file page place next told m left within other is part e behind =
    let p = pred_of left.most 0 (omega (arith, left.enough)) in
    let rest = library.members_up_to p.0 page file next in
    let step : library.members_up_to left.most page file place ≡ joined (plain_member m ∷ []) rest =
    ap (λ n. library.members_up_to n page file place) p.1 ∙ members-step p.0 page file place within other
    ∙ ap
    (result_and_then
    (λ m'. joined (m' ∷ []) (library.members_up_to p.0 page file (next_multiple_of (place + length m'.bytes) page)))) is
    ∙ ap (λ n. joined (plain_member m ∷ []) (library.members_up_to p.0 page file n)) (sym e) in
    record {
      most = p.0;
      enough = omega (arith, p.1, left.enough, behind);
      all =
          ap (λ (l : List PlainMember). joined l rest) (told-push told m)
          ∙ joined-append (map plain_member told) (plain_member m ∷ []) rest
          ∙ ap (joined (map plain_member told)) (sym step) ∙ left.all;
      parts = All-push (IsPart file) told m left.parts (rw part.at part.own);
    }

-- ---- archives

-- the members that were told, and those that are left, make all of them
pub record ArchiveLeft (file table : List ℕ) (place : ℕ) (told : List Member) : Type 0 where
  pub most : ℕ
  pub enough : length file ≤ place + most
  pub all : joined (map plain_member told) (archive.members_up_to most table file place) ≡ archive_members file
  pub parts : All (IsPart file) told

pub archive_first : (file : List ℕ) → ArchiveLeft file [] 8 []
unfolding archive_members
archive_first file = record {
  most = length file;
  enough = omega arith;
  all = joined-nil _;
  parts = search rules;
}

ends_within : (most : ℕ) (table file : List ℕ) (place : ℕ) → length file ≤ place
    → archive.members_up_to most table file place ≡ Ok []
ends_within zero table file place past = refl
ends_within (suc most) table file place past = rw (le-leb (length file) place past) refl

pub archive_last : (file table : List ℕ) (place : ℕ) (told : List Member) → ArchiveLeft file table place told
    → length file ≤ place
    → archive_members file ≡ Ok (map plain_member told)
archive_last file table place told left past =
    sym left.all ∙ ap (joined (map plain_member told)) (ends_within left.most table file place past)
    ∙ ap Ok (append-nil (map plain_member told))

archive-step : (most : ℕ) (table file : List ℕ) (place : ℕ) → place < length file
    → archive.members_up_to (suc most) table file place
    ≡ result_and_then
    (λ e.
    joined (modules_of (table_behind table e) (place + 60) e)
    (archive.members_up_to most (table_behind table e) file (even_place (place + 60 + length e.bytes))))
    (at_place place (entry_of (drop place file)))
archive-step most table file place within = rw (lt-leb (length file) place within) refl

pub archive_fault : (file table : List ℕ) (place : ℕ) (told : List Member) (e : LibraryFault)
    → ArchiveLeft file table place told → place < length file
    → at_place place (entry_of (drop place file)) ≡ Err e → archive_members file ≡ Err e
archive_fault file table place told e left within is =
    let p = pred_of left.most 0 (omega (arith, left.enough)) in
    sym left.all
    ∙ ap (joined (map plain_member told))
    (ap (λ n. archive.members_up_to n table file place) p.1 ∙ archive-step p.0 table file place within
    ∙ ap
    (result_and_then
    (λ e'.
    joined (modules_of (table_behind table e') (place + 60) e')
    (archive.members_up_to p.0 (table_behind table e') file (even_place (place + 60 + length e'.bytes))))) is)

pub archive_more : (file table table' : List ℕ) (place next : ℕ) (told told' : List Member) (e : PlainEntry)
    → ArchiveLeft file table place told → place < length file
    → at_place place (entry_of (drop place file)) ≡ Ok e → table' ≡ table_behind table e
    → next ≡ even_place (place + 60 + length e.bytes)
    → map plain_member told' ≡ map plain_member told ++ modules_of table' (place + 60) e → All (IsPart file) told'
    → ArchiveLeft file table' next told'
archive_more file table table' place next told told' e left within is t n pushed own =
    let p = pred_of left.most 0 (omega (arith, left.enough)) in
    let rest = archive.members_up_to p.0 table' file next in
    let step : archive.members_up_to left.most table file place ≡ joined (modules_of table' (place + 60) e) rest =
    ap (λ k. archive.members_up_to k table file place) p.1 ∙ archive-step p.0 table file place within
    ∙ ap
    (result_and_then
    (λ e'.
    joined (modules_of (table_behind table e') (place + 60) e')
    (archive.members_up_to p.0 (table_behind table e') file (even_place (place + 60 + length e'.bytes))))) is
    ∙ ap
    (λ (l : List ℕ).
    joined (modules_of l (place + 60) e) (archive.members_up_to p.0 l file (even_place (place + 60 + length e.bytes))))
    (sym t)
    ∙ ap (λ k. joined (modules_of table' (place + 60) e) (archive.members_up_to p.0 table' file k)) (sym n) in
    record {
      most = p.0;
      enough = omega (arith, p.1, left.enough, n);
      all =
          ap (λ (l : List PlainMember). joined l rest) pushed
          ∙ joined-append (map plain_member told) (modules_of table' (place + 60) e) rest
          ∙ ap (joined (map plain_member told)) (sym step) ∙ left.all;
      parts = own;
    }

-- ---- parts of the file

length-range : (file : List ℕ) (from to : ℕ) → from ≤ to → to ≤ length file
    → length (slice_range file from to) ≡ to - from
length-range file from to order within =
    length-take-le (to - from) (drop from file) (omega (arith, length-drop from file))

-- bytes between two places are those from the first on
pub part-own : (file bytes : List ℕ) (from to : ℕ) → from ≤ to → to ≤ length file → bytes ≡ slice_range file from to
    → bytes ≡ slice_range file from (from + length bytes)
part-own file bytes from to order within e =
    let len : from + length bytes ≡ to =
    ap (λ n. from + n) (ap length e ∙ length-range file from to order within) ∙ omega arith in
    e ∙ ap (slice_range file from) (sym len)

pub member_part : (file : List ℕ) (place end : ℕ) (m : Member) → place < end → end ≤ length file → m.place ≡ place
    → m.bytes.now ≡ slice_range file place end → IsMember file place m
member_part file place end m order within at e =
    let len : length m.bytes.now ≡ end - place = ap length e ∙ length-range file place end (omega arith) within in
    record {
      at = at;
      some = omega (arith, len);
      within = omega (arith, len);
      own = part-own file m.bytes.now place end (omega arith) within e;
    }

-- ---- the content of an archive's member

header-is : (bytes : List ℕ) → 60 ≤ length bytes → get_or bytes 58 0 ≡ 0x60 → get_or bytes 59 0 ≡ 0x0A
    → is_header bytes ≡ true
header-is bytes long quote line =
    rw (le-leb 60 (length bytes) long, eq-eqb (get_or bytes 58 0) 0x60 quote, eq-eqb (get_or bytes 59 0) 0x0A line) refl

-- a content that is longer than what follows
pub entry_long : (bytes : List ℕ) (size : ℕ) → 60 ≤ length bytes → get_or bytes 58 0 ≡ 0x60 → get_or bytes 59 0 ≡ 0x0A
    → decimal (without_spaces (slice_range bytes 48 58)) ≡ Some size → length (drop 60 bytes) < size
    → entry_of bytes ≡ Err TooLong
unfolding entry_of
entry_long bytes size long quote line is more =
    rw (header-is bytes long quote line, is, lt-ltb (length (drop 60 bytes)) size more) refl

pub content_is : (bytes : List ℕ) (size : ℕ) (e : LentEntry) → 60 ≤ length bytes → size ≤ length (drop 60 bytes)
    → length e.name.now ≤ 16
    → e.bytes.now ≡ take size (drop 60 bytes) → IsContent bytes 0 e
content_is bytes size e long within short own =
    let len : length e.bytes.now ≡ size = ap length own ∙ length-take-le size (drop 60 bytes) within in
    let rest : length (drop 60 bytes) ≡ length bytes - 60 = length-drop 60 bytes in
    record {
      short = short;
      within = omega (arith, len, rest, within, long);
      own =
          own ∙ ap (λ n. take n (drop 60 bytes))
          (sym len ∙ (let n : length e.bytes.now ≡ (0 + 60 + length e.bytes.now) - (0 + 60) = omega arith in n));
    }

pub content_at : (file : List ℕ) (place : ℕ) (e : LentEntry) → place ≤ length file → IsContent (drop place file) 0 e
    → IsContent file place e
content_at file place e behind content =
    let n = length e.bytes.now in
    let rest : length (drop place file) ≡ length file - place = length-drop place file in
    let a : (0 + 60 + n) - (0 + 60) ≡ n = omega arith in
    let b : (place + 60 + n) - (place + 60) ≡ n = omega arith in
    let d : drop (0 + 60) (drop place file) ≡ drop (place + 60) file = drop-drop 60 place file in
    record {
      short = content.short;
      within = omega (arith, content.within, rest, behind);
      own =
          content.own ∙ ap (λ k. take k (drop (0 + 60) (drop place file))) (a ∙ sym b)
          ∙ ap (take ((place + 60 + n) - (place + 60))) d;
    }

-- a table is no module
pub pushed_none : (table : List ℕ) (place : ℕ) (e : PlainEntry) (bytes : List ℕ) (members : List Member)
    → is_table e.name ≡ true → Pushed (modules_of table place e) bytes place members members
pushed_none table place e bytes members is = record {
  told = rw is (sym (append-nil (map plain_member members)));
  own = λ file parts own. parts;
}
