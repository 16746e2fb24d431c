-- Files that begin with the same bytes, up to where the modules of one end: the other has the same modules.
use Rattle.std.proofs.Common.{◌≡◌, ◌≢◌, ℕ, zero, suc, ◌+◌, ◌-◌, ◌*◌, ◌<◌, ◌≤◌, inl, inr, Bool, true, false}
use Rattle.std.proofs.Common.{List, [], ◌∷◌, ◌++◌, length, get_or, take, drop, slice_range, cond, eqb, ltb, Some, None, IfSome}
use Rattle.std.proofs.Common.{Ok, Err, refl, sym, ap, subst, ◌∙◌, arith, length-append}
use Rattle.std.specs.declared.option.Option.{Option}
use Rattle.std.specs.declared.result.Result.{Result}
use Rattle.std.specs.Int.{next_multiple_of}
use Rattle.std.specs.Option.{option_map_or}
use Rattle.std.specs.Result.{result_ok}
use Rattle.std.proofs.lemmas.Bool.{cases_eq, cases_lt, eq-eqb, le-leb, le-ltb, lt-leb, ne_eqb}
use Rattle.std.proofs.lemmas.List.{get_or-take, length-drop, length-take-le}
use Rattle.std.proofs.Math.Seq.{take-append_seam}
use Rattle.std.specs.Cmp.Lexicographic.{pointwise, same_text}
use Rattle.std.specs.List.{starts_with}
use Rattle.omf_frame.specs.Frame.{Frame}
use Rattle.omf_library.specs.declared.fault.FormatFault.TheVariants.{PageSize, Truncated}
use Rattle.omf_library.specs.declared.fault.LibraryFault.{LibraryFault}
use Rattle.omf_library.specs.declared.fault.LibraryFault.TheVariants.{Malformed}
use Rattle.omf_library.specs.declared.files.FileKind.{FileKind}
use Rattle.omf_library.specs.declared.files.FileKind.TheVariants.{Object, Library, Archive}
use Rattle.omf_library.specs.Records.{end_within, ends_module, module_end, module_records, place_behind, record_at}
use Rattle.omf_library.specs.Records.{records_up_to, result_and_then}
use Rattle.omf_library.specs.Ending.{EndsThere, end_of, end_up_to, library_end, modules_in, object_end}
use Rattle.omf_library.specs.Files.{archive_front, file_kind}
use Rattle.omf_library.specs.Library.{is_page_size, library_members, member_at, member_between, members_up_to}
use Rattle.omf_library.specs.Library.{name_in, page_size}
use Rattle.omf_library.specs.Members.{PlainMember, joined}
use Rattle.omf_library.proofs.Agreeing.{Agree, agree_at, agree_less, agree_range, record_same, record_whole, whole_end}
use Rattle.omf_library.proofs.Walking.{end-next, pred_of, records-next}

-- ---- a module

-- where a module ends behind its first place
record Bounds (file : List ℕ) (place end : ℕ) : Type 0 where
  pub above : place + 4 ≤ end
  pub first : place + (256 * get_or (drop place file) 2 0 + 3) ≤ end
  pub within : end ≤ length file

abbrev is_end : {A : Type 0} → Result A LibraryFault → ℕ
is_end (Ok end) = 1
is_end (Err e) = 0

abbrev end_or : {A : Type 0} → A → Result A LibraryFault → A
end_or d (Ok end) = end
end_or d (Err e) = d

-- where a record stands, and how long it is
record Stands (file : List ℕ) (place : ℕ) (f : Frame) : Type 0 where
  pub at : f.place ≡ place
  pub within : place + (length f.body + 4) ≤ length file
  pub length_word : 256 * get_or (drop place file) 2 0 + 3 ≤ length f.body + 4

record_stands : (file : List ℕ) (place : ℕ) (f : Frame) → record_at file place ≡ Ok f → Stands file place f
record_stands file place f is =
    let w = record_whole file place f is in
    record {
      at = ap (λ (g : Frame). g.place) (sym w.is);
      within =
          omega (
            arith,
            whole_end place (drop place file) f w,
            w.some,
            w.whole,
            length-drop place file,
            length-drop 3 (drop place file),
          );
      length_word = omega (arith, whole_end place (drop place file) f w);
    }

end-amiss : (most : ℕ) (file : List ℕ) (place : ℕ) (e : LibraryFault) → record_at file place ≡ Err e
    → end_within (suc most) file place ≡ Err e
end-amiss most file place e is =
    ap (result_and_then (λ g. cond (ends_module g.kind) (Ok (place_behind g)) (end_within most file (place_behind g))))
    is

bounds_last : (most : ℕ) (file : List ℕ) (place end : ℕ) (f : Frame) (t : Bool)
    → ((next : ℕ) → end_within most file next ≡ Ok end → Bounds file next end)
    → end_within (suc most) file place ≡ Ok end → record_at file place ≡ Ok f → ends_module f.kind ≡ t
    → Bounds file place end
bounds_last most file place end f true behind is at ends =
    let s = record_stands file place f at in
    let e : place_behind f ≡ end = ap (end_or end) (sym (end-next most file place f true at ends) ∙ is) in
    record {
      above = omega (arith, s.at, e);
      first = omega (arith, s.at, s.length_word, e);
      within = omega (arith, s.at, s.within, e);
    }
bounds_last most file place end f false behind is at goes =
    let s = record_stands file place f at in
    let b = behind (place_behind f) (sym (end-next most file place f false at goes) ∙ is) in
    record {
      above = omega (arith, s.at, b.above);
      first = omega (arith, s.at, s.length_word, b.above);
      within = b.within;
    }

bounds_by : (most : ℕ) (file : List ℕ) (place end : ℕ) (r : Result Frame LibraryFault)
    → ((next : ℕ) → end_within most file next ≡ Ok end → Bounds file next end)
    → end_within (suc most) file place ≡ Ok end → record_at file place ≡ r → Bounds file place end
bounds_by most file place end (Ok f) behind is at =
    bounds_last most file place end f (ends_module f.kind) behind is at refl
bounds_by most file place end (Err e) behind is at =
    absurd (omega (arith, ap is_end (sym (end-amiss most file place e at) ∙ is)))

module_bounds : (most : ℕ) (file : List ℕ) (place end : ℕ) → end_within most file place ≡ Ok end
    → Bounds file place end
module_bounds zero file place end is = absurd (omega (arith, ap is_end is))
module_bounds (suc most) file place end is =
    bounds_by most file place end (record_at file place) (λ next. module_bounds most file next end) is refl

-- the records of a module in one file, and those in the other: of so many at most
record SameModule (most most' : ℕ) (a b : List ℕ) (place end : ℕ) : Type 0 where
  pub same_end : end_within most' b place ≡ Ok end
  pub same_records : records_up_to most a place ≡ records_up_to most' b place

same_last : (most most' : ℕ) (a b : List ℕ) (place end : ℕ) (f : Frame) (t : Bool) → Agree end a b
    → ((next : ℕ) → end_within most a next ≡ Ok end → end ≤ next + most' → SameModule most most' a b next end)
    → end_within (suc most) a place ≡ Ok end → end ≤ place + suc most' → record_at a place ≡ Ok f
    → ends_module f.kind ≡ t → SameModule (suc most) (suc most') a b place end
same_last most most' a b place end f true agree behind is enough at ends =
    let s = record_stands a place f at in
    let e : place_behind f ≡ end = ap (end_or end) (sym (end-next most a place f true at ends) ∙ is) in
    let other = record_same end a b place f agree at (omega (arith, s.at, e)) in
    record {
      same_end = end-next most' b place f true other ends ∙ ap Ok e;
      same_records = records-next most a place f true at ends ∙ sym (records-next most' b place f true other ends);
    }
same_last most most' a b place end f false agree behind is enough at goes =
    let s = record_stands a place f at in
    let left = sym (end-next most a place f false at goes) ∙ is in
    let bounds = module_bounds most a (place_behind f) end left in
    let rest = behind (place_behind f) left (omega (arith, s.at, enough)) in
    let other = record_same end a b place f agree at (omega (arith, s.at, bounds.above)) in
    record {
      same_end = end-next most' b place f false other goes ∙ rest.same_end;
      same_records =
          records-next most a place f false at goes ∙ ap (λ (fs : List Frame). f ∷ fs) rest.same_records
          ∙ sym (records-next most' b place f false other goes);
    }

same_by : (most most' : ℕ) (a b : List ℕ) (place end : ℕ) (r : Result Frame LibraryFault) → Agree end a b
    → ((next : ℕ) → end_within most a next ≡ Ok end → end ≤ next + most' → SameModule most most' a b next end)
    → end_within (suc most) a place ≡ Ok end → end ≤ place + suc most' → record_at a place ≡ r
    → SameModule (suc most) (suc most') a b place end
same_by most most' a b place end (Ok f) agree behind is enough at =
    same_last most most' a b place end f (ends_module f.kind) agree behind is enough at refl
same_by most most' a b place end (Err e) agree behind is enough at =
    absurd (omega (arith, ap is_end (sym (end-amiss most a place e at) ∙ is)))

module_same : (most most' : ℕ) (a b : List ℕ) (place end : ℕ) → Agree end a b → end_within most a place ≡ Ok end
    → end ≤ place + most' → SameModule most most' a b place end
module_same zero most' a b place end agree is enough = absurd (omega (arith, ap is_end is))
module_same (suc most) zero a b place end agree is enough =
    absurd (omega (arith, (module_bounds (suc most) a place end is).above, enough))
module_same (suc most) (suc most') a b place end agree is enough =
    same_by most most' a b place end (record_at a place) agree
    (λ next. module_same most most' a b next end agree) is enough refl

-- ---- a member

-- a member of one file stands in the other too, and is some bytes of it
pub record SameMember (a b : List ℕ) (place : ℕ) (m : PlainMember) : Type 0 where
  pub some : 0 < length m.bytes
  pub within : place + length m.bytes ≤ length a
  pub first : 256 * get_or (drop place a) 2 0 + 3 ≤ length m.bytes
  pub same : Agree (place + length m.bytes) a b → member_at b place ≡ Ok m

member_by : (a b : List ℕ) (place : ℕ) (m : PlainMember) (r : Result ℕ LibraryFault) → module_end a place ≡ r
    → result_and_then (λ end. Ok (member_between a place end)) r ≡ Ok m → SameMember a b place m
unfolding member_at module_end module_records
member_by a b place m (Err e) at is = absurd (omega (arith, ap is_end is))
member_by a b place m (Ok end) at is =
    let bounds = module_bounds (length a) a place end at in
    let e : member_between a place end ≡ m = ap (end_or m) is in
    let size : length (slice_range a place end) ≡ end - place =
    length-take-le (end - place) (drop place a) (omega (arith, length-drop place a, bounds.within)) in
    let len : place + length m.bytes ≡ end =
    omega (arith, ap (λ (x : PlainMember). length x.bytes) e, size, bounds.above) in
    record {
      some = omega (arith, len, bounds.above);
      within = omega (arith, len, bounds.within);
      first = omega (arith, len, bounds.first);
      same = λ agreed.
          let agree = subst (λ n. Agree n a b) len agreed in
          let same = module_same (length a) (length b) a b place end agree at (omega (arith, agree.right)) in
          ap (result_and_then (λ n. Ok (member_between b place n))) same.same_end
          ∙ ap
          (λ (l : List ℕ).
          Ok (record { place = place; bytes = l; name = name_in (records_up_to (length b) b place) }))
          (sym (agree_range end place end a b agree (omega (arith, bounds.above)) (omega arith)))
          ∙ ap (λ fs. Ok (record { place = place; bytes = slice_range a place end; name = name_in fs }))
          (sym same.same_records)
          ∙ ap Ok e;
    }

pub member_same : (a b : List ℕ) (place : ℕ) (m : PlainMember) → member_at a place ≡ Ok m → SameMember a b place m
unfolding member_at
member_same a b place m is = member_by a b place m (module_end a place) refl is

-- ---- a library

abbrev some_or : {A : Type 0} → A → Option A → A
some_or d None = d
some_or d (Some x) = x

abbrev is_there : {A : Type 0} → Option A → ℕ
is_there None = 0
is_there (Some x) = 1

-- the members of a library in one file, of so many at most, and those in the other
record SameLibrary (most page : ℕ) (a b : List ℕ) (place end : ℕ) : Type 0 where
  pub above : place < end
  pub within : end ≤ length a
  pub same : (most' : ℕ) → Agree end a b → end ≤ place + most'
      → (end_up_to most' page b place ≡ Some end)
      × (members_up_to most page a place ≡ members_up_to most' page b place)

-- what is told at a place of a library: of its end, and of its members
end-cut : (most page : ℕ) (file : List ℕ) (place : ℕ) → length file ≤ place → end_up_to (suc most) page file place ≡ None
end-cut most page file place past = rw (le-leb (length file) place past) refl

end-last : (most page : ℕ) (file : List ℕ) (place : ℕ) → place < length file → get_or file place 0 ≡ 0xF1
    → end_up_to (suc most) page file place ≡ Some (place + 1)
end-last most page file place within is =
    rw (lt-leb (length file) place within, eq-eqb (get_or file place 0) 0xF1 is) refl

end-more : (most page : ℕ) (file : List ℕ) (place : ℕ) → place < length file → get_or file place 0 ≢ 0xF1
    → end_up_to (suc most) page file place
    ≡ option_map_or (λ m. end_up_to most page file (next_multiple_of (place + length m.bytes) page))
    (result_ok (member_at file place)) None
end-more most page file place within other =
    rw (lt-leb (length file) place within, ne_eqb (get_or file place 0) 0xF1 other) refl

members-last : (most page : ℕ) (file : List ℕ) (place : ℕ) → place < length file → get_or file place 0 ≡ 0xF1
    → members_up_to (suc most) page file place ≡ Ok []
members-last most page file place within is =
    rw (lt-leb (length file) place within, eq-eqb (get_or file place 0) 0xF1 is) refl

members-more : (most page : ℕ) (file : List ℕ) (place : ℕ) → place < length file → get_or file place 0 ≢ 0xF1
    → members_up_to (suc most) page file place
    ≡ result_and_then
    (λ m. joined (m ∷ []) (members_up_to most page file (next_multiple_of (place + length m.bytes) page)))
    (member_at file place)
members-more most page file place within other =
    rw (lt-leb (length file) place within, ne_eqb (get_or file place 0) 0xF1 other) refl

-- at the record that ends the members
library_last : (most page : ℕ) (a b : List ℕ) (place end : ℕ) → end_up_to (suc most) page a place ≡ Some end
    → place < length a → get_or a place 0 ≡ 0xF1 → SameLibrary (suc most) page a b place end
library_last most page a b place end is within ends =
    let e : place + 1 ≡ end = ap (some_or end) (sym (end-last most page a place within ends) ∙ is) in
    record {
      above = omega (arith, e);
      within = omega (arith, e, within);
      same = λ most' agree enough.
          let p = pred_of most' 0 (omega (arith, e, enough)) in
          let inside : place < length b = omega (arith, e, agree.right) in
          let same : get_or b place 0 ≡ 0xF1 = agree_at end place a b agree (omega (arith, e)) ∙ ends in (
            ap (λ n. end_up_to n page b place) p.1 ∙ end-last p.0 page b place inside same ∙ ap Some e,
            members-last most page a place within ends
                ∙ sym (ap (λ n. members_up_to n page b place) p.1 ∙ members-last p.0 page b place inside same),
          );
    }

-- what follows a member
abbrev behind_end : ℕ → ℕ → List ℕ → ℕ → Result PlainMember LibraryFault → Option ℕ
behind_end most page file place r =
    option_map_or (λ m. end_up_to most page file (next_multiple_of (place + length m.bytes) page)) (result_ok r) None

abbrev behind_members : ℕ → ℕ → List ℕ → ℕ → Result PlainMember LibraryFault → Result (List PlainMember) LibraryFault
behind_members most page file place r =
    result_and_then
    (λ m. joined (m ∷ []) (members_up_to most page file (next_multiple_of (place + length m.bytes) page))) r

-- behind a member
library_next : (most page : ℕ) (a b : List ℕ) (place end : ℕ) (m : PlainMember)
    → ((next : ℕ) → end_up_to most page a next ≡ Some end → SameLibrary most page a b next end)
    → end_up_to (suc most) page a place ≡ Some end → place < length a → get_or a place 0 ≢ 0xF1
    → member_at a place ≡ Ok m → SameLibrary (suc most) page a b place end
library_next most page a b place end m behind is within other at =
    let member = member_same a b place m at in
    let next = next_multiple_of (place + length m.bytes) page in
    let later : place + length m.bytes ≤ next = omega arith in
    let left : end_up_to most page a next ≡ Some end =
    sym (end-more most page a place within other ∙ ap (behind_end most page a place) at) ∙ is in
    let rest = behind next left in
    record {
      above = omega (arith, rest.above, later);
      within = rest.within;
      same = λ most' agree enough.
          let p = pred_of most' 0 (omega (arith, rest.above, later, enough)) in
          let inside : place < length b = omega (arith, rest.above, later, agree.right) in
          let same : get_or b place 0 ≢ 0xF1 =
          λ e. other (sym (agree_at end place a b agree (omega (arith, rest.above, later))) ∙ e) in
          let found : member_at b place ≡ Ok m =
          member.same (agree_less (place + length m.bytes) end a b (omega (arith, rest.above, later)) agree) in
          let both = rest.same p.0 agree (omega (arith, later, member.some, enough, p.1)) in (
            ap (λ n. end_up_to n page b place) p.1 ∙ end-more p.0 page b place inside same
                ∙ ap (behind_end p.0 page b place) found ∙ both.0,
            members-more most page a place within other ∙ ap (behind_members most page a place) at
                ∙ ap (joined (m ∷ [])) both.1
                ∙ sym
                (ap (λ n. members_up_to n page b place) p.1 ∙ members-more p.0 page b place inside same
                ∙ ap (behind_members p.0 page b place) found),
          );
    }

library_by : (most page : ℕ) (a b : List ℕ) (place end : ℕ) (r : Result PlainMember LibraryFault)
    → ((next : ℕ) → end_up_to most page a next ≡ Some end → SameLibrary most page a b next end)
    → end_up_to (suc most) page a place ≡ Some end → place < length a → get_or a place 0 ≢ 0xF1
    → member_at a place ≡ r → SameLibrary (suc most) page a b place end
library_by most page a b place end (Ok m) behind is within other at =
    library_next most page a b place end m behind is within other at
library_by most page a b place end (Err e) behind is within other at =
    absurd
    (omega
    (arith, ap is_there (sym (end-more most page a place within other ∙ ap (behind_end most page a place) at) ∙ is)))

library_from : (most page : ℕ) (a b : List ℕ) (place end : ℕ) → end_up_to most page a place ≡ Some end
    → SameLibrary most page a b place end
library_from zero page a b place end is = absurd (omega (arith, ap is_there is))
library_from (suc most) page a b place end is =
    elim (cases_lt place (length a)) [
      | inr past ↦ absurd (omega (arith, ap is_there (sym (end-cut most page a place past) ∙ is)))
      | inl within ↦ elim (cases_eq (get_or a place 0) 0xF1) [
        | inl ends ↦ library_last most page a b place end is within ends
        | inr other ↦ library_by most page a b place end (member_at a place)
            (λ next. library_from most page a b next end) is within other refl
      ]
    ]

-- ---- a file

-- the first page of a library
page_same : (a b : List ℕ) → Agree 3 a b → page_size b ≡ page_size a
unfolding page_size
page_same a b agree =
    rw (
      agree_at 3 1 a b agree (omega arith),
      agree_at 3 2 a b agree (omega arith),
      le-ltb (length a) 3 agree.left,
      le-ltb (length b) 3 agree.right,
    ) refl

page_by : (short page' : Bool) (size page : ℕ)
    → cond {A = Result ℕ LibraryFault} short (Err (Malformed 0 Truncated))
    (cond page' (Ok size) (Err (Malformed 0 PageSize))) ≡ Ok page → size ≡ page
page_by true page' size page is = absurd (omega (arith, ap is_end is))
page_by false false size page is = absurd (omega (arith, ap is_end is))
page_by false true size page is = ap (end_or size) is

page_least : (file : List ℕ) (page : ℕ) → page_size file ≡ Ok page → 3 ≤ page
unfolding page_size
page_least file page is =
    let size = 3 + (get_or file 1 0 + 256 * get_or file 2 0) in
    omega (arith, page_by (ltb (length file) 3) (is_page_size size) size page is)

-- ---- what a file is

is_object : FileKind → ℕ
is_object Object = 1
is_object Library = 2
is_object Archive = 3

-- by its first byte, and by whether it begins as an archive
abbrev kind_by : Bool → Bool → FileKind
kind_by library archive = cond library Library (cond archive Archive Object)

kind_is : (library archive : Bool) (file : List ℕ) → eqb (get_or file 0 0) 0xF0 ≡ library
    → starts_with eqb file archive_front ≡ archive → file_kind file ≡ kind_by library archive
unfolding file_kind
kind_is library archive file first front = rw (first, front) refl

record IsObject (file : List ℕ) : Type 0 where
  pub first : eqb (get_or file 0 0) 0xF0 ≡ false
  pub front : starts_with eqb file archive_front ≡ false

object_by : (library archive : Bool) (file : List ℕ) → eqb (get_or file 0 0) 0xF0 ≡ library
    → starts_with eqb file archive_front ≡ archive → file_kind file ≡ Object → IsObject file
unfolding is_object
object_by true archive file first front is =
    absurd (omega (arith, ap is_object (sym (kind_is true archive file first front) ∙ is)))
object_by false true file first front is =
    absurd (omega (arith, ap is_object (sym (kind_is false true file first front) ∙ is)))
object_by false false file first front is = record { first = first; front = front }

library_first : (library archive : Bool) (file : List ℕ) → eqb (get_or file 0 0) 0xF0 ≡ library
    → starts_with eqb file archive_front ≡ archive → file_kind file ≡ Library → eqb (get_or file 0 0) 0xF0 ≡ true
unfolding is_object
library_first true archive file first front is = first
library_first false true file first front is =
    absurd (omega (arith, ap is_object (sym (kind_is false true file first front) ∙ is)))
library_first false false file first front is =
    absurd (omega (arith, ap is_object (sym (kind_is false false file first front) ∙ is)))

library_same : (a b : List ℕ) → Agree 3 a b → file_kind a ≡ Library → file_kind b ≡ Library
library_same a b agree is =
    let first : eqb (get_or b 0 0) 0xF0 ≡ true =
    ap (λ k. eqb k 0xF0) (agree_at 3 0 a b agree (omega arith)) ∙ library_first _ _ a refl refl is in
    kind_is true (starts_with eqb b archive_front) b first refl

-- what has a record of fewer than eight bytes begins as no archive, in which the length word would be greater
no_archive : (n : ℕ) (a b : List ℕ) (t : Bool) → Agree n a b → 3 ≤ n → n < 8 → 256 * get_or a 2 0 + 3 ≤ n
    → starts_with eqb b archive_front ≡ t → t ≡ false
no_archive n a b false agree some few first is = refl
no_archive n a b true agree some few first is =
    let front : archive_front ≡ take 8 b = same_text archive_front (take 8 b) (sym is) in
    let high : 0x61 ≡ get_or b 2 0 = ap (λ (l : List ℕ). get_or l 2 0) front ∙ get_or-take 8 b 2 0 (omega arith) in
    absurd (omega (arith, high, agree_at n 2 a b agree (omega arith), first, few))

object_same : (n : ℕ) (a b : List ℕ) → Agree n a b → 3 ≤ n → 256 * get_or a 2 0 + 3 ≤ n → file_kind a ≡ Object
    → file_kind b ≡ Object
object_same n a b agree some first is =
    let object = object_by _ _ a refl refl is in
    let other : eqb (get_or b 0 0) 0xF0 ≡ false =
    ap (λ k. eqb k 0xF0) (agree_at n 0 a b agree (omega arith)) ∙ object.first in
    let front : starts_with eqb b archive_front ≡ false =
    elim (cases_lt n 8) [
      | inl few ↦ no_archive n a b (starts_with eqb b archive_front) agree some few first refl
      | inr many ↦ ap (pointwise eqb archive_front) (sym (agree_less 8 n a b many agree).same) ∙ object.front
    ] in
    kind_is false false b other front

-- ---- the end of a file's modules

behind_agrees : (n : ℕ) (a rest : List ℕ) → n ≤ length a → Agree n a (take n a ++ rest)
behind_agrees n a rest within =
    let len : length (take n a) ≡ n = length-take-le n a within in
    record {
      left = within;
      right = omega (arith, len, length-append (take n a) rest);
      same = sym (subst (λ k. take k (take n a ++ rest) ≡ take n a) len (take-append_seam (take n a) rest));
    }

object_by_member : (file : List ℕ) (end : ℕ) (r : Result PlainMember LibraryFault) → file_kind file ≡ Object
    → member_at file 0 ≡ r → option_map_or (λ m. Some (length m.bytes)) (result_ok r) None ≡ Some end
    → EndsThere file end
object_by_member file end (Err e) kind at is = absurd (omega (arith, ap is_there is))
object_by_member file end (Ok m) kind at is =
    let e : length m.bytes ≡ end = ap (some_or end) is in
    let within : end ≤ length file = omega (arith, e, (member_same file file 0 m at).within) in
    let other : (rest : List ℕ) → (file_kind (take end file ++ rest) ≡ Object)
    × (member_at (take end file ++ rest) 0 ≡ Ok m) =
    λ rest.
    let b = take end file ++ rest in
    let same = member_same file b 0 m at in
    let agree = behind_agrees end file rest within in (
      object_same end file b agree (omega (arith, e, same.first)) (omega (arith, e, same.first)) kind,
      same.same (subst (λ n. Agree n file b) (omega (arith, e)) agree),
    ) in
    record {
      within = within;
      same_end = λ rest.
          let b = take end file ++ rest in
          ap (λ k. end_of k b) (other rest).0
          ∙ ap (λ r. option_map_or (λ (x : PlainMember). Some (length x.bytes)) (result_ok r) None) (other rest).1
          ∙ ap Some e;
      same_modules = λ rest.
          let b = take end file ++ rest in
          ap (λ k. modules_in k b) (other rest).0
          ∙ ap (result_and_then (λ (x : PlainMember). Ok (x ∷ []))) ((other rest).1 ∙ sym at)
          ∙ ap (λ k. modules_in k file) (sym kind);
    }

object_there : (file : List ℕ) (end : ℕ) → file_kind file ≡ Object → object_end file ≡ Some end → EndsThere file end
object_there file end kind is = object_by_member file end (member_at file 0) kind refl is

library_by_page : (file : List ℕ) (end : ℕ) (r : Result ℕ LibraryFault) → file_kind file ≡ Library
    → page_size file ≡ r
    → option_map_or (λ page. end_up_to (length file) page file page) (result_ok r) None ≡ Some end
    → EndsThere file end
unfolding library_end library_members
library_by_page file end (Err e) kind at is = absurd (omega (arith, ap is_there is))
library_by_page file end (Ok page) kind at is =
    let left = library_from (length file) page file file page end is in
    let least : 3 ≤ end = omega (arith, page_least file page at, left.above) in
    let agrees : (rest : List ℕ) → Agree end file (take end file ++ rest) =
    λ rest. behind_agrees end file rest left.within in
    let pages : (rest : List ℕ) → page_size (take end file ++ rest) ≡ Ok page =
    λ rest. page_same file (take end file ++ rest) (agree_less 3 end file _ least (agrees rest)) ∙ at in
    let kinds : (rest : List ℕ) → file_kind (take end file ++ rest) ≡ Library =
    λ rest. library_same file (take end file ++ rest) (agree_less 3 end file _ least (agrees rest)) kind in
    let same : (rest : List ℕ) → (end_up_to (length (take end file ++ rest)) page (take end file ++ rest) page ≡ Some end)
    × (members_up_to (length file) page file page
    ≡ members_up_to (length (take end file ++ rest)) page (take end file ++ rest) page) =
    λ rest.
    (library_from (length file) page file (take end file ++ rest) page end is).same (length (take end file ++ rest))
    (agrees rest) (omega (arith, (agrees rest).right)) in
    record {
      within = left.within;
      same_end = λ rest.
          let b = take end file ++ rest in
          ap (λ k. end_of k b) (kinds rest)
          ∙ ap (λ r. option_map_or (λ p. end_up_to (length b) p b p) (result_ok r) None) (pages rest)
          ∙ (same rest).0;
      same_modules = λ rest.
          let b = take end file ++ rest in
          ap (λ k. modules_in k b) (kinds rest)
          ∙ ap (result_and_then (λ p. members_up_to (length b) p b p)) (pages rest)
          ∙ sym (same rest).1
          ∙ sym (ap (result_and_then (λ p. members_up_to (length file) p file p)) at)
          ∙ ap (λ k. modules_in k file) (sym kind);
    }

library_there : (file : List ℕ) (end : ℕ) → file_kind file ≡ Library → library_end file ≡ Some end
    → EndsThere file end
unfolding library_end
library_there file end kind is = library_by_page file end (page_size file) kind refl is

-- what follows the end of an object module, or of a library, counts for nothing
pub object_ends : (file : List ℕ) (end : Option ℕ) → file_kind file ≡ Object → end ≡ object_end file
    → IfSome end (EndsThere file)
object_ends file None kind is = tt
object_ends file (Some end) kind is = object_there file end kind (sym is)

pub library_ends : (file : List ℕ) (end : Option ℕ) → file_kind file ≡ Library → end ≡ library_end file
    → IfSome end (EndsThere file)
library_ends file None kind is = tt
library_ends file (Some end) kind is = library_there file end kind (sym is)
