-- Modules that stand in a file behind other bytes: they are read as they are.
use Rattle.std.proofs.Common.{◌≡◌, ◌≢◌, ℕ, zero, suc, ◌+◌, ◌-◌, ◌*◌, ◌/◌, ◌%◌, ◌<◌, ◌≤◌, ◌⊎◌, inl, inr, Bool, true}
use Rattle.std.proofs.Common.{false, ◌||◌, ◌&&◌}
use Rattle.std.proofs.Common.{List, [], ◌∷◌, ◌++◌, length, get_or, take, drop, replicate, map, cond, eqb, leb, Some}
use Rattle.std.proofs.Common.{None, Ok, Err}
use Rattle.std.proofs.Common.{slice_range, refl, sym, ap, subst, ◌∙◌, arith, append_assoc, length-append, mul-add}
use Rattle.std.proofs.Common.{mul-one, mul_comm}
use Rattle.std.specs.declared.option.Option.{Option}
use Rattle.std.specs.declared.result.Result.{Result}
use Rattle.std.specs.Int.{div_ceil, next_multiple_of}
use Rattle.std.specs.List.{flat_map, list_any}
use Rattle.std.specs.Option.{option_map, option_or}
use Rattle.std.proofs.lemmas.Bool.{eqb-true, eq-eqb, le-leb, lt-leb, ne_eqb, or_cases}
use Rattle.std.proofs.lemmas.List.{append-nil, drop-drop, drop_at, get_or-append_right, get_or_append_left, get_or_at}
use Rattle.std.proofs.lemmas.List.{length-drop}
use Rattle.std.proofs.lemmas.List.{get_or-take, length-take-le, take_all, take_at}
use Rattle.std.proofs.lemmas.Nat.{div-add-mod', mod-mul-add, mod_below}
use Rattle.omf_frame.specs.Frame.{Frame, frame_of}
use Rattle.omf_library.specs.declared.fault.FormatFault.TheVariants.{Truncated}
use Rattle.omf_library.specs.declared.fault.LibraryFault.{LibraryFault}
use Rattle.omf_library.specs.declared.fault.LibraryFault.TheVariants.{Malformed}
use Rattle.omf_library.specs.Records.{comment_text, end_within, ends_module, header_name, module_end, module_records}
use Rattle.omf_library.specs.Records.{place_behind}
use Rattle.omf_library.specs.Records.{record_at, record_or_fault, records_up_to, result_and_then}
use Rattle.omf_library.specs.Library.{first_said, member_at, member_between, members_up_to, name_in, name_of}
use Rattle.omf_library.specs.Members.{PlainMember, joined}
use Rattle.omf_library.proofs.Agreeing.{Agree, Whole, record_whole, whole_end}
use Rattle.omf_library.proofs.Lasting.{member_same}
use Rattle.omf_library.proofs.Splitting.{frame_of-whole, frame_with}
use Rattle.omf_library.proofs.Walking.{end-next, records-next}
use Rattle.omf_librarian.specs.Library.{placed}
use Rattle.omf_librarian.specs.Modules.{checked, is_headed, is_long, module_of, modules_from, names_of, part_up_to}
use Rattle.omf_librarian.specs.Naming.{pages_of}
use Rattle.omf_librarian.specs.Writing.{padded}
use Rattle.omf_librarian.specs.declared.fault.LibrarianFault.{LibrarianFault}
use Rattle.omf_librarian.specs.declared.fault.LibrarianFault.TheVariants.{Header, LongName}
use Rattle.omf_librarian.proofs.Paging.{next_is, padded_size}

-- ---- records behind other bytes

abbrev moved : ℕ → Frame → Frame
moved n f = record { place = n + f.place; kind = f.kind; body = f.body }

behind-bytes : (front a : List ℕ) (p : ℕ) → drop (length front + p) (front ++ a) ≡ drop p a
behind-bytes front a p =
    sym (drop-drop p (length front) (front ++ a)) ∙ ap (drop p) (drop_at front a (length front) refl)

moved-record : (front a : List ℕ) (p : ℕ) (f : Frame) → record_at a p ≡ Ok f
    → record_at (front ++ a) (length front + p) ≡ Ok (moved (length front) f)
unfolding record_at
moved-record front a p f is =
    let n = length front in
    let w = record_whole a p f is in
    ap (λ l. record_or_fault (n + p) (frame_of (n + p) l)) (behind-bytes front a p)
    ∙ ap (record_or_fault (n + p)) (frame_of-whole (n + p) (drop p a) true w.some w.more w.whole w.closed)
    ∙ ap (λ (x : Frame). Ok (moved n x)) w.is

-- a module that ends, behind other bytes
record Moved (most : ℕ) (front a : List ℕ) (p end : ℕ) : Type 0 where
  pub same_end : end_within most (front ++ a) (length front + p) ≡ Ok (length front + end)
  pub same_records : records_up_to most (front ++ a) (length front + p)
      ≡ map (moved (length front)) (records_up_to most a p)

abbrev end_or : ℕ → Result ℕ LibraryFault → ℕ
end_or d (Ok n) = n
end_or d (Err e) = d

moved_by : (most : ℕ) (front a : List ℕ) (p end : ℕ) (f : Frame) (t : Bool)
    → ((q : ℕ) → end_within most a q ≡ Ok end → Moved most front a q end)
    → record_at a p ≡ Ok f → ends_module f.kind ≡ t → end_within (suc most) a p ≡ Ok end
    → Moved (suc most) front a p end
moved_by most front a p end f true further at ends is =
    let n = length front in
    let e : place_behind f ≡ end = ap (end_or end) (sym (end-next most a p f true at ends) ∙ is) in
    let there = moved-record front a p f at in
    record {
      same_end = end-next most (front ++ a) (n + p) (moved n f) true there ends ∙ ap Ok (omega (arith, e));
      same_records =
          records-next most (front ++ a) (n + p) (moved n f) true there ends
          ∙ sym (ap (map (moved n)) (records-next most a p f true at ends));
    }
moved_by most front a p end f false further at ends is =
    let n = length front in
    let left = sym (end-next most a p f false at ends) ∙ is in
    let rest = further (place_behind f) left in
    let e : place_behind (moved n f) ≡ n + place_behind f = omega arith in
    let there = moved-record front a p f at in
    record {
      same_end =
          end-next most (front ++ a) (n + p) (moved n f) false there ends
          ∙ ap (end_within most (front ++ a)) e ∙ rest.same_end;
      same_records =
          records-next most (front ++ a) (n + p) (moved n f) false there ends
          ∙ ap (λ k. moved n f ∷ records_up_to most (front ++ a) k) e
          ∙ ap (λ fs. moved n f ∷ fs) rest.same_records
          ∙ sym (ap (map (moved n)) (records-next most a p f false at ends));
    }

not-ended : (most : ℕ) (a : List ℕ) (p end : ℕ) (e : LibraryFault) → record_at a p ≡ Err e
    → end_within (suc most) a p ≢ Ok end
not-ended most a p end e at is =
    let z : ◌≡◌ {A = Result ℕ LibraryFault} (Err e) (Ok end) =
    sym (ap
    (result_and_then (λ g. cond (ends_module g.kind) (Ok (place_behind g)) (end_within most a (place_behind g)))) at)
    ∙ is in
    cc

moved_record : (most : ℕ) (front a : List ℕ) (p end : ℕ) (r : Result Frame LibraryFault)
    → ((q : ℕ) → end_within most a q ≡ Ok end → Moved most front a q end)
    → record_at a p ≡ r → end_within (suc most) a p ≡ Ok end → Moved (suc most) front a p end
moved_record most front a p end (Ok f) further at is =
    moved_by most front a p end f (ends_module f.kind) further at refl is
moved_record most front a p end (Err e) further at is = absurd (not-ended most a p end e at is)

moved_all : (most : ℕ) (front a : List ℕ) (p end : ℕ) → end_within most a p ≡ Ok end → Moved most front a p end
moved_all zero front a p end is =
    absurd (let z : ◌≡◌ {A = Result ℕ LibraryFault} (Err (Malformed p Truncated)) (Ok end) = is in cc)
moved_all (suc most) front a p end is =
    moved_record most front a p end (record_at a p) (λ q h. moved_all most front a q end h) refl is

-- ---- more records at most

record More (most k : ℕ) (a : List ℕ) (p end : ℕ) : Type 0 where
  pub same_end : end_within (most + k) a p ≡ Ok end
  pub same_records : records_up_to (most + k) a p ≡ records_up_to most a p

more_by : (most k : ℕ) (a : List ℕ) (p end : ℕ) (f : Frame) (t : Bool)
    → ((q : ℕ) → end_within most a q ≡ Ok end → More most k a q end)
    → record_at a p ≡ Ok f → ends_module f.kind ≡ t → end_within (suc most) a p ≡ Ok end
    → More (suc most) k a p end
more_by most k a p end f true further at ends is =
    let e : suc most + k ≡ suc (most + k) = omega arith in
    record {
      same_end =
          ap (λ n. end_within n a p) e ∙ end-next (most + k) a p f true at ends
          ∙ sym (end-next most a p f true at ends) ∙ is;
      same_records =
          ap (λ n. records_up_to n a p) e ∙ records-next (most + k) a p f true at ends
          ∙ sym (records-next most a p f true at ends);
    }
more_by most k a p end f false further at ends is =
    let e : suc most + k ≡ suc (most + k) = omega arith in
    let rest = further (place_behind f) (sym (end-next most a p f false at ends) ∙ is) in
    record {
      same_end =
          ap (λ n. end_within n a p) e ∙ end-next (most + k) a p f false at ends ∙ rest.same_end;
      same_records =
          ap (λ n. records_up_to n a p) e ∙ records-next (most + k) a p f false at ends
          ∙ ap (λ (fs : List Frame). f ∷ fs) rest.same_records
          ∙ sym (records-next most a p f false at ends);
    }

more_record : (most k : ℕ) (a : List ℕ) (p end : ℕ) (r : Result Frame LibraryFault)
    → ((q : ℕ) → end_within most a q ≡ Ok end → More most k a q end)
    → record_at a p ≡ r → end_within (suc most) a p ≡ Ok end → More (suc most) k a p end
more_record most k a p end (Ok f) further at is = more_by most k a p end f (ends_module f.kind) further at refl is
more_record most k a p end (Err e) further at is = absurd (not-ended most a p end e at is)

more_all : (most k : ℕ) (a : List ℕ) (p end : ℕ) → end_within most a p ≡ Ok end → More most k a p end
more_all zero k a p end is =
    absurd (let z : ◌≡◌ {A = Result ℕ LibraryFault} (Err (Malformed p Truncated)) (Ok end) = is in cc)
more_all (suc most) k a p end is =
    more_record most k a p end (record_at a p) (λ q h. more_all most k a q end h) refl is

-- ---- names

first_moved : (says : Frame → Option (List ℕ)) (n : ℕ) (fs : List Frame) → ((f : Frame) → says (moved n f) ≡ says f)
    → first_said says (map (moved n) fs) ≡ first_said says fs
first_moved says n [] same = refl
first_moved says n (f ∷ fs) same =
    ap (λ o. option_or o (first_said says (map (moved n) fs))) (same f)
    ∙ ap (option_or (says f)) (first_moved says n fs same)

header-moved : (n : ℕ) (f : Frame) → header_name (moved n f) ≡ header_name f
unfolding header_name
header-moved n f = refl

comment-moved : (n : ℕ) (f : Frame) → comment_text 0xA3 (moved n f) ≡ comment_text 0xA3 f
unfolding comment_text
comment-moved n f = refl

name-moved : (n : ℕ) (fs : List Frame) → name_in (map (moved n) fs) ≡ name_in fs
unfolding name_in
name-moved n fs =
    ap (λ o. name_of o (first_said (comment_text 0xA3) (map (moved n) fs)))
    (first_moved header_name n fs (header-moved n))
    ∙ ap (name_of (first_said header_name fs)) (first_moved (comment_text 0xA3) n fs (comment-moved n))

-- ---- a module in a file

-- bytes that are a module, and nothing more
pub record WholeModule (m : List ℕ) : Type 0 where
  pub ends : module_end m 0 ≡ Ok (length m)
  pub headed : is_headed m ≡ true

abbrev member_here : ℕ → List ℕ → PlainMember
member_here place m = record { place = place; bytes = m; name = name_in (module_records m 0) }

member-behind : (front m : List ℕ) → module_end m 0 ≡ Ok (length m)
    → member_at (front ++ m) (length front) ≡ Ok (member_here (length front) m)
unfolding member_at module_end module_records
member-behind front m is =
    let n = length front in
    let file = front ++ m in
    let moved' = moved_all (length m) front m 0 (length m) is in
    let size : length m + n ≡ length file = omega (arith, length-append front m) in
    let here : n + 0 ≡ n = omega arith in
    let more = more_all (length m) n file (n + 0) (n + length m) moved'.same_end in
    let ends : end_within (length file) file n ≡ Ok (n + length m) =
    ap (λ k. end_within k file n) (sym size) ∙ ap (end_within (length m + n) file) (sym here) ∙ more.same_end in
    let records : records_up_to (length file) file n ≡ map (moved n) (records_up_to (length m) m 0) =
    ap (λ k. records_up_to k file n) (sym size) ∙ ap (records_up_to (length m + n) file) (sym here)
    ∙ more.same_records ∙ moved'.same_records in
    let count : n + length m - n ≡ length m = omega arith in
    let bytes : slice_range file n (n + length m) ≡ m =
    ap (λ k. take k (drop n file)) count ∙ ap (take (length m)) (drop_at front m n refl)
    ∙ take_all (length m) m (omega arith) in
    ap (result_and_then (λ end. Ok (member_between file n end))) ends
    ∙ ap (λ (l : List ℕ). let x : PlainMember = record {
      place = n;
      bytes = l;
      name = name_in (records_up_to (length file) file n);
    } in Ok x) bytes
    ∙ ap (λ (l : List ℕ). let x : PlainMember = record { place = n; bytes = m; name = l } in Ok x)
    (ap name_in records ∙ name-moved n (records_up_to (length m) m 0))

pub member-there : (front m rest : List ℕ) → module_end m 0 ≡ Ok (length m)
    → member_at (front ++ (m ++ rest)) (length front) ≡ Ok (member_here (length front) m)
member-there front m rest is =
    let n = length front in
    let a = front ++ m in
    let size : length a ≡ n + length m = length-append front m in
    let agree : Agree (n + length m) a (a ++ rest) = record {
      left = omega (arith, size);
      right = omega (arith, size, length-append a rest);
      same = take_all (n + length m) a (omega (arith, size)) ∙ sym (take_at a rest (n + length m) size);
    } in
    ap (λ l. member_at l n) (sym (append_assoc front m rest))
    ∙ (member_same a (a ++ rest) n (member_here n m) (member-behind front m is)).same agree

-- ---- members at pages

-- each of them is a module
abbrev pub AllWhole : List (List ℕ) → Type 0
AllWhole [] = Unit {0}
AllWhole (m ∷ ms) = WholeModule m × AllWhole ms

-- the first byte of a module
record First (m : List ℕ) : Type 0 where
  pub some : 0 < length m
  pub other : get_or m 0 0 ≢ 0xF1

first_by : (m : List ℕ) → (eqb (get_or m 0 0) 0x80 ≡ true) ⊎ (eqb (get_or m 0 0) 0x82 ≡ true) → First m
first_by [] (inl is) = absurd (omega (arith, eqb-true 0 0x80 is))
first_by [] (inr is) = absurd (omega (arith, eqb-true 0 0x82 is))
first_by (b ∷ bs) (inl is) = record { some = omega arith; other = λ e. omega (arith, e, eqb-true b 0x80 is) }
first_by (b ∷ bs) (inr is) = record { some = omega arith; other = λ e. omega (arith, e, eqb-true b 0x82 is) }

first_of : (m : List ℕ) → WholeModule m → First m
first_of m w = first_by m (or_cases (eqb (get_or m 0 0) 0x80) (eqb (get_or m 0 0) 0x82) w.headed)

-- at the end record, and at a member
at-end : (most page : ℕ) (file : List ℕ) (place : ℕ) → place < length file → get_or file place 0 ≡ 0xF1
    → members_up_to (suc most) page file place ≡ Ok []
at-end most page file place within is =
    rw (lt-leb (length file) place within, eq-eqb (get_or file place 0) 0xF1 is) refl

at-member : (most page : ℕ) (file : List ℕ) (place : ℕ) → place < length file → get_or file place 0 ≢ 0xF1
    → members_up_to (suc most) page file place
    ≡ result_and_then
    (λ m. joined (m ∷ []) (members_up_to most page file (next_multiple_of (place + length m.bytes) page)))
    (member_at file place)
at-member most page file place within other =
    rw (lt-leb (length file) place within, ne_eqb (get_or file place 0) 0xF1 other) refl

-- the page behind a member
next-page : (size page n : ℕ) → 0 < size → next_multiple_of (size * page + n) size ≡ size * (page + div_ceil n size)
next-page size page n some =
    let r = n % size in
    let whole : n / size * size + r ≡ n = div-add-mod' n size in
    let sum : size * page + n ≡ (page + n / size) * size + r =
    let c : (page + n / size) * size ≡ size * page + n / size * size =
    mul_comm (page + n / size) size ∙ mul-add size page (n / size)
    ∙ ap (λ k. size * page + k) (mul_comm size (n / size)) in
    omega (arith, c, whole) in
    let same : (size * page + n) % size ≡ r =
    ap (λ k. k % size) sum ∙ mod-mul-add (page + n / size) size r (mod_below n size some) in
    ap (λ k. size * page + n + (size - k) % size) same
    ∙ (let e : size * page + n + (size - r) % size ≡ size * page + next_multiple_of n size = omega arith in e)
    ∙ ap (λ k. size * page + k) (next_is n size some)
    ∙ sym (mul-add size page (div_ceil n size))

members_from : (most size page : ℕ) (ms : List (List ℕ)) (front rest : List ℕ) → 0 < size
    → length front ≡ size * page → AllWhole ms → length ms < most
    → members_up_to most size (front ++ (flat_map (padded size) ms ++ (0xF1 ∷ rest))) (size * page)
    ≡ Ok (placed size page ms)
members_from zero size page ms front rest some at whole few = absurd (omega arith)
members_from (suc most) size page [] front rest some at whole few =
    at-end most size (front ++ (0xF1 ∷ rest)) (size * page)
    (omega (arith, length-append front (0xF1 ∷ rest), at))
    (get_or_at front 0xF1 rest 0 (size * page) at)
members_from (suc most) size page (m ∷ ms) front rest some at whole few =
    let zeros : List ℕ = replicate (next_multiple_of (length m) size - length m) 0 in
    let M = flat_map (padded size) ms in
    let end = 0xF1 ∷ rest in
    let behind = zeros ++ (M ++ end) in
    let file = front ++ ((padded size m ++ M) ++ end) in
    let one : (padded size m ++ M) ++ end ≡ m ++ behind =
    append_assoc (m ++ zeros) M end ∙ append_assoc m zeros (M ++ end) in
    let shape : file ≡ front ++ (m ++ behind) = ap (λ l. front ++ l) one in
    let other : file ≡ (front ++ padded size m) ++ (M ++ end) =
    ap (λ l. front ++ l) (append_assoc (padded size m) M end) ∙ sym (append_assoc front (padded size m) (M ++ end)) in
    let f = first_of m whole.0 in
    let len : length file ≡ length front + (length m + length behind) =
    ap length shape ∙ length-append front (m ++ behind) ∙ ap (λ k. length front + k) (length-append m behind) in
    let zero' : size * page - length front ≡ 0 = omega (arith, at) in
    let first : get_or file (size * page) 0 ≡ get_or m 0 0 =
    ap (λ l. get_or l (size * page) 0) shape
    ∙ get_or-append_right front (m ++ behind) (size * page) (size * page) 0 at (omega arith)
    ∙ (let z : size * page - size * page ≡ 0 = omega arith in ap (λ k. get_or (m ++ behind) k 0) z)
    ∙ get_or_append_left m behind 0 0 f.some in
    let there : member_at file (size * page) ≡ Ok (member_here (size * page) m) =
    ap (λ l. member_at l (size * page)) shape
    ∙ ap (member_at (front ++ (m ++ behind))) (sym at)
    ∙ member-there front m behind (whole.0).ends
    ∙ ap (λ k. Ok (member_here k m)) at in
    let next = next-page size page (length m) some in
    let size' : length (front ++ padded size m) ≡ size * (page + pages_of size m) =
    length-append front (padded size m) ∙ ap (λ k. k + length (padded size m)) at
    ∙ ap (λ k. size * page + k) (padded_size size m some) ∙ sym (mul-add size page (pages_of size m)) in
    let further : members_up_to most size file (size * (page + pages_of size m))
    ≡ Ok (placed size (page + pages_of size m) ms) =
    ap (λ l. members_up_to most size l (size * (page + pages_of size m))) other
    ∙ members_from most size (page + pages_of size m) ms (front ++ padded size m) rest some size' whole.1
    (omega arith) in
    at-member most size file (size * page) (omega (arith, len, at, f.some)) (λ e. f.other (sym first ∙ e))
    ∙ ap (result_and_then
    (λ x. joined (x ∷ []) (members_up_to most size file (next_multiple_of (size * page + length x.bytes) size)))) there
    ∙ ap (λ k. joined (member_here (size * page) m ∷ []) (members_up_to most size file k)) next
    ∙ ap (joined (member_here (size * page) m ∷ [])) further

pub members_read : (size : ℕ) (ms : List (List ℕ)) (front rest : List ℕ) → 0 < size → length front ≡ size → AllWhole ms
    → members_up_to (length (front ++ (flat_map (padded size) ms ++ (0xF1 ∷ rest)))) size
    (front ++ (flat_map (padded size) ms ++ (0xF1 ∷ rest))) size ≡ Ok (placed size 1 ms)
members_read size ms front rest some at whole =
    let file = front ++ (flat_map (padded size) ms ++ (0xF1 ∷ rest)) in
    let one : size ≡ size * 1 = sym (mul-one size) in
    ap (members_up_to (length file) size file) one
    ∙ members_from (length file) size 1 ms front rest some (at ∙ one) whole
    (omega (
      arith,
      length-append front (flat_map (padded size) ms ++ (0xF1 ∷ rest)),
      length-append (flat_map (padded size) ms) (0xF1 ∷ rest),
      few_members size ms whole,
    ))
  where
    few_members : (size : ℕ) (ms : List (List ℕ)) → AllWhole ms → length ms ≤ length (flat_map (padded size) ms)
    few_members size [] whole = omega arith
    few_members size (m ∷ ms) whole =
        let zeros : List ℕ = replicate (next_multiple_of (length m) size - length m) 0 in
        omega (
          arith,
          length-append (padded size m) (flat_map (padded size) ms),
          length-append m zeros,
          (first_of m whole.0).some,
          few_members size ms whole.1,
        )

-- ---- modules are whole

-- where a module ends
record Bounds (a : List ℕ) (p end : ℕ) : Type 0 where
  pub above : p < end
  pub within : end ≤ length a

bound_here : (a : List ℕ) (p : ℕ) (f : Frame) → record_at a p ≡ Ok f → Bounds a p (place_behind f)
bound_here a p f is =
    let w = record_whole a p f is in
    let at : f.place ≡ p = ap (λ (g : Frame). g.place) (sym w.is) in
    record {
      above = omega (arith, at);
      within =
          omega (
            arith,
            at,
            whole_end p (drop p a) f w,
            w.some,
            w.whole,
            length-drop p a,
            length-drop 3 (drop p a),
          );
    }

bound_by : (most : ℕ) (a : List ℕ) (p end : ℕ) (f : Frame) (t : Bool)
    → ((q : ℕ) → end_within most a q ≡ Ok end → Bounds a q end)
    → record_at a p ≡ Ok f → ends_module f.kind ≡ t → end_within (suc most) a p ≡ Ok end → Bounds a p end
bound_by most a p end f true further at ends is =
    let e : place_behind f ≡ end = ap (end_or end) (sym (end-next most a p f true at ends) ∙ is) in
    subst (Bounds a p) e (bound_here a p f at)
bound_by most a p end f false further at ends is =
    let rest = further (place_behind f) (sym (end-next most a p f false at ends) ∙ is) in
    record { above = omega (arith, rest.above, (bound_here a p f at).above); within = rest.within }

bound_record : (most : ℕ) (a : List ℕ) (p end : ℕ) (r : Result Frame LibraryFault)
    → ((q : ℕ) → end_within most a q ≡ Ok end → Bounds a q end)
    → record_at a p ≡ r → end_within (suc most) a p ≡ Ok end → Bounds a p end
bound_record most a p end (Ok f) further at is = bound_by most a p end f (ends_module f.kind) further at refl is
bound_record most a p end (Err e) further at is = absurd (not-ended most a p end e at is)

bound_all : (most : ℕ) (a : List ℕ) (p end : ℕ) → end_within most a p ≡ Ok end → Bounds a p end
bound_all zero a p end is =
    absurd (let z : ◌≡◌ {A = Result ℕ LibraryFault} (Err (Malformed p Truncated)) (Ok end) = is in cc)
bound_all (suc most) a p end is =
    bound_record most a p end (record_at a p) (λ q h. bound_all most a q end h) refl is

bounds_of : (bytes : List ℕ) (end : ℕ) → module_end bytes 0 ≡ Ok end → Bounds bytes 0 end
unfolding module_end
bounds_of bytes end is = bound_all (length bytes) bytes 0 end is

cut_by : (m : List ℕ) (x : PlainMember) (r : Result ℕ LibraryFault) → module_end m 0 ≡ r
    → result_and_then (λ e. Ok (member_between m 0 e)) r ≡ Ok x → length x.bytes ≡ length m
    → module_end m 0 ≡ Ok (length m)
cut_by m x (Err e) at is size = absurd (let z : ◌≡◌ {A = Result PlainMember LibraryFault} (Err e) (Ok x) = is in cc)
cut_by m x (Ok e) at is size =
    let same : member_between m 0 e ≡ x =
    ap (λ (r : Result PlainMember LibraryFault). elim r [ Ok y ↦ y | Err z ↦ x ]) is in
    let b = bounds_of m e at in
    let less : e - 0 ≡ e = omega arith in
    let len : length (take e m) ≡ length m =
    ap (λ k. length (take k m)) (sym less) ∙ ap (λ (y : PlainMember). length y.bytes) same ∙ size in
    let end : e ≡ length m = sym (length-take-le e m b.within) ∙ len in
    at ∙ ap Ok end

module_cut : (bytes : List ℕ) (end : ℕ) → module_end bytes 0 ≡ Ok end
    → module_end (take end bytes) 0 ≡ Ok (length (take end bytes))
unfolding member_at
module_cut bytes end is =
    let b = bounds_of bytes end is in
    let size : length (take end bytes) ≡ end = length-take-le end bytes b.within in
    let less : end - 0 ≡ end = omega arith in
    let x = member_between bytes 0 end in
    let whole : member_at bytes 0 ≡ Ok x = ap (result_and_then (λ e. Ok (member_between bytes 0 e))) is in
    let agree : Agree (0 + end) bytes (take end bytes) = record {
      left = omega (arith, b.within);
      right = omega (arith, size);
      same =
          ap (λ k. take k bytes) (let z : 0 + end ≡ end = omega arith in z)
          ∙ sym (take_all (0 + end) (take end bytes) (omega (arith, size)));
    } in
    let agree' : Agree (0 + length x.bytes) bytes (take end bytes) = subst (λ k. Agree (0 + k) bytes (take end bytes))
    (sym (ap (λ k. length (take k bytes)) less ∙ size)) agree in
    cut_by (take end bytes) x (module_end (take end bytes) 0) refl
    ((member_same bytes (take end bytes) 0 x whole).same agree') (ap (λ k. length (take k bytes)) less)

whole_by : (member : ℕ) (bytes m : List ℕ) (t : Bool) (r : Result ℕ LibraryFault) → is_headed bytes ≡ t
    → module_end bytes 0 ≡ r → cond t (part_up_to member bytes r) (Err (Header member)) ≡ Ok m → WholeModule m
whole_by member bytes m false r headed at is =
    absurd (let z : ◌≡◌ {A = Result (List ℕ) LibrarianFault} (Err (Header member)) (Ok m) = is in cc)
whole_by member bytes m true (Err e) headed at is = absurd (none is)
  where
    none : part_up_to member bytes (Err e) ≢ Ok m
    none h = let z : ◌≡◌ {A = Result (List ℕ) LibrarianFault} (part_up_to member bytes (Err e)) (Ok m) = h in cc
whole_by member bytes m true (Ok end) headed at is =
    let e : take end bytes ≡ m = ap (λ (r : Result (List ℕ) LibrarianFault). elim r [ Ok l ↦ l | Err x ↦ m ]) is in
    subst WholeModule e (record {
      ends = module_cut bytes end at;
      headed = ap (λ k. eqb k 0x80 || eqb k 0x82) (get_or-take end bytes 0 0 (bounds_of bytes end at).above) ∙ headed;
    })

whole_of : (member : ℕ) (bytes m : List ℕ) → module_of member bytes ≡ Ok m → WholeModule m
unfolding module_of
whole_of member bytes m is = whole_by member bytes m (is_headed bytes) (module_end bytes 0) refl refl is

checked_same : (member : ℕ) (x m : List ℕ) (t : Bool)
    → ◌≡◌ {A = Result (List ℕ) LibrarianFault} (cond t (Err (LongName member)) (Ok x)) (Ok m) → x ≡ m
checked_same member x m true is =
    absurd (let z : ◌≡◌ {A = Result (List ℕ) LibrarianFault} (Err (LongName member)) (Ok m) = is in cc)
checked_same member x m false is = ap (λ (r : Result (List ℕ) LibrarianFault). elim r [ Ok l ↦ l | Err e ↦ x ]) is

checked_by : (member : ℕ) (bytes m : List ℕ) (r : Result (List ℕ) LibrarianFault) → module_of member bytes ≡ r
    → result_and_then (checked member) r ≡ Ok m → WholeModule m
unfolding checked
checked_by member bytes m (Err e) at is =
    absurd (let z : ◌≡◌ {A = Result (List ℕ) LibrarianFault} (Err e) (Ok m) = is in cc)
checked_by member bytes m (Ok x) at is =
    subst WholeModule (checked_same member x m (list_any is_long (names_of x)) is) (whole_of member bytes x at)

all_by : (member : ℕ) (bytes : List ℕ) (more ms : List (List ℕ)) (r : Result (List ℕ) LibrarianFault)
    (s : Result (List (List ℕ)) LibrarianFault)
    → ((m : List ℕ) → r ≡ Ok m → WholeModule m) → ((xs : List (List ℕ)) → s ≡ Ok xs → AllWhole xs)
    → result_and_then (λ m. joined (m ∷ []) s) r ≡ Ok ms → AllWhole ms
all_by member bytes more ms (Err e) s one rest is =
    absurd (let z : ◌≡◌ {A = Result (List (List ℕ)) LibrarianFault} (Err e) (Ok ms) = is in cc)
all_by member bytes more ms (Ok m) (Err e) one rest is =
    absurd (let z : ◌≡◌ {A = Result (List (List ℕ)) LibrarianFault} (Err e) (Ok ms) = is in cc)
all_by member bytes more ms (Ok m) (Ok xs) one rest is =
    let e : m ∷ xs ≡ ms = ap (λ (r : Result (List (List ℕ)) LibrarianFault). elim r [ Ok l ↦ l | Err x ↦ ms ]) is in
    subst AllWhole e (one m refl, rest xs refl)

pub all_whole : (member : ℕ) (members ms : List (List ℕ)) → modules_from member members ≡ Ok ms → AllWhole ms
all_whole member [] ms is =
    let e : [] ≡ ms = ap (λ (r : Result (List (List ℕ)) LibrarianFault). elim r [ Ok l ↦ l | Err x ↦ ms ]) is in
    subst AllWhole e tt
all_whole member (bytes ∷ more) ms is =
    all_by member bytes more ms (result_and_then (checked member) (module_of member bytes))
    (modules_from (member + 1) more)
    (λ m at. checked_by member bytes m (module_of member bytes) refl at)
    (λ xs at. all_whole (member + 1) more xs at) is
