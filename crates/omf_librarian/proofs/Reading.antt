-- What is read of a library that was written.
use Rattle.std.proofs.Common.{◌≡◌, ◌≢◌, ℕ, zero, suc, ◌+◌, ◌-◌, ◌*◌, ◌/◌, ◌%◌, ◌<◌, ◌≤◌, ◌⊎◌, inl, inr, Bool, true}
use Rattle.std.proofs.Common.{false, ◌&&◌, ◌||◌}
use Rattle.std.proofs.Common.{List, [], ◌∷◌, ◌++◌, length, get_or, take, drop, replicate, map, cond, eqb, leb, Some}
use Rattle.std.proofs.Common.{None, Ok, Err, IfOk}
use Rattle.std.proofs.Common.{find, refl, sym, ap, subst, ◌∙◌, arith, append_assoc, length-append}
use Rattle.std.specs.declared.option.Option.{Option}
use Rattle.std.specs.declared.result.Result.{Result}
use Rattle.std.specs.Int.{is_power_of_two, next_multiple_of, to_le_bytes, w16, w32}
use Rattle.std.specs.List.{list_all}
use Rattle.std.specs.Option.{ok_or, option_map}
use Rattle.std.proofs.lemmas.Bool.{and_from, and_parts, leb-true, le-leb}
use Rattle.std.proofs.lemmas.Nat.{mod-mul-add}
use Rattle.std.proofs.lemmas.List.{drop_at, get_or_append_left, length-map, length-replicate}
use Rattle.omf_library.specs.Library.{is_page_size, members_up_to}
use Rattle.omf_library.specs.declared.fault.LibraryFault.TheVariants.{Malformed}
use Rattle.omf_library.specs.declared.fault.FormatFault.TheVariants.{Truncated, PageSize as BadSize}
use Rattle.std.proofs.Common.{ltb}
use Rattle.omf_library.specs.Records.{result_and_then}
use Rattle.omf_librarian.specs.Answers.{Answers}
use Rattle.omf_librarian.specs.Dictionary.{long_at, looked_up, looked_up_in, word_at}
use Rattle.omf_librarian.specs.Entering.{dictionary_of}
use Rattle.omf_librarian.specs.Library.{IsLibraryOf, IsReadOf, PlainLibrary, library_of, library_with, names_in}
use Rattle.omf_librarian.specs.Modules.{modules_from, names_of}
use Rattle.omf_librarian.specs.Naming.{Named, all_named, doubled_behind, entries_behind, first_of, named_by, pages_of}
use Rattle.omf_librarian.specs.Pages.{asked_size, has_pages, page_behind, page_size_for, page_sizes}
use Rattle.omf_librarian.specs.Said.{library_said}
use Rattle.omf_librarian.specs.Writing.{dictionary_place, end_record, header, library_bytes, members_bytes}
use Rattle.omf_librarian.specs.declared.fault.LibrarianFault.{LibrarianFault}
use Rattle.omf_librarian.specs.declared.fault.LibrarianFault.TheVariants.{Names, Pages, PageSize}
use Rattle.omf_librarian.specs.declared.library.Library as lent
use lib.Count
use Rattle.omf_library.specs.Files.{file_kind, members_of}
use Rattle.omf_library.specs.Library.{library_members, page_size}
use Rattle.omf_library.specs.declared.files.FileKind.TheVariants.{Library}
use Rattle.std.specs.List.{flat_map}
use Rattle.std.proofs.lemmas.Bool.{le-ltb}
use Rattle.omf_librarian.specs.Library.{placed}
use Rattle.omf_librarian.specs.Writing.{padded}
use Rattle.omf_librarian.proofs.Places.{AllWhole, all_whole, members_read}
use Rattle.omf_librarian.proofs.Found.{PagesFit, filled_finds, filled_of}
use Rattle.omf_librarian.proofs.Paging.{behind_least, end_most, members_size, next_is, next_least, next_most, pages_fit}

-- ---- the size of pages

-- a size that a library's pages have, and members that have such pages
pub record Sized (size : ℕ) (ms : List (List ℕ)) : Type 0 where
  pub is_size : is_page_size size ≡ true
  pub has : has_pages ms size ≡ true

pub sized_least : (size : ℕ) (ms : List (List ℕ)) → Sized size ms → 16 ≤ size
sized_least size ms s =
    leb-true 16 size (and_parts (leb 16 size) (leb size 32768)
    (and_parts (leb 16 size && leb size 32768) (is_power_of_two size) s.is_size).0).0

pub sized_most : (size : ℕ) (ms : List (List ℕ)) → Sized size ms → size ≤ 32768
sized_most size ms s =
    leb-true size 32768 (and_parts (leb 16 size) (leb size 32768)
    (and_parts (leb 16 size && leb size 32768) (is_power_of_two size) s.is_size).0).1

found_in : (test all : ℕ → Bool) (xs : List ℕ) (x : ℕ) → list_all all xs ≡ true → find test xs ≡ Some x
    → (all x ≡ true) × (test x ≡ true)
found_in test all [] x each is = absurd (let z : ◌≡◌ {A = Option ℕ} None (Some x) = is in cc)
found_in test all (y ∷ ys) x each is =
    (elim (test y) as (λ t.
    test y ≡ t → cond t (Some y) (find test ys) ≡ Some x → (all x ≡ true) × (test x ≡ true)) [
      | true ↦ λ at h.
          let e : y ≡ x = ap (λ o. elim o [ None ↦ x | Some n ↦ n ]) h in
          (ap all (sym e) ∙ (and_parts (all y) (list_all all ys) each).0, ap test (sym e) ∙ at)
      | false ↦ λ at h. found_in test all ys x (and_parts (all y) (list_all all ys) each).1 h
    ]) refl is

sized_by : (test : Bool) (size s : ℕ) → ◌≡◌ {A = Result ℕ LibrarianFault} (cond test (Ok s) (Err Pages)) (Ok size)
    → (s ≡ size) × (test ≡ true)
sized_by true size s is = (ap (λ (r : Result ℕ LibrarianFault). elim r [ Ok n ↦ n | Err e ↦ s ]) is, refl)
sized_by false size s is = absurd (let z : ◌≡◌ {A = Result ℕ LibrarianFault} (Err Pages) (Ok size) = is in cc)

all_sizes : list_all is_page_size page_sizes ≡ true
unfolding lib.Count.ones
all_sizes = refl

sized_none : (ms : List (List ℕ)) (size : ℕ) (o : Option ℕ) → find (has_pages ms) page_sizes ≡ o
    → ◌≡◌ {A = Result ℕ LibrarianFault} (ok_or o Pages) (Ok size) → Sized size ms
sized_none ms size None at is = absurd (let z : ◌≡◌ {A = Result ℕ LibrarianFault} (Err Pages) (Ok size) = is in cc)
sized_none ms size (Some s) at is =
    let e : s ≡ size = ap (λ (r : Result ℕ LibrarianFault). elim r [ Ok n ↦ n | Err x ↦ s ]) is in
    let b = found_in (has_pages ms) is_page_size page_sizes s all_sizes at in
    record { is_size = ap is_page_size (sym e) ∙ b.0; has = ap (has_pages ms) (sym e) ∙ b.1 }

asked_by : (s : ℕ) (a : Option ℕ) (t : Bool) → is_page_size s ≡ t
    → ◌≡◌ {A = Result (Option ℕ) LibrarianFault} (cond t (Ok (Some s)) (Err PageSize)) (Ok a)
    → (a ≡ Some s) × (is_page_size s ≡ true)
asked_by s a true at is = (sym (ap (λ (r : Result (Option ℕ) LibrarianFault). elim r [ Ok n ↦ n | Err x ↦ a ]) is), at)
asked_by s a false at is =
    absurd (let z : ◌≡◌ {A = Result (Option ℕ) LibrarianFault} (Err PageSize) (Ok a) = is in cc)

sized_some : (ms : List (List ℕ)) (size s : ℕ) (a : Option ℕ) → a ≡ Some s → is_page_size s ≡ true
    → page_size_for a ms ≡ Ok size → Sized size ms
unfolding page_size_for
sized_some ms size s a is good fits =
    let b = sized_by (has_pages ms s) size s (sym (ap (λ o. page_size_for o ms) is) ∙ fits) in
    record { is_size = ap is_page_size (sym b.0) ∙ good; has = ap (has_pages ms) (sym b.0) ∙ b.1 }

pub sized_is : (asked a : Option ℕ) (ms : List (List ℕ)) (size : ℕ) → asked_size asked ≡ Ok a
    → page_size_for a ms ≡ Ok size
    → Sized size ms
unfolding asked_size page_size_for
sized_is None a ms size is fits =
    let e : None ≡ a = ap (λ (r : Result (Option ℕ) LibrarianFault). elim r [ Ok n ↦ n | Err x ↦ a ]) is in
    sized_none ms size (find (has_pages ms) page_sizes) refl (ap (λ o. page_size_for o ms) e ∙ fits)
sized_is (Some s) a ms size is fits =
    let b = asked_by s a (is_page_size s) refl is in
    sized_some ms size s a b.0 b.1 fits

-- ---- the pages of names

pages-map : (member page : ℕ) (names : List (List ℕ)) (rest : List Named) → page < 65536 → PagesFit rest
    → PagesFit
    (map (λ (n : List ℕ). let x : Named = record { name = n; member = member; page = page } in x) names ++ rest)
pages-map member page [] rest small fit = fit
pages-map member page (n ∷ ns) rest small fit =
    let more = pages-map member page ns rest small fit in
    record { fits = λ i d within. first_or i d within more }
  where
    first_or : (i : ℕ) (d : Named)
        → i < length ((let x : Named = record { name = n; member = member; page = page } in x)
        ∷ (map (λ (m : List ℕ). let x : Named = record { name = m; member = member; page = page } in x) ns ++ rest))
        → PagesFit
        (map (λ (m : List ℕ). let x : Named = record { name = m; member = member; page = page } in x) ns ++ rest)
        → (get_or ((let x : Named = record { name = n; member = member; page = page } in x)
        ∷ (map (λ (m : List ℕ). let x : Named = record { name = m; member = member; page = page } in x) ns ++ rest)) i
        d).page < 65536
    first_or zero d within more = small
    first_or (suc i) d within more = more.fits i d (omega arith)

pages_all : (size member page : ℕ) (ms : List (List ℕ)) → page_behind size page ms ≤ 65535
    → PagesFit (all_named size member page ms)
pages_all size member page [] few = record { fits = λ i d within. absurd (omega (arith, within)) }
pages_all size member page (m ∷ ms) few =
    pages-map member page (names_of m) (all_named size (member + 1) (page + pages_of size m) ms)
    (omega (arith, few, behind_least size (page + pages_of size m) ms))
    (pages_all size (member + 1) (page + pages_of size m) ms few)

-- ---- the header

front-byte : (size place blocks i : ℕ) (rest : List ℕ) → i < 10
    → get_or (header size place blocks ++ rest) i 0 ≡ get_or (header size place blocks) i 0
front-byte size place blocks i rest small =
    get_or_append_left (header size place blocks) rest 0 i
    (omega (arith, small, length-replicate {A = ℕ} (next_multiple_of 10 size - 10) 0))

pub header-blocks : (size place blocks : ℕ) (rest : List ℕ) → blocks < 65536
    → word_at (header size place blocks ++ rest) 7 ≡ blocks
header-blocks size place blocks rest small =
    let low : get_or (header size place blocks ++ rest) 7 0 ≡ blocks % 256 =
    front-byte size place blocks 7 rest (omega arith) in
    let high : get_or (header size place blocks ++ rest) 8 0 ≡ blocks / 256 % 256 =
    front-byte size place blocks 8 rest (omega arith) in
    omega (arith, low, high, small)

pub header-place : (size place blocks : ℕ) (rest : List ℕ) → place < 4294967296
    → long_at (header size place blocks ++ rest) 3 ≡ place
header-place size place blocks rest small =
    let a : get_or (header size place blocks ++ rest) 3 0 ≡ place % 256 =
    front-byte size place blocks 3 rest (omega arith) in
    let b : get_or (header size place blocks ++ rest) 4 0 ≡ place / 256 % 256 =
    front-byte size place blocks 4 rest (omega arith) in
    let c : get_or (header size place blocks ++ rest) 5 0 ≡ place / 65536 % 256 =
    front-byte size place blocks 5 rest (omega arith) in
    let d : get_or (header size place blocks ++ rest) 6 0 ≡ place / 16777216 % 256 =
    front-byte size place blocks 6 rest (omega arith) in
    omega (arith, a, b, c, d, small)

ten : (size : ℕ) → 16 ≤ size → next_multiple_of 10 size ≡ size
ten size some =
    let e : 10 % size ≡ 10 =
    ap (λ k. k % size) (let z : 10 ≡ 0 * size + 10 = omega arith in z) ∙ mod-mul-add 0 size 10 (omega (arith, some)) in
    ap (λ r. 10 + (size - r) % size) e
    ∙ ap (λ k. 10 + k)
    (ap (λ k. k % size) (let z : size - 10 ≡ 0 * size + (size - 10) = omega arith in z)
    ∙ mod-mul-add 0 size (size - 10) (omega (arith, some)))
    ∙ omega (arith, some)

pub header-size : (size place blocks : ℕ) → 16 ≤ size → length (header size place blocks) ≡ size
header-size size place blocks some =
    omega (arith, length-replicate {A = ℕ} (next_multiple_of 10 size - 10) 0, ten size some, some)

end-size : (len : ℕ) → 3 ≤ len → length (end_record len) ≡ len
end-size len some = omega (arith, length-replicate {A = ℕ} (len - 3) 0, some)

-- ---- the dictionary

record Parts (size : ℕ) (ms : List (List ℕ)) : Type 0 where
  pub least : 16 ≤ size
  pub place : dictionary_place (size + length (members_bytes size ms)) < 4294967296
  pub room : size + length (members_bytes size ms) + 3 ≤ dictionary_place (size + length (members_bytes size ms))

parts_of : (size : ℕ) (ms : List (List ℕ)) → Sized size ms → Parts size ms
parts_of size ms s =
    let e = size + length (members_bytes size ms) in
    let least = sized_least size ms s in
    let most = end_most size (page_behind size 1 ms) (sized_most size ms s) (pages_fit ms size s.has) in
    let is = members_size size ms (omega (arith, least)) in
    record {
      least = least;
      place = omega (arith, next_most (e + 3) 512 (omega arith), is, most);
      room = next_least (e + 3) 512;
    }

dictionary-there : (size : ℕ) (ms : List (List ℕ)) (d : List ℕ) → Sized size ms
    → drop (dictionary_place (size + length (members_bytes size ms))) (library_bytes size ms d) ≡ d
unfolding library_bytes
dictionary-there size ms d s =
    let p = parts_of size ms s in
    let M = members_bytes size ms in
    let place = dictionary_place (size + length M) in
    let b = length d / 512 in
    let E = end_record (place - (size + length M)) in
    drop_at ((header size place b ++ M) ++ E) d place
    (length-append (header size place b ++ M) E
    ∙ ap (λ k. k + length E) (length-append (header size place b) M)
    ∙ ap (λ k. (k + length M) + length E) (header-size size place b p.least)
    ∙ ap (λ k. (size + length M) + k) (end-size (place - (size + length M)) (omega (arith, p.room)))
    ∙ omega (arith, p.room))

looked-up : (size : ℕ) (ms : List (List ℕ)) (d name : List ℕ) → Sized size ms → length d / 512 < 65536
    → looked_up (library_bytes size ms d) name ≡ looked_up_in (length d / 512) d name
unfolding looked_up library_bytes
looked-up size ms d name s small =
    let p = parts_of size ms s in
    let M = members_bytes size ms in
    let place = dictionary_place (size + length M) in
    let b = length d / 512 in
    let E = end_record (place - (size + length M)) in
    let H = header size place b in
    let file = ((H ++ M) ++ E) ++ d in
    let shape : file ≡ H ++ (M ++ (E ++ d)) =
    append_assoc (H ++ M) E d ∙ append_assoc H M (E ++ d) in
    let blocks : word_at file 7 ≡ b = ap (λ l. word_at l 7) shape ∙ header-blocks size place b (M ++ (E ++ d)) small in
    let at : long_at file 3 ≡ place = ap (λ l. long_at l 3) shape ∙ header-place size place b (M ++ (E ++ d)) p.place in
    ap (λ n. looked_up_in n (drop (long_at file 3) file) name) blocks
    ∙ ap (λ n. looked_up_in b (drop n file) name) at
    ∙ ap (λ l. looked_up_in b l name) (dictionary-there size ms d s)

pub found_all : (size : ℕ) (ms : List (List ℕ)) (d name : List ℕ) → Sized size ms
    → dictionary_of (entries_behind [] (names_in size ms)) ≡ Some d
    → looked_up (library_bytes size ms d) name ≡ option_map (λ (n : Named). n.page) (first_of (names_in size ms) name)
found_all size ms d name s is =
    let f = filled_of (entries_behind [] (names_in size ms)) d is in
    let g = filled_finds f.blocks d (names_in size ms) f.some (pages_all size 0 1 ms (pages_fit ms size s.has)) f.is in
    let e : length d / 512 ≡ f.blocks = omega (arith, g.size) in
    looked-up size ms d name s (omega (arith, e, f.few))
    ∙ ap (λ n. looked_up_in n d name) e ∙ g.found name

-- ---- the members

header-kind : (size place blocks : ℕ) (rest : List ℕ) → file_kind (header size place blocks ++ rest) ≡ Library
unfolding file_kind
header-kind size place blocks rest = refl

header-page : (size place blocks : ℕ) (rest : List ℕ) → is_page_size size ≡ true → 16 ≤ size → size ≤ 32768
    → page_size (header size place blocks ++ rest) ≡ Ok size
unfolding page_size
header-page size place blocks rest good least most =
    let file = header size place blocks ++ rest in
    let len : 3 ≤ length file = omega arith in
    let n : 3 + ((size - 3) % 256 + 256 * ((size - 3) / 256 % 256)) ≡ size = omega (arith, least, most) in
    ap (λ (k : ℕ). cond (ltb (length file) 3) (Err (Malformed 0 Truncated))
    (cond (is_page_size k) (Ok k) (Err (Malformed 0 BadSize)))) n
    ∙ ap (λ t. cond t (Err (Malformed 0 Truncated)) (cond (is_page_size size) (Ok size) (Err (Malformed 0 BadSize))))
    (le-ltb (length file) 3 len)
    ∙ ap (λ t. cond t (Ok size) (Err (Malformed 0 BadSize))) good

members_all : (size : ℕ) (ms : List (List ℕ)) (d : List ℕ) → Sized size ms → AllWhole ms
    → members_of (file_kind (library_bytes size ms d)) (library_bytes size ms d) ≡ Ok (placed size 1 ms)
unfolding library_bytes members_bytes library_members
members_all size ms d s whole =
    let least = sized_least size ms s in
    let M = flat_map (padded size) ms in
    let place = dictionary_place (size + length M) in
    let len = place - (size + length M) in
    let H = header size place (length d / 512) in
    let rest = (to_le_bytes w16 (len - 3) ++ replicate (len - 3) 0) ++ d in
    let file = ((H ++ M) ++ end_record len) ++ d in
    let shape : file ≡ H ++ (M ++ (0xF1 ∷ rest)) =
    append_assoc (H ++ M) (end_record len) d ∙ append_assoc H M (end_record len ++ d) in
    ap (λ l. members_of (file_kind l) l) shape
    ∙ ap (λ k. members_of k (H ++ (M ++ (0xF1 ∷ rest)))) (header-kind size place (length d / 512) (M ++ (0xF1 ∷ rest)))
    ∙ ap
    (result_and_then (λ page. members_up_to (length (H ++ (M ++ (0xF1 ∷ rest)))) page (H ++ (M ++ (0xF1 ∷ rest))) page))
    (header-page size place (length d / 512) (M ++ (0xF1 ∷ rest)) s.is_size least (sized_most size ms s))
    ∙ members_read size ms H rest (omega (arith, least)) (header-size size place (length d / 512) least) whole

-- ---- all of it

kept_by : (asked a : Option ℕ) (members ms : List (List ℕ)) (size : ℕ) (l : PlainLibrary) (o : Option (List ℕ))
    → asked_size asked ≡ Ok a → modules_from 0 members ≡ Ok ms → page_size_for a ms ≡ Ok size
    → dictionary_of (entries_behind [] (names_in size ms)) ≡ o
    → result_and_then (λ (dictionary : List ℕ). let x : PlainLibrary = record {
      bytes = library_bytes size ms dictionary;
      doubled = doubled_behind [] (names_in size ms);
    } in Ok x) (ok_or o Names) ≡ Ok l
    → IsReadOf asked members l.bytes
kept_by asked a members ms size l None is are fits at same =
    absurd (let z : ◌≡◌ {A = Result PlainLibrary LibrarianFault} (Err Names) (Ok l) = same in cc)
kept_by asked a members ms size l (Some d) is are fits at same =
    let e : library_bytes size ms d ≡ l.bytes =
    ap (λ (r : Result PlainLibrary LibrarianFault). elim r [ Ok x ↦ x.bytes | Err x ↦ library_bytes size ms d ]) same in
    let s = sized_is asked a ms size is fits in
    let P : List ℕ → Type 0 = λ b. IsLibraryOf ms size b in
    record {
      modules = ms;
      size = size;
      are_modules = are;
      has_size = ap (result_and_then (λ s. page_size_for s ms)) is ∙ fits;
      library = subst P e (record {
        members = members_all size ms d s (all_whole 0 members ms are);
        found = λ name. found_all size ms d name s at;
      });
    }

kept_size : (asked a : Option ℕ) (members ms : List (List ℕ)) (l : PlainLibrary) (r : Result ℕ LibrarianFault)
    → asked_size asked ≡ Ok a → modules_from 0 members ≡ Ok ms → page_size_for a ms ≡ r
    → result_and_then (library_with ms) r ≡ Ok l → IsReadOf asked members l.bytes
kept_size asked a members ms l (Err e) is are at same =
    absurd (let z : ◌≡◌ {A = Result PlainLibrary LibrarianFault} (Err e) (Ok l) = same in cc)
kept_size asked a members ms l (Ok size) is are at same =
    kept_by asked a members ms size l (dictionary_of (entries_behind [] (names_in size ms))) is are at refl same

kept_modules : (asked a : Option ℕ) (members : List (List ℕ)) (l : PlainLibrary)
    (r : Result (List (List ℕ)) LibrarianFault)
    → asked_size asked ≡ Ok a → modules_from 0 members ≡ r
    → result_and_then (λ modules. result_and_then (library_with modules) (page_size_for a modules)) r ≡ Ok l
    → IsReadOf asked members l.bytes
kept_modules asked a members l (Err e) is at same =
    absurd (let z : ◌≡◌ {A = Result PlainLibrary LibrarianFault} (Err e) (Ok l) = same in cc)
kept_modules asked a members l (Ok ms) is at same = kept_size asked a members ms l (page_size_for a ms) is at refl same

kept_asked : (asked : Option ℕ) (members : List (List ℕ)) (l : PlainLibrary) (r : Result (Option ℕ) LibrarianFault)
    → asked_size asked ≡ r
    → result_and_then (λ size. result_and_then (λ modules.
    result_and_then (library_with modules) (page_size_for size modules)) (modules_from 0 members)) r ≡ Ok l
    → IsReadOf asked members l.bytes
kept_asked asked members l (Err e) at same =
    absurd (let z : ◌≡◌ {A = Result PlainLibrary LibrarianFault} (Err e) (Ok l) = same in cc)
kept_asked asked members l (Ok a) at same = kept_modules asked a members l (modules_from 0 members) at refl same

pub read_of : (asked : Option ℕ) (members : List (List ℕ)) (l : PlainLibrary) → library_of asked members ≡ Ok l
    → IsReadOf asked members l.bytes
unfolding library_of
read_of asked members l is = kept_asked asked members l (asked_size asked) refl is

pub read_by : {A : Type 0} (asked : Option ℕ) (members : List (List ℕ)) (r : Result (lent.Library A) LibrarianFault)
    → Answers library_said r (library_of asked members) → IfOk r (λ l. IsReadOf asked members l.bytes.items)
read_by asked members (Err e) h = tt
read_by asked members (Ok l) h = read_of asked members (library_said l) h
