-- A file that was written is read as the program, and loads as the program moved.
use Rattle.std.proofs.Common.{◌≡◌, ◌≢◌, ℕ, ◌+◌, ◌-◌, ◌*◌, ◌/◌, ◌%◌, ◌<◌, ◌≤◌, true, not, ◌==◌, cond, zero, suc, List}
use Rattle.std.proofs.Common.{[], ◌∷◌, ◌++◌, map, set, take, drop, length, get_or, refl, subst, ap, ◌∙◌, sym, arith}
use Rattle.std.proofs.Common.{inl, inr, Result, Ok, Err}
use Rattle.std.specs.Prelude.{nat_le}
use Rattle.std.specs.List.{list_all, AllByRecursion}
use Rattle.std.proofs.lemmas.List.{append_assoc, length-append, length-replicate, length-take-le, get_or-take, drop_at}
use Rattle.std.proofs.lemmas.List.{get_or-append-add}
use Rattle.std.proofs.lemmas.List.Elements.{recursion_from_All}
use Rattle.std.proofs.lemmas.Bool.{cases_Bool, eqb-true, eqb-false, cond-true, cond-false, and_from, or_right, le-leb}
use Rattle.std.proofs.lemmas.Bool.{ne_eqb, not_from_false}
use Rattle.omf_image.specs.Registers.{moved as registers_moved}
use Rattle.omf_image.specs.Words.{word_at, put_word, add_word, add_words}
use Rattle.omf_image.specs.Program.{Program, IsProgram}
use Rattle.mz.specs.declared.format.Header.{Header}
use Rattle.mz.specs.declared.format.Entry.{Entry}
use Rattle.mz.specs.declared.fault.FileFault.{FileFault}
use Rattle.mz.specs.declared.fault.FileFault.TheVariants.{RelocationOutside, DoesNotFit}
use Rattle.mz.specs.Header.{magic, header_at, header_len, told_len, is_accepted, entry_address, is_inside}
use Rattle.mz.specs.inside.Format.{has_table_inside}
use Rattle.mz.specs.inside.Format.{header_bytes, entry_bytes}
use Rattle.mz.specs.File.{paragraphs, file_image, file_len, header_of, entry_of, table_bytes, padding, file_bytes}
use Rattle.mz.specs.File.{MzFile}
use Rattle.mz.specs.Reading.{entries_at, file_of, reading}
use Rattle.mz.specs.inside.Steps.{file_in}
use Rattle.mz.specs.Loading.{Loaded, loaded, needed_len, loading}
use Rattle.mz.specs.Laws.{memory_len}
use Rattle.mz.specs.Laws.{Fits, memory, moved, as_file}
use Rattle.mz.proofs.Taken.{header_at-append, file_agrees, reads_accepted, whole_behind}
use Rattle.mz.proofs.Placing.{does_fit, does_not_fit}

pub word_back : (w : ℕ) → w < 65536 → w % 256 + 256 * (w / 256 % 256) ≡ w
word_back w h = omega arith

-- the length of a file by its pages
whole_pages : (len : ℕ) → len % 512 ≡ 0 → 512 * ((len + 511) / 512) ≡ len
whole_pages len h = omega arith

parted_pages : (len : ℕ) → len % 512 ≢ 0 → 512 * ((len + 511) / 512 - 1) + len % 512 ≡ len
parted_pages len h = omega arith

len_back : (len : ℕ)
    → cond (len % 512 == 0) (512 * ((len + 511) / 512)) (512 * ((len + 511) / 512 - 1) + len % 512) ≡ len
len_back len = elim (cases_Bool (len % 512 == 0)) [
  | inl t ↦ cond-true (len % 512 == 0) _ _ t ∙ whole_pages len (eqb-true (len % 512) 0 t)
  | inr t ↦ cond-false (len % 512 == 0) _ _ t ∙ parted_pages len (eqb-false (len % 512) 0 t)
]

pub told_len-header_of : (p : Program) → told_len (header_of p) ≡ file_len p
told_len-header_of p = len_back (file_len p)

length-table : (rs : List ℕ) → length (table_bytes rs) ≡ 4 * length rs
length-table [] = refl
length-table (r ∷ rs) = omega (arith, length-table rs)

entry : ℕ → ℕ → Entry
entry a b = record { offset = a; segment = b }

-- the table, behind some bytes, is read as its entries
entries_back : (pre rs post : List ℕ) → AllByRecursion (λ r. r < 1048576) rs
    → entries_at (length rs) (length pre) (pre ++ (table_bytes rs ++ post)) ≡ map entry_of rs
unfolding entry
entries_back pre [] post h = refl
entries_back pre (r ∷ rs) post h =
    let e = entry_of r in
    let tail = table_bytes rs ++ post in
    let four = entry_bytes e in
    let b = pre ++ (four ++ tail) in
    let byte : (i k : ℕ) → k ≡ length pre + i → get_or b k 0 ≡ get_or (four ++ tail) i 0 =
    λ i k same. ap (λ (n : ℕ). get_or b n 0) same ∙ get_or-append-add pre (four ++ tail) i 0 in
    let b0 = byte 0 (length pre) (omega arith) in
    let b1 = byte 1 (length pre + 1) (omega arith) in
    let b2 = byte 2 (length pre + 2) (omega arith) in
    let b3 = byte 3 (length pre + 2 + 1) (omega arith) in
    let low : word_at b (length pre) ≡ r % 16 = omega (arith, b0, b1) in
    let high : word_at b (length pre + 2) ≡ r / 16 = omega (arith, b2, b3, h.0) in
    let longer : length (pre ++ four) ≡ length pre + 4 = length-append pre four in
    let behind : entries_at (length rs) (length pre + 4) b ≡ map entry_of rs =
    ap (λ (n : ℕ). entries_at (length rs) n b) (sym longer)
    ∙ ap (entries_at (length rs) (length (pre ++ four))) (sym (append_assoc pre four tail))
    ∙ entries_back (pre ++ four) rs post h.1 in
    ap (λ (x : ℕ). entry x (word_at b (length pre + 2)) ∷ entries_at (length rs) (length pre + 4) b) low
    ∙ ap (λ (x : ℕ). entry (r % 16) x ∷ entries_at (length rs) (length pre + 4) b) high
    ∙ ap (λ (l : List Entry). e ∷ l) behind

-- the words of a header fit
record WordsFit (h : Header) : Type 0 where
  last_page_bytes : h.last_page_bytes < 65536
  pages : h.pages < 65536
  relocation_count : h.relocation_count < 65536
  header_paragraphs : h.header_paragraphs < 65536
  least_extra_paragraphs : h.least_extra_paragraphs < 65536
  greatest_extra_paragraphs : h.greatest_extra_paragraphs < 65536
  ss : h.registers.ss < 65536
  sp : h.registers.sp < 65536
  checksum : h.checksum < 65536
  ip : h.registers.ip < 65536
  cs : h.registers.cs < 65536
  relocation_table : h.relocation_table < 65536
  overlay : h.overlay < 65536

-- the number that a word's bytes are read as
abbrev read_back : ℕ → ℕ
read_back w = w % 256 + 256 * (w / 256 % 256)

abbrev made : (x0 x1 x2 x3 x4 x5 x6 x7 x8 x9 x10 x11 x12 : ℕ) → Header
made x0 x1 x2 x3 x4 x5 x6 x7 x8 x9 x10 x11 x12 = record {
  last_page_bytes = x0;
  pages = x1;
  relocation_count = x2;
  header_paragraphs = x3;
  least_extra_paragraphs = x4;
  greatest_extra_paragraphs = x5;
  registers = record { cs = x10; ip = x9; ss = x6; sp = x7 };
  checksum = x8;
  relocation_table = x11;
  overlay = x12;
}

-- a header is read from its bytes
header_back : (h : Header) (tail : List ℕ) → WordsFit h → header_at (header_bytes h ++ tail) ≡ h
unfolding header_at
header_back h tail fit =
    ap (λ (x : ℕ).
    made x (read_back h.pages) (read_back h.relocation_count) (read_back h.header_paragraphs)
    (read_back h.least_extra_paragraphs) (read_back h.greatest_extra_paragraphs) (read_back h.registers.ss)
    (read_back h.registers.sp)
    (read_back h.checksum) (read_back h.registers.ip) (read_back h.registers.cs) (read_back h.relocation_table)
    (read_back h.overlay))
    (word_back h.last_page_bytes fit.last_page_bytes)
    ∙ ap
    (λ (x : ℕ).
    made h.last_page_bytes x (read_back h.relocation_count) (read_back h.header_paragraphs)
    (read_back h.least_extra_paragraphs) (read_back h.greatest_extra_paragraphs) (read_back h.registers.ss)
    (read_back h.registers.sp)
    (read_back h.checksum) (read_back h.registers.ip) (read_back h.registers.cs) (read_back h.relocation_table)
    (read_back h.overlay))
    (word_back h.pages fit.pages)
    ∙ ap
    (λ (x : ℕ).
    made h.last_page_bytes h.pages x (read_back h.header_paragraphs) (read_back h.least_extra_paragraphs)
    (read_back h.greatest_extra_paragraphs) (read_back h.registers.ss) (read_back h.registers.sp) (read_back h.checksum)
    (read_back h.registers.ip)
    (read_back h.registers.cs) (read_back h.relocation_table) (read_back h.overlay))
    (word_back h.relocation_count fit.relocation_count)
    ∙ ap
    (λ (x : ℕ).
    made h.last_page_bytes h.pages h.relocation_count x (read_back h.least_extra_paragraphs)
    (read_back h.greatest_extra_paragraphs) (read_back h.registers.ss) (read_back h.registers.sp) (read_back h.checksum)
    (read_back h.registers.ip)
    (read_back h.registers.cs) (read_back h.relocation_table) (read_back h.overlay))
    (word_back h.header_paragraphs fit.header_paragraphs)
    ∙ ap
    (λ (x : ℕ).
    made h.last_page_bytes h.pages h.relocation_count h.header_paragraphs x (read_back h.greatest_extra_paragraphs)
    (read_back h.registers.ss) (read_back h.registers.sp) (read_back h.checksum) (read_back h.registers.ip)
    (read_back h.registers.cs)
    (read_back h.relocation_table) (read_back h.overlay))
    (word_back h.least_extra_paragraphs fit.least_extra_paragraphs)
    ∙ ap
    (λ (x : ℕ).
    made h.last_page_bytes h.pages h.relocation_count h.header_paragraphs h.least_extra_paragraphs x
    (read_back h.registers.ss)
    (read_back h.registers.sp) (read_back h.checksum) (read_back h.registers.ip) (read_back h.registers.cs)
    (read_back h.relocation_table)
    (read_back h.overlay)) (word_back h.greatest_extra_paragraphs fit.greatest_extra_paragraphs)
    ∙ ap
    (λ (x : ℕ).
    made h.last_page_bytes h.pages h.relocation_count h.header_paragraphs h.least_extra_paragraphs
    h.greatest_extra_paragraphs x (read_back h.registers.sp) (read_back h.checksum) (read_back h.registers.ip)
    (read_back h.registers.cs)
    (read_back h.relocation_table) (read_back h.overlay)) (word_back h.registers.ss fit.ss)
    ∙ ap
    (λ (x : ℕ).
    made h.last_page_bytes h.pages h.relocation_count h.header_paragraphs h.least_extra_paragraphs
    h.greatest_extra_paragraphs h.registers.ss x (read_back h.checksum) (read_back h.registers.ip)
    (read_back h.registers.cs)
    (read_back h.relocation_table) (read_back h.overlay)) (word_back h.registers.sp fit.sp)
    ∙ ap
    (λ (x : ℕ).
    made h.last_page_bytes h.pages h.relocation_count h.header_paragraphs h.least_extra_paragraphs
    h.greatest_extra_paragraphs h.registers.ss h.registers.sp x (read_back h.registers.ip) (read_back h.registers.cs)
    (read_back h.relocation_table)
    (read_back h.overlay)) (word_back h.checksum fit.checksum)
    ∙ ap
    (λ (x : ℕ).
    made h.last_page_bytes h.pages h.relocation_count h.header_paragraphs h.least_extra_paragraphs
    h.greatest_extra_paragraphs h.registers.ss h.registers.sp h.checksum x (read_back h.registers.cs)
    (read_back h.relocation_table)
    (read_back h.overlay)) (word_back h.registers.ip fit.ip)
    ∙ ap
    (λ (x : ℕ).
    made h.last_page_bytes h.pages h.relocation_count h.header_paragraphs h.least_extra_paragraphs
    h.greatest_extra_paragraphs h.registers.ss h.registers.sp h.checksum h.registers.ip x (read_back h.relocation_table)
    (read_back h.overlay))
    (word_back h.registers.cs fit.cs)
    ∙ ap
    (λ (x : ℕ).
    made h.last_page_bytes h.pages h.relocation_count h.header_paragraphs h.least_extra_paragraphs
    h.greatest_extra_paragraphs h.registers.ss h.registers.sp h.checksum h.registers.ip h.registers.cs x
    (read_back h.overlay))
    (word_back h.relocation_table fit.relocation_table)
    ∙ ap
    (λ (x : ℕ).
    made h.last_page_bytes h.pages h.relocation_count h.header_paragraphs h.least_extra_paragraphs
    h.greatest_extra_paragraphs h.registers.ss h.registers.sp h.checksum h.registers.ip h.registers.cs
    h.relocation_table x) (word_back h.overlay fit.overlay)

all_inside : (n : ℕ) (rs : List ℕ) → AllByRecursion (λ r. r + 2 ≤ n) rs
    → list_all (is_inside n) (map entry_of rs) ≡ true
all_inside n [] h = refl
all_inside n (r ∷ rs) h =
    let e = entry_of r in
    let in_segment : e.offset ≢ 65535 = λ x. omega (arith, x) in
    let in_image : entry_address e + 2 ≤ n = omega (arith, h.0) in
    and_from (is_inside n e) (list_all (is_inside n) (map entry_of rs))
    (and_from (not (e.offset == 65535)) (nat_le (entry_address e + 2) n)
    (not_from_false (e.offset == 65535) (ne_eqb e.offset 65535 in_segment)) (le-leb (entry_address e + 2) n in_image))
    (all_inside n rs h.1)

pub addresses_back : (rs : List ℕ) → map entry_address (map entry_of rs) ≡ rs
addresses_back [] = refl
addresses_back (r ∷ rs) =
    let here : 16 * (r / 16) + r % 16 ≡ r = omega arith in
    ap (λ (a : ℕ). a ∷ map entry_address (map entry_of rs)) here ∙ ap (λ (l : List ℕ). r ∷ l) (addresses_back rs)

low_enough : (n : ℕ) (rs : List ℕ) → n ≤ 1048560 → AllByRecursion (λ r. r + 2 ≤ n) rs
    → AllByRecursion (λ r. r < 1048576) rs
low_enough n [] k h = tt
low_enough n (r ∷ rs) k h = (omega (arith, h.0), low_enough n rs k h.1)

set_front : (w : ℕ) (xs : List ℕ) (i v : ℕ) → i < w → set (take w xs) i v ≡ take w (set xs i v)
set_front zero xs i v h = absurd (omega (arith, h))
set_front (suc w) [] i v h = refl
set_front (suc w) (x ∷ xs) zero v h = refl
set_front (suc w) (x ∷ xs) (suc i) v h = ap (λ (l : List ℕ). x ∷ l) (set_front w xs i v (omega (arith, h)))

-- additions to words of a front of a list leave its front's length
add_word_front : (v w i : ℕ) (xs : List ℕ) → i + 2 ≤ w → add_word v i (take w xs) ≡ take w (add_word v i xs)
unfolding add_word put_word
add_word_front v w i xs h =
    let put : ℕ → List ℕ = λ n. set (set (take w xs) i (n % 65536 % 256)) (i + 1) (n % 65536 / 256) in
    let n = word_at xs i + v in
    let low = get_or-take w xs i 0 (omega (arith, h)) in
    let high = get_or-take w xs (i + 1) 0 (omega (arith, h)) in
    let same : word_at (take w xs) i + v ≡ n = omega (arith, low, high) in
    ap put same
    ∙ ap (λ (l : List ℕ). set l (i + 1) (n % 65536 / 256)) (set_front w xs i (n % 65536 % 256) (omega (arith, h)))
    ∙ set_front w (set xs i (n % 65536 % 256)) (i + 1) (n % 65536 / 256) (omega (arith, h))

add_words_front : (v w : ℕ) (rs xs : List ℕ) → AllByRecursion (λ r. r + 2 ≤ w) rs
    → add_words v rs (take w xs) ≡ take w (add_words v rs xs)
add_words_front v w [] xs h = refl
add_words_front v w (r ∷ rs) xs h =
    ap (add_words v rs) (add_word_front v w r xs h.0) ∙ add_words_front v w rs (add_word v r xs) h.1

module _ (p : Program) (w : IsProgram p) where
  n : ℕ
  n = length p.relocations

  head : List ℕ
  head = header_bytes (header_of p)

  words_fit : WordsFit (header_of p)
  words_fit = record {
    last_page_bytes = omega arith;
    pages = omega (arith, w.few, w.written, w.short);
    relocation_count = omega (arith, w.few);
    header_paragraphs = omega (arith, w.few);
    least_extra_paragraphs = omega (arith, w.short);
    greatest_extra_paragraphs = omega arith;
    ss = w.words.2;
    sp = w.words.3;
    checksum = omega arith;
    ip = w.words.1;
    cs = w.words.0;
    relocation_table = omega arith;
    overlay = omega arith;
  }

  in_two : file_bytes p ≡ head ++ (table_bytes p.relocations ++ (padding p ++ file_image p))
  unfolding file_bytes head
  in_two =
      append_assoc (head ++ table_bytes p.relocations) (padding p) (file_image p)
      ∙ append_assoc head (table_bytes p.relocations) (padding p ++ file_image p)

  header_is : header_at (file_bytes p) ≡ header_of p
  unfolding head
  header_is =
      ap header_at in_two
      ∙ header_back (header_of p) (table_bytes p.relocations ++ (padding p ++ file_image p)) words_fit

  magic_is : word_at (file_bytes p) 0 ≡ magic
  unfolding file_bytes
  magic_is = refl

  front : List ℕ
  front = header_bytes (header_of p) ++ table_bytes p.relocations ++ padding p

  length-front : length front ≡ 16 * paragraphs (length p.relocations)
  unfolding front
  length-front =
      let m = length p.relocations in
      let a : length (header_bytes (header_of p) ++ table_bytes p.relocations ++ padding p)
      ≡ length (header_bytes (header_of p) ++ table_bytes p.relocations) + length (padding p) =
      length-append (header_bytes (header_of p) ++ table_bytes p.relocations) (padding p) in
      let b : length (header_bytes (header_of p) ++ table_bytes p.relocations)
      ≡ 28 + length (table_bytes p.relocations) =
      length-append (header_bytes (header_of p)) (table_bytes p.relocations) in
      let c : length (padding p) ≡ 16 * paragraphs m - (28 + 4 * m) =
      length-replicate (16 * paragraphs m - (28 + 4 * m)) 0 in
      omega (arith, a, b, c, length-table p.relocations)

  length-image : length (file_image p) ≡ p.written
  length-image = length-take-le p.written p.image w.written

  pub length-written : length (file_bytes p) ≡ file_len p
  unfolding file_bytes front
  length-written =
      length-append front (file_image p) ∙ ap (λ (k : ℕ). k + length (file_image p)) length-front
      ∙ ap (λ (k : ℕ). 16 * paragraphs (length p.relocations) + k) length-image

  image_is : drop (16 * paragraphs (length p.relocations)) (file_bytes p) ≡ file_image p
  unfolding file_bytes front
  image_is = drop_at front (file_image p) (16 * paragraphs (length p.relocations)) length-front

  below : AllByRecursion (λ r. r + 2 ≤ p.written) p.relocations
  below = recursion_from_All (λ r. r + 2 ≤ p.written) p.relocations w.inside

  inside : AllByRecursion (λ r. r + 2 ≤ length (file_image p)) p.relocations
  inside = subst (λ (n : ℕ). AllByRecursion (λ r. r + 2 ≤ n) p.relocations) (sym length-image) below

  entries_are : entries_at (length p.relocations) 28 (file_bytes p) ≡ map entry_of p.relocations
  unfolding head
  entries_are =
      ap (entries_at (length p.relocations) 28) in_two
      ∙ entries_back head p.relocations (padding p ++ file_image p)
      (low_enough p.written p.relocations (omega (arith, w.written, w.short)) below)

  accepted : is_accepted (header_of p) ≡ true
  accepted =
      let h = header_of p in
      let told = told_len-header_of p in
      and_from _ _
      (and_from _ _
      (and_from _ _ (and_from _ _ (le-leb 1 h.pages (omega arith)) (le-leb h.last_page_bytes 511 (omega arith)))
      (le-leb 28 (header_len h) (omega arith))) (le-leb (header_len h) (told_len h) (omega arith)))
      (or_right (h.relocation_count == 0) (has_table_inside h)
      (and_from _ _ (le-leb 28 h.relocation_table (omega arith))
      (le-leb (h.relocation_table + 4 * h.relocation_count) (header_len h) (omega arith))))

  file_is : file_in (header_of p) (file_bytes p) ≡ Ok (as_file p)
  file_is =
      let h = header_of p in
      let answer : List Entry → List ℕ → Result MzFile FileFault =
      λ es bs.
      cond (list_all (is_inside (length bs)) es) (Ok (record { header = h; entries = es; image = bs }))
      (Err RelocationOutside) in
      ap (λ (es : List Entry). answer es (drop (header_len h) (file_bytes p))) entries_are
      ∙ ap (answer (map entry_of p.relocations)) image_is
      ∙ cond-true _ _ _ (all_inside (length (file_image p)) p.relocations inside)

  pub reads_back : (rest : List ℕ) → reading (file_bytes p ++ rest) ≡ Ok (as_file p)
  reads_back rest =
      let b = file_bytes p in
      let long : 28 ≤ length b = omega (arith, length-written) in
      let header : header_at (b ++ rest) ≡ header_of p = header_at-append b rest long ∙ header_is in
      reads_accepted b rest long magic_is (ap is_accepted header_is ∙ accepted)
      ∙ whole_behind b rest (header_of p) header accepted (length-written ∙ sym (told_len-header_of p))
      ∙ file_is

  pub tells_length : (rest : List ℕ) → told_len (header_at (file_bytes p ++ rest)) ≡ length (file_bytes p)
  tells_length rest =
      let long : 28 ≤ length (file_bytes p) = omega (arith, length-written) in
      ap told_len (header_at-append (file_bytes p) rest long ∙ header_is) ∙ told_len-header_of p ∙ sym length-written

  loaded_back : (P : ℕ) → loaded P (as_file p) ≡ moved P p
  unfolding loaded
  loaded_back P =
      let made : List ℕ → Loaded = λ bs. record { bytes = bs; registers = registers_moved P p.registers } in
      ap (λ (rs : List ℕ). made (add_words P rs (file_image p))) (addresses_back p.relocations)
      ∙ ap made (add_words_front P p.written p.relocations p.image below)

  -- the header asks for memory up to the end of the program's last paragraph
  needed_is : needed_len (as_file p) ≡ 16 * ((length p.image + 15) / 16)
  needed_is = omega (arith, length-image, w.written)

  pub loads_back : (P : ℕ) → Fits P p → loading P (as_file p) ≡ Ok (moved P p)
  loads_back P fits =
      let answer : Loaded → Result Loaded FileFault = λ l. Ok l in
      does_fit P (as_file p) (omega (arith, needed_is, fits)) ∙ ap answer (loaded_back P)

  pub refuses : (P : ℕ) → memory_len < 16 * P + length p.image → loading P (as_file p) ≡ Err DoesNotFit
  refuses P above = does_not_fit P (as_file p) (omega (arith, needed_is, above))

  pub memory_back : (rest : List ℕ) (P : ℕ) → memory P (file_bytes p ++ rest) ≡ moved P p
  memory_back rest P =
      let b = file_bytes p in
      let h = header_of p in
      let long : 28 ≤ length b = omega (arith, length-written) in
      let header : header_at (b ++ rest) ≡ h = header_at-append b rest long ∙ header_is in
      let with : List Entry → List ℕ → MzFile = λ es bs. record { header = h; entries = es; image = bs } in
      let file : file_of (b ++ rest) ≡ as_file p =
      file_agrees b rest h header accepted (length-written ∙ sym (told_len-header_of p))
      ∙ ap (λ (es : List Entry). with es (drop (header_len h) b)) entries_are
      ∙ ap (with (map entry_of p.relocations)) image_is in
      ap (loaded P) file ∙ loaded_back P
