-- A limit of the memory behind an EXE file's image: what is read and loaded of the file is the same, but that word.
use Rattle.std.proofs.Common.{◌≡◌, ◌≢◌, ℕ, zero, suc, ◌+◌, ◌*◌, ◌/◌, ◌%◌, ◌<◌, ◌≤◌, ◌⊎◌, Bool, true, false, not, cond}
use Rattle.std.proofs.Common.{◌&&◌, ◌||◌, ◌==◌, List, [], ◌∷◌, set, get_or, length, take, drop, Result, Ok, Err, refl}
use Rattle.std.proofs.Common.{sym, ap, ap₂, ◌∙◌, subst, arith, inl, inr, append-nil}
use Rattle.std.specs.Prelude.{nat_le, nat_lt}
use Rattle.std.specs.List.{list_all}
use Rattle.std.proofs.lemmas.Bool.{and_cases, and_parts, cases_lt, cond-false, eqb-true, leb-false, leb-true}
use Rattle.std.proofs.lemmas.Bool.{ltb-false, not-false, or_cases, or_parts}
use Rattle.std.proofs.lemmas.List.{get_or-set_other, length-set, take-set-le, drop-set-lt}
use lib.Seq.{take-set-lt}
use Rattle.omf_module.specs.Module.{Module}
use Rattle.omf_place.specs.Layout.{Layout}
use Rattle.omf_place.specs.declared.names.Names.{Names}
use Rattle.omf_image.specs.Program.{Program}
use Rattle.omf_image.specs.Words.{put_word, word_at}
use Rattle.mz.specs.declared.fault.FileFault.{FileFault}
use Rattle.mz.specs.declared.fault.FileFault.TheVariants as fault
use Rattle.mz.specs.declared.format.Entry.{Entry}
use Rattle.mz.specs.declared.format.Header.{Header}
use Rattle.mz.specs.File.{Mz, MzFile, file_bytes}
use Rattle.mz.specs.Header.{magic, header_at, header_len, told_len, is_accepted, is_inside}
use Rattle.mz.specs.Laws.{as_file}
use Rattle.mz.specs.Loading.{Loaded, loaded, loading}
use Rattle.mz.specs.Reading.{entries_at, file_of, reading}
use Rattle.mz.proofs.Accepting.{words_within}
use Rattle.mz.proofs.Written.{reads_back}
use Rattle.omf_commands.specs.Linking.{HoldsAtEachParagraph, HoldsProgram}

-- ---- the words of the changed file

pub same_length : (f : List ℕ) (v : ℕ) → length (put_word f 12 v) ≡ length f
unfolding put_word
same_length f v = length-set (set f 12 (v % 256)) 13 (v / 256) ∙ length-set f 12 (v % 256)

-- the other words stay
same_word : (f : List ℕ) (v k : ℕ) → (k + 2 ≤ 12) ⊎ (14 ≤ k) → word_at (put_word f 12 v) k ≡ word_at f k
unfolding put_word
same_word f v k away =
    let one : List ℕ = set f 12 (v % 256) in
    let same : (j : ℕ) → j ≢ 12 → j ≢ 13 → get_or (set one 13 (v / 256)) j 0 ≡ get_or f j 0 =
    λ j a b. get_or-set_other one 13 j (v / 256) 0 b ∙ get_or-set_other f 12 j (v % 256) 0 a in
    let other : (j : ℕ) → (j < 12) ⊎ (14 ≤ j) → get_or (set one 13 (v / 256)) j 0 ≡ get_or f j 0 =
    λ j h. same j (λ e. omega (arith, e, h)) (λ e. omega (arith, e, h)) in
    let low : get_or (set one 13 (v / 256)) k 0 ≡ get_or f k 0 =
    other k (elim away [ inl h ↦ inl (omega (arith, h)) | inr h ↦ inr h ]) in
    let high : get_or (set one 13 (v / 256)) (k + 1) 0 ≡ get_or f (k + 1) 0 =
    other (k + 1) (elim away [ inl h ↦ inl (omega (arith, h)) | inr h ↦ inr (omega (arith, h)) ]) in
    omega (arith, low, high)

-- a header, and what a file holds, with another limit
abbrev limited_header : (most : ℕ) → Header → Header
limited_header most h = record h { greatest_extra_paragraphs = most }

abbrev limited_held : (most : ℕ) → MzFile → MzFile
limited_held most x = record x { header = limited_header most x.header }

-- the limit that stands in the changed file
abbrev limit : (f : List ℕ) (v : ℕ) → ℕ
limit f v = word_at (put_word f 12 v) 12

same_header : (f : List ℕ) (v : ℕ) → header_at (put_word f 12 v) ≡ limited_header (limit f v) (header_at f)
unfolding header_at
same_header f v =
    let a = same_word f v 2 (inl (omega arith)) in
    let b = same_word f v 4 (inl (omega arith)) in
    let c = same_word f v 6 (inl (omega arith)) in
    let d = same_word f v 8 (inl (omega arith)) in
    let e = same_word f v 10 (inl (omega arith)) in
    let g = same_word f v 14 (inr (omega arith)) in
    let i = same_word f v 16 (inr (omega arith)) in
    let j = same_word f v 18 (inr (omega arith)) in
    let k = same_word f v 20 (inr (omega arith)) in
    let l = same_word f v 22 (inr (omega arith)) in
    let m = same_word f v 24 (inr (omega arith)) in
    let n = same_word f v 26 (inr (omega arith)) in
    cc

-- ---- its table and its image, which stand behind the header's words

entry : ℕ → ℕ → Entry
entry a b = record { offset = a; segment = b }

same_entries : (n t : ℕ) (f : List ℕ) (v : ℕ) → 14 ≤ t → entries_at n t (put_word f 12 v) ≡ entries_at n t f
unfolding entry
same_entries zero t f v h = refl
same_entries (suc n) t f v h =
    let g = put_word f 12 v in
    let a = same_word f v t (inr h) in
    let b = same_word f v (t + 2) (inr (omega arith)) in
    let c = same_entries n (t + 4) f v (omega arith) in
    ap (λ (x : ℕ). entry x (word_at g (t + 2)) ∷ entries_at n (t + 4) g) a
    ∙ ap (λ (x : ℕ). entry (word_at f t) x ∷ entries_at n (t + 4) g) b
    ∙ ap (λ (l : List Entry). entry (word_at f t) (word_at f (t + 2)) ∷ l) c

same_behind : (n m : ℕ) (l : List ℕ) (i a : ℕ) → i < n → drop n (take m (set l i a)) ≡ drop n (take m l)
same_behind n m l i a h = elim (cases_lt i m) [
  | inl inside ↦ ap (drop n) (take-set-lt m l i a inside) ∙ drop-set-lt n (take m l) i a h
  | inr outside ↦ ap (drop n) (take-set-le m l i a outside)
]

same_image : (n m : ℕ) (f : List ℕ) (v : ℕ) → 14 ≤ n → drop n (take m (put_word f 12 v)) ≡ drop n (take m f)
unfolding put_word
same_image n m f v h =
    same_behind n m (set f 12 (v % 256)) 13 (v / 256) (omega arith) ∙ same_behind n m f 12 (v % 256) (omega arith)

-- the table of an accepted header, where there is one, begins behind the header's words
table_behind : (h : Header) → is_accepted h ≡ true → (h.relocation_count ≡ 0) ⊎ (28 ≤ h.relocation_table)
table_behind h e =
    let pages = nat_le 1 h.pages && nat_le h.last_page_bytes 511 in
    let inner = pages && nat_le 28 (header_len h) && nat_le (header_len h) (told_len h) in
    let ends = nat_le (h.relocation_table + 4 * h.relocation_count) (header_len h) in
    let outer = and_parts inner ((h.relocation_count == 0) || (nat_le 28 h.relocation_table && ends)) e in
    elim (or_cases (h.relocation_count == 0) (nat_le 28 h.relocation_table && ends) outer.1) [
      | inl none ↦ inl (eqb-true h.relocation_count 0 none)
      | inr inside ↦ inr (leb-true 28 h.relocation_table (and_parts (nat_le 28 h.relocation_table) ends inside).0)
    ]

same_held : (f : List ℕ) (v : ℕ) → is_accepted (header_at f) ≡ true
    → file_of (put_word f 12 v) ≡ limited_held (limit f v) (file_of f)
unfolding file_of
same_held f v accepted =
    let g = put_word f 12 v in
    let h = header_at f in
    let n = h.relocation_count in
    let t = h.relocation_table in
    let made : Header → MzFile =
    λ k. record {
      header = k;
      entries = entries_at k.relocation_count k.relocation_table g;
      image = drop (header_len k) (take (told_len k) g);
    } in
    let with : List Entry → List ℕ → MzFile =
    λ es bytes. record { header = limited_header (limit f v) h; entries = es; image = bytes } in
    let table : entries_at n t g ≡ entries_at n t f = elim (table_behind h accepted) [
      | inl none ↦ ap (λ (m : ℕ). entries_at m t g) none ∙ sym (ap (λ (m : ℕ). entries_at m t f) none)
      | inr behind ↦ same_entries n t f v (omega (arith, behind))
    ] in
    let image : drop (header_len h) (take (told_len h) g) ≡ drop (header_len h) (take (told_len h) f) =
    same_image (header_len h) (told_len h) f v (omega (arith, words_within h accepted)) in
    ap made (same_header f v)
    ∙ ap (λ (es : List Entry). with es (drop (header_len h) (take (told_len h) g))) table
    ∙ ap (with (entries_at n t f)) image

-- ---- what is read and loaded of it

abbrev wrong_magic : (len word : ℕ) → Bool
wrong_magic len word = nat_le 2 len && not (word == magic)

abbrev wrong_header : (len : ℕ) → Header → Bool
wrong_header len h = nat_le 28 len && not (is_accepted h)

abbrev is_cut : (len : ℕ) → Header → Bool
is_cut len h = nat_lt len 28 || nat_lt len (told_len h)

abbrev is_outside : MzFile → Bool
is_outside x = not (list_all (is_inside (length x.image)) x.entries)

-- no fault stands in a file
record IsSound (f : List ℕ) : Type 0 where
  magic : wrong_magic (length f) (word_at f 0) ≡ false
  header : wrong_header (length f) (header_at f) ≡ false
  whole : is_cut (length f) (header_at f) ≡ false
  inside : is_outside (file_of f) ≡ false

passed : (b : Bool) (e : FileFault) (r : Result MzFile FileFault) (x : MzFile) → cond b (Err e) r ≡ Ok x
    → (b ≡ false) × (r ≡ Ok x)
passed false e r x is = (refl, is)
passed true e r x is = absurd (cc)

sound_of : (f : List ℕ) (x : MzFile) → reading f ≡ Ok x → IsSound f
unfolding reading
sound_of f x is =
    let held : Result MzFile FileFault = Ok (file_of f) in
    let last = cond (is_outside (file_of f)) (Err fault.RelocationOutside) held in
    let behind = cond (is_cut (length f) (header_at f)) (Err fault.Truncated) last in
    let second = cond (wrong_header (length f) (header_at f)) (Err fault.Header) behind in
    let a = passed (wrong_magic (length f) (word_at f 0)) fault.Magic second x is in
    let b = passed (wrong_header (length f) (header_at f)) fault.Header behind x a.1 in
    let c = passed (is_cut (length f) (header_at f)) fault.Truncated last x b.1 in
    let d = passed (is_outside (file_of f)) fault.RelocationOutside held x c.1 in
    record { magic = a.0; header = b.0; whole = c.0; inside = d.0 }

reads_sound : (f : List ℕ) → IsSound f → reading f ≡ Ok (file_of f)
unfolding reading
reads_sound f sound =
    cond-false (wrong_magic (length f) (word_at f 0)) _ _ sound.magic
    ∙ cond-false (wrong_header (length f) (header_at f)) _ _ sound.header
    ∙ cond-false (is_cut (length f) (header_at f)) _ _ sound.whole
    ∙ cond-false (is_outside (file_of f)) _ _ sound.inside

-- its header has its words, and is accepted
long_enough : (f : List ℕ) → IsSound f → 28 ≤ length f
long_enough f sound =
    ltb-false (length f) 28 (or_parts (nat_lt (length f) 28) (nat_lt (length f) (told_len (header_at f))) sound.whole).0

accepted : (f : List ℕ) → IsSound f → is_accepted (header_at f) ≡ true
accepted f sound = elim (and_cases (nat_le 28 (length f)) (not (is_accepted (header_at f))) sound.header) [
  | inl short ↦ absurd (omega (arith, leb-false 28 (length f) short, long_enough f sound))
  | inr right ↦ not-false (is_accepted (header_at f)) right
]

-- no more stands in the changed one
still_sound : (f : List ℕ) (v : ℕ) → IsSound f → IsSound (put_word f 12 v)
still_sound f v sound =
    let len = same_length f v in
    let head = same_header f v in
    record {
      magic = ap₂ wrong_magic len (same_word f v 0 (inl (omega arith))) ∙ sound.magic;
      header = ap₂ wrong_header len head ∙ sound.header;
      whole = ap₂ is_cut len head ∙ sound.whole;
      inside = ap is_outside (same_held f v (accepted f sound)) ∙ sound.inside;
    }

same_memory : (paragraph most : ℕ) (x : MzFile) → loaded paragraph (limited_held most x) ≡ loaded paragraph x
unfolding loaded
same_memory paragraph most x = refl

same_loading : (paragraph most : ℕ) (x : MzFile) → loading paragraph (limited_held most x) ≡ loading paragraph x
unfolding loading loaded
same_loading paragraph most x = refl

same_reading : (f : List ℕ) (v : ℕ) (x : MzFile) → IsSound f → reading f ≡ Ok x
    → reading (put_word f 12 v) ≡ Ok (limited_held (limit f v) x)
same_reading f v x sound is =
    let told : Ok (file_of f) ≡ Ok x = sym (reads_sound f sound) ∙ is in
    let held : file_of f ≡ x = cc in
    reads_sound (put_word f 12 v) (still_sound f v sound)
    ∙ ap Ok (same_held f v (accepted f sound) ∙ ap (limited_held (limit f v)) held)

-- ---- the program that it holds

module _ (names : Names) (modules : List Module) (f : List ℕ) (v : ℕ) (sound : IsSound f) where
  -- read and loaded again
  abbrev Gives : (paragraph : ℕ) → Layout → List ℕ → Type 0
  Gives paragraph layout file =
      (mz : MzFile) × (memory : Loaded) × (reading file ≡ Ok mz) × (loading paragraph mz ≡ Ok memory)
      × HoldsProgram paragraph layout modules memory

  same_gives : (paragraph : ℕ) (layout : Layout) → Gives paragraph layout f → Gives paragraph layout (put_word f 12 v)
  same_gives paragraph layout (mz, memory, reads, loads, holds) = (
    limited_held (limit f v) mz,
    memory,
    same_reading f v mz sound reads,
    same_loading paragraph (limit f v) mz ∙ loads,
    holds,
  )

  same_program : HoldsAtEachParagraph names modules f → HoldsAtEachParagraph names modules (put_word f 12 v)
  same_program (layout, placed, holds) =
      let same : (paragraph : ℕ) → loaded paragraph (file_of (put_word f 12 v)) ≡ loaded paragraph (file_of f) =
      λ paragraph. ap (loaded paragraph) (same_held f v (accepted f sound))
      ∙ same_memory paragraph (limit f v) (file_of f) in (
        layout,
        placed,
        λ paragraph. (
          subst (HoldsProgram paragraph layout modules) (sym (same paragraph)) (holds paragraph).0,
          λ fits. same_gives paragraph layout ((holds paragraph).1 fits),
        ),
      )

-- ---- of a program's file

sound_file : (p : Program) (f : List ℕ) → Mz p f → IsSound f
sound_file p f mz =
    sound_of f (as_file p) (ap reading (mz.1 ∙ sym (append-nil (file_bytes p))) ∙ reads_back p mz.0 [])

pub long_file : (p : Program) (f : List ℕ) → Mz p f → 28 ≤ length f
long_file p f mz = long_enough f (sound_file p f mz)

pub limited_holds : (names : Names) (modules : List Module) (p : Program) (f : List ℕ) (v : ℕ) → Mz p f
    → HoldsAtEachParagraph names modules f → HoldsAtEachParagraph names modules (put_word f 12 v)
limited_holds names modules p f v mz holds = same_program names modules f v (sound_file p f mz) holds
