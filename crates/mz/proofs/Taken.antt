-- Reading depends on the bytes that it takes alone.
use Rattle.std.proofs.Common.{◌≡◌, ℕ, zero, suc, ◌+◌, ◌*◌, ◌<◌, ◌≤◌, ◌⊎◌, Bool, true, false, not, ◌&&◌, ◌==◌, List, []}
use Rattle.std.proofs.Common.{◌∷◌, ◌++◌, length, get_or, take, drop, refl, ap, ◌∙◌, sym, arith, inl, inr, Result, Ok}
use Rattle.std.proofs.Common.{Err, append-nil, length-append, cond, subst, le_refl}
use Rattle.std.specs.Prelude.{nat_le, nat_lt}
use Rattle.std.specs.List.{list_all}
use Rattle.std.proofs.lemmas.Bool.{eq-eqb, cases_Bool, cases_lt, and_left, and_right, or_left, or_right, or_from}
use Rattle.std.proofs.lemmas.Bool.{leb-false, le-leb, lt-leb, ltb-true, ltb-false, lt-ltb, le-ltb, not-false, and_cases}
use Rattle.std.proofs.lemmas.Bool.{not_from_true, not_from_false, cond-true, cond-false, cond_both}
use Rattle.std.proofs.lemmas.List.{get_or_append_left, take_at}
use Rattle.omf_image.specs.Words.{word_at}
use Rattle.mz.specs.declared.format.Header.{Header as HeaderWords}
use Rattle.mz.specs.declared.format.Entry.{Entry}
use Rattle.mz.specs.declared.fault.FileFault.{FileFault}
use Rattle.mz.specs.declared.fault.FileFault.TheVariants.{Magic, Header, Truncated, RelocationOutside}
use Rattle.mz.specs.Header.{magic, header_at, header_len, told_len, is_accepted, is_inside}
use Rattle.mz.specs.File.{MzFile}
use Rattle.mz.specs.Reading.{entries_at, file_of, reading, reach}
use Rattle.mz.specs.inside.Steps.{stands}
use Rattle.mz.specs.inside.Steps.{header_in, file_in}
use Rattle.mz.proofs.Accepting.{header_within, words_within, table_within}

pub word_at-append : (xs rest : List ℕ) (i : ℕ) → i + 2 ≤ length xs → word_at (xs ++ rest) i ≡ word_at xs i
word_at-append xs rest i h =
    let low : get_or (xs ++ rest) i 0 ≡ get_or xs i 0 = get_or_append_left xs rest 0 i (omega arith) in
    let high : get_or (xs ++ rest) (i + 1) 0 ≡ get_or xs (i + 1) 0 =
    get_or_append_left xs rest 0 (i + 1) (omega arith) in
    omega (arith, low, high)

pub header_at-append : (xs rest : List ℕ) → 28 ≤ length xs → header_at (xs ++ rest) ≡ header_at xs
unfolding header_at
header_at-append xs rest h =
    let w : (i : ℕ) → i + 2 ≤ 28 → word_at (xs ++ rest) i ≡ word_at xs i =
    λ i k. word_at-append xs rest i (omega arith) in
    let a = w 2 (omega arith) in
    let b = w 4 (omega arith) in
    let c = w 6 (omega arith) in
    let d = w 8 (omega arith) in
    let e = w 10 (omega arith) in
    let f = w 12 (omega arith) in
    let g = w 14 (omega arith) in
    let i = w 16 (omega arith) in
    let j = w 18 (omega arith) in
    let k = w 20 (omega arith) in
    let l = w 22 (omega arith) in
    let m = w 24 (omega arith) in
    let n = w 26 (omega arith) in
    cc

entry : ℕ → ℕ → Entry
entry a b = record { offset = a; segment = b }

pub entries_at-append : (n t : ℕ) (ys rest : List ℕ) → t + 4 * n ≤ length ys
    → entries_at n t (ys ++ rest) ≡ entries_at n t ys
unfolding entry
entries_at-append zero t ys rest h = refl
entries_at-append (suc n) t ys rest h =
    let a = word_at-append ys rest t (omega arith) in
    let b = word_at-append ys rest (t + 2) (omega arith) in
    let c = entries_at-append n (t + 4) ys rest (omega arith) in
    ap (λ (x : ℕ). entry x (word_at (ys ++ rest) (t + 2)) ∷ entries_at n (t + 4) (ys ++ rest)) a
    ∙ ap (λ (x : ℕ). entry (word_at ys t) x ∷ entries_at n (t + 4) (ys ++ rest)) b
    ∙ ap (λ (l : List Entry). entry (word_at ys t) (word_at ys (t + 2)) ∷ l) c

-- enough bytes for the header's words, or all that there are
abbrev pub Enough : List ℕ → List ℕ → Type 0
Enough xs rest = (28 ≤ length xs) ⊎ (rest ≡ [])

pub nothing_more : (xs rest : List ℕ) → rest ≡ [] → xs ++ rest ≡ xs
nothing_more xs rest e = ap (λ l. xs ++ l) e ∙ append-nil xs

-- the test of the first two bytes, and of the header
abbrev pub wrong_magic : List ℕ → Bool
wrong_magic xs = nat_le 2 (length xs) && not (word_at xs 0 == magic)

abbrev pub wrong_header : List ℕ → Bool
wrong_header xs = nat_le 28 (length xs) && not (is_accepted (header_at xs))

magic_same : (xs rest : List ℕ) → Enough xs rest → stands Magic (xs ++ rest) ≡ wrong_magic xs
unfolding stands
magic_same xs rest enough = elim enough [
  | inl h ↦
      let longer : 2 ≤ length (xs ++ rest) = omega (arith, length-append xs rest) in
      ap (λ (b : Bool). b && not (word_at (xs ++ rest) 0 == magic))
      (le-leb 2 (length (xs ++ rest)) longer ∙ sym (le-leb 2 (length xs) (omega arith)))
      ∙ ap (λ (w : ℕ). nat_le 2 (length xs) && not (w == magic)) (word_at-append xs rest 0 (omega arith))
  | inr e ↦ ap wrong_magic (nothing_more xs rest e)
]

header_same : (xs rest : List ℕ) → Enough xs rest → stands Header (xs ++ rest) ≡ wrong_header xs
unfolding stands
header_same xs rest enough = elim enough [
  | inl h ↦
      let longer : 28 ≤ length (xs ++ rest) = omega (arith, length-append xs rest) in
      ap (λ (b : Bool). b && not (is_accepted (header_at (xs ++ rest))))
      (le-leb 28 (length (xs ++ rest)) longer ∙ sym (le-leb 28 (length xs) h))
      ∙ ap (λ (k : HeaderWords). nat_le 28 (length xs) && not (is_accepted k)) (header_at-append xs rest h)
  | inr e ↦ ap wrong_header (nothing_more xs rest e)
]

-- what reading answers where the header has no fault
abbrev pub behind_header : List ℕ → Result MzFile FileFault
behind_header b =
    cond (stands Truncated b) (Err Truncated)
    (cond (stands RelocationOutside b) (Err RelocationOutside) (Ok (file_of b)))

reads_magic : (b : List ℕ) → stands Magic b ≡ true → reading b ≡ Err Magic
unfolding reading stands
reads_magic b t = cond-true (stands Magic b) _ _ t

reads_header : (b : List ℕ) → stands Magic b ≡ false → stands Header b ≡ true → reading b ≡ Err Header
unfolding reading stands
reads_header b f t = cond-false (stands Magic b) _ _ f ∙ cond-true (stands Header b) _ _ t

pub reads_behind : (b : List ℕ) → stands Magic b ≡ false → stands Header b ≡ false → reading b ≡ behind_header b
unfolding reading stands
reads_behind b f k = cond-false (stands Magic b) _ _ f ∙ cond-false (stands Header b) _ _ k

pub reads_truncated : (b : List ℕ) → stands Truncated b ≡ true → behind_header b ≡ Err Truncated
reads_truncated b t = cond-true (stands Truncated b) _ _ t

reads_short : (b : List ℕ) → stands Magic b ≡ false → stands Header b ≡ false → length b < 28
    → reading b ≡ Err Truncated
unfolding stands
reads_short b f k h =
    reads_behind b f k
    ∙ reads_truncated b
    (or_left (nat_lt (length b) 28) (nat_lt (length b) (told_len (header_at b))) (lt-ltb (length b) 28 h))

-- a fault in the first bytes is the file's
pub header_fault : (xs rest : List ℕ) (e : FileFault) → Enough xs rest → header_in xs ≡ Err e
    → reading (xs ++ rest) ≡ Err e
header_fault xs rest e enough given =
    let b = xs ++ rest in
    let other =
    cond (nat_lt (length xs) 28) (Err Truncated) (cond (is_accepted (header_at xs)) (Ok (header_at xs)) (Err Header)) in
    let last = cond (is_accepted (header_at xs)) (Ok (header_at xs)) (Err Header) in
    elim (cases_Bool (wrong_magic xs)) [
      | inl t ↦
          let first : header_in xs ≡ Err Magic = cond-true (wrong_magic xs) (Err Magic) other t in
          let same : Magic ≡ e = cc in
          reads_magic b (magic_same xs rest enough ∙ t) ∙ ap Err same
      | inr f ↦
          let no_magic : stands Magic b ≡ false = magic_same xs rest enough ∙ f in
          let second : header_in xs ≡ other = cond-false (wrong_magic xs) (Err Magic) other f in
          elim (cases_Bool (nat_lt (length xs) 28)) [
            | inl t ↦
                let third : other ≡ Err Truncated = cond-true (nat_lt (length xs) 28) (Err Truncated) last t in
                let same : Truncated ≡ e = cc in
                let short : length xs < 28 = ltb-true (length xs) 28 t in
                let all : rest ≡ [] = elim enough [ inl h ↦ absurd (omega arith) | inr r ↦ r ] in
                let shorter : length b < 28 = omega (arith, ap length (nothing_more xs rest all)) in
                let no_header : stands Header b ≡ false =
                header_same xs rest enough
                ∙ and_left (nat_le 28 (length xs)) (not (is_accepted (header_at xs))) (lt-leb 28 (length xs) short) in
                reads_short b no_magic no_header shorter ∙ ap Err same
            | inr k ↦
                let third : other ≡ last = cond-false (nat_lt (length xs) 28) (Err Truncated) last k in
                let long : 28 ≤ length xs = ltb-false (length xs) 28 k in
                elim (cases_Bool (is_accepted (header_at xs))) [
                  | inl t ↦
                      let fourth : last ≡ Ok (header_at xs) =
                      cond-true (is_accepted (header_at xs)) (Ok (header_at xs)) (Err Header) t in
                      absurd (cc)
                  | inr n ↦
                      let fourth : last ≡ Err Header =
                      cond-false (is_accepted (header_at xs)) (Ok (header_at xs)) (Err Header) n in
                      let same : Header ≡ e = cc in
                      let wrong : wrong_header xs ≡ true =
                      ap (λ (x : Bool). x && not (is_accepted (header_at xs))) (le-leb 28 (length xs) long)
                      ∙ not_from_false (is_accepted (header_at xs)) n in
                      reads_header b no_magic (header_same xs rest enough ∙ wrong) ∙ ap Err same
                ]
          ]
    ]

-- what an accepted header in the first bytes says
pub record HeaderStands (xs rest : List ℕ) (h : HeaderWords) : Type 0 where
  pub is : h ≡ header_at xs
  pub long : 28 ≤ length xs
  pub accepted : is_accepted h ≡ true
  pub behind : reading (xs ++ rest) ≡ behind_header (xs ++ rest)

pub header_stands : (xs rest : List ℕ) (h : HeaderWords) → Enough xs rest → header_in xs ≡ Ok h → HeaderStands xs rest h
header_stands xs rest h enough given =
    let b = xs ++ rest in
    let other =
    cond (nat_lt (length xs) 28) (Err Truncated) (cond (is_accepted (header_at xs)) (Ok (header_at xs)) (Err Header)) in
    let last = cond (is_accepted (header_at xs)) (Ok (header_at xs)) (Err Header) in
    elim (cases_Bool (wrong_magic xs)) [
      | inl t ↦
          let first : header_in xs ≡ Err Magic = cond-true (wrong_magic xs) (Err Magic) other t in
          absurd (cc)
      | inr f ↦
          let second : header_in xs ≡ other = cond-false (wrong_magic xs) (Err Magic) other f in
          elim (cases_Bool (nat_lt (length xs) 28)) [
            | inl t ↦
                let third : other ≡ Err Truncated = cond-true (nat_lt (length xs) 28) (Err Truncated) last t in
                absurd (cc)
            | inr k ↦
                let third : other ≡ last = cond-false (nat_lt (length xs) 28) (Err Truncated) last k in
                elim (cases_Bool (is_accepted (header_at xs))) [
                  | inl t ↦
                      let fourth : last ≡ Ok (header_at xs) =
                      cond-true (is_accepted (header_at xs)) (Ok (header_at xs)) (Err Header) t in
                      let is : h ≡ header_at xs = cc in
                      record {
                        is = is;
                        long = ltb-false (length xs) 28 k;
                        accepted = ap is_accepted is ∙ t;
                        behind =
                            reads_behind b (magic_same xs rest enough ∙ f)
                            (header_same xs rest enough
                            ∙ and_right (nat_le 28 (length xs)) (not (is_accepted (header_at xs)))
                            (not_from_true (is_accepted (header_at xs)) t));
                      }
                  | inr n ↦
                      let fourth : last ≡ Err Header =
                      cond-false (is_accepted (header_at xs)) (Ok (header_at xs)) (Err Header) n in
                      absurd (cc)
                ]
          ]
    ]

-- what the file of an accepted header holds stands in its bytes alone
pub file_agrees : (ys rest : List ℕ) (h : HeaderWords) → header_at (ys ++ rest) ≡ h → is_accepted h ≡ true
    → length ys ≡ told_len h
    → file_of (ys ++ rest)
    ≡ record {
      header = h;
      entries = entries_at h.relocation_count h.relocation_table ys;
      image = drop (header_len h) ys;
    }
unfolding file_of
file_agrees ys rest h e accepted full =
    let b = ys ++ rest in
    let n = h.relocation_count in
    let t = h.relocation_table in
    let made : HeaderWords → MzFile =
    λ k. record {
      header = k;
      entries = entries_at k.relocation_count k.relocation_table b;
      image = drop (header_len k) (take (told_len k) b);
    } in
    let with : List Entry → List ℕ → MzFile =
    λ es bs. record { header = h; entries = es; image = drop (header_len h) bs } in
    let table : entries_at n t b ≡ entries_at n t ys = elim (table_within h accepted) [
      | inl none ↦ ap (λ (m : ℕ). entries_at m t b) none ∙ sym (ap (λ (m : ℕ). entries_at m t ys) none)
      | inr inside ↦ entries_at-append n t ys rest (omega (arith, header_within h accepted))
    ] in
    ap made e ∙ ap (λ (es : List Entry). with es (take (told_len h) b)) table
    ∙ ap (with (entries_at n t ys)) (take_at ys rest (told_len h) full)

cond_not : (X : Bool) (a b : Result MzFile FileFault) → cond (not X) a b ≡ cond X b a
cond_not true a b = refl
cond_not false a b = refl

not_cut : (b : List ℕ) → 28 ≤ length b → told_len (header_at b) ≤ length b → stands Truncated b ≡ false
unfolding stands
not_cut b h k =
    or_from (nat_lt (length b) 28) (nat_lt (length b) (told_len (header_at b))) (le-ltb (length b) 28 h)
    (le-ltb (length b) (told_len (header_at b)) k)

pub is_cut : (b : List ℕ) → length b < told_len (header_at b) → stands Truncated b ≡ true
unfolding stands
is_cut b h =
    or_right (nat_lt (length b) 28) (nat_lt (length b) (told_len (header_at b)))
    (lt-ltb (length b) (told_len (header_at b)) h)

pub whole_behind : (ys rest : List ℕ) (h : HeaderWords) → header_at (ys ++ rest) ≡ h → is_accepted h ≡ true
    → length ys ≡ told_len h → behind_header (ys ++ rest) ≡ file_in h ys
unfolding stands
whole_behind ys rest h e accepted full =
    let b = ys ++ rest in
    let told : told_len (header_at b) ≡ told_len h = ap told_len e in
    let longer : told_len (header_at b) ≤ length b = omega (arith, length-append ys rest) in
    let long : 28 ≤ length b =
    omega (arith, length-append ys rest, header_within h accepted, words_within h accepted) in
    let answer : MzFile → Result MzFile FileFault =
    λ f. cond (not (list_all (is_inside (length f.image)) f.entries)) (Err RelocationOutside) (Ok f) in
    cond-false (stands Truncated b) _ _ (not_cut b long longer)
    ∙ ap answer (file_agrees ys rest h e accepted full)
    ∙ cond_not
    (list_all (is_inside (length (drop (header_len h) ys))) (entries_at h.relocation_count h.relocation_table ys))
    (Err RelocationOutside) _

-- how far reading goes behind an accepted header
pub reach_behind : (b : List ℕ)
    → (told_len (header_at b) ≤ reach (behind_header b) b) ⊎ (length b ≤ reach (behind_header b) b)
reach_behind b =
    let P : Result MzFile FileFault → Type 0 = λ r. (told_len (header_at b) ≤ reach r b) ⊎ (length b ≤ reach r b) in
    let rest = cond (stands RelocationOutside b) (Err RelocationOutside) (Ok (file_of b)) in
    elim (cases_Bool (stands Truncated b)) [
      | inl t ↦ subst P (sym (reads_truncated b t)) (inr (le_refl (length b)))
      | inr f ↦ subst P (sym (cond-false (stands Truncated b) (Err Truncated) rest f))
          (cond_both (stands RelocationOutside b) (Err RelocationOutside) (Ok (file_of b)) P
          (λ e. inl (le_refl (told_len (header_at b)))) (λ e. inl (le_refl (told_len (header_at b)))))
    ]

told_long : (b : List ℕ) → stands Header b ≡ false → 28 ≤ length b → 28 ≤ told_len (header_at b)
unfolding stands
told_long b f h =
    elim (and_cases (nat_le 28 (length b)) (not (is_accepted (header_at b))) f) [
      | inl short ↦ absurd (omega (arith, leb-false 28 (length b) short))
      | inr right ↦
          let accepted : is_accepted (header_at b) ≡ true = not-false (is_accepted (header_at b)) right in
          omega (arith, words_within (header_at b) accepted, header_within (header_at b) accepted)
    ]

-- the words of the header are reached, or all bytes are
pub reach_least : (b : List ℕ) → (28 ≤ reach (reading b) b) ⊎ (length b ≤ reach (reading b) b)
reach_least b =
    let P : Result MzFile FileFault → Type 0 = λ r. (28 ≤ reach r b) ⊎ (length b ≤ reach r b) in
    elim (cases_Bool (stands Magic b)) [
      | inl t ↦ subst P (sym (reads_magic b t)) (inl (le_refl 28))
      | inr f ↦ elim (cases_Bool (stands Header b)) [
        | inl t ↦ subst P (sym (reads_header b f t)) (inl (le_refl 28))
        | inr k ↦ elim (cases_lt (length b) 28) [
          | inl short ↦ subst P (sym (reads_short b f k short)) (inr (le_refl (length b)))
          | inr long ↦
              subst P (sym (reads_behind b f k))
              (elim (reach_behind b) [ inl r ↦ inl (omega (arith, told_long b k long)) | inr r ↦ inr r ])
        ]
      ]
    ]

-- the faults of a header
pub header_errors : (xs : List ℕ) (e : FileFault) → header_in xs ≡ Err e
    → (e ≡ Magic) ⊎ ((e ≡ Header) ⊎ ((e ≡ Truncated) × (length xs < 28)))
header_errors xs e given =
    let other =
    cond (nat_lt (length xs) 28) (Err Truncated) (cond (is_accepted (header_at xs)) (Ok (header_at xs)) (Err Header)) in
    let last = cond (is_accepted (header_at xs)) (Ok (header_at xs)) (Err Header) in
    elim (cases_Bool (wrong_magic xs)) [
      | inl t ↦
          let first : header_in xs ≡ Err Magic = cond-true (wrong_magic xs) (Err Magic) other t in
          inl (cc)
      | inr f ↦
          let second : header_in xs ≡ other = cond-false (wrong_magic xs) (Err Magic) other f in
          elim (cases_Bool (nat_lt (length xs) 28)) [
            | inl t ↦
                let third : other ≡ Err Truncated = cond-true (nat_lt (length xs) 28) (Err Truncated) last t in
                let same : e ≡ Truncated = cc in
                inr (inr (same, ltb-true (length xs) 28 t))
            | inr k ↦
                let third : other ≡ last = cond-false (nat_lt (length xs) 28) (Err Truncated) last k in
                elim (cases_Bool (is_accepted (header_at xs))) [
                  | inl t ↦
                      let fourth : last ≡ Ok (header_at xs) =
                      cond-true (is_accepted (header_at xs)) (Ok (header_at xs)) (Err Header) t in
                      absurd (cc)
                  | inr n ↦
                      let fourth : last ≡ Err Header =
                      cond-false (is_accepted (header_at xs)) (Ok (header_at xs)) (Err Header) n in
                      let same : e ≡ Header = cc in
                      inr (inl same)
                ]
          ]
    ]

-- the one fault of the bytes behind an accepted header
pub file_in_errors : (h : HeaderWords) (ys : List ℕ) (e : FileFault) → file_in h ys ≡ Err e → e ≡ RelocationOutside
file_in_errors h ys e given =
    let entries = entries_at h.relocation_count h.relocation_table ys in
    let image = drop (header_len h) ys in
    let file : MzFile = record { header = h; entries = entries; image = image } in
    let inside = list_all (is_inside (length image)) entries in
    elim (cases_Bool inside) [
      | inl t ↦
          let first : file_in h ys ≡ Ok file = cond-true inside (Ok file) (Err RelocationOutside) t in
          absurd (cc)
      | inr f ↦
          let second : file_in h ys ≡ Err RelocationOutside = cond-false inside (Ok file) (Err RelocationOutside) f in
          cc
    ]

-- the first bytes hold an accepted header
pub reads_accepted : (xs rest : List ℕ) → 28 ≤ length xs → word_at xs 0 ≡ magic → is_accepted (header_at xs) ≡ true
    → reading (xs ++ rest) ≡ behind_header (xs ++ rest)
reads_accepted xs rest long m accepted =
    let enough : Enough xs rest = inl long in
    reads_behind (xs ++ rest)
    (magic_same xs rest enough
    ∙ and_right (nat_le 2 (length xs)) (not (word_at xs 0 == magic))
    (not_from_true (word_at xs 0 == magic) (eq-eqb (word_at xs 0) magic m)))
    (header_same xs rest enough
    ∙ and_right (nat_le 28 (length xs)) (not (is_accepted (header_at xs)))
    (not_from_true (is_accepted (header_at xs)) accepted))
