-- Patches of data are patches of the image over which the data is laid.
use Rattle.std.proofs.Common.{◌≡◌, ℕ, ◌+◌, ◌-◌, ◌/◌, ◌%◌, ◌<◌, ◌≤◌, Bool, true, false, List, [], ◌∷◌, ◌++◌, map, set}
use Rattle.std.proofs.Common.{length, get_or, refl, ap, ◌∙◌, sym, arith, subst, inl, inr}
use Rattle.std.proofs.lemmas.List.{length-set, map-append, get_or-set_same, get_or-set_other}
use Rattle.std.proofs.lemmas.Bool.{cases_eq, cases_lt, cond-true, cond-false}
use Rattle.omf_image.specs.declared.patch.Patch.{Patch}
use Rattle.omf_image.specs.declared.patch.Patch.TheVariants.{Byte, Word, Relocated}
use Rattle.omf_image.specs.Words.{word_at, put_word, add_byte, add_word}
use Rattle.omf_image.specs.Patch.{patched}
use Rattle.omf_image.specs.inside.Patches.{patched_all, relocated_places, patch_end}
use Rattle.omf_image.specs.Located.{LocatedBytes, covers}
use Rattle.omf_image.specs.inside.Whole.{byte_of}
use Rattle.omf_image.specs.inside.Pages.{IsLaid}
use Rattle.omf_image.specs.inside.Marks.{IsMarked}
use Rattle.omf_image.specs.inside.States.{State, at_start, begun, IsRoom, Holds}
use Rattle.omf_image.proofs.Law.{length-patched, length-patched_all}
use Rattle.omf_image.proofs.Carry.{add_sub, covers-from}
use Rattle.omf_image.proofs.Laying.{covers_not}

abbrev pub data_at : ℕ → List ℕ → LocatedBytes
data_at start bs = record { start = start; bytes = bs }

-- a byte of the data in the image
pub laid_byte : (start i : ℕ) (bs base now : List ℕ) → i < length bs → IsLaid (data_at start bs) base now
    → get_or now (start + i) 0 ≡ get_or bs i 0
laid_byte start i bs base now h laid =
    laid.each (start + i)
    ∙ cond-true (covers (start + i) (data_at start bs)) (byte_of (start + i) (data_at start bs))
    (get_or base (start + i) 0) (covers-from (start + i) (data_at start bs) (omega arith) (omega arith))
    ∙ ap (λ (k : ℕ). get_or bs k 0) (add_sub start i)

pub laid_set : (start i v : ℕ) (bs base now : List ℕ) → i < length bs → start + length bs ≤ length base
    → IsLaid (data_at start bs) base now → IsLaid (data_at start (set bs i v)) base (set now (start + i) v)
laid_set start i v bs base now h room laid =
    let d = data_at start bs in
    let d' = data_at start (set bs i v) in
    let n : length (set bs i v) ≡ length bs = length-set bs i v in
    let s = laid.sized in
    record {
      sized = length-set now (start + i) v ∙ laid.sized;
      each = λ a. elim (cases_eq a (start + i)) [
        | inl q ↦
            ap (λ (j : ℕ). get_or (set now (start + i) v) j 0) q ∙ get_or-set_same now (start + i) v 0 (omega arith)
            ∙ sym
            (cond-true (covers a d') (byte_of a d') (get_or base a 0)
            (covers-from a d' (omega arith) (omega (arith, n)))
            ∙ ap (λ (j : ℕ). get_or (set bs i v) j 0) (ap (λ (j : ℕ). j - start) q ∙ add_sub start i)
            ∙ get_or-set_same bs i v 0 h)
        | inr q ↦
            get_or-set_other now (start + i) a v 0 q ∙ laid.each a
            ∙ elim (cases_lt a start) [
              | inl l ↦
                  cond-false (covers a d) (byte_of a d) (get_or base a 0) (covers_not a d (inl l))
                  ∙ sym (cond-false (covers a d') (byte_of a d') (get_or base a 0) (covers_not a d' (inl l)))
              | inr l ↦ elim (cases_lt a (start + length bs)) [
                | inl m ↦
                    cond-true (covers a d) (byte_of a d) (get_or base a 0) (covers-from a d l m)
                    ∙ sym
                    (cond-true (covers a d') (byte_of a d') (get_or base a 0) (covers-from a d' l (omega (arith, n, m)))
                    ∙ get_or-set_other bs i (a - start) v 0 (λ z. q (omega (arith, z, l))))
                | inr m ↦
                    cond-false (covers a d) (byte_of a d) (get_or base a 0) (covers_not a d (inr m))
                    ∙ sym
                    (cond-false (covers a d') (byte_of a d') (get_or base a 0)
                    (covers_not a d' (inr (omega (arith, n, m)))))
              ]
            ]
      ];
    }

next : (start i : ℕ) → start + i + 1 ≡ start + (i + 1)
next start i = omega arith

laid_word : (start i v : ℕ) (bs base now : List ℕ) → i + 1 < length bs → start + length bs ≤ length base
    → IsLaid (data_at start bs) base now → IsLaid (data_at start (add_word v i bs)) base (add_word v (start + i) now)
unfolding add_word put_word
laid_word start i v bs base now h room laid =
    let w = (word_at bs i + v) % 65536 in
    let low = laid_byte start i bs base now (omega arith) laid in
    let high : get_or now (start + i + 1) 0 ≡ get_or bs (i + 1) 0 =
    ap (λ (k : ℕ). get_or now k 0) (next start i) ∙ laid_byte start (i + 1) bs base now h laid in
    let e : word_at now (start + i) ≡ word_at bs i = omega (arith, low, high) in
    let n : length (set bs i (w % 256)) ≡ length bs = length-set bs i (w % 256) in
    let one = laid_set start i (w % 256) bs base now (omega arith) room laid in
    let two =
    laid_set start (i + 1) (w / 256) (set bs i (w % 256)) base (set now (start + i) (w % 256)) (omega (arith, n, h))
    (omega (arith, n)) one in
    let put : ℕ → ℕ → List ℕ = λ k x. set (set now (start + i) ((x + v) % 65536 % 256)) k ((x + v) % 65536 / 256) in
    subst (IsLaid (data_at start (set (set bs i (w % 256)) (i + 1) (w / 256))) base)
    (ap (λ (k : ℕ). put k (word_at bs i)) (sym (next start i)) ∙ ap (put (start + i + 1)) (sym e)) two

pub laid_patched : (start : ℕ) (p : Patch) (bs base now : List ℕ) → patch_end p ≤ length bs
    → start + length bs ≤ length base → IsLaid (data_at start bs) base now
    → IsLaid (data_at start (patched p bs)) base (patched (at_start start p) now)
unfolding add_byte
laid_patched start (Byte i v) bs base now h room laid =
    let e = laid_byte start i bs base now (omega arith) laid in
    subst
    (λ (x : ℕ).
    IsLaid (data_at start (set bs i ((get_or bs i 0 + v) % 256))) base (set now (start + i) ((x + v) % 256))) (sym e)
    (laid_set start i ((get_or bs i 0 + v) % 256) bs base now (omega arith) room laid)
laid_patched start (Word i v) bs base now h room laid = laid_word start i v bs base now (omega (arith, h)) room laid
laid_patched start (Relocated i v) bs base now h room laid =
    laid_word start i v bs base now (omega (arith, h)) room laid

-- ---- lists of patches
pub patched_all-append : (ps qs : List Patch) (xs : List ℕ)
    → patched_all (ps ++ qs) xs ≡ patched_all qs (patched_all ps xs)
patched_all-append [] qs xs = refl
patched_all-append (p ∷ ps) qs xs = patched_all-append ps qs (patched p xs)

pub relocated_places-append : (ps qs : List Patch)
    → relocated_places (ps ++ qs) ≡ relocated_places ps ++ relocated_places qs
relocated_places-append [] qs = refl
relocated_places-append (Byte i v ∷ ps) qs = relocated_places-append ps qs
relocated_places-append (Word i v ∷ ps) qs = relocated_places-append ps qs
relocated_places-append (Relocated i v ∷ ps) qs = ap (λ (l : List ℕ). i ∷ l) (relocated_places-append ps qs)

pub begun-append : (vs ws : List ℕ) (flags : List Bool) → begun (vs ++ ws) flags ≡ begun ws (begun vs flags)
begun-append [] ws flags = refl
begun-append (v ∷ vs) ws flags = begun-append vs ws (set flags v true)

pub length-begun : (ws : List ℕ) (flags : List Bool) → length (begun ws flags) ≡ length flags
length-begun [] flags = refl
length-begun (w ∷ ws) flags = length-begun ws (set flags w true) ∙ length-set flags w true

-- ---- one patch more
abbrev pub words_at : ℕ → List Patch → List ℕ
words_at start ps = map (λ i. start + i) (relocated_places ps)

words_at-append : (start : ℕ) (ps qs : List Patch) → words_at start (ps ++ qs) ≡ words_at start ps ++ words_at start qs
words_at-append start ps qs =
    ap (map (λ (i : ℕ). start + i)) (relocated_places-append ps qs)
    ∙ map-append (λ (i : ℕ). start + i) (relocated_places ps) (relocated_places qs)

pub holds_more : (start : ℕ) (bytes : List ℕ) (base now new : State) (ps : List Patch) (p : Patch) → IsRoom start now
    → patch_end p ≤ length now.touched → new.image ≡ patched (at_start start p) now.image
    → ((k : ℕ) → get_or new.made k false ≡ get_or now.made k false)
    → new.words ≡ begun (words_at start (p ∷ [])) now.words
    → (IsMarked now.touched now.relocated ps → IsMarked new.touched new.relocated (ps ++ p ∷ []))
    → length new.touched ≡ length now.touched → Holds start bytes base now ps
    → Holds start bytes base new (ps ++ p ∷ [])
holds_more start bytes base now new ps p room inside image made words marked n h =
    let m : length (patched_all ps bytes) ≡ length bytes = length-patched_all ps bytes in
    let sized = h.sized in
    let lay = h.image.sized in
    let space = room.inside in
    record {
      image =
          subst (λ (l : List ℕ). IsLaid (data_at start l) base.image new.image)
          (sym (patched_all-append ps (p ∷ []) bytes))
          (subst (IsLaid (data_at start (patched p (patched_all ps bytes))) base.image) (sym image)
          (laid_patched start p (patched_all ps bytes) base.image now.image (omega arith)
          (omega (arith, m, sized, lay, space)) h.image));
      made = λ k. made k ∙ h.made k;
      words =
          words ∙ ap (begun (words_at start (p ∷ []))) h.words
          ∙ sym (begun-append (words_at start ps) (words_at start (p ∷ [])) base.words)
          ∙ ap (λ (l : List ℕ). begun l base.words) (sym (words_at-append start ps (p ∷ [])));
      marked = marked h.marked;
      sized = n ∙ h.sized;
    }

pub room_more : (start : ℕ) (now new : State) (p : Patch) → IsRoom start now
    → new.image ≡ patched (at_start start p) now.image → ((k : ℕ) → get_or new.made k false ≡ get_or now.made k false)
    → new.words ≡ begun (words_at start (p ∷ [])) now.words → length new.touched ≡ length now.touched
    → length new.relocated ≡ length now.relocated → IsRoom start new
room_more start now new p room image made words n n' =
    let k : length new.image ≡ length now.image = ap length image ∙ length-patched (at_start start p) now.image in
    let w : length new.words ≡ length now.words = ap length words ∙ length-begun (words_at start (p ∷ [])) now.words in
    let same = room.same in
    let inside = room.inside in
    let wide = room.words in
    record {
      same = omega arith;
      inside = omega arith;
      words = omega arith;
      small = omega (arith, room.small);
      made = λ a l m. made (a / 4096) ∙ room.made a l (omega (arith, m, n));
    }

pub marked_same : (ts rs ts' rs' : List Bool) (ps : List Patch) → ts' ≡ ts → rs' ≡ rs → IsMarked ts rs ps
    → IsMarked ts' rs' ps
marked_same ts rs ts' rs' ps t r h =
    subst (λ (l : List Bool). IsMarked l rs' ps) (sym t) (subst (λ (l : List Bool). IsMarked ts l ps) (sym r) h)
