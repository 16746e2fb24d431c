-- A data record at a paragraph is the one at paragraph 0 with the paragraph added to its relocated words.
use Rattle.std.proofs.Common.{◌≡◌, ◌⊎◌, ℕ, ◌+◌, ◌%◌, ◌≤◌, true, leb, List, [], ◌∷◌, map, length, get_or, inl, inr}
use Rattle.std.proofs.Common.{arith, refl, ap, ◌∙◌, sym, subst}
use Rattle.std.proofs.lemmas.List.{length-set}
use Rattle.std.proofs.lemmas.Bool.{and_parts, or_cases, leb-true}
use Rattle.std.specs.List.{list_all}
use Rattle.omf_image.specs.Words.{add_byte, add_word, add_words}
use Rattle.omf_image.specs.declared.patch.Patch.{Patch}
use Rattle.omf_image.specs.declared.patch.Patch.TheVariants.{Byte, Word, Relocated}
use Rattle.omf_image.specs.Patch.{patched, clear}
use Rattle.omf_image.specs.inside.Patches.{patched_all, relocated_places, patch_start, patch_end}
use Rattle.omf_image.proofs.Words.{length-add_word, add_word-add_word, add_byte-add_word, add_word-comm}

-- a patch as it stands where the program is loaded at paragraph P
abbrev pub at_paragraph : ℕ → Patch → Patch
at_paragraph P (Byte i v) = Byte i v
at_paragraph P (Word i v) = Word i v
at_paragraph P (Relocated i v) = Relocated i ((v + P) % 65536)

-- each two patches of the list
abbrev pub AllClear : List Patch → Type 0
AllClear [] = Unit {0}
AllClear (p ∷ ps) = (list_all (clear p) ps ≡ true) × AllClear ps

abbrev pub AllInside : ℕ → List Patch → Type 0
AllInside n [] = Unit {0}
AllInside n (p ∷ ps) = (patch_end p ≤ n) × AllInside n ps

-- the places of a relocated word and of another patch that is clear of it
pub sides : (i v : ℕ) (q : Patch) → clear (Relocated i v) q ≡ true → (i + 2 ≤ patch_start q) ⊎ (patch_end q ≤ i)
sides i v q h = elim (or_cases (leb (i + 2) (patch_start q)) (leb (patch_end q) i) h) [
  | inl l ↦ inl (leb-true (i + 2) (patch_start q) l)
  | inr l ↦ inr (leb-true (patch_end q) i l)
]

-- an addition to a relocated word passes a patch that is clear of it
pass : (P i v : ℕ) (q : Patch) (xs : List ℕ) → (i + 2 ≤ patch_start q) ⊎ (patch_end q ≤ i)
    → patched q (add_word P i xs) ≡ add_word P i (patched q xs)
pass P i v (Byte j w) xs h =
    add_byte-add_word w j P i xs (elim h [ inl l ↦ inr (omega arith) | inr r ↦ inl (omega arith) ])
pass P i v (Word j w) xs h = add_word-comm w j P i xs (elim h [ inl l ↦ inr (omega arith) | inr r ↦ inl (omega arith) ])
pass P i v (Relocated j w) xs h =
    add_word-comm w j P i xs (elim h [ inl l ↦ inr (omega arith) | inr r ↦ inl (omega arith) ])

pass_all : (P i v : ℕ) (qs : List Patch) (xs : List ℕ) → list_all (clear (Relocated i v)) qs ≡ true
    → patched_all qs (add_word P i xs) ≡ add_word P i (patched_all qs xs)
pass_all P i v [] xs h = refl
pass_all P i v (q ∷ qs) xs h =
    let both = and_parts (clear (Relocated i v) q) (list_all (clear (Relocated i v)) qs) h in
    ap (patched_all qs) (pass P i v q xs (sides i v q both.0)) ∙ pass_all P i v qs (patched q xs) both.1

length-add_byte : (v i : ℕ) (xs : List ℕ) → length (add_byte v i xs) ≡ length xs
unfolding add_byte
length-add_byte v i xs = length-set xs i ((get_or xs i 0 + v) % 256)

pub length-patched : (p : Patch) (xs : List ℕ) → length (patched p xs) ≡ length xs
length-patched (Byte i v) xs = length-add_byte v i xs
length-patched (Word i v) xs = length-add_word v i xs
length-patched (Relocated i v) xs = length-add_word v i xs

pub length-patched_all : (ps : List Patch) (xs : List ℕ) → length (patched_all ps xs) ≡ length xs
length-patched_all [] xs = refl
length-patched_all (p ∷ ps) xs = length-patched_all ps (patched p xs) ∙ length-patched p xs

inside_still : (p : Patch) (ps : List Patch) (xs : List ℕ) → AllInside (length xs) ps
    → AllInside (length (patched p xs)) ps
inside_still p ps xs h = subst (λ (n : ℕ). AllInside n ps) (sym (length-patched p xs)) h

pub law : (P : ℕ) (ps : List Patch) (xs : List ℕ) → AllClear ps → AllInside (length xs) ps
    → patched_all (map (at_paragraph P) ps) xs ≡ add_words P (relocated_places ps) (patched_all ps xs)
law P [] xs clear inside = refl
law P (Byte i v ∷ ps) xs clear inside = law P ps (add_byte v i xs) clear.1 (inside_still (Byte i v) ps xs inside.1)
law P (Word i v ∷ ps) xs clear inside = law P ps (add_word v i xs) clear.1 (inside_still (Word i v) ps xs inside.1)
law P (Relocated i v ∷ ps) xs clear inside =
    let ys = add_word v i xs in
    let n : length ys ≡ length xs = length-add_word v i xs in
    let room : AllInside (length (add_word P i ys)) ps =
    inside_still (Relocated i P) ps ys (inside_still (Relocated i v) ps xs inside.1) in
    ap (patched_all (map (at_paragraph P) ps)) (sym (add_word-add_word v P i xs (omega (arith, inside.0))))
    ∙ law P ps (add_word P i ys) clear.1 room
    ∙ ap (add_words P (relocated_places ps)) (pass_all P i v ps ys clear.0)
