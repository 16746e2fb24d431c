-- A patch is clear of earlier ones exactly where its bytes have no mark against it.
use Rattle.std.proofs.Common.{◌≡◌, ℕ, ◌+◌, ◌<◌, ◌≤◌, length, get_or, Bool, true, false, not, ◌||◌, ◌&&◌, List, [], ◌∷◌}
use Rattle.std.proofs.Common.{◌++◌, flat_map, take, refl, ap, ◌∙◌, sym, arith}
use Rattle.std.specs.List.{list_all, list_any}
use Rattle.std.proofs.lemmas.List.Folds.{list_all-append, list_all_at}
use Rattle.std.proofs.lemmas.List.{take_more, flat_map_more}
use Rattle.std.proofs.lemmas.Bool.{and_from}
use Rattle.std.proofs.lemmas.Bool.Decides.{nat_tests}
use Rattle.omf_image.specs.declared.patch.Patch.{Patch}
use Rattle.omf_image.specs.declared.patch.Patch.TheVariants.{Byte, Word, Relocated}
use Rattle.omf_image.specs.Patch.{clear}
use Rattle.omf_image.specs.inside.Patches.{all_clear, patch_start, patch_end, is_relocated}
use Rattle.omf_image.specs.inside.Marks.{touches, IsMarked}

all_of : (f g : Patch → Bool) → ((q : Patch) → f q ≡ not (g q)) → (qs : List Patch)
    → list_all f qs ≡ not (list_any g qs)
all_of f g e [] = refl
all_of f g e (q ∷ qs) = grind (arith, e q, all_of f g e qs)

clear_relocated : (i v : ℕ) (q : Patch) → clear q (Relocated i v) ≡ not (touches i q || touches (i + 1) q)
clear_relocated i v (Byte j w) = grind (arith, nat_tests)
clear_relocated i v (Word j w) = grind (arith, nat_tests)
clear_relocated i v (Relocated j w) = grind (arith, nat_tests)

clear_word : (i v : ℕ) (q : Patch)
    → clear q (Word i v) ≡ not (is_relocated q && touches i q || is_relocated q && touches (i + 1) q)
clear_word i v (Byte j w) = refl
clear_word i v (Word j w) = refl
clear_word i v (Relocated j w) = grind (arith, nat_tests)

clear_byte : (i v : ℕ) (q : Patch) → clear q (Byte i v) ≡ not (is_relocated q && touches i q)
clear_byte i v (Byte j w) = refl
clear_byte i v (Word j w) = refl
clear_byte i v (Relocated j w) = grind (arith, nat_tests)

none_of_two : (f g h : Patch → Bool) → ((q : Patch) → f q ≡ not (g q || h q)) → (qs : List Patch)
    → list_all f qs ≡ not (list_any g qs || list_any h qs)
none_of_two f g h e [] = refl
none_of_two f g h e (q ∷ qs) = grind (arith, e q, none_of_two f g h e qs)

one_patch : (p : Patch) (qs : List Patch) → all_clear qs (p ∷ []) ≡ list_all (λ q. clear q p) qs
one_patch p [] = refl
one_patch p (q ∷ qs) = grind (arith, one_patch p qs)

pub relocated_clear : (i v : ℕ) (qs : List Patch)
    → all_clear qs (Relocated i v ∷ []) ≡ not (list_any (touches i) qs || list_any (touches (i + 1)) qs)
relocated_clear i v qs =
    one_patch (Relocated i v) qs
    ∙ none_of_two (λ q. clear q (Relocated i v)) (touches i) (touches (i + 1)) (clear_relocated i v) qs

pub word_clear : (i v : ℕ) (qs : List Patch)
    → all_clear qs (Word i v ∷ [])
    ≡ not (list_any (λ q. is_relocated q && touches i q) qs || list_any (λ q. is_relocated q && touches (i + 1) q) qs)
word_clear i v qs =
    one_patch (Word i v) qs
    ∙ none_of_two (λ q. clear q (Word i v)) (λ q. is_relocated q && touches i q)
    (λ q. is_relocated q && touches (i + 1) q) (clear_word i v) qs

pub byte_clear : (i v : ℕ) (qs : List Patch)
    → all_clear qs (Byte i v ∷ []) ≡ not (list_any (λ q. is_relocated q && touches i q) qs)
byte_clear i v qs =
    one_patch (Byte i v) qs ∙ all_of (λ q. clear q (Byte i v)) (λ q. is_relocated q && touches i q) (clear_byte i v) qs

pub clear_nothing : (qs : List Patch) → all_clear qs [] ≡ true
clear_nothing [] = refl
clear_nothing (q ∷ qs) = clear_nothing qs

-- two parts of what is added
pub clear_parts : (qs ps rs : List Patch) → all_clear qs (ps ++ rs) ≡ (all_clear qs ps && all_clear qs rs)
clear_parts [] ps rs = refl
clear_parts (q ∷ qs) ps rs = grind (arith, list_all-append (clear q) ps rs, clear_parts qs ps rs)

pub pointer_clear : (qs : List Patch) (p r : Patch)
    → all_clear qs (p ∷ r ∷ []) ≡ (all_clear qs (p ∷ []) && all_clear qs (r ∷ []))
pointer_clear qs p r = clear_parts qs (p ∷ []) (r ∷ [])

-- what is added at several places
pub clear_flat : {X : Type 0} (qs : List Patch) (f : X → List Patch) (is : List X)
    → all_clear qs (flat_map f is) ≡ list_all (λ i. all_clear qs (f i)) is
clear_flat qs f [] = clear_nothing qs
clear_flat qs f (i ∷ is) =
    clear_parts qs (f i) (flat_map f is) ∙ ap (λ (b : Bool). all_clear qs (f i) && b) (clear_flat qs f is)

or_same : (b : Bool) → (b || b) ≡ b
or_same true = refl
or_same false = refl

-- the test of a patch by the marks on its first and its last byte
pub relocated_test : (p : Patch) (ts rs : List Bool) (earlier : List Patch) (start last : ℕ) → is_relocated p ≡ true
    → patch_start p ≡ start → patch_end p ≡ last + 1 → patch_end p ≤ length ts → IsMarked ts rs earlier
    → not (get_or ts start false || get_or ts last false) ≡ all_clear earlier (p ∷ [])
relocated_test (Byte i v) ts rs earlier start last t e f room m = cc
relocated_test (Word i v) ts rs earlier start last t e f room m = cc
relocated_test (Relocated i v) ts rs earlier start last t e f room m =
    let g : last ≡ i + 1 = omega arith in
    ap (λ (b : Bool). not (b || get_or ts last false))
    (ap (λ (k : ℕ). get_or ts k false) (sym e) ∙ m.touches_told i (omega arith))
    ∙ ap (λ (b : Bool). not (list_any (touches i) earlier || b))
    (ap (λ (k : ℕ). get_or ts k false) g ∙ m.touches_told (i + 1) (omega arith))
    ∙ sym (relocated_clear i v earlier)

pub other_test : (p : Patch) (ts rs : List Bool) (earlier : List Patch) (start last : ℕ) → is_relocated p ≡ false
    → patch_start p ≡ start → patch_end p ≡ last + 1 → patch_end p ≤ length rs → IsMarked ts rs earlier
    → not (get_or rs start false || get_or rs last false) ≡ all_clear earlier (p ∷ [])
other_test (Byte i v) ts rs earlier start last t e f room m =
    let g : last ≡ i = omega arith in
    ap (λ (b : Bool). not (b || get_or rs last false))
    (ap (λ (k : ℕ). get_or rs k false) (sym e) ∙ m.relocated_told i (omega arith))
    ∙ ap (λ (b : Bool). not (list_any (λ q. is_relocated q && touches i q) earlier || b))
    (ap (λ (k : ℕ). get_or rs k false) g ∙ m.relocated_told i (omega arith))
    ∙ ap not (or_same (list_any (λ q. is_relocated q && touches i q) earlier))
    ∙ sym (byte_clear i v earlier)
other_test (Word i v) ts rs earlier start last t e f room m =
    let g : last ≡ i + 1 = omega arith in
    ap (λ (b : Bool). not (b || get_or rs last false))
    (ap (λ (k : ℕ). get_or rs k false) (sym e) ∙ m.relocated_told i (omega arith))
    ∙ ap (λ (b : Bool). not (list_any (λ q. is_relocated q && touches i q) earlier || b))
    (ap (λ (k : ℕ). get_or rs k false) g ∙ m.relocated_told (i + 1) (omega arith))
    ∙ sym (word_clear i v earlier)
other_test (Relocated i v) ts rs earlier start last t e f room m = cc

-- one hit more
pub flat_more : {X : Type 0} (f : ℕ → List X) (is : List ℕ) (k : ℕ) → k < length is
    → flat_map f (take (k + 1) is) ≡ flat_map f (take k is) ++ f (get_or is k 0)
flat_more f is k h = ap (flat_map f) (take_more is k 0 h) ∙ sym (flat_map_more f [] (take k is) (get_or is k 0))

pub clear_more : (qs : List Patch) (f : ℕ → List Patch) (is : List ℕ) (k : ℕ) (b : Bool) → k < length is
    → b ≡ all_clear qs (f (get_or is k 0)) → all_clear qs (flat_map f (take k is)) ≡ true → b ≡ true
    → all_clear qs (flat_map f (take (k + 1) is)) ≡ true
clear_more qs f is k b h e t u =
    ap (all_clear qs) (flat_more f is k h) ∙ clear_parts qs (flat_map f (take k is)) (f (get_or is k 0))
    ∙ and_from (all_clear qs (flat_map f (take k is))) (all_clear qs (f (get_or is k 0))) t (sym e ∙ u)

pub unclear_at : (qs : List Patch) (f : ℕ → List Patch) (is : List ℕ) (k : ℕ) (b : Bool) → k < length is
    → b ≡ all_clear qs (f (get_or is k 0)) → b ≡ false → all_clear qs (flat_map f is) ≡ false
unclear_at qs f is k b h e u = clear_flat qs f is ∙ list_all_at (λ i. all_clear qs (f i)) is k 0 h (sym e ∙ u)
