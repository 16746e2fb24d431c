-- Data laid over a pattern, byte by byte.
use Rattle.std.proofs.Common.{◌≡◌, ℕ, zero, suc, ◌+◌, ◌<◌, ◌≤◌, List, [], ◌∷◌, ◌++◌, length, take, drop, set}
use Rattle.std.proofs.Common.{get_or, map, zip, refl, sym, ap, ap₂, ◌∙◌, arith, append_assoc, append-nil, Some, None}
use Rattle.std.proofs.Common.{Option, length-append, length-take-le, take-append-drop, Bool, false}
use Rattle.std.proofs.Common.{length-drop, if◌then◌else◌, eqb-true, ◌==◌}
use Rattle.std.proofs.Common.{All, subst}
use Rattle.std.specs.List.{slice_get}
use Rattle.std.proofs.lemmas.Option.{get_or_from_slice_get, slice_get_within}
use Rattle.std.specs.Option.{option_map_or}
use Rattle.std.proofs.lemmas.Bool.{cond_both}
use Rattle.std.proofs.lemmas.List.{drop_more, take_more, set_at, take_all, length-map, get_or-map}
use Rattle.omf_module.specs.declared.ResolvedFixup.{ResolvedFixup}
use Rattle.omf_module.specs.Module.{Module, DataRecord, Segment}
use Rattle.omf_module.specs.Sound.{IsSound, DataFits, SegmentFits}
use Rattle.omf_match.specs.Pattern.{is_changed, cell_of, cells_of, laid, laid_in}

-- ---- lists

-- one more of some was put in its place
pub put-more : {X : Type 0} (old cells new : List X) (start i : ℕ) (x : X) → start + i < length old → i < length new
    → x ≡ get_or new i x → cells ≡ take start old ++ take i new ++ drop (start + i) old
    → set cells (start + i) x ≡ take start old ++ take (i + 1) new ++ drop (start + (i + 1)) old
put-more old cells new start i x h k is was =
    let front = take start old ++ take i new in
    let whole : length front ≡ start + i =
    length-append (take start old) (take i new) ∙ ap₂ (λ a b. a + b) (length-take-le start old (omega (arith, h)))
    (length-take-le i new (omega (arith, k))) in
    let rest = drop (start + i + 1) old in
    ap (λ l. set l (start + i) x) (was ∙ ap (λ l. front ++ l) (drop_more old (start + i) x h))
    ∙ set_at front (get_or old (start + i) x) rest x (start + i) whole
    ∙ sym (append_assoc front (x ∷ []) rest)
    ∙ ap (λ l. l ++ rest) (append_assoc (take start old) (take i new) (x ∷ [])
    ∙ ap (λ l. take start old ++ l) (ap (λ y. take i new ++ y ∷ []) is ∙ sym (take_more new i x k)))
    ∙ ap (λ n. take start old ++ take (i + 1) new ++ drop n old) (omega arith)

pub put-none : {X : Type 0} (old new : List X) (start : ℕ) → old ≡ take start old ++ take 0 new ++ drop (start + 0) old
put-none old new start =
    sym (ap₂ (λ l n. l ++ drop n old) (append-nil (take start old)) (omega arith) ∙ take-append-drop start old)

pub put-all : {X : Type 0} (old cells new : List X) (start i : ℕ) → length new ≡ i
    → cells ≡ take start old ++ take i new ++ drop (start + i) old
    → cells ≡ take start old ++ new ++ drop (start + length new) old
put-all old cells new start i len was =
    was ∙ ap₂ (λ l n. take start old ++ l ++ drop (start + n) old) (take_all i new (omega (arith, len))) (sym len)

-- of two lists zipped
pub zip-at : {X Y : Type 0} (xs : List X) (ys : List Y) (i : ℕ) (d : X) (e : Y) → i < length xs → i < length ys
    → get_or (zip xs ys) i (d, e) ≡ (get_or xs i d, get_or ys i e)
zip-at [] ys i d e h k = absurd (omega (arith, h))
zip-at (x ∷ xs) [] i d e h k = absurd (omega (arith, k))
zip-at (x ∷ xs) (y ∷ ys) zero d e h k = refl
zip-at (x ∷ xs) (y ∷ ys) (suc i) d e h k = zip-at xs ys i d e (omega (arith, h)) (omega (arith, k))

pub zip-length : {X Y : Type 0} (xs : List X) (ys : List Y) → length ys ≡ length xs → length (zip xs ys) ≡ length ys
zip-length [] [] h = refl
zip-length [] (y ∷ ys) h = absurd (omega (arith, h))
zip-length (x ∷ xs) [] h = refl
zip-length (x ∷ xs) (y ∷ ys) h = ap suc (zip-length xs ys (omega (arith, h)))

pub zip-first : {X Y : Type 0} (xs : List X) (ys : List Y) → length ys ≡ length xs → map (λ p. p.0) (zip xs ys) ≡ xs
zip-first [] ys h = refl
zip-first (x ∷ xs) [] h = absurd (omega (arith, h))
zip-first (x ∷ xs) (y ∷ ys) h = ap (λ l. x ∷ l) (zip-first xs ys (omega (arith, h)))

-- what holds of all holds of one
at-one : {X : Type 0} (P : X → Type 0) (xs : List X) (i : ℕ) (x : X) → All P xs → slice_get xs i ≡ Some x → P x
at-one P xs i x all is = subst P (get_or_from_slice_get xs i x x is) (all i x (slice_get_within xs i x is))

-- ---- what modules promise

-- data is short
pub data-short : (m : Module) (i : ℕ) (data' : DataRecord) → IsSound m → slice_get m.data_records i ≡ Some data'
    → data'.offset + length data'.pairs ≤ 65536
data-short m i data' sound is =
    let fits : DataFits m.segments m.groups m.externals data' =
    at-one (DataFits m.segments m.groups m.externals) m.data_records i data' sound.data_records is in
    let segment : SegmentFits fits.segment =
    at-one SegmentFits m.segments data'.segment fits.segment sound.segments fits.is_part.0 in
    omega (arith, fits.inside, segment.length)

-- data lies in its segment
pub data-inside : (m : Module) (i at : ℕ) (data' : DataRecord) (segment : Segment) → IsSound m
    → slice_get m.data_records i ≡ Some data' → slice_get m.segments at ≡ Some segment → data'.segment ≡ at
    → data'.offset + length data'.pairs ≤ segment.length
data-inside m i at data' segment sound is of same =
    let fits : DataFits m.segments m.groups m.externals data' =
    at-one (DataFits m.segments m.groups m.externals) m.data_records i data' sound.data_records is in
    let whose : Some fits.segment ≡ Some segment =
    sym fits.is_part.0 ∙ ap (slice_get m.segments) same ∙ of in
    let both : fits.segment.length ≡ segment.length =
    ap (λ o. option_map_or (λ s. s.length) o 0) whose in
    omega (arith, fits.inside, both)

-- ---- data records

-- what a byte of one asks for
pub cell-at : (fixups : List ResolvedFixup) (places bytes : List ℕ) (marks : List Bool) (i : ℕ) (x : Option ℕ)
    → length bytes ≡ length places → i < length bytes
    → ((k : ℕ) → get_or marks k false ≡ is_changed fixups k)
    → x ≡ (if get_or marks (get_or places i 0) false then None else Some (get_or bytes i 0))
    → x ≡ get_or (map (cell_of fixups) (zip places bytes)) i x
cell-at fixups places bytes marks i x len h marked is =
    let inside : i < length (zip places bytes) = omega (arith, h, zip-length places bytes len) in
    is ∙ ap (λ (b : Bool). if b then None else Some (get_or bytes i 0)) (marked (get_or places i 0))
    ∙ ap (cell_of fixups) (sym (zip-at places bytes i 0 0 (omega (arith, h, len)) h))
    ∙ sym (get_or-map (cell_of fixups) (zip places bytes) i (0, 0) x inside)

-- a pattern keeps its length
pub laid-length : (pattern : List (Option ℕ)) (data' : DataRecord) → data'.offset + length data'.pairs ≤ length pattern
    → length (laid pattern data') ≡ length pattern
laid-length pattern data' h =
    let front = take data'.offset pattern in
    let cells = cells_of data' in
    let rest = drop (data'.offset + length data'.pairs) pattern in
    let whole = length-append (front ++ cells) rest in
    let two = length-append front cells in
    let first = length-take-le data'.offset pattern (omega (arith, h)) in
    let second = length-map data'.pairs (cell_of data'.fixups) in
    let third = length-drop (data'.offset + length data'.pairs) pattern in
    omega (arith, whole, two, first, second, third, h)

pub laid_in-length : (segment : ℕ) (pattern : List (Option ℕ)) (data' : DataRecord)
    → (data'.segment ≡ segment → data'.offset + length data'.pairs ≤ length pattern)
    → length (laid_in segment pattern data') ≡ length pattern
laid_in-length segment pattern data' h =
    cond_both (data'.segment == segment) (laid pattern data') pattern (λ l. length l ≡ length pattern)
    (λ e. laid-length pattern data' (h (eqb-true data'.segment segment e))) (λ _. refl)
