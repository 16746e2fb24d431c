-- Files in their order: what stands at one, and behind it.
use Rattle.std.proofs.Common.{◌≡◌, ℕ, ◌+◌, ◌<◌, ◌≤◌, List, [], ◌∷◌, ◌++◌, length, map, take, drop, get_or, Ok, Err}
use Rattle.std.proofs.Common.{Result, refl, sym, ap, ap₂, ◌∙◌, add-one, append_assoc, append-nil, Some, None, false}
use Rattle.std.proofs.Common.{if◌then◌else◌}
use Rattle.std.proofs.lemmas.List.{map-append, take_all, take_more}
use Rattle.std.proofs.Math.ListN.{drop_of_length-le}
use Rattle.std.proofs.Math.Seq.{drop-cons}
use Rattle.std.specs.Borrow.{Bor}
use Rattle.omf_library.specs.declared.files.Member.{Member}
use Rattle.omf_library.specs.Files.{file_kind, members_of}
use Rattle.omf_library.specs.Members.{joined, plain_member}
use Rattle.omf_search.specs.Results.{bytes_of}
use Rattle.doslink_stock.specs.declared.fault.StockFault.{StockFault}
use Rattle.doslink_stock.specs.declared.fault.StockFault.TheVariants as stock
use Rattle.doslink_stock.specs.Files.{Held, IsFault, both, held, held_members, is_object, members_from, members_in}
use Rattle.doslink_stock.specs.Files.{object_in}
use Rattle.doslink_stock.specs.Files.{objects_from}

-- the items from one on are that one and those behind it
pub drop-one : {X : Type 0} (xs : List X) (i : ℕ) (d : X) → i < length xs → drop i xs ≡ get_or xs i d ∷ drop (i + 1) xs
drop-one xs i d h = drop-cons xs i d h ∙ ap (λ k. get_or xs i d ∷ drop k xs) (sym (add-one i))

-- ---- object files

pub objects_more : (files : List (Bor (List ℕ))) (i : ℕ) (d : Bor (List ℕ)) (old new goal : List Held)
    → i < length files
    → new ≡ old ++ object_in i (get_or files i d).now → old ++ objects_from i (bytes_of (drop i files)) ≡ goal
    → new ++ objects_from (i + 1) (bytes_of (drop (i + 1) files)) ≡ goal
objects_more files i d old new goal h added before =
    let rest = objects_from (i + 1) (bytes_of (drop (i + 1) files)) in
    ap (λ l. l ++ rest) added ∙ append_assoc old (object_in i (get_or files i d).now) rest
    ∙ ap (λ l. old ++ objects_from i (bytes_of l)) (sym (drop-one files i d h)) ∙ before

-- ---- libraries

joined-joined : (xs ys : List Held) (r : Result (List Held) StockFault) → joined (xs ++ ys) r ≡ joined xs (joined ys r)
joined-joined xs ys (Ok zs) = ap Ok (append_assoc xs ys zs)
joined-joined xs ys (Err e) = refl

pub members_more : (files : List (Bor (List ℕ))) (i : ℕ) (d : Bor (List ℕ)) (old more new : List Held)
    (goal : Result (List Held) StockFault) → i < length files → members_in i (get_or files i d).now ≡ Ok more
    → new ≡ old ++ more → joined old (members_from i (bytes_of (drop i files))) ≡ goal
    → joined new (members_from (i + 1) (bytes_of (drop (i + 1) files))) ≡ goal
members_more files i d old more new goal h found added before =
    let rest = members_from (i + 1) (bytes_of (drop (i + 1) files)) in
    ap (λ l. joined l rest) added ∙ joined-joined old more rest
    ∙ ap (λ r. joined old (both r rest)) (sym found)
    ∙ ap (λ l. joined old (members_from i (bytes_of l))) (sym (drop-one files i d h)) ∙ before

-- a fault of one file is that of all
pub members_refused : (files : List (Bor (List ℕ))) (i : ℕ) (d : Bor (List ℕ)) (old : List Held) (fault : StockFault)
    (goal : Result (List Held) StockFault) → i < length files → IsFault fault (members_in i (get_or files i d).now)
    → joined old (members_from i (bytes_of (drop i files))) ≡ goal → IsFault fault goal
members_refused files i d old stock.Memory goal h stands before = tt
members_refused files i d old (stock.Library file place fault) goal h stands before =
    let rest = members_from (i + 1) (bytes_of (drop (i + 1) files)) in
    sym before ∙ ap (λ l. joined old (members_from i (bytes_of l))) (drop-one files i d h)
    ∙ ap (λ r. joined old (both r rest)) stands

-- ---- behind the last file

pub objects_done : (files : List (Bor (List ℕ))) (i : ℕ) (old goal : List Held) → length files ≤ i
    → old ++ objects_from i (bytes_of (drop i files)) ≡ goal → old ≡ goal
objects_done files i old goal h before =
    sym (append-nil old) ∙ ap (λ l. old ++ objects_from i (bytes_of l)) (sym (drop_of_length-le files h)) ∙ before

pub members_done : (files : List (Bor (List ℕ))) (i : ℕ) (old : List Held) (goal : Result (List Held) StockFault)
    → length files ≤ i → joined old (members_from i (bytes_of (drop i files))) ≡ goal → goal ≡ Ok old
members_done files i old goal h before =
    sym before ∙ ap (λ l. joined old (members_from i (bytes_of l))) (drop_of_length-le files h) ∙ ap Ok (append-nil old)

-- ---- lists of what was made of items

pub map-more : {X Y Z : Type 0} (f : X → Z) (g : Y → Z) (ys : List Y) (i : ℕ) (d : Y) (first old new : List X) (x : X)
    → i < length ys → new ≡ old ++ x ∷ [] → f x ≡ g (get_or ys i d) → map f old ≡ map f first ++ map g (take i ys)
    → map f new ≡ map f first ++ map g (take (i + 1) ys)
map-more f g ys i d first old new x h pushed same before =
    ap (map f) pushed ∙ map-append f old (x ∷ []) ∙ ap₂ (λ l y. l ++ y ∷ []) before same
    ∙ append_assoc (map f first) (map g (take i ys)) (g (get_or ys i d) ∷ [])
    ∙ ap (λ l. map f first ++ l) (sym (ap (map g) (take_more ys i d h) ∙ map-append g (take i ys) (get_or ys i d ∷ [])))

pub map-all : {Y Z : Type 0} (g : Y → Z) (ys : List Y) (i : ℕ) → length ys ≤ i → map g (take i ys) ≡ map g ys
map-all g ys i h = ap (map g) (take_all i ys h)

pub map-step : {X Y Z : Type 0} (f : X → Z) (g : Y → Z) (ys : List Y) (i : ℕ) (d : Y) (old new : List X) (x : X)
    → i < length ys → new ≡ old ++ x ∷ [] → f x ≡ g (get_or ys i d) → map f old ≡ map g (take i ys)
    → map f new ≡ map g (take (i + 1) ys)
map-step f g ys i d old new x h pushed same before =
    ap (map f) pushed ∙ map-append f old (x ∷ []) ∙ ap₂ (λ l y. l ++ y ∷ []) before same
    ∙ sym (ap (map g) (take_more ys i d h) ∙ map-append g (take i ys) (get_or ys i d ∷ []))

-- one that is made of an item, and what the items behind it make
pub walk-step : {X Y Z : Type 0} (f : X → Z) (rest : ℕ → List Y → List Z) (one : List Z) (ys : List Y) (i : ℕ) (d : Y)
    (old new : List X) (goal : List Z) → i < length ys
    → rest i (get_or ys i d ∷ drop (i + 1) ys) ≡ one ++ rest (i + 1) (drop (i + 1) ys)
    → map f new ≡ map f old ++ one → map f old ++ rest i (drop i ys) ≡ goal
    → map f new ++ rest (i + 1) (drop (i + 1) ys) ≡ goal
walk-step f rest one ys i d old new goal h splits added before =
    ap (λ l. l ++ rest (i + 1) (drop (i + 1) ys)) added
    ∙ append_assoc (map f old) one (rest (i + 1) (drop (i + 1) ys))
    ∙ ap (λ l. map f old ++ l) (sym splits)
    ∙ ap (λ l. map f old ++ rest i l) (sym (drop-one ys i d h)) ∙ before

pub walk-done : {X Y Z : Type 0} (f : X → Z) (rest : ℕ → List Y → List Z) (ys : List Y) (i : ℕ) (old : List X)
    (goal : List Z) → length ys ≤ i → rest i [] ≡ [] → map f old ++ rest i (drop i ys) ≡ goal → map f old ≡ goal
walk-done f rest ys i old goal h empty before =
    sym (append-nil (map f old)) ∙ ap (λ l. map f old ++ l) (sym empty)
    ∙ ap (λ l. map f old ++ rest i l) (sym (drop_of_length-le ys h)) ∙ before

pub push-made : {X Z : Type 0} (f : X → Z) (old new : List X) (x : X) (z : Z) → new ≡ old ++ x ∷ [] → f x ≡ z
    → map f new ≡ map f old ++ z ∷ []
push-made f old new x z pushed same =
    ap (map f) pushed ∙ map-append f old (x ∷ []) ∙ ap (λ y. map f old ++ y ∷ []) same

pub map-map : {X Y Z : Type 0} (f : X → Y) (g : Y → Z) (xs : List X) → map (λ x. g (f x)) xs ≡ map g (map f xs)
map-map f g [] = refl
map-map f g (x ∷ xs) = ap (λ l. g (f x) ∷ l) (map-map f g xs)

-- the members of a file that is no object
pub members-here : (file : ℕ) (bytes : List ℕ) (ms : List Member) → is_object (file_kind bytes) ≡ false
    → members_of (file_kind bytes) bytes ≡ Ok (map plain_member ms)
    → members_in file bytes ≡ Ok (map (λ m. held file (Some m.name.now) m.bytes.now) ms)
unfolding members_in
members-here file bytes ms other are =
    ap (λ b. if b then Ok [] else held_members file (members_of (file_kind bytes) bytes)) other
    ∙ ap (held_members file) are ∙ ap Ok (sym (map-map plain_member (λ m. held file (Some m.name) m.bytes) ms))
