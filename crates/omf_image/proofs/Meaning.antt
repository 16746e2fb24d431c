-- A fix-up whose frame and target are found.
use Rattle.std.proofs.Common.{◌≡◌, ℕ, ◌+◌, ◌<◌, ◌≤◌, Bool, true, false, not, List, [], ◌∷◌, ◌++◌, map, flat_map, take}
use Rattle.std.proofs.Common.{drop, length, get_or, Option, Some, None, Err, add-one, refl, ap, ◌∙◌, sym, arith, subst}
use Rattle.std.proofs.Common.{Ok}
use Rattle.std.specs.Prelude.{IsErrAnd, MatchResult, Result}
use Rattle.std.proofs.lemmas.Result.{err_from_is_err_and}
use Rattle.std.specs.List.{zip}
use Rattle.std.proofs.lemmas.List.{append_assoc, append-nil, take-append-drop, take_more, flat_map_more}
use Rattle.std.proofs.lemmas.List.Concat.{flat_map-append}
use Rattle.std.proofs.Math.Seq.{drop-cons}
use Rattle.omf_record.specs.Numbers.{location_width}
use Rattle.omf_module.specs.declared.ResolvedFixup.{ResolvedFixup}
use Rattle.omf_module.specs.Module.{DataRecord}
use Rattle.omf_place.specs.Layout.{Layout}
use Rattle.std.specs.Bool.{then_some}
use Rattle.omf_module.specs.Before.{first}
use Rattle.omf_image.specs.declared.faults.FixKind.{FixKind}
use Rattle.omf_image.specs.declared.faults.FixKind.TheVariants.{Mixed, OutOfFrame, ShortTooFar, OverlapRelocated}
use Rattle.omf_image.specs.declared.patch.Patch.{Patch}
use Rattle.omf_image.specs.declared.reference.Resolved.{Resolved}
use Rattle.omf_image.specs.Records.{entry_start, meaning, patches_on, fixup_patches, hits, stored_of}
use Rattle.omf_image.specs.inside.Entries.{DataEntry}
use Rattle.omf_image.specs.inside.Lookups.{patches_of}
use Rattle.omf_image.specs.inside.WellPlaced.{LiesInContent}
use Rattle.omf_image.specs.Faults.{first_test, resolved_fault, fixup_fault, fixups_fault}
use Rattle.omf_image.specs.inside.Stops.{or_else}
use Rattle.std.specs.Option.{option_or}
use Rattle.omf_image.specs.declared.faults.FixFault.{FixFault}
use Rattle.omf_image.specs.declared.faults.Stop.{Stop}
use Rattle.omf_image.specs.declared.faults.Stop.TheVariants as stop
use Rattle.omf_image.specs.inside.PlacedData.{FixupGives}
use Rattle.omf_image.specs.declared.reference.Missing.{Missing}
use Rattle.omf_image.specs.declared.reference.Missing.TheVariants.{Public, Members}
use Rattle.omf_image.specs.inside.Lookups.{found}
use Rattle.omf_image.specs.inside.Starts.{GivesEntry}
use Rattle.omf_image.specs.inside.Lacks.{missing_fault}
use Rattle.omf_image.specs.inside.Stops.{stopped}
use Rattle.omf_image.specs.Building.{Answers}
use Rattle.omf_image.proofs.Records.{hits_room}
use Rattle.omf_image.proofs.Members.{In, in_index}

pub first_four : (m o t c : Bool)
    → first (then_some m Mixed ∷ then_some o OutOfFrame ∷ then_some t ShortTooFar ∷ []) ≡ None → c ≡ true
    → first
    (then_some m Mixed ∷ then_some o OutOfFrame ∷ then_some t ShortTooFar ∷ then_some (not c) OverlapRelocated ∷ [])
    ≡ None
first_four true o t c h k = cc
first_four false true t c h k = cc
first_four false false true c h k = cc
first_four false false false true h k = refl
first_four false false false false h k = cc

-- at what the code found
pub fault_on : (layout : Layout) (e : DataEntry) (x : ResolvedFixup) (r : Resolved) (start : ℕ) (is : List ℕ)
    (earlier : List Patch) → meaning layout e x ≡ Ok r → start ≡ entry_start layout e
    → is ≡ hits x.offset (stored_of e.item)
    → fixup_fault layout e earlier x ≡ first_test r x.self_relative x.location start is earlier
fault_on layout e x r start is earlier m s h =
    let at = entry_start layout e in
    let found = hits x.offset (stored_of e.item) in
    ap (λ (f : Result Resolved FixKind).
    resolved_fault f (λ q. first_test q x.self_relative x.location at found earlier)) m
    ∙ ap (λ (n : ℕ). first_test r x.self_relative x.location n found earlier) (sym s)
    ∙ ap (λ (l : List ℕ). first_test r x.self_relative x.location start l earlier) (sym h)

pub patches_found : (layout : Layout) (e : DataEntry) (x : ResolvedFixup) (r : Resolved) (start : ℕ) (is : List ℕ)
    → meaning layout e x ≡ Ok r → start ≡ entry_start layout e → is ≡ hits x.offset (stored_of e.item)
    → fixup_patches 0 layout e x ≡ patches_on 0 r x.self_relative x.location start is
patches_found layout e x r start is m s h =
    let found = hits x.offset (stored_of e.item) in
    ap (λ (f : Result Resolved FixKind). patches_of 0 f x (entry_start layout e) found) m
    ∙ ap (λ (n : ℕ). patches_on 0 r x.self_relative x.location n found) (sym s)
    ∙ ap (patches_on 0 r x.self_relative x.location start) (sym h)

-- a fix-up's fault that is handed on
pub gives_fault : (layout : Layout) (e : DataEntry) (earlier : List Patch) (x : ResolvedFixup)
    (r : Result (Unit {0}) Stop)
    (k : FixKind) (holds : Type 0) → IsErrAnd r (λ s. s ≡ stop.Kind k) → fixup_fault layout e earlier x ≡ Some k
    → FixupGives layout e earlier x r holds
gives_fault layout e earlier x r k holds h f =
    let p = err_from_is_err_and r h in
    subst (λ q. FixupGives layout e earlier x q holds) (sym (p.1 ∙ ap Err p.2)) f

-- what a look-up lacks is the fault of a reference
pub lacks_fault : (lacks : Missing) (m : Result Resolved FixKind) (test : Resolved → Option FixKind)
    → found (Err lacks) ≡ m → resolved_fault m test ≡ Some (missing_fault lacks)
lacks_fault Public m test e = ap (λ (f : Result Resolved FixKind). resolved_fault f test) (sym e)
lacks_fault Members m test e = ap (λ (f : Result Resolved FixKind). resolved_fault f test) (sym e)

pub fixup_lacks : (layout : Layout) (e : DataEntry) (x : ResolvedFixup) (r : Result Resolved FixKind) (lacks : Missing)
    → IsErrAnd r (λ k. k ≡ missing_fault lacks) → found (Err lacks) ≡ meaning layout e x
    → MatchResult r (λ q. meaning layout e x ≡ Ok q)
    (λ kind. (earlier : List Patch) → fixup_fault layout e earlier x ≡ Some kind)
fixup_lacks layout e x r lacks h m =
    let p = err_from_is_err_and r h in
    subst
    (λ q.
    MatchResult q (λ q. meaning layout e x ≡ Ok q)
    (λ kind. (earlier : List Patch) → fixup_fault layout e earlier x ≡ Some kind)) (sym (p.1 ∙ ap Err p.2))
    (λ earlier. lacks_fault lacks _ _ m)

pub start_lacks : (m : Result Resolved FixKind) (r : Result (ℕ × ℕ) FixKind) (lacks : Missing)
    → IsErrAnd r (λ k. k ≡ missing_fault lacks) → found (Err lacks) ≡ m → GivesEntry m r
start_lacks m r lacks h e =
    let p = err_from_is_err_and r h in
    subst (GivesEntry m) (sym (p.1 ∙ ap Err p.2)) (lacks_fault lacks m _ e)

-- a zip's halves
pub first_of_zip : (xs ys : List ℕ) → length xs ≡ length ys → map (λ (p : ℕ × ℕ). p.0) (zip xs ys) ≡ xs
first_of_zip [] ys h = refl
first_of_zip (x ∷ xs) [] h = absurd (omega (arith, h))
first_of_zip (x ∷ xs) (y ∷ ys) h = ap (λ (l : List ℕ). x ∷ l) (first_of_zip xs ys (omega (arith, h)))

pub second_of_zip : (xs ys : List ℕ) → length xs ≡ length ys → map (λ (p : ℕ × ℕ). p.1) (zip xs ys) ≡ ys
second_of_zip [] [] h = refl
second_of_zip [] (y ∷ ys) h = absurd (omega (arith, h))
second_of_zip (x ∷ xs) [] h = absurd (omega (arith, h))
second_of_zip (x ∷ xs) (y ∷ ys) h = ap (λ (l : List ℕ). y ∷ l) (second_of_zip xs ys (omega (arith, h)))

-- a location lies inside the data from each hit on
pub hit_inside : (d : DataRecord) (x : ResolvedFixup) (is : List ℕ) (k : ℕ) → LiesInContent d x
    → is ≡ hits x.offset (stored_of d) → k < length is
    → get_or is k 0 + location_width x.location ≤ length (stored_of d)
hit_inside d x is k lies e h =
    hits_room d x lies (get_or is k 0) (subst (λ (l : List ℕ). In (get_or is k 0) l) e (in_index is k 0 h))

-- ---- one fix-up after the other
pub flat_more_of : {X Y : Type 0} (f : X → List Y) (xs : List X) (i : ℕ) (d : X) → i < length xs
    → flat_map f (take i xs) ++ f (get_or xs i d) ≡ flat_map f (take (i + 1) xs)
flat_more_of f xs i d h = flat_map_more f [] (take i xs) (get_or xs i d) ∙ ap (flat_map f) (sym (take_more xs i d h))

pub patches_more : {X Y : Type 0} (f : X → List Y) (earlier : List Y) (xs : List X) (i : ℕ) (d : X) → i < length xs
    → (earlier ++ flat_map f (take i xs)) ++ f (get_or xs i d) ≡ earlier ++ flat_map f (take (i + 1) xs)
patches_more f earlier xs i d h =
    append_assoc earlier (flat_map f (take i xs)) (f (get_or xs i d)) ∙ ap (λ l. earlier ++ l) (flat_more_of f xs i d h)

pub drop_more : {X : Type 0} (xs : List X) (i : ℕ) (d : X) → i < length xs → drop i xs ≡ get_or xs i d ∷ drop (i + 1) xs
drop_more xs i d h = rw (add-one, drop-cons xs i d)

pub fixups_more : (layout : Layout) (e : DataEntry) (earlier : List Patch) (xs : List ResolvedFixup) (i : ℕ)
    (d : ResolvedFixup) (fault : Option FixFault) → i < length xs
    → fixup_fault layout e (earlier ++ flat_map (fixup_patches 0 layout e) (take i xs)) (get_or xs i d) ≡ None
    → fixups_fault layout e (earlier ++ flat_map (fixup_patches 0 layout e) (take i xs)) (drop i xs) ≡ fault
    → fixups_fault layout e (earlier ++ flat_map (fixup_patches 0 layout e) (take (i + 1) xs)) (drop (i + 1) xs) ≡ fault
fixups_more layout e earlier xs i d fault h none at =
    let f : ResolvedFixup → List Patch = fixup_patches 0 layout e in
    let so_far = earlier ++ flat_map f (take i xs) in
    let x = get_or xs i d in
    ap (λ (ps : List Patch). fixups_fault layout e ps (drop (i + 1) xs)) (sym (patches_more f earlier xs i d h))
    ∙ ap
    (λ (o : Option FixKind). or_else o (e.input, x.place) (fixups_fault layout e (so_far ++ f x) (drop (i + 1) xs)))
    (sym none)
    ∙ ap (fixups_fault layout e so_far) (sym (drop_more xs i d h))
    ∙ at

pub fixups_stop : {X : Type 0} (K : X → Type 0) (holds : Type 0) (layout : Layout) (e : DataEntry)
    (xs : List ResolvedFixup)
    (i : ℕ) (d : ResolvedFixup) (s : Stop) (earlier : List Patch) (fault : Option FixFault) → i < length xs
    → FixupGives layout e earlier (get_or xs i d) (Err s) holds → fixups_fault layout e earlier (drop i xs) ≡ fault
    → Answers {X = X} (Err (stopped s e.input (get_or xs i d).place)) fault K
fixups_stop K holds layout e xs i d (stop.Kind k) earlier fault h some at =
    let x = get_or xs i d in
    sym at ∙ ap (fixups_fault layout e earlier) (drop_more xs i d h)
    ∙ ap
    (λ (o : Option FixKind).
    or_else o (e.input, x.place) (fixups_fault layout e (earlier ++ fixup_patches 0 layout e x) (drop (i + 1) xs))) some
fixups_stop K holds layout e xs i d stop.Memory earlier fault h some at = tt

-- some fix-ups, and then the rest
or_first : (o : Option FixKind) (at : ℕ × ℕ) (a b : Option FixFault)
    → or_else o at (option_or a b) ≡ option_or (or_else o at a) b
or_first None at a b = refl
or_first (Some k) at a b = refl

pub fixups_parts : (layout : Layout) (e : DataEntry) (earlier : List Patch) (xs ys : List ResolvedFixup)
    → fixups_fault layout e earlier (xs ++ ys)
    ≡ option_or (fixups_fault layout e earlier xs)
    (fixups_fault layout e (earlier ++ flat_map (fixup_patches 0 layout e) xs) ys)
fixups_parts layout e earlier [] ys = ap (λ (ps : List Patch). fixups_fault layout e ps ys) (sym (append-nil earlier))
fixups_parts layout e earlier (x ∷ xs) ys =
    let f : ResolvedFixup → List Patch = fixup_patches 0 layout e in
    let o = fixup_fault layout e earlier x in
    let own = fixups_fault layout e (earlier ++ f x) xs in
    ap (or_else o (e.input, x.place)) (fixups_parts layout e (earlier ++ f x) xs ys)
    ∙ or_first o (e.input, x.place) own (fixups_fault layout e ((earlier ++ f x) ++ flat_map f xs) ys)
    ∙ ap (λ (ps : List Patch). option_or (or_else o (e.input, x.place) own) (fixups_fault layout e ps ys))
    (append_assoc earlier (f x) (flat_map f xs))

pub fixups_left : (layout : Layout) (e : DataEntry) (xs : List ResolvedFixup) (n : ℕ)
    → fixups_fault layout e [] (take n xs) ≡ None
    → fixups_fault layout e (flat_map (fixup_patches 0 layout e) (take n xs)) (drop n xs) ≡ fixups_fault layout e [] xs
fixups_left layout e xs n none =
    let rest = fixups_fault layout e (flat_map (fixup_patches 0 layout e) (take n xs)) (drop n xs) in
    ap (λ (o : Option FixFault). option_or o rest) (sym none) ∙ sym (fixups_parts layout e [] (take n xs) (drop n xs))
    ∙ ap (fixups_fault layout e []) (take-append-drop n xs)

pub fixups_first : (layout : Layout) (e : DataEntry) (xs : List ResolvedFixup) (n : ℕ) (f : FixFault)
    → fixups_fault layout e [] (take n xs) ≡ Some f → fixups_fault layout e [] xs ≡ Some f
fixups_first layout e xs n f some =
    let rest = fixups_fault layout e (flat_map (fixup_patches 0 layout e) (take n xs)) (drop n xs) in
    ap (fixups_fault layout e []) (sym (take-append-drop n xs)) ∙ fixups_parts layout e [] (take n xs) (drop n xs)
    ∙ ap (λ (o : Option FixFault). option_or o rest) some

pub patches_left : {X Y : Type 0} (f : X → List Y) (xs : List X) (n : ℕ)
    → flat_map f (take n xs) ++ flat_map f (drop n xs) ≡ flat_map f xs
patches_left f xs n = sym (flat_map-append f (take n xs) (drop n xs)) ∙ ap (flat_map f) (take-append-drop n xs)

pub answers_at : {X : Type 0} (f f' : FixFault) (fault : Option FixFault) (K : X → Type 0) → f' ≡ f
    → Answers (Err f) fault K → Answers (Err f') fault K
answers_at {X} f f' fault K e h = subst (λ (g : FixFault). Answers {X = X} (Err g) fault K) (sym e) h
