-- Where no fault stands, the program at paragraph P is the one at 0 with P added to its relocated words.
use Rattle.std.proofs.Common.{◌≡◌, ℕ, lit<, ◌+◌, ◌-◌, ◌<◌, ◌≤◌, Bool, true, false, not, ◌||◌, cond, List, [], ◌∷◌, ◌++◌}
use Rattle.std.proofs.Common.{map, flat_map, length, get_or, Option, Some, None, Result, Ok, Err, inl, inr, arith, refl}
use Rattle.std.proofs.Common.{ap, ◌∙◌, sym, subst}
use Rattle.std.proofs.lemmas.List.{append_assoc, append-nil, map-append, length-map}
use Rattle.std.proofs.lemmas.List.Elements.{recursion_from_All}
use Rattle.std.proofs.lemmas.Bool.{or_parts, and_parts}
use Rattle.std.specs.Bool.{then_some}
use Rattle.std.specs.List.{list_all, AllByRecursion}
use Rattle.omf_module.specs.Before.{first}
use Rattle.omf_module.specs.declared.ResolvedFixup.{ResolvedFixup}
use Rattle.omf_module.specs.Module.{DataRecord, Module}
use Rattle.omf_record.specs.declared.fixups.Location.{Location}
use Rattle.omf_record.specs.declared.fixups.Location.TheVariants.{LowByte, Offset, Base, Pointer, LoaderOffset}
use Rattle.omf_place.specs.Layout.{Layout}
use Rattle.omf_image.specs.Words.{add_words}
use Rattle.omf_image.specs.declared.patch.Patch.{Patch}
use Rattle.omf_image.specs.declared.patch.Patch.TheVariants.{Byte, Word, Relocated}
use Rattle.omf_image.specs.Patch.{clear}
use Rattle.omf_image.specs.inside.Patches.{all_clear, patched_all, relocated_places}
use Rattle.omf_image.specs.Located.{LocatedBytes, covers, located}
use Rattle.omf_image.specs.declared.reference.Resolved.{Resolved}
use Rattle.omf_image.specs.Value.{patches_at}
use Rattle.omf_record.specs.Numbers.{location_width}
use Rattle.omf_image.specs.Records.{hits, bytes_of, stored_of, entries, entry_start, meaning, patches_on}
use Rattle.omf_image.specs.inside.Entries.{DataEntry}
use Rattle.omf_image.specs.Records.{fixup_patches, patches, datum, program_byte, record_relocations}
use Rattle.omf_image.specs.inside.Lookups.{patches_of}
use Rattle.omf_image.specs.inside.Leading.{relocated_words}
use Rattle.omf_image.specs.inside.WellPlaced.{LiesInContent, WellPlaced, AllWellPlaced}
use Rattle.omf_image.specs.declared.faults.FixKind.{FixKind}
use Rattle.omf_image.specs.declared.faults.FixKind.TheVariants.{Mixed, OutOfFrame, ShortTooFar, OverlapRelocated}
use Rattle.omf_image.specs.declared.faults.FixFault.{FixFault}
use Rattle.omf_image.specs.Faults.{is_mixed, out_of_frame, too_far, first_test, resolved_fault, fixup_fault}
use Rattle.omf_image.specs.Faults.{fixups_fault, record_fault, records_fault}
use Rattle.omf_image.specs.inside.Whole.{covers_word, data_fault}
use Rattle.omf_image.specs.inside.Stops.{or_else}
use Rattle.std.specs.Option.{option_or}
use Rattle.omf_image.proofs.Law.{at_paragraph, AllClear, AllInside, sides, law, length-patched_all}
use Rattle.omf_image.proofs.Moved.{AllApart, AllWordsInside, ApartWords}
use Rattle.omf_image.proofs.Values.{patches_stay}
use Rattle.omf_image.proofs.Hits.{Within, within_append, in_hits, hits_spaced, hits_clear, hits_within, clear_append}
use Rattle.omf_image.proofs.Carry.{Piece, datum_at, datum_at_0, all_addresses, Uncovered, EachApart, image_moves}
use Rattle.omf_image.proofs.Members.{In}

-- ---- no fault, part by part
none_cond : {A : Type 0} (b : Bool) (a : A) (o : Option A) → cond b (Some a) o ≡ None → (b ≡ false) × (o ≡ None)
none_cond true a o h = cc
none_cond false a o h = (refl, h)

none_of_four : (m o t c : Bool)
    → first (then_some m Mixed ∷ then_some o OutOfFrame ∷ then_some t ShortTooFar ∷ then_some c OverlapRelocated ∷ [])
    ≡ None → (m ≡ false) × (c ≡ false)
none_of_four true o t c h = cc
none_of_four false true t c h = cc
none_of_four false false true c h = cc
none_of_four false false false true h = cc
none_of_four false false false false h = (refl, refl)

not-false : (b : Bool) → not b ≡ false → b ≡ true
not-false true h = refl
not-false false h = cc

pub none_or_else : (o : Option FixKind) (at : ℕ × ℕ) (rest : Option FixFault) → or_else o at rest ≡ None
    → (o ≡ None) × (rest ≡ None)
none_or_else None at rest h = (refl, h)
none_or_else (Some k) at rest h = cc

none_first : (o rest : Option FixFault) → option_or o rest ≡ None → (o ≡ None) × (rest ≡ None)
none_first None rest h = (refl, h)
none_first (Some k) rest h = cc

-- ---- one fix-up
stay_list : (P : ℕ) (r : Resolved) (x : ResolvedFixup) (start : ℕ) (is : List ℕ)
    → is_mixed x.self_relative x.location r ≡ false
    → patches_on P r x.self_relative x.location start is
    ≡ map (at_paragraph P) (patches_on 0 r x.self_relative x.location start is)
stay_list P r x start [] h = refl
stay_list P r x start (i ∷ is) h =
    let f : ℕ → ℕ → List Patch = λ q j. patches_at q r x.self_relative x.location j (start + j) in
    ap (λ (l : List Patch). l ++ flat_map (f P) is) (patches_stay P r x.self_relative x.location i (start + i) h)
    ∙ ap (λ (l : List Patch). map (at_paragraph P) (f 0 i) ++ l) (stay_list P r x start is h)
    ∙ sym (map-append (at_paragraph P) (f 0 i) (flat_map (f 0) is))

-- what a fix-up without a fault gives
record Sound (P : ℕ) (layout : Layout) (e : DataEntry) (earlier : List Patch) (x : ResolvedFixup)
    (m : Result Resolved FixKind) : Type 0 where
  stays : patches_of P m x (entry_start layout e) (hits x.offset (stored_of e.item))
      ≡ map (at_paragraph P) (patches_of 0 m x (entry_start layout e) (hits x.offset (stored_of e.item)))
  itself : AllClear (patches_of 0 m x (entry_start layout e) (hits x.offset (stored_of e.item)))
  inside : Within 0 (length (stored_of e.item))
      (patches_of 0 m x (entry_start layout e) (hits x.offset (stored_of e.item)))
  others : all_clear earlier (patches_of 0 m x (entry_start layout e) (hits x.offset (stored_of e.item))) ≡ true

pub width_some : (l : Location) → 0 < location_width l
width_some LowByte = lit< tt
width_some Offset = lit< tt
width_some Base = lit< tt
width_some Pointer = lit< tt
width_some LoaderOffset = lit< tt

pub hits_room : (d : DataRecord) (x : ResolvedFixup) → LiesInContent d x → (i : ℕ) → In i (hits x.offset (stored_of d))
    → i + location_width x.location ≤ length (stored_of d)
hits_room d x lies i h =
    let at = in_hits x.offset (stored_of d) i h in
    let w = width_some x.location in
    let g = (lies i (location_width x.location - 1) at.0 at.1 (omega arith)).0 in
    omega (arith, g)

sound : (P : ℕ) (layout : Layout) (e : DataEntry) (earlier : List Patch) (x : ResolvedFixup)
    (m : Result Resolved FixKind)
    → LiesInContent e.item x
    → resolved_fault m
    (λ r.
    first_test r x.self_relative x.location (entry_start layout e) (hits x.offset (stored_of e.item)) earlier)
    ≡ None → Sound P layout e earlier x m
sound P layout e earlier x (Err k) lies h = cc
sound P layout e earlier x (Ok r) lies h =
    let is = hits x.offset (stored_of e.item) in
    let start = entry_start layout e in
    let mine : List Patch = patches_on 0 r x.self_relative x.location start is in
    let none =
    none_of_four (is_mixed x.self_relative x.location r) (out_of_frame x.self_relative x.location r is start)
    (too_far x.self_relative x.location r is start) (not (all_clear earlier mine)) h in
    record {
      stays = stay_list P r x start is none.0;
      itself =
          hits_clear r x.self_relative x.location start (length (stored_of e.item)) is
          (hits_spaced e.item x lies) (hits_room e.item x lies);
      inside =
          hits_within r x.self_relative x.location start 0 (length (stored_of e.item)) is
          (λ i k. (omega arith, hits_room e.item x lies i k));
      others = not-false (all_clear earlier mine) none.1;
    }

-- ---- one data record
record SoundRecord (P : ℕ) (layout : Layout) (e : DataEntry) (earlier : List Patch) (xs : List ResolvedFixup) : Type
    0 where
  stays : flat_map (fixup_patches P layout e) xs ≡ map (at_paragraph P) (flat_map (fixup_patches 0 layout e) xs)
  apart : AllClear (earlier ++ flat_map (fixup_patches 0 layout e) xs)
  inside : Within 0 (length (stored_of e.item)) (flat_map (fixup_patches 0 layout e) xs)

append_nil_clear : (ps : List Patch) → AllClear ps → AllClear (ps ++ [])
append_nil_clear ps h = subst AllClear (sym (append-nil ps)) h

sound_fixups : (P : ℕ) (layout : Layout) (e : DataEntry) (earlier : List Patch) (xs : List ResolvedFixup)
    → AllByRecursion (LiesInContent e.item) xs → fixups_fault layout e earlier xs ≡ None → AllClear earlier
    → SoundRecord P layout e earlier xs
sound_fixups P layout e earlier [] lies h before =
    record { stays = refl; apart = append_nil_clear earlier before; inside = tt }
sound_fixups P layout e earlier (x ∷ xs) lies h before =
    let mine : List Patch = fixup_patches 0 layout e x in
    let rest : List Patch = flat_map (fixup_patches 0 layout e) xs in
    let both =
    none_or_else (fixup_fault layout e earlier x) (e.input, x.place) (fixups_fault layout e (earlier ++ mine) xs) h in
    let own = sound P layout e earlier x (meaning layout e x) lies.0 both.0 in
    let others =
    sound_fixups P layout e (earlier ++ mine) xs lies.1 both.1
    (clear_append earlier mine before own.itself own.others) in
    record {
      stays =
          ap (λ (l : List Patch). l ++ flat_map (fixup_patches P layout e) xs) own.stays
          ∙ ap (λ (l : List Patch). map (at_paragraph P) mine ++ l) others.stays
          ∙ sym (map-append (at_paragraph P) mine rest);
      apart = subst AllClear (append_assoc earlier mine rest) others.apart;
      inside = within_append 0 (length (stored_of e.item)) mine rest own.inside others.inside;
    }

inside_from_within : (lo n : ℕ) (ps : List Patch) → Within lo n ps → AllInside n ps
inside_from_within lo n [] h = tt
inside_from_within lo n (p ∷ ps) h = (h.1, inside_from_within lo n ps h.2)

-- the data record at paragraph 0, with its relocated words
abbrev pub piece : Layout → DataEntry → Piece
piece layout e = record { datum = datum 0 layout e; words = relocated_places (patches 0 layout e) }

-- relocated words are apart and inside
word_apart : (i v : ℕ) (ps : List Patch) → list_all (clear (Relocated i v)) ps ≡ true → (s : ℕ)
    → In s (relocated_places ps) → ApartWords i s
word_apart i v [] h s k = absurd k
word_apart i v (Byte j w ∷ ps) h s k =
    word_apart i v ps (and_parts (clear (Relocated i v) (Byte j w)) (list_all (clear (Relocated i v)) ps) h).1 s k
word_apart i v (Word j w ∷ ps) h s k =
    word_apart i v ps (and_parts (clear (Relocated i v) (Word j w)) (list_all (clear (Relocated i v)) ps) h).1 s k
word_apart i v (Relocated j w ∷ ps) h s k =
    let both = and_parts (clear (Relocated i v) (Relocated j w)) (list_all (clear (Relocated i v)) ps) h in
    elim k [
      | inl e ↦ elim (sides i v (Relocated j w) both.0) [ inl l ↦ inl (omega arith) | inr l ↦ inr (omega arith) ]
      | inr k' ↦ word_apart i v ps both.1 s k'
    ]

words_apart : (ps : List Patch) → AllClear ps → AllApart (relocated_places ps)
words_apart [] h = tt
words_apart (Byte i v ∷ ps) h = words_apart ps h.1
words_apart (Word i v ∷ ps) h = words_apart ps h.1
words_apart (Relocated i v ∷ ps) h = (word_apart i v ps h.0, words_apart ps h.1)

words_inside : (n : ℕ) (ps : List Patch) → AllInside n ps → AllWordsInside n (relocated_places ps)
words_inside n [] h r k = absurd k
words_inside n (Byte i v ∷ ps) h r k = words_inside n ps h.1 r k
words_inside n (Word i v ∷ ps) h r k = words_inside n ps h.1 r k
words_inside n (Relocated i v ∷ ps) h r k = elim k [ inl e ↦ omega (arith, h.0) | inr k' ↦ words_inside n ps h.1 r k' ]

-- each byte has a stored place
pub length-pairs : (d : DataRecord) → length (stored_of d) ≡ length (bytes_of d)
length-pairs d = simp length-map

pub record SoundEntry (P : ℕ) (layout : Layout) (e : DataEntry) : Type 0 where
  pub moves : datum P layout e ≡ datum_at P (piece layout e)
  pub apart : AllApart (relocated_places (patches 0 layout e))
  pub inside : AllWordsInside (length (datum 0 layout e).bytes) (relocated_places (patches 0 layout e))

pub sound_entry : (P : ℕ) (layout : Layout) (e : DataEntry) → WellPlaced e.item
    → fixups_fault layout e [] e.item.fixups ≡ None → SoundEntry P layout e
sound_entry P layout e well h =
    let d = e.item in
    let s = sound_fixups P layout e [] d.fixups (recursion_from_All (LiesInContent d) d.fixups well) h tt in
    let room : AllInside (length (bytes_of d)) (patches 0 layout e) =
    subst (λ (n : ℕ). AllInside n (patches 0 layout e)) (length-pairs d)
    (inside_from_within 0 (length (stored_of d)) (patches 0 layout e) s.inside) in
    let made : List ℕ → LocatedBytes = λ bs. record { start = entry_start layout e; bytes = bs } in
    record {
      moves =
          ap (λ (ps : List Patch). made (patched_all ps (bytes_of d))) s.stays
          ∙ ap made (law P (patches 0 layout e) (bytes_of d) s.apart room);
      apart = words_apart (patches 0 layout e) s.apart;
      inside =
          words_inside (length (datum 0 layout e).bytes) (patches 0 layout e)
          (subst (λ (n : ℕ). AllInside n (patches 0 layout e))
          (sym (length-patched_all (patches 0 layout e) (bytes_of d))) room);
    }

-- ---- all data records
pub record SoundProgram (P : ℕ) (layout : Layout) (words : List ℕ) (es : List DataEntry) : Type 0 where
  pub moves : map (datum P layout) es ≡ map (datum_at P) (map (piece layout) es)
  pub apart : EachApart (map (piece layout) es)
  pub free : Uncovered words (map (piece layout) es)
  pub listed : all_addresses (map (piece layout) es) ≡ flat_map (record_relocations layout) es
  pub unmoved : map (datum 0 layout) es ≡ map datum_at_0 (map (piece layout) es)

uncovered : (layout : Layout) (e : DataEntry) (words : List ℕ) → covers_word (datum 0 layout e) words ≡ false → (r : ℕ)
    → In r words → (covers r (datum 0 layout e) ≡ false) × (covers (r + 1) (datum 0 layout e) ≡ false)
uncovered layout e [] h r k = absurd k
uncovered layout e (w ∷ words) h r k =
    let both =
    or_parts (covers w (datum 0 layout e) || covers (w + 1) (datum 0 layout e)) (covers_word (datum 0 layout e) words)
    h in
    elim k [
      | inl q ↦
          let two = or_parts (covers w (datum 0 layout e)) (covers (w + 1) (datum 0 layout e)) both.0 in (
            ap (λ (a : ℕ). covers a (datum 0 layout e)) q ∙ two.0,
            ap (λ (a : ℕ). covers (a + 1) (datum 0 layout e)) q
                ∙ two.1,
          )
      | inr k' ↦ uncovered layout e words both.1 r k'
    ]

pub sound_records : (P : ℕ) (layout : Layout) (words : List ℕ) (es : List DataEntry)
    → AllByRecursion (λ e. WellPlaced e.item) es → records_fault layout words es ≡ None
    → SoundProgram P layout words es
sound_records P layout words [] well h = record { moves = refl; apart = tt; free = tt; listed = refl; unmoved = refl }
sound_records P layout words (e ∷ es) well h =
    let both =
    none_first (record_fault layout words e) (records_fault layout (words ++ record_relocations layout e) es) h in
    let two =
    none_cond (covers_word (datum 0 layout e) words) _ (fixups_fault layout e [] e.item.fixups) both.0 in
    let here = sound_entry P layout e well.0 two.1 in
    let rest = sound_records P layout (words ++ record_relocations layout e) es well.1 both.1 in
    record {
      moves =
          ap (λ (d : LocatedBytes). d ∷ map (datum P layout) es) here.moves
          ∙ ap (λ (ds : List LocatedBytes). datum_at P (piece layout e) ∷ ds) rest.moves;
      apart = (here.apart, here.inside, rest.apart);
      free = (uncovered layout e words two.0, rest.free);
      listed = ap (λ (l : List ℕ). record_relocations layout e ++ l) rest.listed;
      unmoved = ap (λ (ds : List LocatedBytes). datum 0 layout e ∷ ds) rest.unmoved;
    }

pub program_moves : (P : ℕ) (layout : Layout) (modules : List Module) (image rs : List ℕ) →
    AllWellPlaced modules → data_fault layout modules ≡ None →
    length image ≡ layout.size → ((a : ℕ) → a < layout.size → get_or image a 0 ≡ program_byte 0 layout modules a) →
    AllApart rs → AllWordsInside layout.size rs → ((r : ℕ) → In r rs → In r (relocated_words layout modules)) →
    ((r : ℕ) → In r (relocated_words layout modules) → In r rs) →
    (a : ℕ) → a < layout.size → get_or (add_words P rs image) a 0 ≡ program_byte P layout modules a
program_moves P layout modules image rs well none n holds apart inside there back a h =
    let es = entries modules in
    let s = sound_records P layout [] es (recursion_from_All (λ e. WellPlaced e.item) es well) none in
    let ps : List Piece = map (piece layout) es in
    image_moves P layout.size ps image rs s.apart s.free n
    (λ b k. holds b k ∙ ap (λ (ds : List LocatedBytes). located ds b) s.unmoved) apart inside
    (λ r k. subst (λ (l : List ℕ). In r l) (sym s.listed) (there r k))
    (λ r k. back r (subst (λ (l : List ℕ). In r l) s.listed k)) a h
    ∙ ap (λ (ds : List LocatedBytes). located ds a) (sym s.moves)
