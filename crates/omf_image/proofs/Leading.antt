-- One data record more leads on to the program.
use Rattle.std.proofs.Common.{◌≡◌, ℕ, ◌+◌, ◌*◌, ◌<◌, ◌≤◌, Bool, true, false, cond, ◌&&◌, ◌||◌, ltb, eqb, List, [], ◌∷◌}
use Rattle.std.proofs.Common.{◌++◌, map, filter, flat_map, set, length, get_or, Option, Some, None, Result, Ok, Err}
use Rattle.std.proofs.Common.{OnOk, inl, inr, eq-eqb, refl, ap, ◌∙◌, sym, arith, subst}
use Rattle.std.proofs.Math.Bool.{or_assoc, or-true, or-false}
use Rattle.std.specs.List.{list_any}
use Rattle.std.specs.Prelude.{IsErrAnd}
use Rattle.std.proofs.lemmas.Result.{err_from_is_err_and}
use Rattle.std.proofs.lemmas.List.{get_or-set_same, get_or-set_other, length-set}
use Rattle.std.proofs.lemmas.List.Folds.{list_any-append}
use Rattle.std.proofs.lemmas.Bool.{cases_eq, cases_Bool, cond-true, cond-false, ne_eqb}
use Rattle.omf_module.specs.Module.{Module}
use Rattle.omf_place.specs.Layout.{Layout}
use Rattle.omf_image.specs.declared.faults.FixFault.{FixFault}
use Rattle.omf_image.specs.declared.faults.FixFault.TheVariants.{At, TooManyRelocations, Memory}
use Rattle.omf_image.specs.declared.faults.FixKind.TheVariants.{CoversRelocated}
use Rattle.omf_image.specs.inside.Patches.{relocated_places}
use Rattle.omf_image.specs.Located.{LocatedBytes, covers, in_page}
use Rattle.omf_image.specs.inside.Whole.{covers_word, byte_of, data_fault}
use Rattle.omf_image.specs.inside.Leading.{last_or}
use Rattle.omf_image.specs.Records.{entry_start, bytes_of, datum, patches, record_relocations}
use Rattle.omf_image.specs.inside.Entries.{DataEntry}
use Rattle.omf_image.specs.inside.WellPlaced.{WellPlaced}
use Rattle.omf_image.specs.Faults.{fixups_fault, record_fault, records_fault}
use Rattle.std.specs.Option.{option_or}
use Rattle.omf_image.specs.inside.States.{State, begun, Holds}
use Rattle.omf_image.specs.declared.patch.Patch.{Patch}
use Rattle.omf_image.specs.Building.{Answers}
use Rattle.omf_image.specs.inside.Leading.{IsListed, IsWhole, Leads}
use Rattle.omf_image.proofs.Law.{length-patched_all}
use Rattle.omf_image.proofs.Records.{sound_entry}
use Rattle.omf_image.proofs.Members.{In, In-map}

or_swap : (x y z : Bool) → (x || (y || z)) ≡ ((y || x) || z)
or_swap true true z = refl
or_swap true false z = refl
or_swap false true z = refl
or_swap false false z = refl

set_told : (flags : List Bool) (w a : ℕ) → (a ≡ w → w < length flags)
    → get_or (set flags w true) a false ≡ (get_or flags a false || eqb a w)
set_told flags w a h = elim (cases_eq a w) [
  | inl e ↦
      ap (λ (k : ℕ). get_or (set flags w true) k false) e ∙ get_or-set_same flags w true false (h e)
      ∙ sym (ap (λ (b : Bool). get_or flags a false || b) (eq-eqb a w e) ∙ or-true (get_or flags a false))
  | inr ne ↦
      get_or-set_other flags w a true false ne
      ∙ sym (ap (λ (b : Bool). get_or flags a false || b) (ne_eqb a w ne) ∙ or-false (get_or flags a false))
]

-- flags that are set
pub begun_told : (ws : List ℕ) (flags : List Bool) (a : ℕ) → ((w : ℕ) → In w ws → a ≡ w → w < length flags)
    → get_or (begun ws flags) a false ≡ (get_or flags a false || list_any (λ w. eqb a w) ws)
begun_told [] flags a h = sym (or-false (get_or flags a false))
begun_told (w ∷ ws) flags a h =
    begun_told ws (set flags w true) a
    (λ v k e. subst (λ (n : ℕ). v < n) (sym (length-set flags w true)) (h v (inr k) e))
    ∙ ap (λ (b : Bool). b || list_any (λ w. eqb a w) ws) (set_told flags w a (h w (inl refl)))
    ∙ or_assoc (get_or flags a false) (eqb a w) (list_any (λ w. eqb a w) ws)

-- the byte of the program at an address, with the first datum that is left laid over the image
pub laid_on : (d : LocatedBytes) (ds : List LocatedBytes) (a old new : ℕ) → new ≡ cond (covers a d) (byte_of a d) old
    → last_or new (map (byte_of a) (filter (covers a) ds)) ≡ last_or old (map (byte_of a) (filter (covers a) (d ∷ ds)))
laid_on d ds a old new e = elim (cases_Bool (covers a d)) [
  | inl t ↦
      ap (λ (n : ℕ). last_or n (map (byte_of a) (filter (covers a) ds)))
      (e ∙ cond-true (covers a d) (byte_of a d) old t)
      ∙ sym
      (ap (λ (l : List LocatedBytes). last_or old (map (byte_of a) l))
      (cond-true (covers a d) (d ∷ filter (covers a) ds) (filter (covers a) ds) t))
  | inr t ↦
      ap (λ (n : ℕ). last_or n (map (byte_of a) (filter (covers a) ds)))
      (e ∙ cond-false (covers a d) (byte_of a d) old t)
      ∙ sym
      (ap (λ (l : List LocatedBytes). last_or old (map (byte_of a) l))
      (cond-false (covers a d) (d ∷ filter (covers a) ds) (filter (covers a) ds) t))
]

pub in_page_sized : (k start : ℕ) (xs ys : List ℕ) → length xs ≡ length ys
    → in_page k (record { start = start; bytes = xs }) ≡ in_page k (record { start = start; bytes = ys })
in_page_sized k start xs ys e = ap (λ (n : ℕ). ltb 0 n && (ltb start (4096 * (k + 1)) && ltb (4096 * k) (start + n))) e

pub record_clean : (layout : Layout) (e : DataEntry) (words : List ℕ) → covers_word (datum 0 layout e) words ≡ false
    → fixups_fault layout e [] e.item.fixups ≡ None → record_fault layout words e ≡ None
record_clean layout e words h k =
    cond-false (covers_word (datum 0 layout e) words) (Some (At CoversRelocated e.input e.item.place))
    (fixups_fault layout e [] e.item.fixups) h ∙ k

-- a data record was added to the state base
pub leads_on : (layout : Layout) (modules : List Module) (base now : State) (e : DataEntry) (rest : List DataEntry)
    → WellPlaced e.item → IsWhole layout base
    → entry_start layout e + length (bytes_of e.item) ≤ layout.size → (l : Leads layout modules base (e ∷ rest))
    → covers_word (datum 0 layout e) l.so_far ≡ false → fixups_fault layout e [] e.item.fixups ≡ None
    → Holds (entry_start layout e) (bytes_of e.item) base now (patches 0 layout e)
    → Leads layout modules now rest
leads_on layout modules base now e rest well whole inside l clean none h =
    let d = datum 0 layout e in
    let ps = patches 0 layout e in
    let start = entry_start layout e in
    let n : length d.bytes ≡ length (bytes_of e.item) = length-patched_all ps (bytes_of e.item) in
    let sound = sound_entry 0 layout e well none in
    let mine = record_relocations layout e in
    let room : (w : ℕ) → In w mine → w < length base.words = λ w k.
    let g = In-map start w (relocated_places ps) k in
    let i = sound.inside g.0 g.1 in
    let one = whole.sized in
    let two = whole.words in
    omega (arith, g.2, i, n, inside, one, two) in
    let flags : (a : ℕ) → get_or now.words a false ≡ (get_or base.words a false || list_any (λ w. eqb a w) mine) = λ a.
    ap (λ (f : List Bool). get_or f a false) h.words ∙ begun_told mine base.words a (λ w k e. room w k) in
    record {
      image =
          λ a.
          laid_on d (map (datum 0 layout) rest) a (get_or base.image a 0) (get_or now.image a 0) (h.image.each a)
          ∙ l.image a;
      pages = λ k.
          ap (λ (b : Bool). list_any (in_page k) (map (datum 0 layout) rest) || b)
          (h.made k
          ∙ ap (λ (b : Bool). b || get_or base.made k false)
          (in_page_sized k start (bytes_of e.item) d.bytes (sym n)))
          ∙ or_swap (list_any (in_page k) (map (datum 0 layout) rest)) (in_page k d) (get_or base.made k false)
          ∙ l.pages k;
      words = λ a.
          ap (λ (b : Bool). b || list_any (λ w. eqb a w) (flat_map (record_relocations layout) rest)) (flags a)
          ∙ or_assoc (get_or base.words a false) (list_any (λ w. eqb a w) mine)
          (list_any (λ w. eqb a w) (flat_map (record_relocations layout) rest))
          ∙ ap (λ (b : Bool). get_or base.words a false || b)
          (sym (list_any-append (λ w. eqb a w) mine (flat_map (record_relocations layout) rest)))
          ∙ l.words a;
      so_far = l.so_far ++ mine;
      listed =
          λ a.
          flags a ∙ ap (λ (b : Bool). b || list_any (λ w. eqb a w) mine) (l.listed a)
          ∙ sym (list_any-append (λ w. eqb a w) l.so_far mine);
      fault =
          ap (λ (o : Option FixFault). option_or o (records_fault layout (l.so_far ++ mine) rest))
          (sym (record_clean layout e l.so_far clean none)) ∙ l.fault;
    }

-- the first record that is left has a fault
pub leads_to_fault : (layout : Layout) (modules : List Module) (base : State) (e : DataEntry) (rest : List DataEntry)
    (f : FixFault) → (l : Leads layout modules base (e ∷ rest)) → record_fault layout l.so_far e ≡ Some f
    → data_fault layout modules ≡ Some f
leads_to_fault layout modules base e rest f l h =
    sym l.fault
    ∙ ap (λ (o : Option FixFault). option_or o (records_fault layout (l.so_far ++ record_relocations layout e) rest)) h

pub covers_fault : (layout : Layout) (e : DataEntry) (words : List ℕ) → covers_word (datum 0 layout e) words ≡ true
    → record_fault layout words e ≡ Some (At CoversRelocated e.input e.item.place)
covers_fault layout e words h =
    cond-true (covers_word (datum 0 layout e) words) (Some (At CoversRelocated e.input e.item.place))
    (fixups_fault layout e [] e.item.fixups) h

pub fixups_are_fault : (layout : Layout) (e : DataEntry) (words : List ℕ) (f : FixFault)
    → covers_word (datum 0 layout e) words ≡ false → fixups_fault layout e [] e.item.fixups ≡ Some f
    → record_fault layout words e ≡ Some f
fixups_are_fault layout e words f h k =
    cond-false (covers_word (datum 0 layout e) words) (Some (At CoversRelocated e.input e.item.place))
    (fixups_fault layout e [] e.item.fixups) h ∙ k

-- ---- answers
pub answers_on : {X : Type 0} (r : Result X FixFault) (F G : Option FixFault) (P Q : Type 0)
    → ((f : FixFault) → F ≡ Some f → G ≡ Some f) → (P → Q) → Answers r F (λ _. P) → Answers r G (λ _. Q)
answers_on (Ok x) F G P Q e h a = h a
answers_on (Err Memory) F G P Q e h a = tt
answers_on (Err (At kind input place)) F G P Q e h a = e (At kind input place) a
answers_on (Err TooManyRelocations) F G P Q e h a = e TooManyRelocations a

pub on_ok : {X : Type 0} (r : Result X FixFault) (F : Option FixFault) (P Q : Type 0) → (P → Q) → Answers r F (λ _. P)
    → OnOk r Q
on_ok (Ok x) F P Q h a = h a
on_ok (Err f) F P Q h a = tt

pub holds_same : (start start' : ℕ) (bytes bytes' : List ℕ) (base now : State) (ps : List Patch) → start' ≡ start
    → bytes' ≡ bytes → Holds start bytes base now ps → Holds start' bytes' base now ps
holds_same start start' bytes bytes' base now ps e f h =
    subst (λ (s : ℕ). Holds s bytes' base now ps) (sym e) (subst (λ (l : List ℕ). Holds start l base now ps) (sym f) h)

pub listed_same : (flags flags' : List Bool) (words : List ℕ) → flags' ≡ flags → IsListed flags words
    → IsListed flags' words
listed_same flags flags' words e h a = ap (λ (f : List Bool). get_or f a false) e ∙ h a

-- a refusal says the same of every success
pub refused_on : {X Y : Type 0} (f : FixFault) (F G : Option FixFault) (K : X → Type 0) (L : Y → Type 0)
    → ((g : FixFault) → F ≡ Some g → G ≡ Some g) → Answers (Err f) F K → Answers (Err f) G L
refused_on Memory F G K L h a = tt
refused_on (At kind input place) F G K L h a = h (At kind input place) a
refused_on TooManyRelocations F G K L h a = h TooManyRelocations a

pub refused : {X Y : Type 0} (f : FixFault) (F : Option FixFault) (K : X → Type 0) (L : Y → Type 0)
    → Answers (Err f) F K → Answers (Err f) F L
refused f F K L a = refused_on f F F K L (λ g e. e) a

-- a refusal that is handed on
pub refused_by : {X Y : Type 0} (r : Result Y FixFault) (f : FixFault) (F G : Option FixFault) (K : X → Type 0)
    (L : Y → Type 0) → IsErrAnd r (λ e. e ≡ f)
    → ((g : FixFault) → F ≡ Some g → G ≡ Some g) → Answers (Err f) F K → Answers r G L
refused_by r f F G K L h e a =
    let p = err_from_is_err_and r h in
    subst (λ q. Answers q G L) (sym (p.1 ∙ ap Err p.2)) (refused_on f F G K L e a)
