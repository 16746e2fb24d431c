-- Sound modules and a layout of them are ready: what fix-ups and starts name is there, and data lies inside the
-- program.
use Rattle.std.proofs.Common.{◌≡◌, ℕ, suc, ◌+◌, ◌<◌, ◌≤◌, false, List, [], ◌∷◌, length, All, Option, Some, None, IfSome}
use Rattle.std.proofs.Common.{slice_get, refl, subst, arith}
use Rattle.std.proofs.lemmas.List.{length-map}
use Rattle.std.proofs.lemmas.List.Elements.{All-nil, All-append, All-cons, All-map, All-weaker}
use Rattle.std.proofs.lemmas.Option.{slice_get_within, get_or_from_slice_get}
use Rattle.omf_record.specs.declared.fixups.FrameMethod.{FrameMethod}
use Rattle.omf_record.specs.declared.fixups.FrameMethod.TheVariants as by
use Rattle.omf_record.specs.declared.fixups.TargetMethod.{TargetMethod}
use Rattle.omf_record.specs.declared.fixups.TargetMethod.TheVariants as to
use Rattle.omf_module.specs.declared.ResolvedFixup.{ResolvedFixup}
use Rattle.omf_module.specs.declared.Standing.{Standing}
use Rattle.omf_module.specs.declared.Standing.TheVariants.{Absolute, Relocatable}
use Rattle.omf_module.specs.declared.Start.{Start}
use Rattle.omf_module.specs.Faults.{is_absolute}
use Rattle.omf_module.specs.Module.{DataRecord, Module}
use Rattle.omf_module.specs.Sound.{FrameMeans, TargetMeans, FixupFits, DataFits, StartFits, IsSound}
use Rattle.omf_place.specs.declared.layout.Position.{Position}
use Rattle.omf_place.specs.declared.layout.Position.TheVariants as position
use Rattle.omf_place.specs.Bounded.{LiesInside, ArePlacesOf, IsBounded}
use Rattle.omf_place.specs.Layout.{Layout, places_of, segment_position}
use Rattle.omf_image.specs.Value.{real_address}
use Rattle.omf_image.specs.Records.{bytes_of}
use Rattle.omf_image.specs.inside.Entries.{StartEntry, DataEntry, module_entries, entries_from}
use Rattle.omf_image.specs.inside.Entries.{module_start, starts_from}
use Rattle.omf_image.specs.inside.Ready.{IsTargetThere, IsFrameThere, IsFixupReady, IsEntryReady, IsStartReady, IsReady}
use Rattle.omf_image.proofs.Listing.{entry_of}

all_get : {X : Type 0} (P : X → Type 0) (xs : List X) (k : ℕ) (x : X) → All P xs → slice_get xs k ≡ Some x → P x
all_get P xs k x h e = subst P (get_or_from_slice_get xs k x x e) (h k x (slice_get_within xs k x e))

-- a part's address, with its length, lies inside the program
part_inside : (size n : ℕ) (st : Standing) (p : Position) → is_absolute st ≡ false → LiesInside size n st p
    → real_address 0 p + n ≤ size
part_inside size n (Absolute frame offset) p e h = cc
part_inside size n (Relocatable alignment kind) (position.Relocatable a (Some f)) e h = omega (arith, h)
part_inside size n (Relocatable alignment kind) (position.Relocatable a None) e h = absurd h
part_inside size n (Relocatable alignment kind) (position.Absolute a f) e h = absurd h

module _ (ms : List Module) (layout : Layout) (bounded : IsBounded ms layout) where
  module _ (k : ℕ) (m : Module) (at : slice_get ms k ≡ Some m) where
    places : ArePlacesOf layout.size m (places_of layout k)
    places = bounded.each k m at

    input_there : k < length layout.modules
    input_there = let w = slice_get_within ms k m at in let e = bounded.modules in omega (arith, w, e)

    target_there : (t : TargetMethod) → TargetMeans m.segments m.groups m.externals t → IsTargetThere layout k m t
    target_there (to.Segment s) h = let e = places.segments in (h.0, omega (arith, h.1, e))
    target_there (to.Group g) h = let e = places.groups in (h.0, omega (arith, h.1, e))
    target_there (to.External e) h = h

    frame_there : (here : ℕ) (f : FrameMethod) → FrameMeans m.segments m.groups m.externals f
        → (f ≡ by.Location → here < length (places_of layout k).segments) → IsFrameThere layout k m here f
    frame_there here (by.By method) h l = target_there method h
    frame_there here by.Location h l = l refl
    frame_there here by.Target h l = tt

    fixup_ready : (d : DataRecord) (x : ResolvedFixup) → d.segment < length (places_of layout k).segments
        → FixupFits m.segments m.groups m.externals d x → IsFixupReady layout (entry_of k m d) x
    fixup_ready d x h fits = record {
      target = target_there x.target fits.target;
      frame = frame_there d.segment x.frame fits.frame (λ e. h);
      lies = fits.together;
      whole = fits.whole;
    }

    entry_ready : (d : DataRecord) → DataFits m.segments m.groups m.externals d → IsEntryReady layout (entry_of k m d)
    entry_ready d fits =
        let here : d.segment < length (places_of layout k).segments =
        (let w = slice_get_within m.segments d.segment fits.segment fits.is_part.0 in
        let e = places.segments in omega (arith, w, e)) in
        let p = places.each d.segment fits.segment fits.is_part.0 in
        let low =
        part_inside layout.size fits.segment.length fits.segment.standing (segment_position layout k d.segment)
        fits.is_part.1 p in
        let count : length (bytes_of d) ≡ length d.pairs = length-map d.pairs (λ (p : ℕ × ℕ). p.1) in
        let inner = fits.inside in
        record {
          input = input_there;
          segment = here;
          inside = omega (arith, low, count, inner);
          fixups =
              All-weaker (FixupFits m.segments m.groups m.externals d) (IsFixupReady layout (entry_of k m d))
              (λ x h. fixup_ready d x here h) d.fixups fits.fixups;
          copies = fits.copies;
        }

    module_ready : IsSound m → All (IsEntryReady layout) (module_entries k m)
    module_ready sound = All-map (IsEntryReady layout) (entry_of k m) m.data_records
        (All-weaker (DataFits m.segments m.groups m.externals) (λ d. IsEntryReady layout (entry_of k m d)) entry_ready
        m.data_records sound.data_records)

    start_ready : (o : Option Start) → IfSome o (StartFits m.segments m.groups m.externals)
        → All (IsStartReady layout) (module_start o k m)
    start_ready None h = All-nil (IsStartReady layout)
    start_ready (Some s) h = All-cons (IsStartReady layout) (record { input = k; module' = m; item = s }) []
        (record {
          input = input_there;
          target = target_there s.target h.target;
          frame = frame_there 0 s.frame h.frame (λ e. absurd (h.no_location e));
        })
        (All-nil (IsStartReady layout))

  -- what holds of each module's part holds of all
  entries_all : (P : DataEntry → Type 0) (n : ℕ) (xs : List Module)
      → ((k : ℕ) (m : Module) → slice_get xs k ≡ Some m → All P (module_entries (n + k) m)) → All P (entries_from n xs)
  entries_all P n [] h = All-nil P
  entries_all P n (x ∷ xs) h =
      let here : n + 0 ≡ n = omega arith in
      All-append P (module_entries n x) (entries_from (n + 1) xs)
      (subst (λ j. All P (module_entries j x)) here (h 0 x refl))
      (entries_all P (n + 1) xs
      (λ k m e.
      let next : n + suc k ≡ n + 1 + k = omega arith in subst (λ j. All P (module_entries j m)) next (h (suc k) m e)))

  starts_all : (P : StartEntry → Type 0) (n : ℕ) (xs : List Module)
      → ((k : ℕ) (m : Module) → slice_get xs k ≡ Some m → All P (module_start m.start (n + k) m))
      → All P (starts_from n xs)
  starts_all P n [] h = All-nil P
  starts_all P n (x ∷ xs) h =
      let here : n + 0 ≡ n = omega arith in
      All-append P (module_start x.start n x) (starts_from (n + 1) xs)
      (subst (λ j. All P (module_start x.start j x)) here (h 0 x refl))
      (starts_all P (n + 1) xs
      (λ k m e.
      let next : n + suc k ≡ n + 1 + k = omega arith in
      subst (λ j. All P (module_start m.start j m)) next (h (suc k) m e)))

pub ready : (ms : List Module) (layout : Layout) → All IsSound ms → IsBounded ms layout → IsReady layout ms
ready ms layout sound bounded = record {
  small = bounded.size;
  records = entries_all ms layout bounded (IsEntryReady layout) 0 ms (λ k m e.
      let same : k ≡ 0 + k = omega arith in
      subst (λ j. All (IsEntryReady layout) (module_entries j m)) same
      (module_ready ms layout bounded k m e (all_get IsSound ms k m sound e)));
  starts = starts_all ms layout bounded (IsStartReady layout) 0 ms (λ k m e.
      let same : k ≡ 0 + k = omega arith in
      subst (λ j. All (IsStartReady layout) (module_start m.start j m)) same
      (start_ready ms layout bounded k m e m.start (let s = all_get IsSound ms k m sound e in s.start)));
}
