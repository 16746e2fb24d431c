-- A module whose externals mean others of it keeps its promises.
use Rattle.std.proofs.Common.{◌≡◌, ℕ, zero, suc, List, Option, None, Some, refl, subst}
use Rattle.std.specs.Prelude.{IfSome, All, unwrap_or}
use Rattle.std.specs.List.{slice_get}
use Rattle.std.specs.Option.{option_map}
use Rattle.std.proofs.lemmas.List.Elements.{All-get_or, All-map, All-weaker}
use Rattle.std.proofs.lemmas.Option.{slice_get_within, get_or_from_slice_get}
use Rattle.omf_record.specs.declared.fixups.FrameMethod.{FrameMethod}
use Rattle.omf_record.specs.declared.fixups.FrameMethod.TheVariants as by
use Rattle.omf_record.specs.declared.fixups.TargetMethod.{TargetMethod}
use Rattle.omf_record.specs.declared.fixups.TargetMethod.TheVariants as to
use Rattle.omf_module.specs.declared.ResolvedFixup.{ResolvedFixup}
use Rattle.omf_module.specs.declared.Start.{Start}
use Rattle.omf_module.specs.Module.{Segment, Group, ExternalSymbol, DataRecord, Module}
use Rattle.omf_module.specs.Defaulted.{meaning, target_in, frame_in, fixup_in, data_in, start_in, defaulted}
use Rattle.omf_module.specs.Sound.{IsIndexOf, TargetMeans, FrameMeans, FixupFits, DataFits, StartFits, IsSound}

module _ (ss : List Segment) (gs : List Group) (es : List ExternalSymbol) (meanings : List ℕ)
    (are : All (IsIndexOf es) meanings) where
  found : (n i : ℕ) → slice_get meanings n ≡ Some i → IsIndexOf es i
  found n i e =
      subst (IsIndexOf es) (get_or_from_slice_get meanings n i i e)
      (All-get_or (IsIndexOf es) meanings n i (slice_get_within meanings n i e) are)

  of_found : (o : Option ℕ) (own : ℕ) → ((i : ℕ) → o ≡ Some i → IsIndexOf es i) → IsIndexOf es own
      → IsIndexOf es (unwrap_or o own)
  of_found None own f h = h
  of_found (Some i) own f h = f i refl

  meaning_means : (index : ℕ) → IsIndexOf es index → IsIndexOf es (meaning meanings index)
  meaning_means zero h = h
  meaning_means (suc n) h = of_found (slice_get meanings n) (suc n) (found n) h

  target_means : (t : TargetMethod) → TargetMeans ss gs es t → TargetMeans ss gs es (target_in meanings t)
  target_means (to.Segment i) h = h
  target_means (to.Group i) h = h
  target_means (to.External i) h = meaning_means i h

  frame_means : (f : FrameMethod) → FrameMeans ss gs es f → FrameMeans ss gs es (frame_in meanings f)
  frame_means (by.By method) h = target_means method h
  frame_means by.Location h = h
  frame_means by.Target h = h

  fixup_fits : (d : DataRecord) (x : ResolvedFixup) → FixupFits ss gs es d x
      → FixupFits ss gs es (data_in meanings d) (fixup_in meanings x)
  fixup_fits d x h = record {
    frame = frame_means x.frame h.frame;
    target = target_means x.target h.target;
    together = h.together;
    whole = h.whole;
    relative = h.relative;
  }

  data_fits : (d : DataRecord) → DataFits ss gs es d → DataFits ss gs es (data_in meanings d)
  data_fits d h = record {
    segment = h.segment;
    is_part = h.is_part;
    inside = h.inside;
    copies = h.copies;
    fixups = All-map (FixupFits ss gs es (data_in meanings d)) (fixup_in meanings) d.fixups
        (All-weaker (FixupFits ss gs es d) (λ x. FixupFits ss gs es (data_in meanings d) (fixup_in meanings x))
        (fixup_fits d) d.fixups h.fixups);
  }

  no_location : (f : FrameMethod) → (f ≡ by.Location → ⊥) → frame_in meanings f ≡ by.Location → ⊥
  no_location (by.By method) h e = cc
  no_location by.Location h e = h e
  no_location by.Target h e = cc

  start_fits : (o : Option Start) → IfSome o (StartFits ss gs es)
      → IfSome (option_map (start_in meanings) o) (StartFits ss gs es)
  start_fits None h = tt
  start_fits (Some s) h = record {
    frame = frame_means s.frame h.frame;
    target = target_means s.target h.target;
    no_location = no_location s.frame h.no_location;
  }

pub sound_defaulted : (meanings : List ℕ) (m : Module) → IsSound m → All (IsIndexOf m.externals) meanings
    → IsSound (defaulted meanings m)
sound_defaulted meanings m h are =
    let fits = DataFits m.segments m.groups m.externals in
    record {
      segments = h.segments;
      groups = h.groups;
      externals = h.externals;
      publics = h.publics;
      data_records = All-map fits (data_in meanings) m.data_records
          (All-weaker fits (λ d. fits (data_in meanings d))
          (data_fits m.segments m.groups m.externals meanings are) m.data_records h.data_records);
      start = start_fits m.segments m.groups m.externals meanings are m.start h.start;
    }
