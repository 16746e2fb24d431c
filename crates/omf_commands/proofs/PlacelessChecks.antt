-- What the checks refuse doesn't hang on where the records stand.
use Rattle.std.proofs.Common.{◌≡◌, ℕ, Bool, List, [], ◌∷◌, ◌++◌, map, length, Option, None, Some, is_some, option_map}
use Rattle.std.proofs.Common.{refl, sym, ap, ap₂, ◌∙◌}
use Rattle.std.specs.List.{filter_map, cons_option}
use Rattle.omf_record.specs.Record.{Record, Modend, Pubdef, Segdef, Grpdef, Fixupp, Ledata, Lidata}
use Rattle.omf_record.specs.Records.{Placed}
use Rattle.omf_record.specs.declared.fixups.Reference.{Reference}
use Rattle.omf_module.specs.declared.fault.CheckFault.{CheckFault}
use Rattle.omf_module.specs.Before.{along, first, last, entry}
use Rattle.omf_module.specs.Tables.{contents_in, subrecords, frame_thread, target_thread, used, module_of}
use Rattle.omf_module.specs.Faults.{data_fault, public_fault, subrecord_item, items, fault, first_fault}
use Rattle.omf_module.specs.inside.Checking.{segment_fault, group_items, start_fault}
use Rattle.omf_module.specs.inside.Contents.{last_contents}
use Rattle.omf_module.proofs.InOrder.{start_in_order}
use Rattle.omf_commands.proofs.Placeless.{unplaced, unplaced_said, along_same, map_along, is_some_map, none_of}
use Rattle.omf_commands.proofs.Placeless.{names_same, segments_same, subrecords_same, module_of_unplaced}

contents_same : (before : List Placed) → last_contents (map unplaced before) ≡ last_contents before
contents_same before = ap last (each before)
  where
    each : (rs : List Placed) → filter_map (λ (r : Placed). contents_in r.says) (map unplaced rs)
        ≡ filter_map (λ (r : Placed). contents_in r.says) rs
    each [] = refl
    each (r ∷ rs) = ap (cons_option (contents_in r.says)) (each rs)

-- the item of a start
start_item : (before : List Placed) (main : Bool) (r : Reference)
    → items before (Modend main (Some r))
    ≡ start_fault (module_of before) (used (frame_thread (subrecords before)) r.frame)
    (used (target_thread (subrecords before)) r.target)
    ∷ []
start_item before main r =
    ap (λ o. o ∷ [])
    (sym
    (start_in_order (module_of before) (used (frame_thread (subrecords before)) r.frame)
    (used (target_thread (subrecords before)) r.target)))

items_same : (before : List Placed) (r : Record) → items (map unplaced before) r ≡ items before r
items_same before (Segdef d) = ap (λ ns. segment_fault ns d ∷ []) (names_same before)
items_same before (Grpdef name components) =
    ap₂ (λ ns ss. group_items ns ss name components) (names_same before) (segments_same before)
items_same before (Pubdef local base listed) = ap (λ m. public_fault m base ∷ []) (module_of_unplaced before)
items_same before (Ledata segment offset bytes) =
    ap (λ ss. data_fault (entry ss segment) offset (length bytes) ∷ []) (segments_same before)
items_same before (Lidata segment offset blocks) = rw (segments_same before)
items_same before (Fixupp subs) =
    ap₂ (λ m c. along [] (λ earlier x. subrecord_item m c (subrecords (map unplaced before) ++ earlier) x ∷ []) subs)
    (module_of_unplaced before) (contents_same before)
    ∙ ap
    (λ s. along [] (λ earlier x. subrecord_item (module_of before) (last_contents before) (s ++ earlier) x ∷ []) subs)
    (subrecords_same before)
items_same before (Modend main (Some r)) =
    start_item (map unplaced before) main r
    ∙ (ap₂ (λ m s. start_fault m (used (frame_thread s) r.frame) (used (target_thread s) r.target) ∷ [])
    (module_of_unplaced before) (subrecords_same before)
    ∙ sym (start_item before main r))
items_same before _ = refl

fault_same : (before : List Placed) (r : Record) → fault (map unplaced before) r ≡ fault before r
fault_same [] r = refl
fault_same (b ∷ before) r = ap first (items_same (b ∷ before) r)

-- the fault of a record with its place, and without
abbrev fault_in : List Placed → Placed → List (Option (ℕ × CheckFault))
fault_in before r = option_map (λ f. (r.place, f)) (fault before r.says) ∷ []

abbrev placeless_fault : ℕ × CheckFault → ℕ × CheckFault
placeless_fault f = (0, f.1)

fault_in_same : (before : List Placed) (r : Placed)
    → fault_in (map unplaced before) (unplaced r) ≡ map (option_map placeless_fault) (fault_in before r)
fault_in_same before r =
    ap (λ o. option_map (λ f. (0, f)) o ∷ []) (fault_same before r.says) ∙ of_fault (fault before r.says)
  where
    of_fault : (o : Option CheckFault)
        → option_map (λ f. (0, f)) o ∷ [] ≡ option_map placeless_fault (option_map (λ f. (r.place, f)) o) ∷ []
    of_fault None = refl
    of_fault (Some f) = refl

map_first : {A B : Type 0} (f : A → B) (os : List (Option A)) → first (map (option_map f) os) ≡ option_map f (first os)
map_first f [] = refl
map_first f (None ∷ os) = map_first f os
map_first f ((Some x) ∷ os) = refl

faulty_same : (rs : List Placed) → is_some (first_fault (map unplaced rs)) ≡ is_some (first_fault rs)
faulty_same rs =
    ap (λ os. is_some (first os))
    (along_same unplaced fault_in (λ before r. map (option_map placeless_fault) (fault_in before r)) fault_in_same [] rs
    ∙ map_along (option_map placeless_fault) fault_in [] rs)
    ∙ (ap is_some (map_first placeless_fault (along [] fault_in rs)) ∙ is_some_map placeless_fault (first_fault rs))

-- where no check refuses records, none refuses others that say the same
pub sound_of : (rs others : List Placed) → map (λ (r : Placed). r.says) rs ≡ map (λ (r : Placed). r.says) others
    → first_fault rs ≡ None → first_fault others ≡ None
sound_of rs others same sound =
    none_of (first_fault others)
    (sym (faulty_same others)
    ∙ (ap (λ l. is_some (first_fault l)) (sym (unplaced_said rs others same)) ∙ (faulty_same rs ∙ ap is_some sound)))
