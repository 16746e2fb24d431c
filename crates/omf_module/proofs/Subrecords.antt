-- What is kept inside a FIXUPP record, one subrecord further.
use Rattle.std.proofs.Common.{◌≡◌, ℕ, true, List, [], ◌∷◌, ◌++◌, length, map, Option, None, Some, refl, ◌∙◌}
use Rattle.std.proofs.Common.{append_assoc, arith, set}
use Rattle.std.proofs.lemmas.List.{append-nil, map-append}
use Rattle.std.specs.Option.{option_to_list}
use Rattle.std.specs.List.{enumerate_from}
use Rattle.omf_record.specs.Record.{Fixupp}
use Rattle.omf_record.specs.declared.fixups.ThreadNumber.{ThreadNumber}
use Rattle.omf_record.specs.declared.fixups.ThreadNumber.TheVariants.{Zero, One, Two, Three}
use Rattle.omf_record.specs.declared.fixups.FrameMethod.{FrameMethod}
use Rattle.omf_record.specs.declared.fixups.TargetMethod.{TargetMethod}
use Rattle.omf_record.specs.declared.fixups.Subrecord.{Subrecord}
use Rattle.omf_record.specs.declared.fixups.Subrecord.TheVariants as sub
use Rattle.omf_module.specs.declared.fault.CheckFault.{CheckFault}
use Rattle.omf_module.specs.declared.ResolvedFixup.{ResolvedFixup}
use Rattle.omf_module.specs.Before.{along, first}
use Rattle.omf_module.specs.Tables.{module_of, data_of, subrecords, fixups, frame_thread, target_thread}
use Rattle.omf_module.specs.Tables.{data_record, fixup_in, used}
use Rattle.omf_record.specs.Numbers.{thread_number}
use Rattle.omf_record.specs.Records.{Placed}
use Rattle.omf_module.specs.Faults.{subrecord_item}
use Rattle.omf_module.specs.inside.Contents.{last_contents}
use Rattle.omf_module.specs.inside.Running.{State, state_of, checked, step_subrecord, step_subrecords, step_record}
use Rattle.omf_module.specs.inside.Running.{thread_numbers, add_to_last, ◌>>=◌}
use Rattle.std.proofs.lemmas.List.Elements.{filter_map-append}
use Rattle.omf_module.proofs.Lists.{along_push, last_append}
use Rattle.omf_module.proofs.FixupsOn.{new_fixups}
use Rattle.omf_module.proofs.InOrder.{fixup_in_order}
use Rattle.omf_module.proofs.Growing.{Steps, state_push, used_slots, fixup_of-is}

-- what is kept after these subrecords of a record that stands behind `rs`
abbrev Inside : ℕ → List Placed → List Subrecord → State
Inside place rs done = record (state_of rs) {
  begun = true;
  frame_threads = map (frame_thread (subrecords rs ++ done)) thread_numbers;
  target_threads = map (target_thread (subrecords rs ++ done)) thread_numbers;
  data_records =
      map (data_record
      (fixups rs
      ++ map (λ x. (length (data_of rs), x))
      (along [] (λ earlier x. option_to_list (fixup_in place (subrecords rs ++ earlier) x)) done)))
      (enumerate_from 1 (data_of rs));
}

inside_whole : (place : ℕ) (body : List ℕ) (rs : List Placed) (subs : List Subrecord)
    → state_of (rs ++ record { place = place; body = body; says = Fixupp subs } ∷ []) ≡ Inside place rs subs
inside_whole place body rs subs = rw state_push (simp (append-nil, filter_map-append, last_append))

inside_none : (place : ℕ) (rs : List Placed) → Inside place rs [] ≡ record (state_of rs) { begun = true }
inside_none place rs = simp append-nil

abbrev item : List Placed → List Subrecord → Subrecord → Option CheckFault
item rs earlier x = subrecord_item (module_of rs) (last_contents rs) (subrecords rs ++ earlier) x

frame_set_more : (subs : List Subrecord) (t : ThreadNumber) (method : FrameMethod)
    → map (frame_thread (subs ++ sub.SetFrame t method ∷ [])) thread_numbers
    ≡ set (map (frame_thread subs) thread_numbers) (thread_number t) (Some method)
frame_set_more subs Zero method = simp (filter_map-append, last_append)
frame_set_more subs One method = simp (filter_map-append, last_append)
frame_set_more subs Two method = simp (filter_map-append, last_append)
frame_set_more subs Three method = simp (filter_map-append, last_append)

target_set_more : (subs : List Subrecord) (t : ThreadNumber) (method : TargetMethod)
    → map (target_thread (subs ++ sub.SetTarget t method ∷ [])) thread_numbers
    ≡ set (map (target_thread subs) thread_numbers) (thread_number t) (Some method)
target_set_more subs Zero method = simp (filter_map-append, last_append)
target_set_more subs One method = simp (filter_map-append, last_append)
target_set_more subs Two method = simp (filter_map-append, last_append)
target_set_more subs Three method = simp (filter_map-append, last_append)

abbrev FixupsIn : ℕ → List Placed → List Subrecord → List ResolvedFixup
FixupsIn place rs done = along [] (λ earlier x. option_to_list (fixup_in place (subrecords rs ++ earlier) x)) done

data_more : (place : ℕ) (rs : List Placed) (done : List Subrecord) (x : Subrecord) →
    map (data_record (fixups rs ++ map (λ x. (length (data_of rs), x)) (FixupsIn place rs (done ++ x ∷ []))))
    (enumerate_from 1 (data_of rs))
    ≡ add_to_last (option_to_list (fixup_in place (subrecords rs ++ done) x))
    (map (data_record (fixups rs ++ map (λ x. (length (data_of rs), x)) (FixupsIn place rs done)))
    (enumerate_from 1 (data_of rs)))
data_more place rs done x =
    rw (along_push, map-append, ← append_assoc)
    (new_fixups _ (option_to_list (fixup_in place (subrecords rs ++ done) x)) 1 (length (data_of rs)) (data_of rs)
    (omega arith))

one : (place : ℕ) (rs : List Placed) (done : List Subrecord) (x : Subrecord)
    → step_subrecord place (Inside place rs done) x ≡ checked (item rs done x) (Inside place rs (done ++ x ∷ []))
unfolding step_subrecord
one place rs done (sub.SetFrame t method) =
    rw (← frame_set_more (subrecords rs ++ done) t method)
    (simp (append_assoc, along_push, append-nil, filter_map-append, last_append))
one place rs done (sub.SetTarget t method) =
    rw (← target_set_more (subrecords rs ++ done) t method)
    (simp (append_assoc, along_push, append-nil, filter_map-append, last_append))
one place rs done (sub.Fixup c) =
    rw (
      used_slots (frame_thread (subrecords rs ++ done)) c.reference.frame,
      used_slots
          (target_thread (subrecords rs ++ done)) c.reference.target,
      fixup_of-is,
      fixup_in_order (module_of rs) (used (frame_thread (subrecords rs ++ done)) c.reference.frame)
          (used (target_thread (subrecords rs ++ done)) c.reference.target) (last_contents rs) c,
      ← data_more place rs done (sub.Fixup c),
    )
    (simp (filter_map-append, last_append))

by_item : (place : ℕ) (rs : List Placed) (done todo : List Subrecord) (x : Subrecord) (o : Option CheckFault)
    → step_subrecords place (Inside place rs (done ++ x ∷ [])) todo
    ≡ checked (first (along (done ++ x ∷ []) (λ earlier x. item rs earlier x ∷ []) todo))
    (Inside place rs ((done ++ x ∷ []) ++ todo))
    → (checked o (Inside place rs (done ++ x ∷ [])) >>= λ t. step_subrecords place t todo)
    ≡ checked (first (o ∷ along (done ++ x ∷ []) (λ earlier x. item rs earlier x ∷ []) todo))
    (Inside place rs (done ++ x ∷ todo))
by_item place rs done todo x None rest = rest ∙ rw append_assoc refl
by_item place rs done todo x (Some f) rest = refl

inside : (place : ℕ) (rs : List Placed) (done todo : List Subrecord)
    → step_subrecords place (Inside place rs done) todo
    ≡ checked (first (along done (λ earlier x. item rs earlier x ∷ []) todo)) (Inside place rs (done ++ todo))
unfolding step_subrecords
inside place rs done [] = rw append-nil refl
inside place rs done (x ∷ todo) =
    rw one (by_item place rs done todo x (item rs done x) (inside place rs (done ++ x ∷ []) todo))

pub fixup_steps : (subs : List Subrecord) → Steps (Fixupp subs)
unfolding step_record
fixup_steps subs place body rs = rw (inside_whole place body rs subs, ← inside_none place rs) (inside place rs [] subs)
