-- What is kept, one record further.
use Rattle.std.proofs.Common.{◌≡◌, ℕ, ◌-◌, Bool, true, List, [], ◌∷◌, ◌++◌, length, map, Option, None, Some, refl}
use Rattle.std.proofs.lemmas.List.{append-nil}
use Rattle.std.specs.Option.{option_to_list, option_map, option_zip}
use Rattle.std.specs.Prelude.{unwrap_or}
use Rattle.std.specs.List.{filter_map, enumerate_from}
use Rattle.omf_record.specs.Record.{Record, Theadr, Coment, Modend, Extdef, Pubdef, Linnum, Lnames, Segdef, Grpdef}
use Rattle.omf_record.specs.Record.{Ledata, Lidata, External as ExternalName, Public, Block}
use Rattle.omf_record.specs.declared.externals.PublicBase.{PublicBase}
use Rattle.omf_record.specs.declared.segments.SegmentDefinition.{SegmentDefinition}
use Rattle.omf_record.specs.declared.fixups.Reference.{Reference}
use Rattle.omf_record.specs.declared.fixups.Fixup.{Fixup}
use Rattle.omf_record.specs.declared.externals.Line.{Line}
use Rattle.omf_record.specs.Expansion.{expansion}
use Rattle.omf_record.specs.Records.{Placed}
use Rattle.omf_module.specs.Before.{first, last}
use Rattle.omf_module.specs.Tables.{names, data_of, subrecords, fixups}
use Rattle.omf_module.specs.inside.Said.{segments, groups, externals, publics, start}
use Rattle.omf_module.specs.Tables.{contents_in, frame_thread, target_thread, segments_in, groups_in}
use Rattle.omf_module.specs.inside.Said.{names_in}
use Rattle.omf_module.specs.Tables.{externals_in, publics_in, data_in}
use Rattle.omf_module.specs.inside.Said.{subrecords_in}
use Rattle.omf_module.specs.inside.Checking.{frame_set, target_set, fixup_of, start_of}
use Rattle.omf_module.specs.inside.Contents.{last_contents}
use Rattle.omf_module.specs.Tables.{data_record, fixups_in, start_in, used, module_of}
use Rattle.omf_module.specs.Faults.{items}
use Rattle.omf_module.specs.inside.Checking.{begun}
use Rattle.omf_module.specs.inside.Running.{State, state_of, checked, step_record, thread_numbers, slot, later}
use Rattle.omf_module.proofs.FixupsOn.{new_data}
use Rattle.omf_module.proofs.InOrder.{start_in_order}
use Rattle.omf_record.specs.declared.fixups.ThreadNumber.TheVariants.{Zero, One, Two, Three}
use Rattle.omf_record.specs.declared.fixups.FrameMethod.{FrameMethod}
use Rattle.omf_record.specs.declared.fixups.TargetMethod.{TargetMethod}
use Rattle.omf_record.specs.declared.fixups.Datum.{Datum}
use Rattle.omf_record.specs.declared.fixups.Datum.TheVariants as datum
use Rattle.std.proofs.lemmas.List.Elements.{filter_map-append}
use Rattle.omf_module.proofs.Lists.{flat_map_push, along_push, last_append}

pub begun_push : (rs : List Placed) (r : Placed) → begun (rs ++ r ∷ []) ≡ true
begun_push [] r = refl
begun_push (x ∷ rs) r = refl

-- what is kept after one record more, table by table
abbrev pub grown : List Placed → Placed → State
grown rs r = record {
  begun = true;
  tables = record {
    names = names rs ++ names_in r.says;
    segments = segments rs ++ segments_in (names rs) r.says;
    groups = groups rs ++ groups_in (names rs) r.says;
    externals = externals rs ++ externals_in r.says;
  };
  publics = publics rs ++ publics_in r.says;
  frame_threads =
      map (λ n. later (last (filter_map (frame_set n) (subrecords_in r.says))) (frame_thread (subrecords rs) n))
      thread_numbers;
  target_threads =
      map (λ n. later (last (filter_map (target_set n) (subrecords_in r.says))) (target_thread (subrecords rs) n))
      thread_numbers;
  data_records =
      map (data_record (fixups rs ++ map (λ x. (length (data_of rs), x)) (fixups_in (subrecords rs) r)))
      (enumerate_from 1 (data_of rs ++ data_in r.place r.says));
  contents =
      later (last (filter_map (λ (placed : Placed). contents_in placed.says) (r ∷ []))) (last_contents rs);
  start = later (last (option_to_list (start_in (subrecords rs) r.place r.says))) (start rs);
}

pub state_push : (rs : List Placed) (r : Placed) → state_of (rs ++ r ∷ []) ≡ grown rs r
state_push rs r = simp (begun_push, flat_map_push, along_push, filter_map-append, last_append)

-- what one record leaves: its items' first fault, or what is kept with it
abbrev pub Steps : Record → Type 0
Steps r =
    (place : ℕ) (body : List ℕ) (rs : List Placed)
    → step_record place (record (state_of rs) { begun = true }) r
    ≡ checked (first (items rs r)) (state_of (rs ++ record { place = place; body = body; says = r } ∷ []))

pub first_single : {A : Type 0} (o : Option A) → first (o ∷ []) ≡ o
first_single None = refl
first_single (Some x) = refl

pub last_option : {A : Type 0} (o : Option A) → last (option_to_list o) ≡ o
last_option None = refl
last_option (Some x) = refl

pub header_steps : (name : List ℕ) → Steps (Theadr name)
unfolding step_record
header_steps name place body rs = rw state_push (simp append-nil)

pub comment_steps : (t c : ℕ) (bytes : List ℕ) → Steps (Coment t c bytes)
unfolding step_record
comment_steps t c bytes place body rs = rw state_push (simp append-nil)

pub lines_steps : (g s : ℕ) (lines : List Line) → Steps (Linnum g s lines)
unfolding step_record
lines_steps g s lines place body rs = rw state_push (simp append-nil)

pub names_steps : (listed : List (List ℕ)) → Steps (Lnames listed)
unfolding step_record
names_steps listed place body rs = rw state_push (simp append-nil)

pub externals_steps : (local : Bool) (listed : List ExternalName) → Steps (Extdef local listed)
unfolding step_record
externals_steps local listed place body rs = rw state_push (simp append-nil)

pub publics_steps : (local : Bool) (base : PublicBase) (listed : List Public) → Steps (Pubdef local base listed)
unfolding step_record
publics_steps local base listed place body rs = rw (state_push, first_single) (simp append-nil)

pub segment_steps : (d : SegmentDefinition) → Steps (Segdef d)
unfolding step_record
segment_steps d place body rs = rw (state_push, first_single) (simp append-nil)

pub group_steps : (name : ℕ) (components : List ℕ) → Steps (Grpdef name components)
unfolding step_record
group_steps name components place body rs = rw state_push (simp append-nil)

pub no_start_steps : (main : Bool) → Steps (Modend main None)
unfolding step_record
no_start_steps main place body rs = rw state_push (simp append-nil)

pub data_steps : (segment offset : ℕ) (bytes : List ℕ) → Steps (Ledata segment offset bytes)
unfolding step_record
data_steps segment offset bytes place body rs =
    rw (
      state_push,
      first_single,
      append-nil (fixups rs),
      new_data rs (record {
        place = place;
        segment = segment - 1;
        offset = offset;
        pairs = enumerate_from 0 bytes;
        fixups = [];
      }),
    ) (simp append-nil)

pub repeated_steps : (segment offset : ℕ) (blocks : List Block) → Steps (Lidata segment offset blocks)
unfolding step_record
repeated_steps segment offset blocks place body rs =
    rw (
      state_push,
      first_single,
      append-nil (fixups rs),
      new_data rs (record {
        place = place;
        segment = segment - 1;
        offset = offset;
        pairs = expansion blocks;
        fixups = [];
      }),
    ) (simp append-nil)

-- what the four slots hold
pub used_slots : {M : Type 0} (threads : ℕ → Option M) (d : Datum M)
    → used (slot (map threads thread_numbers)) d ≡ used threads d
used_slots threads (datum.Thread Zero) = refl
used_slots threads (datum.Thread One) = refl
used_slots threads (datum.Thread Two) = refl
used_slots threads (datum.Thread Three) = refl
used_slots threads (datum.By method) = refl

pub start_of-is : (place : ℕ) (r : Reference) (f : Option FrameMethod) (t : Option TargetMethod)
    → start_of place r f t
    ≡ option_map (λ (m : FrameMethod × TargetMethod).
    record { place = place; frame = m.0; target = m.1; displacement = unwrap_or r.displacement 0 }) (option_zip f t)
start_of-is place r None t = refl
start_of-is place r (Some f) None = refl
start_of-is place r (Some f) (Some t) = refl

pub fixup_of-is : (place : ℕ) (x : Fixup) (f : Option FrameMethod) (t : Option TargetMethod)
    → fixup_of place x f t
    ≡ option_map (λ (m : FrameMethod × TargetMethod). record {
      place = place;
      self_relative = x.self_relative;
      location = x.location;
      offset = x.offset;
      frame = m.0;
      target = m.1;
      displacement = unwrap_or x.reference.displacement 0;
    }) (option_zip f t)
fixup_of-is place x None t = refl
fixup_of-is place x (Some f) None = refl
fixup_of-is place x (Some f) (Some t) = refl

pub start_steps : (main : Bool) (r : Reference) → Steps (Modend main (Some r))
unfolding step_record
start_steps main r place body rs =
    rw (
      state_push,
      first_single,
      used_slots (frame_thread (subrecords rs)) r.frame,
      used_slots
          (target_thread (subrecords rs)) r.target,
      start_of-is,
      start_in_order (module_of rs) (used (frame_thread (subrecords rs)) r.frame)
          (used (target_thread (subrecords rs)) r.target),
    ) (simp (append-nil, last_option))
