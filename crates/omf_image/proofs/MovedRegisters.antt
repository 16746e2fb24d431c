-- Where no fault stands, the registers at paragraph P are those at 0 with P added to CS and SS.
use Rattle.std.proofs.Common.{◌≡◌, ℕ, ◌+◌, ◌-◌, ◌*◌, ◌/◌, ◌%◌, List, [], ◌∷◌, Option, Some, None, Result, Ok, Err}
use Rattle.std.proofs.Common.{option_map, refl, ap, ◌∙◌, arith}
use Rattle.omf_module.specs.Module.{Module}
use Rattle.omf_place.specs.declared.layout.Combined.{Combined}
use Rattle.omf_place.specs.declared.layout.Position.{Position}
use Rattle.omf_place.specs.declared.layout.Position.TheVariants.{Relocatable, Absolute}
use Rattle.omf_place.specs.Layout.{Layout}
use Rattle.omf_image.specs.declared.reference.Base.{Base as Frame}
use Rattle.omf_image.specs.declared.reference.Base.TheVariants.{Relocatable as Moving, Absolute as Fixed}
use Rattle.omf_image.specs.declared.reference.Resolved.{Resolved}
use Rattle.omf_image.specs.declared.faults.FixKind.{FixKind}
use Rattle.omf_image.specs.declared.faults.FixFault.{FixFault}
use Rattle.omf_image.specs.declared.faults.FixFault.TheVariants.{At}
use Rattle.omf_image.specs.Value.{modulo}
use Rattle.omf_image.specs.inside.Distances.{from_frame}
use Rattle.omf_image.specs.declared.start.Registers.{Registers}
use Rattle.omf_image.specs.Registers.{starts, start_meaning, start_kind, starts_fault, stack}
use Rattle.omf_image.specs.inside.Starts.{entry_of}
use Rattle.omf_image.specs.inside.Entries.{StartEntry}
use Rattle.omf_image.specs.Registers.{stack_of, entry_point, registers, moved}
use Rattle.omf_image.proofs.Values.{frame_step, offset_stays}

start_alone : (P : ℕ) → P % 65536 ≡ (0 % 65536 + P) % 65536
start_alone P = omega arith

abbrev moved_entry : ℕ → ℕ × ℕ → ℕ × ℕ
moved_entry P e = ((e.0 + P) % 65536, e.1)

entry_made : (P : ℕ) (t : Position) (g : Frame) (d : ℕ)
    → start_kind (Ok (record { target = t; named_frame = g; displacement = d })) ≡ None
    → entry_of P (Ok (record { target = t; named_frame = g; displacement = d }))
    ≡ moved_entry P (entry_of 0 (Ok (record { target = t; named_frame = g; displacement = d })))
entry_made P (Relocatable t o) (Moving f) d h =
    ap (λ (x : ℕ). (
      x,
      modulo 65536 (from_frame P (record { target = Relocatable t o; named_frame = Moving f; displacement = d })),
    )) (frame_step f P)
    ∙ ap (λ z. (((f + 0) % 65536 + P) % 65536, modulo 65536 z)) (offset_stays P (Relocatable t o) (Moving f) d refl)
entry_made P (Relocatable t o) (Fixed f) d h = cc
entry_made P (Absolute t o) (Moving f) d h = cc
entry_made P (Absolute t o) (Fixed f) d h = cc

entry_moves : (P : ℕ) (m : Result Resolved FixKind) → start_kind m ≡ None → entry_of P m ≡ moved_entry P (entry_of 0 m)
entry_moves P (Err k) h = cc
entry_moves P (Ok r) h = entry_made P r.target r.named_frame r.displacement h

none_mapped : (f : FixKind → FixFault) (o : Option FixKind) → option_map f o ≡ None → o ≡ None
none_mapped f None h = refl
none_mapped f (Some k) h = cc

starts_move : (P : ℕ) (layout : Layout) (es : List StartEntry) → starts_fault layout es ≡ None
    → entry_point P layout es ≡ moved_entry P (entry_point 0 layout es)
starts_move P layout [] h = ap (λ (x : ℕ). (x, 0)) (start_alone P)
starts_move P layout (e ∷ []) h =
    entry_moves P (start_meaning layout e)
    (none_mapped (λ k. At k e.input e.item.place) (start_kind (start_meaning layout e)) h)
starts_move P layout (e ∷ (f ∷ es)) h = cc

stack_moves : (P : ℕ) (o : Option Combined) → stack_of P o ≡ moved_entry P (stack_of 0 o)
stack_moves P None = ap (λ (x : ℕ). (x, 0)) (start_alone P)
stack_moves P (Some c) = ap (λ (x : ℕ). (x, (c.end - 16 * (c.start / 16)) % 65536)) (frame_step (c.start / 16) P)

pub registers_move : (P : ℕ) (layout : Layout) (modules : List Module) → starts_fault layout (starts modules) ≡ None
    → registers P layout modules ≡ moved P (registers 0 layout modules)
unfolding registers
registers_move P layout modules h =
    let made : ℕ × ℕ → ℕ × ℕ → Registers = λ e s. record { cs = e.0; ip = e.1; ss = s.0; sp = s.1 } in
    ap (λ (e : ℕ × ℕ). made e (stack_of P (stack layout modules))) (starts_move P layout (starts modules) h)
    ∙ ap (made (moved_entry P (entry_point 0 layout (starts modules)))) (stack_moves P (stack layout modules))
