-- The bytes of a module that is added are those of a whole module that no check refuses.
use Rattle.std.proofs.Common.{◌≡◌, ℕ, ◌-◌, ◌*◌, ◌≤◌, Bool, true, false, cond}
use Rattle.std.proofs.Common.{eqb, List, [], ◌∷◌, length}
use Rattle.std.proofs.Common.{Option, Some, None, refl, subst, arith, length-append, lit≤, nat_lt}
use Rattle.std.specs.List.{AllByRecursion}
use Rattle.std.specs.Option.{option_map_or}
use Rattle.omf_record.specs.Record.{Record, Lnames}
use Rattle.omf_record.specs.Canonical.{FitsFrame}
use Rattle.omf_record.specs.Records.{Placed}
use Rattle.omf_module.specs.Bytes.{ModuleBytes}
use Rattle.omf_module.specs.Module.{Segment}
use Rattle.omf_write.specs.Records.{record_bytes, records_bytes}
use Rattle.omf_write.proofs.Bodies.{end_fits, names_fit}
use Rattle.omf_write.proofs.Clean.{Clean, are_bodies, are_frames, clean_first, length-record, place_all}
use Rattle.omf_stack.specs.Answer.{Added, Enough, TooLong, has_dgroup, length_asked, wanted_by}
use Rattle.omf_stack.specs.Records.{new_bytes, new_records, part_bytes}
use Rattle.omf_stack.specs.Records.{part_records}
use Rattle.omf_stack.specs.Stack.{segments, stack_length, stack_part}
use Rattle.omf_stack.specs.Whole.{AreWhole, IsOfBytes}
use Rattle.omf_stack.proofs.Bodies.{group_fits, new_fits, new_names_fit, own_header_fits, part_fits}
use Rattle.omf_stack.proofs.Promised.{stack-fits, stack-passes}

length-bytes : (rs : List Record) → AllByRecursion FitsFrame rs → length (records_bytes rs) ≤ length rs * 65538
length-bytes [] fits = lit≤ tt
length-bytes (r ∷ rs) fits =
    omega (
      arith,
      length-append (record_bytes r) (records_bytes rs),
      length-record r,
      fits.0.short,
      length-bytes rs fits.1,
    )

fit_part : (s : Segment) (n : ℕ) → FitsFrame (Lnames (s.name ∷ s.class ∷ [])) → n ≤ 65536
    → AllByRecursion FitsFrame (part_records s n)
fit_part s n named h = (own_header_fits, (named, (part_fits n h, (end_fits, tt))))

clean_part : (s : Segment) (n : ℕ) → Clean [] (place_all 0 (part_records s n))
clean_part s n = (refl, (refl, (refl, (refl, tt))))

part_whole : (s : Segment) (n : ℕ) → FitsFrame (Lnames (s.name ∷ s.class ∷ [])) → n ≤ 65536
    → ModuleBytes (place_all 0 (part_records s n)) (part_bytes s n)
part_whole s n named h =
    let fits = fit_part s n named h in
    let short = length-bytes (part_records s n) fits in
    record {
      records = (are_frames 0 (part_records s n) fits (omega (arith, short)), are_bodies 0 (part_records s n) fits);
      ended = (refl, (refl, (refl, refl)));
      sound = clean_first [] (place_all 0 (part_records s n)) (clean_part s n);
    }

fit_new : (g : Bool) (n : ℕ) → n ≤ 65536 → AllByRecursion FitsFrame (new_records g n)
fit_new true n h = (own_header_fits, (new_names_fit, (new_fits n h, (group_fits, (end_fits, tt)))))
fit_new false n h = (own_header_fits, (new_names_fit, (new_fits n h, (end_fits, tt))))

clean_new : (g : Bool) (n : ℕ) → Clean [] (place_all 0 (new_records g n))
clean_new true n =
    (refl, (refl, (refl, (refl, (refl, tt)))))
clean_new false n = (refl, (refl, (refl, (refl, tt))))

new_whole : (g : Bool) (n : ℕ) → n ≤ 65536 → ModuleBytes (place_all 0 (new_records g n)) (new_bytes g n)
new_whole true n h =
    let fits = fit_new true n h in
    let short = length-bytes (new_records true n) fits in
    record {
      records = (are_frames 0 (new_records true n) fits (omega (arith, short)), are_bodies 0 (new_records true n) fits);
      ended = (refl, (refl, (refl, (refl, refl))));
      sound = clean_first [] (place_all 0 (new_records true n)) (clean_new true n);
    }
new_whole false n h =
    let fits = fit_new false n h in
    let short = length-bytes (new_records false n) fits in
    record {
      records =
          (are_frames 0 (new_records false n) fits (omega (arith, short)), are_bodies 0 (new_records false n) fits);
      ended = (refl, (refl, (refl, refl)));
      sound = clean_first [] (place_all 0 (new_records false n)) (clean_new false n);
    }

added-is : (one other : List ℕ) → Added one ≡ Added other → one ≡ other
added-is one other e = cc

pub whole : AreWhole
whole program asked bytes sound named is = by (stack_part (segments program)) refl is
  where
    n : ℕ
    n = length_asked asked

    by : (o : Option Segment) → stack_part (segments program) ≡ o →
        option_map_or (λ s. wanted_by s (stack_length s (segments program)) n) o
        (Added (new_bytes (has_dgroup program) n)) ≡ Added bytes → (rs : List Placed) × ModuleBytes rs bytes
    by None e h = (
      place_all 0 (new_records (has_dgroup program) n),
      subst (ModuleBytes (place_all 0 (new_records (has_dgroup program) n))) (added-is _ _ h)
          (new_whole (has_dgroup program) n (omega arith)),
    )
    by (Some s) e h =
        let more = n - stack_length s (segments program) in
        go more (nat_lt n (stack_length s (segments program))) (eqb (stack_length s (segments program)) n)
        (omega arith) h
      where
        fits : FitsFrame (Lnames (s.name ∷ s.class ∷ []))
        fits =
            let short = stack-fits program s sound e in
            let of-bytes = stack-passes IsOfBytes (segments program) s named e in
            names_fit s.name s.class (short.name, of-bytes.0) (short.class, of-bytes.1)

        go : (more : ℕ) (less same : Bool) → more ≤ 65536 →
            cond less TooLong (cond same Enough (Added (part_bytes s more))) ≡ Added bytes →
            (rs : List Placed) × ModuleBytes rs bytes
        go more true same k h = absurd (cc)
        go more false true k h = absurd (cc)
        go more false false k h = (
          place_all 0 (part_records s more),
          subst (ModuleBytes (place_all 0 (part_records s more))) (added-is _ _ h) (part_whole s more fits k),
        )
