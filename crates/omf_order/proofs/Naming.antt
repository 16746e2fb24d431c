-- The names of the parts are bytes, and so the module is whole.
use Rattle.std.proofs.Common.{List, [], ◌∷◌, lit<, lit≤}
use Rattle.std.specs.Prelude.{codes}
use Rattle.std.specs.List.{AllByRecursion}
use Rattle.omf_module.specs.Module.{Module, Segment}
use Rattle.omf_module.specs.Sound.{IsSound, SegmentFits}
use Rattle.omf_order.specs.Segments.{placed, grouped}
use Rattle.omf_order.specs.Parts.{first_parts}
use Rattle.omf_order.specs.Marks.{bss_end_names, data_end_names, wanted}
use Rattle.omf_order.specs.Keys.{in_order}
use Rattle.omf_order.specs.Plan.{adds_bss, adds_end, plan, with_bss, with_end}
use Rattle.omf_order.specs.Records.{records}
use Rattle.omf_order.specs.Whole.{AreWhole, HasByteNames, IsOfBytes}
use Rattle.omf_order.specs.inside.Fits.{IsNamedPart}
use Rattle.omf_write.specs.inside.Fits.{IsName}
use Rattle.omf_write.proofs.Clean.{place_all}
use Rattle.omf_order.proofs.Fitting.{All-each, All-first, All-placed, All-planned, data_within, end_within, plan_fits}
use Rattle.omf_order.proofs.Sound.{module_sound}

-- name and class of a segment are at most 255 bytes
record IsNamed (s : Segment) : Type 0 where
  name : IsName s.name
  class : IsName s.class

named_segments : (ss : List Segment) → AllByRecursion SegmentFits ss → AllByRecursion IsOfBytes ss
    → AllByRecursion IsNamed ss
named_segments [] h b = tt
named_segments (s ∷ ss) h b =
    (record { name = (h.0.name, b.0.0); class = (h.0.class, b.0.1) }, named_segments ss h.1 b.1)

named_modules : (ms : List Module) → AllByRecursion IsSound ms → AllByRecursion HasByteNames ms
    → AllByRecursion (λ (m : Module). AllByRecursion IsNamed m.segments) ms
named_modules [] h b = tt
named_modules (m ∷ ms) h b =
    (named_segments m.segments (All-each SegmentFits m.segments h.0.segments) b.0, named_modules ms h.1 b.1)

bss_name : IsName (codes "_BSS")
bss_name = (lit≤ tt, (lit< tt, (lit< tt, (lit< tt, (lit< tt, tt)))))

bss_class : IsName (codes "BSS")
bss_class = (lit≤ tt, (lit< tt, (lit< tt, (lit< tt, tt))))

end_name : IsName (codes "_END")
end_name = (lit≤ tt, (lit< tt, (lit< tt, (lit< tt, (lit< tt, tt)))))

pub whole : AreWhole
whole order names program sound bytes few =
    let p = plan order names program in
    let first = first_parts (placed program) (grouped program) in
    let data_end = wanted names program data_end_names in
    let bss_end = wanted names program bss_end_names in
    let os = in_order order (adds_bss first data_end bss_end) (with_bss first (adds_bss first data_end bss_end)) in
    let named : AllByRecursion IsNamedPart first =
    All-first IsNamed IsNamedPart (grouped program) (λ s h. record { name = h.name; class = h.class }) (placed program)
    (All-placed IsNamed program (named_modules program (All-each IsSound program sound) bytes)) in (
      place_all 0 (records p),
      module_sound p (plan_fits order names program sound few)
          (All-planned IsNamedPart order first data_end bss_end (record { name = bss_name; class = bss_class })
          (record { name = end_name; class = end_name }) named)
          (data_within data_end (with_end os (adds_end os bss_end)))
          (end_within bss_end (adds_end os bss_end) (with_end os (adds_end os bss_end))),
    )
