use Rattle.std.proofs.Common.{◌≡◌, ◌∙◌, ◌-◌, ◌∷◌, ◌++◌, [], ℕ, List, None, false, take, drop, flat_map, refl, sym, ap}
use Rattle.std.proofs.Common.{subst, arith, rules, length}
use Rattle.std.proofs.lemmas.List.{take_all, length-drop}
use Rattle.std.proofs.lemmas.List.Elements.{All-drop, All-take, All-weaker}
use Rattle.omf_module.specs.Seen.{data_seen}
use Rattle.omf_image.specs.declared.patch.Patch.{Patch}
use Rattle.omf_image.specs.Records.{bytes_of, datum, patches, fixup_patches}
use Rattle.omf_image.specs.inside.Entries.{DataEntry}
use Rattle.omf_image.specs.inside.WellPlaced.{LiesInContent, WellPlaced}
use Rattle.omf_image.specs.Faults.{fixups_fault}
use Rattle.omf_image.specs.inside.Whole.{covers_word, data_fault}
use Rattle.omf_image.specs.inside.Ready.{IsFixupReady}
use Rattle.omf_image.specs.Building.{Answers}
use Rattle.omf_image.specs.inside.States.{state, Holds}
use Rattle.omf_module.specs.declared.ResolvedFixup.{ResolvedFixup}
use Rattle.omf_image.proofs.Law.{length-patched_all}
use Rattle.omf_image.proofs.Meaning.{second_of_zip, patches_left}
use Rattle.omf_image.proofs.Leading.{leads_on, leads_to_fault, covers_fault, fixups_are_fault, answers_on, refused_by}
use Rattle.omf_image.proofs.Leading.{on_ok, holds_same, listed_same}
use Rattle.omf_image.proofs.adding.add_record.Goals as goal

pub covers_relocated-requires : goal.covers_relocated-requires
covers_relocated-requires g c =
    let d = c.args.data_record in
    let e : DataEntry = record { input = c.args.input; module' = c.args.module.now; item = data_seen d } in
    let z : bytes_of e.item ≡ d.bytes.now = second_of_zip d.places.now d.bytes.now (sym c.requires.lengths) in
    omega (
      arith,
      c.data_address-start.ensures,
      c.requires.ready.inside,
      ap length z,
      c.requires.whole.sized,
      c.requires.whole.words,
      ap length c.deref.ensures.value,
    )

pub lay-requires-clause-inside : goal.lay-requires-clause-inside
lay-requires-clause-inside g c =
    let d = c.args.data_record in
    let e : DataEntry = record { input = c.args.input; module' = c.args.module.now; item = data_seen d } in
    let z : bytes_of e.item ≡ d.bytes.now = second_of_zip d.places.now d.bytes.now (sym c.requires.lengths) in
    omega (arith, c.data_address-start.ensures, c.requires.ready.inside, ap length z, c.requires.whole.sized)

pub returns-then-covers_relocated-clause-gives : goal.returns-then-covers_relocated-clause-gives
returns-then-covers_relocated-clause-gives g c modules rest l =
    let d = c.args.data_record in
    let layout = c.args.layout.now in
    let e : DataEntry = record { input = c.args.input; module' = c.args.module.now; item = data_seen d } in
    let z : bytes_of e.item ≡ d.bytes.now = second_of_zip d.places.now d.bytes.now (sym c.requires.lengths) in
    let bytes : List ℕ = (datum 0 layout e).bytes in
    let n : length bytes ≡ length d.bytes.now =
    length-patched_all (patches 0 layout e) (bytes_of e.item) ∙ ap length z in
    let told = c.covers_relocated.ensures bytes l.so_far n (listed_same _ _ l.so_far c.deref.ensures.value l.listed) in
    leads_to_fault layout modules _ e rest _ l
    (covers_fault layout e l.so_far
    (ap (λ (s : ℕ). covers_word (record { start = s; bytes = bytes }) l.so_far) (sym c.data_address-start.ensures)
    ∙ sym told ∙ c.if-covers_relocated.true))

pub record_index-requires : goal.record_index-requires
record_index-requires g c =
    let d = c.args.data_record in
    let e : DataEntry = record { input = c.args.input; module' = c.args.module.now; item = data_seen d } in
    let z : bytes_of e.item ≡ d.bytes.now = second_of_zip d.places.now d.bytes.now (sym c.requires.lengths) in
    omega (arith, c.requires.lengths, c.requires.ready.inside, ap length z, c.requires.whole.small)

pub lay_data-requires-clause-placed : goal.lay_data-requires-clause-placed
lay_data-requires-clause-placed g c = record {
  input = c.requires.ready.input;
  segment = c.requires.ready.segment;
  start = c.data_address-start.ensures;
  lengths = c.requires.lengths;
  plain = c.is_plain-plain.ensures.only;
  index = c.in_ok-index.ensures;
}

pub add_fixups-requires-clause-placed : goal.add_fixups-requires-clause-placed
add_fixups-requires-clause-placed g c = record {
  input = c.requires.ready.input;
  segment = c.requires.ready.segment;
  start = c.data_address-start.ensures;
  lengths = c.requires.lengths;
  plain = c.is_plain-plain.ensures.only;
  index = c.in_ok-index.ensures;
}

pub lay_data-requires-clause-inside : goal.lay_data-requires-clause-inside
lay_data-requires-clause-inside g c =
    let d = c.args.data_record in
    let e : DataEntry = record { input = c.args.input; module' = c.args.module.now; item = data_seen d } in
    let z : bytes_of e.item ≡ d.bytes.now = second_of_zip d.places.now d.bytes.now (sym c.requires.lengths) in
    omega (arith, c.data_address-start.ensures, c.requires.ready.inside, ap length z, c.requires.whole.sized)

pub returns-clause-whole : goal.returns-clause-whole
returns-clause-whole g c =
    on_ok c.add_fixups.result _ _ _ (λ p. record {
      sized = p.1.image.sized ∙ c.requires.whole.sized;
      words = c.add_fixups.ensures.room.words;
      small = c.requires.whole.small;
    })
    (c.add_fixups.ensures.gives c.args.data_record.bytes.now (state c.args.work.now) _ c.in_ok-laid.ensures.gives.0)

pub returns-in_err-laid-clause-gives : goal.returns-in_err-laid-clause-gives
returns-in_err-laid-clause-gives g c modules rest l =
    let d = c.args.data_record in
    let layout = c.args.layout.now in
    let e : DataEntry = record { input = c.args.input; module' = c.args.module.now; item = data_seen d } in
    let z : bytes_of e.item ≡ d.bytes.now = second_of_zip d.places.now d.bytes.now (sym c.requires.lengths) in
    let bytes : List ℕ = (datum 0 layout e).bytes in
    let n : length bytes ≡ length d.bytes.now =
    length-patched_all (patches 0 layout e) (bytes_of e.item) ∙ ap length z in
    let told = c.covers_relocated.ensures bytes l.so_far n (listed_same _ _ l.so_far c.deref.ensures.value l.listed) in
    let clean : covers_word (datum 0 layout e) l.so_far ≡ false =
    ap (λ (s : ℕ). covers_word (record { start = s; bytes = bytes }) l.so_far) (sym c.data_address-start.ensures)
    ∙ sym told ∙ c.if-covers_relocated.false in
    refused_by _ _ (fixups_fault layout e [] d.fixups.now) (data_fault layout modules) _ _
    c.from_residual-in_err-laid.ensures.1
    (λ f h.
    leads_to_fault layout modules (state c.args.work.now) e rest f l (fixups_are_fault layout e l.so_far f clean h))
    c.in_err-laid.ensures.gives

pub returns-clause-gives : goal.returns-clause-gives
returns-clause-gives g c modules rest l =
    let d = c.args.data_record in
    let layout = c.args.layout.now in
    let e : DataEntry = record { input = c.args.input; module' = c.args.module.now; item = data_seen d } in
    let z : bytes_of e.item ≡ d.bytes.now = second_of_zip d.places.now d.bytes.now (sym c.requires.lengths) in
    let bytes : List ℕ = (datum 0 layout e).bytes in
    let n : length bytes ≡ length d.bytes.now =
    length-patched_all (patches 0 layout e) (bytes_of e.item) ∙ ap length z in
    let told = c.covers_relocated.ensures bytes l.so_far n (listed_same _ _ l.so_far c.deref.ensures.value l.listed) in
    let clean : covers_word (datum 0 layout e) l.so_far ≡ false =
    ap (λ (s : ℕ). covers_word (record { start = s; bytes = bytes }) l.so_far) (sym c.data_address-start.ensures)
    ∙ sym told ∙ c.if-covers_relocated.false in
    let well : WellPlaced e.item =
    All-weaker (IsFixupReady layout e) (LiesInContent e.item) (λ x h. h.lies) d.fixups.now
    c.requires.ready.fixups in
    let f = fixup_patches 0 layout e in
    let xs = d.fixups.now in
    let laid = c.in_ok-laid.laid in
    let earlier : List Patch = flat_map f (take laid xs) in
    let left = c.in_ok-laid.ensures.gives.1 in
    let to_end : take (length xs - laid) (drop laid xs) ≡ drop laid xs =
    take_all (length xs - laid) (drop laid xs) (omega (arith, length-drop laid xs)) in
    answers_on c.add_fixups.result (fixups_fault layout e earlier (drop laid xs)) (data_fault layout modules) _ _
    (λ k h.
    leads_to_fault layout modules (state c.args.work.now) e rest k l
    (fixups_are_fault layout e l.so_far k clean (sym left ∙ h)))
    (λ p.
    leads_on layout modules (state c.args.work.now) _ e rest well c.requires.whole c.requires.ready.inside l clean
    (sym left ∙ p.0)
    (holds_same _ _ _ _ _ _ _ (sym c.data_address-start.ensures) z
    (subst
    (λ (ps : List Patch).
    Holds c.data_address-start.result d.bytes.now (state c.args.work.now) (state c.add_fixups.new.work) ps)
    (patches_left f xs laid) p.1)))
    (subst
    (λ (ys : List ResolvedFixup).
    Answers c.add_fixups.result (fixups_fault layout e earlier ys) (λ _. (fixups_fault layout e earlier ys ≡ None)
    × Holds c.data_address-start.result d.bytes.now (state c.args.work.now) (state c.add_fixups.new.work)
    (earlier ++ flat_map f ys))) to_end
    (c.add_fixups.ensures.gives d.bytes.now (state c.args.work.now) earlier c.in_ok-laid.ensures.gives.0))

no_fixups : {X : Type 0} (xs : List X) → length xs ≡ 0 → xs ≡ []
no_fixups [] e = refl
no_fixups (x ∷ xs) e = absurd (omega (arith, e))

pub returns-then-is_empty-clause-whole : goal.returns-then-is_empty-clause-whole
returns-then-is_empty-clause-whole g c = record {
  sized = c.in_ok-lay.ensures.holds.image.sized ∙ c.requires.whole.sized;
  words = c.in_ok-lay.ensures.room.words;
  small = c.requires.whole.small;
}

pub returns-then-is_empty-clause-gives : goal.returns-then-is_empty-clause-gives
returns-then-is_empty-clause-gives g c modules rest l =
    let d = c.args.data_record in
    let layout = c.args.layout.now in
    let e : DataEntry = record { input = c.args.input; module' = c.args.module.now; item = data_seen d } in
    let z : bytes_of e.item ≡ d.bytes.now = second_of_zip d.places.now d.bytes.now (sym c.requires.lengths) in
    let bytes : List ℕ = (datum 0 layout e).bytes in
    let n : length bytes ≡ length d.bytes.now =
    length-patched_all (patches 0 layout e) (bytes_of e.item) ∙ ap length z in
    let told = c.covers_relocated.ensures bytes l.so_far n (listed_same _ _ l.so_far c.deref.ensures.value l.listed) in
    let clean : covers_word (datum 0 layout e) l.so_far ≡ false =
    ap (λ (s : ℕ). covers_word (record { start = s; bytes = bytes }) l.so_far) (sym c.data_address-start.ensures)
    ∙ sym told ∙ c.if-covers_relocated.false in
    let well : WellPlaced e.item =
    All-weaker (IsFixupReady layout e) (LiesInContent e.item) (λ x h. h.lies) d.fixups.now
    c.requires.ready.fixups in
    let none : d.fixups.now ≡ [] = no_fixups d.fixups.now (search rules) in
    leads_on layout modules (state c.args.work.now) _ e rest well c.requires.whole c.requires.ready.inside l clean
    (ap (fixups_fault layout e []) none)
    (holds_same _ _ _ _ _ _ _ (sym c.data_address-start.ensures) z
    (subst
    (λ (xs : List ResolvedFixup).
    Holds c.data_address-start.result d.bytes.now (state c.args.work.now) (state c.lay.new.self)
    (flat_map (fixup_patches 0 layout e) xs)) (sym none) c.in_ok-lay.ensures.holds))

pub data_address-start-requires-clause-input : goal.data_address-start-requires-clause-input
data_address-start-requires-clause-input g c = c.requires.ready.input

pub data_address-start-requires-clause-segment : goal.data_address-start-requires-clause-segment
data_address-start-requires-clause-segment g c = c.requires.ready.segment

pub data_address-start-requires-clause-small : goal.data_address-start-requires-clause-small
data_address-start-requires-clause-small g c = c.requires.whole.small

pub data_address-start-requires-clause-inside : goal.data_address-start-requires-clause-inside
data_address-start-requires-clause-inside g c = omega (arith, c.requires.ready.inside)

pub lay-requires-clause-words : goal.lay-requires-clause-words
lay-requires-clause-words g c = c.requires.whole.words

pub lay_data-requires-clause-fixups : goal.lay_data-requires-clause-fixups
lay_data-requires-clause-fixups g c = c.requires.ready.fixups

pub lay_data-requires-clause-copies : goal.lay_data-requires-clause-copies
lay_data-requires-clause-copies g c = c.requires.ready.copies

pub lay_data-requires-clause-words : goal.lay_data-requires-clause-words
lay_data-requires-clause-words g c = c.requires.whole.words

pub add_fixups-requires-clause-fixups : goal.add_fixups-requires-clause-fixups
add_fixups-requires-clause-fixups g c =
    let d = c.args.data_record in
    let e : DataEntry = record { input = c.args.input; module' = c.args.module.now; item = data_seen d } in
    let xs = d.fixups.now in
    let laid = c.in_ok-laid.laid in
    All-take (IsFixupReady c.args.layout.now e) (length xs - laid) (drop laid xs)
    (All-drop (IsFixupReady c.args.layout.now e) laid xs c.requires.ready.fixups)

pub add_fixups-requires-clause-room : goal.add_fixups-requires-clause-room
add_fixups-requires-clause-room g c = c.in_ok-laid.ensures.room

pub add_fixups-requires-clause-sized : goal.add_fixups-requires-clause-sized
add_fixups-requires-clause-sized g c = c.in_ok-laid.ensures.sized
