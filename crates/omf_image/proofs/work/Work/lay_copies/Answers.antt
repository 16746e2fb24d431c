use Rattle.std.proofs.Common.{◌≡◌, ◌∙◌, ℕ, ◌+◌, ◌*◌, ◌/◌, ◌<◌, ◌≤◌, ◌||◌, List, Bool, All, ap, arith, length, map}
use Rattle.std.proofs.Common.{get_or, true, false, subst, sym}
use Rattle.std.proofs.lemmas.Bool.{and_from, lt-ltb}
use Rattle.std.proofs.lemmas.List.{with_items_is, length-map}
use Rattle.std.proofs.lemmas.List.Elements.{All-weaker}
use Rattle.omf_image.specs.Located.{in_page}
use Rattle.omf_image.specs.inside.States.{state}
use Rattle.omf_image.proofs.Copying.{copies_hold}
use Rattle.omf_image.proofs.work.Work.lay_copies.Goals as goal

-- data has a byte of the page of each of its addresses
page_of : (start a : ℕ) (bytes : List ℕ) → start ≤ a → a < start + length bytes
    → in_page (a / 4096) (record { start = start; bytes = bytes }) ≡ true
page_of start a bytes h k =
    and_from _ _ (lt-ltb 0 (length bytes) (omega (arith, h, k)))
    (and_from _ _ (lt-ltb start (4096 * (a / 4096 + 1)) (omega (arith, h)))
    (lt-ltb (4096 * (a / 4096)) (start + length bytes) (omega (arith, k))))

pub copied_bytes-requires : goal.copied_bytes-requires
copied_bytes-requires g c =
    let s = state c.args.stored.now in
    All-weaker (λ p. p < length s.touched) (λ p. p < length s.image) (λ p h. omega (arith, h, c.requires.room.inside))
    c.args.places.now c.requires.ends

pub copy_marks-requires : goal.copy_marks-requires
copy_marks-requires g c =
    subst (λ (flags : List Bool). All (λ p. p < length flags) c.args.places.now) (sym c.deref.ensures.value)
    c.requires.ends

pub copy_marks-requires-2 : goal.copy_marks-requires-2
copy_marks-requires-2 g c =
    let s = state c.args.stored.now in
    All-weaker (λ p. p < length s.touched) (λ p. p < length c.deref-2.result.now)
    (λ p h. omega (arith, h, c.requires.room.same, ap length c.deref-2.ensures.value)) c.args.places.now c.requires.ends

pub copy_flags-requires-clause-places : goal.copy_flags-requires-clause-places
copy_flags-requires-clause-places g c =
    let s = state c.args.stored.now in
    All-weaker (λ p. p < length s.touched) (λ p. p < length c.deref-3.result.now)
    (λ p h. omega (arith, h, c.requires.room.inside, c.requires.room.words, ap length c.deref-3.ensures.value))
    c.args.places.now c.requires.ends

pub copy_flags-requires-clause-inside : goal.copy_flags-requires-clause-inside
copy_flags-requires-clause-inside g c =
    omega (arith, ap length c.deref_mut.ensures.value, c.requires.words, c.requires.inside)

pub lay-requires : goal.lay-requires
lay-requires g c =
    let s = state c.args.stored.now in
    let n =
    ap length (c.deref-4.ensures.value ∙ c.in_ok-bytes.ensures)
    ∙ length-map c.args.places.now (λ (p : ℕ). get_or s.image p 0) in
    omega (arith, n, c.requires.inside)

pub returns-clause-room : goal.returns-clause-room
returns-clause-room g c =
    let old = c.args.self.now in
    let s = state c.args.stored.now in
    let places = c.args.places.now in
    let laid = c.deref-4.result.now in
    let w =
    with_items_is old.words c.copy_flags.new.flags (omega (arith, c.copy_flags.auto.flags, c.deref_mut.ensures.len)) in
    let sized : length laid ≡ length places =
    ap length (c.deref-4.ensures.value ∙ c.in_ok-bytes.ensures) ∙ length-map places (λ (p : ℕ). get_or s.image p 0) in
    let marks : List Bool → List Bool = λ flags. map (λ p. get_or flags p false) places in
    let touched =
    ap length (c.in_ok-copy_marks.ensures ∙ ap marks c.deref.ensures.value)
    ∙ length-map places (λ (p : ℕ). get_or s.touched p false) in
    let relocated =
    ap length (c.in_ok-copy_marks-2.ensures ∙ ap marks c.deref-2.ensures.value)
    ∙ length-map places (λ (p : ℕ). get_or s.relocated p false) in
    let image = c.in_ok-lay.ensures.bytes.sized in
    record {
      same = relocated ∙ sym touched;
      inside = omega (arith, touched, image, c.requires.inside);
      words =
          ap length w ∙ c.copy_flags.auto.flags ∙ ap length c.deref_mut.ensures.value ∙ c.requires.words
          ∙ sym image;
      small = omega (arith, image, c.size-size.ensures.size, c.size-size.ensures.small);
      made = λ a h k.
          c.in_ok-lay.ensures.made (a / 4096)
          ∙ ap (λ (b : Bool). b || get_or old.pages.made (a / 4096) false)
          (page_of c.args.start a laid h (omega (arith, k, touched, sized)));
    }

pub returns-clause-sized : goal.returns-clause-sized
returns-clause-sized g c =
    let places = c.args.places.now in
    ap length c.in_ok-copy_marks.ensures ∙ length-map places (λ (p : ℕ). get_or c.deref.result.now p false)

pub returns-clause-holds : goal.returns-clause-holds
returns-clause-holds g c bytes earlier h =
    let old = c.args.self.now in
    let places = c.args.places.now in
    let marks : List Bool → List Bool = λ flags. map (λ p. get_or flags p false) places in
    let w =
    with_items_is old.words c.copy_flags.new.flags (omega (arith, c.copy_flags.auto.flags, c.deref_mut.ensures.len)) in
    copies_hold places bytes c.deref-4.result.now c.args.start (state c.args.stored.now) (state old) _ earlier
    c.requires.room (λ k l. c.requires.ends k 0 l) c.requires.inside h (record {
      bytes = c.deref-4.ensures.value ∙ c.in_ok-bytes.ensures;
      touched = c.in_ok-copy_marks.ensures ∙ ap marks c.deref.ensures.value;
      relocated = c.in_ok-copy_marks-2.ensures ∙ ap marks c.deref-2.ensures.value;
      image = c.in_ok-lay.ensures.bytes;
      made = c.in_ok-lay.ensures.made;
      words = ap length w ∙ c.copy_flags.auto.flags ∙ ap length c.deref_mut.ensures.value;
      flags = λ k l.
          ap (λ (flags : List Bool). get_or flags (c.args.start + k) false) w ∙ c.copy_flags.ensures.copied k l
          ∙ ap
          (λ (flags : List Bool).
          get_or flags (c.args.start + k) false || get_or c.deref-3.result.now (get_or places k 0) false)
          c.deref_mut.ensures.value
          ∙ ap
          (λ (flags : List Bool).
          get_or old.words.items (c.args.start + k) false || get_or flags (get_or places k 0) false)
          c.deref-3.ensures.value;
      rest = λ a l.
          ap (λ (flags : List Bool). get_or flags a false) w ∙ c.copy_flags.ensures.rest a l
          ∙ ap (λ (flags : List Bool). get_or flags a false) c.deref_mut.ensures.value;
    })
