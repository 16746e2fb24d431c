-- Lines of sixteen bytes.
use Rattle.std.proofs.Common.{◌≡◌, ℕ, ◌+◌, ◌-◌, ◌*◌, ◌/◌, ◌<◌, ◌≤◌, List, length, get_or, take, drop, min, refl, sym}
use Rattle.std.proofs.Common.{ap, subst, ◌∙◌, arith}
use Rattle.std.specs.declared.option.Option.{Option}
use Rattle.std.specs.List.{flat_map, range_with_len}
use Rattle.std.specs.Io.KnownBytes.{Appends}
use Rattle.std.proofs.lemmas.List.{take_all, take_min, length-drop}
use Rattle.std.proofs.lemmas.List.FromFn.{get_or-range_with_len, length-range_with_len}
use Rattle.omf_frame.specs.Device.{AppendsFront}
use Rattle.omf_frame.proofs.Told.{Appends-trans}
use Rattle.omf_commands.specs.Loading.{bytes_line, bytes_line_at, bytes_lines}
use Rattle.omf_text.proofs.PrintLemmas.{flat_map-take_more, items_cut, all_items}

module _ (address : ℕ) (bytes : List ℕ) where
  abbrev count : ℕ
  count = (length bytes + 15) / 16

  abbrev numbers : List ℕ
  numbers = range_with_len 0 count

  -- the line that was written is the one with this number
  pub line_is : (i at start n : ℕ) → i < count → start ≡ 16 * i → at ≡ address + start
      → n ≡ min 16 (length (take (length bytes - start) (drop start bytes)))
      → bytes_line at (take n (take (length bytes - start) (drop start bytes)))
      ≡ bytes_line_at address bytes (get_or numbers i 0)
  line_is i at start n h s a m =
      let rest = drop start bytes in
      let all : take (length bytes - start) rest ≡ rest =
      take_all (length bytes - start) rest (omega (arith, length-drop start bytes)) in
      let piece : take n (take (length bytes - start) rest) ≡ take 16 (drop (16 * i) bytes) =
      ap (take n) all ∙ ap (λ (k : ℕ). take k rest) (m ∙ ap (λ l. min 16 (length l)) all)
      ∙ (take_min 16 rest ∙ ap (λ k. take 16 (drop k bytes)) s) in
      let number : get_or numbers i 0 ≡ i = get_or-range_with_len 0 count i 0 h ∙ omega arith in
      let here : at ≡ address + 16 * i = omega (arith, a, s) in
      rw (number, piece, here) refl

  pub line_more : (i : ℕ) (line : List ℕ) (a b c : Option (List ℕ)) → i < count
      → line ≡ bytes_line_at address bytes (get_or numbers i 0)
      → Appends a b (flat_map (bytes_line_at address bytes) (take i numbers)) → Appends b c line
      → Appends a c (flat_map (bytes_line_at address bytes) (take (i + 1) numbers))
  line_more i line a b c h is p q =
      let long : i < length numbers = omega (arith, length-range_with_len 0 count) in
      subst (Appends a c) (sym (flat_map-take_more (bytes_line_at address bytes) numbers i 0 long))
      (Appends-trans a b c _ _ p (subst (Appends b c) is q))

  pub line_cut : (i : ℕ) (line : List ℕ) (a b c : Option (List ℕ)) (l m n : ℕ) → i < count
      → line ≡ bytes_line_at address bytes (get_or numbers i 0)
      → Appends a b (flat_map (bytes_line_at address bytes) (take i numbers)) → m ≡ l
      → AppendsFront b c line × (n ≡ m + 1)
      → AppendsFront a c (bytes_lines address bytes) × (n ≡ l + 1)
  line_cut i line a b c l m n h is p none q =
      let long : i < length numbers = omega (arith, length-range_with_len 0 count) in
      items_cut (bytes_line_at address bytes) numbers i 0 a b c l m n long p none (subst (AppendsFront b c) is q.0, q.1)

  pub all_lines : (i : ℕ) (a b : Option (List ℕ)) → count ≤ i
      → Appends a b (flat_map (bytes_line_at address bytes) (take i numbers)) → Appends a b (bytes_lines address bytes)
  all_lines i a b h p =
      all_items (bytes_line_at address bytes) numbers i a b (omega (arith, h, length-range_with_len 0 count)) p
