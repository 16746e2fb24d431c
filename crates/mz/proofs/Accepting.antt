-- What an accepted header says of the bytes behind it.
use Rattle.std.proofs.Common.{◌≡◌, ◌+◌, ◌*◌, ◌≤◌, ◌⊎◌, Bool, true, ◌&&◌, ◌||◌, ◌==◌, inl, inr}
use Rattle.std.specs.Prelude.{nat_le}
use Rattle.std.proofs.lemmas.Bool.{and_parts, or_cases, leb-true, eqb-true}
use Rattle.mz.specs.declared.format.Header.{Header}
use Rattle.mz.specs.Header.{header_len, told_len, is_accepted}
use Rattle.mz.specs.inside.Format.{has_table_inside}

abbrev inner : Header → Bool
inner h =
    nat_le 1 h.pages && nat_le h.last_page_bytes 511 && nat_le 28 (header_len h) && nat_le (header_len h) (told_len h)

abbrev pages : Header → Bool
pages h = nat_le 1 h.pages && nat_le h.last_page_bytes 511

-- the header has its words and lies in the file
pub header_within : (h : Header) → is_accepted h ≡ true → header_len h ≤ told_len h
header_within h e =
    let outer = and_parts (inner h) ((h.relocation_count == 0) || has_table_inside h) e in
    let one = and_parts (pages h && nat_le 28 (header_len h)) (nat_le (header_len h) (told_len h)) outer.0 in
    leb-true (header_len h) (told_len h) one.1

pub words_within : (h : Header) → is_accepted h ≡ true → 28 ≤ header_len h
words_within h e =
    let outer = and_parts (inner h) ((h.relocation_count == 0) || has_table_inside h) e in
    let one = and_parts (pages h && nat_le 28 (header_len h)) (nat_le (header_len h) (told_len h)) outer.0 in
    let two = and_parts (pages h) (nat_le 28 (header_len h)) one.0 in
    leb-true 28 (header_len h) two.1

-- the table, where there is one, ends in the header
pub table_within : (h : Header) → is_accepted h ≡ true
    → (h.relocation_count ≡ 0) ⊎ (h.relocation_table + 4 * h.relocation_count ≤ header_len h)
table_within h e =
    let outer = and_parts (inner h) ((h.relocation_count == 0) || has_table_inside h) e in
    elim (or_cases (h.relocation_count == 0) (has_table_inside h) outer.1) [
      | inl none ↦ inl (eqb-true h.relocation_count 0 none)
      | inr inside ↦
          inr (leb-true (h.relocation_table + 4 * h.relocation_count) (header_len h)
          (and_parts (nat_le 28 h.relocation_table)
          (nat_le (h.relocation_table + 4 * h.relocation_count) (header_len h)) inside).1)
    ]
