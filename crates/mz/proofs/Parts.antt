-- Bytes that reach a sink one part after the other.
use Rattle.std.proofs.Common.{slice_range, ◌≡◌, ℕ, ◌+◌, ◌-◌, ◌*◌, ◌≤◌, min, replicate, List, ◌++◌, take, drop, length}
use Rattle.std.proofs.Common.{ap, ap₂, ◌∙◌, sym, arith, append_assoc, take-append-drop}
use Rattle.std.proofs.lemmas.List.{take-take, take-replicate}
use Rattle.std.proofs.lemmas.List.Concat.{flat_map-append}
use lib.Seq.{take-add}
use Rattle.omf_image.specs.Program.{Program}
use Rattle.mz.specs.declared.format.Header.{Header}
use Rattle.mz.specs.Header.{header_len}
use Rattle.mz.specs.inside.Format.{header_bytes, entry_bytes}
use Rattle.mz.specs.File.{header_of, entry_of, file_image, paragraphs, table_bytes, padding, file_bytes}

-- the entries of a range of addresses, between those of the addresses before and behind it
module _ (addresses part : List ℕ) (i j : ℕ) (ordered : i ≤ j)
    (is : part ≡ table_bytes (slice_range addresses i j)) where
  pub table_joined : table_bytes (take i addresses) ++ part ≡ table_bytes (take j addresses)
  table_joined =
      let same : i + (j - i) ≡ j = omega arith in
      ap (λ l. table_bytes (take i addresses) ++ l) is
      ∙ sym (flat_map-append (λ a. entry_bytes (entry_of a)) (take i addresses) (slice_range addresses i j))
      ∙ ap table_bytes (sym (take-add i (j - i) addresses) ∙ ap (λ (n : ℕ). take n addresses) same)

  pub table_split : table_bytes addresses ≡ table_bytes (take i addresses) ++ (part ++ table_bytes (drop j addresses))
  table_split =
      ap table_bytes (sym (take-append-drop j addresses))
      ∙ flat_map-append (λ a. entry_bytes (entry_of a)) (take j addresses) (drop j addresses)
      ∙ ap (λ l. l ++ table_bytes (drop j addresses)) (sym table_joined)
      ∙ append_assoc (table_bytes (take i addresses)) part (table_bytes (drop j addresses))

-- what of a piece of a list lies before an end, between the bytes before and behind it
module _ (xs piece : List ℕ) (i end len : ℕ) (before : i ≤ end) (least : len ≡ min (length piece) (end - i))
    (is : piece ≡ take (length piece) (drop i xs)) where
  pub piece_joined : take i (take end xs) ++ take len piece ≡ take (i + len) (take end xs)
  piece_joined =
      let cut : take len piece ≡ take len (drop i xs) =
      ap (take len) is ∙ take-take len (length piece) (drop i xs) (omega (arith, least)) in
      ap₂ (λ (k l : List ℕ). k ++ l) (take-take i end xs before) cut
      ∙ sym (take-add i len xs) ∙ sym (take-take (i + len) end xs (omega (arith, least, before)))

  pub piece_split : take end xs ≡ take i (take end xs) ++ (take len piece ++ drop (i + len) (take end xs))
  piece_split =
      sym (ap (λ l. l ++ drop (i + len) (take end xs)) piece_joined ∙ take-append-drop (i + len) (take end xs))
      ∙ append_assoc (take i (take end xs)) (take len piece) (drop (i + len) (take end xs))

-- the file of a program: its header, its entries, as many zeros as fill the header, and its image
pub file_parts : (p : Program) (header : Header) (len count : ℕ) (head addresses : List ℕ)
    → header ≡ header_of p → head ≡ header_bytes header → len ≡ header_len header → count ≡ header.relocation_count
    → addresses ≡ p.relocations
    → file_bytes p ≡ head ++ (table_bytes addresses ++ (take (len - (28 + 4 * count)) (replicate 16 0) ++ file_image p))
unfolding file_bytes
file_parts p header len count head addresses is head_is len_is count_is addresses_are =
    let n = length p.relocations in
    let rounded : header.header_paragraphs ≡ paragraphs n = ap (λ (h : Header). h.header_paragraphs) is in
    let counted : header.relocation_count ≡ n = ap (λ (h : Header). h.relocation_count) is in
    let few : len - (28 + 4 * count) ≤ 16 = omega arith in
    let same : len - (28 + 4 * count) ≡ 16 * paragraphs n - (28 + 4 * n) = omega arith in
    let zeros : take {A = ℕ} (len - (28 + 4 * count)) (replicate 16 0) ≡ padding p =
    take-replicate {X = ℕ} (len - (28 + 4 * count)) 16 0 few ∙ ap (λ (k : ℕ). replicate k 0) same in
    rw (head_is, is, addresses_are, zeros)
    (append_assoc (header_bytes (header_of p) ++ table_bytes p.relocations) (padding p) (file_image p)
    ∙ append_assoc (header_bytes (header_of p)) (table_bytes p.relocations) (padding p ++ file_image p))
