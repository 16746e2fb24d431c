-- Bytes in rows of 16, gone through.
use Rattle.std.proofs.Common.{◌≡◌, ℕ, zero, suc, ◌+◌, ◌-◌, ◌*◌, ◌/◌, ◌<◌, ◌≤◌, List, [], ◌++◌, length, take, drop, min}
use Rattle.std.proofs.Common.{refl}
use Rattle.std.proofs.Common.{sym, ap, ◌∙◌, arith, append_assoc, append-nil, inl, inr, length-drop}
use Rattle.std.proofs.lemmas.Bool.{cases_lt}
use Rattle.std.proofs.lemmas.List.{take_all}
use Rattle.doslib_show.specs.Data.{byte_row, byte_rows, data_rows}

-- so many rows are left, behind which the whole text stands
pub record RowsLeft (whole old : List ℕ) (place : ℕ) (rest : List ℕ) : Type 0 where
  pub count : ℕ
  pub enough : length rest ≤ 16 * count
  pub few : 16 * count < length rest + 16
  pub text_is : old ++ byte_rows count place rest ≡ whole

pub rows-first : (old : List ℕ) (place : ℕ) (bytes : List ℕ) → RowsLeft (old ++ data_rows place bytes) old place bytes
unfolding data_rows
rows-first old place bytes = record {
  count = (length bytes + 15) / 16;
  enough = omega arith;
  few = omega arith;
  text_is = refl;
}

-- a full row
full-row : (k place len : ℕ) (rest : List ℕ) → len ≡ 16
    → byte_rows (suc k) place rest ≡ byte_row place (take len rest) ++ byte_rows k (place + len) (drop len rest)
full-row k place len rest e = rw e refl

-- the last one
last-row : (k place len : ℕ) (rest : List ℕ) → length rest ≤ 16 → len ≡ length rest → k ≡ 0
    → byte_rows (suc k) place rest ≡ byte_row place (take len rest) ++ byte_rows k (place + len) (drop len rest)
last-row k place len rest h e none =
    rw none (ap (λ r. byte_row place r ++ []) (take_all 16 rest h ∙ sym (take_all len rest (omega arith))))

next-row : (k place len : ℕ) (rest : List ℕ) → length rest ≤ 16 * suc k → 16 * suc k < length rest + 16
    → len ≡ min (length rest) 16
    → byte_rows (suc k) place rest ≡ byte_row place (take len rest) ++ byte_rows k (place + len) (drop len rest)
next-row k place len rest enough few e = elim (cases_lt (length rest) 16) [
  | inl h ↦ last-row k place len rest (omega arith) (omega arith) (omega arith)
  | inr h ↦ full-row k place len rest (omega arith)
]

rows-on : (whole old new : List ℕ) (place len count : ℕ) (rest : List ℕ) → length rest ≤ 16 * count
    → 16 * count < length rest + 16 → old ++ byte_rows count place rest ≡ whole → 0 < length rest
    → len ≡ min (length rest) 16 → new ≡ old ++ byte_row place (take len rest)
    → RowsLeft whole new (place + len) (drop len rest)
rows-on whole old new place len zero rest enough few text some e added = absurd (omega arith)
rows-on whole old new place len (suc k) rest enough few text some e added = record {
  count = k;
  enough = omega (arith, length-drop len rest);
  few = omega (arith, length-drop len rest);
  text_is =
      ap (λ l. l ++ byte_rows k (place + len) (drop len rest)) added
      ∙ append_assoc old (byte_row place (take len rest)) (byte_rows k (place + len) (drop len rest))
      ∙ ap (λ l. old ++ l) (sym (next-row k place len rest enough few e)) ∙ text;
}

rows-more : (whole old new : List ℕ) (place len : ℕ) (rest : List ℕ) → RowsLeft whole old place rest
    → 0 < length rest → len ≡ min (length rest) 16 → new ≡ old ++ byte_row place (take len rest)
    → RowsLeft whole new (place + len) (drop len rest)
rows-more whole old new place len rest left some e added =
    rows-on whole old new place len left.count rest left.enough left.few left.text_is some e added

none-left : (whole old : List ℕ) (place count : ℕ) (rest : List ℕ) → count ≡ 0
    → old ++ byte_rows count place rest ≡ whole → old ≡ whole
none-left whole old place count rest e text = sym (append-nil old) ∙ (rw e at text)

pub rows-done : (whole old : List ℕ) (place : ℕ) (rest : List ℕ) → RowsLeft whole old place rest → length rest ≡ 0
    → old ≡ whole
rows-done whole old place rest left none =
    none-left whole old place left.count rest (omega (arith, left.few)) left.text_is

-- the bytes behind a row, as the code takes them
pub behind : (xs : List ℕ) (n : ℕ) → take (length xs - n) (drop n xs) ≡ drop n xs
behind xs n = take_all (length xs - n) (drop n xs) (omega (arith, length-drop n xs))

-- with those the next place goes as far
pub place-more : (total place len : ℕ) (rest : List ℕ) → place + length rest ≡ total → len ≡ min (length rest) 16
    → place + len + length (take (length rest - len) (drop len rest)) ≡ total
place-more total place len rest e h = rw (behind rest len) (omega (arith, length-drop len rest))

pub rows-behind : (whole old new : List ℕ) (place len : ℕ) (rest : List ℕ) → RowsLeft whole old place rest
    → 0 < length rest → len ≡ min (length rest) 16 → new ≡ old ++ byte_row place (take len rest)
    → RowsLeft whole new (place + len) (take (length rest - len) (drop len rest))
rows-behind whole old new place len rest left some e added =
    rw (behind rest len) (rows-more whole old new place len rest left some e added)
