use Rattle.std.proofs.Common.{arith, ◌≡◌, ◌-◌, ◌∙◌, ap, sym, true, Bool, ℕ, List, length, drop, Ok, length-drop, Result}
use Rattle.std.specs.List.{list_all}
use Rattle.std.proofs.lemmas.Bool.{cond-true}
use Rattle.mz.specs.declared.format.Header.{Header}
use Rattle.mz.specs.declared.format.Entry.{Entry}
use Rattle.mz.specs.declared.fault.FileFault.{FileFault}
use Rattle.mz.specs.Header.{header_len, is_inside}
use Rattle.mz.specs.File.{MzFile}
use Rattle.mz.specs.Reading.{entries_at}
use Rattle.mz.specs.inside.Steps.{file_in}
use Rattle.mz.proofs.Accepting.{header_within}
use Rattle.mz.proofs.reading.file_of.Goals as goal

all_inside : (r : Bool) (n m : ℕ) (xs ys : List Entry) → r ≡ list_all (is_inside n) xs → r ≡ true → n ≡ m → xs ≡ ys
    → list_all (is_inside m) ys ≡ true
all_inside r n m xs ys e t x y =
    sym (ap (λ (k : ℕ). list_all (is_inside k) ys) x) ∙ sym (ap (list_all (is_inside n)) y) ∙ sym e ∙ t

file_is : (h : Header) (bs : List ℕ) (es : List Entry) → es ≡ entries_at h.relocation_count h.relocation_table bs
    → list_all (is_inside (length bs - header_len h)) es ≡ true
    → file_in h bs ≡ Ok (record { header = h; entries = es; image = drop (header_len h) bs })
file_is h bs es e t =
    let made : List Entry → Result MzFile FileFault =
    λ l. Ok (record { header = h; entries = l; image = drop (header_len h) bs }) in
    let inside : list_all (is_inside (length (drop (header_len h) bs)))
    (entries_at h.relocation_count h.relocation_table bs) ≡ true =
    ap (λ (n : ℕ). list_all (is_inside n) (entries_at h.relocation_count h.relocation_table bs))
    (length-drop (header_len h) bs)
    ∙ sym (ap (list_all (is_inside (length bs - header_len h))) e) ∙ t in
    cond-true _ _ _ inside ∙ ap made (sym e)

pub invariant_of-result : goal.invariant_of-result
invariant_of-result g c = (
  omega (arith, header_within c.args.header c.requires.accepted),
  all_inside c.are_inside.result (c.len.result - c.header_len.result)
      (length c.args.bytes.items - header_len c.args.header) c.deref-2.result.now c.in_ok-entries.entries.items
      c.are_inside.ensures c.if-not-are_inside.false (omega arith) c.deref-2.ensures.value,
)

pub returns-clause-exact : goal.returns-clause-exact
returns-clause-exact g c =
    file_is c.args.header c.args.bytes.items c.in_ok-entries.entries.items
    (c.in_ok-entries.ensures
    ∙ ap (entries_at c.args.header.relocation_count c.args.header.relocation_table) c.deref.ensures.value)
    (all_inside c.are_inside.result (c.len.result - c.header_len.result)
    (length c.args.bytes.items - header_len c.args.header) c.deref-2.result.now c.in_ok-entries.entries.items
    c.are_inside.ensures c.if-not-are_inside.false (omega arith) c.deref-2.ensures.value)
