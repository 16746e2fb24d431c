-- The members of a library that are whole, gone through.
use Rattle.std.proofs.Common.{◌≡◌, ℕ, zero, suc, ◌+◌, ◌<◌, ◌≤◌, List, length, Ok, Err, refl, sym, ap, ◌∙◌, arith}
use Rattle.std.specs.declared.result.Result.{Result}
use Rattle.std.specs.Int.{next_multiple_of}
use Rattle.std.specs.Option.{option_map_or}
use Rattle.std.specs.Result.{result_ok}
use Rattle.std.proofs.lemmas.Bool.{le-ltb, lt-ltb}
use Rattle.omf_library.specs.declared.fault.LibraryFault.{LibraryFault}
use Rattle.omf_library.specs.Records.{module_end}
use Rattle.omf_library.proofs.Walking.{pred_of}
use Rattle.doslib_text.specs.Parts.{broken_from}

-- a walk that has come to this place finds what the whole walk finds
pub record BrokenLeft (file : List ℕ) (page place : ℕ) : Type 0 where
  pub most : ℕ
  pub enough : length file < place + most
  pub same : broken_from most page file place ≡ broken_from (length file) page file page

pub broken_first : (file : List ℕ) (page : ℕ) → 16 ≤ page → BrokenLeft file page page
broken_first file page least = record {
  most = length file;
  enough = omega (arith, least);
  same = refl;
}

-- behind the file
past : (most page : ℕ) (file : List ℕ) (place : ℕ) → length file < place → broken_from most page file place ≡ place
past zero page file place h = refl
past (suc most) page file place h = rw (lt-ltb (length file) place h) refl

pub broken_past : (file : List ℕ) (page place : ℕ) → BrokenLeft file page place → length file < place
    → place ≡ broken_from (length file) page file page
broken_past file page place left h = sym (past left.most page file place h) ∙ left.same

-- within it
here : (most page : ℕ) (file : List ℕ) (place : ℕ) → place ≤ length file
    → broken_from (suc most) page file place
    ≡ option_map_or (λ end. broken_from most page file (next_multiple_of end page)) (result_ok (module_end file place))
    place
here most page file place h = rw (le-ltb (length file) place h) refl

broken_here : (file : List ℕ) (page place : ℕ) (e : LibraryFault) → BrokenLeft file page place
    → place ≤ length file → module_end file place ≡ Err e → place ≡ broken_from (length file) page file page
broken_here file page place e left h is =
    let p = pred_of left.most 0 (omega (arith, left.enough, h)) in
    let stops : broken_from left.most page file place ≡ place =
    ap (λ n. broken_from n page file place) p.1 ∙ here p.0 page file place h
    ∙ ap (λ (r : Result ℕ LibraryFault).
    option_map_or (λ end. broken_from p.0 page file (next_multiple_of end page)) (result_ok r) place) is in
    sym stops ∙ left.same

-- the member there isn't whole
pub broken_stop : (file : List ℕ) (page place : ℕ) (r : Result ℕ LibraryFault) → BrokenLeft file page place
    → place ≤ length file → r ≡ module_end file place → ((end : ℕ) → r ≡ Ok end → ⊥)
    → place ≡ broken_from (length file) page file page
broken_stop file page place (Ok end) left h is other = absurd (other end refl)
broken_stop file page place (Err e) left h is other = broken_here file page place e left h (sym is)

pub broken_more : (file : List ℕ) (page place end next : ℕ) → BrokenLeft file page place
    → place ≤ length file → module_end file place ≡ Ok end → next ≡ next_multiple_of end page → place < next
    → BrokenLeft file page next
broken_more file page place end next left h is e behind =
    let p = pred_of left.most 0 (omega (arith, left.enough, h)) in
    let goes : broken_from left.most page file place ≡ broken_from p.0 page file next =
    ap (λ n. broken_from n page file place) p.1 ∙ here p.0 page file place h
    ∙ ap (λ (r : Result ℕ LibraryFault).
    option_map_or (λ end'. broken_from p.0 page file (next_multiple_of end' page)) (result_ok r) place) is
    ∙ ap (broken_from p.0 page file) (sym e) in
    record {
      most = p.0;
      enough = omega (arith, p.1, left.enough, behind);
      same = sym goes ∙ left.same;
    }
