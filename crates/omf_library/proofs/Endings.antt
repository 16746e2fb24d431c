-- The end of a library's members, page by page.
use Rattle.std.proofs.Common.{◌≡◌, ◌≢◌, ℕ, zero, suc, ◌+◌, ◌<◌, ◌≤◌, List, length, get_or, Some, None, Ok, Err, refl, sym}
use Rattle.std.proofs.Common.{ap, ◌∙◌, arith}
use Rattle.std.proofs.lemmas.Bool.{eq-eqb, le-leb, lt-leb, ne_eqb}
use Rattle.std.specs.Int.{next_multiple_of}
use Rattle.std.specs.Option.{option_map_or}
use Rattle.std.specs.Result.{result_ok}
use Rattle.omf_library.specs.declared.fault.LibraryFault.{LibraryFault}
use Rattle.omf_library.specs.Ending.{end_up_to, library_end}
use Rattle.omf_library.specs.Library.{member_at, page_size}
use Rattle.omf_library.specs.Members.{PlainMember}

-- where the members from a place on end, there all do
pub record EndLeft (file : List ℕ) (page place : ℕ) : Type 0 where
  pub most : ℕ
  pub enough : length file ≤ place + most
  pub same : end_up_to most page file place ≡ library_end file

pub end_first : (file : List ℕ) (page : ℕ) → Ok page ≡ page_size file → EndLeft file page page
unfolding library_end
end_first file page is = record {
  most = length file;
  enough = omega arith;
  same = ap (λ r. option_map_or (λ p. end_up_to (length file) p file p) (result_ok r) None) is;
}

pub end_unpaged : (file : List ℕ) (e : LibraryFault) → Err e ≡ page_size file → None ≡ library_end file
unfolding library_end
end_unpaged file e is = ap (λ r. option_map_or (λ p. end_up_to (length file) p file p) (result_ok r) None) is

cut : (most page : ℕ) (file : List ℕ) (place : ℕ) → length file ≤ place → end_up_to most page file place ≡ None
cut zero page file place past = refl
cut (suc most) page file place past = rw (le-leb (length file) place past) refl

pub end_cut : (file : List ℕ) (page place : ℕ) → EndLeft file page place → length file ≤ place
    → None ≡ library_end file
end_cut file page place left past = sym (cut left.most page file place past) ∙ left.same

pred_of : (n m : ℕ) → m < n → (k : ℕ) × (n ≡ suc k)
pred_of zero m h = absurd (omega arith)
pred_of (suc n) m h = (n, refl)

pub end_here : (file : List ℕ) (page place : ℕ) → EndLeft file page place → place < length file
    → get_or file place 0 ≡ 0xF1 → Some (place + 1) ≡ library_end file
end_here file page place left within is =
    let p = pred_of left.most 0 (omega (arith, left.enough)) in
    let step : end_up_to (suc p.0) page file place ≡ Some (place + 1) =
    rw (lt-leb (length file) place within, eq-eqb (get_or file place 0) 0xF1 is) refl in
    sym (ap (λ n. end_up_to n page file place) p.1 ∙ step) ∙ left.same

step : (most page : ℕ) (file : List ℕ) (place : ℕ) → place < length file → get_or file place 0 ≢ 0xF1
    → end_up_to (suc most) page file place
    ≡ option_map_or (λ m. end_up_to most page file (next_multiple_of (place + length m.bytes) page))
    (result_ok (member_at file place)) None
step most page file place within other =
    rw (lt-leb (length file) place within, ne_eqb (get_or file place 0) 0xF1 other) refl

pub end_amiss : (file : List ℕ) (page place : ℕ) (e : LibraryFault) → EndLeft file page place → place < length file
    → get_or file place 0 ≢ 0xF1 → Err e ≡ member_at file place → None ≡ library_end file
end_amiss file page place e left within other is =
    let p = pred_of left.most 0 (omega (arith, left.enough)) in
    sym
    (ap (λ n. end_up_to n page file place) p.1 ∙ step p.0 page file place within other
    ∙ ap
    (λ r.
    option_map_or (λ (m : PlainMember). end_up_to p.0 page file (next_multiple_of (place + length m.bytes) page))
    (result_ok r) None) (sym is))
    ∙ left.same

pub end_next : (file : List ℕ) (page place next : ℕ) (m : PlainMember) → EndLeft file page place → place < length file
    → get_or file place 0 ≢ 0xF1 → Ok m ≡ member_at file place → next ≡ next_multiple_of (place + length m.bytes) page
    → place < next → EndLeft file page next
end_next file page place next m left within other is n more =
    let p = pred_of left.most 0 (omega (arith, left.enough)) in
    record {
      most = p.0;
      enough = omega (arith, p.1, left.enough, more);
      same =
          ap (end_up_to p.0 page file) n
          ∙ sym
          (ap (λ k. end_up_to k page file place) p.1 ∙ step p.0 page file place within other
          ∙ ap
          (λ r.
          option_map_or (λ (x : PlainMember). end_up_to p.0 page file (next_multiple_of (place + length x.bytes) page))
          (result_ok r) None) (sym is))
          ∙ left.same;
    }
