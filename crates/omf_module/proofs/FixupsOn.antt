-- The fix-ups on each data record.
use Rattle.std.proofs.Common.{◌≡◌, ◌≢◌, ℕ, ◌+◌, ◌<◌, ◌≤◌, ◌==◌, false, List, [], ◌∷◌, ◌++◌, length, map, refl, ap, ◌∙◌}
use Rattle.std.proofs.Common.{append_assoc, arith, length-append}
use Rattle.std.proofs.lemmas.List.{append-nil, map-append}
use Rattle.std.proofs.lemmas.Bool.{ne_eqb, eq-eqb}
use Rattle.std.proofs.lemmas.List.Concat.{flat_map-append}
use Rattle.std.specs.List.{enumerate_from}
use Rattle.omf_record.specs.Records.{Placed}
use Rattle.omf_module.specs.declared.ResolvedFixup.{ResolvedFixup}
use Rattle.omf_module.specs.Before.{along}
use Rattle.omf_module.specs.Module.{DataRecord}
use Rattle.omf_module.specs.Tables.{data_of, subrecords, fixups, fixups_in, data_record}
use Rattle.omf_module.specs.inside.Said.{fixups_on}
use Rattle.omf_module.specs.inside.Said.{data_records}
use Rattle.omf_module.specs.inside.Running.{add_to_last}
use Rattle.std.proofs.lemmas.List.Elements.{filter_map-append}
use Rattle.omf_module.proofs.Lists.{enumerate_push}

-- each is on a data record of at most this number
abbrev UpTo : ℕ → List (ℕ × ResolvedFixup) → Type 0
UpTo n [] = Unit {0}
UpTo n (x ∷ xs) = (x.0 ≤ n) × UpTo n xs

up_to_append : (n : ℕ) (xs ys : List (ℕ × ResolvedFixup)) → UpTo n xs → UpTo n ys → UpTo n (xs ++ ys)
up_to_append n [] ys p q = q
up_to_append n (x ∷ xs) ys p q = (p.0, up_to_append n xs ys p.1 q)

up_to_tagged : (n k : ℕ) (fs : List ResolvedFixup) → k ≤ n → UpTo n (map (λ x. (k, x)) fs)
up_to_tagged n k [] le = tt
up_to_tagged n k (f ∷ fs) le = (le, up_to_tagged n k fs le)

fixups_up_to : (before rs : List Placed)
    → UpTo (length (data_of (before ++ rs)))
    (along before (λ before r. map (λ x. (length (data_of before), x)) (fixups_in (subrecords before) r)) rs)
fixups_up_to before [] = tt
fixups_up_to before (r ∷ rs) =
    let le : length (data_of before) ≤ length (data_of (before ++ r ∷ rs)) =
    rw (flat_map-append, length-append) (omega arith) in
    up_to_append _ _ _ (up_to_tagged _ _ (fixups_in (subrecords before) r) le)
    (rw append_assoc at (fixups_up_to (before ++ r ∷ []) rs))

none_on : (n k : ℕ) (xs : List (ℕ × ResolvedFixup)) → n < k → UpTo n xs → fixups_on k xs ≡ []
none_on n k [] lt p = refl
none_on n k (x ∷ xs) lt p =
    let e : (x.0 == k) ≡ false = ne_eqb x.0 k (λ e. absurd (omega (arith, p.0))) in
    rw e (none_on n k xs lt p.1)

all_on : (k : ℕ) (fs : List ResolvedFixup) → fixups_on k (map (λ x. (k, x)) fs) ≡ fs
all_on k [] = refl
all_on k (f ∷ fs) = rw (eq-eqb k k refl) (ap (λ xs. f ∷ xs) (all_on k fs))

other_on : (k n : ℕ) (fs : List ResolvedFixup) → n ≢ k → fixups_on k (map (λ x. (n, x)) fs) ≡ []
other_on k n [] ne = refl
other_on k n (f ∷ fs) ne = rw (ne_eqb n k ne) (other_on k n fs ne)

-- one more data record has no fix-up yet
pub new_data : (rs : List Placed) (d : DataRecord)
    → map (data_record (fixups rs)) (enumerate_from 1 (data_of rs ++ d ∷ []))
    ≡ data_records rs
    ++ record { place = d.place; segment = d.segment; offset = d.offset; pairs = d.pairs; fixups = [] } ∷ []
new_data rs d =
    let none : fixups_on (1 + length (data_of rs)) (fixups rs) ≡ [] =
    none_on (length (data_of rs)) _ _ (omega arith) (fixups_up_to [] rs) in
    rw (enumerate_push, map-append)
    (ap (λ fs.
    data_records rs ++ record { place = d.place; segment = d.segment; offset = d.offset; pairs = d.pairs; fixups = fs }
    ∷ []) none)

-- more fix-ups go to the last one
pub new_fixups : (xs : List (ℕ × ResolvedFixup)) (fs : List ResolvedFixup) (n t : ℕ) (ds : List DataRecord)
    → t + 1 ≡ n + length ds
    → map (data_record (xs ++ map (λ x. (t, x)) fs)) (enumerate_from n ds)
    ≡ add_to_last fs (map (data_record xs) (enumerate_from n ds))
new_fixups xs fs n t [] e = refl
new_fixups xs fs n t (d ∷ []) e =
    let same : n ≡ t = omega arith in
    let on : fixups_on n (xs ++ map (λ x. (t, x)) fs) ≡ fixups_on n xs ++ fs =
    filter_map-append _ xs _ ∙ ap (λ ys. fixups_on n xs ++ ys) (rw same (all_on t fs)) in
    ap (λ ys. record { place = d.place; segment = d.segment; offset = d.offset; pairs = d.pairs; fixups = ys } ∷ []) on
new_fixups xs fs n t (d ∷ c ∷ ds) e =
    let ne : t ≢ n = omega arith in
    let on : fixups_on n (xs ++ map (λ x. (t, x)) fs) ≡ fixups_on n xs =
    filter_map-append _ xs _ ∙ ap (λ ys. fixups_on n xs ++ ys) (other_on n t fs ne) ∙ append-nil _ in
    ap (λ ys.
    record { place = d.place; segment = d.segment; offset = d.offset; pairs = d.pairs; fixups = ys }
    ∷ map (data_record (xs ++ map (λ x. (t, x)) fs)) (enumerate_from (n + 1) (c ∷ ds))) on
    ∙ ap (λ zs. data_record xs (n, d) ∷ zs) (new_fixups xs fs (n + 1) t (c ∷ ds) (omega arith))
