-- The last data record, changed.
use Rattle.std.proofs.Common.{◌≡◌, ℕ, zero, suc, List, [], ◌∷◌, ◌++◌, length, get_or, set, map, refl, ap, ◌∙◌, arith}
use Rattle.std.proofs.lemmas.List.{append-nil}
use Rattle.omf_module.specs.declared.ResolvedFixup.{ResolvedFixup}
use Rattle.omf_module.specs.Module.{DataRecord}
use Rattle.omf_module.specs.inside.Running.{add_to_last}

module _ {E : Type 0} (see : E → DataRecord) where
  pub at_last : (fs : List ResolvedFixup) (xs : List E) (i : ℕ) (d d' : E) → suc i ≡ length xs → d ≡ get_or xs i d
      → see d' ≡ record (see d) { fixups = (see d).fixups ++ fs } → map see (set xs i d') ≡ add_to_last fs (map see xs)
  at_last fs [] i d d' e at same = absurd (omega arith)
  at_last fs (x ∷ []) zero d d' e at same =
      ap (λ y. y ∷ []) (same ∙ ap (λ (y : E). record (see y) { fixups = (see y).fixups ++ fs }) at)
  at_last fs (x ∷ []) (suc i) d d' e at same = absurd (omega arith)
  at_last fs (x ∷ y ∷ ys) zero d d' e at same = absurd (omega arith)
  at_last fs (x ∷ y ∷ ys) (suc i) d d' e at same =
      ap (λ zs. see x ∷ zs) (at_last fs (y ∷ ys) i d d' (omega arith) at same)

pub none_to_last : (ds : List DataRecord) → add_to_last [] ds ≡ ds
none_to_last [] = refl
none_to_last (d ∷ []) = rw append-nil refl
none_to_last (d ∷ c ∷ ds) = ap (λ zs. d ∷ zs) (none_to_last (c ∷ ds))
