-- What follows where no kind of fault comes.
use Rattle.std.proofs.Common.{◌≡◌, Bool, true, false, [], ◌∷◌, refl, ap, true≢false}
use Rattle.clap.specs.Kinds.{Kinds, check_kinds, or_else}
use Rattle.clap.specs.declared.error.kind.ErrorKind.{ErrorKind}

pub no_kind : (k : ErrorKind) (ks : Kinds) → k ∷ ks ≡ [] → ⊥
no_kind k ks e = true≢false (ap has_kind e)
  where
    has_kind : Kinds → Bool
    has_kind [] = false
    has_kind (x ∷ xs) = true

-- where no step fails, none of two does
pub steps : (a b : Kinds) → or_else a b ≡ [] → (a ≡ []) × (b ≡ [])
steps [] b e = (refl, e)
steps (k ∷ ks) b e = absurd (no_kind k ks e)

-- and where none of the last checks does, nothing is wanted
pub none_wanted : (a b d : Bool) → check_kinds a b d ≡ [] → (a ≡ false) × (b ≡ false) × (d ≡ false)
none_wanted true b d e = absurd (no_kind _ _ e)
none_wanted false true d e = absurd (no_kind _ _ e)
none_wanted false false true e = absurd (no_kind _ _ e)
none_wanted false false false e = (refl, refl, refl)
