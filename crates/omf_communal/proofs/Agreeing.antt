-- What a map has for keys that are one.
use Rattle.std.proofs.Common.{◌≡◌, List, true, ap}
use Rattle.std.specs.Map.{lookup}
use Rattle.omf_keys.specs.declared.key.Key.{Key}
use Rattle.omf_keys.specs.Keys.{same_key}
use Rattle.omf_keys.proofs.Agreeing.{keys_are_one}

-- a map has one value for keys that are one
pub same_value : {X : Type 0} (es : List (Key × X)) (k l : Key) → same_key k l ≡ true
    → lookup (same_key k) es ≡ lookup (same_key l) es
same_value es k l e =
    let same : same_key k ≡ same_key l = λ j. λ x. keys_are_one.congr k l x e j in ap (λ t. lookup t es) same
