-- The bytes of records, written one after the other.
use Rattle.std.proofs.Common.{◌≡◌, ℕ, List, [], ◌∷◌, ◌++◌, ap, sym, ◌∙◌, append_assoc, append-nil}
use Rattle.std.proofs.lemmas.Grind.{flat_map-append}
use Rattle.omf_record.specs.Record.{Record}
use Rattle.omf_write.specs.Records.{record_bytes, records_bytes}

-- one record more
pub bytes-one : (out : List ℕ) (rs : List Record) (a : Record)
    → (out ++ records_bytes rs) ++ record_bytes a ≡ out ++ records_bytes (rs ++ a ∷ [])
bytes-one out rs a =
    append_assoc out (records_bytes rs) (record_bytes a)
    ∙ ap (λ t. out ++ t)
    (ap (λ t. records_bytes rs ++ t) (sym (append-nil (record_bytes a)))
    ∙ sym (flat_map-append record_bytes rs (a ∷ [])))

-- three lists of records, and one behind them
pub bytes-last : (out : List ℕ) (g m n : List Record) (e : Record)
    → (((out ++ records_bytes g) ++ records_bytes m) ++ records_bytes n) ++ record_bytes e
    ≡ out ++ records_bytes (g ++ (m ++ (n ++ e ∷ [])))
bytes-last out g m n e =
    append_assoc ((out ++ records_bytes g) ++ records_bytes m) (records_bytes n) (record_bytes e)
    ∙ append_assoc (out ++ records_bytes g) (records_bytes m) (records_bytes n ++ record_bytes e)
    ∙ append_assoc out (records_bytes g) (records_bytes m ++ (records_bytes n ++ record_bytes e))
    ∙ ap (λ t. out ++ t)
    (ap (λ t. records_bytes g ++ (records_bytes m ++ (records_bytes n ++ t))) (sym (append-nil (record_bytes e)))
    ∙ sym
    (flat_map-append record_bytes g (m ++ (n ++ e ∷ []))
    ∙ ap (λ t. records_bytes g ++ t)
    (flat_map-append record_bytes m (n ++ e ∷ [])
    ∙ ap (λ t. records_bytes m ++ t) (flat_map-append record_bytes n (e ∷ [])))))
