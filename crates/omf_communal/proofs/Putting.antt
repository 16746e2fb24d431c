-- The bytes of records, written one after the other.
use Rattle.std.proofs.Common.{◌≡◌, ℕ, ◌+◌, ◌<◌, List, [], ◌∷◌, ◌++◌, length, map, take, get_or, ap, sym, ◌∙◌}
use Rattle.std.proofs.lemmas.List.{map-append, take_more}
use Rattle.omf_record.specs.Record.{Record}
use Rattle.omf_write.specs.Records.{record_bytes, records_bytes}
use Rattle.omf_write.proofs.Putting.{bytes-one}

-- that of one more of what has records
pub put-turn : {C X : Type 0} (view : C → X) (f : X → Record) (xs : List C) (i : ℕ) (c : C) (front one two : List ℕ) →
    i < length xs → c ≡ get_or xs i c →
    one ≡ front ++ records_bytes (map f (map view (take i xs))) → two ≡ one ++ record_bytes (f (view c)) →
    two ≡ front ++ records_bytes (map f (map view (take (i + 1) xs)))
put-turn view f xs i c front one two h e was is =
    let x = view c in
    let more : map f (map view (take (i + 1) xs)) ≡ map f (map view (take i xs)) ++ f x ∷ [] =
    ap (λ ys. map f (map view ys)) (take_more xs i c h ∙ ap (λ y. take i xs ++ y ∷ []) (sym e))
    ∙ ap (map f) (map-append view (take i xs) (c ∷ [])) ∙ map-append f (map view (take i xs)) (x ∷ []) in
    is ∙ ap (λ t. t ++ record_bytes (f x)) was ∙ bytes-one front (map f (map view (take i xs))) (f x)
    ∙ ap (λ rs. front ++ records_bytes rs) (sym more)
