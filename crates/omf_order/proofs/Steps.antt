-- The records of the order module, one part more at a time.
use Rattle.std.proofs.Common.{◌≡◌, ℕ, zero, suc, ◌+◌, ◌<◌, Bool, List, [], ◌∷◌, ◌++◌, length, take, get_or, length-take, ap}
use Rattle.std.proofs.Common.{sym, ◌∙◌, arith, append_assoc, append-nil}
use Rattle.std.proofs.lemmas.Grind.{flat_map-append}
use Rattle.std.proofs.lemmas.List.{length-map, map-append, take_more}
use Rattle.std.specs.List.{AllByRecursion}
use Rattle.omf_order.specs.declared.parts.Part as held
use Rattle.omf_order.specs.inside.Fits.{IsShortPart}
use Rattle.omf_order.specs.inside.Held.{part_view, parts_view}
use Rattle.omf_record.specs.Record.{Record}
use Rattle.omf_order.specs.Parts.{Part}
use Rattle.omf_order.specs.Records.{part_records, records_of}
use Rattle.omf_write.specs.Records.{record_bytes, records_bytes}

pub part_records-more : (nulls : Bool) (place : ℕ) (ps : List Part) (p : Part)
    → part_records nulls place (ps ++ p ∷ [])
    ≡ part_records nulls place ps ++ records_of nulls (place + length ps) p
part_records-more nulls place [] p =
    let e : place ≡ place + 0 = omega arith in
    append-nil (records_of nulls place p) ∙ ap (λ n. records_of nulls n p) e
part_records-more nulls place (q ∷ ps) p =
    let e : place + 1 + length ps ≡ place + suc (length ps) = omega arith in
    ap (λ rs. records_of nulls place q ++ rs)
    (part_records-more nulls (place + 1) ps p
    ∙ ap (λ n. part_records nulls (place + 1) ps ++ records_of nulls n p) e)
    ∙ sym
    (append_assoc (records_of nulls place q) (part_records nulls (place + 1) ps)
    (records_of nulls (place + suc (length ps)) p))

-- the bytes of two records, and of some behind them
pub bytes-part : (out : List ℕ) (a b : Record) (rs : List Record)
    → ((out ++ record_bytes a) ++ record_bytes b) ++ records_bytes rs ≡ out ++ records_bytes (a ∷ b ∷ rs)
bytes-part out a b rs =
    append_assoc (out ++ record_bytes a) (record_bytes b) (records_bytes rs)
    ∙ append_assoc out (record_bytes a) (record_bytes b ++ records_bytes rs)

-- a part of the code has short names, as all have
pub short_at : (ps : List held.Part) (i : ℕ) (d : held.Part) → AllByRecursion IsShortPart (parts_view ps)
    → i < length ps → IsShortPart (part_view (get_or ps i d))
short_at [] i d all h = absurd (omega arith)
short_at (p ∷ ps) zero d all h = all.0
short_at (p ∷ ps) (suc i) d all h = short_at ps i d all.1 (omega arith)

-- one part more
pub part-step : (nulls : Bool) (ps : List held.Part) (i : ℕ) (d : held.Part) (front one two : List ℕ) →
    i < length ps → one ≡ front ++ records_bytes (part_records nulls 0 (parts_view (take i ps))) →
    two ≡ one ++ records_bytes (records_of nulls i (part_view (get_or ps i d))) →
    two ≡ front ++ records_bytes (part_records nulls 0 (parts_view (take (i + 1) ps)))
part-step nulls ps i d front one two h e1 e2 =
    let p = part_view (get_or ps i d) in
    let before = parts_view (take i ps) in
    let len : 0 + length before ≡ i =
    let l = length-map (take i ps) part_view in let t = length-take i ps in omega (arith, l, t, h) in
    let more : parts_view (take (i + 1) ps) ≡ before ++ p ∷ [] =
    ap parts_view (take_more ps i d h) ∙ map-append part_view (take i ps) (get_or ps i d ∷ []) in
    let records : part_records nulls 0 (parts_view (take (i + 1) ps))
    ≡ part_records nulls 0 before ++ records_of nulls i p =
    ap (part_records nulls 0) more ∙ part_records-more nulls 0 before p
    ∙ ap (λ n. part_records nulls 0 before ++ records_of nulls n p) len in
    e2 ∙ ap (λ t. t ++ records_bytes (records_of nulls i p)) e1
    ∙ append_assoc front (records_bytes (part_records nulls 0 before)) (records_bytes (records_of nulls i p))
    ∙ ap (λ t. front ++ t)
    (sym (flat_map-append record_bytes (part_records nulls 0 before) (records_of nulls i p))
    ∙ ap records_bytes (sym records))

-- the records of a module, by what was written one after the other
pub bytes-whole : (out : List ℕ) (a b : Record) (rs ss : List Record)
    → (((out ++ record_bytes a) ++ record_bytes b) ++ records_bytes rs) ++ records_bytes ss
    ≡ out ++ records_bytes (a ∷ b ∷ (rs ++ ss))
bytes-whole out a b rs ss =
    ap (λ t. (t ++ records_bytes rs) ++ records_bytes ss) (append_assoc out (record_bytes a) (record_bytes b))
    ∙ append_assoc (out ++ (record_bytes a ++ record_bytes b)) (records_bytes rs) (records_bytes ss)
    ∙ append_assoc out (record_bytes a ++ record_bytes b) (records_bytes rs ++ records_bytes ss)
    ∙ ap (λ t. out ++ t) (append_assoc (record_bytes a) (record_bytes b) (records_bytes rs ++ records_bytes ss)
    ∙ ap (λ t. record_bytes a ++ (record_bytes b ++ t)) (sym (flat_map-append record_bytes rs ss)))
