use Rattle.std.proofs.Common.{◌≡◌, ◌++◌, ◌-◌, ◌∙◌, [], ap, ap₂, codes, length, map, slice_get, take}
use Rattle.std.proofs.lemmas.List.{length-map}
use Rattle.std.proofs.lemmas.Result.{on_ok_weaker}
use Rattle.std.proofs.lemmas.Simd.{map-map}
use Rattle.std.specs.List.{take-map}
use Rattle.std.specs.Option.{unwrap_or}
use Rattle.doslink_telling.specs.Duplicates.{if_any, rest_word, same_ones}
use Rattle.doslink_telling.specs.Lines.{named}
use Rattle.doslink_telling.specs.Missing.{told_count}
use Rattle.doslink_telling.specs.declared.duplicates.Occurrence.{Occurrence}
use Rattle.doslink_telling.specs.inside.Duplicates.{duplicate_said, occurrence_of}
use Rattle.omf_search.specs.Results.{bytes_of}
use Rattle.doslink_telling.proofs.duplicates.push_duplicate.Goals as goal

pub returns : goal.returns
returns g c = on_ok_weaker c.push_named.result (λ pushed. λ all is.
    let name = c.args.duplicate.now.public.now.name.now in
    let words = bytes_of c.args.words.now in
    let found = c.same_places-same.result.now in
    let same = same_ones all (duplicate_said c.args.duplicate.now).1 in
    let here : found ≡ map occurrence_of same = c.same_places-same.ensures all is in
    let len : length found ≡ length same = ap length here ∙ length-map same occurrence_of in
    let n = c.told_count-told.result in
    let told = told_count (length same) c.args.tells_all in
    let count : n ≡ told = c.told_count-told.ensures.told ∙ ap (λ k. told_count k c.args.tells_all) len in
    let word = λ (o : Occurrence). unwrap_or (slice_get words o.input) [] in
    let picked : map word (take n found) ≡ map (λ e. unwrap_or (slice_get words e.1.input) []) (take told same) =
    ap (λ l. map word (take n l)) here ∙ ap (map word) (take-map occurrence_of n same) ∙ map-map _ _ _
    ∙ ap (λ k. map (λ e. unwrap_or (slice_get words e.1.input) []) (take k same)) count in
    let left : length found - n ≡ length same - told = ap (λ k. k - n) len ∙ ap (λ k. length same - k) count in
    let rest : c.deref.result.now ≡ rest_word (length same - told) =
    c.deref.ensures.value ∙ c.in_ok-rest.ensures ∙ ap rest_word left in
    pushed ∙ ap (λ ws. c.args.lines.now.items ++ named (25, codes "DuplicatePublic") name ws)
    (ap bytes_of c.deref-2.ensures.value ∙ c.in_ok-found.ensures
    ∙ ap₂ (λ ws r. ws ++ r) picked (ap₂ (λ k w. if_any k w) left rest))) c.push_named.ensures
