use Rattle.std.proofs.Common.{◌∙◌, ◌++◌, ◌+◌, ap, append_assoc, append-nil, drop, map, sym}
use Rattle.std.proofs.lemmas.List.{at_drop_more, drop_all}
use Rattle.std.proofs.lemmas.Simd.{map-map}
use Rattle.std.specs.List.{enumerate_from, flat_map, list_any}
use Rattle.std.specs.Str.{bytes_eq}
use Rattle.omf_place.specs.Names.{spelled}
use Rattle.omf_search.specs.Results.{bytes_of}
use Rattle.doslink_telling.specs.Offering.{offering_in, offering_said}
use Rattle.doslink_telling.proofs.offering.offering_members.Goals as goal

pub loop-file-preserved : goal.loop-file-preserved
loop-file-preserved g c =
    let names = c.args.names in
    let files = c.args.files.now in
    let missing = map (λ w. w.name.now) c.args.missing.now in
    let i = c.loop-file.file in
    let old = map offering_said c.loop-file.all.items in
    let rest = flat_map (offering_in names missing) (enumerate_from (i + 1) (bytes_of (drop (i + 1) files))) in
    ap (λ l. l ++ rest)
    (c.in_ok-push_offering.ensures missing
    (λ q. c.in_ok-set.ensures q
    ∙ ap (list_any (λ n. bytes_eq n q.items)) (sym (map-map (spelled names) (λ w. w.name.now) c.args.missing.now))))
    ∙ append_assoc old (offering_in names missing (i, _)) rest
    ∙ ap (λ l. old ++ l)
    (sym (at_drop_more (λ l. flat_map (offering_in names missing) (enumerate_from i (bytes_of l))) files i _
    c.loop-file-test.true))
    ∙ c.loop-file.invariant

pub returns : goal.returns
returns g c =
    let names = c.args.names in
    let missing = map (λ w. w.name.now) c.args.missing.now in
    let all = map offering_said c.loop-file.all.items in
    sym (append-nil all)
    ∙ ap (λ l. all ++ flat_map (offering_in names missing) (enumerate_from c.loop-file.file (bytes_of l)))
    (sym (drop_all c.loop-file.file c.args.files.now c.loop-file-test.false))
    ∙ c.loop-file.invariant
