use Rattle.std.proofs.Common.{◌≡◌, ◌≤◌, ◌+◌, ◌-◌, ◌*◌, ◌/◌, ◌++◌, [], ◌∙◌, ℕ, List, length, map, take, sym, ap, arith}
use Rattle.std.proofs.Common.{append_assoc}
use Rattle.std.proofs.lemmas.List.{append-nil, take_all}
use Rattle.omf_librarian.specs.Writing.{dictionary_place, end_record, header, library_bytes, members_bytes, padded}
use Rattle.omf_librarian.specs.inside.Members.{bytes_in}
use Rattle.omf_librarian.proofs.Paging.{members_more, members_none, members_size}
use Rattle.omf_librarian.proofs.writing.written.Goals as goal

pub loop-module-init : goal.loop-module-init
loop-module-init g c =
    let h = header c.args.size c.next_multiple_of-place.result (length c.args.dictionary.now / 512) in
    c.in_ok-out.ensures ∙ sym (append-nil h) ∙ ap (λ l. h ++ l) (sym (members_none c.args.size))

pub loop-module-preserved : goal.loop-module-preserved
loop-module-preserved g c =
    let size = c.args.size in
    let ms = c.args.modules.now in
    let i = c.loop-module.module-index in
    let x = c.module-item.result in
    let h = header size c.next_multiple_of-place.result (length c.args.dictionary.now / 512) in
    c.in_ok-push_padded.ensures
    ∙ ap (λ l. l ++ padded size x.bytes.now) c.loop-module.invariant
    ∙ append_assoc h (members_bytes size (map bytes_in (take i ms))) (padded size x.bytes.now)
    ∙ ap (λ l. h ++ l) (members_more bytes_in ms i x size c.loop-module-test.true c.module-item.is)

pub returns : goal.returns
unfolding library_bytes
returns g c =
    let size = c.args.size in
    let ms = c.args.modules.now in
    let d = c.args.dictionary.now in
    let i = c.loop-module.module-index in
    let place = c.next_multiple_of-place.result in
    let end = c.place_of-end.result in
    let b = length d / 512 in
    let M = members_bytes size (map bytes_in ms) in
    let all : members_bytes size (map bytes_in (take i ms)) ≡ M =
    ap (λ l. members_bytes size (map bytes_in l)) (take_all i ms (omega (arith, c.loop-module-test.false))) in
    let ends : end ≡ size + length M =
    c.place_of-end.ensures.place ∙ ap (λ k. size * k) c.requires.behind
    ∙ sym (members_size size (map bytes_in ms) (omega (arith, c.requires.least))) in
    c.in_ok-extend_from_slice.ensures.items
    ∙ ap (λ l. l ++ d) (c.in_ok-push_end.ensures ∙ ap (λ l. l ++ end_record (place - end))
    (c.loop-module.invariant ∙ ap (λ l. header size place b ++ l) all))
    ∙ ap (λ p. ((header size p b ++ M) ++ end_record (p - end)) ++ d) c.next_multiple_of-place.ensures.value
    ∙ ap (λ e. ((header size (dictionary_place e) b ++ M) ++ end_record (dictionary_place e - e)) ++ d) ends
