use Rattle.std.proofs.Common.{◌≡◌, ◌-◌, ◌<◌, ◌∙◌, None, Some, ap, arith, cond, drop, get_or, length, sym, take}
use Rattle.std.proofs.lemmas.Bool.{lt-ltb}
use Rattle.std.proofs.lemmas.List.{length-take-le, take_rest}
use Rattle.std.specs.List.{before_first, position_or_len}
use Rattle.omf_library.specs.Archive.{long_name, without_slash}
use Rattle.omf_library.specs.inside.Lines.{ends_line}
use Rattle.omf_library.proofs.Lines.{lengths-length, line-at, line-le}
use Rattle.omf_library.proofs.long_names.LongNames.get.Goals as goal

pub index-len-requires : goal.index-len-requires
index-len-requires g c =
    let table = c.args.self.now.table.now in
    let all = lengths-length table in
    let same = ap length c.requires in
    omega (arith, all, same, c.args.self.now.lengths.ok.0)

pub slice_bounds-without_slash-end : goal.slice_bounds-without_slash-end
slice_bounds-without_slash-end g c =
    let table = c.args.self.now.table.now in
    let place = c.args.place in
    let within : place < length table = omega (arith, c.if-place-self.false) in
    let i = length table - 1 - place in
    let is : c.index-len.result.now ≡ position_or_len ends_line (drop place table) =
    c.index-len.ensures ∙ ap (λ l. get_or l i c.index-len.result.now) c.requires
    ∙ line-at table place i c.index-len.result.now within (let e : i ≡ length table - 1 - place = omega arith in e) in
    let long = line-le (drop place table) in
    sym
    (ap (λ l. length (take c.index-len.result.now l)) (take_rest table place)
    ∙ length-take-le c.index-len.result.now (drop place table) (omega (arith, is, long)))

pub returns : goal.returns
unfolding long_name
returns g c =
    let table = c.args.self.now.table.now in
    let place = c.args.place in
    let within : place < length table = omega (arith, c.if-place-self.false) in
    let i = length table - 1 - place in
    let is : c.index-len.result.now ≡ position_or_len ends_line (drop place table) =
    c.index-len.ensures ∙ ap (λ l. get_or l i c.index-len.result.now) c.requires
    ∙ line-at table place i c.index-len.result.now within (let e : i ≡ length table - 1 - place = omega arith in e) in
    ap Some
    (c.without_slash.ensures
    ∙ ap (λ l. without_slash (take c.index-len.result.now l)) (take_rest table place)
    ∙ ap (λ n. without_slash (take n (drop place table))) is)
    ∙ sym
    (ap (λ b. cond b (Some (without_slash (before_first ends_line (drop place table)))) None)
    (lt-ltb place (length table) within))
