use Rattle.std.proofs.Common.{arith, ◌≡◌, ◌∙◌, ◌≤◌, ◌+◌, ◌*◌, ap, map, List}
use Rattle.std.proofs.lemmas.List.{with_items_is}
use Rattle.std.proofs.lemmas.Result.{err_from_is_err_and}
use Rattle.mz.specs.declared.format.Entry.{Entry}
use Rattle.mz.specs.declared.format.Header.{Header}
use Rattle.omf_image.specs.Words.{add_words}
use Rattle.mz.specs.Header.{entry_address}
use Rattle.mz.specs.Loading.{needed_len}
use Rattle.mz.specs.Laws.{memory_len}
use Rattle.mz.proofs.Placing.{does_not_fit, no_memory, loads_as}
use Rattle.mz.proofs.loading.load.Goals as goal

pub returns-then-needed_len-start : goal.returns-then-needed_len-start
returns-then-needed_len-start g c = does_not_fit c.args.paragraph c.args.file.now (omega (arith, c.needed_len.ensures))

pub returns-in_err-bytes : goal.returns-in_err-bytes
returns-in_err-bytes g c =
    let p = err_from_is_err_and c.from_residual.result c.from_residual.ensures.1 in
    no_memory c.from_residual.result c.args.paragraph c.args.file.now p.0 (omega (arith, c.needed_len.ensures)) p.1 p.2

pub returns : goal.returns
returns g c =
    let P = c.args.paragraph in
    let f = c.args.file.now in
    let old : c.deref_mut.result.now ≡ f.image =
    c.deref_mut.ensures.value ∙ c.in_ok-bytes.ensures.items ∙ c.image.ensures in
    let fits : 16 * P + needed_len f ≤ memory_len = omega (arith, c.needed_len.ensures) in
    let bytes : c.relocate.new.bytes ≡ add_words P (map entry_address f.entries) f.image =
    c.relocate.ensures
    ∙ ap (λ (l : List Entry). add_words P (map entry_address l) c.deref_mut.result.now) c.entries.ensures.same
    ∙ ap (add_words P (map entry_address f.entries)) old in
    loads_as P f c.header.result.registers _ fits (ap (λ (h : Header). h.registers) c.header.ensures)
    (with_items_is c.in_ok-bytes.bytes c.relocate.new.bytes (omega (arith, c.relocate.auto.bytes)) ∙ bytes)
