use Rattle.std.proofs.Common.{◌≡◌, ◌∙◌, ◌+◌, Bool, Some, cond, find, drop, sym, ap, arith}
use Rattle.std.specs.Prelude.{is_some}
use Rattle.omf_place.specs.declared.layout.Combined.{Combined}
use Rattle.omf_image.specs.inside.Starts.{is_stack_segment}
use Rattle.omf_image.proofs.Listing.{item_next}
use Rattle.flat_file.proofs.stack.has_stack.Goals as goal

pub returns-then-is_stack_segment : goal.returns-then-is_stack_segment
returns-then-is_stack_segment g c =
    let x = c.combined.result in
    let p : Combined → Bool = is_stack_segment c.args.modules.now in
    let all = c.args.layout.now.combined in
    let i = c.loop-index.index in
    let next =
    item_next all i x (omega (arith, c.loop-index-test.true, c.combined_len-index-end.ensures)) c.combined.ensures in
    let found : find p all ≡ Some x =
    sym c.loop-index.invariant ∙ ap (find p) next
    ∙ ap (λ (b : Bool). cond b (Some x) (find p (drop (i + 1) all)))
    (sym c.is_stack_segment.ensures ∙ c.if-is_stack_segment.true) in
    sym (ap is_some found)

pub loop-index-preserved : goal.loop-index-preserved
loop-index-preserved g c =
    let x = c.combined.result in
    let p : Combined → Bool = is_stack_segment c.args.modules.now in
    let all = c.args.layout.now.combined in
    let i = c.loop-index.index in
    let next =
    item_next all i x (omega (arith, c.loop-index-test.true, c.combined_len-index-end.ensures)) c.combined.ensures in
    ap (λ (b : Bool). cond b (Some x) (find p (drop (i + 1) all)))
    (sym (sym c.is_stack_segment.ensures ∙ c.if-is_stack_segment.false))
    ∙ ap (find p) (sym next) ∙ c.loop-index.invariant
