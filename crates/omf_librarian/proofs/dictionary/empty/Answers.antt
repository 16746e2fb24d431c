use Rattle.std.proofs.Common.{◌≡◌, ℕ, ◌+◌, ◌-◌, ◌*◌, List, [], ◌∷◌, ◌++◌, length, sym, ap, ◌∙◌, refl, arith}
use Rattle.std.proofs.Common.{length-append}
use Rattle.std.specs.List.{repeat}
use Rattle.omf_librarian.specs.Entering.{empty_block}
use Rattle.omf_librarian.proofs.Lists.{block_appended, block_size, repeat_more}
use Rattle.omf_librarian.proofs.dictionary.empty.Goals as goal

pub loop-preserved : goal.loop-preserved
loop-preserved g c =
    let old = c.loop.dictionary in
    let one = c.resize.new.self in
    let two = c.push.new.self in
    let more : c.resize-in-loop.new.self.items ≡ old.items ++ empty_block =
    block_appended old.items one.items two.items c.resize-in-loop.new.self.items c.len-start.result
    _ _ (omega (arith, c.len-start.ensures, old.ok.0))
    (omega (arith, c.len-start.ensures))
    (omega (arith, c.in_ok-push.ensures.len, c.in_ok-resize.ensures.len, c.len-start.ensures))
    c.in_ok-resize.ensures.items c.in_ok-push.ensures.items c.in_ok-resize-2.ensures.items in
    record {
      items =
          more ∙ ap (λ l. l ++ empty_block) c.loop.invariant.items ∙ repeat_more c.loop.counter empty_block;
      size =
          ap length more ∙ length-append old.items empty_block
          ∙ omega (arith, c.loop.invariant.size, block_size);
    }
