-- What the code's block of 32 bits says.
use Rattle.std.proofs.Common.{◌≡◌, ℕ, List, map, sym, ap, ◌∙◌, Bor}
use Rattle.std.specs.Prelude.{Vec}
use Rattle.omf_extended.specs.declared.repeated.WideBlock.{WideBlock}
use Rattle.omf_extended.specs.declared.repeated.WideBlock.TheViews as views
use Rattle.omf_extended.specs.declared.repeated.WideBlock.TheVariants.{rolls-Nested, rolls-Content}
use Rattle.omf_extended.specs.declared.repeated.WideBlock as code
use Rattle.omf_extended.specs.declared.repeated.WideBlock.TheOpen as layer
use Rattle.omf_extended.specs.declared.repeated.WideBlock.TheFolds.{fold-roll-WideBlock}
use Rattle.omf_record.specs.Record as says
use Rattle.omf_extended.specs.View.{wide_block_step, wide_block_view}

pub view_nested : {A : Type 0} (repeat : ℕ) (blocks : Vec (WideBlock A) A)
    → wide_block_view (views.Nested repeat blocks) ≡ says.Nested repeat (says.blocks_of (map wide_block_view blocks.items))
view_nested {A} repeat blocks =
    ap wide_block_view (sym (rolls-Nested repeat blocks))
    ∙ fold-roll-WideBlock A says.Block wide_block_step (layer.Nested repeat blocks)

pub view_content : (A : Type 0) (repeat : ℕ) (bytes : Bor (List ℕ))
    → wide_block_view {A = A} (code.Content repeat bytes) ≡ says.Content repeat bytes.now
view_content A repeat bytes =
    ap wide_block_view (sym (rolls-Content repeat bytes))
    ∙ fold-roll-WideBlock A says.Block wide_block_step (layer.Content repeat bytes)
