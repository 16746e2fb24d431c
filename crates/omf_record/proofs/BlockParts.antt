-- What the code's block says.
use Rattle.std.proofs.Common.{◌≡◌, ℕ, List, map, sym, ap, ◌∙◌, Bor}
use Rattle.std.specs.Prelude.{Vec}
use Rattle.omf_record.specs.declared.blocks.Block.{Block}
use Rattle.omf_record.specs.declared.blocks.Block.TheViews as views
use Rattle.omf_record.specs.declared.blocks.Block.TheVariants.{rolls-Nested, rolls-Content}
use Rattle.omf_record.specs.declared.blocks.Block as code
use Rattle.omf_record.specs.declared.blocks.Block.TheOpen as layer
use Rattle.omf_record.specs.declared.blocks.Block.TheFolds.{fold-roll-Block}
use Rattle.omf_record.specs.Record as says
use Rattle.omf_record.specs.View.{block_step, block_view}

pub view_nested : {A : Type 0} (repeat : ℕ) (blocks : Vec (Block A) A)
    → block_view (views.Nested repeat blocks) ≡ says.Nested repeat (says.blocks_of (map block_view blocks.items))
view_nested {A} repeat blocks =
    ap block_view (sym (rolls-Nested repeat blocks))
    ∙ fold-roll-Block A says.Block block_step (layer.Nested repeat blocks)

pub view_content : (A : Type 0) (repeat : ℕ) (bytes : Bor (List ℕ))
    → block_view {A = A} (code.Content repeat bytes) ≡ says.Content repeat bytes.now
view_content A repeat bytes =
    ap block_view (sym (rolls-Content repeat bytes))
    ∙ fold-roll-Block A says.Block block_step (layer.Content repeat bytes)
