-- What the code's values say.
use Rattle.std.specs.Prelude.{map}
use Rattle.omf_record.specs.Record as record'
use Rattle.omf_wide.specs.Communals.{plain_communal}
use Rattle.omf_extended.specs.declared.aliases.Alias as lent
use Rattle.omf_extended.specs.declared.repeated.WideBlock.{WideBlock}
use Rattle.omf_extended.specs.declared.repeated.WideBlock.TheOpen.{WideBlock-F}
use Rattle.omf_extended.specs.declared.repeated.WideBlock.TheOpen as layer
use Rattle.omf_extended.specs.declared.repeated.WideBlock.TheFolds.{fold-WideBlock}
use Rattle.omf_extended.specs.declared.said.Extended.{Extended}
use Rattle.omf_extended.specs.declared.said.Extended.TheVariants as code
use Rattle.omf_extended.specs.Said as says

-- one without where its names lie in memory
abbrev pub plain_alias : lent.Alias → says.Standing
plain_alias a = record { name = a.name.now; substitute = a.substitute.now }

-- one block of repeated data, with what each inner block says in its place
abbrev pub wide_block_step : {A : Type 0} → WideBlock-F A record'.Block → record'.Block
wide_block_step (layer.Content repeat bytes) = record'.Content repeat bytes.now
wide_block_step (layer.Nested repeat blocks) = record'.Nested repeat (record'.blocks_of blocks.items)

-- a block without where its bytes lie in memory
abbrev pub wide_block_view : {A : Type 0} → WideBlock A → record'.Block
wide_block_view {A} = fold-WideBlock A record'.Block wide_block_step

-- without where slices lie in memory
unfoldable pub extended_view : {A : Type 0} → Extended A → says.Extended
extended_view (code.Comdef local communals unknown) =
    says.Comdef local (map plain_communal communals.items) unknown.now
extended_view (code.Alias aliases) = says.Alias (map plain_alias aliases.items)
extended_view (code.Comdat wide comdat bytes) = says.Comdat wide comdat bytes.now
extended_view (code.Linsym wide continuation name lines) = says.Linsym wide continuation name lines.items
extended_view (code.Bakpat wide segment location patches) = says.Bakpat wide segment location patches.items
extended_view (code.Nbkpat wide location name patches) = says.Nbkpat wide location name patches.items
extended_view (code.Lidata segment offset content) = says.Lidata segment offset content.now
extended_view (code.Vernum text) = says.Vernum text.now
extended_view (code.Vendext vendor bytes) = says.Vendext vendor bytes.now
