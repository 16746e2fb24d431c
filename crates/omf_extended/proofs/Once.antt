-- A body says one thing at most: of communal variables, and of repeated data by its blocks.
use Rattle.std.proofs.Common.{◌≡◌, ℕ, Bool, List, [], refl, ap, true}
use Rattle.omf_codec.specs.inside.FormatLaws.{both, both_lawful, each_lawful, to_end}
use Rattle.omf_codec.specs.inside.Format.{Format, Lawful}
use Rattle.omf_codec.specs.inside.Numbers.{double, number_lawful}
use Rattle.omf_codec.specs.inside.PrimitiveLaws.{index, index_lawful}
use Rattle.omf_record.specs.Record.{Block}
use Rattle.omf_wide.specs.Communals.{Communal}
use Rattle.omf_extended.specs.Body.{Body, RepeatedText}
use Rattle.omf_extended.specs.Said.{Comdef}
use Rattle.omf_extended.specs.inside.Communals.{chain_lawful}
use Rattle.omf_extended.specs.inside.Repeated.{block, block_filled, block_lawful}

pub one_comdef : (local : Bool) (cs ds : List Communal) (u v text : List ℕ) → Body (Comdef local cs u) text
    → Body (Comdef local ds v) text → cs ≡ ds
unfolding Body
one_comdef local cs ds u v text l m =
    let law = chain_lawful {A = ℕ} in
    ap (λ (x : List Communal × List ℕ). x.0) (law.one (cs, u) (ds, v) text text [] [] l m refl refl refl).0

abbrev blocks : Format (List Block) (List Block)
blocks = to_end (block 63) (λ xs. xs)

lawful : Lawful (both index (both double blocks))
lawful =
    both_lawful index index_lawful (λ r. tt) (both double blocks)
    (both_lawful double (number_lawful true) (λ r. tt) blocks
    (each_lawful (block 63) (λ xs. xs) (block_lawful 63) (λ r. tt) (block_filled 63)))

pub one_repeated : (s t o p : ℕ) (xs ys : List Block) (text : List ℕ) → RepeatedText s o xs text
    → RepeatedText t p ys text → (let x : ℕ × (ℕ × List Block) = (s, (o, xs)) in x) ≡ (t, (p, ys))
one_repeated s t o p xs ys text l m =
    (lawful.one (s, (o, xs)) (t, (p, ys)) text text [] [] l m refl refl refl).0
