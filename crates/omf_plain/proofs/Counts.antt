-- Repeat counts of 32 bits as those of 16.
use Rattle.std.proofs.Common.{◌≡◌, ℕ, Bool, true, false, if◌then◌else◌, List, [], ◌∷◌, refl, sym, ap, ◌∙◌, Result, Ok}
use Rattle.std.proofs.Common.{Err}
use Rattle.std.specs.Prelude.{nat_lt, map, Vec}
use Rattle.omf_record.specs.declared.blocks.Block as code
use Rattle.omf_record.specs.View.{block_view}
use Rattle.omf_record.specs.Record.{Block, blocks_of}
use Rattle.omf_plain.specs.declared.fault.Obstacle.{Obstacle}
use Rattle.omf_plain.specs.declared.fault.Obstacle.TheVariants.{Above16Bits}
use Rattle.omf_plain.specs.declared.fault.PlainFault.{PlainFault}
use Rattle.omf_plain.specs.declared.fault.PlainFault.TheVariants.{Of, Memory}
use Rattle.omf_plain.specs.Data.{has_word_counts, have_word_counts}
use Rattle.omf_plain.specs.View.{Answers}
use Rattle.omf_plain.specs.inside.Steps.{plain_blocks}

abbrev word_count : ℕ → Result ℕ Obstacle
word_count n = if nat_lt n 65536 then Ok n else Err Above16Bits

pub too_many : (n : ℕ) (o : Obstacle) → (let u : Result ℕ Obstacle = Err o in u) ≡ word_count n
    → (nat_lt n 65536 ≡ false) × (o ≡ Above16Bits)
too_many n o e = go (nat_lt n 65536) refl e
  where
    go : (b : Bool) → nat_lt n 65536 ≡ b
        → (let u : Result ℕ Obstacle = Err o in u) ≡ (if b then Ok n else Err Above16Bits)
        → (nat_lt n 65536 ≡ false) × (o ≡ Above16Bits)
    go true is e = absurd cc
    go false is e = (is, cc)

pub few : (n m : ℕ) → (let u : Result ℕ Obstacle = Ok m in u) ≡ word_count n → (nat_lt n 65536 ≡ true) × (m ≡ n)
few n m e = go (nat_lt n 65536) refl e
  where
    go : (b : Bool) → nat_lt n 65536 ≡ b
        → (let u : Result ℕ Obstacle = Ok m in u) ≡ (if b then Ok n else Err Above16Bits)
        → (nat_lt n 65536 ≡ true) × (m ≡ n)
    go true is e = (is, cc)
    go false is e = absurd cc

pub refused : (blocks : List Block) → have_word_counts (blocks_of blocks) ≡ false
    → plain_blocks blocks ≡ Err Above16Bits
refused blocks e = rw e refl

taken : (blocks : List Block) → have_word_counts (blocks_of blocks) ≡ true → plain_blocks blocks ≡ Ok blocks
taken blocks e = rw e refl

one_list : (xs ys : List Block) → (let u : Result (List Block) Obstacle = Ok xs in u) ≡ Ok ys → xs ≡ ys
one_list xs ys e = cc

no_fault : (xs : List Block) (o : Obstacle) → (let u : Result (List Block) Obstacle = Ok xs in u) ≡ Err o → ⊥
no_fault xs o e = cc

no_list : (xs : List Block) (o : Obstacle) → (let u : Result (List Block) Obstacle = Err o in u) ≡ Ok xs → ⊥
no_list xs o e = cc

-- what was made of blocks, they were
pub made : (blocks all : List Block) → plain_blocks blocks ≡ Ok all
    → (have_word_counts (blocks_of blocks) ≡ true) × (blocks ≡ all)
made blocks all e = go (have_word_counts (blocks_of blocks)) refl
  where
    go : (b : Bool) → have_word_counts (blocks_of blocks) ≡ b
        → (have_word_counts (blocks_of blocks) ≡ true) × (blocks ≡ all)
    go true is = (is, one_list blocks all (sym (taken blocks is) ∙ e))
    go false is = absurd (no_list all Above16Bits (sym (refused blocks is) ∙ e))

-- the blocks of the code say these
abbrev pub said : {A : Type 0} → Vec (code.Block A) A → List Block
said v = map block_view v.items

-- blocks fail where those in one of them do
pub fails : (A : Type 0) (f : PlainFault) (inner all : List Block) → Answers (said {A = A}) (Err f) (plain_blocks inner)
    → (have_word_counts (blocks_of inner) ≡ false → have_word_counts (blocks_of all) ≡ false)
    → Answers (said {A = A}) (Err f) (plain_blocks all)
fails A Memory inner all h k = tt
fails A (Of o) inner all h k = go (have_word_counts (blocks_of inner)) refl
  where
    go : (b : Bool) → have_word_counts (blocks_of inner) ≡ b → plain_blocks all ≡ Err o
    go true is = absurd (no_fault inner o (sym (taken inner is) ∙ h))
    go false is = refused all (k is) ∙ sym (refused inner is) ∙ h
