-- The entries of COMDEF (TIS OMF 1.1, "COMDEF: Communal Names Definition Record") and LCOMDEF ("LCOMDEF: Local Communal
-- Names Definition Record"), whose bodies are lists of them.
use Rattle.std.specs.Prelude.{◌≡◌, ◌≢◌, ◌⊎◌, ◌<◌, ◌≤◌, ℕ, List, [], ◌∷◌, ◌++◌, Some, None}
use Rattle.std.specs.declared.option.Option.{Option}
use Rattle.std.specs.Borrow.{Bor}
use Rattle.omf_codec.specs.Language.{◌⋆◌, Empty, One, Byte, Index, Name, Little}
use Rattle.omf_wide.specs.declared.communals.Communal as lent
use Rattle.omf_wide.specs.declared.communals.Extent.{Extent}
use Rattle.omf_wide.specs.declared.communals.Extent.TheVariants.{Near, Far, Other}

-- all spellings of a number: one byte up to 80H; behind 81H two bytes, behind 84H three, behind 88H four
abbrev pub CountText : ℕ → List ℕ → Type 0
CountText n text =
    ((n ≤ 0x80) × (text ≡ n ∷ []))
    ⊎ ((Byte 0x81 ⋆ Little 2 n) text ⊎ ((Byte 0x84 ⋆ Little 3 n) text ⊎ (Byte 0x88 ⋆ Little 4 n) text))

-- the data type: 62H near, and the length in bytes; 61H far, how many elements, and the length of one in bytes; of any
-- other one it isn't known what stands behind it
abbrev pub ExtentText : Extent → List ℕ → Type 0
ExtentText (Near length) = One (λ b. b ≡ 0x62) ⋆ CountText length
ExtentText (Far elements size) = One (λ b. b ≡ 0x61) ⋆ CountText elements ⋆ CountText size
ExtentText (Other data_type) =
    One (λ b. (b ≡ data_type) × (data_type < 256) × (data_type ≢ 0x61) × (data_type ≢ 0x62)) ⋆ Empty

-- what an entry says, free of how it is spelled
pub record Communal : Type 0 where
  pub name : List ℕ
  pub type_index : ℕ
  pub extent : Extent

-- a name, a type index, and a data type with its numbers
abbrev pub CommunalText : Communal → List ℕ → Type 0
CommunalText c = Name c.name ⋆ Index c.type_index ⋆ ExtentText c.extent

-- one without where its name lies in memory
abbrev pub plain_communal : lent.Communal → Communal
plain_communal c = record { name = c.name.now; type_index = c.type_index; extent = c.extent }

-- what reading an entry at the front of bytes answers: it and the bytes behind it; none, where no entry begins them
abbrev pub FrontsCommunal : List ℕ → Option (lent.Communal × Bor (List ℕ)) → Type 0
FrontsCommunal bytes (Some (c, rest)) =
    (text : List ℕ) × CommunalText (plain_communal c) text × (bytes ≡ text ++ rest.now)
FrontsCommunal bytes None = (c : Communal) (text rest : List ℕ) → CommunalText c text → bytes ≡ text ++ rest → ⊥
