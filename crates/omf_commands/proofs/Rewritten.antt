-- Rewritten modules are modules that say the same.
use Rattle.std.proofs.Common.{◌≡◌, ℕ, List, [], ◌∷◌, map, refl, sym, ap₂, arith}
use Rattle.omf_record.specs.Records.{Placed}
use Rattle.omf_module.specs.Bytes.{ModuleBytes}
use Rattle.omf_module.specs.Tables.{module_of}
use Rattle.omf_place.specs.declared.names.Names.{Names}
use Rattle.omf_commands.specs.Records.{rewritten, says_of}
use Rattle.omf_commands.specs.Inputs.{AreModules}
use Rattle.omf_commands.specs.Linking.{IsFileOf}
use Rattle.omf_commands.proofs.PlacelessChecks.{sound_of}
use Rattle.omf_commands.proofs.Said.{file_of_said}
use Rattle.omf_commands.proofs.Through.{rewritten_from, rewritten_are, says_same, still_ended}

rewritten_module : (rs : List Placed) (bytes : List ℕ) → ModuleBytes rs bytes
    → ModuleBytes (rewritten_from 0 rs) (rewritten rs)
rewritten_module rs bytes whole = record {
  records = rewritten_are 0 0 rs bytes (omega arith) whole.records;
  ended = still_ended 0 rs whole.ended;
  sound = sound_of rs (rewritten_from 0 rs) (sym (says_same 0 rs)) whole.sound;
}

rewritten_modules : (lists : List (List Placed)) (inputs : List (List ℕ)) → AreModules lists inputs
    → AreModules (map (rewritten_from 0) lists) (map rewritten lists)
rewritten_modules [] inputs h = tt
rewritten_modules (rs ∷ lists) [] h = absurd h
rewritten_modules (rs ∷ lists) (bytes ∷ inputs) h = (rewritten_module rs bytes h.0, rewritten_modules lists inputs h.1)

said_same : (lists : List (List Placed)) → map says_of (map (rewritten_from 0) lists) ≡ map says_of lists
said_same [] = refl
said_same (rs ∷ lists) = ap₂ (λ says l. says ∷ l) (says_same 0 rs) (said_same lists)

pub file_of_rewritten : (names : Names) (lists : List (List Placed)) (inputs : List (List ℕ)) (file : List ℕ)
    → AreModules lists inputs → IsFileOf names (map module_of lists) file
    → (others : List (List Placed)) × AreModules others (map rewritten lists) × (map says_of others ≡ map says_of lists)
    × IsFileOf names (map module_of others) file
file_of_rewritten names lists inputs file are made =
    let others = map (rewritten_from 0) lists in (
      others,
      rewritten_modules lists inputs are,
      said_same lists,
      file_of_said names lists others file
          (sym (said_same lists)) made,
    )
