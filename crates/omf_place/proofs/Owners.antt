-- The owners of publics are modules.
use Rattle.std.proofs.Common.{◌≡◌, ℕ, ◌<◌, Bool, true, false, List, map, Option, Some, None, length, subst, sym, arith}
use Rattle.std.proofs.Common.{◌≤◌}
use Rattle.std.specs.Bool.{then_some}
use Rattle.std.specs.List.{AllByRecursion}
use Rattle.std.specs.Option.{option_map, option_to_list}
use Rattle.omf_module.specs.Module.{PublicSymbol}
use Rattle.omf_module.specs.Module.{Module}
use Rattle.omf_place.specs.Parts.{inputs}
use Rattle.omf_place.specs.declared.layout.Position.{Position}
use Rattle.omf_place.specs.declared.scopes.Entry as held
use Rattle.omf_place.specs.inside.HeldNames.{IsOwner, entry_view}
use Rattle.omf_place.specs.Scopes.{ScopedName}
use Rattle.omf_place.specs.Tables.{placed_public, placed_publics, publics_of}
use Rattle.omf_place.specs.inside.Steps.{public_entry}
use Rattle.omf_place.proofs.KeyPlaces.{All-make}
use Rattle.omf_place.proofs.LinkRows.{All-flat, All-mapped_back}
use Rattle.omf_place.proofs.LinkProgram.{indexed_from}
use Rattle.omf_place.proofs.Walks.{All-map}

module _ (count : ℕ) where
  abbrev Owned : ScopedName Position → Type 0
  Owned e = IsOwner count e.owner

  owner : (local : Bool) (input : ℕ) → input < count → IsOwner count (then_some local input)
  owner true input h = h
  owner false input h = tt

  one : (input : ℕ) (p : PublicSymbol) → input < count → (placed : Option Position)
      → AllByRecursion Owned (option_to_list (option_map (public_entry input p) placed))
  one input p h None = tt
  one input p h (Some x) = (owner p.local input h, tt)

  -- of the inputs of a program
  pub owned : (program : List Module) (A : List ℕ) → length program ≤ count → (es : List (held.Entry Position)) →
      map entry_view es ≡ placed_publics program A →
      AllByRecursion (λ e. IsOwner count e.owner) es
  owned program A few es made = All-mapped_back entry_view Owned es (subst (λ ys. AllByRecursion Owned ys) (sym made)
      (All-flat Owned (publics_of program A) (inputs program)
      (All-map (λ n. n.input < count) (λ n. AllByRecursion Owned (publics_of program A n)) (inputs program)
      (λ n w.
      let of_public =
      λ (p : PublicSymbol).
      option_to_list (option_map (public_entry n.input p) (placed_public program A n p.offset p.base)) in
      All-flat Owned of_public n.says.publics
      (All-make (λ p. AllByRecursion Owned (of_public p)) n.says.publics
      (λ p. one n.input p w (placed_public program A n p.offset p.base))))
      (indexed_from 0 0 program count (omega (arith, few))))))
