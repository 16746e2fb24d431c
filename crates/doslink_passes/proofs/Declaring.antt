-- What modules declare, as it is held.
use Rattle.std.proofs.Common.{◌≡◌, ℕ, List, [], ◌∷◌, ◌++◌, length, map, Bor, Ok, sym, ap, ◌∙◌, ◌==◌, true, arith}
use Rattle.std.proofs.lemmas.List.{nil_from_length}
use Rattle.omf_communal.specs.declared.declarations.Communal as lent
use Rattle.omf_communal.specs.Modules.{bytes_of}
use Rattle.omf_communal.specs.Modules as communal
use Rattle.omf_communal.specs.declared.declarations.Scope.TheVariants as scope
use Rattle.omf_communal.specs.Reading.{Communal, communals_of, plain_communal}
use Rattle.omf_library.specs.Records.{module_records, result_and_then}
use Rattle.doslink_stock.specs.declared.searching.Handed.{Handed}
use Rattle.doslink_stock.specs.Seen.{handed_held}
use Rattle.doslink_passes.specs.declared.communals.Declared.{Declared}
use Rattle.doslink_passes.specs.Communals.{declared_by}
use Rattle.doslink_passes.specs.inside.Declaring.{declared_said}

-- one with these communal variables
abbrev said_with : (offered : List (List ℕ)) → List Communal → communal.Module
said_with offered cs = record { communals = cs; offered = offered }

-- what a module declares
pub declared-one : {A : Type 0} (h : Handed A) (cs : List lent.Communal) (offered : List (Bor (List ℕ)))
    → communals_of scope.Program (module_records (handed_held h).bytes 0) ≡ Ok (map plain_communal cs)
    → offered ≡ h.entry.now.says.offered.items
    → Ok (said_with (bytes_of offered) (map plain_communal cs)) ≡ declared_by (handed_held h)
declared-one h cs offered is same =
    ap (λ o. Ok (said_with (bytes_of o) (map plain_communal cs))) same
    ∙ sym (ap (result_and_then (λ (l : List Communal). Ok (said_with (handed_held h).says.offered l))) is)

-- the same, as it is lent
pub declaring-one : {A : Type 0} (d : Declared A) (cs : List lent.Communal) → cs ≡ d.communals.items
    → said_with (bytes_of d.offered.now) (map plain_communal cs) ≡ declared_said d
declaring-one d cs same = ap (λ l. said_with (bytes_of d.offered.now) (map plain_communal l)) same

pub none-declared-by : {X : Type 0} (xs : List X) → (length xs == 0) ≡ true → xs ≡ []
none-declared-by xs none = nil_from_length xs (grind arith)

-- what one module alone declares
pub said-alone : {A : Type 0} (old new : List (Declared A)) (d : Declared A) → new ≡ old ++ d ∷ [] → old ≡ []
    → map declared_said new ≡ declared_said d ∷ []
said-alone old new d pushed none = ap (map declared_said) (pushed ∙ ap (λ l. l ++ d ∷ []) none)
