-- Names that are added one after the other.
use Rattle.std.proofs.Common.{◌≡◌, ℕ, ◌+◌, ◌<◌, ◌≤◌, List, [], ◌∷◌, ◌++◌, length, map, take, get_or, refl, sym, ap, ◌∙◌}
use Rattle.std.proofs.Common.{append_assoc, append-nil, Bor}
use Rattle.std.proofs.lemmas.List.{map-append, take_all, take_more}
use Rattle.omf_library.specs.Names.{texts}
use Rattle.omf_record.specs.declared.externals.External.{External}
use Rattle.omf_record.specs.Record.{External as PlainExternal}
use Rattle.omf_record.specs.View.{external_view}
use Rattle.omf_wide.specs.declared.communals.Communal.{Communal}
use Rattle.omf_wide.specs.Communals.{Communal as PlainCommunal, plain_communal}
use Rattle.doslib_show.specs.Names.{Names, with_externals}

-- no external
pub externals-none : (names : Names) → with_externals names [] ≡ names
externals-none names = ap (λ e. record names { externals = e }) (append-nil names.externals)

-- a name more
pub externals-more : {X : Type 0} (f : X → List ℕ) (names old : Names) (items items' : List (Bor (List ℕ)))
    (name : Bor (List ℕ)) (xs : List X) (i : ℕ) (d : X) → i < length xs → old ≡ with_externals names (map f (take i xs))
    → old.externals ≡ texts items → items' ≡ items ++ name ∷ [] → name.now ≡ f (get_or xs i d)
    → record old { externals = texts items' } ≡ with_externals names (map f (take (i + 1) xs))
externals-more f names old items items' name xs i d h before are added is =
    ap (λ (l : List (Bor (List ℕ))). record old { externals = texts l }) added
    ∙ ap (λ l. record old { externals = l }) (map-append (λ (x : Bor (List ℕ)). x.now) items (name ∷ []))
    ∙ ap (λ l. record old { externals = l ++ name.now ∷ [] }) (sym are)
    ∙ ap (λ n. with_externals n (name.now ∷ [])) before
    ∙ ap (λ l. record names { externals = l }) (append_assoc names.externals (map f (take i xs)) (name.now ∷ []))
    ∙ ap (λ l. with_externals names (map f (take i xs) ++ l ∷ [])) is
    ∙ ap (with_externals names) (sym (map-append f (take i xs) (get_or xs i d ∷ [])))
    ∙ ap (λ l. with_externals names (map f l)) (sym (take_more xs i d h))

-- all of them
pub externals-all : {X : Type 0} (f : X → List ℕ) (names new : Names) (xs : List X) (i : ℕ) → length xs ≤ i
    → new ≡ with_externals names (map f (take i xs)) → new ≡ with_externals names (map f xs)
externals-all f names new xs i h e = e ∙ ap (λ l. with_externals names (map f l)) (take_all i xs h)

-- the names of externals
pub externals-named : (externals : List External)
    → map (λ (e : PlainExternal). e.name) (map external_view externals) ≡ map (λ (e : External). e.name.now) externals
externals-named [] = refl
externals-named (e ∷ es) = ap (λ l. e.name.now ∷ l) (externals-named es)

-- those of communal variables
pub communals-named : (communals : List Communal)
    → map (λ (c : PlainCommunal). c.name) (map plain_communal communals) ≡ map (λ (c : Communal). c.name.now) communals
communals-named [] = refl
communals-named (c ∷ cs) = ap (λ l. c.name.now ∷ l) (communals-named cs)
