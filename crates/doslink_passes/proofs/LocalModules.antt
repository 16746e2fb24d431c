-- The variables that are local to modules, one module after the other.
use Rattle.std.proofs.Common.{◌≡◌, ℕ, zero, suc, ◌+◌, ◌<◌, List, [], ◌∷◌, ◌++◌, length, take, get_or, slice_get, arith}
use Rattle.std.proofs.Common.{false, true≢false, inl, inr, map, refl, subst, sym, ap, ◌∙◌, length-append}
use Rattle.std.proofs.lemmas.List.{take_all, take_more}
use Rattle.std.specs.Prelude.{◌==◌, unwrap_or}
use Rattle.std.specs.declared.option.Option.{Option}
use Rattle.omf_communal.specs.declared.declarations.Communal as held
use Rattle.omf_communal.specs.Reading.{plain_communal}
use Rattle.omf_module.specs.Module.{Module}
use Rattle.omf_place.specs.declared.names.Names.{Names}
use Rattle.doslink_passes.specs.Locals.{EachHasLocals, HasLocals, HasNoLocals, IsBehind, IsMadeFor, IsPlaced}
use Rattle.doslink_passes.specs.Locals.{SomeHasNoLocals}

-- a module that declares some, with the module of these behind it
pub is-placed : (names : Names) (all : List Module) (declared : List held.Communal) (m placed : Module)
    (bytes : Option (List ℕ)) → (length declared == 0) ≡ false → IsMadeFor names all (map plain_communal declared) m bytes
    → IsBehind m bytes placed → IsPlaced names all (map plain_communal declared) m placed
is-placed names all [] m placed bytes some made behind = absurd (true≢false some)
is-placed names all (c ∷ cs) m placed bytes some made behind = (bytes, made, behind)

-- one module more
each-more : (names : Names) (all : List Module) (gs : List (List ℕ)) (ms ps : List Module) (g : List ℕ) (m p : Module)
    → EachHasLocals names all gs ms ps → HasLocals names all g m p
    → EachHasLocals names all (gs ++ g ∷ []) (ms ++ m ∷ []) (ps ++ p ∷ [])
each-more names all [] [] [] g m p e h = (h, tt)
each-more names all [] [] (z ∷ ps) g m p e h = absurd e
each-more names all [] (y ∷ ms) ps g m p e h = absurd e
each-more names all (x ∷ gs) [] ps g m p e h = absurd e
each-more names all (x ∷ gs) (y ∷ ms) [] g m p e h = absurd e
each-more names all (x ∷ gs) (y ∷ ms) (z ∷ ps) g m p e h = (e.0, each-more names all gs ms ps g m p e.1 h)

-- there are as many
pub as-many : (names : Names) (all : List Module) (gs : List (List ℕ)) (ms ps : List Module)
    → EachHasLocals names all gs ms ps → length ps ≡ length ms
as-many names all [] [] [] e = refl
as-many names all [] [] (z ∷ ps) e = absurd e
as-many names all [] (y ∷ ms) ps e = absurd e
as-many names all (x ∷ gs) [] ps e = absurd e
as-many names all (x ∷ gs) (y ∷ ms) [] e = absurd e
as-many names all (x ∷ gs) (y ∷ ms) (z ∷ ps) e = ap suc (as-many names all gs ms ps e.1)

-- the bytes with an index, where there are some
got : (gs : List (List ℕ)) (n : ℕ) (d : List ℕ) → n < length gs → unwrap_or (slice_get gs n) [] ≡ get_or gs n d
got [] n d h = absurd (omega (arith, h))
got (x ∷ gs) zero d h = refl
got (x ∷ gs) (suc n) d h = got gs n d (omega (arith, h))

-- the next module
pub locals-next : (names : Names) (all : List Module) (gs : List (List ℕ)) (ms ps more : List Module) (m p : Module)
    (bytes : List ℕ) (n : ℕ) → EachHasLocals names all (take (length ms) gs) ms ps → n ≡ length ps
    → length ms < length gs → bytes ≡ unwrap_or (slice_get gs n) [] → HasLocals names all bytes m p
    → more ≡ ps ++ p ∷ [] → EachHasLocals names all (take (length (ms ++ m ∷ [])) gs) (ms ++ m ∷ []) more
locals-next names all gs ms ps more m p bytes n e count lt is h pushed =
    let here : n ≡ length ms = count ∙ as-many names all (take (length ms) gs) ms ps e in
    let one : bytes ≡ get_or gs (length ms) [] =
    is ∙ ap (λ k. unwrap_or (slice_get gs k) []) here ∙ got gs (length ms) [] lt in
    let front : take (length (ms ++ m ∷ [])) gs ≡ take (length ms) gs ++ bytes ∷ [] =
    ap (λ k. take k gs) (length-append ms (m ∷ [])) ∙ take_more gs (length ms) [] lt
    ∙ ap (λ b. take (length ms) gs ++ b ∷ []) (sym one) in
    subst (λ l. EachHasLocals names all l (ms ++ m ∷ []) more) (sym front)
    (subst (λ l. EachHasLocals names all (take (length ms) gs ++ bytes ∷ []) (ms ++ m ∷ []) l) (sym pushed)
    (each-more names all (take (length ms) gs) ms ps bytes m p e h))

-- all of them
pub locals-all : (names : Names) (all : List Module) (gs : List (List ℕ)) (ms ps : List Module)
    → EachHasLocals names all (take (length ms) gs) ms ps → length ms ≡ length gs → EachHasLocals names all gs ms ps
locals-all names all gs ms ps e same =
    subst (λ l. EachHasLocals names all l ms ps) (take_all (length ms) gs (omega (arith, same))) e

-- one that has none
some-at : (names : Names) (all : List Module) (gs : List (List ℕ)) (ms : List Module) (n : ℕ) (m : Module)
    → n < length ms → n < length gs → m ≡ get_or ms n m → HasNoLocals names all (get_or gs n []) m
    → SomeHasNoLocals names all gs ms
some-at names all [] ms n m h k is none = absurd (omega (arith, k))
some-at names all (g ∷ gs) [] n m h k is none = absurd (omega (arith, h))
some-at names all (g ∷ gs) (y ∷ ms) zero m h k is none = inl (subst (HasNoLocals names all g) is none)
some-at names all (g ∷ gs) (y ∷ ms) (suc n) m h k is none =
    inr (some-at names all gs ms n m (omega (arith, h)) (omega (arith, k)) is none)

pub none-at : (names : Names) (all : List Module) (gs : List (List ℕ)) (ms so_far ps : List Module) (m : Module)
    (bytes : List ℕ) (n : ℕ) → EachHasLocals names all (take (length so_far) gs) so_far ps → n ≡ length ps
    → length so_far < length ms → length so_far < length gs → m ≡ get_or ms (length so_far) m
    → bytes ≡ unwrap_or (slice_get gs n) [] → HasNoLocals names all bytes m → SomeHasNoLocals names all gs ms
none-at names all gs ms so_far ps m bytes n e count h k is same none =
    let here : n ≡ length so_far = count ∙ as-many names all (take (length so_far) gs) so_far ps e in
    let one : bytes ≡ get_or gs (length so_far) [] =
    same ∙ ap (λ i. unwrap_or (slice_get gs i) []) here ∙ got gs (length so_far) [] k in
    some-at names all gs ms (length so_far) m h k is (subst (λ b. HasNoLocals names all b m) one none)
