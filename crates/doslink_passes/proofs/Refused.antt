-- Why a job is refused, step by step.
use Rattle.std.proofs.Common.{◌≡◌, ◌≢◌, ℕ, ◌<◌, Any, List, [], ◌∷◌, length, map, zip, get_or, zero, suc}
use Rattle.std.proofs.Common.{Result, Ok, Err, IsErr, IfErr, MatchResult, arith, refl, sym, subst, ap, ◌∙◌}
use Rattle.std.proofs.Common.{true≢false}
use Rattle.std.proofs.lemmas.List.{get_or-map, length-map}
use Rattle.std.specs.Result.{IsErrAnd}
use Rattle.omf_communal.specs.declared.fault.ClashFault.{ClashFault}
use Rattle.omf_communal.specs.declared.fault.ClashFault.TheVariants as clash
use Rattle.omf_communal.specs.declared.fault.CommunalFault.{CommunalFault}
use Rattle.omf_communal.specs.declared.fault.CommunalFault.TheVariants as communal
use Rattle.omf_communal.specs.declared.fault.PlanFault.{PlanFault}
use Rattle.omf_communal.specs.declared.fault.PlanFault.TheVariants as plan
use Rattle.omf_communal.specs.Answers.{IsPlanFault}
use Rattle.omf_communal.specs.Deciding.{IsClash}
use Rattle.omf_communal.specs.Reading.{IsFault}
use Rattle.omf_library.specs.Records.{result_and_then}
use Rattle.doslink_passes.specs.declared.stop.Stop.{Stop}
use Rattle.doslink_passes.specs.declared.stop.Stop.TheVariants.{Input, Device, Memory}
use Rattle.doslink_passes.specs.Stops.{OnInput}

-- ---- what holds where an input is at fault

pub OnInput-holds : {P : Type 0} (stop : Stop) → P → OnInput stop P
OnInput-holds Input p = p
OnInput-holds Device p = tt
OnInput-holds Memory p = tt

pub OnInput-weaker : {P Q : Type 0} (stop : Stop) → (P → Q) → OnInput stop P → OnInput stop Q
OnInput-weaker Input weaker p = weaker p
OnInput-weaker Device weaker p = tt
OnInput-weaker Memory weaker p = tt

-- what a `?` hands on
pub refused-exit : {T : Type 0} {P Q : Type 0} (D : T → Type 0) (r : Result T Stop) (stop : Stop)
    → IsErrAnd r (λ e. e ≡ stop) → (P → Q) → OnInput stop P → MatchResult r D (λ s. OnInput s Q)
refused-exit D (Ok v) stop handed weaker p = absurd handed
refused-exit {Q = Q} D (Err e) stop handed weaker p =
    subst (λ s. OnInput s Q) (sym handed) (OnInput-weaker stop weaker p)

pub refused-err : {T : Type 0} {P Q : Type 0} (r : Result T Stop) (stop : Stop) → IsErrAnd r (λ e. e ≡ stop)
    → (P → Q) → OnInput stop P → IfErr r (λ s. OnInput s Q)
refused-err (Ok v) stop handed weaker p = absurd handed
refused-err {Q = Q} (Err e) stop handed weaker p =
    subst (λ s. OnInput s Q) (sym handed) (OnInput-weaker stop weaker p)

-- the same where what is answered is said otherwise too
pub steps-weaker : {T : Type 0} {P Q : Type 0} {D E : T → Type 0} (r : Result T Stop) → ((v : T) → D v → E v)
    → (P → Q) → MatchResult r D (λ stop. OnInput stop P) → MatchResult r E (λ stop. OnInput stop Q)
steps-weaker (Ok v) does weaker done = does v done
steps-weaker (Err stop) does weaker p = OnInput-weaker stop weaker p

-- ---- faults of the crates below, which aren't want of memory

pub err-is : {T E : Type 0} (r : Result T E) (e : E) → r ≡ Err e → IsErr r
err-is r e is = subst IsErr (sym is) refl

pub entry-fault : {T : Type 0} (fault : CommunalFault) (stands : Result T CommunalFault) → IsFault fault stands
    → fault ≢ communal.Memory → IsErr stands
entry-fault (communal.Malformed place fault) stands is other = err-is stands _ is
entry-fault communal.Memory stands is other = absurd (other refl)

pub clash-fault : {T : Type 0} (fault : ClashFault) (stands : Result T ClashFault) → IsClash fault stands
    → fault ≢ clash.Memory → IsErr stands
clash-fault (clash.NearAndFar first other) stands is none = err-is stands _ is
clash-fault (clash.ElementSizes first other) stands is none = err-is stands _ is
clash-fault clash.Memory stands is none = absurd (none refl)

pub and-then-err : {A B E : Type 0} (next : A → Result B E) (r : Result A E) → IsErr r → IsErr (result_and_then next r)
and-then-err next (Ok v) is = absurd (true≢false (sym is))
and-then-err next (Err e) is = refl

pub plan-fault : {T : Type 0} (fault : PlanFault) (stands : Result T PlanFault) → IsPlanFault fault stands
    → fault ≢ plan.Memory → IsErr stands
plan-fault (plan.NearTooLong v) stands is none = err-is stands _ is
plan-fault (plan.CutElement v) stands is none = err-is stands _ is
plan-fault (plan.TooManySegments v) stands is none = err-is stands _ is
plan-fault plan.Memory stands is none = absurd (none refl)

-- ---- one of a list

-- an element that is seen of a list
pub any-seen : {X Y : Type 0} (P : Y → Type 0) (f : X → Y) (xs : List X) (i : ℕ) (x : X) → i < length xs
    → x ≡ get_or xs i x → P (f x) → Any P (map f xs)
any-seen P f xs i x h is p =
    let there : i < length (map f xs) = subst (λ n. i < n) (sym (length-map xs f)) h in
    (i, f x, there, get_or-map f xs i x (f x) h ∙ ap f (sym is), p)

-- a pair of two lists that were made of one
pub any-pair : {X Y Z : Type 0} (P : Y → Z → Type 0) (f : X → Y) (g : X → Z) (xs : List X) (i : ℕ) (x : X)
    → i < length xs → x ≡ get_or xs i x → P (f x) (g x) → Any (λ p. P p.0 p.1) (zip (map f xs) (map g xs))
any-pair P f g [] i x h is p = absurd (omega (arith, h))
any-pair P f g (y ∷ ys) zero x h is p =
    let same : x ≡ y = is in (0, (f x, g x), omega arith, ap (λ z. (f z, g z)) (sym same), p)
any-pair P f g (y ∷ ys) (suc i) x h is p =
    let m = any-pair P f g ys i x (omega (arith, h)) is p in (suc m.0, m.1, omega (arith, m.2), m.3, m.4)

-- one of the elements that two lists were made of
pub any-of-both : {X Y Z : Type 0} (Q : X → Type 0) (P : Y → Z → Type 0) (f : X → Y) (g : X → Z) (xs : List X)
    → ((x : X) → Q x → P (f x) (g x)) → Any Q xs → Any (λ p. P p.0 p.1) (zip (map f xs) (map g xs))
any-of-both Q P f g xs weaker (k, x, h, is, q) = any-pair P f g xs k x h (sym is) (weaker x q)
