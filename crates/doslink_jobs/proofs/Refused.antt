-- Why a run stops, step by step.
use Rattle.std.proofs.Common.{◌≡◌, Result, Ok, Err, IfErr, MatchResult, sym, subst}
use Rattle.std.specs.Result.{IsErrAnd}
use Rattle.doslink_passes.specs.Stops.{OnInput}
use Rattle.doslink_passes.specs.declared.stop.Stop.{Stop}
use Rattle.doslink_passes.specs.declared.stop.Stop.TheVariants.{Input, Device, Memory}
use Rattle.doslink_passes.proofs.Refused.{OnInput-weaker}
use Rattle.doslink_jobs.specs.declared.stop.Halt.{Halt}
use Rattle.doslink_jobs.specs.declared.stop.Halt.TheVariants as halt
use Rattle.doslink_jobs.specs.inside.Stops.{IsWords, OnHalt}

pub OnHalt-weaker : {P Q V W : Type 0} (why : Halt) → (P → Q) → (V → W) → OnHalt why P V → OnHalt why Q W
OnHalt-weaker halt.Words refused wrong p = wrong p
OnHalt-weaker (halt.Stop stop) refused wrong p = OnInput-weaker stop refused p

-- what holds where words are wrong
pub OnHalt-words : {W : Type 0} (P : Type 0) (why : Halt) → IsWords why → W → OnHalt why P W
OnHalt-words P halt.Words is wrong = wrong
OnHalt-words P (halt.Stop Input) is wrong = absurd is
OnHalt-words P (halt.Stop Device) is wrong = absurd is
OnHalt-words P (halt.Stop Memory) is wrong = tt

-- what a `?` hands on of a stop
pub halted-exit : {T : Type 0} {P Q : Type 0} (W : Type 0) (D : T → Type 0) (r : Result T Halt) (stop : Stop)
    → IsErrAnd r (λ e. e ≡ halt.Stop stop) → (P → Q) → OnInput stop P → MatchResult r D (λ h. OnHalt h Q W)
halted-exit W D (Ok v) stop handed weaker p = absurd handed
halted-exit {Q = Q} W D (Err e) stop handed weaker p =
    subst (λ h. OnHalt h Q W) (sym handed) (OnInput-weaker stop weaker p)

-- and of why a run halts
pub halt-exit : {T : Type 0} {P Q V W : Type 0} (D : T → Type 0) (r : Result T Halt) (why : Halt)
    → IsErrAnd r (λ e. e ≡ why) → (P → Q) → (V → W) → OnHalt why P V → MatchResult r D (λ h. OnHalt h Q W)
halt-exit D (Ok v) why handed refused wrong p = absurd handed
halt-exit {Q = Q} {W = W} D (Err e) why handed refused wrong p =
    subst (λ h. OnHalt h Q W) (sym handed) (OnHalt-weaker why refused wrong p)

-- the same where nothing is answered
pub halt-err : {T : Type 0} {P Q V W : Type 0} (r : Result T Halt) (why : Halt) → IsErrAnd r (λ e. e ≡ why)
    → (P → Q) → (V → W) → OnHalt why P V → IfErr r (λ h. OnHalt h Q W)
halt-err (Ok v) why handed refused wrong p = absurd handed
halt-err {Q = Q} {W = W} (Err e) why handed refused wrong p =
    subst (λ h. OnHalt h Q W) (sym handed) (OnHalt-weaker why refused wrong p)

-- and where what is answered is said otherwise too
pub halts-weaker : {T : Type 0} {P Q V W : Type 0} {D E : T → Type 0} (r : Result T Halt) → ((v : T) → D v → E v)
    → (P → Q) → (V → W) → MatchResult r D (λ h. OnHalt h P V) → MatchResult r E (λ h. OnHalt h Q W)
halts-weaker (Ok v) does refused wrong done = does v done
halts-weaker (Err why) does refused wrong p = OnHalt-weaker why refused wrong p
