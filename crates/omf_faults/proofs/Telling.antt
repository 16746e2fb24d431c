-- Lines behind the name of the program that tells them.
use Rattle.std.proofs.Common.{◌≡◌, ℕ, ◌+◌, List, ◌++◌, Result, append_assoc, codes, sym}
use Rattle.std.specs.declared.option.Option.{Option}
use Rattle.std.specs.Result.{IsErrAnd}
use Rattle.std.specs.Io.KnownBytes.{Appends}
use Rattle.omf_frame.specs.Device.{AppendsFront, Wrote}
use Rattle.omf_frame.proofs.Told.{Wrote-cut, Wrote-same, Wrote-then}
use Rattle.omf_faults.specs.FaultLines.{told_by}

-- a text that goes on behind one that was told
told-more : (program text more : List ℕ) → told_by program (text ++ more) ≡ told_by program text ++ more
told-more program text more = sym (append_assoc program (codes ": " ++ text) more)

-- a writer failed before the rest of a line was begun
pub Told-cut : {X E : Type 0} (Q : E → Type 0) (a b : Option (List ℕ)) (m n : ℕ) (program text more : List ℕ)
    (r : Result X E)
    → AppendsFront a b (told_by program text) × (n ≡ m + 1) → IsErrAnd r Q
    → Wrote a b m n (told_by program (text ++ more)) r
Told-cut Q a b m n program text more r p is =
    Wrote-cut Q a b m n (told_by program text) more _ r p (told-more program text more) is

-- a writer wrote the begin of a line, and another writes the rest
pub Told-then : {X E : Type 0} (a b c : Option (List ℕ)) (l m n : ℕ) (program text more : List ℕ) (r : Result X E)
    → Appends a b (told_by program text) × (m ≡ l) → Wrote b c m n more r
    → Wrote a c l n (told_by program (text ++ more)) r
Told-then a b c l m n program text more r p q =
    Wrote-same a c l n _ _ r (sym (told-more program text more))
    (Wrote-then a b c l m n (told_by program text) more r p q)
