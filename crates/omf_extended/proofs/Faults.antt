-- Where the fault of a body stands.
use Rattle.std.proofs.Common.{ℕ, List}
use Rattle.omf_codec.specs.Faults.{TextFault}
use Rattle.omf_codec.specs.inside.Format.{Format}
use Rattle.omf_extended.specs.Answer.{Stands}
use Rattle.omf_extended.specs.declared.fault.ExtendedFault.TheVariants.{Body}
use Rattle.omf_extended.specs.inside.Kinds.{IsBody}

-- the fault of the parts is that of the body
pub body_fault : {I P : Type 0} (F : Format I P) (kind : ℕ) → IsBody F kind → (bytes : List ℕ) (place : ℕ)
    → TextFault F.Text bytes place → Stands kind bytes (Body place)
body_fault F kind of bytes place f =
    let (zeros, x, l) = f.front in (
      (of.made x, _, of.to x _ l),
      record {
        none = λ s m. let (y, n) = of.from s bytes m in f.none y n;
        within = f.within;
        front = (zeros, of.made x, of.to x _ l);
        longest = λ n zeros lt le s m. let (y, k) = of.from s _ m in f.longest n zeros lt le y k;
      },
    )
