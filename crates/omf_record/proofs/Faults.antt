-- Where the fault of a body stands: where no text of its parts goes on.
use Rattle.std.proofs.Common.{ℕ, List}
use Rattle.omf_record.specs.Body.{IsRecordType, BodyFault}
use Rattle.omf_codec.specs.Faults.{TextFault}
use Rattle.omf_codec.specs.inside.Format.{Format}
use Rattle.omf_record.specs.inside.Kinds.{IsBody}

pub body_fault : {I P : Type 0} (kind : ℕ) (F : Format I P) → IsBody F kind → (bytes : List ℕ) (place : ℕ)
    → TextFault F.Text bytes place → IsRecordType kind × BodyFault kind bytes place
body_fault kind F of bytes place f =
    let (zeros, x, l) = f.front in (
      (of.made x, _, of.to x _ l),
      record {
        none = λ r m. let (y, y-is, k) = of.from r bytes m in f.none y k;
        within = f.within;
        front = (zeros, of.made x, of.to x _ l);
        longest = λ n lt le w. let (y, y-is, k) = of.from w.1 _ w.2 in f.longest n w.0 lt le y k;
      },
    )
