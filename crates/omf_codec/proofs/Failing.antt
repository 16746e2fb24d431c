-- A number that can't be read.
use Rattle.std.proofs.Common.{ℕ, List, true, false}
use Rattle.omf_codec.specs.declared.codec.ReadError.{ReadError}
use Rattle.omf_codec.specs.declared.codec.ReadError.TheVariants as errors
use Rattle.omf_codec.specs.inside.Format.{Fails}
use Rattle.omf_codec.specs.inside.PrimitiveLaws.{word}
use Rattle.omf_codec.specs.inside.Numbers.{number}

pub narrow_fails : (bytes : List ℕ) (e : ReadError) → Fails word bytes e → Fails (number false) bytes e
narrow_fails bytes errors.Memory f = tt
narrow_fails bytes (errors.Refused bad) f = record {
  front = f.front;
  parts = f.parts;
  none = f.none;
  completes = f.completes;
  stops = f.stops;
}
