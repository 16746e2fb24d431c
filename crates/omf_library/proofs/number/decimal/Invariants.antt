use Rattle.std.proofs.Common.{◌≡◌, ◌<◌, ◌^◌, drop}
use Rattle.omf_library.specs.Archive.{number_behind}
use Rattle.omf_library.proofs.number.decimal.Given as goal

abbrev pub invariant-loop-digit : goal.invariant-loop-digit
invariant-loop-digit l =
    (l.number < 10 ^ l.digit-index) × (number_behind l.number (drop l.digit-index l.digits) ≡ number_behind 0 l.digits)
