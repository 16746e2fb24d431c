use Rattle.std.proofs.Common.{◌∙◌, ap, take}
use Rattle.std.proofs.lemmas.List.{take_min}
use Rattle.omf_names.proofs.records.front.Goals as goal

pub returns-clause-front : goal.returns-clause-front
returns-clause-front c =
    ap (λ n. take n c.as_bytes-bytes.result.now) c.min-size.ensures ∙ take_min 255 c.as_bytes-bytes.result.now
    ∙ ap (take 255) c.as_bytes-bytes.ensures.value
