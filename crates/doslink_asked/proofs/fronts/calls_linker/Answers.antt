use Rattle.std.proofs.Common.{ap, sym, ◌∙◌}
use Rattle.std.specs.List.{list_any}
use Rattle.makefile_words.specs.Tokens.{pieces, placed_of}
use Rattle.doslink_asked.specs.Fronts.{is_of_call}
use Rattle.doslink_asked.proofs.LineTexts.{any-map}
use Rattle.doslink_asked.proofs.fronts.calls_linker.Goals as goal

pub returns : goal.returns
returns c =
    c.has_call.ensures ∙ sym (any-map (λ p. is_of_call p.piece) placed_of c.as_slice.result.now)
    ∙ ap (list_any (λ p. is_of_call p.piece)) (ap pieces c.as_slice.ensures.value ∙ c.in_ok-tokens.ensures)
