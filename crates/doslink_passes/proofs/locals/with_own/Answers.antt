use Rattle.std.proofs.Common.{inl, inr, map}
use Rattle.omf_communal.specs.Reading.{plain_communal}
use Rattle.doslink_passes.proofs.Refused.{refused-exit, steps-weaker}
use Rattle.doslink_passes.proofs.locals.with_own.Goals as goal

pub returns-in_err-declared : goal.returns-in_err-declared
returns-in_err-declared g c =
    refused-exit _ c.from_residual.result _ c.from_residual.ensures.1 (λ none all bss. inl none) c.in_err-declared.ensures

pub returns : goal.returns
returns g c =
    let declared = map plain_communal c.in_ok-declared.declared.items in
    steps-weaker c.placed_module.result
    (λ m placed all bss. record {
      declared = declared;
      are_declared = c.in_ok-declared.ensures;
      is_placed = placed all bss;
    })
    (λ none all bss. inr (declared, c.in_ok-declared.ensures, none all bss)) c.placed_module.ensures
