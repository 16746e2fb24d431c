use Rattle.std.proofs.Common.{rules, ◌≡◌, ◌<◌, ◌≤◌, ◌+◌, ◌++◌, ◌∷◌, [], drop, length, sym, subst, inr}
use Rattle.std.proofs.lemmas.List.Elements.{All-get_or}
use Rattle.std.proofs.lemmas.Result.{err_from_is_err_and}
use Rattle.omf_commands.proofs.InputSteps.{all_read, begun, finished, front_read, modules_push, read_input, read_one}
use Rattle.omf_commands.proofs.InputSteps.{refused, same_at}
use Rattle.omf_commands.proofs.inputs.read_inputs.Goals as goal

pub read_module-requires : goal.read_module-requires
read_module-requires g c =
    let (lists, so, are) = c.loop-input.invariant in
    let told = g.S.Source.remaining in
    let failures = g.S.Source.failures in
    let d = c.index-sources-input.result in
    let here : c.loop-input.input < length c.args.sources.now = search rules in
    let works =
    All-get_or (λ s. failures s < 18446744073709551615) c.args.sources.now c.loop-input.input d here c.requires in
    subst (λ s. failures s < 18446744073709551615)
    (sym (same_at told failures lists c.loop-input.input c.args.sources.now c.loop-input.sources d so)) works

pub returns-in-Err : goal.returns-in-Err
returns-in-Err g c =
    let (lists, so, are) = c.loop-input.invariant in
    let here : c.loop-input.input < length c.args.sources.now = search rules in
    rw c.module_fault.ensures
    (refused g.S.Source.remaining g.S.Source.failures _ lists c.loop-input.input c.args.sources.now c.loop-input.sources
    c.index-sources-input.result c.read_module.new.source
    c.in-Err.fault here so c.in-Err.ensures.reads c.in-Err.ensures.device)

pub returns-in_err-map_err : goal.returns-in_err-map_err
returns-in_err-map_err g c =
    let (lists, so, are) = c.loop-input.invariant in
    let told = g.S.Source.remaining in
    let failures = g.S.Source.failures in
    let here : c.loop-input.input < length c.args.sources.now = search rules in
    let (rs, read, says) =
    read_input told failures c.in-Ok.module _ c.read_module.new.source c.in-Ok.ensures.reads c.in-Ok.ensures.device in
    let input =
    finished told failures rs _ c.read_module.new.source c.finish.new.self c.finish.ensures.told
    c.finish.ensures.failures read in
    let p = err_from_is_err_and c.from_residual.result c.from_residual.ensures.1 in
    rw (p.1, p.2) (inr (
      lists ++ rs ∷ [],
      drop (c.loop-input.input + 1) c.args.sources.now,
      front_read told failures _ _ _ _
          (read_one told failures lists c.loop-input.input c.args.sources.now c.loop-input.sources
          c.index-sources-input.result rs
          c.finish.new.self here so input),
    ))

pub loop-input-preserved : goal.loop-input-preserved
loop-input-preserved g c =
    let (lists, so, are) = c.loop-input.invariant in
    let told = g.S.Source.remaining in
    let failures = g.S.Source.failures in
    let here : c.loop-input.input < length c.args.sources.now = search rules in
    let (rs, read, says) =
    read_input told failures c.in-Ok.module _ c.read_module.new.source c.in-Ok.ensures.reads c.in-Ok.ensures.device in
    let input =
    finished told failures rs _ c.read_module.new.source c.finish.new.self c.finish.ensures.told
    c.finish.ensures.failures read in
    let pushed : c.push.new.self.items ≡ c.loop-input.modules.items ++ c.in-Ok.module ∷ [] = search rules in (
      lists ++ rs ∷ [],
      read_one told failures lists c.loop-input.input c.args.sources.now c.loop-input.sources
          c.index-sources-input.result rs c.finish.new.self here so input,
      rw pushed (modules_push lists rs _ c.in-Ok.module are says),
    )

pub loop-input-init : goal.loop-input-init
loop-input-init g c =
    ([], begun g.S.Source.remaining g.S.Source.failures c.args.sources.now, c.new-modules.ensures.items)

pub returns : goal.returns
returns g c =
    let (lists, so, are) = c.loop-input.invariant in
    let past : length c.args.sources.now ≤ c.loop-input.input = search rules in (
      lists,
      all_read g.S.Source.remaining g.S.Source.failures lists c.loop-input.input c.args.sources.now c.loop-input.sources
          past so,
      are,
    )
