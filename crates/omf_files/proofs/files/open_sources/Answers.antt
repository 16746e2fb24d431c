use Rattle.std.proofs.Common.{rules, All, ◌≡◌, ◌<◌, ◌++◌, ◌∷◌, ◌∙◌, [], length, map, ap, ap₂, sym, subst, arith}
use Rattle.std.proofs.lemmas.List.{map-append, take_all, take_more}
use Rattle.std.proofs.lemmas.List.Elements.{All-push}
use Rattle.omf_files.specs.declared.files.Stage.TheVariants.{Waiting}
use Rattle.omf_files.proofs.files.open_sources.Goals as goal

pub loop-path-preserved : goal.loop-path-preserved
loop-path-preserved g c =
    let before = c.loop-path.invariant in
    let one = c.open_source.ensures in
    let here : c.loop-path.path-index < length c.args.paths.now = search rules in
    let pushed : c.push.new.self.items ≡ c.loop-path.sources.items ++ c.open_source.result ∷ [] = search rules in
    record {
      paths =
          ap (map (λ s. s.path)) pushed ∙ map-append (λ s. s.path) c.loop-path.sources.items (c.open_source.result ∷ [])
          ∙ ap₂ (λ l x. l ++ x ∷ []) before.paths one.path
          ∙ sym (take_more c.args.paths.now c.loop-path.path-index _ here);
      waiting = subst (All (λ s. (s.world ≡ c.args.world) × (s.stage ≡ Waiting))) (sym pushed)
          (All-push (λ s. (s.world ≡ c.args.world) × (s.stage ≡ Waiting)) _ _ before.waiting (one.world, one.waiting));
      failures =
          subst (All (λ s. s.failures ≡ 0)) (sym pushed)
          (All-push (λ s. s.failures ≡ 0) _ _ before.failures one.failures);
    }

pub returns-clause-paths : goal.returns-clause-paths
returns-clause-paths g c =
    c.loop-path.invariant.paths ∙ take_all c.loop-path.path-index c.args.paths.now (omega arith)

pub returns-clause-waiting : goal.returns-clause-waiting
returns-clause-waiting g c = c.loop-path.invariant.waiting

pub returns-clause-failures : goal.returns-clause-failures
returns-clause-failures g c = c.loop-path.invariant.failures
