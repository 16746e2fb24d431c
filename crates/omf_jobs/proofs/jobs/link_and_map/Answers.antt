use Rattle.std.proofs.Common.{◌≡◌, ◌<◌, ℕ, List, arith}
use Rattle.std.proofs.lemmas.List.Elements.{All-weaker}
use Rattle.omf_files.specs.Files.{stage_bytes}
use Rattle.omf_commands.specs.Outcome.{AreTold, Outcome}
use Rattle.omf_jobs.proofs.Settling.{settled-by_memory}
use Rattle.omf_jobs.proofs.Sources.{sources_told}
use Rattle.omf_jobs.proofs.jobs.link_and_map.Goals as goal

pub returns : goal.returns
returns g c = settled-by_memory {T = Unit {0}} {A = g.row.A.Denot}
    (λ a. (inputs : List (List ℕ))
    → AreTold (λ s. stage_bytes g.W.Input.Read.remaining (g.W.World.bytes s.world s.path.now) s.stage)
    c.deref_mut.result.now inputs → Outcome c.args.options.now.names inputs a)
    (λ a. (inputs : List (List ℕ)) → AreTold (λ file. g.W.World.bytes c.args.world file.now) c.args.files.now inputs
    → Outcome c.args.options.now.names inputs a)
    (λ a linked inputs are. linked inputs (rw c.deref_mut.ensures.value
    (sources_told g.W.World.bytes g.W.Input.Read.remaining c.args.world c.in-Ok.sources.items inputs
    c.in-Ok.ensures.waiting (rw c.in-Ok.ensures.paths are))))
    _ c.link_files-answer.result.0 _ c.by_memory.ensures c.link_files-answer.ensures

pub link_files-answer-requires : goal.link_files-answer-requires
link_files-answer-requires g c =
    rw c.deref_mut.ensures.value
    (All-weaker (λ s. s.failures ≡ 0) (λ s. s.failures < 18446744073709551615) (λ s none. omega (arith, none))
    c.in-Ok.sources.items c.in-Ok.ensures.failures)
