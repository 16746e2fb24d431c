use Rattle.std.proofs.Common.{map, string_bytes, subst, sym}
use Rattle.std.specs.Option.{option_map}
use Rattle.doslink_files.specs.Written.{StandsAt}
use Rattle.doslink_stock.specs.Search.{Takes}
use Rattle.doslink_stock.specs.Seen.{handed_held, handed_taken}
use Rattle.doslink_passes.specs.Request.{names_of}
use Rattle.doslink_jobs.specs.Places.{map_path, out_path}
use Rattle.doslink_jobs.specs.Written.{IsWritten}
use Rattle.doslink_jobs.proofs.Doing.{link-of, link-refused}
use Rattle.doslink_jobs.proofs.Refused.{halt-exit, halted-exit}
use Rattle.doslink_jobs.proofs.Rounds.{handed-all}
use Rattle.doslink_jobs.proofs.running.link_gathered.Goals as goal

pub returns-in_err-places : goal.returns-in_err-places
returns-in_err-places g c =
    λ rounds searched.
    halt-exit _ c.from_residual.result _ c.from_residual.ensures.1 (λ none. absurd none) (λ over. over)
    c.in_err-places.ensures

pub returns-in_err-link_handed : goal.returns-in_err-link_handed
returns-in_err-link_handed g c =
    λ rounds searched.
    let handed = c.deref.result.now in
    let names = names_of c.args.job.now.ignore_case in
    halted-exit _ _ c.from_residual-in_err-link_handed.result _ c.from_residual-in_err-link_handed.ensures.1
    (link-refused g.row.A.Denot c.args.job.now (map handed_held handed) (Takes names rounds)
    (subst (λ hs. Takes names rounds (map handed_held hs)) (sym c.deref.ensures.value) (
      map handed_taken c.in_ok-handed.handed.items,
      c.in_ok-handed.ensures names rounds searched,
      handed-all c.in_ok-handed.handed.items,
    )))
    c.in_err-link_handed.ensures

pub returns : goal.returns
returns g c =
    λ rounds searched.
    let job = c.args.job.now in
    let names = names_of job.ignore_case in
    let handed = c.deref.result.now in
    let takes = subst (λ hs. Takes names rounds (map handed_held hs)) (sym c.deref.ensures.value) (
      map handed_taken c.in_ok-handed.handed.items,
      c.in_ok-handed.ensures names rounds searched,
      handed-all c.in_ok-handed.handed.items,
    ) in
    let A = g.row.A.Denot in
    let Writes = StandsAt (g.W.World.blank c.args.world) (g.W.World.Puts c.args.world) in
    let places = c.in_ok-places.places in
    let (out, mapped, apart) = c.in_ok-places.ensures in (
      apart,
      link-of A job
          (IsWritten A job Writes (string_bytes places.out) (option_map string_bytes places.map) names)
          (IsWritten A job Writes (out_path job) (map_path job) names) (map handed_held handed)
          (Takes names rounds) takes
          (λ inputs meant written. subst (λ o. IsWritten A job Writes o (map_path job) names inputs meant) out
          (subst (λ m. IsWritten A job Writes (string_bytes places.out) m names inputs meant) mapped written))
          c.in_ok-link_handed.ensures,
    )
