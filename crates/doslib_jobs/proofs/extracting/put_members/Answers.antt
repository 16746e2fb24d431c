use Rattle.std.proofs.Common.{◌<◌, ◌∙◌, ◌++◌, ap, inl, inr, length, max, rules}
use Rattle.doslink_files.specs.Written.{StandsAt}
use Rattle.doslib_jobs.specs.Reading.{unwritten_line}
use Rattle.doslib_jobs.proofs.Libraries.{none-put, put-all, put-more, put-up-to}
use Rattle.doslib_jobs.proofs.extracting.put_members.Goals as goal

pub loop-member-init : goal.loop-member-init
loop-member-init g c = record {
  stand = none-put (StandsAt (g.W.World.blank c.args.world.now) (g.W.World.Puts c.args.world.now));
  lines = c.new-outcome.ensures.lines;
  status = c.new-outcome.ensures.status;
}

pub loop-member-preserved : goal.loop-member-preserved
loop-member-preserved g c =
    let stands = StandsAt (g.W.World.blank c.args.world.now) (g.W.World.Puts c.args.world.now) in
    let here : c.loop-member.member-index < length c.args.members.now = search rules in
    record {
      stand = put-more stands c.args.members.now c.loop-member.member-index _ c.as_str.result.now here
          (c.as_str.ensures.value ∙ c.in_ok-path.ensures) c.in-Ok.ensures c.loop-member.invariant.stand;
      lines = c.loop-member.invariant.lines;
      status = c.loop-member.invariant.status;
    }

pub returns-in-Err : goal.returns-in-Err
returns-in-Err g c =
    let stands = StandsAt (g.W.World.blank c.args.world.now) (g.W.World.Puts c.args.world.now) in
    let here : c.loop-member.member-index < length c.args.members.now = search rules in
    inr (put-up-to stands c.args.members.now c.loop-member.member-index _ c.raise.new.self.lines.items
    c.raise.new.self.status here
    (c.raise.ensures.lines ∙ c.in_ok-push_unwritten-in-Err.ensures
    ∙ ap (λ l. l ++ unwritten_line c.as_str-in-Err.result.now) c.loop-member.invariant.lines
    ∙ ap unwritten_line (c.as_str-in-Err.ensures.value ∙ c.in_ok-path.ensures))
    (c.raise.ensures.status ∙ ap (λ n. max n 3) c.loop-member.invariant.status)
    c.loop-member.invariant.stand)

pub returns : goal.returns
returns g c = inl (
  put-all (StandsAt (g.W.World.blank c.args.world.now) (g.W.World.Puts c.args.world.now)) c.args.members.now
      c.loop-member.member-index c.loop-member-test.false c.loop-member.invariant.stand,
  c.loop-member.invariant.lines,
  c.loop-member.invariant.status,
)
