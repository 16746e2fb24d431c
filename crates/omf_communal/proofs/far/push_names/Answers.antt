use Rattle.std.proofs.Common.{◌∙◌, ap, sym}
use Rattle.std.specs.Option.{option_map}
use Rattle.omf_communal.specs.Modules.{bytes_of}
use Rattle.omf_communal.specs.inside.Sought.{name_at}
use Rattle.omf_communal.proofs.Reaching.{name-more, name-none}
use Rattle.omf_communal.proofs.far.push_names.Goals as goal
use Rattle.omf_communal.proofs.far.push_names.Goals.{in-Some+in_ok-push, in_default}

pub loop-fixup-preserved : goal.loop-fixup-preserved
loop-fixup-preserved g c =
    let f = name_at c.args.sought c.args.from.now in
    let xs = c.args.fixups.now in
    let i = c.loop-fixup.fixup-index in
    let front = bytes_of c.args.names.now.items in
    elim c.match-name_at.branch [
      | in-Some+in_ok-push w ↦ ap (λ v. bytes_of v.items) w.names-is
          ∙ name-more f xs i _ c.loop-fixup-test.true w.in-Some.name c.loop-fixup.names.items _ front
          (sym c.name_at.ensures ∙ ap (option_map (λ n. n.now)) w.in-Some.is) c.loop-fixup.invariant
          w.in_ok-push.ensures.items
      | in_default w ↦ ap (λ v. bytes_of v.items) w.names-is
          ∙ name-none f xs i _ c.loop-fixup-test.true c.loop-fixup.names.items front
          (sym c.name_at.ensures ∙ ap (option_map (λ n. n.now)) w.in_default.is) c.loop-fixup.invariant
    ]
