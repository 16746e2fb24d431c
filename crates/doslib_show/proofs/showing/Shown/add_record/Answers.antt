use Rattle.std.proofs.lemmas.Result.{on_ok_weaker}
use Rattle.doslib_show.proofs.Chains.{two}
use Rattle.doslib_show.specs.inside.Meaning.{meaning_view}
use Rattle.doslib_show.proofs.showing.Shown.add_record.Goals as goal

pub returns : goal.returns
returns g c =
    on_ok_weaker c.follow.result
    (λ named. record {
      type = c.record_type-known.result;
      means = meaning_view c.in_ok-meaning.meaning;
      is = (c.record_type-known.ensures, c.in_ok-meaning.ensures);
      named = named;
      text_is =
          two c.args.self.now.text.items c.push_head.new.lines.items c.push_meaning.new.lines.items _ _
          (rw c.place_in_file-place.ensures at c.in_ok-push_head.ensures) c.in_ok-push_meaning.ensures;
      faults_are = c.in_ok-push_wrong_line.ensures;
    })
    c.follow.ensures
