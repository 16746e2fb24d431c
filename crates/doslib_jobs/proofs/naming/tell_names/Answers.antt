use Rattle.std.proofs.Common.{◌≡◌, ◌∙◌, ap, ap₂, if◌then◌else◌, map, max, subst}
use Rattle.std.specs.Io.KnownBytes.{Appends}
use Rattle.omf_files.specs.Files.{sink_bytes}
use Rattle.omf_frame.proofs.Told.{Appends-kept}
use Rattle.doslib_names.specs.Lines.{is_amiss, names_text}
use Rattle.doslib_names.specs.Said.{held_said}
use Rattle.doslib_jobs.specs.Jobs.{Read, choice_of}
use Rattle.doslib_jobs.specs.Libraries.{all_held, source_of}
use Rattle.doslib_jobs.specs.inside.Libraries.{source_said}
use Rattle.doslib_jobs.proofs.naming.tell_names.Goals as goal

pub returns : goal.returns
returns g c =
    let old = sink_bytes g.O.Write.contents c.args.output.now in
    let has = c.in_ok-taken.ensures old in
    let held = all_held (map (λ (r : Read). source_of r.path r.bytes) has.ran.reads) in
    let read : map held_said c.deref-2.result.now ≡ held =
    ap (map held_said) c.deref-2.ensures.value ∙ c.in_ok-held.ensures
    ∙ ap (λ l. all_held (map source_said l)) c.deref.ensures.value ∙ ap all_held has.sources_are in
    let text : c.deref-3.result.now ≡ names_text (choice_of c.args.ignore_case) held =
    c.deref-3.ensures.value ∙ c.in_ok-told.ensures.text ∙ ap₂ names_text c.choice_of.ensures read in
    record {
      worst = c.take_files.new.outcome.status;
      ran = record {
        reads = has.ran.reads;
        these = has.ran.these;
        are = has.ran.are;
        text = has.ran.text;
        faults = c.raise.ensures.lines ∙ has.ran.faults;
        greatest_is = has.ran.greatest_is;
      };
      text =
          Appends-kept old _ _ (names_text (choice_of c.args.ignore_case) held)
          (subst (Appends old _) text c.in_ok-put_all.ensures.0) c.flush.ensures.same;
      ends =
          c.raise.ensures.status
          ∙ ap (max c.take_files.new.outcome.status)
          (c.status_of.ensures
          ∙ ap (λ b. if b then 1 else 0)
          (c.in_ok-told.ensures.amiss ∙ ap₂ is_amiss c.choice_of.ensures read));
    }
