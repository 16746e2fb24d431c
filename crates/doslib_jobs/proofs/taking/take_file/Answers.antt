use Rattle.std.proofs.Common.{Err, Ok, refl, ap₂}
use Rattle.doslib_text.specs.Faults.{list_faults}
use Rattle.doslib_jobs.specs.Libraries.{Source}
use Rattle.doslib_jobs.specs.Reading.{unread_line}
use Rattle.doslib_jobs.proofs.taking.take_file.Goals as goal

pub returns-in_ok-whole-in-Ok : goal.returns-in_ok-whole-in-Ok
returns-in_ok-whole-in-Ok g c =
    let took = c.in_ok-whole-in-Ok.ensures in
    record {
      bytes = Ok c.in-Ok.file.bytes.items;
      faults = list_faults c.args.path.now c.in-Ok.file.bytes.items;
      is_told = c.in-Ok.ensures.told;
      are = (refl, refl);
      lines = took.lines;
      greatest_is = took.status;
      source_is =
          ap₂ (λ k ms. let s : Source = record { path = c.args.path.now; kind = k; members = ms } in s) took.kind
          took.members;
    }

pub returns-in_ok-add_unread-in-Err : goal.returns-in_ok-add_unread-in-Err
returns-in_ok-add_unread-in-Err g c = record {
  bytes = Err c.in-Err.fault;
  faults = unread_line c.args.path.now c.in-Err.fault;
  is_told = tt;
  are = (refl, refl);
  lines = c.in_ok-add_unread-in-Err.ensures.lines;
  greatest_is = c.in_ok-add_unread-in-Err.ensures.status;
  source_is = refl;
}
