use Rattle.std.proofs.Common.{◌≡◌, ◌<◌, ◌++◌, ◌∷◌, ◌∙◌, [], ap, append-nil, append_assoc, arith, length, map, refl}
use Rattle.std.proofs.Common.{sym, subst, vec_len}
use Rattle.std.proofs.lemmas.Bool.{eqb-true}
use Rattle.doslink_files.specs.Files.{contents}
use Rattle.doslink_words.specs.Tokens.{texts}
use Rattle.doslink_jobs.specs.inside.Absent.{all_rounds, library_said, with_round}
use Rattle.doslink_jobs.specs.Refusals.{HasFaultyLibrary}
use Rattle.doslink_jobs.specs.inside.Gathering.{AreAsked, Holds}
use Rattle.doslink_jobs.proofs.Absent.{absent-more, length-contents, lookups-more, some-length, round-lookups}
use Rattle.doslink_jobs.proofs.Absent.{rounds-more, with-none, with-some}
use Rattle.doslink_jobs.proofs.Rounds.{AreRounds-more}
use Rattle.doslink_passes.proofs.Refused.{refused-exit}
use Rattle.doslink_jobs.proofs.gathering.add_defaults.Goals as goal

pub rounds-init : goal.rounds-init
rounds-init g c = record {
  files = λ names before holds.
      ([], tt, subst (λ rs. Holds names rs c.args.gathered.now) (sym (append-nil before)) holds);
  absent = λ names before holds. record {
    lookups = [];
    are_lookups = tt;
    holds = holds;
    absent_are = sym (append-nil (map library_said c.args.absent.now.items));
  };
  kept = refl;
}

pub rounds-preserved : goal.rounds-preserved
rounds-preserved g c =
    let told = g.W.World.bytes c.args.world.now in
    let folders = texts c.args.how.folders.now in
    let left_out = texts c.args.how.left_out.now in
    let stems = c.in_ok-left_out.ensures in
    let files = contents c.in_ok-round.round.items in record {
      files = λ names before holds.
          let (more, are, held) = c.rounds.invariant.files names before holds in
          let (modules, takes, asked) = c.in_ok-libraries.ensures left_out names (before ++ more) stems held.0 in
          let defaults = c.in_ok-round.ensures.files left_out modules
          (subst (AreAsked left_out modules) (sym c.deref.ensures.value) asked) in (
            more ++ files ∷ [],
            AreRounds-more told folders left_out names before more files are (modules, takes, defaults),
            subst (λ rs. Holds names rs c.add_round.new.gathered) (append_assoc before more (files ∷ []))
                (c.in_ok-add_round.ensures.files names (before ++ more) held),
          );
      absent = λ names before holds.
          let was = c.rounds.invariant.absent names before holds in
          let rounds = all_rounds before was.lookups in
          let looked = c.in_ok-round.ensures.absent in
          let (modules, takes, asked) = c.in_ok-libraries.ensures left_out names rounds stems was.holds.0 in
          let full : 0 < vec_len c.in_ok-round.round = some-length _ _ c.is_empty.ensures c.if-is_empty.false in
          let some : 0 < length files = omega
          (arith, length-contents c.in_ok-round.round.items, c.in_ok-round.round.ok.0) in
          record {
            lookups = was.lookups ++ looked.lookups ∷ [];
            are_lookups = lookups-more told folders left_out names before was.lookups looked.lookups was.are_lookups
                (round-lookups told folders left_out names rounds modules c.deref.result.now files _ _ takes
                (subst (AreAsked left_out modules) (sym c.deref.ensures.value) asked) looked);
            holds = subst (λ rs. Holds names rs c.add_round.new.gathered)
                (sym (rounds-more before was.lookups looked.lookups ∙ ap (with_round rounds) (sym looked.files_are)
                ∙ with-some rounds files some))
                (c.in_ok-add_round.ensures.files names rounds was.holds);
            absent_are = absent-more was.lookups looked.lookups _ _ _ was.absent_are looked.absent_are;
          };
      kept = c.in_ok-add_round.ensures.kept ∙ c.in_ok-round.ensures.kept ∙ c.rounds.invariant.kept;
    }

pub returns-then-is_empty-clause-absent : goal.returns-then-is_empty-clause-absent
returns-then-is_empty-clause-absent g c =
    λ names before holds.
    let told = g.W.World.bytes c.args.world.now in
    let folders = texts c.args.how.folders.now in
    let left_out = texts c.args.how.left_out.now in
    let stems = c.in_ok-left_out.ensures in
    let files = contents c.in_ok-round.round.items in
    let was = c.rounds.invariant.absent names before holds in
    let rounds = all_rounds before was.lookups in
    let looked = c.in_ok-round.ensures.absent in
    let (modules, takes, asked) = c.in_ok-libraries.ensures left_out names rounds stems was.holds.0 in
    let empty : vec_len c.in_ok-round.round ≡ 0 = eqb-true _ 0 (sym c.is_empty.ensures ∙ c.if-is_empty.true) in
    let none : length files ≡ 0 = omega (arith, length-contents c.in_ok-round.round.items, c.in_ok-round.round.ok.0) in
    record {
      lookups = was.lookups ++ looked.lookups ∷ [];
      are_lookups = lookups-more told folders left_out names before was.lookups looked.lookups was.are_lookups
          (round-lookups told folders left_out names rounds modules c.deref.result.now files _ _ takes
          (subst (AreAsked left_out modules) (sym c.deref.ensures.value) asked) looked);
      holds = subst (λ rs. Holds names rs c.rounds.gathered)
          (sym (rounds-more before was.lookups looked.lookups ∙ ap (with_round rounds) (sym looked.files_are)
          ∙ with-none rounds files none))
          was.holds;
      absent_are = absent-more was.lookups looked.lookups _ _ _ was.absent_are looked.absent_are;
    }

pub returns-in_err-add_round-clause-files : goal.returns-in_err-add_round-clause-files
returns-in_err-add_round-clause-files g c =
    λ names before holds.
    let told = g.W.World.bytes c.args.world.now in
    let folders = texts c.args.how.folders.now in
    let left_out = texts c.args.how.left_out.now in
    let stems = c.in_ok-left_out.ensures in
    let (more, are, held) = c.rounds.invariant.files names before holds in
    let (modules, takes, asked) = c.in_ok-libraries.ensures left_out names (before ++ more) stems held.0 in
    let files = contents c.in_ok-round.round.items in
    let defaults = c.in_ok-round.ensures.files left_out modules
    (subst (AreAsked left_out modules) (sym c.deref.ensures.value) asked) in
    refused-exit _ c.from_residual-in_err-add_round.result _ c.from_residual-in_err-add_round.ensures.1
    (λ faulty. (
      more ++ files ∷ [],
      AreRounds-more told folders left_out names before more files are (modules, takes, defaults),
      subst HasFaultyLibrary (append_assoc before more (files ∷ [])) faulty,
    ))
    (c.in_err-add_round.ensures.files names (before ++ more) held)
