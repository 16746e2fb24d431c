use Rattle.std.proofs.Common.{◌≤◌, length, rules}
use Rattle.omf_record.proofs.RecordLaws.{read_fits, read_stored}
use Rattle.omf_record.proofs.parse.parse_record.Goals as goal

pub returns-clause-answer : goal.returns-clause-answer
returns-clause-answer g c = c.record_of.ensures

pub returns-clause-fits : goal.returns-clause-fits
returns-clause-fits g c =
    let short : length c.args.frame.now.body.now ≤ 65534 = search rules in
    read_fits c.args.frame.now.kind c.args.frame.now.body.now c.record_of.result c.record_of.ensures short

pub returns-clause-stored : goal.returns-clause-stored
returns-clause-stored g c = read_stored c.record_of.result (returns-clause-fits g c)
