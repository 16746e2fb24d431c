use Rattle.std.proofs.lemmas.Result.{err_from_is_err_and}
use Rattle.omf_commands.proofs.LinkSteps.{holds_linked, linked, not_read, unread}
use Rattle.omf_commands.proofs.Outcome.{ended, refused}
use Rattle.omf_commands.proofs.linking.link.Goals as goal

pub link_modules-requires : goal.link_modules-requires
link_modules-requires g c = c.requires.sink

pub returns-clause-links : goal.returns-clause-links
returns-clause-links g c =
    let (lists, inputs, are) = c.in_ok-modules.ensures in
    linked g.S.Source.remaining g.S.Source.failures c.args.options.now.names _ _ _ _ lists
    c.in_ok-modules.modules.items c.link_modules.result inputs are c.link_modules.ensures.links

pub returns-clause-outcome : goal.returns-clause-outcome
returns-clause-outcome g c = λ sources told.
    let (lists, inputs, are) = c.in_ok-modules.ensures in
    let w = g.K.Sink.written in
    ended g.S.Source.remaining g.S.Source.failures c.args.options.now.names c.args.sources.now c.read_inputs.new.sources
    (w c.args.sink.now) (w c.link_modules.new.sink) sources c.link_modules.result
    (linked g.S.Source.remaining g.S.Source.failures c.args.options.now.names _ _ _ _ lists
    c.in_ok-modules.modules.items c.link_modules.result inputs are c.link_modules.ensures.links) told

pub returns-clause-headline : goal.returns-clause-headline
returns-clause-headline g c =
    let (lists, inputs, are) = c.in_ok-modules.ensures in
    holds_linked g.S.Source.remaining g.S.Source.failures c.args.options.now.names _ _ _ _ lists
    c.in_ok-modules.modules.items c.link_modules.result inputs are c.link_modules.ensures.links

pub returns-in_err-modules-clause-sink : goal.returns-in_err-modules-clause-sink
returns-in_err-modules-clause-sink g c =
    let p = err_from_is_err_and c.from_residual.result c.from_residual.ensures.1 in
    rw (p.1, p.2)
    (unread g.S.Source.remaining g.S.Source.failures (Unit {0}) c.args.sources.now c.read_inputs.new.sources _
    c.in_err-modules.field-0.0 c.in_err-modules.ensures)

pub returns-in_err-modules-clause-links : goal.returns-in_err-modules-clause-links
returns-in_err-modules-clause-links g c =
    let p = err_from_is_err_and c.from_residual.result c.from_residual.ensures.1 in
    rw (p.1, p.2)
    (not_read g.S.Source.remaining g.S.Source.failures c.args.options.now.names c.args.sources.now
    c.read_inputs.new.sources (g.K.Sink.written c.args.sink.now) c.in_err-modules.field-0.0 c.in_err-modules.ensures)

pub returns-in_err-modules-clause-outcome : goal.returns-in_err-modules-clause-outcome
returns-in_err-modules-clause-outcome g c = λ inputs told.
    let olds = c.args.sources.now in
    let news = c.read_inputs.new.sources in
    let w = g.K.Sink.written c.args.sink.now in
    let links =
    not_read g.S.Source.remaining g.S.Source.failures c.args.options.now.names olds news w c.in_err-modules.field-0.0
    c.in_err-modules.ensures in
    let p = err_from_is_err_and c.from_residual.result c.from_residual.ensures.1 in
    rw (p.1, p.2)
    (refused g.S.Source.remaining g.S.Source.failures c.args.options.now.names olds news w w inputs
    c.in_err-modules.field-0.0 links told)
