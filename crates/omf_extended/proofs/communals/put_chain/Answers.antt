use Rattle.std.proofs.Common.{map, rules}
use Rattle.omf_wide.specs.Communals.{plain_communal}
use Rattle.omf_extended.proofs.Chains.{chain_written}
use Rattle.omf_extended.proofs.communals.put_chain.Goals as goal

pub returns : goal.returns
returns g c =
    chain_written g.O.Output.Takes g.O.Output.Refuses g.met.O.Output.is_output
    (map plain_communal c.args.chain.now.0.items) c.args.chain.now.1.now c.args.out.now c.put.new.out c.put-2.new.out
    c.put-2.result (search rules) c.in_ok-put.ensures c.put-2.ensures
