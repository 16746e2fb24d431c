use Rattle.std.proofs.Common.{◌<◌, ◌∙◌, length, map, refl, sym, arith}
use Rattle.std.proofs.lemmas.List.{length-map}
use Rattle.omf_communal.specs.Deciding.{variable_said}
use Rattle.omf_communal.specs.inside.Met.{declared_said}
use Rattle.omf_communal.proofs.Widening.{added_through, kept_through, met_through}
use Rattle.omf_communal.proofs.Meeting.{place_in}
use Rattle.omf_communal.proofs.deciding.meet.Goals as goal

pub index_mut-requires : goal.index_mut-requires
index_mut-requires g c =
    let old = c.args.met.now.variables.items in
    let within : c.in-Some.place < length (map variable_said old) =
    place_in c.args.names (declared_said c.args.declared.now) (map variable_said old) c.in-Some.place
    (sym (c.in-Some.ensures ∙ c.requires c.args.declared.now.name)) in
    omega (arith, within, length-map old variable_said, c.args.met.now.variables.ok.0)

pub add-requires-clause-is_new : goal.add-requires-clause-is_new
add-requires-clause-is_new g c = sym (c.in-None.ensures ∙ c.requires c.args.declared.now.name)

pub returns-in-None-clause-met : goal.returns-in-None-clause-met
returns-in-None-clause-met g c =
    added_through c.args.names (declared_said c.args.declared.now) (map variable_said c.args.met.now.variables.items) _
    c.add.result
    (sym (c.in-None.ensures ∙ c.requires c.args.declared.now.name)) c.add.ensures.added

pub returns-in-Some-clause-kept : goal.returns-in-Some-clause-kept
returns-in-Some-clause-kept g c =
    kept_through c.args.names (declared_said c.args.declared.now) c.args.met.now.variables.items _ c.in-Some.place
    c.index_mut.result.now c.widen.new.variable
    (sym (c.in-Some.ensures ∙ c.requires c.args.declared.now.name)) c.index_mut.ensures.value refl c.widen.result
    c.args.met.now.places.entries c.widen.ensures c.requires

pub returns-in-Some-clause-met : goal.returns-in-Some-clause-met
returns-in-Some-clause-met g c =
    met_through c.args.names (declared_said c.args.declared.now) c.args.met.now.variables.items _ c.in-Some.place
    c.index_mut.result.now c.widen.new.variable
    (sym (c.in-Some.ensures ∙ c.requires c.args.declared.now.name)) c.index_mut.ensures.value refl c.widen.result
    c.widen.ensures
