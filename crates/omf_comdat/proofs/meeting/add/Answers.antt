use Rattle.std.proofs.Common.{◌∙◌, [], ◌∷◌, sym, subst, ap}
use Rattle.std.proofs.lemmas.List.{map-append}
use Rattle.indexmap.proofs.CallerLemmas.{insert_entry-new}
use Rattle.indexmap.specs.IndexMap.{get}
use Rattle.omf_keys.specs.Keys.{same_key}
use Rattle.omf_comdat.specs.inside.Held.{AreKeyed, firsts_said, shared_said}
use Rattle.omf_comdat.proofs.Firsts.{keyed-push}
use Rattle.omf_comdat.proofs.meeting.add.Goals as goal

pub returns-clause-kept : goal.returns-clause-kept
returns-clause-kept g c =
    subst (AreKeyed c.args.names)
    (sym (c.in_ok-insert.ensures.entries
    ∙ insert_entry-new same_key c.args.firsts.now c.new.result c.args.other
    (ap (get same_key c.args.firsts.now) c.new.ensures ∙ c.requires.is_new)))
    (keyed-push c.args.names c.args.firsts.now.entries c.new.result c.args.other c.requires.are_keyed c.new.ensures)

pub returns-clause-added : goal.returns-clause-added
returns-clause-added g c =
    ap firsts_said (c.in_ok-insert.ensures.entries
    ∙ insert_entry-new same_key c.args.firsts.now c.new.result c.args.other
    (ap (get same_key c.args.firsts.now) c.new.ensures ∙ c.requires.is_new))
    ∙ map-append (λ e. shared_said e.1) c.args.firsts.now.entries ((c.new.result, c.args.other) ∷ [])
