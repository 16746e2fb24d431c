use Rattle.std.proofs.Common.{◌∙◌, ap, map, option_map, sym}
use Rattle.doslink_words.specs.Said.{Class}
use Rattle.doslink_words.specs.Tokens.{texts}
use Rattle.doslink_words.specs.Words.{order_asked}
use Rattle.doslink_words.proofs.WordsLemmas.{listed_order}
use Rattle.doslink_words.proofs.words.order_asked.Goals as goal

pub returns : goal.returns
returns c =
    let classes =
    c.in_ok-classes_of.ensures ∙ ap (map Class) (ap texts c.as_slice.ensures.value ∙ c.in_ok-names.ensures) in
    listed_order c.in-Some.word.now _ (sym c.is_dosseg.ensures ∙ c.if-is_dosseg.false) classes
    ∙ ap order_asked (sym (ap (option_map (λ s. s.now)) c.in-Some.is))
