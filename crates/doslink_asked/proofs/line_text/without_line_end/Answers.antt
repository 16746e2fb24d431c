use Rattle.std.proofs.Common.{None, Some, inl, inr, lit<, refl}
use Rattle.std.proofs.lemmas.Str.Pattern.{strip_suffix_char}
use Rattle.doslink_asked.proofs.line_text.without_line_end.Goals as goal

pub returns-in-Some : goal.returns-in-Some
returns-in-Some c = inl (strip_suffix_char 10 c.args.text.now (Some c.in-Some.front) c.in-Some.ensures.cases (lit< tt))

pub returns-in-None : goal.returns-in-None
returns-in-None c = inr (strip_suffix_char 10 c.args.text.now None c.in-None.ensures.cases (lit< tt), refl)
