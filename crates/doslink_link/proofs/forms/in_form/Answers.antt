use Rattle.doslink_link.proofs.forms.in_form.Goals as goal

pub returns-in-Ok-clause-forms : goal.returns-in-Ok-clause-forms
returns-in-Ok-clause-forms g c names modules is = c.in-Ok.ensures names modules is

pub returns-in-Err-clause-forms : goal.returns-in-Err-clause-forms
returns-in-Err-clause-forms g c names modules is = c.in-Err.ensures names modules is
