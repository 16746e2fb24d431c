use Rattle.std.proofs.Common.{◌≡◌, ◌++◌, ◌∙◌, ap, codes}
use Rattle.doslink_telling.proofs.Texts.{extended-ok, then-ok}
use Rattle.doslink_asked.specs.Paths.{extension_of}
use Rattle.doslink_asked.specs.inside.FormNames.{form_help, said_words}
use Rattle.doslink_asked.proofs.form_names.push_form_line.Goals as goal

pub returns : goal.returns
returns c =
    let r = c.extend_from_slice-5.result in
    let s0 = c.args.lines.now.items in
    let s1 = c.extend_from_slice.new.self.items in
    let s2 = c.extend_from_slice-2.new.self.items in
    let s3 = c.extend_from_slice-3.new.self.items in
    let s4 = c.extend_from_slice-4.new.self.items in
    let s5 = c.extend_from_slice-5.new.self.items in
    let out = c.args.out.now in
    let help = form_help (said_words c.args.words) (extension_of out) in
    let end = codes "\n" in
    let middle = codes ": an EXE file is written: " in
    let named : s2 ≡ s1 ++ out = c.in_ok-extend_from_slice-2.ensures.items ∙ ap (λ n. s1 ++ n) c.as_bytes.ensures.value
    in
    let said : s4 ≡ s3 ++ help =
    c.in_ok-extend_from_slice-4.ensures.items ∙ ap (λ n. s3 ++ n) c.form_help.ensures
    ∙ ap (λ e. s3 ++ form_help (said_words c.args.words) e) c.extension_of.ensures in
    then-ok r s0 s1 s5 (codes "doslink: warning: ") (out ++ (middle ++ (help ++ end)))
    c.in_ok-extend_from_slice.ensures.items
    (then-ok r s1 s2 s5 out (middle ++ (help ++ end)) named
    (then-ok r s2 s3 s5 middle (help ++ end) c.in_ok-extend_from_slice-3.ensures.items
    (then-ok r s3 s4 s5 help end said (extended-ok r s4 s5 end c.extend_from_slice-5.ensures.items))))
