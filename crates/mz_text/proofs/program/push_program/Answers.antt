use Rattle.std.proofs.Common.{◌≡◌, ◌∙◌, ◌++◌, OnOk, ap, subst₂, length}
use Rattle.std.specs.List.{flat_map}
use Rattle.mz.specs.Header.{header_len}
use Rattle.mz.specs.Loading.{needed_len}
use Rattle.mz_text.specs.Program.{header_lines, relocation_line, size_lines}
use Rattle.mz_text.proofs.Texts.{then-ok}
use Rattle.mz_text.proofs.program.push_program.Goals as goal

pub returns : goal.returns
returns g c =
    let file = c.args.file.now in
    let r = c.push_relocations.result in
    let s0 = c.args.lines.now.items in
    let s1 = c.push_title.new.lines.items in
    let s2 = c.push_header.new.lines.items in
    let s3 = c.push_sizes.new.lines.items in
    let s4 = c.push_relocations.new.lines.items in
    let sizes = c.sizes_of.result in
    let is = c.sizes_of.ensures in
    let behind = c.args.behind in
    let header : s2 ≡ s1 ++ header_lines file.header =
    c.in_ok-push_header.ensures ∙ ap (λ h. s1 ++ header_lines h) c.header.ensures in
    let sized : s3 ≡ s2 ++ size_lines (header_len file.header) (length file.image) behind (needed_len file) =
    c.in_ok-push_sizes.ensures ∙ ap (λ l. s2 ++ l)
    (ap (λ n. size_lines n sizes.image sizes.behind sizes.memory) is.header
    ∙ ap (λ n. size_lines (header_len file.header) n sizes.behind sizes.memory) is.image
    ∙ ap (λ n. size_lines (header_len file.header) (length file.image) n sizes.memory) is.behind
    ∙ ap (λ n. size_lines (header_len file.header) (length file.image) behind n) is.memory) in
    let relocated : OnOk r (s4 ≡ s3 ++ flat_map (relocation_line file.image) file.entries) =
    subst₂ (λ i e. OnOk r (s4 ≡ s3 ++ flat_map (relocation_line i) e)) c.image.ensures c.entries.ensures.same
    c.push_relocations.ensures in
    then-ok r s0 s1 s4 _ _ c.in_ok-push_title.ensures
    (then-ok r s1 s2 s4 _ _ header (then-ok r s2 s3 s4 _ _ sized relocated))
