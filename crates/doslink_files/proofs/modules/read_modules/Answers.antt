use Rattle.std.proofs.Common.{ap, subst, ◌∙◌, sym}
use Rattle.std.specs.Io.KnownBytes.{Consumes}
use Rattle.omf_library.specs.Ending.{EndsThere, modules_end}
use Rattle.doslink_files.specs.Files.{is_foreign, longest_record}
use Rattle.doslink_files.proofs.Parts.{begins-so, known, none-but, part-all, part-ends, part-foreign, read-so, unread}
use Rattle.doslink_files.proofs.modules.read_modules.Goals as goal

pub returns-in-Some : goal.returns-in-Some
returns-in-Some g c =
    let told = g.R.Read.remaining c.args.file in
    part-ends told (g.R.Read.remaining c.loop.file) c.loop.bytes.items c.truncate-in-Some.new.self.items
    c.in-Some.end c.loop.invariant.0 c.loop.invariant.1.0
    (subst (λ bytes. EndsThere bytes c.in-Some.end) c.deref-in-loop.ensures.value c.in-Some.ensures.there)
    c.truncate-in-Some.ensures.items

pub returns-then-not-more : goal.returns-then-not-more
returns-then-not-more g c =
    let told = g.R.Read.remaining c.args.file in
    part-all told (g.R.Read.remaining c.loop.file) c.loop.bytes.items
    c.loop.invariant.0 c.loop.invariant.1.0 (c.loop.invariant.1.1 c.if-not-more.true)
    (none-but c.modules_end.result c.in_default.not-Some ∙ c.modules_end.ensures.end
    ∙ ap modules_end c.deref-in-loop.ensures.value)

pub returns-then-is_foreign : goal.returns-then-is_foreign
returns-then-is_foreign g c =
    let told = g.R.Read.remaining c.args.file in
    let left = g.R.Read.remaining c.read_until.new.file in
    let bytes = c.read_until.new.bytes.items in
    let so-far = c.in_ok-more.ensures.read told
    (subst (λ none. Consumes told told none) (sym c.new-bytes.ensures.items) (unread told)) in
    part-foreign told bytes c.truncate.new.self.items
    (begins-so told left bytes c.in_ok-more.more so-far c.in_ok-more.ensures.front)
    (ap is_foreign (sym c.deref.ensures.value) ∙ sym c.is_foreign.ensures ∙ c.if-is_foreign.true)
    c.truncate.ensures.items

pub loop-init : goal.loop-init
loop-init g c =
    let told = g.R.Read.remaining c.args.file in
    let left = g.R.Read.remaining c.read_until.new.file in
    let bytes = c.read_until.new.bytes.items in
    let more = c.in_ok-more.more in
    let so-far = c.in_ok-more.ensures.read told
    (subst (λ none. Consumes told told none) (sym c.new-bytes.ensures.items) (unread told)) in
    let front = c.in_ok-more.ensures.front in (
      known told bytes (begins-so told left bytes more so-far front)
          (ap is_foreign (sym c.deref.ensures.value) ∙ sym c.is_foreign.ensures ∙ c.if-is_foreign.false),
      read-so told left bytes more longest_record so-far front,
    )
