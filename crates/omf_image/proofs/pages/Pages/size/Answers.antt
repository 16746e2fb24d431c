use Rattle.std.proofs.Common.{◌∙◌, sym, ap, subst, length}
use Rattle.omf_image.specs.inside.Pages.{Paged}
use Rattle.omf_image.proofs.Paging.{length-joined, AllBytes, bytes_joined}
use Rattle.omf_image.proofs.pages.Pages.size.Goals as goal

pub returns-clause-size : goal.returns-clause-size
returns-clause-size g c =
    sym (ap (λ (i : Paged). length i.bytes) (sym c.self.view_is)
    ∙ length-joined c.self.inside.size _ c.self.invariant.0)

pub returns-clause-bytes : goal.returns-clause-bytes
returns-clause-bytes g c =
    subst AllBytes (ap (λ (i : Paged). i.bytes) c.self.view_is)
    (bytes_joined c.self.inside.size c.self.inside.pages.items c.self.invariant.0 c.self.invariant.2)
