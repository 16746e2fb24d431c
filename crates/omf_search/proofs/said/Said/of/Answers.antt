use Rattle.std.proofs.Common.{refl}
use Rattle.omf_search.proofs.said.Said.of.Goals as goal

pub returns : goal.returns
returns g c =
    rw (
      c.as_slice.ensures.value,
      c.as_slice-2.ensures.value,
      c.as_slice-3.ensures.value,
      c.as_slice-4.ensures.value,
      c.as_slice-5.ensures.value,
    )
    refl
