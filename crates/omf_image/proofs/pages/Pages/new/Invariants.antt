use Rattle.std.proofs.Common.{◌≡◌, length, All}
use Rattle.omf_image.proofs.pages.Pages.new.Given as goal

abbrev pub invariant-loop : goal.invariant-loop
invariant-loop g l =
    record { count : length l.pages.items ≡ l.counter; empty : All (λ p. length p.items ≡ 0) l.pages.items }
