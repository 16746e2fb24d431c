-- Digits with commas, evaluated.
use Rattle.std.proofs.Common.{◌≡◌, codes, refl}
use Rattle.doslink_telling.specs.Warnings.{with_commas}

one_group : with_commas (codes "999") ≡ codes "999"
one_group = refl

one_comma : with_commas (codes "1000") ≡ codes "1,000"
one_comma = refl

two_groups : with_commas (codes "999999") ≡ codes "999,999"
two_groups = refl

two_commas : with_commas (codes "1000000") ≡ codes "1,000,000"
two_commas = refl

three_commas : with_commas (codes "2146369560") ≡ codes "2,146,369,560"
three_commas = refl

-- as many as a number of 64 bits may have
most_commas : with_commas (codes "18446744073709551615") ≡ codes "18,446,744,073,709,551,615"
most_commas = refl
