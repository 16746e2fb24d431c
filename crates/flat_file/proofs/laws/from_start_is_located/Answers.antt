use Rattle.flat_file.proofs.Locating.{from_start_is_loaded, segment_is_located}
use Rattle.flat_file.proofs.laws.from_start_is_located.Goals as goal

pub returns-clause-at_0 : goal.returns-clause-at_0
returns-clause-at_0 c = λ layout modules p of is none at_0 P. segment_is_located layout modules p of is none at_0 P

pub returns-clause-at_100h : goal.returns-clause-at_100h
returns-clause-at_100h c = λ layout modules p of is none at_100h psp fits.
    from_start_is_loaded layout modules p of is none at_100h psp fits
