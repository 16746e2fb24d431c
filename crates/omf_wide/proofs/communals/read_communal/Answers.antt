use Rattle.omf_wide.proofs.communals.read_communal.Goals as goal

pub returns-in-Ok : goal.returns-in-Ok
returns-in-Ok g c = let f = c.in-Ok.ensures in (f.front, f.spelled, f.parts)

pub returns-in-Err-Refused : goal.returns-in-Err-Refused
returns-in-Err-Refused g c =
    let f = rw c.in-Err-Refused.field-0-is at c.in-Err-Refused.ensures in λ x text rest l e. f.none x text rest l tt e
