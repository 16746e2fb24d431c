use Rattle.doslib_jobs.proofs.Libraries.{made-before, printed-before}
use Rattle.doslib_jobs.proofs.jobs.answer_job.Goals as goal

pub returns-in-List : goal.returns-in-List
returns-in-List g c = rw (c.in-List.is, ← c.deref.ensures.value) c.tell_files.ensures

pub returns-in-Show : goal.returns-in-Show
returns-in-Show g c = rw (c.in-Show.is, ← c.deref-in-Show.ensures.value) c.tell_files-in-Show.ensures

pub returns-in-Make : goal.returns-in-Make
returns-in-Make g c =
    rw (c.in-Make.is, ← c.deref-in-Make.ensures.value) (made-before _ _ _ _ _ _ c.make_library.ensures)

pub returns-in-Add : goal.returns-in-Add
returns-in-Add g c =
    rw (c.in-Add.is, ← c.deref-in-Add.ensures.value) (printed-before _ _ _ _ _ c.change_library.ensures)

pub returns-in-Delete : goal.returns-in-Delete
returns-in-Delete g c =
    rw (c.in-Delete.is, ← c.deref-in-Delete.ensures.value) (printed-before _ _ _ _ _ c.change_library-in-Delete.ensures)

pub returns-in-Replace : goal.returns-in-Replace
returns-in-Replace g c =
    rw (c.in-Replace.is, ← c.deref-in-Replace.ensures.value)
    (printed-before _ _ _ _ _ c.change_library-in-Replace.ensures)

pub returns-in-Extract : goal.returns-in-Extract
returns-in-Extract g c =
    rw (c.in-Extract.is, ← c.deref-in-Extract.ensures.value) (printed-before _ _ _ _ _ c.extract.ensures)

pub returns-in-Names : goal.returns-in-Names
returns-in-Names g c = rw (c.in-Names.is, ← c.deref-in-Names.ensures.value) c.tell_names.ensures
