use Rattle.run_output.proofs.Written.{wrote-one, front-nothing, fails-first}
use Rattle.run_output.proofs.writing.write_file.Goals as goal

pub returns-in-Ok : goal.returns-in-Ok
returns-in-Ok g c =
    let write = c.in-Ok.ensures.write in
    wrote-one _ _ _ c.in-Ok.ensures.answered c.in-Ok.ensures.reads write.1 write.2 c.in-Ok.ensures.wrote write.0

pub returns-in-Err-NoMemory : goal.returns-in-Err-NoMemory
returns-in-Err-NoMemory g c =
    let called = c.in-Err-NoMemory.ensures in
    let write = rw c.in-Err-NoMemory.field-0-is at called.write in
    front-nothing _ _ _ called.answered called.reads write.1 called.wrote write.0

pub returns-in-Err-Failed : goal.returns-in-Err-Failed
returns-in-Err-Failed g c =
    let called = c.in-Err-Failed.ensures in
    let write = rw c.in-Err-Failed.field-0-is at called.write in
    fails-first _ _ _ (record { answered = called.answered; reads = called.reads; others = write.1; wrote = called.wrote; rose = write.0 })
