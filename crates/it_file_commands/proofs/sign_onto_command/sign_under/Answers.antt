use Rattle.it_file_commands.proofs.sign_onto_command.sign_under.Goals as goal

pub returns-in_ok-onto_fault-in-Err-clause-nothing : goal.returns-in_ok-onto_fault-in-Err-clause-nothing
returns-in_ok-onto_fault-in-Err-clause-nothing g c = λ other. c.in-Err.ensures.nothing (λ is.
    let wrote = c.onto_fault.ensures is in
    let kept = c.in_ok-onto_fault-in-Err.was in
    other cc)
