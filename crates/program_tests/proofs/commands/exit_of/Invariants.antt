use Rattle.program_tests.proofs.commands.exit_of.Given as goal

abbrev pub ghosts-run_args : goal.ghosts-run_args
ghosts-run_args g a = record { name = a.blank.name; parts = a.blank.parts }
