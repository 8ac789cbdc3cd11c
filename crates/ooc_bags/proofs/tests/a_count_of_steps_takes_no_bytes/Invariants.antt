use Rattle.ooc_bags.proofs.tests.a_count_of_steps_takes_no_bytes.Given as goal

abbrev pub ghosts-count_both : goal.ghosts-count_both
ghosts-count_both g a = record { name = a.blank.name; parts = a.blank.parts }
