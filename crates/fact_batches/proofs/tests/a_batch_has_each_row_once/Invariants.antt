use Rattle.fact_batches.proofs.tests.a_batch_has_each_row_once.Given as goal

abbrev pub ghosts-makes_batches : goal.ghosts-makes_batches
ghosts-makes_batches g a = record { name = a.blank.name; parts = a.blank.parts }
