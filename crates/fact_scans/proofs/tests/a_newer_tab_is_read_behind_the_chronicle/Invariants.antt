use Rattle.fact_scans.proofs.tests.a_newer_tab_is_read_behind_the_chronicle.Given as goal

abbrev pub ghosts-newer : goal.ghosts-newer
ghosts-newer g a = record { name = a.blank.name; parts = a.blank.parts }
