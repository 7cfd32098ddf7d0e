use Rattle.branch_tx.proofs.look.find_row.Given as goal

-- the steps are counted on the blank that is handed over
abbrev pub ghosts-find_counted : goal.ghosts-find_counted
ghosts-find_counted g a = record { name = a.blank.name; parts = a.blank.parts }
