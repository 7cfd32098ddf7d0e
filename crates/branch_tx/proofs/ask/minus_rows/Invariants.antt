use Rattle.branch_tx.proofs.ask.minus_rows.Given as goal

-- the steps are counted on the blank that is handed over
abbrev pub ghosts-minus_counted : goal.ghosts-minus_counted
ghosts-minus_counted g a = record { name = a.blank.name; parts = a.blank.parts }
