use Rattle.branch_tx.proofs.ask.scan_rows.Given as goal

-- the steps are counted on the blank that is handed over
abbrev pub ghosts-scan_counted : goal.ghosts-scan_counted
ghosts-scan_counted g a = record { name = a.blank.name; parts = a.blank.parts }
