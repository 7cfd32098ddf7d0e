use Rattle.image_text.proofs.records.put_page.Given as goal

abbrev pub ghosts-put_records : goal.ghosts-put_records
ghosts-put_records a = record { name = a.blank.name; parts = a.blank.parts }
