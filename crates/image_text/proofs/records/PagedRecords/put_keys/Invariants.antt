use Rattle.image_text.proofs.records.PagedRecords.put_keys.Given as goal

abbrev pub ghosts-put_keys_of : goal.ghosts-put_keys_of
ghosts-put_keys_of a = record { name = a.blank.name; parts = a.blank.parts }
