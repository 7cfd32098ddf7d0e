use Rattle.image_text.proofs.records.PagedRecords.listed.Given as goal

abbrev pub ghosts-list_of : goal.ghosts-list_of
ghosts-list_of a = record { name = a.blank.name; parts = a.blank.parts }
