use Rattle.bp_sheets.proofs.band.price_nights.Given as goal

abbrev pub ghosts-price_nights_by : goal.ghosts-price_nights_by
ghosts-price_nights_by a = record { name = a.blank.name; parts = a.blank.parts }
