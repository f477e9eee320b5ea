use Rattle.tournaments.proofs.putting.put_form.Goals as goal

pub returns-in-Tables : goal.returns-in-Tables
returns-in-Tables g c = rw c.in-Tables.is (c.put_tables.ensures c.args.text.now)

pub returns-in-Whole : goal.returns-in-Whole
returns-in-Whole g c = rw c.in-Whole.is c.put_whole.ensures

pub returns-in-Sheet : goal.returns-in-Sheet
returns-in-Sheet g c = rw c.in-Sheet.is c.put_sheet.ensures
