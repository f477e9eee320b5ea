-- Each template has its values between its tags, and each text ends outside of its tags.
use Rattle.std.proofs.Common.{◌≡◌, true, refl}
use Rattle.html.specs.Places.{InText, place_at_end}
use Rattle.html.specs.PlainTemplates.{is_template}
use Rattle.play_sheets.specs.declared.templates.TheConstants as template

-- ---- templates
pub declarer-plain : is_template template.DECLARER.now ≡ true
unfolding is_template
declarer-plain = refl

pub contract-plain : is_template template.CONTRACT.now ≡ true
unfolding is_template
contract-plain = refl

pub declares-plain : is_template template.DECLARES.now ≡ true
unfolding is_template
declares-plain = refl

pub table-plain : is_template template.TABLE.now ≡ true
unfolding is_template
table-plain = refl

pub row-plain : is_template template.ROW.now ≡ true
unfolding is_template
row-plain = refl

pub loss-plain : is_template template.LOSS.now ≡ true
unfolding is_template
loss-plain = refl

pub spade-plain : is_template template.SPADE.now ≡ true
unfolding is_template
spade-plain = refl

pub heart-plain : is_template template.HEART.now ≡ true
unfolding is_template
heart-plain = refl

pub diamond-plain : is_template template.DIAMOND.now ≡ true
unfolding is_template
diamond-plain = refl

pub club-plain : is_template template.CLUB.now ≡ true
unfolding is_template
club-plain = refl

pub number-plain : is_template template.NUMBER.now ≡ true
unfolding is_template
number-plain = refl

pub illegal-plain : is_template template.ILLEGAL.now ≡ true
unfolding is_template
illegal-plain = refl

pub turn-plain : is_template template.TURN.now ≡ true
unfolding is_template
turn-plain = refl

pub held-by-plain : is_template template.HELD_BY.now ≡ true
unfolding is_template
held-by-plain = refl

pub lack-plain : is_template template.LACK.now ≡ true
unfolding is_template
lack-plain = refl

-- ---- texts
pub head-ends : place_at_end InText template.HEAD.now ≡ InText
head-ends = refl

pub next-style-ends : place_at_end InText template.NEXT_STYLE.now ≡ InText
next-style-ends = refl

pub style-ends : place_at_end InText template.STYLE.now ≡ InText
style-ends = refl

pub body-ends : place_at_end InText template.BODY.now ≡ InText
body-ends = refl

pub cell-ends : place_at_end InText template.CELL.now ≡ InText
cell-ends = refl

pub leads-ends : place_at_end InText template.LEADS.now ≡ InText
leads-ends = refl

pub wins-ends : place_at_end InText template.WINS.now ≡ InText
wins-ends = refl

pub wins-end-ends : place_at_end InText template.WINS_END.now ≡ InText
wins-end-ends = refl

pub loses-ends : place_at_end InText template.LOSES.now ≡ InText
loses-ends = refl

pub cell-end-ends : place_at_end InText template.CELL_END.now ≡ InText
cell-end-ends = refl

pub totals-ends : place_at_end InText template.TOTALS.now ≡ InText
totals-ends = refl

pub table-end-ends : place_at_end InText template.TABLE_END.now ≡ InText
table-end-ends = refl

pub not-held-ends : place_at_end InText template.NOT_HELD.now ≡ InText
not-held-ends = refl

pub holds-ends : place_at_end InText template.HOLDS.now ≡ InText
holds-ends = refl

pub holds-end-ends : place_at_end InText template.HOLDS_END.now ≡ InText
holds-end-ends = refl
