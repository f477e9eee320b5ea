-- The bytes of texts, by name.
use Rattle.std.specs.Prelude.{ℕ}

abbrev pub tab : ℕ
tab = 9

abbrev pub line_feed : ℕ
line_feed = 10

abbrev pub carriage_return : ℕ
carriage_return = 13

abbrev pub blank : ℕ
blank = 32

abbrev pub quote : ℕ
quote = 34

abbrev pub hash : ℕ
hash = 35

abbrev pub percent : ℕ
percent = 37

abbrev pub ampersand : ℕ
ampersand = 38

abbrev pub apostrophe : ℕ
apostrophe = 39

abbrev pub open_paren : ℕ
open_paren = 40

abbrev pub close_paren : ℕ
close_paren = 41

abbrev pub dash : ℕ
dash = 45

abbrev pub dot : ℕ
dot = 46

abbrev pub slash : ℕ
slash = 47

abbrev pub zero : ℕ
zero = 48

abbrev pub nine : ℕ
nine = 57

abbrev pub colon : ℕ
colon = 58

abbrev pub semicolon : ℕ
semicolon = 59

abbrev pub open_angle : ℕ
open_angle = 60

abbrev pub close_angle : ℕ
close_angle = 62

abbrev pub question_mark : ℕ
question_mark = 63

abbrev pub open_bracket : ℕ
open_bracket = 91

abbrev pub backslash : ℕ
backslash = 92

abbrev pub close_bracket : ℕ
close_bracket = 93

abbrev pub underscore : ℕ
underscore = 95

abbrev pub small_x : ℕ
small_x = 120

abbrev pub open_brace : ℕ
open_brace = 123

abbrev pub close_brace : ℕ
close_brace = 125

abbrev pub delete : ℕ
delete = 127
