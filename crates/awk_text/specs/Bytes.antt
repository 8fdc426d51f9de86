-- Bytes by name.
use Rattle.std.specs.Prelude.{ℕ}

abbrev pub alert : ℕ
alert = 7

abbrev pub backspace : ℕ
backspace = 8

abbrev pub tab : ℕ
tab = 9

abbrev pub newline : ℕ
newline = 10

abbrev pub vertical_tab : ℕ
vertical_tab = 11

abbrev pub form_feed : ℕ
form_feed = 12

abbrev pub carriage_return : ℕ
carriage_return = 13

abbrev pub space : ℕ
space = 32

abbrev pub quote : ℕ
quote = 34

abbrev pub hash : ℕ
hash = 35

abbrev pub percent : ℕ
percent = 37

abbrev pub open_paren : ℕ
open_paren = 40

abbrev pub plus : ℕ
plus = 43

abbrev pub minus : ℕ
minus = 45

abbrev pub point : ℕ
point = 46

abbrev pub slash : ℕ
slash = 47

abbrev pub digit_zero : ℕ
digit_zero = 48

abbrev pub digit_seven : ℕ
digit_seven = 55

abbrev pub digit_nine : ℕ
digit_nine = 57

abbrev pub equals : ℕ
equals = 61

abbrev pub upper_a : ℕ
upper_a = 65

abbrev pub upper_e : ℕ
upper_e = 69

abbrev pub upper_x : ℕ
upper_x = 88

abbrev pub upper_z : ℕ
upper_z = 90

abbrev pub backslash : ℕ
backslash = 92

abbrev pub underscore : ℕ
underscore = 95

abbrev pub lower_a : ℕ
lower_a = 97

abbrev pub lower_b : ℕ
lower_b = 98

abbrev pub lower_c : ℕ
lower_c = 99

abbrev pub lower_d : ℕ
lower_d = 100

abbrev pub lower_e : ℕ
lower_e = 101

abbrev pub lower_f : ℕ
lower_f = 102

abbrev pub lower_i : ℕ
lower_i = 105

abbrev pub lower_n : ℕ
lower_n = 110

abbrev pub lower_o : ℕ
lower_o = 111

abbrev pub lower_r : ℕ
lower_r = 114

abbrev pub lower_s : ℕ
lower_s = 115

abbrev pub lower_t : ℕ
lower_t = 116

abbrev pub lower_u : ℕ
lower_u = 117

abbrev pub lower_v : ℕ
lower_v = 118

abbrev pub lower_x : ℕ
lower_x = 120

abbrev pub lower_z : ℕ
lower_z = 122
