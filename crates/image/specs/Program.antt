-- Document 01, "The program": the lines that it reads, and the text that it prints for each, when the plain map of n nodes holds a table.
-- Relies on: the plain map's questions, answers and tables. Text is a list of ASCII codes.
use Rattle.std.specs.Prelude.{ℕ, zero, suc, ◌+◌, ◌*◌, ◌-◌, ◌/◌, ◌%◌, List, [], ◌∷◌, ◌++◌, Bool, false, ◌||◌, cond, length, take, replicate, ltb, eqb}
use Rattle.image.specs.Prelude.{Option, none, some}
use Rattle.image.specs.Bytes.{same}
use Rattle.image.specs.Path.{path_or_empty, value_limit}
use Rattle.image.specs.Table.{Row, rows_below}
use Rattle.image.specs.Sound.{is_in}
use Rattle.image.specs.Calls.{Act, put, drops, clear, move, settle, tidy, get, Call, acts, asks, Answer, number, filled, work_per_node, answer_at, table_at}
use Rattle.image.specs.PlainMap.{plain_first_no}

-- ASCII: the bytes between lines, between fields, between a path's components in text, and for an empty value
abbrev pub line_feed : ℕ
line_feed = 0x0A

abbrev pub space : ℕ
space = 0x20

abbrev pub slash : ℕ
slash = 0x2F

abbrev pub hyphen : ℕ
hyphen = 0x2D

-- THE WORDS
abbrev pub put_word : List ℕ
put_word = 0x70 ∷ 0x75 ∷ 0x74 ∷ []

abbrev pub drop_word : List ℕ
drop_word = 0x64 ∷ 0x72 ∷ 0x6F ∷ 0x70 ∷ []

abbrev pub clear_word : List ℕ
clear_word = 0x63 ∷ 0x6C ∷ 0x65 ∷ 0x61 ∷ 0x72 ∷ []

abbrev pub get_word : List ℕ
get_word = 0x67 ∷ 0x65 ∷ 0x74 ∷ []

abbrev pub list_word : List ℕ
list_word = 0x6C ∷ 0x69 ∷ 0x73 ∷ 0x74 ∷ []

abbrev pub move_word : List ℕ
move_word = 0x6D ∷ 0x6F ∷ 0x76 ∷ 0x65 ∷ []

abbrev pub settle_word : List ℕ
settle_word = 0x73 ∷ 0x65 ∷ 0x74 ∷ 0x74 ∷ 0x6C ∷ 0x65 ∷ []

abbrev pub tidy_word : List ℕ
tidy_word = 0x74 ∷ 0x69 ∷ 0x64 ∷ 0x79 ∷ []

-- LINES AND FIELDS
-- "reads lines from standard input": the lines of an input of which the bytes `begun` were read already, as the beginning of a line. The
-- last line may lack its line feed; after the last line feed there is no line.
unfoldable pub last_line : List ℕ → List (List ℕ)
last_line [] = []
last_line (a ∷ begun) = (a ∷ begun) ∷ []

unfoldable pub lines_from : List ℕ → List ℕ → List (List ℕ)
lines_from begun [] = last_line begun
lines_from begun (b ∷ input) = cond (eqb b line_feed) (begun ∷ lines_from [] input) (lines_from (begun ++ (b ∷ [])) input)

unfoldable pub lines_of : List ℕ → List (List ℕ)
lines_of input = lines_from [] input

-- a byte in front of the first field
unfoldable pub with_byte : ℕ → List (List ℕ) → List (List ℕ)
with_byte b [] = (b ∷ []) ∷ []
with_byte b (f ∷ fs) = (b ∷ f) ∷ fs

-- "one space parts two fields": a line with k spaces has k + 1 fields
unfoldable pub fields_of : List ℕ → List (List ℕ)
fields_of [] = [] ∷ []
fields_of (b ∷ line) = cond (eqb b space) ([] ∷ fields_of line) (with_byte b (fields_of line))

unfoldable pub some_empty : List (List ℕ) → Bool
some_empty [] = false
some_empty (f ∷ fs) = eqb (length f) 0 || some_empty fs

-- PATHS AND VALUES AS TEXT
-- each byte a as the byte b
unfoldable pub exchanged : ℕ → ℕ → List ℕ → List ℕ
exchanged a b [] = []
exchanged a b (c ∷ l) = cond (eqb c a) b c ∷ exchanged a b l

-- "Paths use / between components": each / is the 00 of a component, and a last 00 follows. Request S-1: the empty path "as a lone /". A byte
-- 00 in the text is no separator: such a text is that of no path. It stands for the single byte 00, which, unlike the empty path, no call takes.
unfoldable pub path_of : List ℕ → List ℕ
path_of text = cond (same text (slash ∷ [])) [] (cond (is_in 0 text) (0 ∷ []) (exchanged slash 0 text ++ (0 ∷ [])))

-- a path as the program prints it: without its last 00, and / for each other
unfoldable pub path_text : List ℕ → List ℕ
path_text p = exchanged 0 slash (take (length p - 1) p)

-- a hexadecimal digit of either case as its number; 16 for any other byte
unfoldable pub digit_of : ℕ → ℕ
digit_of b =
    cond (ltb b 0x30) 16 (cond (ltb b 0x3A) (b - 0x30)
    (cond (ltb b 0x41) 16 (cond (ltb b 0x47) (b - 55)
    (cond (ltb b 0x61) 16 (cond (ltb b 0x67) (b - 87) 16)))))

unfoldable pub behind : ℕ → Option (List ℕ) → Option (List ℕ)
behind b none = none
behind b (some v) = some (b ∷ v)

-- two digits a byte, the high one first; none for odd or wrong hexadecimal
unfoldable pub bytes_of : List ℕ → Option (List ℕ)
bytes_of [] = some []
bytes_of (a ∷ []) = none
bytes_of (a ∷ b ∷ hex) = cond (ltb 15 (digit_of a) || ltb 15 (digit_of b)) none (behind (16 * digit_of a + digit_of b) (bytes_of hex))

-- "HEX (- for empty)"
unfoldable pub value_of : List ℕ → Option (List ℕ)
value_of text = cond (same text (hyphen ∷ [])) (some []) (bytes_of text)

-- "Hexadecimal prints in small letters."
unfoldable pub digit_text : ℕ → ℕ
digit_text d = cond (ltb d 10) (0x30 + d) (87 + d)

unfoldable pub hex_text : List ℕ → List ℕ
hex_text [] = []
hex_text (b ∷ v) = digit_text (b / 16) ∷ digit_text (b % 16) ∷ hex_text v

-- "the value in hexadecimal or -"
unfoldable pub value_text : List ℕ → List ℕ
value_text [] = hyphen ∷ []
value_text (b ∷ v) = hex_text (b ∷ v)

-- WHAT A LINE ASKS FOR
pub data Command : Type 0 where
  acting : Act → Command
  getting : List ℕ → Command
  listing : List ℕ → Command
  bad : Command

-- put with the value that was read, if one was
unfoldable pub putting : List ℕ → Option (List ℕ) → Command
putting p none = bad
putting p (some v) = acting (put p v)

-- lines of one field, of two and of three
unfoldable pub word_alone : List ℕ → Command
word_alone w = cond (same w settle_word) (acting settle) (cond (same w tidy_word) (acting tidy) bad)

unfoldable pub word_and_path : List ℕ → List ℕ → Command
word_and_path w p =
    cond (same w drop_word) (acting (drops (path_of p))) (cond (same w clear_word) (acting (clear (path_of p)))
    (cond (same w get_word) (getting (path_of p)) (cond (same w list_word) (listing (path_of p)) bad)))

unfoldable pub word_and_two : List ℕ → List ℕ → List ℕ → Command
word_and_two w p q =
    cond (same w put_word) (putting (path_of p) (value_of q)) (cond (same w move_word) (acting (move (path_of p) (path_of q))) bad)

unfoldable pub read_fields : List (List ℕ) → Command
read_fields [] = bad
read_fields (w ∷ []) = word_alone w
read_fields (w ∷ p ∷ []) = word_and_path w p
read_fields (w ∷ p ∷ q ∷ []) = word_and_two w p q
read_fields (w ∷ p ∷ q ∷ r ∷ fs) = bad

-- "A line over 255 bytes .., with another word or field count, an empty field, or with odd or wrong hexadecimal .., gives bad."
abbrev pub line_limit : ℕ
line_limit = 255

unfoldable pub command_of : List ℕ → Command
command_of line = cond (ltb line_limit (length line) || some_empty (fields_of line)) bad (read_fields (fields_of line))

-- WHAT IS PRINTED
unfoldable pub bad_text : List ℕ
bad_text = 0x62 ∷ 0x61 ∷ 0x64 ∷ line_feed ∷ []

unfoldable pub ok_text : List ℕ
ok_text = 0x6F ∷ 0x6B ∷ line_feed ∷ []

unfoldable pub end_text : List ℕ
end_text = 0x65 ∷ 0x6E ∷ 0x64 ∷ line_feed ∷ []

-- a number below 100 in decimal
unfoldable pub decimal : ℕ → List ℕ
decimal k = cond (ltb k 10) ((0x30 + k) ∷ []) ((0x30 + k / 10) ∷ (0x30 + k % 10) ∷ [])

-- "Refusals print refused and the number."
unfoldable pub refused_text : ℕ → List ℕ
refused_text k = (0x72 ∷ 0x65 ∷ 0x66 ∷ 0x75 ∷ 0x73 ∷ 0x65 ∷ 0x64 ∷ space ∷ []) ++ (decimal k ++ (line_feed ∷ []))

-- the text of an accepted call, or the refusal
unfoldable pub text_at : ℕ → List ℕ → List ℕ
text_at zero text = text
text_at (suc k) text = refused_text (suc k)

-- "Put, drop, clear, move, settle and tidy print ok; get prints the value"
unfoldable pub answer_text : Answer → List ℕ
answer_text (number k) = text_at k ok_text
answer_text (filled k len buffer) = text_at k (value_text (take len buffer) ++ (line_feed ∷ []))

-- "path, space, value as get prints it, for each path below, rising, then end"
unfoldable pub row_text : Row → List ℕ
row_text r = path_text r.key ++ (space ∷ (value_text r.value ++ (line_feed ∷ [])))

unfoldable pub rows_text : List Row → List ℕ
rows_text [] = end_text
rows_text (r ∷ t) = row_text r ++ rows_text t

-- "with a malformed path only the refusal"
unfoldable pub list_text : List ℕ → List Row → List ℕ
list_text p t = cond (path_or_empty p) (rows_text (rows_below p t)) (refused_text 3)

-- the work area that the program lends, of the least length, and the buffer that it lends to get
unfoldable pub area : ℕ → List ℕ
area n = replicate (work_per_node * n) 0

unfoldable pub value_buffer : List ℕ
value_buffer = replicate value_limit 0

unfoldable pub call_text : ℕ → Call → List Row → List ℕ
call_text n c t = answer_text (answer_at (plain_first_no n c t) c t)

unfoldable pub command_text : ℕ → Command → List Row → List ℕ
command_text n (acting a) t = call_text n (acts a (area n)) t
command_text n (getting p) t = call_text n (asks (get p) value_buffer) t
command_text n (listing p) t = list_text p t
command_text n bad t = bad_text

unfoldable pub command_table : ℕ → Command → List Row → List Row
command_table n (acting a) t = table_at (plain_first_no n (acts a (area n)) t) (acts a (area n)) t
command_table n (getting p) t = t
command_table n (listing p) t = t
command_table n bad t = t

-- what a line prints, and the table after it
unfoldable pub said : ℕ → List ℕ → List Row → List ℕ
said n line t = command_text n (command_of line) t

unfoldable pub after_line : ℕ → List ℕ → List Row → List Row
after_line n line t = command_table n (command_of line) t

-- what the lines print one after another
unfoldable pub said_on : ℕ → List (List ℕ) → List Row → List ℕ
said_on n [] t = []
said_on n (line ∷ lines) t = said n line t ++ said_on n lines (after_line n line t)

-- and the table after them
unfoldable pub after_lines : ℕ → List (List ℕ) → List Row → List Row
after_lines n [] t = t
after_lines n (line ∷ lines) t = after_lines n lines (after_line n line t)

-- a 64-node store
abbrev pub program_nodes : ℕ
program_nodes = 64

-- all that is printed for all that is read, and the table at the end, where the store means the table t at the start
unfoldable pub printed_from : List Row → List ℕ → List ℕ
printed_from t input = said_on program_nodes (lines_of input) t

unfoldable pub table_from : List Row → List ℕ → List Row
table_from t input = after_lines program_nodes (lines_of input) t

-- "It makes a 64-node store and reads lines from standard input"
unfoldable pub printed_for : List ℕ → List ℕ
printed_for input = printed_from [] input
