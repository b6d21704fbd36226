-- Document 01, "Proved on the definitions, as one table", of which case 2 is that of put, drop, get and move since request S-1; and the cases of
-- requests S-1 and S-2. They hold by computation.
use Rattle.std.specs.Prelude.{ℕ, zero, suc, ◌*◌, ◌≡◌, refl, List, [], ◌∷◌, ◌++◌, true, false, length, replicate}
use Rattle.image.specs.Prelude.{none, some}
use Rattle.image.specs.Bytes.{same, before, begins, shared}
use Rattle.image.specs.Path.{letter, reads_on, well_formed, below, proper_beginning, may_move, owns, value_fits}
use Rattle.image.specs.Entry.{puts, clears}
use Rattle.image.specs.Table.{Row, find, is_some, with_row, without, rows_below, without_below, renamed, put_all, moved, rows_after, first_key, least_after, every_key, leads, rising, under_prefix}
use Rattle.image.specs.Image.{Tree, leaf, interior, end, tree, nodes_of, whole_nodes}
use Rattle.image.specs.Meaning.{says_of, newer, newest, decide, high_of, lookup, apply, apply_all, rows}
use Rattle.image.specs.Sound.{lowest, highest, values_fit, sound_message, sound_messages, first_pivot, sound_tree}
use Rattle.image.specs.Calls.{acts, asks, Act, put, drops as drop-act, clear, move, Query, get, next, Answer, filled, first_no, work_long, is_empty, act_questions, query_questions, questions, act_table, table_after, table_at, found_by, fill, accepted, refused, answer_at}
use Rattle.image.specs.PlainMap.{plain_first_no}
use Rattle.image.specs.Contract.{make_no}

-- a component of k bytes, with its 00
abbrev part : ℕ → List ℕ
part k = replicate k 0x61 ++ 0 ∷ []

-- components of the examples, each with its 00
abbrev r1 : List ℕ
r1 = 0x72 ∷ 0x31 ∷ 0 ∷ []

abbrev r2 : List ℕ
r2 = 0x72 ∷ 0x32 ∷ 0 ∷ []

abbrev r10 : List ℕ
r10 = 0x72 ∷ 0x31 ∷ 0x30 ∷ 0 ∷ []

abbrev a : List ℕ
a = 0x61 ∷ 0 ∷ []

abbrev b : List ℕ
b = 0x62 ∷ 0 ∷ []

abbrev x : List ℕ
x = 0x78 ∷ 0 ∷ []

abbrev bb : List ℕ
bb = 0x62 ∷ 0x62 ∷ 0 ∷ []

abbrev row : List ℕ → List ℕ → Row
row p v = record { key = p; value = v }

-- a work area for 32 nodes
abbrev area : List ℕ
area = replicate (128 * 32) 0

-- the number that the plain map of 32 nodes with the table t gives to an act
abbrev no : Act → List Row → ℕ
no x t = plain_first_no 32 (acts x area) t

-- and the table after it
abbrev then : Act → List Row → List Row
then x t = table_at (no x t) (acts x area) t

-- k different paths, rising
abbrev many : ℕ → ℕ → List Row
many zero c = []
many (suc k) c = row (c ∷ 0 ∷ []) [] ∷ many k (suc c)

-- the example of case 12: a root with one empty leaf, and three messages, oldest first
abbrev waiting : List ℕ → List ℕ → Tree
waiting v w = interior 2 (tree [] (leaf 1 []) end) (puts (r1 ++ a) v ∷ clears r1 ∷ puts (r1 ++ b) w ∷ [])

pub record Cases (v w : List ℕ) : Type 0 where
  c1_31 : make_no (31 * 1024) ≡ 1
  c1_32 : make_no (32 * 1024) ≡ 0
  c2_put : no (put [] []) [] ≡ 3
  c2_drop : no (drop-act []) [] ≡ 3
  c2_move : no (move [] r1) [] ≡ 3
  c2_move_to : no (move r1 []) [] ≡ 3
  c2_get : plain_first_no 32 (asks (get []) (replicate 48 0)) [] ≡ 3
  c3_16 : well_formed (part 16) ≡ true
  c3_17 : well_formed (part 17) ≡ false
  c4_64 : well_formed (part 16 ++ part 16 ++ part 16 ++ part 12) ≡ true
  c4_65 : well_formed (part 16 ++ part 16 ++ part 16 ++ part 13) ≡ false
  c5_8 : well_formed (a ++ a ++ a ++ a ++ a ++ a ++ a ++ a) ≡ true
  c5_9 : well_formed (a ++ a ++ a ++ a ++ a ++ a ++ a ++ a ++ a) ≡ false
  c6 : shared r1 (r1 ++ 0xFF ∷ []) ≡ r1
  c7 : then (clear r1) (row r1 v ∷ row r10 w ∷ []) ≡ row r10 w ∷ []
  c8 : then (move r1 r2) (row (r1 ++ a) v ∷ row (r2 ++ x) w ∷ []) ≡ row (r2 ++ a) v ∷ []
  c9 : no (move r1 (r1 ++ x)) (row (r1 ++ a) v ∷ []) ≡ 7
  c10 : no (move r1 r2) (row (r2 ++ x) w ∷ []) ≡ 8
  c10_kept : then (move r1 r2) (row (r2 ++ x) w ∷ []) ≡ row (r2 ++ x) w ∷ []
  c11_64 : length (a ++ part 16 ++ part 16 ++ part 16 ++ part 10) ≡ 64
  c11 : no (move a bb) (row (a ++ part 16 ++ part 16 ++ part 16 ++ part 10) v ∷ []) ≡ 9
  c12_a : lookup (waiting v w) lowest highest (r1 ++ a) ≡ none
  c12_b : lookup (waiting v w) lowest highest (r1 ++ b) ≡ some w
  c12 : rows (waiting v w) lowest highest ≡ row (r1 ++ b) w ∷ []
  c13 : no (put r1 []) (many 32 0x30) ≡ 10
  c13_over : no (put (0x31 ∷ 0 ∷ []) []) (many 32 0x30) ≡ 0
  c13_value : find (0x31 ∷ 0 ∷ []) (then (put (0x31 ∷ 0 ∷ []) (7 ∷ [])) (many 32 0x30)) ≡ some (7 ∷ [])

pub cases : (v w : List ℕ) → Cases v w
unfolding same before begins shared letter reads_on well_formed below proper_beginning may_move value_fits find is_some with_row without rows_below without_below renamed put_all moved every_key under_prefix nodes_of whole_nodes says_of newer newest decide high_of owns lookup apply apply_all rows first_no work_long is_empty act_questions query_questions questions act_table table_after table_at least_after rows_after first_key plain_first_no make_no
cases v w =
    record {
      c1_31 = refl;
      c1_32 = refl;
      c2_put = refl;
      c2_drop = refl;
      c2_move = refl;
      c2_move_to = refl;
      c2_get = refl;
      c3_16 = refl;
      c3_17 = refl;
      c4_64 = refl;
      c4_65 = refl;
      c5_8 = refl;
      c5_9 = refl;
      c6 = refl;
      c7 = refl;
      c8 = refl;
      c9 = refl;
      c10 = refl;
      c10_kept = refl;
      c11_64 = refl;
      c11 = refl;
      c12_a = refl;
      c12_b = refl;
      c12 = refl;
      c13 = refl;
      c13_over = refl;
      c13_value = refl;
    }

-- Request S-1: "the empty path is accepted by clear, and as next's first path, and every path is below it".
abbrev room : List ℕ
room = replicate 64 0

-- what the plain map of 32 nodes with the table t answers to a query
abbrev told : Query → List Row → Answer
told q t = answer_at (plain_first_no 32 (asks q room) t) (asks q room) t

pub record WholeUnit (p v w : List ℕ) : Type 0 where
  every_path : below p [] ≡ true
  clear_taken : no (clear []) (row r1 v ∷ row r10 w ∷ []) ≡ 0
  clear_all : then (clear []) (row r1 v ∷ row r10 w ∷ []) ≡ []
  clear_zero : no (clear (0 ∷ [])) [] ≡ 3
  next_first : told (next [] []) (row r1 v ∷ row r10 w ∷ []) ≡ filled 0 3 (r1 ++ replicate 61 0)
  next_later : told (next [] r1) (row r1 v ∷ row r10 w ∷ []) ≡ filled 0 4 (r10 ++ replicate 60 0)
  next_last : told (next [] r10) (row r1 v ∷ row r10 w ∷ []) ≡ filled 8 0 room
  next_none : told (next [] []) [] ≡ filled 8 0 room
  next_zero : told (next (0 ∷ []) []) [] ≡ filled 3 0 room

pub whole-unit : (p v w : List ℕ) → WholeUnit p v w
unfolding same before begins letter reads_on well_formed below without rows_below without_below rows_after first_key least_after is_some first_no work_long act_questions query_questions questions act_table table_after table_at found_by fill accepted refused answer_at plain_first_no
whole-unit p v w =
    record {
      every_path = refl;
      clear_taken = refl;
      clear_all = refl;
      clear_zero = refl;
      next_first = refl;
      next_later = refl;
      next_last = refl;
      next_none = refl;
      next_zero = refl;
    }

-- Request S-2: "The value limit becomes 48 bytes, and get's buffer must hold 48." Question 4, "get's part of 5 and a sound image's values".
abbrev note : ℕ → List ℕ
note k = replicate k 0x6e

-- the number that a get of r1 with a buffer of k bytes gives, where r1's value is v
abbrev get_no : ℕ → List ℕ → ℕ
get_no k v = plain_first_no 32 (asks (get r1) (replicate k 0)) (row r1 v ∷ [])

-- trees with one value, in a pair and in a waiting put
abbrev pair_of : List ℕ → Tree
pair_of v = leaf 1 (row r1 v ∷ [])

abbrev put_of : List ℕ → Tree
put_of v = interior 2 (tree [] (leaf 1 []) end) (puts r1 v ∷ [])

pub record LongerNotes (v : List ℕ) : Type 0 where
  put_48 : no (put r1 (note 48)) [] ≡ 0
  put_49 : no (put r1 (note 49)) [] ≡ 4
  put_path_first : no (put [] (note 49)) [] ≡ 3
  put_long_and_full : no (put r1 (note 49)) (many 32 0x30) ≡ 4
  put_there : then (put r1 (note 48)) (row r1 v ∷ []) ≡ row r1 (note 48) ∷ []
  get_48 : get_no 48 v ≡ 0
  get_47 : get_no 47 v ≡ 5
  get_32 : get_no 32 [] ≡ 5
  get_all : fill (replicate 48 0) (found_by (get r1) (row r1 (note 48) ∷ [])) ≡ filled 0 48 (note 48)
  pair_48 : sound_tree (pair_of (note 48)) lowest highest ≡ true
  pair_49 : sound_tree (pair_of (note 49)) lowest highest ≡ false
  waiting_48 : sound_tree (put_of (note 48)) lowest highest ≡ true
  waiting_49 : sound_tree (put_of (note 49)) lowest highest ≡ false

pub longer-notes : (v : List ℕ) → LongerNotes v
unfolding same before begins shared letter reads_on well_formed owns value_fits find is_some with_row every_key leads rising under_prefix high_of values_fit sound_message sound_messages first_pivot sound_tree first_no work_long act_questions query_questions questions act_table table_after table_at found_by fill plain_first_no
longer-notes v =
    record {
      put_48 = refl;
      put_49 = refl;
      put_path_first = refl;
      put_long_and_full = refl;
      put_there = refl;
      get_48 = refl;
      get_47 = refl;
      get_32 = refl;
      get_all = refl;
      pair_48 = refl;
      pair_49 = refl;
      waiting_48 = refl;
      waiting_49 = refl;
    }

-- a clear, and a move, on a table of 64 rows compute quickly too
wide : then (clear r1) (many 64 0x30) ≡ many 64 0x30
unfolding same before begins shared letter reads_on well_formed below proper_beginning may_move value_fits find is_some with_row without rows_below without_below renamed put_all moved every_key under_prefix first_no work_long is_empty act_questions questions act_table table_after table_at plain_first_no
wide = refl

wide-move : length (then (move (0x31 ∷ 0 ∷ []) r1) (many 64 0x30)) ≡ 64
unfolding same before begins shared letter reads_on well_formed below proper_beginning may_move value_fits find is_some with_row without rows_below without_below renamed put_all moved every_key under_prefix first_no work_long is_empty act_questions questions act_table table_after table_at plain_first_no
wide-move = refl
