-- Document 01, "Questions before a call acts": the calls with their arguments, the questions that each is asked, in order, and the
-- answers. (make and same stand apart, in Contract: demand 3's lists are calls on one store.)
use Rattle.std.specs.Prelude.{ℕ, zero, suc, ◌*◌, List, [], ◌∷◌, ◌++◌, Bool, true, false, ◌&&◌, ◌||◌, not, length, drop, ltb, leb}
use Rattle.image.specs.Prelude.{Option, none, some}
use Rattle.image.specs.Path.{well_formed, path_or_empty, may_move, value_fits, value_limit, path_limit}
use Rattle.image.specs.Table.{Row, find, is_some, with_row, without, rows_below, without_below, moved, least_after, every_key}

-- The calls that are lent a work area and change the map or the whole store; upkeep of one node; the calls that are lent a buffer.
pub data Act : Type 0 where
  put : List ℕ → List ℕ → Act
  drops : List ℕ → Act
  clear : List ℕ → Act
  move : List ℕ → List ℕ → Act
  settle : Act
  tidy : Act

pub data Upkeep : Type 0 where
  flush : Upkeep
  heal : Upkeep

pub data Query : Type 0 where
  get : List ℕ → Query
  next : List ℕ → List ℕ → Query

-- A call with all its arguments: act and the work area as it is before the call; flush or heal, the node number and the work area; query
-- and the buffer as it is before the call.
pub data Call : Type 0 where
  acts : Act → List ℕ → Call
  keeps : Upkeep → ℕ → List ℕ → Call
  asks : Query → List ℕ → Call

-- an answer: the number alone, or the number with a length and the whole buffer after the call
pub data Answer : Type 0 where
  number : ℕ → Answer
  filled : ℕ → ℕ → List ℕ → Answer

unfoldable pub number_of : Answer → ℕ
number_of (number k) = k
number_of (filled k len buffer) = k

-- a question with its number, and whether it is a yes
pub data Question : Type 0 where
  ask : ℕ → Bool → Question

-- the number of the first no, or 0
unfoldable pub first_no : List Question → ℕ
first_no [] = 0
first_no (ask k true ∷ qs) = first_no qs
first_no (ask k false ∷ qs) = k

-- Question 1, of the work area: "at least 128 × n bytes". Get and next have none.
abbrev pub work_per_node : ℕ
work_per_node = 128

unfoldable pub work_long : ℕ → Call → Bool
work_long n (acts a work) = leb (work_per_node * n) (length work)
work_long n (keeps u i work) = leb (work_per_node * n) (length work)
work_long n (asks q buffer) = true

unfoldable pub is_empty : List Row → Bool
is_empty [] = true
is_empty (r ∷ t) = false

-- The questions from 3 on that apply, in order, asked of a table t in a store of n nodes. (6 looks at nodes, and is asked elsewhere.) Request
-- S-1: clear's path and next's first one may be empty, as next's second may.
unfoldable pub act_questions : ℕ → Act → List Row → List Question
act_questions n (put p v) t =
    ask 3 (well_formed p) ∷ ask 4 (value_fits v) ∷ ask 10 (is_some (find p t) || ltb (length t) n) ∷ []
act_questions n (drops p) t = ask 3 (well_formed p) ∷ []
act_questions n (clear p) t = ask 3 (path_or_empty p) ∷ []
act_questions n (move from to) t =
    ask 3 (well_formed from && well_formed to)
    ∷ ask 7 (may_move from to)
    ∷ ask 8 (not (is_empty (rows_below from t)))
    ∷ ask 9 (every_key well_formed (moved from to t)) ∷ []
act_questions n settle t = []
act_questions n tidy t = []

unfoldable pub query_questions : Query → List ℕ → List Row → List Question
query_questions (get p) buffer t =
    ask 3 (well_formed p) ∷ ask 5 (leb value_limit (length buffer)) ∷ ask 8 (is_some (find p t)) ∷ []
query_questions (next p q) buffer t =
    ask 3 (path_or_empty p && path_or_empty q) ∷ ask 5 (leb path_limit (length buffer)) ∷ ask 8 (is_some (least_after p q t)) ∷ []

unfoldable pub questions : ℕ → Call → List Row → List Question
questions n (acts a work) t = act_questions n a t
questions n (keeps u i work) t = []
questions n (asks q buffer) t = query_questions q buffer t

-- what an accepted call makes of the table
unfoldable pub act_table : Act → List Row → List Row
act_table (put p v) t = with_row p v t
act_table (drops p) t = without p t
act_table (clear p) t = without_below p t
act_table (move from to) t = moved from to t
act_table settle t = t
act_table tidy t = t

unfoldable pub table_after : Call → List Row → List Row
table_after (acts a work) t = act_table a t
table_after (keeps u i work) t = t
table_after (asks q buffer) t = t

-- what a query finds
unfoldable pub found_by : Query → List Row → Option (List ℕ)
found_by (get p) t = find p t
found_by (next p q) t = least_after p q t

-- The bytes "at the front of a buffer", with their length; "later bytes of the buffer keep what they had".
unfoldable pub fill : List ℕ → Option (List ℕ) → Answer
fill buffer none = filled 0 0 buffer
fill buffer (some v) = filled 0 (length v) (v ++ drop (length v) buffer)

unfoldable pub accepted : Call → List Row → Answer
accepted (acts a work) t = number 0
accepted (keeps u i work) t = number 0
accepted (asks q buffer) t = fill buffer (found_by q t)

-- a refusal: "no byte of store or buffer changes, and every number beside it in the answer is 0"
unfoldable pub refused : Call → ℕ → Answer
refused (acts a work) k = number k
refused (keeps u i work) k = number k
refused (asks q buffer) k = filled k 0 buffer

-- what a call answers, and what it makes of the table, when k is its first no (0: none)
unfoldable pub answer_at : ℕ → Call → List Row → Answer
answer_at zero c t = accepted c t
answer_at (suc k) c t = refused c (suc k)

unfoldable pub table_at : ℕ → Call → List Row → List Row
table_at zero c t = table_after c t
table_at (suc k) c t = t
