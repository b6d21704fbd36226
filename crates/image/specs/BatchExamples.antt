-- A few batches read by computation: each kind once, and pieces that do not read, each of which ends the batch in front of it.
use Rattle.std.specs.Prelude.{ℕ, ◌+◌, ◌≡◌, refl, List, [], ◌∷◌, ◌++◌, length, replicate}
use Rattle.image.specs.Bytes.{u16, u16_bytes}
use Rattle.image.specs.Path.{value_limit}
use Rattle.image.specs.Calls.{put, drops, clear, move, settle, tidy, flush, heal, get, next, number, filled}
use Rattle.image.specs.Batch.{Request, acting, keeping, asking, two_of, node_of, plain_of, request_of, first_request, behind, request_then, requests_in, requests_of, answer_bytes, most_bytes}

-- a and b are paths of one component
abbrev a : List ℕ
a = 0x61 ∷ 0 ∷ []

abbrev b : List ℕ
b = 0x62 ∷ 0 ∷ []

-- a piece: its rest's length, its kind, its rest
abbrev piece : ℕ → List ℕ → List ℕ
piece kind rest = u16_bytes (length rest) ++ u16_bytes kind ++ rest

abbrev read : List ℕ → List Request → Type 0
read bytes rs = requests_of bytes ≡ rs

pub record BatchExamples : Type 0 where
  none_at_all : read [] []
  a_put : read (piece 0x20 (2 ∷ 0 ∷ a ++ (7 ∷ []))) (acting (put a (7 ∷ [])) ∷ [])
  an_empty_value : read (piece 0x20 (2 ∷ 0 ∷ a)) (acting (put a []) ∷ [])
  three : read (piece 0x21 a ++ piece 0x30 b ++ piece 0x40 []) (acting (drops a) ∷ asking (get b) ∷ acting settle ∷ [])
  clear_move : read (piece 0x22 a ++ piece 0x24 (2 ∷ 0 ∷ a ++ b)) (acting (clear a) ∷ acting (move a b) ∷ [])
  clear_all : read (piece 0x22 []) (acting (clear []) ∷ [])
  list_step : read (piece 0x31 (2 ∷ 0 ∷ a)) (asking (next a []) ∷ [])
  list_all : read (piece 0x31 (0 ∷ 0 ∷ b)) (asking (next [] b) ∷ [])
  upkeep : read (piece 0x41 [] ++ piece 0x42 (3 ∷ 1 ∷ []) ++ piece 0x43 (0 ∷ 0 ∷ [])) (acting tidy ∷ keeping flush 259 ∷ keeping heal 0 ∷ [])
  -- what does not read: an unknown kind, a length past the bytes or past the rest, a settle with a byte, a flush with one
  unknown : read (piece 0x21 a ++ piece 0x23 (2 ∷ 0 ∷ a ++ b) ++ piece 0x21 b) (acting (drops a) ∷ [])
  cut_short : read (piece 0x21 a ++ (2 ∷ 0 ∷ 0x21 ∷ 0 ∷ 0x61 ∷ [])) (acting (drops a) ∷ [])
  three_bytes : read (piece 0x40 [] ++ (0 ∷ 0 ∷ 0x40 ∷ [])) (acting settle ∷ [])
  long_path : read (piece 0x20 (3 ∷ 0 ∷ a)) []
  settle_with : read (piece 0x40 (0 ∷ [])) []
  flush_with : read (piece 0x42 (3 ∷ [])) []
  -- answers
  an_outcome : answer_bytes (number 10) ≡ 0 ∷ 0 ∷ 10 ∷ 0 ∷ []
  a_value : answer_bytes (filled 0 1 (7 ∷ replicate 63 0)) ≡ 1 ∷ 0 ∷ 0 ∷ 0 ∷ 7 ∷ []
  an_absence : answer_bytes (filled 8 0 (replicate 64 0)) ≡ 0 ∷ 0 ∷ 8 ∷ 0 ∷ []
  most_get : most_bytes (asking (get a)) ≡ 4 + value_limit
  most_next : most_bytes (asking (next a b)) ≡ 68

pub batch-examples : BatchExamples
unfolding u16 two_of node_of plain_of request_of first_request behind request_then requests_in requests_of answer_bytes most_bytes
batch-examples =
    record {
      none_at_all = refl;
      a_put = refl;
      an_empty_value = refl;
      three = refl;
      clear_move = refl;
      clear_all = refl;
      list_step = refl;
      list_all = refl;
      upkeep = refl;
      unknown = refl;
      cut_short = refl;
      three_bytes = refl;
      long_path = refl;
      settle_with = refl;
      flush_with = refl;
      an_outcome = refl;
      a_value = refl;
      an_absence = refl;
      most_get = refl;
      most_next = refl;
    }
