-- A list of calls as bytes, and their answers as bytes: how a batch is read, which calls it makes, and the contract of the function that
-- carries it out. After questions 1 and 2 the calls are those of Contract, each on the store as the last one left it.
use Rattle.std.specs.Prelude.{ℕ, zero, suc, ◌+◌, ◌*◌, ◌-◌, ◌<◌, ◌≤◌, ◌≡◌, List, [], ◌∷◌, ◌++◌, true, ◌&&◌, cond, length, take, drop, replicate, leb, eqb}
use Rattle.image.specs.Prelude.{Option, none, some}
use Rattle.image.specs.Bytes.{u16, u16_bytes}
use Rattle.image.specs.Path.{value_limit, path_limit}
use Rattle.image.specs.Image.{nodes_of, whole_nodes}
use Rattle.image.specs.Sound.{sound}
use Rattle.image.specs.Calls.{Act, put, drops, clear, move, settle, tidy, Upkeep, flush, heal, Query, get, next, Call, acts, keeps, asks, Answer, number, filled, ask, first_no, work_per_node}
use Rattle.image.specs.Contract.{Run}

-- A call as it stands in a batch: with its paths, value or node, and without a work area or a buffer.
pub data Request : Type 0 where
  acting : Act → Request
  keeping : Upkeep → ℕ → Request
  asking : Query → Request

-- THE CALLS READ
-- u16 length of the first string, both strings, which fill the rest r exactly
unfoldable pub two_of : (List ℕ → List ℕ → Request) → List ℕ → Option Request
two_of make r =
    cond (leb 2 (length r) && leb (u16 r 0) (length r - 2))
    (some (make (take (u16 r 0) (drop 2 r)) (drop (u16 r 0) (drop 2 r)))) none

-- u16 node number
unfoldable pub node_of : Upkeep → List ℕ → Option Request
node_of u r = cond (eqb (length r) 2) (some (keeping u (u16 r 0))) none

-- an empty rest
unfoldable pub plain_of : Act → List ℕ → Option Request
plain_of a r = cond (eqb (length r) 0) (some (acting a)) none

-- The request of this kind whose rest is r. The kinds are hexadecimal; put, drop and clear have those of the messages. 0023 does not read: it is
-- kept for the message that request S-11 brings.
unfoldable pub request_of : ℕ → List ℕ → Option Request
request_of kind r =
    cond (eqb kind 0x0020) (two_of (λ p v. acting (put p v)) r)
    (cond (eqb kind 0x0021) (some (acting (drops r)))
    (cond (eqb kind 0x0022) (some (acting (clear r)))
    (cond (eqb kind 0x0024) (two_of (λ p q. acting (move p q)) r)
    (cond (eqb kind 0x0030) (some (asking (get r)))
    (cond (eqb kind 0x0031) (two_of (λ p q. asking (next p q)) r)
    (cond (eqb kind 0x0040) (plain_of settle r)
    (cond (eqb kind 0x0041) (plain_of tidy r)
    (cond (eqb kind 0x0042) (node_of flush r)
    (cond (eqb kind 0x0043) (node_of heal r) none)))))))))

-- the piece at the front of the bytes: a u16 length of its rest, a u16 kind and the rest, where they read
unfoldable pub first_request : List ℕ → Option Request
first_request s =
    cond (leb 4 (length s) && leb (u16 s 0) (length s - 4)) (request_of (u16 s 2) (take (u16 s 0) (drop 4 s))) none

-- the bytes behind that piece
unfoldable pub behind : List ℕ → List ℕ
behind s = drop (4 + u16 s 0) s

-- a request in front of the later ones; a piece that does not read ends the batch in front of it
unfoldable pub request_then : Option Request → List Request → List Request
request_then none rs = []
request_then (some r) rs = r ∷ rs

-- The requests of a batch. The first number bounds how many there are: a piece is at least 4 bytes, so the number of the bytes is enough.
unfoldable pub requests_in : ℕ → List ℕ → List Request
requests_in zero s = []
requests_in (suc more) s = request_then (first_request s) (requests_in more (behind s))

unfoldable pub requests_of : List ℕ → List Request
requests_of s = requests_in (length s) s

-- the call of a request: every call is lent the same work area, each get and next a buffer of its own of 64 zero bytes
abbrev pub fresh_buffer : List ℕ
fresh_buffer = replicate 64 0

unfoldable pub call_of : List ℕ → Request → Call
call_of work (acting a) = acts a work
call_of work (keeping u i) = keeps u i work
call_of work (asking q) = asks q fresh_buffer

unfoldable pub calls_of : List ℕ → List Request → List Call
calls_of work [] = []
calls_of work (r ∷ rs) = call_of work r ∷ calls_of work rs

-- THE ANSWERS WRITTEN
-- u16 length, u16 number, then so many bytes: a get's value, a next's path
unfoldable pub answer_bytes : Answer → List ℕ
answer_bytes (number k) = u16_bytes 0 ++ u16_bytes k
answer_bytes (filled k len buffer) = u16_bytes len ++ u16_bytes k ++ take len buffer

unfoldable pub answers_bytes : List Answer → List ℕ
answers_bytes [] = []
answers_bytes (a ∷ later) = answer_bytes a ++ answers_bytes later

-- how many bytes the answer of a request takes at most
unfoldable pub most_bytes : Request → ℕ
most_bytes (acting a) = 4
most_bytes (keeping u i) = 4
most_bytes (asking (get p)) = 4 + value_limit
most_bytes (asking (next p q)) = 4 + path_limit

-- why a batch stops: no request is left, or the next one's answer might not fit in the room that is left for answers
unfoldable pub Stopped : List Request → ℕ → Type 0
Stopped [] room = Unit {0}
Stopped (r ∷ rs) room = room < most_bytes r

-- why a batch went as far as it did: each call done had room for the longest answer of its request, the room falling by each answer written
unfoldable pub HadRoom : List Request → List Answer → ℕ → Type 0
HadRoom [] given room = Unit {0}
HadRoom (r ∷ rs) [] room = ⊥
HadRoom (r ∷ rs) (a ∷ given) room = (most_bytes r ≤ room) × HadRoom rs given (room - length (answer_bytes a))

-- THE CONTRACT
-- questions 1 and 2, asked once: the number of the first no, or 0
unfoldable pub batch_no : List ℕ → List ℕ → ℕ
batch_no s work =
    first_no (ask 1 (whole_nodes (length s) && leb (work_per_node * nodes_of (length s)) (length work)) ∷ ask 2 (sound s) ∷ [])

-- the work area with its first 128 × n bytes zero
abbrev pub zeroed : ℕ → List ℕ → List ℕ
zeroed n work = replicate (work_per_node * n) 0 ++ drop (work_per_node * n) work

-- A batch that was judged sound, of the requests rs: the first `done` of them are a run of calls, and their answers stand in front.
pub record BatchRuns (s work : List ℕ) (rs : List Request) (out : List ℕ) (done written : ℕ) (s' work' out' : List ℕ) : Type 0 where
  pub given : List Answer
  pub run : Run s (calls_of (zeroed (nodes_of (length s)) work) (take done rs)) given s'
  pub size : length s' ≡ length s
  pub is_sound : sound s' ≡ true
  pub area : work' ≡ zeroed (nodes_of (length s)) work
  pub answers : out' ≡ answers_bytes given ++ drop written out
  pub length_is : written ≡ length (answers_bytes given)
  pub fits : written ≤ length out
  pub among : done ≤ length rs
  pub had_room : HadRoom (take done rs) given (length out)
  pub stopped : Stopped (drop done rs) (length out - written)

-- The contract of batch. A refusal changes nothing; refusals of calls inside the list are answers like any other.
pub record BatchMeets (s work calls out : List ℕ) (no done written : ℕ) (s' work' out' : List ℕ) : Type 0 where
  pub answer : no ≡ batch_no s work
  pub refuses : (k : ℕ) → batch_no s work ≡ suc k → (s' ≡ s) × (work' ≡ work) × (out' ≡ out) × (done ≡ 0) × (written ≡ 0)
  pub runs : batch_no s work ≡ 0 → BatchRuns s work (requests_of calls) out done written s' work' out'
