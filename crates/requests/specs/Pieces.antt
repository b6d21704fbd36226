-- The request that a piece stands for, the requests that are left to be read, and what the readers promise.
use Rattle.std.specs.Prelude.{ℕ, ◌+◌, ◌≤◌, ◌≡◌, List, [], ◌∷◌, ◌++◌, length}
use Rattle.image.specs.Prelude.{none, some}
use Rattle.image.specs.Path.{path_limit, value_limit}
use Rattle.image.specs.Bytes.{u16, u16_bytes}
use Rattle.image.specs.Calls as calls
use Rattle.image.specs.Batch.{Request, acting, keeping, asking, request_of, first_request, behind, requests_of}
use Rattle.requests.specs.declared.Change.{Change}
use Rattle.requests.specs.declared.Query.{Query}
use Rattle.requests.specs.declared.Piece.{Piece}
use Rattle.requests.specs.declared.Pieces.{Pieces}

abbrev pub change_is : Change → Request
change_is (Change.Put p v) = acting (calls.put p.now v.now)
change_is (Change.Drop p) = acting (calls.drops p.now)
change_is (Change.Clear p) = acting (calls.clear p.now)
change_is (Change.Move p q) = acting (calls.move p.now q.now)
change_is Change.Settle = acting calls.settle
change_is Change.Tidy = acting calls.tidy
change_is (Change.Flush i) = keeping calls.flush i
change_is (Change.Heal i) = keeping calls.heal i

abbrev pub query_is : Query → Request
query_is (Query.Get p) = asking (calls.get p.now)
query_is (Query.Next p q) = asking (calls.next p.now q.now)

abbrev pub request_is : Piece → Request
request_is (Piece.Change c) = change_is c
request_is (Piece.Query q) = query_is q

abbrev pub requests_left : Pieces → List Request
requests_left it = requests_of it.rest.now

-- a rest that is the number of a node, or is not
abbrev pub NotNode : List ℕ → Type 0
NotNode r = length r ≡ 2 → ⊥

abbrev pub IsNode : List ℕ → ℕ → Type 0
IsNode r i = (length r ≡ 2) × (i ≡ u16 r 0)

-- a rest that is no request of a kind, or is one
abbrev pub NotOf : ℕ → List ℕ → Type 0
NotOf kind r = request_of kind r ≡ none

abbrev pub IsOf : ℕ → List ℕ → Piece → Type 0
IsOf kind r p = request_of kind r ≡ some (request_is p)

-- bytes that no piece begins; a piece and the bytes behind it
pub record Unread (s : List ℕ) : Type 0 where
  pub first : first_request s ≡ none
  pub lists : requests_of s ≡ []

pub record Leads (s : List ℕ) (p : Piece) (r : List ℕ) : Type 0 where
  pub first : first_request s ≡ some (request_is p)
  pub later : behind s ≡ r
  pub lists : requests_of s ≡ request_is p ∷ requests_of r
  pub shorter : length r + 4 ≤ length s

unfoldable pub query_most : Query → ℕ
query_most (Query.Get p) = 4 + value_limit
query_most (Query.Next p q) = 4 + path_limit

-- the first four bytes of an answer
abbrev pub head_bytes : ℕ → ℕ → List ℕ
head_bytes len number = u16_bytes len ++ u16_bytes number
