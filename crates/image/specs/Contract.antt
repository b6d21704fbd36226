-- The contract of each call: what holds of the store before, the call, its answer, and the store and the work area after it; and lists
-- of calls. Every public function's promise is one of the records Meets, MakeMeets, SameMeets and CheckMeets, or a record of Listing or Batch.
use Rattle.std.specs.Prelude.{ℕ, zero, suc, ◌+◌, ◌*◌, ◌≤◌, ◌≡◌, List, [], ◌∷◌, ◌++◌, Bool, true, false, ◌&&◌, cond, length, drop, replicate}
use Rattle.image.specs.Prelude.{Option, none, some}
use Rattle.image.specs.Bytes.{same}
use Rattle.image.specs.Table.{Row}
use Rattle.image.specs.Image.{Forest, end, tree, nodes_of, whole_nodes, header_of}
use Rattle.image.specs.Sound.{sound, table_of}
use Rattle.image.specs.Upkeep.{Reachable, reachable_nodes, reachable_at, settled, flushed, healed, tidied, free_nodes, changed}
use Rattle.image.specs.Calls.{Call, acts, keeps, asks, put, drops, clear, move, settle, tidy, Upkeep, flush, heal, Answer, Question, ask, first_no, work_long, work_per_node, questions, answer_at, table_at}

-- make is asked question 1 alone, of the length of its store: the number of its answer
unfoldable pub make_no : ℕ → ℕ
make_no len = first_no (ask 1 (whole_nodes len) ∷ [])

-- question 6: "Is the number that of a reachable interior node?"
unfoldable pub has_children : Forest → Bool
has_children end = false
has_children (tree s t f) = true

unfoldable pub is_interior : Option Reachable → Bool
is_interior none = false
is_interior (some x) = has_children x.children

unfoldable pub node_questions : Call → List ℕ → List Question
node_questions (acts a work) s = []
node_questions (keeps u i work) s = ask 6 (is_interior (reachable_at i (reachable_nodes s))) ∷ []
node_questions (asks q buffer) s = []

-- all questions, in order, of a call on the store s: the number of its answer
unfoldable pub first_no_on : List ℕ → Call → ℕ
first_no_on s c =
    first_no (ask 1 (whole_nodes (length s) && work_long (nodes_of (length s)) c)
    ∷ ask 2 (sound s)
    ∷ node_questions c s ++ questions (nodes_of (length s)) c (table_of s))

-- The stores that demand 3's bound speaks of: settled, of L levels, at most 7, with at least 12 × L + 8 free nodes.
pub record Bounded (s : List ℕ) : Type 0 where
  pub is_settled : settled s ≡ true
  pub low : (header_of s).levels ≤ 7
  pub free : 12 * (header_of s).levels + 8 ≤ free_nodes s

-- What an accepted move keeps besides the map: "If from equals to, no byte of the store changes"; and on a bounded store it changes at
-- most 16 × L + 8 nodes.
pub record MoveKeeps (s s' from to : List ℕ) : Type 0 where
  pub unmoved : from ≡ to → s' ≡ s
  pub few : Bounded s → changed (nodes_of (length s)) s s' ≤ 16 * (header_of s).levels + 8

-- what an accepted flush or heal of the place x leaves
unfoldable pub upkeep_rule : Upkeep → Option Reachable → List Reachable → List Reachable → Bool
upkeep_rule u none was after = true
upkeep_rule flush (some x) was after = flushed x was after
upkeep_rule heal (some x) was after = healed x was after

-- what an accepted call keeps besides the map: get and next leave the store
unfoldable pub Besides : Call → List ℕ → List ℕ → Type 0
Besides (acts (put p v) work) s s' = Unit {0}
Besides (acts (drops p) work) s s' = Unit {0}
Besides (acts (clear p) work) s s' = Unit {0}
Besides (acts (move from to) work) s s' = MoveKeeps s s' from to
Besides (acts settle work) s s' = settled s' ≡ true
Besides (acts tidy work) s s' = tidied s' ≡ true
Besides (keeps u i work) s s' = upkeep_rule u (reachable_at i (reachable_nodes s)) (reachable_nodes s) (reachable_nodes s') ≡ true
Besides (asks q buffer) s s' = s' ≡ s

-- The work area after a call of which k is the first no: "an accepted call leaves those first 128 × n bytes zero and the later ones
-- unchanged"; it counts as a buffer, so a refused call leaves it as it was.
unfoldable pub work_at : ℕ → ℕ → Call → List ℕ
work_at zero n (acts a work) = replicate (work_per_node * n) 0 ++ drop (work_per_node * n) work
work_at zero n (keeps u i work) = replicate (work_per_node * n) 0 ++ drop (work_per_node * n) work
work_at zero n (asks q buffer) = []
work_at (suc k) n (acts a work) = work
work_at (suc k) n (keeps u i work) = work
work_at (suc k) n (asks q buffer) = []

-- The contract of one call. Answer, table and work area are equations with the definitions; a refusal leaves the store; an accepted call
-- leaves a sound store of that size. Left free: the layout of the store after an accepted call, where no rule fixes it.
pub record Meets (s : List ℕ) (c : Call) (a : Answer) (s' w' : List ℕ) : Type 0 where
  pub size : length s' ≡ length s
  pub answer : a ≡ answer_at (first_no_on s c) c (table_of s)
  pub work : w' ≡ work_at (first_no_on s c) (nodes_of (length s)) c
  pub table : table_of s' ≡ table_at (first_no_on s c) c (table_of s)
  pub stays : (k : ℕ) → first_no_on s c ≡ suc k → s' ≡ s
  pub leaves : first_no_on s c ≡ 0 → sound s' ≡ true
  pub also : first_no_on s c ≡ 0 → Besides c s s'

-- a store just made
pub record Made (s : List ℕ) : Type 0 where
  pub whole : whole_nodes (length s) ≡ true
  pub is_sound : sound s ≡ true
  pub empty : table_of s ≡ []

-- The contract of make: asked question 1 alone; it leaves a sound image of the empty map.
pub record MakeMeets (s : List ℕ) (number : ℕ) (s' : List ℕ) : Type 0 where
  pub size : length s' ≡ length s
  pub answer : number ≡ make_no (length s)
  pub stays : (k : ℕ) → make_no (length s) ≡ suc k → s' ≡ s
  pub leaves : make_no (length s) ≡ 0 → Made s'

-- The contract of same: 1 and 2 of each store; "the same when they hold the same paths; it gives 1 then, else 0".
unfoldable pub same_keys : List Row → List Row → Bool
same_keys [] [] = true
same_keys [] (q ∷ u) = false
same_keys (r ∷ t) [] = false
same_keys (r ∷ t) (q ∷ u) = same r.key q.key && same_keys t u

unfoldable pub same_no : List ℕ → List ℕ → ℕ
same_no s t = first_no (ask 1 (whole_nodes (length s) && whole_nodes (length t)) ∷ ask 2 (sound s && sound t) ∷ [])

unfoldable pub same_at : ℕ → List ℕ → List ℕ → ℕ
same_at zero s t = cond (same_keys (table_of s) (table_of t)) 1 0
same_at (suc k) s t = 0

pub record SameMeets (s t : List ℕ) (number verdict : ℕ) : Type 0 where
  pub answer : number ≡ same_no s t
  pub beside : verdict ≡ same_at (same_no s t) s t

-- The contract of check, which is ours and not document 01's: questions 1 and 2 alone; beside a 0, how many paths the store holds.
unfoldable pub check_no : List ℕ → ℕ
check_no s = first_no (ask 1 (whole_nodes (length s)) ∷ ask 2 (sound s) ∷ [])

unfoldable pub check_at : ℕ → List ℕ → ℕ
check_at zero s = length (table_of s)
check_at (suc k) s = 0

pub record CheckMeets (s : List ℕ) (number paths : ℕ) : Type 0 where
  pub answer : number ≡ check_no s
  pub beside : paths ≡ check_at (check_no s) s

-- a list of calls, each on the store as the last one left it, with the answers and the store at the end
pub data Run : List ℕ → List Call → List Answer → List ℕ → Type 0 where
  stop : {s : List ℕ} → Run s [] [] s
  call : {s s' s'' w' : List ℕ} {c : Call} {a : Answer} {cs : List Call} {later : List Answer}
      → Meets s c a s' w' → Run s' cs later s'' → Run s (c ∷ cs) (a ∷ later) s''
