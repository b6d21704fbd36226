-- Two neighbouring children of a node as one, as the code weighs and writes them: pivots and suffixes are without what the node lifts.
-- Definitions only; the laws that join them to `join_at` of laws/Upkeep stand beside.
use Rattle.std.specs.Prelude.{ℕ, ◌+◌, ◌*◌, List, [], ◌∷◌, ◌++◌, Bool, true, false, ◌&&◌, cond, length, drop, ltb, leb, eqb}
use Rattle.image.specs.Bytes.{u16, shared}
use Rattle.image.specs.Entry.{Entry, pair, child, message}
use Rattle.image.specs.Image.{Branch, nodes_of}
use Rattle.laws.specs.Encode.{bytes_of_all}
use Rattle.laws.specs.WriteNode.{write_node}
use Rattle.laws.specs.Page.{page}
use Rattle.laws.specs.Reading.Relative.{branch_high}
use Rattle.lookup.specs.Look.{listing}

-- an entry with more bytes in front of its suffix
unfoldable pub prefixed : List ℕ → Entry → Entry
prefixed more (pair k v) = pair (more ++ k) v
prefixed more (child i k) = child i (more ++ k)
prefixed more (message m) = message m

unfoldable pub prefixed_all : List ℕ → List Entry → List Entry
prefixed_all more [] = []
prefixed_all more (e ∷ es) = prefixed more e ∷ prefixed_all more es

-- How many bytes an entry takes whose suffix grows by so many: an entry that no joined node may hold takes more than a node has.
unfoldable pub weight : ℕ → Entry → ℕ
weight n (pair k v) = 6 + (n + length k) + length v
weight n (child i k) = cond (leb (n + length k) 65 && ltb i 65536) (6 + (n + length k)) 1017
weight n (message m) = 1017

-- the bytes of entries behind so many; once there are too many no more are counted
unfoldable pub weights : ℕ → List Entry → ℕ → ℕ
weights n [] used = used
weights n (e ∷ es) used = cond (ltb 1016 used) used (weights n es (used + weight n e))

unfoldable pub node_weight : ℕ → List ℕ → ℕ → ℕ → ℕ
node_weight n s i used = cond (ltb i (nodes_of (length s)) && leb (u16 s (i * 1024)) 1016) (weights n (listing s i) used) 1017

-- what the left one and the right one of two neighbours with the pivots lo, mid, hi lifted, and the two as one do not
unfoldable pub left_more : List ℕ → List ℕ → List ℕ → List ℕ
left_more lo mid hi = drop (length (shared lo hi)) (shared lo mid)

unfoldable pub right_more : List ℕ → List ℕ → List ℕ → List ℕ
right_more lo mid hi = drop (length (shared lo hi)) (shared mid hi)

-- one node holds both
unfoldable pub pair_fits : List ℕ → ℕ → ℕ → List ℕ → List ℕ → List ℕ → Bool
pair_fits s a b lo mid hi = leb (node_weight (length (right_more lo mid hi)) s b (node_weight (length (left_more lo mid hi)) s a 0)) 1016

-- the entries but the child of this number
unfoldable pub is_child : ℕ → Entry → Bool
is_child b (pair k v) = false
is_child b (child i k) = eqb i b
is_child b (message m) = false

unfoldable pub without_child : ℕ → List Entry → List Entry
without_child b [] = []
without_child b (e ∷ es) = cond (is_child b e) (without_child b es) (e ∷ without_child b es)

-- each number of a child fits its two bytes
unfoldable pub small_entry : Entry → Bool
small_entry (pair k v) = true
small_entry (child i k) = ltb i 65536
small_entry (message m) = true

unfoldable pub small_entries : List Entry → Bool
small_entries [] = true
small_entries (e ∷ es) = small_entry e && small_entries es

-- the left one written with the entries of both; the node above without the right one's entry; the two after each other
unfoldable pub both_entries : List ℕ → ℕ → ℕ → List ℕ → List ℕ → List ℕ → List ℕ
both_entries s a b lo mid hi =
    bytes_of_all (prefixed_all (left_more lo mid hi) (listing s a)) ++ bytes_of_all (prefixed_all (right_more lo mid hi) (listing s b))

unfoldable pub left_written : List ℕ → ℕ → ℕ → List ℕ → List ℕ → List ℕ → List ℕ
left_written s a b lo mid hi = write_node s a (page (u16 s (a * 1024 + 2)) (u16 s (a * 1024 + 4)) (both_entries s a b lo mid hi))

unfoldable pub node_without : List ℕ → ℕ → ℕ → ℕ → List Entry → List ℕ
node_without s n level b es = write_node s n (page 2 level (bytes_of_all (without_child b es)))

unfoldable pub pair_joined : ℕ → ℕ → List Entry → ℕ → ℕ → List ℕ → List ℕ → List ℕ → List ℕ → List ℕ
pair_joined n level es a b lo mid hi s = node_without (left_written s a b lo mid hi) n level b es

-- two neighbours joined if one node holds both
unfoldable pub joined_if : ℕ → ℕ → List Entry → ℕ → ℕ → List ℕ → List ℕ → List ℕ → List ℕ → List ℕ
joined_if n level es a b lo mid hi s = cond (pair_fits s a b lo mid hi) (pair_joined n level es a b lo mid hi s) s

-- the first two neighbours that one node holds; whether there are any
unfoldable pub first_joined : ℕ → ℕ → List Entry → List Branch → List ℕ → List ℕ → List ℕ
first_joined n level es [] hi s = s
first_joined n level es (k ∷ []) hi s = s
first_joined n level es (k ∷ q ∷ ks) hi s =
    cond (pair_fits s k.number q.number k.pivot q.pivot (branch_high hi ks))
    (pair_joined n level es k.number q.number k.pivot q.pivot (branch_high hi ks) s) (first_joined n level es (q ∷ ks) hi s)

unfoldable pub any_fits : List Branch → List ℕ → List ℕ → Bool
any_fits [] hi s = false
any_fits (k ∷ []) hi s = false
any_fits (k ∷ q ∷ ks) hi s =
    cond (pair_fits s k.number q.number k.pivot q.pivot (branch_high hi ks)) true (any_fits (q ∷ ks) hi s)
