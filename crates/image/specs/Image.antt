-- Document 01, "The image": the nodes of a store, node 0, and the tree that the nodes hold.
use Rattle.std.specs.Prelude.{ℕ, zero, suc, ◌+◌, ◌*◌, ◌/◌, List, [], ◌∷◌, Bool, ◌&&◌, cond, take, drop, leb, eqb}
use Rattle.image.specs.Prelude.{Option, none, some}
use Rattle.image.specs.Bytes.{u16, zeros}
use Rattle.image.specs.Entry.{Message, Entry, pair, child, message, entries_of}
use Rattle.image.specs.Table.{Row}

-- The tree under a node. Suffixes are as stored, without the lifted prefix. A leaf is its node number and its pairs; an interior node is
-- its number, its children with their pivot suffixes, and its messages, oldest first. A node that is not laid out, or whose entries do not
-- read, or stand in another order, is unread: no tree that has one is sound.
mutual
  pub data Tree : Type 0 where
    unread : ℕ → Tree
    leaf : ℕ → List Row → Tree
    interior : ℕ → Forest → List Message → Tree

  pub data Forest : Type 0 where
    end : Forest
    tree : List ℕ → Tree → Forest → Forest

-- "The store is n nodes of 1,024 bytes, n from 32 to 1,024, numbered from 0."
abbrev pub node_size : ℕ
node_size = 1024

abbrev pub fewest_nodes : ℕ
fewest_nodes = 32

abbrev pub most_nodes : ℕ
most_nodes = 1024

-- the bytes of node i
unfoldable pub node_bytes : List ℕ → ℕ → List ℕ
node_bytes image i = take node_size (drop (node_size * i) image)

-- n, by the length of the store; and whether it is a whole number of nodes, 32 to 1,024
unfoldable pub nodes_of : ℕ → ℕ
nodes_of len = len / node_size

unfoldable pub whole_nodes : ℕ → Bool
whole_nodes len = eqb (node_size * nodes_of len) len && leb fewest_nodes (nodes_of len) && leb (nodes_of len) most_nodes

-- Node 0: "four u16: n, root, levels (1 to 8), live paths (at most n)"
pub record Header : Type 0 where
  pub count : ℕ
  pub root : ℕ
  pub levels : ℕ
  pub live : ℕ

unfoldable pub header : List ℕ → Header
header node = record { count = u16 node 4; root = u16 node 6; levels = u16 node 8; live = u16 node 10 }

-- Node 0: "length 8, kind 0100, then four u16 .. The rest is zero."
unfoldable pub header_laid_out : List ℕ → Bool
header_laid_out node = eqb (u16 node 0) 8 && eqb (u16 node 2) 0x0100 && zeros (drop 12 node)

-- Other nodes: "length of the entries (at most 1,016), kind .., u16 level .., u16 zero, the entries, then zeros."
abbrev pub entries_limit : ℕ
entries_limit = 1016

unfoldable pub laid_out : ℕ → ℕ → List ℕ → Bool
laid_out kind level node =
    leb (u16 node 0) entries_limit && eqb (u16 node 2) kind && eqb (u16 node 4) level && eqb (u16 node 6) 0
    && zeros (drop (8 + u16 node 0) node)

-- the bytes of a node's entries
unfoldable pub entry_bytes : List ℕ → List ℕ
entry_bytes node = take (u16 node 0) (drop 8 node)

-- the entries of a node of this kind and level, where it is laid out and they read
unfoldable pub node_entries : ℕ → ℕ → List ℕ → Option (List Entry)
node_entries kind level node = cond (laid_out kind level node) (entries_of (entry_bytes node)) none

-- "in a leaf only pairs"
unfoldable pub pair_then : Entry → Option (List Row) → Option (List Row)
pair_then (pair s v) none = none
pair_then (pair s v) (some rows) = some (record { key = s; value = v } ∷ rows)
pair_then (child i s) rows = none
pair_then (message m) rows = none

unfoldable pub pairs_of : List Entry → Option (List Row)
pairs_of [] = some []
pairs_of (e ∷ es) = pair_then e (pairs_of es)

-- only messages
unfoldable pub message_then : Message → Option (List Message) → Option (List Message)
message_then m none = none
message_then m (some ms) = some (m ∷ ms)

unfoldable pub messages_of : List Entry → Option (List Message)
messages_of [] = some []
messages_of (pair s v ∷ es) = none
messages_of (child i s ∷ es) = none
messages_of (message m ∷ es) = message_then m (messages_of es)

-- in an interior node children, "then messages, oldest first"; a child as its parent has it is a branch: its number and its pivot
pub record Branch : Type 0 where
  pub number : ℕ
  pub pivot : List ℕ

pub record Inside : Type 0 where
  pub branches : List Branch
  pub messages : List Message

unfoldable pub no_branches : Option (List Message) → Option Inside
no_branches none = none
no_branches (some ms) = some (record { branches = []; messages = ms })

unfoldable pub branch_then : Branch → Option Inside → Option Inside
branch_then k none = none
branch_then k (some rest) = some (record { branches = k ∷ rest.branches; messages = rest.messages })

unfoldable pub inside_of : List Entry → Option Inside
inside_of [] = some (record { branches = []; messages = [] })
inside_of (pair s v ∷ es) = none
inside_of (child i s ∷ es) = branch_then (record { number = i; pivot = s }) (inside_of es)
inside_of (message m ∷ es) = no_branches (messages_of (message m ∷ es))

-- the trees under the children
unfoldable pub forest_of : (ℕ → Tree) → List Branch → Forest
forest_of under [] = end
forest_of under (k ∷ ks) = tree k.pivot (under k.number) (forest_of under ks)

unfoldable pub leaf_of : ℕ → Option (List Row) → Tree
leaf_of i none = unread i
leaf_of i (some rows) = leaf i rows

unfoldable pub interior_of : (ℕ → Tree) → ℕ → Option Inside → Tree
interior_of under i none = unread i
interior_of under i (some x) = interior i (forest_of under x.branches) x.messages

unfoldable pub or_none : {A B : Type 0} → (A → Option B) → Option A → Option B
or_none f none = none
or_none f (some a) = f a

-- The tree under node i, which is to be of this level: leaves are of level 1, and each child is one level under its parent.
unfoldable pub tree_at : ℕ → List ℕ → ℕ → Tree
tree_at zero image i = unread i
tree_at (suc zero) image i = leaf_of i (or_none pairs_of (node_entries 0x0001 1 (node_bytes image i)))
tree_at (suc (suc level)) image i =
    interior_of (λ j. tree_at (suc level) image j) i (or_none inside_of (node_entries 0x0002 (suc (suc level)) (node_bytes image i)))

unfoldable pub header_of : List ℕ → Header
header_of image = header (node_bytes image 0)

unfoldable pub tree_of : List ℕ → Tree
tree_of image = tree_at (header_of image).levels image (header_of image).root
