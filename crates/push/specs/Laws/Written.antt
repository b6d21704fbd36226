-- The store after a flush by one level, as the code writes it: each child in turn, then the node with its children alone. Definitions only.
use Rattle.std.specs.Prelude.{ℕ, ◌+◌, ◌*◌, List, [], ◌∷◌, ◌++◌, Bool, true, ◌&&◌, cond, length, ltb, leb, eqb}
use Rattle.image.specs.Bytes.{u16}
use Rattle.image.specs.Entry.{Entry, child}
use Rattle.image.specs.Image.{Branch, nodes_of}
use Rattle.laws.specs.Encode.{bytes_of}
use Rattle.laws.specs.WriteNode.{write_node}
use Rattle.laws.specs.Page.{page}
use Rattle.laws.specs.Reading.Relative.{branch_high}
use Rattle.node.specs.Cut.{cut}
use Rattle.push.specs.Laws.Arriving.{brought_all}
use Rattle.push.specs.Laws.Leaves.{leaf_takes}

-- the bytes of the entries of node i
abbrev pub body_of : List ℕ → ℕ → List ℕ
body_of s i = cut s (i * 1024 + 8) (i * 1024 + 8 + u16 s (i * 1024))

-- an interior node with more bytes after its entries
unfoldable pub lengthened : List ℕ → ℕ → List ℕ → List ℕ
lengthened s i more = write_node s i (page 2 (u16 s (i * 1024 + 4)) (body_of s i ++ more))

-- an interior child with these pivots takes what the entries of its parent bring
unfoldable pub interior_takes : List Entry → ℕ → List ℕ → List ℕ → List ℕ → List ℕ
interior_takes es i lo hi s = lengthened s i (brought_all es lo hi)

-- a child takes what the entries of its parent bring: a leaf is of kind 1
unfoldable pub child_takes : List Entry → ℕ → List ℕ → List ℕ → List ℕ → List ℕ
child_takes es i lo hi s = cond (eqb (u16 s (i * 1024 + 2)) 1) (leaf_takes es i lo hi s) (interior_takes es i lo hi s)

-- each child in turn; a child's high pivot is the next one's low, or hi
unfoldable pub each_takes : (ℕ → List ℕ → List ℕ → List ℕ → List ℕ) → List Branch → List ℕ → List ℕ → List ℕ
each_takes takes [] hi s = s
each_takes takes (k ∷ ks) hi s = each_takes takes ks hi (takes k.number k.pivot (branch_high hi ks) s)

-- a child is a node of the store and has room for all that is brought
unfoldable pub has_room : List Entry → ℕ → List ℕ → List ℕ → List ℕ → Bool
has_room es i lo hi s = ltb i (nodes_of (length s)) && leb (u16 s (i * 1024) + length (brought_all es lo hi)) 1016

unfoldable pub all_have_room : List Entry → List Branch → List ℕ → List ℕ → Bool
all_have_room es [] hi s = true
all_have_room es (k ∷ ks) hi s = has_room es k.number k.pivot (branch_high hi ks) s && all_have_room es ks hi s

unfoldable pub branch_numbers : List Branch → List ℕ
branch_numbers [] = []
branch_numbers (k ∷ ks) = k.number ∷ branch_numbers ks

-- each number fits its two bytes
unfoldable pub small_numbers : List Branch → Bool
small_numbers [] = true
small_numbers (k ∷ ks) = ltb k.number 65536 && small_numbers ks

-- the bytes of the child entries, and the node with these alone
unfoldable pub child_bytes : List Branch → List ℕ
child_bytes [] = []
child_bytes (k ∷ ks) = bytes_of (child k.number k.pivot) ++ child_bytes ks

unfoldable pub emptied : List ℕ → ℕ → ℕ → List Branch → List ℕ
emptied s i level ks = write_node s i (page 2 level (child_bytes ks))
