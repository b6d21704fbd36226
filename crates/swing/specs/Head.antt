-- Node 0 after a move: written with the old live count, and then the count made right.
-- Relies on laws' page of node 0 and on append's Laws (the live count written).
use Rattle.std.specs.Prelude.{ℕ, suc, ◌*◌, ◌≡◌, refl, List, length}
use Rattle.image.specs.Prelude.{sym}
use Rattle.image.specs.Table.{moved}
use Rattle.image.specs.Image.{nodes_of, header_of, tree_of}
use Rattle.image.specs.Sound.{table_of}
use Rattle.octets.specs.Put.{put}
use Rattle.laws.specs.WriteNode.{write_node}
use Rattle.append.specs.Laws.SetLive.{with_live}
use Rattle.slice.specs.Moving.MoveImage.{from_list}
use Rattle.slice.specs.Moving.MoveWrite.{moved_image}
use Rattle.slice.specs.Moving.MoveDone.{moved_store}
use Rattle.laws.specs.Page.{head_page}

pub head_live : (image : List ℕ) (n root levels a b : ℕ) → with_live (write_node image 0 (head_page n root levels a)) b ≡ write_node image 0 (head_page n root levels b)
unfolding with_live write_node head_page put
head_live image n root levels a b = refl

-- the move with any live count in node 0
unfoldable pub swung_with : ℕ → List ℕ → List ℕ → List ℕ → List ℕ → List ℕ
swung_with live s free from to =
    write_node (moved_image (from_list free) (header_of s).levels (tree_of s) from to s) 0
    (head_page (nodes_of (length s)) (from_list free (10 * (header_of s).levels)) (suc (header_of s).levels) live)

-- with the right count it is the move
pub swung-right : (s free from to : List ℕ) (live : ℕ) → with_live (swung_with live s free from to) (length (moved from to (table_of s))) ≡ moved_store s free from to
unfolding swung_with moved_store
swung-right s free from to live =
    head_live (moved_image (from_list free) (header_of s).levels (tree_of s) from to s) (nodes_of (length s)) (from_list free (10 * (header_of s).levels)) (suc (header_of s).levels) live
    (length (moved from to (table_of s)))

pub swung-back : (s free from to : List ℕ) (live : ℕ) → swung_with live s free from to ≡ with_live (moved_store s free from to) live
unfolding swung_with moved_store
swung-back s free from to live =
    sym (head_live (moved_image (from_list free) (header_of s).levels (tree_of s) from to s) (nodes_of (length s)) (from_list free (10 * (header_of s).levels)) (suc (header_of s).levels)
    (length (moved from to (table_of s))) live)
