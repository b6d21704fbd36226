-- The move on a store: the image that moved_image gives, with node 0 written last.
use Rattle.std.specs.Prelude.{ℕ, zero, suc, ◌+◌, ◌*◌, ◌≤◌, ◌<◌, ◌≡◌, refl, List, [], ◌∷◌, true, false, ◌&&◌, length, get_or, leb, ltb}
use Rattle.image.specs.Prelude.{sym, ap, ◌∙◌, arith, ne_eqb, ltb-true}
use Rattle.image.specs.Bytes.{begins}
use Rattle.image.specs.Path.{well_formed}
use Rattle.image.specs.Table.{every_key, moved}
use Rattle.image.specs.Image.{Tree, header, node_bytes, nodes_of, whole_nodes, header_of, header_laid_out, tree_at, tree_of}
use Rattle.image.specs.Sound.{sound, table_of, highest, numbers, is_in, in_range}
use Rattle.image.specs.Upkeep.{settled, changed}
use Rattle.octets.specs.Order.{and_left, and_right}
use Rattle.laws.specs.WriteNode.{write_node, write-length, write_same, write-other}
use Rattle.laws.specs.Pieces.{Good}
use Rattle.node.specs.Whole.{Whole, whole_parts}
use Rattle.slice.specs.Slicing.SliceNumbers.{one, hits, met, spent}
use Rattle.slice.specs.Slicing.SliceFits.{fits}
use Rattle.slice.specs.Slicing.SliceWrite.{in-hits, one-other, stays}
use Rattle.laws.specs.Page.{number_of, number_read, head-length, head-laid, head-header, head_page}
use Rattle.slice.specs.Moving.Move.{moved_tree}
use Rattle.slice.specs.Moving.MoveLaws.{Well, some_level, move-well}
use Rattle.slice.specs.Moving.MoveWrite.{moved_image, HoldsMoved, image_holds}
use Rattle.slice.specs.Moving.MoveImage.{from_list, Free, Written, roots, supply, supply-range, supply-spent, range-hit, spent-list, move-sound, move-table, move-changed, move-settled}
use Rattle.slice.specs.Slicing.FromImage.{image-good, image-fits}

-- the image after the move, its free nodes listed
unfoldable pub moved_store : List ℕ → List ℕ → List ℕ → List ℕ → List ℕ
moved_store s free from to =
    write_node (moved_image (from_list free) (header_of s).levels (tree_of s) from to s) 0
    (head_page (nodes_of (length s)) (from_list free (10 * (header_of s).levels)) (suc (header_of s).levels) (length (moved from to (table_of s))))

pub get-past : (xs : List ℕ) (i : ℕ) → length xs ≤ i → get_or xs i 0 ≡ 0
get-past [] i h = refl
get-past (x ∷ xs) zero h = absurd (omega arith)
get-past (x ∷ xs) (suc i) h = get-past xs i (omega arith)

pub get-range : (n : ℕ) (xs : List ℕ) (i : ℕ) → 1 ≤ n → in_range n xs ≡ true → get_or xs i 0 < n
unfolding in_range
get-range n [] i h e = h
get-range n (x ∷ xs) zero h e = ltb-true x n (and_right (leb 1 x) _ (and_left _ _ e))
get-range n (x ∷ xs) (suc i) h e = get-range n xs i h (and_right (leb 1 x && ltb x n) _ e)

not-zero : (j : ℕ) → 1 ≤ j → one j 0 ≡ 0
unfolding one
not-zero j h = rw (ne_eqb j 0 (λ e. omega arith))

module _ (s free from to : List ℕ) (whole : whole_nodes (length s) ≡ true) (ok : sound s ≡ true) (no_message : settled s ≡ true) (low : (header_of s).levels ≤ 7)
    (formed_from : well_formed from ≡ true) (formed_to : well_formed to ≡ true) (apart : begins from to ≡ false) (apart' : begins to from ≡ false)
    (q9 : every_key well_formed (moved from to (table_of s)) ≡ true) (f : Free s free) where
  abbrev h : ℕ
  h = (header_of s).levels

  abbrev t : Tree
  t = tree_of s

  abbrev fresh : ℕ → ℕ
  fresh = from_list free

  abbrev n : ℕ
  n = nodes_of (length s)

  nodes : Whole (length s)
  nodes = whole_parts (length s) whole

  room : (x : ℕ) → 1024 * fresh x + 1024 ≤ length s
  room x = omega (arith, nodes.filled, get-range (nodes_of (length s)) free x (omega (arith, nodes.enough)) f.within)

  D : (j : ℕ) → met j t + spent fresh j (suc (10 * h)) 0 ≤ 1
  D j = omega (arith, supply s free ok f j, supply-spent s free ok f j (suc (10 * (header_of s).levels)) (omega arith))

  good : Good h t [] highest
  good = image-good s ok no_message

  well : Well fresh h from to t (moved_tree fresh h t from to)
  unfolding table_of
  well = move-well fresh (header_of s).levels (tree_of s) from to (image-good s ok no_message) (image-fits s) formed_from formed_to apart apart' q9

  reads_old : tree_at h s (number_of t) ≡ t
  unfolding tree_of
  reads_old = ap (tree_at (header_of s).levels s) (number_read (header_of s).levels s (header_of s).root)

  fits-old : fits t ≡ true
  fits-old = image-fits s

  done : HoldsMoved fresh h (moved_tree fresh h t from to) s (moved_image fresh h t from to s)
  done =
      image_holds fresh h (some_level t h good.level).0 (some_level t h good.level).1 t from to good fits-old formed_from formed_to apart apart' well s room reads_old D

  abbrev image : List ℕ
  image = moved_image fresh h t from to s

  abbrev pg : List ℕ
  pg = head_page n (fresh (10 * h)) (suc h) (length (moved from to (table_of s)))

  size-image : length image ≡ length s
  size-image = done.only_new.size

  room_0 : 1024 * 0 + 1024 ≤ length image
  room_0 = omega (arith, size-image, nodes.filled, nodes.enough)

  full : length pg ≡ 1024
  full = head-length n (fresh (10 * h)) (suc h) (length (moved from to (table_of s)))

  root_is : number_of (moved_tree fresh h t from to) ≡ fresh (10 * h)
  root_is = ap number_of (sym done.is_there) ∙ number_read (suc h) (moved_image fresh h t from to s) (fresh (10 * h))

  none-zero : met 0 (moved_tree fresh h t from to) ≡ 0
  none-zero = go (met 0 (moved_tree (from_list free) (header_of s).levels (tree_of s) from to)) refl
    where
      go : (m : ℕ) → met 0 (moved_tree (from_list free) (header_of s).levels (tree_of s) from to) ≡ m → m ≡ 0
      go zero q = refl
      go (suc m) q =
          let a = supply-spent s free ok f 0 (suc (10 * (header_of s).levels)) (omega arith) in
          absurd (omega (arith, (supply-range s free ok f 0 (omega (arith, well.new_numbers 0))).0))

  still-there : tree_at (suc h) (write_node image 0 pg) (fresh (10 * h)) ≡ moved_tree fresh h t from to
  still-there =
      ap (tree_at (suc h) (write_node (moved_image fresh h t from to s) 0 pg)) (sym root_is)
      ∙ stays (suc h) (moved_image fresh h t from to s) (write_node (moved_image fresh h t from to s) 0 pg) (moved_tree fresh h t from to)
      (ap (tree_at (suc h) (moved_image fresh h t from to s)) root_is ∙ done.is_there)
      (λ j m. write-other (moved_image fresh h t from to s) 0 pg room_0 full j (λ q. never j q m))
    where
      never : (j : ℕ) → j ≡ 0 → 1 ≤ met j (moved_tree fresh h t from to) → ⊥
      never j q m = let z : met j (moved_tree fresh h t from to) ≡ 0 = ap (λ x. met x (moved_tree fresh h t from to)) q ∙ none-zero in omega arith

  node-0 : node_bytes (write_node image 0 pg) 0 ≡ pg
  node-0 = write_same image 0 pg room_0 full

  written : Written s (write_node image 0 pg) free from to
  unfolding header_of
  written =
      record {
        size = write-length image 0 pg room_0 full ∙ size-image;
        laid = ap header_laid_out node-0 ∙ head-laid n (fresh (10 * h)) (suc h) (length (moved from to (table_of s)));
        head = ap header node-0 ∙ head-header n (fresh (10 * h)) (suc h) (length (moved from to (table_of s)));
        holds = still-there;
        others = λ i z. write-other image 0 pg room_0 full i (one-other i 0 (omega arith)) ∙ done.only_new.others i (omega arith);
      }

  -- THE MOVE, on stores: sound, the moved map, and few nodes changed.
  pub store-sound : sound (moved_store s free from to) ≡ true
  unfolding moved_store
  store-sound = move-sound s (write_node image 0 pg) free from to ok no_message low formed_from formed_to apart apart' q9 f written

  pub store-table : table_of (moved_store s free from to) ≡ moved from to (table_of s)
  unfolding moved_store
  store-table = move-table s (write_node image 0 pg) free from to ok no_message low formed_from formed_to apart apart' q9 f written

  pub store-changed : changed (nodes_of (length s)) s (moved_store s free from to) ≤ 10 * (header_of s).levels + 2
  unfolding moved_store
  store-changed = move-changed s (write_node image 0 pg) free from to ok no_message low formed_from formed_to apart apart' q9 f written

  pub store-settled : settled (moved_store s free from to) ≡ true
  unfolding moved_store
  store-settled = move-settled s (write_node image 0 pg) free from to ok no_message low formed_from formed_to apart apart' q9 f written

  pub store-size : length (moved_store s free from to) ≡ length s
  unfolding moved_store
  store-size = written.size

  -- no node that was reachable is written
  pub store-spares : (j : ℕ) → is_in j (numbers (tree_of s)) ≡ true → node_bytes (moved_store s free from to) j ≡ node_bytes s j
  unfolding moved_store
  store-spares j e =
      let a : 1 ≤ hits j (numbers (tree_of s)) = in-hits j (numbers (tree_of s)) e in
      let b : (1 ≤ j) × (j < nodes_of (length s)) = range-hit (nodes_of (length s)) j (numbers (tree_of s)) (roots s ok).within a in
      let c : one j 0 ≡ 0 = not-zero j b.0 in
      written.others j (omega (arith, supply s free ok f j, spent-list j free (suc (10 * (header_of s).levels)) 0 (omega (arith, f.enough))))
