-- The move on images: an image that holds the moved tree in free nodes is sound, means the moved table, and differs in at most 10 × L + 2 nodes.
use Rattle.std.specs.Prelude.{ℕ, zero, suc, ◌+◌, ◌*◌, ◌≤◌, ◌<◌, ◌≡◌, refl, List, [], ◌∷◌, Bool, true, false, ◌&&◌, not, cond, length, drop, get_or, eqb, leb, ltb}
use Rattle.image.specs.Prelude.{sym, ap, ◌∙◌, true≢false, arith, drop-cons, eqb-true, ne_eqb, eq-eqb, le-leb, leb-true, lt-ltb, ltb-true, cases}
use Rattle.image.specs.Bytes.{same, begins}
use Rattle.image.specs.Path.{well_formed, below}
use Rattle.image.specs.Table.{Row, every_key, rows_below, without_below, renamed, moved}
use Rattle.image.specs.Image.{Tree, node_bytes, nodes_of, header_of, header_laid_out, tree_at, tree_of}
use Rattle.image.specs.Meaning.{rows}
use Rattle.image.specs.Sound.{sound_header, sound_root, sound, table_of, lowest, highest, numbers, is_in, once, in_range}
use Rattle.image.specs.Upkeep.{settled, reachable_nodes, changed}
use Rattle.laws.specs.LiveCount.{still-quiet}
use Rattle.octets.specs.Order.{and_left, and_right, not-true, same_refl}
use Rattle.laws.specs.Rising.{both}
use Rattle.slice.specs.Slicing.SliceNumbers.{one, hits, hits-met, met, spent, once-of}
use Rattle.slice.specs.Slicing.SliceWrite.{one_same}
use Rattle.slice.specs.Moving.Move.{moved_tree}
use Rattle.slice.specs.Moving.MoveLaws.{Well, move-well}
use Rattle.slice.specs.Slicing.FromImage.{image-good, image-fits}
use Rattle.laws.specs.Tables.{put-length}
use Rattle.laws.specs.ButLive.{sound-parts, live-is}

-- numbers in a list
pub hit-in : (j : ℕ) (is : List ℕ) → is_in j is ≡ false → hits j is ≡ 0
unfolding is_in hits one
hit-in j [] e = refl
hit-in j (i ∷ is) e = go (eqb j i) refl (hit-in j is)
  where
    go : (x : Bool) → eqb j i ≡ x → (is_in j is ≡ false → hits j is ≡ 0) → cond (eqb j i) 1 0 + hits j is ≡ 0
    go true q ih = absurd (true≢false (rw q at e))
    go false q ih = rw q (omega (arith, ih (rw q at e)))

pub hits-once : (j : ℕ) (is : List ℕ) → once is ≡ true → hits j is ≤ 1
unfolding once hits one
hits-once j [] e = omega arith
hits-once j (i ∷ is) e = go (eqb j i) refl (hits-once j is (and_right (not (is_in i is)) _ e))
  where
    go : (x : Bool) → eqb j i ≡ x → hits j is ≤ 1 → cond (eqb j i) 1 0 + hits j is ≤ 1
    go true q ih =
        let z : j ≡ i = eqb-true j i q in
        let w : hits j is ≡ 0 = hit-in j is (ap (λ x. is_in x is) z ∙ not-true (is_in i is) (and_left _ _ e)) in
        rw q (omega arith)
    go false q ih = rw q (omega arith)

pub range-hit : (n j : ℕ) (is : List ℕ) → in_range n is ≡ true → 1 ≤ hits j is → (1 ≤ j) × (j < n)
unfolding in_range hits one
range-hit n j [] e h = absurd (omega arith)
range-hit n j (i ∷ is) e h = go (eqb j i) refl (range-hit n j is (and_right (leb 1 i && ltb i n) _ e))
  where
    go : (x : Bool) → eqb j i ≡ x → (1 ≤ hits j is → (1 ≤ j) × (j < n)) → (1 ≤ j) × (j < n)
    go true q ih =
        let z : j ≡ i = eqb-true j i q in
        let a : 1 ≤ i = leb-true 1 i (and_left _ _ (and_left _ _ e)) in
        let b : i < n = ltb-true i n (and_right (leb 1 i) _ (and_left _ _ e)) in
        (omega arith, omega arith)
    go false q ih = ih (let z : 1 ≤ 0 + hits j is = rw q at h in omega arith)

pub range-of : (n : ℕ) (is : List ℕ) → ((j : ℕ) → 1 ≤ hits j is → (1 ≤ j) × (j < n)) → in_range n is ≡ true
unfolding in_range hits
range-of n [] h = refl
range-of n (i ∷ is) h =
    let z : (1 ≤ i) × (i < n) = h i (omega (arith, one_same i)) in
    both (both (le-leb 1 i z.0) (lt-ltb i n z.1)) (range-of n is (λ j q. h j (omega arith)))

-- the numbers of a list, from a place on
pub spent-list : (j : ℕ) (xs : List ℕ) (c at : ℕ) → at + c ≤ length xs → spent (λ i. get_or xs i 0) j c at ≤ hits j (drop at xs)
unfolding spent hits
spent-list j xs zero at h = omega arith
spent-list j xs (suc c) at h = rw (drop-cons xs at 0 (omega arith)) (omega (arith, spent-list j xs c (suc at) (omega arith)))

pub hits-get : (xs : List ℕ) (i : ℕ) → i < length xs → 1 ≤ hits (get_or xs i 0) xs
unfolding hits
hits-get [] i h = absurd (omega arith)
hits-get (x ∷ xs) zero h = omega (arith, one_same x)
hits-get (x ∷ xs) (suc i) h = omega (arith, hits-get xs i (omega arith))

-- how many nodes change
unfoldable sum : (ℕ → ℕ) → ℕ → ℕ
sum f zero = 0
sum f (suc k) = f k + sum f k

sum-add : (f g : ℕ → ℕ) (k : ℕ) → sum (λ i. f i + g i) k ≡ sum f k + sum g k
unfolding sum
sum-add f g zero = refl
sum-add f g (suc k) = omega (arith, sum-add f g k)

sum-none : (k : ℕ) → sum (λ i. 0) k ≡ 0
unfolding sum
sum-none zero = refl
sum-none (suc k) = omega (arith, sum-none k)

sum-before : (x k : ℕ) → k ≤ x → sum (λ i. one i x) k ≡ 0
unfolding sum one
sum-before x zero h = refl
sum-before x (suc k) h = rw (ne_eqb k x (λ q. omega arith)) (omega (arith, sum-before x k (omega arith)))

sum_one : (x k : ℕ) → sum (λ i. one i x) k ≤ 1
unfolding sum one
sum_one x zero = omega arith
sum_one x (suc k) =
    cases (eqb k x) (λ q. rw q (let z : k ≡ x = eqb-true k x q in omega (arith, sum-before x k (omega arith))))
    (λ q. rw q (omega (arith, sum_one x k)))

sum-spent : (fresh : ℕ → ℕ) (c at k : ℕ) → sum (λ i. spent fresh i c at) k ≤ c
unfolding spent
sum-spent fresh zero at k = omega (arith, sum-none k)
sum-spent fresh (suc c) at k =
    omega (arith, sum-add (λ i. one i (fresh at)) (λ i. spent fresh i c (suc at)) k, sum_one (fresh at) k, sum-spent fresh c (suc at) k)

changed-sum : (f : ℕ → ℕ) (s s' : List ℕ) → ((i : ℕ) → f i ≡ 0 → node_bytes s' i ≡ node_bytes s i) → (k : ℕ) → changed k s s' ≤ sum f k
unfolding changed sum
changed-sum f s s' h zero = omega arith
changed-sum f s s' h (suc k) = go (f k) refl (changed-sum f s s' h k)
  where
    few : (b : Bool) → cond b 0 1 ≤ 1
    few true = omega arith
    few false = omega arith

    go : (x : ℕ) → f k ≡ x → changed k s s' ≤ sum f k → cond (same (node_bytes s k) (node_bytes s' k)) 0 1 + changed k s s' ≤ f k + sum f k
    go zero q ih =
        let z : same (node_bytes s k) (node_bytes s' k) ≡ true = rw (h k q) (same_refl (node_bytes s k)) in
        rw z (omega arith)
    go (suc x) q ih = omega (arith, few (same (node_bytes s k) (node_bytes s' k)))

pub changed-few : (fresh : ℕ → ℕ) (c : ℕ) (s s' : List ℕ) → ((i : ℕ) → one i 0 + spent fresh i c 0 ≡ 0 → node_bytes s' i ≡ node_bytes s i)
    → (k : ℕ) → changed k s s' ≤ suc c
changed-few fresh c s s' h k =
    omega (arith, changed-sum (λ i. one i 0 + spent fresh i c 0) s s' h k, sum-add (λ i. one i 0) (λ i. spent fresh i c 0) k, sum_one 0 k, sum-spent fresh c 0 k)

renamed-length : (from to : List ℕ) (t : List Row) → length (renamed from to t) ≡ length t
unfolding renamed
renamed-length from to [] = refl
renamed-length from to (r ∷ t) = ap suc (renamed-length from to t)

parted-length : (p : List ℕ) (t : List Row) → length (rows_below p t) + length (without_below p t) ≡ length t
unfolding rows_below without_below
parted-length p [] = refl
parted-length p (r ∷ t) =
    cases (below r.key p) (λ e. rw e (omega (arith, parted-length p t))) (λ e. rw e (omega (arith, parted-length p t)))

pub moved_length : (from to : List ℕ) (t : List Row) → length (moved from to t) ≤ length t
unfolding moved
moved_length from to t =
    omega (
      arith,
      put-length (renamed from to (rows_below from t)) (without_below to (without_below from t)),
      renamed-length from to (rows_below from t),
      parted-length to (without_below from t),
      parted-length from t,
    )

-- The i-th of the free nodes.
abbrev pub from_list : List ℕ → ℕ → ℕ
from_list free i = get_or free i 0

-- what the call finds: enough free nodes, listed once each
pub record Free (s free : List ℕ) : Type 0 where
  pub enough : suc (10 * (header_of s).levels) ≤ length free
  pub distinct : once free ≡ true
  pub within : in_range (nodes_of (length s)) free ≡ true
  pub unused : (j : ℕ) → is_in j free ≡ true → is_in j (numbers (tree_of s)) ≡ false

-- what the call writes: the moved tree into free nodes, then node 0; no other node
pub record Written (s s' free from to : List ℕ) : Type 0 where
  pub size : length s' ≡ length s
  pub laid : header_laid_out (node_bytes s' 0) ≡ true
  pub head : header_of s'
      ≡ record { count = nodes_of (length s); root = from_list free (10 * (header_of s).levels); levels = suc (header_of s).levels; live = length (moved from to (table_of s)) }
  pub holds : tree_at (suc (header_of s).levels) s' (from_list free (10 * (header_of s).levels)) ≡ moved_tree (from_list free) (header_of s).levels (tree_of s) from to
  pub others : (i : ℕ) → one i 0 + spent (from_list free) i (suc (10 * (header_of s).levels)) 0 ≡ 0 → node_bytes s' i ≡ node_bytes s i

pub record Roots (s : List ℕ) : Type 0 where
  pub alone : once (numbers (tree_of s)) ≡ true
  pub within : in_range (nodes_of (length s)) (numbers (tree_of s)) ≡ true
  pub lives : (header_of s).live ≡ length (table_of s)
  pub few : (header_of s).live ≤ nodes_of (length s)

pub roots : (s : List ℕ) → sound s ≡ true → Roots s
roots s e =
    let w = sound-parts s e in
    record { alone = w.once; within = w.range; lives = live-is s e; few = w.live_high }

-- the tree of a sound store and a list of free nodes: each number at most once, and from 1 up
module _ (s free : List ℕ) (ok : sound s ≡ true) (f : Free s free) where
  pub supply : (j : ℕ) → hits j (numbers (tree_of s)) + hits j free ≤ 1
  supply j =
      cases (is_in j free) (λ q. omega (arith, hits-once j free f.distinct, hit-in j (numbers (tree_of s)) (f.unused j q)))
      (λ q. omega (arith, hits-once j (numbers (tree_of s)) (roots s ok).alone, hit-in j free q))

  pub supply-range : (j : ℕ) → 1 ≤ hits j (numbers (tree_of s)) + hits j free → (1 ≤ j) × (j < nodes_of (length s))
  supply-range j h = go (hits j free) refl
    where
      go : (m : ℕ) → hits j free ≡ m → (1 ≤ j) × (j < nodes_of (length s))
      go zero q = range-hit (nodes_of (length s)) j (numbers (tree_of s)) (roots s ok).within (omega arith)
      go (suc m) q = range-hit (nodes_of (length s)) j free f.within (omega arith)

  pub supply-spent : (j c : ℕ) → c ≤ suc (10 * (header_of s).levels) → met j (tree_of s) + spent (from_list free) j c 0 ≤ hits j (numbers (tree_of s)) + hits j free
  supply-spent j c h = omega (arith, hits-met j (tree_of s), spent-list j free c 0 (omega (arith, f.enough)))

module _ (s s' free from to : List ℕ) (ok : sound s ≡ true) (no_message : settled s ≡ true) (low : (header_of s).levels ≤ 7)
    (formed_from : well_formed from ≡ true) (formed_to : well_formed to ≡ true) (apart : begins from to ≡ false) (apart' : begins to from ≡ false)
    (q9 : every_key well_formed (moved from to (table_of s)) ≡ true) (f : Free s free) (w : Written s s' free from to) where
  new : Tree
  new = moved_tree (from_list free) (header_of s).levels (tree_of s) from to

  well : Well (from_list free) (header_of s).levels from to (tree_of s) new
  unfolding new table_of
  well =
      move-well (from_list free) (header_of s).levels (tree_of s) from to (image-good s ok no_message) (image-fits s) formed_from formed_to apart apart' q9

  -- each number at most once, and from 1 up
  new-hits : (j : ℕ) → hits j (numbers new) ≤ hits j (numbers (tree_of s)) + hits j free
  new-hits j = omega (arith, hits-met j new, well.new_numbers j, supply-spent s free ok f j (suc (10 * (header_of s).levels)) (omega arith))

  new-once : once (numbers new) ≡ true
  new-once = once-of (numbers new) (λ j. omega (arith, new-hits j, supply s free ok f j))

  new-range : in_range (nodes_of (length s)) (numbers new) ≡ true
  new-range = range-of (nodes_of (length s)) (numbers new) (λ j h. supply-range s free ok f j (omega (arith, new-hits j)))

  root-range : (1 ≤ from_list free (10 * (header_of s).levels)) × (from_list free (10 * (header_of s).levels) < nodes_of (length s))
  root-range =
      range-hit (nodes_of (length s)) (from_list free (10 * (header_of s).levels)) free f.within
      (hits-get free (10 * (header_of s).levels) (omega (arith, f.enough)))

  new-live : length (moved from to (table_of s)) ≤ nodes_of (length s)
  new-live = omega (arith, moved_length from to (table_of s), (roots s ok).lives, (roots s ok).few)

  head-sound : sound_header (nodes_of (length s))
      (record { count = nodes_of (length s); root = from_list free (10 * (header_of s).levels); levels = suc (header_of s).levels; live = length (moved from to (table_of s)) })
      ≡ true
  unfolding sound_header
  head-sound =
      both (both (both (both (both (eq-eqb (nodes_of (length s)) (nodes_of (length s)) refl) (le-leb 1 _ root-range.0)) (lt-ltb _ _ root-range.1))
      (le-leb 1 (suc (header_of s).levels) (omega arith))) (le-leb (suc (header_of s).levels) 8 (omega arith))) (le-leb _ _ new-live)

  new-rows : rows new lowest highest ≡ moved from to (table_of s)
  unfolding table_of
  new-rows = well.new_rows

  tree-sound : sound_root (nodes_of (length s)) (length (moved from to (table_of s))) new ≡ true
  unfolding sound_root
  tree-sound =
      both (both (both well.new_good.sound new-once) new-range)
      (eq-eqb (length (moved from to (table_of s))) (length (rows new lowest highest)) (ap length (sym new-rows)))

  tree_is : tree_of s' ≡ new
  unfolding tree_of new
  tree_is = rw w.head w.holds

  -- THE MOVE, on images.
  pub move-sound : sound s' ≡ true
  unfolding sound
  move-sound = rw (w.size, tree_is, w.head) (both (both w.laid head-sound) tree-sound)

  pub move-table : table_of s' ≡ moved from to (table_of s)
  unfolding table_of
  move-table = rw tree_is new-rows

  pub move-changed : changed (nodes_of (length s)) s s' ≤ 10 * (header_of s).levels + 2
  move-changed = omega (arith, changed-few (from_list free) (suc (10 * (header_of s).levels)) s s' w.others (nodes_of (length s)))

  pub move-settled : settled s' ≡ true
  unfolding settled reachable_nodes
  move-settled = rw tree_is (still-quiet new (header_of s').levels lowest highest well.new_good.holds_no_message)
