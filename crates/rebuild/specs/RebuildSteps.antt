-- The steps of the rebuild: what build asks and gives, and how the parts of the work area come back.
-- Relies on packed/specs/Build/BuiltLaws and on packed/specs (the packed image has at most three levels).
use Rattle.std.specs.Prelude.{ℕ, zero, suc, ◌+◌, ◌*◌, ◌-◌, ◌/◌, ◌≤◌, ◌≡◌, refl, List, ◌++◌, true, false, length, take, drop, replicate, leb}
use Rattle.image.specs.Prelude.{sym, ap, ap₂, subst, ◌∙◌, append-nil, arith, length-replicate, length-take-le, drop_of_length-le, ne_eqb}
use Rattle.image.specs.Image.{nodes_of, whole_nodes, header_of}
use Rattle.image.specs.Sound.{sound, table_of, is_in}
use Rattle.image.specs.Upkeep.{settled, tidied, used}
use Rattle.octets.specs.Order.{and_left}
use Rattle.node.specs.Whole.{whole_parts}
use Rattle.packed.specs.Form.Packed.{packed, numbers_from}
use Rattle.packed.specs.Form.Stored.{held-header}
use Rattle.packed.specs.Form.Tidy.{image_of, built-packs, built-holds}
use Rattle.laws.specs.Page.{zeros_of}
use Rattle.packed.specs.Rows.Area.{rows_of}
use Rattle.packed.specs.Rows.Steps.{rows-length}
use Rattle.packed.specs.Build.Handed.{handed}
use Rattle.packed.specs.Build.Built.{Asks, built_image}
use Rattle.packed.specs.Build.BuiltLaws.{built, counted-numbers}
use Rattle.rebuild.specs.StoreTable.{store-table}
use Rattle.dump.specs.Dump.{Dumped}
use Rattle.rebuild.specs.Rebuild.{Repacked, Packable, Rebuilt}
use Rattle.octets.specs.Put.{taken-size}

pub tidied-settled : (s : List ℕ) → tidied s ≡ true → settled s ≡ true
unfolding tidied
tidied-settled s e = and_left (settled s) (leb (used s) (nodes_of (length s) / 4)) e

-- three levels at most, and what a tidy store leaves free is enough for a move
abbrev Levels : ℕ → ℕ → Type 0
Levels n levels = (levels ≤ 3) × (10 * levels + 1 ≤ n - n / 4)

-- a number past the last of a row of numbers is not among them
not-past : (j i k : ℕ) → i + k ≤ j → is_in j (numbers_from i k) ≡ false
unfolding is_in numbers_from
not-past j i zero h = refl
not-past j i (suc k) h = rw (ne_eqb j i (λ q. omega arith)) (not-past j (suc i) k (omega arith))

-- THE PACKING
module _ (s area : List ℕ) (m : ℕ) (given given' : List ℕ) (p : Packable s area m given) (e : handed given' ≡ numbers_from 1 (length given)) where
  pub pack-asks : Asks s area m given'
  pack-asks =
      let w = whole_parts (length s) p.whole in
      let n : length given ≡ nodes_of (length s) / 4 - 1 = let q = p.numbers in omega arith in
      let least = w.enough in
      let c = counted-numbers given' (nodes_of (length s)) (length given) e (omega arith) (omega arith) in
      record {
        size = sym w.filled;
        least = w.enough;
        most = w.few;
        room = p.room;
        table = p.table;
        enough = c.0;
        differ = c.1;
        ranged = c.2;
      }

  -- the levels of the image
  levels-few : Levels (nodes_of (length s)) (header_of (built_image s area m given')).levels
  unfolding built_image
  levels-few =
      let a = pack-asks in
      let enough : nodes_of (length s) / 4 ≤ length (handed given') + 1 = let x = a.enough in omega arith in
      let l : m ≡ length (rows_of m area 0) = sym (rows-length m area 0) in
      let h = built-holds s (handed given') (nodes_of (length s)) (rows_of m area 0) a.size a.least a.most enough a.differ a.ranged a.table in
      let k = built-packs s (handed given') (nodes_of (length s)) (rows_of m area 0) a.size a.least a.most enough a.differ a.ranged a.table in
      subst (λ live. Levels (nodes_of (length s)) (header_of (image_of s (nodes_of (length s)) live (packed (handed given') (rows_of m area 0)))).levels) (sym l)
      (rw (held-header (image_of s (nodes_of (length s)) (length (rows_of m area 0)) (packed (handed given') (rows_of m area 0))) (nodes_of (length s)) (length (rows_of m area 0))
      (packed (handed given') (rows_of m area 0)) h) (k.levels_most, k.roomy))

  past : (j : ℕ) → nodes_of (length s) / 4 ≤ j → is_in j (numbers_from 1 (length given)) ≡ false
  past j h =
      let w = whole_parts (length s) p.whole in
      let q = p.numbers in
      let least = w.enough in
      not-past j 1 (length given) (omega arith)

  pub pack-done : (s' : List ℕ) → s' ≡ built_image s area m given' → Repacked s s' (rows_of m area 0)
  pack-done s' f =
      let b = built s s' area m given' pack-asks f in
      record {
        is_sound = b.is_sound;
        table = b.same_table;
        is_tidied = b.is_tidied;
        is_settled = tidied-settled s' b.is_tidied;
        size = b.same_size;
        levels = rw f levels-few.0;
        roomy = rw f levels-few.1;
        unused = λ j h. b.unused j (ap (is_in j) e ∙ past j h);
      }

-- the number of nodes as the code counts them
pub node-count : (len : ℕ) → whole_nodes len ≡ true → (nodes_of len ≡ len / 1024) × (32 ≤ len / 1024) × (len / 1024 ≤ 1024)
unfolding nodes_of
node-count len e = let w = whole_parts len e in (refl, w.enough, w.few)

-- THE WORK AREA
pub dumped-packable : (s area area' given : List ℕ) (m : ℕ) → whole_nodes (length s) ≡ true → sound s ≡ true → Dumped s area area' m
    → length given ≡ nodes_of (length s) / 4 - 1 → Packable s area' m given
dumped-packable s area area' given m w h d n =
    record { whole = w; room = d.fit.room; table = rw d.table (store-table s h); numbers = n }

pub repacked-table : (s s' area area' : List ℕ) (m : ℕ) → Dumped s area area' m → Repacked s s' (rows_of m area' 0) → Repacked s s' (table_of s)
repacked-table s s' area area' m d p = subst (λ t. Repacked s s' t) d.table p

-- the room for numbers: 256 are enough for a store of 1,024 nodes
pub numbers-room : (s : List ℕ) (e : ℕ) → whole_nodes (length s) ≡ true → e ≡ length s / 1024 / 4 - 1
    → length {A = ℕ} (take e (replicate 256 0)) ≡ nodes_of (length s) / 4 - 1
numbers-room s e w q =
    let n = node-count (length s) w in
    let l : length {A = ℕ} (replicate 256 0) ≡ 256 = length-replicate {A = ℕ} 256 0 in
    length-take-le e (replicate 256 0) (omega arith) ∙ (omega arith)

pub work-room : (s w : List ℕ) (k : ℕ) → whole_nodes (length s) ≡ true → k ≡ 128 * (length s / 1024) → 128 * nodes_of (length s) ≤ length w
    → length (take (k - 0) (drop 0 w)) ≡ 128 * nodes_of (length s)
unfolding nodes_of
work-room s w k e q h = taken-size k w (omega arith) ∙ q

-- zeros in the whole of a part
pub all-zeros : (area area' : List ℕ) (len k : ℕ) → area' ≡ zeros_of len ++ drop len area → length area ≡ len → len ≡ k → area' ≡ replicate k 0
unfolding zeros_of
all-zeros area area' len k f e q =
    let h : length area ≤ len = omega arith in
    f ∙ ap (λ l. replicate len 0 ++ l) (drop_of_length-le area h) ∙ append-nil (replicate len 0) ∙ ap (λ j. replicate j 0) q

pub rebuilt : (s s' w area' : List ℕ) (k : ℕ) → k ≡ 128 * (length s / 1024) → Repacked s s' (table_of s) → area' ≡ replicate (128 * nodes_of (length s)) 0
    → Rebuilt s s' w (take 0 w ++ (area' ++ drop (k - 0) (drop 0 w)))
unfolding nodes_of
rebuilt s s' w area' k q p e =
    let z : k - 0 ≡ 128 * (length s / 1024) = omega arith in
    record {
      is_sound = p.is_sound;
      table = p.table;
      is_tidied = p.is_tidied;
      is_settled = p.is_settled;
      size = p.size;
      work = ap₂ (λ a j. a ++ drop j w) e z;
      levels = p.levels;
      roomy = p.roomy;
      unused = p.unused;
    }
