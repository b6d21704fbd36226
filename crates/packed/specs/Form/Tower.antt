-- Level by level: what the whole packed tree keeps.
use Rattle.std.specs.Prelude.{ℕ, zero, suc, ◌+◌, ◌*◌, ◌-◌, ◌/◌, ◌≤◌, ◌<◌, ◌≡◌, refl, List, [], ◌∷◌, Bool, true, false, length, take, drop, leb}
use Rattle.image.specs.Prelude.{sym, ap, subst, ◌∙◌, append-nil, arith, length-drop, take-add, length-take-le, le-leb, leb-true, leb-false, lt-ltb, eq-eqb, ne_eqb}
use Rattle.image.specs.Table.{Row}
use Rattle.image.specs.Meaning.{rows}
use Rattle.image.specs.Sound.{sound_tree, numbers, is_in, once, in_range, lowest, highest, sound_root}
use Rattle.image.specs.Upkeep.{reachable, holds_no_message, every}
use Rattle.octets.specs.Order.{not-false}
use Rattle.laws.specs.Rising.{both}
use Rattle.packed.specs.Form.Chunk.{All, groups, groups-count, groups-some}
use Rattle.packed.specs.Form.Packed.{Item, low_of, pair_weight, child_weight, first, leaf_level, leaf_from, leaves, raised, Built, top_of, climb, packed, numbers_from, pair_limit, least_pairs}
use Rattle.packed.specs.Form.Leaves.{Tabled, Stands, level_rows, leaves-stand, leaves-rows}
use Rattle.packed.specs.Form.Raised.{raised-stand, raised-rows, raised-first}
use Rattle.packed.specs.Form.Neat.{Neat, Trim, leaves-trim, raised-trim, child-weights, pair-weights, neat-quiet}
use Rattle.packed.specs.Form.Numbered.{times, times-append, level_numbers, leaves-numbers, leaf_level-length, raised-length, raised-times, raised-size, once-times, times-once, range-times, times-range, times-take}

-- what stands under f levels more
unfoldable pub room : ℕ → ℕ
room zero = 1
room (suc f) = 14 * room f

-- a level that the climb starts from
pub record Level (l : ℕ) (xs : List Item) : Type 0 where
  pub some_node : 1 ≤ length xs
  pub starts : first low_of highest xs ≡ []
  pub stands : Stands highest xs
  pub trim : All (Trim l) xs
  pub level : 1 ≤ l

-- how many nodes stand on a level above: fewer than half
pub few-raised : (nums : List ℕ) (l : ℕ) (xs : List Item) → Level l xs → 14 * (length (raised nums xs) - 1) + 1 ≤ length xs
few-raised nums l xs h =
    rw (raised-length nums xs) (groups-count child_weight 14 70 (omega arith) xs h.some_node (child-weights l xs h.trim))

pub some-raised : (nums : List ℕ) (xs : List Item) → 1 ≤ length xs → 1 ≤ length (raised nums xs)
some-raised nums xs h = rw (raised-length nums xs) (groups-some child_weight xs h)

pub level-above : (nums : List ℕ) (l : ℕ) (xs : List Item) → Level l xs → Level (suc l) (raised nums xs)
level-above nums l xs h =
    record {
      some_node = some-raised nums xs h.some_node;
      starts = raised-first nums xs ∙ h.starts;
      stands = raised-stand nums xs h.stands;
      trim = raised-trim nums l xs h.level h.trim;
      level = omega arith;
    }

-- what comes of a climb
pub record Climbed (l : ℕ) (nums : List ℕ) (xs : List Item) (b : Built) : Type 0 where
  pub extra : ℕ
  pub few : extra + 1 ≤ length xs
  pub half : 2 * extra ≤ length xs
  pub counted : (j : ℕ) → times j (numbers b.root) ≡ times j (level_numbers xs) + times j (take extra nums)
  pub sized : length (numbers b.root) ≡ length (level_numbers xs) + extra
  pub neat : Neat b.root b.levels
  pub is_sound : sound_tree b.root lowest highest ≡ true
  pub same_rows : rows b.root lowest highest ≡ level_rows highest xs
  pub lower : (g : ℕ) → length xs ≤ room g → b.levels ≤ l + g
  pub high_enough : l ≤ b.levels

one_left : (l : ℕ) (nums : List ℕ) (x : Item) → Level l (x ∷ []) → Climbed l nums (x ∷ []) (record { root = x.node; levels = l })
unfolding level_numbers level_rows first times
one_left l nums x h =
    record {
      extra = 0;
      few = omega arith;
      half = omega arith;
      counted = λ j. rw (append-nil (numbers x.node)) (omega arith);
      sized = rw (append-nil (numbers x.node)) (omega arith);
      neat = h.trim.0.0;
      is_sound = subst (λ z. sound_tree x.node z highest ≡ true) h.starts h.stands.1;
      same_rows = ap (λ z. rows x.node z highest) (sym h.starts) ∙ sym (append-nil (rows x.node x.low highest));
      lower = λ g q. omega arith;
      high_enough = omega arith;
    }

on-top : (l : ℕ) (nums : List ℕ) (xs : List Item) (b : Built) → Level l xs → 2 ≤ length xs → length xs ≤ 2 * length nums + 1
    → Climbed (suc l) (drop (length (raised nums xs)) nums) (raised nums xs) b → Climbed l nums xs b
unfolding room
on-top l nums xs b h two k c =
    let m : ℕ = length (raised nums xs) in
    let few : 14 * (m - 1) + 1 ≤ length xs = few-raised nums l xs h in
    let some_node : 1 ≤ m = some-raised nums xs h.some_node in
    record {
      extra = m + c.extra;
      few = let q = c.few in omega arith;
      half = let q = c.few in omega arith;
      counted = λ j.
          let a = c.counted j in
          let d = raised-times j nums xs (omega arith) in
          let e = ap (times j) (take-add m c.extra nums) ∙ times-append j (take m nums) (take c.extra (drop m nums)) in
          omega arith;
      sized = c.sized ∙ rw (raised-size nums xs) (omega arith);
      neat = c.neat;
      is_sound = c.is_sound;
      same_rows = c.same_rows ∙ raised-rows nums xs h.stands;
      lower = by-room;
      high_enough = let q = c.high_enough in omega arith;
    }
  where
    by-room : (g : ℕ) → length xs ≤ room g → b.levels ≤ l + g
    by-room zero q = absurd (omega arith)
    by-room (suc g) q =
        let few = few-raised nums l xs h in
        let some_node = some-raised nums xs h.some_node in
        let z = c.lower g (omega arith) in
        omega arith

pub climbed : (f l : ℕ) (nums : List ℕ) (xs : List Item) → Level l xs → length xs ≤ room f → length xs ≤ 2 * length nums + 1
    → Climbed l nums xs (climb f l nums xs)
unfolding climb room top_of
climbed zero l nums [] h r k = absurd (let q = h.some_node in omega arith)
climbed zero l nums (x ∷ []) h r k = one_left l nums x h
climbed zero l nums (x ∷ y ∷ zs) h r k = absurd (omega arith)
climbed (suc f) l nums [] h r k = absurd (let q = h.some_node in omega arith)
climbed (suc f) l nums (x ∷ []) h r k = one_left l nums x h
climbed (suc f) l nums (x ∷ y ∷ zs) h r k =
    let ys : List Item = raised nums (x ∷ y ∷ zs) in
    let m : ℕ = length ys in
    let few = few-raised nums l (x ∷ y ∷ zs) h in
    let some_node = some-raised nums (x ∷ y ∷ zs) h.some_node in
    on-top l nums (x ∷ y ∷ zs) (climb f (suc l) (drop m nums) ys) h (omega arith) k
    (climbed f (suc l) (drop m nums) ys (level-above nums l (x ∷ y ∷ zs) h) (omega arith) (rw (length-drop m nums) (omega arith)))

-- the leaf level
pub few-leaves : (nums : List ℕ) (t : List Row) → Tabled t → (1 ≤ length (leaves nums t)) × (least_pairs * (length (leaves nums t) - 1) ≤ length t - 1)
unfolding leaves
few-leaves nums [] h = (omega arith, omega arith)
few-leaves nums (r ∷ t) h =
    let a = leaf_level-length nums [] (groups pair_weight (r ∷ t)) in
    let b = groups-count pair_weight least_pairs pair_limit (omega arith) (r ∷ t) (omega arith) (pair-weights (r ∷ t) h.good) in
    let c = groups-some pair_weight (r ∷ t) (omega arith) in
    (omega arith, omega arith)

leaves-first : (nums : List ℕ) (t : List Row) → first low_of highest (leaves nums t) ≡ []
unfolding leaves leaf_level leaf_from first groups
leaves-first nums [] = refl
leaves-first nums (r ∷ t) = refl

pub leaf-level : (nums : List ℕ) (t : List Row) → Tabled t → Level 1 (leaves nums t)
leaf-level nums t h =
    record {
      some_node = (few-leaves nums t h).0;
      starts = leaves-first nums t;
      stands = leaves-stand nums t h;
      trim = leaves-trim nums t h.good;
      level = omega arith;
    }

-- The packed tree of a table of at most n rows, n from 32 to 1,024, with at least n / 4 numbers handed in.
pub record Packs (nums : List ℕ) (t : List Row) (n : ℕ) : Type 0 where
  pub same_table : rows (packed nums t).root lowest highest ≡ t
  pub is_sound : sound_tree (packed nums t).root lowest highest ≡ true
  pub neat : Neat (packed nums t).root (packed nums t).levels
  pub levels_most : (packed nums t).levels ≤ 3
  pub levels_least : 1 ≤ (packed nums t).levels
  pub roomy : 10 * (packed nums t).levels + 1 ≤ n - n / 4
  pub quarter : length (numbers (packed nums t).root) + 1 ≤ n / 4
  pub counted : (j : ℕ) → times j (numbers (packed nums t).root) ≤ times j nums

room-2 : 196 ≤ room 2
unfolding room
room-2 = omega arith

room-1 : 14 ≤ room 1
unfolding room
room-1 = omega arith

-- Three levels only with 15 leaves or more: then, and else, the nodes that a packed tree leaves free are enough for a move.
levels-room : (n leaves levels rows : ℕ) → 32 ≤ n → rows ≤ n → least_pairs * (leaves - 1) ≤ rows - 1 → levels ≤ 3 → (leaves ≤ 14 → levels ≤ 2) → 10 * levels + 1 ≤ n - n / 4
levels-room n leaves levels rows a b c most lower = go (leb leaves 14) refl
  where
    go : (x : Bool) → leb leaves 14 ≡ x → 10 * levels + 1 ≤ n - n / 4
    go true q = let z : levels ≤ 2 = lower (leb-true leaves 14 q) in omega arith
    go false q = let z : 14 < leaves = leb-false leaves 14 q in omega arith

pub room-7 : 1024 ≤ room 7
unfolding room
room-7 = omega arith

pub packs : (nums : List ℕ) (t : List Row) (n : ℕ) → 32 ≤ n → n ≤ 1024 → length t ≤ n → n / 4 ≤ length nums + 1 → Tabled t → Packs nums t n
unfolding packed
packs nums t n a b k e h =
    let l : ℕ = length (leaves nums t) in
    let p = few-leaves nums t h in
    let r = room-7 in
    let d = length-drop l nums in
    let c : Climbed 1 (drop l nums) (leaves nums t) (climb 7 1 (drop l nums) (leaves nums t)) =
    climbed 7 1 (drop l nums) (leaves nums t) (leaf-level nums t h) (omega arith) (omega arith) in
    let g : level_numbers (leaves nums t) ≡ take l nums = leaves-numbers nums t (omega arith) in
    record {
      same_table = c.same_rows ∙ leaves-rows nums t h;
      is_sound = c.is_sound;
      neat = c.neat;
      levels_most = c.lower 2 (let z = room-2 in omega arith);
      levels_least = c.high_enough;
      roomy =
          levels-room n l (climb 7 1 (drop l nums) (leaves nums t)).levels (length t) a k p.1 (c.lower 2 (let z = room-2 in omega arith))
          (λ q. c.lower 1 (let z = room-1 in omega arith));
      quarter =
          let q = c.sized in
          let s = ap length g ∙ length-take-le l nums (omega arith) in
          let u = c.half in
          omega arith;
      counted = λ j.
          let x = c.counted j in
          let y = ap (times j) g in
          let z = ap (times j) (take-add l c.extra nums) ∙ times-append j (take l nums) (take c.extra (drop l nums)) in
          let w = times-take j (l + c.extra) nums in
          omega arith;
    }

-- with numbers that differ and are in range, the tree is a sound root, with the live count of the table
pub once-and-range : (nums : List ℕ) (t : List Row) (n : ℕ) → Packs nums t n → once nums ≡ true → in_range n nums ≡ true
    → (once (numbers (packed nums t).root) ≡ true) × (in_range n (numbers (packed nums t).root) ≡ true)
once-and-range nums t n h o r = (
  times-once (numbers (packed nums t).root) (λ j. let a = h.counted j in let b = once-times nums o j in omega arith),
  times-range n (numbers (packed nums t).root) (λ j k. range-times n nums r j (let a = h.counted j in omega arith)),
)

pub packed-root : (nums : List ℕ) (t : List Row) (n : ℕ) → Packs nums t n → once nums ≡ true → in_range n nums ≡ true
    → sound_root n (length t) (packed nums t).root ≡ true
unfolding sound_root
packed-root nums t n h o r =
    let q = once-and-range nums t n h o r in
    both (both (both h.is_sound q.0) q.1)
    (eq-eqb (length t) (length (rows (packed nums t).root lowest highest)) (sym (ap length h.same_table)))

pub packed-settled : (nums : List ℕ) (t : List Row) (n : ℕ) → Packs nums t n
    → every holds_no_message (reachable (packed nums t).root (packed nums t).levels lowest highest) ≡ true
packed-settled nums t n h = neat-quiet (packed nums t).root (packed nums t).levels (packed nums t).levels lowest highest h.neat

-- the numbers from 1
pub from-range : (i k n : ℕ) → 1 ≤ i → i + k ≤ n → in_range n (numbers_from i k) ≡ true
unfolding in_range numbers_from
from-range i zero n a b = refl
from-range i (suc k) n a b = both (both (le-leb 1 i a) (lt-ltb i n (omega arith))) (from-range (suc i) k n (omega arith) (omega arith))

pub from-length : (i k : ℕ) → length (numbers_from i k) ≡ k
unfolding numbers_from
from-length i zero = refl
from-length i (suc k) = ap suc (from-length (suc i) k)

not-later : (j i k : ℕ) → j < i → is_in j (numbers_from i k) ≡ false
unfolding is_in numbers_from
not-later j i zero h = refl
not-later j i (suc k) h = rw (ne_eqb j i (λ q. omega arith)) (not-later j (suc i) k (omega arith))

pub from-once : (i k : ℕ) → once (numbers_from i k) ≡ true
unfolding once numbers_from
from-once i zero = refl
from-once i (suc k) = both (not-false (is_in i (numbers_from (suc i) k)) (not-later i (suc i) k (omega arith))) (from-once (suc i) k)
