-- The numbers of the nodes: each number that is handed in is used once.
use Rattle.std.specs.Prelude.{ℕ, zero, suc, ◌+◌, ◌≤◌, ◌<◌, ◌≡◌, refl, List, [], ◌∷◌, ◌++◌, Bool, true, false, ◌&&◌, ◌||◌, not, cond, length, take, drop, get_or, ltb, leb, eqb}
use Rattle.image.specs.Prelude.{sym, ap, ap₂, ◌∙◌, append_assoc, true≢false, arith, length-append, le-leb, lt-ltb, leb-true, ltb-true, eq-eqb, eqb-true}
use Rattle.image.specs.Bytes.{shared}
use Rattle.image.specs.Table.{Row}
use Rattle.image.specs.Image.{leaf}
use Rattle.image.specs.Sound.{numbers, numbers_in, is_in, once, in_range, highest}
use Rattle.octets.specs.Order.{and_left, and_right, not-true, not-false}
use Rattle.laws.specs.Rising.{both}
use Rattle.packed.specs.Form.Chunk.{Group, members, flat, groups, groups-flat}
use Rattle.packed.specs.Form.Packed.{Item, key_of, low_of, pair_weight, child_weight, first, branches, leaf_from, node_from, leaf_level, node_level, leaves, raised}

-- how often a number stands in a list
unfoldable pub times : ℕ → List ℕ → ℕ
times j [] = 0
times j (i ∷ is) = cond (eqb j i) 1 0 + times j is

pub times-append : (j : ℕ) (xs ys : List ℕ) → times j (xs ++ ys) ≡ times j xs + times j ys
unfolding times
times-append j [] ys = omega arith
times-append j (x ∷ xs) ys = rw (times-append j xs ys) (omega arith)

unfoldable pub level_numbers : List Item → List ℕ
level_numbers [] = []
level_numbers (x ∷ xs) = numbers x.node ++ level_numbers xs

pub branches-numbers : (k : ℕ) (xs : List Item) → numbers_in (branches k xs) ≡ level_numbers xs
unfolding numbers_in branches level_numbers
branches-numbers k [] = refl
branches-numbers k (x ∷ xs) = ap (λ l. numbers x.node ++ l) (branches-numbers k xs)

numbers-append : (xs ys : List Item) → level_numbers (xs ++ ys) ≡ level_numbers xs ++ level_numbers ys
unfolding level_numbers
numbers-append [] ys = refl
numbers-append (x ∷ xs) ys =
    ap (λ l. numbers x.node ++ l) (numbers-append xs ys) ∙ sym (append_assoc (numbers x.node) (level_numbers xs) (level_numbers ys))

-- the leaves take the first numbers, in order
leaf_level-numbers : (nums lo : List ℕ) (gs : List (Group Row)) → length gs ≤ length nums → level_numbers (leaf_level nums lo gs) ≡ take (length gs) nums
unfolding leaf_level leaf_from level_numbers numbers
leaf_level-numbers nums lo [] h = refl
leaf_level-numbers [] lo (g ∷ gs) h = absurd (omega arith)
leaf_level-numbers (i ∷ nums) lo (g ∷ gs) h = ap (λ l. i ∷ l) (leaf_level-numbers nums (first key_of highest (flat gs)) gs (omega arith))

pub leaf_level-length : (nums lo : List ℕ) (gs : List (Group Row)) → length (leaf_level nums lo gs) ≡ length gs
unfolding leaf_level
leaf_level-length nums lo [] = refl
leaf_level-length nums lo (g ∷ gs) = ap suc (leaf_level-length (drop 1 nums) (first key_of highest (flat gs)) gs)

pub node_level-length : (nums : List ℕ) (gs : List (Group Item)) → length (node_level nums gs) ≡ length gs
unfolding node_level
node_level-length nums [] = refl
node_level-length nums (g ∷ gs) = ap suc (node_level-length (drop 1 nums) gs)

-- a level above takes the next ones
node-times : (j i k : ℕ) (xs : List Item) (rest : List ℕ)
    → times j ((i ∷ numbers_in (branches k xs)) ++ rest) ≡ cond (eqb j i) 1 0 + (times j (level_numbers xs) + times j rest)
unfolding times
node-times j i k xs rest = rw (branches-numbers k xs, times-append j (level_numbers xs) rest)

flat-times : (j : ℕ) (xs ys : List Item) → times j (level_numbers (xs ++ ys)) ≡ times j (level_numbers xs) + times j (level_numbers ys)
flat-times j xs ys = rw (numbers-append xs ys, times-append j (level_numbers xs) (level_numbers ys))

mix : (c a r t f : ℕ) → r ≡ t + f → c + (a + r) ≡ c + t + (a + f)
mix c a r t f e = omega arith

node_level-times : (j : ℕ) (nums : List ℕ) (gs : List (Group Item)) → length gs ≤ length nums
    → times j (level_numbers (node_level nums gs)) ≡ times j (take (length gs) nums) + times j (level_numbers (flat gs))
unfolding node_level node_from level_numbers numbers times flat
node_level-times j nums [] h = refl
node_level-times j [] (g ∷ gs) h = absurd (omega arith)
node_level-times j (i ∷ nums) (g ∷ gs) h =
    node-times j i (length (shared g.head.low (first low_of highest (flat gs)))) (members g) (level_numbers (node_level nums gs))
    ∙ mix (cond (eqb j i) 1 0) (times j (level_numbers (members g))) (times j (level_numbers (node_level nums gs))) (times j (take (length gs) nums))
    (times j (level_numbers (flat gs))) (node_level-times j nums gs (omega arith))
    ∙ ap (λ z. cond (eqb j i) 1 0 + times j (take (length gs) nums) + z) (sym (flat-times j (members g) (flat gs)))

mix-size : (a r k f : ℕ) → r ≡ k + f → suc (a + r) ≡ suc k + (a + f)
mix-size a r k f e = omega arith

node_level-size : (nums : List ℕ) (gs : List (Group Item))
    → length (level_numbers (node_level nums gs)) ≡ length gs + length (level_numbers (flat gs))
unfolding node_level node_from level_numbers numbers flat
node_level-size nums [] = refl
node_level-size nums (g ∷ gs) =
    ap suc (ap (λ l. length (l ++ level_numbers (node_level (drop 1 nums) gs)))
    (branches-numbers (length (shared g.head.low (first low_of highest (flat gs)))) (members g))
    ∙ length-append (level_numbers (members g)) (level_numbers (node_level (drop 1 nums) gs)))
    ∙ mix-size (length (level_numbers (members g))) (length (level_numbers (node_level (drop 1 nums) gs))) (length gs) (length (level_numbers (flat gs)))
    (node_level-size (drop 1 nums) gs)
    ∙ ap (λ z. suc (length gs) + z) (sym (ap length (numbers-append (members g) (flat gs)) ∙ length-append (level_numbers (members g)) (level_numbers (flat gs))))

-- the same on whole levels
pub leaves-numbers : (nums : List ℕ) (t : List Row) → length (leaves nums t) ≤ length nums → level_numbers (leaves nums t) ≡ take (length (leaves nums t)) nums
unfolding leaves
leaves-numbers nums [] h = one nums h
  where
    one : (ns : List ℕ) → 1 ≤ length ns → level_numbers (record { low = []; node = leaf (get_or ns 0 0) [] } ∷ []) ≡ take 1 ns
    one [] k = absurd (omega arith)
    one (i ∷ ns) k = unfold level_numbers numbers in refl
leaves-numbers nums (r ∷ t) h =
    let e = leaf_level-length nums [] (groups pair_weight (r ∷ t)) in
    rw e (leaf_level-numbers nums [] (groups pair_weight (r ∷ t)) (rw e at h))

pub raised-length : (nums : List ℕ) (xs : List Item) → length (raised nums xs) ≡ length (groups child_weight xs)
unfolding raised
raised-length nums xs = node_level-length nums (groups child_weight xs)

pub raised-times : (j : ℕ) (nums : List ℕ) (xs : List Item) → length (raised nums xs) ≤ length nums
    → times j (level_numbers (raised nums xs)) ≡ times j (take (length (raised nums xs)) nums) + times j (level_numbers xs)
raised-times j nums xs h =
    go (rw (raised-length nums xs) at h) ∙ ap₂ (λ a b. times j (take a nums) + times j (level_numbers b)) (sym (raised-length nums xs)) (groups-flat child_weight xs)
  where
    go : length (groups child_weight xs) ≤ length nums
        → times j (level_numbers (raised nums xs)) ≡ times j (take (length (groups child_weight xs)) nums) + times j (level_numbers (flat (groups child_weight xs)))
    go k = unfold raised in node_level-times j nums (groups child_weight xs) k

pub raised-size : (nums : List ℕ) (xs : List Item) → length (level_numbers (raised nums xs)) ≡ length (raised nums xs) + length (level_numbers xs)
raised-size nums xs =
    go ∙ ap₂ (λ a b. a + length (level_numbers b)) (sym (raised-length nums xs)) (groups-flat child_weight xs)
  where
    go : length (level_numbers (raised nums xs)) ≡ length (groups child_weight xs) + length (level_numbers (flat (groups child_weight xs)))
    go = unfold raised in node_level-size nums (groups child_weight xs)

-- from counting back to the tests of the paper
pub times-in : (j : ℕ) (is : List ℕ) → is_in j is ≡ false → times j is ≡ 0
unfolding times is_in
times-in j [] e = refl
times-in j (i ∷ is) e = go (eqb j i) refl (times-in j is)
  where
    go : (x : Bool) → eqb j i ≡ x → (is_in j is ≡ false → times j is ≡ 0) → cond (eqb j i) 1 0 + times j is ≡ 0
    go true q ih = absurd (true≢false (rw q at e))
    go false q ih = rw (q, ih (rw q at e))

pub in-times : (j : ℕ) (is : List ℕ) → times j is ≡ 0 → is_in j is ≡ false
unfolding times is_in
in-times j [] e = refl
in-times j (i ∷ is) e = go (eqb j i) refl (in-times j is)
  where
    go : (x : Bool) → eqb j i ≡ x → (times j is ≡ 0 → is_in j is ≡ false) → eqb j i || is_in j is ≡ false
    go true q ih = let z : 1 + times j is ≡ 0 = rw q at e in absurd (omega arith)
    go false q ih = let z : 0 + times j is ≡ 0 = rw q at e in rw (q, ih (omega arith))

pub once-times : (is : List ℕ) → once is ≡ true → (j : ℕ) → times j is ≤ 1
unfolding once times
once-times [] e j = omega arith
once-times (i ∷ is) e j = go (eqb j i) refl (once-times is (and_right (not (is_in i is)) _ e) j)
  where
    go : (x : Bool) → eqb j i ≡ x → times j is ≤ 1 → cond (eqb j i) 1 0 + times j is ≤ 1
    go true q ih =
        let s : times j is ≡ 0 = ap (λ k. times k is) (eqb-true j i q) ∙ times-in i is (not-true (is_in i is) (and_left _ _ e)) in
        rw (q, s) (omega arith)
    go false q ih = rw q (omega arith)

pub times-once : (is : List ℕ) → ((j : ℕ) → times j is ≤ 1) → once is ≡ true
unfolding once times
times-once [] h = refl
times-once (i ∷ is) h =
    both (not-false (is_in i is) (in-times i is (let k : 1 + times i is ≤ 1 = rw (eq-eqb i i refl) at (h i) in omega arith)))
    (times-once is (λ j. let k = h j in omega arith))

pub range-times : (n : ℕ) (is : List ℕ) → in_range n is ≡ true → (j : ℕ) → 1 ≤ times j is → (1 ≤ j) × (j < n)
unfolding in_range times
range-times n [] e j h = absurd (omega arith)
range-times n (i ∷ is) e j h = go (eqb j i) refl (range-times n is (and_right (leb 1 i && ltb i n) _ e) j)
  where
    go : (x : Bool) → eqb j i ≡ x → (1 ≤ times j is → (1 ≤ j) × (j < n)) → (1 ≤ j) × (j < n)
    go true q ih =
        let z : j ≡ i = eqb-true j i q in
        let a : 1 ≤ i = leb-true 1 i (and_left _ _ (and_left _ _ e)) in
        let b : i < n = ltb-true i n (and_right (leb 1 i) _ (and_left _ _ e)) in
        (omega arith, omega arith)
    go false q ih = ih (let z : 1 ≤ 0 + times j is = rw q at h in omega arith)

pub times-range : (n : ℕ) (is : List ℕ) → ((j : ℕ) → 1 ≤ times j is → (1 ≤ j) × (j < n)) → in_range n is ≡ true
unfolding in_range times
times-range n [] h = refl
times-range n (i ∷ is) h =
    let k : (1 ≤ i) × (i < n) = h i (rw (eq-eqb i i refl) (omega arith)) in
    both (both (le-leb 1 i k.0) (lt-ltb i n k.1)) (times-range n is (λ j x. h j (omega arith)))

-- a part of a list
pub times-take : (j k : ℕ) (is : List ℕ) → times j (take k is) ≤ times j is
unfolding times
times-take j zero is = omega arith
times-take j (suc k) [] = omega arith
times-take j (suc k) (i ∷ is) = let h = times-take j k is in omega arith
