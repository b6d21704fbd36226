-- A level above: its nodes are sound, and hold the same rows.
use Rattle.std.specs.Prelude.{ℕ, ◌≡◌, refl, List, [], ◌∷◌, ◌++◌, true, length, drop, get_or}
use Rattle.image.specs.Prelude.{sym, ap, ap₂, subst, ◌∙◌, append_assoc}
use Rattle.image.specs.Bytes.{before, shared}
use Rattle.image.specs.Image.{interior}
use Rattle.image.specs.Meaning.{high_of, rows, rows_in, apply_all}
use Rattle.image.specs.Sound.{sound_tree, sound_forest, sound_messages, first_pivot, highest}
use Rattle.octets.specs.Order.{same_refl, before-irrefl}
use Rattle.laws.specs.Rising.{both}
use Rattle.packed.specs.Form.Chunk.{All, Group, members, flat, groups, groups-flat}
use Rattle.packed.specs.Form.Packed.{Item, low_of, child_weight, first, branches, node_from, node_level, raised}
use Rattle.packed.specs.Form.Climbs.{Climbs, climbs-under, Between, climbs-between, Splits, between-splits, first-append}
use Rattle.packed.specs.Form.Leaves.{Stands, level_rows}

-- a level's order alone
stands-climbs : (hi : List ℕ) (xs : List Item) → Stands hi xs → Climbs low_of hi xs
stands-climbs hi [] h = tt
stands-climbs hi (x ∷ xs) h = (h.0, stands-climbs hi xs h.2)

stands-left : (hi : List ℕ) (xs ys : List Item) → Stands hi (xs ++ ys) → Stands (first low_of hi ys) xs
stands-left hi [] ys h = tt
stands-left hi (x ∷ xs) ys h = (
  subst (λ z. before x.low z ≡ true) (first-append low_of hi xs ys) h.0,
  subst (λ z. sound_tree x.node x.low z ≡ true) (first-append low_of hi xs ys) h.1,
  stands-left hi xs ys h.2,
)

stands-right : (hi : List ℕ) (xs ys : List Item) → Stands hi (xs ++ ys) → Stands hi ys
stands-right hi [] ys h = h
stands-right hi (x ∷ xs) ys h = stands-right hi xs ys h.2

rows_append : (hi : List ℕ) (xs ys : List Item) → level_rows hi (xs ++ ys) ≡ level_rows (first low_of hi ys) xs ++ level_rows hi ys
unfolding level_rows
rows_append hi [] ys = refl
rows_append hi (x ∷ xs) ys =
    ap₂ (λ z l. rows x.node x.low z ++ l) (first-append low_of hi xs ys) (rows_append hi xs ys)
    ∙ sym (append_assoc (rows x.node x.low (first low_of (first low_of hi ys) xs)) (level_rows (first low_of hi ys) xs) (level_rows hi ys))

-- the children of a node, their pivots without what the node lifts
branches-high : (l hi : List ℕ) (xs : List Item) → All (Splits low_of l) xs → high_of l hi (branches (length l) xs) ≡ first low_of hi xs
unfolding high_of branches first
branches-high l hi [] s = refl
branches-high l hi (x ∷ xs) s = s.0

branches-rows : (l hi : List ℕ) (xs : List Item) → All (Splits low_of l) xs → rows_in (branches (length l) xs) l hi ≡ level_rows hi xs
unfolding rows_in branches level_rows
branches-rows l hi [] s = refl
branches-rows l hi (x ∷ xs) s = rw (s.0, branches-high l hi xs s.1) (ap (λ t. rows x.node x.low (first low_of hi xs) ++ t) (branches-rows l hi xs s.1))

branches_sound : (l lo hi : List ℕ) (xs : List Item) → All (Splits low_of l) xs → All (Between low_of lo hi) xs → Stands hi xs
    → sound_forest (branches (length l) xs) l lo hi ≡ true
unfolding sound_forest branches
branches_sound l lo hi [] s b h = refl
branches_sound l lo hi (x ∷ xs) s b h =
    rw (s.0, branches-high l hi xs s.1) (both (both (both b.0 h.0) h.1) (branches_sound l lo hi xs s.1 b.1 h.2))

-- one node over a group
module _ (i : ℕ) (hi : List ℕ) (x : Item) (xs : List Item) (st : Stands hi (x ∷ xs)) where
  low-between : All (Between low_of x.low hi) (x ∷ xs)
  unfolding first
  low-between = climbs-between low_of x.low hi (x ∷ xs) (stands-climbs hi (x ∷ xs) st) (before-irrefl x.low)

  low-splits : All (Splits low_of (shared x.low hi)) (x ∷ xs)
  low-splits = between-splits low_of x.low hi (x ∷ xs) low-between

  pub node-sound : sound_tree (interior i (branches (length (shared x.low hi)) (x ∷ xs)) []) x.low hi ≡ true
  unfolding sound_tree sound_messages
  node-sound =
      both (both first-is (branches_sound (shared x.low hi) x.low hi (x ∷ xs) low-splits low-between st)) refl
    where
      first-is : first_pivot (shared x.low hi) x.low (branches (length (shared x.low hi)) (x ∷ xs)) ≡ true
      first-is = unfold first_pivot branches in rw low-splits.0 (same_refl x.low)

  pub node-rows : rows (interior i (branches (length (shared x.low hi)) (x ∷ xs)) []) x.low hi ≡ level_rows hi (x ∷ xs)
  unfolding rows apply_all
  node-rows = branches-rows (shared x.low hi) hi (x ∷ xs) low-splits

  pub node-under : before x.low hi ≡ true
  node-under = climbs-under low_of hi x xs (stands-climbs hi (x ∷ xs) st)

node_level-first : (nums : List ℕ) (gs : List (Group Item)) → first low_of highest (node_level nums gs) ≡ first low_of highest (flat gs)
unfolding first node_level node_from flat
node_level-first nums [] = refl
node_level-first nums (g ∷ gs) = refl

node_level-stands : (nums : List ℕ) (gs : List (Group Item)) → Stands highest (flat gs) → Stands highest (node_level nums gs)
unfolding node_level node_from flat
node_level-stands nums [] h = tt
node_level-stands nums (g ∷ gs) h =
    let hi : List ℕ = first low_of highest (flat gs) in
    let st : Stands hi (members g) = stands-left highest (members g) (flat gs) h in
    rw (node_level-first (drop 1 nums) gs) (
      node-under 0 hi g.head g.tail st,
      node-sound (get_or nums 0 0) hi g.head g.tail st,
      node_level-stands (drop 1 nums) gs (stands-right highest (members g) (flat gs) h),
    )

node_level-rows : (nums : List ℕ) (gs : List (Group Item)) → Stands highest (flat gs) → level_rows highest (node_level nums gs) ≡ level_rows highest (flat gs)
unfolding node_level node_from flat level_rows
node_level-rows nums [] h = refl
node_level-rows nums (g ∷ gs) h =
    let hi : List ℕ = first low_of highest (flat gs) in
    let st : Stands hi (members g) = stands-left highest (members g) (flat gs) h in
    rw (node_level-first (drop 1 nums) gs)
    (ap₂ (λ a b. a ++ b) (node-rows (get_or nums 0 0) hi g.head g.tail st)
    (node_level-rows (drop 1 nums) gs (stands-right highest (members g) (flat gs) h))
    ∙ sym (rows_append highest (members g) (flat gs)))

pub raised-stand : (nums : List ℕ) (xs : List Item) → Stands highest xs → Stands highest (raised nums xs)
unfolding raised
raised-stand nums xs h = node_level-stands nums (groups child_weight xs) (rw (groups-flat child_weight xs) h)

pub raised-rows : (nums : List ℕ) (xs : List Item) → Stands highest xs → level_rows highest (raised nums xs) ≡ level_rows highest xs
unfolding raised
raised-rows nums xs h =
    node_level-rows nums (groups child_weight xs) (rw (groups-flat child_weight xs) h) ∙ ap (level_rows highest) (groups-flat child_weight xs)

pub raised-first : (nums : List ℕ) (xs : List Item) → first low_of highest (raised nums xs) ≡ first low_of highest xs
unfolding raised
raised-first nums xs = node_level-first nums (groups child_weight xs) ∙ ap (first low_of highest) (groups-flat child_weight xs)
