-- The leaf level: its nodes are sound, and hold the rows of the table in order.
use Rattle.std.specs.Prelude.{ℕ, ◌≤◌, ◌≡◌, refl, List, [], ◌∷◌, ◌++◌, Bool, true, false, ◌&&◌, cond, length, drop, get_or, leb, eqb}
use Rattle.image.specs.Prelude.{sym, ap₂, subst, ◌∙◌, arith, leb-true, lt-ltb, eqb-true}
use Rattle.image.specs.Bytes.{before, shared}
use Rattle.image.specs.Path.{owns, well_formed, reads_on, letter, path_limit, value_fits, value_limit}
use Rattle.image.specs.Table.{Row, every_key, under_prefix, leads, rising}
use Rattle.image.specs.Image.{leaf}
use Rattle.image.specs.Meaning.{rows}
use Rattle.image.specs.Sound.{sound_tree, values_fit, highest}
use Rattle.octets.specs.Order.{and_left, and_right, before-append, before-irrefl, le-before}
use Rattle.laws.specs.Rising.{both}
use Rattle.packed.specs.Form.Chunk.{All, all_left, all_right, all_map, Group, members, flat, groups, groups-flat}
use Rattle.packed.specs.Form.Packed.{Item, key_of, low_of, pair_weight, first, short_rows, leaf_from, leaf_level, leaves}
use Rattle.packed.specs.Form.Climbs.{Climbs, climbs-under, Between, climbs-between, Splits, between-splits, climbs-group, climbs-later}

-- a row that a store may hold
abbrev pub Good : Row → Type 0
Good r = (well_formed r.key ≡ true) × (value_fits r.value ≡ true)

-- rows without what they share, and back
pub under-short : (l : List ℕ) (rs : List Row) → All (Splits key_of l) rs → under_prefix l (short_rows (length l) rs) ≡ rs
unfolding under_prefix short_rows
under-short l [] h = refl
under-short l (r ∷ rs) h = ap₂ (λ k t. record { key = k; value = r.value } ∷ t) h.0 (under-short l rs h.1)

pub every-all : (test : List ℕ → Bool) (rs : List Row) → All (λ r. test r.key ≡ true) rs → every_key test rs ≡ true
unfolding every_key
every-all test [] h = refl
every-all test (r ∷ rs) h = both h.0 (every-all test rs h.1)

pub all-every : (test : List ℕ → Bool) (rs : List Row) → every_key test rs ≡ true → All (λ r. test r.key ≡ true) rs
unfolding every_key
all-every test [] h = tt
all-every test (r ∷ rs) h = (and_left _ _ h, all-every test rs (and_right (test r.key) _ h))

short-values : (k : ℕ) (rs : List Row) → All (λ r. value_fits r.value ≡ true) rs → values_fit (short_rows k rs) ≡ true
unfolding values_fit short_rows
short-values k [] h = refl
short-values k (r ∷ rs) h = both h.0 (short-values k rs h.1)

short-before : (l a b : List ℕ) → l ++ drop (length l) a ≡ a → l ++ drop (length l) b ≡ b → before a b ≡ true → before (drop (length l) a) (drop (length l) b) ≡ true
short-before l a b p q e = sym (before-append l (drop (length l) a) (drop (length l) b)) ∙ ap₂ before p q ∙ e

short-rising : (l hi : List ℕ) (rs : List Row) → Climbs key_of hi rs → All (Splits key_of l) rs → rising (short_rows (length l) rs) ≡ true
unfolding rising leads short_rows first
short-rising l hi [] c s = refl
short-rising l hi (r ∷ []) c s = refl
short-rising l hi (r ∷ q ∷ rs) c s =
    both (short-before l r.key q.key s.0 s.1.0 c.0) (short-rising l hi (q ∷ rs) c.1 s.1)

-- a leaf of rows that its pivots own
pub leaf-sound : (i : ℕ) (lo hi : List ℕ) (rs : List Row) → Climbs key_of hi rs → All (Between key_of lo hi) rs → All Good rs
    → sound_tree (leaf i (short_rows (length (shared lo hi)) rs)) lo hi ≡ true
unfolding sound_tree
leaf-sound i lo hi rs c b g =
    let s : All (Splits key_of (shared lo hi)) rs = between-splits key_of lo hi rs b in
    rw (under-short (shared lo hi) rs s)
    (both (both (both (every-all well_formed rs (all_map Good (λ r. well_formed r.key ≡ true) (λ r x. x.0) rs g)) (every-all (owns lo hi) rs b))
    (short-rising (shared lo hi) hi rs c s))
    (short-values (length (shared lo hi)) rs (all_map Good (λ r. value_fits r.value ≡ true) (λ r x. x.1) rs g)))

pub leaf-rows : (i : ℕ) (lo hi : List ℕ) (rs : List Row) → All (Between key_of lo hi) rs → rows (leaf i (short_rows (length (shared lo hi)) rs)) lo hi ≡ rs
unfolding rows
leaf-rows i lo hi rs b = under-short (shared lo hi) rs (between-splits key_of lo hi rs b)

-- a level stands: each node is sound for its pivots, which rise
abbrev pub Stands : List ℕ → List Item → Type 0
Stands hi [] = Unit {0}
Stands hi (x ∷ xs) = (before x.low (first low_of hi xs) ≡ true) × (sound_tree x.node x.low (first low_of hi xs) ≡ true) × Stands hi xs

-- the rows of a level
unfoldable pub level_rows : List ℕ → List Item → List Row
level_rows hi [] = []
level_rows hi (x ∷ xs) = rows x.node x.low (first low_of hi xs) ++ level_rows hi xs

leaf_level-first : (nums : List ℕ) (gs : List (Group Row)) → first low_of highest (leaf_level nums (first key_of highest (flat gs)) gs) ≡ first key_of highest (flat gs)
unfolding first leaf_level leaf_from flat
leaf_level-first nums [] = refl
leaf_level-first nums (g ∷ gs) = refl

leaf_level-stands : (nums lo : List ℕ) (gs : List (Group Row)) → Climbs key_of highest (flat gs) → All Good (flat gs)
    → before (first key_of highest (flat gs)) lo ≡ false → Stands highest (leaf_level nums lo gs)
unfolding leaf_level leaf_from first flat
leaf_level-stands nums lo [] c g n = tt
leaf_level-stands nums lo (x ∷ gs) c g n =
    let hi : List ℕ = first key_of highest (flat gs) in
    let d : Climbs key_of hi (members x) = climbs-group key_of highest x gs c in
    let b : All (Between key_of lo hi) (members x) = climbs-between key_of lo hi (members x) d n in
    rw (leaf_level-first (drop 1 nums) gs) (
      le-before lo x.head.key hi n (climbs-under key_of hi x.head x.tail d),
      leaf-sound (get_or nums 0 0) lo hi (members x) d b (all_left Good (members x) (flat gs) g),
      leaf_level-stands (drop 1 nums) hi gs (climbs-later key_of highest x gs c) (all_right Good (members x) (flat gs) g) (before-irrefl hi),
    )

leaf_level-rows : (nums lo : List ℕ) (gs : List (Group Row)) → Climbs key_of highest (flat gs)
    → before (first key_of highest (flat gs)) lo ≡ false → level_rows highest (leaf_level nums lo gs) ≡ flat gs
unfolding leaf_level leaf_from first flat level_rows
leaf_level-rows nums lo [] c n = refl
leaf_level-rows nums lo (x ∷ gs) c n =
    let hi : List ℕ = first key_of highest (flat gs) in
    let d : Climbs key_of hi (members x) = climbs-group key_of highest x gs c in
    rw (leaf_level-first (drop 1 nums) gs)
    (ap₂ (λ a b. a ++ b) (leaf-rows (get_or nums 0 0) lo hi (members x) (climbs-between key_of lo hi (members x) d n))
    (leaf_level-rows (drop 1 nums) hi gs (climbs-later key_of highest x gs c) (before-irrefl hi)))

-- nothing comes before the empty string
pub not-before-nil : (p : List ℕ) → before p [] ≡ false
unfolding before
not-before-nil [] = refl
not-before-nil (a ∷ p) = refl

-- all of a table
pub record Tabled (t : List Row) : Type 0 where
  pub climbs : Climbs key_of highest t
  pub good : All Good t

empty_stands : (i : ℕ) → Stands highest (record { low = []; node = leaf i [] } ∷ [])
unfolding first before sound_tree every_key under_prefix rising values_fit
empty_stands i = (refl, refl, tt)

pub leaves-stand : (nums : List ℕ) (t : List Row) → Tabled t → Stands highest (leaves nums t)
unfolding leaves
leaves-stand nums [] h = empty_stands (get_or nums 0 0)
leaves-stand nums (r ∷ t) h =
    leaf_level-stands nums [] (groups pair_weight (r ∷ t)) (rw (groups-flat pair_weight (r ∷ t)) h.climbs) (rw (groups-flat pair_weight (r ∷ t)) h.good)
    (not-before-nil _)

pub leaves-rows : (nums : List ℕ) (t : List Row) → Tabled t → level_rows highest (leaves nums t) ≡ t
unfolding leaves level_rows rows under_prefix
leaves-rows nums [] h = refl
leaves-rows nums (r ∷ t) h =
    leaf_level-rows nums [] (groups pair_weight (r ∷ t)) (rw (groups-flat pair_weight (r ∷ t)) h.climbs) (not-before-nil _)
    ∙ groups-flat pair_weight (r ∷ t)

-- a well-formed path is before FF
pub formed-under : (p : List ℕ) → well_formed p ≡ true → before p highest ≡ true
unfolding well_formed reads_on before letter
formed-under [] h = refl
formed-under (b ∷ p) h = go (eqb b 0) refl
  where
    go : (x : Bool) → eqb b 0 ≡ x → before (b ∷ p) highest ≡ true
    go true e = let z : b ≡ 0 = eqb-true b 0 e in rw (lt-ltb b 255 (omega arith))
    go false e =
        let r : cond (eqb b 0) (leb 1 0 && leb 0 16 && reads_on 1 0 p) (letter b && reads_on 0 1 p) ≡ true = and_right (leb (length (b ∷ p)) path_limit) _ h in
        let l : letter b && reads_on 0 1 p ≡ true =
        subst (λ y. cond y (leb 1 0 && leb 0 16 && reads_on 1 0 p) (letter b && reads_on 0 1 p) ≡ true) e r in
        let m : b ≤ 0x7E = leb-true b 0x7E (and_right (leb 0x21 b) _ (and_left _ _ (and_left _ _ l))) in
        rw (lt-ltb b 255 (omega arith))

pub value_length : (v : List ℕ) → value_fits v ≡ true → length v ≤ value_limit
unfolding value_fits
value_length v h = leb-true (length v) value_limit h

-- what a table must keep, as the tests of the paper
rising-climbs : (t : List Row) → rising t ≡ true → All (λ r. well_formed r.key ≡ true) t → Climbs key_of highest t
unfolding rising leads first
rising-climbs [] e w = tt
rising-climbs (r ∷ []) e w = (formed-under r.key w.0, tt)
rising-climbs (r ∷ q ∷ t) e w = (and_left _ _ e, rising-climbs (q ∷ t) (and_right (before r.key q.key) _ e) w.1)

all-good : (t : List Row) → every_key well_formed t ≡ true → values_fit t ≡ true → All Good t
unfolding every_key values_fit
all-good [] e f = tt
all-good (r ∷ t) e f =
    ((and_left _ _ e, and_left _ _ f), all-good t (and_right (well_formed r.key) _ e) (and_right (value_fits r.value) _ f))

pub tabled : (t : List Row) → rising t ≡ true → every_key well_formed t ≡ true → values_fit t ≡ true → Tabled t
tabled t e w v = record { climbs = rising-climbs t e (all-every well_formed t w); good = all-good t w v }
