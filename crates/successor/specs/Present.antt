-- Present paths of a sound image are well formed, and so at most 64 bytes; the walk from the root over all paths is next, of those that are
-- unfit for a shape; all are for the dead one.
-- Relies on: the walk of laws/Reading (Seek, SeekHere), the root of lookup.
use Rattle.std.specs.Prelude.{ℕ, ◌<◌, ◌≤◌, ◌≡◌, refl, List, [], ◌∷◌, Bool, true, false, ◌&&◌, length, drop}
use Rattle.image.specs.Prelude.{sym, ap, subst, ◌∙◌, Option, none, some, arith}
use Rattle.image.specs.Bytes.{before, begins, shared, u16}
use Rattle.image.specs.Path.{well_formed, owns}
use Rattle.image.specs.Table.{Row, is_some, least_after, leads, rising}
use Rattle.image.specs.Image.{tree_of}
use Rattle.image.specs.Meaning.{rows}
use Rattle.image.specs.Sound.{sound, sound_tree, table_of, lowest, highest}
use Rattle.octets.specs.Order.{and_left, and_right}
use Rattle.laws.specs.LookupTable.{means-table}
use Rattle.laws.specs.Next.{Fits, least-yes, least-far, least-early, later-fits, nil-none, first-present}
use Rattle.laws.specs.Filter.{keep}
use Rattle.path.specs.Shape.{Shape, dead, goes_on, feed-dead}
use Rattle.path.specs.Fed.{shape_is}
use Rattle.std.specs.Prelude.{None}
use Rattle.laws.specs.Formed.{row-formed}
use Rattle.laws.specs.Reading.Seek.{holds, present, walk_same}
use Rattle.laws.specs.Reading.SeekHere.{under, keys_here, next_here}
use Rattle.lookup.specs.Root.{starts, root_is, root-usable}
use Rattle.successor.specs.Walk.{is_present, walk_in, NodeReady, unfit, is_sought}
use Rattle.laws.specs.Follow.{formed-length, table-rises}

-- what is present by lookup is in the table
pub present-is : (s : List ℕ) → sound s ≡ true → (k : List ℕ) → is_present s k ≡ present k (table_of s)
unfolding is_present present
present-is s e k = ap (λ o. is_some o) (means-table s e k)

pub formed-of : (lo hi k : List ℕ) → holds lo hi k ≡ true → well_formed k ≡ true
unfolding holds
formed-of lo hi k h = and_left (well_formed k) (owns lo hi k) h

present-formed : (s k : List ℕ) → sound s ≡ true → is_present s k ≡ true → well_formed k ≡ true
present-formed s k e h = row-formed s e k (sym (present-is s e k) ∙ h)

pub present-short : (s k : List ℕ) → sound s ≡ true → is_present s k ≡ true → length k ≤ 64
present-short s k e h = formed-length k (present-formed s k e h)

pub too_long : (s k : List ℕ) → sound s ≡ true → 64 < length k → is_present s k ≡ false
too_long s k e l = go (is_present s k) refl
  where
    go : (x : Bool) → is_present s k ≡ x → is_present s k ≡ false
    go true h = let m = present-short s k e h in absurd (omega arith)
    go false h = h

-- the root: nothing is lifted, and its high pivot is the byte FF
module _ (s : List ℕ) (root levels : ℕ) (e : sound s ≡ true) (a : root ≡ u16 s 6) (b : levels ≡ u16 s 8) where
  pub root-ready : NodeReady s [] highest levels root
  root-ready =
      record {
        whole = e;
        usable = root-usable s root levels e a b;
        lo = lowest;
        apart = unfold shared in refl;
        tree = ap (λ t. sound_tree t lowest highest) (root_is s root levels e a b) ∙ (starts s e).tree;
      }

-- the walk over all its paths
pub root-walk : (s : List ℕ) → sound s ≡ true → (sh : Shape) (below since : List ℕ) → walk_in s sh below since none (under [] (keys_here (tree_of s) highest)) ≡ least_after below since (keep (unfit sh below) (table_of s))
unfolding walk_in is_sought table_of
root-walk s e sh below since =
    walk_same (λ k. unfit sh below k && is_present s k) (λ k. unfit sh below k && present k (rows (tree_of s) lowest highest)) below since
    (λ k. ap (λ x. unfit sh below k && x) (present-is s e k)) none (under [] (keys_here (tree_of s) highest))
    ∙ next_here (unfit sh below) below since (tree_of s) highest (starts s e).tree

-- every path is unfit for the dead shape
dead-unfit : (below k : List ℕ) → unfit dead below k ≡ true
unfolding unfit goes_on
dead-unfit below k = rw (feed-dead (drop (length below) k))

pub dead_keeps : (below : List ℕ) (t : List Row) → keep (unfit dead below) t ≡ t
unfolding keep
dead_keeps below [] = refl
dead_keeps below (r ∷ t) = rw (dead-unfit below r.key) (ap (λ l. r ∷ l) (dead_keeps below t))

pub next-any : (below after : List ℕ) (t : List Row) (r : Option (List ℕ)) → r ≡ least_after below after (keep (unfit (shape_is None) below) t) → r ≡ least_after below after t
unfolding shape_is
next-any below after t r e = e ∙ ap (least_after below after) (dead_keeps below t)

-- what the least path is: present, below p, greater than q
least_fits : (p q : List ℕ) (t : List Row) (k : List ℕ) → rising t ≡ true → least_after p q t ≡ some k → Fits p q t k
unfolding rising
least_fits p q [] k e h = let z : none ≡ some k = sym (nil-none p q) ∙ h in let o : ◌≡◌ {A = ℕ} 0 1 = cc in absurd (omega arith)
least_fits p q (r ∷ t) k e h = go (begins p r.key) refl (before q r.key) refl (λ g. least_fits p q t k (and_right (leads r.key t) _ e) g)
  where
    later : (least_after p q t ≡ some k → Fits p q t k) → least_after p q (r ∷ t) ≡ least_after p q t → Fits p q (r ∷ t) k
    later ih g = later-fits p q r t k e (ih (sym g ∙ h))

    go : (x : Bool) → begins p r.key ≡ x → (y : Bool) → before q r.key ≡ y → (least_after p q t ≡ some k → Fits p q t k) → Fits p q (r ∷ t) k
    go true a true b ih =
        let z : some r.key ≡ some k = sym (least-yes p q r t a b) ∙ h in
        let w : r.key ≡ k = cc in
        subst (Fits p q (r ∷ t)) w (record { present = first-present r t; under = a; after = b })
    go true a false b ih = later ih (least-early p q r t b)
    go false a y b ih = later ih (least-far p q r t a)

-- For a caller of next: the path that is found is present, below p, greater than q, well formed, and at most 64 bytes.
pub record Next (s p q k : List ℕ) : Type 0 where
  pub present : is_present s k ≡ true
  pub under : begins p k ≡ true
  pub after : before q k ≡ true
  pub formed : well_formed k ≡ true
  pub short : length k ≤ 64

pub next-found : (s p q k : List ℕ) → sound s ≡ true → least_after p q (table_of s) ≡ some k → Next s p q k
next-found s p q k e h =
    let f : Fits p q (table_of s) k = least_fits p q (table_of s) k (table-rises s e) h in
    let z : is_present s k ≡ true = present-is s e k ∙ found f in
    record { present = z; under = f.under; after = f.after; formed = present-formed s k e z; short = present-short s k e z }
  where
    found : Fits p q (table_of s) k → present k (table_of s) ≡ true
    found f = unfold present in f.present
