-- The paths of a sound image are well formed. So none is empty, and what is below a path and greater than the empty one is all that is below it.
-- Relies on Reading/Seek (each row stands in the tree as a pair or a put), on Follow and on Filter.
use Rattle.std.specs.Prelude.{ℕ, ◌≡◌, refl, List, [], ◌∷◌, true, false}
use Rattle.image.specs.Prelude.{Option, none, some}
use Rattle.image.specs.Bytes.{begins}
use Rattle.image.specs.Path.{well_formed}
use Rattle.image.specs.Table.{Row, find, is_some, rows_below, rows_after, every_key, leads, rising}
use Rattle.image.specs.Image.{tree_of}
use Rattle.image.specs.Sound.{sound, table_of, lowest, highest}
use Rattle.octets.specs.Order.{and_left, not_so}
use Rattle.laws.specs.RowsRising.{every-key}
use Rattle.laws.specs.ButLive.{sound-parts}
use Rattle.laws.specs.Filter.{keep-passes, keep-below, below-rises}
use Rattle.laws.specs.Follow.{formed-some, after-all, table-rises}
use Rattle.laws.specs.Reading.Seek.{holds, present, keys, keys-hold, stands, key-passes}

-- every row of a table of well-formed paths follows the empty path
pub all-follow : (p : List ℕ) (t : List Row) → every_key well_formed t ≡ true → rising t ≡ true → rows_after [] (rows_below p t) ≡ rows_below p t
all-follow p t e f = after-all [] (rows_below p t) (first-leads (rows_below p t) formed) (below-rises p t f)
  where
    formed : every_key well_formed (rows_below p t) ≡ true
    formed = rw (keep-below p t) (keep-passes well_formed (λ q. begins p q) well_formed t (λ q a b. a) e)

    first-leads : (u : List Row) → every_key well_formed u ≡ true → leads [] u ≡ true
    first-leads [] h = unfold leads in refl
    first-leads (r ∷ u) h = unfold leads in formed-some r.key (unfold every_key in and_left _ _ h)

module _ (s : List ℕ) (e : sound s ≡ true) where
  pub row-formed : (p : List ℕ) → present p (table_of s) ≡ true → well_formed p ≡ true
  unfolding table_of holds
  row-formed p h =
      and_left (well_formed p) _
      (key-passes (holds lowest highest) p (keys (tree_of s) lowest highest) (stands (tree_of s) lowest highest p h) (keys-hold (tree_of s) lowest highest (sound-parts s e).tree))

  pub found-formed : (p v : List ℕ) → find p (table_of s) ≡ some v → well_formed p ≡ true
  unfolding present is_some
  found-formed p v h = row-formed p (rw h refl)

  pub table-formed : every_key well_formed (table_of s) ≡ true
  table-formed = every-key well_formed (table_of s) (λ p n. absent p n (find p (table_of s)) refl)
    where
      absent : (p : List ℕ) → well_formed p ≡ false → (x : Option (List ℕ)) → find p (table_of s) ≡ x → find p (table_of s) ≡ none
      absent p n none f = f
      absent p n (some v) f = not_so (found-formed p v f) n

  pub rows-follow : (p : List ℕ) → rows_after [] (rows_below p (table_of s)) ≡ rows_below p (table_of s)
  rows-follow p = all-follow p (table_of s) table-formed (table-rises s e)
