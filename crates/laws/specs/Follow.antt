-- What follows a path in a rising table: once the first of the rows greater than a path is passed, the rows greater than it are the later
-- ones. For the calls that walk a whole store by next.
use Rattle.std.specs.Prelude.{ℕ, ◌≤◌, ◌≡◌, refl, List, [], ◌∷◌, Bool, true, false, length}
use Rattle.image.specs.Prelude.{leb-true, sym, ap, ◌∙◌, false≢true, arith}
use Rattle.image.specs.Bytes.{before}
use Rattle.image.specs.Path.{well_formed, reads_on}
use Rattle.image.specs.Table.{Row, rows_after, leads, rising}
use Rattle.image.specs.Image.{tree_of}
use Rattle.image.specs.Sound.{sound, table_of, lowest, highest}
use Rattle.octets.specs.Order.{and_left, and_right, not_so, before-irrefl, before-trans}
use Rattle.laws.specs.RowsRising.{rows-rise}
use Rattle.laws.specs.ButLive.{sound-parts}

-- no path is empty
pub formed-some : (k : List ℕ) → well_formed k ≡ true → before [] k ≡ true
unfolding well_formed reads_on before
formed-some [] h = absurd (false≢true h)
formed-some (b ∷ k) h = refl

-- a row that is greater, and one that is not
after-yes : (q : List ℕ) (r : Row) (t : List Row) → before q r.key ≡ true → rows_after q (r ∷ t) ≡ r ∷ rows_after q t
unfolding rows_after
after-yes q r t e = rw e

after-no : (q : List ℕ) (r : Row) (t : List Row) → before q r.key ≡ false → rows_after q (r ∷ t) ≡ rows_after q t
unfolding rows_after
after-no q r t e = rw e

pub leads-on : (k : List ℕ) (r : Row) (t : List Row) → before k r.key ≡ true → leads r.key t ≡ true → leads k t ≡ true
unfolding leads
leads-on k r [] a b = refl
leads-on k r (q ∷ t) a b = before-trans k r.key q.key a b

-- all rows follow a path that comes before the first
pub after-all : (k : List ℕ) (t : List Row) → leads k t ≡ true → rising t ≡ true → rows_after k t ≡ t
unfolding leads rising
after-all k [] e f = unfold rows_after in refl
after-all k (r ∷ t) e f =
    after-yes k r t e
    ∙ ap (λ u. r ∷ u) (after-all k t (leads-on k r t e (and_left (leads r.key t) _ f)) (and_right (leads r.key t) _ f))

-- the first row that follows a path is greater
first-greater : (q : List ℕ) (t : List Row) (r : Row) (u : List Row) → rows_after q t ≡ r ∷ u → before q r.key ≡ true
unfolding rows_after
first-greater q [] r u e = let z : ◌≡◌ {A = ℕ} 0 1 = cc in absurd (omega arith)
first-greater q (x ∷ t) r u e = go (before q x.key) refl (first-greater q t r u)
  where
    go : (b : Bool) → before q x.key ≡ b → (rows_after q t ≡ r ∷ u → before q r.key ≡ true) → before q r.key ≡ true
    go true a ih =
        let f : x ∷ rows_after q t ≡ r ∷ u = sym (after-yes q x t a) ∙ e in
        let g : x ≡ r = cc in
        ap (λ y. before q y.key) (sym g) ∙ a
    go false a ih = ih (sym (after-no q x t a) ∙ e)

-- past the first row that follows a path the later ones follow
pub after-step : (q : List ℕ) (t : List Row) (r : Row) (u : List Row) → rising t ≡ true → rows_after q t ≡ r ∷ u → rows_after r.key t ≡ u
unfolding rising
after-step q [] r u f e = let z : ◌≡◌ {A = ℕ} 0 1 = unfold rows_after in cc in absurd (omega arith)
after-step q (x ∷ t) r u f e = go (before q x.key) refl (after-step q t r u up)
  where
    lead : leads x.key t ≡ true
    lead = and_left (leads x.key t) _ f

    up : rising t ≡ true
    up = and_right (leads x.key t) _ f

    not_earlier : before q x.key ≡ false → (b : Bool) → before r.key x.key ≡ b → before q r.key ≡ true → before r.key x.key ≡ false
    not_earlier a true b g = not_so (before-trans q r.key x.key g b) a
    not_earlier a false b g = b

    go : (b : Bool) → before q x.key ≡ b → (rows_after q t ≡ r ∷ u → rows_after r.key t ≡ u) → rows_after r.key (x ∷ t) ≡ u
    go true a ih =
        let h : x ∷ rows_after q t ≡ r ∷ u = sym (after-yes q x t a) ∙ e in
        let g : x ≡ r = cc in
        let k : rows_after q t ≡ u = cc in
        ap (λ y. rows_after y.key (x ∷ t)) (sym g)
        ∙ after-no x.key x t (before-irrefl x.key)
        ∙ after-all x.key t lead up
        ∙ sym (after-all q t (leads-on q x t a lead) up)
        ∙ k
    go false a ih =
        let h : rows_after q t ≡ r ∷ u = sym (after-no q x t a) ∙ e in
        after-no r.key x t (not_earlier a (before r.key x.key) refl (first-greater q t r u h)) ∙ ih h

-- the table of a sound image rises
pub table-rises : (s : List ℕ) → sound s ≡ true → rising (table_of s) ≡ true
unfolding table_of
table-rises s e = rows-rise (tree_of s) lowest highest (sound-parts s e).tree

pub formed-length : (p : List ℕ) → well_formed p ≡ true → length p ≤ 64
unfolding well_formed
formed-length p h = leb-true (length p) 64 (and_left _ _ h)
