-- The rows of a table that pass a test; and rows without, and with, a common beginning of their keys.
use Rattle.std.specs.Prelude.{ℕ, ◌≡◌, refl, List, [], ◌∷◌, ◌++◌, Bool, true, false, ◌&&◌, not, cond, length, drop}
use Rattle.image.specs.Prelude.{sym, ap, ap₂, ◌∙◌, cases}
use Rattle.image.specs.Bytes.{same, before, begins, shared}
use Rattle.image.specs.Path.{well_formed, owns, value_fits, below}
use Rattle.image.specs.Table.{Row, every_key, under_prefix, leads, rising, with_row, rows_below}
use Rattle.image.specs.Image.{leaf}
use Rattle.image.specs.Meaning.{rows}
use Rattle.image.specs.Sound.{sound_tree, values_fit}
use Rattle.octets.specs.Order.{and_left, and_right, not_so, not-true, not-false, before-append, before-trans, begins-split, between-begins, refuted}
use Rattle.laws.specs.Rising.{both, leads-trans, row-path}
use Rattle.laws.specs.LookupTable.{not_low, under-high, does-own}

unfoldable pub keep : (List ℕ → Bool) → List Row → List Row
keep test [] = []
keep test (r ∷ t) = cond (test r.key) (r ∷ keep test t) (keep test t)

-- the two sides of a cut
abbrev pub up_to : List ℕ → List ℕ → Bool
up_to k q = before q k

abbrev pub since : List ℕ → List ℕ → Bool
since k q = not (before q k)

pub keep_append : (test : List ℕ → Bool) (t u : List Row) → keep test (t ++ u) ≡ keep test t ++ keep test u
unfolding keep
keep_append test [] u = refl
keep_append test (r ∷ t) u = cases (test r.key) (λ e. rw e (ap (λ l. r ∷ l) (keep_append test t u))) (λ e. rw e (keep_append test t u))

pub keep_all : (test : List ℕ → Bool) (t : List Row) → every_key test t ≡ true → keep test t ≡ t
unfolding keep every_key
keep_all test [] e = refl
keep_all test (r ∷ t) e = rw (and_left (test r.key) _ e) (ap (λ l. r ∷ l) (keep_all test t (and_right (test r.key) _ e)))

pub keep-none : (test : List ℕ → Bool) (t : List Row) → every_key (λ q. not (test q)) t ≡ true → keep test t ≡ []
unfolding keep every_key
keep-none test [] e = refl
keep-none test (r ∷ t) e = rw (not-true (test r.key) (and_left _ _ e)) (keep-none test t (and_right (not (test r.key)) _ e))

pub every-imp : (a b : List ℕ → Bool) (t : List Row) → ((k : List ℕ) → a k ≡ true → b k ≡ true) → every_key a t ≡ true → every_key b t ≡ true
unfolding every_key
every-imp a b [] h e = refl
every-imp a b (r ∷ t) h e = rw (h r.key (and_left _ _ e), every-imp a b t h (and_right (a r.key) _ e))

pub every-with : (test : List ℕ → Bool) (p v : List ℕ) (t : List Row) → test p ≡ true → every_key test t ≡ true → every_key test (with_row p v t) ≡ true
unfolding every_key with_row
every-with test p v [] a e = both a refl
every-with test p v (r ∷ t) a e =
    go (before r.key p) (same p r.key) (and_left (test r.key) _ e) (and_right (test r.key) _ e)
    (every-with test p v t a (and_right (test r.key) _ e))
  where
    go : (x y : Bool) → test r.key ≡ true → every_key test t ≡ true → every_key test (with_row p v t) ≡ true
        → every_key test (cond x (r ∷ with_row p v t) (cond y (record { key = p; value = v } ∷ t) (record { key = p; value = v } ∷ r ∷ t))) ≡ true
    go true y b c ih = both b ih
    go false true b c ih = both a c
    go false false b c ih = both a (both b c)

-- the rows kept pass the test, and whatever all rows pass
pub keep-passes : (a test b : List ℕ → Bool) (t : List Row) → ((q : List ℕ) → a q ≡ true → test q ≡ true → b q ≡ true) → every_key a t ≡ true
    → every_key b (keep test t) ≡ true
unfolding keep every_key
keep-passes a test b [] h e = refl
keep-passes a test b (r ∷ t) h e =
    cases (test r.key) (λ f. rw f (both (h r.key (and_left _ _ e) f) (keep-passes a test b t h (and_right (a r.key) _ e))))
    (λ f. rw f (keep-passes a test b t h (and_right (a r.key) _ e)))

pub keep-fit : (test : List ℕ → Bool) (t : List Row) → values_fit t ≡ true → values_fit (keep test t) ≡ true
unfolding keep values_fit
keep-fit test [] e = refl
keep-fit test (r ∷ t) e =
    cases (test r.key) (λ f. rw f (both (and_left (value_fits r.value) _ e) (keep-fit test t (and_right (value_fits r.value) _ e))))
    (λ f. rw f (keep-fit test t (and_right (value_fits r.value) _ e)))

leads-keep : (k : List ℕ) (test : List ℕ → Bool) (t : List Row) → rising t ≡ true → leads k t ≡ true → leads k (keep test t) ≡ true
unfolding leads keep rising
leads-keep k test [] e f = refl
leads-keep k test (r ∷ t) e f =
    cases (test r.key) (λ a. rw a f)
    (λ a. rw a (leads-keep k test t (and_right (leads r.key t) _ e) (leads-trans k r.key t f (and_left _ _ e))))

pub keep-rises : (test : List ℕ → Bool) (t : List Row) → rising t ≡ true → rising (keep test t) ≡ true
unfolding rising keep
keep-rises test [] e = refl
keep-rises test (r ∷ t) e =
    cases (test r.key)
    (λ a. rw a (both (leads-keep r.key test t (and_right (leads r.key t) _ e) (and_left _ _ e)) (keep-rises test t (and_right (leads r.key t) _ e))))
    (λ a. rw a (keep-rises test t (and_right (leads r.key t) _ e)))

-- the rows below a path, as a filter
pub keep-below : (p : List ℕ) (t : List Row) → rows_below p t ≡ keep (begins p) t
unfolding rows_below keep below
keep-below p [] = refl
keep-below p (r ∷ t) = ap (λ l. cond (begins p r.key) (r ∷ l) l) (keep-below p t)

pub below-rises : (p : List ℕ) (t : List Row) → rising t ≡ true → rising (rows_below p t) ≡ true
below-rises p t e = ap rising (keep-below p t) ∙ keep-rises (begins p) t e

-- the two sides of a cut, one after the other, are the whole
leads-since : (k : List ℕ) (r : Row) (t : List Row) → before r.key k ≡ false → rising (r ∷ t) ≡ true → every_key (since k) t ≡ true
unfolding rising leads every_key
leads-since k r [] b e = refl
leads-since k r (q ∷ t) b e =
    let f : before q.key k ≡ false = refuted (λ c. not_so (before-trans r.key q.key k (and_left _ _ e) c) b) in
    both (not-false (before q.key k) f) (leads-since k q t f (and_right (before r.key q.key) _ e))

pub not-not : (b : Bool) → b ≡ true → not (not b) ≡ true
not-not true e = refl
not-not false e = e

pub cut-whole : (k : List ℕ) (t : List Row) → rising t ≡ true → keep (up_to k) t ++ keep (since k) t ≡ t
unfolding keep rising every_key
cut-whole k [] e = refl
cut-whole k (r ∷ t) e =
    cases (before r.key k) (λ b. rw b (ap (λ l. r ∷ l) (cut-whole k t (and_right (leads r.key t) _ e))))
    (λ b. rw b (ap₂ (λ u v. u ++ (r ∷ v)) (keep-none (up_to k) t (leads-since k r t b e)) (keep_all (since k) t (leads-since k r t b e))))

-- rows without what all their keys begin with
unfoldable pub lower_rows : List ℕ → List Row → List Row
lower_rows l [] = []
lower_rows l (r ∷ t) = record { key = drop (length l) r.key; value = r.value } ∷ lower_rows l t

pub under-lower : (l : List ℕ) (t : List Row) → every_key (λ q. begins l q) t ≡ true → under_prefix l (lower_rows l t) ≡ t
unfolding under_prefix lower_rows every_key
under-lower l [] e = refl
under-lower l (r ∷ t) e =
    ap₂ (λ x u. x ∷ u) (row-path (record { key = l ++ drop (length l) r.key; value = r.value }) r (begins-split l r.key (and_left _ _ e)) refl)
    (under-lower l t (and_right (begins l r.key) _ e))

leads-under : (l k : List ℕ) (t : List Row) → leads (l ++ k) (under_prefix l t) ≡ leads k t
unfolding leads under_prefix
leads-under l k [] = refl
leads-under l k (r ∷ t) = before-append l k r.key

pub rising-under-eq : (l : List ℕ) (t : List Row) → rising (under_prefix l t) ≡ rising t
unfolding rising under_prefix
rising-under-eq l [] = refl
rising-under-eq l (r ∷ t) = rw (leads-under l r.key t, rising-under-eq l t)

pub fit-under : (l : List ℕ) (t : List Row) → values_fit (under_prefix l t) ≡ values_fit t
unfolding values_fit under_prefix
fit-under l [] = refl
fit-under l (r ∷ t) = rw (fit-under l t)

-- The table of a leaf with the pivots lo and hi.
pub record Rowed (lo hi : List ℕ) (t : List Row) : Type 0 where
  pub formed : every_key well_formed t ≡ true
  pub owned : every_key (owns lo hi) t ≡ true
  pub rises : rising t ≡ true
  pub fit : values_fit t ≡ true

pub leaf-rowed : (i : ℕ) (rs : List Row) (lo hi : List ℕ) → sound_tree (leaf i rs) lo hi ≡ true → Rowed lo hi (under_prefix (shared lo hi) rs)
unfolding sound_tree
leaf-rowed i rs lo hi e =
    record {
      formed = and_left _ _ (and_left _ _ (and_left _ _ e));
      owned = and_right (every_key well_formed (under_prefix (shared lo hi) rs)) _ (and_left _ _ (and_left _ _ e));
      rises =
          rising-under-eq (shared lo hi) rs
          ∙ and_right (every_key well_formed (under_prefix (shared lo hi) rs) && every_key (owns lo hi) (under_prefix (shared lo hi) rs)) _ (and_left _ _ e);
      fit =
          fit-under (shared lo hi) rs
          ∙ and_right (every_key well_formed (under_prefix (shared lo hi) rs) && every_key (owns lo hi) (under_prefix (shared lo hi) rs) && rising rs) _ e;
    }

pub owned-begins : (lo hi k : List ℕ) → owns lo hi k ≡ true → begins (shared lo hi) k ≡ true
owned-begins lo hi k o = between-begins lo hi k (not_low lo hi k o) (under-high lo hi k o)

lowered-back : (lo hi : List ℕ) (t : List Row) → every_key (owns lo hi) t ≡ true → under_prefix (shared lo hi) (lower_rows (shared lo hi) t) ≡ t
lowered-back lo hi t o = under-lower (shared lo hi) t (every-imp (owns lo hi) (λ q. begins (shared lo hi) q) t (λ q. owned-begins lo hi q) o)

pub leaf-rows : (n : ℕ) (lo hi : List ℕ) (t : List Row) → Rowed lo hi t → rows (leaf n (lower_rows (shared lo hi) t)) lo hi ≡ t
unfolding rows
leaf-rows n lo hi t r = lowered-back lo hi t r.owned

pub leaf-sound : (n : ℕ) (lo hi : List ℕ) (t : List Row) → Rowed lo hi t → sound_tree (leaf n (lower_rows (shared lo hi) t)) lo hi ≡ true
unfolding sound_tree
leaf-sound n lo hi t r =
    let l : List ℕ = shared lo hi in
    let e : under_prefix l (lower_rows l t) ≡ t = lowered-back lo hi t r.owned in
    both (both (both (ap (every_key well_formed) e ∙ r.formed) (ap (every_key (owns lo hi)) e ∙ r.owned))
    (sym (rising-under-eq l (lower_rows l t)) ∙ ap rising e ∙ r.rises))
    (sym (fit-under l (lower_rows l t)) ∙ ap values_fit e ∙ r.fit)

-- a leaf's table parted at k
pub rowed-low : (lo k hi : List ℕ) (t : List Row) → Rowed lo hi t → Rowed lo k (keep (up_to k) t)
rowed-low lo k hi t r =
    record {
      formed = keep-passes well_formed (up_to k) well_formed t (λ q a b. a) r.formed;
      owned = keep-passes (owns lo hi) (up_to k) (owns lo k) t (λ q a b. does-own lo k q (not_low lo hi q a) b) r.owned;
      rises = keep-rises (up_to k) t r.rises;
      fit = keep-fit (up_to k) t r.fit;
    }

pub rowed-high : (lo k hi : List ℕ) (t : List Row) → Rowed lo hi t → Rowed k hi (keep (since k) t)
rowed-high lo k hi t r =
    record {
      formed = keep-passes well_formed (since k) well_formed t (λ q a b. a) r.formed;
      owned = keep-passes (owns lo hi) (since k) (owns k hi) t (λ q a b. does-own k hi q (not-true (before q k) b) (under-high lo hi q a)) r.owned;
      rises = keep-rises (since k) t r.rises;
      fit = keep-fit (since k) t r.fit;
    }

pub rises-all : (k : List ℕ) (t : List Row) → leads k t ≡ true → rising t ≡ true → every_key (λ q. before k q) t ≡ true
unfolding leads rising every_key
rises-all k [] a b = refl
rises-all k (r ∷ t) a b =
    both a (every-imp (λ q. before r.key q) (λ q. before k q) t (λ q h. before-trans k r.key q a h)
    (rises-all r.key t (and_left _ _ b) (and_right (leads r.key t) _ b)))

pub every_append : (a : List ℕ → Bool) (t u : List Row) → every_key a t ≡ true → every_key a u ≡ true → every_key a (t ++ u) ≡ true
unfolding every_key
every_append a [] u e f = f
every_append a (r ∷ t) u e f = both (and_left (a r.key) _ e) (every_append a t u (and_right (a r.key) _ e) f)
