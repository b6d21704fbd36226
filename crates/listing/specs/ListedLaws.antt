-- A listing that steps until 8 has given every path below, each once, rising: the table's rows below the path, in the table's order; and below the
-- empty path all of them. Relies on: the table of a sound image rises, its paths are well formed (laws/Formed); the questions of a step.
use Rattle.std.specs.Prelude.{ℕ, ◌≡◌, refl, List, [], ◌∷◌, ◌++◌, Bool, true, false}
use Rattle.image.specs.Prelude.{sym, ap, ap₂, ◌∙◌, append-nil, false≢true, Option, none, some, arith}
use Rattle.image.specs.Bytes.{before, begins}
use Rattle.image.specs.Path.{below as isBelow}
use Rattle.image.specs.Table.{Row, is_some, rows_below, rows_after, first_key, least_after, leads, rising}
use Rattle.image.specs.Sound.{sound, table_of}
use Rattle.image.specs.Calls.{ask, first_no}
use Rattle.octets.specs.Order.{and_left, and_right, before-irrefl, before-asym}
use Rattle.image.specs.declared.Listing.{Listing}
use Rattle.image.specs.Listing.{last_path, step_no, path_at, Steps}
use Rattle.listing.specs.Callers.{step-asks}
use Rattle.listing.specs.Listed.{Gives, stop, step, paths_of}
use Rattle.laws.specs.Tables.{below-empty}
use Rattle.laws.specs.Follow.{leads-on, table-rises}
use Rattle.laws.specs.Formed.{rows-follow}

first-is : (k : List ℕ) (r : Row) (t : List Row) → first_key (r ∷ t) ≡ some k → r.key ≡ k
unfolding first_key
first-is k r t h = cc

none-some : {A : Type 0} (k : List ℕ) → first_key [] ≡ some k → A
unfolding first_key
none-some k h = let o : ◌≡◌ {A = ℕ} 0 1 = cc in absurd (omega arith)

paths-cons : (r : Row) (t : List Row) → paths_of (r ∷ t) ≡ r.key ∷ paths_of t
unfolding paths_of
paths-cons r t = refl

module _ (p : List ℕ) where
  rows_none : (q : List ℕ) → rows_after q (rows_below p []) ≡ []
  unfolding rows_below rows_after
  rows_none q = refl

  -- the rows below p and greater than q, as the first row is one of them, is not below p, or is not greater than q
  rows-yes : (q : List ℕ) (r : Row) (t : List Row) → begins p r.key ≡ true → before q r.key ≡ true
      → rows_after q (rows_below p (r ∷ t)) ≡ r ∷ rows_after q (rows_below p t)
  unfolding rows_after rows_below isBelow
  rows-yes q r t a b = rw (a, b)

  rows-far : (q : List ℕ) (r : Row) (t : List Row) → begins p r.key ≡ false → rows_after q (rows_below p (r ∷ t)) ≡ rows_after q (rows_below p t)
  unfolding rows_after rows_below isBelow
  rows-far q r t a = rw a

  rows-early : (q : List ℕ) (r : Row) (t : List Row) → before q r.key ≡ false → rows_after q (rows_below p (r ∷ t)) ≡ rows_after q (rows_below p t)
  unfolding rows_after rows_below isBelow
  rows-early q r t b = go (begins p r.key) refl
    where
      go : (x : Bool) → begins p r.key ≡ x → rows_after q (rows_below p (r ∷ t)) ≡ rows_after q (rows_below p t)
      go true a = rw (a, b)
      go false a = rw a

  below-yes : (r : Row) (t : List Row) → begins p r.key ≡ true → rows_below p (r ∷ t) ≡ r ∷ rows_below p t
  unfolding rows_below isBelow
  below-yes r t a = rw a

  below-no : (r : Row) (t : List Row) → begins p r.key ≡ false → rows_below p (r ∷ t) ≡ rows_below p t
  unfolding rows_below isBelow
  below-no r t a = rw a

  -- in a rising table whose first row is greater than q, every row is
  after-all : (q : List ℕ) (t : List Row) → leads q t ≡ true → rising t ≡ true → rows_after q (rows_below p t) ≡ rows_below p t
  unfolding leads rising
  after-all q [] l e = unfold rows_below rows_after in refl
  after-all q (r ∷ t) l e = go (begins p r.key) refl (after-all q t (leads-on q r t l (and_left _ _ e)) (and_right (leads r.key t) _ e))
    where
      go : (x : Bool) → begins p r.key ≡ x → rows_after q (rows_below p t) ≡ rows_below p t → rows_after q (rows_below p (r ∷ t)) ≡ rows_below p (r ∷ t)
      go true a ih = rows-yes q r t a l ∙ ap (λ (u : List Row). r ∷ u) ih ∙ sym (below-yes r t a)
      go false a ih = rows-far q r t a ∙ ih ∙ sym (below-no r t a)

  -- the least of a rising table comes after whatever comes before the first row
  least-later : (m q k : List ℕ) (t : List Row) → leads m t ≡ true → rising t ≡ true → first_key (rows_after q (rows_below p t)) ≡ some k → before m k ≡ true
  unfolding leads rising
  least-later m q k [] l e h = none-some k (ap first_key (sym (rows_none q)) ∙ h)
  least-later m q k (r ∷ t) l e h =
      go (begins p r.key) refl (before q r.key) refl (λ g. least-later m q k t (leads-on m r t l (and_left _ _ e)) (and_right (leads r.key t) _ e) g)
    where
      go : (x : Bool) → begins p r.key ≡ x → (y : Bool) → before q r.key ≡ y
          → (first_key (rows_after q (rows_below p t)) ≡ some k → before m k ≡ true) → before m k ≡ true
      go true a true b ih = sym (ap (before m) (first-is k r (rows_after q (rows_below p t)) (sym (ap first_key (rows-yes q r t a b)) ∙ h))) ∙ l
      go true a false b ih = ih (sym (ap first_key (rows-early q r t b)) ∙ h)
      go false a y b ih = ih (sym (ap first_key (rows-far q r t a)) ∙ h)

  -- The rows after q are the least of them and the rows after that one.
  least-then : (q k : List ℕ) (t : List Row) → rising t ≡ true → first_key (rows_after q (rows_below p t)) ≡ some k
      → paths_of (rows_after q (rows_below p t)) ≡ k ∷ paths_of (rows_after k (rows_below p t))
  unfolding rising
  least-then q k [] e h = none-some k (ap first_key (sym (rows_none q)) ∙ h)
  least-then q k (r ∷ t) e h =
      go (begins p r.key) refl (before q r.key) refl (λ g. least-then q k t (and_right (leads r.key t) _ e) g)
    where
      lead : leads r.key t ≡ true
      lead = and_left _ _ e

      later : rising t ≡ true
      later = and_right (leads r.key t) _ e

      go : (x : Bool) → begins p r.key ≡ x → (y : Bool) → before q r.key ≡ y
          → (first_key (rows_after q (rows_below p t)) ≡ some k → paths_of (rows_after q (rows_below p t)) ≡ k ∷ paths_of (rows_after k (rows_below p t)))
          → paths_of (rows_after q (rows_below p (r ∷ t))) ≡ k ∷ paths_of (rows_after k (rows_below p (r ∷ t)))
      go true a true b ih =
          let z : r.key ≡ k = first-is k r (rows_after q (rows_below p t)) (sym (ap first_key (rows-yes q r t a b)) ∙ h) in
          let low : before k r.key ≡ false = ap (before k) z ∙ before-irrefl k in
          let all-q : rows_after q (rows_below p t) ≡ rows_below p t = after-all q t (leads-on q r t b lead) later in
          let all-k : rows_after k (rows_below p t) ≡ rows_below p t = after-all k t (sym (ap (λ (m : List ℕ). leads m t) z) ∙ lead) later in
          ap paths_of (rows-yes q r t a b) ∙ paths-cons r (rows_after q (rows_below p t))
          ∙ ap₂ (λ (m : List ℕ) (u : List Row). m ∷ paths_of u) z (all-q ∙ sym all-k ∙ sym (rows-early k r t low))
      go true a false b ih = onward (sym (ap first_key (rows-early q r t b)) ∙ h) (rows-early q r t b) ih
        where
          onward : first_key (rows_after q (rows_below p t)) ≡ some k → rows_after q (rows_below p (r ∷ t)) ≡ rows_after q (rows_below p t)
              → (first_key (rows_after q (rows_below p t)) ≡ some k → paths_of (rows_after q (rows_below p t)) ≡ k ∷ paths_of (rows_after k (rows_below p t)))
              → paths_of (rows_after q (rows_below p (r ∷ t))) ≡ k ∷ paths_of (rows_after k (rows_below p (r ∷ t)))
          onward g f ih' =
              let low : before k r.key ≡ false = before-asym r.key k (least-later r.key q k t lead later g) in
              ap paths_of f ∙ ih' g ∙ ap (λ (u : List Row). k ∷ paths_of u) (sym (rows-early k r t low))
      go false a y b ih =
          ap paths_of (rows-far q r t a) ∙ ih (sym (ap first_key (rows-far q r t a)) ∙ h) ∙ ap (λ (u : List Row). k ∷ paths_of u) (sym (rows-far k r t a))

-- a step that is refused 8: the store is sound, and there is no path
record Ends (s below : List ℕ) (p : Listing) : Type 0 where
  is_sound : sound s ≡ true
  nothing : least_after below (last_path p) (table_of s) ≡ none

eight : (a b c d : Bool) → first_no (ask 1 a ∷ ask 2 b ∷ ask 3 c ∷ ask 8 d ∷ []) ≡ 8 → (b ≡ true) × (d ≡ false)
unfolding first_no
eight true true true false h = (refl, refl)
eight true true true true h = absurd (omega arith)
eight true true false d h = absurd (omega arith)
eight true false c d h = absurd (omega arith)
eight false b c d h = absurd (omega arith)

is_none : (o : Option (List ℕ)) → is_some o ≡ false → o ≡ none
unfolding is_some
is_none none h = refl
is_none (some v) h = absurd (false≢true (sym h))

ended : (s below : List ℕ) (p : Listing) → step_no s below p ≡ 8 → Ends s below p
ended s below p h =
    let w = eight _ _ _ _ (sym (step-asks s below p) ∙ h) in
    record { is_sound = w.0; nothing = is_none _ w.1 }

no-paths : (t : List Row) → first_key t ≡ none → paths_of t ≡ []
unfolding first_key paths_of
no-paths [] h = refl
no-paths (r ∷ t) h = let o : ◌≡◌ {A = ℕ} 0 1 = cc in absurd (omega arith)

-- what an accepted step moves on to
step-found : (s below : List ℕ) (p p' : Listing) → Steps s below p 0 p' → first_key (rows_after (last_path p) (rows_below below (table_of s))) ≡ some (last_path p')
unfolding least_after path_at
step-found s below p p' m = sym (m.path ∙ ap (λ (k : ℕ). path_at k below (last_path p) (table_of s)) (sym m.answer))

module _ (s below : List ℕ) where
  -- The paths after the first place are those given, and then those after the last place: none is left out, and none is given twice.
  pub given-then : {p p' : Listing} {ks : List (List ℕ)} → sound s ≡ true → Gives s below p ks p'
      → paths_of (rows_after (last_path p) (rows_below below (table_of s))) ≡ ks ++ paths_of (rows_after (last_path p') (rows_below below (table_of s)))
  given-then ok stop = refl
  given-then {p} ok (step {p' = m} f g) =
      least-then below (last_path p) (last_path m) (table_of s) (table-rises s ok) (step-found s below p m f)
      ∙ ap (λ (l : List (List ℕ)). last_path m ∷ l) (given-then ok g)

  -- a listing that goes on until it is refused 8 has given all paths below that are greater than its first place
  pub rest-given : {p p' : Listing} {ks : List (List ℕ)} → Gives s below p ks p' → step_no s below p' ≡ 8
      → ks ≡ paths_of (rows_after (last_path p) (rows_below below (table_of s)))
  unfolding least_after
  rest-given {p} {p'} {ks} g h =
      let e : Ends s below p' = ended s below p' h in
      sym (given-then e.is_sound g ∙ ap (λ (l : List (List ℕ)). ks ++ l) (no-paths _ e.nothing) ∙ append-nil ks)

  -- and one that began at the start has given all paths below
  pub all-given : {p p' : Listing} {ks : List (List ℕ)} → last_path p ≡ [] → Gives s below p ks p' → step_no s below p' ≡ 8
      → ks ≡ paths_of (rows_below below (table_of s))
  all-given {p} {p'} begun g h =
      rest-given g h ∙ ap (λ (q : List ℕ). paths_of (rows_after q (rows_below below (table_of s)))) begun
      ∙ ap paths_of (rows-follow s (ended s below p' h).is_sound below)

-- below the empty path that is the whole table
pub whole-given : (s : List ℕ) {p p' : Listing} {ks : List (List ℕ)} → last_path p ≡ [] → Gives s [] p ks p' → step_no s [] p' ≡ 8 → ks ≡ paths_of (table_of s)
whole-given s begun g h = all-given s [] begun g h ∙ ap paths_of (below-empty (table_of s))
