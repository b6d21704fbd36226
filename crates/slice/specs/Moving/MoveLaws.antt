-- The move is right: a sound root of one level more, whose table is the moved table; every node fits; and no number stands in it oftener than in the
-- old tree and among 10 × h + 1 new ones.
use Rattle.std.specs.Prelude.{ℕ, zero, suc, ◌+◌, ◌*◌, ◌-◌, ◌≤◌, ◌≡◌, refl, List, [], ◌++◌, true, false, length}
use Rattle.image.specs.Prelude.{sym, ap, ap₂, subst, ◌∙◌, append-nil, false≢true, arith, length-append, le-leb, cases}
use Rattle.image.specs.Bytes.{same, before, begins, shared}
use Rattle.image.specs.Path.{owns, well_formed}
use Rattle.image.specs.Entry.{pivot_limit}
use Rattle.image.specs.Table.{Row, every_key, rising, rows_below, renamed, moved}
use Rattle.image.specs.Image.{Tree, unread, leaf, interior, tree, entries_limit}
use Rattle.image.specs.Meaning.{high_of, rows, rows_in}
use Rattle.image.specs.Sound.{highest}
use Rattle.octets.specs.Order.{not_so, before-trans, before-total, same_false}
use Rattle.laws.specs.Rising.{both}
use Rattle.laws.specs.RowsRising.{rows-rise}
use Rattle.laws.specs.Filter.{keep, up_to, since}
use Rattle.laws.specs.Pieces.{levelled, Good, Run, more, run-high, run_join, rows_join, joined, node-good, node-rows}
use Rattle.slice.specs.Slicing.Slice.{left_of, right_of, after}
use Rattle.slice.specs.Slicing.SliceLaws.{Cut, cut-tree}
use Rattle.laws.specs.PushDown.{keys-owned}
use Rattle.slice.specs.Slicing.SliceNumbers.{one, met, met_in, met-node, met-joined, spent, taken, cut-numbers, left-numbers}
use Rattle.octets.specs.Beginnings.{begins-refl, begins-append as begins-past}
use Rattle.slice.specs.Slicing.SliceFits.{fits, fits_in, size_at, short_at, count, short-size, node-fits, cut_fits, right-count, right_short, count-joined, short-joined, fits-joined}
use Rattle.slice.specs.Slicing.Swing.{swing-rows, swing-good, rows-formed}
use Rattle.slice.specs.Slicing.Tail.{tail_of, gap_of, tail-good, tail-rows, tail-met, tail-fits, gap-good, gap-rows, gap-fits, gap-met}
use Rattle.slice.specs.Slicing.Range.{past, before-past, before-aside, formed-inside, formed-length}
use Rattle.slice.specs.Moving.MovedRows.{part_a, part_p, part_b, part_r, part_c, below-p, below-r, moved_up, moved_down, renamed-formed}
use Rattle.slice.specs.Moving.Move.{left_past_r, right_past_r, left_r, mid_r, left_past_p, right_past_p, left_p, mid_p, pieces, root_over, moved_tree}

-- the swing of a path's range
pub range-rows : (source target : List ℕ) (t : Tree) → rows t target (past target) ≡ renamed source target (rows t source (past source))
range-rows source target t =
    ap (λ x. rows t x (past target)) (sym (append-nil target)) ∙ swing-rows source target [] highest t ∙ ap (λ x. renamed source target (rows t x (past source))) (append-nil source)

pub range-good : {h : ℕ} (source target : List ℕ) (t : Tree) → Good h t source (past source) → every_key well_formed (renamed source target (rows t source (past source))) ≡ true → Good h t target (past target)
range-good {h} source target t g e =
    subst (λ x. Good h t x (past target)) (append-nil target)
    (swing-good source target [] highest t (subst (λ x. Good h t x (past source)) (sym (append-nil source)) g)
    (ap (λ x. every_key well_formed (renamed source target (rows t x (past source)))) (append-nil source) ∙ e))

-- numbers, block by block
pub spent-split : (fresh : ℕ → ℕ) (j a b c at at' : ℕ) → c ≡ a + b → at' ≡ a + at → spent fresh j c at ≡ spent fresh j a at + spent fresh j b at'
unfolding spent
spent-split fresh j zero b c at at' e f =
    let x : c ≡ b = omega arith in
    let y : at' ≡ at = omega arith in
    rw (x, y) (omega arith)
spent-split fresh j (suc a) b c at at' e f =
    let x : c ≡ suc (a + b) = omega arith in
    rw x (omega (arith, spent-split fresh j a b (a + b) (suc at) at' refl (omega arith)))

spent_all : (fresh : ℕ → ℕ) (j h : ℕ)
    → spent fresh j (suc (10 * h)) 0
    ≡ spent fresh j h 0 + spent fresh j (2 * h) h + spent fresh j h (3 * h) + spent fresh j h (4 * h) + spent fresh j (2 * h) (5 * h) + spent fresh j h (7 * h)
    + spent fresh j h (8 * h) + spent fresh j h (9 * h) + one j (fresh (10 * h))
unfolding spent
spent_all fresh j h =
    omega (
      arith,
      spent-split fresh j h (suc (9 * h)) (suc (10 * h)) 0 h (omega arith) (omega arith),
      spent-split fresh j (2 * h) (suc (7 * h)) (suc (9 * h)) h (3 * h) (omega arith) (omega arith),
      spent-split fresh j h (suc (6 * h)) (suc (7 * h)) (3 * h) (4 * h) (omega arith) (omega arith),
      spent-split fresh j h (suc (5 * h)) (suc (6 * h)) (4 * h) (5 * h) (omega arith) (omega arith),
      spent-split fresh j (2 * h) (suc (3 * h)) (suc (5 * h)) (5 * h) (7 * h) (omega arith) (omega arith),
      spent-split fresh j h (suc (2 * h)) (suc (3 * h)) (7 * h) (8 * h) (omega arith) (omega arith),
      spent-split fresh j h (suc h) (suc (2 * h)) (8 * h) (9 * h) (omega arith) (omega arith),
      spent-split fresh j h 1 (suc h) (9 * h) (10 * h) (omega arith) (omega arith),
    )

pub taken-two : (h : ℕ) → taken true h ≡ 2 * h
unfolding taken after
taken-two zero = refl
taken-two (suc h) = omega (arith, taken-two h)

pub taken-one : (h : ℕ) → taken false h ≡ h
unfolding taken after
taken-one zero = refl
taken-one (suc h) = omega (arith, taken-one h)

-- the numbers of what lies left of a cut and of its tail
cut-tail : (fresh : ℕ → ℕ) (j : ℕ) (t : Tree) (h : ℕ) (lo hi k : List ℕ) (at at' : ℕ) → Good h t lo hi → before lo k ≡ true → before k hi ≡ true
    → met j (left_of fresh t lo hi k at) + met j (tail_of fresh t lo hi k at') ≤ met j t + (spent fresh j h at + spent fresh j h at')
cut-tail fresh j t h lo hi k at at' g a b =
    omega (arith, cut-numbers j fresh fresh false t h lo hi k at at' g.level, tail-met fresh t h lo hi k at' g a b j, ap (λ x. spent fresh j x at') (taken-one h))

pub short-of : (p : List ℕ) → length (past p) ≤ pivot_limit → length p ≤ pivot_limit
short-of p e = omega (arith, length-append p highest)

module _ (fresh : ℕ → ℕ) (h : ℕ) (t : Tree) (p r : List ℕ) (good : Good h t [] highest) (b-p : before [] p ≡ true) (lt : before (past p) r ≡ true)
    (in-r : before (past r) highest ≡ true) where
  pub b-past-p : before [] (past p) ≡ true
  b-past-p = before-trans [] p (past p) b-p (before-past p)

  pub b-r : before [] r ≡ true
  b-r = before-trans [] (past p) r b-past-p lt

  pub b-past-r : before [] (past r) ≡ true
  b-past-r = before-trans [] r (past r) b-r (before-past r)

  pub cut-1 : Cut h [] (past r) highest (left_past_r fresh h t p r) (right_past_r fresh h t p r) (rows t [] highest)
  unfolding left_past_r right_past_r
  cut-1 = cut-tree fresh true t h [] highest (past r) 0 h good b-past-r in-r

  pub cut-2 : Cut h [] r (past r) (left_r fresh h t p r) (right_of fresh false (left_past_r fresh h t p r) [] (past r) r (8 * h)) (rows (left_past_r fresh h t p r) [] (past r))
  unfolding left_r
  cut-2 = cut-tree fresh false (left_past_r fresh h t p r) h [] (past r) r (3 * h) (8 * h) cut-1.low b-r (before-past r)

  pub cut-3 : Cut h [] (past p) r (left_past_p fresh h t p r) (right_past_p fresh h t p r) (rows (left_r fresh h t p r) [] r)
  unfolding left_past_p right_past_p
  cut-3 = cut-tree fresh true (left_r fresh h t p r) h [] r (past p) (4 * h) (5 * h) cut-2.low b-past-p lt

  pub cut-4 : Cut h [] p (past p) (left_p fresh h t p r) (right_of fresh false (left_past_p fresh h t p r) [] (past p) p (8 * h)) (rows (left_past_p fresh h t p r) [] (past p))
  unfolding left_p
  cut-4 = cut-tree fresh false (left_past_p fresh h t p r) h [] (past p) p (7 * h) (8 * h) cut-3.low b-p (before-past p)

  -- the tables of the parts
  rows-2 : rows (left_r fresh h t p r) [] r ≡ keep (up_to r) (keep (up_to (past r)) (rows t [] highest))
  rows-2 = cut-2.low_rows ∙ ap (keep (up_to r)) cut-1.low_rows

  rows-3 : rows (left_past_p fresh h t p r) [] (past p) ≡ keep (up_to (past p)) (keep (up_to r) (keep (up_to (past r)) (rows t [] highest)))
  rows-3 = cut-3.low_rows ∙ ap (keep (up_to (past p))) rows-2

  rows-a : rows (left_p fresh h t p r) [] p ≡ part_a p r (rows t [] highest)
  rows-a = cut-4.low_rows ∙ ap (keep (up_to p)) rows-3

  rows-b : rows_in (right_past_p fresh h t p r) [] r ≡ part_b p r (rows t [] highest)
  rows-b = cut-3.high_rows ∙ ap (keep (since (past p))) rows-2

  pub good-p : Good h (mid_p fresh h t p r) p (past p)
  unfolding mid_p
  good-p = tail-good fresh (left_past_p fresh h t p r) h [] (past p) p (8 * h) cut-3.low b-p (before-past p)

  pub rows-p : rows (mid_p fresh h t p r) p (past p) ≡ part_p p r (rows t [] highest)
  unfolding mid_p
  rows-p = tail-rows fresh (left_past_p fresh h t p r) h [] (past p) p (8 * h) cut-3.low b-p (before-past p) ∙ ap (keep (since p)) rows-3

  pub good-r : Good h (mid_r fresh h t p r) r (past r)
  unfolding mid_r
  good-r = tail-good fresh (left_past_r fresh h t p r) h [] (past r) r (8 * h) cut-1.low b-r (before-past r)

  pub rows-r : rows (mid_r fresh h t p r) r (past r) ≡ part_r p r (rows t [] highest)
  unfolding mid_r
  rows-r = tail-rows fresh (left_past_r fresh h t p r) h [] (past r) r (8 * h) cut-1.low b-r (before-past r) ∙ ap (keep (since r)) cut-1.low_rows

  module _ (x y : Tree) (good-x : Good h x p (past p)) (good-y : Good h y r (past r)) where
    right-run : Run h (joined (right_past_p fresh h t p r) (tree r y (right_past_r fresh h t p r))) (past p) highest
    right-run = run_join cut-3.high (more (before-past r) good-y cut-1.high)

    spread-run : Run h (pieces fresh h t p r x y) [] highest
    unfolding pieces
    spread-run = more b-p cut-4.low (more (before-past p) good-x right-run)

    below-highest : before [] highest ≡ true
    below-highest = before-trans [] (past r) highest b-past-r in-r

    pub root-good : Good (suc h) (root_over fresh h t p r x y) [] highest
    unfolding root_over
    root-good = node-good (fresh (10 * h)) below-highest spread-run

    last-rows : rows_in (tree r y (right_past_r fresh h t p r)) [] highest ≡ rows y r (past r) ++ part_c p r (rows t [] highest)
    unfolding rows_in
    last-rows = ap₂ (λ a b. rows y r a ++ b) (run-high cut-1.high) cut-1.high_rows

    spread-rows : rows_in (pieces fresh h t p r x y) [] highest
        ≡ part_a p r (rows t [] highest) ++ (rows x p (past p) ++ (part_b p r (rows t [] highest) ++ (rows y r (past r) ++ part_c p r (rows t [] highest))))
    unfolding pieces rows_in high_of
    spread-rows =
        ap₂ (λ a b. a ++ b) rows-a
        (ap₂ (λ a b. rows x p a ++ b) (run-high right-run)
        (rows_join cut-3.high (more (before-past r) good-y cut-1.high) ∙ ap₂ (λ a b. a ++ b) rows-b last-rows))

    pub root-rows : rows (root_over fresh h t p r x y) [] highest
        ≡ part_a p r (rows t [] highest) ++ (rows x p (past p) ++ (part_b p r (rows t [] highest) ++ (rows y r (past r) ++ part_c p r (rows t [] highest))))
    unfolding root_over
    root-rows = node-rows (fresh (10 * h)) spread-run ∙ spread-rows

    -- each number at most as often as before, and among the new ones
    root-met : (j : ℕ) → met j (root_over fresh h t p r x y)
        ≡ one j (fresh (10 * h)) + (met j (left_p fresh h t p r) + (met j x + (met_in j (right_past_p fresh h t p r) + (met j y + met_in j (right_past_r fresh h t p r)))))
    unfolding root_over pieces met_in
    root-met j =
        met-node j (fresh (10 * h)) [] highest (pieces fresh h t p r x y)
        ∙ ap (λ z. one j (fresh (10 * h)) + (met j (left_p fresh h t p r) + (met j x + z)))
        (met-joined j (right_past_p fresh h t p r) (tree r y (right_past_r fresh h t p r)))

  module _ (j : ℕ) where
    met-1 : met j (left_past_r fresh h t p r) + met_in j (right_past_r fresh h t p r) ≤ met j t + (spent fresh j h 0 + spent fresh j (2 * h) h)
    unfolding left_past_r right_past_r
    met-1 = rw (← taken-two h) (cut-numbers j fresh fresh true t h [] highest (past r) 0 h good.level)

    met-2 : met j (left_r fresh h t p r) + met j (mid_r fresh h t p r) ≤ met j (left_past_r fresh h t p r) + (spent fresh j h (3 * h) + spent fresh j h (8 * h))
    unfolding left_r mid_r
    met-2 = cut-tail fresh j (left_past_r fresh h t p r) h [] (past r) r (3 * h) (8 * h) cut-1.low b-r (before-past r)

    met-2-alone : met j (left_r fresh h t p r) ≤ met j (left_past_r fresh h t p r) + spent fresh j h (3 * h)
    unfolding left_r
    met-2-alone = left-numbers j fresh (left_past_r fresh h t p r) h [] (past r) r (3 * h) cut-1.low.level

    met-3 : met j (left_past_p fresh h t p r) + met_in j (right_past_p fresh h t p r)
        ≤ met j (left_r fresh h t p r) + (spent fresh j h (4 * h) + spent fresh j (2 * h) (5 * h))
    unfolding left_past_p right_past_p
    met-3 = rw (← taken-two h) (cut-numbers j fresh fresh true (left_r fresh h t p r) h [] r (past p) (4 * h) (5 * h) cut-2.low.level)

    met-4 : met j (left_p fresh h t p r) + met j (mid_p fresh h t p r) ≤ met j (left_past_p fresh h t p r) + (spent fresh j h (7 * h) + spent fresh j h (8 * h))
    unfolding left_p mid_p
    met-4 = cut-tail fresh j (left_past_p fresh h t p r) h [] (past p) p (7 * h) (8 * h) cut-3.low b-p (before-past p)

    met-4-alone : met j (left_p fresh h t p r) ≤ met j (left_past_p fresh h t p r) + spent fresh j h (7 * h)
    unfolding left_p
    met-4-alone = left-numbers j fresh (left_past_p fresh h t p r) h [] (past p) p (7 * h) cut-3.low.level

    -- with a gap in place of one middle, and the other one swung
    pub numbers_up : (x y : Tree) → Good h x p (past p) → Good h y r (past r) → met j x ≡ spent fresh j h (9 * h) → met j y ≡ met j (mid_p fresh h t p r)
        → met j (root_over fresh h t p r x y) ≤ met j t + spent fresh j (suc (10 * h)) 0
    numbers_up x y gx gy ex ey = omega (arith, root-met x y gx gy j, spent_all fresh j h, met-1, met-2-alone, met-3, met-4)

    pub numbers-down : (x y : Tree) → Good h x p (past p) → Good h y r (past r) → met j y ≡ spent fresh j h (9 * h) → met j x ≡ met j (mid_r fresh h t p r)
        → met j (root_over fresh h t p r x y) ≤ met j t + spent fresh j (suc (10 * h)) 0
    numbers-down x y gx gy ey ex = omega (arith, root-met x y gx gy j, spent_all fresh j h, met-1, met-2, met-3, met-4-alone)

  -- every node fits
  module _ (short_p : length (past p) ≤ pivot_limit) (short_r : length (past r) ≤ pivot_limit) (fit : fits t ≡ true) where
    pub fit-1 : (fits (left_past_r fresh h t p r) ≡ true) × (fits_in (right_past_r fresh h t p r) ≡ true)
    unfolding left_past_r right_past_r
    fit-1 = cut_fits fresh true t h [] highest (past r) 0 h good b-past-r in-r short_r refl fit

    pub fit-2 : fits (left_r fresh h t p r) ≡ true
    unfolding left_r
    fit-2 = (cut_fits fresh true (left_past_r fresh h t p r) h [] (past r) r (3 * h) 0 cut-1.low b-r (before-past r) (short-of r short_r) refl fit-1.0).0

    pub fit-3 : (fits (left_past_p fresh h t p r) ≡ true) × (fits_in (right_past_p fresh h t p r) ≡ true)
    unfolding left_past_p right_past_p
    fit-3 = cut_fits fresh true (left_r fresh h t p r) h [] r (past p) (4 * h) (5 * h) cut-2.low b-past-p lt short_p refl fit-2

    pub fit-4 : fits (left_p fresh h t p r) ≡ true
    unfolding left_p
    fit-4 = (cut_fits fresh true (left_past_p fresh h t p r) h [] (past p) p (7 * h) 0 cut-3.low b-p (before-past p) (short-of p short_p) refl fit-3.0).0

    pub fit-p : fits (mid_p fresh h t p r) ≡ true
    unfolding mid_p
    fit-p = tail-fits fresh (left_past_p fresh h t p r) h [] (past p) p (8 * h) cut-3.low b-p (before-past p) (short-of p short_p) (begins-past p highest) fit-3.0

    pub fit-r : fits (mid_r fresh h t p r) ≡ true
    unfolding mid_r
    fit-r = tail-fits fresh (left_past_r fresh h t p r) h [] (past r) r (8 * h) cut-1.low b-r (before-past r) (short-of r short_r) (begins-past r highest) fit-1.0

    short-right-r : short_at 0 (right_past_r fresh h t p r) ≡ true
    unfolding right_past_r shared
    short-right-r = right_short fresh true 0 t [] highest (past r) h fit (omega arith) (omega arith)

    short-right-p : short_at 0 (right_past_p fresh h t p r) ≡ true
    unfolding right_past_p shared
    short-right-p = right_short fresh true 0 (left_r fresh h t p r) [] r (past p) (5 * h) fit-2 (omega arith) (omega arith)

    few-right-r : count (right_past_r fresh h t p r) ≤ 2
    unfolding right_past_r
    few-right-r = right-count fresh true t [] highest (past r) h

    few-right-p : count (right_past_p fresh h t p r) ≤ 2
    unfolding right_past_p
    few-right-p = right-count fresh true (left_r fresh h t p r) [] r (past p) (5 * h)

    spread-short : (x y : Tree) → short_at 0 (pieces fresh h t p r x y) ≡ true
    unfolding pieces short_at
    spread-short x y =
        both (le-leb 0 pivot_limit (omega arith))
        (both (le-leb (length p - 0) pivot_limit (omega (arith, short-of p short_p)))
        (short-joined 0 (right_past_p fresh h t p r) (tree r y (right_past_r fresh h t p r)) short-right-p
        (both (le-leb (length r - 0) pivot_limit (omega (arith, short-of r short_r))) short-right-r)))

    spread-few : (x y : Tree) → count (pieces fresh h t p r x y) ≤ 7
    unfolding pieces count
    spread-few x y =
        omega (arith, count-joined (right_past_p fresh h t p r) (tree r y (right_past_r fresh h t p r)), few-right-r, few-right-p)

    spread-size : (x y : Tree) → size_at 0 (pieces fresh h t p r x y) ≤ entries_limit
    spread-size x y = omega (arith, short-size 0 (pieces fresh h t p r x y) (spread-short x y), spread-few x y)

    pub spread-fits : (x y : Tree) → fits x ≡ true → fits y ≡ true → fits_in (pieces fresh h t p r x y) ≡ true
    unfolding pieces fits_in
    spread-fits x y a b =
        both fit-4 (both a (fits-joined (right_past_p fresh h t p r) (tree r y (right_past_r fresh h t p r)) fit-3.1 (both b fit-1.1)))

    pub root_fits : (x y : Tree) → fits x ≡ true → fits y ≡ true → fits (root_over fresh h t p r x y) ≡ true
    unfolding root_over shared
    root_fits x y a b = node-fits (fresh (10 * h)) [] highest (pieces fresh h t p r x y) (spread-size x y) (spread-short x y) (spread-fits x y a b)

-- what a move leaves
pub record Well (fresh : ℕ → ℕ) (h : ℕ) (from to : List ℕ) (t new : Tree) : Type 0 where
  pub new_good : Good (suc h) new [] highest
  pub new_rows : rows new [] highest ≡ moved from to (rows t [] highest)
  pub new_fits : fits new ≡ true
  pub new_numbers : (j : ℕ) → met j new ≤ met j t + spent fresh j (suc (10 * h)) 0

pub short-past : (p : List ℕ) → well_formed p ≡ true → length (past p) ≤ pivot_limit
short-past p e = formed-length p e

module _ (fresh : ℕ → ℕ) (k : ℕ) (t : Tree) (from to : List ℕ) (good : Good (suc k) t [] highest) (fit : fits t ≡ true)
    (formed_from : well_formed from ≡ true) (formed_to : well_formed to ≡ true) (apart : begins from to ≡ false) (apart' : begins to from ≡ false)
    (q9 : every_key well_formed (moved from to (rows t [] highest)) ≡ true) where
  rise : rising (rows t [] highest) ≡ true
  rise = rows-rise t [] highest good.sound

  formed : every_key well_formed (rows t [] highest) ≡ true
  formed = rows-formed t [] highest good.holds_no_message good.sound

  gap : Tree
  gap = gap_of fresh (suc k) from (past from) (9 * suc k)

  good-gap : Good (suc k) gap from (past from)
  unfolding gap
  good-gap = gap-good fresh from (past from) (before-past from) k (9 * suc k)

  rows-gap : rows gap from (past from) ≡ []
  unfolding gap
  rows-gap = gap-rows fresh from (past from) (before-past from) k (9 * suc k)

  fits-gap : fits gap ≡ true
  unfolding gap
  fits-gap = gap-fits fresh from (past from) (before-past from) k (9 * suc k) (short-of from (short-past from formed_from))

  met-gap : (j : ℕ) → met j gap ≡ spent fresh j (suc k) (9 * suc k)
  unfolding gap
  met-gap j = gap-met fresh from (past from) (before-past from) j k (9 * suc k)

  -- the middle under its new pivots, whatever rows it has under the old ones
  module _ (m : Tree) (part : List Row) (good-m : Good (suc k) m from (past from)) (rows-m : rows m from (past from) ≡ part)
      (aside : rows_below from (rows t [] highest) ≡ part) where
    mid-good : Good (suc k) m to (past to)
    mid-good =
        range-good from to m good-m
        (ap (λ x. every_key well_formed (renamed from to x)) (rows-m ∙ sym aside) ∙ renamed-formed from to (rows t [] highest) q9)

    mid-rows : rows m to (past to) ≡ renamed from to part
    mid-rows = range-rows from to m ∙ ap (renamed from to) rows-m

    mid-rises : rising (renamed from to part) ≡ true
    mid-rises = ap rising (sym mid-rows) ∙ rows-rise m to (past to) mid-good.sound

    mid-owned : every_key (owns to (past to)) (renamed from to part) ≡ true
    mid-owned = ap (every_key (owns to (past to))) (sym mid-rows) ∙ keys-owned m to (past to) mid-good.sound

  well-up : before from to ≡ true → Well fresh (suc k) from to t (root_over fresh (suc k) t from to gap (mid_p fresh (suc k) t from to))
  well-up b =
      let W : List Row = rows t [] highest in
      let lt : before (past from) to ≡ true = before-aside from to highest b apart in
      let b0 : before [] from ≡ true = (formed-inside from formed_from).0 in
      let b1 : before (past to) highest ≡ true = (formed-inside to formed_to).1 in
      let m : Tree = mid_p fresh (suc k) t from to in
      let gm : Good (suc k) m from (past from) = good-p fresh (suc k) t from to good b0 lt b1 in
      let rm : rows m from (past from) ≡ part_p from to W = rows-p fresh (suc k) t from to good b0 lt b1 in
      let asd : rows_below from W ≡ part_p from to W = below-p from to W lt rise formed in
      let gm' : Good (suc k) m to (past to) = mid-good m (part_p from to W) gm rm asd in
      record {
        new_good = root-good fresh (suc k) t from to good b0 lt b1 gap m good-gap gm';
        new_rows =
            root-rows fresh (suc k) t from to good b0 lt b1 gap m good-gap gm'
            ∙ ap₂ (λ x y. part_a from to W ++ (x ++ (part_b from to W ++ (y ++ part_c from to W)))) rows-gap (mid-rows m (part_p from to W) gm rm asd)
            ∙ sym (moved_up from to W lt rise formed (mid-rises m (part_p from to W) gm rm asd) (mid-owned m (part_p from to W) gm rm asd));
        new_fits =
            root_fits fresh (suc k) t from to good b0 lt b1 (short-past from formed_from) (short-past to formed_to) fit gap m fits-gap
            (fit-p fresh (suc k) t from to good b0 lt b1 (short-past from formed_from) (short-past to formed_to) fit);
        new_numbers = λ j. numbers_up fresh (suc k) t from to good b0 lt b1 j gap m good-gap gm' (met-gap j) refl;
      }

  well-down : before from to ≡ false → Well fresh (suc k) from to t (root_over fresh (suc k) t to from (mid_r fresh (suc k) t to from) gap)
  well-down b =
      let W : List Row = rows t [] highest in
      let e : same to from ≡ false = same_false to from (λ z. not_so (rw z (begins-refl from)) apart') in
      let lt : before (past to) from ≡ true = before-aside to from highest (before-total to from e b) apart' in
      let b0 : before [] to ≡ true = (formed-inside to formed_to).0 in
      let b1 : before (past from) highest ≡ true = (formed-inside from formed_from).1 in
      let m : Tree = mid_r fresh (suc k) t to from in
      let gm : Good (suc k) m from (past from) = good-r fresh (suc k) t to from good b0 lt b1 in
      let rm : rows m from (past from) ≡ part_r to from W = rows-r fresh (suc k) t to from good b0 lt b1 in
      let asd : rows_below from W ≡ part_r to from W = below-r to from W lt rise formed in
      let gm' : Good (suc k) m to (past to) = mid-good m (part_r to from W) gm rm asd in
      record {
        new_good = root-good fresh (suc k) t to from good b0 lt b1 m gap gm' good-gap;
        new_rows =
            root-rows fresh (suc k) t to from good b0 lt b1 m gap gm' good-gap
            ∙ ap₂ (λ x y. part_a to from W ++ (x ++ (part_b to from W ++ (y ++ part_c to from W)))) (mid-rows m (part_r to from W) gm rm asd) rows-gap
            ∙ sym (moved_down to from W lt rise formed (mid-rises m (part_r to from W) gm rm asd) (mid-owned m (part_r to from W) gm rm asd));
        new_fits =
            root_fits fresh (suc k) t to from good b0 lt b1 (short-past to formed_to) (short-past from formed_from) fit m gap
            (fit-r fresh (suc k) t to from good b0 lt b1 (short-past to formed_to) (short-past from formed_from) fit) fits-gap;
        new_numbers = λ j. numbers-down fresh (suc k) t to from good b0 lt b1 j m gap gm' good-gap (met-gap j) refl;
      }

  well-moved : Well fresh (suc k) from to t (moved_tree fresh (suc k) t from to)
  unfolding moved_tree gap
  well-moved = cases (before from to) (λ b. rw b (well-up b)) (λ b. rw b (well-down b))

pub some_level : (t : Tree) (h : ℕ) → levelled t h ≡ true → (k : ℕ) × (h ≡ suc k)
unfolding levelled
some_level t (suc k) e = (k, refl)
some_level (unread i) zero e = absurd (false≢true e)
some_level (leaf i rs) zero e = absurd (false≢true e)
some_level (interior i f ms) zero e = absurd (false≢true e)

-- THE MOVE, on trees.
pub move-well : (fresh : ℕ → ℕ) (h : ℕ) (t : Tree) (from to : List ℕ) → Good h t [] highest → fits t ≡ true → well_formed from ≡ true → well_formed to ≡ true
    → begins from to ≡ false → begins to from ≡ false → every_key well_formed (moved from to (rows t [] highest)) ≡ true
    → Well fresh h from to t (moved_tree fresh h t from to)
move-well fresh zero t from to g f a b c d e = absurd (let l = (some_level t zero g.level).1 in omega arith)
move-well fresh (suc k) t from to g f a b c d e = well-moved fresh k t from to g f a b c d e
