-- A cut parts a settled sound tree: both parts are sound for their own ranges, of the same level, and hold the rows of their ranges.
use Rattle.std.specs.Prelude.{ℕ, zero, suc, ◌≡◌, refl, List, [], ◌∷◌, ◌++◌, Bool, true, false, not}
use Rattle.image.specs.Prelude.{sym, ap, ap₂, subst, ◌∙◌, append-nil, false≢true, cases}
use Rattle.image.specs.Bytes.{before, shared}
use Rattle.image.specs.Path.{owns}
use Rattle.image.specs.Table.{Row, every_key, under_prefix}
use Rattle.image.specs.Image.{Tree, unread, leaf, interior, Forest, end, tree}
use Rattle.image.specs.Meaning.{high_of, apply_all, rows, rows_in}
use Rattle.image.specs.Sound.{sound_tree, sound_forest}
use Rattle.octets.specs.Order.{not_so, before-le, before-asym}
use Rattle.laws.specs.Rising.{one_key}
use Rattle.laws.specs.LookupTable.{parts, later-none, under-high}
use Rattle.laws.specs.RowsRising.{every-key, is_true}
use Rattle.laws.specs.Filter.{keep, up_to, since, keep_append, keep_all, keep-none, every-imp, Rowed, leaf-rowed, leaf-rows, leaf-sound, rowed-low, rowed-high, not-not}
use Rattle.laws.specs.Pieces.{still, levelled, Good, Run, done, more, joined, raise, run-high, run_join, rows_join, high-raise, rows-raise, Branches, branch-first, branch-later, branches-run, node-good, node-rows, over-run, over-rows, inner-branches, inner_first}
use Rattle.slice.specs.Slicing.Slice.{rest_in, packed, after, left_of, left_in, right_of, edge_in}
use Rattle.laws.specs.PushDown.{keys-owned}

-- k ≤ hi, the tree before it
keys-before : (t : Tree) (lo hi k : List ℕ) → sound_tree t lo hi ≡ true → before k hi ≡ false → every_key (up_to k) (rows t lo hi) ≡ true
keys-before t lo hi k e b =
    every-imp (owns lo hi) (up_to k) (rows t lo hi) (λ q o. before-le q hi k (under-high lo hi q o) b) (keys-owned t lo hi e)

not-since : (k : List ℕ) (t : List Row) → every_key (up_to k) t ≡ true → every_key (λ q. not (since k q)) t ≡ true
not-since k t e = every-imp (up_to k) (λ q. not (since k q)) t (λ q h. not-not (before q k) h) e

-- the children from k on, or from a later pivot on
keys-since : (f : Forest) (lifted lo hi k : List ℕ) → sound_forest f lifted lo hi ≡ true → before (high_of lifted hi f) k ≡ false
    → every_key (since k) (rows_in f lifted hi) ≡ true
keys-since f lifted lo hi k e b =
    every-key (since k) (rows_in f lifted hi)
    (λ q n. later-none f lifted lo hi q e (before-le q k (high_of lifted hi f) (is_true (before q k) n) b))

pub record Cut (h : ℕ) (lo k hi : List ℕ) (left : Tree) (right : Forest) (whole : List Row) : Type 0 where
  pub low : Good h left lo k
  pub high : Run h right k hi
  pub low_rows : rows left lo k ≡ keep (up_to k) whole
  pub high_rows : rows_in right [] hi ≡ keep (since k) whole

pub record Cuts (h : ℕ) (lo k hi : List ℕ) (left edge rest : Forest) (whole : List Row) : Type 0 where
  pub lows : Run h left lo k
  pub edges : Run h edge k (high_of [] hi rest)
  pub rests : Run h rest (high_of [] hi rest) hi
  pub lows_rows : rows_in left [] k ≡ keep (up_to k) whole
  pub highs_rows : rows_in (joined edge rest) [] hi ≡ keep (since k) whole

packed-run : (w : Bool) {h : ℕ} {e r : Forest} {k hi : List ℕ} (n m : ℕ) → Run h e k (high_of [] hi r) → Run h r (high_of [] hi r) hi
    → Run (suc h) (packed w n m k hi e r) k hi
unfolding packed
packed-run true n m p q = run_join (over-run n p) (over-run m q)
packed-run false n m p q = over-run n (run_join p q)

packed-rows : (w : Bool) {h : ℕ} {e r : Forest} {k hi : List ℕ} (n m : ℕ) → Run h e k (high_of [] hi r) → Run h r (high_of [] hi r) hi
    → rows_in (packed w n m k hi e r) [] hi ≡ rows_in (joined e r) [] hi
unfolding packed
packed-rows true n m p q = rows_join (over-run n p) (over-run m q) ∙ ap₂ (λ x y. x ++ y) (over-rows n p) (over-rows m q) ∙ sym (rows_join p q)
packed-rows false n m p q = over-rows n (run_join p q)

module _ (fresh : ℕ → ℕ) (w : Bool) where
  cut-leaf : (i : ℕ) (rs : List Row) (h : ℕ) (lo hi k : List ℕ) (at at' : ℕ) → Good h (leaf i rs) lo hi → before lo k ≡ true → before k hi ≡ true
      → Cut h lo k hi (left_of fresh (leaf i rs) lo hi k at) (right_of fresh w (leaf i rs) lo hi k at') (rows (leaf i rs) lo hi)
  unfolding left_of right_of rows rows_in high_of still levelled
  cut-leaf i rs h lo hi k at at' g a b =
      let t : List Row = under_prefix (shared lo hi) rs in
      let r : Rowed lo hi t = leaf-rowed i rs lo hi g.sound in
      record {
        low = record { sound = leaf-sound (fresh at) lo k (keep (up_to k) t) (rowed-low lo k hi t r); holds_no_message = refl; level = g.level };
        high = more b (record { sound = leaf-sound (fresh at') k hi (keep (since k) t) (rowed-high lo k hi t r); holds_no_message = refl; level = g.level }) done;
        low_rows = leaf-rows (fresh at) lo k (keep (up_to k) t) (rowed-low lo k hi t r);
        high_rows = append-nil _ ∙ leaf-rows (fresh at') k hi (keep (since k) t) (rowed-high lo k hi t r);
      }

  cut-inner : (i : ℕ) (f : Forest) (h : ℕ) (lo hi k : List ℕ) (at at' : ℕ) → Good (suc h) (interior i f []) lo hi → before lo k ≡ true
      → Cuts h lo k hi (left_in fresh f (shared lo hi) hi k (suc at)) (edge_in fresh w f (shared lo hi) hi k (after w at')) (rest_in f (shared lo hi) hi k)
      (rows_in f (shared lo hi) hi)
      → Cut (suc h) lo k hi (left_of fresh (interior i f []) lo hi k at) (right_of fresh w (interior i f []) lo hi k at') (rows (interior i f []) lo hi)
  unfolding left_of right_of rows apply_all
  cut-inner i f h lo hi k at at' g a c =
      record {
        low = node-good (fresh at) a c.lows;
        high = packed-run w (fresh at') (fresh (suc at')) c.edges c.rests;
        low_rows = node-rows (fresh at) c.lows ∙ c.lows_rows;
        high_rows = packed-rows w (fresh at') (fresh (suc at')) c.edges c.rests ∙ c.highs_rows;
      }

  module _ (s : List ℕ) (t : Tree) (f : Forest) (h : ℕ) (lifted lo hi k : List ℕ) (at at' : ℕ) (branches : Branches h (tree s t f) lifted lo hi) where
    -- the child holds the cut strictly inside
    cut_inside : before k (high_of lifted hi f) ≡ true → before (lifted ++ s) k ≡ true
        → Cut h (lifted ++ s) k (high_of lifted hi f) (left_of fresh t (lifted ++ s) (high_of lifted hi f) k at)
        (right_of fresh w t (lifted ++ s) (high_of lifted hi f) k at') (rows t (lifted ++ s) (high_of lifted hi f))
        → Cuts h (lifted ++ s) k hi (left_in fresh (tree s t f) lifted hi k at) (edge_in fresh w (tree s t f) lifted hi k at')
        (rest_in (tree s t f) lifted hi k) (rows_in (tree s t f) lifted hi)
    unfolding left_in edge_in rest_in rows_in high_of
    cut_inside x y c =
        let later : Branches h f lifted lo hi = branch-later s t f lifted lo hi branches in
        let run : Run h (raise lifted f) (high_of lifted hi f) hi = branches-run f lifted lo hi later in
        let z : high_of [] hi (raise lifted f) ≡ high_of lifted hi f = high-raise lifted hi f in
        let keys : every_key (since k) (rows_in f lifted hi) ≡ true =
        keys-since f lifted lo hi k later.sounds (before-asym k (high_of lifted hi f) x) in
        rw (x, y)
        (record {
          lows = more y c.low done;
          edges = rw z c.high;
          rests = rw z run;
          lows_rows =
              append-nil _ ∙ c.low_rows ∙ sym (append-nil _)
              ∙ ap (λ u. keep (up_to k) (rows t (lifted ++ s) (high_of lifted hi f)) ++ u) (sym (keep-none (up_to k) (rows_in f lifted hi) keys))
              ∙ sym (keep_append (up_to k) (rows t (lifted ++ s) (high_of lifted hi f)) (rows_in f lifted hi));
          highs_rows =
              rows_join c.high run
              ∙ ap₂ (λ u v. u ++ v) c.high_rows (rows-raise lifted hi f ∙ sym (keep_all (since k) (rows_in f lifted hi) keys))
              ∙ sym (keep_append (since k) (rows t (lifted ++ s) (high_of lifted hi f)) (rows_in f lifted hi));
        })

    -- the child begins with the cut
    cut_at : before k (high_of lifted hi f) ≡ true → before (lifted ++ s) k ≡ false → before k (lifted ++ s) ≡ false
        → Cuts h (lifted ++ s) k hi (left_in fresh (tree s t f) lifted hi k at) (edge_in fresh w (tree s t f) lifted hi k at')
        (rest_in (tree s t f) lifted hi k) (rows_in (tree s t f) lifted hi)
    unfolding left_in edge_in rest_in high_of joined raise rows_in
    cut_at x y a =
        let e : lifted ++ s ≡ k = one_key (lifted ++ s) k y a in
        let keys : every_key (since k) (rows_in (tree s t f) lifted hi) ≡ true = keys-since (tree s t f) lifted lo hi k branches.sounds y in
        rw (x, y)
        (record {
          lows = subst (λ q. Run h end (lifted ++ s) q) e done;
          edges = subst (λ q. Run h end q (lifted ++ s)) e done;
          rests = branches-run (tree s t f) lifted lo hi branches;
          lows_rows = sym (keep-none (up_to k) (rows_in (tree s t f) lifted hi) keys);
          highs_rows = rows-raise lifted hi (tree s t f) ∙ sym (keep_all (since k) (rows_in (tree s t f) lifted hi) keys);
        })

    -- the child lies before the cut
    cut-past : before k (high_of lifted hi f) ≡ false
        → Cuts h (high_of lifted hi f) k hi (left_in fresh f lifted hi k at) (edge_in fresh w f lifted hi k at') (rest_in f lifted hi k) (rows_in f lifted hi)
        → Cuts h (lifted ++ s) k hi (left_in fresh (tree s t f) lifted hi k at) (edge_in fresh w (tree s t f) lifted hi k at')
        (rest_in (tree s t f) lifted hi k) (rows_in (tree s t f) lifted hi)
    unfolding left_in edge_in rest_in rows_in
    cut-past x c =
        let first : Good h t (lifted ++ s) (high_of lifted hi f) = branch-first s t f lifted lo hi branches in
        let keys : every_key (up_to k) (rows t (lifted ++ s) (high_of lifted hi f)) ≡ true =
        keys-before t (lifted ++ s) (high_of lifted hi f) k first.sound x in
        rw x
        (record {
          lows = more (parts s t f lifted lo hi branches.sounds).rises first c.lows;
          edges = c.edges;
          rests = c.rests;
          lows_rows =
              ap₂ (λ u v. rows t (lifted ++ s) u ++ v) (run-high c.lows) c.lows_rows
              ∙ ap (λ u. u ++ keep (up_to k) (rows_in f lifted hi)) (sym (keep_all (up_to k) (rows t (lifted ++ s) (high_of lifted hi f)) keys))
              ∙ sym (keep_append (up_to k) (rows t (lifted ++ s) (high_of lifted hi f)) (rows_in f lifted hi));
          highs_rows =
              c.highs_rows
              ∙ ap (λ u. u ++ keep (since k) (rows_in f lifted hi))
              (sym (keep-none (since k) (rows t (lifted ++ s) (high_of lifted hi f)) (not-since k (rows t (lifted ++ s) (high_of lifted hi f)) keys)))
              ∙ sym (keep_append (since k) (rows t (lifted ++ s) (high_of lifted hi f)) (rows_in f lifted hi));
        })

  cuts_first : {h : ℕ} {k hi : List ℕ} {l e r : Forest} {t : List Row} (lo lo' : List ℕ) → lo ≡ lo' → Cuts h lo k hi l e r t → Cuts h lo' k hi l e r t
  cuts_first {h} {k} {hi} {l} {e} {r} {t} lo lo' q c = subst (λ x. Cuts h x k hi l e r t) q c

  mutual
    unfolding sound_tree still levelled high_of

    pub cut-tree : (t : Tree) (h : ℕ) (lo hi k : List ℕ) (at at' : ℕ) → Good h t lo hi → before lo k ≡ true → before k hi ≡ true
        → Cut h lo k hi (left_of fresh t lo hi k at) (right_of fresh w t lo hi k at') (rows t lo hi)
    cut-tree (unread i) h lo hi k at at' g a b = absurd (false≢true g.sound)
    cut-tree (leaf i rs) h lo hi k at at' g a b = cut-leaf i rs h lo hi k at at' g a b
    cut-tree (interior i f (m ∷ ms)) h lo hi k at at' g a b = absurd (false≢true g.holds_no_message)
    cut-tree (interior i f []) zero lo hi k at at' g a b = absurd (false≢true g.level)
    cut-tree (interior i f []) (suc h) lo hi k at at' g a b =
        cut-inner i f h lo hi k at at' g a
        (cuts_first (high_of (shared lo hi) hi f) lo (inner_first i f lo hi g)
        (cut-forest f h (shared lo hi) lo hi k (suc at) (after w at') (inner-branches i f lo hi g)
        (rw (inner_first i f lo hi g) (before-asym lo k a)) b))

    pub cut-forest : (f : Forest) (h : ℕ) (lifted lo hi k : List ℕ) (at at' : ℕ) → Branches h f lifted lo hi → before k (high_of lifted hi f) ≡ false → before k hi ≡ true
        → Cuts h (high_of lifted hi f) k hi (left_in fresh f lifted hi k at) (edge_in fresh w f lifted hi k at') (rest_in f lifted hi k) (rows_in f lifted hi)
    cut-forest end h lifted lo hi k at at' g a b = not_so b a
    cut-forest (tree s t f) h lifted lo hi k at at' g a b =
        cases (before k (high_of lifted hi f))
        (λ e. cases (before (lifted ++ s) k)
        (λ d. cut_inside s t f h lifted lo hi k at at' g e d (cut-tree t h (lifted ++ s) (high_of lifted hi f) k at at' (branch-first s t f lifted lo hi g) d e))
        (λ d. cut_at s t f h lifted lo hi k at at' g e d a))
        (λ e. cut-past s t f h lifted lo hi k at at' g e (cut-forest f h lifted lo hi k at at' (branch-later s t f lifted lo hi g) e b))

  pub inner-cuts : (i : ℕ) (f : Forest) (h : ℕ) (lo hi k : List ℕ) (at at' : ℕ) → Good (suc h) (interior i f []) lo hi → before lo k ≡ true → before k hi ≡ true
      → Cuts h lo k hi (left_in fresh f (shared lo hi) hi k at) (edge_in fresh w f (shared lo hi) hi k at') (rest_in f (shared lo hi) hi k) (rows_in f (shared lo hi) hi)
  inner-cuts i f h lo hi k at at' g a b =
      cuts_first (high_of (shared lo hi) hi f) lo (inner_first i f lo hi g)
      (cut-forest f h (shared lo hi) lo hi k at at' (inner-branches i f lo hi g) (rw (inner_first i f lo hi g) (before-asym lo k a)) b)
