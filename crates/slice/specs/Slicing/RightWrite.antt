-- The right parts and tails written into an image.
use Rattle.std.specs.Prelude.{ℕ, zero, suc, ◌+◌, ◌*◌, ◌≤◌, ◌≡◌, refl, List, [], ◌∷◌, ◌++◌, Bool, true, false, ◌&&◌, ◌||◌, cond, length, leb}
use Rattle.image.specs.Prelude.{sym, ap, subst, ◌∙◌, false≢true, arith, eqb-true, cases}
use Rattle.image.specs.Bytes.{before, begins, shared}
use Rattle.image.specs.Entry.{Message, pivot_limit}
use Rattle.image.specs.Table.{Row, under_prefix}
use Rattle.image.specs.Image.{Tree, unread, leaf, interior, Forest, end, tree, node_bytes, tree_at, entries_limit}
use Rattle.image.specs.Meaning.{high_of}
use Rattle.image.specs.Sound.{sound_tree}
use Rattle.octets.specs.Order.{and_left, and_right}
use Rattle.laws.specs.Rising.{both}
use Rattle.laws.specs.WriteNode.{write_node, write-length, write-other}
use Rattle.laws.specs.Filter.{keep, since, lower_rows}
use Rattle.laws.specs.Pieces.{still, levelled, Good, Branches, branch-first, branch-later, inner-branches, raise, node, over, joined}
use Rattle.slice.specs.Slicing.Slice.{rest_in, packed, after, right_of, edge_in}
use Rattle.slice.specs.Slicing.SliceNumbers.{one, met, met_in, met-joined, met-over, spent, taken, right-numbers-in}
use Rattle.slice.specs.Slicing.SliceFits.{branches_size, short_in, fits, fits_in, cut_fits, narrow_high}
use Rattle.laws.specs.Page.{number_of}
use Rattle.slice.specs.Slicing.ReadBack.{ReadsIn}
use Rattle.slice.specs.Slicing.SliceWrite.{page_of, page_of-full, stays-in, branches-read, node_done, leaf-done, no_inner, one-other, one_same, Only, only_none, only-more}

reads-raise : (under : ℕ → Tree) (l : List ℕ) (f : Forest) → ReadsIn under f → ReadsIn under (raise l f)
unfolding ReadsIn raise
reads-raise under l end e = tt
reads-raise under l (tree s t f) e = (e.0, reads-raise under l f e.1)

pub reads-joined : (under : ℕ → Tree) (f g : Forest) → ReadsIn under f → ReadsIn under g → ReadsIn under (joined f g)
unfolding ReadsIn joined
reads-joined under end g a b = b
reads-joined under (tree s t f) g a b = (a.0, reads-joined under f g a.1 b)

reads-rest : (under : ℕ → Tree) (f : Forest) (lifted hi k : List ℕ) → ReadsIn under f → ReadsIn under (rest_in f lifted hi k)
unfolding ReadsIn rest_in
reads-rest under end lifted hi k e = tt
reads-rest under (tree s t f) lifted hi k e =
    cases (before k (high_of lifted hi f))
    (λ a. cases (before (lifted ++ s) k) (λ b. rw (a, b) (reads-raise under lifted f e.1))
    (λ b. rw (a, b) (e.0, reads-raise under lifted f e.1)))
    (λ a. rw a (reads-rest under f lifted hi k e.1))

pub fits-parts : (f g : Forest) → fits_in (joined f g) ≡ true → (fits_in f ≡ true) × (fits_in g ≡ true)
unfolding fits_in joined
fits-parts end g e = (refl, e)
fits-parts (tree s t f) g e =
    let z : (fits_in f ≡ true) × (fits_in g ≡ true) = fits-parts f g (and_right (fits t) _ e) in
    (both (and_left (fits t) _ e) z.0, z.1)

-- a node over pieces, if there are any
unfoldable pub over_write : ℕ → ℕ → List ℕ → List ℕ → Forest → List ℕ → List ℕ
over_write n h lo hi end s = s
over_write n h lo hi (tree q t f) s = write_node s n (page_of h (node n lo hi (tree q t f)))

record One (n : ℕ) (s s' : List ℕ) : Type 0 where
  size : length s' ≡ length s
  others : (j : ℕ) → one j n ≡ 0 → node_bytes s' j ≡ node_bytes s j

over-one : (n h : ℕ) (lo hi : List ℕ) (g : Forest) (s : List ℕ) → 1024 * n + 1024 ≤ length s → fits_in (over n lo hi g) ≡ true → One n s (over_write n h lo hi g s)
unfolding over_write over fits_in
over-one n h lo hi end s room e = record { size = refl; others = λ j z. refl }
over-one n h lo hi (tree q t f) s room e =
    let pg : List ℕ = page_of h (node n lo hi (tree q t f)) in
    let full : length pg ≡ 1024 = page_of-full h (node n lo hi (tree q t f)) (and_left _ _ e) in
    record { size = write-length s n pg room full; others = λ j z. write-other s n pg room full j (one-other j n z) }

over_done : (l n : ℕ) (lo hi : List ℕ) (g : Forest) (s : List ℕ) → 1024 * n + 1024 ≤ length s → fits_in (over n lo hi g) ≡ true → met_in n g ≡ 0
    → ReadsIn (λ j. tree_at (suc l) s j) g → ReadsIn (λ j. tree_at (suc (suc l)) (over_write n (suc (suc l)) lo hi g s) j) (over n lo hi g)
unfolding over_write over fits_in ReadsIn
over_done l n lo hi end s room e new r = tt
over_done l n lo hi (tree q t f) s room e new r = (
  ap (tree_at (suc (suc l)) (write_node s n (page_of (suc (suc l)) (node n lo hi (tree q t f))))) (number-node n lo hi (tree q t f))
      ∙ node_done l s n lo hi (tree q t f) room (and_left _ _ e) new r,
  tt,
)
  where
    number-node : (n : ℕ) (lo hi : List ℕ) (f : Forest) → number_of (node n lo hi f) ≡ n
    number-node n lo hi f = unfold node number_of in refl

unfoldable pub packed_write : Bool → ℕ → ℕ → ℕ → List ℕ → List ℕ → Forest → Forest → List ℕ → List ℕ
packed_write true h n m k hi e r s = over_write m h (high_of [] hi r) hi r (over_write n h k (high_of [] hi r) e s)
packed_write false h n m k hi e r s = over_write n h k hi (joined e r) s

module _ (fresh : ℕ → ℕ) where
  pub record RightDone (s s' : List ℕ) (h c at : ℕ) (f : Forest) : Type 0 where
    pub only : Only fresh s s' c at
    pub reads : ReadsIn (λ j. tree_at h s' j) f

  packed-done : (w : Bool) (l c at : ℕ) (k hi : List ℕ) (e r : Forest) (s s' : List ℕ) → ((i : ℕ) → 1024 * fresh i + 1024 ≤ length s)
      → fits_in (packed w (fresh at) (fresh (suc at)) k hi e r) ≡ true
      → ((j : ℕ) → met_in j e + met_in j r + spent fresh j (after w c) at ≤ 1 + spent fresh j c (after w at))
      → Only fresh s s' c (after w at) → ReadsIn (λ j. tree_at (suc l) s' j) e → ReadsIn (λ j. tree_at (suc l) s' j) r
      → RightDone s (packed_write w (suc (suc l)) (fresh at) (fresh (suc at)) k hi e r s') (suc (suc l)) (after w c) at (packed w (fresh at) (fresh (suc at)) k hi e r)
  unfolding packed packed_write after spent
  packed-done true l c at k hi e r s s' room fit dist o re rr =
      let n : ℕ = fresh at in
      let m : ℕ = fresh (suc at) in
      let x : List ℕ = high_of [] hi r in
      let fe : fits_in (over n k x e) ≡ true = (fits-parts (over n k x e) (over m x hi r) fit).0 in
      let fr : fits_in (over m x hi r) ≡ true = (fits-parts (over n k x e) (over m x hi r) fit).1 in
      let room-n : 1024 * n + 1024 ≤ length s' = omega (arith, room at, o.size) in
      let s1 : List ℕ = over_write n (suc (suc l)) k x e s' in
      let o1 : One n s' s1 = over-one n (suc (suc l)) k x e s' room-n fe in
      let room-m : 1024 * m + 1024 ≤ length s1 = omega (arith, room (suc at), o.size, o1.size) in
      let o2 : One m s1 (over_write m (suc (suc l)) x hi r s1) = over-one m (suc (suc l)) x hi r s1 room-m fr in
      let de : met_in n e ≡ 0 = omega (arith, dist n, one_same n) in
      let dr : met_in m r ≡ 0 = omega (arith, dist m, one_same m) in
      record {
        only =
            record {
              size = o2.size ∙ o1.size ∙ o.size;
              others = λ j z. o2.others j (omega arith) ∙ o1.others j (omega arith) ∙ o.others j (omega arith);
            };
        reads =
            reads-joined (λ j. tree_at (suc (suc l)) (over_write m (suc (suc l)) x hi r s1) j) (over n k x e) (over m x hi r)
            (stays-in (suc (suc l)) s1 (over_write m (suc (suc l)) x hi r s1) (over n k x e) (over_done l n k x e s' room-n fe de re)
            (λ j z. o2.others j (omega (arith, met-over j n k x e, dist j))))
            (over_done l m x hi r s1 room-m fr dr (stays-in (suc l) s' s1 r rr (λ j z. o1.others j (omega (arith, dist j)))));
      }
  packed-done false l c at k hi e r s s' room fit dist o re rr =
      let n : ℕ = fresh at in
      let room-n : 1024 * n + 1024 ≤ length s' = omega (arith, room at, o.size) in
      let o1 : One n s' (over_write n (suc (suc l)) k hi (joined e r) s') = over-one n (suc (suc l)) k hi (joined e r) s' room-n fit in
      let d : met_in n (joined e r) ≡ 0 = omega (arith, met-joined n e r, dist n, one_same n) in
      record {
        only = record { size = o1.size ∙ o.size; others = λ j z. o1.others j (omega arith) ∙ o.others j (omega arith) };
        reads = over_done l n k hi (joined e r) s' room-n fit d (reads-joined (λ j. tree_at (suc l) s' j) e r re rr);
      }

  unfoldable mutual
    pub right_write : Bool → Tree → ℕ → List ℕ → List ℕ → List ℕ → ℕ → List ℕ → List ℕ
    right_write w (unread i) h lo hi k at s = s
    right_write w (leaf i rs) h lo hi k at s =
        write_node s (fresh at) (page_of h (leaf (fresh at) (lower_rows (shared k hi) (keep (since k) (under_prefix (shared lo hi) rs)))))
    right_write w (interior i f ms) zero lo hi k at s = s
    right_write w (interior i f ms) (suc h) lo hi k at s =
        packed_write w (suc h) (fresh at) (fresh (suc at)) k hi (edge_in fresh w f (shared lo hi) hi k (after w at)) (rest_in f (shared lo hi) hi k)
        (edge_write w f h (shared lo hi) hi k (after w at) s)

    pub edge_write : Bool → Forest → ℕ → List ℕ → List ℕ → List ℕ → ℕ → List ℕ → List ℕ
    edge_write w end h lifted hi k at s = s
    edge_write w (tree q t f) h lifted hi k at s =
        cond (before k (high_of lifted hi f))
        (cond (before (lifted ++ q) k) (right_write w t h (lifted ++ q) (high_of lifted hi f) k at s) s)
        (edge_write w f h lifted hi k at s)

  only-longer : (s s' : List ℕ) (c c' at : ℕ) → ((j : ℕ) → spent fresh j c at ≤ spent fresh j c' at) → Only fresh s s' c at → Only fresh s s' c' at
  only-longer s s' c c' at g o = record { size = o.size; others = λ j z. o.others j (omega (arith, g j)) }

  right-leaf : (w : Bool) (i : ℕ) (rs : List Row) (lo hi k : List ℕ) (at : ℕ) (s : List ℕ) → 1024 * fresh at + 1024 ≤ length s
      → fits_in (right_of fresh w (leaf i rs) lo hi k at) ≡ true
      → RightDone s (right_write w (leaf i rs) 1 lo hi k at s) 1 (taken w 1) at (right_of fresh w (leaf i rs) lo hi k at)
  unfolding right_write right_of fits_in ReadsIn number_of
  right-leaf w i rs lo hi k at s room fit =
      let u : Tree = leaf (fresh at) (lower_rows (shared k hi) (keep (since k) (under_prefix (shared lo hi) rs))) in
      record {
        only =
            only-longer s (write_node s (fresh at) (page_of 1 u)) 1 (taken w 1) at (more-taken w)
            (only-more fresh s s 0 at (page_of 1 u) room (page_of-full 1 u (and_left _ _ fit)) (only_none fresh s 0 (suc at)));
        reads = (leaf-done s (fresh at) (lower_rows (shared k hi) (keep (since k) (under_prefix (shared lo hi) rs))) room (and_left _ _ fit), tt);
      }
    where
      more-taken : (v : Bool) (j : ℕ) → spent fresh j 1 at ≤ spent fresh j (taken v 1) at
      more-taken true j = unfold spent taken after in (omega arith)
      more-taken false j = unfold spent taken after in (omega arith)

  deeper : (w : Bool) (i : ℕ) (f : Forest) (ms : List Message) (h at j : ℕ) → met j (interior i f ms) + spent fresh j (taken w (suc h)) at ≤ 1
      → (met_in j f + spent fresh j (after w (taken w h)) at ≤ 1) × (met_in j f + spent fresh j (taken w h) (after w at) ≤ 1)
  unfolding met taken
  deeper w i f ms h at j d = go w (taken w h) d
    where
      go : (v : Bool) (c : ℕ) → one j i + met_in j f + spent fresh j (after v c) at ≤ 1
          → (met_in j f + spent fresh j (after v c) at ≤ 1) × (met_in j f + spent fresh j c (after v at) ≤ 1)
      go true c q = unfold after spent in (omega arith, omega arith)
      go false c q = unfold after spent in (omega arith, omega arith)

  right-inner : (w : Bool) (i : ℕ) (f : Forest) (l : ℕ) (lo hi k : List ℕ) (at : ℕ) (s : List ℕ) → ((x : ℕ) → 1024 * fresh x + 1024 ≤ length s)
      → fits_in (right_of fresh w (interior i f []) lo hi k at) ≡ true → Branches (suc l) f (shared lo hi) lo hi → ReadsIn (λ j. tree_at (suc l) s j) f
      → ((j : ℕ) → met j (interior i f []) + spent fresh j (taken w (suc (suc l))) at ≤ 1)
      → RightDone s (edge_write w f (suc l) (shared lo hi) hi k (after w at) s) (suc l) (taken w (suc l)) (after w at) (edge_in fresh w f (shared lo hi) hi k (after w at))
      → RightDone s (right_write w (interior i f []) (suc (suc l)) lo hi k at s) (suc (suc l)) (taken w (suc (suc l))) at (right_of fresh w (interior i f []) lo hi k at)
  unfolding right_write right_of taken
  right-inner w i f l lo hi k at s room fit branches r dist d =
      let e : Forest = edge_in fresh w f (shared lo hi) hi k (after w at) in
      let g : Forest = rest_in f (shared lo hi) hi k in
      let s1 : List ℕ = edge_write w f (suc l) (shared lo hi) hi k (after w at) s in
      packed-done w l (taken w (suc l)) at k hi e g s s1 room fit
      (λ j. omega (arith, right-numbers-in j fresh w f (suc l) (shared lo hi) hi k (after w at) branches.levels, (deeper w i f [] (suc l) at j (dist j)).0))
      d.only d.reads
      (reads-rest (λ j. tree_at (suc l) s1 j) f (shared lo hi) hi k
      (stays-in (suc l) s s1 f r (λ j z. d.only.others j (omega (arith, (deeper w i f [] (suc l) at j (dist j)).1)))))

  module _ (w : Bool) where
    mutual
      unfolding sound_tree still levelled fits_in edge_write edge_in ReadsIn met_in

      pub right-written : (t : Tree) (h : ℕ) (lo hi k : List ℕ) (at : ℕ) (s : List ℕ) → ((x : ℕ) → 1024 * fresh x + 1024 ≤ length s) → Good h t lo hi → fits t ≡ true
          → before lo k ≡ true → before k hi ≡ true → length k ≤ pivot_limit → w || begins k hi ≡ true → tree_at h s (number_of t) ≡ t
          → ((j : ℕ) → met j t + spent fresh j (taken w h) at ≤ 1)
          → RightDone s (right_write w t h lo hi k at s) h (taken w h) at (right_of fresh w t lo hi k at)
      right-written (unread i) h lo hi k at s room g e a b short v r d = absurd (false≢true g.sound)
      right-written (leaf i rs) h lo hi k at s room g e a b short v r d =
          subst (λ x. RightDone s (right_write w (leaf i rs) x lo hi k at s) x (taken w x) at (right_of fresh w (leaf i rs) lo hi k at)) (sym (eqb-true h 1 g.level))
          (right-leaf w i rs lo hi k at s (room at) (cut_fits fresh w (leaf i rs) h lo hi k 0 at g a b short v e).1)
      right-written (interior i f (m ∷ ms)) h lo hi k at s room g e a b short v r d = absurd (false≢true g.holds_no_message)
      right-written (interior i f []) zero lo hi k at s room g e a b short v r d = absurd (false≢true g.level)
      right-written (interior i f []) (suc zero) lo hi k at s room g e a b short v r d = absurd (no_inner s (number_of (interior i f [])) i f [] r)
      right-written (interior i f []) (suc (suc l)) lo hi k at s room g e a b short v r d =
          right-inner w i f l lo hi k at s room (cut_fits fresh w (interior i f []) (suc (suc l)) lo hi k 0 at g a b short v e).1 (inner-branches i f lo hi g)
          (branches-read l s (number_of (interior i f [])) i f [] r) d
          (right-written-in f (suc l) (shared lo hi) lo hi k (after w at) s room (inner-branches i f lo hi g) (and_right (leb (branches_size f) entries_limit && short_in f) _ e) short v
          (branches-read l s (number_of (interior i f [])) i f [] r) (λ j. (deeper w i f [] (suc l) at j (d j)).1))

      pub right-written-in : (f : Forest) (h : ℕ) (lifted lo hi k : List ℕ) (at : ℕ) (s : List ℕ) → ((x : ℕ) → 1024 * fresh x + 1024 ≤ length s) → Branches h f lifted lo hi
          → fits_in f ≡ true → length k ≤ pivot_limit → w || begins k hi ≡ true → ReadsIn (λ j. tree_at h s j) f
          → ((j : ℕ) → met_in j f + spent fresh j (taken w h) at ≤ 1)
          → RightDone s (edge_write w f h lifted hi k at s) h (taken w h) at (edge_in fresh w f lifted hi k at)
      right-written-in end h lifted lo hi k at s room g e short v r d = record { only = only_none fresh s (taken w h) at; reads = tt }
      right-written-in (tree q t f) h lifted lo hi k at s room g e short v r d =
          cases (before k (high_of lifted hi f))
          (λ a. cases (before (lifted ++ q) k)
          (λ b. rw (a, b)
          (right-written t h (lifted ++ q) (high_of lifted hi f) k at s room (branch-first q t f lifted lo hi g) (and_left (fits t) _ e) b a short
          (narrow_high fresh w f lifted lo hi k (branch-later q t f lifted lo hi g) v a) r.0 (λ j. omega (arith, d j))))
          (λ b. rw (a, b) (record { only = only_none fresh s (taken w h) at; reads = tt })))
          (λ a. rw a
          (right-written-in f h lifted lo hi k at s room (branch-later q t f lifted lo hi g) (and_right (fits t) _ e) short v r.1 (λ j. omega (arith, d j))))
