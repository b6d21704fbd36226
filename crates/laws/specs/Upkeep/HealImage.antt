-- One step of heal on an image: the left one of a pair is written with the entries of both, the node above it without the right one's entry.
use Rattle.std.specs.Prelude.{ℕ, zero, suc, ◌≤◌, ◌≡◌, refl, List, [], ◌∷◌, ◌++◌, Bool, true, false, length, leb, eqb}
use Rattle.image.specs.Prelude.{sym, ap, subst, ◌∙◌, false≢true, arith, eqb-true, eq-eqb, ne_eqb, cases}
use Rattle.image.specs.Bytes.{shared}
use Rattle.image.specs.Entry.{Entry}
use Rattle.image.specs.Table.{Row}
use Rattle.image.specs.Image.{Tree, unread, leaf, interior, Forest, end, tree, node_bytes, tree_at}
use Rattle.image.specs.Meaning.{high_of}
use Rattle.image.specs.Sound.{numbers, numbers_in, is_in, once}
use Rattle.laws.specs.Encode.{allowed, all_allowed}
use Rattle.octets.specs.Order.{and_left, and_right, not_so, not-true}
use Rattle.laws.specs.Rising.{both}
use Rattle.laws.specs.Frame.{Keeps, tree-stays, or_right, in_left, in_right, keeps-left, keeps-right}
use Rattle.laws.specs.Page.{number_of, pair_entries, child_entries}
use Rattle.laws.specs.Upkeep.Merge.{repointed, followed, merged, tall, Pair}
use Rattle.laws.specs.Upkeep.Size.{message_entries, entries_for, own_bytes}
use Rattle.laws.specs.Upkeep.Join.{joins, join_at}
use Rattle.laws.specs.Upkeep.Page.{page_of, Reads, none_left, one_more, leaf-reads, inner-reads}
use Rattle.laws.specs.Upkeep.Bridge.{once-apart}
use Rattle.laws.specs.Upkeep.Reading.{node_of}
use Rattle.laws.specs.Upkeep.Flushed.{tall-two}

-- the page of a node of this level
unfoldable pub page_for : ℕ → Tree → List ℕ
page_for level (unread i) = []
page_for level (leaf i rs) = page_of 0x0001 level (pair_entries rs)
page_for level (interior i f ms) = page_of 0x0002 level (child_entries f ++ message_entries ms)

-- whether children k and k + 1 join; the left one's number; the two as one
unfoldable pub pair_at : ℕ → Forest → List ℕ → List ℕ → Bool
pair_at k end lifted hi = false
pair_at k (tree s t end) lifted hi = false
pair_at zero (tree s t (tree q u f)) lifted hi = joins t u (lifted ++ s) (lifted ++ q) (high_of lifted hi f)
pair_at (suc k) (tree s t (tree q u f)) lifted hi = pair_at k (tree q u f) lifted hi

unfoldable pub left_at : ℕ → Forest → ℕ
left_at k end = 0
left_at zero (tree s t f) = number_of t
left_at (suc k) (tree s t f) = left_at k f

unfoldable pub merged_at : ℕ → Forest → List ℕ → List ℕ → Tree
merged_at k end lifted hi = unread 0
merged_at k (tree s t end) lifted hi = t
merged_at zero (tree s t (tree q u f)) lifted hi = merged t u (lifted ++ s) (lifted ++ q) (high_of lifted hi f)
merged_at (suc k) (tree s t (tree q u f)) lifted hi = merged_at k (tree q u f) lifted hi

pub root_in : (t : Tree) → is_in (number_of t) (numbers t) ≡ true
unfolding is_in numbers number_of
root_in (unread i) = rw (eq-eqb i i refl)
root_in (leaf i rs) = rw (eq-eqb i i refl)
root_in (interior i f ms) = rw (eq-eqb i i refl)

pub left-in : (k : ℕ) (f : Forest) (lifted hi : List ℕ) → pair_at k f lifted hi ≡ true → is_in (left_at k f) (numbers_in f) ≡ true
unfolding pair_at left_at numbers_in
left-in k end lifted hi e = absurd (false≢true e)
left-in k (tree s t end) lifted hi e = absurd (false≢true e)
left-in zero (tree s t (tree q u f)) lifted hi e = in_left (number_of t) (numbers t) (numbers_in (tree q u f)) (root_in t)
left-in (suc k) (tree s t (tree q u f)) lifted hi e =
    in_right (left_at k (tree q u f)) (numbers t) (numbers_in (tree q u f)) (left-in k (tree q u f) lifted hi e)

-- children that stay read as before
pub stays-one : (l : ℕ) (s s' : List ℕ) (t : Tree) → tree_at l s (number_of t) ≡ t → Keeps s s' (numbers t) → tree_at l s' (number_of t) ≡ t
stays-one l s s' t e k = tree-stays l s s' (number_of t) (subst (λ u. Keeps s s' (numbers u)) (sym e) k) ∙ e

pub reads-stay : (l : ℕ) (s s' : List ℕ) {f : Forest} → Reads (λ j. tree_at l s j) f → Keeps s s' (numbers_in f) → Reads (λ j. tree_at l s' j) f
unfolding numbers_in
reads-stay l s s' none_left k = none_left
reads-stay l s s' (one_more {t = t} {f = f} e r) k =
    one_more (stays-one l s s' t e (keeps-left s s' (numbers t) (numbers_in f) k)) (reads-stay l s s' r (keeps-right s s' (numbers t) (numbers_in f) k))

reads-repointed : (under : ℕ → Tree) (J L : List ℕ) {f : Forest} → Reads under f → Reads under (repointed J L f)
unfolding repointed
reads-repointed under J L none_left = none_left
reads-repointed under J L (one_more e r) = one_more e (reads-repointed under J L r)

reads_followed : (under : ℕ → Tree) {f g : Forest} → Reads under f → Reads under g → Reads under (followed f g)
unfolding followed
reads_followed under none_left q = q
reads_followed under (one_more e r) q = one_more e (reads_followed under r q)

-- the bytes of all nodes of a list but one stay
abbrev pub But : List ℕ → List ℕ → ℕ → List ℕ → Type 0
But s s' a is = (j : ℕ) → is_in j is ≡ true → eqb j a ≡ false → node_bytes s' j ≡ node_bytes s j

not_same : (is js : List ℕ) (a j : ℕ) → once (is ++ js) ≡ true → is_in a is ≡ true → is_in j js ≡ true → eqb j a ≡ false
not_same is js a j o p q = ne_eqb j a (λ z. not_so (ap (λ i. is_in i js) (sym z) ∙ q) (once-apart is js a o p))

not-same-back : (is js : List ℕ) (a j : ℕ) → once (is ++ js) ≡ true → is_in a js ≡ true → is_in j is ≡ true → eqb j a ≡ false
not-same-back is js a j o p q = ne_eqb j a (λ z. not_so p (once-apart is js a o (ap (λ i. is_in i is) (sym z) ∙ q)))

inner-keeps : (s s' : List ℕ) (i : ℕ) (is js : List ℕ) → once ((i ∷ is) ++ js) ≡ true → But s s' i ((i ∷ is) ++ js) → Keeps s s' is
unfolding Keeps once is_in
inner-keeps s s' i is js o but = λ j c.
    but j (or_right (eqb j i) (is_in j (is ++ js)) (in_left j is js c))
    (ne_eqb j i (λ z. not_so (ap (λ k. is_in k (is ++ js)) (sym z) ∙ in_left j is js c) (not-true (is_in i (is ++ js)) (and_left _ _ o))))

outer-keeps : (s s' : List ℕ) (i n : ℕ) (is js : List ℕ) → once ((i ∷ is) ++ (n ∷ js)) ≡ true → But s s' i ((i ∷ is) ++ (n ∷ js)) → Keeps s s' js
unfolding Keeps once is_in
outer-keeps s s' i n is js o but = λ j c.
    let there : is_in j (is ++ (n ∷ js)) ≡ true = in_right j is (n ∷ js) (or_right (eqb j n) (is_in j js) c) in
    but j (or_right (eqb j i) (is_in j (is ++ (n ∷ js))) there)
    (ne_eqb j i (λ z. not_so (ap (λ k. is_in k (is ++ (n ∷ js))) (sym z) ∙ there) (not-true (is_in i (is ++ (n ∷ js))) (and_left _ _ o))))

pub later-keeps : (s s' : List ℕ) (a : ℕ) (is js ks : List ℕ) → is_in a is ≡ true → once (is ++ (js ++ ks)) ≡ true → But s s' a (is ++ (js ++ ks)) → Keeps s s' ks
unfolding Keeps
later-keeps s s' a is js ks p o but = λ j c.
    but j (in_right j is (js ++ ks) (in_right j js ks c)) (not_same is (js ++ ks) a j o p (in_right j js ks c))

pub first-keeps : (s s' : List ℕ) (a : ℕ) (is js : List ℕ) → is_in a js ≡ true → once (is ++ js) ≡ true → But s s' a (is ++ js) → Keeps s s' is
unfolding Keeps
first-keeps s s' a is js p o but = λ j c. but j (in_left j is js c) (not-same-back is js a j o p c)

-- THE TWO AS ONE read back
pub leaf-level : (i : ℕ) (rs : List Row) (level : ℕ) → tall (leaf i rs) level ≡ true → level ≡ 1
unfolding tall
leaf-level i rs level e = eqb-true level 1 e

pub merged-reads : (l : ℕ) (s s' : List ℕ) {t u : Tree} → Pair t u → (lo mid hi : List ℕ) → tree_at (suc l) s (number_of t) ≡ t → tree_at (suc l) s (number_of u) ≡ u
    → tall t (suc l) ≡ true → own_bytes (merged t u lo mid hi) ≤ 1016 → all_allowed (entries_for (merged t u lo mid hi)) ≡ true
    → once (numbers t ++ numbers u) ≡ true → But s s' (number_of t) (numbers t ++ numbers u)
    → node_bytes s' (number_of t) ≡ page_for (suc l) (merged t u lo mid hi) → tree_at (suc l) s' (number_of t) ≡ merged t u lo mid hi
unfolding merged number_of page_for own_bytes entries_for numbers once
merged-reads zero s s' (Pair.leaves i j rs qs) lo mid hi e g h fits ok o but page = leaf-reads s' i _ page fits
merged-reads (suc l) s s' (Pair.leaves i j rs qs) lo mid hi e g h fits ok o but page = absurd (omega (arith, leaf-level i rs (suc (suc l)) h))
merged-reads zero s s' (Pair.inners i j f k) lo mid hi e g h fits ok o but page = absurd (omega (arith, tall-two i f [] 1 h))
merged-reads (suc l) s s' (Pair.inners i j f k) lo mid hi e g h fits ok o but page =
    inner-reads l s' i (followed (repointed (shared lo hi) (shared lo mid) f) (repointed (shared lo hi) (shared mid hi) k)) [] page fits ok
    (reads_followed (λ n. tree_at (suc l) s' n)
    (reads-repointed (λ n. tree_at (suc l) s' n) (shared lo hi) (shared lo mid)
    (reads-stay (suc l) s s' (node_of l s i f [] e).branches (inner-keeps s s' i (numbers_in f) (numbers (interior j k [])) o but)))
    (reads-repointed (λ n. tree_at (suc l) s' n) (shared lo hi) (shared mid hi)
    (reads-stay (suc l) s s' (node_of l s j k [] g).branches (outer-keeps s s' i j (numbers_in f) (numbers_in k) o but))))

-- THE NODE above keeps short pivots
pub join-short : (k : ℕ) (f : Forest) (lifted hi : List ℕ) (es : List Entry) → all_allowed (child_entries f ++ es) ≡ true → all_allowed (child_entries (join_at k f lifted hi) ++ es) ≡ true
unfolding join_at child_entries all_allowed allowed
join-short k end lifted hi es e = e
join-short k (tree s t end) lifted hi es e = e
join-short zero (tree s t (tree q u f)) lifted hi es e =
    cases (joins t u (lifted ++ s) (lifted ++ q) (high_of lifted hi f))
    (λ a. rw a (both (and_left (leb (length s) 65) _ e) (and_right (leb (length q) 65) _ (and_right (leb (length s) 65) _ e))))
    (λ a. rw a e)
join-short (suc k) (tree s t (tree q u f)) lifted hi es e =
    both (and_left (leb (length s) 65) _ e) (join-short k (tree q u f) lifted hi es (and_right (leb (length s) 65) _ e))
