-- The same image written level by level, in the order of the numbers: the way of the code.
use Rattle.std.specs.Prelude.{ℕ, zero, suc, ◌+◌, ◌*◌, ◌/◌, ◌≤◌, ◌≡◌, refl, List, [], ◌∷◌, ◌++◌, length, take, drop}
use Rattle.image.specs.Prelude.{sym, ap, ap₂, ◌∙◌, append-nil, arith, length-append, length-drop, take-add}
use Rattle.image.specs.Bytes.{shared}
use Rattle.image.specs.Table.{Row}
use Rattle.image.specs.Image.{Tree, unread, leaf, interior, node_bytes}
use Rattle.image.specs.Sound.{numbers, highest}
use Rattle.laws.specs.Encode.{bytes_of_all}
use Rattle.packed.specs.Form.Chunk.{All, all_append, all_left, all_right, Group, members, flat, groups, groups-flat}
use Rattle.packed.specs.Form.Packed.{Item, Built, low_of, child_weight, first, branches, node_from, node_level, leaves, raised, top_of, climb, packed}
use Rattle.packed.specs.Form.Leaves.{Tabled}
use Rattle.packed.specs.Form.Neat.{Neat, Trim}
use Rattle.packed.specs.Form.Numbered.{times, times-append, level_numbers, raised-length, raised-times, leaves-numbers}
use Rattle.packed.specs.Form.Tower.{Level, level-above, few-raised, some-raised, few-leaves, leaf-level, room, room-7}
use Rattle.laws.specs.Page.{page, page-length, pair_entries, child_entries, number_of}
use Rattle.packed.specs.Form.Pages.{pairs-length, branches-length, Written, WrittenIn}
use Rattle.packed.specs.Form.Tidy.{Page, page_numbers, page-numbers-append, In}

-- the page of a tree's top node
unfoldable pub own_page : ℕ → Tree → List ℕ
own_page l (unread i) = []
own_page l (leaf i rs) = page 0x0001 l (bytes_of_all (pair_entries rs))
own_page l (interior i f ms) = page 0x0002 l (bytes_of_all (child_entries f))

-- the pages of one level, from left to right
unfoldable pub own_pages : ℕ → List Item → List Page
own_pages l [] = []
own_pages l (x ∷ xs) = record { number = number_of x.node; bytes = own_page l x.node } ∷ own_pages l xs

-- the pages of the levels above this one
unfoldable pub climb_pages : ℕ → ℕ → List ℕ → List Item → List Page
climb_pages zero l nums xs = []
climb_pages (suc f) l nums [] = []
climb_pages (suc f) l nums (x ∷ []) = []
climb_pages (suc f) l nums (x ∷ y ∷ zs) =
    own_pages (suc l) (raised nums (x ∷ y ∷ zs))
    ++ climb_pages f (suc l) (drop (length (raised nums (x ∷ y ∷ zs))) nums) (raised nums (x ∷ y ∷ zs))

unfoldable pub order_pages : List ℕ → List Row → List Page
order_pages nums t = own_pages 1 (leaves nums t) ++ climb_pages 7 1 (drop (length (leaves nums t)) nums) (leaves nums t)

-- induction over a climb
pub climb-rec : (Holds : ℕ → List ℕ → List Item → Built → List Page → Type 0)
    → ((l : ℕ) (nums : List ℕ) (x : Item) → Level l (x ∷ []) → Holds l nums (x ∷ []) (record { root = x.node; levels = l }) [])
    → ((l : ℕ) (nums : List ℕ) (xs : List Item) (b : Built) (ps : List Page) → Level l xs → length (raised nums xs) ≤ length nums
    → Holds (suc l) (drop (length (raised nums xs)) nums) (raised nums xs) b ps → Holds l nums xs b (own_pages (suc l) (raised nums xs) ++ ps))
    → (f l : ℕ) (nums : List ℕ) (xs : List Item) → Level l xs → length xs ≤ room f → length xs ≤ 2 * length nums + 1
    → Holds l nums xs (climb f l nums xs) (climb_pages f l nums xs)
unfolding climb climb_pages room top_of
climb-rec Holds one step zero l nums [] h r k = absurd (let q = h.some_node in omega arith)
climb-rec Holds one step zero l nums (x ∷ []) h r k = one l nums x h
climb-rec Holds one step zero l nums (x ∷ y ∷ zs) h r k = absurd (omega arith)
climb-rec Holds one step (suc f) l nums [] h r k = absurd (let q = h.some_node in omega arith)
climb-rec Holds one step (suc f) l nums (x ∷ []) h r k = one l nums x h
climb-rec Holds one step (suc f) l nums (x ∷ y ∷ zs) h r k =
    let ys : List Item = raised nums (x ∷ y ∷ zs) in
    let m : ℕ = length ys in
    let few = few-raised nums l (x ∷ y ∷ zs) h in
    let some_node = some-raised nums (x ∷ y ∷ zs) h.some_node in
    step l nums (x ∷ y ∷ zs) (climb f (suc l) (drop m nums) ys) (climb_pages f (suc l) (drop m nums) ys) h (omega arith)
    (climb-rec Holds one step f (suc l) (drop m nums) ys (level-above nums l (x ∷ y ∷ zs) h) (omega arith) (rw (length-drop m nums) (omega arith)))

-- a level's own numbers are the next ones
node_level-own : (l : ℕ) (nums : List ℕ) (gs : List (Group Item)) → length gs ≤ length nums → page_numbers (own_pages l (node_level nums gs)) ≡ take (length gs) nums
unfolding own_pages node_level node_from page_numbers number_of
node_level-own l nums [] h = refl
node_level-own l [] (g ∷ gs) h = absurd (omega arith)
node_level-own l (i ∷ nums) (g ∷ gs) h = ap (λ is. i ∷ is) (node_level-own l nums gs (omega arith))

raised-own : (l : ℕ) (nums : List ℕ) (xs : List Item) → length (raised nums xs) ≤ length nums
    → page_numbers (own_pages l (raised nums xs)) ≡ take (length (raised nums xs)) nums
raised-own l nums xs h = go (rw (raised-length nums xs) at h) ∙ ap (λ k. take k nums) (sym (raised-length nums xs))
  where
    go : length (groups child_weight xs) ≤ length nums → page_numbers (own_pages l (raised nums xs)) ≡ take (length (groups child_weight xs)) nums
    go k = unfold raised in node_level-own l nums (groups child_weight xs) k

-- the leaves' own numbers are all their numbers
leaf-own : (l : ℕ) (xs : List Item) → All (Trim 1) xs → page_numbers (own_pages l xs) ≡ level_numbers xs
unfolding own_pages page_numbers level_numbers
leaf-own l [] h = refl
leaf-own l (x ∷ xs) h = ap₂ (λ a b. a ++ b) (single x.node h.0.0) (leaf-own l xs h.1)
  where
    single : (t : Tree) → Neat t 1 → number_of t ∷ [] ≡ numbers t
    single (unread i) n = unfold number_of numbers in refl
    single (leaf i rs) n = unfold number_of numbers in refl
    single (interior i f ms) n = unfold Neat in absurd (let q = n.0 in omega arith)

own-length : (l : ℕ) (xs : List Item) → length (own_pages l xs) ≡ length xs
unfolding own_pages
own-length l [] = refl
own-length l (x ∷ xs) = ap suc (own-length l xs)

-- pages that number in order, are full, and make up the tree
pub record Swept (l : ℕ) (nums : List ℕ) (xs : List Item) (b : Built) (ps : List Page) : Type 0 where
  pub in_order : page_numbers ps ≡ take (length ps) nums
  pub all_full : All (λ p. length p.bytes ≡ 1024) ps
  pub counted : (j : ℕ) → times j (numbers b.root) ≡ times j (level_numbers xs) + times j (page_numbers ps)
  pub makes : (image : List ℕ) → All (λ x. Written x.node l image) xs → All (In image) ps → Written b.root b.levels image

own-full : (l : ℕ) (xs : List Item) → All (Trim l) xs → All (λ p. length p.bytes ≡ 1024) (own_pages l xs)
unfolding own_pages
own-full l [] h = tt
own-full l (x ∷ xs) h = (full x.node l h.0.0, own-full l xs h.1)
  where
    full : (t : Tree) (k : ℕ) → Neat t k → length (own_page k t) ≡ 1024
    full (unread i) k n = unfold Neat in absurd n
    full (leaf i rs) k n = unfold own_page Neat in page-length 0x0001 k (bytes_of_all (pair_entries rs)) (rw (pairs-length rs) n.1)
    full (interior i f ms) zero n = unfold Neat in absurd n
    full (interior i f ms) (suc k) n = unfold own_page Neat in page-length 0x0002 (suc k) (bytes_of_all (child_entries f)) (rw (branches-length f) n.2)

branches-written : (k l : ℕ) (image : List ℕ) (xs : List Item) → All (λ x. Written x.node l image) xs → WrittenIn (branches k xs) l image
unfolding WrittenIn branches
branches-written k l image [] h = tt
branches-written k l image (x ∷ xs) h = (h.0, branches-written k l image xs h.1)

node_level-written : (l : ℕ) (image nums : List ℕ) (gs : List (Group Item)) → All (λ x. Written x.node l image) (flat gs)
    → All (In image) (own_pages (suc l) (node_level nums gs)) → All (λ x. Written x.node (suc l) image) (node_level nums gs)
unfolding own_pages own_page node_level node_from Written number_of flat
node_level-written l image nums [] h a = tt
node_level-written l image nums (g ∷ gs) h a = (
  (a.0, branches-written (length (shared g.head.low (first low_of highest (flat gs)))) l image (members g) (all_left (λ x. Written x.node l image) (members g) (flat gs) h)),
  node_level-written l image (drop 1 nums) gs (all_right (λ x. Written x.node l image) (members g) (flat gs) h) a.1,
)

pub raised-written : (l : ℕ) (image nums : List ℕ) (xs : List Item) → All (λ x. Written x.node l image) xs
    → All (In image) (own_pages (suc l) (raised nums xs)) → All (λ x. Written x.node (suc l) image) (raised nums xs)
unfolding raised
raised-written l image nums xs h a = node_level-written l image nums (groups child_weight xs) (rw (groups-flat child_weight xs) h) a

one-swept : (l : ℕ) (nums : List ℕ) (x : Item) → Level l (x ∷ []) → Swept l nums (x ∷ []) (record { root = x.node; levels = l }) []
unfolding page_numbers level_numbers times
one-swept l nums x h =
    record {
      in_order = refl;
      all_full = tt;
      counted = λ j. rw (append-nil (numbers x.node)) (omega arith);
      makes = λ image w a. w.0;
    }

step-swept : (l : ℕ) (nums : List ℕ) (xs : List Item) (b : Built) (ps : List Page) → Level l xs → length (raised nums xs) ≤ length nums
    → Swept (suc l) (drop (length (raised nums xs)) nums) (raised nums xs) b ps → Swept l nums xs b (own_pages (suc l) (raised nums xs) ++ ps)
step-swept l nums xs b ps h k s =
    let m : ℕ = length (raised nums xs) in
    let qs : List Page = own_pages (suc l) (raised nums xs) in
    let e : page_numbers (qs ++ ps) ≡ take m nums ++ take (length ps) (drop m nums) =
    page-numbers-append qs ps ∙ ap₂ (λ a c. a ++ c) (raised-own (suc l) nums xs k) s.in_order in
    record {
      in_order =
          e ∙ sym (take-add m (length ps) nums)
          ∙ ap (λ z. take z nums) (sym (length-append qs ps ∙ ap (λ z. z + length ps) (own-length (suc l) (raised nums xs))));
      all_full =
          all_append (λ p. length p.bytes ≡ 1024) qs ps (own-full (suc l) (raised nums xs) (level-above nums l xs h).trim) s.all_full;
      counted = λ j.
          let a = s.counted j in
          let c = raised-times j nums xs k in
          let d = ap (times j) (page-numbers-append qs ps) ∙ times-append j (page_numbers qs) (page_numbers ps) in
          let f = ap (times j) (raised-own (suc l) nums xs k) in
          omega arith;
      makes = λ image w a.
          s.makes image (raised-written l image nums xs w (all_left (In image) qs ps a)) (all_right (In image) qs ps a);
    }

pub climb-swept : (f l : ℕ) (nums : List ℕ) (xs : List Item) → Level l xs → length xs ≤ room f → length xs ≤ 2 * length nums + 1
    → Swept l nums xs (climb f l nums xs) (climb_pages f l nums xs)
climb-swept = climb-rec Swept one-swept step-swept

-- the whole
pub record Ordered (nums : List ℕ) (t : List Row) : Type 0 where
  pub in_order : page_numbers (order_pages nums t) ≡ take (length (order_pages nums t)) nums
  pub all_full : All (λ p. length p.bytes ≡ 1024) (order_pages nums t)
  pub counted : (j : ℕ) → times j (numbers (packed nums t).root) ≡ times j (page_numbers (order_pages nums t))
  pub makes : (image : List ℕ) → All (In image) (order_pages nums t) → Written (packed nums t).root (packed nums t).levels image

leaves-written : (image : List ℕ) (xs : List Item) → All (Trim 1) xs → All (In image) (own_pages 1 xs) → All (λ x. Written x.node 1 image) xs
unfolding own_pages
leaves-written image [] h a = tt
leaves-written image (x ∷ xs) h a = (single x.node h.0.0 a.0, leaves-written image xs h.1 a.1)
  where
    single : (t : Tree) → Neat t 1 → node_bytes image (number_of t) ≡ own_page 1 t → Written t 1 image
    single (unread i) n e = unfold Neat in absurd n
    single (leaf i rs) n e = unfold Written number_of own_page in e
    single (interior i f ms) n e = unfold Neat in absurd (let q = n.0 in omega arith)

pub ordered : (nums : List ℕ) (t : List Row) (n : ℕ) → 32 ≤ n → n ≤ 1024 → length t ≤ n → n / 4 ≤ length nums + 1 → Tabled t → Ordered nums t
unfolding packed order_pages
ordered nums t n a b k e h =
    let ls : List Item = leaves nums t in
    let l : ℕ = length ls in
    let p = few-leaves nums t h in
    let r = room-7 in
    let d = length-drop l nums in
    let v : Level 1 ls = leaf-level nums t h in
    let s : Swept 1 (drop l nums) ls (climb 7 1 (drop l nums) ls) (climb_pages 7 1 (drop l nums) ls) =
    climb-swept 7 1 (drop l nums) ls v (omega arith) (omega arith) in
    let ps : List Page = climb_pages 7 1 (drop l nums) ls in
    let own : page_numbers (own_pages 1 ls) ≡ take l nums = leaf-own 1 ls v.trim ∙ leaves-numbers nums t (omega arith) in
    record {
      in_order =
          page-numbers-append (own_pages 1 ls) ps ∙ ap₂ (λ x y. x ++ y) own s.in_order ∙ sym (take-add l (length ps) nums)
          ∙ ap (λ z. take z nums) (sym (length-append (own_pages 1 ls) ps ∙ ap (λ z. z + length ps) (own-length 1 ls)));
      all_full = all_append (λ q. length q.bytes ≡ 1024) (own_pages 1 ls) ps (own-full 1 ls v.trim) s.all_full;
      counted = λ j.
          s.counted j
          ∙ ap (λ z. times j z + times j (page_numbers ps)) (sym (leaf-own 1 ls v.trim))
          ∙ sym (ap (times j) (page-numbers-append (own_pages 1 ls) ps) ∙ times-append j (page_numbers (own_pages 1 ls)) (page_numbers ps));
      makes = λ image q.
          s.makes image (leaves-written image ls v.trim (all_left (In image) (own_pages 1 ls) ps q)) (all_right (In image) (own_pages 1 ls) ps q);
    }
