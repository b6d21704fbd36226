-- Step lemmas of the flush of a node: the copy of its page lists its entries, and each exit keeps the promise.
-- Relies on Laws/PushedDown.
use Rattle.std.specs.Prelude.{ℕ, suc, ◌+◌, ◌*◌, ◌-◌, ◌≤◌, ◌≡◌, refl, List, [], ◌∷◌, true, false, length, take, drop}
use Rattle.image.specs.Prelude.{sym, ap, ap₂, subst, ◌∙◌, true≢false, some, arith}
use Rattle.image.specs.Bytes.{u16}
use Rattle.image.specs.Entry as defined
use Rattle.image.specs.Image.{Branch}
use Rattle.image.specs.Sound.{once}
use Rattle.image.specs.Upkeep.{Reachable, reachable_at, reachable_nodes}
use Rattle.image.specs.Contract.{has_children}
use Rattle.laws.specs.Encode.{bytes_of_all}
use Rattle.laws.specs.WriteNode.{write_node}
use Rattle.laws.specs.Upkeep.Size.{size_of}
use Rattle.laws.specs.Page.{page}
use Rattle.node.specs.Cut.{cut, cut-drop, cut-take, cut-length, cut-u16}
use Rattle.node.specs.Entries.{listed, list_of}
use Rattle.node.specs.Search.Own.{branches_among}
use Rattle.lookup.specs.Look.{listing}
use Rattle.node.specs.Search.Messages.{is_message, has_message}
use Rattle.push.specs.Laws.Arriving.{waiting}
use Rattle.push.specs.Laws.LeafRoom.{listing-size}
use Rattle.push.specs.Laws.Written.{child_takes, each_takes, all_have_room, branch_numbers, small_numbers, child_bytes, emptied}
use Rattle.push.specs.Laws.TakesLaws.{each-size}
use Rattle.push.specs.Laws.PushedDown.{PushedDown, interior-place, two_levels, inside, short, stored-level, branches_once, children-fit, small-branches, few-nodes, nothing-waits, pushed-down}
use Rattle.push.specs.Outcome.{Outcome, Pushable}

-- THE NODE WITH ITS CHILDREN ALONE
pub node-emptied : (s s' p : List ℕ) (n level : ℕ) (ks : List Branch) → p ≡ child_bytes ks → s' ≡ write_node s n (page 2 level p) → s' ≡ emptied s n level ks
unfolding emptied
node-emptied s s' p n level ks a d = d ∙ ap (λ l. write_node s n (page 2 level l)) a

-- ANSWERS
pub no_room : (s : List ℕ) (n : ℕ) → Outcome s n false s
unfolding Outcome
no_room s n = refl

is-done : (s : List ℕ) (n : ℕ) (s' : List ℕ) → PushedDown s n s' → Outcome s n true s'
unfolding Outcome
is-done s n s' h = h

none-waits : (es : List defined.Entry) → has_message es ≡ false → waiting es ≡ []
unfolding has_message waiting is_message
none-waits [] e = refl
none-waits (defined.pair k v ∷ es) e = none-waits es e
none-waits (defined.child i k ∷ es) e = none-waits es e
none-waits (defined.message m ∷ es) e = absurd (true≢false e)

-- THE COPY OF THE NODE
module _ (s : List ℕ) (n : ℕ) (inside : n * 1024 + 1024 ≤ length s) (node : List ℕ) (en : node ≡ cut s (n * 1024) (n * 1024 + 1024)) where
  pub copy-size : length node ≡ 1024
  copy-size = ap length en ∙ cut-length s (n * 1024) (n * 1024 + 1024) (omega arith) inside ∙ omega arith

  pub copy-count : u16 node (0 * 1024) ≡ u16 s (n * 1024)
  copy-count =
      let z : u16 s (n * 1024 + 0 * 1024) ≡ u16 s (n * 1024) = ap (λ k. u16 s k) (omega arith) in
      ap (λ l. u16 l (0 * 1024)) en ∙ cut-u16 s (n * 1024) (n * 1024 + 1024) (0 * 1024) (omega arith) ∙ z

  pub copy_lists : u16 s (n * 1024) ≤ 1016 → listing node 0 ≡ listing s n
  unfolding listed
  copy_lists h =
      let z : 0 * 1024 + 8 + u16 node (0 * 1024) - (0 * 1024 + 8) ≡ u16 s (n * 1024) = let c = copy-count in omega arith in
      ap list_of
      (ap₂ (λ k l. take k (drop 8 l)) z en
      ∙ ap (take (u16 s (n * 1024))) (cut-drop s (n * 1024) (n * 1024 + 1024) 8 (omega arith))
      ∙ cut-take s (n * 1024 + 8) (n * 1024 + 1024) (u16 s (n * 1024)) (omega arith))

module _ (s : List ℕ) (n : ℕ) (hi : List ℕ) (pre : Pushable s n hi) where
  abbrev found : (x : Reachable) × ((reachable_at n (reachable_nodes s) ≡ some x) × (has_children x.children ≡ true))
  found = interior-place (reachable_at n (reachable_nodes s)) pre.reached

  abbrev x : Reachable
  x = found.0

  pub node_in : n * 1024 + 1024 ≤ length s
  node_in = inside s n x pre.is_sound found.1.0 found.1.1

  pub node-short : u16 s (n * 1024) ≤ 1016
  node-short = short s n x pre.is_sound found.1.0 found.1.1

  -- the entries of its copy
  pub copied-lists : (node : List ℕ) → node ≡ cut s (n * 1024) (n * 1024 + 1024) → (es : List defined.Entry) → es ≡ listing node 0 → es ≡ listing s n
  copied-lists node en es q = q ∙ copy_lists s n node_in node en node-short

  -- its entries and its children
  module _ (es : List defined.Entry) (lists : es ≡ listing s n) (ks : List Branch) (among : ks ≡ branches_among es) where
    children-are : ks ≡ branches_among (listing s n)
    children-are = among ∙ ap branches_among lists

    pub entries-short : length (bytes_of_all es) ≤ 1024
    unfolding size_of
    entries-short = let a = ap (λ l. length (bytes_of_all l)) lists in let b : length (bytes_of_all (listing s n)) ≤ u16 s (n * 1024) = listing-size s n in let c = node-short in omega arith

    pub apart : once (branch_numbers ks) ≡ true
    apart = ap (λ l. once (branch_numbers l)) children-are ∙ branches_once s n x pre.is_sound found.1.0 found.1.1

    pub children-short : length (child_bytes ks) ≤ 1016
    children-short = let a = children-fit s n x pre.is_sound found.1.0 found.1.1 in let b = ap (λ l. length (child_bytes l)) children-are in omega arith

    pub uncovered : false ≡ has_message es → Outcome s n true s
    uncovered e = is-done s n s (nothing-waits s n x pre.is_sound found.1.0 found.1.1 (none-waits (listing s n) (ap has_message (sym lists) ∙ sym e)))

    module _ (h : List ℕ) (eh : h ≡ hi) (rooms : all_have_room es ks h s ≡ true) where
      pub small : small_numbers ks ≡ true
      small = small-branches es ks h s (few-nodes (length s) pre.whole) rooms

      pub stays-long : (s₁ : List ℕ) → s₁ ≡ each_takes (child_takes es) ks h s → length s₁ ≡ length s
      stays-long s₁ e = ap length e ∙ each-size es ks h s apart rooms

      pub all_done : (level : ℕ) → level ≡ u16 s (n * 1024 + 4) → (s₁ s₂ : List ℕ) → s₁ ≡ each_takes (child_takes es) ks h s → s₂ ≡ emptied s₁ n level ks → Outcome s n true s₂
      all_done level ev s₁ s₂ a d =
          let two = two_levels s n x pre.is_sound found.1.0 found.1.1 in
          let v : level ≡ x.level = ev ∙ stored-level s n x pre.is_sound found.1.0 found.1.1 in
          let w : level ≡ suc (suc (x.level - 2)) = omega arith in
          let r : all_have_room (listing s n) (branches_among (listing s n)) hi s ≡ true =
          ap₂ (λ l m. all_have_room l m hi s) (sym lists) (sym children-are) ∙ ap (λ y. all_have_room es ks y s) (sym eh) ∙ rooms in
          let a' : s₁ ≡ each_takes (child_takes (listing s n)) (branches_among (listing s n)) hi s =
          a ∙ ap (λ y. each_takes (child_takes es) ks y s) eh ∙ ap₂ (λ l m. each_takes (child_takes l) m hi s) lists children-are in
          let d' : s₂ ≡ emptied (each_takes (child_takes (listing s n)) (branches_among (listing s n)) hi s) n (suc (suc (x.level - 2))) (branches_among (listing s n)) =
          d ∙ ap₂ (λ m l. emptied s₁ n m l) w children-are ∙ ap (λ q. emptied q n (suc (suc (x.level - 2))) (branches_among (listing s n))) a' in
          subst (Outcome s n true) (sym d')
          (is-done s n (emptied (each_takes (child_takes (listing s n)) (branches_among (listing s n)) hi s) n (suc (suc (x.level - 2))) (branches_among (listing s n)))
          (pushed-down s n x pre.is_sound found.1.0 found.1.1 hi pre.high r))
